-- What this crate's functions say: bytes are stored from a place on, every other byte is kept, and the next place is the one behind them.
-- Laws of it: one run after another, and what is found at the front.
use Rattle.std.specs.Prelude.{◌≡◌, refl, List, [], ◌++◌, ℕ, ◌+◌, ◌≤◌, length, take, drop}
use Rattle.std.proofs.Common.{sym, ◌∙◌, subst, add-zero, zero-add, arith, length-append}
use Rattle.std.proofs.lemmas.List.Edits.{sets, sets-eq}
use Rattle.std.proofs.Math.Seq.{length-sets, take-append_seam}
use Rattle.bits.proofs.Stores.{sets-append}

pub record Wrote (before after : List ℕ) (at : ℕ) (bytes : List ℕ) (next : ℕ) : Type 0 where
  pub stored : after ≡ sets before at bytes
  pub behind : next ≡ at + length bytes

-- Nothing is stored.
pub wrote_nothing : {text : List ℕ} {at : ℕ} → Wrote text text at [] at
wrote_nothing {text} {at} = record { stored = refl; behind = sym (add-zero at) }

-- A run and the run behind it are one run.
pub wrote-both : {before between after xs ys : List ℕ} {at middle next : ℕ} → Wrote before between at xs middle → Wrote between after middle ys next
    → Wrote before after at (xs ++ ys) next
wrote-both {before} {between} {after} {xs} {ys} {at} {middle} {next} a b = record {
  stored = rw (sets-append before at xs ys, ← a.behind, ← a.stored) b.stored;
  behind = rw (length-append xs ys) (omega (arith, a.behind, b.behind));
}

-- A run that is known by another name.
pub wrote_as : {before after xs ys : List ℕ} {at next : ℕ} → Wrote before after at xs next → xs ≡ ys → Wrote before after at ys next
wrote_as {before} {after} {xs} {ys} {at} {next} w e = subst (λ (bytes : List ℕ). Wrote before after at bytes next) e w

module _ {before after bytes : List ℕ} {at next : ℕ} (w : Wrote before after at bytes next) where
  -- The text stays as long as it was.
  pub wrote-long : length after ≡ length before
  wrote-long = rw w.stored (length-sets before at bytes)

module _ {before after bytes : List ℕ} {next : ℕ} (room : length bytes ≤ length before) (w : Wrote before after 0 bytes next) where
  -- A run stored at the front: its end,
  pub front-end : next ≡ length bytes
  front-end = w.behind ∙ zero-add (length bytes)

  -- the whole text,
  pub front-whole : after ≡ bytes ++ drop (length bytes) before
  front-whole = w.stored ∙ (rw (zero-add (length bytes)) at (sets-eq bytes before 0 (omega arith)))

  -- and the run found again.
  pub front-again : take next after ≡ bytes
  front-again = rw (front-end, front-whole) (take-append_seam bytes (drop (length bytes) before))
