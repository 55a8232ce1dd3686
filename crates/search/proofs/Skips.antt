-- Pairs that are left out: if the tries of each of them leave the set, those after them leave of it what all of them do.
-- A pair of three slots whose words tell that it leaves the set is one of these.
use mathlib.Core.Path.{◌≡◌, refl, sym, ap, ◌∙◌, subst}
use mathlib.Core.Bool.{Bool, false}
use mathlib.Core.List.{List}
use Prim.Native.Nat.{ℕ, zero, suc, ◌+◌, ◌-◌, ◌<◌, ◌≤◌}
use native.Mathlib.Decide.{dec_lt}
use native.Mathlib.Omega.{arith}
use lib.ListN.{get_or}
use Rattle.rules.specs.Signs.{SignSet}
use Rattle.rules.specs.Polynomial.{Polynomial, Atom, Board}
use Rattle.rules.specs.TwoAtoms.{tries_with}
use Rattle.table.specs.declared.Atoms.{Atoms}
use Rattle.table.specs.Table.{Table, form_at, atom_at, many}
use Rattle.two_atoms.specs.declared.pair.Pair.{Pair}
use Rattle.two_atoms.specs.Cuts.{cut_in}
use Rattle.two_atoms.proofs.Factors.{never-stops}
use Rattle.masks.specs.declared.Mask.{Mask}
use Rattle.masks.specs.Masks.{MayCut}
use Rattle.round.specs.Views.{rest}
use Rattle.round.specs.Signing.{atom_slot}
use Rattle.round.specs.SignedSlots.{run-held}
use Rattle.columns.specs.Columns.{Candidates, Next}
use Rattle.search.specs.Masked.{slot_run, SlotMask, mask_at, MaskedAtoms}
use Rattle.search.specs.Noted.{NotedAtoms}
use Rattle.search.proofs.Walks.{Stands, walk-on, pair_tries, pair-at, with-step, with-end}

module _ (t : Table) (a : Atoms) (board : Board) (p : Polynomial) (q1 : Atom) (all : Bool) (s : SignSet) where
  -- the pair with the atom at k leaves the set
  abbrev Leaves : ℕ → Type 0
  Leaves k = s ≡ cut_in all s (pair_tries board p q1 (atom_at t a.number a.set k))

  abbrev left_from : ℕ → SignSet
  left_from k = cut_in all s (tries_with board p q1 (rest t a k))

  one-skipped : (k : ℕ) → (k < many a.count → Leaves k) → left_from (k + 1) ≡ left_from k
  one-skipped k leaves = by (dec_lt k (many a.count))
    where
      by : Dec (k < many a.count) → left_from (k + 1) ≡ left_from k
      by (yes h) = walk-on all s (pair_tries board p q1 (atom_at t a.number a.set k)) _ refl (with-step t a board p k q1 h) (leaves h)
          (never-stops all s)
      by (no h) = ap (cut_in all s) (with-end t a board p (k + 1) q1 (omega arith) ∙ sym (with-end t a board p k q1 (omega arith)))

  skipped : (d k : ℕ) → ((i : ℕ) → k ≤ i → i < k + d → i < many a.count → Leaves i) → left_from (k + d) ≡ left_from k
  skipped zero k leaves = ap left_from (omega arith)
  skipped (suc d) k leaves =
      ap left_from (omega arith) ∙ skipped d (k + 1) (λ i h l m. leaves i (omega arith) (omega arith) m)
      ∙ one-skipped k (λ h. leaves k (omega arith) (omega arith) h)

  pub all-skipped : {k r : ℕ} → k ≤ r → ((i : ℕ) → k ≤ i → i < r → i < many a.count → Leaves i) → left_from r ≡ left_from k
  all-skipped {k} {r} h leaves = ap left_from (omega arith) ∙ skipped (r - k) k (λ i l m n. leaves i l (omega arith) n)

-- ---- the pairs of p, the atom at i and those whose bit is 0

module _ {t : Table} {board : Board} {a : Atoms} {ss : List SignSet} {p : ℕ} (stands : Stands t board a ss p) (low : p < 80) (i : ℕ)
    (at : i < many a.count) {mask : Mask} {ws columns : List ℕ} (own : SlotMask t.coefficient t.monomial t.terms ss p mask)
    (masked : MaskedAtoms t.coefficient t.monomial t.terms ss a ws) (noted : NotedAtoms a ws columns) (all : Bool) (s : SignSet) where
  leaves-it : (k : ℕ) → k < many a.count → MayCut mask (mask_at ws i) (mask_at ws k) (get_or a.set i 0) (get_or a.set k 0) s false
      → Leaves t a board (form_at t p) (atom_at t a.number a.set i) all s k
  leaves-it k h cut =
      let slot = atom_slot a.number in
      let ready = stands.ready in
      let q = run-held p ready.forms ready.places low refl refl stands.own in
      let first = run-held (slot i) ready.forms ready.places (omega arith) refl refl (ready.atoms i at) in
      let second = run-held (slot k) ready.forms ready.places (omega arith) refl refl (ready.atoms k h) in
      let x : Pair = record {
        p = slot_run t.terms p;
        q1 = slot_run t.terms (slot i);
        q2 = slot_run t.terms (slot k);
        set1 = get_or a.set i 0;
        set2 = get_or a.set k 0;
      } in
      (cut.leaves refl {x = x} (record { p = own; q1 = masked.atoms i at; q2 = masked.atoms k h }) refl refl all
      ).on (record { p = q.signed; q1 = first.signed; q2 = second.signed; filled = stands.filled })
      ∙ ap (cut_in all s) (pair-at t board p (slot i) (slot k) (get_or a.set i 0) (get_or a.set k 0) refl refl refl refl refl refl)

  pub skips : {mask1 : Mask} {word j n r : ℕ} → mask1 ≡ mask_at ws i → Candidates columns mask mask1 (get_or a.set i 0) s word
      → Next word j n r → n ≡ many a.count
      → cut_in all s (tries_with board (form_at t p) (atom_at t a.number a.set i) (rest t a r))
      ≡ cut_in all s (tries_with board (form_at t p) (atom_at t a.number a.set i) (rest t a j))
  skips {mask1} f c next e = all-skipped t a board (form_at t p) (atom_at t a.number a.set i) all s next.on
      (λ k h l m. leaves-it k m (subst (λ (q : Mask). MayCut mask q (mask_at ws k) (get_or a.set i 0) (get_or a.set k 0) s false) f
      (c.leaves (omega arith) (noted.atoms k m) (next.skips k h l (omega arith)))))
