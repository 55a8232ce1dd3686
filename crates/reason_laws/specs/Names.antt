-- Which atoms are named: of the clauses with the sets that they carry, those that stay, and later ones. So following names ends at atoms that stay.
use Rattle.std.specs.Prelude.{refl, Bool, ℕ, suc, ◌≤◌}
use Rattle.std.proofs.Common.{subst, arith}
use Rattle.std.proofs.Math.Bool.{true, false}
use mathlib.Core.List.{List, [], ◌∷◌, ◌++◌}
use mathlib.Core.List.Memᴰ.{head as first_of}
use mathlib.Core.List.Memᴰ.{tail as Later-of}
use mathlib.Core.List.{Memᴰ as Member}
use Rattle.rules.specs.Polynomial.{Atom}
use Rattle.rules.specs.Level.{Placed, plain, plains, normal_placed, kept_unless, implied}
use Rattle.sign_laws.specs.Lists.{Every, every_none, every, every_append, every-wider}
use Rattle.rules.specs.Reasons.{clauses_from, leave_out_from, leave_out, implying, Fate, stays, goes, Told, fate_if, told_from}
use Rattle.reason_laws.specs.Named.{unless_gone, staying}
use Rattle.reason_laws.specs.Places.{Among, none_among, not_among, is_among}
use Rattle.reason_laws.specs.Records.{From, given-from}

-- ---- What is left is of the list.

kept-every : {A : Type 0} {P : A → Type 0} (gone : Bool) (c : A) {kept : List A} → P c → Every P kept → Every P (kept_unless gone c kept)
unfolding kept_unless
kept-every true c h hs = hs
kept-every false c h hs = every_append hs (every h every_none)

leave_out-from : {A : Type 0} {P : A → Type 0} (enough : List A → Bool) {kept rest : List A} → Every P kept → Every P rest
    → Every P (leave_out_from enough kept rest)
unfolding leave_out_from
leave_out-from enough hs every_none = hs
leave_out-from {A = A} {P = P} enough {kept = kept} hs (every {a = c} {l = l} k ks) =
    leave_out-from enough {kept = kept_unless (enough (kept ++ l)) c kept} (kept-every (enough (kept ++ l)) c k hs) ks

pub leave_out-every : {A : Type 0} {P : A → Type 0} (enough : List A → Bool) {l : List A} → Every P l → Every P (leave_out enough l)
unfolding leave_out
leave_out-every enough hs = leave_out-from enough every_none hs

-- Each is a member.
pub every-member : {A : Type 0} (l : List A) → Every (λ (a : A). Member a l) l
every-member [] = every_none
every-member (a ∷ l) = every (first_of refl) (every-wider (λ b h. Later-of h) (every-member l))

-- ---- Places rise.

pub data Rising : List Placed → Type 0 where
  rising_none : Rising []
  rising : {c : Placed} {l : List Placed} → Every (From (suc c.place)) l → Rising l → Rising (c ∷ l)

among-from : {i : ℕ} {given l : List Placed} → Among given l → Every (From i) given → Every (From i) l
among-from none_among every_none = every_none
among-from (not_among f) (every h hs) = among-from f hs
among-from {i} (is_among p q f) (every h hs) = every (record { at_least = subst (λ k. i ≤ k) p h.at_least }) (among-from f hs)

pub among-rises : {given l : List Placed} → Among given l → Rising given → Rising l
among-rises none_among rising_none = rising_none
among-rises (not_among f) (rising h hs) = among-rises f hs
among-rises (is_among {l} p q f) (rising h hs) = rising (subst (λ k. Every (From (suc k)) l) p (among-from f h)) (among-rises f hs)

pub given-rises : (l : List Atom) (i : ℕ) → Rising (clauses_from i l)
unfolding clauses_from normal_placed
given-rises [] i = rising_none
given-rises (a ∷ l) i = rising (given-from l (suc i) (suc i) (omega arith)) (given-rises l (suc i))

-- ---- The names.

-- A named clause, where place i goes: it is one that stays, or one of all at a later place.
pub data Follows (all stay : List Placed) (i : ℕ) (d : Placed) : Type 0 where
  stays_itself : Member d stay → Follows all stay i d
  stands_later : Member d all → From (suc i) d → Follows all stay i d

abbrev pub NamesFollow : List Placed → List Placed → ℕ → Fate → Type 0
NamesFollow all stay i stays = Unit {0}
NamesFollow all stay i (goes named) = Every (Follows all stay i) named

pub record WellNamed (all stay : List Placed) (t : Told) : Type 0 where
  pub names : NamesFollow all stay t.clause.place t.fate

module _ (n : ℕ) (all stay : List Placed) where
  both-follow : (i : ℕ) {l : List Placed} → Every (λ (d : Placed). Member d all) l → Every (From (suc i)) l → Every (Follows all stay i) l
  both-follow i every_none every_none = every_none
  both-follow i (every h hs) (every k ks) = every (stands_later h k) (both-follow i hs ks)

  names-one : (i : ℕ) (a : Atom) {others : List Placed} (gone : Bool) → Every (Follows all stay i) others
      → NamesFollow all stay i (fate_if gone (implying n others a))
  unfolding fate_if implying
  names-one i a true hs = leave_out-every (λ (m : List Placed). implied n (plains m) a) hs
  names-one i a false hs = tt

  stay-next : (gone : Bool) (named : List Placed) (c : Placed) (kept : List Placed) (rest : List Placed) → Every (λ (d : Placed). Member d stay) kept
      → Every (λ (d : Placed). Member d stay) (unless_gone (fate_if gone named) c rest)
      → Every (λ (d : Placed). Member d stay) (kept_unless gone c kept) × Every (λ (d : Placed). Member d stay) rest
  unfolding fate_if unless_gone kept_unless
  stay-next true named c kept rest ks hs = (ks, hs)
  stay-next false named c kept rest ks (every h hs) = (every_append ks (every h every_none), hs)

  names-from : (kept rest : List Placed) → Every (λ (d : Placed). Member d stay) kept
      → Every (λ (d : Placed). Member d stay) (staying (told_from n kept rest))
      → Every (λ (d : Placed). Member d all) rest → Rising rest → Every (WellNamed all stay) (told_from n kept rest)
  unfolding told_from staying
  names-from kept [] ks ss ms r = every_none
  names-from kept (c ∷ later) ks ss (every m ms) (rising h hs) =
      let gone = implied n (plains (kept ++ later)) (plain c) in
      let next = stay-next gone (implying n (kept ++ later) (plain c)) c kept _ ks ss in
      every (record {
        names = names-one c.place (plain c) gone (every_append (every-wider (λ d k. stays_itself k) ks) (both-follow
            c.place ms h));
      })
      (names-from (kept_unless gone c kept) later next.0 next.1 ms hs)

-- Where places rise, an atom that goes names atoms that stay and later ones only.
pub well-named : (n : ℕ) (l : List Placed) → Rising l → Every (WellNamed l (staying (told_from n [] l))) (told_from n [] l)
well-named n l r = names-from n l (staying (told_from n [] l)) [] l every_none (every-member (staying (told_from n [] l))) (every-member l) r
