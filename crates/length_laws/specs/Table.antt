-- 01, "A level", last paragraph: "The new block lists the used normal forms by first use in the tree." That table repeats nothing, holds only polynomials
-- of the tree's atoms, and holds each of them, so that each atom's number is one of the table.
use Rattle.std.specs.Prelude.{◌≡◌, refl, Bool, true, false, ◌||◌, List, [], ◌∷◌, ℕ, suc, ◌<◌, length}
use Rattle.std.proofs.Common.{sym, ap, ◌∙◌, arith}
use Rattle.std.proofs.lemmas.Bool.{false≢true}
use mathlib.Core.List.Memᴰ.{head as here}
use mathlib.Core.List.Memᴰ.{tail as later}
use mathlib.Core.List.{Memᴰ as Member}
use Rattle.rules.specs.Polynomial.{Polynomial, Atom, same}
use Rattle.rules.specs.Formula.{Parts, end, atom, and, or}
use Rattle.rules.specs.Answer.{knows, added_unless, used, here_or, number_in}
use Rattle.sign_laws.specs.Booleans.{or-first, or-second, never_both}
use Rattle.sign_laws.specs.Lists.{Every, every_none, every, every_append}
use Rattle.level_laws.specs.Same.{same-itself}
use Rattle.level_laws.specs.Written.{added-knows, used-keeps}
use Rattle.length_laws.specs.Alternation.{Join, Alternates, no_parts, an_atom, an_and, an_or, alternates-wider}
use Rattle.length_laws.specs.Pigeonhole.{Distinct, distinct-added}

-- ---- The table that is added to.

member-knows : {p : Polynomial} {table : List Polynomial} → Member p table → knows table p ≡ true
unfolding knows
member-knows {p = p} (here {x} {xs} e) = or-first (knows xs p) (ap (same p) (sym e) ∙ same-itself p)
member-knows {p = p} (later {x} m) = or-second (same p x) (member-knows m)

added_unless-distinct : (b : Bool) (p : Polynomial) {table : List Polynomial} → knows table p ≡ b → Distinct table → Distinct (added_unless b p table)
unfolding added_unless
added_unless-distinct true p e d = d
added_unless-distinct false p e d = distinct-added d (λ m. never_both (member-knows m) e)

-- The used polynomials repeat nothing.
pub used-distinct : (f : Parts Atom) {table : List Polynomial} → Distinct table → Distinct (used table f)
unfolding used
used-distinct end d = d
used-distinct (atom a rest) {table} d = used-distinct rest (added_unless-distinct (knows table a.polynomial) a.polynomial refl d)
used-distinct (and kids rest) d = used-distinct rest (used-distinct kids d)
used-distinct (or kids rest) d = used-distinct rest (used-distinct kids d)

added_unless-every : {Q : Polynomial → Type 0} (b : Bool) (p : Polynomial) {table : List Polynomial} → Q p → Every Q table → Every Q (added_unless b p table)
unfolding added_unless
added_unless-every true p h hs = hs
added_unless-every false p h hs = every_append hs (every h every_none)

-- The used polynomials are those of atoms.
pub used-every : {P : Atom → Type 0} {Q : Polynomial → Type 0} → ((a : Atom) → P a → Q a.polynomial)
    → {join : Join} {d : ℕ} {f : Parts Atom} {table : List Polynomial} → Alternates P join d f → Every Q table → Every Q (used table f)
unfolding used
used-every g no_parts hs = hs
used-every g {table = table} (an_atom {a = a} h rest) hs = used-every g rest (added_unless-every (knows table a.polynomial) a.polynomial (g a h) hs)
used-every g (an_and kids rest) hs = used-every g rest (used-every g kids hs)
used-every g (an_or kids rest) hs = used-every g rest (used-every g kids hs)

-- An atom whose polynomial the table knows.
pub record Listed (P : Atom → Type 0) (table : List Polynomial) (a : Atom) : Type 0 where
  pub own : P a
  pub known : knows table a.polynomial ≡ true

listed-later : {P : Atom → Type 0} {table : List Polynomial} (f : Parts Atom) (a : Atom) → Listed P table a → Listed P (used table f) a
listed-later {table = table} f a h = record { own = h.own; known = used-keeps table f a.polynomial h.known }

-- Each atom's polynomial is used.
pub used_all : {P : Atom → Type 0} {join : Join} {d : ℕ} {f : Parts Atom} (table : List Polynomial) → Alternates P join d f → Alternates (Listed P (used table f)) join d f
unfolding used
used_all table no_parts = no_parts
used_all table (an_atom {a = a} {rest = rest} h hs) =
    let p = a.polynomial in
    let added = added_unless (knows table p) p table in
    an_atom (record { own = h; known = used-keeps added rest p (added-knows (knows table p) table p refl) }) (used_all added hs)
used_all table (an_and {kids = kids} {rest = rest} h hs) = an_and (alternates-wider (listed-later rest) (used_all table h)) (used_all (used table kids) hs)
used_all table (an_or {kids = kids} {rest = rest} h hs) = an_or (alternates-wider (listed-later rest) (used_all table h)) (used_all (used table kids) hs)

-- ---- Numbers.

here_or-within : (b c : Bool) (number size : ℕ) → b || c ≡ true → (c ≡ true → number < size) → here_or b (suc number) < suc size
unfolding here_or
here_or-within true c number size e h = omega arith
here_or-within false c number size e h = omega (arith, h e)

-- The number of a polynomial that the table knows is below the table's size.
pub number-within : (table : List Polynomial) (p : Polynomial) → knows table p ≡ true → number_in table p < length table
unfolding knows number_in
number-within [] p e = absurd (false≢true e)
number-within (q ∷ qs) p e = here_or-within (same p q) (knows qs p) (number_in qs p) (length qs) e (λ h. number-within qs p h)
