-- Forms that are known: they are members, and what is added unless it is known repeats nothing.
use Rattle.std.specs.Prelude.{◌≡◌, refl, Bool, true, false, ◌||◌, List, [], ◌∷◌, ℤ}
use Rattle.std.proofs.Common.{sym, ap, ◌∙◌}
use Rattle.std.proofs.lemmas.Bool.{false≢true}
use mathlib.Core.List.Memᴰ.{head as here}
use mathlib.Core.List.Memᴰ.{tail as later}
use mathlib.Core.List.{Memᴰ as Member}
use Rattle.std.proofs.Math.Option.{Option, none, some}
use Rattle.rules.specs.Polynomial.{Polynomial, same, constant}
use Rattle.rules.specs.Answer.{knows, added_unless, unless_constant, without_constants}
use Rattle.sign_laws.specs.Booleans.{or-first, or-second, never_both}
use Rattle.level_laws.specs.Same.{same-equal, same-itself}
use Rattle.length_laws.specs.Pigeonhole.{Distinct, distinct-added}

-- What is a member is known.
pub member-knows : {p : Polynomial} {table : List Polynomial} → Member p table → knows table p ≡ true
unfolding knows
member-knows {p = p} (here {x} {xs} e) = or-first (knows xs p) (ap (same p) (sym e) ∙ same-itself p)
member-knows {p = p} (later {x} m) = or-second (same p x) (member-knows m)

-- What is known is a member.
pub knows-member : (table : List Polynomial) (p : Polynomial) → knows table p ≡ true → Member p table
unfolding knows
knows-member [] p e = absurd (false≢true e)
knows-member (q ∷ qs) p e = by-test (same p q) refl e (knows-member qs p)
  where
    by-test : (b : Bool) → same p q ≡ b → b || knows qs p ≡ true → (knows qs p ≡ true → Member p qs) → Member p (q ∷ qs)
    by-test true w e found = here (same-equal p q w)
    by-test false w e found = later (found e)

-- What is added unless it is known repeats nothing.
pub added_unless-distinct : (b : Bool) (p : Polynomial) {table : List Polynomial} → knows table p ≡ b → Distinct table → Distinct (added_unless b p table)
unfolding added_unless
added_unless-distinct true p e d = d
added_unless-distinct false p e d = distinct-added d (λ m. never_both (member-knows m) e)

unless-member : (o : Option ℤ) {p q : Polynomial} {l m : List Polynomial} → (Member q l → Member q m) → Member q (unless_constant o p l) → Member q (p ∷ m)
unfolding unless_constant
unless-member none k (here e) = here e
unless-member none k (later m) = later (k m)
unless-member (some c) k m = later (k m)

-- What is left without the constants was there.
pub without-member : (l : List Polynomial) {p : Polynomial} → Member p (without_constants l) → Member p l
unfolding without_constants
without-member [] m = m
without-member (q ∷ l) m = unless-member (constant q) (without-member l) m
