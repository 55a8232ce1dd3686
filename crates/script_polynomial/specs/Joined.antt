-- Readers that are the same reader: one part and then another, however they are put together.
use Rattle.std.specs.Prelude.{Bool, ◌≡◌, ℕ, eqb, drop}
use Rattle.std.proofs.Math.Bool.{true, false}
use mathlib.Core.List.{List, [], ◌∷◌}
use Rattle.std.proofs.Math.Path.{refl, ap, fun_ext}
use Rattle.std.proofs.Common.{◌∙◌}
use Rattle.rules.specs.Reader.{Reader, give, stuck, ask}
use Rattle.rules.specs.Combine.{given, say, ◌then◌}
use Rattle.script_laws.specs.Steps.{part_then}
use Rattle.script_polynomial.specs.At.{read_at}

module _ {A B : Type 0} where
  pub given-then : (x : Bool) (r : Reader A) (more : A → Reader B) → given x r then more ≡ given x (r then more)
  unfolding given ◌then◌
  given-then true r more = refl
  given-then false r more = refl

  -- Bytes before both parts.
  pub say-then : (s : List ℕ) (r : Reader A) (more : A → Reader B) → say s r then more ≡ say s (r then more)
  unfolding say ◌then◌
  say-then [] r more = refl
  say-then (c ∷ s) r more =
      ap ask (fun_ext (λ b. given-then (eqb b c) (say s r) more ∙ ap (given (eqb b c)) (say-then s r more)))

  -- What follows decides alone where two first parts read the same.
  pub then-as : (text : List ℕ) (at at' : ℕ) (r r' : Reader A) (more : A → Reader B) → read_at text at r ≡ read_at text at' r'
      → read_at text at (r then more) ≡ read_at text at' (r' then more)
  then-as text at at' r r' more e = rw (part_then at r more (drop at text), part_then at' r' more (drop at' text), e)

module _ {A B C : Type 0} where
  pub then-then : (r : Reader A) (f : A → Reader B) (g : B → Reader C) → (r then f) then g ≡ r then (λ a. f a then g)
  unfolding ◌then◌
  then-then (give a) f g = refl
  then-then stuck f g = refl
  then-then (ask h) f g = ap ask (fun_ext (λ b. then-then (h b) f g))
