-- What is printed of the bytes that were given, of all that there were: those given are the first of them.
use Rattle.std.proofs.Common.{◌≡◌, ℕ, List, None, Some, IfSome, OnOk, Result, Ok, Err, take, ap, ◌∙◌, subst}
use Rattle.std.specs.declared.option.Option.{Option}
use Rattle.std.specs.Io.KnownBytes.{Appends}

pub printed : {T E : Type 0} (r : Result T E) (known old new : Option (List ℕ)) (text : ℕ → List ℕ → List ℕ) (n room : ℕ) (given : List ℕ)
    → OnOk r (Appends old new (text n given)) → IfSome known (λ bytes. given ≡ take room bytes) → n ≡ 32768 → room ≡ 32768
    → OnOk r (IfSome known (λ bytes. Appends old new (text 32768 (take 32768 bytes))))
printed (Ok x) None old new text n room given h first e f = tt
printed (Ok x) (Some bytes) old new text n room given h first e f =
    subst (Appends old new) (ap (λ k. text k given) e ∙ ap (text 32768) (first ∙ ap (λ k. take k bytes) f)) h
printed (Err x) known old new text n room given h first e f = tt
