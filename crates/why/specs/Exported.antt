-- What the entry for C returns: one number for each outcome.
use Rattle.std.specs.Prelude.{◌≡◌, refl, Result, Ok, Err, List, ℕ, ◌+◌, ◌≤◌, length}
use Rattle.std.proofs.Common.{sym, ap, ◌∙◌, subst}
use Rattle.rules.specs.Reasons.{Why, refusal, explained, records_written}
use Rattle.reasons.specs.declared.Reason.{Reason}
use Rattle.reasons.specs.Records.{made}
use Rattle.why.specs.declared.Refusal.{Refusal}
use Rattle.why.specs.Refusals.{by_number}
use Rattle.why.specs.Entry.{outcome_of, reasons_in, Answers}

-- Below 256 the refusal's number, else 256 more than the number of records.
unfoldable pub why_number : Why → ℕ
why_number (refusal number) = number
why_number (explained rs) = length rs + 256

-- The same of what `why` returns.
abbrev pub number_in : Result ℕ ℕ → ℕ
number_in (Err number) = number
number_in (Ok count) = count + 256

-- At most 255 records.
abbrev pub Few : Result ℕ ℕ → Type 0
Few (Err number) = Unit {0}
Few (Ok count) = count ≤ 255

-- What is returned, and what the lent records are afterwards.
pub record Exports (w : Why) (before after : List Reason) (returned : ℕ) : Type 0 where
  pub returns : returned ≡ why_number w
  pub records : after ≡ records_written made w before

few-told : (w : Why) → length (reasons_in w) ≤ 255 → Few (outcome_of w)
unfolding outcome_of reasons_in
few-told (refusal number) h = tt
few-told (explained rs) h = h

same-number : (w : Why) → number_in (outcome_of w) ≡ why_number w
unfolding outcome_of why_number
same-number (refusal number) = refl
same-number (explained rs) = refl

module _ {w : Why} {before after : List Reason} {outcome : Result ℕ Refusal} (answers : Answers w before after outcome) where
  pub few-outcome : Few (by_number outcome)
  few-outcome = subst (λ (o : Result ℕ ℕ). Few o) (sym answers.returns) (few-told w answers.few)

  pub exports : {returned : ℕ} → returned ≡ number_in (by_number outcome) → Exports w before after returned
  exports e = record { returns = e ∙ ap (λ (o : Result ℕ ℕ). number_in o) answers.returns ∙ same-number w; records = answers.records }
