-- The space has as many places as zeros were made.
use Rattle.std.specs.Prelude.{ℕ}
use Rattle.std.proofs.Common.{sym}
use Rattle.std.proofs.lemmas.List.{length-replicate}
use Rattle.script_vectors.proofs.blank.Goals as goal

pub returns : goal.returns
returns c = sym (length-replicate {A = ℕ} 2024783 0)
