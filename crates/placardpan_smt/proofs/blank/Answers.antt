-- So many zeros are so many, by the lemma: to count them one by one would take too long.
use Rattle.std.proofs.Common.{ℕ, sym}
use Rattle.std.proofs.lemmas.List.{length-replicate}
use Rattle.placardpan_smt.proofs.blank.Goals as goal

pub returns : goal.returns
returns c = sym (length-replicate {A = ℕ} 2024783 0)
