use Rattle.script_polynomial.proofs.sums.+read_next_terms.Given as goal

-- proposed from what the function passes where it calls itself
abbrev pub decreases-read_next_terms : goal.decreases-read_next_terms
decreases-read_next_terms l = l.most
