-- `said` asks what a state says of one slot after the other, with the signs of all slots worked out for its board, and the words of its atoms by these.
use Rattle.std.specs.Prelude.{◌≡◌, ◌<◌, length}
use Rattle.std.proofs.Common.{rules, arith}
use Rattle.forms.specs.Working.{table_of}
use Rattle.round.specs.SignedSlots.{form-slots, table-signed}
use Rattle.rounds_vectors.proofs.said.Goals as goal

pub sign_table-requires : goal.sign_table-requires
sign_table-requires c = form-slots {t = table_of c.args.variables c.args.table} c.requires.0 (search rules)

pub words_of-falls-requires : goal.words_of-falls-requires
words_of-falls-requires c =
    let places : length c.sign_table.new.sign ≡ 1280 = search rules in
    (form-slots {t = table_of c.args.variables c.args.table} c.requires.0 places, (c.requires.0.coefficients, (search rules, search rules)))

pub says-set-requires-clause-forms : goal.says-set-requires-clause-forms
says-set-requires-clause-forms c = (c.requires.0, (c.requires.1.0, search rules))

pub says-set-requires-clause-fact : goal.says-set-requires-clause-fact
says-set-requires-clause-fact c =
    let places : length c.sign_table.new.sign ≡ 1280 = search rules in
    (places, (rw c.sign_table.ensures (table-signed _ _ c.requires.0 (search rules)), c.requires.1.1))

pub says-set-requires-clause-words : goal.says-set-requires-clause-words
says-set-requires-clause-words c = c.words_of-falls.ensures
