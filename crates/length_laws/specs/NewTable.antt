-- Law new-table-used, 02, #103: the new block's table is the forms that its tree uses. So polynomials out, the size of that table, are counted as
-- polynomials in are.
use Rattle.std.specs.Prelude.{◌≡◌, []}
use Rattle.std.proofs.Common.{sym, ap, ◌∙◌}
use Rattle.std.proofs.Math.Option.{none}
use Rattle.rules.specs.Polynomial.{Polynomial, Atom, normal, constant}
use Rattle.rules.specs.Formula.{Parts, alone, each_atom_of}
use Rattle.rules.specs.Level.{plain}
use Rattle.rules.specs.Block.{Block}
use Rattle.rules.specs.Limits.{BlockWithin}
use Rattle.rules.specs.Answer.{formula_of, used, block_of, without_constants, forms_used, simplified, new_block}
use Rattle.sign_laws.specs.Lists.{Every, every-wider}
use Rattle.ending_laws.specs.Nestings.{alone-each}
use Rattle.rules.specs.Polynomial.{normal_form}
use Rattle.level_laws.specs.Written.{new-formula}
use Rattle.length_laws.specs.Alternation.{tree-alone}
use Rattle.length_laws.specs.Pigeonhole.{every-member, Distinct}
use Rattle.length_laws.specs.FormsUsed.{without-none, forms-not-constant, used-same}
use Rattle.length_laws.specs.NeverLonger.{simplified-formed, used-own, new-distinct, new-forms}

-- All of a block's table is used, by its tree and in the order of first use; each polynomial stands there once, no constant, each in normal form.
pub record TableUsed (block : Block) : Type 0 where
  pub all : forms_used (formula_of block) ≡ block.table
  pub once : Distinct block.table
  pub not_constant : Every (λ (p : Polynomial). constant p ≡ none) block.table
  pub normal : Every (λ (p : Polynomial). normal_form p ≡ p) block.table

module _ (given : Block) (h : BlockWithin given) where
  new-not-constant : Every (λ (p : Polynomial). constant p ≡ none) (new_block given).table
  new-not-constant = every-wider (λ p m. every-member (forms-not-constant (formula_of given)) m) (new-forms given h)

  -- The simplified formula's atoms are in normal form.
  normal-used : let short = each_atom_of plain (simplified given) in used [] (alone (each_atom_of normal short)) ≡ used [] (alone short)
  normal-used =
      ap (λ (f : Parts Atom). used [] f) (sym (alone-each normal (each_atom_of plain (simplified given))))
      ∙ tree-alone (simplified-formed given h) (λ join k. used-same (λ a formed. used-own given h a.polynomial formed.form) [] k)

  all-used : forms_used (formula_of (new_block given)) ≡ (new_block given).table
  unfolding forms_used new_block block_of
  all-used = rw (new-formula given) (ap without_constants normal-used ∙ without-none new-not-constant)

  -- The new block's table is all used.
  pub new-table-used : TableUsed (new_block given)
  new-table-used = record {
    all = all-used;
    once = new-distinct given;
    not_constant = new-not-constant;
    normal = every-wider (λ p m. used-own given h p m) (new-forms given h);
  }
