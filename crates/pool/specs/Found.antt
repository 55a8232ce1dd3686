-- What the reader finds, in arrays that were blank: a refusal, or a block whose table the arrays hold.
use Rattle.std.specs.Prelude.{◌≡◌, Result, Ok, Err, List, ℕ, ℤ, pos, replicate}
use Rattle.std.proofs.Common.{sym, ◌∙◌}
use Rattle.std.proofs.Math.Path.{ap, subst}
use Rattle.rules.specs.Block.{Block, Stream, refused, read, read_block}
use Rattle.block_laws.specs.Blocks.{accepted-within}
use Rattle.block.specs.declared.Held.{Held}
use Rattle.block.specs.declared.Contents.{Contents}
use Rattle.block.specs.declared.Refusal.{Refusal}
use Rattle.block.specs.Refusals.{number_of}
use Rattle.block.specs.Held.{held_by, held_of}
use Rattle.block.specs.Steps.{ContentsOf, ContentsFound}
use Rattle.forms.specs.Working.{TableRead}
use Rattle.array_laws.specs.Arrays.{held-table, accepted-table-read}
use Rattle.pool.specs.Reading.{table_from, table-held}

pub record Taken (bytes : List ℕ) (n m : ℕ) (cs : List ℤ) (ms ts : List ℕ) : Type 0 where
  pub given : Block
  pub rest : Stream
  pub reading : read_block bytes ≡ read given rest
  pub read_table : TableRead cs ms ts m n
  pub variables : n ≡ given.variables
  pub table : table_from cs ms ts 0 m ≡ given.table

module _ {bytes : List ℕ} {cs : List ℤ} {ms ts token : List ℕ} {contents : Result Contents Refusal}
    (found : ContentsFound bytes (replicate 1024 (pos 0)) cs (replicate 1024 0) ms (replicate 64 0) ts (replicate 255 0) token contents) where
  pub found-refused : {refusal : Refusal} → contents ≡ Err refusal → read_block bytes ≡ refused (number_of refusal)
  unfolding ContentsOf
  found-refused e = (rw e at found).found

  pub found-taken : {given : Contents} → contents ≡ Ok given → Taken bytes given.variables given.polynomials cs ms ts
  unfolding ContentsOf held_of
  found-taken {given} e =
      let stored = (rw e at found).found in
      let is : held_by given.variables given.polynomials given.root given.tokens cs ms ts token ≡ held_of stored.block = stored.stored in
      record {
        given = stored.block;
        rest = stored.rest;
        reading = stored.reading;
        read_table = subst (λ (h : Held). TableRead h.coefficient h.monomial h.terms h.polynomials h.variables) (sym is)
            (accepted-table-read bytes stored.reading);
        variables = ap (λ (h : Held). h.variables) is;
        table = ap (λ (h : Held). table_from h.coefficient h.monomial h.terms 0 h.polynomials) is
            ∙ table-held (held_of stored.block).coefficient (held_of stored.block).monomial (held_of stored.block).terms stored.block.table
            (held-table stored.block (accepted-within bytes stored.reading));
      }
