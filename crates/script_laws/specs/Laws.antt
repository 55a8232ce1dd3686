-- #112, the laws: a plain block's script reads back as that block; a text that is read is the script of the plain block that it gave; and where a text
-- stops, the bytes before begin some script, and with the byte there they begin none.
use Rattle.std.specs.Prelude.{List, ◌++◌, ◌≡◌, ℕ, suc, ◌<◌, ◌≤◌, length, take}
use Rattle.std.proofs.Common.{sym, subst, arith}
use Rattle.rules.specs.Block.{Block}
use Rattle.rules.specs.Reader.{held, stopped}
use Rattle.script_laws.specs.Leading.{Leads, leads-held, held-leads, Begun, StopsAt, stops-exactly}
use Rattle.rules.specs.Text.{script_of, Plain}
use Rattle.rules.specs.Reading.{script, read_text}
use Rattle.script_laws.specs.Script.{script-reads}
use Rattle.script_laws.specs.PlainBlocks.{plain-declared, declared-plain}

-- "text to formula to text is the same bytes", from the block's side.
pub text-reads-back : (block : Block) → Plain block → read_text (script_of block) ≡ held block
unfolding read_text
text-reads-back block h = leads-held 0 script (script-reads.there block (plain-declared block h))

-- And from the text's side.
pub text-accepted : (text : List ℕ) (block : Block) → read_text text ≡ held block → Plain block × (script_of block ≡ text)
unfolding read_text
text-accepted text block e =
    let (declared, same) = script-reads.back text block (held-leads 0 script text e) in
    (declared-plain block declared, sym same)

-- Some script begins with these bytes.
pub record BeginsScript (text : List ℕ) : Type 0 where
  pub block : Block
  pub plain : Plain block
  pub more : List ℕ
  pub whole : script_of block ≡ text ++ more

-- "the position of the first byte at which no such text goes on"
pub record StopsWhere (text : List ℕ) (p : ℕ) : Type 0 where
  pub within : p ≤ length text
  pub begins : BeginsScript (take p text)
  pub no_further : p < length text → BeginsScript (take (suc p) text) → ⊥

begun-script : (text : List ℕ) → Begun script text → BeginsScript text
begun-script text h =
    let (declared, same) = script-reads.back (text ++ h.rest) h.result h.leads in
    record { block = h.result; plain = declared-plain h.result declared; more = h.rest; whole = sym same }

script-begun : (text : List ℕ) → BeginsScript text → Begun script text
script-begun text h = record {
  rest = h.more;
  result = h.block;
  leads = subst (λ (t : List ℕ). Leads script t h.block) h.whole (script-reads.there h.block (plain-declared h.block h.plain));
}

exactly : (text : List ℕ) (p : ℕ) → StopsAt script 0 text p → StopsWhere text p
exactly text p s =
    let same : s.count ≡ p = let there = s.there in omega arith in
    subst (StopsWhere text) same (record {
      within = s.within;
      begins = begun-script (take s.count text) s.begins;
      no_further = λ h k. s.no_further h (script-begun (take (suc s.count) text) k);
    })

pub stops-where : (text : List ℕ) (p : ℕ) → read_text text ≡ stopped p → StopsWhere text p
unfolding read_text
stops-where text p e = exactly text p (stops-exactly 0 text script-reads.fine.everywhere script-reads.fine.at_first e)
