-- 01, "Refusal numbers", and 02, #109: they go from 1 to 15 and from 21 to 23, so the number 0 is none of them.
use Rattle.std.specs.Prelude.{◌≡◌, Bool, true, false, List, ℕ, zero, suc, ◌<◌, ◌≤◌, T, leb, ltb}
use Rattle.std.proofs.Common.{subst, arith, lit<, lit≤}
use Rattle.rules.specs.Formula.{Node}
use Rattle.rules.specs.Block.{NumberedAtom, Edition, edition1, edition2, Stream, Reading, refused, read, require, afterwards, read_exponents, read_term}
use Rattle.rules.specs.Block.{read_terms, read_polynomial, read_table, read_atom, read_join, by_kind, read_node_by, read_parts, read_node, read_end, read_body, read_block}

-- A number of the table: one of document 01's, or one of those that came with edition 2.
pub data Listed : ℕ → Type 0 where
  one_to_fifteen : {number : ℕ} → 0 < number → number ≤ 15 → Listed number
  of_edition2 : {number : ℕ} → 21 ≤ number → number ≤ 23 → Listed number

pub listed : {number : ℕ} → T (ltb 0 number) → T (leb number 15) → Listed number
listed some few = one_to_fifteen (lit< some) (lit≤ few)

listed2 : {number : ℕ} → T (leb 21 number) → T (leb number 23) → Listed number
listed2 some few = of_edition2 (lit≤ some) (lit≤ few)

-- It is not 0,
pub from_one : {number : ℕ} → Listed number → 0 < number
from_one (one_to_fifteen some few) = some
from_one (of_edition2 some few) = omega arith

-- and at most 23.
pub to-twenty-three : {number : ℕ} → Listed number → number ≤ 23
to-twenty-three (one_to_fifteen some few) = omega arith
to-twenty-three (of_edition2 some few) = few

-- What was read, or a refusal with a number of the table.
pub data Numbered {A : Type 0} : Reading A → Type 0 where
  was_read : {a : A} {s : Stream} → Numbered (read a s)
  was_refused : {number : ℕ} → Listed number → Numbered (refused number)

required : {A : Type 0} (test : Bool) (number : ℕ) {reading : Reading A} → Listed number → Numbered reading → Numbered (require test number reading)
unfolding require
required true number in_table n = n
required false number in_table n = was_refused in_table

both : {A B : Type 0} (first : Reading A) (more : A → Stream → Reading B) → Numbered first → ((a : A) (s : Stream) → Numbered (more a s)) → Numbered (afterwards first more)
unfolding afterwards
both (refused number) more (was_refused in_table) then-more = was_refused in_table
both (read a s) more n then-more = then-more a s

-- ---- the table

exponents : (edition : Edition) (n : ℕ) (s : Stream) → Numbered (read_exponents edition n s)
unfolding read_exponents
exponents edition1 n s = was_read
exponents edition2 n s =
    required _ 21 (listed2 tt tt) (required _ 6 (listed tt tt) (required _ 22 (listed2 tt tt) (required _ 23 (listed2 tt tt) was_read)))

term : (edition : Edition) (n above : ℕ) (s : Stream) → Numbered (read_term edition n above s)
unfolding read_term
term edition n above s =
    required _ 6 (listed tt tt) (required _ 8 (listed tt tt) (both _ _ (exponents edition n _) (λ m s₁. required _ 9 (listed tt tt) was_read)))

terms : (edition : Edition) (count n above : ℕ) (s : Stream) → Numbered (read_terms edition count n above s)
unfolding read_terms
terms edition zero n above s = was_read
terms edition (suc count) n above s =
    both (read_term edition n above s) _ (term edition n above s)
    (λ t s₁. both (read_terms edition count n t.monomial s₁) _ (terms edition count n t.monomial s₁) (λ ts s₂. was_read))

polynomial : (edition : Edition) (n : ℕ) (s : Stream) → Numbered (read_polynomial edition n s)
unfolding read_polynomial
polynomial edition n s = required _ 6 (listed tt tt) (required _ 7 (listed tt tt) (terms edition _ n _ _))

table : (edition : Edition) (m n : ℕ) (s : Stream) → Numbered (read_table edition m n s)
unfolding read_table
table edition zero n s = was_read
table edition (suc m) n s =
    both (read_polynomial edition n s) _ (polynomial edition n s) (λ p s₁. both (read_table edition m n s₁) _ (table edition m n s₁) (λ ps s₂. was_read))

-- ---- the tree

atom : (m allowed : ℕ) (bits : List Bool) → Numbered (read_atom m allowed bits)
unfolding read_atom
atom m allowed bits = required _ 6 (listed tt tt) (required _ 11 (listed tt tt) was_read)

by-kind : {A : Type 0} (is-atom : Bool) {of_atom of_join : Reading A} → Numbered of_atom → Numbered of_join → Numbered (by_kind is-atom of_atom of_join)
unfolding by_kind
by-kind true a j = a
by-kind false a j = j

node_by : (inside : ℕ → ℕ → Stream → Reading (Node NumberedAtom)) → ((kind count : ℕ) (s : Stream) → Numbered (inside kind count s))
    → (m parent : ℕ) (s : Stream) → Numbered (read_node_by inside m parent s)
unfolding read_node_by read_join
node_by inside n m parent s =
    required _ 14 (listed tt tt) (required _ 6 (listed tt tt) (required _ 10 (listed tt tt)
    (by-kind _ (atom m _ _) (required _ 6 (listed tt tt) (required _ 12 (listed tt tt) (n _ _ _))))))

parts : (read_one : Stream → Reading (Node NumberedAtom)) → ((s : Stream) → Numbered (read_one s)) → (count : ℕ) (s : Stream) → Numbered (read_parts read_one count s)
unfolding read_parts
parts read_one n zero s = was_read
parts read_one n (suc count) s = both (read_one s) _ (n s) (λ node s₁. both (read_parts read_one count s₁) _ (parts read_one n count s₁) (λ rest s₂. was_read))

node : (d m parent : ℕ) (s : Stream) → Numbered (read_node d m parent s)
unfolding read_node
node zero m parent s = node_by _ (λ kind count s₁. was_refused (listed tt tt)) m parent s
node (suc d) m parent s = node_by _ (λ kind count s₁. both _ _ (parts (read_node d m kind) (node d m kind) count s₁) (λ kids s₂. was_read)) m parent s

-- ---- the block

body : (edition : Edition) (n m : ℕ) (s : Stream) → Numbered (read_body edition n m s)
unfolding read_body read_end
body edition n m s =
    both (read_table edition m n s) _ (table edition m n s) (λ read_table s₁. both (read_node 6 m 0 s₁) _ (node 6 m 0 s₁) (λ tree s₂. required _ 14 (listed tt tt) (required _ 15 (listed tt tt) was_read)))

-- The reading of any bytes is so numbered.
pub reading-numbered : (bytes : List ℕ) → Numbered (read_block bytes)
unfolding read_block
reading-numbered bytes = required _ 2 (listed tt tt) (required _ 3 (listed tt tt) (required _ 4 (listed tt tt) (required _ 5 (listed tt tt) (body _ _ _ _))))

number-of : {A : Type 0} {number : ℕ} → Numbered {A = A} (refused number) → Listed number
number-of (was_refused in_table) = in_table

-- So what is refused is refused with a number of the table.
pub refused-listed : (bytes : List ℕ) {number : ℕ} → read_block bytes ≡ refused number → Listed number
refused-listed bytes e = number-of (subst Numbered e (reading-numbered bytes))
