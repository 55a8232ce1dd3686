-- The arrays of a block within the limits are what the writer asks for.
use Rattle.std.specs.Prelude.{◌≡◌, refl, List, [], ◌∷◌, ◌++◌, ℕ, zero, suc, ◌+◌, ◌-◌, ◌*◌, ◌<◌, ◌≤◌, ℤ, length, get_or, drop}
use Rattle.std.proofs.Common.{sym, ap, ap₂, ◌∙◌, append_assoc, append-nil, zero-add, add-zero, add-one, arith, length-drop, get_or-drop, drop-drop, drop_at}
use Rattle.std.proofs.lemmas.List.Edits.{sets, sets-eq}
use Rattle.rules.specs.Polynomial.{Polynomial}
use Rattle.rules.specs.Formula.{Parts, end, atom, and, or, Node, leaf, all_of, any_of, alone, children, nodes, open_formula}
use Rattle.rules.specs.Block.{NumberedAtom, Block, edition_number, edition_of, block_length}
use Rattle.rules.specs.Limits.{PartsWithin, BlockWithin}
use Rattle.terms.specs.View.{term_at, terms_from}
use Rattle.block.specs.Held.{tokens, kind_of, held_over}
use Rattle.block.specs.Tokens.{length-tokens}
use Rattle.writer.specs.Written.{terms_at, table_at, PartsHeld, Holds, Writable}
use Rattle.array_laws.specs.Arrays.{table_fits, arrays-hold}

-- ---- the table

same-terms : (cs : List ℤ) (ms : List ℕ) (k count : ℕ) → terms_at cs ms k count ≡ terms_from cs ms k count
unfolding terms_at terms_from
same-terms cs ms k zero = refl
same-terms cs ms k (suc count) = ap (λ (p : Polynomial). term_at cs ms k ∷ p) (same-terms cs ms (suc k) count)

table-there : (cs : List ℤ) (ms ts : List ℕ) (table : List Polynomial) (i : ℕ)
    → ((j : ℕ) → j < length table → terms_from cs ms (16 * (i + j)) (get_or ts (i + j) 0) ≡ get_or table j []) → table_at cs ms ts i (length table) ≡ table
unfolding table_at
table-there cs ms ts [] i each = refl
table-there cs ms ts (p ∷ ps) i each =
    ap₂ (λ (q : Polynomial) (qs : List Polynomial). q ∷ qs)
    (same-terms cs ms (16 * i) (get_or ts i 0) ∙ (rw (add-zero i) at (each 0 (omega arith))))
    (table-there cs ms ts ps (suc i) (λ j h. let next : i + suc j ≡ suc i + j = omega arith in rw next at (each (suc j) (omega arith))))

-- ---- the tree

-- What stands at a place of a tape.
token-there : (token : List ℕ) (k x : ℕ) (l : List ℕ) → drop k token ≡ x ∷ l → get_or token k 0 ≡ x
token-there token k x l e = sym (rw (add-zero k) at (get_or-drop k token 0 0)) ∙ ap (λ (m : List ℕ). get_or m 0 0) e

inside : (token : List ℕ) (k x : ℕ) (l : List ℕ) → drop k token ≡ x ∷ l → k < length token
inside token k x l e = omega (arith, ap length e, length-drop k token)

token-past : (token : List ℕ) (k x : ℕ) (l : List ℕ) → drop k token ≡ x ∷ l → drop (suc k) token ≡ l
token-past token k x l e = ap (λ (j : ℕ). drop j token) (sym (add-one k)) ∙ sym (drop-drop 1 k token) ∙ ap (drop 1) e

parts-past : (token : List ℕ) (k : ℕ) (kids : Parts NumberedAtom) (l : List ℕ) → drop k token ≡ tokens kids ++ l → drop (k + nodes kids) token ≡ l
parts-past token k kids l e = sym (drop-drop (nodes kids) k token) ∙ ap (drop (nodes kids)) e ∙ drop_at (tokens kids) l (nodes kids) (length-tokens kids)

-- The parts of a parent are of the other kind.
parts-there : (token : List ℕ) (d m parent kind k : ℕ) (parts : Parts NumberedAtom) (l : List ℕ) → m ≤ 64 → PartsWithin d m parent parts
    → ((parent ≡ 1 → ⊥) → kind ≡ 1) → ((parent ≡ 2 → ⊥) → kind ≡ 2) → drop k token ≡ tokens parts ++ l → PartsHeld token kind k parts
unfolding PartsHeld PartsWithin tokens
parts-there token d m parent kind k end l most within ands ors e = tt
parts-there token d m parent kind k (atom a rest) l most within ands ors e = (
  inside token k (a.number * 8 + a.set) (tokens rest ++ l) e,
  token-there token k (a.number * 8 + a.set) (tokens rest ++ l) e,
  omega (arith, within.0),
  within.1,
  parts-there token d m parent kind (suc k) rest l most within.2 ands ors (token-past token k (a.number * 8 + a.set) (tokens rest ++ l) e),
)
parts-there token d m parent kind k (and kids rest) l most within ands ors e =
    let behind : drop (suc k) token ≡ tokens kids ++ (tokens rest ++ l)
    = token-past token k (16777216 + children kids) (tokens kids ++ tokens rest ++ l) e ∙ append_assoc (tokens kids) (tokens rest) l in (
      inside token k (16777216 + children kids) (tokens kids ++ tokens rest ++ l) e,
      token-there token k (16777216 + children kids) (tokens kids ++ tokens rest ++ l) e,
      ands within.0,
      parts-there token (d - 1) m 1 2 (suc k) kids (tokens rest ++ l) most within.2 (λ f. absurd (f refl)) (λ f. refl) behind,
      parts-there token d m parent kind (suc k + nodes kids) rest l most within.3 ands ors (parts-past token (suc k) kids (tokens rest ++ l) behind),
    )
parts-there token d m parent kind k (or kids rest) l most within ands ors e =
    let behind : drop (suc k) token ≡ tokens kids ++ (tokens rest ++ l)
    = token-past token k (16777216 + children kids) (tokens kids ++ tokens rest ++ l) e ∙ append_assoc (tokens kids) (tokens rest) l in (
      inside token k (16777216 + children kids) (tokens kids ++ tokens rest ++ l) e,
      token-there token k (16777216 + children kids) (tokens kids ++ tokens rest ++ l) e,
      ors within.0,
      parts-there token (d - 1) m 2 1 (suc k) kids (tokens rest ++ l) most within.2 (λ f. refl) (λ f. absurd (f refl)) behind,
      parts-there token d m parent kind (suc k + nodes kids) rest l most within.3 ands ors (parts-past token (suc k) kids (tokens rest ++ l) behind),
    )

tree-there : (token : List ℕ) (m : ℕ) (tree : Node NumberedAtom) (l : List ℕ) → m ≤ 64 → PartsWithin 6 m 0 (alone tree)
    → token ≡ tokens (alone tree) ++ l → PartsHeld token (kind_of tree) 0 (alone tree)
unfolding PartsHeld PartsWithin tokens open_formula kind_of
tree-there token m (leaf a) l most within e = (
  inside token 0 (a.number * 8 + a.set) l e,
  token-there token 0 (a.number * 8 + a.set) l e,
  omega (arith, within.0),
  within.1,
  tt,
)
tree-there token m (all_of kids) l most within e = (
  inside token 0 (16777216 + children kids) (tokens kids ++ [] ++ l) e,
  token-there token 0 (16777216 + children kids) (tokens kids ++ [] ++ l) e,
  refl,
  parts-there token 5 m 1 2 1 kids l most within.2 (λ f. absurd (f refl)) (λ f. refl)
      (token-past token 0 (16777216 + children kids) (tokens kids ++ [] ++ l) e ∙ ap (λ (r : List ℕ). r ++ l) (append-nil (tokens kids))),
  tt,
)
tree-there token m (any_of kids) l most within e = (
  inside token 0 (16777216 + children kids) (tokens kids ++ [] ++ l) e,
  token-there token 0 (16777216 + children kids) (tokens kids ++ [] ++ l) e,
  refl,
  parts-there token 5 m 2 1 1 kids l most within.2 (λ f. refl) (λ f. absurd (f refl))
      (token-past token 0 (16777216 + children kids) (tokens kids ++ [] ++ l) e ∙ ap (λ (r : List ℕ). r ++ l) (append-nil (tokens kids))),
  tt,
)

-- ---- the block

module _ (block : Block) (within : BlockWithin block) where
  tape-starts : (zeros : List ℕ) → length zeros ≡ 255 → sets zeros 0 (tokens (alone block.tree)) ≡ tokens (alone block.tree) ++ drop (length (tokens (alone block.tree))) zeros
  tape-starts zeros long =
      rw (zero-add (length (tokens (alone block.tree)))) at
      (sets-eq (tokens (alone block.tree)) zeros 0 (omega (arith, length-tokens (alone block.tree), within.nodes, long)))

  -- The tape that a block within the limits is stored over holds its tree.
  pub tree-stored : (token : List ℕ) → length token ≡ 255 → PartsHeld (sets token 0 (tokens (alone block.tree))) (kind_of block.tree) 0 (alone block.tree)
  tree-stored token tape =
      tree-there (sets token 0 (tokens (alone block.tree))) (length block.table) block.tree (drop (length (tokens (alone block.tree))) token)
      within.polynomials within.tree (tape-starts token tape)

  module _ (cs : List ℤ) (ms ts token : List ℕ) (coefficients : length cs ≡ 1024) (monomials : length ms ≡ 1024) (counts : length ts ≡ 64) (tape : length token ≡ 255) where
    -- The arrays that a block within the limits is stored over hold it,
    pub stored-holds : Holds (held_over cs ms ts token block) block
    stored-holds = record {
      variables = refl;
      polynomials = refl;
      tokens = refl;
      table = table-there (held_over cs ms ts token block).coefficient (held_over cs ms ts token block).monomial (held_over cs ms ts token block).terms block.table 0
          (λ j h. rw (zero-add j)
          ((arrays-hold block.table (table_fits within.table) within.polynomials cs ms ts coefficients monomials counts).each j h));
      tree = tree-stored token tape;
    }

    -- so that it can be written, in an edition, where there is room for it.
    pub writable : (edition size : ℕ) → edition ≡ edition_number (edition_of edition) → block_length (edition_of edition) block ≤ size
        → Writable edition (held_over cs ms ts token block) size block
    writable edition size known room = record { known = known; holds = stored-holds; within = within; room = room }
