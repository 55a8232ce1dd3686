-- The whole script.
use Rattle.std.proofs.Math.Bool.{true}
use Rattle.std.specs.Prelude.{false, ◌≡◌, ℕ, zero, suc, ◌*◌, ◌^◌, ◌<◌, ◌≤◌}
use mathlib.Core.List.{List, [], ◌∷◌, ◌++◌}
use Rattle.std.proofs.Math.Path.{refl, subst}
use Rattle.std.proofs.Common.{sym, ap, ◌∙◌, pow-suc, arith}
use Rattle.rules.specs.Polynomial.{Atom}
use Rattle.rules.specs.Formula.{Parts, end, atom, and, or, Node, leaf, all_of, any_of, before, alone, is_end, children}
use Rattle.rules.specs.Block.{Block}
use Rattle.rules.specs.Answer.{formula_of, block_of}
use Rattle.sign_laws.specs.Lists.{every_none}
use Rattle.level_laws.specs.Written.{looked-up}
use Rattle.rules.specs.Reader.{give}
use Rattle.script_laws.specs.Leading.{Leads, arrived}
use Rattle.rules.specs.Combine.{given, say, ◌union◌, Choice, one_of}
use Rattle.script_laws.specs.CombineLaws.{Reads, Passed, passed, read-then, then_read, fine-read, Fine, fine-give, said-giving, Just, just, say-just, fine-say, Apart, left-stuck, or_apart, choices-apart, leads-left, leads-right, Either, by_left, by_right, or-leads, open-or, goes_left, tellable, differs_from_all, differ, Chosen, this, other, leads-chosen, chosen-leads, no-choice, choices, fine-choices}
use Rattle.rules.specs.Text.{bytes, if_so, opening, node_text, root_text}
use Rattle.rules.specs.Reading.{choice, beginnings, kids_by, atom_with, node_by, node, root, beyond}
use Rattle.script_laws.specs.Polynomials.{polynomial-reads}
use Rattle.script_laws.specs.Products.{product-reads, beyond-sixteen}
use Rattle.script_laws.specs.Known.{known-reads}
use Rattle.script_laws.specs.Shaped.{Shaped, NodeFits}
use Rattle.script_laws.specs.Tree.{node-reads}

-- ---- A node at the root, of n variables.

some-beyond : (before : ℕ) → 1 < beyond (suc before)
some-beyond before =
    let some = positive before in
    let same : beyond (suc before) ≡ 16 ^ before * 16 = beyond-sixteen (suc before) ∙ pow-suc 16 before in
    rw same (omega arith)
  where
    positive : (g : ℕ) → 0 < 16 ^ g
    positive zero = omega arith
    positive (suc g) = let w = positive g in rw (pow-suc 16 g) (omega arith)

top-reads : (before : ℕ) → Reads (node (suc before) 6 0 [] 254) (NodeFits (suc before) 6 0 [] 254) (node_text (suc before))
top-reads before =
    node-reads (suc before)
    (known-reads (suc before) (polynomial-reads (suc before) (λ limit some inside. product-reads before limit inside some) (some-beyond before)))
    6 0 [] (record { each = every_none; few = omega arith }) 254 (omega arith)

-- ---- The root: true, false or a node.

pub data RootFits (n : ℕ) : Node Atom → Type 0 where
  root_true : RootFits n (all_of end)
  root_false : RootFits n (any_of end)
  root_node : {tree : Node Atom} → NodeFits n 6 0 [] 254 tree → RootFits n tree

abbrev constants : List (Choice (Node Atom))
constants = choice true (bytes "true") (give (all_of end)) ∷ choice true (bytes "false") (give (any_of end)) ∷ []

no-kids-end : (kids : Parts Atom) → 2 ≤ children kids → is_end kids ≡ false
unfolding is_end children
no-kids-end end h = absurd (omega (arith, h))
no-kids-end (atom a rest) h = refl
no-kids-end (and kids rest) h = refl
no-kids-end (or kids rest) h = refl

node-root-text : (n : ℕ) (tree : Node Atom) → NodeFits n 6 0 [] 254 tree → node_text n tree ≡ root_text n tree
unfolding root_text if_so Shaped alone before
node-root-text n (leaf a) h = refl
node-root-text n (all_of kids) h = rw (no-kids-end kids h.shaped.2)
node-root-text n (any_of kids) h = rw (no-kids-end kids h.shaped.2)

module _ (before₁ : ℕ) where
  abbrev n : ℕ
  n = suc before₁

  abbrev root_choices : List (Choice (Node Atom))
  root_choices = beginnings n true (λ kind known room. kids_by (node n 5 kind) known room) 0 [] 254

  constants-apart : Apart (one_of constants) (node n 6 0 [] 254)
  unfolding one_of given node node_by atom_with opening differs_from_all differ
  constants-apart =
      or_apart (choices-apart true (bytes "true") (give (all_of end)) root_choices refl)
      (or_apart (choices-apart true (bytes "false") (give (any_of end)) root_choices refl) left-stuck)

  RootBack : List ℕ → Node Atom → Type 0
  RootBack t tree = RootFits n tree × (t ≡ root_text n tree)

  true-back : {u : List ℕ} {tree : Node Atom} → Leads (give (all_of end)) u tree → RootBack (bytes "true" ++ u) tree
  unfolding RootBack root_text if_so is_end
  true-back arrived = (root_true, refl)

  false-back : {u : List ℕ} {tree : Node Atom} → Leads (give (any_of end)) u tree → RootBack (bytes "false" ++ u) tree
  unfolding RootBack root_text if_so is_end
  false-back arrived = (root_false, refl)

  constant-back : {t : List ℕ} {tree : Node Atom} → Chosen constants t tree → RootBack t tree
  constant-back {t = t} {tree = tree} (other (other x10)) = elim x10 [ ]
  constant-back (this u e way) = true-back way
  constant-back (other (this u e way)) = false-back way

  tree-back : {t : List ℕ} {tree : Node Atom} → Either (one_of constants) (node n 6 0 [] 254) t tree → RootBack t tree
  unfolding RootBack
  tree-back (by_left way) = constant-back (leads-chosen constants way)
  tree-back {t} {tree} (by_right way) = let (fits, text) = (top-reads before₁).back t tree way in (root_node fits, text ∙ node-root-text n tree fits)

  tree-there : (tree : Node Atom) → RootFits n tree → Leads (one_of constants union node n 6 0 [] 254) (root_text n tree) tree
  unfolding root_text if_so is_end tellable differs_from_all differ
  tree-there tree root_true = leads-left constants-apart (chosen-leads constants refl (this [] refl arrived))
  tree-there tree root_false = leads-left constants-apart (chosen-leads constants refl (other (this [] refl arrived)))
  tree-there tree (root_node h) = leads-right constants-apart
      (subst (λ (l : List ℕ). Leads (node n 6 0 [] 254) l tree) (node-root-text n tree h) ((top-reads before₁).there tree h))

  tree-reads : Reads (one_of constants union node n 6 0 [] 254) (RootFits n) (root_text n)
  unfolding RootBack
  tree-reads =
      let constant : Fine (one_of constants) = fine-choices refl (choices (λ e. fine-give (all_of end)) (choices (λ e. fine-give (any_of end)) no-choice)) in
      record {
        fine = record { everywhere = open-or constant.everywhere (top-reads before₁).fine.everywhere; at_first = goes_left (node n 6 0 [] 254) constant.at_first };
        there = tree-there;
        back = λ t tree way. tree-back (or-leads (one_of constants) (node n 6 0 [] 254) way);
      }

-- ---- With the last parenthesis, as a block.

pub record RootBlock (n : ℕ) (block : Block) : Type 0 where
  pub variables : block.variables ≡ n
  pub listed : block_of n (formula_of block) ≡ block
  pub fits : RootFits n (formula_of block)

-- The text from the root on.
unfoldable pub root_end : Block → List ℕ
root_end block = root_text block.variables (formula_of block) ++ bytes ")\n"

block-fits : (n : ℕ) (tree : Node Atom) → RootFits n tree → RootBlock n (block_of n tree)
unfolding block_of
block-fits n tree h = record { variables = refl; listed = ap (block_of n) (looked-up n tree); fits = subst (RootFits n) (sym (looked-up n tree)) h }

block-text : (n : ℕ) (tree : Node Atom) → root_text n tree ++ bytes ")\n" ≡ root_end (block_of n tree)
unfolding root_end block_of
block-text n tree = ap (λ (x : Node Atom). root_text n x ++ bytes ")\n") (sym (looked-up n tree))

module _ (before₁ : ℕ) where
  EndBack : List ℕ → Block → Type 0
  EndBack t block = RootBlock (suc before₁) block × (t ≡ root_end block)

  just-back : (tree : Node Atom) → RootFits (suc before₁) tree → {u : List ℕ} {block : Block} → Just (bytes ")\n") (block_of (suc before₁) tree) u block
      → EndBack (root_text (suc before₁) tree ++ u) block
  unfolding EndBack
  just-back tree h just = (block-fits (suc before₁) tree h, block-text (suc before₁) tree)

  root-back : {t : List ℕ} {block : Block} → Passed (RootFits (suc before₁)) (root_text (suc before₁)) (λ tree. say (bytes ")\n") (give (block_of (suc before₁) tree))) t block → EndBack t block
  root-back (passed tree h u way) = just-back tree h (say-just (bytes ")\n") way)

  root-there : (block : Block) → RootBlock (suc before₁) block → Leads (root (suc before₁)) (root_end block) block
  unfolding root
  root-there block h =
      let tree = formula_of block in
      subst (λ (b : Block). Leads (root (suc before₁)) (root_end b) b) h.listed
      (subst (λ (l : List ℕ). Leads (root (suc before₁)) l (block_of (suc before₁) tree)) (block-text (suc before₁) tree)
      (then_read (tree-reads before₁) _ tree h.fits (said-giving (bytes ")\n") (block_of (suc before₁) tree))))

  pub root-reads : Reads (root (suc before₁)) (RootBlock (suc before₁)) root_end
  unfolding root EndBack
  root-reads = record {
    fine = fine-read (tree-reads before₁) _ (λ tree h. fine-say (bytes ")\n") (fine-give (block_of (suc before₁) tree)));
    there = root-there;
    back = λ t block way. root-back (read-then (tree-reads before₁) _ way);
  }
