use borrow.Author.Tests.{lt-ltb, le-ltb}
use Rattle.std.proofs.Common.{◌≡◌, refl, ℕ, ◌+◌, ◌<◌, Bool, cond, List, get_or, set, length, length-set, sym, ap, ◌∙◌, arith}
use Rattle.normal.specs.Stores.{stores, stores-step, stores-skip, stores-end, stores-map}
use Rattle.forms.specs.Tokens.{normal_token, normal_unless_node}
use Rattle.forms.proofs.normal_tokens.Goals as goal
use Rattle.forms.proofs.normal_tokens.Goals.{then-t-lt16777216, else-t-lt16777216}

pub loop-i-init : goal.loop-i-init
loop-i-init c =
    let a = c.args in record { as_long = refl; left = stores-map 0 (normal_unless_node a.number.now a.turned.now) a.token.now a.count (omega arith) }

pub loop-i-preserved : goal.loop-i-preserved
unfolding normal_unless_node
loop-i-preserved c =
    let l = c.loop-i in
    let a = c.args in
    let t = get_or l.token l.i 0 in
    let h : l.i < a.count = c.loop-i-test.true in
    let change = normal_unless_node a.number.now a.turned.now in
    let left = λ (x : List ℕ). stores 0 (λ j. j) (λ j y. change y) x (l.i + 1) a.count in
    elim c.if-t-lt16777216.branch [
      | then-t-lt16777216 w ↦
          let is : w.normal_token.result ≡ change t
          = w.normal_token.ensures ∙ sym (ap (λ (b : Bool). cond b (normal_token a.number.now a.turned.now t) t) (lt-ltb t 16777216 w.if-t-lt16777216.true)) in
          let stored = w.token-is ∙ ap (set l.token l.i) is in
          record {
            as_long = ap length stored ∙ length-set l.token l.i (change t) ∙ l.invariant.as_long;
            left = ap left stored ∙ sym (stores-step 0 (λ j. j) (λ j x. change x) l.token l.i a.count h) ∙ l.invariant.left;
          }
      | else-t-lt16777216 w ↦
          let stays = ap (λ (b : Bool). cond b (normal_token a.number.now a.turned.now t) t) (le-ltb t 16777216 w.if-t-lt16777216.false) in
          record {
            as_long = ap length w.token-is ∙ l.invariant.as_long;
            left = ap left w.token-is ∙ sym (stores-skip 0 (λ j. j) (λ j x. change x) l.token l.i a.count h stays) ∙ l.invariant.left;
          }
    ]

pub returns : goal.returns
returns c =
    let l = c.loop-i in
    let a = c.args in
    sym (stores-end 0 (λ j. j) (λ j x. normal_unless_node a.number.now a.turned.now x) l.token l.i a.count c.loop-i-test.false) ∙ l.invariant.left
