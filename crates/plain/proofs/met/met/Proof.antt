-- `met` meets its contract: nothing, or the fraction and the value behind it.
use borrow.Author.Rules.{rules}
use Prim.Native.Nat.{◌*◌}
use mir.Syntax.{w32}
use mir.Val.{SFits}
use Rattle.rules.specs.Signs.{kind}
use Rattle.plain_laws.specs.Bounds.{largest, double}
use Rattle.interval.specs.Ends.{end_of, There}
use Rattle.interval.specs.Coefficients.{is-zero, not_zero}
use Rattle.plain.specs.Met.{beside}
use Rattle.plain.specs.Values.{Held}
use Rattle.plain.proofs.Numbers.{none_there, is-there}
use Rattle.plain.proofs.Seens.{none-met, one-met}
use Rattle.plain.proofs.met.met.Statement.{statement}
use Rattle.plain.proofs.met.met.Tie as tie

b-fits : (c : tie.After-struct_told-1) → SFits w32 c.before.before.before.args.f.b
b-fits c = record { sfits = c.struct_told-1.given.1.0.1 }

returns : tie.Need-returns-then-b-eq0
returns c =
    let s = c.before.before.before.before.args in
    record { on = λ t u. none-met (kind s.set) _ s.seen (none_there s.f.a s.f.b (is-zero (b-fits c.before) c.if-b-eq0.true)) }

there : (c : tie.Else-b-eq0) → There c.before.before.before.before.args.f
there c = is-there c.before.before.before.before.args.f (not_zero (b-fits c.before) c.if-b-eq0.false)

held : (c : tie.After-listed) → Held (2 * largest) c.listed.result
held c =
    let e = c.before.before in
    let f = there e in
    record {
      t = f.fraction;
      is = c.listed.ensures f.fraction f.is;
      small = double (e.before.before.before.before.requires.1.small f.fraction f.is);
    }

tested-requires : tie.Need-tested-more-requires
tested-requires c κs = (c.before.before.before.before.before.before.requires.0, held c)

beside-requires : tie.Need-beside-requires
beside-requires c κs =
    let n = c.before.before in
    ((there n.before, n.before.before.before.before.before.requires.1), n.neighbour-near.ensures.small)

tested-requires-2 : tie.Need-tested-requires
tested-requires-2 c κs = (c.before.before.before.before.before.before.before.before.requires.0, c.beside.ensures.0)

returns-2 : tie.Need-returns
returns-2 c =
    let n = c.before.before.before.before in
    let s = n.before.before.before.before.before.args in
    let f = there n.before in
    let first = c.before.before.tested-more.ensures f.fraction (c.before.before.before.listed.ensures f.fraction f.is) in
    let second = c.tested.ensures (beside f.fraction (end_of n.neighbour-near.result)) (c.before.beside.ensures.1 f.fraction f.is) in
    record { on = λ t u. one-met (kind s.set) _ s.seen f.fraction f.is (n.neighbour-near.ensures.on t u) (first.on t u) (second.on t u) }

pub met_spec : {M : Type 1} → statement M
met_spec =
    tie.close
    (tie.spec returns (λ c κs. search rules) (λ c κs. there c.before) tested-requires beside-requires tested-requires-2 returns-2)
