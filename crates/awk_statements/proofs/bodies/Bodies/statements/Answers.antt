use Rattle.std.proofs.Common.{◌≡◌, Bool, true, false, List, rules, arith}
use Rattle.std.proofs.lemmas.Grind.{common_steps}
use Rattle.awk_tokens.specs.declared.token.Token.{Token}
use Rattle.awk_tokens.specs.declared.terminals.Terminal.TheVariants as w
use Rattle.awk_tree.specs.Looks.{skip}
use Rattle.awk_tree.specs.Terminals.{is, look}
use Rattle.awk_tree.specs.View.{view_statement}
use Rattle.awk_statements.proofs.Loops.{until_stops, until_refuses, until_turn, viewed_until}
use Rattle.awk_statements.proofs.bodies.Bodies.statements.Goals as goal

abbrev closes : List Token → Bool
closes ts = is (look ts) w.CloseBrace

pub returns-then-is : goal.returns-then-is
returns-then-is g c =
    let h : closes c.skip.new.self ≡ true = cc in
    until_stops skip closes _ _ _ _ _ _ c.skip.ensures h c.loop-turn.invariant

pub returns-in_err-statement_here : goal.returns-in_err-statement_here
returns-in_err-statement_here g c =
    let h : closes c.skip.new.self ≡ false = cc in
    let e = until_turn skip closes _ _ _ _ _ _ _ c.loop-turn-test.true c.skip.ensures h c.loop-turn.invariant in
    first_of (search rules, grind (arith, common_steps))

pub loop-turn-preserved : goal.loop-turn-preserved
loop-turn-preserved g c =
    let h : closes c.skip.new.self ≡ false = cc in
    rw c.in_ok-push.ensures.ok (viewed_until view_statement skip closes _ _ _ _ _ _ _ _ _ c.loop-turn-test.true
    c.skip.ensures h c.in_ok-statement_here.ensures c.loop-turn.invariant)

pub returns-then-not-is : goal.returns-then-not-is
returns-then-not-is g c =
    let h : closes c.skip-2.new.self ≡ false = cc in
    let e = until_refuses skip closes _ _ _ _ _ _ _ c.loop-turn-test.false c.skip-2.ensures h c.loop-turn.invariant in
    λ _. first_of (cc, search rules)

pub returns : goal.returns
returns g c =
    let h : closes c.skip-2.new.self ≡ true = cc in
    until_stops skip closes _ _ _ _ _ _ c.skip-2.ensures h c.loop-turn.invariant
