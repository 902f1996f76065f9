use Rattle.std.proofs.Common.{◌≡◌, true, false, rules, arith}
use Rattle.std.proofs.lemmas.Grind.{common_steps}
use Rattle.awk_tree.specs.Looks.{begins_part}
use Rattle.awk_tree.specs.Terminals.{ahead}
use Rattle.awk_tree.specs.View.{view}
use Rattle.awk_expressions.proofs.Loops.{many_stops, many_ends, many_turn, viewed_goes}
use Rattle.awk_expressions.proofs.grammar.Grammar.parts.Goals as goal

pub returns-then-not-begins_part : goal.returns-then-not-begins_part
returns-then-not-begins_part g c =
    let h : begins_part (ahead c.loop-turn.tokens) ≡ false = cc in
    many_stops begins_part _ _ _ _ _ h c.loop-turn.invariant

pub returns-in_err-part : goal.returns-in_err-part
returns-in_err-part g c =
    let h : begins_part (ahead c.loop-turn.tokens) ≡ true = cc in
    let e = many_turn begins_part _ _ _ _ _ _ c.loop-turn-test.true h c.loop-turn.invariant in
    first_of (search rules, grind (arith, common_steps))

pub loop-turn-preserved : goal.loop-turn-preserved
loop-turn-preserved g c =
    let h : begins_part (ahead c.loop-turn.tokens) ≡ true = cc in
    rw (c.in_ok-push.ensures.ok, c.into_inner.ensures)
    (viewed_goes view begins_part _ _ _ _ _ _ _ _ c.loop-turn-test.true h c.in_ok-part.ensures
    c.loop-turn.invariant)

pub returns-then-begins_part : goal.returns-then-begins_part
returns-then-begins_part g c =
    let h : begins_part (ahead c.loop-turn.tokens) ≡ true = cc in
    let e = many_ends begins_part _ _ _ _ _ _ c.loop-turn-test.false h c.loop-turn.invariant in
    λ _. first_of (cc, search rules)

pub returns-else-begins_part : goal.returns-else-begins_part
returns-else-begins_part g c =
    let h : begins_part (ahead c.loop-turn.tokens) ≡ false = cc in
    many_stops begins_part _ _ _ _ _ h c.loop-turn.invariant
