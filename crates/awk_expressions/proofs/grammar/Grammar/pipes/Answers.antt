use Rattle.std.proofs.Common.{◌≡◌, true, false, rules, arith}
use Rattle.std.proofs.lemmas.Grind.{common_steps}
use Rattle.awk_tokens.specs.declared.terminals.Terminal.TheVariants as w
use Rattle.awk_tree.specs.Terminals.{is, ahead}
use Rattle.awk_tree.specs.View.{view_piped}
use Rattle.awk_expressions.proofs.Loops.{many_stops, many_ends, many_turn, viewed_goes}
use Rattle.awk_expressions.proofs.grammar.Grammar.pipes.Goals as goal

pub returns-then-not-is : goal.returns-then-not-is
returns-then-not-is g c =
    let h : is w.BarGetline (ahead c.loop-turn.tokens) ≡ false = cc in
    many_stops (is w.BarGetline) _ _ _ _ _ h c.loop-turn.invariant

pub returns-in_err-one_pipe : goal.returns-in_err-one_pipe
returns-in_err-one_pipe g c =
    let h : is w.BarGetline (ahead c.loop-turn.tokens) ≡ true = cc in
    let e = many_turn (is w.BarGetline) _ _ _ _ _ _ c.loop-turn-test.true h c.loop-turn.invariant in
    first_of (search rules, grind (arith, common_steps))

pub loop-turn-preserved : goal.loop-turn-preserved
loop-turn-preserved g c =
    let h : is w.BarGetline (ahead c.loop-turn.tokens) ≡ true = cc in
    rw c.in_ok-push.ensures.ok (viewed_goes view_piped (is w.BarGetline) _ _ _ _ _ _ _ _ c.loop-turn-test.true h
    c.in_ok-one_pipe.ensures c.loop-turn.invariant)

pub returns-then-is : goal.returns-then-is
returns-then-is g c =
    let h : is w.BarGetline (ahead c.loop-turn.tokens) ≡ true = cc in
    let e = many_ends (is w.BarGetline) _ _ _ _ _ _ c.loop-turn-test.false h c.loop-turn.invariant in
    λ _. first_of (cc, search rules)

pub returns-else-is : goal.returns-else-is
returns-else-is g c =
    let h : is w.BarGetline (ahead c.loop-turn.tokens) ≡ false = cc in
    many_stops (is w.BarGetline) _ _ _ _ _ h c.loop-turn.invariant
