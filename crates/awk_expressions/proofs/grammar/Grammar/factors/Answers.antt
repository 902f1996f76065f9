use Rattle.std.proofs.Common.{◌≡◌, true, false, rules, arith}
use Rattle.std.proofs.lemmas.Grind.{common_steps}
use Rattle.awk_tree.specs.Looks.{is_factor_sign}
use Rattle.awk_tree.specs.Terminals.{ahead}
use Rattle.awk_tree.specs.View.{view_term}
use Rattle.awk_expressions.proofs.Loops.{many_stops, many_ends, many_turn, viewed_goes}
use Rattle.awk_expressions.proofs.grammar.Grammar.factors.Goals as goal

pub returns-then-not-is_factor_sign : goal.returns-then-not-is_factor_sign
returns-then-not-is_factor_sign g c =
    let h : is_factor_sign (ahead c.loop-turn.tokens) ≡ false = cc in
    many_stops is_factor_sign _ _ _ _ _ h c.loop-turn.invariant

pub returns-in_err-factor : goal.returns-in_err-factor
returns-in_err-factor g c =
    let h : is_factor_sign (ahead c.loop-turn.tokens) ≡ true = cc in
    let e = many_turn is_factor_sign _ _ _ _ _ _ c.loop-turn-test.true h c.loop-turn.invariant in
    first_of (search rules, grind (arith, common_steps))

pub loop-turn-preserved : goal.loop-turn-preserved
loop-turn-preserved g c =
    let h : is_factor_sign (ahead c.loop-turn.tokens) ≡ true = cc in
    rw c.in_ok-push.ensures.ok (viewed_goes view_term is_factor_sign _ _ _ _ _ _ _ _ c.loop-turn-test.true h
    c.in_ok-factor.ensures c.loop-turn.invariant)

pub returns-then-is_factor_sign : goal.returns-then-is_factor_sign
returns-then-is_factor_sign g c =
    let h : is_factor_sign (ahead c.loop-turn.tokens) ≡ true = cc in
    let e = many_ends is_factor_sign _ _ _ _ _ _ c.loop-turn-test.false h c.loop-turn.invariant in
    λ _. first_of (cc, search rules)

pub returns-else-is_factor_sign : goal.returns-else-is_factor_sign
returns-else-is_factor_sign g c =
    let h : is_factor_sign (ahead c.loop-turn.tokens) ≡ false = cc in
    many_stops is_factor_sign _ _ _ _ _ h c.loop-turn.invariant
