use Rattle.std.proofs.Common.{◌≡◌, true, false, rules, arith}
use Rattle.std.proofs.lemmas.Grind.{common_steps}
use Rattle.awk_tree.specs.Looks.{past}
use Rattle.awk_tree.specs.Statements.{is_done}
use Rattle.awk_tree.specs.View.{view_item}
use Rattle.awk_statements.proofs.Loops.{until_stops, until_refuses, until_turn, viewed_until}
use Rattle.awk_statements.proofs.Whole.{nothing_left}
use Rattle.awk_statements.proofs.items.items.Goals as goal

pub returns-then-is_done : goal.returns-then-is_done
returns-then-is_done c =
    let h : is_done c.past.new.self ≡ true = cc in
    record {
      reads = until_stops past is_done _ _ _ _ _ _ c.past.ensures h c.loop-turn.invariant;
      done = nothing_left _ h;
    }

pub returns-in_err-item : goal.returns-in_err-item
returns-in_err-item c =
    let h : is_done c.past.new.self ≡ false = cc in
    let e = until_turn past is_done _ _ _ _ _ _ _ c.loop-turn-test.true c.past.ensures h c.loop-turn.invariant in
    record {
      reads = first_of (search rules, grind (arith, common_steps));
      done = search rules;
    }

pub loop-turn-preserved : goal.loop-turn-preserved
loop-turn-preserved c =
    let h : is_done c.past.new.self ≡ false = cc in
    rw c.in_ok-push.ensures.ok (viewed_until view_item past is_done _ _ _ _ _ _ _ _ _ c.loop-turn-test.true
    c.past.ensures h c.in_ok-item.ensures c.loop-turn.invariant)

pub returns-then-not-is_done : goal.returns-then-not-is_done
returns-then-not-is_done c =
    let h : is_done c.past-2.new.self ≡ false = cc in
    let e = until_refuses past is_done _ _ _ _ _ _ _ c.loop-turn-test.false c.past-2.ensures h c.loop-turn.invariant in
    record {
      reads = λ _. first_of (cc, search rules);
      done = search rules;
    }

pub returns : goal.returns
returns c =
    let h : is_done c.past-2.new.self ≡ true = cc in
    record {
      reads = until_stops past is_done _ _ _ _ _ _ c.past-2.ensures h c.loop-turn.invariant;
      done = nothing_left _ h;
    }
