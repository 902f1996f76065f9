use Rattle.std.proofs.Common.{◌∙◌, ◌≡◌, [], true, arith, rules}
use Rattle.std.specs.List.{list_all}
use Rattle.std.specs.Prelude.{◌==◌}
use Rattle.box_policy.specs.NamesLeft.{names_left}
use Rattle.box_policy.specs.Tokens.{stream}
use Rattle.box_policy.proofs.TablesLemmas.{walk_dead}
use Rattle.box_policy.proofs.WalksLemmas.{walk_name_more}
use Rattle.box_policy.proofs.matching.walk_names.Goals as goal

pub returns-then-is_none_reached-clause-places : goal.returns-then-is_none_reached-clause-places
returns-then-is_none_reached-clause-places c = λ symbols table room.
    let dead : list_all (λ word. word == 0) c.walk_name.new.reached ≡ true = search rules in
    walk_dead symbols c.walk_name.new.reached (stream (names_left c.next.new.self)) [] dead
    ∙ walk_name_more symbols _ _ _ c.loop-name.reached c.walk_name.new.reached _ c.in-Some.ensures.steps
    (c.walk_name.ensures.places symbols (stream (names_left c.next.new.self)) table
    (omega (arith, c.loop-name.invariant.len, room)))
    (c.loop-name.invariant.whole symbols table room)
