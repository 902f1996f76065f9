use Rattle.std.proofs.Common.{rules, refl, arith, true, false, ◌≡◌, ◌∙◌, ◌*◌, ◌^◌, ◌%◌, ◌/◌}
use Rattle.std.proofs.lemmas.Nat.{one_shl}
use Rattle.box_policy.proofs.TablesLemmas.{holds_put}
use Rattle.box_policy.proofs.table.put.Goals as goal

pub returns-then-is_run-clause-holds : goal.returns-then-is_run-clause-holds
returns-then-is_run-clause-holds c = λ sort rest whole h.
    holds_put sort c.args.blocks.now c.args.element _ c.put.new.self c.args.at _ c.args.at true rest whole c.requires
    (one_shl (c.args.at % 64) 64 (omega arith)) c.put.ensures
    (c.is_run.ensures sort ∙ c.if-is_run.true) refl h

pub returns-else-is_run-clause-holds : goal.returns-else-is_run-clause-holds
returns-else-is_run-clause-holds c = λ sort rest whole h.
    holds_put sort c.args.blocks.now c.args.element _ c.put.new.self c.args.at _ _ false rest whole c.requires
    (one_shl (c.args.at % 64) 64 (omega arith)) c.put.ensures
    (c.is_run.ensures sort ∙ c.if-is_run.false) refl h
