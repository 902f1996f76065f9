use Rattle.std.proofs.Common.{rules, length, ◌≤◌}
use Rattle.awk_resolve.proofs.Linking.{set_link, past_link}
use Rattle.awk_resolve.proofs.uses.link.Goals as goal

pub returns-in_ok-push : goal.returns-in_ok-push
returns-in_ok-push c = rw c.in_ok-push.ensures.ok (set_link _ _ _ _ c.in-Some.ensures.value)

pub returns-in_default : goal.returns-in_default
returns-in_default c =
    let past : length c.args.table.now.items ≤ c.args.parameter = search rules in
    past_link _ _ _ past
