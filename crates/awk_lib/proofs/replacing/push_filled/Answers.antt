use Rattle.std.proofs.Common.{◌∙◌}
use Rattle.awk_lib.proofs.Making.{filled_step}
use Rattle.awk_lib.proofs.replacing.push_filled.Goals as goal

pub loop-at-preserved : goal.loop-at-preserved
loop-at-preserved c =
    let matched = c.args.matched.now in
    filled_step c.loop-at.out c.push.new.self c.push-in-Some.new.self matched c.loop-at.rest.now c.split_at.result.0.now
    c.split_at.result.1.now c.sign.result.0.now c.sign.result.1.now c.in-Some.at
    c.split_at.ensures.front c.split_at.ensures.back (c.in-Some.ensures.1 matched) c.sign.ensures.filled
    c.in_ok-push.ensures c.in_ok-push-2.ensures
    ∙ c.loop-at.invariant
