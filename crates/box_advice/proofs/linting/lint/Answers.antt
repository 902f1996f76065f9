use Rattle.std.specs.Prelude.{option_map}
use Rattle.box_advice.proofs.LintsLemmas.{told_none, told_refused}
use Rattle.box_advice.proofs.linting.lint.Goals as goal

pub returns-in-Ok : goal.returns-in-Ok
returns-in-Ok c =
    told_none (option_map (λ b. b.now) c.args.base) c.args.text.now c.in-Ok.policy c.in-Ok.ensures.ok c.in_order.result
    c.in_order.ensures

pub returns-in-Err : goal.returns-in-Err
returns-in-Err c =
    told_refused (option_map (λ b. b.now) c.args.base) c.args.text.now c.in-Err.error c.in-Err.ensures.refused
    c.refused.result c.refused.ensures
