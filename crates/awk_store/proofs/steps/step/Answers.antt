use Rattle.awk_store.proofs.Stepping.{taken, none_left}
use Rattle.awk_store.proofs.steps.step.Goals as goal

pub returns-then-step : goal.returns-then-step
returns-then-step c = λ t. taken c.args.bound c.args.store.now c.step.new.self t c.step.result c.step.ensures.left
    c.step.ensures.after c.if-step.true

pub returns-else-step : goal.returns-else-step
returns-else-step c = λ t. none_left c.args.bound c.args.store.now c.step.new.self t c.step.result c.step.ensures.left
    c.step.ensures.after c.if-step.false
