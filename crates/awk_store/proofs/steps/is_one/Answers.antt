use Rattle.awk_store.proofs.Stepping.{of_block, of_other}
use Rattle.awk_store.proofs.steps.is_one.Goals as goal

pub returns-in-Block : goal.returns-in-Block
returns-in-Block c = λ names k. of_block names k c.args.x.now c.in-Block.xs c.as_slice.result.now c.is_empty.result
    c.in-Block.is c.as_slice.ensures c.is_empty.ensures

pub returns-in_default : goal.returns-in_default
returns-in_default c = λ names k. of_other names k c.args.x.now c.in_default.not-Block
