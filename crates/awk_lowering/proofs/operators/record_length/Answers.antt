use Rattle.awk_program.specs.View.{view}
use Rattle.awk_lowering.proofs.Carried.{only_is}
use Rattle.awk_lowering.proofs.operators.record_length.Goals as goal

pub returns : goal.returns
returns c = λ t. c.builtin_of.ensures t _ (only_is (view t) _ _ _ c.only.ensures
    (c.read_of-record.ensures t _ (c.record_of.ensures t)))
