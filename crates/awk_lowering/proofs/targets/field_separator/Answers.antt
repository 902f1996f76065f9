use Rattle.awk_program.specs.View.{view}
use Rattle.awk_lowering.specs.Made.{names_in}
use Rattle.awk_lowering.proofs.Carried.{boxed_is}
use Rattle.awk_lowering.proofs.targets.field_separator.Goals as goal

pub returns : goal.returns
returns c = c.computed_of.ensures _ _ (boxed_is (view (names_in c.args.context.now)) _ _ _ c.boxed.ensures
    (c.read_of.ensures _ _ (c.variable_of-fs.ensures _ _ c.global.ensures)))
