use Rattle.std.proofs.Common.{map}
use Rattle.awk_tree.specs.View.{view_item}
use Rattle.awk_resolve.specs.TablesIn.{tables_in}
use Rattle.awk_lowering.proofs.Adding.{finished_program}
use Rattle.awk_lowering.proofs.items.program.Goals as goal

pub returns : goal.returns
returns c =
    finished_program c.args.numbers (tables_in c.args.tables.now)
    (map view_item c.args.items.now) _ _ _ c.finished.ensures
    (rw (
      c.within-context.ensures.profile,
      c.empty-out.ensures,
      c.in_ok-variables.ensures,
      c.texts-texts.ensures,
      c.as_slice.ensures,
    ) at
    c.add_all-filled.ensures)
