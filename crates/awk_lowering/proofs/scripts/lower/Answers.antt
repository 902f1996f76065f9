use Rattle.std.proofs.Common.{map}
use Rattle.awk_tree.specs.View.{view_item}
use Rattle.awk_resolve.specs.TablesIn.{tables_in}
use Rattle.awk_lowering.proofs.Sounding.{sound_program, of_tables}
use Rattle.awk_lowering.proofs.scripts.lower.Goals as goal

pub returns-clause-program : goal.returns-clause-program
returns-clause-program c = of_tables c.args.numbers (tables_in c.in_ok-tables.tables) _
    (map view_item c.args.items.now) _
    c.in_ok-tables.ensures.tables c.program.ensures

pub returns-clause-sound : goal.returns-clause-sound
returns-clause-sound c = sound_program c.args.numbers (tables_in c.in_ok-tables.tables)
    (map view_item c.args.items.now) _
    c.program.ensures c.in_ok-tables.ensures.sound
