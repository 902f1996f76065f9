use Rattle.awk_ere.proofs.Ending.{begun_ends, row_found}
use Rattle.awk_ere.proofs.ends.Backwards.find_row.Goals as goal

pub returns-clause-row : goal.returns-clause-row
returns-clause-row c = λ rests.
    let sets = c.args.self.now.sets.now in
    let program = c.args.self.now.program.now in
    let s = c.args.self.now.text.now in
    let ends = begun_ends sets program s c.args.place c.args.here c.requires.here c.requires.done c.byte_at.result
    c.byte_at.ensures c.args.behind.now c.requires.behind c.begin_row.new.row c.begin_row.ensures.len
    c.begin_row.ensures.begun in
    row_found sets program s c.args.place c.args.here c.requires.here c.requires.done c.byte_at.result c.byte_at.ensures
    c.args.behind.now c.requires.behind c.begin_row.new.row c.settle.new.row c.begin_row.ensures.begun
    c.settle.ensures.above (c.settle.ensures.settled rests) (c.settle.ensures.ends ends)
