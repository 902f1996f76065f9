use Rattle.std.proofs.Common.{◌≡◌, ◌∙◌, [], get_or, sym, subst, arith}
use Rattle.std.proofs.lemmas.List.{get_or_default}
use Rattle.awk_ere.specs.Lazy.{IsNext}
use Rattle.awk_ere.specs.Table.{steps_of, cell}
use Rattle.awk_ere.proofs.lazy.Machine.next.Goals as goal

pub returns-then-next-lt-UNKNOWN-clause-next : goal.returns-then-next-lt-UNKNOWN-clause-next
returns-then-next-lt-UNKNOWN-clause-next c =
    let lists = c.args.met.now.lists in
    let rows = c.requires.met.rows in
    let row : get_or c.args.met.now.rows.cells.items c.args.state [] ≡ c.index.result.now =
    get_or_default c.args.met.now.rows.cells.items c.args.state [] c.index.result.now
    (omega (arith, rows.each, c.requires.state)) ∙ sym c.index.ensures in
    let known : IsNext c.args.self.now.sets.now c.args.self.now.program.now c.args.byte (steps_of lists c.args.state)
    lists (cell c.args.met.now.rows.cells.items c.args.state c.args.byte) =
    rows.next c.args.state c.args.byte c.requires.state (omega (arith, c.ranges.byte.fits)) in
    subst (λ r. IsNext c.args.self.now.sets.now c.args.self.now.program.now c.args.byte (steps_of lists c.args.state)
    lists (get_or r c.args.byte 0)) row known c.if-next-lt-UNKNOWN.true
