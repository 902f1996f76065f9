use Rattle.std.proofs.Common.{sym}
use Rattle.awk_store.proofs.OwnSteps.{counts_whole}
use Rattle.awk_store.proofs.store.Store.count.Goals as goal

pub returns-then-add_one-clause-ok : goal.returns-then-add_one-clause-ok
returns-then-add_one-clause-ok c =
    let h = c.add_one.ensures.done c.if-add_one.true in
    rw (sym c.self.view_is)
    (counts_whole _ c.slot.result c.args.name c.add_one.new.cells.items h.0 h.1 c.slot.ensures h.2 h.3 h.4)
