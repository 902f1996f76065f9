use Rattle.awk_store.proofs.Leaving.{next_is, next_is_not}
use Rattle.awk_store.proofs.jumps.next.Goals as goal

pub returns-in-Ruling : goal.returns-in-Ruling
returns-in-Ruling c = λ g t. next_is g c.args.store.now t c.args.place c.phase.result c.unwind.new.self c.phase.ensures
    c.in-Ruling.is c.unwind.ensures

pub returns-in_default : goal.returns-in_default
returns-in_default c = λ g t. next_is_not g c.args.store.now t c.args.place c.phase.result c.phase.ensures
    c.in_default.not-Ruling
