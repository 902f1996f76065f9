use Rattle.std.proofs.Common.{sym}
use Rattle.awk_store.proofs.RecordSteps.{whole_result}
use Rattle.awk_store.proofs.fields.set_record.Goals as goal

pub returns : goal.returns
returns c = λ g t x shown is e.
    rw c.at.ensures (whole_result g (c.args.store.now, t) c.args.place x shown is c.set_whole.result c.args.text
    c.set_whole.new.self (sym e)
    c.set_whole.ensures.ok c.set_whole.ensures.fits c.set_whole.ensures.pattern c.set_whole.ensures.err
    c.set_whole.ensures.fault)
