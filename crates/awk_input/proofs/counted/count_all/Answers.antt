use Rattle.awk_program.specs.Slots.{name_of}
use Rattle.awk_program.specs.declared.variables.Own.TheVariants as own
use Rattle.awk_input.proofs.GotSteps.{counts_last}
use Rattle.awk_input.proofs.counted.count_all.Goals as goal

pub returns-in-Nothing : goal.returns-in-Nothing
returns-in-Nothing c = rw c.in-Nothing.is (λ g t p old to h. h)

pub returns-in-Nr : goal.returns-in-Nr
returns-in-Nr c = rw c.in-Nr.is (λ g t p old to h. counts_last g p old (c.args.store.now, t) (
  c.count.new.store,
  t,
) c.args.place to (name_of own.Nr) h c.count.result (c.count.ensures g t))

pub returns-in-NrAndFnr : goal.returns-in-NrAndFnr
returns-in-NrAndFnr c = rw c.in-NrAndFnr.is c.count_both.ensures
