-- How a run ended, as plain awk has it.
use Rattle.awk_machine.specs.Pieces as machine
use Rattle.awk_run.specs.declared.report.Outcome.{Outcome}
use Rattle.awk_run.specs.declared.report.Outcome.TheVariants.{Status, Fault, Cut}

abbrev pub view_outcome : Outcome → machine.Outcome
view_outcome (Status status) = machine.Status status
view_outcome (Fault fault place) = machine.Faulted fault place
view_outcome Cut = machine.Cut
