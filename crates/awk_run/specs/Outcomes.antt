-- How a run ended (POSIX.1-2017 XCU awk, "EXIT STATUS").
use Rattle.std.specs.Prelude.{Bool, true, false, ℕ, unwrap_or, if◌then◌else◌}
use Rattle.awk_streams.specs.declared.halt.Halt.{Halt}
use Rattle.awk_streams.specs.declared.halt.Halt.TheVariants as halt
use Rattle.awk_store.specs.Kept.{Kept}
use Rattle.awk_store.specs.declared.phase.Phase.{Phase}
use Rattle.awk_store.specs.declared.phase.Phase.TheVariants.{Ending}
use Rattle.awk_text.specs.declared.fault.Fault as t
use Rattle.awk_text.specs.declared.fault.Fault.TheVariants.{Memory as NoMemory, Log as NoLog}
use Rattle.awk_text.specs.declared.place.Place.{Place}
use Rattle.awk_machine.specs.Pieces.{nowhere}
use Rattle.awk_run.specs.declared.ends.End.{End}
use Rattle.awk_run.specs.declared.ends.End.TheVariants.{Open, Memory, Log}
use Rattle.awk_run.specs.declared.report.Outcome.{Outcome}
use Rattle.awk_run.specs.declared.report.Outcome.TheVariants.{Status, Fault, Cut}

-- the script's own, 2 for a fault, 4 where the step bound ended the run
abbrev pub status_of : Outcome → ℕ
status_of (Status status) = status
status_of (Fault fault place) = 2
status_of Cut = 4

-- the status that an `exit` gave, or 2 where an operand failed
abbrev pub own_status : Kept → ℕ
own_status kept = unwrap_or kept.status (if kept.main.failed then 2 else 0)

-- after an `exit` outside of END its actions are done
abbrev pub is_before_end : Phase → Bool
is_before_end Ending = false
is_before_end other = true

abbrev pub goes_to_end : Halt → Phase → Bool
goes_to_end halt.Exit phase = is_before_end phase
goes_to_end other phase = false

-- what a halt comes to at the end of a run's own work
abbrev pub last_exit : Phase → Kept → End
last_exit Ending kept = Open (Status (own_status kept))
last_exit other kept = Memory

abbrev pub last : Halt → Kept → End
last (halt.Fault fault place) kept = Open (Fault fault place)
last halt.Cut kept = Open Cut
last halt.Next kept = Open (Status (own_status kept))
last halt.Exit kept = last_exit kept.phase kept
last halt.Memory kept = Memory
last (halt.Log place) kept = Log place

-- the outcome of a run that ends as it stands
abbrev pub at_once : Halt → Outcome
at_once (halt.Log place) = Fault NoLog place
at_once other = Fault NoMemory nowhere

-- the outcome of a run whose streams are shut: the fault of the log is of a request alone
abbrev pub own_fault : t.Fault → Place → Outcome
own_fault NoLog place = Fault NoMemory nowhere
own_fault fault place = Fault fault place

abbrev pub own : Outcome → Outcome
own (Status status) = Status status
own (Fault fault place) = own_fault fault place
own Cut = Cut
