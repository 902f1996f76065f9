-- What contracts see of an audit.
use Rattle.std.specs.Prelude.{ℕ, ◌-◌, false, List, length, take, Option, None, Some, if◌then◌else◌}
use Rattle.std.specs.Io.KnownBytes.{Appends}
use Rattle.box_monitor.specs.Stops.{LogEnds}
use Rattle.box_monitor.specs.declared.log_end.LogEnd.{LogEnd}
use Rattle.box_monitor.specs.declared.log_end.LogEnd.TheVariants.{Whole}
use Rattle.box_audit.specs.declared.watched.Halt.{Halt}

-- the world behind, the log where there is one, and how it stopped, or none while it goes on
pub record Audit (W L : Type 0) : Type 0 where
  pub world : W
  pub log : Option L
  pub halt : Option Halt

-- The numbers that are open to who asks. A stream that was opened by an ask without an answer is the last of those that
-- are open behind, and is none of them.
abbrev pub numbers_told : Option Halt → List ℕ → List ℕ
numbers_told None numbers = numbers
numbers_told (Some halt) numbers = if halt.has_opened then take (length numbers - 1) numbers else numbers

-- where there is a log, its known bytes grow by the text
abbrev pub Grows : {L : Type 0} → (L → Option (List ℕ)) → Option L → Option L → List ℕ → Type 0
Grows contents None None text = Unit {0}
Grows contents (Some log) (Some grown) text = Appends (contents log) (contents grown) text
Grows contents log grown text = ⊥

-- the log's known bytes grow by the text, and end so within the line
abbrev pub BreaksOff : {L : Type 0} → (L → Option (List ℕ)) → LogEnd → Option L → Option L → List ℕ → List ℕ → Type 0
BreaksOff contents end (Some log) (Some grown) text line = LogEnds (Some end) (contents log) (contents grown) text line
BreaksOff contents end log grown text line = ⊥

-- the world behind stopped, with all lines in the log
abbrev pub halt_behind : Halt
halt_behind = record { log_end = Whole; has_opened = false }

-- how the log stands
abbrev pub log_end_of : Option Halt → LogEnd
log_end_of None = Whole
log_end_of (Some halt) = halt.log_end
