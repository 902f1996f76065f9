-- What a program reads of a run that is over, and of one that was refused: a JSON object (RFC 8259).
use Rattle.std.specs.Prelude.{ℕ, List, ◌++◌, codes}
use Rattle.std.specs.Fmt.{decimal}
use Rattle.serde_json.specs.Data.{Data, null, number, unsigned, string, object, member, no_members}
use Rattle.awk_run.specs.Outcomes.{status_of}
use Rattle.awk_run.specs.declared.report.Outcome.{Outcome}
use Rattle.awk_run.specs.declared.report.Outcome.TheVariants.{Status, Fault as Faulted, Cut}
use Rattle.awk_text.specs.Faults.{code_of, fault_text}
use Rattle.awk_text.specs.declared.fault.Fault.{Fault}
use Rattle.awk_text.specs.declared.place.Place.{Place}
use Rattle.awkbox.specs.Endings.{ending_of_outcome}
use Rattle.awkbox.specs.Messages.{message_status, message_text}
use Rattle.awkbox.specs.declared.account.Account.{Account}
use Rattle.awkbox.specs.declared.account.Account.TheVariants.{Ran, Refused}
use Rattle.awkbox.specs.declared.messages.Ending.{Ending}
use Rattle.awkbox.specs.declared.messages.Ending.TheVariants.{Said}
use Rattle.box_monitor.specs.declared.log_end.LogEnd.{LogEnd}
use Rattle.box_monitor.specs.declared.log_end.LogEnd.TheVariants.{Whole, Part, Unsure}

-- how the program ends
abbrev pub ending_of_account : Account → Ending
ending_of_account (Ran report denials log_end) = ending_of_outcome report.outcome
ending_of_account (Refused message) = Said message

-- the exit status
abbrev pub status_of_account : Account → ℕ
status_of_account (Ran report denials log_end) = status_of report.outcome
status_of_account (Refused message) = message_status message

-- how many requests were denied
abbrev pub denials_of : Account → ℕ
denials_of (Ran report denials log_end) = denials
denials_of (Refused message) = 0

-- how many steps were taken
abbrev pub steps_of : Account → ℕ
steps_of (Ran report denials log_end) = report.used
steps_of (Refused message) = 0

-- the word for how a run ended
abbrev pub outcome_word : Outcome → List ℕ
outcome_word (Status status) = codes "status"
outcome_word (Faulted fault place) = codes "fault"
outcome_word Cut = codes "cut"

abbrev pub word_of : Account → List ℕ
word_of (Ran report denials log_end) = outcome_word report.outcome
word_of (Refused message) = codes "refused"

-- the word for how the log stands
abbrev pub log_word : LogEnd → List ℕ
log_word Whole = codes "whole"
log_word Part = codes "part"
log_word Unsure = codes "unsure"

abbrev pub log_data : Account → Data
log_data (Ran report denials log_end) = string (log_word log_end)
log_data (Refused message) = null

-- a fault, by its code, its text and its place
abbrev pub fault_members : Fault → Place → Data
fault_members fault place = object
    (member (codes "code") (string (codes "F" ++ decimal (code_of fault)))
    (member (codes "column") (number (unsigned place.column))
    (member (codes "line") (number (unsigned place.line))
    (member (codes "text") (string (fault_text fault)) no_members))))

abbrev pub outcome_data : Outcome → Data
outcome_data (Status status) = null
outcome_data (Faulted fault place) = fault_members fault place
outcome_data Cut = null

abbrev pub fault_data : Account → Data
fault_data (Ran report denials log_end) = outcome_data report.outcome
fault_data (Refused message) = null

-- a refusal, by the line on standard error
abbrev pub refusal_data : Account → Data
refusal_data (Ran report denials log_end) = null
refusal_data (Refused message) = string (message_text message)

-- the whole object
abbrev pub account_data : Account → Data
account_data account = object
    (member (codes "denials") (number (unsigned (denials_of account)))
    (member (codes "exit_status") (number (unsigned (status_of_account account)))
    (member (codes "fault") (fault_data account)
    (member (codes "log") (log_data account)
    (member (codes "outcome") (string (word_of account))
    (member (codes "refusal") (refusal_data account)
    (member (codes "steps") (number (unsigned (steps_of account))) no_members)))))))
