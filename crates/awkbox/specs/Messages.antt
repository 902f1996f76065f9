-- What the program says on standard error, one line each, and the exit status that goes with it.
use Rattle.std.specs.Prelude.{◌≡◌, ℕ, List, ◌++◌, codes, string_bytes}
use Rattle.std.specs.Fmt.{decimal}
use Rattle.awk_text.specs.Faults.{code_of, fault_text}
use Rattle.awk_text.specs.Places.{place_text}
use Rattle.awk_text.specs.Quoted.{quoted}
use Rattle.awk_text.specs.declared.fault.Fault.TheVariants.{StepBound as F11, Memory as F13}
use Rattle.awk_tokens.specs.Refusals.{refusal_text}
use Rattle.awkbox.specs.declared.messages.Message.{Message}
use Rattle.awkbox.specs.declared.messages.Message.TheVariants.{Fault, StepBound, Policy, Script, Unspelled, Assignment}
use Rattle.awkbox.specs.declared.messages.Message.TheVariants.{CannotRead, CannotWrite, CannotReport, CannotEnter}
use Rattle.awkbox.specs.declared.messages.Message.TheVariants.{NotInBase, SmallStack, OutOfMemory}
use Rattle.awkbox.specs.declared.messages.Warning.{Warning}
use Rattle.awkbox.specs.declared.messages.OwnFile.{OwnFile}
use Rattle.awkbox.specs.declared.messages.OwnFile.TheVariants.{Log, Audit, Report}
use Rattle.awkbox.specs.declared.messages.OwnFile.TheVariants.{Policy as PolicyFile, Script as ScriptFile}
use Rattle.box_policy.specs.Refusals.{refusal_text as policy_text}

-- the line, without its newline
abbrev pub message_text : Message → List ℕ
message_text (Fault fault place) =
    codes "awkbox: " ++ place_text place ++ codes " F" ++ decimal (code_of fault) ++ codes " " ++ fault_text fault
message_text StepBound = codes "awkbox: F11 " ++ fault_text F11
message_text (Policy error) = codes "awkbox: policy " ++ policy_text error
message_text (Script error) = codes "awkbox: script " ++ refusal_text error
message_text (Unspelled pair) = codes "awkbox: assignment " ++ decimal pair ++ codes " U1"
message_text (Assignment pair) = codes "awkbox: assignment " ++ decimal pair ++ codes " U3"
message_text (CannotRead name) = codes "awkbox: cannot read \"" ++ string_bytes name ++ codes "\""
message_text (CannotWrite name) = codes "awkbox: cannot write \"" ++ string_bytes name ++ codes "\""
message_text (CannotReport name) = codes "awkbox: cannot write the report \"" ++ string_bytes name ++ codes "\""
message_text (CannotEnter name) = codes "awkbox: cannot enter \"" ++ string_bytes name ++ codes "\""
message_text (NotInBase base) = codes "awkbox: not started in the policy's base \"" ++ string_bytes base ++ codes "\""
message_text SmallStack = codes "awkbox: the stack is smaller than 8 MiB"
message_text OutOfMemory = codes "awkbox: F13 " ++ fault_text F13

-- 2 for a fault and a run without its report, 4 where the steps ran out, 3 where something was refused before the run
abbrev pub message_status : Message → ℕ
message_status (Fault fault place) = 2
message_status StepBound = 4
message_status (Policy error) = 3
message_status (Script error) = 3
message_status (Unspelled pair) = 3
message_status (Assignment pair) = 3
message_status (CannotRead name) = 3
message_status (CannotWrite name) = 3
message_status (CannotReport name) = 2
message_status (CannotEnter name) = 3
message_status (NotInBase base) = 3
message_status SmallStack = 3
message_status OutOfMemory = 2

-- a message that the file of this name cannot be read, or that memory was refused
abbrev pub SaysCannotRead : List ℕ → Message → Type 0
SaysCannotRead name (CannotRead shown) = string_bytes shown ≡ quoted name
SaysCannotRead name OutOfMemory = Unit {0}
SaysCannotRead name message = ⊥

-- a message that the file of this name cannot be written, or that memory was refused
abbrev pub SaysCannotWrite : List ℕ → Message → Type 0
SaysCannotWrite name (CannotWrite shown) = string_bytes shown ≡ quoted name
SaysCannotWrite name OutOfMemory = Unit {0}
SaysCannotWrite name message = ⊥

-- a message that the report of a run cannot be written to the file of this name, or that memory was refused
abbrev pub SaysCannotReport : List ℕ → Message → Type 0
SaysCannotReport name (CannotReport shown) = string_bytes shown ≡ quoted name
SaysCannotReport name OutOfMemory = Unit {0}
SaysCannotReport name message = ⊥

-- a message that the folder of this name cannot be entered, or that memory was refused
abbrev pub SaysCannotEnter : List ℕ → Message → Type 0
SaysCannotEnter name (CannotEnter shown) = string_bytes shown ≡ quoted name
SaysCannotEnter name OutOfMemory = Unit {0}
SaysCannotEnter name message = ⊥

-- a message that the program was not started in this base, or that memory was refused
abbrev pub SaysNotInBase : List ℕ → Message → Type 0
SaysNotInBase base (NotInBase shown) = string_bytes shown ≡ quoted base
SaysNotInBase base OutOfMemory = Unit {0}
SaysNotInBase base message = ⊥

-- the word for a file that a run is given
abbrev pub own_word : OwnFile → List ℕ
own_word Log = codes "log"
own_word Audit = codes "audit"
own_word Report = codes "report"
own_word PolicyFile = codes "policy"
own_word ScriptFile = codes "script"

-- a warning's line, without its newline
abbrev pub warning_text : Warning → List ℕ
warning_text warning =
    codes "awkbox: warning: the policy lets a script write the " ++ own_word warning.file ++ codes " \""
    ++ string_bytes warning.name ++ codes "\": rule " ++ decimal warning.rule

-- a warning that this rule lets the script write to this file, of this name
abbrev pub Warns : ℕ → OwnFile → List ℕ → Warning → Type 0
Warns rule file name warning = (warning.rule ≡ rule) × (warning.file ≡ file) × (string_bytes warning.name ≡ quoted name)
