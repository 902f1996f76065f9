-- How the program ends after a run, or after a refusal of one.
use Rattle.std.specs.Prelude.{◌≡◌, ℕ, List, Result, Ok, Err}
use Rattle.awkbox.specs.Messages.{message_status, SaysCannotReport}
use Rattle.awkbox.specs.declared.messages.Message.{Message}
use Rattle.awkbox.specs.declared.messages.Message.TheVariants as says
use Rattle.awkbox.specs.declared.messages.Ending.{Ending}
use Rattle.awkbox.specs.declared.messages.Ending.TheVariants.{Quiet, Said}
use Rattle.awkbox.specs.declared.accepting.Refusal.{Refusal}
use Rattle.awkbox.specs.declared.accepting.Refusal.TheVariants.{Policy, Script, Assign}
use Rattle.awkbox.specs.declared.listing_refusal.ListingRefusal.{ListingRefusal}
use Rattle.awkbox.specs.declared.listing_refusal.ListingRefusal.TheVariants as listing
use Rattle.awk_run.specs.declared.report.Outcome.{Outcome}
use Rattle.awk_run.specs.declared.report.Outcome.TheVariants.{Status, Fault, Cut}
use Rattle.awk_run.specs.declared.report.Report.{Report}

abbrev pub ending_of_outcome : Outcome → Ending
ending_of_outcome (Status status) = Quiet status
ending_of_outcome (Fault fault place) = Said (says.Fault fault place)
ending_of_outcome Cut = Said says.StepBound

abbrev pub message_of_refusal : Refusal → Message
message_of_refusal (Policy error) = says.Policy error
message_of_refusal (Script error) = says.Script error
message_of_refusal (Assign pair) = says.Assignment pair

abbrev pub message_of_listing : ListingRefusal → Message
message_of_listing (listing.Policy error) = says.Policy error
message_of_listing (listing.Script error) = says.Script error
message_of_listing listing.Memory = says.OutOfMemory

-- what a run's answer is told by
abbrev pub ending_of : Result Report Refusal → Ending
ending_of (Ok report) = ending_of_outcome report.outcome
ending_of (Err refusal) = Said (message_of_refusal refusal)

-- the exit status
abbrev pub ending_status : Ending → ℕ
ending_status (Quiet status) = status
ending_status (Said message) = message_status message

-- what a run ends with whose report could not be written to the file of this name, in place of its own ending
abbrev pub EndsUnreported : List ℕ → Ending → Ending → Type 0
EndsUnreported name (Quiet status) (Said message) = SaysCannotReport name message
EndsUnreported name (Quiet status) (Quiet other) = ⊥
EndsUnreported name (Said message) ending = ending ≡ Said message
