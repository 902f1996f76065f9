-- What an audit tells of a request that was passed on, and its lines. Those that a policy decides on have one.
use Rattle.std.specs.Prelude.{ℕ, Bool, true, false, List, [], ◌∷◌, ◌++◌, Option, None, Some, codes, flat_map}
use Rattle.std.specs.Prelude.{option_to_list}
use Rattle.std.specs.List.{concat}
use Rattle.std.specs.Fmt.{decimal}
use Rattle.awk_text.specs.Quoted.{quoted}
use Rattle.awk_text.specs.declared.place.Place.{Place}
use Rattle.box_monitor.specs.Lines.{kind_word}
use Rattle.box_monitor.specs.Subjects.{Subject, subject_of}
use Rattle.box_world.specs.Calls.{Call}
use Rattle.box_world.specs.declared.ask.Reply.{Reply}
use Rattle.box_world.specs.declared.ask.Reply.TheVariants.{Failed}

-- its place, its kind with its path, command or name, and whether it failed
pub record Audited : Type 0 where
  pub place : Place
  pub subject : Subject
  pub failed : Bool

abbrev pub is_failed : Reply → Bool
is_failed Failed = true
is_failed reply = false

-- what is told of a subject, once there is a reply
abbrev pub audited_at : Place → Option Subject → Reply → Option Audited
audited_at place None reply = None
audited_at place (Some subject) reply = Some (record { place = place; subject = subject; failed = is_failed reply })

abbrev pub audited_of : Call → Option Audited
audited_of call = audited_at call.0.place (subject_of call.0.request) call.1

-- what is told of calls, in order
abbrev pub audited : List Call → List Audited
audited calls = flat_map (λ call. option_to_list (audited_of call)) calls

abbrev pub outcome_word : Bool → List ℕ
outcome_word true = codes "failed"
outcome_word false = codes "ok"

-- what stands before the text: `LINE:COLUMN KIND OUTCOME "`
abbrev pub line_start : Audited → List ℕ
line_start a =
    concat (decimal a.place.line ∷ codes ":" ∷ decimal a.place.column ∷ codes " " ∷ kind_word a.subject.kind
    ∷ codes " " ∷ outcome_word a.failed ∷ codes " \"" ∷ [])

-- `LINE:COLUMN KIND OUTCOME "TEXT"` and a newline
abbrev pub line_of : Audited → List ℕ
line_of a = line_start a ++ quoted a.subject.text ++ codes "\"\n"

-- the lines in order
abbrev pub audit_text : List Audited → List ℕ
audit_text all = flat_map line_of all
