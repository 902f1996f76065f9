-- What of a list of events is passed on to the world behind, and what of it the log tells. The newest event comes
-- first, and each is judged after those before it.
use Rattle.std.specs.Prelude.{◌≡◌, List, [], ◌∷◌, ◌++◌, if◌then◌else◌, is_none, IsSome, Option, None, Some}
use Rattle.std.specs.Prelude.{option_to_list}
use Rattle.box_policy.specs.Rulebook.{Rulebook}
use Rattle.box_policy.specs.declared.policy.Kind.TheVariants.{Run, Env, Assign}
use Rattle.box_world.specs.Events.{Event, Want, Wish, Opens, Reads, Writes, Shuts, Runs, Looks, Assigns}
use Rattle.box_world.specs.declared.ask.Reply.TheVariants.{Failed}
use Rattle.box_monitor.specs.Denials.{after_subject, denial_at}
use Rattle.box_monitor.specs.Subjects.{Subject, kind_of}
use Rattle.box_monitor.specs.Told.{Told}

-- the subject of a wish, as that of the request that it becomes
abbrev pub subject_of_wish : Wish → Option Subject
subject_of_wish (Opens mode class text) = Some (record { kind = kind_of mode; text = text })
subject_of_wish (Runs command) = Some (record { kind = Run; text = command })
subject_of_wish (Looks name) = Some (record { kind = Env; text = name })
subject_of_wish (Assigns name text) = Some (record { kind = Assign; text = name })
subject_of_wish (Reads key) = None
subject_of_wish (Writes key bytes) = None
subject_of_wish (Shuts key) = None

-- what is told where the policy denies what is wanted
abbrev pub denial_of_want : Rulebook → Want → Option Told
denial_of_want book want = denial_at book want.place want.given (subject_of_wish want.wish)

-- the policy after one more event: an allowed request was counted for the rule that allows it
abbrev pub after_want : Rulebook → Want → Rulebook
after_want book want = after_subject book want.given (subject_of_wish want.wish)

-- the policy after these events
abbrev pub after_events : Rulebook → List Event → Rulebook
after_events book [] = book
after_events book (e ∷ es) = after_want (after_events book es) e.want

-- what is told where the policy denies, after these events, what is wanted
abbrev pub denial_after : Rulebook → List Event → Want → Option Told
denial_after book es want = denial_of_want (after_events book es) want

-- the events that are not denied
abbrev pub passed_on : Rulebook → List Event → List Event
passed_on book [] = []
passed_on book (e ∷ es) = if is_none (denial_after book es e.want) then e ∷ passed_on book es else passed_on book es

-- what is told of the denied ones, the oldest first
abbrev pub told_of : Rulebook → List Event → List Told
told_of book [] = []
told_of book (e ∷ es) = told_of book es ++ option_to_list (denial_after book es e.want)

-- each denied one failed
abbrev pub DeniedFail : Rulebook → List Event → Type 0
DeniedFail book [] = Unit {0}
DeniedFail book (e ∷ es) = (IsSome (denial_after book es e.want) → e.reply ≡ Failed) × DeniedFail book es
