-- What a policy denies, and what it allows.
use Rattle.std.specs.Prelude.{ℕ, Bool, Option, None, Some}
use Rattle.awk_text.specs.declared.place.Place.{Place}
use Rattle.box_policy.specs.Counts.{noted}
use Rattle.box_policy.specs.Decisions.{decision}
use Rattle.box_policy.specs.Rulebook.{Rulebook}
use Rattle.box_policy.specs.declared.policy.Decision.{Decision}
use Rattle.box_policy.specs.declared.policy.Decision.TheVariants.{Allow, Deny, NoRule}
use Rattle.box_world.specs.declared.ask.Ask.{Ask}
use Rattle.box_monitor.specs.Subjects.{Subject, subject_of}
use Rattle.box_monitor.specs.Told.{Told}

-- ---- denials

-- what is told of a subject that this is decided on: nothing where it is allowed
abbrev pub told_at : Place → Subject → Decision → Option Told
told_at place subject (Allow n) = None
told_at place subject (Deny n) =
    Some (record { place = place; kind = subject.kind; rule = Some n; text = subject.text })
told_at place subject NoRule = Some (record { place = place; kind = subject.kind; rule = None; text = subject.text })

-- What is told where the policy denies the subject. It speaks of no request, so it serves whatever
-- has a place, a subject and a `given`.
abbrev pub denial_at : Rulebook → Place → Bool → Option Subject → Option Told
denial_at book place given None = None
denial_at book place given (Some subject) = told_at place subject (decision book subject.kind subject.text given)

-- what is told of an ask that the policy denies, and nothing of another
abbrev pub denial_of : Rulebook → Ask → Option Told
denial_of book ask = denial_at book ask.place ask.given (subject_of ask.request)

-- ---- counts

-- the rule that allows
abbrev pub allowing : Decision → Option ℕ
allowing (Allow n) = Some n
allowing (Deny n) = None
allowing NoRule = None

-- the rule that allows the subject
abbrev pub rule_for : Rulebook → Bool → Option Subject → Option ℕ
rule_for book given None = None
rule_for book given (Some subject) = allowing (decision book subject.kind subject.text given)

-- the policy once this rule has allowed one more request
abbrev pub with_noted : Option ℕ → Rulebook → Rulebook
with_noted None book = book
with_noted (Some n) book = noted n book

-- the policy after one more request of this subject that was answered: a denied one changes nothing
abbrev pub after_subject : Rulebook → Bool → Option Subject → Rulebook
after_subject book given subject = with_noted (rule_for book given subject) book

abbrev pub after_ask : Rulebook → Ask → Rulebook
after_ask book ask = after_subject book ask.given (subject_of ask.request)
