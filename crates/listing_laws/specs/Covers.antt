-- Which request of a run a site covers, and what that says of a policy.
use Rattle.std.specs.Prelude.{◌≡◌, ℕ, false, List, [], ◌∷◌, Option, Some, None, All, Contains, IsSome}
use Rattle.awk_text.specs.declared.place.Place.{Place}
use Rattle.awk_machine.specs.Pieces.{Outcome}
use Rattle.awk_machine.specs.Plays.{Plays}
use Rattle.awk_machine.specs.State.{Given}
use Rattle.box_world.specs.Events.{Want, Event, request_of}
use Rattle.box_policy.specs.Rulebook.{Rulebook}
use Rattle.box_monitor.specs.Denials.{denial_at}
use Rattle.box_monitor.specs.Passed.{after_events, denial_after}
use Rattle.box_monitor.specs.Subjects.{Subject, subject_of}
use Rattle.box_listing.specs.Listings.{IsListing}
use Rattle.box_listing.specs.Verdicts.{verdict}
use Rattle.box_listing.specs.declared.site.Site.{Site}
use Rattle.box_listing.specs.declared.site.Sort.{Sort}
use Rattle.box_listing.specs.declared.verdict.Verdict.TheVariants.{Clean, Refused}

-- ---- covering

-- the site's text, where it has one
abbrev pub IsText : Option (List ℕ) → List ℕ → Type 0
IsText None text = Unit {0}
IsText (Some x) text = x ≡ text

-- the site stands at the place, is of the kind, and has no other text
pub record Covers (site : Site) (place : Place) (subject : Subject) : Type 0 where
  pub same_place : site.place ≡ place
  pub same_kind : site.kind ≡ subject.kind
  pub same_text : IsText site.text subject.text

-- what a policy decides of a request; it has nothing to do with which streams are open
abbrev pub subject_of_want : Want → Option Subject
subject_of_want w = subject_of (request_of w.wish [])

-- one of the sites covers what a policy could deny
abbrev pub IsCoveredAt : List Site → Place → Option Subject → Type 0
IsCoveredAt sites place None = Unit {0}
IsCoveredAt sites place (Some subject) = (site : Site) × Contains sites site × Covers site place subject

abbrev pub IsCovered : List Site → Event → Type 0
IsCovered sites e = IsCoveredAt sites e.want.place (subject_of_want e.want)

-- ---- denials

-- of these events, the newest first, the policy denies none after those before it
abbrev pub AllAllowed : Rulebook → List Event → Type 0
AllAllowed book [] = Unit {0}
AllAllowed book (e ∷ es) = (denial_after book es e.want ≡ None) × AllAllowed book es

-- ---- the laws

-- each request of each run that a policy could deny, after some events, is covered by a site of the listing
abbrev pub AllCovered : Type 0
AllCovered =
    (g : Given) (order : List Sort) (sites : List Site) (events : List Event) (o : Outcome) (n : ℕ) (last : Option Want)
    →
    IsListing g.program order g.names_environ sites → Plays g events o n last → All (IsCovered sites) events

-- of a script that is clean under a policy, no run has a request that the policy denies
abbrev pub NoneDenied : Type 0
NoneDenied =
    (g : Given) (order : List Sort) (book : Rulebook) (sites : List Site) (events : List Event) (o : Outcome) (n : ℕ)
    (last : Option Want) →
    IsListing g.program order g.names_environ sites → verdict book sites ≡ Clean → Plays g events o n last →
    AllAllowed book events

-- a site that is refused has a text, and what it covers is denied after whatever events, where it is no operand that
-- was given
abbrev pub RefusedDenied : Type 0
RefusedDenied =
    (book : Rulebook) (sites refused : List Site) (site : Site) (events : List Event) (place : Place)
    (subject : Subject) →
    verdict book sites ≡ Refused refused → Contains refused site → Covers site place subject →
    IsSome site.text × IsSome (denial_at (after_events book events) place false (Some subject))
