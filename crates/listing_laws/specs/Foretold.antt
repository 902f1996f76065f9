-- What the listing of a script and the verdict on it say of its runs, before any run.
use Rattle.std.specs.Prelude.{◌≡◌, ℕ, false, List, Option, Some, None, All, Contains, IsSome}
use Rattle.awk_machine.specs.Pieces.{Outcome}
use Rattle.awk_machine.specs.Plays.{Plays}
use Rattle.awk_machine.specs.State.{Given}
use Rattle.awk_parse.specs.Scripts.{IsScriptOf}
use Rattle.awk_parse.specs.declared.script.Script.{Script}
use Rattle.awk_program.specs.View.{view_program}
use Rattle.awk_text.specs.declared.place.Place.{Place}
use Rattle.awk_tree.specs.Tree.{Entry}
use Rattle.box_listing.specs.Scripts.{IsListingOf, IsVerdictOf}
use Rattle.box_listing.specs.declared.site.Site.{Site}
use Rattle.box_listing.specs.declared.verdict.Verdict.TheVariants.{Clean, Refused}
use Rattle.box_monitor.specs.Passed.{denial_after, subject_of_wish}
use Rattle.box_monitor.specs.Subjects.{Subject}
use Rattle.box_policy.specs.Rulebook.{Rulebook}
use Rattle.box_world.specs.Events.{Event, Want}
use Rattle.listing_laws.specs.Covers.{AllAllowed, Covers, IsCovered}

-- What plain awk is given is of the script, whatever the setup and the bound are: so is what awk_run gives it.
pub record IsOf (s : Script) (g : Given) : Type 0 where
  pub program : g.program ≡ view_program s.program
  pub environ : g.names_environ ≡ s.names_environ

-- each event of each run of a script that a policy could deny is covered by one of its sites
abbrev pub ScriptCovered : Type 0
ScriptCovered =
    (items : List Entry) (s : Script) (sites : List Site) → IsScriptOf items s → IsListingOf s items sites →
    (g : Given) (events : List Event) (o : Outcome) (used : ℕ) (last : Option Want) →
    IsOf s g → Plays g events o used last → All (IsCovered sites) events

-- of a script that is clean under a policy, no run has an event that the policy denies after those before it
abbrev pub ScriptAllowed : Type 0
ScriptAllowed =
    (items : List Entry) (s : Script) (book : Rulebook) → IsScriptOf items s → IsVerdictOf s items book Clean →
    (g : Given) (events : List Event) (o : Outcome) (used : ℕ) (last : Option Want) →
    IsOf s g → Plays g events o used last → AllAllowed book events

-- ---- the sites that are refused

abbrev pub CoversAt : Site → Place → Option Subject → Type 0
CoversAt site place None = ⊥
CoversAt site place (Some subject) = Covers site place subject

-- what is wanted is something that a policy could deny, and the site covers it
abbrev pub CoversWant : Site → Want → Type 0
CoversWant site w = CoversAt site w.place (subject_of_wish w.wish)

-- the site has a text, and what it covers is denied after whatever events, unless it is an operand's that was given
abbrev pub IsRefusedSite : Rulebook → Site → Type 0
IsRefusedSite book site =
    IsSome site.text × ((events : List Event) (w : Want) → CoversWant site w → w.given ≡ false →
    IsSome (denial_after book events w))

-- so it is with each site of a script that its verdict refuses
abbrev pub ScriptDenied : Type 0
ScriptDenied =
    (items : List Entry) (s : Script) (book : Rulebook) (refused : List Site) (site : Site) →
    IsVerdictOf s items book (Refused refused) → Contains refused site →
    IsRefusedSite book site
