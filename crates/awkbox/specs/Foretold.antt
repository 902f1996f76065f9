-- What the listing of a text and the verdict on it say of runs, before any run.
use Rattle.std.specs.Prelude.{ℕ, List, Option, All, Contains}
use Rattle.awk_machine.specs.Pieces.{Outcome}
use Rattle.awk_machine.specs.Plays.{Plays}
use Rattle.awk_numbers.specs.declared.number.Numbers.{Numbers}
use Rattle.awk_parse.specs.declared.script.Script.{Script}
use Rattle.awk_run.specs.Givens.{given_of}
use Rattle.awk_run.specs.SetupParts.{SetupParts}
use Rattle.box_listing.specs.declared.site.Site.{Site}
use Rattle.box_listing.specs.declared.verdict.Verdict.TheVariants.{Clean, Refused}
use Rattle.box_policy.specs.Rebased.{WrittenUnder}
use Rattle.box_policy.specs.Rulebook.{Rulebook}
use Rattle.box_world.specs.Events.{Event, Want}
use Rattle.listing_laws.specs.Covers.{AllAllowed, IsCovered}
use Rattle.listing_laws.specs.Foretold.{IsRefusedSite}
use Rattle.awkbox.specs.Accepted.{ReadsScript}
use Rattle.awkbox.specs.Answers.{IsJudged, IsListed}

-- each event of each run of the text that a policy could deny is covered by one of its sites
abbrev pub TextCovered : Type 0
TextCovered =
    (text : List ℕ) (s : Script) (sites : List Site) → IsListed s.numbers text sites → ReadsScript text s →
    (setup : SetupParts) (steps : ℕ) (events : List Event) (o : Outcome) (used : ℕ) (last : Option Want) →
    Plays (given_of s setup steps) events o used last →
    All (IsCovered sites) events

-- of a text that is clean under a policy's text, with its own base or the one that is given, no run has an event that
-- the policy denies after those before it
abbrev pub TextAllowed : Type 0
TextAllowed =
    (base : Option (List ℕ)) (policy text : List ℕ) (book : Rulebook) (s : Script) →
    IsJudged s.numbers base policy text Clean → WrittenUnder base policy book → ReadsScript text s →
    (setup : SetupParts) (steps : ℕ) (events : List Event) (o : Outcome) (used : ℕ) (last : Option Want) →
    Plays (given_of s setup steps) events o used last →
    AllAllowed book events

-- of each site that the verdict refuses, whatever the runs are: what it covers is denied, unless it is an operand's
-- that was given
abbrev pub TextDenied : Type 0
TextDenied =
    (numbers : Numbers) (base : Option (List ℕ)) (policy text : List ℕ) (book : Rulebook) (refused : List Site)
    (site : Site) →
    IsJudged numbers base policy text (Refused refused) → WrittenUnder base policy book →
    Contains refused site → IsRefusedSite book site
