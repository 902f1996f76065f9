-- What a policy says of a listing before a run.
use Rattle.std.specs.Prelude.{◌≡◌, Bool, true, false, List, [], ◌∷◌, Option, Some, None, filter}
use Rattle.awk_program.specs.Program.{Program}
use Rattle.awk_program.specs.Slots.{Text}
use Rattle.box_policy.specs.declared.policy.Kind.{Kind}
use Rattle.box_policy.specs.declared.policy.Outlook.{Outlook}
use Rattle.box_policy.specs.declared.policy.Outlook.TheVariants.{Always, Never, Sometimes}
use Rattle.box_policy.specs.Decisions.{outlook}
use Rattle.box_policy.specs.Rulebook.{Rulebook}
use Rattle.box_listing.specs.Listings.{IsListing}
use Rattle.box_listing.specs.declared.site.Site.{Site}
use Rattle.box_listing.specs.declared.site.Sort.{Sort}
use Rattle.box_listing.specs.declared.verdict.Verdict.{Verdict}
use Rattle.box_listing.specs.declared.verdict.Verdict.TheVariants.{Clean, Open, Refused}

-- what a policy says of a text that is known, where it is no operand of the run
abbrev pub outlook_at : Rulebook → Kind → Option Text → Option Outlook
outlook_at book kind None = None
outlook_at book kind (Some text) = Some (outlook book kind text false)

-- it is known and never allowed
abbrev pub denies : Option Outlook → Bool
denies None = false
denies (Some Always) = false
denies (Some Never) = true
denies (Some Sometimes) = false

abbrev pub is_denied : Rulebook → Site → Bool
is_denied book site = denies (outlook_at book site.kind site.text)

-- it is not known, or it is allowed as long as a limit lasts
abbrev pub leaves_open : Option Outlook → Bool
leaves_open None = true
leaves_open (Some Always) = false
leaves_open (Some Never) = false
leaves_open (Some Sometimes) = true

abbrev pub is_open : Rulebook → Site → Bool
is_open book site = leaves_open (outlook_at book site.kind site.text)

-- the denied sites, where there are any; else the open ones; else all are known and always allowed
abbrev pub verdict_by : (denied undecided : List Site) → Verdict
verdict_by (x ∷ xs) undecided = Refused (x ∷ xs)
verdict_by [] (y ∷ ys) = Open (y ∷ ys)
verdict_by [] [] = Clean

abbrev pub verdict : Rulebook → List Site → Verdict
verdict book sites = verdict_by (filter (is_denied book) sites) (filter (is_open book) sites)

-- the verdict on the listing of a program, which names ENVIRON or not
pub record IsVerdict (program : Program) (order : List Sort) (names : Bool) (book : Rulebook) (result : Verdict) : Type
    0 where
  pub sites : List Site
  pub listing : IsListing program order names sites
  pub is : result ≡ verdict book sites
