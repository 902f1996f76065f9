-- What is answered of a script's text: its listing, what a policy's text says of it, and what is printed of both.
use Rattle.std.specs.Prelude.{◌≡◌, ℕ, Bool, true, false, List, Option}
use Rattle.awk_numbers.specs.declared.number.Numbers.{Numbers}
use Rattle.awk_parse.specs.declared.script.Script.{Script as Parsed}
use Rattle.awk_tree.specs.Tree.{Entry}
use Rattle.box_listing.specs.Json.{judged_lines, site_lines}
use Rattle.box_listing.specs.Lines.{lines_of, verdict_lines}
use Rattle.box_listing.specs.Scripts.{IsListingOf, IsVerdictOf}
use Rattle.box_listing.specs.Verdicts.{verdict as verdict_on}
use Rattle.box_listing.specs.declared.site.Site.{Site}
use Rattle.box_listing.specs.declared.verdict.Verdict.{Verdict}
use Rattle.box_listing.specs.declared.verdict.Verdict.TheVariants.{Clean, Open, Refused}
use Rattle.box_policy.specs.Rebased.{IsRefusedUnder, WrittenUnder}
use Rattle.box_policy.specs.Rulebook.{Rulebook}
use Rattle.awkbox.specs.Scripts.{Spells, IsScriptRefused}
use Rattle.awkbox.specs.declared.answers.Answer.{Answer}
use Rattle.awkbox.specs.declared.answers.Format.{Format}
use Rattle.awkbox.specs.declared.answers.Format.TheVariants.{Lines, Json}
use Rattle.awkbox.specs.declared.listing_refusal.ListingRefusal.{ListingRefusal}
use Rattle.awkbox.specs.declared.listing_refusal.ListingRefusal.TheVariants.{Policy, Script, Memory}

-- ---- the listing and the verdict

-- the text spells a script, by this profile, of which these are the sites
abbrev pub IsListed : Numbers → List ℕ → List Site → Type 0
IsListed numbers text sites =
    (script : Parsed) × (items : List Entry) × Spells text items script
    × IsListingOf script items sites × (script.numbers ≡ numbers)

-- the texts write a policy, under its own base or the one that is given, and spell a script, by this profile, of which
-- it says this
abbrev pub IsJudged : Numbers → Option (List ℕ) → (policy text : List ℕ) → Verdict → Type 0
IsJudged numbers base policy text verdict =
    (book : Rulebook) × WrittenUnder base policy book
    × ((script : Parsed) × (items : List Entry) × Spells text items script
    × IsVerdictOf script items book verdict × (script.numbers ≡ numbers))

-- ---- what is refused; memory may be refused whatever the texts are

abbrev pub IsListRefused : Numbers → List ℕ → ListingRefusal → Type 0
IsListRefused numbers text (Policy e) = ⊥
IsListRefused numbers text (Script e) = IsScriptRefused numbers text e
IsListRefused numbers text Memory = Unit {0}

-- the policy and its base before the script
abbrev pub IsCheckRefused : Numbers → Option (List ℕ) → (policy text : List ℕ) → ListingRefusal → Type 0
IsCheckRefused numbers base policy text (Policy e) = IsRefusedUnder base policy e
IsCheckRefused numbers base policy text (Script e) =
    (book : Rulebook) × WrittenUnder base policy book × IsScriptRefused numbers text e
IsCheckRefused numbers base policy text Memory = Unit {0}

-- ---- what is printed, and the exit status

-- 0, of what is no verdict
pub record IsPlain (answer : Answer) : Type 0 where
  pub status : answer.status ≡ 0
  pub not_open : answer.is_open ≡ false

-- the sites, on lines or as JSON
abbrev pub told : Format → List Site → List ℕ
told Lines sites = lines_of sites
told Json sites = site_lines sites

abbrev pub Lists : Format → Numbers → List ℕ → Answer → Type 0
Lists format numbers text answer =
    (sites : List Site) × IsListed numbers text sites × (answer.lines.items ≡ told format sites) × IsPlain answer

-- 0 where a policy has nothing against a script
abbrev pub status_of : Verdict → ℕ
status_of Clean = 0
status_of (Open sites) = 1
status_of (Refused sites) = 1

abbrev pub is_open : Verdict → Bool
is_open Clean = false
is_open (Open sites) = true
is_open (Refused sites) = false

-- the status and the word of the verdict
pub record IsOf (verdict : Verdict) (answer : Answer) : Type 0 where
  pub status : answer.status ≡ status_of verdict
  pub openness : answer.is_open ≡ is_open verdict

-- the verdict on the sites with those that it is about, or as JSON each site with what is said of it
abbrev pub judgement : Format → Rulebook → List Site → List ℕ
judgement Lines book sites = verdict_lines (verdict_on book sites)
judgement Json book sites = judged_lines book sites

abbrev pub IsJudgement : Format → Rulebook → List Site → Answer → Type 0
IsJudgement format book sites answer =
    (answer.lines.items ≡ judgement format book sites) × IsOf (verdict_on book sites) answer

abbrev pub Checks : Format → Numbers → Option (List ℕ) → (policy text : List ℕ) → Answer → Type 0
Checks format numbers base policy text answer = (book : Rulebook) × WrittenUnder base policy book
    × ((sites : List Site) × IsListed numbers text sites × IsJudgement format book sites answer)
