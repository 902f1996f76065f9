-- What a policy's text says of the sites that are listed of a script's text.
use Rattle.std.proofs.Common.{◌≡◌, ℕ, List, Option}
use Rattle.awk_numbers.specs.declared.number.Numbers.{Numbers}
use Rattle.box_listing.specs.Verdicts.{verdict}
use Rattle.box_listing.specs.declared.site.Site.{Site}
use Rattle.box_listing.specs.declared.verdict.Verdict.{Verdict}
use Rattle.box_policy.specs.Rebased.{WrittenUnder}
use Rattle.box_policy.specs.Rulebook.{Rulebook}
use Rattle.awkbox.specs.Answers.{IsCheckRefused, IsJudged, IsListed, IsListRefused}
use Rattle.awkbox.specs.declared.listing_refusal.ListingRefusal.{ListingRefusal}
use Rattle.awkbox.specs.declared.listing_refusal.ListingRefusal.TheVariants.{Policy, Script, Memory}

pub judged : (numbers : Numbers) (base : Option (List ℕ)) (policy text : List ℕ) (book : Rulebook)
    (sites : List Site) (v : Verdict)
    → WrittenUnder base policy book → IsListed numbers text sites → v ≡ verdict book sites
    → IsJudged numbers base policy text v
judged numbers base policy text book sites v written listed is = (
  book,
  written,
  (listed.0, listed.1, listed.2, record { sites = sites; listing = listed.3; is = is }, listed.4),
)

-- a script that has no listing has no verdict under the policy that was read before
pub refused_under : (numbers : Numbers) (base : Option (List ℕ)) (policy text : List ℕ) (book : Rulebook)
    (refusal : ListingRefusal)
    → WrittenUnder base policy book → IsListRefused numbers text refusal
    → IsCheckRefused numbers base policy text refusal
refused_under numbers base policy text book (Policy e) written h = absurd h
refused_under numbers base policy text book (Script e) written h = (book, written, h)
refused_under numbers base policy text book Memory written h = tt
