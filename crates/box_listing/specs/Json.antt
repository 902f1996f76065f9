-- The sites of a listing as JSON (RFC 8259), for other programs: an object on a line for each site.
use Rattle.std.specs.Prelude.{ℕ, List, ◌++◌, Option, None, Some, codes, flat_map, false}
use Rattle.std.specs.Str.Lossy.{utf8_lossy}
use Rattle.serde_json.specs.Data.{Data, null, number, unsigned, string, object, member, no_members}
use Rattle.serde_json.specs.Written.{compact_text}
use Rattle.awk_program.specs.Slots.{Text}
use Rattle.box_policy.specs.declared.policy.Decision.{Decision}
use Rattle.box_policy.specs.declared.policy.Decision.TheVariants.{Allow, Deny, NoRule}
use Rattle.box_policy.specs.declared.policy.Kind.{Kind}
use Rattle.box_policy.specs.declared.policy.Outlook.{Outlook}
use Rattle.box_policy.specs.declared.policy.Outlook.TheVariants.{Always, Never, Sometimes}
use Rattle.box_policy.specs.Decisions.{decision}
use Rattle.box_policy.specs.Rulebook.{Rulebook}
use Rattle.box_listing.specs.Lines.{kind_word}
use Rattle.box_listing.specs.Verdicts.{outlook_at}
use Rattle.box_listing.specs.declared.site.Site.{Site}

-- the text, with the replacement character U+FFFD in the place of what is not UTF-8; null where it is not known
abbrev pub text_data : Option Text → Data
text_data None = null
text_data (Some text) = string (utf8_lossy text)

-- ---- what a policy says of a site

-- of all requests of a run for it: each is allowed, or denied, or only a run can tell
abbrev pub verdict_word : Option Outlook → List ℕ
verdict_word None = codes "open"
verdict_word (Some Always) = codes "allowed"
verdict_word (Some Never) = codes "denied"
verdict_word (Some Sometimes) = codes "open"

abbrev pub rule_number : Decision → Data
rule_number (Allow n) = number (unsigned n)
rule_number (Deny n) = number (unsigned n)
rule_number NoRule = null

-- the rule that decides the next request for it; null where none does, and where the text is not known
abbrev pub rule_data : Rulebook → Kind → Option Text → Data
rule_data book kind None = null
rule_data book kind (Some text) = rule_number (decision book kind text false)

-- ---- the objects, whose members stand in the order of their names

abbrev pub site_data : Site → Data
site_data site = object
    (member (codes "column") (number (unsigned site.place.column))
    (member (codes "kind") (string (kind_word site.kind))
    (member (codes "line") (number (unsigned site.place.line))
    (member (codes "text") (text_data site.text) no_members))))

abbrev pub judged_data : Rulebook → Site → Data
judged_data book site = object
    (member (codes "column") (number (unsigned site.place.column))
    (member (codes "kind") (string (kind_word site.kind))
    (member (codes "line") (number (unsigned site.place.line))
    (member (codes "rule") (rule_data book site.kind site.text)
    (member (codes "text") (text_data site.text)
    (member (codes "verdict") (string (verdict_word (outlook_at book site.kind site.text))) no_members))))))

-- ---- the lines, in the order of the sites

abbrev pub json_line : Data → List ℕ
json_line value = compact_text value ++ codes "\n"

abbrev pub site_line : Site → List ℕ
site_line site = json_line (site_data site)

abbrev pub judged_line : Rulebook → Site → List ℕ
judged_line book site = json_line (judged_data book site)

abbrev pub site_lines : List Site → List ℕ
site_lines sites = flat_map site_line sites

abbrev pub judged_lines : Rulebook → List Site → List ℕ
judged_lines book sites = flat_map (judged_line book) sites
