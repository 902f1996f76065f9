-- The listing of a script, and what a policy says of it.
use Rattle.std.specs.Prelude.{List, map}
use Rattle.awk_resolve.specs.Faults.{names_environ}
use Rattle.awk_resolve.specs.Mentions.{part}
use Rattle.awk_parse.specs.Scripts.{tree}
use Rattle.awk_parse.specs.declared.script.Script.{Script}
use Rattle.awk_program.specs.View.{view_program}
use Rattle.awk_tree.specs.Tree as t
use Rattle.awk_tree.specs.Tree.{Entry}
use Rattle.box_policy.specs.Rulebook.{Rulebook}
use Rattle.box_listing.specs.Listings.{IsListing}
use Rattle.box_listing.specs.Verdicts.{IsVerdict}
use Rattle.box_listing.specs.declared.site.Site.{Site}
use Rattle.box_listing.specs.declared.site.Sort.{Sort}
use Rattle.box_listing.specs.declared.site.Sort.TheVariants as sort
use Rattle.box_listing.specs.declared.verdict.Verdict.{Verdict}

-- what an item is
abbrev pub sort_of : Entry → Sort
sort_of (t.at_begin xs) = sort.Begin
sort_of (t.at_end xs) = sort.End
sort_of (t.always xs) = sort.Rule
sort_of (t.shown c) = sort.Rule
sort_of (t.rule c xs) = sort.Rule
sort_of (t.function f ps xs) = sort.Function

-- the sites of the script's program, by the order of its items, where it is a script of these
abbrev pub IsListingOf : Script → List Entry → List Site → Type 0
IsListingOf s items sites =
    IsListing (view_program s.program) (map sort_of (tree s)) (names_environ (map part items)) sites

abbrev pub IsVerdictOf : Script → List Entry → Rulebook → Verdict → Type 0
IsVerdictOf s items book verdict =
    IsVerdict (view_program s.program) (map sort_of (tree s)) (names_environ (map part items)) book verdict
