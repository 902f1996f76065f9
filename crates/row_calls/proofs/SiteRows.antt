-- Rows of the definition of sites, and of what a policy says of them: scripts as texts, computed.
use Rattle.std.specs.Prelude.{◌≡◌, refl, ℕ, false, List, [], ◌∷◌, length, map, codes, Option, Some, None}
use Rattle.std.specs.Str.{is_utf8, chars}
use lib.Utf8.{encode}
use Rattle.awk_tree.specs.Tree as t
use Rattle.awk_tree.specs.Tree.{Text, Entry}
use Rattle.awk_resolve.specs.Faults.{names_environ}
use Rattle.awk_resolve.specs.Mentions.{part}
use Rattle.box_policy.specs.declared.policy.Effect.TheVariants.{Allow, Deny}
use Rattle.box_policy.specs.declared.policy.Kind.{Kind}
use Rattle.box_policy.specs.declared.policy.Kind.TheVariants.{Read, Write, Append, Run, Env, Assign}
use Rattle.box_policy.specs.declared.policy.Rule.{Rule}
use Rattle.box_policy.specs.declared.policy.Effect.{Effect}
use Rattle.box_policy.specs.Rulebook.{Rulebook}
use Rattle.box_listing.specs.declared.site.Site.{Site}
use Rattle.box_listing.specs.declared.site.Sort.{Sort}
use Rattle.box_listing.specs.declared.site.Sort.TheVariants as sort
use Rattle.box_listing.specs.declared.verdict.Verdict.TheVariants.{Clean, Open, Refused}
use Rattle.box_listing.specs.Listings.{sites_of}
use Rattle.box_listing.specs.Sites.{found}
use Rattle.box_listing.specs.Verdicts.{verdict}
use Rattle.row_calls.proofs.Scripts.{program_of, items_of, read, rules}

-- the sorts of the items of a script, in order
abbrev order_of : List Entry → List Sort
order_of [] = []
order_of (t.at_begin xs ∷ more) = sort.Begin ∷ order_of more
order_of (t.at_end xs ∷ more) = sort.End ∷ order_of more
order_of (t.function f ps xs ∷ more) = sort.Function ∷ order_of more
order_of (other ∷ more) = sort.Rule ∷ order_of more

abbrev items : Text → List Entry
items source = items_of (read (length source) [] source [])

abbrev listed : Text → List Site
listed source = sites_of (found (order_of (items source)) (program_of [] source))
    (names_environ (map part (items source)))

abbrev site : ℕ → ℕ → Kind → Option Text → Site
site line column kind text = record { place = record { line = line; column = column }; kind = kind; text = text }

abbrev rule : Effect → Kind → Text → Rule
rule effect kind pattern = record { effect = effect; kind = kind; only_given = false; pattern = pattern }

-- four rules that allow, and one that denies
abbrev book : Rulebook
book = record {
  base = codes "/w";
  rules =
      rule Deny Read (codes "/w/in/secret*") ∷ rule (Allow None) Read (codes "/w/in/**") ∷ rule (Allow None) Write
      (codes "/w/out/*") ∷ rule (Allow None) Run (codes "sort *") ∷ rule (Allow None) Env (codes "LANG") ∷ [];
}

abbrev empty : Rulebook
empty = record { base = codes "/w"; rules = [] }

-- ---- listings

command : listed (codes "BEGIN { \"sort -r\" | getline; close(\"sort -r\") }") ≡ site 1 21 Run (Some (codes "sort -r"))
    ∷ []
unfolding rules
command = refl

output : listed (codes "{ print $1 | \"sort -r\" }") ≡ site 0 0 Read None ∷ site 0 0 Assign None ∷ site 1 12 Run
    (Some (codes "sort -r")) ∷ []
unfolding rules
output = refl

parentheses : listed (codes "BEGIN { print \"a\" > (\"x\") }") ≡ site 1 19 Write (Some (codes "x")) ∷ []
unfolding rules
parentheses = refl

standard_input : listed (codes "BEGIN { getline < (\"-\") }") ≡ []
unfolding rules
standard_input = refl

concatenation : listed (codes "BEGIN { print > \"a\" \"b\" }") ≡ site 1 15 Write None ∷ []
unfolding rules
concatenation = refl

chain : listed (codes "BEGIN { \"a\" | getline x | getline }") ≡ site 1 15 Run (Some (codes "a")) ∷ site 1 27 Run None ∷
    []
unfolding rules
chain = refl

escape : listed (codes "BEGIN { system(\"a\\tb\") }") ≡ site 1 9 Run (Some (97 ∷ 9 ∷ 98 ∷ [])) ∷ []
unfolding rules
escape = refl

append : listed (codes "BEGIN { printf \"%s\", 1 >> \"x\" }") ≡ site 1 24 Append (Some (codes "x")) ∷ []
unfolding rules
append = refl

file : listed (codes "BEGIN { while ((getline line < \"x\") > 0) n++ }") ≡ site 1 17 Read (Some (codes "x")) ∷ []
unfolding rules
file = refl

main_input : listed (codes "BEGIN { getline }") ≡ site 0 0 Read None ∷ site 0 0 Assign None ∷ []
unfolding rules
main_input = refl

end_alone : listed (codes "END { print NR }") ≡ site 0 0 Read None ∷ site 0 0 Assign None ∷ []
unfolding rules
end_alone = refl

uncalled : listed (codes "function f() { return ENVIRON[\"A\"] } BEGIN { x = 1 }") ≡ site 0 0 Env None ∷ []
unfolding rules
uncalled = refl

environment : listed (codes "{ print ENVIRON[$1] > \"x\" }") ≡ site 0 0 Read None ∷ site 0 0 Env None ∷ site 0 0 Assign
    None ∷ site 1 21 Write (Some (codes "x")) ∷ []
unfolding rules
environment = refl

mixed : listed (codes "function f() { system(\"a\") } BEGIN { system(\"b\") } { system(\"c\") }")
    ≡ site 0 0 Read None ∷ site 0 0 Assign None ∷ site 1 16 Run (Some (codes "a")) ∷ site 1 38 Run (Some (codes "b")) ∷
    site 1 54 Run (Some (codes "c")) ∷ []
unfolding rules
mixed = refl

nothing : listed (codes "BEGIN { x = 1 }") ≡ []
unfolding rules
nothing = refl

-- ---- verdicts

clean : verdict book (listed (codes "BEGIN { print \"a\" > \"/w/out/a\" }")) ≡ Clean
unfolding rules is_utf8 chars encode
clean = refl

no_sites : verdict empty (listed (codes "BEGIN { x = 1 }")) ≡ Clean
unfolding rules is_utf8 chars encode
no_sites = refl

refused : verdict book (listed (codes "BEGIN { system(\"id\") }")) ≡ Refused (site 1 9 Run (Some (codes "id")) ∷ [])
unfolding rules is_utf8 chars encode
refused = refl

refused_alone : verdict book (listed (codes "{ system(\"id\") }")) ≡ Refused (site 1 3 Run (Some (codes "id")) ∷ [])
unfolding rules is_utf8 chars encode
refused_alone = refl

unknown : verdict book (listed (codes "BEGIN { f = \"/x\"; print \"a\" > f }")) ≡ Open (site 1 29 Write None ∷ [])
unfolding rules is_utf8 chars encode
unknown = refl

denied : verdict book (listed (codes "BEGIN { getline x < \"in/secret1\"; getline y < \"in/a\"; getline z < f }"))
    ≡ Refused (site 1 9 Read (Some (codes "in/secret1")) ∷ [])
unfolding rules is_utf8 chars encode
denied = refl
