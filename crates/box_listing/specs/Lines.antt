-- The lines of a listing and of a verdict.
use Rattle.std.specs.Prelude.{ℕ, List, [], ◌∷◌, ◌++◌, Option, None, Some, codes, flat_map}
use Rattle.std.specs.List.{concat}
use Rattle.std.specs.Fmt.{decimal}
use Rattle.awk_text.specs.Quoted.{quoted}
use Rattle.awk_program.specs.Slots.{Text}
use Rattle.box_policy.specs.declared.policy.Kind.{Kind}
use Rattle.box_policy.specs.declared.policy.Kind.TheVariants.{Read, Write, Append, Run, Env, Assign}
use Rattle.box_listing.specs.declared.site.Site.{Site}
use Rattle.box_listing.specs.declared.verdict.Verdict.{Verdict}
use Rattle.box_listing.specs.declared.verdict.Verdict.TheVariants.{Clean, Open, Refused}

-- the word for a kind
abbrev pub kind_word : Kind → List ℕ
kind_word Read = codes "read"
kind_word Write = codes "write"
kind_word Append = codes "append"
kind_word Run = codes "run"
kind_word Env = codes "env"
kind_word Assign = codes "assign"

-- the text as the log would have it, or that it is not known
abbrev pub shown : Option Text → List ℕ
shown None = codes "*"
shown (Some text) = codes "\"" ++ quoted text ++ codes "\""

-- what stands before the text: `LINE:COLUMN KIND `
abbrev pub line_start : Site → List ℕ
line_start site = concat
    (decimal site.place.line ∷ codes ":" ∷ decimal site.place.column ∷ codes " " ∷ kind_word site.kind ∷ codes " " ∷ [])

-- `LINE:COLUMN KIND TEXT` and a newline
abbrev pub line_of : Site → List ℕ
line_of site = line_start site ++ shown site.text ++ codes "\n"

-- the lines in order
abbrev pub lines_of : List Site → List ℕ
lines_of sites = flat_map line_of sites

-- a word, and then the sites that it is about
abbrev pub verdict_lines : Verdict → List ℕ
verdict_lines Clean = codes "clean\n"
verdict_lines (Open sites) = codes "open\n" ++ lines_of sites
verdict_lines (Refused sites) = codes "refused\n" ++ lines_of sites
