-- The lines of the log.
use Rattle.std.specs.Prelude.{ℕ, List, [], ◌∷◌, ◌++◌, Option, None, Some, codes, flat_map}
use Rattle.std.specs.List.{concat}
use Rattle.std.specs.Fmt.{decimal}
use Rattle.awk_text.specs.Quoted.{quoted}
use Rattle.box_policy.specs.declared.policy.Kind.{Kind}
use Rattle.box_policy.specs.declared.policy.Kind.TheVariants.{Read, Write, Append, Run, Env, Assign}
use Rattle.box_monitor.specs.Told.{Told}

-- the word for a kind
abbrev pub kind_word : Kind → List ℕ
kind_word Read = codes "read"
kind_word Write = codes "write"
kind_word Append = codes "append"
kind_word Run = codes "run"
kind_word Env = codes "env"
kind_word Assign = codes "assign"

-- the number of the rule, or that there is none
abbrev pub rule_word : Option ℕ → List ℕ
rule_word (Some n) = decimal n
rule_word None = codes "none"

-- what stands before the text: `LINE:COLUMN KIND RULE "`
abbrev pub line_start : Told → List ℕ
line_start t =
    concat (decimal t.place.line ∷ codes ":" ∷ decimal t.place.column ∷ codes " " ∷ kind_word t.kind ∷ codes " "
    ∷ rule_word t.rule ∷ codes " \"" ∷ [])

-- `LINE:COLUMN KIND RULE "TEXT"` and a newline
abbrev pub line_of : Told → List ℕ
line_of t = line_start t ++ quoted t.text ++ codes "\"\n"

-- the lines in order
abbrev pub log_text : List Told → List ℕ
log_text ts = flat_map line_of ts
