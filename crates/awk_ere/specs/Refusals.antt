-- How the refusal of a pattern is shown.
use Rattle.std.specs.Prelude.{ℕ, List, ◌++◌, codes}
use Rattle.std.specs.Fmt.{decimal}
use Rattle.awk_ere.specs.declared.error.EreError.{EreError}

-- the code alone: where in the pattern the fault stands is not told
abbrev pub refusal_text : EreError → List ℕ
refusal_text e = codes "E" ++ decimal e.code
