-- How the refusal of a script is shown.
use Rattle.std.specs.Prelude.{ℕ, List, ◌++◌, codes}
use Rattle.std.specs.Fmt.{decimal}
use Rattle.awk_text.specs.Places.{place_text}
use Rattle.awk_tokens.specs.declared.syntax_error.SyntaxError.{SyntaxError}

-- the place and the code
abbrev pub refusal_text : SyntaxError → List ℕ
refusal_text e = place_text e.place ++ codes " S" ++ decimal e.code
