-- A script is read to its end.
use Rattle.std.proofs.Common.{◌≡◌, true, List, [], ◌∷◌, Result, Ok, Err, IfOk, refl, ap, ◌∙◌}
use Rattle.awk_tokens.specs.declared.token.Token.{Token}
use Rattle.awk_tree.specs.declared.fault.ParseError.{ParseError}
use Rattle.awk_tree.specs.Input.{Outcome, Reads}
use Rattle.awk_tree.specs.Statements.{is_done}

pub nothing_left : (ts : List Token) → is_done ts ≡ true → ts ≡ []
nothing_left [] h = refl
nothing_left (t ∷ ts) h = absurd cc

pub reads_whole : {A B : Type 0} (view : B → A) (outcome : Outcome A) (r : Result B ParseError) (left : List Token)
    → Reads view outcome r left → IfOk r (λ _. left ≡ []) → Reads view outcome r []
reads_whole view outcome (Ok b) left read none = read ∙ ap (λ (ts : List Token). Ok (view b, ts)) none
reads_whole view outcome (Err e) left read none = read
