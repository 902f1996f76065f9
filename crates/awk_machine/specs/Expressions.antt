-- What each form of an expression does next, one line a form (POSIX.1-2017 XCU awk, "Expressions in awk").
use Rattle.std.specs.Prelude.{true, false, not, List, [], ◌∷◌, ◌++◌, length}
use Rattle.awk_numbers.specs.declared.number.Number.{Number}
use Rattle.awk_text.specs.declared.place.Place.{Place}
use Rattle.awk_text.specs.declared.value.Value.{Value}
use Rattle.awk_text.specs.declared.value.Value.TheVariants as v
use Rattle.awk_text.specs.Values.{text_of, number_of, of_number, truth}
use Rattle.awk_program.specs.Program as p
use Rattle.awk_program.specs.Program.{Expression, Expressions, Ere, Terms, Joins}
use Rattle.awk_program.specs.declared.operators.Operator.{Operator}
use Rattle.awk_program.specs.declared.operators.Step.{Step}
use Rattle.awk_program.specs.declared.operators.StepValue.{StepValue}
use Rattle.awk_program.specs.declared.operators.StepValue.TheVariants as taken
use Rattle.awk_machine.specs.Builtins.{called, locate_in, substitute, split}
use Rattle.awk_machine.specs.Calls.{call}
use Rattle.awk_machine.specs.Forms.{value, spot, source, answer, deliver, if_true, unary, binary, listed, each_of}
use Rattle.awk_machine.specs.Forms.{keyed, checked}
use Rattle.awk_machine.specs.Getline.{getline, getline_file}
use Rattle.awk_lib.specs.Arrays.{has}
use Rattle.awk_machine.specs.Operators.{of_truth, of_count, computed, signed, stepped, limited}
use Rattle.awk_machine.specs.Pieces.{Part, Target_of, Terms_of, Texts_of, Ands_of, Ors_of, Members_of, Pipes_of, At, Do}
use Rattle.awk_machine.specs.Pieces.{Get, Set, Check, Match, Give, Then, Goes, give, granted}
use Rattle.awk_machine.specs.Targets.{target, field_of, store}
use Rattle.awk_machine.specs.Variables.{array, by_convfmt, compared_by}

-- ---- what is read or set

-- what comes first: its subscripts as one text, or the number of the field
abbrev pub step_target : p.Reference → List Value → Then
step_target (p.variable a) vs k s = answer v.Unset k s
step_target (p.element place a xs) vs k s =
    each_of (listed xs) (Target_of (p.element place a xs)) (λ vs. keyed place vs (λ text. answer (v.Text text))) vs k s
step_target (p.field place x) vs k s =
    unary (value x) (Target_of (p.field place x)) (λ n k s. deliver place (field_of s.numbers n) k s) vs k s

-- `target = value`: the target, and then the value
abbrev pub assign : Place → p.Reference → Expression → Part → List Value → Then
assign place r x part vs k s = binary (spot r) (value x) part (λ at new. store (target r at) place new) vs k s

-- `target += value`: the target, the value, and then the old value
abbrev pub change : Place → Operator → p.Reference → Expression → Part → List Value → Then
change place how r x part [] k s = Goes (spot r ∷ At part [] ∷ k) s
change place how r x part (at ∷ []) k s = Goes (value x ∷ At part (at ∷ []) ∷ k) s
change place how r x part (y ∷ at ∷ []) k s = Goes (Do (Get (target r at)) ∷ At part (y ∷ at ∷ []) ∷ k) s
change place how r x part (old ∷ y ∷ at ∷ vs) k s =
    granted place (computed s.numbers how old y) (store (target r at) place) k s

-- `++` and `--`: the old number is given, or the new one
abbrev pub either : StepValue → Number → Number → Value
either taken.Before old new = of_number old
either taken.Behind old new = of_number new

abbrev pub step : Place → Step → StepValue → p.Reference → Part → List Value → Then
step place how which r part [] k s = Goes (spot r ∷ At part [] ∷ k) s
step place how which r part (at ∷ []) k s = Goes (Do (Get (target r at)) ∷ At part (at ∷ []) ∷ k) s
step place how which r part (x ∷ at ∷ vs) k s =
    granted place (number_of s.numbers x) (λ old k s. granted place (stepped s.numbers how old) (λ new k s.
    Goes (Do (Set (target r at) place (of_number new)) ∷ Do (Give (either which old new)) ∷ k) s) k s) k s

-- ---- chains: each operand is joined to what stands before it, before the next one

abbrev pub terms : Terms → List Value → Then
terms xs [] k s = Goes k s
terms p.no_terms (x ∷ vs) k s = Goes (give x k) s
terms (p.term how place y xs) (x ∷ []) k s = Goes (value y ∷ At (Terms_of (p.term how place y xs)) (x ∷ []) ∷ k) s
terms (p.term how place y xs) (z ∷ x ∷ vs) k s =
    granted place (computed s.numbers how x z) (λ made k s. Goes (At (Terms_of xs) (made ∷ []) ∷ k) s) k s

abbrev pub texts : Joins → List Value → Then
texts xs [] k s = Goes k s
texts p.no_joins (x ∷ vs) k s = Goes (give x k) s
texts (p.join place y xs) (x ∷ []) k s = Goes (value y ∷ At (Texts_of (p.join place y xs)) (x ∷ []) ∷ k) s
texts (p.join place y xs) (z ∷ x ∷ vs) k s =
    granted place (limited (text_of x ++ text_of z)) (λ text k s. Goes (At (Texts_of xs) (v.Text text ∷ []) ∷ k) s) k s

abbrev pub ands : Expressions → List Value → Then
ands xs [] k s = Goes k s
ands p.none (x ∷ vs) k s = Goes (give (of_truth (truth s.numbers x)) k) s
ands (p.more y xs) (x ∷ vs) k s = if_true x (value y ∷ At (Ands_of xs) [] ∷ k) (give (of_truth false) k) s

abbrev pub ors : Expressions → List Value → Then
ors xs [] k s = Goes k s
ors p.none (x ∷ vs) k s = Goes (give (of_truth (truth s.numbers x)) k) s
ors (p.more y xs) (x ∷ vs) k s = if_true x (give (of_truth true) k) (value y ∷ At (Ors_of xs) [] ∷ k) s

abbrev pub members : List p.Variable → List Value → Then
members as_ [] k s = Goes k s
members [] (x ∷ vs) k s = Goes (give x k) s
members (a ∷ as_) (x ∷ vs) k s = Goes (At (Members_of as_) (of_truth (has (array s a) (text_of x)) ∷ []) ∷ k) s

-- ---- `text ~ pattern`

abbrev pub matched : Place → Ere → Value → Value → Then
matched place y text pattern k s =
    Goes (checked y place (text_of pattern) (Do (Match (text_of pattern) (text_of text)) ∷ k)) s

-- ---- all forms

abbrev pub step_value : Expression → Part → List Value → Then
step_value (p.number n) part vs k s = answer (of_number n) k s
step_value (p.text x) part vs k s = answer (v.Text x) k s
step_value (p.pattern place x) part vs k s = Goes (Do (Check place x) ∷ Do (Match x s.row.whole) ∷ k) s
step_value (p.read r) part vs k s = unary (spot r) part (λ at k s. Goes (Do (Get (target r at)) ∷ k) s) vs k s
step_value (p.assign place r x) part vs k s = assign place r x part vs k s
step_value (p.change place how r x) part vs k s = change place how r x part vs k s
step_value (p.step place how which r) part vs k s = step place how which r part vs k s
step_value (p.not x) part vs k s =
    unary (value x) part (λ y k s. answer (of_truth (not (truth s.numbers y))) k s) vs k s
step_value (p.signed place how x) part vs k s =
    unary (value x) part (λ y k s. deliver place (signed s.numbers how y) k s) vs k s
step_value (p.as_text place x) part vs k s = unary (value x) part (λ y k s. deliver place (by_convfmt s y) k s) vs k s
step_value (p.chain x xs) part vs k s = Goes (value x ∷ At (Terms_of xs) [] ∷ k) s
step_value (p.concat x xs) part vs k s = Goes (value x ∷ At (Texts_of xs) [] ∷ k) s
step_value (p.compare place how x y) part vs k s =
    binary (value x) (value y) part (λ z u k s. deliver place (compared_by s how z u) k s) vs k s
step_value (p.matched place x y) part vs k s = binary (value x) (source y) part (matched place y) vs k s
step_value (p.member x as_) part vs k s = Goes (value x ∷ At (Members_of as_) [] ∷ k) s
step_value (p.group place xs as_) part vs k s =
    each_of (listed xs) part (λ vs. keyed place vs (λ key k s. Goes (At (Members_of as_) (v.Text key ∷ []) ∷ k) s)) vs k
    s
step_value (p.and x xs) part vs k s = Goes (value x ∷ At (Ands_of xs) [] ∷ k) s
step_value (p.or x xs) part vs k s = Goes (value x ∷ At (Ors_of xs) [] ∷ k) s
step_value (p.choose x y z) part vs k s = unary (value x) part (λ u k s. if_true u (value y ∷ k) (value z ∷ k) s) vs k s
step_value (p.call place f xs) part vs k s = call place f xs vs k s
step_value (p.getline place r) part vs k s = getline place r part vs k s
step_value (p.getline_file place r x) part vs k s = getline_file place r x part vs k s
step_value (p.pipe x xs) part vs k s = Goes (value x ∷ At (Pipes_of xs) [] ∷ k) s
step_value (p.builtin place which xs) part vs k s = each_of (listed xs) part (called place which) vs k s
step_value (p.count a) part vs k s = answer (of_count (length (array s a))) k s
step_value (p.locate place x y) part vs k s = binary (value x) (source y) part (locate_in place y) vs k s
step_value (p.split place x at a y) part vs k s = split place x at a y part vs k s
step_value (p.substitute place how x y r) part vs k s = substitute place how x y r part vs k s
