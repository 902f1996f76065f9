-- A program that grows by what an item is.
use Rattle.std.proofs.Common.{◌≡◌, ◌∙◌, Bool, List, [], ◌∷◌, ◌++◌, map, Result, Ok, Err, IfOk, OnOk, ap, refl, subst}
use Rattle.std.proofs.Common.{append-nil, append_assoc}
use Rattle.awk_numbers.specs.declared.number.Numbers.{Numbers}
use Rattle.awk_tree.specs.Tree.{Text, Entry}
use Rattle.awk_program.specs.declared.program.GlobalName.{GlobalName}
use Rattle.awk_program.specs.declared.program.Program as code
use Rattle.awk_program.specs.Program.{Statement, Rule, Function, Program}
use Rattle.awk_program.specs.View.{Names, view_by, view_program}
use Rattle.awk_lowering.specs.Scopes.{Scope}
use Rattle.awk_lowering.specs.Programs.{functions_of, begins_of, ends_of, rules_of, each, names, program, with_entry}
use Rattle.awk_lowering.specs.Programs.{with_entries}
use Rattle.awk_resolve.specs.Tables.{Tables}

-- what is said of equal names and scopes
pub in_scope : (F : Names → Scope → Type 0) (t u : Names) (s r : Scope) → t ≡ u → s ≡ r → F t s → F u r
in_scope F t u s r e f h = subst (λ y. F u y) f (subst (λ x. F x s) e h)

abbrev pub of_lists : List GlobalName → List Function → List (List Statement) → List Rule → List (List Statement)
    → Program
of_lists vs fs bs rs es = record { variables = vs; functions = fs; begin = bs; rules = rs; end = es }

entries_are : (numbers : Numbers) (n : Tables) (es : List Entry) (q : Program)
    → with_entries numbers n es q ≡ of_lists q.variables (q.functions ++ each (functions_of numbers n) es)
    (q.begin ++ each (begins_of numbers n) es) (q.rules ++ each (rules_of numbers n) es)
    (q.end ++ each (ends_of numbers n) es)
entries_are numbers n [] q = rw (append-nil q.functions, append-nil q.begin, append-nil q.rules, append-nil q.end) refl
entries_are numbers n (e ∷ es) q =
    entries_are numbers n es (with_entry numbers n e q)
    ∙ rw (
      append_assoc q.functions (functions_of numbers n e) (each (functions_of numbers n) es),
      append_assoc q.begin (begins_of numbers n e) (each (begins_of numbers n) es),
      append_assoc q.rules (rules_of numbers n e) (each (rules_of numbers n) es),
      append_assoc q.end (ends_of numbers n e) (each (ends_of numbers n) es),
    ) refl

-- ---- variables

pub texts_are : (xs : List Text) (are : List Bool) → map (λ n. n.text) (names xs are) ≡ xs
texts_are [] are = refl
texts_are (x ∷ xs) [] = ap (λ ys. x ∷ ys) (texts_are xs [])
texts_are (x ∷ xs) (a ∷ are) = ap (λ ys. x ∷ ys) (texts_are xs are)

-- a program is of its items, whose variables are the names of its tables
pub whole_program : (numbers : Numbers) (n : Tables) (es : List Entry) (out : code.Program)
    → view_by n.variables out ≡ with_entries numbers n es (of_lists (names n.variables n.script_arrays) [] [] [] [])
    → view_program out ≡ program numbers n es
whole_program numbers n es out e =
    let all : view_by n.variables out ≡ program numbers n es =
    e ∙ entries_are numbers n es (of_lists (names n.variables n.script_arrays) [] [] [] []) in
    let of : map (λ m. m.text) out.variables ≡ n.variables = ap (λ q. map (λ m. m.text) q.variables) all
    ∙ texts_are n.variables n.script_arrays in
    ap (λ t. view_by t out) of ∙ all

pub finished_program : {E : Type 0} (numbers : Numbers) (n : Tables) (es : List Entry) (out : code.Program)
    (filled : Result Unit E)
    (made : Result code.Program E)
    → IfOk made (λ w. (w ≡ out) × (filled ≡ Ok tt))
    → OnOk filled (view_by n.variables out ≡ with_entries numbers n es
    (of_lists (names n.variables n.script_arrays) [] []
    [] []))
    → IfOk made (λ w. view_program w ≡ program numbers n es)
finished_program numbers n es out filled (Ok w) (is, was) h = ap view_program is
    ∙ whole_program numbers n es out (rw was at h)
finished_program numbers n es out filled (Err e) is h = tt
