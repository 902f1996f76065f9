-- A program has the names of its tables.
use Rattle.std.proofs.Common.{◌≡◌, ◌∙◌, List, Result, Ok, Err, IfOk, map, ap, sym, subst}
use Rattle.awk_numbers.specs.declared.number.Numbers.{Numbers}
use Rattle.awk_program.specs.declared.program.Program as code
use Rattle.awk_program.specs.View.{view_program, names_of}
use Rattle.awk_tree.specs.Tree.{Entry}
use Rattle.awk_resolve.specs.Sound.{Sound}
use Rattle.awk_resolve.specs.Tables.{Tables}
use Rattle.awk_lowering.specs.Programs.{program}
use Rattle.awk_lowering.proofs.Adding.{texts_are}

-- a program has the names of its tables
pub sound_program : {E : Type 0} (numbers : Numbers) (n : Tables) (es : List Entry) (made : Result code.Program E)
    → IfOk made (λ q. view_program q ≡ program numbers n es) → Sound n.variables → IfOk made (λ q. Sound (names_of q))
sound_program numbers n es (Ok q) e h =
    subst Sound (sym (ap (λ r. map (λ m. m.text) r.variables) e ∙ texts_are n.variables n.script_arrays)) h
sound_program numbers n es (Err f) e h = tt

-- and the items of them
pub of_tables : {E : Type 0} (numbers : Numbers) (n m : Tables) (es : List Entry) (made : Result code.Program E)
    → n ≡ m → IfOk made (λ q. view_program q ≡ program numbers n es)
    → IfOk made (λ q. view_program q ≡ program numbers m es)
of_tables numbers n m es made e h = subst (λ t. IfOk made (λ q. view_program q ≡ program numbers t es)) e h
