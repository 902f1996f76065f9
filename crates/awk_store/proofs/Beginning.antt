-- A new store.
use Rattle.std.specs.Prelude.{◌≡◌, ℕ, suc, ◌||◌, ◌&&◌, not, Bool, true, false, if◌then◌else◌, List, [], ◌∷◌, map}
use Rattle.std.specs.Prelude.{get_or, Option, Some, None, refl}
use Rattle.std.specs.List.{list_any}
use Rattle.std.specs.Str.{bytes_eq}
use Rattle.std.proofs.Common.{sym, ◌∙◌, ap, true≢false}
use Rattle.std.proofs.lemmas.Slice.Eq.{bytes_eq-Decides}
use Rattle.std.proofs.Math.Path.{fun_ext}
use Rattle.awk_text.specs.declared.value.Value.{Value}
use Rattle.awk_program.specs.Slots.{Text}
use Rattle.awk_program.specs.declared.program.GlobalName.{GlobalName}
use Rattle.awk_machine.specs.Begins.{first_state, first_value, is_variable, is_array}
use Rattle.awk_machine.specs.State.{Array}
use Rattle.awk_store.specs.Changes.{first_cell, first_kept}
use Rattle.awk_store.specs.Kept.{scalar, listed}
use Rattle.awk_store.specs.Laws.{BeginsSo, first_hidden, texts_of}
use Rattle.awk_store.specs.States.{IsOnce, cell_named, state}
use Rattle.awk_store.proofs.Slots.{of_rest, not_again, differs, same_text}

-- a name that is none of these is a variable of no one
none_such : (test : Text → GlobalName → Bool) → ((x : Text) (n : GlobalName) → bytes_eq x n.text ≡ false
    → test x n ≡ false) → (ns : List GlobalName) (x : Text)
    → ((k : ℕ) → get_or (texts_of ns) k [] ≡ x → ⊥) → list_any (test x) ns ≡ false
none_such test fails [] x other = refl
none_such test fails (n ∷ ns) x other = rw (
  fails x n (differs x n.text (other 0)),
  none_such test fails ns x (λ k. other (suc k)),
) refl

variable_fails : (x : Text) (n : GlobalName) → bytes_eq x n.text ≡ false → is_variable x n ≡ false
variable_fails x n e = rw e refl

array_fails : (x : Text) (n : GlobalName) → bytes_eq x n.text ≡ false → is_array x n ≡ false
array_fails x n e = rw e refl

abbrev value_if : Bool → Text → Option Value
value_if b x = if b then Some (first_value x) else None

abbrev array_if : Bool → Option Array
array_if b = if b then Some [] else None

-- the first of the names is the one that is meant
here_value : (n : GlobalName) (ns : List GlobalName) (b : Bool) → n.is_array ≡ b → list_any (is_variable n.text) ns
    ≡ false
    → scalar (Some (first_cell n)) ≡ value_if ((true && not n.is_array) || list_any (is_variable n.text) ns) n.text
here_value n ns true e none = rw (e, none) refl
here_value n ns false e none = rw e refl

here_array : (n : GlobalName) (ns : List GlobalName) (b : Bool) → n.is_array ≡ b → list_any (is_array n.text) ns ≡ false
    → listed (Some (first_cell n)) ≡ array_if ((true && n.is_array) || list_any (is_array n.text) ns)
here_array n ns true e none = rw e refl
here_array n ns false e none = rw (e, none) refl

value_begins : (n : GlobalName) (ns : List GlobalName) (x : Text) → IsOnce (n.text ∷ texts_of ns)
    → scalar (cell_named (texts_of ns) (map first_cell ns) x) ≡ value_if (list_any (is_variable x) ns) x
    → (b : Bool) → bytes_eq n.text x ≡ b
    → scalar (if bytes_eq n.text x then Some (first_cell n) else cell_named (texts_of ns) (map first_cell ns) x)
    ≡ value_if ((bytes_eq x n.text && not n.is_array) || list_any (is_variable x) ns) x
value_begins n ns x once rest true e =
    let same : n.text ≡ x = (bytes_eq-Decides n.text x).0 e in
    rw (sym same, same_text n.text) (here_value n ns n.is_array refl (none_such is_variable variable_fails ns n.text
    (not_again n.text (texts_of ns) once)))
value_begins n ns x once rest false e =
    rw (e, differs x n.text (λ same. absurd (true≢false (sym (same_text n.text) ∙ ap (bytes_eq n.text) same ∙ e)))) rest

values_begin : (ns : List GlobalName) (x : Text) → IsOnce (texts_of ns)
    → scalar (cell_named (texts_of ns) (map first_cell ns) x) ≡ value_if (list_any (is_variable x) ns) x
values_begin [] x once = refl
values_begin (n ∷ ns) x once = value_begins n ns x once (values_begin ns x (of_rest n.text (texts_of ns) once))
    (bytes_eq n.text x) refl

array_begins : (n : GlobalName) (ns : List GlobalName) (x : Text) → IsOnce (n.text ∷ texts_of ns)
    → listed (cell_named (texts_of ns) (map first_cell ns) x) ≡ array_if (list_any (is_array x) ns)
    → (b : Bool) → bytes_eq n.text x ≡ b
    → listed (if bytes_eq n.text x then Some (first_cell n) else cell_named (texts_of ns) (map first_cell ns) x)
    ≡ array_if ((bytes_eq x n.text && n.is_array) || list_any (is_array x) ns)
array_begins n ns x once rest true e =
    let same : n.text ≡ x = (bytes_eq-Decides n.text x).0 e in
    rw (sym same, same_text n.text) (here_array n ns n.is_array refl (none_such is_array array_fails ns n.text
    (not_again n.text (texts_of ns) once)))
array_begins n ns x once rest false e =
    rw (e, differs x n.text (λ same. absurd (true≢false (sym (same_text n.text) ∙ ap (bytes_eq n.text) same ∙ e)))) rest

arrays_begin : (ns : List GlobalName) (x : Text) → IsOnce (texts_of ns)
    → listed (cell_named (texts_of ns) (map first_cell ns) x) ≡ array_if (list_any (is_array x) ns)
arrays_begin [] x once = refl
arrays_begin (n ∷ ns) x once = array_begins n ns x once (arrays_begin ns x (of_rest n.text (texts_of ns) once))
    (bytes_eq n.text x) refl

pub begins : BeginsSo
begins g once =
    let names = g.program.variables in
    ap (λ vs. record (state (texts_of names) (first_kept g.numbers g.seed names) first_hidden) { values = vs })
    (fun_ext (λ x. values_begin names x once))
    ∙ ap (λ as_. record (first_state g) { arrays = as_ }) (fun_ext (λ x. arrays_begin names x once))
