-- Cells by slot and by name.
use Rattle.std.specs.Prelude.{◌≡◌, ℕ, zero, suc, Bool, true, false, if◌then◌else◌, List, [], ◌∷◌, length, get_or}
use Rattle.std.specs.Prelude.{slice_get, Option, Some, None, option_map, refl}
use Rattle.std.specs.Str.{bytes_eq}
use Rattle.std.proofs.Common.{sym, ◌∙◌, ap, arith}
use Rattle.std.proofs.lemmas.Slice.Eq.{bytes_eq-Decides}
use Rattle.std.proofs.Math.Path.{fun_ext}
use Rattle.awk_text.specs.declared.value.Value.{Value}
use Rattle.awk_program.specs.Slots.{Text}
use Rattle.awk_machine.specs.State.{Array}
use Rattle.awk_machine.specs.Variables.{changed}
use Rattle.awk_store.specs.declared.cell.Cell.{Cell}
use Rattle.awk_store.specs.declared.cell.Cell.TheVariants as cell
use Rattle.awk_store.specs.Changes.{change_at, given_value, given_array}
use Rattle.awk_store.specs.Kept.{scalar, listed}
use Rattle.awk_store.specs.States.{cell_named, values_of, arrays_of, IsOnce}

-- ---- names

pub of_rest : (n : Text) (ns : List Text) → IsOnce (n ∷ ns) → IsOnce ns
of_rest n ns once j k inside same = omega (arith, once (suc j) (suc k) (omega (arith, inside)) same)

pub not_again : (n : Text) (ns : List Text) → IsOnce (n ∷ ns) → (k : ℕ) → get_or ns k [] ≡ n → ⊥
not_again n ns once k same = omega (arith, once 0 (suc k) (omega arith) (sym same))

differs_by : (n x : Text) → (x ≡ n → ⊥) → (b : Bool) → bytes_eq n x ≡ b → bytes_eq n x ≡ false
differs_by n x other true e = absurd (other (sym ((bytes_eq-Decides n x).0 e)))
differs_by n x other false e = e

pub differs : (n x : Text) → (x ≡ n → ⊥) → bytes_eq n x ≡ false
differs n x other = differs_by n x other (bytes_eq n x) refl

pub same_text : (n : Text) → bytes_eq n n ≡ true
same_text n = (bytes_eq-Decides n n).1 refl

-- ---- reading

pub named : (names : List Text) (cells : List Cell) (k : ℕ) → IsOnce names → length cells ≡ length names
    → cell_named names cells (get_or names k []) ≡ slice_get cells k
named [] [] k once same = refl
named [] (c ∷ cs) k once same = absurd (omega (arith, same))
named (n ∷ ns) [] k once same = absurd (omega (arith, same))
named (n ∷ ns) (c ∷ cs) zero once same = rw (same_text n) refl
named (n ∷ ns) (c ∷ cs) (suc k) once same =
    rw (differs n (get_or ns k []) (not_again n ns once k)) (named ns cs k (of_rest n ns once) (omega (arith, same)))

-- no cell has the empty name
pub not_empty : (names : List Text) (cells : List Cell) → IsOnce names → cell_named names cells [] ≡ None
not_empty [] cells once = refl
not_empty (n ∷ ns) [] once = refl
not_empty (n ∷ ns) (c ∷ cs) once = rw (differs n [] (is_named n ns once)) (not_empty ns cs (of_rest n ns once))
  where
    past : (ns : List Text) → get_or ns (length ns) [] ≡ []
    past [] = refl
    past (n ∷ ns) = past ns

    is_named : (n : Text) (ns : List Text) → IsOnce (n ∷ ns) → [] ≡ n → ⊥
    is_named n ns once same = not_again n ns once (length ns) (past ns ∙ same)

-- ---- changing

abbrev pub changed_cell : (Cell → Cell) → Bool → Option Cell → Option Cell
changed_cell f b x = if b then option_map f x else x

none_changed : (f : Cell → Cell) (b : Bool) → None ≡ changed_cell f b None
none_changed f true = refl
none_changed f false = refl

first_changed : (f : Cell → Cell) (b : Bool) (c : Cell) (x : Option Cell) → (if b then Some (f c) else x)
    ≡ changed_cell f b (if b then Some c else x)
first_changed f true c x = refl
first_changed f false c x = refl

-- a later cell is changed: the first name is another
later_changed : (f : Cell → Cell) (n name other : Text) → (name ≡ n → ⊥) → (c : Cell) (x y : Option Cell)
    → x ≡ changed_cell f (bytes_eq name other) y → (b : Bool) → bytes_eq n other ≡ b
    → (if b then Some c else x) ≡ changed_cell f (bytes_eq name other) (if b then Some c else y)
later_changed f n name other apart c x y e true is =
    let same : n ≡ other = (bytes_eq-Decides n other).0 is in
    rw (differs name other (λ e. apart (sym e ∙ sym same))) refl
later_changed f n name other apart c x y e false is = e

pub cell_changed : (f : Cell → Cell) (names : List Text) (cells : List Cell) (k : ℕ) (other : Text) → IsOnce names
    → cell_named names (change_at f cells k) other ≡ changed_cell f (bytes_eq (get_or names k []) other)
    (cell_named names cells other)
cell_changed f [] cells k other once = none_changed f _
cell_changed f (n ∷ ns) [] k other once = none_changed f _
cell_changed f (n ∷ ns) (c ∷ cs) zero other once = first_changed f (bytes_eq n other) c (cell_named ns cs other)
cell_changed f (n ∷ ns) (c ∷ cs) (suc k) other once =
    later_changed f n (get_or ns k []) other (not_again n ns once k) c _ _
    (cell_changed f ns cs k other (of_rest n ns once)) (bytes_eq n other) refl

-- ---- the maps of the machine

-- a map of names that is read off the cells
module _ {A : Type 0} (pick : Option Cell → Option A) where
  pub read_changed : (f : Cell → Cell) (v : A)
      → ((x : Option Cell) → pick (option_map f x) ≡ option_map (λ old. v) (pick x)) → (b : Bool) (x : Option Cell)
      → (if b then option_map (λ old. v) (pick x) else pick x) ≡ pick (changed_cell f b x)
  read_changed f v follows true x = sym (follows x)
  read_changed f v follows false x = refl

  pub read_same : (f : Cell → Cell) → ((x : Option Cell) → pick (option_map f x) ≡ pick x)
      → (b : Bool) (x : Option Cell) → pick x ≡ pick (changed_cell f b x)
  read_same f follows true x = sym (follows x)
  read_same f follows false x = refl

module _ (names : List Text) (cells : List Cell) (k : ℕ) (once : IsOnce names) where
  value_follows : (v : Value) (x : Option Cell) → scalar (option_map (given_value v) x) ≡ option_map (λ old. v)
      (scalar x)
  value_follows v None = refl
  value_follows v (Some (cell.Value old)) = refl
  value_follows v (Some (cell.Array a)) = refl

  array_stays : (v : Value) (x : Option Cell) → listed (option_map (given_value v) x) ≡ listed x
  array_stays v None = refl
  array_stays v (Some (cell.Value old)) = refl
  array_stays v (Some (cell.Array a)) = refl

  array_follows : (a : Array) (x : Option Cell) → listed (option_map (given_array a) x) ≡ option_map (λ old. a)
      (listed x)
  array_follows a None = refl
  array_follows a (Some (cell.Value old)) = refl
  array_follows a (Some (cell.Array old)) = refl

  value_stays : (a : Array) (x : Option Cell) → scalar (option_map (given_array a) x) ≡ scalar x
  value_stays a None = refl
  value_stays a (Some (cell.Value old)) = refl
  value_stays a (Some (cell.Array old)) = refl

  pub set_value : (v : Value) → changed (values_of names cells) (get_or names k []) v ≡ values_of names
      (change_at (given_value v) cells k)
  set_value v = fun_ext (λ other. read_changed scalar (given_value v) v (value_follows v)
      (bytes_eq (get_or names k []) other) (cell_named names cells other)
      ∙ sym (ap scalar (cell_changed (given_value v) names cells k other once)))

  pub arrays_stay : (v : Value) → arrays_of names cells ≡ arrays_of names (change_at (given_value v) cells k)
  arrays_stay v = fun_ext (λ other. read_same listed (given_value v) (array_stays v)
      (bytes_eq (get_or names k []) other) (cell_named names cells other)
      ∙ sym (ap listed (cell_changed (given_value v) names cells k other once)))

  pub set_array : (a : Array) → changed (arrays_of names cells) (get_or names k []) a ≡ arrays_of names
      (change_at (given_array a) cells k)
  set_array a = fun_ext (λ other. read_changed listed (given_array a) a (array_follows a)
      (bytes_eq (get_or names k []) other) (cell_named names cells other)
      ∙ sym (ap listed (cell_changed (given_array a) names cells k other once)))

  pub values_stay : (a : Array) → values_of names cells ≡ values_of names (change_at (given_array a) cells k)
  values_stay a = fun_ext (λ other. read_same scalar (given_array a) (value_stays a)
      (bytes_eq (get_or names k []) other) (cell_named names cells other)
      ∙ sym (ap scalar (cell_changed (given_array a) names cells k other once)))
