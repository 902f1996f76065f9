-- What the machine reads of its state, where the code reads of its store.
use Rattle.std.proofs.Common.{◌≡◌, inl, inr, refl, ap, ◌∙◌, List}
use Rattle.awk_fields.specs.Rows.{Field, Row, IsKept, HasFields}
use Rattle.awk_fields.proofs.Alone.{kept_again, kept_fields}
use Rattle.awk_text.specs.declared.value.Value.{Value}
use Rattle.awk_program.specs.Slots.{name_of}
use Rattle.awk_program.specs.View.{variable_of}
use Rattle.awk_program.specs.Program as p
use Rattle.awk_program.specs.declared.variables.Own.{Own}
use Rattle.awk_program.specs.declared.variables.Variable.{Variable}
use Rattle.awk_machine.specs.State.{State, Course, Given, Reference, Shared, Made}
use Rattle.awk_machine.specs.Streams.{seen}
use Rattle.awk_machine.specs.Variables as variables
use Rattle.awk_store.specs.Changes as changes
use Rattle.awk_store.specs.Kept as kept
use Rattle.awk_store.specs.States.{Hidden}
use Rattle.awk_store.proofs.Reading as law
use Rattle.awk_store.proofs.Setting as set
use Rattle.awk_store.specs.Wholes.{Whole, Agreeing, base, names_in}

-- ---- a record that is kept has the same text

pub whole_kept : (a b : Row) → IsKept a b → b.whole ≡ a.whole
whole_kept a b (inl e) = ap (λ (r : Row). r.whole) e
whole_kept a b (inr (vs, has, e)) = ap (λ (r : Row). r.whole) e

-- ---- the course is no part of what variables hold

seen-variable : (s : State) (c : Course) (a : p.Variable) → variables.variable (seen s c) a ≡ variables.variable s a
seen-variable s c (p.global x) = refl
seen-variable s c (p.parameter n) = refl

seen-reference : (s : State) (c : Course) (a : p.Variable) → variables.reference (seen s c) a ≡ variables.reference s a
seen-reference s c (p.global x) = refl
seen-reference s c (p.parameter n) = refl

seen-at : (s : State) (c : Course) (r : Reference) → variables.array_at (seen s c) r ≡ variables.array_at s r
seen-at s c (Shared x) = refl
seen-at s c (Made k) = refl

seen-array : (s : State) (c : Course) (a : p.Variable) → variables.array (seen s c) a ≡ variables.array s a
seen-array s c (p.global x) = refl
seen-array s c (p.parameter n) = seen-at s c (variables.reference s (p.parameter n))

seen-with-variable : (s : State) (c : Course) (a : p.Variable) (x : Value) → variables.with_variable a x (seen s c)
    ≡ seen (variables.with_variable a x s) c
seen-with-variable s c (p.global name) x = refl
seen-with-variable s c (p.parameter n) x = refl

module _ (g : Given) (w : Whole) (hid : Hidden) (c : Course) (a : Agreeing g w hid c) where
  pub nf-so : (x : Variable) → variables.is_nf (variable_of (names_in g) x) ≡ kept.is_nf x
  nf-so x = law.tells_nf (names_in g) w.0 hid a.sound a.cells x

  pub variable-so : (x : Variable) → variables.variable (seen (base g w hid) c) (variable_of (names_in g) x)
      ≡ kept.value w.0 x
  variable-so x = seen-variable (base g w hid) c (variable_of (names_in g) x) ∙ law.variable (names_in g) w.0 hid
      a.sound a.cells x

  pub own-text-so : (x : Own) → variables.own_text (seen (base g w hid) c) (name_of x) ≡ kept.own_text w.0 x
  own-text-so x = law.text (names_in g) w.0 hid a.sound a.cells x

  pub array-so : (x : Variable) → variables.array (seen (base g w hid) c) (variable_of (names_in g) x)
      ≡ kept.array w.0 x
  array-so x = seen-array (base g w hid) c (variable_of (names_in g) x) ∙ law.array (names_in g) w.0 hid a.sound a.cells
      x

  pub variable-set : (x : Variable) (v : Value) → variables.with_variable (variable_of (names_in g) x) v
      (seen (base g w hid) c) ≡ seen (base g (changes.with_value x v w.0, w.1) hid) c
  variable-set x v = seen-with-variable (base g w hid) c (variable_of (names_in g) x) v ∙ ap (λ s. seen s c)
      (set.variable (names_in g) w.0 hid a.sound x v)

  -- the store's record has the fields of the machine's
  pub fields-so : (row : _) (fs : List Field) → IsKept w.0.row row → HasFields row fs → HasFields hid.row fs
  fields-so row fs is has = (kept_fields hid.row row fs (kept_again hid.row w.0.row row a.row is)).0 has
