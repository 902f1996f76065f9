-- What a store does is what the machine does: what is read of it is what the machine reads of its state, and each
-- change of it is the machine's own.
use Rattle.std.specs.Prelude.{◌≡◌, ◌+◌, ◌-◌, ℕ, Bool, List, [], ◌++◌, length, map, take, Some}
use Rattle.awk_numbers.specs.declared.random.Random.{Random}
use Rattle.awk_text.specs.declared.value.Value.{Value}
use Rattle.awk_fields.specs.Rows.{Row, known}
use Rattle.awk_program.specs.Slots.{Text, name_of}
use Rattle.awk_program.specs.View.{variable_of}
use Rattle.awk_program.specs.declared.program.GlobalName.{GlobalName}
use Rattle.awk_program.specs.declared.variables.Own.{Own}
use Rattle.awk_program.specs.declared.variables.Variable.{Variable}
use Rattle.awk_machine.specs.Begins.{first_state}
use Rattle.awk_machine.specs.Builtins as builtins
use Rattle.awk_machine.specs.Calls as calls
use Rattle.awk_machine.specs.MainInput as main_input
use Rattle.awk_machine.specs.Rules as rules
use Rattle.awk_machine.specs.State.{Array, Given, Main}
use Rattle.awk_machine.specs.Statements as statements
use Rattle.awk_machine.specs.Variables as variables
use Rattle.awk_store.specs.declared.cell.Cell.{Cell}
use Rattle.awk_store.specs.declared.frame.Bound.{Bound}
use Rattle.awk_store.specs.declared.frame.Reference.{Reference}
use Rattle.awk_store.specs.declared.phase.Phase.{Phase}
use Rattle.awk_store.specs.Kept as kept
use Rattle.awk_store.specs.Kept.{Kept}
use Rattle.awk_store.specs.Changes as changes
use Rattle.awk_store.specs.States.{Hidden, IsOnce, Sound, state, bound_of, reference_of, phase_of}

-- ---- what is read

module _ (names : List Text) (k : Kept) (hidden : Hidden) where
  abbrev pub ReadsVariable : Type 0
  ReadsVariable = (x : Variable) → variables.variable (state names k hidden) (variable_of names x) ≡ kept.value k x

  abbrev pub ReadsOwn : Type 0
  ReadsOwn = (x : Own) → variables.own_value (state names k hidden) (name_of x) ≡ kept.own_value k x

  -- which variable is NF
  abbrev pub TellsNf : Type 0
  TellsNf = (x : Variable) → variables.is_nf (variable_of names x) ≡ kept.is_nf x

  -- awk's own texts
  abbrev pub ReadsText : Type 0
  ReadsText = (x : Own) → variables.own_text (state names k hidden) (name_of x) ≡ kept.own_text k x

  abbrev pub ReadsReference : Type 0
  ReadsReference = (a : Variable) → variables.reference (state names k hidden) (variable_of names a)
      ≡ reference_of names (kept.reference k a)

  abbrev pub ReadsArrayAt : Type 0
  ReadsArrayAt =
      (at : Reference) → variables.array_at (state names k hidden) (reference_of names at) ≡ kept.array_at k at

  abbrev pub ReadsArray : Type 0
  ReadsArray = (a : Variable) → variables.array (state names k hidden) (variable_of names a) ≡ kept.array k a

-- of a store with a cell for each name
abbrev pub Reads : ((names : List Text) (k : Kept) (hidden : Hidden) → Type 0) → Type 0
Reads Law =
    (names : List Text) (k : Kept) (hidden : Hidden) → Sound names → length k.cells ≡ length names → Law names k hidden

-- ---- what is changed

module _ (names : List Text) (k : Kept) (hidden : Hidden) where
  abbrev pub SetsVariable : Type 0
  SetsVariable = (x : Variable) (v : Value) → variables.with_variable (variable_of names x) v (state names k hidden)
      ≡ state names (changes.with_value x v k) hidden

  abbrev pub SetsOwn : Type 0
  SetsOwn = (x : Own) (v : Value) → variables.with_own (name_of x) v (state names k hidden)
      ≡ state names (changes.with_own x v k) hidden

  abbrev pub SetsArrayAt : Type 0
  SetsArrayAt = (at : Reference) (a : Array) → variables.array_set (reference_of names at) a (state names k hidden)
      ≡ state names (changes.with_array at a k) hidden

  abbrev pub SetsArray : Type 0
  SetsArray = (x : Variable) (a : Array) → variables.with_array (variable_of names x) a (state names k hidden)
      ≡ state names (changes.with_array (kept.reference k x) a k) hidden

abbrev pub Changes : ((names : List Text) (k : Kept) (hidden : Hidden) → Type 0) → Type 0
Changes Law = (names : List Text) (k : Kept) (hidden : Hidden) → Sound names → Law names k hidden

-- there are as many cells as before, whatever is set
abbrev pub KeepsCount : Type 0
KeepsCount = (f : Cell → Cell) (cells : List Cell) (n : ℕ) → length (changes.change_at f cells n) ≡ length cells

-- a call begins and ends: the machine's own words, over what parameters hold
abbrev pub Enters : Type 0
Enters = (names : List Text) (k : Kept) (hidden : Hidden) (given : List Bound) (others : List Bool) →
    record (state names k hidden) {
      locals = map (bound_of names) given ++ calls.missing (length k.made) others;
      depth = k.depth + 1;
      made = k.made ++ calls.new_arrays others;
    } ≡ state names (changes.entered given others k) hidden

abbrev pub Leaves : Type 0
Leaves = (names : List Text) (k : Kept) (hidden : Hidden) (frame : List Bound) (n : ℕ) →
    record (state names k hidden) { locals = map (bound_of names) frame; depth = k.depth - 1; made = take n k.made }
    ≡ state names (changes.left frame n k) hidden

abbrev pub Unwinds : Type 0
Unwinds = (names : List Text) (k : Kept) (hidden : Hidden) → statements.unwound (state names k hidden)
    ≡ state names (changes.unwound k) hidden

abbrev pub TurnsOn : Type 0
TurnsOn = (names : List Text) (k : Kept) (hidden : Hidden) (n : ℕ) (b : Bool) → rules.with_on n b (state names k hidden)
    ≡ state names (changes.with_on n b k) hidden

abbrev pub SetsMain : Type 0
SetsMain = (names : List Text) (k : Kept) (hidden : Hidden) (main : Main) →
    main_input.with_main main (state names k hidden) ≡ state names (changes.with_main main k) hidden

abbrev pub SetsRandom : Type 0
SetsRandom = (names : List Text) (k : Kept) (hidden : Hidden) (random : Random) →
    builtins.with_random random (state names k hidden) ≡ state names (changes.with_random random k) hidden

abbrev pub SetsPhase : Type 0
SetsPhase = (names : List Text) (k : Kept) (hidden : Hidden) (phase : Phase) →
    record (state names k hidden) { phase = phase_of phase } ≡ state names (changes.with_phase phase k) hidden

abbrev pub SetsStatus : Type 0
SetsStatus = (names : List Text) (k : Kept) (hidden : Hidden) (n : ℕ) →
    record (state names k hidden) { status = Some n } ≡ state names (changes.with_status n k) hidden

-- the record of the store and the steps are no part of the state: the one is hidden, the other is the run's
abbrev pub KeepsState : Type 0
KeepsState = (names : List Text) (k : Kept) (hidden : Hidden) (row : Row) →
    (state names k hidden ≡ state names (changes.with_row row k) hidden)
    × (state names k hidden ≡ state names (changes.stepped k) hidden)

-- ---- at first

abbrev pub first_hidden : Hidden
first_hidden = record { taken = λ key. 0; row = record { whole = []; fields = known [] } }

abbrev pub texts_of : List GlobalName → List Text
texts_of names = map (λ n. n.text) names

abbrev pub BeginsSo : Type 0
BeginsSo = (g : Given) → IsOnce (texts_of g.program.variables) →
    state (texts_of g.program.variables) (changes.first_kept g.numbers g.seed g.program.variables) first_hidden
    ≡ first_state g
