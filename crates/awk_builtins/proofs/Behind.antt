-- A text with more behind it: one operand more, and a variable that is set to the whole.
use Rattle.std.proofs.Common.{◌≡◌, refl, sym, ◌∙◌, ◌+◌, ◌≤◌, ◌<◌, List, [], ◌∷◌, ◌++◌, length, append_assoc}
use Rattle.std.proofs.lemmas.List.{length-append}
use Rattle.std.specs.Prelude.{false, Result, Ok, Err, OnOk, IfErr}
use Rattle.awk_text.specs.Limits.{most_bytes}
use Rattle.awk_text.specs.Values.{text_of}
use Rattle.awk_text.specs.declared.fault.Fault.TheVariants as fault
use Rattle.awk_text.specs.declared.place.Place.{Place}
use Rattle.awk_text.specs.declared.value.Value.{Value}
use Rattle.awk_text.specs.declared.value.Value.TheVariants as v
use Rattle.awk_program.specs.Program as p
use Rattle.awk_program.specs.Program.{Expression, Joins}
use Rattle.awk_program.specs.Slots.{Text}
use Rattle.awk_program.specs.View.{variable_of}
use Rattle.awk_program.specs.declared.variables.Variable.{Variable}
use Rattle.awk_machine.specs.Pieces as machine
use Rattle.awk_machine.specs.Pieces.{Piece, At, Do, Set, Texts_of}
use Rattle.awk_machine.specs.State.{Given}
use Rattle.awk_store.specs.Acts.{Acts}
use Rattle.awk_store.specs.Changes.{with_value}
use Rattle.awk_store.specs.Kept as kept
use Rattle.awk_store.specs.Kept.{Kept}
use Rattle.awk_store.specs.Wholes.{Whole, names_in}
use Rattle.awk_store.proofs.Acting.{at_rest, moves, done, closed, lacking}
use Rattle.awk_store.proofs.Limited.{limited_ok}
use Rattle.awk_store.proofs.Rebuilding.{limited_err}
use Rattle.awk_store.proofs.VariableSteps.{sets_variable}
use Rattle.awk_streams.specs.Tasks.{goes_on}
use Rattle.awk_streams.specs.declared.halt.Halt.{Halt}
use Rattle.awk_streams.specs.declared.halt.Halt.TheVariants as halt

lengths : (text before more : Text) → length ((text ++ before) ++ more) ≡ (length text + length before) + length more
lengths text before more = length-append (text ++ before) more ∙ (rw (length-append text before) refl)

module _ (g : Given) (w : Whole) (place : Place) (x : Expression) (xs : Joins) (text before : Text) (z : Value) where
  abbrev waits : Piece
  waits = At (Texts_of (p.join place x xs)) (z ∷ v.Text (text ++ before) ∷ [])

  abbrev ends_with : Text → Unit {0} → List Piece → List Piece
  ends_with after u k = At (Texts_of xs) (v.Text (text ++ after) ∷ []) ∷ k

  pub joins_behind : (after : Text) → after ≡ before ++ text_of z
      → (length text + length before) + length (text_of z) ≤ most_bytes
      → Acts g waits (ends_with after) w (Ok (tt {0})) w
  joins_behind after e fits =
      let short : length ((text ++ before) ++ text_of z) ≤ most_bytes = rw (lengths text before (text_of z)) fits in
      done (moves (at_rest _ w) (λ k hid d a. rw (
        limited_ok ((text ++ before) ++ text_of z) short,
        append_assoc text before (text_of z),
        sym e,
      ) refl))

  pub joins_not : (after : Text) → most_bytes < (length text + length before) + length (text_of z)
      → Acts g waits (ends_with after) w (Err (halt.Fault fault.TextTooLong place)) w
  joins_not after over =
      let long : most_bytes < length ((text ++ before) ++ text_of z) = rw (lengths text before (text_of z)) over in
      closed (moves (at_rest _ w) (λ k hid d a. rw (limited_err ((text ++ before) ++ text_of z) long) refl))

-- the variable is set
pub sets_behind : (g : Given) (old : Whole) (x : Variable) (place : Place) (val : Value) (new : Kept)
    (r : Result (Unit {0}) Halt) → kept.is_nf x ≡ false → OnOk r (new ≡ with_value x val old.0) →
    IfErr r (λ h. h ≡ halt.Memory) → new.used ≡ old.0.used
    → Acts g (Do (Set (machine.Variable (variable_of (names_in g) x)) place val)) goes_on old r (new, old.1)
sets_behind g old x place val new (Ok u) n ok err same = sets_variable g old x place val new n ok
sets_behind g old x place val new (Err h) n ok err same = rw err (lacking same)
