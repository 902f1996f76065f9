-- A record is read of a file, or of a command.
use Rattle.std.proofs.Common.{◌≡◌, refl, ap, ◌∙◌, true, false, List, [], ◌∷◌}
use Rattle.std.specs.Prelude.{Result, Ok, Err, codes, if◌then◌else◌}
use Rattle.std.specs.Str.{bytes_eq}
use Rattle.awk_text.specs.declared.place.Place.{Place}
use Rattle.awk_text.specs.declared.value.Value.{Value}
use Rattle.awk_text.specs.Values.{text_of}
use Rattle.box_world.specs.Events.{InputFile, InputCommand, Key, Standard, Named}
use Rattle.box_world.specs.declared.world.World.{Ghosts}
use Rattle.awk_program.specs.Program as p
use Rattle.awk_program.specs.Program.{Expression, Pipes}
use Rattle.awk_program.specs.Slots.{Text}
use Rattle.awk_machine.specs.Getline.{fetch_file, got}
use Rattle.awk_machine.specs.Pieces.{Piece, At, Do, Read, Fetch, Goes, Pipes_of, Value_of, give}
use Rattle.awk_machine.specs.State.{Given}
use Rattle.awk_machine.specs.Streams.{seen}
use Rattle.awk_streams.specs.Chains.{Leads}
use Rattle.awk_streams.specs.Readings.{fetching}
use Rattle.awk_streams.specs.declared.halt.Halt.{Halt}
use Rattle.awk_streams.proofs.Chain.{at_once, done, part, quiet, stop}
use Rattle.awk_store.specs.Spots.{IsSpotOf, meant, value_of}
use Rattle.awk_store.specs.Wholes.{Whole, Agreeing, base, names_in, used}
use Rattle.awk_store.specs.declared.spot.Spot.{Spot}
use Rattle.awk_input.specs.Gots.{IsGot, piped_of, read_of}
use Rattle.awk_input.specs.Performs.{MeetsWhole}

-- the stream of a file's name
pub standard_file : (place : Place) (text : Text) (k : List Piece) → bytes_eq text (codes "-") ≡ true
    → fetch_file place text k ≡ Do (fetching place (Standard 0)) ∷ k
standard_file place text k e = ap (λ z. if z then Do (Read place (Standard 0)) ∷ k else Do (Fetch place InputFile text)
    ∷ k) e

pub named_file : (place : Place) (text : Text) (k : List Piece) → bytes_eq text (codes "-") ≡ false
    → fetch_file place text k ≡ Do (fetching place (Named InputFile text)) ∷ k
named_file place text k e = ap (λ z. if z then Do (Read place (Standard 0)) ∷ k else Do (Fetch place InputFile text) ∷
    k) e

module _ {W : Type 0} {ghosts : Ghosts W} (g : Given) (place : Place) (r : p.Reference) (target : Value) (name : Value)
    (text : Text) (old : Whole) (w : W) (named : text_of name ≡ text) where
  -- the machine comes to the reading of a file
  pub file_first : (x : Expression) (key : Key)
      → ((place : Place) (k : List Piece) → fetch_file place text k ≡ Do (fetching place key) ∷ k) →
      Leads ghosts (base g) (Agreeing g) used g (At (Value_of (p.getline_file place r x)) (name ∷ target ∷ [])) old w
      (λ k. Do (fetching place key) ∷ At (Value_of (p.getline_file place r x)) (name ∷ target ∷ []) ∷ k) old w
  file_first x key is = quiet (at_once _ old w) (λ k hid c.
      ap (λ t. Goes (fetch_file place t (At (Value_of (p.getline_file place r x)) (name ∷ target ∷ []) ∷ k))
      (seen (base g old hid) c)) named
      ∙ ap (λ l. Goes l (seen (base g old hid) c))
      (is place (At (Value_of (p.getline_file place r x)) (name ∷ target ∷ []) ∷ k)))

  -- or of a command
  pub pipe_first : (xs : Pipes)
      → Leads ghosts (base g) (Agreeing g) used g (At (Pipes_of (p.piped place r xs)) (target ∷ name ∷ [])) old w
      (λ k. Do (Fetch place InputCommand text) ∷ At (Pipes_of (p.piped place r xs)) (target ∷ name ∷ []) ∷ k) old w
  pipe_first xs = quiet (at_once _ old w)
      (λ k hid c. ap (λ t. Goes (Do (Fetch place InputCommand t) ∷ At (Pipes_of (p.piped place r xs))
      (target ∷ name ∷ []) ∷ k) (seen (base g old hid) c)) named)

module _ (g : Given) (place : Place) (r : p.Reference) (spot : Spot) (name x : Value)
    (is : IsSpotOf (names_in g) r spot) where
  pub file_got : (y : Expression) → IsGot g (At (Value_of (p.getline_file place r y)) (x ∷ name ∷ value_of spot ∷ []))
      place (meant (names_in g) spot) [] x (λ k. k)
  file_got y k s = ap (λ z. got place z [] x k s) is

  pub pipe_got : (xs : Pipes) → IsGot g (At (Pipes_of (p.piped place r xs)) (x ∷ value_of spot ∷ name ∷ [])) place
      (meant (names_in g) spot) (codes "NR" ∷ []) x (λ k. At (Pipes_of xs) [] ∷ k)
  pipe_got xs k s = ap (λ z. got place z (codes "NR" ∷ []) x (At (Pipes_of xs) [] ∷ k) s) is

-- a record was read of a file, or something came in its place; or the reading is halted
module _ {W : Type 0} {ghosts : Ghosts W} (g : Given) (place : Place) (r : p.Reference) (x : Expression)
    (name target : Value) (key : Key)
    (is : (place : Place) (k : List Piece) → fetch_file place (text_of name) k ≡ Do (fetching place key) ∷ k)
    (old new : Whole) (w w' : W) where
  pub file_read : (answer : Result Value Halt) → MeetsWhole ghosts g (Do (fetching place key)) give old w answer new
      w' →
      MeetsWhole ghosts g (At (Value_of (p.getline_file place r x)) (name ∷ target ∷ [])) (read_of place r x name
      target)
      old w answer new w'
  file_read (Ok y) task = done (part y (file_first g place r target name (text_of name) old w refl x key is) task refl)
  file_read (Err h) task = stop h (λ k. refl) (file_first g place r target name (text_of name) old w refl x key is) task
      refl

-- the same of a command
module _ {W : Type 0} {ghosts : Ghosts W} (g : Given) (place : Place) (r : p.Reference) (xs : Pipes)
    (name target : Value)
    (old new : Whole) (w w' : W) where
  pub command_read : (answer : Result Value Halt)
      → MeetsWhole ghosts g (Do (fetching place (Named InputCommand (text_of name)))) give old w answer new w' →
      MeetsWhole ghosts g (At (Pipes_of (p.piped place r xs)) (target ∷ name ∷ [])) (piped_of place r xs name
      target) old
      w answer new w'
  command_read (Ok y) task = done (part y (pipe_first g place r target name (text_of name) old w refl xs) task refl)
  command_read (Err h) task = stop h (λ k. refl) (pipe_first g place r target name (text_of name) old w refl xs) task
      refl
