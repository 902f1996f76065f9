-- What a run is started with (POSIX.1-2017 XCU awk, "OPTIONS", "OPERANDS", "ENVIRONMENT VARIABLES").
use Rattle.std.specs.Prelude.{◌≡◌, Bool, List, map, option_copied, Result, MatchResult}
use Rattle.std.specs.List.{filter}
use Rattle.awk_text.specs.declared.value.Value.TheVariants as v
use Rattle.awk_text.specs.Escapes.{unescaped}
use Rattle.awk_program.specs.Program.{global}
use Rattle.awk_program.specs.Slots.{Text}
use Rattle.awk_machine.specs.Begins.{set_at_start}
use Rattle.awk_machine.specs.Pieces.{Piece, Variable}
use Rattle.awk_machine.specs.State.{Course, Given}
use Rattle.awk_store.specs.States.{Hidden}
use Rattle.awk_streams.specs.declared.halt.Halt.{Halt}
use Rattle.awk_store.specs.Acts.{HaltsSo, Settles}
use Rattle.awk_store.specs.Wholes.{Whole, Agreeing, used}
use Rattle.awk_run.specs.declared.start.Start.{Start}

-- what plain awk is given is what the run is started with
pub record IsStart (start : Start) (g : Given) : Type 0 where
  pub operands : g.operands ≡ start.operands.now
  pub environment : g.environment ≡ start.environment.now
  pub assigns : g.assigns ≡ start.assigns.now
  pub separator : g.separator ≡ option_copied start.separator
  pub names_environ : g.names_environ ≡ start.names_environ

-- the host's own assignments, of which those to some names are passed over
abbrev pub assigning : (Text → Bool) → List (Text × Text) → List Piece
assigning can_assign pairs =
    map (λ a. set_at_start (Variable (global a.0)) (v.Input (unescaped a.1))) (filter (λ a. can_assign a.0) pairs)

-- ---- several pieces, one after the other

module _ (g : Given) where
  -- the machine has come from these pieces to those, with no request and no step
  pub record Prepared (from to : List Piece) (old new : Whole) : Type 0 where
    pub same : used new ≡ used old
    pub settles : (hid : Hidden) (c : Course) → Agreeing g old hid c → Settles g from old hid c to new

  -- or the run is halted
  pub record Prepares (from to : List Piece) (old : Whole) (result : Result (Unit {0}) Halt) (new : Whole) : Type 0
    where
      pub same : used new ≡ used old
      pub settles : (hid : Hidden) (c : Course) → Agreeing g old hid c →
          MatchResult result (λ u. Settles g from old hid c to new) (λ h. HaltsSo g from old hid c new h)
