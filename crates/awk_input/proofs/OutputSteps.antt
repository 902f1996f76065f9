-- A text is put to a stream that the script names.
use Rattle.std.proofs.Common.{◌≡◌, inr, refl, arith, ℕ, List, ◌∷◌}
use Rattle.std.specs.Prelude.{Result, Ok, Err, Some}
use Rattle.box_world.specs.Calls.{IsStream}
use Rattle.box_world.specs.Events.{Class, find_stream}
use Rattle.box_world.specs.declared.world.World.{Ghosts}
use Rattle.awk_machine.specs.Pieces.{Piece}
use Rattle.awk_machine.specs.State.{Given}
use Rattle.awk_program.specs.Slots.{Text}
use Rattle.awk_streams.specs.declared.halt.Halt.{Halt}
use Rattle.awk_streams.specs.Tables.{Table, open_of}
use Rattle.awk_streams.specs.Tasks.{Owns, goes_on}
use Rattle.awk_streams.proofs.Chain.{part, stop}
use Rattle.awk_streams.proofs.Numbers.{among_all, found_once}
use Rattle.awk_store.specs.Wholes.{Whole}
use Rattle.awk_input.specs.Inputs.{LeadsOrHalts}
use Rattle.awk_input.specs.Performs.{LeadsWhole, MeetsWhole}

-- a stream that is open is the world's
pub open_duty : (numbers : List ℕ) (c : Class) (t : Text) (n : ℕ) (table : Table) → find_stream c t (open_of table)
    ≡ Some n → Owns numbers table → IsStream numbers n
open_duty numbers c t n table h owns =
    let one = found_once c t (open_of table) n h in
    let all = owns n in
    inr (among_all n numbers (omega (arith, one, all)))

-- a last piece, behind whatever was done
pub onward_last : {W A : Type 0} {ghosts : Ghosts W} (g : Given) (p q : Piece) (old mid new : Whole) (w w' w'' : W)
    (r : Result A Halt) →
    LeadsWhole ghosts g p old w (λ l. q ∷ l) mid w' → MeetsWhole ghosts g q goes_on mid w' r new w''
    → LeadsOrHalts ghosts g p old w (λ l. l) r new w''
onward_last g p q old mid new w w' w'' (Ok x) lead task = part x lead task refl
onward_last g p q old mid new w w' w'' (Err h) lead task = stop h (λ k. refl) lead task refl
