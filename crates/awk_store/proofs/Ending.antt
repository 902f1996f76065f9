-- How a call ends whose body has ended: with the value that it returned, or none.
use Rattle.std.proofs.Common.{◌≡◌, refl, List, [], ◌∷◌, map}
use Rattle.awk_text.specs.declared.value.Value.{Value}
use Rattle.awk_text.specs.declared.value.Value.TheVariants as v
use Rattle.awk_machine.specs.Builtins.{first}
use Rattle.awk_machine.specs.Pieces.{Piece, At, Leave}
use Rattle.awk_machine.specs.State.{Given}
use Rattle.awk_store.specs.States.{bound_of}
use Rattle.awk_store.specs.declared.frame.Caller.{Caller}
use Rattle.awk_store.specs.Calling.{ending}
use Rattle.awk_store.specs.Wholes.{names_in}
use Rattle.awk_store.specs.Calls.{returned}
use Rattle.awk_streams.specs.Flows.{flows}
use Rattle.awk_streams.specs.declared.flow.Flow.{Flow}
use Rattle.awk_streams.specs.declared.flow.Flow.TheVariants as flow

-- what the end of the call has by then
abbrev pub answers : Flow → List Value
answers (flow.ReturnNumber n) = v.Num n ∷ []
answers (flow.ReturnValue x) = x.value ∷ []
answers other = []

pub answers_so : (f : Flow) → first (answers f) ≡ returned f
answers_so flow.On = refl
answers_so flow.Break = refl
answers_so flow.Continue = refl
answers_so flow.Return = refl
answers_so (flow.ReturnNumber n) = refl
answers_so (flow.ReturnValue x) = refl

-- however the body ends, the end of the call is next
pub returns_to : (g : Given) (caller : Caller) (f : Flow) (k : List Piece) → flows f (ending g caller k)
    ≡ At (Leave (map (bound_of (names_in g)) caller.frame.items) caller.made) (answers f) ∷ k
returns_to g caller flow.On k = refl
returns_to g caller flow.Break k = refl
returns_to g caller flow.Continue k = refl
returns_to g caller flow.Return k = refl
returns_to g caller (flow.ReturnNumber n) k = refl
returns_to g caller (flow.ReturnValue x) k = refl
