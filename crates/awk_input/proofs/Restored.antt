-- Steps of a part whose store runs ahead of the machine, or whose machine leads from another piece.
use Rattle.std.proofs.Common.{◌≡◌, sym, ap, ◌∙◌, ℕ, List}
use Rattle.std.specs.Prelude.{Err}
use Rattle.awk_text.specs.declared.place.Place.{Place}
use Rattle.box_world.specs.declared.ask.Stop.{Stop}
use Rattle.box_world.specs.declared.ask.Stop.TheVariants as stop
use Rattle.box_world.specs.declared.world.World.{Ghosts}
use Rattle.awk_machine.specs.Advances.{held}
use Rattle.awk_machine.specs.Pieces.{nowhere, Piece, Then, Goes}
use Rattle.awk_machine.specs.State.{State, Course, Given}
use Rattle.awk_machine.specs.Streams.{seen}
use Rattle.awk_streams.specs.declared.halt.Halt.TheVariants as halt
use Rattle.awk_streams.specs.Chains.{Leads, Meets, halt_by}
use Rattle.awk_streams.proofs.Chain.{at_once, changes, lacking}
use Rattle.awk_store.specs.Wholes.{Whole, Agreeing, base, used}
use Rattle.awk_input.specs.Operands.{Moves}

-- where memory is refused, or the log, what the store holds is no matter, but for its steps
pub restored : {W St H A : Type 0} {ghosts : Ghosts W} {base : St → H → State} {Ag : St → H → Course
    → Type 0} {used : St → ℕ} {g : Given} {p : Piece} {on : A → List Piece → List Piece} {old mid new : St} {w w' : W}
    (place : Place) (by : Stop) → used new ≡ used mid → Meets ghosts base Ag used g p on old w (Err (halt_by place by))
    mid w' → Meets ghosts base Ag used g p on old w (Err (halt_by place by)) new w'
restored place stop.Memory same h = record {
  plays = λ first k hid c a. let x = h.plays first k hid c a in
      record {
        todo = x.todo;
        last = x.last;
        course = x.course;
        leads = x.leads;
        spent = x.spent ∙ sym same;
        chain =
            x.chain;
        stands = x.stands;
      };
}
restored place stop.Log same h = record {
  plays = λ first k hid c a. let x = h.plays first k hid c a in
      record {
        todo = x.todo;
        last = x.last;
        course = x.course;
        want = x.want;
        ended = x.ended;
        spent =
            x.spent ∙ sym same;
        chain = x.chain;
        stands = x.stands;
      };
}

module _ {W : Type 0} {ghosts : Ghosts W} {g : Given} {p : Piece} {old mid : Whole} {then_ : Then} where
  -- memory is refused before the move
  pub lacks_at : {A : Type 0} {on : A → List Piece → List Piece} {w : W} → Moves g p old then_ mid
      → Meets ghosts (base g) (Agreeing g) used g p on old w (Err halt.Memory) mid w
  lacks_at {w = w} m = restored nowhere stop.Memory m.same (lacking (at_once p old w))

  -- a move that asks nothing
  pub goes_by : {to : List Piece → List Piece} {w : W} → Moves g p old then_ mid
      → ((k : List Piece) (s : State) → then_ k s ≡ Goes (to k) s)
      → Leads ghosts (base g) (Agreeing g) used g p old w to mid w
  goes_by {w = w} m e = changes (sym m.same) (at_once p old w)
      (λ k hid c a. (
        hid,
        m.agrees hid c a,
        ap (held g (seen (base g old hid) c))
            (m.moves k hid c a ∙ e k (seen (base g mid hid) c)),
      ))

-- the same move, said in other words
pub moved : {g : Given} {p : Piece} {old mid : Whole} {then_ other : Then} → Moves g p old then_ mid
    → ((k : List Piece) (s : State) → then_ k s ≡ other k s) → Moves g p old other mid
moved {g = g} {mid = mid} m e = record {
  same = m.same;
  agrees = m.agrees;
  moves = λ k hid c a. m.moves k hid c a
      ∙ e k (seen (base g mid hid) c);
}
