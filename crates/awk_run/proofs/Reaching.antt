-- How a run goes on from the pieces that it has come to.
use Rattle.std.proofs.Common.{◌≡◌, refl, List, [], ◌∷◌}
use Rattle.std.specs.Prelude.{Result, Ok, Err}
use Rattle.box_world.specs.declared.world.World.{Ghosts}
use Rattle.awk_machine.specs.Advances.{advance}
use Rattle.awk_machine.specs.Begins.{first_pieces, first_state, nothing}
use Rattle.awk_machine.specs.Pieces.{Piece, Goes}
use Rattle.awk_machine.specs.Plays.{here, goes}
use Rattle.awk_machine.specs.State.{Course, Given}
use Rattle.awk_machine.specs.Statements.{to_records}
use Rattle.awk_machine.specs.Streams.{seen}
use Rattle.awk_store.specs.States.{Hidden}
use Rattle.awk_streams.specs.declared.halt.Halt.{Halt}
use Rattle.awk_streams.specs.Chains.{Comes, Halted, Meets}
use Rattle.awk_streams.proofs.Chain.{comes-after, halted-after, join}
use Rattle.awk_store.specs.Wholes.{Whole, Agreeing, base, used}
use Rattle.awk_run.specs.Runs.{ReachedOn, Reached, Stopped}

module _ {W : Type 0} {ghosts : Ghosts W} {g : Given} {first : W} {mid : Whole} {w : W} where
  -- a part is done, and its value goes where `on` says
  pub then_part : {A : Type 0} {q : Piece} {k : List Piece} {on : A → List Piece → List Piece} {new : Whole} {w' : W}
      {r : Result A Halt} (x : A) → Reached ghosts g first (q ∷ k) mid w →
      Meets ghosts (base g) (Agreeing g) used g q on mid w r new w' → r ≡ Ok x → Reached ghosts g first (on x k) new w'
  then_part {q = q} {k = k} {on = on} {new = new} {w' = w'} x y m e =
      let z : Comes ghosts (base g) (Agreeing g) used g first (q ∷ k) (seen (base g mid y.hidden) y.course) y.course
      (on x k) new w' = rw e at (m.plays first k y.hidden y.course y.knows) in
      comes-after ghosts (base g) (Agreeing g) used g first (first_pieces g) (q ∷ k) (on x k) (first_state g)
      (seen (base g mid y.hidden) y.course) nothing y.course new w' y.chain z

  -- it is halted, and so is the run
  pub then_halt : {A : Type 0} {q : Piece} {k : List Piece} {on : A → List Piece → List Piece} {new : Whole} {w' : W}
      {r : Result A Halt} (h : Halt) → to_records k ≡ [] → Reached ghosts g first (q ∷ k) mid w →
      Meets ghosts (base g) (Agreeing g) used g q on mid w r new w' → r ≡ Err h → Stopped ghosts g first h new w'
  then_halt {q = q} {k = k} {new = new} {w' = w'} h none y m e =
      let z : Halted ghosts (base g) (Agreeing g) used g first (q ∷ k) (seen (base g mid y.hidden) y.course) y.course k
      new w' h = rw e at (m.plays first k y.hidden y.course y.knows) in
      halted-after ghosts (base g) (Agreeing g) used g h first (first_pieces g) (q ∷ k) [] k (first_state g)
      (seen (base g mid y.hidden) y.course) nothing y.course new w' y.chain none z

  -- a move that changes nothing
  pub then_move : {k : List Piece} (l : List Piece) → Reached ghosts g first k mid w →
      ((hid : Hidden) (c : Course) → advance g k (seen (base g mid hid) c) ≡ Goes l (seen (base g mid hid) c))
      → Reached ghosts g first l mid w
  then_move l y e = record {
    course = y.course;
    hidden = y.hidden;
    knows = y.knows;
    chain =
        join y.chain (goes (e y.hidden y.course) here);
  }

  -- a part is done, or halted
  goes_by : {A : Type 0} {q : Piece} {k : List Piece} {on : A → List Piece → List Piece} {new : Whole} {w' : W}
      (r : Result A Halt) → to_records k ≡ [] → Reached ghosts g first (q ∷ k) mid w →
      Meets ghosts (base g) (Agreeing g) used g q on mid w r new w' → ReachedOn ghosts g first (λ x. on x k) r new w'
  goes_by (Ok x) none y m = then_part x y m refl
  goes_by (Err h) none y m = then_halt h none y m refl

  pub then_goes : {A : Type 0} {q : Piece} {k : List Piece} {on : A → List Piece → List Piece} {new : Whole} {w' : W}
      {r : Result A Halt} → to_records k ≡ [] → Reached ghosts g first (q ∷ k) mid w →
      Meets ghosts (base g) (Agreeing g) used g q on mid w r new w' → ReachedOn ghosts g first (λ x. on x k) r new w'
  then_goes {r = r} none y m = goes_by r none y m
