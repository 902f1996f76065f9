-- What a task owes that asks nothing of the world and takes no step: from its piece the machine comes to what is left
-- to be done, in the same course.
use Rattle.std.specs.Prelude.{◌≡◌, List, ◌∷◌, Result, MatchResult}
use Rattle.awk_machine.specs.Pieces.{Piece, Faulted, ends}
use Rattle.awk_machine.specs.Plays.{Reaches}
use Rattle.awk_machine.specs.State.{Course, Given}
use Rattle.awk_machine.specs.Streams.{seen}
use Rattle.awk_store.specs.States.{Hidden}
use Rattle.awk_streams.specs.declared.halt.Halt.{Halt}
use Rattle.awk_streams.specs.declared.halt.Halt.TheVariants as halt
use Rattle.awk_store.specs.Wholes.{Whole, Agreeing, base, used}

module _ (g : Given) where
  -- from these pieces the machine comes to those, in the same course
  pub record Settles (from : List Piece) (old : Whole) (hid : Hidden) (c : Course) (k : List Piece) (new : Whole) : Type
      0 where
    pub hidden : Hidden
    pub agrees : Agreeing g new hidden c
    pub chain : Reaches g from (seen (base g old hid) c) c k (seen (base g new hidden) c) c

  abbrev pub HaltsSo : List Piece → Whole → Hidden → Course → Whole → Halt → Type 0
  HaltsSo from old hid c new halt.Memory = Unit {0}
  HaltsSo from old hid c new (halt.Fault fault place) = Settles from old hid c (ends (Faulted fault place)) new
  HaltsSo from old hid c new other = ⊥

  -- the piece p leads on to other pieces, whatever is left to be done
  pub record Passes (p : Piece) (old : Whole) (to : List Piece → List Piece) (new : Whole) : Type 0 where
    pub same : used new ≡ used old
    pub settles : (k : List Piece) (hid : Hidden) (c : Course) → Agreeing g old hid c →
        Settles (p ∷ k) old hid c (to k) new

  -- with a value it leads on to where `to` says, and else it meets a fault, or memory is refused
  pub record Acts {A : Type 0} (p : Piece) (to : A → List Piece → List Piece) (old : Whole) (result : Result A Halt)
      (new : Whole) : Type 0 where
    pub same : used new ≡ used old
    pub settles : (k : List Piece) (hid : Hidden) (c : Course) → Agreeing g old hid c →
        MatchResult result (λ x. Settles (p ∷ k) old hid c (to x k) new) (λ h. HaltsSo (p ∷ k) old hid c new h)
