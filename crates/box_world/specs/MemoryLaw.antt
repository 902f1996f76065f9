-- Which world in memory follows from which.
use Rattle.std.specs.Prelude.{◌≡◌, ℕ, List, [], ◌++◌, refl}
use Rattle.std.specs.Map.{keys_of}
use Rattle.std.proofs.Common.{ap, sym, ◌∙◌, append_assoc}
use Rattle.std.proofs.lemmas.List.{append-nil}
use Rattle.box_world.specs.Calls.{Call, open_after, open_after-append}
use Rattle.box_world.specs.MemoryState.{MemoryState}

abbrev pub numbers_of : MemoryState → List ℕ
numbers_of state = keys_of state.store.streams

-- it was asked these calls, and has the numbers open that they leave open
pub record Follows (old : MemoryState) (calls : List Call) (new : MemoryState) : Type 0 where
  pub asked : new.asked ≡ old.asked ++ calls
  pub numbers : numbers_of new ≡ open_after calls (numbers_of old)

pub Follows-none : (w : MemoryState) → Follows w [] w
Follows-none w = record { asked = sym (append-nil w.asked); numbers = refl }

pub Follows-append : (u v w : MemoryState) (xs ys : List Call) → Follows u xs v → Follows v ys w → Follows u (xs ++ ys) w
Follows-append u v w xs ys p q = record {
  asked = q.asked ∙ ap (λ z. z ++ ys) p.asked ∙ append_assoc u.asked xs ys;
  numbers = q.numbers ∙ ap (open_after ys) p.numbers ∙ sym (open_after-append xs ys (numbers_of u));
}

pub Follows-open : (v w : MemoryState) (calls : List Call) → Follows v calls w → numbers_of w
    ≡ open_after calls (numbers_of v)
Follows-open v w calls p = p.numbers
