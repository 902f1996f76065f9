use Rattle.std.proofs.Common.{◌≡◌, List, length, map, take}
use Rattle.awk_streams.specs.Tables.{Table}
use Rattle.awk_machine.specs.State.{Given}
use Rattle.awk_store.specs.Kept.{as_scalar}
use Rattle.awk_store.specs.States.{Hidden, bound_of}
use Rattle.awk_store.specs.Wholes.{base, names_in}
use Rattle.awk_text.specs.declared.value.Value.{Value}
use Rattle.awk_store.proofs.Framing.{half}
use Rattle.awk_store.proofs.frames.hand_arrays.Given as goal

abbrev pub invariant-loop-x : goal.invariant-loop-x
invariant-loop-x l =
    ((g : Given) (t : Table) (hid : Hidden) (vs : List Value) → l.fn.bounds.items ≡ map as_scalar vs
    → map (bound_of (names_in g)) l.bounds.items ≡ half (names_in g) (base g (l.store, t) hid) l.x-index l.xs
    (take (length l.xs) vs))
    × (l.at ≡ l.x-index)
