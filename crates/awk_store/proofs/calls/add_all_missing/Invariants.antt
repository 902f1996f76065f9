use Rattle.std.proofs.Common.{◌≡◌, ◌++◌, take, length}
use Rattle.awk_store.specs.Changes.{missing, new_arrays}
use Rattle.awk_store.proofs.calls.add_all_missing.Given as goal

abbrev pub invariant-loop-is_array : goal.invariant-loop-is_array
invariant-loop-is_array l = record {
  frame_is : l.frame.items ≡ l.fn.frame.items ++ missing (length l.fn.made.items) (take l.is_array-index l.others);
  made_is : l.made.items ≡ l.fn.made.items ++ new_arrays (take l.is_array-index l.others);
}
