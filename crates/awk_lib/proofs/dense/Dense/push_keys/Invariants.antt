use Rattle.std.specs.Prelude.{◌≡◌, ◌++◌, take}
use Rattle.awk_lib.specs.Dense.{dense_rows}
use Rattle.awk_lib.specs.Numbering.{keyed, listed}
use Rattle.awk_lib.proofs.dense.Dense.push_keys.Given as goal

abbrev pub invariant-loop-k : goal.invariant-loop-k
invariant-loop-k g l = listed l.keys.items ≡ listed l.initial.keys.items
    ++ keyed (dense_rows 0 (take l.k l.self.places.items))
