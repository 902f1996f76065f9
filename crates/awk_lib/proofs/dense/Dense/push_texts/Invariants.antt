use Rattle.std.specs.Prelude.{◌≡◌, ◌++◌, take}
use Rattle.awk_lib.specs.Dense.{dense_rows}
use Rattle.awk_lib.specs.Numbering.{texts}
use Rattle.awk_lib.proofs.dense.Dense.push_texts.Given as goal

abbrev pub invariant-loop-k : goal.invariant-loop-k
invariant-loop-k g l = l.keys.items ≡ l.initial.keys.items ++ texts (dense_rows 0 (take l.k l.self.places.items))
