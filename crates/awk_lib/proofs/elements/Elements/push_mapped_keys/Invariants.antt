use Rattle.std.specs.Prelude.{◌≡◌, ◌++◌, map}
use Rattle.std.specs.Map.Iter.{deref_pair}
use Rattle.awk_lib.specs.Numbering.{keyed, listed, rows}
use Rattle.awk_lib.proofs.elements.Elements.push_mapped_keys.Given as goal

abbrev pub invariant-loop-key : goal.invariant-loop-key
invariant-loop-key g l = listed l.keys.items ≡ listed l.initial.keys.items ++ keyed (rows (map deref_pair l.yielded))
