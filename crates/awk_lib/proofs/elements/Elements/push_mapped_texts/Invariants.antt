use Rattle.std.specs.Prelude.{◌≡◌, ◌++◌, map}
use Rattle.std.specs.Map.Iter.{deref_pair}
use Rattle.awk_lib.specs.Numbering.{rows, texts}
use Rattle.awk_lib.proofs.elements.Elements.push_mapped_texts.Given as goal

abbrev pub invariant-loop-key : goal.invariant-loop-key
invariant-loop-key g l = l.keys.items ≡ l.initial.keys.items ++ texts (rows (map deref_pair l.yielded))
