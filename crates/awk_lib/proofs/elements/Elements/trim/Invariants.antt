use Rattle.std.specs.Prelude.{◌≡◌, length}
use Rattle.awk_lib.specs.Kept.{mapped_rows}
use Rattle.awk_lib.proofs.elements.Elements.trim.Given as goal

abbrev pub invariant-loop-self : goal.invariant-loop-self
invariant-loop-self g l = (mapped_rows l.self ≡ mapped_rows l.initial.self) × (l.self.dense ≡ l.initial.self.dense)
    × (l.self.count ≡ l.initial.self.count)

abbrev pub decreases-loop-self : goal.decreases-loop-self
decreases-loop-self g l = length l.self.map.entries
