use Rattle.std.proofs.Common.{◌≡◌, ◌++◌, drop, map, length}
use Rattle.awk_lowering.specs.Programs.{names}
use Rattle.awk_lowering.proofs.items.named.Given as goal

abbrev pub invariant-loop-text : goal.invariant-loop-text
invariant-loop-text l =
    (names (map (λ t. t.items) l.texts) l.are ≡ l.out ++ names (map (λ t. t.items) (drop l.text-index l.texts))
    (drop l.text-index l.are))
    × (length l.out ≡ l.text-index)
