use Rattle.std.proofs.Common.{◌≡◌, length, map}
use Rattle.std.specs.List.{list_any}
use Rattle.std.specs.Str.{bytes_eq}
use Rattle.awk_hints.proofs.known.is_among.Given as goal

-- none of those before is the name
abbrev pub invariant-loop-table : goal.invariant-loop-table
invariant-loop-table l = list_any (bytes_eq l.name) (map (λ known. known.now) l.table) ≡ list_any (bytes_eq l.name)
    (map (λ known. known.now) l.initial.table)

abbrev pub decreases-loop-table : goal.decreases-loop-table
decreases-loop-table l = length l.table
