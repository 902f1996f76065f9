use Rattle.std.proofs.Common.{◌≡◌, ◌+◌, ◌<◌, ◌++◌, take, drop, string_bytes}
use Rattle.awk_sources.specs.Lines.{entries, table, total}
use Rattle.awk_sources.proofs.lines.rows.Given as goal

-- the rows of the parts before this one, as long as their lines can be counted
abbrev pub invariant-loop-part : goal.invariant-loop-part
invariant-loop-part l =
    1 + total (entries l.parts) < 18446744073709551616
    → (string_bytes l.table ++ table l.first (entries (drop l.part-index l.parts)) ≡ table 1 (entries l.parts))
    × (l.first ≡ 1 + total (entries (take l.part-index l.parts)))
