use Rattle.std.proofs.Common.{◌≡◌, ◌+◌, ◌≤◌, take}
use Rattle.awk_sources.specs.Lines.{entries, total}
use Rattle.awk_sources.proofs.lines.part_at.Given as goal

-- the lines of the parts before this one are counted off
abbrev pub invariant-loop-part : goal.invariant-loop-part
invariant-loop-part l = (l.fn.place.line ≡ total (entries (take l.part-index l.parts)) + l.line) × (1 ≤ l.line)
