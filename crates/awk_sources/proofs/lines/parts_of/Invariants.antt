use Rattle.std.proofs.Common.{◌≡◌, map, take}
use Rattle.awk_sources.specs.Lines.{entries, entry_of}
use Rattle.awk_sources.proofs.lines.parts_of.Given as goal

abbrev pub invariant-loop-source : goal.invariant-loop-source
invariant-loop-source l = entries l.parts.items ≡ map entry_of (take l.source-index l.sources)
