use Rattle.std.proofs.Common.{◌≡◌, ◌++◌, drop}
use Rattle.box_listing.specs.Lines.{lines_of}
use Rattle.box_listing.proofs.lines.push_lines.Given as goal

abbrev pub invariant-loop-site : goal.invariant-loop-site
invariant-loop-site l = l.initial.out.items ++ lines_of l.sites ≡ l.out.items ++ lines_of (drop l.site-index l.sites)
