use Rattle.std.proofs.Common.{Some}
use Rattle.awk_ere.specs.Image.{IsImage, Within}
use Rattle.awk_ere.specs.Pattern.{Chain, Matches}
use Rattle.awk_ere.specs.View.{pattern}
use Rattle.awk_ere.proofs.Images.{IsClosing, missing}
use Rattle.awk_ere.proofs.plain.+image.Given as goal

abbrev pub invariant-copies-loop-i : goal.invariant-copies-loop-i
invariant-copies-loop-i l = IsImage (Chain (Matches l.text (pattern l.sets l.node)) l.i) l.from l.to.items

abbrev pub invariant-options-loop-i : goal.invariant-options-loop-i
invariant-options-loop-i l = IsImage (Within (Matches l.text (pattern l.sets l.node)) (Some l.i)) l.from l.to.items

abbrev pub invariant-closure-turns : goal.invariant-closure-turns
invariant-closure-turns l = IsClosing (Matches l.text (pattern l.sets l.node)) l.from l.to.items

abbrev pub decreases-closure-turns : goal.decreases-closure-turns
decreases-closure-turns l = missing l.to.items
