use Rattle.std.proofs.Common.{◌≡◌, length}
use Rattle.awkbox.specs.Stack.{behind}
use Rattle.awkbox.proofs.stack.behind.Given as goal

-- before what is left the words do not stand
abbrev pub invariant-loop-left : goal.invariant-loop-left
invariant-loop-left l = behind l.words l.left ≡ behind l.words l.text

abbrev pub decreases-loop-left : goal.decreases-loop-left
decreases-loop-left l = length l.left
