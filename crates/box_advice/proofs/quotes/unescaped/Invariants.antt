use Rattle.std.proofs.Common.{◌≡◌, List, ℕ, length}
use Rattle.awk_text.specs.Quoted.{quoted}
use Rattle.box_advice.proofs.QuotesLemmas.{AreBytes, Left}
use Rattle.box_advice.proofs.quotes.unescaped.Given as goal

abbrev pub decreases-loop-next : goal.decreases-loop-next
decreases-loop-next l = length l.rest

-- of a text that is quoted so the bytes were read, and what is left quotes the others
abbrev pub invariant-loop-next : goal.invariant-loop-next
invariant-loop-next l = (text : List ℕ) → AreBytes text → quoted text ≡ l.fn.line → Left text l.text.items l.rest
