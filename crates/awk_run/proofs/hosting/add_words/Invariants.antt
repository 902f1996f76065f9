use Rattle.std.proofs.Common.{◌≡◌, drop}
use Rattle.awk_run.specs.Hosting.{with_words}
use Rattle.awk_run.proofs.hosting.add_words.Given as goal

abbrev pub invariant-loop-word : goal.invariant-loop-word
invariant-loop-word l = with_words l.words l.fn.host ≡ with_words (drop l.word-index l.words) l.host
