use Rattle.std.proofs.Common.{◌≡◌, length, map}
use Rattle.awk_tree.specs.Terminals.{word_in}
use Rattle.awk_expressions.proofs.terminals.word_in.Given as goal

abbrev pub invariant-loop-table : goal.invariant-loop-table
invariant-loop-table l = word_in (map (λ entry. (entry.0.now, entry.1)) l.table) l.text
    ≡ word_in (map (λ entry. (entry.0.now, entry.1)) l.initial.table) l.text

abbrev pub decreases-loop-table : goal.decreases-loop-table
decreases-loop-table l = length l.table
