use Rattle.std.proofs.Common.{◌≡◌, ◌-◌}
use Rattle.awk_tokens.specs.declared.terminals.Terminal.TheVariants as w
use Rattle.awk_tree.specs.Terminals.{is}
use Rattle.awk_tree.specs.Input.{many_from}
use Rattle.awk_tree.specs.Expressions.{in_name, in_names}
use Rattle.awk_expressions.proofs.Loops.{with_front}
use Rattle.awk_expressions.proofs.members.in_names.Given as goal

abbrev pub invariant-loop-turn : goal.invariant-loop-turn
invariant-loop-turn l = with_front l.found (many_from (is w.In) in_name (l._turn-end - l._turn) l.tokens)
    ≡ in_names l.fn.tokens
