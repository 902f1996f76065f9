use Rattle.std.proofs.Common.{◌≡◌, ◌+◌, drop}
use Rattle.awkbox.specs.Accepted.{first_barred}
use Rattle.awkbox.proofs.accepting.first_barred.Given as goal

-- the pairs so far are counted, and the first that is left is the first of all
abbrev pub invariant-loop-name : goal.invariant-loop-name
invariant-loop-name l = record {
  counted : l.number ≡ l.name-index;
  rest : first_barred l.script.kinds (l.number + 1) (drop l.name-index l.assigns) ≡ first_barred l.script.kinds 1
      l.assigns;
}
