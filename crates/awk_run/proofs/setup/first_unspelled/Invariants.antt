use Rattle.std.proofs.Common.{◌≡◌, ◌+◌, drop}
use Rattle.awk_run.specs.SetupParts.{first_unspelled}
use Rattle.awk_run.proofs.setup.first_unspelled.Given as goal

-- the pairs so far are counted, and the first that is left is the first of all
abbrev pub invariant-loop-name : goal.invariant-loop-name
invariant-loop-name l = record {
  counted : l.number ≡ l.name-index;
  rest : first_unspelled (l.number + 1) (drop l.name-index l.assigns) ≡ first_unspelled 1 l.assigns;
}
