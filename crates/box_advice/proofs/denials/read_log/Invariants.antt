use Rattle.std.proofs.Common.{◌≡◌, ◌≤◌, ◌+◌, length}
use Rattle.box_advice.specs.Gathered.{AreMet}
use Rattle.box_advice.proofs.LogsLemmas.{Behind}
use Rattle.box_advice.proofs.denials.read_log.Given as goal

abbrev pub invariant-loop-at : goal.invariant-loop-at
invariant-loop-at l = record {
  behind : Behind l.fn.log l.at l.gathered.wishes.items l.rest;
  met : AreMet l.gathered;
  few : l.at + length l.rest ≤ length l.fn.log;
}
