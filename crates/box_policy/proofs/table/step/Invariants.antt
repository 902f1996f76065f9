use Rattle.std.proofs.Common.{◌≡◌, ◌<◌, ◌≤◌, ◌*◌, ℕ, length, map, get_or}
use Rattle.box_policy.specs.Blocks.{is_set, has, leads, loops, came_to, stepped}
use Rattle.box_policy.proofs.table.step.Given as goal

-- the words before i are done, and those from there on are what they were
abbrev pub invariant-loop-i : goal.invariant-loop-i
invariant-loop-i l = record {
  len : length l.reached ≡ length l.initial.reached;
  small : l.carry < 2;
  over : is_set l.carry 0 ≡ came_to l.initial.reached (map (leads l.token l.in_class) l.blocks) (64 * l.i);
  done : (k : ℕ) → k < 64 * l.i → has l.reached k ≡ stepped l.initial.reached (map (leads l.token l.in_class) l.blocks)
      (map (loops l.in_class) l.blocks) k;
  kept : (m : ℕ) → l.i ≤ m → get_or l.reached m 0 ≡ get_or l.initial.reached m 0;
}
