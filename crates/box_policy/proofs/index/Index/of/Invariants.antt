use Rattle.std.proofs.Common.{◌≡◌, ◌+◌, ◌≤◌, ℕ, List, length, drop, reverse}
use Rattle.std.specs.Map.{lookup}
use Rattle.std.specs.Str.{bytes_eq}
use Rattle.box_policy.specs.Shelves.{shelf, first_of, stands, chain}
use Rattle.box_policy.proofs.index.Index.of.Given as goal

-- the rules from this place on stand in the index
abbrev pub invariant-loop-at : goal.invariant-loop-at
invariant-loop-at l = record {
  within : l.at ≤ length l.rules;
  firsts : (place : List ℕ) → lookup (λ k. bytes_eq place (shelf k.kind k.group k.first.items)) l.firsts.entries
      ≡ first_of (stands place) (l.at + 1) (drop l.at l.rules);
  nexts : l.nexts.items ≡ reverse (chain (l.at + 1) (drop l.at l.rules));
}

abbrev pub decreases-loop-at : goal.decreases-loop-at
decreases-loop-at l = l.at
