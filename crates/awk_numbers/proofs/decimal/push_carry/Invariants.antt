use Rattle.std.proofs.Common.{◌≡◌, ℕ, suc, ◌+◌, ◌*◌, ◌^◌, ◌≤◌, ◌⊎◌, length}
use Rattle.awk_numbers.specs.Figures.{below, AllFigures}
use Rattle.awk_numbers.proofs.decimal.push_carry.Given as goal

abbrev pub invariant-loop-rest : goal.invariant-loop-rest
invariant-loop-rest l = record {
  value : below l.digits.items (length l.digits.items) + l.rest * 10 ^ length l.digits.items
      ≡ below l.fn.digits.items (length l.fn.digits.items) + l.carry * 10 ^ length l.fn.digits.items;
  figures : AllFigures l.digits.items;
  front : (k : ℕ) → length l.digits.items ≡ suc k → (length l.fn.digits.items ≡ suc k)
      ⊎ (10 ^ k ≤ below l.fn.digits.items (length l.fn.digits.items) + l.carry * 10 ^ length l.fn.digits.items);
}

abbrev pub decreases-loop-rest : goal.decreases-loop-rest
decreases-loop-rest l = l.rest
