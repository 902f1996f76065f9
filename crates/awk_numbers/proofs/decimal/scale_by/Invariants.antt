use Rattle.std.proofs.Common.{◌≡◌, ℕ, ◌*◌, ◌^◌, length}
use Rattle.awk_numbers.specs.Figures.{below, AllFigures, AreFigures}
use Rattle.awk_numbers.proofs.decimal.scale_by.Given as goal

abbrev pub invariant-times : goal.invariant-times
invariant-times l = record {
  figures : AllFigures l.digits.items;
  size : below l.digits.items (length l.digits.items)
      ≡ below l.fn.digits.items (length l.fn.digits.items) * l.factor ^ l._turn;
  value : (n : ℕ) → AreFigures l.fn.digits.items n → AreFigures l.digits.items (n * l.factor ^ l._turn);
}
