use Rattle.std.proofs.Common.{refl}
use Rattle.awk_store.proofs.Numbered.{none_filled}
use Rattle.awk_store.proofs.cell.Cell.fill.Goals as goal

pub returns-in-Value-clause-filled : goal.returns-in-Value-clause-filled
returns-in-Value-clause-filled c = rw c.in-Value.is (none_filled c.counted.result c.args.parts.items _ (λ a. refl)
    (rw c.as_slice.ensures.value at c.counted.ensures.ok) (rw c.as_slice.ensures.value at c.counted.ensures.err))

pub returns-in-Array-clause-filled : goal.returns-in-Array-clause-filled
returns-in-Array-clause-filled c = rw c.in-Array.is (
  c.fill_with.new.array,
  c.fill_with.ensures.ok,
  c.fill_with.ensures.err,
  refl,
)
