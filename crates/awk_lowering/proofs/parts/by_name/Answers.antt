use Rattle.std.proofs.Common.{◌∙◌, sym, refl}
use Rattle.awk_lowering.proofs.parts.by_name.Goals as goal

pub returns-in_ok-v : goal.returns-in_ok-v
returns-in_ok-v c = let v = rw c.bytes-text.ensures at c.in_ok-v.ensures in λ a rest. rw (c.if-takes_array.true, v) refl

pub returns-then-is_array : goal.returns-then-is_array
returns-then-is_array c =
    let are = rw c.bytes-text.ensures at c.is_array.ensures in
    λ a rest. rw (c.if-takes_array.false, sym are ∙ c.if-is_array.true) refl

pub returns-else-is_array : goal.returns-else-is_array
returns-else-is_array c =
    let are = rw c.bytes-text.ensures at c.is_array.ensures in
    λ a rest. rw (c.if-takes_array.false, sym are ∙ c.if-is_array.false) refl
