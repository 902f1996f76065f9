use Rattle.std.proofs.Common.{◌≡◌, ◌≤◌, ◌-◌, ◌++◌, replicate}
use Rattle.awk_text.specs.declared.value.Value.TheVariants.{Unset}
use Rattle.awk_fields.specs.declared.part.Part.TheVariants.{Own}
use Rattle.awk_fields.proofs.edits.pad.Given as goal

abbrev pub invariant-loop-place : goal.invariant-loop-place
invariant-loop-place l = record {
  items : l.parts.items ≡ l.fn.parts.items ++ replicate (l.place - l.len) (Own Unset);
  stays : l.count ≤ l.len → l.place ≡ l.len;
}
