use Rattle.std.proofs.Common.{refl}
use Rattle.awk_input.proofs.reports.message.Goals as goal

pub returns : goal.returns
returns c =
    rw (
      c.new.ensures,
      c.in_ok-extend_from_slice-4.ensures.items,
      c.in_ok-extend_from_slice-3.ensures.items,
      c.in_ok-extend_from_slice-2.ensures.items,
      c.in_ok-extend_from_slice.ensures.items,
      c.in_ok-text.ensures.items,
      c.as_slice.ensures,
      c.as_slice-2.ensures,
      c.as_slice-3.ensures.value,
      c.as_slice-4.ensures,
      c.in_ok-quoted.ensures.ok,
    ) refl
