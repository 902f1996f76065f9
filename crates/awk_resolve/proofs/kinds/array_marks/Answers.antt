use Rattle.std.proofs.Common.{Result, Ok, Err, IfOk}
use Rattle.awk_resolve.proofs.kinds.array_marks.Goals as goal

if_ok : {A E : Type 0} (P Q : A → Type 0) (r : Result A E) → ((x : A) → P x → Q x) → IfOk r P → IfOk r Q
if_ok P Q (Ok x) f h = f x h
if_ok P Q (Err e) f h = h

pub returns : goal.returns
returns c =
    let there = rw (c.as_slice.ensures, c.in_ok-measures.ensures, c.as_slice-2.ensures.value) at
    c.in_ok-measured.ensures in
    let marks = rw (
      c.as_slice-3.ensures,
      c.in_ok-arrays.ensures,
      c.as_slice-4.ensures.value,
      c.in_ok-link_measured.ensures,
    ) at c.reached-2.ensures in
    if_ok _ _ c.reached-2.result (λ x h. (c.in_ok-measured.measured, there, h)) marks
