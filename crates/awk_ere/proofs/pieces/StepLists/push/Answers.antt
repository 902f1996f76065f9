use Rattle.std.proofs.Common.{◌∙◌, ◌++◌, ap, arith}
use Rattle.awk_ere.proofs.Cuts.{kept_cut, kept_short, pushed_ends, pushed_view}
use Rattle.awk_ere.proofs.pieces.StepLists.push.Goals as goal

pub invariant_of-self : goal.invariant_of-self
invariant_of-self c =
    kept_short _ _ _ _ _ c.self.invariant c.deref.ensures.value (omega (arith, c.len.ensures, c.self.inside.ends.ok))
    c.start_of-start.ensures _ (c.in_err-extend_from_slice.ensures.items ∙ c.truncate.ensures.items)

pub invariant_of-self-in_err-push : goal.invariant_of-self-in_err-push
invariant_of-self-in_err-push c =
    let steps = c.in_ok-extend_from_slice.ensures.items ∙ ap (λ l. l ++ c.args.list.now) c.truncate.ensures.items in
    rw c.in_err-push.ensures.items (kept_cut _ _ _ _ _ c.self.invariant c.deref.ensures.value
    (omega (arith, c.len.ensures, c.self.inside.ends.ok)) c.start_of-start.ensures _ _ steps)

pub invariant_of-self-2 : goal.invariant_of-self-2
invariant_of-self-2 c =
    let steps = c.in_ok-extend_from_slice.ensures.items ∙ ap (λ l. l ++ c.args.list.now) c.truncate.ensures.items in
    pushed_ends _ _ _ _ _ c.self.invariant c.deref.ensures.value (omega (arith, c.len.ensures, c.self.inside.ends.ok))
    c.start_of-start.ensures _ _ _ _ steps (omega (arith, c.len-2.ensures, c.extend_from_slice.new.self.ok))
    c.in_ok-push.ensures.items

pub returns : goal.returns
returns c =
    let steps = c.in_ok-extend_from_slice.ensures.items ∙ ap (λ l. l ++ c.args.list.now) c.truncate.ensures.items in
    pushed_view _ _ _ _ _ c.self.invariant c.deref.ensures.value (omega (arith, c.len.ensures, c.self.inside.ends.ok))
    c.start_of-start.ensures _ _ _ _ steps (omega (arith, c.len-2.ensures, c.extend_from_slice.new.self.ok))
    c.in_ok-push.ensures.items _ c.self.view_is
