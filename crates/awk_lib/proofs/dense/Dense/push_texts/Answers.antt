use Rattle.std.proofs.Common.{◌≡◌, ◌++◌, get_or, take, Some, None, sym, ap, ◌∙◌, subst, append-nil}
use Rattle.std.specs.Fmt.{decimal}
use Rattle.awk_lib.specs.Dense.{dense_rows}
use Rattle.awk_lib.specs.Numbering.{texts}
use Rattle.awk_lib.proofs.Keeping.{dense_read}
use Rattle.awk_lib.proofs.Keys.{texts_push}
use Rattle.awk_lib.proofs.Rows.{Row}
use Rattle.awk_lib.proofs.Seams.{dense_next}
use Rattle.awk_lib.proofs.dense.Dense.push_texts.Goals as goal

pub loop-k-preserved-in_default : goal.loop-k-preserved-in_default
loop-k-preserved-in_default g c =
    let ps = c.args.self.now.places.items in
    let qs = c.deref-place-items.result.now in
    let k = c.loop-k.k in
    let at = dense_read ps qs k None c.deref-place-items.ensures.value c.loop-k-test.true
    (subst (λ o. o ≡ get_or qs k o) c.in_default.is c.place-item.is) in
    c.loop-k.invariant ∙ ap (λ l. c.args.keys.now.items ++ texts l)
    (sym (dense_next ps k None at ∙ append-nil (dense_rows 0 (take k ps))))

pub loop-k-preserved : goal.loop-k-preserved
loop-k-preserved g c =
    let ps = c.args.self.now.places.items in
    let qs = c.deref-place-items.result.now in
    let k = c.loop-k.k in
    let element = c.in-Some.field-0 in
    let at = dense_read ps qs k (Some element) c.deref-place-items.ensures.value c.loop-k-test.true
    (subst (λ o. o ≡ get_or qs k o) c.in-Some.is c.place-item.is) in
    let text : c.in_ok-of.field-0 ≡ decimal k = c.in_ok-of.ensures ∙ c.as_bytes-digits.ensures.value
    ∙ c.format.ensures.text in
    let row : Row g.row.V.Denot = (element.number, (decimal k, element.value)) in
    c.in_ok-push.ensures.items
    ∙ texts_push c.loop-k.keys.items c.in_ok-of.field-0 c.args.keys.now.items (dense_rows 0 (take k ps)) row
    c.loop-k.invariant text
    ∙ ap (λ l. c.args.keys.now.items ++ texts l) (sym (dense_next ps k (Some element) at))
