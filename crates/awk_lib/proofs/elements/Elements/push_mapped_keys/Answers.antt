use Rattle.std.proofs.Common.{◌≡◌, ◌++◌, map, ℕ, List, None, Some, sym, ap, ◌∙◌, append-nil}
use Rattle.std.specs.Map.Iter.{deref_pair}
use Rattle.awk_lib.specs.Numbering.{keyed, listed, rows}
use Rattle.awk_lib.specs.declared.dense.Numbered.{Numbered}
use Rattle.awk_lib.proofs.Keys.{listed_push}
use Rattle.awk_lib.proofs.Mapped.{next_rows}
use Rattle.awk_lib.proofs.Rows.{Row}
use Rattle.awk_lib.proofs.elements.Elements.push_mapped_keys.Goals as goal

pub loop-key-preserved-in_default : goal.loop-key-preserved-in_default
loop-key-preserved-in_default g c =
    let before = rows (map deref_pair c.loop-key.yielded) in
    c.loop-key.invariant
    ∙ ap (λ l. listed c.args.keys.now.items ++ keyed l)
    (sym (next_rows c.loop-key.yielded (c.in-Some.key, c.in-Some.place) None c.in_default.is ∙ append-nil before))

pub loop-key-preserved : goal.loop-key-preserved
loop-key-preserved g c =
    let element = c.in-Some-place.element in
    let key = c.in-Some.key.now in
    let before = rows (map deref_pair c.loop-key.yielded) in
    let text : c.in_ok-of.field-0 ≡ key = c.in_ok-of.ensures ∙ c.bytes.ensures in
    let x : Numbered (List ℕ) = record { number = element.number; value = c.in_ok-of.field-0 } in
    let row : Row g.row.V.Denot = (element.number, (key, element.value)) in
    ap listed c.in_ok-push.ensures.items
    ∙ listed_push c.loop-key.keys.items x (listed c.args.keys.now.items) before row c.loop-key.invariant
    (λ i. (element.number, text i))
    ∙ ap (λ l. listed c.args.keys.now.items ++ keyed l)
    (sym (next_rows c.loop-key.yielded (c.in-Some.key, c.in-Some.place) (Some element) c.in-Some-place.is))
