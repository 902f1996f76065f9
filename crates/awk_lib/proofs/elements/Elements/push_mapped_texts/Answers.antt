use Rattle.std.proofs.Common.{◌≡◌, ◌++◌, map, None, Some, sym, ap, ◌∙◌, append-nil, rules}
use Rattle.std.proofs.lemmas.Map.Iter.{iter_end}
use Rattle.std.specs.Map.Iter.{deref_pair}
use Rattle.awk_lib.specs.Numbering.{rows, texts}
use Rattle.awk_lib.proofs.Keys.{texts_push}
use Rattle.awk_lib.proofs.Mapped.{next_rows}
use Rattle.awk_lib.proofs.Rows.{Row}
use Rattle.awk_lib.proofs.elements.Elements.push_mapped_texts.Goals as goal

pub loop-key-preserved-in_default : goal.loop-key-preserved-in_default
loop-key-preserved-in_default g c =
    let before = rows (map deref_pair c.loop-key.yielded) in
    c.loop-key.invariant
    ∙ ap (λ l. c.args.keys.now.items ++ texts l)
    (sym (next_rows c.loop-key.yielded (c.in-Some.key, c.in-Some.place) None c.in_default.is ∙ append-nil before))

pub loop-key-preserved : goal.loop-key-preserved
loop-key-preserved g c =
    let element = c.in-Some-place.field-0 in
    let key = c.in-Some.key.now in
    let before = rows (map deref_pair c.loop-key.yielded) in
    let text : c.in_ok-of.field-0 ≡ key = c.in_ok-of.ensures ∙ c.bytes.ensures in
    let row : Row g.row.V.Denot = (element.number, (key, element.value)) in
    c.in_ok-push.ensures.items ∙ texts_push c.loop-key.keys.items c.in_ok-of.field-0 c.args.keys.now.items before row
    c.loop-key.invariant text
    ∙ ap (λ l. c.args.keys.now.items ++ texts l)
    (sym (next_rows c.loop-key.yielded (c.in-Some.key, c.in-Some.place) (Some element) c.in-Some-place.is))

pub returns-clause-ok : goal.returns-clause-ok
returns-clause-ok g c =
    let all : map deref_pair c.loop-key.yielded ≡ c.args.self.now.map.entries = search (rules, iter_end) in
    c.loop-key.invariant ∙ ap (λ l. c.args.keys.now.items ++ texts (rows l)) all
