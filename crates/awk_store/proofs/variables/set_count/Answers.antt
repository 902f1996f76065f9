use Rattle.std.proofs.Common.{◌≡◌, rules, sym, ap, ◌∙◌, w64}
use Rattle.std.proofs.lemmas.Int.{to_z-of_z}
use Rattle.std.proofs.lemmas.Result.{err_from_is_err_and}
use Rattle.awk_store.specs.Numbers.{whole_number}
use Rattle.awk_store.proofs.VariableSteps.{no_number, nf_result, ok_at}
use Rattle.awk_store.proofs.variables.set_count.Goals as goal

pub returns-in_err-count : goal.returns-in_err-count
returns-in_err-count c = λ g t x y.
    let is : c.whole_number.result ≡ whole_number c.args.store.now.numbers c.args.value.now =
    c.whole_number.ensures ∙ ap (λ numbers. whole_number numbers c.args.value.now) c.numbers.ensures in
    let e = err_from_is_err_and c.from_residual.result c.from_residual.ensures.1 in
    rw (e.1, e.2) (no_number g (c.args.store.now, t) x c.args.place c.args.value.now y c.whole_number.result _
    is (sym c.at.ensures ∙ c.in_err-count.was))

pub returns : goal.returns
returns c = λ g t x y.
    let is : c.whole_number.result ≡ whole_number c.args.store.now.numbers c.args.value.now =
    c.whole_number.ensures ∙ ap (λ numbers. whole_number numbers c.args.value.now) c.numbers.ensures in
    let number = sym is ∙ ok_at c.args.place c.whole_number.result c.in_ok-count.count
    (sym c.at.ensures ∙ c.in_ok-count.was) in
    let read = to_z-of_z w64 c.in_ok-count.count (search rules) in
    rw c.at-2.ensures (nf_result g (c.args.store.now, t) x c.args.place c.args.value.now y c.set_field_count.result
    c.set_field_count.new.self c.in_ok-count.count number
    (rw read at c.set_field_count.ensures.ok) c.set_field_count.ensures.err c.set_field_count.ensures.others
    (rw read at c.set_field_count.ensures.fault))
