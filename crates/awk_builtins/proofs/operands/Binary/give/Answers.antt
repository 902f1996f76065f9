use Rattle.std.proofs.Common.{[], ap, refl, subst, sym, ◌∙◌, ◌∷◌}
use Rattle.std.proofs.lemmas.Result.{err_from_is_err_and}
use Rattle.std.specs.Prelude.{IfOk, Ok, ◌≡◌}
use Rattle.awk_program.specs.Program as p
use Rattle.awk_builtins.proofs.Convfmt.{compared-so}
use Rattle.awk_builtins.proofs.Granted.{given_now, met_so}
use Rattle.awk_builtins.specs.Shown.{compared_by}
use Rattle.awk_store.proofs.Acting.{acted}
use Rattle.awk_store.proofs.VariableSteps.{ok_at}
use Rattle.awk_store.specs.Wholes.{Whole, base}
use Rattle.awk_machine.specs.Advances.{held}
use Rattle.awk_machine.specs.Forms.{deliver}
use Rattle.awk_machine.specs.Operators.{of_truth}
use Rattle.awk_machine.specs.Pieces.{At, Value_of, give}
use Rattle.awk_machine.specs.Streams.{seen}
use Rattle.awk_builtins.proofs.operands.Binary.give.Goals as goal

pub returns-in_err-holds-in-Compare-clause-task : goal.returns-in_err-holds-in-Compare-clause-task
returns-in_err-holds-in-Compare-clause-task g c = λ m x y.
    let w : Whole = (c.args.store.now, c.args.streams.now) in
    let e = err_from_is_err_and c.from_residual.result c.from_residual.ensures.1 in
    rw (c.in-Compare.is, e.1, e.2)
    (acted (met_so m w (At (Value_of (p.compare c.in-Compare.place c.in-Compare.how x y))
    (c.args.right ∷ c.args.left ∷ [])) c.in-Compare.place
    (compared_by c.args.store.now c.in-Compare.how c.args.left c.args.right) c.compared.result _
    c.compared.ensures.err (sym c.at.ensures ∙ c.in_err-holds-in-Compare.was)
    (λ f is k hid d a. ap (λ r. held m (seen (base m w hid) d) (deliver c.in-Compare.place r k (seen (base m w hid) d)))
    (compared-so m w hid d a c.in-Compare.how c.args.left c.args.right ∙ is))))

pub returns-in_ok-holds-in-Compare-clause-task : goal.returns-in_ok-holds-in-Compare-clause-task
returns-in_ok-holds-in-Compare-clause-task g c = λ m x y.
    let w : Whole = (c.args.store.now, c.args.streams.now) in
    let made : compared_by c.args.store.now c.in-Compare.how c.args.left c.args.right
    ≡ Ok (of_truth c.in_ok-holds-in-Compare.holds) =
    subst (λ r. IfOk r (λ b. compared_by c.args.store.now c.in-Compare.how c.args.left c.args.right ≡ Ok (of_truth b)))
    (ok_at c.in-Compare.place c.compared.result c.in_ok-holds-in-Compare.holds
    (sym c.at.ensures ∙ c.in_ok-holds-in-Compare.was)) c.compared.ensures.ok in
    rw (c.in-Compare.is, c.truth_value.ensures)
    (acted (given_now m w (At (Value_of (p.compare c.in-Compare.place c.in-Compare.how x y))
    (c.args.right ∷ c.args.left ∷ [])) c.in-Compare.place give
    (compared_by c.args.store.now c.in-Compare.how c.args.left c.args.right)
    (of_truth c.in_ok-holds-in-Compare.holds) made
    (λ k hid d a. ap (λ r. held m (seen (base m w hid) d) (deliver c.in-Compare.place r k (seen (base m w hid) d)))
    (compared-so m w hid d a c.in-Compare.how c.args.left c.args.right))))

pub returns-in-Builtin-clause-task : goal.returns-in-Builtin-clause-task
returns-in-Builtin-clause-task g c = λ m x y. rw c.in-Builtin.is
    (c.called.ensures.task m (p.more x (p.more y p.none)) refl)
