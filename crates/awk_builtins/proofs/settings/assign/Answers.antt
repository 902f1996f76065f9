use Rattle.std.proofs.Common.{[], refl, sym, ◌∙◌, ◌∷◌}
use Rattle.std.proofs.lemmas.Result.{err_from_is_err_and}
use Rattle.awk_machine.specs.Pieces.{At, Do, Give, Set, Value_of}
use Rattle.awk_machine.specs.Targets.{stored}
use Rattle.awk_program.specs.Program as p
use Rattle.awk_store.proofs.Acting.{at_rest, doing, done, lacking, moves, stop}
use Rattle.awk_store.specs.Spots.{meant, value_of}
use Rattle.awk_store.specs.Wholes.{names_in}
use Rattle.awk_builtins.proofs.Stored.{stored_by}
use Rattle.awk_builtins.proofs.settings.assign.Goals as goal

pub returns-in_default : goal.returns-in_default
returns-in_default c = λ g t r x is. lacking refl

pub returns-in_err-set : goal.returns-in_err-set
returns-in_err-set c = λ g t r x is.
    let e = err_from_is_err_and c.from_residual.result c.from_residual.ensures.1 in
    rw (e.1, e.2) (stop _ (moves {then_ = λ k. Do (Set (meant (names_in g) c.args.to) c.args.place c.args.value) ∷ Do
    (Give (stored c.args.store.now.numbers (meant (names_in g) c.args.to) c.args.value)) ∷ k}
    (at_rest (At (Value_of (p.assign c.args.place r x)) (c.args.value ∷ value_of c.args.to ∷ [])) (c.args.store.now, t))
    (λ k hid d a. rw is refl)) (rw c.stored.ensures.same at (c.set.ensures g t)) c.in_err-set.was)

pub returns : goal.returns
returns c = λ g t r x is.
    done (moves (doing (tt {0}) (moves {then_ = λ k. Do (Set (meant (names_in g) c.args.to) c.args.place c.args.value)
    ∷ Do
    (Give (stored c.args.store.now.numbers (meant (names_in g) c.args.to) c.args.value)) ∷ k}
    (at_rest (At (Value_of (p.assign c.args.place r x)) (c.args.value ∷ value_of c.args.to ∷ [])) (c.args.store.now, t))
    (λ k hid d a. rw is refl)) (rw c.stored.ensures.same at (c.set.ensures g t)) c.in_ok-set.was)
    (λ k hid d a. rw (stored_by c.args.store.now.numbers g _ hid d a c.args.to c.args.value
    ∙ sym (rw c.numbers.ensures at c.in-Ok.ensures.ok)) refl))
