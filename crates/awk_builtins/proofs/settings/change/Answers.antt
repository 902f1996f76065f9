use Rattle.std.proofs.Common.{[], ap, refl, sym, ◌∙◌, ◌∷◌}
use Rattle.std.proofs.lemmas.Result.{err_from_is_err_and}
use Rattle.awk_machine.specs.Pieces.{At, Do, Get, Give, Set, Value_of}
use Rattle.awk_machine.specs.Targets.{stored}
use Rattle.awk_program.specs.Program as p
use Rattle.awk_store.proofs.Acting.{at_rest, doing, done, lacking, moves, reworded, stop}
use Rattle.awk_store.specs.Spots.{meant, value_of}
use Rattle.awk_store.specs.Wholes.{names_in}
use Rattle.awk_builtins.proofs.Stored.{stored_by}
use Rattle.awk_text.specs.Values.{of_number}
use Rattle.awk_builtins.proofs.settings.change.Goals as goal

pub returns-in_err-old : goal.returns-in_err-old
returns-in_err-old c = λ g t r x is.
    let e = err_from_is_err_and c.from_residual.result c.from_residual.ensures.1 in
    rw (e.1, e.2) (stop _ (moves {then_ = λ k. Do (Get (meant (names_in g) c.args.to)) ∷ At (Value_of (p.change
    c.args.place c.args.how r x))
    (c.args.operand.now ∷ value_of c.args.to ∷ []) ∷ k} (at_rest (At (Value_of (p.change c.args.place c.args.how r x))
    (c.args.operand.now ∷ value_of c.args.to ∷ [])) (c.args.store.now, t)) (λ k hid d a. rw is refl)) (c.read.ensures g
    t) c.in_err-old.was)

pub returns-in_err-number : goal.returns-in_err-number
returns-in_err-number c = λ g t r x is.
    let e = err_from_is_err_and c.from_residual-in_err-number.result c.from_residual-in_err-number.ensures.1 in
    rw (e.1, e.2) (stop _ (doing c.in_ok-old.old (moves {then_ = λ k. Do (Get (meant (names_in g) c.args.to)) ∷ At
    (Value_of (p.change c.args.place c.args.how r x))
    (c.args.operand.now ∷ value_of c.args.to ∷ []) ∷ k} (at_rest (At (Value_of (p.change c.args.place c.args.how r x))
    (c.args.operand.now ∷ value_of c.args.to ∷ [])) (c.args.store.now, t)) (λ k hid d a. rw is refl)) (c.read.ensures g
    t) c.in_ok-old.was) (c.computed_at.ensures g (c.read.new.store, t) r x (value_of c.args.to)
    c.numbers-numbers.ensures) c.in_err-number.was)

pub returns-in_default : goal.returns-in_default
returns-in_default c = λ g t r x is.
    lacking (let h = (doing c.in_ok-old.old (moves {then_ = λ k. Do (Get (meant (names_in g) c.args.to)) ∷ At (Value_of
    (p.change c.args.place c.args.how r x))
    (c.args.operand.now ∷ value_of c.args.to ∷ []) ∷ k} (at_rest (At (Value_of (p.change c.args.place c.args.how r x))
    (c.args.operand.now ∷ value_of c.args.to ∷ [])) (c.args.store.now, t)) (λ k hid d a. rw is refl)) (c.read.ensures g
    t) c.in_ok-old.was) in h.same)

pub returns-in_err-set : goal.returns-in_err-set
returns-in_err-set c = λ g t r x is.
    let e = err_from_is_err_and c.from_residual-in_err-set.result c.from_residual-in_err-set.ensures.1 in
    rw (e.1, e.2) (stop _ (reworded {then_ = λ k. Do (Set (meant (names_in g) c.args.to) c.args.place (of_number
    c.in_ok-number.number)) ∷ Do
    (Give (stored c.numbers-numbers.result (meant (names_in g) c.args.to) (of_number c.in_ok-number.number))) ∷ k}
    (doing c.in_ok-number.number (doing c.in_ok-old.old (moves {then_ = λ k. Do (Get (meant (names_in g) c.args.to)) ∷
    At (Value_of (p.change c.args.place c.args.how r x))
    (c.args.operand.now ∷ value_of c.args.to ∷ []) ∷ k} (at_rest (At (Value_of (p.change c.args.place c.args.how r x))
    (c.args.operand.now ∷ value_of c.args.to ∷ [])) (c.args.store.now, t)) (λ k hid d a. rw is refl)) (c.read.ensures g
    t) c.in_ok-old.was) (c.computed_at.ensures g (c.read.new.store, t) r x (value_of c.args.to)
    c.numbers-numbers.ensures) c.in_ok-number.was)
    (λ k. ap (λ to. Do (Set to c.args.place (of_number c.in_ok-number.number)) ∷ Do
    (Give (stored c.numbers-numbers.result to (of_number c.in_ok-number.number))) ∷ k) is)) (rw c.of-2.ensures at
    (c.set.ensures g t)) c.in_err-set.was)

pub returns : goal.returns
returns c = λ g t r x is.
    done (moves (doing (tt {0}) (reworded {then_ = λ k. Do (Set (meant (names_in g) c.args.to) c.args.place (of_number
    c.in_ok-number.number)) ∷ Do
    (Give (stored c.numbers-numbers.result (meant (names_in g) c.args.to) (of_number c.in_ok-number.number))) ∷ k}
    (doing c.in_ok-number.number (doing c.in_ok-old.old (moves {then_ = λ k. Do (Get (meant (names_in g) c.args.to)) ∷
    At (Value_of (p.change c.args.place c.args.how r x))
    (c.args.operand.now ∷ value_of c.args.to ∷ []) ∷ k} (at_rest (At (Value_of (p.change c.args.place c.args.how r x))
    (c.args.operand.now ∷ value_of c.args.to ∷ [])) (c.args.store.now, t)) (λ k hid d a. rw is refl)) (c.read.ensures g
    t) c.in_ok-old.was) (c.computed_at.ensures g (c.read.new.store, t) r x (value_of c.args.to)
    c.numbers-numbers.ensures) c.in_ok-number.was)
    (λ k. ap (λ to. Do (Set to c.args.place (of_number c.in_ok-number.number)) ∷ Do
    (Give (stored c.numbers-numbers.result to (of_number c.in_ok-number.number))) ∷ k) is)) (rw c.of-2.ensures at
    (c.set.ensures g t)) c.in_ok-set.was)
    (λ k hid d a. rw (stored_by c.numbers-numbers.result g _ hid d a c.args.to (of_number c.in_ok-number.number)
    ∙ sym (rw c.of.ensures at c.in-Ok.ensures.ok)) refl))
