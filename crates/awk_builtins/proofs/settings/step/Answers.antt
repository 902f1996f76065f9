use Rattle.std.proofs.Common.{[], ap, refl, ◌∷◌}
use Rattle.std.proofs.lemmas.Result.{err_from_is_err_and}
use Rattle.awk_machine.specs.Pieces.{At, Do, Get, Give, Set, Value_of}
use Rattle.awk_program.specs.Program as p
use Rattle.awk_store.proofs.Acting.{at_rest, doing, done, moves, reworded, stop}
use Rattle.awk_store.specs.Spots.{meant, value_of}
use Rattle.awk_store.specs.Wholes.{names_in}
use Rattle.awk_machine.specs.Expressions.{either}
use Rattle.awk_text.specs.Values.{of_number}
use Rattle.awk_builtins.proofs.settings.step.Goals as goal

pub returns-in_err-old : goal.returns-in_err-old
returns-in_err-old c = λ g t r taken is.
    let e = err_from_is_err_and c.from_residual.result c.from_residual.ensures.1 in
    rw (e.1, e.2) (stop _ (moves {then_ = λ k. Do (Get (meant (names_in g) c.args.to)) ∷ At (Value_of (p.step
    c.args.place c.args.how taken r))
    (value_of c.args.to ∷ []) ∷ k} (at_rest (At (Value_of (p.step c.args.place c.args.how taken r))
    (value_of c.args.to ∷ [])) (c.args.store.now, t)) (λ k hid d a. rw is refl)) (c.read.ensures g t) c.in_err-old.was)

pub returns-in_err-before : goal.returns-in_err-before
returns-in_err-before c = λ g t r taken is.
    let e = err_from_is_err_and c.from_residual-in_err-before.result c.from_residual-in_err-before.ensures.1 in
    rw (e.1, e.2) (stop _ (doing c.in_ok-old.old (moves {then_ = λ k. Do (Get (meant (names_in g) c.args.to)) ∷ At
    (Value_of (p.step c.args.place c.args.how taken r))
    (value_of c.args.to ∷ []) ∷ k} (at_rest (At (Value_of (p.step c.args.place c.args.how taken r))
    (value_of c.args.to ∷ [])) (c.args.store.now, t)) (λ k hid d a. rw is refl)) (c.read.ensures g t) c.in_ok-old.was)
    (c.stepped_at.ensures g (c.read.new.store, t) taken r (value_of c.args.to) c.numbers.ensures)
    c.in_err-before.was)

pub returns-in_err-set : goal.returns-in_err-set
returns-in_err-set c = λ g t r taken is.
    let e = err_from_is_err_and c.from_residual-in_err-set.result c.from_residual-in_err-set.ensures.1 in
    rw (e.1, e.2) (stop _ (reworded {then_ = λ k. Do (Set (meant (names_in g) c.args.to) c.args.place (of_number
    c.in_ok-before.behind)) ∷ Do
    (Give (either taken c.in_ok-before.before c.in_ok-before.behind)) ∷ k}
    (doing (c.in_ok-before.before, c.in_ok-before.behind) (doing c.in_ok-old.old (moves {then_ = λ k. Do (Get (meant
    (names_in g) c.args.to)) ∷ At (Value_of (p.step c.args.place c.args.how taken r))
    (value_of c.args.to ∷ []) ∷ k} (at_rest (At (Value_of (p.step c.args.place c.args.how taken r))
    (value_of c.args.to ∷ [])) (c.args.store.now, t)) (λ k hid d a. rw is refl)) (c.read.ensures g t) c.in_ok-old.was)
    (c.stepped_at.ensures g (c.read.new.store, t) taken r (value_of c.args.to) c.numbers.ensures)
    c.in_ok-before.was)
    (λ k. ap (λ to. Do (Set to c.args.place (of_number c.in_ok-before.behind)) ∷ Do
    (Give (either taken c.in_ok-before.before c.in_ok-before.behind)) ∷ k) is)) (rw c.of.ensures at (c.set.ensures g
    t)) c.in_err-set.was)

pub returns : goal.returns
returns c = λ g t r taken is.
    done (moves (doing (tt {0}) (reworded {then_ = λ k. Do (Set (meant (names_in g) c.args.to) c.args.place (of_number
    c.in_ok-before.behind)) ∷ Do
    (Give (either taken c.in_ok-before.before c.in_ok-before.behind)) ∷ k}
    (doing (c.in_ok-before.before, c.in_ok-before.behind) (doing c.in_ok-old.old (moves {then_ = λ k. Do (Get (meant
    (names_in g) c.args.to)) ∷ At (Value_of (p.step c.args.place c.args.how taken r))
    (value_of c.args.to ∷ []) ∷ k} (at_rest (At (Value_of (p.step c.args.place c.args.how taken r))
    (value_of c.args.to ∷ [])) (c.args.store.now, t)) (λ k hid d a. rw is refl)) (c.read.ensures g t) c.in_ok-old.was)
    (c.stepped_at.ensures g (c.read.new.store, t) taken r (value_of c.args.to) c.numbers.ensures)
    c.in_ok-before.was)
    (λ k. ap (λ to. Do (Set to c.args.place (of_number c.in_ok-before.behind)) ∷ Do
    (Give (either taken c.in_ok-before.before c.in_ok-before.behind)) ∷ k) is)) (rw c.of.ensures at (c.set.ensures g
    t)) c.in_ok-set.was) (λ k hid d a. refl))
