use Rattle.awk_machine.specs.Expressions.{either}
use Rattle.awk_machine.specs.Forms.{spot}
use Rattle.awk_machine.specs.Pieces as machine
use Rattle.awk_machine.specs.Pieces.{At, Do, Get, Give, Set, Value_of}
use Rattle.awk_program.specs.Program as p
use Rattle.awk_program.specs.Program.{expressions_of}
use Rattle.awk_program.specs.View.{variable_of, view}
use Rattle.awk_store.proofs.Acting.{at_rest, doing, done, moves, reworded, stop}
use Rattle.awk_store.specs.Wholes.{names_in}
use Rattle.awk_text.specs.Values.{of_number}
use Rattle.awk_text.specs.declared.value.Value.TheVariants as v
use Rattle.awk_builtins.proofs.AtHand.{on}
use Rattle.std.proofs.Common.{[], map, refl, ◌∷◌}
use Rattle.std.proofs.lemmas.Result.{err_from_is_err_and}
use Rattle.awk_builtins.proofs.at_hand.elements.step_at_key.Goals as goal

pub returns-in_err-old : goal.returns-in_err-old
returns-in_err-old c = λ g t what taken at.
    let e = err_from_is_err_and c.from_residual.result c.from_residual.ensures.1 in
    rw (e.1, e.2, at.is) (stop _
    (moves {then_ = λ k. Do
    (Get (machine.Element (variable_of (names_in g) c.args.element.array) c.args.element.key.now
    c.args.element.at_name)) ∷ At
    (Value_of (p.step c.args.place c.args.how taken
    (p.element c.args.element.at_name (variable_of (names_in g) c.args.element.array)
    (expressions_of (map (view (names_in g)) at.keys))))) (v.Text c.args.element.key.now ∷ []) ∷ k}
    (on (moves {then_ = λ k. spot (p.element c.args.element.at_name (variable_of (names_in g) c.args.element.array)
    (expressions_of (map (view (names_in g)) at.keys))) ∷ At
    (Value_of (p.step c.args.place c.args.how taken
    (p.element c.args.element.at_name (variable_of (names_in g) c.args.element.array)
    (expressions_of (map (view (names_in g)) at.keys))))) [] ∷ k} (at_rest _ _) (λ k hid d a. refl))
    (at.key_is g t c.args.element.at_name (variable_of (names_in g) c.args.element.array))) (λ k hid d a. refl))
    (c.read_element.ensures g t) c.in_err-old.was)

pub returns-in_err-before : goal.returns-in_err-before
returns-in_err-before c = λ g t what taken at.
    let e = err_from_is_err_and c.from_residual-in_err-before.result c.from_residual-in_err-before.ensures.1 in
    rw (e.1, e.2, at.is) (stop _
    (doing c.in_ok-old.old
    (moves {then_ = λ k. Do
    (Get (machine.Element (variable_of (names_in g) c.args.element.array) c.args.element.key.now
    c.args.element.at_name)) ∷ At
    (Value_of (p.step c.args.place c.args.how taken
    (p.element c.args.element.at_name (variable_of (names_in g) c.args.element.array)
    (expressions_of (map (view (names_in g)) at.keys))))) (v.Text c.args.element.key.now ∷ []) ∷ k}
    (on (moves {then_ = λ k. spot (p.element c.args.element.at_name (variable_of (names_in g) c.args.element.array)
    (expressions_of (map (view (names_in g)) at.keys))) ∷ At
    (Value_of (p.step c.args.place c.args.how taken
    (p.element c.args.element.at_name (variable_of (names_in g) c.args.element.array)
    (expressions_of (map (view (names_in g)) at.keys))))) [] ∷ k} (at_rest _ _) (λ k hid d a. refl))
    (at.key_is g t c.args.element.at_name (variable_of (names_in g) c.args.element.array))) (λ k hid d a. refl))
    (c.read_element.ensures g t) c.in_ok-old.was) (c.stepped_at.ensures g (c.read_element.new.store, t) taken
    (p.element c.args.element.at_name (variable_of (names_in g) c.args.element.array)
    (expressions_of (map (view (names_in g)) at.keys)))
    (v.Text c.args.element.key.now) c.numbers.ensures) c.in_err-before.was)

pub returns-in_err-set_element : goal.returns-in_err-set_element
returns-in_err-set_element c = λ g t what taken at.
    let e = err_from_is_err_and c.from_residual-in_err-set_element.result c.from_residual-in_err-set_element.ensures.1
    in
    rw (e.1, e.2, at.is) (stop _
    (reworded {then_ = λ k. Do
    (Set (machine.Element (variable_of (names_in g) c.args.element.array) c.args.element.key.now
    c.args.element.at_name) c.args.place (of_number c.in_ok-before.behind)) ∷ Do
    (Give (either taken c.in_ok-before.before c.in_ok-before.behind)) ∷ k}
    (doing (c.in_ok-before.before, c.in_ok-before.behind)
    (doing c.in_ok-old.old
    (moves {then_ = λ k. Do
    (Get (machine.Element (variable_of (names_in g) c.args.element.array) c.args.element.key.now
    c.args.element.at_name)) ∷ At
    (Value_of (p.step c.args.place c.args.how taken
    (p.element c.args.element.at_name (variable_of (names_in g) c.args.element.array)
    (expressions_of (map (view (names_in g)) at.keys))))) (v.Text c.args.element.key.now ∷ []) ∷ k}
    (on (moves {then_ = λ k. spot (p.element c.args.element.at_name (variable_of (names_in g) c.args.element.array)
    (expressions_of (map (view (names_in g)) at.keys))) ∷ At
    (Value_of (p.step c.args.place c.args.how taken
    (p.element c.args.element.at_name (variable_of (names_in g) c.args.element.array)
    (expressions_of (map (view (names_in g)) at.keys))))) [] ∷ k} (at_rest _ _) (λ k hid d a. refl))
    (at.key_is g t c.args.element.at_name (variable_of (names_in g) c.args.element.array))) (λ k hid d a. refl))
    (c.read_element.ensures g t) c.in_ok-old.was) (c.stepped_at.ensures g (c.read_element.new.store, t) taken
    (p.element c.args.element.at_name (variable_of (names_in g) c.args.element.array)
    (expressions_of (map (view (names_in g)) at.keys)))
    (v.Text c.args.element.key.now) c.numbers.ensures) c.in_ok-before.was)
    (λ k. refl)) (rw c.of.ensures at (c.set_element.ensures g t c.args.place)) c.in_err-set_element.was)

pub returns : goal.returns
returns c = λ g t what taken at.
    rw at.is
    (done (moves (doing (tt {0})
    (reworded {then_ = λ k. Do
    (Set (machine.Element (variable_of (names_in g) c.args.element.array) c.args.element.key.now
    c.args.element.at_name) c.args.place (of_number c.in_ok-before.behind)) ∷ Do
    (Give (either taken c.in_ok-before.before c.in_ok-before.behind)) ∷ k}
    (doing (c.in_ok-before.before, c.in_ok-before.behind)
    (doing c.in_ok-old.old
    (moves {then_ = λ k. Do
    (Get (machine.Element (variable_of (names_in g) c.args.element.array) c.args.element.key.now
    c.args.element.at_name)) ∷ At
    (Value_of (p.step c.args.place c.args.how taken
    (p.element c.args.element.at_name (variable_of (names_in g) c.args.element.array)
    (expressions_of (map (view (names_in g)) at.keys))))) (v.Text c.args.element.key.now ∷ []) ∷ k}
    (on (moves {then_ = λ k. spot (p.element c.args.element.at_name (variable_of (names_in g) c.args.element.array)
    (expressions_of (map (view (names_in g)) at.keys))) ∷ At
    (Value_of (p.step c.args.place c.args.how taken
    (p.element c.args.element.at_name (variable_of (names_in g) c.args.element.array)
    (expressions_of (map (view (names_in g)) at.keys))))) [] ∷ k} (at_rest _ _) (λ k hid d a. refl))
    (at.key_is g t c.args.element.at_name (variable_of (names_in g) c.args.element.array))) (λ k hid d a. refl))
    (c.read_element.ensures g t) c.in_ok-old.was) (c.stepped_at.ensures g (c.read_element.new.store, t) taken
    (p.element c.args.element.at_name (variable_of (names_in g) c.args.element.array)
    (expressions_of (map (view (names_in g)) at.keys)))
    (v.Text c.args.element.key.now) c.numbers.ensures) c.in_ok-before.was)
    (λ k. refl)) (rw c.of.ensures at (c.set_element.ensures g t c.args.place)) c.in_ok-set_element.was)
    (λ k hid d a. refl)))
