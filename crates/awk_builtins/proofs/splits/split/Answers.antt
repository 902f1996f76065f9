use Rattle.std.proofs.Common.{refl, rules, w64, [], ◌∷◌}
use Rattle.std.proofs.lemmas.Int.{to_z-of_z}
use Rattle.std.proofs.lemmas.Result.{err_from_is_err_and}
use Rattle.awk_machine.specs.Pieces.{At, Value_of}
use Rattle.awk_program.specs.Program as p
use Rattle.awk_program.specs.View.{variable_of}
use Rattle.awk_text.specs.Values.{text_of}
use Rattle.awk_store.specs.Wholes.{names_in}
use Rattle.awk_store.proofs.Acting.{at_rest, moves, doing, done, stop}
use Rattle.awk_builtins.specs.Patterns.{source_value}
use Rattle.awk_builtins.proofs.Matches.{then_so, else_so}
use Rattle.awk_builtins.proofs.splits.split.Goals as goal

pub returns-in_err-separator : goal.returns-in_err-separator
returns-in_err-separator c = λ g t x y is.
    let e = err_from_is_err_and c.from_residual.result c.from_residual.ensures.1 in
    rw (e.1, e.2) (else_so _ (c.splitter.ensures g (c.args.store.now, t) y is c.args.splitting.at_name
    (variable_of (names_in g) c.args.splitting.array) (text_of c.args.splitting.text.now) _
    (moves (at_rest (At (Value_of (p.split c.args.place x c.args.splitting.at_name
    (variable_of (names_in g) c.args.splitting.array) y)) (source_value c.args.by ∷ c.args.splitting.text.now ∷ []))
    (c.args.store.now, t)) (λ k hid d a. refl))) c.in_err-separator.was)

pub returns-in_err-count : goal.returns-in_err-count
returns-in_err-count c = λ g t x y is.
    let e = err_from_is_err_and c.from_residual-in_err-count.result c.from_residual-in_err-count.ensures.1 in
    rw (e.1, e.2) (stop _ (then_so c.in_ok-separator.separator
    (c.splitter.ensures g (c.args.store.now, t) y is c.args.splitting.at_name
    (variable_of (names_in g) c.args.splitting.array) (text_of c.args.splitting.text.now) _
    (moves (at_rest (At (Value_of (p.split c.args.place x c.args.splitting.at_name
    (variable_of (names_in g) c.args.splitting.array) y)) (source_value c.args.by ∷ c.args.splitting.text.now ∷ []))
    (c.args.store.now, t)) (λ k hid d a. refl))) c.in_ok-separator.was)
    (c.split_into.ensures g t) c.in_err-count.was)

pub returns : goal.returns
returns c = λ g t x y is.
    rw (to_z-of_z w64 c.in_ok-count.count (search rules))
    (done (doing c.in_ok-count.count (then_so c.in_ok-separator.separator
    (c.splitter.ensures g (c.args.store.now, t) y is c.args.splitting.at_name
    (variable_of (names_in g) c.args.splitting.array) (text_of c.args.splitting.text.now) _
    (moves (at_rest (At (Value_of (p.split c.args.place x c.args.splitting.at_name
    (variable_of (names_in g) c.args.splitting.array) y)) (source_value c.args.by ∷ c.args.splitting.text.now ∷ []))
    (c.args.store.now, t)) (λ k hid d a. refl))) c.in_ok-separator.was)
    (c.split_into.ensures g t) c.in_ok-count.was))
