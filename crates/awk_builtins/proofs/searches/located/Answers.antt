use Rattle.std.proofs.Common.{refl, rules, w64, [], ◌∷◌}
use Rattle.std.proofs.lemmas.Int.{to_z-of_z}
use Rattle.std.proofs.lemmas.Result.{err_from_is_err_and}
use Rattle.awk_machine.specs.Pieces.{Do, Locate, At, Value_of}
use Rattle.awk_program.specs.Program as p
use Rattle.awk_text.specs.Values.{text_of}
use Rattle.awk_store.proofs.Acting.{at_rest, moves, doing, done, stop}
use Rattle.awk_builtins.specs.Patterns.{source_value}
use Rattle.awk_builtins.proofs.Matches.{then_so, else_so}
use Rattle.awk_builtins.proofs.searches.located.Goals as goal

pub returns-in_err-ere : goal.returns-in_err-ere
returns-in_err-ere c = λ g t x y is.
    let e = err_from_is_err_and c.from_residual.result c.from_residual.ensures.1 in
    rw (e.1, e.2) (else_so _ (c.used.ensures.check g (c.args.store.now, t) y is _
    (λ k. Do (Locate (text_of (source_value c.args.pattern)) (text_of c.args.text.now)) ∷ k)
    (moves (at_rest (At (Value_of (p.locate c.args.place x y)) (source_value c.args.pattern ∷ c.args.text.now ∷ []))
    (c.args.store.now, t)) (λ k hid d a. refl))) c.in_err-ere.was)

pub returns-in_err-start : goal.returns-in_err-start
returns-in_err-start c = λ g t x y is.
    let e = err_from_is_err_and c.from_residual-in_err-start.result c.from_residual-in_err-start.ensures.1 in
    rw (e.1, e.2) (stop _ (then_so c.in_ok-ere.ere (c.used.ensures.check g (c.args.store.now, t) y is _
    (λ k. Do (Locate (text_of (source_value c.args.pattern)) (text_of c.args.text.now)) ∷ k)
    (moves (at_rest (At (Value_of (p.locate c.args.place x y)) (source_value c.args.pattern ∷ c.args.text.now ∷ []))
    (c.args.store.now, t)) (λ k hid d a. refl))) c.in_ok-ere.was)
    (rw (c.deref.ensures, c.in_ok-ere.ensures.ere) at (c.locate.ensures g t)) c.in_err-start.was)

pub returns : goal.returns
returns c = λ g t x y is.
    rw (to_z-of_z w64 c.in_ok-start.start (search rules))
    (done (doing c.in_ok-start.start (then_so c.in_ok-ere.ere (c.used.ensures.check g (c.args.store.now, t) y is _
    (λ k. Do (Locate (text_of (source_value c.args.pattern)) (text_of c.args.text.now)) ∷ k)
    (moves (at_rest (At (Value_of (p.locate c.args.place x y)) (source_value c.args.pattern ∷ c.args.text.now ∷ []))
    (c.args.store.now, t)) (λ k hid d a. refl))) c.in_ok-ere.was)
    (rw (c.deref.ensures, c.in_ok-ere.ensures.ere) at (c.locate.ensures g t)) c.in_ok-start.was))
