use Rattle.std.proofs.Common.{refl, [], ◌∷◌}
use Rattle.std.proofs.lemmas.Result.{err_from_is_err_and}
use Rattle.awk_machine.specs.Pieces.{Do, Match, At, Value_of}
use Rattle.awk_program.specs.Program as p
use Rattle.awk_text.specs.Values.{text_of}
use Rattle.awk_store.proofs.Acting.{at_rest, moves, passes}
use Rattle.awk_builtins.specs.Patterns.{source_value}
use Rattle.awk_builtins.proofs.Matches.{then_so, else_so}
use Rattle.awk_builtins.proofs.patterns.matched.Goals as goal

pub returns-in_err-ere : goal.returns-in_err-ere
returns-in_err-ere c = λ g w x y is.
    let e = err_from_is_err_and c.from_residual.result c.from_residual.ensures.1 in
    rw (e.1, e.2) (else_so _
    (c.used.ensures.check g w y is _
    (λ k. Do (Match (text_of (source_value c.args.pattern)) (text_of c.args.text.now)) ∷ k)
    (moves (at_rest (At (Value_of (p.matched c.args.place x y))
    (source_value c.args.pattern ∷ c.args.text.now ∷ [])) w) (λ k hid d a. refl))) c.in_err-ere.was)

pub returns : goal.returns
returns c = λ g w x y is.
    passes (then_so c.in_ok-ere.ere
    (c.used.ensures.check g w y is _
    (λ k. Do (Match (text_of (source_value c.args.pattern)) (text_of c.args.text.now)) ∷ k)
    (moves (at_rest (At (Value_of (p.matched c.args.place x y))
    (source_value c.args.pattern ∷ c.args.text.now ∷ [])) w) (λ k hid d a. refl))) c.in_ok-ere.was)
    (rw (c.text_in.ensures, c.deref.ensures, c.in_ok-ere.ensures.ere) at (c.matches.ensures g w))
