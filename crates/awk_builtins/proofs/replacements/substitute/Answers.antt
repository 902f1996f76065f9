use Rattle.std.proofs.Common.{refl, sym, ◌∙◌, rules, w64, [], ◌∷◌}
use Rattle.std.proofs.lemmas.Int.{to_z-of_z}
use Rattle.std.proofs.lemmas.Result.{err_from_is_err_and}
use Rattle.awk_machine.specs.Pieces.{At, Value_of}
use Rattle.awk_program.specs.Program as p
use Rattle.awk_store.specs.Spots.{meant, value_of}
use Rattle.awk_store.specs.Wholes.{names_in}
use Rattle.awk_store.proofs.Acting.{at_rest, moves, doing, done, stop}
use Rattle.awk_builtins.specs.Patterns.{source_value, reading}
use Rattle.awk_builtins.proofs.Matches.{then_so, else_so, made_none, made_some}
use Rattle.awk_builtins.proofs.replacements.substitute.Goals as goal

pub returns-in_err-ere : goal.returns-in_err-ere
returns-in_err-ere c = λ g t x y r is to.
    let e = err_from_is_err_and c.from_residual.result c.from_residual.ensures.1 in
    rw (e.1, e.2) (else_so _ (c.used.ensures.check g (c.args.store.now, t) x is _
    (reading c.args.substitution.place c.args.substitution.extent x y r (value_of c.args.target)
    c.args.substitution.new.now (source_value c.args.pattern))
    (moves (at_rest (At (Value_of (p.substitute c.args.substitution.place c.args.substitution.extent x y r))
    (value_of c.args.target ∷ c.args.substitution.new.now ∷ source_value c.args.pattern ∷ [])) (
      c.args.store.now,
      t,
    )) (λ k hid d a. refl))) c.in_err-ere.was)

pub returns-in_err-made : goal.returns-in_err-made
returns-in_err-made c = λ g t x y r is to.
    let e = err_from_is_err_and c.from_residual-in_err-made.result c.from_residual-in_err-made.ensures.1 in
    rw (e.1, e.2) (else_so _ (c.replaced_in.ensures g t x y r (source_value c.args.pattern) to
    (sym (c.deref.ensures ∙ c.in_ok-ere.ensures.ere)) _
    (then_so c.in_ok-ere.ere (c.used.ensures.check g (c.args.store.now, t) x is _
    (reading c.args.substitution.place c.args.substitution.extent x y r (value_of c.args.target)
    c.args.substitution.new.now (source_value c.args.pattern))
    (moves (at_rest (At (Value_of (p.substitute c.args.substitution.place c.args.substitution.extent x y r))
    (value_of c.args.target ∷ c.args.substitution.new.now ∷ source_value c.args.pattern ∷ [])) (
      c.args.store.now,
      t,
    )) (λ k hid d a. refl))) c.in_ok-ere.was)) c.in_err-made.was)

pub returns-in-None : goal.returns-in-None
returns-in-None c = λ g t x y r is to.
    done (made_none c.args.substitution.place (meant (names_in g) c.args.target) c.in_ok-made.made
    (then_so c.in_ok-made.made (c.replaced_in.ensures g t x y r (source_value c.args.pattern) to
    (sym (c.deref.ensures ∙ c.in_ok-ere.ensures.ere)) _
    (then_so c.in_ok-ere.ere (c.used.ensures.check g (c.args.store.now, t) x is _
    (reading c.args.substitution.place c.args.substitution.extent x y r (value_of c.args.target)
    c.args.substitution.new.now (source_value c.args.pattern))
    (moves (at_rest (At (Value_of (p.substitute c.args.substitution.place c.args.substitution.extent x y r))
    (value_of c.args.target ∷ c.args.substitution.new.now ∷ source_value c.args.pattern ∷ [])) (
      c.args.store.now,
      t,
    )) (λ k hid d a. refl))) c.in_ok-ere.was)) c.in_ok-made.was) c.in-None.is)

pub returns-in_err-set-in-Some : goal.returns-in_err-set-in-Some
returns-in_err-set-in-Some c = λ g t x y r is to.
    let e = err_from_is_err_and c.from_residual-in_err-set-in-Some.result c.from_residual-in_err-set-in-Some.ensures.1
    in
    rw (e.1, e.2) (stop _ (made_some c.args.substitution.place (meant (names_in g) c.args.target) c.in_ok-made.made
    (then_so c.in_ok-made.made (c.replaced_in.ensures g t x y r (source_value c.args.pattern) to
    (sym (c.deref.ensures ∙ c.in_ok-ere.ensures.ere)) _
    (then_so c.in_ok-ere.ere (c.used.ensures.check g (c.args.store.now, t) x is _
    (reading c.args.substitution.place c.args.substitution.extent x y r (value_of c.args.target)
    c.args.substitution.new.now (source_value c.args.pattern))
    (moves (at_rest (At (Value_of (p.substitute c.args.substitution.place c.args.substitution.extent x y r))
    (value_of c.args.target ∷ c.args.substitution.new.now ∷ source_value c.args.pattern ∷ [])) (
      c.args.store.now,
      t,
    )) (λ k hid d a. refl))) c.in_ok-ere.was)) c.in_ok-made.was) c.in-Some.text c.in-Some.count c.in-Some.is)
    (c.set.ensures g t) c.in_err-set-in-Some.was)

pub returns-in_ok-set-in-Some : goal.returns-in_ok-set-in-Some
returns-in_ok-set-in-Some c = λ g t x y r is to.
    rw (to_z-of_z w64 c.in-Some.count (search rules))
    (done (moves (doing _ (made_some c.args.substitution.place (meant (names_in g) c.args.target) c.in_ok-made.made
    (then_so c.in_ok-made.made (c.replaced_in.ensures g t x y r (source_value c.args.pattern) to
    (sym (c.deref.ensures ∙ c.in_ok-ere.ensures.ere)) _
    (then_so c.in_ok-ere.ere (c.used.ensures.check g (c.args.store.now, t) x is _
    (reading c.args.substitution.place c.args.substitution.extent x y r (value_of c.args.target)
    c.args.substitution.new.now (source_value c.args.pattern))
    (moves (at_rest (At (Value_of (p.substitute c.args.substitution.place c.args.substitution.extent x y r))
    (value_of c.args.target ∷ c.args.substitution.new.now ∷ source_value c.args.pattern ∷ [])) (
      c.args.store.now,
      t,
    )) (λ k hid d a. refl))) c.in_ok-ere.was)) c.in_ok-made.was) c.in-Some.text c.in-Some.count c.in-Some.is)
    (c.set.ensures g t) c.in_ok-set-in-Some.was) (λ k hid d a. refl)))
