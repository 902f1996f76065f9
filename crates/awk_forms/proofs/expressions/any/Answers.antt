use Rattle.awk_forms.proofs.Leading.{quietly}
use Rattle.awk_forms.proofs.Turns.{next_of, or_off, or_on}
use Rattle.awk_streams.proofs.Chain.{at_once, done, part, stop, turned}
use Rattle.awk_builtins.proofs.Rests.{drop_all}
use Rattle.awk_machine.specs.Pieces.{At, Ors_of}
use Rattle.awk_program.specs.Program.{expressions_of}
use Rattle.awk_program.specs.View.{view}
use Rattle.awk_store.specs.Wholes.{names_in}
use Rattle.std.proofs.Common.{[], ap, drop, map, refl, sym, ◌+◌, ◌∙◌, ◌∷◌}
use Rattle.std.proofs.lemmas.Result.{err_from_is_err_and}
use Rattle.awk_forms.proofs.expressions.any.Goals as goal

pub returns-in_err-last : goal.returns-in_err-last
returns-in_err-last g c =
    let e = err_from_is_err_and c.from_residual.result c.from_residual.ensures.1 in rw (e.1, e.2) (record {
      plays = λ m is.
          (stop _ (λ k. refl) (quietly (at_once _ _ _) (λ k hid d a. refl)) (c.value.ensures.plays m is)
          c.in_err-last.was);
      owns = c.value.ensures.owns;
    })

pub loop-y-init : goal.loop-y-init
loop-y-init g c =
    record {
      leads = λ m is. (part _ (quietly (at_once _ _ _) (λ k hid d a. refl)) (c.value.ensures.plays m is)
          c.in_ok-last.was);
      owns = c.value.ensures.owns;
    }

pub returns-then-truth : goal.returns-then-truth
returns-then-truth g c =
    record {
      plays = λ m is. rw c.truth_value.ensures
          (done (quietly (turned (c.loop-y.invariant.leads m is)
          (λ k. ap (λ xs. At (Ors_of (expressions_of (map (view (names_in m)) xs))) (c.loop-y.last ∷ []) ∷ k)
          (next_of c.args.xs.now c.loop-y.y-index c.y-item.result c.y-item.is c.loop-y-test.true)))
          (λ k hid d a. or_off m (view (names_in m) c.y-item.result)
          (expressions_of (map (view (names_in m)) (drop (c.loop-y.y-index + 1) c.args.xs.now))) c.loop-y.last k _
          (sym (rw c.numbers.ensures at c.truth.ensures) ∙ c.if-truth.true))));
      owns = c.loop-y.invariant.owns;
    }

pub returns-in_err-last-2 : goal.returns-in_err-last-2
returns-in_err-last-2 g c =
    let e = err_from_is_err_and c.from_residual-in_err-last-2.result c.from_residual-in_err-last-2.ensures.1 in
    rw (e.1, e.2) (record {
      plays = λ m is.
          (stop _ (λ k. refl) (quietly (turned (c.loop-y.invariant.leads m is)
          (λ k. ap (λ xs. At (Ors_of (expressions_of (map (view (names_in m)) xs))) (c.loop-y.last ∷ []) ∷ k)
          (next_of c.args.xs.now c.loop-y.y-index c.y-item.result c.y-item.is c.loop-y-test.true)))
          (λ k hid d a. or_on m (view (names_in m) c.y-item.result)
          (expressions_of (map (view (names_in m)) (drop (c.loop-y.y-index + 1) c.args.xs.now))) c.loop-y.last k _
          (sym (rw c.numbers.ensures at c.truth.ensures) ∙ c.if-truth.false)))
          (c.value-in-loop-y.ensures.plays m is) c.in_err-last-2.was);
      owns = c.value-in-loop-y.ensures.owns;
    })

pub loop-y-preserved : goal.loop-y-preserved
loop-y-preserved g c =
    record {
      leads = λ m is.
          (part _ (quietly (turned (c.loop-y.invariant.leads m is)
          (λ k. ap (λ xs. At (Ors_of (expressions_of (map (view (names_in m)) xs))) (c.loop-y.last ∷ []) ∷ k)
          (next_of c.args.xs.now c.loop-y.y-index c.y-item.result c.y-item.is c.loop-y-test.true)))
          (λ k hid d a. or_on m (view (names_in m) c.y-item.result)
          (expressions_of (map (view (names_in m)) (drop (c.loop-y.y-index + 1) c.args.xs.now))) c.loop-y.last k _
          (sym (rw c.numbers.ensures at c.truth.ensures) ∙ c.if-truth.false)))
          (c.value-in-loop-y.ensures.plays m is) c.in_ok-last-2.was);
      owns =
          c.value-in-loop-y.ensures.owns;
    }

pub returns : goal.returns
returns g c =
    record {
      plays = λ m is. rw (c.truth_value-2.ensures, c.truth-2.ensures, c.numbers-2.ensures)
          (done (quietly (turned (c.loop-y.invariant.leads m is)
          (λ k. ap (λ xs. At (Ors_of (expressions_of (map (view (names_in m)) xs))) (c.loop-y.last ∷ []) ∷ k)
          (drop_all c.args.xs.now c.loop-y.y-index c.loop-y-test.false))) (λ k hid d a. refl)));
      owns =
          c.loop-y.invariant.owns;
    }
