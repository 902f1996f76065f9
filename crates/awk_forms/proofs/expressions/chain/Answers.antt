use Rattle.awk_forms.proofs.Leading.{quietly, told_number}
use Rattle.awk_forms.proofs.Turns.{next_of}
use Rattle.awk_streams.proofs.Chain.{at_once, done, part, stop, turned}
use Rattle.awk_builtins.proofs.Rests.{drop_all}
use Rattle.awk_machine.specs.Pieces.{At, Terms_of}
use Rattle.awk_program.specs.Program.{terms_of}
use Rattle.awk_program.specs.View.{view, view_term}
use Rattle.awk_store.proofs.Acting.{acted}
use Rattle.awk_store.specs.Wholes.{names_in}
use Rattle.std.proofs.Common.{[], ap, drop, map, refl, ◌+◌, ◌∷◌}
use Rattle.std.proofs.lemmas.Result.{err_from_is_err_and}
use Rattle.awk_forms.proofs.expressions.chain.Goals as goal

pub returns-in_err-so_far : goal.returns-in_err-so_far
returns-in_err-so_far g c =
    let e = err_from_is_err_and c.from_residual.result c.from_residual.ensures.1 in rw (e.1, e.2) (record {
      plays = λ m is.
          (stop _ (λ k. refl) (quietly (at_once _ _ _) (λ k hid d a. refl)) (c.value.ensures.plays m is)
          c.in_err-so_far.was);
      owns = c.value.ensures.owns;
    })

pub loop-next-init : goal.loop-next-init
loop-next-init g c =
    record {
      leads = λ m is. (part _ (quietly (at_once _ _ _) (λ k hid d a. refl)) (c.value.ensures.plays m is)
          c.in_ok-so_far.was);
      owns = c.value.ensures.owns;
    }

pub returns-in_err-operand : goal.returns-in_err-operand
returns-in_err-operand g c =
    let e = err_from_is_err_and c.from_residual-in_err-operand.result c.from_residual-in_err-operand.ensures.1 in
    rw (e.1, e.2) (record {
      plays = λ m is.
          (stop _ (λ k. refl) (quietly (turned (c.loop-next.invariant.leads m is)
          (λ k. ap (λ xs. At (Terms_of (terms_of (map (view_term (names_in m)) xs))) (c.loop-next.so_far ∷ []) ∷ k)
          (next_of c.args.xs.now c.loop-next.next-index c.next-item.result c.next-item.is c.loop-next-test.true)))
          (λ k hid d a. refl)) (c.number.ensures.does.plays m is) c.in_err-operand.was);
      owns = c.number.ensures.does.owns;
    })

pub returns-in_err-so_far-2 : goal.returns-in_err-so_far-2
returns-in_err-so_far-2 g c =
    let e = err_from_is_err_and c.from_residual-in_err-so_far-2.result c.from_residual-in_err-so_far-2.ensures.1 in
    rw (e.1, e.2) (record {
      plays = λ m is.
          (stop _ (λ k. refl) (part _
          (quietly (turned (c.loop-next.invariant.leads m is)
          (λ k. ap (λ xs. At (Terms_of (terms_of (map (view_term (names_in m)) xs))) (c.loop-next.so_far ∷ []) ∷ k)
          (next_of c.args.xs.now c.loop-next.next-index c.next-item.result c.next-item.is c.loop-next-test.true)))
          (λ k hid d a. refl)) (c.number.ensures.does.plays m is) c.in_ok-operand.was)
          (acted (c.operated.ensures m (c.number.new.run.store, c.number.new.run.streams)
          (view (names_in m) c.next-item.result.operand)
          (terms_of (map (view_term (names_in m)) (drop (c.loop-next.next-index + 1) c.args.xs.now)))
          c.number.ensures.val c.numbers.ensures
          (rw c.numbers.ensures (told_number c.number.new.run.store.numbers c.number.ensures.val _ _
          c.in_ok-operand.was c.number.ensures.is))))
          c.in_err-so_far-2.was);
      owns = c.number.ensures.does.owns;
    })

pub loop-next-preserved : goal.loop-next-preserved
loop-next-preserved g c =
    record {
      leads = λ m is.
          (part _ (part _ (quietly (turned (c.loop-next.invariant.leads m is)
          (λ k. ap (λ xs. At (Terms_of (terms_of (map (view_term (names_in m)) xs))) (c.loop-next.so_far ∷ []) ∷ k)
          (next_of c.args.xs.now c.loop-next.next-index c.next-item.result c.next-item.is c.loop-next-test.true)))
          (λ k hid d a. refl)) (c.number.ensures.does.plays m is) c.in_ok-operand.was)
          (acted (c.operated.ensures m (c.number.new.run.store, c.number.new.run.streams)
          (view (names_in m) c.next-item.result.operand)
          (terms_of (map (view_term (names_in m)) (drop (c.loop-next.next-index + 1) c.args.xs.now)))
          c.number.ensures.val
          c.numbers.ensures (rw c.numbers.ensures (told_number c.number.new.run.store.numbers c.number.ensures.val _ _
          c.in_ok-operand.was c.number.ensures.is)))) c.in_ok-so_far-2.was);
      owns =
          c.number.ensures.does.owns;
    }

pub returns : goal.returns
returns g c =
    record {
      plays = λ m is.
          done (quietly (turned (c.loop-next.invariant.leads m is)
          (λ k. ap (λ xs. At (Terms_of (terms_of (map (view_term (names_in m)) xs))) (c.loop-next.so_far ∷ []) ∷ k)
          (drop_all c.args.xs.now c.loop-next.next-index c.loop-next-test.false))) (λ k hid d a. refl));
      owns = c.loop-next.invariant.owns;
    }
