use Rattle.awk_forms.proofs.Leading.{quietly}
use Rattle.awk_forms.proofs.Turns.{next_of}
use Rattle.awk_streams.proofs.Chain.{at_once, done, part, stop, turned}
use Rattle.awk_builtins.proofs.AtHand.{nil_right}
use Rattle.awk_builtins.proofs.Rests.{drop_all}
use Rattle.awk_machine.specs.Pieces.{At, Texts_of}
use Rattle.awk_program.specs.Program.{joins_of}
use Rattle.awk_program.specs.View.{view, view_joined}
use Rattle.awk_store.proofs.Acting.{acted}
use Rattle.awk_store.specs.Wholes.{names_in}
use Rattle.awk_text.specs.declared.value.Value.TheVariants as v
use Rattle.std.proofs.Common.{[], ap, drop, map, refl, sym, ◌+◌, ◌++◌, ◌∷◌, ◌∙◌}
use Rattle.std.proofs.lemmas.Result.{err_from_is_err_and}
use Rattle.awk_forms.proofs.growing.operands.Goals as goal

pub loop-next-init : goal.loop-next-init
loop-next-init g c =
    record {
      leads = λ m is.
          turned (at_once _ _ _)
          (λ k. ap (λ text. At (Texts_of (joins_of (map (view_joined (names_in m)) c.args.xs.now)))
          (v.Text text ∷ []) ∷ k) (sym (ap (λ more. c.args.text.now ++ more) c.new-more.ensures.items
          ∙ nil_right c.args.text.now)));
      owns = c.requires.owns;
    }

pub returns-in_err-operand : goal.returns-in_err-operand
returns-in_err-operand g c =
    let e = err_from_is_err_and c.from_residual.result c.from_residual.ensures.1 in rw (e.1, e.2) (record {
      plays = λ m is.
          (stop _ (λ k. refl) (quietly (turned (c.loop-next.invariant.leads m is)
          (λ k. ap (λ xs. At (Texts_of (joins_of (map (view_joined (names_in m)) xs)))
          (v.Text (c.args.text.now ++ c.loop-next.more.items) ∷ []) ∷ k)
          (next_of c.args.xs.now c.loop-next.next-index c.next-item.result c.next-item.is c.loop-next-test.true)))
          (λ k hid d a. refl)) (c.value.ensures.plays m is) c.in_err-operand.was);
      owns = c.value.ensures.owns;
    })

pub returns-in_err-join_behind : goal.returns-in_err-join_behind
returns-in_err-join_behind g c =
    let e = err_from_is_err_and c.from_residual-in_err-join_behind.result c.from_residual-in_err-join_behind.ensures.1
    in
    rw (e.1, e.2) (record {
      plays = λ m is.
          (stop _ (λ k. refl) (part _
          (quietly (turned (c.loop-next.invariant.leads m is)
          (λ k. ap (λ xs. At (Texts_of (joins_of (map (view_joined (names_in m)) xs)))
          (v.Text (c.args.text.now ++ c.loop-next.more.items) ∷ []) ∷ k)
          (next_of c.args.xs.now c.loop-next.next-index c.next-item.result c.next-item.is c.loop-next-test.true)))
          (λ k hid d a. refl)) (c.value.ensures.plays m is) c.in_ok-operand.was)
          (acted (c.join_behind.ensures m (c.value.new.run.store, c.value.new.run.streams)
          (view (names_in m) c.next-item.result.operand)
          (joins_of (map (view_joined (names_in m)) (drop (c.loop-next.next-index + 1) c.args.xs.now)))))
          c.in_err-join_behind.was);
      owns = c.value.ensures.owns;
    })

pub loop-next-preserved : goal.loop-next-preserved
loop-next-preserved g c =
    record {
      leads = λ m is.
          (part _ (part _ (quietly (turned (c.loop-next.invariant.leads m is)
          (λ k. ap (λ xs. At (Texts_of (joins_of (map (view_joined (names_in m)) xs)))
          (v.Text (c.args.text.now ++ c.loop-next.more.items) ∷ []) ∷ k)
          (next_of c.args.xs.now c.loop-next.next-index c.next-item.result c.next-item.is c.loop-next-test.true)))
          (λ k hid d a. refl)) (c.value.ensures.plays m is) c.in_ok-operand.was)
          (acted (c.join_behind.ensures m (c.value.new.run.store, c.value.new.run.streams)
          (view (names_in m) c.next-item.result.operand)
          (joins_of (map (view_joined (names_in m)) (drop (c.loop-next.next-index + 1) c.args.xs.now)))))
          c.in_ok-join_behind.was);
      owns = c.value.ensures.owns;
    }

pub returns : goal.returns
returns g c =
    record {
      plays = λ m is.
          done (quietly (turned (c.loop-next.invariant.leads m is)
          (λ k. ap (λ xs. At (Texts_of (joins_of (map (view_joined (names_in m)) xs)))
          (v.Text (c.args.text.now ++ c.loop-next.more.items) ∷ []) ∷ k)
          (drop_all c.args.xs.now c.loop-next.next-index c.loop-next-test.false))) (λ k hid d a. refl));
      owns = c.loop-next.invariant.owns;
    }
