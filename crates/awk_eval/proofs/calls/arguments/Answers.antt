use Rattle.awk_eval.proofs.Calling.{argued_there, argue_stop, argue_turn, arguments_so}
use Rattle.awk_forms.proofs.Turns.{got_of}
use Rattle.awk_streams.proofs.Chain.{at_once, done, lacking}
use Rattle.awk_store.specs.Calls.{argument_of}
use Rattle.awk_store.specs.Wholes.{names_in}
use Rattle.std.proofs.Common.{ap, arith, false, length, refl, rules, true, w64, ◌+◌, ◌∙◌}
use Rattle.std.proofs.lemmas.Int.{to_z-of_z}
use Rattle.std.proofs.lemmas.Result.{err_from_is_err_and}
use Rattle.std.specs.Prelude.{slice_get}
use Rattle.awk_eval.proofs.calls.arguments.Goals as goal
use Rattle.awk_eval.proofs.calls.arguments.Goals.{in-Some+in_ok-pass, in_default+in_ok-next+in_ok-pass-2}
use Rattle.awk_text.specs.declared.value.Value.TheVariants as v

pub loop-x-init : goal.loop-x-init
loop-x-init g c =
    record {
      leads = λ m is q n. rw (c.spare_values-values.ensures.empty, c.spare_values-values.ensures.same)
          (at_once _ _ _);
      owns = c.requires.owns;
      count = ap length c.spare_values-values.ensures.empty;
    }

pub returns-in_err-next : goal.returns-in_err-next
returns-in_err-next g c =
    let e = err_from_is_err_and c.from_residual-in_err-next.result c.from_residual-in_err-next.ensures.1 in
    rw (e.1, e.2) (record {
      plays =
          record {
            plays = λ m is q n. argue_stop (λ m. argument_of (names_in m) c.x-item.result) c.in_err-next.field-0.0
                c.loop-x.invariant (λ m. ap (λ ys. slice_get ys c.loop-x.x-index) (arguments_so (names_in m) c.args.xs.now)
                ∙ got_of (argument_of (names_in m)) c.args.xs.now c.loop-x.x-index c.x-item.result c.x-item.is
                c.loop-x-test.true) c.argument.ensures c.in_err-next.was m is q n;
            owns = c.argument.ensures.owns;
          };
      count =
          tt;
    })

pub returns-in_err-pass : goal.returns-in_err-pass
returns-in_err-pass g c =
    let e = err_from_is_err_and c.from_residual.result c.from_residual.ensures.1 in
    rw (e.1, e.2, c.in_err-pass.ensures.err)
    (record {
      plays = record {
        plays =
            λ m is q n. lacking ((argue_turn (λ m. argument_of (names_in m) c.x-item.result) (v.Num c.in-Some.number)
            c.loop-x.invariant (λ m. ap (λ ys. slice_get ys c.loop-x.x-index) (arguments_so (names_in m) c.args.xs.now)
            ∙ got_of (argument_of (names_in m)) c.args.xs.now c.loop-x.x-index c.x-item.result c.x-item.is
            c.loop-x-test.true) (argued_there c.x-item.result (v.Num c.in-Some.number) c.loop-x.run.store
            c.loop-x.run.streams c.loop-x.world c.loop-x.invariant.owns c.in-Some.ensures) refl).leads m is q n);
        owns =
            c.loop-x.invariant.owns;
      };
      count = tt;
    })

pub returns-in_err-pass-2 : goal.returns-in_err-pass-2
returns-in_err-pass-2 g c =
    let e = err_from_is_err_and c.from_residual-in_err-pass-2.result c.from_residual-in_err-pass-2.ensures.1 in
    rw (e.1, e.2, c.in_err-pass-2.ensures.err)
    (record {
      plays = record {
        plays =
            λ m is q n. lacking ((argue_turn (λ m. argument_of (names_in m) c.x-item.result) c.in_ok-next.next
            c.loop-x.invariant (λ m. ap (λ ys. slice_get ys c.loop-x.x-index) (arguments_so (names_in m) c.args.xs.now)
            ∙ got_of (argument_of (names_in m)) c.args.xs.now c.loop-x.x-index c.x-item.result c.x-item.is
            c.loop-x-test.true) c.argument.ensures c.in_ok-next.was).leads m is q n);
        owns = c.argument.ensures.owns;
      };
      count = tt;
    })

pub loop-x-preserved : goal.loop-x-preserved
loop-x-preserved g c =
    elim c.match-known.branch [
      | in-Some+in_ok-pass w ↦ rw (
        w.run-is,
        w.world-is,
        w.values-is,
        w.in_ok-pass.ensures.ok,
        to_z-of_z w64 w.in-Some.number (search rules),
      ) (argue_turn (λ m. argument_of (names_in m) c.x-item.result)
          (v.Num w.in-Some.number) c.loop-x.invariant (λ m. ap (λ ys. slice_get ys c.loop-x.x-index)
          (arguments_so (names_in m) c.args.xs.now) ∙ got_of (argument_of (names_in m)) c.args.xs.now c.loop-x.x-index
          c.x-item.result c.x-item.is c.loop-x-test.true) (argued_there c.x-item.result (v.Num w.in-Some.number)
          c.loop-x.run.store c.loop-x.run.streams c.loop-x.world c.loop-x.invariant.owns w.in-Some.ensures) refl)
      | in_default+in_ok-next+in_ok-pass-2 w ↦ rw (w.run-is, w.world-is, w.values-is, w.in_ok-pass-2.ensures.ok)
          (argue_turn (λ m. argument_of (names_in m) c.x-item.result) w.in_ok-next.next c.loop-x.invariant
          (λ m. ap (λ ys. slice_get ys c.loop-x.x-index) (arguments_so (names_in m) c.args.xs.now)
          ∙ got_of (argument_of (names_in m)) c.args.xs.now c.loop-x.x-index c.x-item.result c.x-item.is
          c.loop-x-test.true) w.argument.ensures w.in_ok-next.was)
    ]

pub returns : goal.returns
returns g c =
    record {
      plays = record {
        plays = λ m is q n. done (c.loop-x.invariant.leads m is q n);
        owns =
            c.loop-x.invariant.owns;
      };
      count = let a = c.loop-x.invariant.count in let b = c.loop-x-test.false in
          let d = c.loop-x.auto.x-index-end in omega (arith, a, b, d);
    }
