use Rattle.awk_forms.proofs.Turns.{fill_stop, fill_turn, got_of}
use Rattle.awk_streams.proofs.Chain.{at_once, done, lacking}
use Rattle.awk_program.specs.View.{view}
use Rattle.awk_store.specs.Wholes.{names_in}
use Rattle.std.proofs.Common.{arith}
use Rattle.std.proofs.lemmas.Result.{err_from_is_err_and}
use Rattle.awk_forms.proofs.lists.fill.Goals as goal

pub loop-x-init : goal.loop-x-init
loop-x-init g c =
    rw c.make_room.ensures.same (record {
      leads = λ m is part waits. at_once _ _ _;
      owns = c.requires.owns;
      count =
          omega (arith);
    })

pub returns-in_err-make_room : goal.returns-in_err-make_room
returns-in_err-make_room g c =
    let e = err_from_is_err_and c.from_residual.result c.from_residual.ensures.1 in
    rw (e.1, e.2, c.in_err-make_room.ensures.err)
    (record { plays = record { plays = λ m is q w. lacking (at_once _ _ _); owns = c.requires.owns }; count = tt })

pub returns-in_err-next : goal.returns-in_err-next
returns-in_err-next g c =
    let e = err_from_is_err_and c.from_residual-in_err-next.result c.from_residual-in_err-next.ensures.1 in
    rw (e.1, e.2) (record {
      plays =
          record {
            plays = λ m is q w. fill_stop (λ m. view (names_in m) c.x-item.result) c.in_err-next.field-0.0
                c.loop-x.values.items c.loop-x.invariant (λ m. got_of (view (names_in m)) c.args.xs.now c.loop-x.x-index
                c.x-item.result c.x-item.is c.loop-x-test.true) c.value.ensures c.in_err-next.was m is q w;
            owns =
                c.value.ensures.owns;
          };
      count = tt;
    })

pub returns-in_err-append : goal.returns-in_err-append
returns-in_err-append g c =
    let e = err_from_is_err_and c.from_residual-in_err-append.result c.from_residual-in_err-append.ensures.1 in
    rw (e.1, e.2, c.in_err-append.ensures.err)
    (record {
      plays = record {
        plays =
            λ m is q w. lacking ((fill_turn (λ m. view (names_in m) c.x-item.result) c.in_ok-next.next c.loop-x.invariant
            (λ m. got_of (view (names_in m)) c.args.xs.now c.loop-x.x-index c.x-item.result c.x-item.is c.loop-x-test.true)
            c.value.ensures c.in_ok-next.was).leads m is q w);
        owns = c.value.ensures.owns;
      };
      count = tt;
    })

pub loop-x-preserved : goal.loop-x-preserved
loop-x-preserved g c =
    rw c.in_ok-append.ensures.ok (fill_turn (λ m. view (names_in m) c.x-item.result) c.in_ok-next.next
    c.loop-x.invariant (λ m. got_of (view (names_in m)) c.args.xs.now c.loop-x.x-index c.x-item.result c.x-item.is
    c.loop-x-test.true) c.value.ensures c.in_ok-next.was)

pub returns : goal.returns
returns g c =
    record {
      plays = record {
        plays = λ m is q w. done (c.loop-x.invariant.leads m is q w);
        owns =
            c.loop-x.invariant.owns;
      };
      count = let a = c.loop-x.invariant.count in let b = c.loop-x-test.false in
          let d = c.loop-x.auto.x-index-end in omega (arith, a, b, d);
    }
