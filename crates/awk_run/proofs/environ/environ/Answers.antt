use Rattle.std.proofs.Common.{refl, ap, ◌+◌, ◌∷◌, drop}
use Rattle.std.proofs.lemmas.Result.{err_from_is_err_and}
use Rattle.awk_machine.specs.Pieces.{Do, Environ}
use Rattle.awk_streams.proofs.Chain.{at_once, done, part, stop, turned}
use Rattle.awk_forms.proofs.Leading.{quietly}
use Rattle.awk_forms.proofs.Turns.{next_of}
use Rattle.awk_builtins.proofs.Rests.{drop_all}
use Rattle.awk_run.proofs.environ.environ.Goals as goal

pub loop-name-init : goal.loop-name-init
loop-name-init g c = record { leads = λ m is. at_once _ _ _; owns = c.requires }

pub returns-in_err-look : goal.returns-in_err-look
returns-in_err-look g c =
    let e = err_from_is_err_and c.from_residual.result c.from_residual.ensures.1 in
    rw (e.1, e.2) (record {
      plays = λ m is. stop _ (λ k. refl) (turned (c.loop-name.invariant.leads m is) (λ k. ap (λ ys. Do (Environ ys) ∷ k)
          (next_of c.args.names.now c.loop-name.name-index c.name-item.result c.name-item.is c.loop-name-test.true)))
          ((c.look.ensures (drop (c.loop-name.name-index + 1) c.args.names.now)).plays m is) c.in_err-look.was;
      owns = (c.look.ensures (drop (c.loop-name.name-index + 1) c.args.names.now)).owns;
    })

pub loop-name-preserved : goal.loop-name-preserved
loop-name-preserved g c = record {
  leads = λ m is. part _ (turned (c.loop-name.invariant.leads m is) (λ k. ap (λ ys. Do (Environ ys) ∷ k)
      (next_of c.args.names.now c.loop-name.name-index c.name-item.result c.name-item.is c.loop-name-test.true)))
      ((c.look.ensures (drop (c.loop-name.name-index + 1) c.args.names.now)).plays m is) c.in_ok-look.was;
  owns = (c.look.ensures (drop (c.loop-name.name-index + 1) c.args.names.now)).owns;
}

pub returns : goal.returns
returns g c = record {
  plays = λ m is. done (quietly (turned (c.loop-name.invariant.leads m is) (λ k. ap (λ ys. Do (Environ ys) ∷ k)
      (drop_all c.args.names.now c.loop-name.name-index c.loop-name-test.false))) (λ k hid d a. refl));
  owns = c.loop-name.invariant.owns;
}

pub look-requires : goal.look-requires
look-requires g c = c.loop-name.invariant.owns
