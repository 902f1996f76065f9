use Rattle.awk_forms.proofs.Leading.{quietly}
use Rattle.awk_streams.proofs.Chain.{at_once, done, part, stop}
use Rattle.awk_builtins.proofs.Rests.{ok_for}
use Rattle.awk_store.proofs.Acting.{acted}
use Rattle.std.proofs.Common.{refl}
use Rattle.std.proofs.lemmas.Result.{err_from_is_err_and}
use Rattle.awk_forms.proofs.sources.source_of.Goals as goal

pub returns-in-Constant : goal.returns-in-Constant
returns-in-Constant g c =
    rw c.in-Constant.is (record {
      plays = record {
        plays =
            λ m is. acted (rw c.bytes.ensures at (c.constant.ensures.plays m (
              c.args.run.now.store,
              c.args.run.now.streams,
            )));
        owns = c.requires.owns;
      };
      kind = ok_for c.constant.result (λ s h names. h) (rw c.bytes.ensures at c.constant.ensures.kind);
    })

pub returns-in_err-computed-in-Computed : goal.returns-in_err-computed-in-Computed
returns-in_err-computed-in-Computed g c =
    let e = err_from_is_err_and c.from_residual.result c.from_residual.ensures.1 in
    rw (e.1, e.2) (rw c.in-Computed.is (record {
      plays = record {
        plays = λ m is.
            (stop _ (λ k. refl) (quietly (at_once _ _ _) (λ k hid d a. refl))
            (rw c.get.ensures at (c.value.ensures.plays m is)) c.in_err-computed-in-Computed.was);
        owns = c.value.ensures.owns;
      };
      kind = tt;
    }))

pub returns-in_ok-computed-in-Computed : goal.returns-in_ok-computed-in-Computed
returns-in_ok-computed-in-Computed g c =
    rw c.in-Computed.is (record {
      plays = record {
        plays = λ m is.
            done (part _ (quietly (at_once _ _ _) (λ k hid d a. refl))
            (rw c.get.ensures at (c.value.ensures.plays m is)) c.in_ok-computed-in-Computed.was);
        owns = c.value.ensures.owns;
      };
      kind = λ names. tt;
    })
