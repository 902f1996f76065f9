use Rattle.awk_forms.proofs.Turns.{count_listed, filled_from, waits_listed}
use Rattle.awk_streams.proofs.Chain.{at_once, part, passes, stop}
use Rattle.awk_machine.specs.Builtins as builtin
use Rattle.awk_machine.specs.Pieces.{Value_of}
use Rattle.awk_program.specs.Program as p
use Rattle.awk_program.specs.Program.{expressions_of}
use Rattle.awk_program.specs.View.{view}
use Rattle.awk_store.specs.Wholes.{names_in}
use Rattle.std.proofs.Common.{map, refl}
use Rattle.std.proofs.lemmas.Result.{err_from_is_err_and}
use Rattle.awk_forms.proofs.operands.several.Goals as goal

pub returns-in_err-fill : goal.returns-in_err-fill
returns-in_err-fill g c =
    let e = err_from_is_err_and c.from_residual.result c.from_residual.ensures.1 in rw (e.1, e.2) (record {
      plays = λ m is.
          let part_of = Value_of (p.builtin c.args.place c.args.which
          (expressions_of (map (view (names_in m)) c.args.args.now))) in
          (stop _ (λ k. refl) (at_once _ _ _) (filled_from _ _ c.new-values.ensures.items c.fill.ensures.plays m is
          part_of (waits_listed m part_of (map (view (names_in m)) c.args.args.now)
          (builtin.called c.args.place c.args.which) (λ vs k s. refl) (λ vs k. refl))) c.in_err-fill.was);
      owns = c.fill.ensures.plays.owns;
    })

pub returns : goal.returns
returns g c =
    record {
      plays = λ m is.
          let part_of = Value_of (p.builtin c.args.place c.args.which
          (expressions_of (map (view (names_in m)) c.args.args.now))) in
          passes (part _ (at_once _ _ _) (filled_from _ _ c.new-values.ensures.items c.fill.ensures.plays m is part_of
          (waits_listed m part_of (map (view (names_in m)) c.args.args.now)
          (builtin.called c.args.place c.args.which) (λ vs k s. refl) (λ vs k. refl))) c.in_ok-fill.was)
          (rw c.as_slice.ensures.value at (c.called.ensures.task m
          (expressions_of (map (view (names_in m)) c.args.args.now))
          (rw c.as_slice.ensures.value (count_listed (view (names_in m)) c.args.args.now _ _
          c.new-values.ensures.items c.in_ok-fill.ensures.count))));
      owns = c.called.ensures.owns;
    }
