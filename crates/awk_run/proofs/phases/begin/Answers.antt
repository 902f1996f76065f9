use Rattle.std.proofs.Common.{ap, ◌∷◌}
use Rattle.awk_machine.specs.Pieces.{Do, Each}
use Rattle.awk_machine.specs.Rules.{concatenated}
use Rattle.awk_store.specs.declared.phase.Phase.TheVariants as phase
use Rattle.awk_streams.proofs.Chain.{passes, turned}
use Rattle.awk_run.proofs.PhaseSteps.{begin_so, enters}
use Rattle.awk_run.proofs.phases.begin.Goals as goal

pub returns : goal.returns
returns g c = record {
  plays = λ m is. passes
      (turned (enters phase.Beginning c.args.run.now.store c.set_phase.new.self c.args.run.now.streams c.args.world.now
      c.set_phase.ensures) (λ k. ap (λ xs. Do (Each (concatenated xs)) ∷ k) (begin_so m c.args.cx.now is)))
      (rw c.as_slice.ensures at (c.actions.ensures.plays m is));
  owns = c.actions.ensures.owns;
}
