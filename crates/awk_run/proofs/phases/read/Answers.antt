use Rattle.std.proofs.Common.{ap, ◌∙◌, ◌++◌}
use Rattle.awk_machine.specs.Rules.{records}
use Rattle.awk_store.specs.declared.phase.Phase.TheVariants as phase
use Rattle.awk_streams.proofs.Chain.{done, passes, turned}
use Rattle.awk_input.specs.Inputs.{more}
use Rattle.awk_run.proofs.PhaseSteps.{enters}
use Rattle.awk_run.proofs.phases.read.Goals as goal

pub returns-then-not-reads : goal.returns-then-not-reads
returns-then-not-reads g c = record {
  plays = λ m is. done (turned (enters phase.Ruling c.args.run.now.store c.set_phase.new.self c.args.run.now.streams
      c.args.world.now c.set_phase.ensures)
      (λ k. ap (λ q. records q ++ k) is.program ∙ c.reads.ensures k ∙ ap (λ b. more b k) c.if-not-reads.true));
  owns = c.requires;
}

pub returns : goal.returns
returns g c = record {
  plays = λ m is. passes (turned (enters phase.Ruling c.args.run.now.store c.set_phase.new.self c.args.run.now.streams
      c.args.world.now c.set_phase.ensures)
      (λ k. ap (λ q. records q ++ k) is.program ∙ c.reads.ensures k ∙ ap (λ b. more b k) c.if-not-reads.false))
      (c.records.ensures.plays m is);
  owns = c.records.ensures.owns;
}
