use Rattle.std.proofs.Common.{[]}
use Rattle.awk_program.specs.declared.jumps.Jump.TheVariants as j
use Rattle.awk_program.specs.Program as p
use Rattle.awk_machine.specs.Pieces.{At, Doing}
use Rattle.awk_machine.specs.Statements.{to_records}
use Rattle.awk_streams.proofs.Chain.{at_once, nexts, part}
use Rattle.awk_store.specs.Wholes.{Whole}
use Rattle.awk_store.proofs.Acting.{acted}
use Rattle.awk_input.proofs.MainSteps.{halts_whole}
use Rattle.awk_input.proofs.skipping.next_file.Goals as goal

pub returns-in-Err-clause-task : goal.returns-in-Err-clause-task
returns-in-Err-clause-task g c = λ m.
    halts_whole m _ (c.args.store.now, c.args.streams.now) (c.next_file.new.store, c.args.streams.now) c.args.world.now
    c.args.world.now c.in-Err.halt (acted (c.in-Err.ensures m c.args.streams.now))

pub returns-in-Err-skip-clause-task : goal.returns-in-Err-skip-clause-task
returns-in-Err-skip-clause-task g c = λ m.
    let old : Whole = (c.args.store.now, c.args.streams.now) in
    let q = At (Doing (p.jump (j.NextFile c.args.place))) [] in
    halts_whole m q old (c.skip.new.store, c.skip.new.streams) c.args.world.now c.skip.new.world c.in-Err-skip.halt
    (c.in-Err-skip.ensures.task m to_records q old c.args.world.now (part _ (at_once q old c.args.world.now)
    (acted (c.next_file.ensures m c.args.streams.now)) c.in_default.is))

pub returns-clause-task : goal.returns-clause-task
returns-clause-task g c = λ m.
    let old : Whole = (c.args.store.now, c.args.streams.now) in
    let q = At (Doing (p.jump (j.NextFile c.args.place))) [] in
    nexts (c.in_default-skip.ensures.task m to_records q old c.args.world.now (part _ (at_once q old c.args.world.now)
    (acted (c.next_file.ensures m c.args.streams.now)) c.in_default.is))
