use Rattle.std.proofs.Common.{ap, sym, ◌∙◌}
use Rattle.awk_machine.specs.Builtins.{seed_in}
use Rattle.awk_builtins.proofs.Called.{reseeds, seeds_not}
use Rattle.awk_builtins.proofs.numeric.srand.Goals as goal

pub returns-in-Ok : goal.returns-in-Ok
returns-in-Ok c = λ g t xs e.
    rw (c.of.ensures, c.reseed.ensures.value)
    (reseeds g (c.args.store.now, t) c.args.place xs c.args.args.now e c.in-Ok.seed c.reseed.new.self
    (sym (c.seed_in.ensures ∙ ap (λ n. seed_in n c.args.args.now) c.numbers.ensures) ∙ c.in-Ok.is)
    c.reseed.ensures.after)

pub returns-in-Err : goal.returns-in-Err
returns-in-Err c = λ g t xs e.
    rw c.at.ensures
    (seeds_not g (c.args.store.now, t) c.args.place xs c.args.args.now e c.in-Err.fault
    (sym (c.seed_in.ensures ∙ ap (λ n. seed_in n c.args.args.now) c.numbers.ensures) ∙ c.in-Err.is))
