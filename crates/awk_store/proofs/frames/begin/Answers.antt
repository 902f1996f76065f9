use Rattle.std.proofs.Common.{sym, ap, ◌∙◌, drop, length}
use Rattle.awk_machine.specs.Calls.{function}
use Rattle.awk_program.specs.View.{view_arguments}
use Rattle.awk_store.specs.Wholes.{names_in}
use Rattle.awk_store.proofs.frames.begin.Goals as goal

pub returns : goal.returns
returns c = λ g t e.
    c.enter.ensures g t c.args.f (view_arguments (names_in g) c.args.xs.now) c.args.values
    (c.others.ensures ∙ ap (λ n. drop n c.parameters_of.result.now) c.len-count.ensures
    ∙ ap (drop (length c.args.values)) (c.parameters_of.ensures ∙ ap (λ p. (function p c.args.f).parameters) (sym e)))
    (λ hid. c.hand_arrays.ensures g t hid c.args.values c.into_bounds-given.ensures)
