use Rattle.std.proofs.Common.{ap, ◌∙◌}
use Rattle.std.specs.Prelude.{None}
use Rattle.awk_builtins.proofs.Granted.{given_or_lacks}
use Rattle.awk_machine.specs.Pieces.{granted}
use Rattle.awk_machine.specs.Printing as machine
use Rattle.awk_machine.specs.Advances.{held}
use Rattle.awk_machine.specs.Pieces.{Goes, Doing}
use Rattle.awk_machine.specs.Streams.{seen}
use Rattle.awk_program.specs.Program as p
use Rattle.awk_store.specs.Wholes.{base}
use Rattle.awk_builtins.specs.Printed as spec
use Rattle.awk_builtins.proofs.PrintSteps.{printed-so}
use Rattle.awk_builtins.specs.Outputs.{to_standard}
use Rattle.awk_builtins.proofs.Listed.{printed_none}
use Rattle.awk_builtins.proofs.printing.printed_line.Goals as goal

pub returns : goal.returns
returns c = λ g t xs e. rw (c.at.ensures, c.text_of_items.ensures.same)
    (given_or_lacks g (c.args.store.now, t) _ c.args.place (to_standard c.args.place)
    (spec.printed c.args.store.now c.args.items.now) c.text_of_items.result c.text_of_items.ensures.ok
    c.text_of_items.ensures.err
    (λ k hid d a. ap (held g (seen (base g (c.args.store.now, t) hid) d)) (printed_none machine.printed c.args.place
    (xs) (Doing (p.print c.args.place xs None)) c.args.items.now k (seen (base g (c.args.store.now, t) hid) d) e)
    ∙ ap (λ m. held g (seen (base g (c.args.store.now, t) hid) d)
    (granted c.args.place m (λ x k s. Goes (to_standard c.args.place x k) s) k
    (seen (base g (c.args.store.now, t) hid) d))) (printed-so g (c.args.store.now, t) hid d a c.args.items.now)))
