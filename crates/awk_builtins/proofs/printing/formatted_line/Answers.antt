use Rattle.std.proofs.Common.{ap, ◌∙◌, ◌∷◌}
use Rattle.std.specs.Prelude.{None}
use Rattle.awk_builtins.proofs.Granted.{given_or_lacks}
use Rattle.awk_builtins.proofs.Convfmt.{formatted-so}
use Rattle.awk_builtins.specs.Shown.{formatted_by}
use Rattle.awk_machine.specs.Builtins as builtin
use Rattle.awk_machine.specs.Advances.{held}
use Rattle.awk_machine.specs.Pieces.{Doing, Goes, granted}
use Rattle.awk_machine.specs.Streams.{seen}
use Rattle.awk_program.specs.Program as p
use Rattle.awk_store.specs.Wholes.{Whole, base}
use Rattle.awk_builtins.specs.Outputs.{to_standard}
use Rattle.awk_builtins.proofs.Listed.{printed_none}
use Rattle.awk_builtins.proofs.printing.formatted_line.Goals as goal

pub returns : goal.returns
returns c = λ g t x xs e.
    let w : Whole = (c.args.store.now, t) in
    rw c.at.ensures (given_or_lacks g w _ c.args.place (to_standard c.args.place)
    (formatted_by c.args.store.now c.args.values.now) c.text_of_format.result
    c.text_of_format.ensures.ok c.text_of_format.ensures.err
    (λ k hid d a. ap (held g (seen (base g w hid) d)) (printed_none builtin.formatted_by c.args.place (x ∷ xs)
    (Doing (p.printf c.args.place x xs None)) c.args.values.now k (seen (base g w hid) d) e)
    ∙ ap (λ m. held g (seen (base g w hid) d) (granted c.args.place m
    (λ y k s. Goes (to_standard c.args.place y k) s) k (seen (base g w hid) d)))
    (formatted-so g w hid d a c.args.values.now)))
