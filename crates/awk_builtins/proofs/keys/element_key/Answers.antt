use Rattle.std.proofs.Common.{ap, ◌∙◌}
use Rattle.awk_builtins.proofs.Granted.{given_or_lacks}
use Rattle.awk_machine.specs.Pieces.{give}
use Rattle.awk_text.specs.declared.value.Value.TheVariants as v
use Rattle.awk_fields.specs.Rows.{joined}
use Rattle.awk_machine.specs.Operators as ops
use Rattle.awk_machine.specs.Advances.{held}
use Rattle.awk_machine.specs.Pieces.{Goes, Target_of}
use Rattle.awk_machine.specs.Forms.{listed, keyed}
use Rattle.awk_machine.specs.Streams.{seen}
use Rattle.awk_program.specs.Program as p
use Rattle.awk_program.specs.declared.variables.Own.TheVariants as own
use Rattle.awk_store.specs.Kept.{own_text}
use Rattle.awk_store.specs.Wholes.{base}
use Rattle.awk_builtins.proofs.Listed.{all_there, keyed_so}
use Rattle.awk_builtins.proofs.keys.element_key.Goals as goal

pub returns : goal.returns
returns c = λ g t x xs e. rw c.at.ensures (given_or_lacks g (c.args.store.now, t) _ c.args.place
    (λ text. give (v.Text text)) (ops.limited (joined (own_text c.args.store.now own.Subsep) c.args.subscripts.now))
    c.key.result c.key.ensures.ok c.key.ensures.err
    (λ k hid d a. ap (held g (seen (base g (c.args.store.now, t) hid) d))
    (all_there (listed xs) (Target_of (p.element c.args.place x xs))
    (λ vs. keyed c.args.place vs (λ text k s. Goes (give (v.Text text) k) s)) c.args.subscripts.now k
    (seen (base g (c.args.store.now, t) hid) d) e
    ∙ keyed_so g (c.args.store.now, t) hid d a c.args.place c.args.subscripts.now
    (λ text k s. Goes (give (v.Text text) k) s) k)))
