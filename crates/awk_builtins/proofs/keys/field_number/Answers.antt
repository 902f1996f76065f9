use Rattle.std.proofs.Common.{rules, w64}
use Rattle.std.specs.Prelude.{pos}
use Rattle.std.proofs.lemmas.Int.{to_z-of_z}
use Rattle.awk_text.specs.Values.{number_of}
use Rattle.awk_text.specs.declared.value.Value.TheVariants as v
use Rattle.awk_machine.specs.Advances.{held}
use Rattle.awk_machine.specs.Forms.{answer}
use Rattle.awk_machine.specs.Pieces.{Goes}
use Rattle.awk_machine.specs.Streams.{seen}
use Rattle.awk_store.specs.Wholes.{base}
use Rattle.std.proofs.Common.{refl, sym, ap, ◌∙◌}
use Rattle.awk_builtins.proofs.Granted.{met_now, as_halted}
use Rattle.awk_store.specs.Numbers.{as_value}
use Rattle.awk_builtins.proofs.Making.{gives_so, field_is}
use Rattle.awk_machine.specs.Pieces.{give, granted}
use Rattle.awk_machine.specs.Operators as ops
use Rattle.awk_machine.specs.Targets.{field_of}
use Rattle.awk_builtins.proofs.keys.field_number.Goals as goal

pub returns-in-Err : goal.returns-in-Err
returns-in-Err c = λ g w x by. rw c.at.ensures (as_halted (met_now g w _ c.args.place give
    (field_of w.0.numbers c.args.value.now) _ (sym (rw by at c.field_of.ensures) ∙ ap as_value c.in-Err.is)
    (λ k hid d a. refl)))

pub returns-in-Ok-try_from : goal.returns-in-Ok-try_from
returns-in-Ok-try_from c = λ g w x by.
    let is = sym (rw by at c.field_of.ensures) ∙ ap as_value c.in-Ok.is in
    let z = field_is (number_of w.0.numbers c.args.value.now) c.in-Ok.number is in
    gives_so g w _ (λ n. give (ops.of_count n)) c.in-Ok-try_from.number (λ k hid d a.
    ap (λ m. held g (seen (base g w hid) d) (granted c.args.place m answer k (seen (base g w hid) d)))
    is
    ∙ ap (λ y. Goes (give (v.Num y) k) (seen (base g w hid) d))
    (sym z ∙ ap pos (sym (rw (to_z-of_z w64 c.in-Ok.number (search rules)) at c.in-Ok-try_from.ensures.1))))
