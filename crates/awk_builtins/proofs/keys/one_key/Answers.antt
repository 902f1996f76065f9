use Rattle.std.proofs.Common.{ap, sym, ◌∙◌}
use Rattle.std.proofs.lemmas.Result.{err_from_is_err_and}
use Rattle.std.specs.Prelude.{codes}
use Rattle.awk_machine.specs.Advances.{held}
use Rattle.awk_machine.specs.Forms.{answer}
use Rattle.awk_machine.specs.Pieces.{give, granted}
use Rattle.awk_machine.specs.Streams.{seen}
use Rattle.awk_machine.specs.Variables.{own_text}
use Rattle.awk_store.specs.Wholes.{base}
use Rattle.awk_text.specs.declared.value.Value.TheVariants as v
use Rattle.awk_builtins.proofs.Granted.{met_by}
use Rattle.awk_builtins.proofs.Listed.{key_is}
use Rattle.awk_builtins.proofs.Making.{gives_so}
use Rattle.awk_builtins.proofs.keys.one_key.Goals as goal

pub returns-in_err-at : goal.returns-in_err-at
returns-in_err-at c = λ g w a x.
    let e = err_from_is_err_and c.from_residual.result c.from_residual.ensures.1 in
    rw (e.1, e.2) (met_by g w _ c.args.place c.key_of_one.result _ c.key_of_one.ensures.err
    (sym c.at.ensures ∙ c.in_err-at.was) (λ f m k hid d ag.
    ap (λ made. held g (seen (base g w hid) d) (granted c.args.place made (λ text. answer (v.Text text)) k
    (seen (base g w hid) d))) (m (own_text (seen (base g w hid) d) (codes "SUBSEP")))))

pub returns : goal.returns
returns c = λ g w a x. rw c.new.ensures (gives_so g w _ (λ text. give (v.Text text)) _ (λ k hid d ag.
    ap (λ made. held g (seen (base g w hid) d) (granted c.args.place made (λ text. answer (v.Text text)) k
    (seen (base g w hid) d)))
    (key_is (λ x. x.now) c.args.place c.key_of_one.result c.in_ok-at.field-0 c.args.subscript c.key_of_one.ensures.ok
    (sym c.at.ensures ∙ c.in_ok-at.was) (own_text (seen (base g w hid) d) (codes "SUBSEP")))))
