use Rattle.std.proofs.Common.{sym, ap, ◌∙◌, [], ◌∷◌, ◌++◌}
use Rattle.awk_fields.specs.Rows.{joined}
use Rattle.awk_lib.specs.Written.{written}
use Rattle.awk_program.specs.declared.variables.Own.TheVariants as own
use Rattle.awk_store.specs.Kept.{own_text}
use Rattle.awk_text.specs.Values.{text_of}
use Rattle.awk_builtins.specs.Lines.{held}
use Rattle.awk_builtins.proofs.Lines.{joined_one, written_held}
use Rattle.awk_builtins.proofs.Printed.{first_expr}
use Rattle.awk_builtins.proofs.at_hand.texts.join_items.Goals as goal

pub returns-in-Ok : goal.returns-in-Ok
returns-in-Ok c = λ yes.
    let ofs = c.own_text-ofs.result.now in
    let ors = c.own_text-ors.result.now in
    let a = c.add_item.ensures c.if-not-add_item.false in
    let start = a.1 ∙ ap (λ l. written l (text_of a.0)) c.clear.ensures ∙ written_held [] (text_of a.0)
    ∙ ap held (sym (joined_one ofs a.0)) in
    let o = c.add_others.ensures c.if-not-add_others.false a.0 start in (
      a.0 ∷ o.vals,
      rw (first_expr c.args.xs.now c.first-item.result c.in-len1-up.len_at_least c.first-item.is) (a.2, o.there),
      c.in-Ok.ensures
          ∙ ap (λ l. written l ors) o.line_is
          ∙ written_held (joined ofs (a.0 ∷ o.vals)) ors
          ∙ ap (λ by. held (joined by (a.0 ∷ o.vals) ++ ors)) c.own_text-ofs.ensures
          ∙ ap (λ by. held (joined (own_text c.args.store.now own.Ofs) (a.0 ∷ o.vals) ++ by)) c.own_text-ors.ensures,
    )
