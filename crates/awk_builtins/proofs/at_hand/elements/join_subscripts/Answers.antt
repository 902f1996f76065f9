use Rattle.std.proofs.Common.{sym, ap, ◌∙◌, [], ◌∷◌}
use Rattle.awk_fields.specs.Rows.{joined}
use Rattle.awk_lib.specs.Written.{written}
use Rattle.awk_text.specs.Values.{text_of}
use Rattle.awk_builtins.specs.Lines.{held}
use Rattle.awk_builtins.proofs.Lines.{joined_one, written_held}
use Rattle.awk_builtins.proofs.Printed.{first_expr}
use Rattle.awk_builtins.proofs.at_hand.elements.join_subscripts.Goals as goal

pub returns : goal.returns
returns c = λ yes.
    let subsep = c.own_text-subsep.result.now in
    let a = c.add_item.ensures c.if-not-add_item.false in
    let start = a.1 ∙ ap (λ l. written l (text_of a.0)) c.clear.ensures ∙ written_held [] (text_of a.0)
    ∙ ap held (sym (joined_one subsep a.0)) in
    let o = c.add_others.ensures yes a.0 start in (
      a.0 ∷ o.vals,
      rw (first_expr c.args.keys.now c.first-item.result c.in-len1-up.len_at_least c.first-item.is) (a.2, o.there),
      o.line_is ∙ ap (λ by. held (joined by (a.0 ∷ o.vals))) c.own_text-subsep.ensures,
    )
