use Rattle.std.proofs.Common.{◌++◌, ◌-◌, length, take, drop, ◌∙◌, ap, sym}
use Rattle.awk_text.specs.Values.{text_of}
use Rattle.awk_fields.specs.Rows.{joined}
use Rattle.awk_lib.specs.Written.{written}
use Rattle.awk_builtins.specs.Lines.{held}
use Rattle.awk_builtins.proofs.Lines.{whole, first_and_others}
use Rattle.awk_builtins.proofs.line.Line.join.Goals as goal

pub returns : goal.returns
returns c =
    let vs = c.args.values.now in
    let x = c.first-item.result in
    let others = take (length vs - 1) (drop 1 vs) in
    let separator = c.args.separator.now in
    let end = c.args.end.now in
    c.in_ok-push.ensures
    ∙ whole c.add.new.self c.add_behind.new.self separator x others end
    (c.in_ok-add.ensures ∙ ap (λ o. written o (text_of x)) c.clear.ensures) c.in_ok-add_behind.ensures
    ∙ ap (λ l. held (joined separator l ++ end)) (sym (first_and_others vs x c.in-len1-up.len_at_least c.first-item.is))
