use Rattle.std.proofs.Common.{◌≡◌, ◌+◌, ◌-◌, length, take, drop, ap, ◌∙◌, arith, rules, length-drop, take_all}
use lib.Seq.{paste}
use Rattle.std.specs.Prelude.{vec_len}
use Rattle.std.proofs.lemmas.List.Edits.{take-paste}
use Rattle.awk_fields.proofs.reader.compact.Goals as goal

pub returns-clause-unread : goal.returns-clause-unread
returns-clause-unread c =
    let all = c.args.bytes.now.items in
    let left = c.len.result - c.args.start in
    let long : vec_len c.args.bytes.now ≡ c.len.result = search rules in
    let count : length all ≡ c.len.result = search rules in
    let same : left ≡ 0 + left = omega arith in
    let rest : length (drop c.args.start all) ≡ left = omega (arith, length-drop c.args.start all) in
    c.truncate.ensures.items ∙ ap (take left) c.copy_within.ensures.items
    ∙ ap (λ n. take left (paste all 0 (drop c.args.start all) (n - c.args.start))) long
    ∙ ap (λ k. take k (paste all 0 (drop c.args.start all) left)) same ∙ take-paste all 0 (drop c.args.start all) left
    (omega arith) (omega arith)
    ∙ take_all left (drop c.args.start all) (omega arith)
