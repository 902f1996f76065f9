use Rattle.std.proofs.Common.{map, ap, ◌∙◌, arith}
use Rattle.std.specs.Simd.Lanes.{mask_l}
use Rattle.awk_fields.specs.Marks.{is_mark}
use Rattle.awk_fields.proofs.Marked.{last_block}
use Rattle.awk_fields.proofs.marks.Marks.in_block.Goals as goal

pub returns-else-rest-ge-BLOCK : goal.returns-else-rest-ge-BLOCK
returns-else-rest-ge-BLOCK c = c.in_short.ensures ∙ ap (λ l. mask_l (map (is_mark c.args.self) l))
    (last_block c.args.from c.args.text.now (omega arith))
