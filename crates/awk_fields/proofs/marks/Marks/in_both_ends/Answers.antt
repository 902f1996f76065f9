use Rattle.std.proofs.Common.{◌-◌, ◌*◌, ◌%◌, ◌^◌, length, ap₂, ◌∙◌, arith}
use lib.Bits.{bit_or}
use Rattle.awk_fields.specs.Marks.{is_mark}
use Rattle.awk_fields.proofs.Marked.{overlapped}
use Rattle.awk_fields.proofs.marks.Marks.in_both_ends.Goals as goal

pub returns : goal.returns
returns g c =
    let s = c.args.bytes.now in
    let k = length s - g.row.N in
    ap₂ (λ a b. bit_or a (b * 2 ^ k % 2 ^ 64)) c.in_lanes.ensures c.in_lanes-2.ensures
    ∙ overlapped (is_mark c.args.self) g.row.N k s (omega arith) (omega arith) (omega arith)
