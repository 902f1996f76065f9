use Rattle.std.proofs.Common.{◌∙◌, ap, ◌++◌, length, arith}
use Rattle.awk_builtins.proofs.Behind.{joins_behind, joins_not}
use Rattle.awk_builtins.proofs.at_hand.growth.join_behind.Goals as goal

pub returns-in_default : goal.returns-in_default
returns-in_default c = λ g w x xs.
    let long = rw c.bytes.ensures at c.in_default.ensures in
    rw c.at.ensures (joins_not g w c.args.place x xs c.args.text.now c.args.more.now.items c.args.operand.now
    c.args.more.now.items (omega (arith, long)))

pub returns-then-room-len : goal.returns-then-room-len
returns-then-room-len c = λ g w x xs.
    rw c.at-then-room-len.ensures (joins_not g w c.args.place x xs c.args.text.now c.args.more.now.items
    c.args.operand.now c.args.more.now.items
    (omega (
      arith,
      c.in-Some.ensures,
      c.if-room-len.true,
      c.len.ensures,
      ap length c.bytes.ensures,
      ap length c.text_in-bytes.ensures,
    )))

pub returns : goal.returns
returns c = λ g w x xs.
    joins_behind g w c.args.place x xs c.args.text.now c.args.more.now.items c.args.operand.now
    c.extend_from_slice.new.self.items
    (c.in_ok-extend_from_slice.ensures.items ∙ ap (λ b. c.args.more.now.items ++ b) c.text_in-bytes.ensures)
    (omega (
      arith,
      c.in-Some.ensures,
      c.if-room-len.false,
      c.len.ensures,
      ap length c.bytes.ensures,
      ap length c.text_in-bytes.ensures,
    ))
