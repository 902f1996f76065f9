use Rattle.std.proofs.Common.{◌≡◌, true}
use Rattle.awk_resolve.proofs.kinds.at_name.Goals.{else-sought-via-then-sought+else-has_two}
use Rattle.awk_resolve.proofs.kinds.at_name.Goals.{else-sought-via-else-sought}
use Rattle.awk_resolve.proofs.kinds.at_name.Goals as goal

pub returns-else-sought : goal.returns-else-sought
returns-else-sought c = λ q h. elim c.else-sought.branch [
  | else-sought-via-then-sought+else-has_two w ↦
      let text = rw w.bytes.ensures at w.has_two.ensures in
      let two : w.has_two.result ≡ true = text.1 h.0 in let one = w.if-has_two.false in cc
  | else-sought-via-else-sought w ↦ c.args.sought.now.only w.if-sought.false c.args.role.now c.args.name.now.text h.0
]
