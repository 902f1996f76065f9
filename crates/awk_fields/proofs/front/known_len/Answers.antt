use Rattle.std.proofs.Common.{not, ◌==◌, arith}
use Rattle.std.proofs.lemmas.List.Sums.{prefix_len-le-length}
use Rattle.awk_fields.proofs.front.known_len.Goals as goal

pub returns-in-Byte-clause-inside : goal.returns-in-Byte-clause-inside
returns-in-Byte-clause-inside c =
    let known = rw c.in-Byte.is at c.requires in
    omega (arith, known, prefix_len-le-length (λ b. not (b == c.in-Byte.sought)) c.args.unread.now)
