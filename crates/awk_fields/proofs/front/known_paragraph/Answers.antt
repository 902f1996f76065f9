use Rattle.std.proofs.Common.{arith}
use Rattle.std.proofs.lemmas.List.Sums.{prefix_len-le-length}
use Rattle.awk_fields.specs.Heads.{is_newline}
use Rattle.awk_fields.proofs.front.known_paragraph.Goals as goal

pub returns-in-Paragraph-clause-inside : goal.returns-in-Paragraph-clause-inside
returns-in-Paragraph-clause-inside c =
    let known = rw c.in-Paragraph.is at c.requires in
    omega (arith, known.newlines, prefix_len-le-length is_newline c.args.unread.now)
