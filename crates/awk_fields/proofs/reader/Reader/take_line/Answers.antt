use Rattle.std.proofs.Common.{arith}
use Rattle.std.proofs.lemmas.List.{length-drop}
use Rattle.awk_fields.proofs.reader.Reader.take_line.Goals as goal

pub invariant_of-self : goal.invariant_of-self
invariant_of-self c =
    let s = c.self.inside.bytes.items in
    let start = c.self.inside.start in
    (omega (arith, c.in-Some.ensures.inside, length-drop start s), c.in-Some.ensures.searched _)
