use Rattle.std.proofs.Common.{refl, sym, ◌∙◌}
use Rattle.awk_streams.specs.Tables.{kind}
use Rattle.awk_streams.proofs.Lives.{number_live}
use Rattle.awk_streams.proofs.inputs.number.Goals as goal

pub unwrap-requires : goal.unwrap-requires
unwrap-requires c =
    let n = c.in-Stream.name in
    let live = rw c.in-Stream.is at c.requires in
    rw c.number.ensures (number_live (kind n.class) n.text.now c.args.streams.now live)

pub returns-in-Standard : goal.returns-in-Standard
returns-in-Standard c = rw c.in-Standard.is refl

pub returns-in-Stream : goal.returns-in-Stream
returns-in-Stream c = rw c.in-Stream.is (sym c.number.ensures ∙ c.unwrap.ensures)
