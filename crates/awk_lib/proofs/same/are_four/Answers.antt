use Rattle.std.proofs.Common.{nat_eq, ◌∙◌}
use Rattle.std.specs.Int.{w32, from_le_bytes}
use Rattle.awk_lib.proofs.Words.{told, four}
use Rattle.awk_lib.proofs.same.are_four.Goals as goal

pub returns : goal.returns
returns c =
    let x = c.args.x.now in
    let y = c.args.y.now in
    (λ i. nat_eq (c.from_le_bytes.ensures i) (c.from_le_bytes-2.ensures i)) ∙ told (from_le_bytes w32) x y
    (four x y c.fits-x c.fits-y c.told-x c.told-y)
