use Rattle.std.proofs.Common.{nat_eq, ◌∙◌}
use Rattle.std.specs.Int.{w64, from_le_bytes}
use Rattle.awk_lib.proofs.Words.{told, eight}
use Rattle.awk_lib.proofs.same.are_eight.Goals as goal

pub returns : goal.returns
returns c =
    let x = c.args.x.now in
    let y = c.args.y.now in
    (λ i. nat_eq (c.from_le_bytes.ensures i) (c.from_le_bytes-2.ensures i)) ∙ told (from_le_bytes w64) x y
    (eight x y c.fits-x c.fits-y c.told-x c.told-y)
