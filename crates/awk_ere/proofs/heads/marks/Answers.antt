use Rattle.awk_ere.proofs.Beginnings.{marks_mask}
use Rattle.awk_ere.proofs.heads.marks.Goals as goal

pub returns : goal.returns
returns c = marks_mask c.args.heads.now c.args.bytes c.args.behind c.requires c.fits-bytes.0 c.fits-behind.0
