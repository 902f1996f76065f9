use Rattle.awk_fields.proofs.Marked.{marks_mask}
use Rattle.awk_fields.proofs.marks.Marks.in_lanes.Goals as goal

pub returns : goal.returns
returns g c = marks_mask c.args.self g.row.N c.args.bytes c.fits-bytes.0 c.requires
