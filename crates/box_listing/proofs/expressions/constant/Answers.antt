use Rattle.std.proofs.Common.{arith, refl}
use Rattle.awk_program.proofs.Views.{view-Text, views}
use Rattle.box_listing.proofs.expressions.constant.Goals as goal

pub returns-in-Text : goal.returns-in-Text
returns-in-Text c = λ n. rw (c.in-Text.is, view-Text) refl

pub returns-in-Number : goal.returns-in-Number
returns-in-Number c = λ n. let h = c.in-Number.is in grind (arith, views)
