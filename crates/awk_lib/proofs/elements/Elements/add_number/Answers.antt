use Rattle.std.proofs.Common.{inr, ◌∙◌}
use Rattle.awk_lib.proofs.elements.Elements.add_number.Goals as goal

pub add_dense-requires-clause-near : goal.add_dense-requires-clause-near
add_dense-requires-clause-near g c = λ beyond. inr ((c.has_spot.ensures c.if-has_spot.true).1 beyond)

pub add-requires-clause-absent : goal.add-requires-clause-absent
add-requires-clause-absent g c = let d = c.as_bytes.ensures.value ∙ c.format.ensures.text in rw d (c.requires.absent)

pub returns-clause-place : goal.returns-clause-place
returns-clause-place g c = let d = c.as_bytes.ensures.value ∙ c.format.ensures.text in rw d at c.add.ensures.place

pub returns-clause-added : goal.returns-clause-added
returns-clause-added g c = let d = c.as_bytes.ensures.value ∙ c.format.ensures.text in rw d at c.add.ensures.added

pub returns-clause-last : goal.returns-clause-last
returns-clause-last g c = let d = c.as_bytes.ensures.value ∙ c.format.ensures.text in rw d at c.add.ensures.last
