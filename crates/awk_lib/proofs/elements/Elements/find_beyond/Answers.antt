use Rattle.std.proofs.Common.{arith, ◌∙◌}
use Rattle.awk_lib.proofs.Keeping.{missing_number}
use Rattle.awk_lib.proofs.elements.Elements.find_beyond.Goals as goal

pub returns-then-is_empty-clause-none : goal.returns-then-is_empty-clause-none
returns-then-is_empty-clause-none g c =
    λ _. missing_number c.args.self.now c.args.number (omega arith) c.requires.beyond
    (c.is_empty.ensures.0 c.if-is_empty.true)

pub returns-clause-some : goal.returns-clause-some
returns-clause-some g c = let d = c.as_bytes.ensures.value ∙ c.format.ensures.text in rw d at c.find.ensures.some

pub returns-clause-none : goal.returns-clause-none
returns-clause-none g c = let d = c.as_bytes.ensures.value ∙ c.format.ensures.text in rw d at c.find.ensures.none
