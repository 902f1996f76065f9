use Rattle.std.proofs.Common.{List, ℕ, subst}
use Rattle.awk_fields.specs.Parts.{ArePartsKept}
use Rattle.awk_fields.proofs.row.Record.count.Goals as goal

pub returns-in_err-split_parts-clause-kept : goal.returns-in_err-split_parts-clause-kept
returns-in_err-split_parts-clause-kept c =
    rw (← c.self.view_is) (subst (λ (t : List ℕ). ArePartsKept t c.self.inside.parts c.split_parts.new.parts)
    c.bytes.ensures c.in_err-split_parts.ensures.kept)

pub returns-clause-kept : goal.returns-clause-kept
returns-clause-kept c =
    rw (← c.self.view_is) (subst (λ (t : List ℕ). ArePartsKept t c.self.inside.parts c.split_parts.new.parts)
    c.bytes.ensures c.in_ok-split_parts.ensures.kept)
