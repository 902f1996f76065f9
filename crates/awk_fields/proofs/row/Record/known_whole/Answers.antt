use Rattle.std.proofs.Common.{◌≡◌, List, ℕ, subst}
use Rattle.std.specs.Prelude.{IfSome}
use Rattle.awk_fields.specs.Parts.{whole_of}
use Rattle.awk_fields.proofs.row.Record.known_whole.Goals as goal

pub returns : goal.returns
returns c =
    rw (← c.self.view_is)
    (subst (λ (t : List ℕ). IfSome c.known_whole.result (λ whole. whole.now ≡ whole_of t c.self.inside.parts))
    c.bytes.ensures c.known_whole.ensures)
