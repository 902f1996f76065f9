use Rattle.std.proofs.Common.{Some, refl, ◌∙◌, ap}
use Rattle.std.proofs.lemmas.Option.{slice_get_read}
use Rattle.awk_ere.specs.Matcher.{matcher_of}
use Rattle.awk_ere.proofs.Seeking.{anchored}
use Rattle.awk_ere.proofs.table.Matcher.is_anchored.Goals as goal

pub returns-in-AtStart : goal.returns-in-AtStart
returns-in-AtStart c =
    let is = c.self.invariant.1 in
    let first = slice_get_read c.self.inside.program.items _ _ _ refl is.machine.inside c.index.ensures
    ∙ ap (λ x. Some x) c.in-AtStart.is in
    λ t. rw (← c.self.view_is) (anchored (matcher_of c.self.inside) _ is _ first)
