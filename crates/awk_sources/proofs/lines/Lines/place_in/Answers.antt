use Rattle.std.proofs.Common.{subst}
use Rattle.awk_sources.specs.Lines.{entries, HasNoLine, TellsOfBytes}
use Rattle.awk_sources.proofs.LineLemmas.{tells_of}
use Rattle.awk_sources.proofs.lines.Lines.place_in.Goals as goal

pub returns-clause-none : goal.returns-clause-none
returns-clause-none c =
    λ none.
    subst (λ es. HasNoLine es c.args.place.line) c.self.view_is (subst (λ ps. HasNoLine (entries ps) c.args.place.line)
    c.as_slice.ensures.value (c.part_at.ensures.none none))

pub returns-clause-bytes : goal.returns-clause-bytes
returns-clause-bytes c =
    subst (λ es. TellsOfBytes es c.args.place c.part_at.result) c.self.view_is
    (subst (λ ps. TellsOfBytes (entries ps) c.args.place c.part_at.result) c.as_slice.ensures.value
    (tells_of (entries c.as_slice.result.now) c.args.place c.part_at.result c.part_at.ensures.told
    c.part_at.ensures.none))
