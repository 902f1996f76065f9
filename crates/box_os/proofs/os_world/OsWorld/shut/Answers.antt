use Rattle.std.proofs.Common.{◌∙◌, sym}
use Rattle.std.proofs.lemmas.Option.{none-some}
use Rattle.box_os.proofs.OsRising.{below-is_new, rises-without}
use Rattle.box_os.proofs.os_world.OsWorld.shut.Goals.{in-Some, in-None}
use Rattle.box_os.proofs.os_world.OsWorld.shut.Goals as goal

pub invariant_of-self : goal.invariant_of-self
invariant_of-self c = rw c.take_stream.ensures.taken (rises-without _ _ _ _ c.self.invariant)

-- the numbers that are open begin at 3, so nothing is taken out for one below
pub returns-clause-standard : goal.returns-clause-standard
returns-clause-standard c below =
    let none = c.take_stream.ensures.absent (below-is_new 3 _ _ _ below c.self.invariant) in
    elim c.match-take_stream.branch [
      | in-Some w ↦ absurd (none-some _ (sym none ∙ w.in-Some.is))
      | in-None w ↦ w.result-is
    ]
