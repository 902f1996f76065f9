use Rattle.awkbox.proofs.TwoDrives as laws
use Rattle.awkbox.proofs.laws.two_drives.Goals as goal

pub returns : goal.returns
returns g c =
    laws.two_drives g.V.World.follows g.V.World.stops g.K.Write.contents
    g.W.World.follows g.W.World.stops g.L.Write.contents
    c.one_policy.ensures c.one_program.ensures c.two_worlds.ensures
