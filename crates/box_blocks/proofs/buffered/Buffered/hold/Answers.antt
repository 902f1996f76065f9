use Rattle.std.specs.Prelude.{option_map}
use Rattle.std.proofs.Common.{sym, subst}
use Rattle.box_blocks.specs.Blocks.{Blocks, IsSound}
use Rattle.box_blocks.specs.HeldBytes.{writing_of}
use Rattle.box_blocks.proofs.buffered.Buffered.hold.Goals as goal

pub invariant_of-self : goal.invariant_of-self
invariant_of-self g c =
    subst (λ (z : Blocks g.row.W.Denot). IsSound (g.W.World.open_numbers z.world) z.untold
    (option_map writing_of c.args.held)) (sym c.self.view_is) c.requires.sound
