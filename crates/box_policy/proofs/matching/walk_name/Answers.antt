use Rattle.std.proofs.Common.{◌∙◌, ◌∷◌, arith}
use Rattle.box_policy.specs.declared.tokens.Token.TheVariants.{Close}
use Rattle.box_policy.proofs.WalksLemmas.{walk_opened}
use Rattle.box_policy.proofs.matching.walk_name.Goals as goal

pub returns-clause-places : goal.returns-clause-places
returns-clause-places c = λ symbols rest table room.
    walk_opened c.args.blocks.now symbols c.args.name.now rest c.args.reached.now c.step.new.reached
    c.walk_text.new.reached c.step-2.new.reached table room
    c.step.ensures.len c.walk_text.ensures.len c.step.ensures.places
    (c.walk_text.ensures.places symbols (Close ∷ rest) table (omega (arith, room, c.step.ensures.len)))
    c.step-2.ensures.places
