use Rattle.box_blocks.specs.HeldBytes.{writing_of}
use Rattle.box_blocks.proofs.Steps.{begun_of, may_begin}
use Rattle.box_blocks.proofs.buffered.Buffered.begins.Goals as goal

pub hold-requires-clause-sound : goal.hold-requires-clause-sound
hold-requires-clause-sound g c =
    may_begin _ _ c.args.ask.now c.in-Put.number c.in-Put.bytes c.bytes-text.result.now (writing_of c.in-Some.held)
    c.in-Put.is c.in-Some.ensures.begun (c.is_all_told.ensures c.if-not-is_all_told.false) c.in-Some.ensures.within
    c.requires.duty

pub returns-clause-begun : goal.returns-clause-begun
returns-clause-begun g c = λ _. record {
  held = writing_of c.in-Some.held;
  is_ask = begun_of c.args.ask.now c.in-Put.number c.in-Put.bytes c.bytes-text.result.now (writing_of c.in-Some.held)
      c.in-Put.is c.bytes-text.ensures c.in-Some.ensures.begun;
  left = c.hold.ensures;
}
