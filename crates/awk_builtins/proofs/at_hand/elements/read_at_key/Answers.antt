use Rattle.awk_machine.specs.Forms.{spot}
use Rattle.awk_machine.specs.Pieces as machine
use Rattle.awk_machine.specs.Pieces.{At, Do, Get, Value_of}
use Rattle.awk_program.specs.Program as p
use Rattle.awk_program.specs.Program.{expressions_of}
use Rattle.awk_program.specs.View.{variable_of, view}
use Rattle.awk_store.proofs.Acting.{at_rest, moves, passes}
use Rattle.awk_store.specs.Wholes.{names_in}
use Rattle.awk_builtins.proofs.AtHand.{on}
use Rattle.std.proofs.Common.{[], map, refl, ◌∷◌}
use Rattle.awk_builtins.proofs.at_hand.elements.read_at_key.Goals as goal

pub returns : goal.returns
returns c = λ g t what at.
    rw at.is (passes (moves {then_ =
    λ k. Do (Get (machine.Element (variable_of (names_in g) c.args.element.array) c.args.element.key.now
    c.args.element.at_name)) ∷ k}
    (on (moves {then_ = λ k. spot (p.element c.args.element.at_name (variable_of (names_in g) c.args.element.array)
    (expressions_of (map (view (names_in g)) at.keys))) ∷ At
    (Value_of (p.read (p.element c.args.element.at_name (variable_of (names_in g) c.args.element.array)
    (expressions_of (map (view (names_in g)) at.keys))))) [] ∷ k} (at_rest _ _) (λ k hid d a. refl))
    (at.key_is g t c.args.element.at_name (variable_of (names_in g) c.args.element.array))) (λ k hid d a. refl))
    (c.read_element.ensures g t))
