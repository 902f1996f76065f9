use Rattle.awk_forms.proofs.Leading.{quietly}
use Rattle.awk_streams.proofs.Chain.{at_once, passes}
use Rattle.awk_machine.specs.Pieces.{At, Do, Get, Target_of, Value_of}
use Rattle.awk_program.specs.View.{variable_of}
use Rattle.awk_store.proofs.Acting.{acted}
use Rattle.awk_store.specs.Spots.{meant}
use Rattle.awk_store.specs.declared.spot.Spot.TheVariants as spot
use Rattle.awk_store.specs.Wholes.{names_in}
use Rattle.std.proofs.Common.{[], refl, ◌∷◌}
use Rattle.awk_forms.proofs.targets.value_of_variable.Goals as goal
use Rattle.awk_program.specs.Program as p
use Rattle.awk_text.specs.declared.value.Value.TheVariants as v

pub returns : goal.returns
returns g c =
    record {
      plays = λ m is. passes
          (quietly {then_ = λ k. Do (Get (meant (names_in m) (spot.Variable c.args.variable))) ∷ k}
          (quietly {then_ = λ k. At (Value_of (p.read (p.variable (variable_of (names_in m) c.args.variable))))
          (v.Unset ∷ []) ∷ k} (quietly {then_ =
          λ k. At (Target_of (p.variable (variable_of (names_in m) c.args.variable))) [] ∷ At
          (Value_of (p.read (p.variable (variable_of (names_in m) c.args.variable)))) [] ∷ k} (at_once _ _ _)
          (λ k hid d a. refl)) (λ k hid d a. refl)) (λ k hid d a. refl))
          (acted (c.read_variable.ensures m c.args.run.now.streams));
      owns = c.requires.owns;
    }
