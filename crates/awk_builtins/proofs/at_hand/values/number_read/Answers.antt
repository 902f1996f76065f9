use Rattle.awk_program.specs.View.{variable_of}
use Rattle.awk_program.specs.Program as p
use Rattle.awk_text.specs.declared.value.Value.TheVariants as v
use Rattle.awk_builtins.specs.AtHand.{IsThere}
use Rattle.awk_builtins.proofs.Rests.{some_for}
use Rattle.awk_builtins.proofs.at_hand.values.number_read.Goals as goal

pub returns : goal.returns
returns c =
    some_for {P = λ n. IsThere (λ names. p.read (p.variable (variable_of names c.in-Variable.variable)))
    c.args.store.now (v.Num n)} c.number_held.result (λ n h g t. rw (c.in-Variable.is) (h g t))
    c.number_held.ensures
