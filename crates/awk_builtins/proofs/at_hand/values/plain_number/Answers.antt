use Rattle.std.proofs.Common.{◌≡◌}
use Rattle.awk_numbers.specs.declared.number.Number.TheVariants as number
use Rattle.awk_program.specs.Program as p
use Rattle.awk_program.specs.Program.{terms_of}
use Rattle.awk_program.specs.View.{view_target}
use Rattle.awk_program.proofs.Views.{view-Number, view-Read}
use Rattle.awk_text.specs.declared.value.Value.TheVariants as v
use Rattle.awk_builtins.specs.AtHand.{IsThere}
use Rattle.awk_builtins.proofs.AtHand.{number_there}
use Rattle.awk_builtins.proofs.Rests.{some_for}
use Rattle.awk_builtins.proofs.at_hand.values.plain_number.Goals as goal

pub returns-in-Number : goal.returns-in-Number
returns-in-Number c =
    some_for {P = λ n. c.in-Number.constant ≡ number.Whole n} c.as_whole.result
    (λ n is g t. rw (c.in-Number.is, view-Number, is) (number_there g _ (number.Whole n))) c.as_whole.ensures

pub returns-in-Read : goal.returns-in-Read
returns-in-Read c =
    some_for {P = λ n. IsThere (λ names. p.read (view_target names c.in-Read.target)) c.args.store.now (v.Num n)}
    c.number_read.result (λ n h g t. rw (c.in-Read.is, view-Read) (h g t)) c.number_read.ensures
