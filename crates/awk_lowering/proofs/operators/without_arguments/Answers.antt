use Rattle.std.proofs.Common.{◌≡◌, refl}
use Rattle.awk_text.specs.declared.place.Place.{Place}
use Rattle.awk_program.proofs.Views.{view-Builtin, view-Number}
use Rattle.awk_program.specs.Program as p
use Rattle.awk_program.specs.declared.builtins.Builtin.{Builtin}
use Rattle.awk_program.specs.declared.builtins.Builtin.TheVariants as f
use Rattle.awk_lowering.specs.Forms.{without_arguments}
use Rattle.awk_lowering.proofs.operators.without_arguments.Goals as goal

-- no other one is called without arguments otherwise
as_it_is : (q : Place) (which : Builtin) → ¬ (which ≡ f.Length) → ¬ (which ≡ f.Fflush)
    → without_arguments q which ≡ p.builtin q which p.none
as_it_is q f.Length l h = absurd (l refl)
as_it_is q f.Fflush l h = absurd (h refl)
as_it_is q which l h = refl

pub returns-in-Length : goal.returns-in-Length
returns-in-Length c = λ t. rw c.in-Length.is (c.record_length.ensures t)

pub returns-in-Fflush : goal.returns-in-Fflush
returns-in-Fflush c = λ t. rw (c.in-Fflush.is, view-Number) refl

pub returns-in_default : goal.returns-in_default
returns-in_default c = λ t. rw (
  as_it_is c.args.place c.args.which c.in_default.not-Length c.in_default.not-Fflush,
  view-Builtin,
  c.new.ensures,
) refl
