use Rattle.std.proofs.Common.{◌≡◌, Bool, true, false, refl}
use Rattle.awk_text.specs.Lents.{lent_value}
use Rattle.awk_text.specs.Values.{text_of}
use Rattle.awk_text.specs.declared.place.Place.{Place}
use Rattle.awk_text.specs.declared.value.Value.{Value}
use Rattle.awk_text.specs.declared.value.Value.TheVariants as v
use Rattle.awk_lib.specs.Texts.{to_case}
use Rattle.std.proofs.Common.{[], ◌∷◌}
use Rattle.awk_program.specs.View.{view}
use Rattle.awk_machine.specs.Builtins.{effect, gives}
use Rattle.awk_machine.specs.State.{State}
use Rattle.awk_store.specs.Wholes.{names_in}
use Rattle.awk_builtins.specs.AtHand.{case_of}
use Rattle.awk_builtins.proofs.Rests.{just_one, ok_some}
use Rattle.awk_builtins.proofs.MadeThere.{one_there}
use Rattle.awk_builtins.proofs.at_hand.values.cased_there.Goals as goal

case_is : (upper : Bool) (q : Place) (a : Value) (s : State) → effect q (case_of upper) (a ∷ []) s
    ≡ gives (v.Text (to_case upper (text_of a)))
case_is false q a s = refl
case_is true q a s = refl

pub returns : goal.returns
returns c =
    rw (
      c.ok.ensures.value,
      just_one c.args.args.now c.x-item.result c.in-len1.len_at_least c.in-len1.len_below
          c.x-item.is,
    )
    (ok_some c.cased.result (λ new is q g t. rw is (one_there g (c.args.store.now, t) q (case_of c.args.upper)
    (view (names_in g) c.x-item.result) (lent_value c.in_ok-text.text) _ (c.in_ok-text.ensures g t)
    (λ s same. case_is c.args.upper q (lent_value c.in_ok-text.text) s))) c.cased.ensures.ok)
