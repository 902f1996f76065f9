use Rattle.std.proofs.Common.{refl}
use Rattle.std.specs.Fmt.{signed_decimal}
use Rattle.awk_program.specs.View.{view}
use Rattle.awk_store.specs.Wholes.{names_in}
use Rattle.awk_text.specs.declared.value.Value.TheVariants as v
use Rattle.awk_store.proofs.Limited.{limited_ok}
use Rattle.awk_builtins.specs.AtHand.{IsThere}
use Rattle.awk_builtins.proofs.AtHand.{element_spot}
use Rattle.awk_builtins.proofs.Rests.{just_one, some_for}
use Rattle.awk_builtins.proofs.at_hand.elements.number_of_key.Goals as goal

pub returns : goal.returns
returns c =
    some_for {P = λ n. IsThere (λ names. view names c.operand_of.result.now) c.args.store.now (v.Num n)}
    c.number_there.result
    (λ n there fits g t place of_. rw (just_one c.args.keys.now c.one-item.result c.in-len1.len_at_least
    c.in-len1.len_below c.one-item.is)
    (element_spot g (c.args.store.now, t) place of_ (view (names_in g) c.one-item.result) (v.Num n) (signed_decimal n)
    (c.operand_of.ensures c.args.store.now (v.Num n) refl there g t) (limited_ok (signed_decimal n) fits)))
    c.number_there.ensures
