use Rattle.std.proofs.Common.{[], refl}
use Rattle.awk_ere.specs.declared.front.Lead.TheVariants.{Brace, Sign}
use Rattle.awk_ere.specs.Token.{sign}
use Rattle.awk_ere.proofs.Tokens.{front_is, front_led, front_later, token_later}
use Rattle.awk_ere.proofs.front.front.Goals as goal

pub returns-in_ok-found-in-Brace-clause-ok : goal.returns-in_ok-found-in-Brace-clause-ok
returns-in_ok-found-in-Brace-clause-ok c =
    front_is _ _ _ _ _ (front_led c.args.is_open c.args.may_repeat c.args.text.now Brace c.in-len1-up.len_at_least
    c.in-Brace.ensures)
    (front_later [] c.args.sets.now.items _ _ _ (c.args.sets.now.items, refl) c.in_ok-found-in-Brace.ensures.ok)

pub returns-in-Sign-clause-ok : goal.returns-in-Sign-clause-ok
returns-in-Sign-clause-ok c = (
  sign c.args.is_open c.args.may_repeat _,
  front_led c.args.is_open c.args.may_repeat c.args.text.now Sign c.in-len1-up.len_at_least c.in-Sign.ensures,
  token_later [] c.args.sets.now.items c.sign.result _ (c.args.sets.now.items, refl) c.sign.ensures,
)
