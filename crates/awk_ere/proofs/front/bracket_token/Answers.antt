use Rattle.std.proofs.Common.{◌≡◌, length, subst, arith}
use Rattle.awk_ere.specs.Token as spec
use Rattle.awk_ere.specs.Bracket.{bracket}
use Rattle.awk_ere.specs.Lexing.{IsFront}
use Rattle.awk_ere.specs.declared.token.Class.TheVariants.{In}
use Rattle.awk_ere.specs.declared.token.Token.TheVariants.{Atom}
use Rattle.awk_ere.proofs.Sets.{has_none}
use Rattle.awk_ere.proofs.Tokens.{bracket_front}
use Rattle.awk_ere.proofs.front.bracket_token.Goals as goal

pub bracket-requires : goal.bracket-requires
bracket-requires c = λ b. has_none 256 b

pub returns-in_ok-push-in-Some-clause-ok : goal.returns-in_ok-push-in-Some-clause-ok
returns-in_ok-push-in-Some-clause-ok c =
    let number : length c.args.sets.now.items ≡ c.len-number.result = omega (arith, c.len-number.ensures) in
    subst (λ k. IsFront c.push.new.self.items (spec.bracketed (bracket c.args.after.now))
    (Atom (In k)) c.in-Some.rest.now) number
    (bracket_front c.args.after.now c.in-Some.rest.now c.args.sets.now.items c.push.new.self.items c.bracket.new.set
    c.in-Some.ensures.value c.in_ok-push-in-Some.ensures.items)
