use Rattle.std.proofs.Common.{◌≡◌, ◌∙◌, sym, subst, ap, arith, true, false}
use Rattle.std.specs.Prelude.{Ok}
use Rattle.std.specs.Fmt.{decimal}
use Rattle.std.specs.Str.{IsUtf8, bytes_eq}
use Rattle.std.proofs.lemmas.Bool.{false≢true}
use Rattle.std.proofs.lemmas.Fmt.{IsAscii-decimal, parse-decimal}
use Rattle.std.proofs.lemmas.Slice.Eq.{bytes_eq-Decides}
use Rattle.std.proofs.lemmas.Str.{IsUtf8-from_ascii}
use Rattle.std.proofs.lemmas.Grind.{common_steps}
use Rattle.box_advice.proofs.cuts.number_of.Goals as goal

pub returns-in_default-clause-found : goal.returns-in_default-clause-found
returns-in_default-clause-found c n small e =
    c.in_default.ensures.cases.0
    (subst IsUtf8 (sym e) (IsUtf8-from_ascii (decimal n) (IsAscii-decimal n (omega (arith, small)))))

pub returns-in_default-parse-clause-found : goal.returns-in_default-parse-clause-found
returns-in_default-parse-clause-found c n small e =
    let value : c.parse.result ≡ Ok n =
    parse-decimal 32 n c.in-Ok.text.now c.parse.result small (omega (arith, small)) (c.in-Ok.ensures.cases.0 ∙ e)
    c.parse.ensures.value.0 in
    grind (arith, value, c.in_default-parse.is)

pub returns-then-is_written-clause-found : goal.returns-then-is_written-clause-found
returns-then-is_written-clause-found c n small e =
    let value : c.parse.result ≡ Ok n =
    parse-decimal 32 n c.in-Ok.text.now c.parse.result small (omega (arith, small)) (c.in-Ok.ensures.cases.0 ∙ e)
    c.parse.ensures.value.0 in
    grind (arith, value, c.in-Ok-parse.is)

pub returns-else-is_written-clause-found : goal.returns-else-is_written-clause-found
returns-else-is_written-clause-found c n small e =
    let value : c.parse.result ≡ Ok n =
    parse-decimal 32 n c.in-Ok.text.now c.parse.result small (omega (arith, small)) (c.in-Ok.ensures.cases.0 ∙ e)
    c.parse.ensures.value.0 in
    let number : c.in-Ok-parse.number ≡ n = grind (arith, value, c.in-Ok-parse.is) in
    let same : bytes_eq (decimal c.in-Ok-parse.number) c.args.digits.now ≡ true =
    (bytes_eq-Decides (decimal c.in-Ok-parse.number) c.args.digits.now).1 (ap decimal number ∙ sym e) in
    false≢true (sym c.if-is_written.false ∙ c.is_written.ensures ∙ same)
