use Rattle.std.proofs.Common.{◌∙◌, SFits, w64, rules, ap, ℤ, Ok, Err, ◌≡◌}
use Rattle.std.proofs.lemmas.Int.{to_z-of_z}
use Rattle.awk_numbers.specs.declared.number.Number.TheVariants.{Whole}
use Rattle.awk_numbers.proofs.Remainders.{whole_left, whole_fault}
use Rattle.awk_numbers.proofs.doubles.rem.Goals as goal

pub returns-in-Some : goal.returns-in-Some
returns-in-Some c =
    let f : SFits w64 c.in_ok-whole_rem.field-0 = search rules in
    ap (λ (z : ℤ). Ok (Whole z)) (to_z-of_z w64 c.in_ok-whole_rem.field-0 f)
    ∙ whole_left c.args.x c.args.y c.in-Some.m c.in-Some.n _ c.in-Some.ensures.first c.in-Some.ensures.second
    c.in_ok-whole_rem.ensures

pub returns-in_err-whole_rem : goal.returns-in_err-whole_rem
returns-in_err-whole_rem c =
    let same : c.from_residual.result ≡ Err c.in_err-whole_rem.field-0.0 = search rules in
    same ∙ whole_fault c.args.x c.args.y c.in-Some.m c.in-Some.n _ c.in-Some.ensures.first
    c.in-Some.ensures.second c.in_err-whole_rem.ensures
