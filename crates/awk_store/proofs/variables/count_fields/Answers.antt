use Rattle.std.proofs.Common.{rules, ap, w64}
use Rattle.std.proofs.lemmas.Int.{to_z-of_z}
use Rattle.awk_store.specs.Kept.{Kept}
use Rattle.awk_store.proofs.Acting.{lacking}
use Rattle.awk_store.proofs.VariableSteps.{counted_nf}
use Rattle.awk_store.proofs.variables.count_fields.Goals as goal

pub returns-in_default : goal.returns-in_default
returns-in_default c = λ g t x y. lacking (ap (λ (k : Kept). k.used) c.field_count.ensures.others)

pub returns : goal.returns
returns c =
    rw (to_z-of_z w64 c.in-Ok.count (search rules))
    (λ g t x y. counted_nf g (c.args.store.now, t) x c.field_count.new.self c.in-Ok.count y c.field_count.ensures.others
    c.field_count.ensures.kept c.in-Ok.ensures.ok)
