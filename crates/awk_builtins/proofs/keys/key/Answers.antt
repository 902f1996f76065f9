use Rattle.awk_program.specs.declared.variables.Own.TheVariants as own
use Rattle.awk_store.specs.Kept.{own_text}
use Rattle.awk_builtins.proofs.Rests.{just_one, ok_for, err_for}
use Rattle.std.proofs.Common.{inl, inr}
use Rattle.awk_builtins.proofs.keys.key.Goals as goal

pub returns-in-len1-clause-ok : goal.returns-in-len1-clause-ok
returns-in-len1-clause-ok c =
    rw (just_one c.args.subscripts.now c.one-item.result c.in-len1.len_at_least c.in-len1.len_below c.one-item.is)
    (ok_for c.single_key.result (λ x h. h (own_text c.args.store.now own.Subsep)) c.single_key.ensures.ok)

pub returns-in-len1-clause-err : goal.returns-in-len1-clause-err
returns-in-len1-clause-err c =
    rw (just_one c.args.subscripts.now c.one-item.result c.in-len1.len_at_least c.in-len1.len_below c.one-item.is)
    (err_for c.single_key.result (λ x m. elim m [
      | inl i ↦ inl i
      | inr i ↦ inr (i (own_text c.args.store.now own.Subsep))
    ]) c.single_key.ensures.err)
