use Rattle.std.proofs.Common.{refl, ap, ◌∙◌, rules, w64}
use Rattle.std.specs.Prelude.{pos}
use Rattle.std.proofs.lemmas.Int.{to_z-of_z}
use Rattle.awk_store.proofs.Acting.{done, lacking}
use Rattle.awk_builtins.proofs.WholeArrays.{counts_so}
use Rattle.awk_builtins.proofs.arrays.count.Goals as goal

pub returns-in-Ok : goal.returns-in-Ok
returns-in-Ok c = λ g t.
    rw (to_z-of_z w64 c.in-Ok.count (search rules))
    (done (counts_so g (c.args.store.now, t) c.args.array c.in-Ok.count
    (c.in-Ok.ensures.1 ∙ ap pos c.element_count.ensures)))

pub returns-in-Err : goal.returns-in-Err
returns-in-Err c = λ g t. lacking refl
