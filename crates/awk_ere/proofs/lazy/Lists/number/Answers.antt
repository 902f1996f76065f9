use Rattle.std.proofs.Common.{true, refl, sym}
use Rattle.std.proofs.lemmas.Bool.Decides.{Decides-eqb}
use Rattle.std.proofs.lemmas.Slice.Eq.{slice_eq-Decides}
use Rattle.awk_ere.proofs.Meeting.{stored_is}
use Rattle.awk_ere.proofs.lazy.Lists.number.Goals as goal

pub returns-clause-number : goal.returns-clause-number
returns-clause-number c =
    let (k, at, same) = c.in_ok-placed.ensures.stored in
    stored_is (λ v. v.items) c.insert_full.new.self.keys c.in_ok-placed.placed.0 c.args.list k at
    ((slice_eq-Decides Decides-eqb c.args.list.items k.items true (sym same)).0 refl)
