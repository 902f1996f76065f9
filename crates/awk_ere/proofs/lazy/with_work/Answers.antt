use Rattle.awk_ere.proofs.lazy.with_work.Goals.{then-met-lt-MOST_KEPT, else-met-lt-MOST_KEPT}
use Rattle.awk_ere.proofs.lazy.with_work.Goals as goal

pub returns : goal.returns
returns c = λ sets program step met. elim c.if-met-lt-MOST_KEPT.branch [
  | then-met-lt-MOST_KEPT w ↦ rw w.kept-is (record { rows = met.rows; first = met.first; later = met.later })
  | else-met-lt-MOST_KEPT w ↦ rw w.kept-is (let none = w.none_met-kept.ensures sets program step in
      record { rows = none.rows; first = none.first; later = none.later })
]
