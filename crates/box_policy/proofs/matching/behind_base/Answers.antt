use Rattle.std.proofs.Common.{◌≡◌, ◌∙◌, true, false, rules}
use Rattle.std.specs.Str.{bytes_eq}
use Rattle.box_policy.specs.NamesLeft.{names_left}
use Rattle.box_policy.proofs.BasesLemmas.{base_more, base_other, base_none}
use Rattle.box_policy.proofs.matching.behind_base.Goals as goal
use Rattle.box_policy.proofs.matching.behind_base.Goals.{in_default-next-via-in-Some-next+else-eq}
use Rattle.box_policy.proofs.matching.behind_base.Goals.{in_default-next-via-in_default-next}

pub loop-piece-preserved : goal.loop-piece-preserved
loop-piece-preserved c = λ symbols.
    let same : bytes_eq c.in-Some.piece.now c.in-Some-next.name.now ≡ true = search rules in
    c.loop-piece.invariant symbols ∙ base_more _ _ _ (names_left c.next.new.self) _ _ symbols same
    c.in-Some.ensures.name c.in-Some-next.ensures.steps

pub returns-in_default-next : goal.returns-in_default-next
returns-in_default-next c = λ symbols.
    c.loop-piece.invariant symbols
    ∙ elim c.in_default-next.branch [
      | in_default-next-via-in-Some-next+else-eq w ↦
          let differs : bytes_eq c.in-Some.piece.now w.in-Some-next.name.now ≡ false = search rules in
          base_other _ _ _ (names_left c.next.new.self) _ _ symbols differs c.in-Some.ensures.name
          w.in-Some-next.ensures.steps
      | in_default-next-via-in_default-next w ↦ base_none _ _ _ _ symbols c.in-Some.ensures.name
          w.in_default-next.ensures.steps.0
    ]
