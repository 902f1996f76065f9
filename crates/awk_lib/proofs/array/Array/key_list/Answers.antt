use Rattle.std.proofs.Common.{◌≡◌, length, ap, ◌∙◌, sym, true, true≢false, arith}
use Rattle.std.proofs.lemmas.Result.{IfOk-weaker}
use Rattle.awk_lib.specs.Arrays.{keys}
use Rattle.awk_lib.specs.Kept.{rows_of}
use Rattle.awk_lib.proofs.Keeping.{moved_kept, moved_shown, moved_rising}
use Rattle.awk_lib.proofs.Keys.{keys_rising}
use Rattle.awk_lib.proofs.array.Array.key_list.Goals as goal

pub returns-then-self-clause-ok : goal.returns-then-self-clause-ok
returns-then-self-clause-ok g c =
    let rising = c.self.invariant.numbered.rising c.if-self.true in
    rw (← c.self.view_is) (IfOk-weaker c.keys.result _ _ (λ texts h. h ∙ keys_rising (rows_of c.self.inside.elements)
    rising) c.keys.ensures.ok)

pub invariant_of-self : goal.invariant_of-self
invariant_of-self g c =
    moved_kept c.self.inside.elements c.settle.new.self c.settle.ensures.same c.settle.ensures.others.0
    c.self.inside.settled c.self.inside.settled c.self.inside.next c.self.invariant c.settle.ensures.others.1
    (λ e. absurd (true≢false (sym e ∙ c.if-self.false)))

pub returns-in_err-settle-clause-same : goal.returns-in_err-settle-clause-same
returns-in_err-settle-clause-same g c =
    rw (← c.self.view_is) (moved_shown c.self.inside.elements c.settle.new.self c.settle.ensures.same
    c.settle.ensures.others.0 c.self.inside.settled c.self.inside.next c.self.invariant)

pub invariant_of-self-2 : goal.invariant_of-self-2
invariant_of-self-2 g c =
    let es = c.self.inside.elements in
    let none : length es.dense.places.items ≡ 0 = omega (arith, c.if-len-gt0.false, c.len.ensures, es.dense.places.ok.0)
    in
    let rising = moved_rising es c.settle.new.self c.settle.ensures.same c.settle.ensures.others.0 c.self.inside.settled
    c.self.inside.next c.self.invariant none c.in_ok-settle.ensures.ok in
    moved_kept es c.settle.new.self c.settle.ensures.same c.settle.ensures.others.0 c.self.inside.settled true
    c.self.inside.next c.self.invariant c.settle.ensures.others.1 (λ e. rising)

pub returns-clause-ok : goal.returns-clause-ok
returns-clause-ok g c =
    let es = c.self.inside.elements in
    let none : length es.dense.places.items ≡ 0 = omega (arith, c.if-len-gt0.false, c.len.ensures, es.dense.places.ok.0)
    in
    let rising = moved_rising es c.settle.new.self c.settle.ensures.same c.settle.ensures.others.0 c.self.inside.settled
    c.self.inside.next c.self.invariant none c.in_ok-settle.ensures.ok in
    let same = moved_shown es c.settle.new.self c.settle.ensures.same c.settle.ensures.others.0 c.self.inside.settled
    c.self.inside.next c.self.invariant in
    rw (← c.self.view_is) (IfOk-weaker c.keys-2.result _ _ (λ texts h. h ∙ keys_rising (rows_of c.settle.new.self)
    rising ∙ ap keys same) c.keys-2.ensures.ok)

pub returns-clause-same : goal.returns-clause-same
returns-clause-same g c =
    rw (← c.self.view_is) (moved_shown c.self.inside.elements c.settle.new.self c.settle.ensures.same
    c.settle.ensures.others.0 c.self.inside.settled c.self.inside.next c.self.invariant)
