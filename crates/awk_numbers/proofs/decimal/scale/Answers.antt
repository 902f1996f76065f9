use Rattle.std.proofs.Common.{◌≡◌, ℕ, suc, List, ◌+◌, ◌*◌, ◌^◌, ◌<◌, ◌≤◌, ◌⊎◌, length}
use Rattle.std.proofs.Common.{ap, sym, subst, ◌∙◌}
use Rattle.arrayvec.proofs.ArrayVecLemmas.{items-with_items}
use Rattle.awk_numbers.specs.Figures.{below}
use Rattle.awk_numbers.proofs.Figures.{scaled, slice_product}
use Rattle.awk_numbers.proofs.decimal.scale.Goals as goal

pub push_carry-requires-clause-room : goal.push_carry-requires-clause-room
push_carry-requires-clause-room c =
    let mid = c.scale_digits-carry.new.digits in
    let carry = c.scale_digits-carry.result in
    let e = c.as_mut_slice.ensures.value in
    let same = c.scale_digits-carry.auto.digits in
    let back = items-with_items c.args.digits.now mid (same ∙ ap length e) in
    let product = slice_product _ mid _ c.args.factor c.args.add carry e same c.scale_digits-carry.ensures.value in
    subst (λ (xs : List ℕ). below xs (length xs) + carry * 10 ^ length xs < 10 ^ 768) (sym back)
    (subst (λ (t : ℕ). t < 10 ^ 768) (sym product) c.requires.room)

pub returns-clause-size : goal.returns-clause-size
returns-clause-size c =
    let mid = c.scale_digits-carry.new.digits in
    let carry = c.scale_digits-carry.result in
    let e = c.as_mut_slice.ensures.value in
    let same = c.scale_digits-carry.auto.digits in
    let back = items-with_items c.args.digits.now mid (same ∙ ap length e) in
    c.push_carry.ensures.value ∙ ap (λ (xs : List ℕ). below xs (length xs) + carry * 10 ^ length xs) back
    ∙ slice_product _ mid _ c.args.factor c.args.add carry e same c.scale_digits-carry.ensures.value

pub returns-clause-value : goal.returns-clause-value
returns-clause-value c = λ n are. (
    let old = c.args.digits.now.items in
    let mid = c.scale_digits-carry.new.digits in
    let new = c.push_carry.new.digits.items in
    let carry = c.scale_digits-carry.result in
    let e : c.as_mut_slice.result.now ≡ old = c.as_mut_slice.ensures.value in
    let same : length mid ≡ length old = c.scale_digits-carry.auto.digits ∙ ap length e in
    let back = items-with_items c.args.digits.now mid same in
    let product : below mid (length old) + carry * 10 ^ length old
    ≡ below old (length old) * c.args.factor + c.args.add =
    subst (λ (xs : List ℕ). below mid (length xs) + carry * 10 ^ length xs
    ≡ below xs (length xs) * c.args.factor + c.args.add) e c.scale_digits-carry.ensures.value in
    let more : below new (length new) ≡ below mid (length mid) + carry * 10 ^ length mid =
    subst (λ (xs : List ℕ). below new (length new) ≡ below xs (length xs) + carry * 10 ^ length xs) back
    c.push_carry.ensures.value in
    let front : (k : ℕ) → length new ≡ suc k
    → (length mid ≡ suc k) ⊎ (10 ^ k ≤ below mid (length mid) + carry * 10 ^ length mid) =
    subst (λ (xs : List ℕ). (k : ℕ) → length new ≡ suc k
    → (length xs ≡ suc k) ⊎ (10 ^ k ≤ below xs (length xs) + carry * 10 ^ length xs)) back
    c.push_carry.ensures.front in
    scaled old mid new n c.args.factor c.args.add carry are c.requires.positive same product more
    c.push_carry.ensures.figures front)
