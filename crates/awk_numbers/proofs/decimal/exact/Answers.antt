use Rattle.std.proofs.Common.{◌≡◌, ℕ, List, ◌+◌, ◌-◌, ◌*◌, ◌/◌, ◌%◌, ◌^◌, ◌<◌, refl, ap, sym, subst, arith, ◌∙◌}
use Rattle.awk_numbers.specs.Figures.{AreFigures}
use Rattle.awk_numbers.proofs.Figures.{empty}
use Rattle.awk_numbers.proofs.Room.{first_chunks, first_room, large_most, large_room, last_chunks, small_most, small_room}
use Rattle.awk_numbers.proofs.Room.{started}
use Rattle.awk_numbers.proofs.Sizes.{chunks, small_size, large_size}
use Rattle.awk_numbers.proofs.decimal.exact.Goals as goal

plain : (n : ℕ) → 0 * 1 + n ≡ n
plain n = omega arith

pub scale-requires-clause-room : goal.scale-requires-clause-room
scale-requires-clause-room c =
    first_room c.new-digits.result.items c.split-n.result.0 c.new-digits.ensures c.split-n.ensures.digits

pub scale_by-requires-clause-room : goal.scale_by-requires-clause-room
scale_by-requires-clause-room c =
    let n = c.split-n.result.0 in
    let t = 1074 - c.split-n.result.1 in
    subst (λ (k : ℕ). k * 152587890625 ^ (t / 16) < 10 ^ 768)
    (sym (started c.new-digits.result.items n _ c.new-digits.ensures c.scale.ensures.size))
    (first_chunks n 5 152587890625 t refl (omega arith) (small_room n t c.split-n.ensures.digits (omega arith)))

pub scale_by-requires-then-power-lt1074-clause-room : goal.scale_by-requires-then-power-lt1074-clause-room
scale_by-requires-then-power-lt1074-clause-room c =
    let n = c.split-n.result.0 in
    let t = 1074 - c.split-n.result.1 in
    let first = started c.new-digits.result.items n _ c.new-digits.ensures c.scale.ensures.size in
    subst (λ (k : ℕ). k * 5 ^ (t % 16) < 10 ^ 768)
    (sym (c.scale_by.ensures.size ∙ ap (λ (k : ℕ). k * 152587890625 ^ (t / 16)) first))
    (last_chunks n 5 152587890625 t refl (small_room n t c.split-n.ensures.digits (omega arith)))

pub scale_by-requires-else-power-lt1074-clause-room : goal.scale_by-requires-else-power-lt1074-clause-room
scale_by-requires-else-power-lt1074-clause-room c =
    let n = c.split-n.result.0 in
    let t = c.split-n.result.1 - 1074 in
    subst (λ (k : ℕ). k * 65536 ^ (t / 16) < 10 ^ 768)
    (sym (started c.new-digits.result.items n _ c.new-digits.ensures c.scale.ensures.size))
    (first_chunks n 2 65536 t refl (omega arith) (large_room n t c.split-n.ensures.digits
    (omega (arith, c.split-n.ensures.power))))

pub scale_by-requires-else-power-lt1074-2-clause-room : goal.scale_by-requires-else-power-lt1074-2-clause-room
scale_by-requires-else-power-lt1074-2-clause-room c =
    let n = c.split-n.result.0 in
    let t = c.split-n.result.1 - 1074 in
    let first = started c.new-digits.result.items n _ c.new-digits.ensures c.scale.ensures.size in
    subst (λ (k : ℕ). k * 2 ^ (t % 16) < 10 ^ 768)
    (sym (c.scale_by-else-power-lt1074.ensures.size ∙ ap (λ (k : ℕ). k * 65536 ^ (t / 16)) first))
    (last_chunks n 2 65536 t refl (large_room n t c.split-n.ensures.digits (omega (arith, c.split-n.ensures.power))))

pub returns-then-power-lt1074-clause-value : goal.returns-then-power-lt1074-clause-value
returns-then-power-lt1074-clause-value c =
    let n = c.split-n.result.0 in
    let k = c.split-n.result.1 in
    let none = subst (λ (xs : List ℕ). AreFigures xs 0) (sym c.new-digits.ensures) empty in
    let one = c.scale.ensures.value 0 none in
    let two = c.scale_by.ensures.value (0 * 1 + n) one in
    let v = (0 * 1 + n) * 152587890625 ^ ((1074 - k) / 16) in
    let three = c.scale_by-then-power-lt1074.ensures.value v two in (
      v * 5 ^ ((1074 - k) % 16),
      three,
      small_size c.args.x n k (1074 - k) (v * 5 ^ ((1074 - k) % 16)) c.split-n.ensures.value
          (omega (arith, c.if-power-lt1074.true))
          (chunks (0 * 1 + n) 5 152587890625 (1074 - k) refl ∙ ap (λ (t : ℕ). t * 5 ^ (1074 - k)) (plain n)),
    )

pub returns-else-power-lt1074-clause-value : goal.returns-else-power-lt1074-clause-value
returns-else-power-lt1074-clause-value c =
    let n = c.split-n.result.0 in
    let k = c.split-n.result.1 in
    let none = subst (λ (xs : List ℕ). AreFigures xs 0) (sym c.new-digits.ensures) empty in
    let one = c.scale.ensures.value 0 none in
    let two = c.scale_by-else-power-lt1074.ensures.value (0 * 1 + n) one in
    let v = (0 * 1 + n) * 65536 ^ ((k - 1074) / 16) in
    let three = c.scale_by-else-power-lt1074-2.ensures.value v two in (
      v * 2 ^ ((k - 1074) % 16),
      three,
      large_size c.args.x n k (v * 2 ^ ((k - 1074) % 16)) c.split-n.ensures.value c.if-power-lt1074.false
          (chunks (0 * 1 + n) 2 65536 (k - 1074) refl ∙ ap (λ (t : ℕ). t * 2 ^ (k - 1074)) (plain n)),
    )

pub returns-then-power-lt1074-clause-most : goal.returns-then-power-lt1074-clause-most
returns-then-power-lt1074-clause-most c n are =
    let m = c.split-n.result.0 in
    let t = 1074 - c.split-n.result.1 in
    let first = started c.new-digits.result.items m _ c.new-digits.ensures c.scale.ensures.size in
    let all' : n ≡ m * 5 ^ t = sym are.value ∙ c.scale_by-then-power-lt1074.ensures.size
    ∙ ap (λ (k : ℕ). k * 5 ^ (t % 16)) (c.scale_by.ensures.size ∙ ap (λ (k : ℕ). k * 152587890625 ^ (t / 16)) first)
    ∙ chunks m 5 152587890625 t refl in
    subst (λ (k : ℕ). k < 10 ^ (309 + t)) (sym all') (small_most m t c.split-n.ensures.digits)

pub returns-else-power-lt1074-clause-most : goal.returns-else-power-lt1074-clause-most
returns-else-power-lt1074-clause-most c n are =
    let m = c.split-n.result.0 in
    let t = c.split-n.result.1 - 1074 in
    let first = started c.new-digits.result.items m _ c.new-digits.ensures c.scale.ensures.size in
    let all' : n ≡ m * 2 ^ t = sym are.value ∙ c.scale_by-else-power-lt1074-2.ensures.size
    ∙ ap (λ (k : ℕ). k * 2 ^ (t % 16))
    (c.scale_by-else-power-lt1074.ensures.size ∙ ap (λ (k : ℕ). k * 65536 ^ (t / 16)) first)
    ∙ chunks m 2 65536 t refl in
    subst (λ (k : ℕ). k < 10 ^ (309 + 0)) (sym all')
    (large_most m t c.split-n.ensures.digits (omega (arith, c.split-n.ensures.power)))
