use Rattle.std.proofs.Common.{◌≡◌, ℕ, List, ◌+◌, ◌*◌, ◌/◌, ◌^◌, ◌≤◌, drop, length, ap, sym, subst, arith, ◌∙◌}
use Rattle.std.proofs.lemmas.List.{length-drop}
use lib.Ieee.Nearest.{closest}
use Rattle.awk_numbers.specs.Figures.{AllFigures, AreFigures}
use Rattle.awk_numbers.proofs.Figures.{cut, drop_figures, kept_room, renamed}
use Rattle.awk_numbers.proofs.Room.{added_first}
use Rattle.awk_numbers.proofs.decimal.without_last.Goals as goal

few : (c : goal.After-rounding) → length c.args.digits.now.items ≤ 768
few c = omega (arith, ap length c.as_slice-2.ensures.value, c.as_slice-2.ensures.fits)

kept : (c : goal.After-rounding) → c.try_extend_from_slice.new.self.items ≡ drop c.args.count c.args.digits.now.items
kept c =
    let digits = c.args.digits.now.items in
    let part : c.before_last.result.now ≡ drop c.args.count digits =
    c.before_last.ensures ∙ ap (drop c.args.count) c.as_slice.ensures.value in
    added_first c.try_extend_from_slice.result _ c.before_last.result.now _ 768 c.try_extend_from_slice.ensures.ok
    c.try_extend_from_slice.ensures.variant.1 c.new-kept.ensures
    (omega (arith, ap length part, length-drop c.args.count digits, few c)) ∙ part

pub scale-requires-clause-figures : goal.scale-requires-clause-figures
scale-requires-clause-figures c =
    subst AllFigures (sym (kept c)) (drop_figures c.args.digits.now.items c.args.count c.requires.figures)

pub scale-requires-clause-room : goal.scale-requires-clause-room
scale-requires-clause-room c = kept_room c.args.digits.now.items _ c.args.count c.rounding.result c.requires.figures
    (kept c) (few c) c.requires.some c.rounding.ensures.small

pub returns-clause-value : goal.returns-clause-value
returns-clause-value c = λ n are. (
    let q = n / 10 ^ c.args.count in
    let own = subst (λ (xs : List ℕ). AreFigures xs q) (sym (kept c.before))
    (cut c.args.digits.now.items n c.args.count are).0 in
    let same = subst (λ (xs : List ℕ). AreFigures xs n) (sym c.as_slice-2.ensures.value) are in
    let all' : q * 1 + c.rounding.result ≡ closest n (10 ^ c.args.count) =
    omega (arith, c.rounding.ensures.value n same) in
    renamed _ _ _ all' (c.scale.ensures.value q own))
