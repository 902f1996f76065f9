use Rattle.std.proofs.Common.{◌≡◌, ◌==◌, ℕ}
use Rattle.awk_fields.specs.Marks.{is_mark}
use Rattle.awk_fields.proofs.MarkSteps.{mark_from}
use Rattle.awk_fields.proofs.front.mark_place.Goals as goal

pub returns-clause-place : goal.returns-clause-place
returns-clause-place c =
    let ends = λ (b : ℕ). b == c.args.mark in
    let same : is_mark c.one.result ≡ ends = λ i b. c.one.ensures b i in
    mark_from (is_mark c.one.result) ends c.args.unread.now c.known_len-from.result c.len_before.result same
    c.known_len-from.ensures.before c.len_before.ensures.place
