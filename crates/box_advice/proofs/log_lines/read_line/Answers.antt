use Rattle.std.proofs.Common.{◌≡◌, ◌∙◌, sym, ap, subst}
use Rattle.box_monitor.specs.Lines.{kind_word}
use Rattle.box_advice.specs.LogLines.{IsWord, joined, place_text}
use Rattle.box_advice.proofs.LogLinesLemmas.{no_blank_in_place}
use Rattle.box_advice.proofs.LogsLemmas.{no_blank_in_kind, no_blank_in_word}
use Rattle.box_advice.proofs.log_lines.read_line.Goals as goal

pub returns-in_err-parts-clause-found : goal.returns-in_err-parts-clause-found
returns-in_err-parts-clause-found c place kind word quoted is_place is_word e =
    absurd (c.in_err-parts.ensures.found (place_text place) (kind_word kind) word quoted
    (no_blank_in_place place is_place.line is_place.column) (no_blank_in_kind kind) (no_blank_in_word word is_word) e)

pub returns-in_err-place-clause-found : goal.returns-in_err-place-clause-found
returns-in_err-place-clause-found c place kind word quoted is_place is_word e =
    let parts = c.in_ok-parts.ensures.found (place_text place) (kind_word kind) word quoted
    (no_blank_in_place place is_place.line is_place.column) (no_blank_in_kind kind) (no_blank_in_word word is_word) e in
    absurd (c.in_err-place.ensures.found place is_place parts.0)

pub returns-in_err-kind-clause-found : goal.returns-in_err-kind-clause-found
returns-in_err-kind-clause-found c place kind word quoted is_place is_word e =
    let parts = c.in_ok-parts.ensures.found (place_text place) (kind_word kind) word quoted
    (no_blank_in_place place is_place.line is_place.column) (no_blank_in_kind kind) (no_blank_in_word word is_word) e in
    absurd (c.in_err-kind.ensures.found kind parts.1)

pub returns-then-is_word-clause-read : goal.returns-then-is_word-clause-read
returns-then-is_word-clause-read c = (
  c.in_ok-parts.parts.word.now,
  c.is_word.ensures.read c.if-is_word.true,
  c.in_ok-parts.ensures.read
      ∙ ap (λ p. joined p c.in_ok-parts.parts.kind.now c.in_ok-parts.parts.word.now c.in_ok-parts.parts.quoted.now)
      c.in_ok-place.ensures.read
      ∙ ap (λ k. joined (place_text c.in_ok-place.place) k c.in_ok-parts.parts.word.now c.in_ok-parts.parts.quoted.now)
      c.in_ok-kind.ensures.read,
)

pub returns-then-is_word-clause-found : goal.returns-then-is_word-clause-found
returns-then-is_word-clause-found c place kind word quoted is_place is_word e =
    let parts = c.in_ok-parts.ensures.found (place_text place) (kind_word kind) word quoted
    (no_blank_in_place place is_place.line is_place.column) (no_blank_in_kind kind) (no_blank_in_word word is_word) e in
    (c.in_ok-place.ensures.found place is_place parts.0, c.in_ok-kind.ensures.found kind parts.1, parts.3)

pub returns-else-is_word-clause-found : goal.returns-else-is_word-clause-found
returns-else-is_word-clause-found c place kind word quoted is_place is_word e =
    let parts = c.in_ok-parts.ensures.found (place_text place) (kind_word kind) word quoted
    (no_blank_in_place place is_place.line is_place.column) (no_blank_in_kind kind) (no_blank_in_word word is_word) e in
    c.is_word.ensures.found c.if-is_word.false (subst IsWord (sym parts.2) is_word)
