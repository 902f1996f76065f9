use Rattle.std.proofs.Common.{◌∷◌, ◌++◌}
use Rattle.box_advice.specs.LogLines.{in_quotes}
use Rattle.box_advice.proofs.cuts.parts_of.Goals as goal

pub returns-in_err-first-clause-found : goal.returns-in_err-first-clause-found
returns-in_err-first-clause-found c place kind word quoted no_place no_kind no_word e =
    absurd (c.in_err-first.ensures.found place (kind ++ 32 ∷ (word ++ 32 ∷ in_quotes quoted)) no_place e)

pub returns-in_err-second-clause-found : goal.returns-in_err-second-clause-found
returns-in_err-second-clause-found c place kind word quoted no_place no_kind no_word e =
    let one = c.in_ok-first.ensures.found place (kind ++ 32 ∷ (word ++ 32 ∷ in_quotes quoted)) no_place e in
    absurd (c.in_err-second.ensures.found kind (word ++ 32 ∷ in_quotes quoted) no_kind one.1)

pub returns-in_err-third-clause-found : goal.returns-in_err-third-clause-found
returns-in_err-third-clause-found c place kind word quoted no_place no_kind no_word e =
    let one = c.in_ok-first.ensures.found place (kind ++ 32 ∷ (word ++ 32 ∷ in_quotes quoted)) no_place e in
    let two = c.in_ok-second.ensures.found kind (word ++ 32 ∷ in_quotes quoted) no_kind one.1 in
    absurd (c.in_err-third.ensures.found word (in_quotes quoted) no_word two.1)

pub returns-in_err-quoted-clause-found : goal.returns-in_err-quoted-clause-found
returns-in_err-quoted-clause-found c place kind word quoted no_place no_kind no_word e =
    let one = c.in_ok-first.ensures.found place (kind ++ 32 ∷ (word ++ 32 ∷ in_quotes quoted)) no_place e in
    let two = c.in_ok-second.ensures.found kind (word ++ 32 ∷ in_quotes quoted) no_kind one.1 in
    let three = c.in_ok-third.ensures.found word (in_quotes quoted) no_word two.1 in
    absurd (c.in_err-quoted.ensures.found quoted three.1)

pub returns-clause-found : goal.returns-clause-found
returns-clause-found c place kind word quoted no_place no_kind no_word e =
    let one = c.in_ok-first.ensures.found place (kind ++ 32 ∷ (word ++ 32 ∷ in_quotes quoted)) no_place e in
    let two = c.in_ok-second.ensures.found kind (word ++ 32 ∷ in_quotes quoted) no_kind one.1 in
    let three = c.in_ok-third.ensures.found word (in_quotes quoted) no_word two.1 in
    (one.0, two.0, three.0, c.in_ok-quoted.ensures.found quoted three.1)
