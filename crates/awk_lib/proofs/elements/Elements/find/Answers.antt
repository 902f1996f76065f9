use Rattle.std.proofs.Common.{Some, is_some, refl, sym, ap, ◌∙◌}
use Rattle.std.proofs.lemmas.Option.{same_Some}
use Rattle.awk_lib.proofs.Keeping.{found_dense, found_mapped, missing_dense, missing_mapped}
use Rattle.awk_lib.proofs.Mapped.{empty_entry, no_entry, value_at}
use Rattle.awk_lib.proofs.Rows.{none_of, some_of}
use Rattle.awk_lib.proofs.elements.Elements.find.Goals as goal

pub returns-then-is_filled-clause-some : goal.returns-then-is_filled-clause-some
returns-then-is_filled-clause-some g c =
    let at = c.is_filled.ensures in
    let x = some_of at.0 (sym at.2 ∙ c.if-is_filled.true) in
    found_dense c.args.self.now c.args.key.now c.in-Some.k x.0 c.in-Some.ensures.some.0 (at.1 ∙ ap Some x.1)

pub returns-else-is_filled-clause-none : goal.returns-else-is_filled-clause-none
returns-else-is_filled-clause-none g c =
    let at = c.is_filled.ensures in
    λ _. missing_dense c.args.self.now c.args.key.now c.in-Some.k c.requires c.in-Some.ensures.some.0
    (at.1 ∙ ap Some (none_of at.0 (sym at.2 ∙ c.if-is_filled.false)))

pub returns-in_err-i-in-None-clause-none : goal.returns-in_err-i-in-None-clause-none
returns-in_err-i-in-None-clause-none g c =
    let es = c.args.self.now in
    let key = c.args.key.now in
    λ _. missing_mapped es key (c.in-None.ensures.none refl)
    (no_entry key es.map.entries (c.in_err-i-in-None.ensures.none refl))

pub returns-then-is_some-clause-some : goal.returns-then-is_some-clause-some
returns-then-is_some-clause-some g c =
    let es = c.args.self.now in
    let i = c.in_ok-i-in-None.i in
    let h = c.in_ok-i-in-None.ensures.some in
    let same = same_Some h.1 c.index.result.now (sym (value_at es.map.entries i h.0 h.1 h.2) ∙ c.index.ensures) in
    let x = some_of h.1 (ap is_some same ∙ sym c.is_some.ensures ∙ c.if-is_some.true) in
    found_mapped es c.args.key.now i h.0 x.0 (h.2 ∙ ap (λ p. Some (h.0, p)) x.1) h.3

pub returns-else-is_some-clause-none : goal.returns-else-is_some-clause-none
returns-else-is_some-clause-none g c =
    let es = c.args.self.now in
    let key = c.args.key.now in
    let i = c.in_ok-i-in-None.i in
    let h = c.in_ok-i-in-None.ensures.some in
    let same = same_Some h.1 c.index.result.now (sym (value_at es.map.entries i h.0 h.1 h.2) ∙ c.index.ensures) in
    let empty = none_of h.1 (ap is_some same ∙ sym c.is_some.ensures ∙ c.if-is_some.false) in
    λ _. missing_mapped es key (c.in-None.ensures.none refl)
    (empty_entry key es.map.entries i h.0 c.in_ok-i-in-None.ensures.unique (h.2 ∙ ap (λ p. Some (h.0, p)) empty) h.3)
