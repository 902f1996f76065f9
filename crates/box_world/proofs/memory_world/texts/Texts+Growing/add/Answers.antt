use Rattle.std.proofs.Common.{List, ℕ, sym, ◌∙◌, ap}
use Rattle.std.proofs.lemmas.Result.{on_ok_weaker, on_err_weaker}
use Rattle.std.specs.Map.{set_value}
use Rattle.std.specs.Option.{option_copied_mut}
use Rattle.std.specs.Str.{bytes_eq}
use Rattle.box_world.proofs.TextLemmas.{named, with_more-found, with_more-absent, set_value-same}
use Rattle.box_world.proofs.memory_world.texts.Texts+Growing.add.Goals as goal
use Rattle.box_world.proofs.memory_world.texts.Texts+Growing.add.Goals.{in-Some, in-None}

pub returns-clause-ok : goal.returns-clause-ok
returns-clause-ok c =
    let text = c.args.text.now in
    let old = c.self.inside.table.entries in
    elim c.match-get_mut.branch [
      | in-Some w ↦ rw (w.result-is, w.self-inside-is, ← c.self.view_is) (on_ok_weaker w.add.result
          (λ added. ap (named (λ k. k.items)) (c.get_mut.follows.holds w.add.new.self).0
          ∙ ap (λ (z : List ℕ). named (λ k. k.items) (set_value (λ k. bytes_eq text k.items) old z)) added
          ∙ with_more-found (λ k. k.items) text c.args.bytes.now old w.in-Some.growing.now (sym c.get_mut.ensures.value
          ∙ ap option_copied_mut w.in-Some.is))
          w.add.ensures.ok)
      | in-None w ↦ rw (w.result-is, w.self-inside-is, ← c.self.view_is)
          (ap (λ t. named (λ k. k.items) t.entries) c.get_mut.follows.holds-at-none
          ∙ sym (with_more-absent (λ k. k.items) text c.args.bytes.now old (sym c.get_mut.ensures.value
          ∙ ap option_copied_mut w.in-None.is)))
    ]

pub returns-clause-err : goal.returns-clause-err
returns-clause-err c =
    let text = c.args.text.now in
    let old = c.self.inside.table.entries in
    elim c.match-get_mut.branch [
      | in-Some w ↦ rw (w.result-is, w.self-inside-is, ← c.self.view_is) (on_err_weaker w.add.result
          (λ same. ap (named (λ k. k.items)) ((c.get_mut.follows.holds w.add.new.self).0
          ∙ ap (set_value (λ k. bytes_eq text k.items) old) same
          ∙ set_value-same (λ k. bytes_eq text k.items) old w.in-Some.growing.now (sym c.get_mut.ensures.value
          ∙ ap option_copied_mut w.in-Some.is)))
          w.add.ensures.err)
      | in-None w ↦ rw w.result-is tt
    ]
