use Rattle.std.proofs.Common.{refl, sym, ap, ◌∙◌}
use Rattle.awk_builtins.proofs.Granted.{given_so}
use Rattle.awk_builtins.proofs.Making.{number_so, storing_so}
use Rattle.awk_machine.specs.Pieces.{granted}
use Rattle.awk_machine.specs.Advances.{held}
use Rattle.awk_machine.specs.Streams.{seen}
use Rattle.awk_machine.specs.Targets.{store, target}
use Rattle.awk_store.specs.Wholes.{base}
use Rattle.awk_builtins.specs.Made.{storing}
use Rattle.awk_builtins.proofs.made.computed_at.Goals as goal

pub returns : goal.returns
returns c = λ g w r x at by. rw (c.at.ensures, by) (given_so g w _ c.args.place (storing w.0.numbers c.args.place r at)
    c.computed.result
    (λ k hid d a.
    ap (λ m. held g (seen (base g w hid) d) (granted c.args.place m (store (target r at) c.args.place) k
    (seen (base g w hid) d))) (sym (rw by at c.computed.ensures))
    ∙ ap (held g (seen (base g w hid) d)) (number_so c.args.place c.computed.result (store (target r at) c.args.place) k
    (seen (base g w hid) d)
    ∙ storing_so w.0.numbers c.args.place c.computed.result r at k (seen (base g w hid) d) refl)))
