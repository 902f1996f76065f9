use Rattle.std.proofs.Common.{[], ◌∷◌, ap}
use Rattle.awk_machine.specs.Advances.{held}
use Rattle.awk_machine.specs.Pieces.{At, Goes, Terms_of, granted}
use Rattle.awk_machine.specs.Streams.{seen}
use Rattle.awk_store.specs.Wholes.{base}
use Rattle.awk_text.specs.Values.{number_of}
use Rattle.awk_store.specs.Numbers.{valued}
use Rattle.awk_builtins.specs.Made.{of_both}
use Rattle.awk_builtins.proofs.Granted.{given_so}
use Rattle.awk_builtins.proofs.Making.{computed_so}
use Rattle.awk_builtins.proofs.chains.operated.Goals as goal

pub returns : goal.returns
returns c = λ g w x xs r by e.
    rw (c.number_at.ensures, c.both.ensures, c.number_of.ensures, e, by)
    (given_so g w _ c.args.place (λ y k. At (Terms_of xs) (y ∷ []) ∷ k)
    (valued (of_both w.0.numbers c.args.how (number_of w.0.numbers c.args.left.now) (number_of w.0.numbers r)))
    (λ k hid d a. ap (λ m. held g (seen (base g w hid) d)
    (granted c.args.place m (λ y k s. Goes (At (Terms_of xs) (y ∷ []) ∷ k) s) k (seen (base g w hid) d)))
    (computed_so w.0.numbers c.args.how c.args.left.now r)))
