use Rattle.std.proofs.Common.{refl, map}
use Rattle.awk_program.specs.Program as p
use Rattle.awk_program.specs.Program.{terms_of}
use Rattle.awk_program.specs.View.{view, view_target, view_term}
use Rattle.awk_program.proofs.Views.{view-Chain, view-Read}
use Rattle.awk_text.specs.declared.value.Value.TheVariants as v
use Rattle.awk_builtins.specs.AtHand.{CountsAs, IsThere}
use Rattle.awk_builtins.proofs.Rests.{some_for}
use Rattle.awk_builtins.proofs.at_hand.values.counted_there.Goals as goal

pub returns-in-Chain : goal.returns-in-Chain
returns-in-Chain c =
    some_for {P = λ n. IsThere (λ names. p.chain (view names c.get.result.now)
    (terms_of (map (view_term names) c.as_slice.result.now))) c.args.store.now (v.Num n)} c.chain_at_hand.result
    (λ n h. record {
      val = v.Num n;
      is = refl;
      looks = refl;
      there = λ g t. rw (c.in-Chain.is, view-Chain)
          (rw (c.get.ensures, c.as_slice.ensures) at (h g t));
    }) c.chain_at_hand.ensures

pub returns : goal.returns
returns c =
    some_for {P = λ n. CountsAs (λ names. p.read (view_target names c.in-Read.target)) c.args.store.now n}
    c.digits_held.result
    (λ n h. record {
      val = h.val;
      is = h.is;
      looks = h.looks;
      there = λ g t. rw (c.in-Read.is, view-Read)
          (h.there g t);
    }) c.digits_held.ensures
