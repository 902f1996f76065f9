-- The test says what may be assigned to.
use Rattle.std.proofs.Common.{◌≡◌, ◌↔◌, Bool, true, false, ◌&&◌, not, List, refl, ap, Option, Some, None, is_none}
use Rattle.awk_tokens.specs.Words.{is_name, reserved}
use Rattle.awk_tree.specs.Tree.{Text}
use Rattle.awk_resolve.specs.Kinds as k
use Rattle.awk_resolve.specs.Kinds.{global, Forced}
use Rattle.awk_resolve.specs.declared.mention.Section.{Section}
use Rattle.awk_resolve.specs.Marks.{has, AreKinds}
use Rattle.awk_resolve.specs.Assigns.{CanAssign, can_assign}
use Rattle.awk_resolve.specs.declared.kinds.Kinds.{Kinds}

no_word : {K : Type 0} (o : Option K) → is_none o ≡ true → o ≡ None
no_word None e = refl
no_word (Some k) e = cc

both : (a b : Bool) → (a && b) ≡ true → (a ≡ true) × (b ≡ true)
both true b e = (refl, e)
both false b e = cc

all_four : (a b c d : Bool) → a ≡ true → b ≡ true → c ≡ true → d ≡ true → (a && (b && (c && d))) ≡ true
all_four a b c d e f g h = rw (e, f, g, h) refl

is_not : (b : Bool) → not b ≡ true → b ≡ true → ⊥
is_not true e f = cc
is_not false e f = cc

never : (b : Bool) → (b ≡ true → ⊥) → not b ≡ true
never true n = absurd (n refl)
never false n = refl

pub may_assign : (parts : List Section) (c : Kinds) (x : Text) → AreKinds parts c
    → (can_assign c x ≡ true) ↔ CanAssign parts x
may_assign parts c x kinds = (forward, back)
  where
    forward : can_assign c x ≡ true → CanAssign parts x
    forward e =
        let (named, e2) = both (is_name x) _ e in
        let (word, e3) = both (is_none (reserved x)) _ e2 in
        let (array, function) = both (not (has c (global x) k.array)) _ e3 in (
          named,
          no_word (reserved x) word,
          (λ f. is_not (has c (global x) k.array) array ((kinds (global x) k.array).1 f)),
          (λ f. is_not (has c (global x) k.function) function ((kinds (global x) k.function).1 f)),
        )

    back : CanAssign parts x → can_assign c x ≡ true
    back (named, word, array, function) =
        all_four (is_name x) (is_none (reserved x)) (not (has c (global x) k.array)) (not (has c (global x) k.function))
        named (ap is_none word)
        (never (has c (global x) k.array) (λ h. array ((kinds (global x) k.array).0 h)))
        (never (has c (global x) k.function) (λ h. function ((kinds (global x) k.function).0 h)))
