use Rattle.std.proofs.Common.{◌≡◌, ◌<◌, ◌-◌, ◌++◌, ℕ, suc, arith, rules, add-one, List, [], ◌∷◌, Bool, length, Some}
use Rattle.std.proofs.Common.{Result, Ok, Err, refl}
use Rattle.std.specs.Result.{IfOk}
use Rattle.std.specs.declared.alloc.AllocError.{AllocError}
use Rattle.awk_ere.specs.declared.node.Node.{size-Node}
use Rattle.awk_ere.specs.declared.node.Node.TheBlock.{the_depth, the_members, the_sigs, the_carrier, member-Node}
use Rattle.awk_ere.specs.declared.node.Node.TheViews.{Cat, Alt}
use denote.Hole.Carrier.{out}
use denote.Hole.Rolled.{depth_falls}
use Rattle.awk_ere.specs.declared.program.Instruction.{Instruction}
use Rattle.awk_ere.specs.declared.program.Instruction.TheVariants.{Eat, Fork, AtStart, AtEnd}
use Rattle.awk_ere.specs.declared.token.Class.{Class}
use Rattle.awk_ere.specs.View.{pattern}
use Rattle.awk_ere.specs.Pattern.{Pattern, bytes, start, finish, cat, alt}
use Rattle.awk_ere.specs.Program.{holds, IsReady, Compiles, Joins}
use Rattle.awk_ere.proofs.Parts.{compiles_bytes, compiles_start, compiles_finish, compiles_cat, compiles_alt, joins_one}
use Rattle.awk_ere.proofs.Parts.{joins_more, compiles_star, compiles_plus, compiles_more, compiles_option}
use Rattle.awk_ere.proofs.Parts.{compiles_repeat, copies_more, ready_copies, ready_after, ready_joined, ready_hole}
use Rattle.awk_ere.proofs.compile.+compile.Goals as goal

-- a step that was added
module _ where
  added_bytes : (r : Result ℕ AllocError) (old new : List Instruction) (k : Class) (next : ℕ) (p : List (List Bool)
      → Pattern) → IfOk r (λ at'. at' ≡ length old) → IfOk r (λ at'. new ≡ old ++ Eat k next ∷ []) → IsReady old next
      → p ≡ (λ sets. bytes (holds sets k)) → IfOk r (λ e. Compiles old new e p next)
  added_bytes (Err e) old new k next p at added ready is = tt
  added_bytes (Ok e) old new k next p at added ready is = rw (at, added, is) (compiles_bytes old k next ready)

  added_start : (r : Result ℕ AllocError) (old new : List Instruction) (next : ℕ) → IfOk r (λ at'. at' ≡ length old)
      → IfOk r (λ at'. new ≡ old ++ AtStart next ∷ []) → IsReady old next
      → IfOk r (λ e. Compiles old new e (λ sets. start) next)
  added_start (Err e) old new next at added ready = tt
  added_start (Ok e) old new next at added ready = rw (at, added) (compiles_start old next ready)

  added_finish : (r : Result ℕ AllocError) (old new : List Instruction) (next : ℕ) → IfOk r (λ at'. at' ≡ length old)
      → IfOk r (λ at'. new ≡ old ++ AtEnd next ∷ []) → IsReady old next
      → IfOk r (λ e. Compiles old new e (λ sets. finish) next)
  added_finish (Err e) old new next at added ready = tt
  added_finish (Ok e) old new next at added ready = rw (at, added) (compiles_finish old next ready)

  added_one : (r : Result ℕ AllocError) (a b new : List Instruction) (x others next : ℕ) (p : List (List Bool)
      → Pattern) → IfOk r (λ at'. at' ≡ length b) → IfOk r (λ at'. new ≡ b ++ Fork x others ∷ []) → others < length a
      → Compiles a b x p next → IfOk r (λ e. Joins a new e p others next)
  added_one (Err e) a b new x others next p at added lt one = tt
  added_one (Ok e) a b new x others next p at added lt one = rw (at, added) (joins_one a b x others next p lt one)

  then_alt : (r : Result ℕ AllocError) (a b c : List Instruction) (others next : ℕ) (p q : List (List Bool) → Pattern)
      → Compiles a b others q next → IfOk r (λ e. Joins b c e p others next)
      → IfOk r (λ e. Compiles a c e (λ sets. alt (p sets) (q sets)) next)
  then_alt (Err e) a b c others next p q rest one = tt
  then_alt (Ok e) a b c others next p q rest one = compiles_alt a b c e others next p q rest one

  then_cat : (r : Result ℕ AllocError) (a b c : List Instruction) (middle next : ℕ) (p q : List (List Bool) → Pattern)
      → Compiles a b middle q next → IfOk r (λ e. Compiles b c e p middle)
      → IfOk r (λ e. Compiles a c e (λ sets. cat (p sets) (q sets)) next)
  then_cat (Err e) a b c middle next p q rest one = tt
  then_cat (Ok e) a b c middle next p q rest one = compiles_cat a b c e middle next p q rest one

  then_on : (r : Result ℕ AllocError) (P Q : ℕ → Type 0) → ((e : ℕ) → P e → Q e) → IfOk r P → IfOk r Q
  then_on (Err e) P Q on h = tt
  then_on (Ok e) P Q on h = on e h

pub compile-loop-rest-preserved : goal.compile-loop-rest-preserved
unfolding the_depth out
compile-loop-rest-preserved t c = record {
  no_deeper =
      let deeper : size-Node c.deref-rest.result.now < size-Node c.loop-rest.rest.now =
      let row = Cat c.in-Cat.left c.in-Cat.right in
      rw (c.in-Cat.is, c.deref-rest.ensures)
      ((depth_falls the_members the_sigs the_carrier member-Node row (size-Node row) (omega arith)).0) in
      omega (arith, deeper, c.loop-rest.invariant.no_deeper);
  ready = ready_after _ _ _ _ _ c.in_ok-at.ensures;
  leads = λ new e compiled. c.loop-rest.invariant.leads new e
      (rw (c.in-Cat.is, ← c.deref.ensures, ← c.deref-rest.ensures)
      (compiles_cat _ _ _ _ _ _ (λ sets. pattern sets c.deref-rest.result.now) (λ sets. pattern sets c.deref.result.now)
      c.in_ok-at.ensures compiled));
}

pub compile-returns : goal.compile-returns
compile-returns t c = then_on c.compile_node.result _ _ (λ e. c.loop-rest.invariant.leads _ e) c.compile_node.ensures

pub compile_node-returns-in-Bytes : goal.compile_node-returns-in-Bytes
compile_node-returns-in-Bytes t c = rw c.in-Bytes.is (added_bytes c.add.result _ _ c.in-Bytes.class _ _ c.add.ensures.at
    c.add.ensures.added c.requires refl)

pub compile_node-returns-in-Start : goal.compile_node-returns-in-Start
compile_node-returns-in-Start t c = rw c.in-Start.is (added_start c.add-in-Start.result _ _ _ c.add-in-Start.ensures.at
    c.add-in-Start.ensures.added c.requires)

pub compile_node-returns-in-End : goal.compile_node-returns-in-End
compile_node-returns-in-End t c =
    rw c.in-End.is (added_finish c.add-in-End.result _ _ _ c.add-in-End.ensures.at c.add-in-End.ensures.added
    c.requires)

pub compile_copies-compile-requires : goal.compile_copies-compile-requires
compile_copies-compile-requires t c = (search rules, ready_copies _ _ _ _ _ _ c.loop-i.invariant)

pub compile_copies-loop-i-preserved : goal.compile_copies-loop-i-preserved
compile_copies-loop-i-preserved t c = copies_more _ _ _ _ _ _ _ _ (λ sets. pattern sets c.args.node.now)
    (add-one _) c.loop-i.invariant c.in_ok-at.ensures

pub compile_options-compile-requires : goal.compile_options-compile-requires
compile_options-compile-requires t c = (search rules, ready_after _ _ _ _ _ c.loop-i.invariant)

pub compile_options-loop-i-preserved : goal.compile_options-loop-i-preserved
compile_options-loop-i-preserved t c =
    rw (c.in_ok-at.ensures.added, c.in_ok-at.ensures.at)
    (compiles_option _ _ _ _ _ _ _ _ (λ sets. pattern sets c.args.node.now) c.requires.below
    (add-one _) c.loop-i.invariant c.in_ok-inner.ensures)

pub compile_star-compile-requires : goal.compile_star-compile-requires
compile_star-compile-requires t c = (
  search rules,
  rw (c.in_ok-fork.ensures.added, c.in_ok-fork.ensures.at)
      (ready_hole _ _ c.requires),
)

pub compile_star-returns : goal.compile_star-returns
compile_star-returns t c =
    let inner = rw (c.in_ok-fork.ensures.added, c.in_ok-fork.ensures.at) at c.in_ok-inner.ensures in
    rw c.in_ok-fork.ensures.at
    (compiles_star _ _ _ _ (λ sets. pattern sets c.args.node.now) c.requires inner)

pub compile_plus-compile-requires : goal.compile_plus-compile-requires
compile_plus-compile-requires t c = (
  search rules,
  rw (c.in_ok-fork.ensures.added, c.in_ok-fork.ensures.at)
      (ready_hole _ _ c.requires),
)

pub compile_plus-returns : goal.compile_plus-returns
compile_plus-returns t c =
    let inner = rw (c.in_ok-fork.ensures.added, c.in_ok-fork.ensures.at) at c.in_ok-inner.ensures in
    rw c.in_ok-fork.ensures.at
    (compiles_plus _ _ _ _ (λ sets. pattern sets c.args.node.now) c.requires inner)

pub compile_repeat-returns-in_ok-first-in-None : goal.compile_repeat-returns-in_ok-first-in-None
compile_repeat-returns-in_ok-first-in-None t c =
    let is : c.args.least ≡ suc (c.args.least - 1) = omega arith in
    rw c.in-None.is
    (compiles_more _ _ _ _ _ _ _ _ (λ sets. pattern sets c.args.node.now) is c.in_ok-last-in-None.ensures
    c.in_ok-first-in-None.ensures)

pub compile_repeat-returns-in_ok-start-in-Some : goal.compile_repeat-returns-in_ok-start-in-Some
compile_repeat-returns-in_ok-start-in-Some t c =
    rw c.in-Some.is
    (compiles_repeat _ _ _ _ _ _ _ (Some c.in-Some.more) (λ sets. pattern sets c.args.node.now)
    c.in_ok-rest-in-Some.ensures c.in_ok-start-in-Some.ensures)

pub compile_node-returns-in_ok-middle-in-Cat : goal.compile_node-returns-in_ok-middle-in-Cat
compile_node-returns-in_ok-middle-in-Cat t c =
    rw (c.in-Cat.is, ← c.deref.ensures, ← c.deref-in-Cat.ensures)
    (then_cat c.compile-in-Cat.result _ _ _ _ _ (λ sets. pattern sets c.deref-in-Cat.result.now)
    (λ sets. pattern sets c.deref.result.now) c.in_ok-middle-in-Cat.ensures c.compile-in-Cat.ensures)

pub compile_node-returns-in_ok-others-in-Alt : goal.compile_node-returns-in_ok-others-in-Alt
compile_node-returns-in_ok-others-in-Alt t c =
    rw (c.in-Alt.is, ← c.deref-in-Alt.ensures, ← c.deref-in-Alt-2.ensures)
    (then_alt c.compile_before.result _ _ _ _ _ (λ sets. pattern sets c.deref-in-Alt-2.result.now)
    (λ sets. pattern sets c.deref-in-Alt.result.now) c.in_ok-others-in-Alt.ensures c.compile_before.ensures)

pub compile_before-loop-rest-preserved : goal.compile_before-loop-rest-preserved
unfolding the_depth out
compile_before-loop-rest-preserved t c =
    let joined : Joins c.loop-rest.program.items c.add.new.program.items c.in_ok-at.at
    (λ sets. pattern sets c.deref.result.now) c.loop-rest.at c.args.next =
    rw (c.in_ok-at.ensures.added, c.in_ok-at.ensures.at) (joins_one _ _ _ _ _ (λ sets. pattern sets c.deref.result.now)
    c.loop-rest.invariant.inside c.in_ok-one.ensures) in
    record {
      no_deeper =
          let deeper : size-Node c.deref-rest.result.now < size-Node c.loop-rest.rest.now =
          let row = Alt c.in-Alt.left c.in-Alt.right in
          rw (c.in-Alt.is, c.deref-rest.ensures)
          ((depth_falls the_members the_sigs the_carrier member-Node row (size-Node row) (omega arith)).0) in
          omega (arith, deeper, c.loop-rest.invariant.no_deeper);
      ready = ready_joined _ _ _ _ _ _ joined c.loop-rest.invariant.ready.below;
      inside = joined.below;
      leads = λ new e more. c.loop-rest.invariant.leads new e
          (rw (c.in-Alt.is, ← c.deref.ensures, ← c.deref-rest.ensures)
          (joins_more _ _ _ _ _ _ _ (λ sets. pattern sets c.deref-rest.result.now)
          (λ sets. pattern sets c.deref.result.now) joined more));
    }

pub compile_before-returns : goal.compile_before-returns
compile_before-returns t c =
    then_on c.add-2.result _ _ (λ e. c.loop-rest.invariant.leads _ e)
    (added_one c.add-2.result _ _ _ _ _ _ (λ sets. pattern sets c.loop-rest.rest.now) c.add-2.ensures.at
    c.add-2.ensures.added c.loop-rest.invariant.inside c.in_ok-first.ensures)
