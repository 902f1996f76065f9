-- From a compiled tree to a machine, and what its search says.
use Rattle.std.proofs.Common.{◌≡◌, ◌↔◌, IsTrue, ℕ, ◌≤◌, min, Bool, List, [], ◌∷◌, length, Option, Some, None, is_some}
use Rattle.std.proofs.Common.{true, refl, sym, subst, arith}
use Rattle.awk_ere.specs.Pattern.{Pattern, bytes, repeat, Matches}
use Rattle.awk_ere.specs.Best.{Best}
use Rattle.awk_ere.specs.Same.{IsSame}
use Rattle.awk_ere.specs.Spelled.{IsPattern, Finds, HasMatch}
use Rattle.awk_ere.specs.Program.{Means, IsSound, Grows, Compiles}
use Rattle.awk_ere.specs.Search.{IsMachine}
use Rattle.awk_ere.specs.Matcher.{StandsFor, StartsFrom}
use Rattle.awk_ere.specs.Table.{Matcher, anywhere}
use Rattle.awk_ere.specs.View.{pattern}
use Rattle.awk_ere.specs.Tree.{IsWhole, IsTree}
use Rattle.awk_ere.specs.declared.tree.SizedNode.{SizedNode}
use Rattle.awk_ere.specs.declared.node.Node.{Node}
use Rattle.awk_ere.specs.declared.program.Instruction.{Instruction}
use Rattle.awk_ere.specs.declared.program.Instruction.TheVariants.{Done}
use Rattle.awk_ere.proofs.Tokens.{later_same}
use Rattle.awk_ere.proofs.Programs.{Grows-trans}
use Rattle.awk_ere.proofs.Meaning.{Means-grows}
use Rattle.awk_ere.proofs.Parts.{compiles_cat}
use Rattle.awk_ere.proofs.Searching.{machine_of, run_matches, matches_run}

means_same : (sets : List (List Bool)) (a : List Instruction) (e : ℕ) (p q : Pattern) (next : ℕ) → IsSame p q
    → Means sets a e p next → Means sets a e q next
means_same sets a e p q next same m = record {
  into = λ full s n i j ext done path. let y = m.into full s n i j ext done path in
      (y.0, y.1, y.2, same.to s i y.0 y.3, y.4);
  back = λ full s k n i j ext x path. m.back full s k n i j ext (same.from s i k x) path;
}

-- a machine is that of each pattern that matches the same
pub machine_same : (sets : List (List Bool)) (program : List Instruction) (e : ℕ) (p q : Pattern) → IsSame p q
    → IsMachine sets program e p → IsMachine sets program e q
machine_same sets program e p q same m = record {
  sound = m.sound;
  inside = m.inside;
  done = m.done;
  means = means_same sets program e p q 0 same m.means;
}

-- a size that is within the limit is the pattern's own
no_larger : (size n : ℕ) → size ≡ min 20001 n → size ≤ 20000 → n ≤ 20000
no_larger size n is small = omega arith

-- the same in a program that has grown
compiled_later : (old a b : List Instruction) (e next : ℕ) (p : List (List Bool) → Pattern) → Compiles old a e p next
    → IsSound b → Grows a b → Compiles old b e p next
compiled_later old a b e next p h sound grows = record {
  sound = sound;
  grows = Grows-trans h.grows grows;
  below = omega (arith, h.below, grows.longer);
  means = λ sets. Means-grows sets a b e (p sets) next grows (h.means sets);
}

-- a tree that was read, where its text is within the limits
pub within : (text : List ℕ) (sets : List (List Bool)) (part : SizedNode) → length text ≤ 4096 → part.size ≤ 20000
    → IsWhole text sets part → IsTree text sets part.node
within text sets part short small (ts, p, n, read, spells, stands) = (
  p,
  record { size = n; spelled = (ts, read, spells); short = short; small = no_larger part.size n stands.size small },
  stands.same sets (later_same sets),
)

-- the machine of a tree, and the one that may begin anywhere
pub machines : (sets : List (List Bool)) (node : Node) (a program : List Instruction) (entry scan : ℕ)
    → Compiles (Done ∷ []) a entry (λ sets. pattern sets node) 0
    → Compiles a program scan (λ _. repeat (bytes (λ b. true)) 0 None) entry
    → IsMachine sets program entry (pattern sets node) × IsMachine sets program scan (anywhere (pattern sets node))
machines sets node a program entry scan h g = (
  machine_of sets program entry (λ sets. pattern sets node) (compiled_later (Done ∷ []) a program entry 0
      (λ sets. pattern sets node) h g.sound g.grows),
  machine_of sets program scan (λ sets. anywhere (pattern sets node)) (compiles_cat (Done ∷ []) a program scan entry 0
      (λ _. repeat (bytes (λ b. true)) 0 None) (λ sets. pattern sets node) h g),
)

-- what the search of a matcher says
pub has_started : (source s : List ℕ) (m : Matcher) (p : Pattern) (b : Bool) → IsPattern source p → StandsFor m p
    → IsTrue b ↔ StartsFrom m s 0 → HasMatch source s b
has_started source s m p b is machine h = (
  p,
  is,
  (
    (λ t. let y = h.0 t in (y.0, y.2.0, y.2.1, run_matches m.sets m.program m.entry p machine s y.0 y.2.0 y.2.2)),
    (λ x. h.1 (x.0, omega arith, (x.1, x.2, matches_run m.sets m.program m.entry p machine s x.0 x.1 x.3))),
  ),
)

pub has_match : (source s : List ℕ) (found : Option (ℕ × ℕ)) (b : Bool) → Finds source s 0 found → b ≡ is_some found
    → HasMatch source s b
has_match source s found b (p, is, best) e = (
  p,
  is,
  subst (λ x. IsTrue x ↔ ((i : ℕ) × (j : ℕ) × (j ≤ length s) × Matches s p i j)) (sym e)
      (by_found found best),
) where
  by_found : (found : Option (ℕ × ℕ)) → Best s p 0 found → IsTrue (is_some found) ↔ ((i : ℕ) × (j : ℕ) × (j ≤ length s)
      × Matches s p i j)
  by_found None none = ((λ t. absurd (cc)), (λ m. absurd (none m.0 m.1 (omega arith) m.2 m.3)))
  by_found (Some m) one = ((λ t. (m.0, m.1, one.within, one.matches)), (λ x. refl))
