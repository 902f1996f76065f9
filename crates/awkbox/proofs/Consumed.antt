-- What is known of a reader's bytes after several reads.
use Rattle.std.specs.Prelude.{◌≡◌, ℕ, ◌<◌, ◌+◌, refl, List, [], ◌++◌, length, Option, None, Some, IfSome}
use Rattle.std.specs.Io.KnownBytes.{Consumes, IsAtEnd}
use Rattle.std.proofs.Common.{ap, sym, ◌∙◌, append_assoc, length-append, arith}
use Rattle.std.proofs.lemmas.List.{append-nil}

pub Consumes-none : (a : Option (List ℕ)) → Consumes a a []
Consumes-none None = tt
Consumes-none (Some u) = refl

pub Consumes-then : (a b c : Option (List ℕ)) (xs ys : List ℕ) → Consumes a b xs → Consumes b c ys
    → Consumes a c (xs ++ ys)
Consumes-then None b c xs ys p q = tt
Consumes-then (Some u) None c xs ys p q = absurd p
Consumes-then (Some u) (Some v) None xs ys p q = absurd q
Consumes-then (Some u) (Some v) (Some w) xs ys p q = p ∙ ap (λ z. xs ++ z) q ∙ sym (append_assoc xs ys w)

-- what was read up to the end is all
pub all-read : (a b : Option (List ℕ)) (xs : List ℕ) → Consumes a b xs → IsAtEnd b → IfSome a (λ all. xs ≡ all)
all-read None b xs p e = tt
all-read (Some u) None xs p e = absurd p
all-read (Some u) (Some v) xs p e = sym (p ∙ ap (λ z. xs ++ z) e ∙ append-nil xs)

-- there were at least as many bytes as were read
pub more-held : (a b : Option (List ℕ)) (xs : List ℕ) (n : ℕ) → Consumes a b xs → n < length xs
    → IfSome a (λ all. n < length all)
more-held None b xs n p h = tt
more-held (Some u) None xs n p h = absurd p
more-held (Some u) (Some v) xs n p h =
    let e : length u ≡ length xs + length v = ap length p ∙ length-append xs v in
    omega arith
