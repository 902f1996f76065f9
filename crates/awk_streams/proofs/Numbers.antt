-- A reply that fits where other numbers are open besides, fits where the run's own are.
use Rattle.std.proofs.Common.{◌≡◌, ◌≤◌, ◌+◌, ◌-◌, ℕ, Bool, true, false, List, [], ◌∷◌, ◌++◌, refl, arith, nat_eq, sym}
use Rattle.std.proofs.Common.{◌∙◌, true≢false, ◌||◌}
use Rattle.std.specs.Prelude.{if◌then◌else◌, map, Some}
use Rattle.box_world.specs.Events.{Class, Stream, find_stream, without_stream, is_named}
use Rattle.awk_streams.specs.Tasks.{one_if, times, Within}
use Rattle.box_world.specs.Calls.{Call, is_among, without, numbers_after, open_after, IsFitting}
use Rattle.box_world.specs.declared.ask.Reply.{Reply}
use Rattle.box_world.specs.declared.ask.Reply.TheVariants as reply
use Rattle.std.proofs.lemmas.Bool.Decides.{nat_tests}
use Rattle.box_world.specs.declared.ask.Request.{Request}
use Rattle.box_world.specs.declared.ask.Request.TheVariants.{Open, Next, Put, Shut, System, Env, Assign}

pub times-append : (n : ℕ) (xs ys : List ℕ) → times n (xs ++ ys) ≡ times n xs + times n ys
times-append n [] ys = omega arith
times-append n (x ∷ xs) ys = let e = times-append n xs ys in rw e (omega arith)

same : (m n : ℕ) → nat_eq m n ≡ true → m ≡ n
same m n e = grind arith

differs : (m n k : ℕ) → nat_eq k m ≡ false → nat_eq k n ≡ true → nat_eq m n ≡ true → ⊥
differs m n k e f g =
    let a = same k n f in let b = same m n g in let c : k ≡ m = omega arith in true≢false (sym (grind arith) ∙ e)

less : (x y : Bool) (t : ℕ) → (x ≡ true → y ≡ true → ⊥) → one_if x + (t - one_if y) ≡ one_if x + t - one_if y
less true true t no_both = absurd (no_both refl refl)
less true false t no_both = omega arith
less false true t no_both = omega arith
less false false t no_both = omega arith

without_by : (m n k : ℕ) (ks : List ℕ) (b : Bool) → nat_eq k m ≡ b → times n (without m ks) ≡ times n ks - one_if
    (nat_eq m n) → times n (if b then ks else k ∷ without m ks) ≡ one_if (nat_eq k n) + times n ks - one_if (nat_eq m n)
without_by m n k ks true e h = let s = same k m e in rw s (omega arith)
without_by m n k ks false e h = rw h (less (nat_eq k n) (nat_eq m n) (times n ks) (differs m n k e))

pub times-without : (m n : ℕ) (ks : List ℕ) → times n (without m ks) ≡ times n ks - one_if (nat_eq m n)
times-without m n [] = omega arith
times-without m n (k ∷ ks) = without_by m n k ks (nat_eq k m) refl (times-without m n ks)

pub within_next : (own all : List ℕ) (request : Request) (r : Reply) → Within own all
    → Within (numbers_after request r own) (numbers_after request r all)
within_next own all (Open mode text) (reply.Opened m) h = λ n. let e = times-append n own (m ∷ []) in
    let f = times-append n all (m ∷ []) in let i = h n in rw (e, f) (omega arith)
within_next own all (Open mode text) (reply.Bytes b) h = h
within_next own all (Open mode text) reply.End h = h
within_next own all (Open mode text) reply.Done h = h
within_next own all (Open mode text) (reply.Status z) h = h
within_next own all (Open mode text) (reply.Value b) h = h
within_next own all (Open mode text) reply.Failed h = h
within_next own all (Shut m) r h = λ n. let i = h n in rw (times-without m n own, times-without m n all) (omega arith)
within_next own all (Next m) r h = h
within_next own all (Put m b) r h = h
within_next own all (System b) r h = h
within_next own all (Env b) r h = h
within_next own all (Assign b c) r h = h

pub within_after : (cs : List Call) (own all : List ℕ) → Within own all → Within (open_after cs own) (open_after cs all)
within_after [] own all h = h
within_after (c ∷ cs) own all h = within_after cs _ _ (within_next own all c.0.request c.1 h)

among_by : (n k : ℕ) (ks : List ℕ) (b : Bool) → (is_among ks n ≡ false → times n ks ≡ 0) → (b || is_among ks n) ≡ false
    → one_if b + times n ks ≡ 0
among_by n k ks true ih g = absurd (true≢false g)
among_by n k ks false ih g = let i = ih g in omega arith

among : (n : ℕ) (ks : List ℕ) → is_among ks n ≡ false → times n ks ≡ 0
among n [] e = refl
among n (k ∷ ks) e = among_by n k ks (nat_eq k n) (among n ks) e

none_by : (n k : ℕ) (ks : List ℕ) (b : Bool) → (times n ks ≡ 0 → is_among ks n ≡ false) → one_if b + times n ks ≡ 0
    → (b || is_among ks n) ≡ false
none_by n k ks true ih g = absurd (omega arith)
none_by n k ks false ih g = let i : times n ks ≡ 0 = omega arith in ih i

none : (n : ℕ) (ks : List ℕ) → times n ks ≡ 0 → is_among ks n ≡ false
none n [] e = refl
none n (k ∷ ks) e = none_by n k ks (nat_eq k n) (none n ks) e

-- a reply that fits after these calls, whatever was open before them, fits where nothing was
pub fits_alone : (cs : List Call) (others : List ℕ) (request : Request) (r : Reply)
    → IsFitting (open_after cs others) request r → IsFitting (open_after cs []) request r
fits_alone cs others (Open mode text) (reply.Opened n) h =
    let w = within_after cs [] others (λ k. omega arith) n in
    let e = among n (open_after cs others) h.1 in let f : times n (open_after cs []) ≡ 0 = omega arith in
    (h.0, none n (open_after cs []) f)
fits_alone cs others (Open mode text) (reply.Bytes b) h = h
fits_alone cs others (Open mode text) reply.End h = h
fits_alone cs others (Open mode text) reply.Done h = h
fits_alone cs others (Open mode text) (reply.Status z) h = h
fits_alone cs others (Open mode text) (reply.Value b) h = h
fits_alone cs others (Open mode text) reply.Failed h = h
fits_alone cs others (Next m) r h = h
fits_alone cs others (Put m b) r h = h
fits_alone cs others (Shut m) r h = h
fits_alone cs others (System b) r h = h
fits_alone cs others (Env b) r h = h
fits_alone cs others (Assign b c) r h = h

-- ---- the numbers of open streams

abbrev numbers_of : List Stream → List ℕ
numbers_of ss = map (λ s. s.number) ss

some_same : {A : Type 0} (x y : A) → Some x ≡ Some y → x ≡ y
some_same x y e = cc

-- a stream that is found stands among them
found_by : (c : Class) (text : List ℕ) (s : Stream) (ss : List Stream) (n : ℕ) (b : Bool)
    → (find_stream c text ss ≡ Some n → 1 ≤ times n (numbers_of ss)) →
    (if b then Some s.number else find_stream c text ss) ≡ Some n
    → 1 ≤ one_if (nat_eq s.number n) + times n (numbers_of ss)
found_by c text s ss n true ih e =
    let i : s.number ≡ n = some_same s.number n e in
    let f : nat_eq s.number n ≡ true = grind (arith, nat_tests) in rw f (omega arith)
found_by c text s ss n false ih e = let i = ih e in omega arith

pub found_once : (c : Class) (text : List ℕ) (ss : List Stream) (n : ℕ) → find_stream c text ss ≡ Some n
    → 1 ≤ times n (numbers_of ss)
found_once c text [] n e = absurd (cc)
found_once c text (s ∷ ss) n e = found_by c text s ss n (is_named c text s) (found_once c text ss n) e

-- and is a stream of the world, where its numbers are
pub among_all : (n : ℕ) (ks : List ℕ) → 1 ≤ times n ks → is_among ks n ≡ true
among_all n ks h = by (is_among ks n) refl
  where
    by : (b : Bool) → is_among ks n ≡ b → is_among ks n ≡ true
    by true e = e
    by false e = let z = among n ks e in absurd (omega arith)

-- without it, its number stands there once less
without_found : (m : ℕ) (c : Class) (text : List ℕ) (s : Stream) (ss : List Stream) (n : ℕ) (b : Bool) →
    (find_stream c text ss ≡ Some n → times m (numbers_of (without_stream c text ss)) ≡ times m (numbers_of ss) - one_if
    (nat_eq n m)) →
    (find_stream c text ss ≡ Some n → 1 ≤ times n (numbers_of ss))
    → (if b then Some s.number else find_stream c text ss) ≡ Some n →
    times m (numbers_of (if b then ss else s ∷ without_stream c text ss)) ≡ one_if (nat_eq s.number m) + times m
    (numbers_of ss) - one_if (nat_eq n m)
without_found m c text s ss n true ih once e = let i : s.number ≡ n = some_same s.number n e in rw i (omega arith)
without_found m c text s ss n false ih once e = let i = ih e in rw i (less_of (nat_eq n m) refl)
  where
    less_of : (b : Bool) → nat_eq n m ≡ b → one_if (nat_eq s.number m) + (times m (numbers_of ss) - one_if b)
        ≡ one_if (nat_eq s.number m) + times m (numbers_of ss) - one_if b
    less_of true f = let k : n ≡ m = same n m f in let o : 1 ≤ times m (numbers_of ss) = rw k at (once e) in omega arith
    less_of false f = omega arith

pub times-without_stream : (m : ℕ) (c : Class) (text : List ℕ) (ss : List Stream) (n : ℕ)
    → find_stream c text ss ≡ Some n →
    times m (numbers_of (without_stream c text ss)) ≡ times m (numbers_of ss) - one_if (nat_eq n m)
times-without_stream m c text [] n e = absurd (cc)
times-without_stream m c text (s ∷ ss) n e = without_found m c text s ss n (is_named c text s)
    (times-without_stream m c text ss n) (found_once c text ss n) e
