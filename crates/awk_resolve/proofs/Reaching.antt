-- What a queue of numbers leads to: all that is reached, and nothing else.
use Rattle.std.proofs.Common.{◌≡◌, ◌⊎◌, inl, inr, ◌∙◌, ℕ, zero, suc, ◌+◌, ◌<◌, ◌≤◌, ◌↔◌, Bool, true, false, List, []}
use Rattle.std.proofs.Common.{◌∷◌, ◌++◌, length, replicate, refl, sym, ap, Option, Some, None, Contains, arith}
use Rattle.std.proofs.Common.{length-append, slice_get}
use Rattle.std.proofs.Math.ListN.{set, length-set}
use Rattle.std.proofs.lemmas.Bool.{cases_lt}
use Rattle.std.proofs.lemmas.List.{length-replicate}
use Rattle.std.proofs.lemmas.List.Elements.{Contains-append_left, Contains-push, Contains-push_cases}
use Rattle.std.proofs.lemmas.Option.{slice_get-get_or, slice_get_within}
use Rattle.awk_resolve.proofs.Lists.{contains_none, contains_cases}
use Rattle.awk_resolve.specs.Reached.{Reached, seed, link}
use Rattle.awk_resolve.specs.Marking.{fresh, marked, mark, mark_all, followed, follow}
use Rattle.awk_resolve.specs.declared.uses.Reach.{Reach}

-- ---- marks

abbrev pub unset : List Bool → ℕ
unset [] = 0
unset (true ∷ bs) = unset bs
unset (false ∷ bs) = suc (unset bs)

keeps : (bs : List Bool) (n m : ℕ) → slice_get bs m ≡ Some true → slice_get (set bs n true) m ≡ Some true
keeps [] n m e = e
keeps (b ∷ bs) zero zero e = refl
keeps (b ∷ bs) zero (suc m) e = e
keeps (b ∷ bs) (suc n) zero e = e
keeps (b ∷ bs) (suc n) (suc m) e = keeps bs n m e

sets : (bs : List Bool) (n : ℕ) (b : Bool) → slice_get bs n ≡ Some b → slice_get (set bs n true) n ≡ Some true
sets [] n b e = cc
sets (x ∷ bs) zero b e = refl
sets (x ∷ bs) (suc n) b e = sets bs n b e

only : (bs : List Bool) (n m : ℕ) → slice_get (set bs n true) m ≡ Some true → (m ≡ n) ⊎ (slice_get bs m ≡ Some true)
only [] n m e = inr e
only (b ∷ bs) zero zero e = inl refl
only (b ∷ bs) zero (suc m) e = inr e
only (b ∷ bs) (suc n) zero e = inr e
only (b ∷ bs) (suc n) (suc m) e = by (only bs n m e)
  where
    by : (m ≡ n) ⊎ (slice_get bs m ≡ Some true) → (suc m ≡ suc n) ⊎ (slice_get bs m ≡ Some true)
    by (inl same) = inl (ap suc same)
    by (inr there) = inr there

one_less : (bs : List Bool) (n : ℕ) → slice_get bs n ≡ Some false → suc (unset (set bs n true)) ≡ unset bs
one_less [] n e = cc
one_less (true ∷ bs) zero e = cc
one_less (false ∷ bs) zero e = refl
one_less (true ∷ bs) (suc n) e = one_less bs n e
one_less (false ∷ bs) (suc n) e = ap suc (one_less bs n e)

none_set : (count n : ℕ) → slice_get (replicate count false) n ≡ Some true → ⊥
none_set zero n e = cc
none_set (suc count) zero e = cc
none_set (suc count) (suc n) e = none_set count n e

all_unset : (count : ℕ) → unset (replicate count false) ≡ count
all_unset zero = refl
all_unset (suc count) = ap suc (all_unset count)

-- ---- the queue

older : {A : Type 0} (xs : List A) (y : A) (i : ℕ) → i < length xs → slice_get (xs ++ y ∷ []) i ≡ slice_get xs i
older [] y i h = absurd (omega arith)
older (x ∷ xs) y zero h = refl
older (x ∷ xs) y (suc i) h = older xs y i (omega arith)

pub found_at : {A : Type 0} (xs : List A) (x : A) → Contains xs x → (i : ℕ) × (i < length xs)
    × (slice_get xs i ≡ Some x)
found_at xs x (i, h, e) = (i, h, slice_get-get_or xs i x h ∙ ap Some e)

pub at_found : {A : Type 0} (xs : List A) (i : ℕ) (x : A) → slice_get xs i ≡ Some x → Contains xs x
at_found [] i x e = cc
at_found (y ∷ xs) zero x e = (0, omega arith, cc)
at_found (y ∷ xs) (suc i) x e = let (k, h, f) = at_found xs i x e in (suc k, omega (arith, h), f)

-- The marked numbers are those of the queue, which are all of R.
pub record Sound (R : ℕ → Type 0) (size : ℕ) (r : Reach) : Type 0 where
  pub size_is : length r.marks ≡ size
  pub queued : (n : ℕ) → slice_get r.marks n ≡ Some true → Contains r.queue n
  pub marked_is : (n : ℕ) → Contains r.queue n → slice_get r.marks n ≡ Some true
  pub reached : (n : ℕ) → Contains r.queue n → R n
  pub room : length r.queue + unset r.marks ≡ size

fresh_sound : (R : ℕ → Type 0) (size : ℕ) → Sound R size (fresh size)
fresh_sound R size = record {
  size_is = length-replicate size false;
  queued = λ n e. absurd (none_set size n e);
  marked_is = λ n c. absurd (contains_none n c);
  reached = λ n c. absurd (contains_none n c);
  room = let e = all_unset size in omega (arith, e);
}

module _ (R : ℕ → Type 0) (size : ℕ) where
  mark_sound : (n : ℕ) (r : Reach) → (n < size → R n) → Sound R size r → Sound R size (mark n r)
  mark_sound n r may s = by (slice_get r.marks n) refl
    where
      new : slice_get r.marks n ≡ Some false → Sound R size (marked n (Some false) r)
      new e = record {
        size_is = length-set r.marks n true ∙ s.size_is;
        queued = λ m f. queued_by m (only r.marks n m f);
        marked_is = λ m c. marked_by m (Contains-push_cases r.queue n m c);
        reached = λ m c. reached_by m (Contains-push_cases r.queue n m c);
        room = room_by;
      }
        where
          queued_by : (m : ℕ) → (m ≡ n) ⊎ (slice_get r.marks m ≡ Some true) → Contains (r.queue ++ n ∷ []) m
          queued_by m (inl same) = rw same (Contains-push r.queue n)
          queued_by m (inr there) = Contains-append_left r.queue (n ∷ []) m (s.queued m there)

          marked_by : (m : ℕ) → Contains r.queue m ⊎ (n ≡ m) → slice_get (set r.marks n true) m ≡ Some true
          marked_by m (inl c) = keeps r.marks n m (s.marked_is m c)
          marked_by m (inr same) = rw (← same) (sets r.marks n false e)

          reached_by : (m : ℕ) → Contains r.queue m ⊎ (n ≡ m) → R m
          reached_by m (inl c) = s.reached m c
          reached_by m (inr same) =
              let inside = slice_get_within r.marks n false e in
              let size_is = s.size_is in rw (← same) (may (omega (arith, inside, size_is)))

          room_by : length (r.queue ++ n ∷ []) + unset (set r.marks n true) ≡ size
          room_by =
              let less = one_less r.marks n e in
              let room = s.room in
              let more : length (r.queue ++ n ∷ []) ≡ length r.queue + 1 = length-append r.queue (n ∷ []) in
              omega (arith, less, room, more)

      by : (o : Option Bool) → slice_get r.marks n ≡ o → Sound R size (marked n o r)
      by (Some false) e = new e
      by (Some true) e = s
      by None e = s

  mark_all_sound : (ns : List ℕ) (r : Reach) → ((n : ℕ) → Contains ns n → n < size → R n) → Sound R size r
      → Sound R size (mark_all ns r)
  mark_all_sound [] r may s = s
  mark_all_sound (n ∷ ns) r may s =
      mark_all_sound ns (mark n r) (λ m c. may m (let (k, h, e) = c in (suc k, omega (arith, h), e)))
      (mark_sound n r (may n (0, omega arith, refl)) s)

mark_keeps : (n m : ℕ) (r : Reach) → slice_get r.marks m ≡ Some true → slice_get (mark n r).marks m ≡ Some true
mark_keeps n m r e = by (slice_get r.marks n)
  where
    by : (o : Option Bool) → slice_get (marked n o r).marks m ≡ Some true
    by (Some false) = keeps r.marks n m e
    by (Some true) = e
    by None = e

mark_all_keeps : (ns : List ℕ) (m : ℕ) (r : Reach) → slice_get r.marks m ≡ Some true → slice_get (mark_all ns r).marks m
    ≡ Some true
mark_all_keeps [] m r e = e
mark_all_keeps (n ∷ ns) m r e = mark_all_keeps ns m (mark n r) (mark_keeps n m r e)

mark_size : (n : ℕ) (r : Reach) → length (mark n r).marks ≡ length r.marks
mark_size n r = by (slice_get r.marks n)
  where
    by : (o : Option Bool) → length (marked n o r).marks ≡ length r.marks
    by (Some false) = length-set r.marks n true
    by (Some true) = refl
    by None = refl

within_some : {A : Type 0} (xs : List A) (n : ℕ) → n < length xs → slice_get xs n ≡ None → ⊥
within_some [] n h e = absurd (omega arith)
within_some (x ∷ xs) zero h e = cc
within_some (x ∷ xs) (suc n) h e = within_some xs n (omega arith) e

mark_here : (n : ℕ) (r : Reach) → n < length r.marks → slice_get (mark n r).marks n ≡ Some true
mark_here n r h = by (slice_get r.marks n) refl
  where
    by : (o : Option Bool) → slice_get r.marks n ≡ o → slice_get (marked n o r).marks n ≡ Some true
    by (Some false) e = sets r.marks n false e
    by (Some true) e = e
    by None e = absurd (within_some r.marks n h e)

mark_all_here : (ns : List ℕ) (m : ℕ) (r : Reach) → m < length r.marks → Contains ns m
    → slice_get (mark_all ns r).marks m ≡ Some true
mark_all_here [] m r h c = absurd (contains_none m c)
mark_all_here (n ∷ ns) m r h c = elim (contains_cases n ns m c) [
  | inl same ↦ mark_all_keeps ns m (mark n r) (rw same (mark_here m r h))
  | inr d ↦ mark_all_here ns m (mark n r) (rw (mark_size n r) h) d
]

-- what stands in the queue stays there
abbrev Extends : Reach → Reach → Type 0
Extends r s = (length r.queue ≤ length s.queue)
    × ((i : ℕ) → i < length r.queue → slice_get s.queue i ≡ slice_get r.queue i)

mark_extends : (n : ℕ) (r : Reach) → Extends r (mark n r)
mark_extends n r = by (slice_get r.marks n)
  where
    by : (o : Option Bool) → Extends r (marked n o r)
    by (Some false) = (
      let more : length (r.queue ++ n ∷ []) ≡ length r.queue + 1 = length-append r.queue (n ∷ []) in
          omega (arith, more),
      λ i h. older r.queue n i h,
    )
    by (Some true) = (omega arith, λ i h. refl)
    by None = (omega arith, λ i h. refl)

mark_all_extends : (ns : List ℕ) (r : Reach) → Extends r (mark_all ns r)
mark_all_extends [] r = (omega arith, λ i h. refl)
mark_all_extends (n ∷ ns) r =
    let one = mark_extends n r in
    let rest = mark_all_extends ns (mark n r) in
    (omega (arith, one.0, rest.0), λ i h. rest.1 i (omega (arith, h, one.0)) ∙ one.1 i h)

before : (i n : ℕ) → i < n + 1 → (i < n) ⊎ (i ≡ n)
before i n h = elim (cases_lt i n) [ inl less ↦ inl less | inr more ↦ inr (omega (arith, h, more)) ]

-- ---- the search

module _ (seeds : List ℕ) (links : List (List ℕ)) where
  -- The links of the first numbers of the queue, this many, were looked at.
  pub record Reaching (done : ℕ) (r : Reach) : Type 0 where
    pub sound : Sound (Reached seeds links) (length links) r
    pub seeded : (n : ℕ) → n < length links → Contains seeds n → slice_get r.marks n ≡ Some true
    pub closed :
        (i m n : ℕ) (ns : List ℕ) → i < done → slice_get r.queue i ≡ Some m → slice_get links m ≡ Some ns
        → Contains ns n → n < length links →
        slice_get r.marks n ≡ Some true
    pub within : done ≤ length r.queue

  pub begins : Reaching 0 (mark_all seeds (fresh (length links)))
  begins = record {
    sound = mark_all_sound (Reached seeds links) (length links) seeds (fresh (length links)) (λ n c h. seed n h c)
        (fresh_sound (Reached seeds links) (length links));
    seeded = λ n h c. mark_all_here seeds n (fresh (length links)) (rw (length-replicate (length links) false) h) c;
    closed = λ i m n ns h e f c g. absurd (omega (arith, h));
    within = omega arith;
  }

  -- one more number of the queue is looked at
  passes : (done m : ℕ) (r : Reach) → Reaching done r → slice_get r.queue done ≡ Some m → slice_get links m ≡ None
      → Reaching (done + 1) r
  passes done m r s e none = record {
    sound = s.sound;
    seeded = s.seeded;
    closed = λ i k n ns h at f c g. by i k n ns at f c g (before i done h);
    within = let inside = slice_get_within r.queue done m e in omega (arith, inside);
  }
    where
      by : (i k n : ℕ) (ns : List ℕ) → slice_get r.queue i ≡ Some k → slice_get links k ≡ Some ns → Contains ns n
          → n < length links → (i < done) ⊎ (i ≡ done) → slice_get r.marks n ≡ Some true
      by i k n ns at f c g (inl h) = s.closed i k n ns h at f c g
      by i k n ns at f c g (inr same) =
          let there = rw same at at in let one : k ≡ m = cc in let f2 = rw one at f in absurd (cc)

  follows : (done m : ℕ) (next : List ℕ) (r : Reach) → Reaching done r → slice_get r.queue done ≡ Some m
      → slice_get links m ≡ Some next → Reaching (done + 1) (mark_all next r)
  follows done m next r s e some = record {
    sound = mark_all_sound (Reached seeds links) (length links) next r
        (λ n c h. link m n next (s.sound.reached m (at_found r.queue done m e)) some c h) s.sound;
    seeded = λ n h c. mark_all_keeps next n r (s.seeded n h c);
    closed = λ i k n ns h at f c g. by i k n ns at f c g (before i done h);
    within = let inside = slice_get_within r.queue done m e in let longer = extends.0 in omega (arith, inside, longer);
  }
    where
      extends : Extends r (mark_all next r)
      extends = mark_all_extends next r

      by : (i k n : ℕ) (ns : List ℕ) → slice_get (mark_all next r).queue i ≡ Some k → slice_get links k ≡ Some ns
          → Contains ns n → n < length links → (i < done) ⊎ (i ≡ done)
          → slice_get (mark_all next r).marks n ≡ Some true
      by i k n ns at f c g (inl h) =
          let inside = s.within in
          let was : slice_get r.queue i ≡ Some k = sym (extends.1 i (omega (arith, h, inside))) ∙ at in
          mark_all_keeps next n r (s.closed i k n ns h was f c g)
      by i k n ns at f c g (inr same) =
          let inside = slice_get_within r.queue done m e in
          let was : slice_get r.queue done ≡ Some k = sym (extends.1 done inside) ∙ (rw same at at) in
          let one : k ≡ m = cc in
          let f2 = rw one at f in
          let all : next ≡ ns = cc in
          mark_all_here next n r (let size = s.sound.size_is in omega (arith, g, size)) (rw all c)

  pub goes : (done m : ℕ) (r : Reach) → Reaching done r → slice_get r.queue done ≡ Some m
      → Reaching (done + 1) (follow m links r)
  goes done m r s e = by (slice_get links m) refl
    where
      by : (o : Option (List ℕ)) → slice_get links m ≡ o → Reaching (done + 1) (followed o r)
      by None f = passes done m r s e f
      by (Some next) f = follows done m next r s e f

  past : (done : ℕ) (r : Reach) → slice_get r.queue done ≡ None → length r.queue ≤ done
  past done r e = elim (cases_lt done (length r.queue)) [ inl h ↦ absurd (within_some r.queue done h e) | inr h ↦ h ]

  pub ends : (done : ℕ) (r : Reach) → Reaching done r → slice_get r.queue done ≡ None → (n : ℕ)
      → (slice_get r.marks n ≡ Some true) ↔ Reached seeds links n
  ends done r s none n = (λ e. s.sound.reached n (s.sound.queued n e), back n)
    where
      h : length r.queue ≤ done
      h = past done r none

      back : (n : ℕ) → Reached seeds links n → slice_get r.marks n ≡ Some true
      back n (seed n2 inside c) = s.seeded n inside c
      back n (link m n2 ns there e c inside) =
          let (i, below, at) = found_at r.queue m (s.sound.queued m (back m there)) in
          s.closed i m n ns (omega (arith, below, h)) at e c inside

-- as long as there is a number to look at, fewer were looked at than there are
pub smaller : (seeds : List ℕ) (links : List (List ℕ)) (done m : ℕ) (r : Reach) → Reaching seeds links done r
    → slice_get r.queue done ≡ Some m → done < length links
smaller seeds links done m r s e =
    let inside = slice_get_within r.queue done m e in let room = s.sound.room in omega (arith, inside, room)
