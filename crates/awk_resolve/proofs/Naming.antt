-- Parameters that have a name which they cannot have.
use Rattle.std.proofs.Common.{◌≡◌, ◌∙◌, ◌⊎◌, ◌↔◌, inl, inr, ℕ, ◌+◌, ◌<◌, length, get_or, take, true, false, Bool, ◌||◌}
use Rattle.std.proofs.Common.{List, [], ◌∷◌, ◌++◌, refl, sym, ap, Option, Some, None, is_some, Decides, Contains}
use Rattle.std.proofs.lemmas.Bool.Decides.{Decides-or}
use Rattle.std.proofs.lemmas.List.{map_more}
use Rattle.std.proofs.lemmas.List.Elements.{Contains-append_left, Contains-append_right, Contains-push}
use Rattle.std.proofs.lemmas.List.Elements.{Contains-push_cases}
use Rattle.std.proofs.lemmas.Slice.Eq.{bytes_eq-Decides}
use Rattle.std.specs.Map.{lookup}
use Rattle.std.specs.Str.{bytes_eq}
use Rattle.awk_text.specs.declared.place.Place.{Place}
use Rattle.awk_tokens.specs.Words.{is_among}
use Rattle.awk_tree.specs.Tree.{Text}
use Rattle.awk_tree.specs.declared.names.Name.{Name}
use Rattle.awk_resolve.specs.Faults.{Misnamed, parameter_twice, as_function, as_variable}
use Rattle.awk_resolve.specs.Kinds.{texts, scalars, arrays}
use Rattle.awk_resolve.specs.Search.{Counts, Finds, Has, IsTaken, is_misnamed, Knows, MisnamedAt, ParameterAt}
use Rattle.awk_resolve.specs.TextTables.{with_text}
use Rattle.awk_resolve.specs.declared.mention.Role.{Role}
use Rattle.awk_resolve.specs.declared.mention.Role.TheVariants as role
use Rattle.awk_resolve.specs.declared.mention.Section.{Section}
use Rattle.awk_resolve.proofs.Lists.{contains_first, contains_later, contains_none, contains_cases}
use Rattle.awk_resolve.proofs.TableLemmas.{AfterPut, put_cases}

pub among_contains : (ws : List Text) (x : Text) → is_among ws x ≡ true → Contains ws x
among_contains [] x e = cc
among_contains (w ∷ ws) x e = by (bytes_eq w x) refl e (among_contains ws x)
  where
    by : (b : Bool) → bytes_eq w x ≡ b → (b || is_among ws x) ≡ true → (is_among ws x ≡ true → Contains ws x)
        → Contains (w ∷ ws) x
    by true h e2 rest = rw (← (bytes_eq-Decides w x).0 h) (contains_first w ws)
    by false h e2 rest = contains_later w ws x (rest e2)

pub contains_among : (ws : List Text) (x : Text) → Contains ws x → is_among ws x ≡ true
contains_among [] x c = absurd (contains_none x c)
contains_among (w ∷ ws) x c = by (contains_cases w ws x c) (contains_among ws x)
  where
    always : (b : Bool) → (b || true) ≡ true
    always true = refl
    always false = refl

    by : (w ≡ x) ⊎ Contains ws x → (Contains ws x → is_among ws x ≡ true) → is_among (w ∷ ws) x ≡ true
    by (inl same) rest = rw ((bytes_eq-Decides w x).1 same) refl
    by (inr d) rest = rw (rest d) (always (bytes_eq w x))

pub split_at : {A : Type 0} (xs : List A) (y : A) → Contains xs y → (mid : List A) × (after : List A)
    × (xs ≡ mid ++ y ∷ after)
split_at [] y c = absurd (contains_none y c)
split_at {A} (x ∷ xs) y c = by (contains_cases x xs y c) (split_at xs y)
  where
    by : (x ≡ y) ⊎ Contains xs y → (Contains xs y → (mid : List A) × (after : List A) × (xs ≡ mid ++ y ∷ after))
        → (mid : List A) × (after : List A) × (x ∷ xs ≡ mid ++ y ∷ after)
    by (inl same) rest = ([], xs, ap (λ z. z ∷ xs) same)
    by (inr d) rest = let (mid, after, e) = rest d in (x ∷ mid, after, ap (λ l. x ∷ l) e)

-- a table has the names of these parameters, and no others
abbrev pub Saw : List Name → List (Text × Place) → Type 0
Saw before seen = (x : Text) → Has seen x ↔ Contains (texts before) x

pub saw_none : Saw [] []
saw_none x = ((λ has. absurd (cc (has.1))), (λ c. absurd (contains_none x c)))

pub saw_more : (ps : List Name) (i : ℕ) (n : Name) (seen : List (Text × Place)) → i < length ps → n ≡ get_or ps i n
    → Saw (take i ps) seen → Saw (take (i + 1) ps) (with_text n.text n.place seen)
saw_more ps i n seen h e s x = by (put_cases n.text x n.place seen)
  where
    more : texts (take (i + 1) ps) ≡ texts (take i ps) ++ n.text ∷ []
    more = map_more (λ m. m.text) ps i n h ∙ ap (λ m. texts (take i ps) ++ m.text ∷ []) (sym e)

    by : AfterPut n.text x n.place seen → Has (with_text n.text n.place seen) x ↔ Contains (texts (take (i + 1) ps)) x
    by (inl (same, put)) = (
      (λ has. rw (more, ← same) (Contains-push (texts (take i ps)) n.text)),
      (λ c. (n.place, put)),
    )
    by (inr (other, put)) = (
      (λ has. rw more (Contains-append_left (texts (take i ps)) (n.text ∷ []) x ((s x).0 (has.0, sym put ∙ has.1)))),
      (λ c. elim (Contains-push_cases (texts (take i ps)) n.text x (rw more at c)) [
        | inl old ↦ let (v, l) = (s x).1 old in (v, put ∙ l)
        | inr same ↦ absurd (other same)
      ]),
    )

some_decides : {A : Type 0} (o : Option A) → Decides (is_some o) ((v : A) × (o ≡ Some v))
some_decides None = ((λ e. absurd (cc)), (λ some. absurd (cc (some.1))))
some_decides (Some v) = ((λ e. (v, refl)), (λ some. refl))

module _ (known : Counts) (before : List Name) (n : Name) (seen : List (Text × Place)) (s : Saw before seen) where
  bad_decides : Decides (is_misnamed known seen n) (Contains (texts before) n.text ⊎ IsTaken known n.text)
  bad_decides =
      let some = some_decides (lookup (bytes_eq n.text) seen) in
      Decides-or _ _ ((λ e. (s n.text).0 (some.0 e)), (λ c. some.1 ((s n.text).1 c)))
      (Decides-or _ _ (some_decides (lookup (bytes_eq n.text) known)) (
        among_contains (scalars ++ arrays) n.text,
        contains_among (scalars ++ arrays) n.text,
      ))

  pub is_bad : (b : Bool) → b ≡ is_misnamed known seen n → b ≡ true → ParameterAt known before n n.place
  is_bad b e is = (bad_decides.0 (sym e ∙ is), refl)

  pub is_fine : (b : Bool) → b ≡ is_misnamed known seen n → b ≡ false → Finds (ParameterAt known before n) None
  is_fine b e not_so q (bad, there) = let so = bad_decides.1 bad in cc

module _ (parts : List Section) (known : Counts) (k : Knows parts known) where
  pub misnamed_here : (p : Section) (q : Place) → Contains parts p → MisnamedAt known p.role q → Misnamed parts q
  misnamed_here p q c found = by p.role refl found
    where
      by : (r : Role) → p.role ≡ r → MisnamedAt known r q → Misnamed parts q
      by (role.Function f ps) e (before, after, n, parted, (bad, there)) = rw (← there) (sort bad)
        where
          inside : Contains ps n
          inside = rw parted (Contains-append_right before (n ∷ after) n (contains_first n after))

          sort : Contains (texts before) n.text ⊎ IsTaken known n.text → Misnamed parts n.place
          sort (inl twice) = parameter_twice f ps before after n (p, c, e) parted twice
          sort (inr (inl (m, l))) =
              let (g, gs, def, same, count) = (k n.text m).0 l in as_function f g ps gs n (p, c, e) inside def same
          sort (inr (inr variable)) = as_variable f ps n (p, c, e) inside variable
      by r e found = absurd found

  pub none_misnamed : ((p : Section) → Contains parts p → Finds (MisnamedAt known p.role) None) → (q : Place)
      → Misnamed parts q → ⊥
  none_misnamed none q (parameter_twice f ps before after n (p, c, e) parted twice) =
      none p c n.place (rw e (before, after, n, parted, (inl twice, refl)))
  none_misnamed none q (as_function f g ps gs n (p, c, e) inside def same) =
      let (before, after, parted) = split_at ps n inside in
      none p c n.place (rw e (
        before,
        after,
        n,
        parted,
        (inr (inl (length gs, (k n.text (length gs)).1 (g, gs, def, same, refl))), refl),
      ))
  none_misnamed none q (as_variable f ps n (p, c, e) inside variable) =
      let (before, after, parted) = split_at ps n inside in
      none p c n.place (rw e (before, after, n, parted, (inr (inr variable), refl)))
