-- No fault of names and words comes of places: parts without places have the faults of the parts.
use Rattle.std.proofs.Common.{◌≡◌, ◌∙◌, inl, inr, ℕ, List, [], ◌∷◌, ◌++◌, arith, suc, zero, length, map, ap, sym, refl}
use Rattle.std.proofs.Common.{subst, Option, Some, None, option_map, slice_get, Contains}
use Rattle.awk_text.specs.declared.place.Place.{Place}
use Rattle.awk_tree.specs.declared.names.Name.{Name}
use Rattle.awk_tree.specs.Tree.{Text}
use Rattle.awk_tree.specs.Canon.{bare_name}
use Rattle.awk_resolve.specs.declared.mention.Mention.{Mention}
use Rattle.awk_resolve.specs.declared.mention.Mention.TheVariants.{Scalar, Array, Measured, Call, Next, Return, Stray}
use Rattle.awk_resolve.specs.declared.mention.Role.{Role}
use Rattle.awk_resolve.specs.declared.mention.Role.TheVariants as role
use Rattle.awk_resolve.specs.declared.mention.Section.{Section}
use Rattle.awk_resolve.specs.Kinds as kinds
use Rattle.awk_resolve.specs.Kinds.{Kind, Named, texts, meant, Defines, Calls, Takes, Forced, Measures, Agrees}
use Rattle.awk_resolve.specs.Faults as faults
use Rattle.awk_resolve.specs.Faults.{Misplaced, Redefined, Miscalled, Misnamed, Misdefined}
use Rattle.awk_resolve.proofs.Lists.{contains_first, contains_later, contains_none, contains_cases}
use Rattle.awk_resolve.specs.Bare.{bare_mention, bare_role, bare_part}
use Rattle.awk_resolve.specs.Faultless.{Faultless, GivesArrays, FaultlessPlacesAside}
use Rattle.awk_resolve.specs.Mentions.{part}
use Rattle.awk_resolve.proofs.Bare.{bare_parts}

-- ---- mapped lists

contains_map : {A B : Type 0} (f : A → B) (xs : List A) (y : B) → Contains (map f xs) y → (x : A) × Contains xs x
    × (f x ≡ y)
contains_map f [] y c = absurd (contains_none y c)
contains_map f (x ∷ xs) y c =
    elim (contains_cases (f x) (map f xs) y c) [
      | inl e ↦ (x, contains_first x xs, e)
      | inr d ↦ (let (z, h, e) =
          contains_map f xs y d in (z, contains_later x xs z h, e))
    ]

map_contains : {A B : Type 0} (f : A → B) (xs : List A) (y : A) → Contains xs y → Contains (map f xs) (f y)
map_contains f [] y c = absurd (contains_none y c)
map_contains f (x ∷ xs) y c =
    elim (contains_cases x xs y c) [
      | inl e ↦ subst (λ z. Contains (f x ∷ map f xs) (f z)) e
          (contains_first (f x) (map f xs))
      | inr d ↦ contains_later (f x) (map f xs) (f y) (map_contains f xs y d)
    ]

longer : {A : Type 0} (x : A) (xs ys : List A) → xs ≡ ys → x ∷ xs ≡ x ∷ ys
longer x xs ys e = ap (λ l. x ∷ l) e

map_split : {A B : Type 0} (f : A → B) (xs : List A) (before : List B) (y : B) (after : List B)
    → map f xs ≡ before ++ y ∷ after →
    (b : List A) × (x : A) × (a : List A) × (xs ≡ b ++ x ∷ a) × (map f b ≡ before) × (f x ≡ y)
map_split f [] [] y after e = absurd (cc)
map_split f (x ∷ xs) [] y after e = ([], x, xs, refl, refl, cc)
map_split f [] (z ∷ before) y after e = absurd (cc)
map_split f (x ∷ xs) (z ∷ before) y after e =
    let (b, u, a, h, i, j) = map_split f xs before y after (cc) in (x ∷ b, u, a, longer x xs (b ++ u ∷ a) h, cc, j)

get_map : {A B : Type 0} (f : A → B) (xs : List A) (i : ℕ) (y : B) → slice_get (map f xs) i ≡ Some y → (x : A)
    × (slice_get xs i ≡ Some x) × (f x ≡ y)
get_map f [] i y e = absurd (cc)
get_map f (x ∷ xs) zero y e = (x, refl, cc)
get_map f (x ∷ xs) (suc i) y e = get_map f xs i y e

length_map : {A B : Type 0} (f : A → B) (xs : List A) → length (map f xs) ≡ length xs
length_map f [] = refl
length_map f (x ∷ xs) = ap (λ n. suc n) (length_map f xs)

texts_bare : (ns : List Name) → texts (map bare_name ns) ≡ texts ns
texts_bare [] = refl
texts_bare (n ∷ ns) = ap (λ l. n.text ∷ l) (texts_bare ns)

text_is : (n m : Name) → bare_name n ≡ m → n.text ≡ m.text
text_is n m e = ap (λ x. x.text) e

-- ---- what bare parts come of

next_back : (m : Mention) (place : Place) → bare_mention m ≡ Next place → (q : Place) × (m ≡ Next q)
next_back (Next q) place e = (q, refl)
next_back m place e = absurd (cc)

return_back : (m : Mention) (place : Place) → bare_mention m ≡ Return place → (q : Place) × (m ≡ Return q)
return_back (Return q) place e = (q, refl)
return_back m place e = absurd (cc)

stray_back : (m : Mention) (place : Place) → bare_mention m ≡ Stray place → (q : Place) × (m ≡ Stray q)
stray_back (Stray q) place e = (q, refl)
stray_back m place e = absurd (cc)

scalar_back : (m : Mention) (n : Name) → bare_mention m ≡ Scalar n → (x : Name) × (m ≡ Scalar x) × (bare_name x ≡ n)
scalar_back (Scalar x) n e = (x, refl, cc)
scalar_back m n e = absurd (cc)

array_back : (m : Mention) (n : Name) → bare_mention m ≡ Array n → (x : Name) × (m ≡ Array x) × (bare_name x ≡ n)
array_back (Array x) n e = (x, refl, cc)
array_back m n e = absurd (cc)

measured_back : (m : Mention) (n : Name) → bare_mention m ≡ Measured n → (x : Name) × (m ≡ Measured x)
    × (bare_name x ≡ n)
measured_back (Measured x) n e = (x, refl, cc)
measured_back m n e = absurd (cc)

call_back : (m : Mention) (f : Name) (args : List (Option Name)) → bare_mention m ≡ Call f args →
    (g : Name) × (given : List (Option Name)) × (m ≡ Call g given) × (bare_name g ≡ f)
    × (map (option_map bare_name) given ≡ args)
call_back (Call g given) f args e = (g, given, refl, cc, cc)
call_back m f args e = absurd (cc)

begin_back : (r : Role) → bare_role r ≡ role.Begin → r ≡ role.Begin
begin_back role.Begin e = refl
begin_back r e = absurd (cc)

end_back : (r : Role) → bare_role r ≡ role.End → r ≡ role.End
end_back role.End e = refl
end_back r e = absurd (cc)

function_back : (r : Role) (f : Name) (fs : List Name) → bare_role r ≡ role.Function f fs → (g : Name)
    × (gs : List Name) × (r ≡ role.Function g gs) × (bare_name g ≡ f) × (map bare_name gs ≡ fs)
function_back (role.Function g gs) f fs e = (g, gs, refl, cc, cc)
function_back r f fs e = absurd (cc)

some_back : (o : Option Name) (n : Name) → option_map bare_name o ≡ Some n → (m : Name) × (o ≡ Some m)
    × (bare_name m ≡ n)
some_back (Some m) n e = (m, refl, cc)
some_back None n e = absurd (cc)

none_back : (o : Option Name) → option_map bare_name o ≡ None → o ≡ None
none_back None e = refl
none_back (Some m) e = absurd (cc)

mention_in : (p q : Section) (m : Mention) → bare_part q ≡ p → Contains p.mentions m
    → Contains (map bare_mention q.mentions) m
mention_in p q m s d = subst (λ w. Contains w.mentions m) (sym s) d

role_of : (p q : Section) → bare_part q ≡ p → bare_role q.role ≡ p.role
role_of p q s = ap (λ w. w.role) s

defines_back : (ps : List Section) (f : Name) (fs : List Name) → Defines (map bare_part ps) f fs →
    (g : Name) × (gs : List Name) × Defines ps g gs × (bare_name g ≡ f) × (map bare_name gs ≡ fs)
defines_back ps f fs (p, c, e) =
    let (q, d, s) = contains_map bare_part ps p c in
    let (g, gs, h, i, j) = function_back q.role f fs (role_of p q s ∙ e) in (g, gs, (q, d, h), i, j)

defines_bare : (ps : List Section) (f : Name) (fs : List Name) → Defines ps f fs
    → Defines (map bare_part ps) (bare_name f) (map bare_name fs)
defines_bare ps f fs (p, c, e) = (bare_part p, map_contains bare_part ps p c, ap bare_role e)

calls_back : (ps : List Section) (r : Role) (f : Name) (args : List (Option Name)) → Calls (map bare_part ps) r f args →
    (s : Role) × (g : Name) × (given : List (Option Name)) × Calls ps s g given × (bare_role s ≡ r) × (bare_name g ≡ f)
    × (map (option_map bare_name) given ≡ args)
calls_back ps r f args (p, c, e, d) =
    let (q, c', s) = contains_map bare_part ps p c in
    let (m, d', h) = contains_map bare_mention q.mentions (Call f args) (mention_in p q (Call f args) s d) in
    let (g, given, i, j, k) = call_back m f args h in
    (q.role, g, given, (q, c', refl, subst (λ w. Contains q.mentions w) i d'), role_of p q s ∙ e, j, k)

-- ---- words

misplaced_back : (ps : List Section) (place : Place) → Misplaced (map bare_part ps) place → (q : Place) × Misplaced ps q
misplaced_back ps place (faults.next_in_begin p place' c e d) =
    let (q, c', s) = contains_map bare_part ps p c in
    let (m, d', h) = contains_map bare_mention q.mentions (Next place') (mention_in p q (Next place') s d) in
    let (x, i) = next_back m place' h in
    (x, faults.next_in_begin q x c' (begin_back q.role (role_of p q s ∙ e)) (subst (λ w. Contains q.mentions w) i d'))
misplaced_back ps place (faults.next_in_end p place' c e d) =
    let (q, c', s) = contains_map bare_part ps p c in
    let (m, d', h) = contains_map bare_mention q.mentions (Next place') (mention_in p q (Next place') s d) in
    let (x, i) = next_back m place' h in
    (x, faults.next_in_end q x c' (end_back q.role (role_of p q s ∙ e)) (subst (λ w. Contains q.mentions w) i d'))
misplaced_back ps place (faults.return_outside p place' c n d) =
    let (q, c', s) = contains_map bare_part ps p c in
    let (m, d', h) = contains_map bare_mention q.mentions (Return place') (mention_in p q (Return place') s d) in
    let (x, i) = return_back m place' h in (
      x,
      faults.return_outside q x c' (λ f fs e. n (bare_name f) (map bare_name fs) (sym (role_of p q s)
          ∙ ap bare_role e)) (subst (λ w. Contains q.mentions w) i d'),
    )
misplaced_back ps place (faults.outside_loop p place' c d) =
    let (q, c', s) = contains_map bare_part ps p c in
    let (m, d', h) = contains_map bare_mention q.mentions (Stray place') (mention_in p q (Stray place') s d) in
    let (x, i) = stray_back m place' h in
    (x, faults.outside_loop q x c' (subst (λ w. Contains q.mentions w) i d'))

-- ---- functions and parameters

redefined_back : (ps : List Section) (place : Place) → Redefined (map bare_part ps) place → (q : Place) × Redefined ps q
redefined_back ps place (faults.twice before after p f g fs gs split e d same) =
    let (b, q, a, h, i, j) = map_split bare_part ps before p after split in
    let (f', fs', k, l, l') = function_back q.role f fs (role_of p q j ∙ e) in
    let (g', gs', d', n, n') = defines_back b g gs (subst (λ w. Defines w g gs) (sym i) d) in
    (f'.place, faults.twice b a q f' g' fs' gs' h k d' (text_is g' g n ∙ same ∙ sym (text_is f' f l)))

miscalled_back : (ps : List Section) (place : Place) → Miscalled (map bare_part ps) place → (q : Place) × Miscalled ps q
miscalled_back ps place (faults.undefined r f args c n) =
    let (s, f', given, c', i, j, k) = calls_back ps r f args c in (
      f'.place,
      faults.undefined s f' given c' (λ g gs d e. n (bare_name g) (map bare_name gs) (defines_bare ps g gs d)
          (e ∙ text_is f' f j)),
    )
miscalled_back ps place (faults.too_many r f g args fs c d e l) =
    let (s, f', given, c', i, j, k) = calls_back ps r f args c in
    let (g', gs', d', n, n') = defines_back ps g fs d in (
      f'.place,
      faults.too_many s f' g' given gs' c' d' (text_is g' g n ∙ e ∙ sym (text_is f' f j))
          (omega (
            arith,
            l,
            ap length n',
            ap length k,
            length_map bare_name gs',
            length_map (option_map bare_name) given,
          )),
    )

misnamed_back : (ps : List Section) (place : Place) → Misnamed (map bare_part ps) place → (q : Place) × Misnamed ps q
misnamed_back ps place (faults.parameter_twice f fs before after q d split c) =
    let (f', fs', d', i, j) = defines_back ps f fs d in
    let (b, x, a, h, k, l) = map_split bare_name fs' before q after (j ∙ split) in (
      x.place,
      faults.parameter_twice f' fs' b a x d' h
          (subst (λ w. Contains w x.text) (texts_bare b) (subst (λ w. Contains (texts (map bare_name b)) w)
          (sym (text_is x q l)) (subst (λ w. Contains (texts w) q.text) (sym k) c))),
    )
misnamed_back ps place (faults.as_function f g fs gs q d c d2 e) =
    let (f', fs', d', i, j) = defines_back ps f fs d in
    let (x, c', h) = contains_map bare_name fs' q (subst (λ w. Contains w q) (sym j) c) in
    let (g', gs', d2', k, l) = defines_back ps g gs d2 in
    (x.place, faults.as_function f' g' fs' gs' x d' c' d2' (text_is g' g k ∙ e ∙ sym (text_is x q h)))
misnamed_back ps place (faults.as_variable f fs q d c v) =
    let (f', fs', d', i, j) = defines_back ps f fs d in
    let (x, c', h) = contains_map bare_name fs' q (subst (λ w. Contains w q) (sym j) c) in (
      x.place,
      faults.as_variable f' fs' x d' c' (subst (λ w. Contains (kinds.scalars ++ kinds.arrays) w)
          (sym (text_is x q h)) v),
    )

misdefined_back : (ps : List Section) (place : Place) → Misdefined (map bare_part ps) place → (q : Place)
    × Misdefined ps q
misdefined_back ps place (faults.redefined place' h) =
    let (q, i) = redefined_back ps place' h in (q, faults.redefined q i)
misdefined_back ps place (faults.misnamed place' h) = let (q, i) = misnamed_back ps place' h in (q, faults.misnamed q i)
misdefined_back ps place (faults.miscalled place' h) =
    let (q, i) = miscalled_back ps place' h in (q, faults.miscalled q i)

-- ---- kinds

meant_bare : (r : Role) (x : Text) → meant (bare_role r) x ≡ meant r x
meant_bare role.Begin x = refl
meant_bare role.End x = refl
meant_bare role.Rule x = refl
meant_bare (role.Function f fs) x = rw (texts_bare fs) refl

meant_is : (r s : Role) (n m : Name) → bare_role s ≡ r → bare_name m ≡ n → meant s m.text ≡ meant r n.text
meant_is r s n m e d = sym (meant_bare s m.text) ∙ ap (λ w. meant w m.text) e ∙ ap (λ w. meant r w) (text_is m n d)

takes_back : (ps : List Section) (f : Text) (i : ℕ) (q : Name) → Takes (map bare_part ps) f i q → (x : Name)
    × Takes ps f i x × (bare_name x ≡ q)
takes_back ps f i q (g, gs, d, e, h) =
    let (g', gs', d', j, k) = defines_back ps g gs d in
    let (x, l, n) = get_map bare_name gs' i q (ap (λ w. slice_get w i) k ∙ h) in
    (x, (g', gs', d', text_is g' g j ∙ e, l), n)

parameter_is : (f q f' q' : Name) → bare_name f' ≡ f → bare_name q' ≡ q → kinds.parameter f.text q.text
    ≡ kinds.parameter f'.text q'.text
parameter_is f q f' q' e d = rw (text_is f' f e, text_is q' q d) refl

measures_back : (ps : List Section) (n : Named) → Measures (map bare_part ps) n → Measures ps n
measures_back ps n (kinds.asked p x c d) =
    let (q, c', s) = contains_map bare_part ps p c in
    let (m, d', h) = contains_map bare_mention q.mentions (Measured x) (mention_in p q (Measured x) s d) in
    let (y, i, j) = measured_back m x h in
    subst (λ w. Measures ps w) (meant_is p.role q.role x y (role_of p q s) j)
    (kinds.asked q y c' (subst (λ w. Contains q.mentions w) i d'))
measures_back ps n (kinds.handed_on r f args i x q c a t h) =
    let (s, f', given, c', b, j, l) = calls_back ps r f args c in
    let (o, a', u) = get_map (option_map bare_name) given i (Some x) (ap (λ w. slice_get w i) l ∙ a) in
    let (y, v, z) = some_back o x u in
    let (q', t', w) = takes_back ps f.text i q t in
    subst (λ n'. Measures ps n') (meant_is r s x y b z)
    (kinds.handed_on s f' given i y q' c' (a' ∙ ap Some v) (subst (λ g. Takes ps g i q') (sym (text_is f' f j)) t')
    (subst (λ n'. Measures ps n') (parameter_is f q f' q' j w) (measures_back ps (kinds.parameter f.text q.text) h)))

forced_back : (ps : List Section) (n : Named) (k : Kind) → Forced (map bare_part ps) n k → Forced ps n k
forced_back ps n k (kinds.own_scalar x c) = kinds.own_scalar x c
forced_back ps n k (kinds.own_array x c) = kinds.own_array x c
forced_back ps n k (kinds.defined f fs d) =
    let (g, gs, d', i, j) = defines_back ps f fs d in
    subst (λ w. Forced ps (kinds.global w) kinds.function) (text_is g f i) (kinds.defined g gs d')
forced_back ps n k (kinds.read_or_set p x c d) =
    let (q, c', s) = contains_map bare_part ps p c in
    let (m, d', h) = contains_map bare_mention q.mentions (Scalar x) (mention_in p q (Scalar x) s d) in
    let (y, i, j) = scalar_back m x h in
    subst (λ w. Forced ps w kinds.scalar) (meant_is p.role q.role x y (role_of p q s) j)
    (kinds.read_or_set q y c' (subst (λ w. Contains q.mentions w) i d'))
forced_back ps n k (kinds.subscripted p x c d) =
    let (q, c', s) = contains_map bare_part ps p c in
    let (m, d', h) = contains_map bare_mention q.mentions (Array x) (mention_in p q (Array x) s d) in
    let (y, i, j) = array_back m x h in
    subst (λ w. Forced ps w kinds.array) (meant_is p.role q.role x y (role_of p q s) j)
    (kinds.subscripted q y c' (subst (λ w. Contains q.mentions w) i d'))
forced_back ps n k (kinds.measured_function p x g gs c d def e) =
    let (q, c', s) = contains_map bare_part ps p c in
    let (m, d', h) = contains_map bare_mention q.mentions (Measured x) (mention_in p q (Measured x) s d) in
    let (y, i, j) = measured_back m x h in
    let (g', gs', def', t, t') = defines_back ps g gs def in
    subst (λ w. Forced ps (kinds.global w) kinds.scalar) (text_is g' g t)
    (kinds.measured_function q y g' gs' c' (subst (λ w. Contains q.mentions w) i d') def'
    (meant_is p.role q.role x y (role_of p q s) j ∙ e ∙ ap kinds.global (sym (text_is g' g t))))
forced_back ps n k (kinds.handed_function r f args x g gs c a d e) =
    let (s, f', given, c', i, j, l) = calls_back ps r f args c in
    let (o, a', h) = contains_map (option_map bare_name) given (Some x) (subst (λ w. Contains w (Some x)) (sym l) a) in
    let (y, u, v) = some_back o x h in
    let (g', gs', d', t, t') = defines_back ps g gs d in
    subst (λ w. Forced ps (kinds.global w) kinds.scalar) (text_is g' g t)
    (kinds.handed_function s f' given y g' gs' c' (subst (λ w. Contains given w) u a') d' (meant_is r s x y i v ∙ e
    ∙ ap kinds.global (sym (text_is g' g t))))
forced_back ps n k (kinds.handed r f args i x q kind c a t h) =
    let (s, f', given, c', b, j, l) = calls_back ps r f args c in
    let (o, a', u) = get_map (option_map bare_name) given i (Some x) (ap (λ w. slice_get w i) l ∙ a) in
    let (y, v, z) = some_back o x u in
    let (q', t', w) = takes_back ps f.text i q t in
    subst (λ n'. Forced ps n' kind) (meant_is r s x y b z)
    (kinds.handed s f' given i y q' kind c' (a' ∙ ap Some v) (subst (λ g. Takes ps g i q') (sym (text_is f' f j)) t')
    (subst (λ g. Forced ps (kinds.parameter g q'.text) kind) (sym (text_is f' f j))
    (subst (λ g. Forced ps (kinds.parameter f.text g) kind) (sym (text_is q' q w))
    (forced_back ps (kinds.parameter f.text q.text) kind h))))
forced_back ps n k (kinds.measured r f args i x q c a t asks h) =
    let (s, f', given, c', b, j, l) = calls_back ps r f args c in
    let (o, a', u) = get_map (option_map bare_name) given i (Some x) (ap (λ w. slice_get w i) l ∙ a) in
    let (y, v, z) = some_back o x u in
    let (q', t', w) = takes_back ps f.text i q t in
    subst (λ n'. Forced ps n' kinds.array) (sym (parameter_is f q f' q' j w))
    (kinds.measured s f' given i y q' c' (a' ∙ ap Some v) (subst (λ g. Takes ps g i q') (sym (text_is f' f j)) t')
    (subst (λ n'. Measures ps n') (parameter_is f q f' q' j w) (measures_back ps (kinds.parameter f.text q.text) asks))
    (subst (λ n'. Forced ps n' kinds.array) (sym (meant_is r s x y b z))
    (forced_back ps (meant r x.text) kinds.array h)))

agrees_bare : (ps : List Section) → Agrees ps → Agrees (map bare_part ps)
agrees_bare ps h n k l a b = h n k l (forced_back ps n k a) (forced_back ps n l b)

gives_bare : (ps : List Section) → GivesArrays ps → GivesArrays (map bare_part ps)
gives_bare ps h r f args i q c a t d =
    let (s, f', given, c', b, j, l) = calls_back ps r f args c in
    let (o, a', u) = get_map (option_map bare_name) given i None (ap (λ w. slice_get w i) l ∙ a) in
    let (q', t', w) = takes_back ps f.text i q t in
    h s f' given i q' c' (a' ∙ ap Some (none_back o u)) (subst (λ g. Takes ps g i q') (sym (text_is f' f j)) t')
    (subst (λ g. Forced ps (kinds.parameter g q'.text) kinds.array) (sym (text_is f' f j))
    (subst (λ g. Forced ps (kinds.parameter f.text g) kinds.array) (sym (text_is q' q w))
    (forced_back ps (kinds.parameter f.text q.text) kinds.array d)))

faultless_bare : (ps : List Section) → Faultless ps → Faultless (map bare_part ps)
faultless_bare ps h = record {
  placed = λ place m. (let (q, i) = misplaced_back ps place m in h.placed q i);
  defined = λ place m. (let (q, i) = misdefined_back ps place m in h.defined q i);
  agrees = agrees_bare ps h.agrees;
  gives = gives_bare ps h.gives;
}

pub faultless_places_aside : FaultlessPlacesAside
faultless_places_aside items h = rw (bare_parts items) (faultless_bare (map part items) h)
