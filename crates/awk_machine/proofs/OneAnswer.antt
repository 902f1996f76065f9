-- A question has one right answer.
use Rattle.std.proofs.Common.{◌≡◌, ℕ, Bool, true, false, List, ◌∷◌, ◌<◌, length, Option, refl, sym, ◌∙◌, ap, subst}
use Rattle.std.proofs.Common.{true≢false, arith}
use Rattle.std.specs.Prelude.{Some, None, option_to_list}
use Rattle.awk_ere.specs.Spelled.{Finds}
use Rattle.awk_ere.proofs.Unique.{memory_alone}
use Rattle.awk_fields.specs.Separators.{IsEre, IsNoEre}
use Rattle.awk_fields.proofs.Bests.{match_le}
use Rattle.awk_program.specs.Slots.{Text}
use Rattle.awk_machine.specs.Questions.{Question, Spells, Matches, Finds as FindsIn, Divides, Fields, Answer, Is}
use Rattle.awk_machine.specs.Questions.{Places, Texts, These, Right}
use Rattle.awk_lib.specs.Replacing as all
use Rattle.awk_lib.specs.Replacing.{AllFrom, Found, next_from, is_passed}
use Rattle.awk_ere.proofs.Alone.{one_finding, one_test}
use Rattle.awk_fields.proofs.Alone.{one_list, one_row}

the_some : {A : Type 0} {x y : A} → Some x ≡ Some y → x ≡ y
the_some e = cc

none_some : {A : Type 0} {x : A} → None ≡ Some x → ⊥
none_some e = cc

-- ---- all that gsub replaces

module _ (source text : Text) where
  same_match : {from : ℕ} {m n : ℕ × ℕ} → Finds source text from (Some m) → Finds source text from (Some n) → m ≡ n
  same_match {from = from} {m = m} {n = n} h g = the_some (one_finding source text from (Some m) (Some n) h g)

  no_match : {from : ℕ} {m : ℕ × ℕ} → Finds source text from None → Finds source text from (Some m) → ⊥
  no_match {from = from} {m = m} h g = none_some (one_finding source text from None (Some m) h g)

  outside : {from : ℕ} {m : ℕ × ℕ} → length text < from → Finds source text from (Some m) → ⊥
  outside {m = m} h (p, is, best) = let le = match_le text p m.0 m.1 best.matches in
      omega (arith, best.after, best.within)

  one_all : {from : ℕ} {last : Option ℕ} {ms ns : List (ℕ × ℕ)} → AllFrom source text from last ms
      → AllFrom source text from last ns → ms ≡ ns
  one_all (all.behind from last h) (all.behind a b g) = refl
  one_all (all.behind from last h) (all.no_more a b g) = refl
  one_all (all.behind from last h) (all.passed a b m rest g i c) = absurd (outside h g)
  one_all (all.behind from last h) (all.then_one a b m rest g i c) = absurd (outside h g)
  one_all (all.no_more from last h) (all.behind a b g) = refl
  one_all (all.no_more from last h) (all.no_more a b g) = refl
  one_all (all.no_more from last h) (all.passed a b m rest g i c) = absurd (no_match h g)
  one_all (all.no_more from last h) (all.then_one a b m rest g i c) = absurd (no_match h g)
  one_all (all.passed from last m rest h i c) (all.behind a b g) = absurd (outside g h)
  one_all (all.passed from last m rest h i c) (all.no_more a b g) = absurd (no_match g h)
  one_all (all.passed from last m rest h i c) (all.passed a b n more g j d) =
      one_all c (subst (λ x. AllFrom source text (next_from x) last more) (same_match g h) d)
  one_all (all.passed from last m rest h i c) (all.then_one a b n more g j d) =
      absurd (true≢false (sym i ∙ ap (is_passed last) (same_match h g) ∙ j))
  one_all (all.then_one from last m rest h i c) (all.behind a b g) = absurd (outside g h)
  one_all (all.then_one from last m rest h i c) (all.no_more a b g) = absurd (no_match g h)
  one_all (all.then_one from last m rest h i c) (all.passed a b n more g j d) =
      absurd (true≢false (sym j ∙ ap (is_passed last) (same_match g h) ∙ i))
  one_all (all.then_one from last m rest h i c) (all.then_one a b n more g j d) =
      let e = one_all c (subst (λ x. AllFrom source text (next_from x) (Some x.1) more) (same_match g h) d) in
      ap (λ xs. m ∷ xs) e ∙ ap (λ x. x ∷ more) (same_match h g)

  one_found : (b : Bool) (ms ns : List (ℕ × ℕ)) → Found source text b ms → Found source text b ns → ms ≡ ns
  one_found true ms ns h g = one_all h g
  one_found false ms ns (a, h, e) (b, g, d) = e ∙ ap option_to_list (one_finding source text 0 a b h g) ∙ sym d

-- ---- answers by their questions

both : (source : Text) → IsEre source → IsNoEre source → ⊥
both source (p, is) (code, differs, refused) = differs (memory_alone source code refused p is)

one_spelled : (source : Text) (b c : Bool) → Right (Spells source) (Is b) → Right (Spells source) (Is c) → b ≡ c
one_spelled source true true h g = refl
one_spelled source false false h g = refl
one_spelled source true false h g = absurd (both source h g)
one_spelled source false true h g = absurd (both source g h)

pub one_answer : (q : Question) (a b : Answer) → Right q a → Right q b → a ≡ b
one_answer (Spells source) (Is b) (Is c) h g = ap Is (one_spelled source b c h g)
one_answer (Spells source) (Is b) (Places ms) h g = absurd g
one_answer (Spells source) (Is b) (Texts xs) h g = absurd g
one_answer (Spells source) (Is b) (These vs) h g = absurd g
one_answer (Spells source) (Places ms) a h g = absurd h
one_answer (Spells source) (Texts xs) a h g = absurd h
one_answer (Spells source) (These vs) a h g = absurd h
one_answer (Matches source text) (Is b) (Is c) h g = ap Is (one_test source text b c h g)
one_answer (Matches source text) (Is b) (Places ms) h g = absurd g
one_answer (Matches source text) (Is b) (Texts xs) h g = absurd g
one_answer (Matches source text) (Is b) (These vs) h g = absurd g
one_answer (Matches source text) (Places ms) a h g = absurd h
one_answer (Matches source text) (Texts xs) a h g = absurd h
one_answer (Matches source text) (These vs) a h g = absurd h
one_answer (FindsIn source text all) (Places ms) (Places ns) h g = ap Places (one_found source text all ms ns h g)
one_answer (FindsIn source text all) (Places ms) (Is b) h g = absurd g
one_answer (FindsIn source text all) (Places ms) (Texts xs) h g = absurd g
one_answer (FindsIn source text all) (Places ms) (These vs) h g = absurd g
one_answer (FindsIn source text all) (Is b) a h g = absurd h
one_answer (FindsIn source text all) (Texts xs) a h g = absurd h
one_answer (FindsIn source text all) (These vs) a h g = absurd h
one_answer (Divides by text) (Texts xs) (Texts ys) h g = ap Texts (one_list by text xs ys h g)
one_answer (Divides by text) (Texts xs) (Is b) h g = absurd g
one_answer (Divides by text) (Texts xs) (Places ms) h g = absurd g
one_answer (Divides by text) (Texts xs) (These vs) h g = absurd g
one_answer (Divides by text) (Is b) a h g = absurd h
one_answer (Divides by text) (Places ms) a h g = absurd h
one_answer (Divides by text) (These vs) a h g = absurd h
one_answer (Fields row) (These vs) (These ws) h g = ap These (one_row row vs ws h g)
one_answer (Fields row) (These vs) (Is b) h g = absurd g
one_answer (Fields row) (These vs) (Places ms) h g = absurd g
one_answer (Fields row) (These vs) (Texts xs) h g = absurd g
one_answer (Fields row) (Is b) a h g = absurd h
one_answer (Fields row) (Places ms) a h g = absurd h
one_answer (Fields row) (Texts xs) a h g = absurd h
