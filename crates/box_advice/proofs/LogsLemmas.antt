-- Lemmas on the lines of a log.
use Rattle.std.proofs.Common.{◌≡◌, ℕ, ◌<◌, ◌≤◌, ◌+◌, ◌^◌, Bool, true, false, cond, List, [], ◌∷◌, ◌++◌, length}
use Rattle.std.proofs.Common.{length-append, get_or, refl, sym, ap, subst, ◌∙◌, append_assoc, inl, inr, arith}
use Rattle.std.specs.Prelude.{◌==◌, ◌⊎◌, All, IfOk, IfSome, Result, Ok, Err, Option, Some, None, codes, if◌then◌else◌}
use Rattle.std.specs.List.{concat}
use Rattle.std.specs.Fmt.{decimal}
use Rattle.std.proofs.lemmas.Bool.{eqb-true}
use Rattle.std.proofs.lemmas.List.{append_cancel_right}
use Rattle.awk_text.specs.Quoted.{quoted}
use Rattle.awk_text.specs.declared.place.Place.{Place}
use Rattle.box_audit.specs.Audited.{line_of as audit_line, outcome_word}
use Rattle.box_monitor.specs.Lines.{kind_word, line_of as log_line, rule_word}
use Rattle.box_monitor.specs.Subjects.{Subject}
use Rattle.box_policy.specs.declared.policy.Kind.{Kind}
use Rattle.box_policy.specs.declared.policy.Kind.TheVariants.{Read, Write, Append, Run, Env, Assign}
use Rattle.box_advice.specs.LogLines.{HasNo, IsPlace, IsWord, joined, place_text}
use Rattle.box_advice.specs.Logs.{AreLines, Fails, Gathers, IsDenial, IsLogRefused, IsPassed, IsRead, IsRule, Tells}
use Rattle.box_advice.specs.Logs.{with_wish}
use Rattle.box_advice.specs.declared.denials.LogError.TheVariants.{Line}
use Rattle.box_advice.specs.declared.wishes.Wish.{Wish}
use Rattle.box_advice.proofs.LogLinesLemmas.{no_blank}

-- ---- words

abbrev decoded : List ℕ → Kind
decoded word =
    if get_or word 0 0 == 114 then (if get_or word 1 0 == 101 then Read else Run)
    else (if get_or word 0 0 == 119 then Write else (if get_or word 0 0 == 101 then Env
    else (if get_or word 1 0 == 112 then Append else Assign)))

decodes : (kind : Kind) → decoded (kind_word kind) ≡ kind
decodes Read = refl
decodes Write = refl
decodes Append = refl
decodes Run = refl
decodes Env = refl
decodes Assign = refl

-- a word is that of one kind alone
pub kind_is : (word : List ℕ) (one other : Kind) → word ≡ kind_word one → word ≡ kind_word other → one ≡ other
kind_is word one other a b = sym (decodes one) ∙ ap decoded (sym a ∙ b) ∙ decodes other

pub no_blank_in_kind : (kind : Kind) → HasNo 32 (kind_word kind)
no_blank_in_kind Read = (refl, (refl, (refl, (refl, tt))))
no_blank_in_kind Write = (refl, (refl, (refl, (refl, (refl, tt)))))
no_blank_in_kind Append = (refl, (refl, (refl, (refl, (refl, (refl, tt))))))
no_blank_in_kind Run = (refl, (refl, (refl, tt)))
no_blank_in_kind Env = (refl, (refl, (refl, tt)))
no_blank_in_kind Assign = (refl, (refl, (refl, (refl, (refl, (refl, tt))))))

pub no_blank_in_word : (word : List ℕ) → IsWord word → HasNo 32 word
no_blank_in_word word (inl e) = subst (HasNo 32) (sym e) (refl, (refl, (refl, (refl, tt))))
no_blank_in_word word (inr (inl e)) = subst (HasNo 32) (sym e) (refl, (refl, tt))
no_blank_in_word word (inr (inr (inl e))) = subst (HasNo 32) (sym e) (refl, (refl, (refl, (refl, (refl, (refl, tt))))))
no_blank_in_word word (inr (inr (inr h))) = subst (HasNo 32) (sym h.2) (no_blank h.0 h.1)

-- ---- a line

line_form : (line column kind word quoted : List ℕ)
    → concat (line ∷ codes ":" ∷ column ∷ codes " " ∷ kind ∷ codes " " ∷ word ∷ codes " \"" ∷ []) ++ quoted
    ++ codes "\"\n"
    ≡ joined (line ++ 58 ∷ column) kind word quoted ++ 10 ∷ []
line_form line column kind word quoted = simp append_assoc

pub denial_joined : (text : List ℕ) (place : Place) (subject : Subject) → IsDenial text place subject
    → (word : List ℕ) × IsWord word
    × (text ≡ joined (place_text place) (kind_word subject.kind) word (quoted subject.text))
denial_joined text place subject h = (
  rule_word h.0,
  word h.0 h.1,
  append_cancel_right text _ (10 ∷ []) (h.2
      ∙ line_form (decimal place.line) (decimal place.column) (kind_word subject.kind) (rule_word h.0)
      (quoted subject.text)),
)
  where
    word : (rule : Option ℕ) → IsRule rule → IsWord (rule_word rule)
    word None small = inl refl
    word (Some n) small = inr (inr (inr (n, small, refl)))

pub passed_joined : (text : List ℕ) (place : Place) (subject : Subject) → IsPassed text place subject
    → (word : List ℕ) × IsWord word
    × (text ≡ joined (place_text place) (kind_word subject.kind) word (quoted subject.text))
passed_joined text place subject h = (
  outcome_word h.0,
  word h.0,
  append_cancel_right text _ (10 ∷ []) (h.1
      ∙ line_form (decimal place.line) (decimal place.column) (kind_word subject.kind) (outcome_word h.0)
      (quoted subject.text)),
)
  where
    word : (failed : Bool) → IsWord (outcome_word failed)
    word false = inr (inl refl)
    word true = inr (inr (inl refl))

-- what a line that a run writes is made of
pub tells_joined : (number : ℕ) (text : List ℕ) (wish : Wish) (t : Tells number text wish)
    → (word : List ℕ) × IsWord word
    × (text ≡ joined (place_text t.place) (kind_word t.subject.kind) word (quoted t.subject.text))
tells_joined number text wish t = by t.written
  where
    by : IsDenial text t.place t.subject ⊎ IsPassed text t.place t.subject
        → (word : List ℕ) × IsWord word
        × (text ≡ joined (place_text t.place) (kind_word t.subject.kind) word (quoted t.subject.text))
    by (inl h) = denial_joined text t.place t.subject h
    by (inr h) = passed_joined text t.place t.subject h

-- and what is made so is one
pub joined_written : (text : List ℕ) (place : Place) (subject : Subject) (word : List ℕ) → IsWord word
    → text ≡ joined (place_text place) (kind_word subject.kind) word (quoted subject.text)
    → IsDenial text place subject ⊎ IsPassed text place subject
joined_written text place subject word is e = by is
  where
    form : (w : List ℕ) → word ≡ w
        → text ++ 10 ∷ [] ≡ concat (decimal place.line ∷ codes ":" ∷ decimal place.column ∷ codes " " ∷ kind_word
        subject.kind
        ∷ codes " " ∷ w ∷ codes " \"" ∷ []) ++ quoted subject.text ++ codes "\"\n"
    form w same =
        ap (λ t. t ++ 10 ∷ []) (e ∙ ap (λ v. joined (place_text place) (kind_word subject.kind) v (quoted subject.text))
        same)
        ∙ sym (line_form (decimal place.line) (decimal place.column) (kind_word subject.kind) w (quoted subject.text))

    by : IsWord word → IsDenial text place subject ⊎ IsPassed text place subject
    by (inl h) = inl (None, tt, form (rule_word None) h)
    by (inr (inl h)) = inr (false, form (outcome_word false) h)
    by (inr (inr (inl h))) = inr (true, form (outcome_word true) h)
    by (inr (inr (inr h))) = inl (Some h.0, h.1, form (rule_word (Some h.0)) h.2)

abbrev pub subject_at : Kind → List ℕ → Subject
subject_at kind text = record { kind = kind; text = text }

-- what is so of a wish that may have been found is so in other words
pub all_tell : {E : Type 0} (r : Result (Option Wish) E) (P Q : Wish → Type 0) → ((wish : Wish) → P wish → Q wish)
    → IfOk r (λ found. IfSome found P) → IfOk r (λ found. IfSome found Q)
all_tell (Ok (Some wish)) P Q change h = change wish h
all_tell (Ok None) P Q change h = h
all_tell (Err e) P Q change h = h

-- ---- all lines

-- every text is lines
lines_exist : (text : List ℕ) → (lines : List (List ℕ)) × AreLines text lines
lines_exist [] = ([], refl)
lines_exist (byte ∷ text) = more (lines_exist text).0 (lines_exist text).1 (byte == 10) refl
  where
    more : (lines : List (List ℕ)) → AreLines text lines → (is_end : Bool) → (byte == 10) ≡ is_end
        → (all : List (List ℕ)) × AreLines (byte ∷ text) all
    more lines are true e = ([] ∷ lines, (tt, inr (text, ap (λ b. b ∷ text) (eqb-true byte 10 e), are)))
    more [] are false e = ((byte ∷ []) ∷ [], ((e, tt), inl (ap (λ t. byte ∷ t) are, omega arith, refl)))
    more (line ∷ lines) are false e = longer line lines are.0 e are.1
      where
        longer : (line : List ℕ) (lines : List (List ℕ)) → HasNo 10 line → (byte == 10) ≡ false
            → ((text ≡ line) × (0 < length line) × (lines ≡ []))
            ⊎ ((more : List ℕ) × (text ≡ line ++ 10 ∷ more) × AreLines more lines)
            → (all : List (List ℕ)) × AreLines (byte ∷ text) all
        longer line lines lacks e (inl h) =
            ((byte ∷ line) ∷ lines, ((e, lacks), inl (ap (λ t. byte ∷ t) h.0, omega arith, h.2)))
        longer line lines lacks e (inr h) =
            ((byte ∷ line) ∷ lines, ((e, lacks), inr (h.0, ap (λ t. byte ∷ t) h.1, h.2)))

pub ended_line : (text front back : List ℕ) (lines : List (List ℕ)) → HasNo 10 front → text ≡ front ++ 10 ∷ back
    → AreLines back lines → AreLines text (front ∷ lines)
ended_line text front back lines lacks e are = (lacks, inr (back, e, are))

no_more_lines : (line : List ℕ) (lines : List (List ℕ))
    → ((([] ≡ line) × (0 < length line) × (lines ≡ []))
    ⊎ ((more : List ℕ) × ([] ≡ line ++ 10 ∷ more) × AreLines more lines)) → ⊥
no_more_lines line lines (inl h) = omega (arith, h.1, ap length h.0)
no_more_lines line lines (inr h) = omega (arith, ap length h.1, length-append line (10 ∷ h.0))

pub last_line : (text : List ℕ) (lines : List (List ℕ)) → HasNo 10 text → 0 < length text → AreLines [] lines
    → AreLines text (text ∷ lines)
last_line text [] lacks some are = (lacks, inl (refl, some, refl))
last_line text (line ∷ lines) lacks some are = absurd (no_more_lines line lines are.1)

pub none_left : (rest : List ℕ) → length rest ≡ 0 → rest ≡ []
none_left [] e = refl
none_left (byte ∷ rest) e = absurd (omega (arith, e))

-- what was read of a log, up to before the line of a number, with what is left of it
pub record Behind (log : List ℕ) (number : ℕ) (before : List Wish) (rest : List ℕ) : Type 0 where
  pub reads : (lines : List (List ℕ)) (wishes : List Wish) → AreLines rest lines
      → Gathers (number + 1) before lines wishes
      → IsRead log wishes
  pub fails : (lines : List (List ℕ)) (failed : ℕ) → AreLines rest lines → Fails (number + 1) lines failed
      → IsLogRefused log (Line failed)

pub begins : (log : List ℕ) → Behind log 0 [] log
begins log = record {
  reads = λ lines wishes are all. (lines, are, all);
  fails = λ lines failed are all. (
    lines,
    are,
    all,
  );
}

abbrev pub Leads : (rest line after : List ℕ) → Type 0
Leads rest line after = (lines : List (List ℕ)) → AreLines after lines → AreLines rest (line ∷ lines)

pub goes_on : (log rest line after : List ℕ) (number : ℕ) (before : List Wish) (wish : Wish)
    → Tells (number + 1) line wish
    → Leads rest line after → Behind log number before rest → Behind log (number + 1) (with_wish before wish) after
goes_on log rest line after number before wish tells leads b = record {
  reads = λ lines wishes are all. b.reads (line ∷ lines) wishes (leads lines are) (wish, tells, all);
  fails = λ lines failed are all. b.fails (line ∷ lines) failed (leads lines are) (inr (wish, tells, all));
}

pub ends : (log rest : List ℕ) (number : ℕ) (before : List Wish) → rest ≡ [] → Behind log number before rest
    → IsRead log before
ends log rest number before none b = b.reads [] before none refl

pub breaks : (log rest line after : List ℕ) (number : ℕ) (before : List Wish)
    → ((wish : Wish) → Tells (number + 1) line wish → ⊥) → Leads rest line after → Behind log number before rest
    → IsLogRefused log (Line (number + 1))
breaks log rest line after number before none leads b =
    let others : (lines : List (List ℕ)) × AreLines after lines = lines_exist after in
    b.fails (line ∷ others.0) (number + 1) (leads others.0 others.1) (inl (refl, none))
