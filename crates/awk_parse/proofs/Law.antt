-- What is read is spelled so, and its canonical spelling is read again: the form of the law, and how
-- it goes through the steps of a rule.
use Rattle.std.proofs.Common.{◌≡◌, Bool, true, false, cond, List, [], ◌∷◌, ◌++◌, Ok, Err, refl, sym, ap, subst, ◌∙◌}
use Rattle.std.proofs.Common.{◌⊎◌, inl, inr, append_assoc}
use Rattle.std.proofs.lemmas.List.{append-nil}
use Rattle.std.proofs.lemmas.Bool.{eq-eqb}
use Rattle.awk_tokens.specs.declared.token.Token.{Token}
use Rattle.awk_tokens.specs.declared.terminals.Terminal.{Terminal}
use Rattle.awk_tokens.specs.declared.terminals.Terminal.TheVariants as w
use Rattle.awk_tree.specs.Looks.{skip}
use Rattle.awk_tree.specs.Terminals.{number_of, is, ahead, terminal}
use Rattle.awk_tree.specs.Input.{Outcome, Parser, and_then, ◌>>=◌, any, one, choice, refuse, pure, skipped}
use Rattle.awk_parse.specs.Spells.{Newlines}
use Rattle.awk_parse.proofs.TerminalLemmas.{single, steady, is-true, terminal_is, ahead_is}

-- ---- the form of the law

-- how two lists of tokens are alike to what reads there
abbrev pub Eye : Type 1
Eye = List Token → List Token → Type 0

-- by the next token
abbrev pub Near : Eye
Near ts us = ahead ts ≡ ahead us

-- by the next token that is no newline
abbrev pub Behind : Eye
Behind ts us = ahead (skip ts) ≡ ahead (skip us)

-- what a rule reads: how it is spelled in the canonical form, what it is without places, and which
-- tokens spell it where others follow
pub record Form (A : Type 0) : Type 1 where
  pub plain : A → List Token
  pub bare : A → A
  pub spells : List Token → A → List Token → Type 0

-- of ts, p read x and left r. The canonical spelling is read again, whatever follows it that looks like r.
pub record Read (i o : Eye) {A : Type 0} (a : Form A) (p : Parser A) (ts : List Token) (x : A) (r : List Token) : Type 0
  where
    pub used : List Token
    pub parts : ts ≡ used ++ r
    pub spelled : a.spells used x r
    pub seen : (s : List Token) → o r s → i ts (a.plain x ++ s)
    pub reads : (s : List Token) → o r s → p (a.plain x ++ s) ≡ Ok (a.bare x, s)

abbrev pub At : (i o : Eye) {A : Type 0} → Form A → Parser A → List Token → Type 0
At i o {A} a p ts = (x : A) (r : List Token) → p ts ≡ Ok (x, r) → Read i o a p ts x r

abbrev pub Law : (i o : Eye) {A : Type 0} → Form A → Parser A → Type 0
Law i o a p = (ts : List Token) → At i o a p ts

-- the same of a parser that goes on from x
pub record Goes (i o : Eye) {A B : Type 0} (a : Form A) (b : Form B) (f : A → Parser B) (x : A) (ts : List Token)
    (y : B) (r : List Token) : Type 0 where
  pub used : List Token
  pub parts : ts ≡ used ++ r
  pub spelled : (us : List Token) → a.spells us x ts → b.spells (us ++ used) y r
  pub more : List Token
  pub whole : b.plain y ≡ a.plain x ++ more
  pub seen : (s : List Token) → o r s → i ts (more ++ s)
  pub reads : (s : List Token) → o r s → f (a.bare x) (more ++ s) ≡ Ok (b.bare y, s)

abbrev pub GoesAt : (i o : Eye) {A B : Type 0} → Form A → Form B → (A → Parser B) → A → List Token → Type 0
GoesAt i o {A} {B} a b f x ts = (y : B) (r : List Token) → f x ts ≡ Ok (y, r) → Goes i o a b f x ts y r

abbrev pub LawOn : (i o : Eye) {A B : Type 0} → Form A → Form B → (A → Parser B) → Type 0
LawOn i o {A} {B} a b f = (x : A) (ts : List Token) → GoesAt i o a b f x ts

-- ---- inversions

pub bind_ok : {A B : Type 0} (o : Outcome A) (f : A → Parser B) (y : B) (r : List Token) → and_then o f ≡ Ok (y, r)
    → (x : A) × (m : List Token) × (o ≡ Ok (x, m)) × (f x m ≡ Ok (y, r))
bind_ok (Ok p) f y r e = (p.0, p.1, refl, e)
bind_ok (Err d) f y r e = absurd cc

pub chosen : {A : Type 0} (b : Bool) (x y z : A) → cond b x y ≡ z → ((b ≡ true) × (x ≡ z)) ⊎ ((b ≡ false) × (y ≡ z))
chosen true x y z e = inl (refl, e)
chosen false x y z e = inr (refl, e)

abbrev done : {A : Type 0} → A × List Token → Outcome A
done p = Ok p

ok_is : {A : Type 0} (p q : A × List Token) → done p ≡ done q → p ≡ q
ok_is p q e = cc

pub done_is : {A : Type 0} (x y : A) (r s : List Token) → done (x, r) ≡ done (y, s) → (x ≡ y) × (r ≡ s)
done_is {A} x y r s e =
    let q = ok_is (x, r) (y, s) e in (ap (λ (p : A × List Token). p.0) q, ap (λ (p : A × List Token). p.1) q)

pub any_is : (ts : List Token) (t : Token) (r : List Token) → any ts ≡ Ok (t, r) → ts ≡ t ∷ r
unfolding any
any_is [] t r e = absurd cc
any_is (u ∷ us) t r e = let d = done_is u t us r e in cc

-- ---- one step after another

pub then_at : {A B : Type 0} (i m o : Eye) (a : Form A) (b : Form B) (p : Parser A) (f : A → Parser B) (ts : List Token)
    → At i m a p ts → LawOn m o a b f → At i o b (p >>= f) ts
then_at i m o a b p f ts lp lf y r e =
    let h = bind_ok (p ts) f y r e in
    let first = lp h.0 h.1 h.2 in
    let second = lf h.0 h.1 y r h.3 in
    let same : (s : List Token) → b.plain y ++ s ≡ a.plain h.0 ++ (second.more ++ s) =
    λ s. ap (λ (w : List Token). w ++ s) second.whole ∙ append_assoc (a.plain h.0) second.more s in
    record {
      used = first.used ++ second.used;
      parts = first.parts ∙ ap (λ (w : List Token). first.used ++ w) second.parts
          ∙ sym (append_assoc first.used second.used r);
      spelled = second.spelled first.used first.spelled;
      seen = λ s like. subst (λ (w : List Token). i ts w) (sym (same s))
          (first.seen (second.more ++ s) (second.seen s like));
      reads = λ s like. rw (same s, first.reads (second.more ++ s) (second.seen s like)) (second.reads s like);
    }

-- one thing behind another
pub data Both {A C : Type 0} (a : Form A) (c : Form C) : List Token → A × C → List Token → Type 0 where
  both : (us vs rest : List Token) (x : A) (z : C) → a.spells us x (vs ++ rest) → c.spells vs z rest
      → Both a c (us ++ vs) (x, z) rest

abbrev pub pair : {A C : Type 0} → Form A → Form C → Form (A × C)
pair a c = record { plain = λ p. a.plain p.0 ++ c.plain p.1; bare = λ p. (a.bare p.0, c.bare p.1); spells = Both a c }

pub seq_at : {A B C : Type 0} (i m o : Eye) (a : Form A) (c : Form C) (b : Form B) (q : Parser C) (g : A → C → Parser B)
    (x : A) (ts : List Token)
    → At i m c q ts → LawOn m o (pair a c) b (λ p. g p.0 p.1) → GoesAt i o a b (λ x. q >>= g x) x ts
seq_at i m o a c b q g x ts lq lg y r e =
    let h = bind_ok (q ts) (g x) y r e in
    let z = h.0 in
    let first = lq z h.1 h.2 in
    let second = lg (x, z) h.1 y r h.3 in
    let same : (s : List Token) → (c.plain z ++ second.more) ++ s ≡ c.plain z ++ (second.more ++ s) =
    λ s. append_assoc (c.plain z) second.more s in
    record {
      used = first.used ++ second.used;
      parts = first.parts ∙ ap (λ (w : List Token). first.used ++ w) second.parts
          ∙ sym (append_assoc first.used second.used r);
      spelled = λ us h'. subst (λ (w : List Token). b.spells w y r) (append_assoc us first.used second.used)
          (second.spelled (us ++ first.used)
          (both us first.used h.1 x z (subst (λ (w : List Token). a.spells us x w) first.parts h') first.spelled));
      more = c.plain z ++ second.more;
      whole = second.whole ∙ append_assoc (a.plain x) (c.plain z) second.more;
      seen = λ s like. subst (λ (w : List Token). i ts w) (sym (same s))
          (first.seen (second.more ++ s) (second.seen s like));
      reads = λ s like. rw (same s, first.reads (second.more ++ s) (second.seen s like)) (second.reads s like);
    }

pub on_on : {A B C : Type 0} (i m o : Eye) (a : Form A) (b : Form B) (c : Form C) (f : A → Parser B) (g : B → Parser C)
    → LawOn i m a b f → LawOn m o b c g → LawOn i o a c (λ x. f x >>= g)
on_on i m o a b c f g lf lg x ts y r e =
    let h = bind_ok (f x ts) g y r e in
    let first = lf x ts h.0 h.1 h.2 in
    let second = lg h.0 h.1 y r h.3 in
    let same : (s : List Token) → (first.more ++ second.more) ++ s ≡ first.more ++ (second.more ++ s) =
    λ s. append_assoc first.more second.more s in
    record {
      used = first.used ++ second.used;
      parts = first.parts ∙ ap (λ (w : List Token). first.used ++ w) second.parts
          ∙ sym (append_assoc first.used second.used r);
      spelled = λ us h'. subst (λ (w : List Token). c.spells w y r) (append_assoc us first.used second.used)
          (second.spelled (us ++ first.used) (first.spelled us h'));
      more = first.more ++ second.more;
      whole = second.whole ∙ ap (λ (w : List Token). w ++ second.more) first.whole ∙ append_assoc (a.plain x) first.more
          second.more;
      seen = λ s like. subst (λ (w : List Token). i ts w) (sym (same s))
          (first.seen (second.more ++ s) (second.seen s like));
      reads = λ s like. rw (same s, first.reads (second.more ++ s) (second.seen s like)) (second.reads s like);
    }

-- ---- what was read is made into something

pub via : {A B C : Type 0} (i o : Eye) (a : Form A) (b : Form B) (c : Form C) (make : A → B) (g : B → Parser C)
    → ((x : A) → b.plain (make x) ≡ a.plain x) → ((x : A) → b.bare (make x) ≡ make (a.bare x))
    → ((us : List Token) (x : A) (rest : List Token) → a.spells us x rest → b.spells us (make x) rest) → LawOn i o b c g
    → LawOn i o a c (λ x. g (make x))
via i o a b c make g plain_is bare_is spells lg x ts y r e =
    let h = lg (make x) ts y r e in
    record {
      used = h.used;
      parts = h.parts;
      spelled = λ us k. h.spelled us (spells us x ts k);
      more = h.more;
      whole = h.whole ∙ ap (λ (w : List Token). w ++ h.more) (plain_is x);
      seen = h.seen;
      reads = λ s like. subst (λ (z : _). g z (h.more ++ s) ≡ Ok (c.bare y, s)) (bare_is x) (h.reads s like);
    }

-- the same at one place
pub via_at : {A B C : Type 0} (i o : Eye) (a : Form A) (b : Form B) (c : Form C) (make : A → B) (g : B → Parser C)
    (x : A) (ts : List Token) → b.plain (make x) ≡ a.plain x → b.bare (make x) ≡ make (a.bare x)
    → ((us : List Token) → a.spells us x ts → b.spells us (make x) ts) → GoesAt i o b c g (make x) ts
    → GoesAt i o a c (λ x. g (make x)) x ts
via_at i o a b c make g x ts plain_is bare_is spells law y r e =
    let h = law y r e in
    record {
      used = h.used;
      parts = h.parts;
      spelled = λ us k. h.spelled us (spells us k);
      more = h.more;
      whole = h.whole ∙ ap (λ (w : List Token). w ++ h.more) plain_is;
      seen = h.seen;
      reads = λ s like. subst (λ (z : _). g z (h.more ++ s) ≡ Ok (c.bare y, s)) bare_is (h.reads s like);
    }

pub same_on : {A : Type 0} (o : Eye) (a : Form A) → LawOn o o a a (λ x. pure x)
same_on {A} o a x ts y r e =
    let d = done_is x y ts r e in
    subst (λ (z : A). Goes o o a a (λ x. pure x) x ts z r) d.0
    (subst (λ (w : List Token). Goes o o a a (λ x. pure x) x ts x w) d.1 (record {
      used = [];
      parts = refl;
      spelled = λ us h. subst (λ (w : List Token). a.spells w x ts) (sym (append-nil us)) h;
      more = [];
      whole = sym (append-nil (a.plain x));
      seen = λ s like. like;
      reads = λ s like. refl;
    }))

pub pure_on : {A B : Type 0} (o : Eye) (a : Form A) (b : Form B) (make : A → B)
    → ((x : A) → b.plain (make x) ≡ a.plain x) → ((x : A) → b.bare (make x) ≡ make (a.bare x))
    → ((us : List Token) (x : A) (rest : List Token) → a.spells us x rest → b.spells us (make x) rest)
    → LawOn o o a b (λ x. pure (make x))
pure_on o a b make plain_is bare_is spells = via o o a b b make (λ x. pure x) plain_is bare_is spells (same_on o b)

-- what is read last is the whole
pub last_at : {A C : Type 0} (i o : Eye) (a : Form A) (c b : Form C) (q : Parser C)
    → ((x : A) (z : C) → b.plain z ≡ a.plain x ++ c.plain z) → ((z : C) → b.bare z ≡ c.bare z)
    → ((us vs : List Token) (x : A) (z : C) (rest : List Token) → a.spells us x (vs ++ rest) → c.spells vs z rest
    → b.spells (us ++ vs) z rest) → (x : A) (ts : List Token) → At i o c q ts → GoesAt i o a b (λ _. q) x ts
last_at i o a c b q plain_is bare_is spells x ts law z r e =
    let h = law z r e in
    record {
      used = h.used;
      parts = h.parts;
      spelled = λ us k. spells us h.used x z r (subst (λ (w : List Token). a.spells us x w) h.parts k) h.spelled;
      more = c.plain z;
      whole = plain_is x z;
      seen = h.seen;
      reads = λ s like. rw (bare_is z) (h.reads s like);
    }

-- nothing is read
pub pure_at : {A : Type 0} (o : Eye) (a : Form A) (x : A) (ts : List Token) → a.plain x ≡ [] → a.bare x ≡ x
    → a.spells [] x ts → At o o a (pure x) ts
pure_at {A} o a x ts plain_is bare_is spells y r e =
    let d = done_is x y ts r e in
    subst (λ (z : A). Read o o a (pure x) ts z r) d.0
    (subst (λ (w : List Token). Read o o a (pure x) ts x w) d.1 (record {
      used = [];
      parts = refl;
      spelled = spells;
      seen = λ s like. subst (λ (w : List Token). o ts (w ++ s)) (sym plain_is) like;
      reads = λ s like. rw (plain_is, bare_is) refl;
    }))

-- what is spelled one way is spelled another
pub weaker_at : {A : Type 0} (i o : Eye) (a b : Form A) (p : Parser A) (ts : List Token)
    → ((x : A) → a.plain x ≡ b.plain x) → ((x : A) → a.bare x ≡ b.bare x)
    → ((us : List Token) (x : A) (rest : List Token) → a.spells us x rest → b.spells us x rest) → At i o a p ts
    → At i o b p ts
weaker_at i o a b p ts plain_is bare_is weak law x r e =
    let h = law x r e in
    record {
      used = h.used;
      parts = h.parts;
      spelled = weak h.used x r h.spelled;
      seen = λ s like. subst (λ (w : List Token). i ts (w ++ s)) (plain_is x) (h.seen s like);
      reads = λ s like. rw (sym (plain_is x), sym (bare_is x)) (h.reads s like);
    }

-- ---- choices

pub choice_at : {A : Type 0} (o : Eye) (a : Form A) (f : Terminal → Parser A) (ts : List Token)
    → At Near o a (f (ahead ts)) ts → At Near o a (choice f) ts
choice_at o a f ts law x r e =
    let h = law x r e in
    record {
      used = h.used;
      parts = h.parts;
      spelled = h.spelled;
      seen = h.seen;
      reads =
          λ s like. rw (sym (h.seen s like)) (h.reads s like);
    }

pub choice_on : {A B : Type 0} (o : Eye) (a : Form A) (b : Form B) (f : A → Terminal → Parser B) (x : A)
    (ts : List Token) → GoesAt Near o a b (λ x. f x (ahead ts)) x ts → GoesAt Near o a b (λ x. choice (f x)) x ts
choice_on o a b f x ts law y r e =
    let h = law y r e in
    record {
      used = h.used;
      parts = h.parts;
      spelled = h.spelled;
      more = h.more;
      whole = h.whole;
      seen = h.seen;
      reads =
          λ s like. rw (sym (h.seen s like)) (h.reads s like);
    }

pub if_at : {A : Type 0} (i o : Eye) (a : Form A) (b : Bool) (p q : Parser A) (ts : List Token)
    → (b ≡ true → At i o a p ts) → (b ≡ false → At i o a q ts) → At i o a (cond b p q) ts
if_at i o a true p q ts first second = first refl
if_at i o a false p q ts first second = second refl

pub if_on : {A B : Type 0} (i o : Eye) (a : Form A) (c : Form B) (b : Bool) (f g : A → Parser B) (x : A)
    (ts : List Token) → (b ≡ true → GoesAt i o a c f x ts) → (b ≡ false → GoesAt i o a c g x ts)
    → GoesAt i o a c (λ x. cond b (f x) (g x)) x ts
if_on i o a c true f g x ts first second = first refl
if_on i o a c false f g x ts first second = second refl

-- a test of the left side, which doesn't read its places
pub if_left : {A B : Type 0} (i o : Eye) (a : Form A) (c : Form B) (b : A → Bool) (f g : A → Parser B) (x : A)
    (ts : List Token) → b (a.bare x) ≡ b x → (b x ≡ true → GoesAt i o a c f x ts)
    → (b x ≡ false → GoesAt i o a c g x ts)
    → GoesAt i o a c (λ x. cond (b x) (f x) (g x)) x ts
if_left i o a c b f g x ts same first second y r e =
    elim (chosen (b x) (f x ts) (g x ts) (Ok (y, r)) (at_once (b x) (f x) (g x) ts (Ok (y, r)) e)) [
      | inl h ↦ let q = first h.0 y r h.1 in
          record {
            used = q.used;
            parts = q.parts;
            spelled = q.spelled;
            more = q.more;
            whole = q.whole;
            seen = q.seen;
            reads = λ s like. rw (same ∙ h.0) (q.reads s like);
          }
      | inr h ↦ let q = second h.0 y r h.1 in
          record {
            used = q.used;
            parts = q.parts;
            spelled = q.spelled;
            more = q.more;
            whole = q.whole;
            seen = q.seen;
            reads = λ s like. rw (same ∙ h.0) (q.reads s like);
          }
    ] where
      at_once : {X Y : Type 0} (b : Bool) (f g : X → Y) (x : X) (y : Y) → cond b f g x ≡ y → cond b (f x) (g x) ≡ y
      at_once true f g x y e = e
      at_once false f g x y e = e

-- ---- tokens

pub data This (kind : Terminal) : List Token → Token → List Token → Type 0 where
  this : (t : Token) (rest : List Token) → terminal t ≡ kind → This kind (t ∷ []) t rest

-- a token of this kind, which `make` makes canonical
abbrev pub word : Terminal → (Token → Token) → Form Token
word kind make = record { plain = λ t. make t ∷ []; bare = make; spells = This kind }

pub any_at : (kind : Terminal) (make : Token → Token) → steady kind ≡ true
    → ((t : Token) → terminal t ≡ kind → terminal (make t) ≡ kind) → (o : Eye) (ts : List Token) → ahead ts ≡ kind
    → At Near o (word kind make) any ts
unfolding any
any_at kind make is_steady made o ts sees t r e =
    let p = any_is ts t r e in
    let found = terminal_is kind t r is_steady (sym (ap ahead p) ∙ sees) in
    record {
      used = t ∷ [];
      parts = p;
      spelled = this t r found;
      seen = λ s like. sees ∙ sym (ahead_is kind (make t) s is_steady (made t found));
      reads = λ s like. refl;
    }

pub one_law : (kind : Terminal) (make : Token → Token) → single kind ≡ true → steady kind ≡ true
    → ((t : Token) → terminal t ≡ kind → terminal (make t) ≡ kind) → (o : Eye) → Law Near o (word kind make) (one kind)
unfolding one any
one_law kind make alone is_steady made o ts t r e =
    elim (chosen (is (ahead ts) kind) (any ts) (refuse ts) (Ok (t, r)) e) [
      | inl h ↦
          let sees = is-true (ahead ts) kind alone h.0 in
          let q = any_at kind make is_steady made o ts sees t r h.1 in
          let found = terminal_is kind t r is_steady (sym (ap ahead (any_is ts t r h.1)) ∙ sees) in
          record {
            used = q.used;
            parts = q.parts;
            spelled = q.spelled;
            seen = q.seen;
            reads = λ s like. rw (
              ahead_is kind (make t) s is_steady (made t found),
              eq-eqb (number_of kind) (number_of kind) refl,
            ) refl;
          }
      | inr h ↦ absurd cc
    ]

-- ---- newlines that mean nothing

-- behind newlines
pub data Lines {A : Type 0} (a : Form A) : List Token → A → List Token → Type 0 where
  lines : (ns us : List Token) (x : A) (rest : List Token) → Newlines ns → a.spells us x rest
      → Lines a (ns ++ us) x rest

abbrev pub behind : {A : Type 0} → Form A → Form A
behind a = record { plain = a.plain; bare = a.bare; spells = Lines a }

pub decided : (b : Bool) → (b ≡ true) ⊎ (b ≡ false)
decided true = inl refl
decided false = inr refl

pub skip_parts : (ts : List Token) → (ns : List Token) × Newlines ns × (ts ≡ ns ++ skip ts)
skip_parts [] = ([], tt, refl)
skip_parts (t ∷ ts) =
    elim (decided (is (terminal t) w.Newline)) [
      | inl h ↦ let r = skip_parts ts in
          (t ∷ r.0, (is-true (terminal t) w.Newline refl h, r.1), rw h (ap (λ (w : List Token). t ∷ w) r.2))
      | inr h ↦ ([], tt, rw h refl)
    ]

pub skipped_law : {A : Type 0} (o : Eye) (a : Form A) (p : Parser A)
    → ((x : A) (s : List Token) → skip (a.plain x ++ s) ≡ a.plain x ++ s) → Law Near o a p
    → Law Behind o (behind a) (skipped p)
skipped_law o a p first law ts x r e =
    let h = law (skip ts) x r e in
    let n = skip_parts ts in
    record {
      used = n.0 ++ h.used;
      parts = n.2 ∙ ap (λ (w : List Token). n.0 ++ w) h.parts ∙ sym (append_assoc n.0 h.used r);
      spelled = lines n.0 h.used x r n.1 h.spelled;
      seen = λ s like. h.seen s like ∙ sym (ap ahead (first x s));
      reads = λ s like. rw (first x s) (h.reads s like);
    }
