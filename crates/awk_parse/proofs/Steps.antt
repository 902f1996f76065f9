-- How the law goes through the steps that statements take besides those of expressions.
use Rattle.std.proofs.Common.{◌≡◌, true, List, ◌∷◌, ◌++◌, Ok, sym, ap, subst, ◌∙◌, inl, inr, append_assoc}
use Rattle.awk_tokens.specs.declared.token.Token.{Token}
use Rattle.awk_tokens.specs.declared.terminals.Terminal.{Terminal}
use Rattle.awk_tree.specs.Looks.{skip}
use Rattle.awk_tree.specs.Terminals.{is, look, ahead, terminal}
use Rattle.awk_tree.specs.Input.{Parser, any, one, exactly, refuse, by_look, skipped}
use Rattle.awk_parse.proofs.TerminalLemmas.{single, steady, is-true, terminal_is}
use Rattle.awk_parse.proofs.Law.{Eye, Near, Form, Law, At, GoesAt, chosen, any_is, lines, behind, skip_parts}
use Rattle.awk_parse.proofs.Looks.{Looks, Blind, near_same}

-- ---- where what was read tells more

-- what is spelled one way is spelled another, and canonically alike
pub weaker_known_at : {A : Type 0} (i o : Eye) (a b : Form A) (p : Parser A) (ts : List Token)
    → ((us : List Token) (x : A) (rest : List Token) → a.spells us x rest → a.plain x ≡ b.plain x)
    → ((x : A) → a.bare x ≡ b.bare x)
    → ((us : List Token) (x : A) (rest : List Token) → a.spells us x rest → b.spells us x rest) → At i o a p ts
    → At i o b p ts
weaker_known_at i o a b p ts plain_is bare_is weak law x rest h =
    let q = law x rest h in
    let same = plain_is q.used x rest q.spelled in
    record {
      used = q.used;
      parts = q.parts;
      spelled = weak q.used x rest q.spelled;
      seen = λ s like. subst (λ (m : List Token). i ts (m ++ s)) same (q.seen s like);
      reads = λ s like. rw (sym same, sym (bare_is x)) (q.reads s like);
    }

-- what is read last is the whole
pub last_known_at : {A C : Type 0} (i o : Eye) (a : Form A) (c b : Form C) (q : Parser C)
    → ((us : List Token) (x : A) (z : C) (rest : List Token) → c.spells us z rest → b.plain z ≡ a.plain x ++ c.plain z)
    → ((z : C) → b.bare z ≡ c.bare z)
    → ((us vs : List Token) (x : A) (z : C) (rest : List Token) → a.spells us x (vs ++ rest) → c.spells vs z rest
    → b.spells (us ++ vs) z rest) → (x : A) (ts : List Token) → At i o c q ts → GoesAt i o a b (λ _. q) x ts
last_known_at i o a c b q plain_is bare_is spells x ts law z rest h =
    let k = law z rest h in
    record {
      used = k.used;
      parts = k.parts;
      spelled = λ us j. spells us k.used x z rest (subst (λ (m : List Token). a.spells us x m) k.parts j) k.spelled;
      more = c.plain z;
      whole = plain_is k.used x z rest k.spelled;
      seen = k.seen;
      reads = λ s like. rw (bare_is z) (k.reads s like);
    }

-- ---- the next token as it stands

pub by_look_at : {A : Type 0} (o : Eye) (a : Form A) (f : Terminal → Parser A) (ts : List Token)
    → At Looks o a (f (look ts)) ts → At Looks o a (by_look f) ts
by_look_at o a f ts law x rest h =
    let q = law x rest h in
    record {
      used = q.used;
      parts = q.parts;
      spelled = q.spelled;
      seen = q.seen;
      reads =
          λ s like. rw (sym (q.seen s like)) (q.reads s like);
    }

-- a token that is seen as it stands
pub looks_at : {A : Type 0} (k : Terminal) (o : Eye) (a : Form A) (p : Parser A) (ts : List Token) → steady k ≡ true
    → look ts ≡ k → At Near o a p ts → At Looks o a p ts
looks_at k o a p ts fixed sees law x rest h =
    let q = law x rest h in
    record {
      used = q.used;
      parts = q.parts;
      spelled = q.spelled;
      seen = λ s like. near_same k ts (a.plain x ++ s) fixed
          sees (q.seen s like);
      reads = q.reads;
    }

pub took : (kind : Terminal) → single kind ≡ true → steady kind ≡ true
    → (ts : List Token) (t : Token) (rest : List Token) → one kind ts ≡ Ok (t, rest) → (ts ≡ t ∷ rest)
    × (terminal t ≡ kind)
unfolding one
took kind alone fixed ts t rest h =
    elim (chosen (is (ahead ts) kind) (any ts) (refuse ts) (Ok (t, rest)) h) [
      | inl k ↦ let p = any_is ts t rest k.1 in
          (p, terminal_is kind t rest fixed (sym (ap ahead p) ∙ is-true (ahead ts) kind alone k.0))
      | inr k ↦ absurd cc
    ]

pub took_exactly : (kind : Terminal) → single kind ≡ true → (ts : List Token) (t : Token) (rest : List Token)
    → exactly kind ts ≡ Ok (t, rest) → (ts ≡ t ∷ rest) × (terminal t ≡ kind)
unfolding exactly
took_exactly kind alone ts t rest h =
    elim (chosen (is (look ts) kind) (any ts) (refuse ts) (Ok (t, rest)) h) [
      | inl k ↦ let p = any_is ts t rest k.1 in (p, sym (ap look p) ∙ is-true (look ts) kind alone k.0)
      | inr k ↦ absurd cc
    ]

-- ---- newlines that mean nothing

-- where nothing before them looks ahead
pub skipped_blind : {A : Type 0} (i o : Eye) (a : Form A) (p : Parser A)
    → ((x : A) (s : List Token) → skip (a.plain x ++ s) ≡ a.plain x ++ s) → Law i o a p
    → Law Blind o (behind a) (skipped p)
skipped_blind i o a p first law ts x rest h =
    let q = law (skip ts) x rest h in
    let n = skip_parts ts in
    record {
      used = n.0 ++ q.used;
      parts = n.2 ∙ ap (λ (m : List Token). n.0 ++ m) q.parts ∙ sym (append_assoc n.0 q.used rest);
      spelled = lines n.0 q.used x rest n.1 q.spelled;
      seen = λ s like. tt;
      reads = λ s like. rw (first x s) (q.reads s like);
    }
