-- What the reader of a whole text keeps.
use Rattle.std.proofs.Common.{◌≡◌, ℕ, ◌+◌, ◌⊎◌, inl, inr, nat_lt, ◌==◌, ◌&&◌, Bool, true, false, cond, List, [], ◌∷◌}
use Rattle.std.proofs.Common.{◌++◌, length, Option, Some, None, is_some, refl, sym, ◌∙◌, ap, subst, arith}
use Rattle.std.proofs.lemmas.Bool.Decides.{nat_tests}
use Rattle.awk_ere.specs.Pattern.{Pattern}
use Rattle.awk_ere.specs.Token as spec
use Rattle.awk_ere.specs.Bracket.{Found, bracket}
use Rattle.awk_ere.specs.Escape.{escape}
use Rattle.awk_ere.specs.Interval.{Times, interval, is_allowed, factor}
use Rattle.awk_ere.specs.Reading.{Spot, depth_after, is_repeatable, front_at, spot_after, Leads, first_spot, IsRead}
use Rattle.awk_ere.specs.Reading.{HasFault}
use Rattle.awk_ere.specs.Grammar.{ere, no_piece, Spells}
use Rattle.awk_ere.specs.Lexing.{Later, IsToken, IsFront}
use Rattle.awk_ere.specs.Tree.{Meant, repeats, Frame, frame, last, finished, fresh, with_last, with_anchor, with_bar}
use Rattle.awk_ere.specs.Tree.{Stack, taken, Stands, StandsAny, IsFrame, AreFrames, IsStack}
use Rattle.awk_ere.specs.declared.error.EreFault.{EreFault}
use Rattle.awk_ere.specs.declared.error.EreFault.TheVariants.{Syntax, Interval}
use Rattle.awk_ere.specs.declared.front.Lead.{Lead}
use Rattle.awk_ere.specs.declared.front.Lead.TheVariants.{Bracket, Escape, Brace, Sign}
use Rattle.awk_ere.specs.declared.token.Token as code_token
use Rattle.awk_ere.specs.declared.tree.SizedNode as code_part
use Rattle.awk_ere.specs.declared.tree.Frame as code_frame
use Rattle.awk_ere.proofs.Building.{StackAt, taken_at, finish_spells}
use Rattle.awk_ere.proofs.Tokens.{later_more}

-- where a token may stand
abbrev pub Needs : Bool → Bool → spec.Token → Type 0
Needs is_open may_repeat (spec.times least most factor) = may_repeat ≡ true
Needs is_open may_repeat spec.closing = is_open ≡ true
Needs is_open may_repeat t = Unit {0}

module _ (o m : Bool) where
  by_test : (b : Bool) (x y : spec.Token) → (b ≡ true → Needs o m x) → Needs o m y → Needs o m (cond b x y)
  by_test true x y h g = h refl
  by_test false x y h g = g

  second : (x y : Bool) → (x && y) ≡ true → y ≡ true
  second true y h = h
  second false y h = absurd (cc)

  sign_needs : (c : ℕ) → Needs o m (spec.sign o m c)
  unfolding spec.sign
  sign_needs c =
      by_test (c == 46) _ _ (λ e. tt)
      (by_test (c == 40) _ _ (λ e. tt) (by_test (c == 41 && o) _ _ (λ e. second (c == 41) o e)
      (by_test (c == 124) _ _ (λ e. tt)
      (by_test (c == 94) _ _ (λ e. tt)
      (by_test (c == 36) _ _ (λ e. tt) (by_test (c == 42 && m) _ _ (λ e. second (c == 42) m e)
      (by_test (c == 43 && m) _ _ (λ e. second (c == 43) m e)
      (by_test (c == 63 && m) _ _ (λ e. second (c == 63) m e) tt))))))))

  abbrev FrontNeeds : spec.Front → Type 0
  FrontNeeds (spec.token t left) = Needs o m t
  FrontNeeds x = Unit {0}

  found_needs : (x : Found) → FrontNeeds (spec.bracketed x)
  found_needs None = tt
  found_needs (Some p) = tt

  escaped_needs : (x : Option (ℕ × List ℕ)) → FrontNeeds (spec.escaped x)
  escaped_needs None = tt
  escaped_needs (Some p) = tt

  repeated_needs : (s : List ℕ) (x : Option (Times × List ℕ)) → m ≡ true → FrontNeeds (spec.repeated s x)
  repeated_needs s None e = tt
  repeated_needs s (Some p) e = by_allowed (is_allowed p.0) where
    by_allowed : (b : Bool)
        → FrontNeeds (cond b (spec.token (spec.times p.0.0 p.0.1 (factor p.0)) p.1) (spec.wrong Interval))
    by_allowed true = e
    by_allowed false = tt

  led_needs : (l : Lead) (c : ℕ) (s : List ℕ) → (l ≡ Brace → m ≡ true) → FrontNeeds (spec.led l o m c s)
  led_needs Bracket c s h = found_needs (bracket s)
  led_needs Escape c s h = escaped_needs (escape s)
  led_needs Brace c s h = repeated_needs s (interval s) (h refl)
  led_needs Sign c s h = sign_needs c

  brace_leads : (c : ℕ) → spec.lead m c ≡ Brace → m ≡ true
  unfolding spec.lead
  brace_leads c e = by_tests (c == 91) (c == 92) (c == 123) m e where
    by_tests : (x y z m : Bool) → cond x Bracket (cond y Escape (cond (z && m) Brace Sign)) ≡ Brace → m ≡ true
    by_tests true y z m e = absurd (cc)
    by_tests false true z m e = absurd (cc)
    by_tests false false true true e = refl
    by_tests false false true false e = absurd (cc)
    by_tests false false false m e = absurd (cc)

  pub front_needs : (s : List ℕ) → FrontNeeds (spec.front o m s)
  front_needs [] = by_open o where
    by_open : (b : Bool) → FrontNeeds (cond b (spec.wrong Syntax) spec.finished)
    by_open true = tt
    by_open false = tt
  front_needs (c ∷ s) = led_needs (spec.lead m c) c s (λ e. brace_leads c e)

-- such a token is taken
pub record Taken (t : spec.Token) (os : List Frame) (f : Frame) : Type 0 where
  pub to : Stack
  pub is : taken t os f ≡ Some to
  pub depth : length to.0 ≡ depth_after t (length os)
  pub repeatable : is_some (last to.1) ≡ is_repeatable t

pub may_take : (t : spec.Token) (os : List Frame) (f : Frame) → Needs (nat_lt 0 (length os)) (is_some (last f)) t
    → Taken t os f
may_take (spec.atom p) os f h = record { to = (os, with_last f (p, 1)); is = refl; depth = refl; repeatable = refl }
may_take (spec.anchor p) os f h = record { to = (os, with_anchor f p); is = refl; depth = refl; repeatable = refl }
may_take (spec.times least most factor) os (frame b p None) h = absurd (cc)
may_take (spec.times least most factor) os (frame b p (Some q)) h =
    record { to = (os, frame b p (Some (repeats q least most factor))); is = refl; depth = refl; repeatable = refl }
may_take spec.opening os f h = record { to = (f ∷ os, fresh); is = refl; depth = omega arith; repeatable = refl }
may_take spec.closing [] f h = absurd (cc)
may_take spec.closing (o ∷ os) f h = record {
  to = (os, with_last o (finished f));
  is = refl;
  depth = omega arith;
  repeatable = refl;
}
may_take spec.bar os f h = record { to = (os, with_bar f); is = refl; depth = refl; repeatable = refl }

leads_more : (ts : List spec.Token) (p q : Spot) (t : spec.Token) (left : List ℕ) → Leads ts p q
    → front_at q ≡ spec.token t left → Leads (ts ++ t ∷ []) p (spot_after q t left)
leads_more [] p q t left h e = (left, ap front_at h ∙ e, ap (λ x. spot_after x t left) h)
leads_more (u ∷ ts) p q t left (l, one, rest) e = (l, one, leads_more ts (spot_after p u l) q t left rest e)

-- later sets
stands_later : (a b : List (List Bool)) (x : code_part.SizedNode) (p : Meant) → Later a b → Stands a x p → Stands b x p
stands_later a b x p later h = record { same = λ all after. h.same all (later_more a b all later after); size = h.size }

any_later : (a b : List (List Bool)) (x : Option code_part.SizedNode) (p : Option Meant) → Later a b → StandsAny a x p
    → StandsAny b x p
any_later a b None None later h = tt
any_later a b None (Some p) later h = h
any_later a b (Some x) None later h = h
any_later a b (Some x) (Some p) later h = stands_later a b x p later h

frame_later : (a b : List (List Bool)) (f : code_frame.Frame) (m : Frame) → Later a b → IsFrame a f m → IsFrame b f m
frame_later a b f (frame x p l) later h = (
  any_later a b f.before x later h.0,
  stands_later a b f.pieces p later h.1,
  any_later a b f.last l later h.2,
)

frames_later : (a b : List (List Bool)) (items : List code_frame.Frame) (os : List Frame) → Later a b
    → AreFrames a items os → AreFrames b items os
frames_later a b items [] later h = h
frames_later a b items (o ∷ os) later (front, f, is, one, rest) = (
  front,
  f,
  is,
  frame_later a b f o later one,
  frames_later a b front os later rest,
)

-- so far the text is these tokens, and the code's stack stands for them
pub record Reading (text : List ℕ) (items : List code_frame.Frame) (top : code_frame.Frame) (sets : List (List Bool))
    (left : List ℕ) : Type 0 where
  pub tokens : List spec.Token
  pub groups : List Frame
  pub inner : Frame
  pub leads : Leads tokens (first_spot text) (record {
    depth = length groups;
    may_repeat = is_some (last inner);
    left =
        left;
  })
  pub around : AreFrames sets items groups
  pub stands : IsFrame sets top inner
  pub spelled : StackAt groups inner tokens

pub reading_begins : (text : List ℕ) (top : code_frame.Frame) (sets : List (List Bool)) → IsFrame sets top fresh
    → Reading text [] top sets text
reading_begins text top sets h = record {
  tokens = [];
  groups = [];
  inner = fresh;
  leads = refl;
  around = refl;
  stands =
      h;
  spelled = no_piece;
}

-- the code's tests are those of the stack
groups_open : (sets : List (List Bool)) (items : List code_frame.Frame) (os : List Frame) → AreFrames sets items os
    → length items ≡ length os
groups_open sets items [] h = ap length h
groups_open sets items (o ∷ os) (front, f, is, one, rest) = ap length is ∙ grown front f ∙ ap (λ n. n + 1)
    (groups_open sets front os rest) ∙ (omega arith) where
      grown : (xs : List code_frame.Frame) (x : code_frame.Frame) → length (xs ++ x ∷ []) ≡ length xs + 1
      grown [] x = omega arith
      grown (y ∷ ys) x = (let e = grown ys x in omega arith)

last_is : (sets : List (List Bool)) (f : code_frame.Frame) (m : Frame) → IsFrame sets f m
    → is_some f.last ≡ is_some (last m)
last_is sets f (frame b p l) h = any_is f.last l h.2 where
  any_is : (x : Option code_part.SizedNode) (y : Option Meant) → StandsAny sets x y → is_some x ≡ is_some y
  any_is None None g = refl
  any_is None (Some y) g = absurd g
  any_is (Some x) None g = absurd g
  any_is (Some x) (Some y) g = refl

pub front_here : (text left : List ℕ) (items : List code_frame.Frame) (top : code_frame.Frame) (sets : List (List Bool))
    (o m : Bool) (h : Reading text items top sets left)
    → o ≡ nat_lt 0 (length items) → m ≡ is_some top.last
    → front_at (record { depth = length h.groups; may_repeat = is_some (last h.inner); left = left })
    ≡ spec.front o m left
front_here text left items top sets o m h is_open may =
    ap (λ n. spec.front (nat_lt 0 n) (is_some (last h.inner)) left) (sym (groups_open sets items h.groups h.around))
    ∙ ap (λ x. spec.front (nat_lt 0 (length items)) x left) (sym (last_is sets top h.inner h.stands))
    ∙ ap (λ x. spec.front x (is_some top.last) left) (sym is_open) ∙ ap (λ x. spec.front o x left) (sym may)

pub reading_more : (text left rest : List ℕ) (items new : List code_frame.Frame) (top to : code_frame.Frame)
    (sets all : List (List Bool)) (o m : Bool) (token : code_token.Token) → Reading text items top sets left
    → o ≡ nat_lt 0 (length items) → m ≡ is_some top.last → Later sets all → IsFront all (spec.front o m left) token rest
    → ((sets : List (List Bool)) (t : spec.Token) (os : List Frame) (f : Frame) → IsToken sets token t
    → AreFrames sets items os → IsFrame sets top f → IsStack sets new to (taken t os f))
    → Reading text new to all rest
reading_more text left rest items new top to sets all o m token h is_open may later (t, read, is) step =
    let here = front_here text left items top sets o m h is_open may in
    let spot : Spot = record { depth = length h.groups; may_repeat = is_some (last h.inner); left = left } in
    let read' : front_at spot ≡ spec.token t rest = here ∙ read in
    let needs : Needs (nat_lt 0 (length h.groups)) (is_some (last h.inner)) t =
    subst (λ x. FrontNeeds (nat_lt 0 (length h.groups)) (is_some (last h.inner)) x) read'
    (front_needs (nat_lt 0 (length h.groups)) (is_some (last h.inner)) left) in
    let y = may_take t h.groups h.inner needs in
    let stack = subst (λ x. IsStack all new to x) y.is
    (step all t h.groups h.inner is (frames_later sets all items h.groups later h.around)
    (frame_later sets all top h.inner later h.stands)) in
    let leads = leads_more h.tokens (first_spot text) spot t rest h.leads read' in
    record {
      tokens = h.tokens ++ t ∷ [];
      groups = y.to.0;
      inner = y.to.1;
      leads = subst (λ n. Leads (h.tokens ++ t ∷ []) (first_spot text)
          (record { depth = n; may_repeat = is_some (last y.to.1); left = rest })) (sym y.depth)
          (subst (λ b. Leads (h.tokens ++ t ∷ []) (first_spot text) (record {
            depth = depth_after t (length h.groups);
            may_repeat = b;
            left = rest;
          })) (sym y.repeatable) leads);
      around = stack.0;
      stands = stack.1;
      spelled = taken_at t h.groups h.inner h.tokens y.to y.is h.spelled;
    }

pub reading_later : (text left : List ℕ) (items : List code_frame.Frame) (top : code_frame.Frame)
    (sets all : List (List Bool)) → Later sets all → Reading text items top sets left → Reading text items top all left
reading_later text left items top sets all later h = record {
  tokens = h.tokens;
  groups = h.groups;
  inner = h.inner;
  leads = h.leads;
  around = frames_later sets all items h.groups later h.around;
  stands = frame_later sets all top h.inner later h.stands;
  spelled = h.spelled;
}

pub reading_wrong : (text left : List ℕ) (items : List code_frame.Frame) (top : code_frame.Frame)
    (sets : List (List Bool)) (o m : Bool) (f : EreFault) → Reading text items top sets left
    → o ≡ nat_lt 0 (length items) → m ≡ is_some top.last → spec.front o m left ≡ spec.wrong f → HasFault text f
reading_wrong text left items top sets o m f h is_open may wrong = (
  h.tokens,
  record { depth = length h.groups; may_repeat = is_some (last h.inner); left = left },
  h.leads,
  front_here text left items top sets o m h is_open may ∙ wrong,
)

-- the end comes where no group is open alone
open_ends : (o m : Bool) (s : List ℕ) → spec.front o m s ≡ spec.finished → o ≡ false
open_ends true m [] e = absurd (cc)
open_ends false m [] e = refl
open_ends o m (c ∷ s) e = absurd (no_end (spec.lead m c) e) where
  no_end : (l : Lead) → spec.led l o m c s ≡ spec.finished → ⊥
  no_end Bracket e = found_end (bracket s) e where
    found_end : (x : Found) → spec.bracketed x ≡ spec.finished → ⊥
    found_end None e = cc
    found_end (Some p) e = cc
  no_end Escape e = escaped_end (escape s) e where
    escaped_end : (x : Option (ℕ × List ℕ)) → spec.escaped x ≡ spec.finished → ⊥
    escaped_end None e = cc
    escaped_end (Some p) e = cc
  no_end Brace e = repeated_end (interval s) e where
    by_allowed : (b : Bool) (t : spec.Token) (l : List ℕ) (f : EreFault) → cond b (spec.token t l) (spec.wrong f)
        ≡ spec.finished → ⊥
    by_allowed true t l f e = cc
    by_allowed false t l f e = cc

    repeated_end : (x : Option (Times × List ℕ)) → spec.repeated s x ≡ spec.finished → ⊥
    repeated_end None e = cc
    repeated_end (Some p) e = by_allowed (is_allowed p.0) _ _ _ e
  no_end Sign e = cc

-- a fault of the text is one of two
abbrev Faulty : spec.Front → Type 0
Faulty (spec.wrong f) = (f ≡ Syntax) ⊎ (f ≡ Interval)
Faulty x = Unit {0}

module _ (o m : Bool) where
  found_faulty : (x : Found) → Faulty (spec.bracketed x)
  found_faulty None = inl refl
  found_faulty (Some p) = tt

  escaped_faulty : (x : Option (ℕ × List ℕ)) → Faulty (spec.escaped x)
  escaped_faulty None = inl refl
  escaped_faulty (Some p) = tt

  repeated_faulty : (s : List ℕ) (x : Option (Times × List ℕ)) → Faulty (spec.repeated s x)
  repeated_faulty s None = tt
  repeated_faulty s (Some p) = by_allowed (is_allowed p.0) where
    by_allowed : (b : Bool)
        → Faulty (cond b (spec.token (spec.times p.0.0 p.0.1 (factor p.0)) p.1) (spec.wrong Interval))
    by_allowed true = tt
    by_allowed false = inr refl

  led_faulty : (l : Lead) (c : ℕ) (s : List ℕ) → Faulty (spec.led l o m c s)
  led_faulty Bracket c s = found_faulty (bracket s)
  led_faulty Escape c s = escaped_faulty (escape s)
  led_faulty Brace c s = repeated_faulty s (interval s)
  led_faulty Sign c s = tt

  front_faulty : (s : List ℕ) → Faulty (spec.front o m s)
  front_faulty [] = by_open o where
    by_open : (b : Bool) → Faulty (cond b (spec.wrong Syntax) spec.finished)
    by_open true = inl refl
    by_open false = tt
  front_faulty (c ∷ s) = led_faulty (spec.lead m c) c s

pub fault_kind : (text : List ℕ) (f : EreFault) → HasFault text f → (f ≡ Syntax) ⊎ (f ≡ Interval)
fault_kind text f h = subst Faulty h.3 (front_faulty (nat_lt 0 h.1.depth) h.1.may_repeat h.1.left)

pub reading_ends : (text left : List ℕ) (items : List code_frame.Frame) (top : code_frame.Frame)
    (sets : List (List Bool)) (o m : Bool) (whole : code_part.SizedNode) → Reading text items top sets left
    → o ≡ nat_lt 0 (length items) → m ≡ is_some top.last → spec.front o m left ≡ spec.finished
    → ((f : Frame) → IsFrame sets top f → Stands sets whole (finished f))
    → (ts : List spec.Token) × (p : Pattern) × (n : ℕ) × IsRead text ts × Spells ere ts p n × Stands sets whole (p, n)
reading_ends text left items top sets o m whole h is_open may end finish =
    let shut : nat_lt 0 (length items) ≡ false = sym is_open ∙ open_ends o m left end in
    let e = groups_open sets items h.groups h.around in
    let none : length h.groups ≡ 0 = no_groups (length h.groups) (ap (nat_lt 0) (sym e) ∙ shut) in
    let all = finished h.inner in (
      h.tokens,
      all.0,
      all.1,
      (
        record { depth = length h.groups; may_repeat = is_some (last h.inner); left = left },
        h.leads,
        front_here text left items top sets o m h is_open may ∙ end,
      ),
      finish_spells h.inner h.tokens (flat h.groups none h.spelled),
      finish h.inner h.stands,
    ) where
      no_groups : (n : ℕ) → nat_lt 0 n ≡ false → n ≡ 0
      no_groups n e = grind (arith, nat_tests)

      flat : (os : List Frame) → length os ≡ 0 → StackAt os h.inner h.tokens → StackAt [] h.inner h.tokens
      flat [] e s = s
      flat (o ∷ os) e s = absurd (omega arith)
