-- What one step of a world that joins Puts leads to.
use Rattle.std.specs.Prelude.{◌≡◌, refl, ℕ, ◌≤◌, Bool, true, false, List, [], ◌∷◌, ◌++◌, map, length, Option, None}
use Rattle.std.specs.Prelude.{Some}
use Rattle.std.specs.Prelude.{flat_map, is_some, IsSome, ◌⊎◌, option_map, Result, Ok, Err, IfOk, OnOk, OnErr, IsErrOf}
use Rattle.std.specs.Prelude.{is_err}
use Rattle.std.proofs.Common.{ap, sym, ◌∙◌, subst, append_assoc, inl, inr}
use Rattle.std.proofs.lemmas.Bool.{false≢true}
use Rattle.std.proofs.lemmas.Grind.{flat_map-append}
use Rattle.std.proofs.lemmas.List.{append-nil, map-append}
use Rattle.box_world.specs.Calls.{Call, IsDuty, IsFitting, MarksStop, open_after}
use Rattle.box_world.specs.declared.ask.Ask.{Ask}
use Rattle.box_world.specs.declared.ask.Reply.{Reply}
use Rattle.box_world.specs.declared.ask.Reply.TheVariants.{Done, Failed}
use Rattle.box_world.specs.declared.ask.Request.{Request}
use Rattle.box_world.specs.declared.ask.Request.TheVariants.{Open, Next, Put, Shut, System, Env, Assign}
use Rattle.box_world.specs.declared.ask.Stop.{Stop}
use Rattle.box_world.specs.declared.ask.Stop.TheVariants.{Memory, Log}
use Rattle.box_blocks.specs.Blocks.{AreHeld, Blocks, Holds, IsSound, MayBeHeld}
use Rattle.box_blocks.specs.Laws.{Follows-append, Follows-none, Follows-open, Stops-later, some_puts}
use Rattle.box_blocks.specs.Follows.{Goes, Follows, Steady}
use Rattle.box_blocks.specs.Owes.{BeginsWith, Empties, IsSame, JoinsTo, Lacks, Owes, Passes, Takes}
use Rattle.box_blocks.specs.Parts.{AllTo, IsPutTo, IsRight, IsShutOf, Part, Same, Block, Refused, Ended, Writing}
use Rattle.box_blocks.specs.Parts.{answered, asked, done, put_of, untold_by, untold_in}
use Rattle.box_blocks.specs.Stops.{Stops}
use Rattle.box_blocks.specs.Written.{AllWritten, Ends, IsEmptied, NotAllWritten, fresh}
use Rattle.box_blocks.specs.HeldBytes.{bytes_of, writing_of}
use Rattle.box_blocks.specs.declared.buffered.NotWritten.{NotWritten}
use Rattle.box_blocks.specs.declared.held.Held.{Held}

AllTo-more : (n : ℕ) (ws : List Writing) (w : Writing) → AllTo n ws → w.number ≡ n → AllTo n (ws ++ w ∷ [])
AllTo-more n [] w h e = (e, tt)
AllTo-more n (v ∷ ws) w h e = (h.0, AllTo-more n ws w h.1 e)

-- one more Put is held with those before
Holds-more : (held : Writing) (puts : List Call) (w : Writing) → Holds held puts → w.number ≡ held.number
    → Holds (record held { bytes = held.bytes ++ w.bytes }) (puts ++ done w ∷ [])
Holds-more held puts w h e = record {
  first = h.first;
  more = h.more ++ w ∷ [];
  are = ap (λ z. z ++ done w ∷ []) h.are ∙ sym (map-append done (h.first ∷ h.more) (w ∷ []));
  as_one = ap (λ (z : Writing). record z { bytes = z.bytes ++ w.bytes }) h.as_one
      ∙ ap (λ (z : List ℕ). record h.first { bytes = z })
      (append_assoc h.first.bytes (flat_map (λ v. v.bytes) h.more) w.bytes
      ∙ ap (λ z. h.first.bytes ++ z) (sym (flat_map-append (λ v. v.bytes) h.more (w ∷ [])
      ∙ ap (λ z. flat_map (λ v. v.bytes) h.more ++ z) (append-nil w.bytes))));
  to_one = AllTo-more h.first.number h.more w h.to_one (e ∙ ap (λ (z : Writing). z.number) h.as_one);
}

still_held : (held : Option Writing) (rest : List Call) → IsSome held → AreHeld held rest
    → (w : Writing) × Holds w rest
still_held (Some w) rest h k = (w, k)
still_held None rest h k = absurd (false≢true h)

pub one_held : (w : Writing) → Holds w (done w ∷ [])
one_held w = record {
  first = w;
  more = [];
  are = refl;
  as_one = ap (λ (z : List ℕ). record w { bytes = z }) (sym (append-nil w.bytes));
  to_one = tt;
}

module _ {W : Type 0} (follows : W → List Call → W → Type 0) (has_stopped : W → Bool) where
  -- a Put is joined to what is held
  pub joins : ((w : W) → follows w [] w) → (old : Blocks W) (held w : Writing) → old.held ≡ Some held
      → w.number ≡ held.number
      → Follows follows has_stopped old (done w ∷ [])
      (record old { held = Some (record held { bytes = held.bytes ++ w.bytes }) })
  joins none old held w is_held e = record {
    goes = λ puts h. record {
      parts = [];
      rest = puts ++ done w ∷ [];
      are = refl;
      held = Holds-more held puts w (subst (λ z. AreHeld z puts) is_held h) e;
      right = tt;
      untold = refl;
      inner = none old.world;
    };
    steady = λ h. record { before = h; same = refl };
  }

  -- a Put is held where nothing was
  pub begins : ((w : W) → follows w [] w) → (old : Blocks W) (w : Writing) → old.held ≡ None
      → Follows follows has_stopped old (done w ∷ []) (record old { held = Some w })
  begins none old w nothing = record {
    goes = λ puts h.
        let no_puts : puts ≡ [] = subst (λ z. AreHeld z puts) nothing h in
        record {
          parts = [];
          rest = done w ∷ [];
          are = ap (λ z. z ++ done w ∷ []) no_puts;
          held = one_held w;
          right = tt;
          untold = refl;
          inner = none old.world;
        };
    steady = λ h. record { before = h; same = refl };
  }

  -- the world behind goes on by no call
  pub waits : (old new : Blocks W) → follows old.world [] new.world → new.held ≡ old.held → new.untold ≡ old.untold
      → (new.stopped ≡ false → Steady has_stopped old new) → Follows follows has_stopped old [] new
  waits old new inner held untold steady = record {
    goes = λ puts h. record {
      parts = [];
      rest = puts;
      are = append-nil puts;
      held = subst (λ z. AreHeld z puts) (sym held) h;
      right = tt;
      untold = untold;
      inner = inner;
    };
    steady = steady;
  }

  -- one part, where nothing is held
  pub goes_by : (old new : Blocks W) (calls : List Call) (part : Part) → old.held ≡ None → new.held ≡ None
      → calls ≡ answered (part ∷ []) → IsRight old.untold part → new.untold ≡ untold_in old.untold (part ∷ [])
      → follows old.world (asked (part ∷ [])) new.world → (new.stopped ≡ false → Steady has_stopped old new)
      → Follows follows has_stopped old calls new
  goes_by old new calls part before after are right untold inner steady = record {
    goes = λ puts h.
        let no_puts : puts ≡ [] = subst (λ z. AreHeld z puts) before h in
        record {
          parts = part ∷ [];
          rest = [];
          are = ap (λ z. z ++ calls) no_puts ∙ are ∙ sym (append-nil (answered (part ∷ [])));
          held = subst (λ z. AreHeld z []) (sym after) refl;
          right = (right, tt);
          untold = untold;
          inner = inner;
        };
    steady = steady;
  }

  -- what was held is put
  pub puts_held : (old new : Blocks W) (held : Writing) (reply : Reply) → old.held ≡ Some held → new.held ≡ None
      → old.untold ≡ None → length held.bytes ≤ 65536 → new.untold ≡ untold_by held.number reply
      → follows old.world ((put_of held, reply) ∷ []) new.world → (new.stopped ≡ false → Steady has_stopped old new)
      → Follows follows has_stopped old [] new
  puts_held old new held reply is_held nothing told within untold inner steady = record {
    goes = λ puts h.
        let holds : Holds held puts = subst (λ z. AreHeld z puts) is_held h in
        record {
          parts = Block holds.first holds.more reply ∷ [];
          rest = [];
          are = append-nil puts ∙ holds.are
              ∙ sym (append-nil (map done (holds.first ∷ holds.more) ++ [])
              ∙ append-nil (map done (holds.first ∷ holds.more)));
          held = subst (λ z. AreHeld z []) (sym nothing) refl;
          right = ((told, holds.to_one, subst (λ (z : Writing). length z.bytes ≤ 65536) holds.as_one within), tt);
          untold = subst (λ (z : Writing). new.untold ≡ untold_by z.number reply) holds.as_one untold;
          inner = subst (λ (z : Writing). follows old.world ((put_of z, reply) ∷ []) new.world) holds.as_one inner;
        };
    steady = steady;
  }

  -- the world behind stops at what is held
  pub stops_at_held : (stops : W → List Call → Ask → W → Type 0) (old new : Blocks W) (held : Writing) (ask : Ask)
      → old.held ≡ Some held → stops old.world [] (put_of held) new.world → Stops stops old [] ask new
  stops_at_held stops old new held ask is_held inner = inr (λ puts h. record {
    parts = [];
    rest = puts;
    are = append-nil puts;
    right = tt;
    first = put_of held;
    is_first = inr (held, subst (λ z. AreHeld z puts) is_held h, refl);
    inner = inner;
  })

  -- it stops at the ask
  pub stops_at : (stops : W → List Call → Ask → W → Type 0) (old new : Blocks W) (ask : Ask)
      → old.held ≡ None → stops old.world [] ask new.world → Stops stops old [] ask new
  stops_at stops old new ask nothing inner = inr (λ puts h.
      let no_puts : puts ≡ [] = subst (λ z. AreHeld z puts) nothing h in
      record {
        parts = [];
        rest = [];
        are = append-nil puts ∙ no_puts;
        right = tt;
        first = ask;
        is_first = inl (refl, refl);
        inner = inner;
      })

fits_refused : (untold : Option ℕ) (numbers : List ℕ) (request : Request) → IsPutTo untold request
    → IsFitting numbers request Failed
fits_refused untold numbers (Put n bytes) h = tt
fits_refused untold numbers (Open mode text) h = absurd h
fits_refused untold numbers (Next n) h = absurd h
fits_refused untold numbers (Shut n) h = absurd h
fits_refused untold numbers (System text) h = absurd h
fits_refused untold numbers (Env name) h = absurd h
fits_refused untold numbers (Assign name text) h = absurd h

fits_ended : (untold : Option ℕ) (numbers : List ℕ) (request : Request) → IsShutOf untold request
    → IsFitting numbers request Failed
fits_ended untold numbers (Shut n) h = tt
fits_ended untold numbers (Open mode text) h = absurd h
fits_ended untold numbers (Next n) h = absurd h
fits_ended untold numbers (Put n bytes) h = absurd h
fits_ended untold numbers (System text) h = absurd h
fits_ended untold numbers (Env name) h = absurd h
fits_ended untold numbers (Assign name text) h = absurd h

-- what was held is taken out of the fields
pub taken : {W : Type 0} (open_numbers : W → List ℕ) (v old new : Blocks W) (ask : Ask) (w : Writing) → v ≡ old
    → v.held ≡ Some w → IsSound (open_numbers v.world) v.untold v.held → ask ≡ put_of w
    → new ≡ record v { held = None } → Takes open_numbers old new ask
taken {W} open_numbers v old new ask w same was sound is_ask left =
    subst (λ (z : Blocks W). Takes open_numbers z new ask) same (record {
      held = w;
      was = was;
      is_ask = is_ask;
      may = subst (λ z. IsSound (open_numbers v.world) v.untold z) was sound;
      left = left;
    })

-- the fields, as contracts see them
abbrev with_held : {W : Type 0} → W → Option ℕ → Bool → Option Held → Blocks W
with_held world untold stopped held =
    record { world = world; held = option_map writing_of held; untold = untold; stopped = stopped }

pub taken_of : {W : Type 0} (open_numbers : W → List ℕ) (world : W) (untold : Option ℕ) (stopped : Bool)
    (was left : Option Held) (held : Held) (old : Blocks W) (ask : Ask) → with_held world untold stopped was ≡ old
    → Some held ≡ was → left ≡ None → IsSound (open_numbers world) untold (option_map writing_of was)
    → ask ≡ put_of (writing_of held) → Takes open_numbers old (with_held world untold stopped left) ask
taken_of open_numbers world untold stopped was left held old ask same is_held nothing sound is_ask =
    taken open_numbers (with_held world untold stopped was) old (with_held world untold stopped left) ask
    (writing_of held) same (ap (option_map writing_of) (sym is_held)) sound is_ask
    (ap (with_held world untold stopped) nothing)

pub joined_of : {W : Type 0} (world : W) (untold : Option ℕ) (stopped : Bool) (was : Option Held) (held now : Held)
    (old : Blocks W) (ask : Ask) (n : ℕ) (bytes : List ℕ) → with_held world untold stopped was ≡ old → was ≡ Some held
    → ask.request ≡ Put n bytes → n ≡ held.number
    → writing_of now ≡ record (writing_of held) { bytes = bytes_of held.bytes ++ bytes }
    → JoinsTo old ask (with_held world untold stopped (Some now))
joined_of world untold stopped was held now old ask n bytes same is_held is_put to_same is_now =
    subst (λ z. JoinsTo z ask (with_held world untold stopped (Some now))) same (record {
      held = writing_of held;
      more = record { place = ask.place; given = ask.given; number = n; bytes = bytes };
      was = ap (option_map writing_of) is_held;
      is_ask = ap (λ (r : Request). record ask { request = r }) is_put;
      to_same = to_same;
      left = ap (λ (z : Writing). record (with_held world untold stopped was) { held = Some z }) is_now;
    })

-- what is held of a Put is that Put
pub begun_of : (ask : Ask) (n : ℕ) (bytes text : List ℕ) (w : Writing) → ask.request ≡ Put n bytes → text ≡ bytes
    → w ≡ record { place = ask.place; given = ask.given; number = n; bytes = text } → ask ≡ put_of w
begun_of ask n bytes text w is_put is_text is_held =
    ap (λ (r : Request). record ask { request = r }) is_put
    ∙ ap (λ (z : List ℕ). record ask { request = Put n z }) (sym is_text) ∙ ap put_of (sym is_held)

pub may_begin : (numbers : List ℕ) (untold : Option ℕ) (ask : Ask) (n : ℕ) (bytes text : List ℕ) (w : Writing)
    → ask.request ≡ Put n bytes → w ≡ record { place = ask.place; given = ask.given; number = n; bytes = text }
    → untold ≡ None → length text ≤ 65536 → IsDuty numbers ask.request → MayBeHeld numbers untold w
may_begin numbers untold ask n bytes text w is_put is_held told within duty =
    subst (λ z. MayBeHeld numbers untold z) (sym is_held) (record {
      told = told;
      within = within;
      stream = subst (λ z. IsDuty numbers z) is_put duty;
    })

module _ {W : Type 0} (follows : W → List Call → W → Type 0) (has_stopped : W → Bool) (open_numbers : W → List ℕ)
    (stops : W → List Call → Ask → W → Type 0) (lacks : W → Ask → W → Type 0) where
  pub passes : (old new : Blocks W) (ask : Ask) (result : Result Reply Stop)
      → (new.held ≡ None) × (new.untold ≡ old.untold)
      → IfOk result (λ reply. follows old.world ((ask, reply) ∷ []) new.world)
      → IfOk result (λ reply. IsFitting (open_numbers old.world) ask.request reply)
      → OnErr result (follows old.world [] new.world)
      → (IsErrOf result Log → (new.stopped ≡ true) × stops old.world [] ask new.world)
      → (¬ IsErrOf result Log → (new.stopped ≡ old.stopped) × (has_stopped new.world ≡ has_stopped old.world))
      → (IsErrOf result Memory → lacks old.world ask new.world)
      → Passes follows has_stopped open_numbers stops lacks old ask result new
  passes old new ask (Ok reply) same ok fits err log goes lack =
      let on : (new.stopped ≡ old.stopped) × (has_stopped new.world ≡ has_stopped old.world) = goes (λ h. cc) in
      (ok, fits, record { held = same.0; untold = same.1; stopped = on.0; steady = on.1 })
  passes old new ask (Err Memory) same ok fits err log goes lack =
      let on : (new.stopped ≡ old.stopped) × (has_stopped new.world ≡ has_stopped old.world) = goes (λ h. cc) in
      (err, record { held = same.0; untold = same.1; stopped = on.0; steady = on.1 }, lack refl)
  passes old new ask (Err Log) same ok fits err log goes lack =
      let there : (new.stopped ≡ true) × stops old.world [] ask new.world = log refl in
      (err, same.0, same.1, there.0, there.1)

  is_steady : (old new : Blocks W) → IsSame follows has_stopped open_numbers stops lacks old new → new.stopped ≡ false
      → Steady has_stopped old new
  is_steady old new same h = record { before = sym same.stopped ∙ h; same = same.steady }

  module _ (none : (w : W) → follows w [] w) where
    pub joined_owes : (old new : Blocks W) (ask : Ask) → JoinsTo old ask new
        → Owes follows has_stopped open_numbers stops lacks old ask (Ok Done) new
    joined_owes old new ask j = (
      subst (λ z. Follows follows has_stopped old ((z, Done) ∷ []) new) (sym j.is_ask)
          (subst (λ z. Follows follows has_stopped old (done j.more ∷ []) z) (sym j.left)
          (joins follows has_stopped none old j.held j.more j.was j.to_same)),
      subst (λ (z : Ask). IsFitting (open_numbers old.world) z.request Done) (sym j.is_ask) tt,
      ap (λ (z : Blocks W). z.stopped) j.left,
    )

    pub begun_owes : (old new : Blocks W) (ask : Ask) → old.held ≡ None → BeginsWith old ask new
        → Owes follows has_stopped open_numbers stops lacks old ask (Ok Done) new
    begun_owes old new ask nothing b = (
      subst (λ z. Follows follows has_stopped old ((z, Done) ∷ []) new) (sym b.is_ask)
          (subst (λ z. Follows follows has_stopped old (done b.held ∷ []) z) (sym b.left)
          (begins follows has_stopped none old b.held nothing)),
      subst (λ (z : Ask). IsFitting (open_numbers old.world) z.request Done) (sym b.is_ask) tt,
      ap (λ (z : Blocks W). z.stopped) b.left,
    )

    pub refused_owes : (old new : Blocks W) (ask : Ask) → old.held ≡ None → IsPutTo old.untold ask.request
        → new ≡ record old { untold = None }
        → Owes follows has_stopped open_numbers stops lacks old ask (Ok Failed) new
    refused_owes old new ask nothing is_put left = (
      subst (λ z. Follows follows has_stopped old ((ask, Failed) ∷ []) z) (sym left)
          (goes_by follows has_stopped old (record old { untold = None }) ((ask, Failed) ∷ []) (Refused ask)
          nothing nothing refl is_put refl (none old.world) (λ h. record { before = h; same = refl })),
      fits_refused old.untold (open_numbers old.world) ask.request is_put,
      ap (λ (z : Blocks W). z.stopped) left,
    )

  -- the world behind did not answer
  pub unanswered : (old new : Blocks W) (ask : Ask) (e : Stop) → old.held ≡ None
      → Passes follows has_stopped open_numbers stops lacks old ask (Err e) new
      → Owes follows has_stopped open_numbers stops lacks old ask (Err e) new
  unanswered old new ask Memory nothing p = (
    waits follows has_stopped old new p.0 (p.1.held ∙ sym nothing) p.1.untold (is_steady old new p.1),
    p.1.stopped,
    record { behind = old.world; reached = inl refl; at_ask = ask; is_asked = inl refl; lacking = p.2 },
  )
  unanswered old new ask Log nothing p = (
    waits follows has_stopped old new p.0 (p.1 ∙ sym nothing) p.2 (λ h. absurd (false≢true (sym h ∙ p.3))),
    stops_at follows has_stopped stops old new ask nothing p.4,
    p.3,
  )

  pub passed_owes : (old new : Blocks W) (ask : Ask) (result : Result Reply Stop) → old.held ≡ None
      → ¬ IsPutTo old.untold ask.request → ¬ IsShutOf old.untold ask.request
      → Passes follows has_stopped open_numbers stops lacks old ask result new
      → Owes follows has_stopped open_numbers stops lacks old ask result new
  passed_owes old new ask (Ok reply) nothing no_put no_shut p = (
    goes_by follows has_stopped old new ((ask, reply) ∷ []) (Same (ask, reply)) nothing p.2.held refl
        (no_put, no_shut) p.2.untold p.0 (is_steady old new p.2),
    p.1,
    p.2.stopped,
  )
  passed_owes old new ask (Err e) nothing no_put no_shut p = unanswered old new ask e nothing p

  pub ended_owes : (old mid new : Blocks W) (ask : Ask) (reply : Reply) → old.held ≡ None
      → IsShutOf old.untold ask.request → Passes follows has_stopped open_numbers stops lacks old ask (Ok reply) mid
      → new ≡ record mid { untold = None } → Owes follows has_stopped open_numbers stops lacks old ask (Ok Failed) new
  ended_owes old mid new ask reply nothing is_shut p left = (
    subst (λ z. Follows follows has_stopped old ((ask, Failed) ∷ []) z) (sym left)
        (goes_by follows has_stopped old (record mid { untold = None }) ((ask, Failed) ∷ []) (Ended ask reply) nothing
        p.2.held refl is_shut refl p.0 (λ h. record { before = sym p.2.stopped ∙ h; same = p.2.steady })),
    fits_ended old.untold (open_numbers old.world) ask.request is_shut,
    ap (λ (z : Blocks W). z.stopped) left ∙ p.2.stopped,
  )

  pub unanswered_if : (old new : Blocks W) (ask : Ask) (result : Result Reply Stop) → is_err result ≡ true
      → old.held ≡ None → Passes follows has_stopped open_numbers stops lacks old ask result new
      → Owes follows has_stopped open_numbers stops lacks old ask result new
  unanswered_if old new ask (Ok reply) h nothing p = absurd (false≢true h)
  unanswered_if old new ask (Err e) h nothing p = unanswered old new ask e nothing p

  pub ended_if : (old mid new : Blocks W) (ask : Ask) (result : Result Reply Stop) → is_err result ≡ false
      → old.held ≡ None → IsShutOf old.untold ask.request
      → Passes follows has_stopped open_numbers stops lacks old ask result mid
      → new ≡ record mid { untold = None } → Owes follows has_stopped open_numbers stops lacks old ask (Ok Failed) new
  ended_if old mid new ask (Ok reply) h nothing is_shut p left = ended_owes old mid new ask reply nothing is_shut p left
  ended_if old mid new ask (Err e) h nothing is_shut p left = absurd (false≢true (sym h))

  -- the same of worlds that are one
  pub owes_same : (mid old new : Blocks W) (ask : Ask) (result : Result Reply Stop) → mid ≡ old
      → Owes follows has_stopped open_numbers stops lacks mid ask result new
      → Owes follows has_stopped open_numbers stops lacks old ask result new
  owes_same mid old new ask result same p =
      subst (λ z. Owes follows has_stopped open_numbers stops lacks z ask result new) same p

  pub nothing_empties : ((w : W) → follows w [] w) → (old new : Blocks W) → new ≡ old → old.held ≡ None
      → Empties follows has_stopped open_numbers stops lacks old (Ok tt) new
  nothing_empties none old new same nothing = (
    subst (λ z. Follows follows has_stopped old [] z) (sym same) (Follows-none follows has_stopped none old),
    ap (λ (z : Blocks W). z.held) same ∙ nothing,
    ap (λ (z : Blocks W). z.stopped) same,
  )

  pub put_empties : (old mid last new : Blocks W) (ask : Ask) (reply : Reply) (untold : Option ℕ)
      → Takes open_numbers old mid ask → Passes follows has_stopped open_numbers stops lacks mid ask (Ok reply) last
      → ((w : Writing) → ask ≡ put_of w → untold ≡ untold_by w.number reply)
      → new ≡ record last { untold = untold } → Empties follows has_stopped open_numbers stops lacks old (Ok tt) new
  put_empties old mid last new ask reply untold t p tells left =
      let world : mid.world ≡ old.world = ap (λ (z : Blocks W). z.world) t.left in
      let stopped : last.stopped ≡ old.stopped = p.2.stopped ∙ ap (λ (z : Blocks W). z.stopped) t.left in
      let asked_one : follows old.world ((put_of t.held, reply) ∷ []) last.world =
      subst (λ z. follows old.world ((z, reply) ∷ []) last.world) t.is_ask
      (subst (λ z. follows z ((ask, reply) ∷ []) last.world) world p.0) in (
        subst (λ z. Follows follows has_stopped old [] z) (sym left)
            (puts_held follows has_stopped old (record last { untold = untold }) t.held reply t.was p.2.held t.may.told
            t.may.within (tells t.held t.is_ask) asked_one
            (λ h. record { before = sym stopped ∙ h; same = p.2.steady ∙ ap has_stopped world })),
        ap (λ (z : Blocks W). z.held) left ∙ p.2.held,
        ap (λ (z : Blocks W). z.stopped) left ∙ stopped,
      )

  pub kept_empties : (old mid last new : Blocks W) (ask : Ask) (e : Stop) (held : Option Writing)
      → Takes open_numbers old mid ask → Passes follows has_stopped open_numbers stops lacks mid ask (Err e) last
      → ((w : Writing) → ask ≡ put_of w → held ≡ Some w)
      → new ≡ record last { held = held } → Empties follows has_stopped open_numbers stops lacks old (Err e) new
  kept_empties old mid last new ask Memory held t p tells left =
      let world : mid.world ≡ old.world = ap (λ (z : Blocks W). z.world) t.left in
      let stopped : last.stopped ≡ old.stopped = p.1.stopped ∙ ap (λ (z : Blocks W). z.stopped) t.left in
      let last_world : new.world ≡ last.world = ap (λ (z : Blocks W). z.world) left in
      let again : held ≡ Some t.held = tells t.held t.is_ask in (
        subst (λ z. Follows follows has_stopped old [] z) (sym left)
            (waits follows has_stopped old (record last { held = held })
            (subst (λ z. follows z [] last.world) world p.0) (again ∙ sym t.was)
            (p.1.untold ∙ ap (λ (z : Blocks W). z.untold) t.left)
            (λ h. record { before = sym stopped ∙ h; same = p.1.steady ∙ ap has_stopped world })),
        ap (λ (z : Blocks W). is_some z.held) left ∙ ap is_some again,
        ap (λ (z : Blocks W). z.stopped) left ∙ stopped,
        λ first. record {
          behind = old.world;
          reached = inl refl;
          at_ask = put_of t.held;
          is_asked = inr (t.held, t.was, refl);
          lacking = subst (λ z. lacks old.world (put_of t.held) z) (sym last_world)
              (subst (λ z. lacks old.world z last.world) t.is_ask (subst (λ z. lacks z ask last.world) world p.2));
        },
      )
  kept_empties old mid last new ask Log held t p tells left =
      let world : mid.world ≡ old.world = ap (λ (z : Blocks W). z.world) t.left in
      let again : held ≡ Some t.held = tells t.held t.is_ask in
      let last_world : new.world ≡ last.world = ap (λ (z : Blocks W). z.world) left in (
        subst (λ z. Follows follows has_stopped old [] z) (sym left)
            (waits follows has_stopped old (record last { held = held })
            (subst (λ z. follows z [] last.world) world p.0) (again ∙ sym t.was)
            (p.2 ∙ ap (λ (z : Blocks W). z.untold) t.left) (λ h. absurd (false≢true (sym h ∙ p.3)))),
        ap (λ (z : Blocks W). is_some z.held) left ∙ ap is_some again,
        ap (λ (z : Blocks W). z.stopped) left ∙ p.3,
        λ first. stops_at_held follows has_stopped stops old new t.held first t.was
            (subst (λ z. stops old.world [] (put_of t.held) z) (sym last_world)
            (subst (λ z. stops old.world [] z last.world) t.is_ask
            (subst (λ z. stops z [] ask last.world) world p.4))),
      )

  waited : (old new : Blocks W) (ask : Ask) (e : Stop)
      → Passes follows has_stopped open_numbers stops lacks old ask (Err e) new → follows old.world [] new.world
  waited old new ask Memory p = p.0
  waited old new ask Log p = p.0

  untold_still : (old new : Blocks W) (ask : Ask) (e : Stop)
      → Passes follows has_stopped open_numbers stops lacks old ask (Err e) new → new.untold ≡ old.untold
  untold_still old new ask Memory p = p.1.untold
  untold_still old new ask Log p = p.2

  -- where the Puts that were held could not be put, the ask is not answered
  pub unemptied_owes : (old new : Blocks W) (ask : Ask) (e : Stop)
      → Empties follows has_stopped open_numbers stops lacks old (Err e) new
      → Owes follows has_stopped open_numbers stops lacks old ask (Err e) new
  unemptied_owes old new ask Memory p = (p.0, p.2, p.3 ask)
  unemptied_owes old new ask Log p = (p.0, p.3 ask, p.2)

  module _ (append : (u v w : W) (xs ys : List Call) → follows u xs v → follows v ys w → follows u (xs ++ ys) w)
      (leads_open : (v w : W) (calls : List Call) → follows v calls w
      → open_numbers w ≡ open_after calls (open_numbers v))
      (later : (u v w : W) (xs ys : List Call) (ask : Ask) → follows u xs v → has_stopped v ≡ has_stopped u
      → stops v ys ask w → stops u (xs ++ ys) ask w) where
    -- the same numbers are open once what is held is put
    pub open_still : (old mid : Blocks W) → Empties follows has_stopped open_numbers stops lacks old (Ok tt) mid
        → open_numbers mid.world ≡ open_numbers old.world
    open_still old mid p = Follows-open follows has_stopped open_numbers leads_open old mid [] p.0

    -- it lacks memory after what was held is put
    lacks_after : (old mid new : Blocks W) (ask : Ask) → Follows follows has_stopped old [] mid → mid.held ≡ None
        → Lacks follows lacks mid ask new → Lacks follows lacks old ask new
    lacks_after old mid new ask p nothing l =
        let puts : (puts : List Call) × AreHeld old.held puts = some_puts old.held in
        let goes : Goes follows old puts.0 [] mid = p.goes puts.0 puts.1 in
        record {
          behind = l.behind;
          reached = elim l.reached [
            | inl e ↦ inr (asked goes.parts, subst (λ z. follows old.world (asked goes.parts) z) (sym e) goes.inner)
            | inr r ↦ inr (
              asked goes.parts ++ r.0,
              append old.world mid.world l.behind (asked goes.parts) r.0 goes.inner r.1,
            )
          ];
          at_ask = l.at_ask;
          is_asked = elim l.is_asked [
            | inl e ↦ inl e
            | inr h ↦ absurd (false≢true (ap is_some (sym nothing ∙ h.1)))
          ];
          lacking = l.lacking;
        }

    pub emptied_owes : (old mid new : Blocks W) (ask : Ask) (result : Result Reply Stop)
        → Empties follows has_stopped open_numbers stops lacks old (Ok tt) mid
        → Owes follows has_stopped open_numbers stops lacks mid ask result new
        → Owes follows has_stopped open_numbers stops lacks old ask result new
    emptied_owes old mid new ask (Ok reply) p q = (
      Follows-append follows has_stopped append old mid new [] ((ask, reply) ∷ []) p.0 q.0,
      subst (λ z. IsFitting z ask.request reply) (open_still old mid p) q.1,
      q.2 ∙ p.2,
    )
    emptied_owes old mid new ask (Err Memory) p q = (
      Follows-append follows has_stopped append old mid new [] [] p.0 q.0,
      q.1 ∙ p.2,
      lacks_after old mid new ask p.0 p.1 q.2,
    )
    emptied_owes old mid new ask (Err Log) p q = (
      Follows-append follows has_stopped append old mid new [] [] p.0 q.0,
      Stops-later follows has_stopped stops later old mid new [] [] ask p.0 p.2 q.1,
      q.2,
    )

    -- what is taken may be asked, and held again where it was not answered
    pub duty_taken : (old mid : Blocks W) (ask : Ask) → Takes open_numbers old mid ask
        → IsDuty (open_numbers mid.world) ask.request
    duty_taken old mid ask t =
        subst (λ (z : Ask). IsDuty (open_numbers mid.world) z.request) (sym t.is_ask)
        (subst (λ z. IsDuty (open_numbers z) (put_of t.held).request) (sym (ap (λ (z : Blocks W). z.world) t.left))
        t.may.stream)

    pub sound_again : (old mid last : Blocks W) (ask : Ask) (e : Stop) (held : Option Writing)
        → Takes open_numbers old mid ask → Passes follows has_stopped open_numbers stops lacks mid ask (Err e) last
        → ((w : Writing) → ask ≡ put_of w → held ≡ Some w) → IsSound (open_numbers last.world) last.untold held
    sound_again old mid last ask e held t p tells =
        let inner : follows mid.world [] last.world = waited mid last ask e p in
        let numbers : open_numbers last.world ≡ open_numbers old.world =
        leads_open mid.world last.world [] inner ∙ ap (λ (z : Blocks W). open_numbers z.world) t.left in
        let untold : last.untold ≡ None = untold_still mid last ask e p ∙ ap (λ (z : Blocks W). z.untold) t.left
        ∙ t.may.told in
        subst (λ z. IsSound (open_numbers last.world) last.untold z) (sym (tells t.held t.is_ask))
        (record {
          told = untold;
          within = t.may.within;
          stream = subst (λ z. IsDuty z (put_of t.held).request) (sym numbers) t.may.stream;
        })

    module _ (first : W) (calls : List Call) (old new : Blocks W)
        (early : Follows follows has_stopped (fresh first) calls old) (late : Follows follows has_stopped old []
        new) where
      all_goes : Goes follows (fresh first) [] (calls ++ []) new
      all_goes = (Follows-append follows has_stopped append (fresh first) old new calls [] early late).goes [] refl

      all_written : new.held ≡ None → new.untold ≡ None → AllWritten follows first calls new.world
      all_written nothing told =
          let no_rest : all_goes.rest ≡ [] = subst (λ z. AreHeld z all_goes.rest) nothing all_goes.held in
          record {
            inner = asked all_goes.parts;
            joined = record {
              parts = all_goes.parts;
              are = sym (append-nil calls) ∙ all_goes.are ∙ ap (λ z. answered all_goes.parts ++ z) no_rest
                  ∙ append-nil (answered all_goes.parts);
              asks = refl;
              right = all_goes.right;
              left = sym told ∙ all_goes.untold;
            };
            follows_by = all_goes.inner;
          }

      not_all_written : IsSome new.untold ⊎ IsSome new.held → NotAllWritten follows first calls new.world
      not_all_written lost = record {
        written = answered all_goes.parts;
        rest = all_goes.rest;
        are = sym (append-nil calls) ∙ all_goes.are;
        inner = asked all_goes.parts;
        untold = new.untold;
        joined = record {
          parts = all_goes.parts;
          are = refl;
          asks = refl;
          right = all_goes.right;
          left = all_goes.untold;
        };
        follows_by = all_goes.inner;
        lost = elim lost [
          | inl a ↦ inl a
          | inr a ↦ inr (still_held new.held all_goes.rest a all_goes.held)
        ];
      }

    pub emptied_by_told : (old new : Blocks W) (result : Result (Unit {0}) NotWritten)
        → Empties follows has_stopped open_numbers stops lacks old (Ok tt) new → OnOk result (new.untold ≡ None)
        → OnErr result (IsSome new.untold) → IsEmptied follows has_stopped old result new
    emptied_by_told old new (Ok u) p told untold = (p.0, p.1, told)
    emptied_by_told old new (Err error) p told untold = (p.0, inl untold)

    pub ends_so : (first : W) (calls : List Call) (old new : Blocks W) (result : Result (Unit {0}) NotWritten)
        → Follows follows has_stopped (fresh first) calls old → IsEmptied follows has_stopped old result new
        → Ends follows first calls result new.world
    ends_so first calls old new (Ok u) early p = all_written first calls old new early p.0 p.1 p.2
    ends_so first calls old new (Err error) early p = not_all_written first calls old new early p.0 p.1

  pub not_emptied : (old new : Blocks W) (e : Stop) (error : NotWritten)
      → Empties follows has_stopped open_numbers stops lacks old (Err e) new
      → IsEmptied follows has_stopped old (Err error) new
  not_emptied old new Memory error p = (p.0, inr p.1)
  not_emptied old new Log error p = (p.0, inr p.1)

  -- the clauses of what a world owes
  pub owes_ok : (old new : Blocks W) (ask : Ask) (result : Result Reply Stop)
      → Owes follows has_stopped open_numbers stops lacks old ask result new
      → IfOk result (λ reply. Follows follows has_stopped old ((ask, reply) ∷ []) new)
  owes_ok old new ask (Ok reply) p = p.0
  owes_ok old new ask (Err e) p = tt

  pub owes_fits : (old new : Blocks W) (ask : Ask) (result : Result Reply Stop)
      → Owes follows has_stopped open_numbers stops lacks old ask result new
      → IfOk result (λ reply. IsFitting (open_numbers old.world) ask.request reply)
  owes_fits old new ask (Ok reply) p = p.1
  owes_fits old new ask (Err e) p = tt

  pub owes_err : (old new : Blocks W) (ask : Ask) (result : Result Reply Stop)
      → Owes follows has_stopped open_numbers stops lacks old ask result new
      → OnErr result (Follows follows has_stopped old [] new)
  owes_err old new ask (Ok reply) p = tt
  owes_err old new ask (Err Memory) p = p.0
  owes_err old new ask (Err Log) p = p.0

  pub owes_log : (old new : Blocks W) (ask : Ask) (result : Result Reply Stop)
      → Owes follows has_stopped open_numbers stops lacks old ask result new
      → IsErrOf result Log → Stops stops old [] ask new
  owes_log old new ask (Ok reply) p h = absurd (cc)
  owes_log old new ask (Err Memory) p h = absurd (cc)
  owes_log old new ask (Err Log) p h = p.1

  pub owes_stopped : (old new : Blocks W) (ask : Ask) (result : Result Reply Stop)
      → Owes follows has_stopped open_numbers stops lacks old ask result new → old.stopped ≡ false
      → MarksStop result old.stopped new.stopped
  owes_stopped old new ask (Ok reply) p going = (going, p.2 ∙ going)
  owes_stopped old new ask (Err Memory) p going = (going, p.1 ∙ going)
  owes_stopped old new ask (Err Log) p going = p.2

  pub owes_lacks : (old new : Blocks W) (ask : Ask) (result : Result Reply Stop)
      → Owes follows has_stopped open_numbers stops lacks old ask result new
      → IsErrOf result Memory → Lacks follows lacks old ask new
  owes_lacks old new ask (Ok reply) p h = absurd (cc)
  owes_lacks old new ask (Err Memory) p h = p.2
  owes_lacks old new ask (Err Log) p h = absurd (cc)
