-- The laws of what a world that joins Puts goes on by.
use Rattle.std.specs.Prelude.{◌≡◌, refl, ℕ, Bool, true, false, List, [], ◌∷◌, ◌++◌, map, Option, None, Some}
use Rattle.std.proofs.Common.{ap, sym, ◌∙◌, subst, append_assoc, inl, inr}
use Rattle.std.proofs.lemmas.Grind.{flat_map-append}
use Rattle.std.proofs.lemmas.List.{append-nil}
use Rattle.box_world.specs.Calls.{Call, numbers_after, open_after, open_after-append}
use Rattle.box_world.specs.declared.ask.Ask.{Ask}
use Rattle.box_world.specs.declared.ask.Reply.{Reply}
use Rattle.box_world.specs.declared.ask.Reply.TheVariants.{Failed}
use Rattle.box_world.specs.declared.ask.Request.{Request}
use Rattle.box_world.specs.declared.ask.Request.TheVariants.{Open, Next, Put, Shut, System, Env, Assign}
use Rattle.box_blocks.specs.Blocks.{AreHeld, Blocks}
use Rattle.box_blocks.specs.Follows.{Goes, Follows, Steady}
use Rattle.box_blocks.specs.Parts.{AllRight, IsPutTo, IsRight, IsShutOf, Part, Same, Block, Refused, Ended, Writing}
use Rattle.box_blocks.specs.Parts.{answered, answered_of, asked, asked_of, done, untold_after, untold_in}
use Rattle.box_blocks.specs.Stops.{Stops, StopsBehind}

pub untold_in-append : (untold : Option ℕ) (ps qs : List Part)
    → untold_in untold (ps ++ qs) ≡ untold_in (untold_in untold ps) qs
untold_in-append untold [] qs = refl
untold_in-append untold (p ∷ ps) qs = untold_in-append (untold_after untold p) ps qs

pub AllRight-append : (untold : Option ℕ) (ps qs : List Part) → AllRight untold ps → AllRight (untold_in untold ps) qs
    → AllRight untold (ps ++ qs)
AllRight-append untold [] qs h k = k
AllRight-append untold (p ∷ ps) qs h k = (h.0, AllRight-append (untold_after untold p) ps qs h.1 k)

pub answered-append : (ps qs : List Part) → answered (ps ++ qs) ≡ answered ps ++ answered qs
answered-append ps qs = flat_map-append answered_of ps qs

pub asked-append : (ps qs : List Part) → asked (ps ++ qs) ≡ asked ps ++ asked qs
asked-append ps qs = flat_map-append asked_of ps qs

-- two lists of calls, one after the other, are the parts of both
pub are-both : (puts xs ys rest last : List Call) (ps qs : List Part) → puts ++ xs ≡ answered ps ++ rest
    → rest ++ ys ≡ answered qs ++ last → puts ++ (xs ++ ys) ≡ answered (ps ++ qs) ++ last
are-both puts xs ys rest last ps qs p q =
    sym (append_assoc puts xs ys) ∙ ap (λ z. z ++ ys) p ∙ append_assoc (answered ps) rest ys
    ∙ ap (λ z. answered ps ++ z) q ∙ sym (append_assoc (answered ps) (answered qs) last)
    ∙ ap (λ z. z ++ last) (sym (answered-append ps qs))

-- some Puts are held, whatever is
pub some_puts : (held : Option Writing) → (puts : List Call) × AreHeld held puts
some_puts None = ([], refl)
some_puts (Some held) = (
  done held ∷ [],
  record {
    first = held;
    more = [];
    are = refl;
    as_one = ap (λ (z : List ℕ). record held { bytes = z }) (sym (append-nil held.bytes));
    to_one = tt;
  },
)

-- Puts leave the open numbers
open-done : (ws : List Writing) (numbers : List ℕ) → open_after (map done ws) numbers ≡ numbers
open-done [] numbers = refl
open-done (w ∷ ws) numbers = open-done ws numbers

open-held : (held : Option Writing) (puts : List Call) → AreHeld held puts → (numbers : List ℕ)
    → open_after puts numbers ≡ numbers
open-held None puts h numbers = ap (λ z. open_after z numbers) h
open-held (Some held) puts h numbers =
    ap (λ z. open_after z numbers) h.are ∙ open-done (h.first ∷ h.more) numbers

open-refused : (untold : Option ℕ) (request : Request) → IsPutTo untold request → (numbers : List ℕ)
    → numbers ≡ numbers_after request Failed numbers
open-refused untold (Put n bytes) h numbers = refl
open-refused untold (Open mode text) h numbers = absurd h
open-refused untold (Next n) h numbers = absurd h
open-refused untold (Shut n) h numbers = absurd h
open-refused untold (System text) h numbers = absurd h
open-refused untold (Env name) h numbers = absurd h
open-refused untold (Assign name text) h numbers = absurd h

open-ended : (untold : Option ℕ) (request : Request) (reply : Reply) → IsShutOf untold request → (numbers : List ℕ)
    → numbers_after request reply numbers ≡ numbers_after request Failed numbers
open-ended untold (Shut n) reply h numbers = refl
open-ended untold (Open mode text) reply h numbers = absurd h
open-ended untold (Next n) reply h numbers = absurd h
open-ended untold (Put n bytes) reply h numbers = absurd h
open-ended untold (System text) reply h numbers = absurd h
open-ended untold (Env name) reply h numbers = absurd h
open-ended untold (Assign name text) reply h numbers = absurd h

open-part : (untold : Option ℕ) (p : Part) → IsRight untold p → (numbers : List ℕ)
    → open_after (asked_of p) numbers ≡ open_after (answered_of p) numbers
open-part untold (Same call) h numbers = refl
open-part untold (Block first more reply) h numbers = sym (open-done more numbers)
open-part untold (Refused ask) h numbers = open-refused untold ask.request h numbers
open-part untold (Ended ask reply) h numbers = open-ended untold ask.request reply h numbers

-- parts leave the same numbers open, as they are asked and as they are answered
pub open-parts : (untold : Option ℕ) (ps : List Part) → AllRight untold ps → (numbers : List ℕ)
    → open_after (asked ps) numbers ≡ open_after (answered ps) numbers
open-parts untold [] h numbers = refl
open-parts untold (p ∷ ps) h numbers =
    open_after-append (asked_of p) (asked ps) numbers
    ∙ ap (λ z. open_after (asked ps) z) (open-part untold p h.0 numbers)
    ∙ open-parts (untold_after untold p) ps h.1 (open_after (answered_of p) numbers)
    ∙ sym (open_after-append (answered_of p) (answered ps) numbers)

module _ {W : Type 0} (follows : W → List Call → W → Type 0) (has_stopped : W → Bool) where
  pub Follows-none : ((w : W) → follows w [] w) → (b : Blocks W) → Follows follows has_stopped b [] b
  Follows-none none b = record {
    goes = λ puts h. record {
      parts = [];
      rest = puts;
      are = append-nil puts;
      held = h;
      right = tt;
      untold = refl;
      inner = none b.world;
    };
    steady = λ h. record { before = h; same = refl };
  }

  Goes-append : ((u v w : W) (xs ys : List Call) → follows u xs v → follows v ys w → follows u (xs ++ ys) w)
      → (u v w : Blocks W) (puts xs ys : List Call) (p : Goes follows u puts xs v)
      → Goes follows v p.rest ys w → Goes follows u puts (xs ++ ys) w
  Goes-append append u v w puts xs ys p q = record {
    parts = p.parts ++ q.parts;
    rest = q.rest;
    are = are-both puts xs ys p.rest q.rest p.parts q.parts p.are q.are;
    held = q.held;
    right = AllRight-append u.untold p.parts q.parts p.right (subst (λ z. AllRight z q.parts) p.untold q.right);
    untold = q.untold ∙ ap (λ z. untold_in z q.parts) p.untold ∙ sym (untold_in-append u.untold p.parts q.parts);
    inner = subst (λ z. follows u.world z w.world) (sym (asked-append p.parts q.parts))
        (append u.world v.world w.world (asked p.parts) (asked q.parts) p.inner q.inner);
  }

  pub Follows-append : ((u v w : W) (xs ys : List Call) → follows u xs v → follows v ys w → follows u (xs ++ ys) w)
      → (u v w : Blocks W) (xs ys : List Call) → Follows follows has_stopped u xs v → Follows follows has_stopped v ys w
      → Follows follows has_stopped u (xs ++ ys) w
  Follows-append append u v w xs ys p q = record {
    goes = λ puts h.
        let early : Goes follows u puts xs v = p.goes puts h in
        Goes-append append u v w puts xs ys early (q.goes early.rest early.held);
    steady = λ h.
        let late : Steady has_stopped v w = q.steady h in
        let early : Steady has_stopped u v = p.steady late.before in
        record { before = early.before; same = late.same ∙ early.same };
  }

  pub Follows-open : (open_numbers : W → List ℕ)
      → ((v w : W) (calls : List Call) → follows v calls w → open_numbers w ≡ open_after calls (open_numbers v))
      → (v w : Blocks W) (calls : List Call) → Follows follows has_stopped v calls w
      → open_numbers w.world ≡ open_after calls (open_numbers v.world)
  Follows-open open_numbers leads_open v w calls p =
      let puts : (puts : List Call) × AreHeld v.held puts = some_puts v.held in
      let goes : Goes follows v puts.0 calls w = p.goes puts.0 puts.1 in
      let numbers : List ℕ = open_numbers v.world in
      leads_open v.world w.world (asked goes.parts) goes.inner
      ∙ open-parts v.untold goes.parts goes.right numbers
      ∙ sym (open-held w.held goes.rest goes.held (open_after (answered goes.parts) numbers))
      ∙ sym (open_after-append (answered goes.parts) goes.rest numbers)
      ∙ ap (λ z. open_after z numbers) (sym goes.are)
      ∙ open_after-append puts.0 calls numbers
      ∙ ap (λ z. open_after calls z) (open-held v.held puts.0 puts.1 numbers)

  module _ (stops : W → List Call → Ask → W → Type 0)
      (later : (u v w : W) (xs ys : List Call) (ask : Ask) → follows u xs v → has_stopped v ≡ has_stopped u
      → stops v ys ask w → stops u (xs ++ ys) ask w) where
    StopsBehind-later : (u v w : Blocks W) (puts xs ys : List Call) (ask : Ask)
        → has_stopped v.world ≡ has_stopped u.world → (p : Goes follows u puts xs v)
        → StopsBehind stops v p.rest ys ask w → StopsBehind stops u puts (xs ++ ys) ask w
    StopsBehind-later u v w puts xs ys ask same p q = record {
      parts = p.parts ++ q.parts;
      rest = q.rest;
      are = are-both puts xs ys p.rest q.rest p.parts q.parts p.are q.are;
      right = AllRight-append u.untold p.parts q.parts p.right (subst (λ z. AllRight z q.parts) p.untold q.right);
      first = q.first;
      is_first = q.is_first;
      inner = subst (λ z. stops u.world z q.first w.world) (sym (asked-append p.parts q.parts))
          (later u.world v.world w.world (asked p.parts) (asked q.parts) q.first p.inner same q.inner);
    }

    Stops-at : (u v w : Blocks W) (xs ys : List Call) (ask : Ask) → Follows follows has_stopped u xs v
        → v.stopped ≡ u.stopped → Stops stops v ys ask w → (s : Bool) → v.stopped ≡ s → Stops stops u (xs ++ ys) ask w
    Stops-at u v w xs ys ask p same q true h = inl (sym same ∙ h)
    Stops-at u v w xs ys ask p same q false h =
        let steady : Steady has_stopped u v = p.steady h in
        elim q [
          | inl a ↦ inl (sym same ∙ a)
          | inr a ↦ inr (λ puts k.
              let early : Goes follows u puts xs v = p.goes puts k in
              StopsBehind-later u v w puts xs ys ask steady.same early (a early.rest early.held))
        ]

    pub Stops-later : (u v w : Blocks W) (xs ys : List Call) (ask : Ask) → Follows follows has_stopped u xs v
        → v.stopped ≡ u.stopped → Stops stops v ys ask w → Stops stops u (xs ++ ys) ask w
    Stops-later u v w xs ys ask p same q = Stops-at u v w xs ys ask p same q v.stopped refl
