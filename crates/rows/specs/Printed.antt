-- What the calls of a world print, where none opens a stream.
use Rattle.std.specs.Prelude.{◌≡◌, ◌==◌, if◌then◌else◌, ℕ, List, [], ◌++◌, refl}
use Rattle.std.specs.List.{flat_map}
use Rattle.std.proofs.Common.{◌∙◌, append_assoc, ap, sym}
use Rattle.std.proofs.lemmas.Grind.{flat_map-append}
use Rattle.std.proofs.lemmas.List.{append-nil}
use Rattle.box_world.specs.Calls.{Call, open_after, open_after-append}
use Rattle.box_world.specs.declared.ask.Reply.{Reply}
use Rattle.box_world.specs.declared.ask.Reply.TheVariants.{Done}
use Rattle.box_world.specs.declared.ask.Request.{Request}
use Rattle.box_world.specs.declared.ask.Request.TheVariants.{Put}

-- the bytes that were put to the standard output
abbrev pub printed_by : Request → Reply → List ℕ
printed_by (Put number bytes) Done = if number == 1 then bytes else []
printed_by request reply = []

abbrev pub printed : List Call → List ℕ
printed calls = flat_map (λ call. printed_by call.0.request call.1) calls

-- no stream was opened, and what was printed before has grown by what these calls print
pub record Keeps (before : List ℕ) (calls : List Call) (after : List ℕ) : Type 0 where
  pub quiet : open_after calls [] ≡ []
  pub kept : after ≡ before ++ printed calls

-- ---- no call prints nothing, and calls print one after the other

pub keeps-none : (before : List ℕ) → Keeps before [] before
keeps-none before = record { quiet = refl; kept = sym (append-nil before) }

pub keeps-append : (u v w : List ℕ) (xs ys : List Call) → Keeps u xs v → Keeps v ys w → Keeps u (xs ++ ys) w
keeps-append u v w xs ys first second = record {
  quiet = open_after-append xs ys [] ∙ ap (open_after ys) first.quiet ∙ second.quiet;
  kept = second.kept ∙ ap (λ z. z ++ printed ys) first.kept ∙ append_assoc u (printed xs) (printed ys) ∙
      ap (λ z. u ++ z) (sym (flat_map-append (λ call. printed_by call.0.request call.1) xs ys));
}
