-- Rows of the definition, made by the reference: scripts as texts, the world's replies, and what a run then was.
use Rattle.std.specs.Prelude.{◌≡◌, refl, ℕ, Bool, false, List, [], ◌∷◌, codes, Option, Some, None, pos}
use Rattle.std.specs.List.{list_any}
use Rattle.std.specs.Str.{bytes_eq}
use Rattle.awk_text.specs.declared.place.Place.{Place}
use Rattle.awk_tree.specs.Tree.{Text}
use Rattle.box_world.specs.Calls.{Call}
use Rattle.box_world.specs.declared.ask.Request.{Request}
use Rattle.box_world.specs.declared.ask.Request.TheVariants as r
use Rattle.box_world.specs.declared.ask.Mode.TheVariants as mode
use Rattle.box_world.specs.declared.ask.Reply.{Reply}
use Rattle.box_world.specs.declared.ask.Reply.TheVariants as reply
use Rattle.awk_machine.specs.Pieces.{Outcome, Status, Faulted}
use Rattle.awk_text.specs.declared.fault.Fault.TheVariants.{Pattern}
use Rattle.awk_machine.specs.State.{Given}
use Rattle.awk_numbers.specs.declared.number.Number.TheVariants as number
use Rattle.awk_numbers.specs.declared.number.Numbers.TheVariants.{Whole}
use Rattle.row_calls.proofs.Playing.{replayed}
use Rattle.row_calls.proofs.Scripts.{program_of, rules}

-- parameters that are arrays, names that may be assigned, whether ENVIRON is named, the setup, the bound, and the
-- script
abbrev given : List (Text × Text) → List Text → Bool → List Text → List Text → List (Text × Text) → Option Text → ℕ
    → Text → Given
given arrays names environ operands environment assigns separator bound source = record {
  program = program_of arrays source;
  numbers = Whole;
  seed = number.Whole (pos 0);
  can_assign = λ name. list_any (bytes_eq name) names;
  names_environ = environ;
  operands = operands;
  environment = environment;
  assigns = assigns;
  separator = separator;
  bound = bound;
}

abbrev at : ℕ → ℕ → Place
at line column = record { line = line; column = column }

abbrev call : Place → Bool → Request → Reply → Call
call place given request reply = (record { place = place; given = given; request = request }, reply)

abbrev replay : Given → List Reply → Option (Outcome × ℕ × List Call)
replay g rs = replayed 20000 g rs

row_0 :
    replay (given [] [] false [] [] [] None 1000
    (codes "BEGIN { while (1) { if (++n > 3) break; if (n == 2) continue; print n } print \"end\", n }"))
    (reply.Done ∷ reply.Done ∷ reply.Done ∷ [])
    ≡ Some (
      (Status 0),
      13,
      call (at 1 63) false (r.Put 1 (codes "1\n")) reply.Done
          ∷ call (at 1 63) false (r.Put 1 (codes "3\n")) reply.Done
          ∷ call (at 1 73) false (r.Put 1 (codes "end 4\n")) reply.Done
          ∷ [],
    )
unfolding rules
row_0 = refl

row_1 :
    replay (given [] [] false [] [] [] None 1000
    (codes "BEGIN { for (i = 0; i < 5; i++) { if (i == 1) continue; if (i == 3) break; print i } }"))
    (reply.Done ∷ reply.Done ∷ [])
    ≡ Some (
      (Status 0),
      12,
      call (at 1 76) false (r.Put 1 (codes "0\n")) reply.Done
          ∷ call (at 1 76) false (r.Put 1 (codes "2\n")) reply.Done
          ∷ [],
    )
unfolding rules
row_1 = refl

row_2 :
    replay (given [] [] false [] [] [] None 1000
    (codes "BEGIN { do { n++; if (n == 2) continue; if (n == 4) break; print n } while (n < 9) }"))
    (reply.Done ∷ reply.Done ∷ [])
    ≡ Some (
      (Status 0),
      16,
      call (at 1 60) false (r.Put 1 (codes "1\n")) reply.Done
          ∷ call (at 1 60) false (r.Put 1 (codes "3\n")) reply.Done
          ∷ [],
    )
unfolding rules
row_2 = refl

row_3 :
    replay (given [] [] false [] [] [] None 1000
    (codes "BEGIN { x[\"p\"]; x[\"q\"]; x[\"r\"]; for (k in x) { if (k == \"p\") continue; print k; break } }"))
    (reply.Done ∷ [])
    ≡ Some (
      (Status 0),
      9,
      call (at 1 72) false (r.Put 1 (codes "q\n")) reply.Done
          ∷ [],
    )
unfolding rules
row_3 = refl

row_4 :
    replay (given [] [] false [] [] [] None 1000
    (codes
    "function f(n) { while (1) { for (;;) { if (n) return n \"!\"; n = 7 } } } BEGIN { print f(3), f() \"\" }"))
    (reply.Done ∷ [])
    ≡ Some (
      (Status 0),
      13,
      call (at 1 81) false (r.Put 1 (codes "3! 7!\n")) reply.Done
          ∷ [],
    )
unfolding rules
row_4 = refl

row_5 :
    replay (given [] [] false [] [] [] None 1000
    (codes "function g() { for (;;) { while (1) next } } { print \"a\" NR; if (NR == 2) g(); print \"b\" }"))
    ((reply.Bytes (codes "1\n2\n3\n")) ∷ reply.Done ∷ reply.Done ∷ reply.Done ∷ reply.Done ∷ reply.Done ∷ reply.End
    ∷ [])
    ≡ Some (
      (Status 0),
      16,
      call (at 0 0) false (r.Next 0) (reply.Bytes (codes "1\n2\n3\n"))
          ∷ call (at 1 48) false (r.Put 1 (codes "a1\n")) reply.Done
          ∷ call (at 1 80) false (r.Put 1 (codes "b\n")) reply.Done
          ∷ call (at 1 48) false (r.Put 1 (codes "a2\n")) reply.Done
          ∷ call (at 1 48) false (r.Put 1 (codes "a3\n")) reply.Done
          ∷ call (at 1 80) false (r.Put 1 (codes "b\n")) reply.Done
          ∷ call (at 0 0) false (r.Next 0) reply.End
          ∷ [],
    )
unfolding rules
row_5 = refl

row_6 :
    replay (given (((codes "h"), (codes "a")) ∷ []) [] false [] [] [] None 1000
    (codes
    "function h(a, b) { a[\"x\"] = b; delete a[\"y\"]; b = 9; return a[\"x\"] + 1 } BEGIN { t[\"y\"] = 1; m = 4; print h(t, m), m, t[\"x\"], (\"y\" in t) }"))
    (reply.Done ∷ [])
    ≡ Some (
      (Status 0),
      8,
      call (at 1 101) false (r.Put 1 (codes "5 4 4 0\n")) reply.Done
          ∷ [],
    )
unfolding rules
row_6 = refl

row_7 :
    replay (given (((codes "r"), (codes "loc")) ∷ []) [] false [] [] [] None 1000
    (codes "function r(n, loc) { loc[\"k\"] = n; if (n) r(n - 1); return loc[\"k\"] } BEGIN { print r(5) }"))
    (reply.Done ∷ [])
    ≡ Some (
      (Status 0),
      30,
      call (at 1 79) false (r.Put 1 (codes "5\n")) reply.Done
          ∷ [],
    )
unfolding rules
row_7 = refl

row_8 :
    replay (given [] [] false [] [] [] None 1000
    (codes "{ $2 = \"\"; print; print NF; NF = 5; $7 = \"z\"; print; $0 = \"p q\"; print $2, NF }"))
    ((reply.Bytes (codes "a b c\n")) ∷ reply.Done ∷ reply.Done ∷ reply.Done ∷ reply.Done ∷ reply.End ∷ [])
    ≡ Some (
      (Status 0),
      9,
      call (at 0 0) false (r.Next 0) (reply.Bytes (codes "a b c\n"))
          ∷ call (at 1 12) false (r.Put 1 (codes "a  c\n")) reply.Done
          ∷ call (at 1 19) false (r.Put 1 (codes "3\n")) reply.Done
          ∷ call (at 1 47) false (r.Put 1 (codes "a  c    z\n")) reply.Done
          ∷ call (at 1 66) false (r.Put 1 (codes "q 2\n")) reply.Done
          ∷ call (at 0 0) false (r.Next 0) reply.End
          ∷ [],
    )
unfolding rules
row_8 = refl

row_9 :
    replay (given [] [] false [] [] [] None 1000
    (codes "BEGIN { FS = \"[,;]+\" } { print $2 \"|\" $3, NF; print substr($0, 2, 3), index($0, \";\"), length }"))
    ((reply.Bytes (codes "a,b;;c\n")) ∷ reply.Done ∷ reply.Done ∷ reply.End ∷ [])
    ≡ Some (
      (Status 0),
      4,
      call (at 0 0) false (r.Next 0) (reply.Bytes (codes "a,b;;c\n"))
          ∷ call (at 1 26) false (r.Put 1 (codes "b|c 3\n")) reply.Done
          ∷ call (at 1 47) false (r.Put 1 (codes ",b; 4 6\n")) reply.Done
          ∷ call (at 0 0) false (r.Next 0) reply.End
          ∷ [],
    )
unfolding rules
row_9 = refl

row_10 :
    replay (given [] [] false [] [] [] None 1000
    (codes
    "BEGIN { x[1, 2] = 3; print ((1, 2) in x), (1, 3) in x; delete x[1, 2]; print (1, 2) in x; print 1 in x in x }"))
    (reply.Done ∷ reply.Done ∷ reply.Done ∷ [])
    ≡ Some (
      (Status 0),
      5,
      call (at 1 22) false (r.Put 1 (codes "1 0\n")) reply.Done
          ∷ call (at 1 72) false (r.Put 1 (codes "0\n")) reply.Done
          ∷ call (at 1 91) false (r.Put 1 (codes "0\n")) reply.Done
          ∷ [],
    )
unfolding rules
row_10 = refl

row_11 :
    replay (given [] [] false [] [] [] None 1000
    (codes "NR == 1, NR == 2 { print \"r\" $0; next } { print \"o\" $0 } END { print NR; exit 3; print \"no\" }"))
    ((reply.Bytes (codes "a\nb\nc\n")) ∷ reply.Done ∷ reply.Done ∷ reply.Done ∷ reply.End ∷ reply.Done ∷ [])
    ≡ Some (
      (Status 3),
      10,
      call (at 0 0) false (r.Next 0) (reply.Bytes (codes "a\nb\nc\n"))
          ∷ call (at 1 20) false (r.Put 1 (codes "ra\n")) reply.Done
          ∷ call (at 1 20) false (r.Put 1 (codes "rb\n")) reply.Done
          ∷ call (at 1 43) false (r.Put 1 (codes "oc\n")) reply.Done
          ∷ call (at 0 0) false (r.Next 0) reply.End
          ∷ call (at 1 64) false (r.Put 1 (codes "3\n")) reply.Done
          ∷ [],
    )
unfolding rules
row_11 = refl

row_12 :
    replay (given [] [] false [] [] [] None 1000
    (codes
    "BEGIN { print 1 < 2 ? \"y\" : \"n\"; x = y = 3; x += y *= 2; print x, y, x++ + ++y, -x ^ 2, !x, 7 % -3 }"))
    (reply.Done ∷ reply.Done ∷ [])
    ≡ Some (
      (Status 0),
      4,
      call (at 1 9) false (r.Put 1 (codes "y\n")) reply.Done
          ∷ call (at 1 58) false (r.Put 1 (codes "9 6 16 -100 0 1\n")) reply.Done
          ∷ [],
    )
unfolding rules
row_12 = refl

row_13 :
    replay (given [] [] false [] [] [] None 1000 (codes "BEGIN { exit 1 } END { print \"end\"; exit }"))
    (reply.Done ∷ [])
    ≡ Some (
      (Status 1),
      3,
      call (at 1 24) false (r.Put 1 (codes "end\n")) reply.Done
          ∷ [],
    )
unfolding rules
row_13 = refl

row_14 :
    replay (given [] [] false [] [] [] None 1000
    (codes
    "BEGIN { printf \"%s %c%5.2d|%-4x|\\n\", \"s\", \"abc\", 7, 255; print length(\"abc\") length(), toupper(\"ab\") tolower(\"CD\") }"))
    (reply.Done ∷ reply.Done ∷ [])
    ≡ Some (
      (Status 0),
      2,
      call (at 1 9) false (r.Put 1 (codes "s a   07|ff  |\n")) reply.Done
          ∷ call (at 1 58) false (r.Put 1 (codes "30 ABcd\n")) reply.Done
          ∷ [],
    )
unfolding rules
row_14 = refl

row_15 :
    replay (given [] [] false [] [] [] None 1000
    (codes
    "BEGIN { n = split(\"a1b22c\", p, /[0-9]+/); print n, p[1] p[2] p[3]; print sub(/b+/, \"[&\\\\&]\", p[2]), p[2], match(\"xaab\", /a+/), RSTART, RLENGTH }"))
    (reply.Done ∷ reply.Done ∷ [])
    ≡ Some (
      (Status 0),
      3,
      call (at 1 43) false (r.Put 1 (codes "3 abc\n")) reply.Done
          ∷ call (at 1 68) false (r.Put 1 (codes "1 [b&] 2 2 2\n")) reply.Done
          ∷ [],
    )
unfolding rules
row_15 = refl

-- ---- the order of what is asked, and what comes before what
arguments_in_order :
    replay (given [] [] false [] [] [] None 1000
    (codes "function f(a, b) { return a b } BEGIN { print f(system(\"p\"), system(\"q\")) }"))
    ((reply.Status (pos 1)) ∷ (reply.Status (pos 2)) ∷ reply.Done ∷ [])
    ≡ Some (
      (Status 0),
      3,
      call (at 1 49) false (r.System (codes "p")) (reply.Status (pos 1)) ∷ call (at 1 62) false (r.System (codes "q"))
          (reply.Status (pos 2)) ∷ call (at 1 41) false (r.Put 1 (codes "12\n")) reply.Done ∷ [],
    )
unfolding rules
arguments_in_order = refl

close_gives_the_first_status :
    replay (given [] [] false [] [] [] None 1000
    (codes "BEGIN { print \"x\" | \"c\"; \"c\" | getline; r = close(\"c\"); print r }"))
    ((reply.Opened 3) ∷ reply.Done ∷ (reply.Opened 4) ∷ (reply.Bytes (codes "y\n")) ∷ (reply.Status (pos 3)) ∷
    (reply.Status (pos 0)) ∷ reply.Done ∷ [])
    ≡ Some (
      (Status 0),
      4,
      call (at 1 19) false (r.Open mode.RunOut (codes "c")) (reply.Opened 3) ∷ call (at 1 19) false
          (r.Put 3 (codes "x\n")) reply.Done ∷ call (at 1 32) false (r.Open mode.RunIn (codes "c")) (reply.Opened 4) ∷
          call (at 1 32) false (r.Next 4) (reply.Bytes (codes "y\n")) ∷ call (at 1 45) false (r.Shut 3)
          (reply.Status (pos 3)) ∷ call (at 1 45) false (r.Shut 4) (reply.Status (pos 0)) ∷ call (at 1 57) false
          (r.Put 1 (codes "3\n")) reply.Done ∷ [],
    )
unfolding rules
close_gives_the_first_status = refl

items_before_the_target :
    replay (given [] [] false [] [] [] None 1000 (codes "BEGIN { print system(\"p\") > \"f\" system(\"q\") }"))
    ((reply.Status (pos 1)) ∷ (reply.Status (pos 2)) ∷ (reply.Opened 3) ∷ reply.Done ∷ reply.Done ∷ [])
    ≡ Some (
      (Status 0),
      1,
      call (at 1 15) false (r.System (codes "p")) (reply.Status (pos 1)) ∷ call (at 1 33) false (r.System (codes "q"))
          (reply.Status (pos 2)) ∷ call (at 1 27) false (r.Open mode.Write (codes "f2")) (reply.Opened 3) ∷ call
          (at 1 27) false (r.Put 3 (codes "1\n")) reply.Done ∷ call (at 0 0) false (r.Shut 3) reply.Done ∷ [],
    )
unfolding rules
items_before_the_target = refl

-- the record is set before it is counted: so its fault comes first
record_before_its_number :
    replay (given [] [] false [] [] [] None 1000 (codes "BEGIN { FS = \"((\"; NR = 9223372036854775807 } { }"))
    ((reply.Bytes (codes "a\n")) ∷ [])
    ≡ Some (
      (Faulted Pattern (at 0 0)),
      2,
      call (at 0 0) false (r.Next 0) (reply.Bytes (codes "a\n")) ∷ [],
    )
unfolding rules
record_before_its_number = refl
