-- Rows of the definition, made by the reference: scripts as texts, the world's replies, and what a run then was.
use Rattle.std.specs.Prelude.{◌≡◌, refl, ℕ, Bool, true, false, List, [], ◌∷◌, pos, codes, Option, Some, None}
use Rattle.std.specs.List.{list_any}
use Rattle.std.specs.Str.{bytes_eq}
use Rattle.awk_text.specs.declared.place.Place.{Place}
use Rattle.awk_text.specs.declared.fault.Fault.TheVariants as f
use Rattle.awk_tree.specs.Tree.{Text}
use Rattle.box_world.specs.Calls.{Call}
use Rattle.box_world.specs.declared.ask.Mode.TheVariants as mode
use Rattle.box_world.specs.declared.ask.Request.{Request}
use Rattle.box_world.specs.declared.ask.Request.TheVariants as r
use Rattle.box_world.specs.declared.ask.Reply.{Reply}
use Rattle.box_world.specs.declared.ask.Reply.TheVariants as reply
use Rattle.awk_machine.specs.Pieces.{Outcome, Status, Faulted}
use Rattle.awk_machine.specs.State.{Given}
use Rattle.awk_numbers.specs.declared.number.Number.TheVariants as number
use Rattle.awk_numbers.specs.declared.number.Numbers.TheVariants.{Whole}
use Rattle.row_calls.proofs.Playing.{replayed}
use Rattle.row_calls.proofs.Scripts.{program_of, rules}

-- parameters that are arrays, names that may be assigned, whether ENVIRON is named, the setup, the bound, and the
-- script
abbrev given : List (Text × Text) → List Text → Bool → List Text → List Text → List (Text × Text) → Option Text → ℕ
    → Text → Given
given arrays names environ operands environment assigns separator bound source = record {
  program = program_of arrays source;
  numbers = Whole;
  seed = number.Whole (pos 0);
  can_assign = λ name. list_any (bytes_eq name) names;
  names_environ = environ;
  operands = operands;
  environment = environment;
  assigns = assigns;
  separator = separator;
  bound = bound;
}

abbrev at : ℕ → ℕ → Place
at line column = record { line = line; column = column }

abbrev call : Place → Bool → Request → Reply → Call
call place given request reply = (record { place = place; given = given; request = request }, reply)

abbrev replay : Given → List Reply → Option (Outcome × ℕ × List Call)
replay g rs = replayed 20000 g rs

row_0 :
    replay (given [] [] false [] [] [] None 100000 (codes "BEGIN { print 0x10, 1e+x }")) (reply.Done ∷ [])
    ≡ Some (
      (Status 0),
      1,
      call (at 1 9) false (r.Put 1 (codes "0 10\n")) reply.Done
          ∷ [],
    )
unfolding rules
row_0 = refl

row_1 :
    replay (given [] [] false [] [] [] None 100000 (codes "BEGIN { print (\"a\\nb\" ~ /a\\\nb/) }")) (reply.Done ∷ [])
    ≡ Some (
      (Status 0),
      1,
      call (at 1 9) false (r.Put 1 (codes "1\n")) reply.Done
          ∷ [],
    )
unfolding rules
row_1 = refl

row_2 :
    replay (given [] [] false [] [] [] None 100000 (codes "BEGIN { x = \"[/\" ~ /[[/]\\// }")) ([])
    ≡ Some ((Status 0), 1, [])
unfolding rules
row_2 = refl

row_3 :
    replay (given [] [] false [] [] [] None 100000 (codes "BEGIN { print 1 # x \\\nprint 2 }"))
    (reply.Done ∷ reply.Done ∷ [])
    ≡ Some (
      (Status 0),
      2,
      call (at 1 9) false (r.Put 1 (codes "1\n")) reply.Done
          ∷ call (at 2 1) false (r.Put 1 (codes "2\n")) reply.Done
          ∷ [],
    )
unfolding rules
row_3 = refl

row_4 :
    replay (given [] [] false [] [] [] None 100000 (codes "BEGIN { print ++x ++y }")) (reply.Done ∷ [])
    ≡ Some (
      (Status 0),
      1,
      call (at 1 9) false (r.Put 1 (codes "11\n")) reply.Done
          ∷ [],
    )
unfolding rules
row_4 = refl

row_5 :
    replay (given [] [] false [] [] [] None 100000 (codes "BEGIN { print x++ ++y }")) (reply.Done ∷ [])
    ≡ Some (
      (Status 0),
      1,
      call (at 1 9) false (r.Put 1 (codes "01\n")) reply.Done
          ∷ [],
    )
unfolding rules
row_5 = refl

row_6 :
    replay (given [] [] false [] [] [] None 100000 (codes "BEGIN { x = 1; $2 = 5; $++x++; print $2, x }"))
    (reply.Done ∷ [])
    ≡ Some (
      (Status 0),
      4,
      call (at 1 32) false (r.Put 1 (codes "6 2\n")) reply.Done
          ∷ [],
    )
unfolding rules
row_6 = refl

row_7 :
    replay (given [] [] false [] [] [] None 100000 (codes "BEGIN { print (1,2) in a, 3 }")) (reply.Done ∷ [])
    ≡ Some (
      (Status 0),
      1,
      call (at 1 9) false (r.Put 1 (codes "0 3\n")) reply.Done
          ∷ [],
    )
unfolding rules
row_7 = refl

row_8 :
    replay (given [] [] false [] [] [] None 100000 (codes "BEGIN { print (1 > 2) ? 3 : 4 }")) (reply.Done ∷ [])
    ≡ Some (
      (Status 0),
      1,
      call (at 1 9) false (r.Put 1 (codes "4\n")) reply.Done
          ∷ [],
    )
unfolding rules
row_8 = refl

row_9 :
    replay (given [] [] false [] [] [] None 100000 (codes "BEGIN { print getline < \"a\" \"b\" }"))
    ((reply.Opened 3) ∷ (reply.Bytes (codes "q\n")) ∷ reply.Done ∷ reply.Done ∷ [])
    ≡ Some (
      (Status 0),
      1,
      call (at 1 15) false (r.Open mode.Read (codes "a")) (reply.Opened 3)
          ∷ call (at 1 15) false (r.Next 3) (reply.Bytes (codes "q\n"))
          ∷ call (at 1 9) false (r.Put 1 (codes "1b\n")) reply.Done
          ∷ call (at 0 0) false (r.Shut 3) reply.Done
          ∷ [],
    )
unfolding rules
row_9 = refl

row_10 :
    replay (given [] [] false [] [] [] None 100000 (codes "BEGIN { print \"x\" > \"a\" \"b\" }"))
    ((reply.Opened 3) ∷ reply.Done ∷ reply.Done ∷ [])
    ≡ Some (
      (Status 0),
      1,
      call (at 1 19) false (r.Open mode.Write (codes "ab")) (reply.Opened 3)
          ∷ call (at 1 19) false (r.Put 3 (codes "x\n")) reply.Done
          ∷ call (at 0 0) false (r.Shut 3) reply.Done
          ∷ [],
    )
unfolding rules
row_10 = refl

row_11 :
    replay (given [] [] false [] [] [] None 100000 (codes "BEGIN { while (getline l < \"f\" > 0) print l }"))
    ((reply.Opened 3) ∷ (reply.Bytes (codes "1\n2\n")) ∷ reply.Done ∷ reply.Done ∷ reply.End ∷ reply.Done ∷ [])
    ≡ Some (
      (Status 0),
      3,
      call (at 1 16) false (r.Open mode.Read (codes "f")) (reply.Opened 3)
          ∷ call (at 1 16) false (r.Next 3) (reply.Bytes (codes "1\n2\n"))
          ∷ call (at 1 37) false (r.Put 1 (codes "1\n")) reply.Done
          ∷ call (at 1 37) false (r.Put 1 (codes "2\n")) reply.Done
          ∷ call (at 1 16) false (r.Next 3) reply.End
          ∷ call (at 0 0) false (r.Shut 3) reply.Done
          ∷ [],
    )
unfolding rules
row_11 = refl

row_12 :
    replay (given [] [] false [] [] [] None 100000 (codes "BEGIN { print getline x + 1 }"))
    ((reply.Bytes (codes "a\n")) ∷ reply.Done ∷ [])
    ≡ Some (
      (Status 0),
      1,
      call (at 0 0) false (r.Next 0) (reply.Bytes (codes "a\n"))
          ∷ call (at 1 9) false (r.Put 1 (codes "2\n")) reply.Done
          ∷ [],
    )
unfolding rules
row_12 = refl

row_13 :
    replay (given [] [] false [] [] [] None 100000 (codes "BEGIN { print getline x y }"))
    ((reply.Bytes (codes "a\n")) ∷ reply.Done ∷ [])
    ≡ Some (
      (Status 0),
      1,
      call (at 0 0) false (r.Next 0) (reply.Bytes (codes "a\n"))
          ∷ call (at 1 9) false (r.Put 1 (codes "1\n")) reply.Done
          ∷ [],
    )
unfolding rules
row_13 = refl

row_14 :
    replay (given [] [] false [] [] [] None 100000 (codes "BEGIN { print !x ~ \"y\", (!\"\") ~ 1 }")) (reply.Done ∷ [])
    ≡ Some (
      (Status 0),
      1,
      call (at 1 9) false (r.Put 1 (codes "0 1\n")) reply.Done
          ∷ [],
    )
unfolding rules
row_14 = refl

row_15 :
    replay (given [] [] false [] [] [] None 100000
    (codes "{ print \"x\" ~ (/a/), \"1\" ~ (/a/), \"1x\" ~ /a/ \"x\", \"a\" ~ !/b/ }"))
    ((reply.Bytes (codes "a\n")) ∷ reply.Done ∷ reply.End ∷ [])
    ≡ Some (
      (Status 0),
      2,
      call (at 0 0) false (r.Next 0) (reply.Bytes (codes "a\n"))
          ∷ call (at 1 3) false (r.Put 1 (codes "0 1 1 0\n")) reply.Done
          ∷ call (at 0 0) false (r.Next 0) reply.End
          ∷ [],
    )
unfolding rules
row_15 = refl

row_16 :
    replay (given [] [] false [] [] [] None 100000 (codes "BEGIN { if (1) { } ; ; else y; print \"ok\" }"))
    (reply.Done ∷ [])
    ≡ Some (
      (Status 0),
      3,
      call (at 1 32) false (r.Put 1 (codes "ok\n")) reply.Done
          ∷ [],
    )
unfolding rules
row_16 = refl

row_17 :
    replay (given [] [] false [] [] [] None 100000 (codes "BEGIN { for (x in a; y < 1; y++) print \"ok\" }"))
    (reply.Done ∷ [])
    ≡ Some (
      (Status 0),
      2,
      call (at 1 34) false (r.Put 1 (codes "ok\n")) reply.Done
          ∷ [],
    )
unfolding rules
row_17 = refl

row_18 :
    replay (given [] [] false [] [] [] None 100000 (codes "BEGIN { print 1 \" \" -1 }")) (reply.Done ∷ [])
    ≡ Some (
      (Status 0),
      1,
      call (at 1 9) false (r.Put 1 (codes "1-1\n")) reply.Done
          ∷ [],
    )
unfolding rules
row_18 = refl

row_19 :
    replay (given [] [] false [] [] [] None 100000 (codes "BEGIN { print length \"x\", length + 1 }")) (reply.Done ∷ [])
    ≡ Some (
      (Status 0),
      1,
      call (at 1 9) false (r.Put 1 (codes "0x 1\n")) reply.Done
          ∷ [],
    )
unfolding rules
row_19 = refl

row_20 :
    replay (given [] [] false [] [] [] None 100000 (codes "BEGIN { c || d ? x = 1 : y = 2; print y }"))
    (reply.Done ∷ [])
    ≡ Some (
      (Status 0),
      2,
      call (at 1 33) false (r.Put 1 (codes "2\n")) reply.Done
          ∷ [],
    )
unfolding rules
row_20 = refl

row_21 :
    replay (given [] [] false [] [] [] None 100000
    (codes
    "BEGIN {if (1) if (1) if (1) if (1) if (1) if (1) if (1) if (1) if (1) if (1) if (1) if (1) if (1) if (1) if (1) if (1) if (1) if (1) if (1) if (1) if (1) if (1) if (1) if (1) if (1) if (1) if (1) if (1) if (1) if (1) if (1) if (1) if (1) if (1) if (1) if (1) if (1) if (1) if (1) if (1) if (1) if (1) if (1) if (1) if (1) if (1) if (1) if (1) if (1) if (1) if (1) if (1) if (1) if (1) if (1) if (1) if (1) if (1) if (1) if (1) if (1) if (1) if (1) if (1) if (1) if (1) if (1) if (1) if (1) if (1) if (1) if (1) if (1) if (1) if (1) if (1) if (1) if (1) if (1) if (1) if (1) if (1) if (1) if (1) if (1) if (1) if (1) if (1) if (1) if (1) if (1) if (1) if (1) if (1) if (1) if (1) if (1) if (1) if (1) if (1) if (1) if (1) if (1) if (1) if (1) if (1) if (1) if (1) if (1) if (1) if (1) if (1) if (1) if (1) if (1) if (1) if (1) if (1) if (1) if (1) if (1) if (1) if (1) if (1) if (1) if (1) if (1) if (1) if (1) if (1) if (1) if (1) if (1) if (1) if (1) if (1) if (1) if (1) if (1) if (1) if (1) if (1) if (1) if (1) if (1) if (1) if (1) if (1) if (1) if (1) if (1) if (1) if (1) if (1) if (1) if (1) if (1) if (1) if (1) if (1) if (1) if (1) if (1) if (1) if (1) if (1) if (1) if (1) if (1) if (1) if (1) if (1) if (1) if (1) if (1) if (1) if (1) if (1) if (1) if (1) if (1) if (1) if (1) if (1) if (1) if (1) if (1) if (1) if (1) if (1) if (1) if (1) if (1) if (1) if (1) if (1) if (1) if (1) if (1) if (1) x }"))
    ([])
    ≡ Some ((Status 0), 201, [])
unfolding rules
row_21 = refl

row_22 :
    replay (given [] [] false [] [] [] None 100000 (codes "/a/ { print 1 } /b/ { print 2 }; NR\nNR"))
    ((reply.Bytes (codes "ab\n")) ∷ reply.Done ∷ reply.Done ∷ reply.Done ∷ reply.Done ∷ reply.End ∷ [])
    ≡ Some (
      (Status 0),
      5,
      call (at 0 0) false (r.Next 0) (reply.Bytes (codes "ab\n"))
          ∷ call (at 1 7) false (r.Put 1 (codes "1\n")) reply.Done
          ∷ call (at 1 23) false (r.Put 1 (codes "2\n")) reply.Done
          ∷ call (at 0 0) false (r.Put 1 (codes "ab\n")) reply.Done
          ∷ call (at 0 0) false (r.Put 1 (codes "ab\n")) reply.Done
          ∷ call (at 0 0) false (r.Next 0) reply.End
          ∷ [],
    )
unfolding rules
row_22 = refl

row_23 :
    replay (given [] [] false [] [] [] None 100000 (codes "NR NR; NR"))
    ((reply.Bytes (codes "ab\n")) ∷ reply.Done ∷ reply.Done ∷ reply.End ∷ [])
    ≡ Some (
      (Status 0),
      3,
      call (at 0 0) false (r.Next 0) (reply.Bytes (codes "ab\n"))
          ∷ call (at 0 0) false (r.Put 1 (codes "ab\n")) reply.Done
          ∷ call (at 0 0) false (r.Put 1 (codes "ab\n")) reply.Done
          ∷ call (at 0 0) false (r.Next 0) reply.End
          ∷ [],
    )
unfolding rules
row_23 = refl

row_24 :
    replay (given [] [] false [] [] [] None 100000 (codes "BEGIN { x = 1;; ; }")) ([])
    ≡ Some ((Status 0), 3, [])
unfolding rules
row_24 = refl

row_25 :
    replay (given [] [] false [] [] [] None 100000 (codes "BEGIN { x = 1; }")) ([])
    ≡ Some ((Status 0), 1, [])
unfolding rules
row_25 = refl

row_26 :
    replay (given [] [] false [] [] [] None 100000 (codes "{ }")) ((reply.Bytes (codes "a\n")) ∷ reply.End ∷ [])
    ≡ Some (
      (Status 0),
      1,
      call (at 0 0) false (r.Next 0) (reply.Bytes (codes "a\n"))
          ∷ call (at 0 0) false (r.Next 0) reply.End
          ∷ [],
    )
unfolding rules
row_26 = refl

row_27 :
    replay (given [] [] false [] [] [] None 100000 (codes "NR")) ((reply.Bytes (codes "a\n")) ∷ reply.Done ∷ reply.End ∷
    [])
    ≡ Some (
      (Status 0),
      2,
      call (at 0 0) false (r.Next 0) (reply.Bytes (codes "a\n"))
          ∷ call (at 0 0) false (r.Put 1 (codes "a\n")) reply.Done
          ∷ call (at 0 0) false (r.Next 0) reply.End
          ∷ [],
    )
unfolding rules
row_27 = refl

row_28 :
    replay (given [] [] false [] [] [] None 100000 (codes "function f(x) { } BEGIN { f(a); f(1); a[1] }")) ([])
    ≡ Some ((Status 0), 5, [])
unfolding rules
row_28 = refl

row_29 :
    replay (given [] [] false [] [] [] None 100000
    (codes "function g(y) { } function f(x) { g(x) } BEGIN { f(a); a[1]; print \"ok\" }")) (reply.Done ∷ [])
    ≡ Some (
      (Status 0),
      6,
      call (at 1 62) false (r.Put 1 (codes "ok\n")) reply.Done
          ∷ [],
    )
unfolding rules
row_29 = refl

row_30 :
    replay (given [] [] false [] [] [] None 100000
    (codes "BEGIN { x = $0 = \"3x\"; y = (NF = \"2x\"); print x, y, ($0 = \" 7\") == 7 }")) (reply.Done ∷ [])
    ≡ Some (
      (Status 0),
      3,
      call (at 1 41) false (r.Put 1 (codes "3x 2 1\n")) reply.Done
          ∷ [],
    )
unfolding rules
row_30 = refl

row_31 :
    replay (given [] [] false [] [] [] None 100000
    (codes "BEGIN { $3 = \"05\"; print ($3 == 5); $0 = $0; print ($1 == 5) }")) (reply.Done ∷ reply.Done ∷ [])
    ≡ Some (
      (Status 0),
      4,
      call (at 1 20) false (r.Put 1 (codes "0\n")) reply.Done
          ∷ call (at 1 46) false (r.Put 1 (codes "1\n")) reply.Done
          ∷ [],
    )
unfolding rules
row_31 = refl

row_32 :
    replay (given [] [] false [] [] [] None 100000 (codes "BEGIN { print 1/0 + system(\"x\") }")) ([])
    ≡ Some ((Faulted f.ZeroDivisor (at 1 16)), 1, [])
unfolding rules
row_32 = refl

row_33 :
    replay (given [] [] false [] [] [] None 100000 (codes "BEGIN { print \"99999999999999999999\" + system(\"x\") }"))
    ((reply.Status (pos 127)) ∷ [])
    ≡ Some (
      (Faulted f.OutOfRange (at 1 38)),
      1,
      call (at 1 40) false (r.System (codes "x")) (reply.Status (pos 127))
          ∷ [],
    )
unfolding rules
row_33 = refl

row_34 :
    replay (given [] [] false [] [] [] None 100000 (codes "BEGIN { print \"99999999999999999999\" / 0 }")) ([])
    ≡ Some ((Faulted f.OutOfRange (at 1 38)), 1, [])
unfolding rules
row_34 = refl

row_35 :
    replay (given [] [] false [] [] [] None 100000 (codes "BEGIN { sub(\"(\", \"x\", $70000) }")) ([])
    ≡ Some ((Faulted f.FieldNumber (at 1 23)), 1, [])
unfolding rules
row_35 = refl

row_36 :
    replay (given [] [] false [] [] [] None 100000 (codes "BEGIN { sub(/(/, \"x\", $70000) }")) ([])
    ≡ Some ((Faulted f.Pattern (at 1 13)), 1, [])
unfolding rules
row_36 = refl

row_37 :
    replay (given [] [] false [] [] [] None 100000 (codes "BEGIN { getline NR; print NR }"))
    ((reply.Bytes (codes "5\n")) ∷ reply.Done ∷ [])
    ≡ Some (
      (Status 0),
      2,
      call (at 0 0) false (r.Next 0) (reply.Bytes (codes "5\n"))
          ∷ call (at 1 21) false (r.Put 1 (codes "6\n")) reply.Done
          ∷ [],
    )
unfolding rules
row_37 = refl

row_38 :
    replay (given [] [] false [] [] [] None 100000 (codes "BEGIN { getline NF; print NF, $0 \"|\" }"))
    ((reply.Bytes (codes "2\n")) ∷ reply.Done ∷ [])
    ≡ Some (
      (Status 0),
      2,
      call (at 0 0) false (r.Next 0) (reply.Bytes (codes "2\n"))
          ∷ call (at 1 21) false (r.Put 1 (codes "2  |\n")) reply.Done
          ∷ [],
    )
unfolding rules
row_38 = refl

row_39 :
    replay (given [] [] false [] [] [] None 100000 (codes "BEGIN { $0 = \"q\"; print > ($0 = \"x\") }"))
    ((reply.Opened 3) ∷ reply.Done ∷ reply.Done ∷ [])
    ≡ Some (
      (Status 0),
      2,
      call (at 1 25) false (r.Open mode.Write (codes "x")) (reply.Opened 3)
          ∷ call (at 1 25) false (r.Put 3 (codes "x\n")) reply.Done
          ∷ call (at 0 0) false (r.Shut 3) reply.Done
          ∷ [],
    )
unfolding rules
row_39 = refl

row_40 :
    replay (given [] [] false [] [] [] None 100000 (codes "BEGIN { print \"a\", \"b\" > (OFS = \"-\") }"))
    ((reply.Opened 3) ∷ reply.Done ∷ reply.Done ∷ [])
    ≡ Some (
      (Status 0),
      1,
      call (at 1 24) false (r.Open mode.Write (codes "-")) (reply.Opened 3)
          ∷ call (at 1 24) false (r.Put 3 (codes "a-b\n")) reply.Done
          ∷ call (at 0 0) false (r.Shut 3) reply.Done
          ∷ [],
    )
unfolding rules
row_40 = refl

row_41 :
    replay (given [] [] false [] [] [] None 100000 (codes "BEGIN { a[1, SUBSEP = \":\"]; for (k in a) print k }"))
    (reply.Done ∷ [])
    ≡ Some (
      (Status 0),
      3,
      call (at 1 42) false (r.Put 1 (codes "1::\n")) reply.Done
          ∷ [],
    )
unfolding rules
row_41 = refl

row_42 :
    replay (given [] [] false [] [] [] None 100000
    (codes "BEGIN { x += x++; print x; $(NF + 1) = ($0 = \"a b c\"); print }")) (reply.Done ∷ reply.Done ∷ [])
    ≡ Some (
      (Status 0),
      4,
      call (at 1 19) false (r.Put 1 (codes "1\n")) reply.Done
          ∷ call (at 1 56) false (r.Put 1 (codes "a b c b c\n")) reply.Done
          ∷ [],
    )
unfolding rules
row_42 = refl

row_43 :
    replay (given [] [] false [] [] [] None 100000
    (codes "BEGIN { x[\"a\"]; x[\"b\"]; for (k in x) { delete x[\"b\"]; x[\"c\"]; print k, (k in x) } }"))
    (reply.Done ∷ reply.Done ∷ [])
    ≡ Some (
      (Status 0),
      9,
      call (at 1 63) false (r.Put 1 (codes "a 1\n")) reply.Done
          ∷ call (at 1 63) false (r.Put 1 (codes "b 0\n")) reply.Done
          ∷ [],
    )
unfolding rules
row_43 = refl

row_44 :
    replay (given [] [] false [] [] [] None 100000 (codes "BEGIN { for (NF in a) ; a[\"-1\"]; for (NF in a) ; }")) ([])
    ≡ Some ((Faulted f.FieldNumber (at 1 34)), 3, [])
unfolding rules
row_44 = refl

row_45 :
    replay (given [] [] false [] [] [] None 100000
    (codes
    "BEGIN { print index(\"abc\", \"\"), substr(\"hello\", -1, 3) \"|\" substr(\"hello\", 0) \"|\" substr(\"hello\", 2, -1) \"|\" }"))
    (reply.Done ∷ [])
    ≡ Some (
      (Status 0),
      1,
      call (at 1 9) false (r.Put 1 (codes "0 h|hello||\n")) reply.Done
          ∷ [],
    )
unfolding rules
row_45 = refl

row_46 :
    replay (given [] [] false [] [] [] None 100000
    (codes "BEGIN { printf \"%c|%3c|%.0c|%c|%c\\n\", u, \"\", \"abc\", -1 + 66, 65 + 256 }")) (reply.Done ∷ [])
    ≡ Some (
      (Status 0),
      1,
      call (at 1 9) false (r.Put 1 (codes "|   |a|A|A\n")) reply.Done
          ∷ [],
    )
unfolding rules
row_46 = refl

row_47 :
    replay (given [] [] false [] [] [] None 100000 (codes "BEGIN { printf \"%d %d\", \"99999999999999999999\" }")) ([])
    ≡ Some ((Faulted f.OutOfRange (at 1 9)), 1, [])
unfolding rules
row_47 = refl

row_48 :
    replay (given [] [] false [] [] [] None 100000
    (codes "BEGIN { printf \"[%+d][% d][%#o][%#.0o][%#x][%-05d][%+.0d]\", 0, 0, 0, 0, 0, 7, 0 }")) (reply.Done ∷ [])
    ≡ Some (
      (Status 0),
      1,
      call (at 1 9) false (r.Put 1 (codes "[+0][ 0][0][0][0][7    ][+]")) reply.Done
          ∷ [],
    )
unfolding rules
row_48 = refl

row_49 :
    replay (given [] [] false [] [] [] None 100000
    (codes "BEGIN { $3 = \"\"; print ($1 == 0), ($9 == 0), ($9 == \"\"), (u == 0) }")) (reply.Done ∷ [])
    ≡ Some (
      (Status 0),
      2,
      call (at 1 18) false (r.Put 1 (codes "1 1 1 1\n")) reply.Done
          ∷ [],
    )
unfolding rules
row_49 = refl

row_50 :
    replay (given [] [] false [] [] [] None 100000
    (codes
    "BEGIN { print getline < \"none\", close(\"none\"), close(\"f\") ; getline < \"f\"; print close(\"f\"), close(\"f\") }"))
    (reply.Failed ∷ reply.Done ∷ (reply.Opened 3) ∷ (reply.Bytes (codes "1\n2\n")) ∷ reply.Done ∷ reply.Done ∷ [])
    ≡ Some (
      (Status 0),
      3,
      call (at 1 15) false (r.Open mode.Read (codes "none")) reply.Failed
          ∷ call (at 1 9) false (r.Put 1 (codes "-1 -1 -1\n")) reply.Done
          ∷ call (at 1 61) false (r.Open mode.Read (codes "f")) (reply.Opened 3)
          ∷ call (at 1 61) false (r.Next 3) (reply.Bytes (codes "1\n2\n"))
          ∷ call (at 1 82) false (r.Shut 3) reply.Done
          ∷ call (at 1 76) false (r.Put 1 (codes "0 -1\n")) reply.Done
          ∷ [],
    )
unfolding rules
row_50 = refl

row_51 :
    replay (given [] [] false [] [] [] None 100000
    (codes
    "BEGIN { RS = \"\"; print (getline x < \"g\"), x; print (getline x < \"g\"); RS = \"\\n\"; print (getline x < \"g\"), \"[\" x \"]\" }"))
    ((reply.Opened 3) ∷ (reply.Bytes (codes "a\n\n\n\n")) ∷ reply.Done ∷ reply.End ∷ reply.Done ∷ reply.Done ∷
    reply.Done ∷ [])
    ≡ Some (
      (Status 0),
      5,
      call (at 1 25) false (r.Open mode.Read (codes "g")) (reply.Opened 3)
          ∷ call (at 1 25) false (r.Next 3) (reply.Bytes (codes "a\n\n\n\n"))
          ∷ call (at 1 18) false (r.Put 1 (codes "1 a\n")) reply.Done
          ∷ call (at 1 53) false (r.Next 3) reply.End
          ∷ call (at 1 46) false (r.Put 1 (codes "0\n")) reply.Done
          ∷ call (at 1 82) false (r.Put 1 (codes "1 []\n")) reply.Done
          ∷ call (at 0 0) false (r.Shut 3) reply.Done
          ∷ [],
    )
unfolding rules
row_51 = refl

row_52 :
    replay (given [] [] false [] [] [] None 100000 (codes "BEGIN { RS = \"ab\" } { print }"))
    ((reply.Bytes (codes "xaybz\n")) ∷ reply.Done ∷ reply.End ∷ reply.Done ∷ [])
    ≡ Some (
      (Status 0),
      5,
      call (at 0 0) false (r.Next 0) (reply.Bytes (codes "xaybz\n"))
          ∷ call (at 1 23) false (r.Put 1 (codes "x\n")) reply.Done
          ∷ call (at 0 0) false (r.Next 0) reply.End
          ∷ call (at 1 23) false (r.Put 1 (codes "ybz\n\n")) reply.Done
          ∷ [],
    )
unfolding rules
row_52 = refl

row_53 :
    replay (given [] [] false [] [] [] None 100000 (codes "BEGIN { FS = \"|\" } { print $2; FS = \"\"; }"))
    ((reply.Bytes (codes "a|b\nxyz\n")) ∷ reply.Done ∷ reply.Done ∷ reply.End ∷ [])
    ≡ Some (
      (Status 0),
      7,
      call (at 0 0) false (r.Next 0) (reply.Bytes (codes "a|b\nxyz\n"))
          ∷ call (at 1 22) false (r.Put 1 (codes "b\n")) reply.Done
          ∷ call (at 1 22) false (r.Put 1 (codes "y\n")) reply.Done
          ∷ call (at 0 0) false (r.Next 0) reply.End
          ∷ [],
    )
unfolding rules
row_53 = refl

row_54 :
    replay (given [] [] false [] [] [] None 100000 (codes "BEGIN { RS = \"\"; FS = \":\" } { print NF, $2 }"))
    ((reply.Bytes (codes "a:b\nc\n")) ∷ reply.End ∷ reply.Done ∷ [])
    ≡ Some (
      (Status 0),
      4,
      call (at 0 0) false (r.Next 0) (reply.Bytes (codes "a:b\nc\n"))
          ∷ call (at 0 0) false (r.Next 0) reply.End
          ∷ call (at 1 31) false (r.Put 1 (codes "3 b\n")) reply.Done
          ∷ [],
    )
unfolding rules
row_54 = refl

row_55 :
    replay (given [] [] false [] [] [] None 100000 (codes "BEGIN { RS = \"\"; FS = \"x+\" } { print NF, $2 }"))
    ((reply.Bytes (codes "axb\nc\n")) ∷ reply.End ∷ reply.Done ∷ [])
    ≡ Some (
      (Status 0),
      4,
      call (at 0 0) false (r.Next 0) (reply.Bytes (codes "axb\nc\n"))
          ∷ call (at 0 0) false (r.Next 0) reply.End
          ∷ call (at 1 32) false (r.Put 1 (codes "3 b\n")) reply.Done
          ∷ [],
    )
unfolding rules
row_55 = refl

row_56 :
    replay (given [] [] false [] [] [] None 100000 (codes "BEGIN { RS = \"\"; FS = \"\" } { print NF }"))
    ((reply.Bytes (codes "ab\nc\n")) ∷ reply.End ∷ reply.Done ∷ [])
    ≡ Some (
      (Status 0),
      4,
      call (at 0 0) false (r.Next 0) (reply.Bytes (codes "ab\nc\n"))
          ∷ call (at 0 0) false (r.Next 0) reply.End
          ∷ call (at 1 30) false (r.Put 1 (codes "4\n")) reply.Done
          ∷ [],
    )
unfolding rules
row_56 = refl

row_57 :
    replay (given [] [] false [] [] [] None 100000
    (codes
    "BEGIN { print split(\"a b\", a, \" \"), split(\" a b\", a, / /), split(\"a1b\", a, \"[0-9]\"), split(\"abc\", a, \"\"), split(\"\", a), split(\"a.b\", a, \".\") }"))
    (reply.Done ∷ [])
    ≡ Some (
      (Status 0),
      1,
      call (at 1 9) false (r.Put 1 (codes "2 3 2 3 0 2\n")) reply.Done
          ∷ [],
    )
unfolding rules
row_57 = refl

row_58 :
    replay (given [] [] false [] [] [] None 100000 (codes "1")) ((reply.Bytes (codes "a\n")) ∷ reply.Failed ∷ [])
    ≡ Some (
      (Faulted f.Output (at 0 0)),
      2,
      call (at 0 0) false (r.Next 0) (reply.Bytes (codes "a\n"))
          ∷ call (at 0 0) false (r.Put 1 (codes "a\n")) reply.Failed
          ∷ [],
    )
unfolding rules
row_58 = refl

row_59 :
    replay (given [] [] false [] [] [] None 100000 (codes "NR == 1"))
    ((reply.Bytes (codes "a\n")) ∷ reply.Done ∷ reply.End ∷ [])
    ≡ Some (
      (Status 0),
      2,
      call (at 0 0) false (r.Next 0) (reply.Bytes (codes "a\n"))
          ∷ call (at 0 0) false (r.Put 1 (codes "a\n")) reply.Done
          ∷ call (at 0 0) false (r.Next 0) reply.End
          ∷ [],
    )
unfolding rules
row_59 = refl

row_60 :
    replay (given [] [] false [] [] [] None 100000 (codes "BEGIN { FS = \"(\"; getline }"))
    ((reply.Bytes (codes "a\n")) ∷ [])
    ≡ Some (
      (Status 0),
      2,
      call (at 0 0) false (r.Next 0) (reply.Bytes (codes "a\n"))
          ∷ [],
    )
unfolding rules
row_60 = refl

row_61 :
    replay (given [] [] false [] [] [] None 100000 (codes "BEGIN { FS = \"((\"; getline }"))
    ((reply.Bytes (codes "a\n")) ∷ [])
    ≡ Some (
      (Faulted f.Pattern (at 1 20)),
      2,
      call (at 0 0) false (r.Next 0) (reply.Bytes (codes "a\n"))
          ∷ [],
    )
unfolding rules
row_61 = refl

row_62 :
    replay (given [] [] false [] [] [] None 100000 (codes "BEGIN { NR = 9223372036854775807; getline }"))
    ((reply.Bytes (codes "a\n")) ∷ [])
    ≡ Some (
      (Faulted f.OutOfRange (at 1 35)),
      2,
      call (at 0 0) false (r.Next 0) (reply.Bytes (codes "a\n"))
          ∷ [],
    )
unfolding rules
row_62 = refl

row_63 :
    replay (given [] [] false [] [] [] None 100000 (codes "BEGIN { NR = 9223372036854775807 } { }"))
    ((reply.Bytes (codes "a\n")) ∷ [])
    ≡ Some (
      (Faulted f.OutOfRange (at 0 0)),
      1,
      call (at 0 0) false (r.Next 0) (reply.Bytes (codes "a\n"))
          ∷ [],
    )
unfolding rules
row_63 = refl

row_64 :
    replay (given [] [] false [] [] [] None 100000 (codes "BEGIN { ARGC = \"99999999999999999999\"; getline }")) ([])
    ≡ Some ((Faulted f.OutOfRange (at 0 0)), 2, [])
unfolding rules
row_64 = refl

row_65 :
    replay (given [] ((codes "NF") ∷ []) false ((codes "NF=70000") ∷ []) [] [] None 100000 (codes "BEGIN { getline }"))
    (reply.Done ∷ [])
    ≡ Some (
      (Faulted f.FieldNumber (at 0 0)),
      2,
      call (at 0 0) true (r.Assign (codes "NF") (codes "70000")) reply.Done
          ∷ [],
    )
unfolding rules
row_65 = refl

row_66 :
    replay (given [] ((codes "p") ∷ []) false ((codes "f=3") ∷ (codes "in=4") ∷ (codes "p=5") ∷ []) [] [] None 100000
    (codes "function f() { } { print FILENAME, $0 }")) ((reply.Opened 3) ∷ (reply.Bytes (codes "x\n")) ∷ reply.Done
    ∷ reply.End ∷ reply.Done ∷ (reply.Opened 4) ∷ (reply.Bytes (codes "y\n")) ∷ reply.Done ∷ reply.End ∷ reply.Done
    ∷ reply.Done ∷ [])
    ≡ Some (
      (Status 0),
      7,
      call (at 0 0) true (r.Open mode.Read (codes "f=3")) (reply.Opened 3)
          ∷ call (at 0 0) false (r.Next 3) (reply.Bytes (codes "x\n"))
          ∷ call (at 1 20) false (r.Put 1 (codes "f=3 x\n")) reply.Done
          ∷ call (at 0 0) false (r.Next 3) reply.End
          ∷ call (at 0 0) false (r.Shut 3) reply.Done
          ∷ call (at 0 0) true (r.Open mode.Read (codes "in=4")) (reply.Opened 4)
          ∷ call (at 0 0) false (r.Next 4) (reply.Bytes (codes "y\n"))
          ∷ call (at 1 20) false (r.Put 1 (codes "in=4 y\n")) reply.Done
          ∷ call (at 0 0) false (r.Next 4) reply.End
          ∷ call (at 0 0) false (r.Shut 4) reply.Done
          ∷ call (at 0 0) true (r.Assign (codes "p") (codes "5")) reply.Done
          ∷ [],
    )
unfolding rules
row_66 = refl

row_67 :
    replay (given [] [] false ((codes "-") ∷ (codes "-") ∷ []) [] [] None 100000 (codes "{ print FILENAME, FNR }"))
    ((reply.Bytes (codes "a\n")) ∷ reply.Done ∷ reply.End ∷ [])
    ≡ Some (
      (Status 0),
      4,
      call (at 0 0) false (r.Next 0) (reply.Bytes (codes "a\n"))
          ∷ call (at 1 3) false (r.Put 1 (codes "- 1\n")) reply.Done
          ∷ call (at 0 0) false (r.Next 0) reply.End
          ∷ [],
    )
unfolding rules
row_67 = refl

row_68 :
    replay (given [] [] false [] [] [] None 100000 (codes "{ print } END { print getline l < \"-\", l }"))
    ((reply.Bytes (codes "a\nb")) ∷ reply.Done ∷ reply.Failed ∷ reply.Done ∷ (reply.Bytes (codes "\n")) ∷ reply.Done
    ∷ [])
    ≡ Some (
      (Status 2),
      3,
      call (at 0 0) false (r.Next 0) (reply.Bytes (codes "a\nb"))
          ∷ call (at 1 3) false (r.Put 1 (codes "a\n")) reply.Done
          ∷ call (at 0 0) false (r.Next 0) reply.Failed
          ∷ call (at 0 0) false (r.Put 2 (codes "awkbox: cannot read \"-\"\n")) reply.Done
          ∷ call (at 1 23) false (r.Next 0) (reply.Bytes (codes "\n"))
          ∷ call (at 1 17) false (r.Put 1 (codes "1 \n")) reply.Done
          ∷ [],
    )
unfolding rules
row_68 = refl

row_69 :
    replay (given [] ((codes "none") ∷ []) false ((codes "none") ∷ []) [] [] None 100000
    (codes "BEGIN { exit 3 } END { getline }")) (reply.Failed ∷ reply.Done ∷ [])
    ≡ Some (
      (Status 3),
      3,
      call (at 0 0) true (r.Open mode.Read (codes "none")) reply.Failed
          ∷ call (at 0 0) false (r.Put 2 (codes "awkbox: cannot open \"none\"\n")) reply.Done
          ∷ [],
    )
unfolding rules
row_69 = refl

row_70 :
    replay (given [] ((codes "none") ∷ []) false ((codes "none") ∷ []) [] [] None 100000 (codes "END { exit }"))
    (reply.Failed ∷ reply.Done ∷ [])
    ≡ Some (
      (Status 2),
      2,
      call (at 0 0) true (r.Open mode.Read (codes "none")) reply.Failed
          ∷ call (at 0 0) false (r.Put 2 (codes "awkbox: cannot open \"none\"\n")) reply.Done
          ∷ [],
    )
unfolding rules
row_70 = refl

row_71 :
    replay (given [] [] false [] [] [] None 100000
    (codes "BEGIN { print \"x\" > \"-\"; print close(\"-\"); getline < \"-\"; print close(\"-\") }"))
    ((reply.Opened 3) ∷ reply.Done ∷ reply.Done ∷ reply.Done ∷ reply.End ∷ reply.Done ∷ [])
    ≡ Some (
      (Status 0),
      4,
      call (at 1 19) false (r.Open mode.Write (codes "-")) (reply.Opened 3)
          ∷ call (at 1 19) false (r.Put 3 (codes "x\n")) reply.Done
          ∷ call (at 1 32) false (r.Shut 3) reply.Done
          ∷ call (at 1 26) false (r.Put 1 (codes "0\n")) reply.Done
          ∷ call (at 1 44) false (r.Next 0) reply.End
          ∷ call (at 1 59) false (r.Put 1 (codes "-1\n")) reply.Done
          ∷ [],
    )
unfolding rules
row_71 = refl

row_72 :
    replay (given [] [] false [] [] [] None 100000
    (codes "BEGIN { \"echo p\" | getline; print NR; getline < \"f\"; print NR }"))
    ((reply.Opened 3) ∷ (reply.Bytes (codes "p\n")) ∷ reply.Done ∷ (reply.Opened 4) ∷ (reply.Bytes (codes "1\n2\n"))
    ∷ reply.Done ∷ (reply.Status (pos 0)) ∷ reply.Done ∷ [])
    ≡ Some (
      (Status 0),
      4,
      call (at 1 20) false (r.Open mode.RunIn (codes "echo p")) (reply.Opened 3)
          ∷ call (at 1 20) false (r.Next 3) (reply.Bytes (codes "p\n"))
          ∷ call (at 1 29) false (r.Put 1 (codes "1\n")) reply.Done
          ∷ call (at 1 39) false (r.Open mode.Read (codes "f")) (reply.Opened 4)
          ∷ call (at 1 39) false (r.Next 4) (reply.Bytes (codes "1\n2\n"))
          ∷ call (at 1 54) false (r.Put 1 (codes "1\n")) reply.Done
          ∷ call (at 0 0) false (r.Shut 3) (reply.Status (pos 0))
          ∷ call (at 0 0) false (r.Shut 4) reply.Done
          ∷ [],
    )
unfolding rules
row_72 = refl

row_73 :
    replay (given [] [] false [] [] [] None 100000 (codes "BEGIN { print > x }")) (reply.Failed ∷ [])
    ≡ Some (
      (Faulted f.Output (at 1 15)),
      1,
      call (at 1 15) false (r.Open mode.Write []) reply.Failed
          ∷ [],
    )
unfolding rules
row_73 = refl

row_74 :
    replay (given [] [] false [] [] [] None 100000 (codes "BEGIN { print (getline < x) }"))
    (reply.Failed ∷ reply.Done ∷ [])
    ≡ Some (
      (Status 0),
      1,
      call (at 1 16) false (r.Open mode.Read []) reply.Failed
          ∷ call (at 1 9) false (r.Put 1 (codes "-1\n")) reply.Done
          ∷ [],
    )
unfolding rules
row_74 = refl

row_75 :
    replay (given [] [] false [] [] [] None 100000 (codes "BEGIN { system(\"\") }")) ((reply.Status (pos 127)) ∷ [])
    ≡ Some (
      (Status 0),
      1,
      call (at 1 9) false (r.System []) (reply.Status (pos 127))
          ∷ [],
    )
unfolding rules
row_75 = refl

row_76 :
    replay (given [] [] false [] [] [] None 100000
    (codes "function f() { next } f(), 0 { print \"a\" } { print \"b\" }"))
    ((reply.Bytes (codes "1\n2\n")) ∷ reply.End ∷ [])
    ≡ Some (
      (Status 0),
      6,
      call (at 0 0) false (r.Next 0) (reply.Bytes (codes "1\n2\n"))
          ∷ call (at 0 0) false (r.Next 0) reply.End
          ∷ [],
    )
unfolding rules
row_76 = refl

row_77 :
    replay (given [] [] false [] [] [] None 100000 (codes "function f() { next } BEGIN { f() }")) ([])
    ≡ Some ((Faulted f.NextOutside (at 1 16)), 3, [])
unfolding rules
row_77 = refl

row_78 :
    replay (given [] [] false [] [] [] None 100000 (codes "BEGIN { exit 300 } ")) ([])
    ≡ Some ((Status 44), 1, [])
unfolding rules
row_78 = refl

row_79 :
    replay (given [] [] false [] [] [] None 100000 (codes "BEGIN { exit } END { exit 4 }")) ([])
    ≡ Some ((Status 4), 2, [])
unfolding rules
row_79 = refl

row_80 :
    replay (given [] [] false [] [] [] None 100000
    (codes "BEGIN { print \"a\" > \"x\"; print \"b\" > \"x\"; close(\"x\"); print \"c\" >> \"x\" }"))
    ((reply.Opened 3) ∷ reply.Done ∷ reply.Done ∷ reply.Done ∷ (reply.Opened 4) ∷ reply.Done ∷ reply.Done ∷ [])
    ≡ Some (
      (Status 0),
      4,
      call (at 1 19) false (r.Open mode.Write (codes "x")) (reply.Opened 3)
          ∷ call (at 1 19) false (r.Put 3 (codes "a\n")) reply.Done
          ∷ call (at 1 36) false (r.Put 3 (codes "b\n")) reply.Done
          ∷ call (at 1 43) false (r.Shut 3) reply.Done
          ∷ call (at 1 65) false (r.Open mode.Append (codes "x")) (reply.Opened 4)
          ∷ call (at 1 65) false (r.Put 4 (codes "c\n")) reply.Done
          ∷ call (at 0 0) false (r.Shut 4) reply.Done
          ∷ [],
    )
unfolding rules
row_80 = refl
