-- Rows of the definition, made by the reference: scripts as texts, the world's replies, and what a run then was.
use Rattle.std.specs.Prelude.{◌≡◌, refl, ℕ, Bool, true, false, List, [], ◌∷◌, pos, codes, Option, Some, None}
use Rattle.std.specs.List.{list_any}
use Rattle.std.specs.Str.{bytes_eq}
use Rattle.awk_text.specs.declared.place.Place.{Place}
use Rattle.awk_text.specs.declared.fault.Fault.TheVariants as f
use Rattle.awk_tree.specs.Tree.{Text}
use Rattle.box_world.specs.Calls.{Call}
use Rattle.box_world.specs.declared.ask.Mode.TheVariants as mode
use Rattle.box_world.specs.declared.ask.Request.{Request}
use Rattle.box_world.specs.declared.ask.Request.TheVariants as r
use Rattle.box_world.specs.declared.ask.Reply.{Reply}
use Rattle.box_world.specs.declared.ask.Reply.TheVariants as reply
use Rattle.awk_machine.specs.Pieces.{Outcome, Status, Faulted, Cut}
use Rattle.awk_machine.specs.State.{Given}
use Rattle.awk_numbers.specs.declared.number.Number.TheVariants as number
use Rattle.awk_numbers.specs.declared.number.Numbers.TheVariants.{Whole}
use Rattle.row_calls.proofs.Playing.{replayed}
use Rattle.row_calls.proofs.Scripts.{program_of, rules}

-- parameters that are arrays, names that may be assigned, whether ENVIRON is named, the setup, the bound, and the
-- script
abbrev given : List (Text × Text) → List Text → Bool → List Text → List Text → List (Text × Text) → Option Text → ℕ
    → Text → Given
given arrays names environ operands environment assigns separator bound source = record {
  program = program_of arrays source;
  numbers = Whole;
  seed = number.Whole (pos 0);
  can_assign = λ name. list_any (bytes_eq name) names;
  names_environ = environ;
  operands = operands;
  environment = environment;
  assigns = assigns;
  separator = separator;
  bound = bound;
}

abbrev at : ℕ → ℕ → Place
at line column = record { line = line; column = column }

abbrev call : Place → Bool → Request → Reply → Call
call place given request reply = (record { place = place; given = given; request = request }, reply)

abbrev replay : Given → List Reply → Option (Outcome × ℕ × List Call)
replay g rs = replayed 20000 g rs

row_0 :
    replay (given [] [] false [] [] [] None 1000 (codes "BEGIN { print \"hi\" }")) (reply.Done ∷ [])
    ≡ Some (
      (Status 0),
      1,
      call (at 1 9) false (r.Put 1 (codes "hi\n")) reply.Done
          ∷ [],
    )
unfolding rules
row_0 = refl

row_1 :
    replay (given [] [] false [] [] [] None 1000 (codes "BEGIN { print \"a\" > \"/w/out/a\" }"))
    ((reply.Opened 3) ∷ reply.Done ∷ reply.Done ∷ [])
    ≡ Some (
      (Status 0),
      1,
      call (at 1 19) false (r.Open mode.Write (codes "/w/out/a")) (reply.Opened 3)
          ∷ call (at 1 19) false (r.Put 3 (codes "a\n")) reply.Done
          ∷ call (at 0 0) false (r.Shut 3) reply.Done
          ∷ [],
    )
unfolding rules
row_1 = refl

row_2 :
    replay (given [] [] false [] [] [] None 1000 (codes "BEGIN { print \"a\" > \"/etc/x\" }")) (reply.Failed ∷ [])
    ≡ Some (
      (Faulted f.Output (at 1 19)),
      1,
      call (at 1 19) false (r.Open mode.Write (codes "/etc/x")) reply.Failed
          ∷ [],
    )
unfolding rules
row_2 = refl

row_3 :
    replay (given [] [] false [] [] [] None 1000 (codes "BEGIN { r = (getline l < \"in/secret1\"); print r }"))
    (reply.Failed ∷ reply.Done ∷ [])
    ≡ Some (
      (Status 0),
      2,
      call (at 1 14) false (r.Open mode.Read (codes "in/secret1")) reply.Failed
          ∷ call (at 1 41) false (r.Put 1 (codes "-1\n")) reply.Done
          ∷ [],
    )
unfolding rules
row_3 = refl

row_4 :
    replay (given [] [] false [] [] [] None 1000 (codes "BEGIN { r = (getline l < \"in/secret1\"); print r }"))
    (reply.Failed ∷ reply.Done ∷ [])
    ≡ Some (
      (Status 0),
      2,
      call (at 1 14) false (r.Open mode.Read (codes "in/secret1")) reply.Failed
          ∷ call (at 1 41) false (r.Put 1 (codes "-1\n")) reply.Done
          ∷ [],
    )
unfolding rules
row_4 = refl

row_5 :
    replay (given [] [] false [] [] [] None 1000
    (codes "BEGIN { getline a < \"in//a\"; getline b < \"in/./a\"; getline c < \"in/../../etc/x\"; print a b }"))
    ((reply.Opened 3) ∷ (reply.Bytes (codes "1\n")) ∷ (reply.Opened 4) ∷ (reply.Bytes (codes "2\n")) ∷ reply.Failed
    ∷ reply.Done ∷ reply.Done ∷ reply.Done ∷ [])
    ≡ Some (
      (Status 0),
      4,
      call (at 1 9) false (r.Open mode.Read (codes "in//a")) (reply.Opened 3)
          ∷ call (at 1 9) false (r.Next 3) (reply.Bytes (codes "1\n"))
          ∷ call (at 1 30) false (r.Open mode.Read (codes "in/./a")) (reply.Opened 4)
          ∷ call (at 1 30) false (r.Next 4) (reply.Bytes (codes "2\n"))
          ∷ call (at 1 52) false (r.Open mode.Read (codes "in/../../etc/x")) reply.Failed
          ∷ call (at 1 82) false (r.Put 1 (codes "12\n")) reply.Done
          ∷ call (at 0 0) false (r.Shut 3) reply.Done
          ∷ call (at 0 0) false (r.Shut 4) reply.Done
          ∷ [],
    )
unfolding rules
row_5 = refl

row_6 :
    replay (given [] [] false [] [] [] None 1000
    (codes "BEGIN { print system(\"sort -r\"); print system(\"sort -r;id\") }"))
    ((reply.Status (pos 0)) ∷ reply.Done ∷ reply.Failed ∷ reply.Done ∷ [])
    ≡ Some (
      (Status 0),
      2,
      call (at 1 15) false (r.System (codes "sort -r")) (reply.Status (pos 0))
          ∷ call (at 1 9) false (r.Put 1 (codes "0\n")) reply.Done
          ∷ call (at 1 40) false (r.System (codes "sort -r;id")) reply.Failed
          ∷ call (at 1 34) false (r.Put 1 (codes "-1\n")) reply.Done
          ∷ [],
    )
unfolding rules
row_6 = refl

row_7 :
    replay (given [] [] false [] [] [] None 5 (codes "BEGIN { while ((getline l < \"/x\") != 0) n++ }"))
    (reply.Failed ∷ reply.Failed ∷ reply.Failed ∷ reply.Failed ∷ reply.Failed ∷ [])
    ≡ Some (
      Cut,
      5,
      call (at 1 17) false (r.Open mode.Read (codes "/x")) reply.Failed
          ∷ call (at 1 17) false (r.Open mode.Read (codes "/x")) reply.Failed
          ∷ call (at 1 17) false (r.Open mode.Read (codes "/x")) reply.Failed
          ∷ call (at 1 17) false (r.Open mode.Read (codes "/x")) reply.Failed
          ∷ call (at 1 17) false (r.Open mode.Read (codes "/x")) reply.Failed
          ∷ [],
    )
unfolding rules
row_7 = refl

row_8 :
    replay (given [] [] false [] [] [] None 1000 (codes "BEGIN { r = system(\"id\"); print r; print \"on\" }"))
    (reply.Failed ∷ reply.Done ∷ reply.Done ∷ [])
    ≡ Some (
      (Status 0),
      3,
      call (at 1 13) false (r.System (codes "id")) reply.Failed
          ∷ call (at 1 27) false (r.Put 1 (codes "-1\n")) reply.Done
          ∷ call (at 1 36) false (r.Put 1 (codes "on\n")) reply.Done
          ∷ [],
    )
unfolding rules
row_8 = refl

row_9 :
    replay (given [] [] true [] ((codes "HOME") ∷ (codes "LANG") ∷ []) [] None 1000
    (codes "BEGIN { for (k in ENVIRON) print k }")) (reply.Failed ∷ (reply.Value (codes "C")) ∷ reply.Done ∷ [])
    ≡ Some (
      (Status 0),
      2,
      call (at 0 0) false (r.Env (codes "HOME")) reply.Failed
          ∷ call (at 0 0) false (r.Env (codes "LANG")) (reply.Value (codes "C"))
          ∷ call (at 1 28) false (r.Put 1 (codes "LANG\n")) reply.Done
          ∷ [],
    )
unfolding rules
row_9 = refl

row_10 :
    replay (given [] [] false ((codes "in/a") ∷ []) [] [] None 1000
    (codes "BEGIN { ARGV[2] = \"in/b\"; ARGC = 3 } { print FILENAME, $0 }"))
    ((reply.Opened 3) ∷ (reply.Bytes (codes "x\n")) ∷ reply.Done ∷ reply.End ∷ reply.Done ∷ reply.Failed ∷
    reply.Done ∷ [])
    ≡ Some (
      (Status 2),
      6,
      call (at 0 0) true (r.Open mode.Read (codes "in/a")) (reply.Opened 3)
          ∷ call (at 0 0) false (r.Next 3) (reply.Bytes (codes "x\n"))
          ∷ call (at 1 40) false (r.Put 1 (codes "in/a x\n")) reply.Done
          ∷ call (at 0 0) false (r.Next 3) reply.End
          ∷ call (at 0 0) false (r.Shut 3) reply.Done
          ∷ call (at 0 0) false (r.Open mode.Read (codes "in/b")) reply.Failed
          ∷ call (at 0 0) false (r.Put 2 (codes "awkbox: cannot open \"in/b\"\n")) reply.Done
          ∷ [],
    )
unfolding rules
row_10 = refl

row_11 :
    replay (given [] ((codes "FS") ∷ []) false ((codes "FS=:") ∷ (codes "in/a") ∷ []) [] [] None 1000
    (codes "{ print $1 }")) (reply.Failed ∷ (reply.Opened 3) ∷ (reply.Bytes (codes "a:b c\n")) ∷ reply.Done ∷
    reply.End ∷ reply.Done ∷ [])
    ≡ Some (
      (Status 0),
      4,
      call (at 0 0) true (r.Assign (codes "FS") (codes ":")) reply.Failed
          ∷ call (at 0 0) true (r.Open mode.Read (codes "in/a")) (reply.Opened 3)
          ∷ call (at 0 0) false (r.Next 3) (reply.Bytes (codes "a:b c\n"))
          ∷ call (at 1 3) false (r.Put 1 (codes "a:b\n")) reply.Done
          ∷ call (at 0 0) false (r.Next 3) reply.End
          ∷ call (at 0 0) false (r.Shut 3) reply.Done
          ∷ [],
    )
unfolding rules
row_11 = refl

row_12 :
    replay (given [] [] false [] [] [] None 1000 (codes "BEGIN { print -12 \" \" -24 }")) (reply.Done ∷ [])
    ≡ Some (
      (Status 0),
      1,
      call (at 1 9) false (r.Put 1 (codes "-12-24\n")) reply.Done
          ∷ [],
    )
unfolding rules
row_12 = refl

row_13 :
    replay (given [] [] false [] [] [] None 1000
    (codes
    "BEGIN { s = \"abc\"; n = gsub(/x*/, \"-\", s); print n, s; t = \"abc\"; gsub(/b*/, \"-\", t); print t }"))
    (reply.Done ∷ reply.Done ∷ [])
    ≡ Some (
      (Status 0),
      6,
      call (at 1 44) false (r.Put 1 (codes "4 -a-b-c-\n")) reply.Done
          ∷ call (at 1 87) false (r.Put 1 (codes "-a-c-\n")) reply.Done
          ∷ [],
    )
unfolding rules
row_13 = refl

row_14 :
    replay (given [] [] false [] [] [] None 1000
    (codes "BEGIN { print match(\"xyabab\", /ab|abab/), RSTART, RLENGTH }")) (reply.Done ∷ [])
    ≡ Some (
      (Status 0),
      1,
      call (at 1 9) false (r.Put 1 (codes "3 3 4\n")) reply.Done
          ∷ [],
    )
unfolding rules
row_14 = refl

row_15 :
    replay (given [] [] false [] [] [] None 1000 (codes "BEGIN { print 7/2; print -7%3; print 9223372036854775807+1 }"))
    (reply.Done ∷ reply.Done ∷ [])
    ≡ Some (
      (Faulted f.OutOfRange (at 1 57)),
      3,
      call (at 1 9) false (r.Put 1 (codes "3\n")) reply.Done
          ∷ call (at 1 20) false (r.Put 1 (codes "-1\n")) reply.Done
          ∷ [],
    )
unfolding rules
row_15 = refl

row_16 :
    replay (given [] [] false [] [] [] None 1000 (codes "END { print NR }")) (reply.End ∷ reply.Done ∷ [])
    ≡ Some (
      (Status 0),
      1,
      call (at 0 0) false (r.Next 0) reply.End
          ∷ call (at 1 7) false (r.Put 1 (codes "0\n")) reply.Done
          ∷ [],
    )
unfolding rules
row_16 = refl

row_17 :
    replay (given [] [] false [] [] [] None 1000 (codes "END { print NR }"))
    ((reply.Bytes (codes "a")) ∷ (reply.Bytes (codes "\n")) ∷ (reply.Bytes (codes "b")) ∷ reply.End ∷ reply.Done ∷
    [])
    ≡ Some (
      (Status 0),
      3,
      call (at 0 0) false (r.Next 0) (reply.Bytes (codes "a"))
          ∷ call (at 0 0) false (r.Next 0) (reply.Bytes (codes "\n"))
          ∷ call (at 0 0) false (r.Next 0) (reply.Bytes (codes "b"))
          ∷ call (at 0 0) false (r.Next 0) reply.End
          ∷ call (at 1 7) false (r.Put 1 (codes "2\n")) reply.Done
          ∷ [],
    )
unfolding rules
row_17 = refl

row_18 :
    replay (given [] [] false [] [] [] None 1000 (codes "BEGIN { RS = \"\" } { print NF } END { print NR }"))
    ((reply.Bytes (codes "\n")) ∷ (reply.Bytes (codes "\n")) ∷ (reply.Bytes (codes "a")) ∷
    (reply.Bytes (codes "\n")) ∷ (reply.Bytes (codes "b")) ∷ (reply.Bytes (codes "\n")) ∷ (reply.Bytes (codes "\n"))
    ∷ reply.Done ∷ (reply.Bytes (codes "\n")) ∷ (reply.Bytes (codes "c")) ∷ (reply.Bytes (codes "\n")) ∷
    (reply.Bytes (codes "\n")) ∷ reply.Done ∷ reply.End ∷ reply.Done ∷ [])
    ≡ Some (
      (Status 0),
      6,
      call (at 0 0) false (r.Next 0) (reply.Bytes (codes "\n"))
          ∷ call (at 0 0) false (r.Next 0) (reply.Bytes (codes "\n"))
          ∷ call (at 0 0) false (r.Next 0) (reply.Bytes (codes "a"))
          ∷ call (at 0 0) false (r.Next 0) (reply.Bytes (codes "\n"))
          ∷ call (at 0 0) false (r.Next 0) (reply.Bytes (codes "b"))
          ∷ call (at 0 0) false (r.Next 0) (reply.Bytes (codes "\n"))
          ∷ call (at 0 0) false (r.Next 0) (reply.Bytes (codes "\n"))
          ∷ call (at 1 21) false (r.Put 1 (codes "2\n")) reply.Done
          ∷ call (at 0 0) false (r.Next 0) (reply.Bytes (codes "\n"))
          ∷ call (at 0 0) false (r.Next 0) (reply.Bytes (codes "c"))
          ∷ call (at 0 0) false (r.Next 0) (reply.Bytes (codes "\n"))
          ∷ call (at 0 0) false (r.Next 0) (reply.Bytes (codes "\n"))
          ∷ call (at 1 21) false (r.Put 1 (codes "1\n")) reply.Done
          ∷ call (at 0 0) false (r.Next 0) reply.End
          ∷ call (at 1 38) false (r.Put 1 (codes "2\n")) reply.Done
          ∷ [],
    )
unfolding rules
row_18 = refl

row_19 :
    replay (given [] [] false [] [] [] None 1000 (codes "END { print NR }")) (reply.End ∷ reply.Done ∷ [])
    ≡ Some (
      (Status 0),
      1,
      call (at 0 0) false (r.Next 0) reply.End
          ∷ call (at 1 7) false (r.Put 1 (codes "0\n")) reply.Done
          ∷ [],
    )
unfolding rules
row_19 = refl

row_20 :
    replay (given [] [] false [] [] [] None 1000 (codes "END { print NR }"))
    ((reply.Bytes (codes "a\n")) ∷ (reply.Bytes (codes "b")) ∷ reply.End ∷ reply.Done ∷ [])
    ≡ Some (
      (Status 0),
      3,
      call (at 0 0) false (r.Next 0) (reply.Bytes (codes "a\n"))
          ∷ call (at 0 0) false (r.Next 0) (reply.Bytes (codes "b"))
          ∷ call (at 0 0) false (r.Next 0) reply.End
          ∷ call (at 1 7) false (r.Put 1 (codes "2\n")) reply.Done
          ∷ [],
    )
unfolding rules
row_20 = refl

row_21 :
    replay (given [] [] false [] [] [] None 1000 (codes "BEGIN { RS = \"\" } { print NF } END { print NR }"))
    ((reply.Bytes (codes "\n\n")) ∷ (reply.Bytes (codes "a\n")) ∷ (reply.Bytes (codes "b\n")) ∷
    (reply.Bytes (codes "\n\n")) ∷ reply.Done ∷ (reply.Bytes (codes "c\n")) ∷ (reply.Bytes (codes "\n")) ∷
    reply.Done ∷ reply.End ∷ reply.Done ∷ [])
    ≡ Some (
      (Status 0),
      6,
      call (at 0 0) false (r.Next 0) (reply.Bytes (codes "\n\n"))
          ∷ call (at 0 0) false (r.Next 0) (reply.Bytes (codes "a\n"))
          ∷ call (at 0 0) false (r.Next 0) (reply.Bytes (codes "b\n"))
          ∷ call (at 0 0) false (r.Next 0) (reply.Bytes (codes "\n\n"))
          ∷ call (at 1 21) false (r.Put 1 (codes "2\n")) reply.Done
          ∷ call (at 0 0) false (r.Next 0) (reply.Bytes (codes "c\n"))
          ∷ call (at 0 0) false (r.Next 0) (reply.Bytes (codes "\n"))
          ∷ call (at 1 21) false (r.Put 1 (codes "1\n")) reply.Done
          ∷ call (at 0 0) false (r.Next 0) reply.End
          ∷ call (at 1 38) false (r.Put 1 (codes "2\n")) reply.Done
          ∷ [],
    )
unfolding rules
row_21 = refl

row_22 :
    replay (given [] [] false [] [] [] None 1000 (codes "END { print NR }")) (reply.End ∷ reply.Done ∷ [])
    ≡ Some (
      (Status 0),
      1,
      call (at 0 0) false (r.Next 0) reply.End
          ∷ call (at 1 7) false (r.Put 1 (codes "0\n")) reply.Done
          ∷ [],
    )
unfolding rules
row_22 = refl

row_23 :
    replay (given [] [] false [] [] [] None 1000 (codes "END { print NR }"))
    ((reply.Bytes (codes "a\nb")) ∷ reply.End ∷ reply.Done ∷ [])
    ≡ Some (
      (Status 0),
      3,
      call (at 0 0) false (r.Next 0) (reply.Bytes (codes "a\nb"))
          ∷ call (at 0 0) false (r.Next 0) reply.End
          ∷ call (at 1 7) false (r.Put 1 (codes "2\n")) reply.Done
          ∷ [],
    )
unfolding rules
row_23 = refl

row_24 :
    replay (given [] [] false [] [] [] None 1000 (codes "BEGIN { RS = \"\" } { print NF } END { print NR }"))
    ((reply.Bytes (codes "\n\na\nb\n\n\nc\n\n")) ∷ reply.Done ∷ reply.Done ∷ reply.End ∷ reply.Done ∷ [])
    ≡ Some (
      (Status 0),
      6,
      call (at 0 0) false (r.Next 0) (reply.Bytes (codes "\n\na\nb\n\n\nc\n\n"))
          ∷ call (at 1 21) false (r.Put 1 (codes "2\n")) reply.Done
          ∷ call (at 1 21) false (r.Put 1 (codes "1\n")) reply.Done
          ∷ call (at 0 0) false (r.Next 0) reply.End
          ∷ call (at 1 38) false (r.Put 1 (codes "2\n")) reply.Done
          ∷ [],
    )
unfolding rules
row_24 = refl

row_25 :
    replay (given [] [] false [] [] [] None 1000
    (codes "BEGIN { getline a < \"in/a\"; close(\"in/a\"); r = (getline b < \"in/a\"); print r }"))
    ((reply.Opened 3) ∷ (reply.Bytes (codes "1\n")) ∷ reply.Done ∷ (reply.Opened 4) ∷ (reply.Bytes (codes "1\n")) ∷
    reply.Done ∷ reply.Done ∷ [])
    ≡ Some (
      (Status 0),
      4,
      call (at 1 9) false (r.Open mode.Read (codes "in/a")) (reply.Opened 3)
          ∷ call (at 1 9) false (r.Next 3) (reply.Bytes (codes "1\n"))
          ∷ call (at 1 29) false (r.Shut 3) reply.Done
          ∷ call (at 1 49) false (r.Open mode.Read (codes "in/a")) (reply.Opened 4)
          ∷ call (at 1 49) false (r.Next 4) (reply.Bytes (codes "1\n"))
          ∷ call (at 1 70) false (r.Put 1 (codes "1\n")) reply.Done
          ∷ call (at 0 0) false (r.Shut 4) reply.Done
          ∷ [],
    )
unfolding rules
row_25 = refl

row_26 :
    replay (given [] [] false ((codes "in/a") ∷ []) [] [] None 1000
    (codes "{ print $1 | \"sort -r\" } END { print \"end\" }")) ((reply.Opened 3) ∷ (reply.Bytes (codes "b\na\n")) ∷
    (reply.Opened 4) ∷ reply.Done ∷ reply.Done ∷ reply.End ∷ reply.Done ∷ reply.Done ∷ (reply.Status (pos 0)) ∷ [])
    ≡ Some (
      (Status 0),
      6,
      call (at 0 0) true (r.Open mode.Read (codes "in/a")) (reply.Opened 3)
          ∷ call (at 0 0) false (r.Next 3) (reply.Bytes (codes "b\na\n"))
          ∷ call (at 1 12) false (r.Open mode.RunOut (codes "sort -r")) (reply.Opened 4)
          ∷ call (at 1 12) false (r.Put 4 (codes "b\n")) reply.Done
          ∷ call (at 1 12) false (r.Put 4 (codes "a\n")) reply.Done
          ∷ call (at 0 0) false (r.Next 3) reply.End
          ∷ call (at 0 0) false (r.Shut 3) reply.Done
          ∷ call (at 1 32) false (r.Put 1 (codes "end\n")) reply.Done
          ∷ call (at 0 0) false (r.Shut 4) (reply.Status (pos 0))
          ∷ [],
    )
unfolding rules
row_26 = refl

row_27 :
    replay (given [] [] false [] [] [] None 1000 (codes "BEGIN { print \"x\" > \"/q\\\"\\t\" }")) (reply.Failed ∷ [])
    ≡ Some (
      (Faulted f.Output (at 1 19)),
      1,
      call (at 1 19) false (r.Open mode.Write (codes "/q\"\t")) reply.Failed
          ∷ [],
    )
unfolding rules
row_27 = refl

row_28 :
    replay (given [] [] false [] [] [] None 1000 (codes "BEGIN { print \"x\" > \"/q\\\"\\t\" }")) (reply.Failed ∷ [])
    ≡ Some (
      (Faulted f.Output (at 1 19)),
      1,
      call (at 1 19) false (r.Open mode.Write (codes "/q\"\t")) reply.Failed
          ∷ [],
    )
unfolding rules
row_28 = refl

row_29 :
    replay (given [] [] false [] [] [] None 1000 (codes "BEGIN { print \"hi\" }")) (reply.Done ∷ [])
    ≡ Some (
      (Status 0),
      1,
      call (at 1 9) false (r.Put 1 (codes "hi\n")) reply.Done
          ∷ [],
    )
unfolding rules
row_29 = refl

row_30 :
    replay (given [] [] false [] [] [] None 1000
    (codes
    "BEGIN { x = (((((((((((((((((((((((((((((((((((((((((((((((((((((((((((((((((((((((((((((((((((((((((((((((((((((((((((((((((((((((((((((((((((((((((((((((((((((((((((((((((((((((((((((((((((((((((((((((((((((((1))))))))))))))))))))))))))))))))))))))))))))))))))))))))))))))))))))))))))))))))))))))))))))))))))))))))))))))))))))))))))))))))))))))))))))))))))))))))))))))))))))))))))))))))))))))))))))))))))))))) }"))
    ([])
    ≡ Some ((Status 0), 1, [])
unfolding rules
row_30 = refl

row_31 :
    replay (given [] [] false [] [] [] None 1000
    (codes "BEGIN { printf \"%5d|%-5s|%05d|%x|%c\\n\", 42, \"ab\", -7, 255, 65 }")) (reply.Done ∷ [])
    ≡ Some (
      (Status 0),
      1,
      call (at 1 9) false (r.Put 1 (codes "   42|ab   |-0007|ff|A\n")) reply.Done
          ∷ [],
    )
unfolding rules
row_31 = refl

row_32 :
    replay (given [] [] false [] [] [] None 1000 (codes "BEGIN { printf \"%d\" }")) ([])
    ≡ Some ((Faulted f.Format (at 1 9)), 1, [])
unfolding rules
row_32 = refl

row_33 :
    replay (given [] [] false [] [] [] None 1000 (codes "BEGIN { printf \"%d\" > \"/etc/x\" }")) ([])
    ≡ Some ((Faulted f.Format (at 1 9)), 1, [])
unfolding rules
row_33 = refl

row_34 :
    replay (given [] [] false [] [] [] None 1000 (codes "{ $4 = \"z\"; print; print NF }"))
    ((reply.Bytes (codes " a  b \n")) ∷ reply.Done ∷ reply.Done ∷ reply.End ∷ [])
    ≡ Some (
      (Status 0),
      4,
      call (at 0 0) false (r.Next 0) (reply.Bytes (codes " a  b \n"))
          ∷ call (at 1 13) false (r.Put 1 (codes "a b  z\n")) reply.Done
          ∷ call (at 1 20) false (r.Put 1 (codes "4\n")) reply.Done
          ∷ call (at 0 0) false (r.Next 0) reply.End
          ∷ [],
    )
unfolding rules
row_34 = refl

row_35 :
    replay (given [] [] false [] [] [] None 1000 (codes "BEGIN { n = split(\"a:b\", x, \":\"); print n, x[2] }"))
    (reply.Done ∷ [])
    ≡ Some (
      (Status 0),
      2,
      call (at 1 35) false (r.Put 1 (codes "2 b\n")) reply.Done
          ∷ [],
    )
unfolding rules
row_35 = refl

row_36 :
    replay (given [] [] false [] [] [] None 3 (codes "BEGIN { while (1) { } }")) ([])
    ≡ Some (Cut, 3, [])
unfolding rules
row_36 = refl

row_37 :
    replay (given [] [] false [] [] [] None 0 (codes "BEGIN { }")) ([])
    ≡ Some ((Status 0), 0, [])
unfolding rules
row_37 = refl

row_38 :
    replay (given [] [] false [] [] [] None 1000 (codes "{ print ($1 > $2), ($1 > \"9\") }"))
    ((reply.Bytes (codes "10 9\n")) ∷ reply.Done ∷ reply.End ∷ [])
    ≡ Some (
      (Status 0),
      2,
      call (at 0 0) false (r.Next 0) (reply.Bytes (codes "10 9\n"))
          ∷ call (at 1 3) false (r.Put 1 (codes "1 0\n")) reply.Done
          ∷ call (at 0 0) false (r.Next 0) reply.End
          ∷ [],
    )
unfolding rules
row_38 = refl

row_39 :
    replay (given [] [] false [] [] [] None 1000
    (codes "BEGIN { a[\"b\"]; a[\"a\"]; a[\"b\"] = 1; for (k in a) print k }")) (reply.Done ∷ reply.Done ∷ [])
    ≡ Some (
      (Status 0),
      6,
      call (at 1 50) false (r.Put 1 (codes "b\n")) reply.Done
          ∷ call (at 1 50) false (r.Put 1 (codes "a\n")) reply.Done
          ∷ [],
    )
unfolding rules
row_39 = refl

row_40 :
    replay (given [] [] false [] [] [] None 1000 (codes "BEGIN { exit -1 }")) ([])
    ≡ Some ((Status 255), 1, [])
unfolding rules
row_40 = refl

row_41 :
    replay (given [] [] false [] [] [] None 1000 (codes "BEGIN { exit 3 } END { print \"e\" }")) (reply.Done ∷ [])
    ≡ Some (
      (Status 3),
      2,
      call (at 1 24) false (r.Put 1 (codes "e\n")) reply.Done
          ∷ [],
    )
unfolding rules
row_41 = refl

row_42 :
    replay (given [] [] false [] [] [] None 1000
    (codes "BEGIN { while (c < 4) { r = (getline l < \"in/a\"); print r, l; c++ } }"))
    ((reply.Opened 3) ∷ (reply.Bytes (codes "x\ny")) ∷ reply.Done ∷ reply.Failed ∷ reply.Done ∷
    (reply.Bytes (codes "\n")) ∷ reply.Done ∷ reply.End ∷ reply.Done ∷ reply.Done ∷ [])
    ≡ Some (
      (Status 0),
      13,
      call (at 1 30) false (r.Open mode.Read (codes "in/a")) (reply.Opened 3)
          ∷ call (at 1 30) false (r.Next 3) (reply.Bytes (codes "x\ny"))
          ∷ call (at 1 51) false (r.Put 1 (codes "1 x\n")) reply.Done
          ∷ call (at 1 30) false (r.Next 3) reply.Failed
          ∷ call (at 1 51) false (r.Put 1 (codes "-1 x\n")) reply.Done
          ∷ call (at 1 30) false (r.Next 3) (reply.Bytes (codes "\n"))
          ∷ call (at 1 51) false (r.Put 1 (codes "1 y\n")) reply.Done
          ∷ call (at 1 30) false (r.Next 3) reply.End
          ∷ call (at 1 51) false (r.Put 1 (codes "0 y\n")) reply.Done
          ∷ call (at 0 0) false (r.Shut 3) reply.Done
          ∷ [],
    )
unfolding rules
row_42 = refl

row_43 :
    replay (given [] [] false [] [] [] None 1000 (codes "BEGIN { print \"a\" }")) (reply.Failed ∷ [])
    ≡ Some (
      (Faulted f.Output (at 1 9)),
      1,
      call (at 1 9) false (r.Put 1 (codes "a\n")) reply.Failed
          ∷ [],
    )
unfolding rules
row_43 = refl

row_44 :
    replay (given [] [] false [] [] [] None 1000 (codes "BEGIN { system(\"id\"); print \"on\" }"))
    (reply.Failed ∷ reply.Done ∷ [])
    ≡ Some (
      (Status 0),
      2,
      call (at 1 9) false (r.System (codes "id")) reply.Failed
          ∷ call (at 1 23) false (r.Put 1 (codes "on\n")) reply.Done
          ∷ [],
    )
unfolding rules
row_44 = refl

row_45 :
    replay (given [] [] false [] [] [] None 1000
    (codes "BEGIN { x = 5; x ^= 2; print x, -2^2, 2^3^2, 1 - 1 - 1, !0 + 1 }")) (reply.Done ∷ [])
    ≡ Some (
      (Status 0),
      3,
      call (at 1 24) false (r.Put 1 (codes "25 -4 512 -1 2\n")) reply.Done
          ∷ [],
    )
unfolding rules
row_45 = refl

row_46 :
    replay (given [] [] false [] [] [] None 1000 (codes "BEGIN { a = 1; if (a && b = 2) print b; print 1 !c }"))
    (reply.Done ∷ reply.Done ∷ [])
    ≡ Some (
      (Status 0),
      4,
      call (at 1 32) false (r.Put 1 (codes "2\n")) reply.Done
          ∷ call (at 1 41) false (r.Put 1 (codes "11\n")) reply.Done
          ∷ [],
    )
unfolding rules
row_46 = refl

row_47 :
    replay (given (((codes "g"), (codes "a")) ∷ []) [] false [] [] [] None 1000
    (codes "function g(a, n) { a[\"k\"] = n; n = 9 } BEGIN { m = 1; g(t, m); print t[\"k\"], m }"))
    (reply.Done ∷ [])
    ≡ Some (
      (Status 0),
      6,
      call (at 1 64) false (r.Put 1 (codes "1 1\n")) reply.Done
          ∷ [],
    )
unfolding rules
row_47 = refl

row_48 :
    replay (given [] [] false [] [] [] None 1000 (codes "function h(n) { return h(n + 1) } BEGIN { h(0) }")) ([])
    ≡ Some ((Faulted f.CallDepth (at 1 24)), 402, [])
unfolding rules
row_48 = refl

row_49 :
    replay (given [] [] false [] [] [] None 1000 (codes "/b/, /c/"))
    ((reply.Bytes (codes "a\nb\nc\nb\n")) ∷ reply.Done ∷ reply.Done ∷ reply.Done ∷ reply.End ∷ [])
    ≡ Some (
      (Status 0),
      7,
      call (at 0 0) false (r.Next 0) (reply.Bytes (codes "a\nb\nc\nb\n"))
          ∷ call (at 0 0) false (r.Put 1 (codes "b\n")) reply.Done
          ∷ call (at 0 0) false (r.Put 1 (codes "c\n")) reply.Done
          ∷ call (at 0 0) false (r.Put 1 (codes "b\n")) reply.Done
          ∷ call (at 0 0) false (r.Next 0) reply.End
          ∷ [],
    )
unfolding rules
row_49 = refl

row_50 :
    replay (given [] [] false [] [] [] None 1000 (codes "BEGIN { a[\"x\"] = (\"x\" in a); print a[\"x\"] }"))
    (reply.Done ∷ [])
    ≡ Some (
      (Status 0),
      2,
      call (at 1 30) false (r.Put 1 (codes "0\n")) reply.Done
          ∷ [],
    )
unfolding rules
row_50 = refl

row_51 :
    replay (given [] [] false [] [] [] None 1000 (codes "BEGIN { $(-1) = system(\"id\") }")) ([])
    ≡ Some ((Faulted f.FieldNumber (at 1 9)), 1, [])
unfolding rules
row_51 = refl

row_52 :
    replay (given [] [] false [] [] [] None 1000
    (codes "BEGIN { print toupper(\"aZ1\"), index(\"abc\", \"c\"), substr(\"hello\", 2, 3) }")) (reply.Done ∷ [])
    ≡ Some (
      (Status 0),
      1,
      call (at 1 9) false (r.Put 1 (codes "AZ1 3 ell\n")) reply.Done
          ∷ [],
    )
unfolding rules
row_52 = refl

row_53 :
    replay (given [] [] false [] [] [] None 1000
    (codes
    "BEGIN { print \"a\" > \"/w/out/a\"; print \"b\" >> \"/w/out/a\"; close(\"/w/out/a\"); print \"c\" > \"/w/out/a\" }"))
    ((reply.Opened 3) ∷ reply.Done ∷ reply.Done ∷ reply.Done ∷ (reply.Opened 4) ∷ reply.Done ∷ reply.Done ∷ [])
    ≡ Some (
      (Status 0),
      4,
      call (at 1 19) false (r.Open mode.Write (codes "/w/out/a")) (reply.Opened 3)
          ∷ call (at 1 19) false (r.Put 3 (codes "a\n")) reply.Done
          ∷ call (at 1 43) false (r.Put 3 (codes "b\n")) reply.Done
          ∷ call (at 1 58) false (r.Shut 3) reply.Done
          ∷ call (at 1 87) false (r.Open mode.Write (codes "/w/out/a")) (reply.Opened 4)
          ∷ call (at 1 87) false (r.Put 4 (codes "c\n")) reply.Done
          ∷ call (at 0 0) false (r.Shut 4) reply.Done
          ∷ [],
    )
unfolding rules
row_53 = refl

row_54 :
    replay (given [] [] false [] [] [] None 1000
    (codes "BEGIN { while ((\"sort -n\" | getline x) > 0) print x; print close(\"sort -n\") }"))
    ((reply.Opened 3) ∷ (reply.Bytes (codes "1\n2\n")) ∷ reply.Done ∷ reply.Done ∷ reply.End ∷
    (reply.Status (pos 3)) ∷ reply.Done ∷ [])
    ≡ Some (
      (Status 0),
      4,
      call (at 1 29) false (r.Open mode.RunIn (codes "sort -n")) (reply.Opened 3)
          ∷ call (at 1 29) false (r.Next 3) (reply.Bytes (codes "1\n2\n"))
          ∷ call (at 1 45) false (r.Put 1 (codes "1\n")) reply.Done
          ∷ call (at 1 45) false (r.Put 1 (codes "2\n")) reply.Done
          ∷ call (at 1 29) false (r.Next 3) reply.End
          ∷ call (at 1 60) false (r.Shut 3) (reply.Status (pos 3))
          ∷ call (at 1 54) false (r.Put 1 (codes "3\n")) reply.Done
          ∷ [],
    )
unfolding rules
row_54 = refl

row_55 :
    replay (given [] [] false [] [] [] None 1000 (codes "{ print; getline l < \"-\"; print l }"))
    ((reply.Bytes (codes "p\nq\n")) ∷ reply.Done ∷ reply.Done ∷ reply.End ∷ [])
    ≡ Some (
      (Status 0),
      4,
      call (at 0 0) false (r.Next 0) (reply.Bytes (codes "p\nq\n"))
          ∷ call (at 1 3) false (r.Put 1 (codes "p\n")) reply.Done
          ∷ call (at 1 27) false (r.Put 1 (codes "q\n")) reply.Done
          ∷ call (at 0 0) false (r.Next 0) reply.End
          ∷ [],
    )
unfolding rules
row_55 = refl

row_56 :
    replay (given [] [] false ((codes "in/no") ∷ []) [] [] None 1000 (codes "{ print } END { print \"e\" }"))
    (reply.Failed ∷ reply.Done ∷ reply.Done ∷ [])
    ≡ Some (
      (Status 2),
      2,
      call (at 0 0) true (r.Open mode.Read (codes "in/no")) reply.Failed
          ∷ call (at 0 0) false (r.Put 2 (codes "awkbox: cannot open \"in/no\"\n")) reply.Done
          ∷ call (at 1 17) false (r.Put 1 (codes "e\n")) reply.Done
          ∷ [],
    )
unfolding rules
row_56 = refl

row_57 :
    replay (given [] [] false ((codes "in/no") ∷ []) [] [] None 1000 (codes "{ print } END { exit 0 }"))
    (reply.Failed ∷ reply.Done ∷ [])
    ≡ Some (
      (Status 0),
      2,
      call (at 0 0) true (r.Open mode.Read (codes "in/no")) reply.Failed
          ∷ call (at 0 0) false (r.Put 2 (codes "awkbox: cannot open \"in/no\"\n")) reply.Done
          ∷ [],
    )
unfolding rules
row_57 = refl

row_58 :
    replay (given [] ((codes "v") ∷ []) false ((codes "v=1") ∷ []) [] [] None 1000 (codes "END { print v }"))
    (reply.Done ∷ reply.End ∷ reply.Done ∷ [])
    ≡ Some (
      (Status 0),
      2,
      call (at 0 0) true (r.Assign (codes "v") (codes "1")) reply.Done
          ∷ call (at 0 0) false (r.Next 0) reply.End
          ∷ call (at 1 7) false (r.Put 1 (codes "1\n")) reply.Done
          ∷ [],
    )
unfolding rules
row_58 = refl

row_59 :
    replay (given [] [] false ((codes "-") ∷ []) [] [] None 1000 (codes "{ print FILENAME, FNR }"))
    ((reply.Bytes (codes "p\n")) ∷ reply.Done ∷ reply.End ∷ [])
    ≡ Some (
      (Status 0),
      3,
      call (at 0 0) false (r.Next 0) (reply.Bytes (codes "p\n"))
          ∷ call (at 1 3) false (r.Put 1 (codes "- 1\n")) reply.Done
          ∷ call (at 0 0) false (r.Next 0) reply.End
          ∷ [],
    )
unfolding rules
row_59 = refl

row_60 :
    replay (given [] [] false ((codes "in/a") ∷ []) [] [] None 1000 (codes "{ r = (getline l < \"in/a\"); print r }"))
    ((reply.Opened 3) ∷ (reply.Bytes (codes "x\n")) ∷ reply.Failed ∷ reply.Done ∷ reply.End ∷ reply.Done ∷ [])
    ≡ Some (
      (Status 0),
      4,
      call (at 0 0) true (r.Open mode.Read (codes "in/a")) (reply.Opened 3)
          ∷ call (at 0 0) false (r.Next 3) (reply.Bytes (codes "x\n"))
          ∷ call (at 1 8) false (r.Open mode.Read (codes "in/a")) reply.Failed
          ∷ call (at 1 29) false (r.Put 1 (codes "-1\n")) reply.Done
          ∷ call (at 0 0) false (r.Next 3) reply.End
          ∷ call (at 0 0) false (r.Shut 3) reply.Done
          ∷ [],
    )
unfolding rules
row_60 = refl

row_61 :
    replay (given [] [] false [] [] [] None 1000 (codes "{ FS = \":\"; print $1 }"))
    ((reply.Bytes (codes "a:b c\nd:e f\n")) ∷ reply.Done ∷ reply.Done ∷ reply.End ∷ [])
    ≡ Some (
      (Status 0),
      6,
      call (at 0 0) false (r.Next 0) (reply.Bytes (codes "a:b c\nd:e f\n"))
          ∷ call (at 1 13) false (r.Put 1 (codes "a:b\n")) reply.Done
          ∷ call (at 1 13) false (r.Put 1 (codes "d\n")) reply.Done
          ∷ call (at 0 0) false (r.Next 0) reply.End
          ∷ [],
    )
unfolding rules
row_61 = refl

row_62 :
    replay (given [] [] false [] [] [] None 1000 (codes "{ FS = \"(a\"; print \"x\" }"))
    ((reply.Bytes (codes "a\nb\n")) ∷ reply.Done ∷ [])
    ≡ Some (
      (Faulted f.Pattern (at 0 0)),
      3,
      call (at 0 0) false (r.Next 0) (reply.Bytes (codes "a\nb\n"))
          ∷ call (at 1 14) false (r.Put 1 (codes "x\n")) reply.Done
          ∷ [],
    )
unfolding rules
row_62 = refl

row_63 :
    replay (given [] [] false ((codes "in/a") ∷ []) [] [] None 1000
    (codes "{ print $1 | \"sort -r\" } END { print \"end\" }")) (reply.Failed ∷ reply.Done ∷ reply.Done ∷ [])
    ≡ Some (
      (Status 2),
      2,
      call (at 0 0) true (r.Open mode.Read (codes "in/a")) reply.Failed
          ∷ call (at 0 0) false (r.Put 2 (codes "awkbox: cannot open \"in/a\"\n")) reply.Done
          ∷ call (at 1 32) false (r.Put 1 (codes "end\n")) reply.Done
          ∷ [],
    )
unfolding rules
row_63 = refl

row_64 :
    replay (given [] [] false ((codes "in/a") ∷ []) [] [] None 1000
    (codes "{ print $1 | \"sort -r\" } END { print \"end\" }"))
    ((reply.Opened 3) ∷ reply.Failed ∷ reply.Done ∷ reply.Done ∷ reply.Done ∷ [])
    ≡ Some (
      (Status 2),
      2,
      call (at 0 0) true (r.Open mode.Read (codes "in/a")) (reply.Opened 3)
          ∷ call (at 0 0) false (r.Next 3) reply.Failed
          ∷ call (at 0 0) false (r.Put 2 (codes "awkbox: cannot read \"in/a\"\n")) reply.Done
          ∷ call (at 0 0) false (r.Shut 3) reply.Done
          ∷ call (at 1 32) false (r.Put 1 (codes "end\n")) reply.Done
          ∷ [],
    )
unfolding rules
row_64 = refl

row_65 :
    replay (given [] [] false ((codes "in/a") ∷ []) [] [] None 1000
    (codes "{ print $1 | \"sort -r\" } END { print \"end\" }")) ((reply.Opened 3) ∷ (reply.Bytes (codes "b\na\n")) ∷
    reply.Failed ∷ reply.Done ∷ [])
    ≡ Some (
      (Faulted f.Output (at 1 12)),
      3,
      call (at 0 0) true (r.Open mode.Read (codes "in/a")) (reply.Opened 3)
          ∷ call (at 0 0) false (r.Next 3) (reply.Bytes (codes "b\na\n"))
          ∷ call (at 1 12) false (r.Open mode.RunOut (codes "sort -r")) reply.Failed
          ∷ call (at 0 0) false (r.Shut 3) reply.Done
          ∷ [],
    )
unfolding rules
row_65 = refl

row_66 :
    replay (given [] [] false ((codes "in/a") ∷ []) [] [] None 1000
    (codes "{ print $1 | \"sort -r\" } END { print \"end\" }")) ((reply.Opened 3) ∷ (reply.Bytes (codes "b\na\n")) ∷
    (reply.Opened 4) ∷ reply.Failed ∷ reply.Done ∷ (reply.Status (pos 0)) ∷ [])
    ≡ Some (
      (Faulted f.Output (at 1 12)),
      3,
      call (at 0 0) true (r.Open mode.Read (codes "in/a")) (reply.Opened 3)
          ∷ call (at 0 0) false (r.Next 3) (reply.Bytes (codes "b\na\n"))
          ∷ call (at 1 12) false (r.Open mode.RunOut (codes "sort -r")) (reply.Opened 4)
          ∷ call (at 1 12) false (r.Put 4 (codes "b\n")) reply.Failed
          ∷ call (at 0 0) false (r.Shut 3) reply.Done
          ∷ call (at 0 0) false (r.Shut 4) (reply.Status (pos 0))
          ∷ [],
    )
unfolding rules
row_66 = refl

row_67 :
    replay (given [] [] false ((codes "in/a") ∷ []) [] [] None 1000
    (codes "{ print $1 | \"sort -r\" } END { print \"end\" }")) ((reply.Opened 3) ∷ (reply.Bytes (codes "b\na\n")) ∷
    (reply.Opened 4) ∷ reply.Done ∷ reply.Failed ∷ reply.Done ∷ (reply.Status (pos 0)) ∷ [])
    ≡ Some (
      (Faulted f.Output (at 1 12)),
      5,
      call (at 0 0) true (r.Open mode.Read (codes "in/a")) (reply.Opened 3)
          ∷ call (at 0 0) false (r.Next 3) (reply.Bytes (codes "b\na\n"))
          ∷ call (at 1 12) false (r.Open mode.RunOut (codes "sort -r")) (reply.Opened 4)
          ∷ call (at 1 12) false (r.Put 4 (codes "b\n")) reply.Done
          ∷ call (at 1 12) false (r.Put 4 (codes "a\n")) reply.Failed
          ∷ call (at 0 0) false (r.Shut 3) reply.Done
          ∷ call (at 0 0) false (r.Shut 4) (reply.Status (pos 0))
          ∷ [],
    )
unfolding rules
row_67 = refl

row_68 :
    replay (given [] [] false ((codes "in/a") ∷ []) [] [] None 1000
    (codes "{ print $1 | \"sort -r\" } END { print \"end\" }")) ((reply.Opened 3) ∷ (reply.Bytes (codes "b\na\n")) ∷
    (reply.Opened 4) ∷ reply.Done ∷ reply.Done ∷ reply.Failed ∷ reply.Done ∷ reply.Done ∷ reply.Done ∷
    (reply.Status (pos 0)) ∷ [])
    ≡ Some (
      (Status 2),
      6,
      call (at 0 0) true (r.Open mode.Read (codes "in/a")) (reply.Opened 3)
          ∷ call (at 0 0) false (r.Next 3) (reply.Bytes (codes "b\na\n"))
          ∷ call (at 1 12) false (r.Open mode.RunOut (codes "sort -r")) (reply.Opened 4)
          ∷ call (at 1 12) false (r.Put 4 (codes "b\n")) reply.Done
          ∷ call (at 1 12) false (r.Put 4 (codes "a\n")) reply.Done
          ∷ call (at 0 0) false (r.Next 3) reply.Failed
          ∷ call (at 0 0) false (r.Put 2 (codes "awkbox: cannot read \"in/a\"\n")) reply.Done
          ∷ call (at 0 0) false (r.Shut 3) reply.Done
          ∷ call (at 1 32) false (r.Put 1 (codes "end\n")) reply.Done
          ∷ call (at 0 0) false (r.Shut 4) (reply.Status (pos 0))
          ∷ [],
    )
unfolding rules
row_68 = refl

row_69 :
    replay (given [] [] false ((codes "in/a") ∷ []) [] [] None 1000
    (codes "{ print $1 | \"sort -r\" } END { print \"end\" }")) ((reply.Opened 3) ∷ (reply.Bytes (codes "b\na\n")) ∷
    (reply.Opened 4) ∷ reply.Done ∷ reply.Done ∷ reply.End ∷ reply.Failed ∷ reply.Done ∷ (reply.Status (pos 0)) ∷
    [])
    ≡ Some (
      (Status 0),
      6,
      call (at 0 0) true (r.Open mode.Read (codes "in/a")) (reply.Opened 3)
          ∷ call (at 0 0) false (r.Next 3) (reply.Bytes (codes "b\na\n"))
          ∷ call (at 1 12) false (r.Open mode.RunOut (codes "sort -r")) (reply.Opened 4)
          ∷ call (at 1 12) false (r.Put 4 (codes "b\n")) reply.Done
          ∷ call (at 1 12) false (r.Put 4 (codes "a\n")) reply.Done
          ∷ call (at 0 0) false (r.Next 3) reply.End
          ∷ call (at 0 0) false (r.Shut 3) reply.Failed
          ∷ call (at 1 32) false (r.Put 1 (codes "end\n")) reply.Done
          ∷ call (at 0 0) false (r.Shut 4) (reply.Status (pos 0))
          ∷ [],
    )
unfolding rules
row_69 = refl

row_70 :
    replay (given [] [] false ((codes "in/a") ∷ []) [] [] None 1000
    (codes "{ print $1 | \"sort -r\" } END { print \"end\" }")) ((reply.Opened 3) ∷ (reply.Bytes (codes "b\na\n")) ∷
    (reply.Opened 4) ∷ reply.Done ∷ reply.Done ∷ reply.End ∷ reply.Done ∷ reply.Failed ∷ (reply.Status (pos 0)) ∷
    [])
    ≡ Some (
      (Faulted f.Output (at 1 32)),
      6,
      call (at 0 0) true (r.Open mode.Read (codes "in/a")) (reply.Opened 3)
          ∷ call (at 0 0) false (r.Next 3) (reply.Bytes (codes "b\na\n"))
          ∷ call (at 1 12) false (r.Open mode.RunOut (codes "sort -r")) (reply.Opened 4)
          ∷ call (at 1 12) false (r.Put 4 (codes "b\n")) reply.Done
          ∷ call (at 1 12) false (r.Put 4 (codes "a\n")) reply.Done
          ∷ call (at 0 0) false (r.Next 3) reply.End
          ∷ call (at 0 0) false (r.Shut 3) reply.Done
          ∷ call (at 1 32) false (r.Put 1 (codes "end\n")) reply.Failed
          ∷ call (at 0 0) false (r.Shut 4) (reply.Status (pos 0))
          ∷ [],
    )
unfolding rules
row_70 = refl

row_71 :
    replay (given [] [] false ((codes "in/a") ∷ []) [] [] None 1000
    (codes "{ print $1 | \"sort -r\" } END { print \"end\" }")) ((reply.Opened 3) ∷ (reply.Bytes (codes "b\na\n")) ∷
    (reply.Opened 4) ∷ reply.Done ∷ reply.Done ∷ reply.End ∷ reply.Done ∷ reply.Done ∷ reply.Failed ∷ [])
    ≡ Some (
      (Status 0),
      6,
      call (at 0 0) true (r.Open mode.Read (codes "in/a")) (reply.Opened 3)
          ∷ call (at 0 0) false (r.Next 3) (reply.Bytes (codes "b\na\n"))
          ∷ call (at 1 12) false (r.Open mode.RunOut (codes "sort -r")) (reply.Opened 4)
          ∷ call (at 1 12) false (r.Put 4 (codes "b\n")) reply.Done
          ∷ call (at 1 12) false (r.Put 4 (codes "a\n")) reply.Done
          ∷ call (at 0 0) false (r.Next 3) reply.End
          ∷ call (at 0 0) false (r.Shut 3) reply.Done
          ∷ call (at 1 32) false (r.Put 1 (codes "end\n")) reply.Done
          ∷ call (at 0 0) false (r.Shut 4) reply.Failed
          ∷ [],
    )
unfolding rules
row_71 = refl

row_72 :
    replay (given [] [] false ((codes "in/a") ∷ []) [] [] None 1000
    (codes "{ print $1 | \"sort -r\" } END { print \"end\" }")) (reply.Failed ∷ reply.Failed ∷ reply.Failed ∷ [])
    ≡ Some (
      (Faulted f.Output (at 1 32)),
      2,
      call (at 0 0) true (r.Open mode.Read (codes "in/a")) reply.Failed
          ∷ call (at 0 0) false (r.Put 2 (codes "awkbox: cannot open \"in/a\"\n")) reply.Failed
          ∷ call (at 1 32) false (r.Put 1 (codes "end\n")) reply.Failed
          ∷ [],
    )
unfolding rules
row_72 = refl

row_73 :
    replay (given [] [] false [] [] [] None 1000
    (codes "BEGIN { getline a < \"in/a\"; close(\"in/a\"); r = (getline b < \"in/a\"); print r }"))
    ((reply.Opened 3) ∷ (reply.Bytes (codes "1\n")) ∷ reply.Done ∷ reply.Failed ∷ reply.Done ∷ [])
    ≡ Some (
      (Status 0),
      4,
      call (at 1 9) false (r.Open mode.Read (codes "in/a")) (reply.Opened 3)
          ∷ call (at 1 9) false (r.Next 3) (reply.Bytes (codes "1\n"))
          ∷ call (at 1 29) false (r.Shut 3) reply.Done
          ∷ call (at 1 49) false (r.Open mode.Read (codes "in/a")) reply.Failed
          ∷ call (at 1 70) false (r.Put 1 (codes "-1\n")) reply.Done
          ∷ [],
    )
unfolding rules
row_73 = refl

row_74 :
    replay (given [] [] false [] [] [] None 1000 (codes "BEGIN { getline a < \"in/no\"; getline a < \"in/no\" }"))
    (reply.Failed ∷ reply.Failed ∷ [])
    ≡ Some (
      (Status 0),
      2,
      call (at 1 9) false (r.Open mode.Read (codes "in/no")) reply.Failed
          ∷ call (at 1 30) false (r.Open mode.Read (codes "in/no")) reply.Failed
          ∷ [],
    )
unfolding rules
row_74 = refl

row_75 :
    replay (given [] [] false [] [] [] None 1000 (codes "BEGIN { system(\"sort -r\"); system(\"sort -r\") }"))
    ((reply.Status (pos 0)) ∷ reply.Failed ∷ [])
    ≡ Some (
      (Status 0),
      2,
      call (at 1 9) false (r.System (codes "sort -r")) (reply.Status (pos 0))
          ∷ call (at 1 28) false (r.System (codes "sort -r")) reply.Failed
          ∷ [],
    )
unfolding rules
row_75 = refl
