-- Rows of the definition: one for each line of the moves that no other row meets; a wrong line is refused by it.
use Rattle.std.specs.Prelude.{◌≡◌, refl, ℕ, Bool, true, false, List, [], ◌∷◌, ◌++◌, pos, codes, Option, Some, None}
use Rattle.std.specs.List.{list_any}
use Rattle.std.specs.Str.{bytes_eq}
use Rattle.awk_text.specs.declared.place.Place.{Place}
use Rattle.awk_text.specs.declared.fault.Fault.TheVariants as f
use Rattle.awk_tree.specs.Tree.{Text}
use Rattle.box_world.specs.Calls.{Call}
use Rattle.box_world.specs.declared.ask.Mode.TheVariants as mode
use Rattle.box_world.specs.declared.ask.Request.{Request}
use Rattle.box_world.specs.declared.ask.Request.TheVariants as r
use Rattle.box_world.specs.declared.ask.Reply.{Reply}
use Rattle.box_world.specs.declared.ask.Reply.TheVariants as reply
use Rattle.awk_machine.specs.Pieces.{Outcome, Status, Faulted, Cut}
use Rattle.awk_machine.specs.State.{Given}
use Rattle.awk_numbers.specs.declared.number.Number.TheVariants as number
use Rattle.awk_numbers.specs.declared.number.Numbers.TheVariants.{Whole}
use Rattle.row_calls.proofs.Playing.{replayed}
use Rattle.row_calls.proofs.Scripts.{program_of, rules}

-- parameters that are arrays, names that may be assigned, whether ENVIRON is named, the setup, the bound, and the
-- script
abbrev given : List (Text × Text) → List Text → Bool → List Text → List Text → List (Text × Text) → Option Text → ℕ
    → Text → Given
given arrays names environ operands environment assigns separator bound source = record {
  program = program_of arrays source;
  numbers = Whole;
  seed = number.Whole (pos 0);
  can_assign = λ name. list_any (bytes_eq name) names;
  names_environ = environ;
  operands = operands;
  environment = environment;
  assigns = assigns;
  separator = separator;
  bound = bound;
}

abbrev at : ℕ → ℕ → Place
at line column = record { line = line; column = column }

abbrev call : Place → Bool → Request → Reply → Call
call place given request reply = (record { place = place; given = given; request = request }, reply)

abbrev replay : Given → List Reply → Option (Outcome × ℕ × List Call)
replay g rs = replayed 20000 g rs

-- ---- loops, and what leaves them

-- the body comes before the first test, and `continue` goes to the test
do_and_continue :
    replay (given [] [] false [] [] [] None 1000
    (codes "BEGIN { do { n++; if (n == 3) continue; print n } while (n % 3) }")) (reply.Done ∷ reply.Done ∷ [])
    ≡ Some (
      (Status 0),
      10,
      call (at 1 41) false (r.Put 1 (codes "1\n")) reply.Done ∷ call (at 1 41) false
          (r.Put 1 (codes "2\n")) reply.Done ∷ [],
    )
unfolding rules
do_and_continue = refl

break_in_inner_loops :
    replay (given [] [] false [] [] [] None 1000
    (codes "BEGIN { a[\"k\"]; for (i = 0; i < 2; i++) { while (1) break; for (k in a) break; print i } }"))
    (reply.Done ∷ reply.Done ∷ [])
    ≡ Some (
      (Status 0),
      12,
      call (at 1 80) false (r.Put 1 (codes "0\n")) reply.Done ∷ call (at 1 80) false
          (r.Put 1 (codes "1\n")) reply.Done ∷ [],
    )
unfolding rules
break_in_inner_loops = refl

return_in_a_loop_over_keys :
    replay (given [] [] false [] [] [] None 1000
    (codes "function f(k) { for (k in a) return k } BEGIN { a[\"p\"]; a[\"q\"]; print f() }")) (reply.Done ∷ [])
    ≡ Some ((Status 0), 6, call (at 1 65) false (r.Put 1 (codes "p\n")) reply.Done ∷ [])
unfolding rules
return_in_a_loop_over_keys = refl

return_without_a_value :
    replay (given [] [] false [] [] [] None 1000
    (codes "function f() { return } function g() { } BEGIN { print \"[\" f() g() \"]\" }")) (reply.Done ∷ [])
    ≡ Some ((Status 0), 4, call (at 1 50) false (r.Put 1 (codes "[]\n")) reply.Done ∷ [])
unfolding rules
return_without_a_value = refl

keys_are_texts :
    replay (given [] [] false [] [] [] None 1000 (codes "BEGIN { a[10]; for (k in a) print (k > 9) }"))
    (reply.Done ∷ [])
    ≡ Some ((Status 0), 3, call (at 1 29) false (r.Put 1 (codes "0\n")) reply.Done ∷ [])
unfolding rules
keys_are_texts = refl

-- ---- next and exit

next_leaves_all_calls :
    replay (given [] [] false [] [] [] None 1000 (codes "function f(n) { if (n) f(n - 1); else next } { f(100) }"))
    ((reply.Bytes (codes "a\nb\n")) ∷ reply.End ∷ [])
    ≡ Some (
      (Status 0),
      610,
      call (at 0 0) false (r.Next 0) (reply.Bytes (codes "a\nb\n")) ∷ call (at 0 0) false
          (r.Next 0) reply.End ∷ [],
    )
unfolding rules
next_leaves_all_calls = refl

exit_leaves_all_calls :
    replay (given [] [] false [] [] [] None 1000
    (codes "function f(n) { if (n) f(n - 1); else exit } BEGIN { f(100) } END { f(100) }")) []
    ≡ Some ((Status 0), 608, [])
unfolding rules
exit_leaves_all_calls = refl

depth_is_given_back :
    replay (given [] [] false [] [] [] None 1000 (codes "function f() { } BEGIN { while (n++ < 201) f() }")) []
    ≡ Some ((Status 0), 403, [])
unfolding rules
depth_is_given_back = refl

exit_in_a_rule :
    replay (given [] [] false [] [] [] None 1000 (codes "{ print; exit 4 } END { print \"e\" NR }"))
    ((reply.Bytes (codes "a\nb\n")) ∷ reply.Done ∷ reply.Done ∷ [])
    ≡ Some (
      (Status 4),
      4,
      call (at 0 0) false (r.Next 0) (reply.Bytes (codes "a\nb\n")) ∷ call (at 1 3) false
          (r.Put 1 (codes "a\n")) reply.Done ∷ call (at 1 25) false (r.Put 1 (codes "e1\n")) reply.Done ∷ [],
    )
unfolding rules
exit_in_a_rule = refl

last_exit_decides :
    replay (given [] [] false [] [] [] None 1000 (codes "BEGIN { exit 3 } END { exit 4 }")) []
    ≡ Some ((Status 4), 2, [])
unfolding rules
last_exit_decides = refl

-- ---- nextfile

nextfile_shuts_the_operands_file :
    replay (given [] [] false (codes "a" ∷ codes "b" ∷ []) [] [] None 1000
    (codes "FNR == 1 { print FILENAME; nextfile } { print \"no\" }"))
    ((reply.Opened 3) ∷ (reply.Bytes (codes "1\n2\n")) ∷ reply.Done ∷ reply.Done ∷ (reply.Opened 4) ∷
    (reply.Bytes (codes "3\n")) ∷ reply.Done ∷ reply.Done ∷ [])
    ≡ Some (
      (Status 0),
      8,
      call (at 0 0) true (r.Open mode.Read (codes "a")) (reply.Opened 3) ∷ call (at 0 0) false
          (r.Next 3) (reply.Bytes (codes "1\n2\n")) ∷ call (at 1 12) false (r.Put 1 (codes "a\n")) reply.Done ∷ call
          (at 0 0) false (r.Shut 3) reply.Done ∷ call (at 0 0) true (r.Open mode.Read (codes "b")) (reply.Opened 4) ∷ call
          (at 0 0) false (r.Next 4) (reply.Bytes (codes "3\n")) ∷ call (at 1 12) false (r.Put 1 (codes "b\n")) reply.Done
          ∷ call (at 0 0) false (r.Shut 4) reply.Done ∷ [],
    )
unfolding rules
nextfile_shuts_the_operands_file = refl

nextfile_leaves_the_standard_input_unread :
    replay (given [] [] false (codes "-" ∷ codes "-" ∷ []) [] [] None 1000 (codes "{ print; nextfile }"))
    ((reply.Bytes (codes "a\nb\nc\n")) ∷ reply.Done ∷ reply.Done ∷ [])
    ≡ Some (
      (Status 0),
      8,
      call (at 0 0) false (r.Next 0) (reply.Bytes (codes "a\nb\nc\n")) ∷ call (at 1 3) false
          (r.Put 1 (codes "a\n")) reply.Done ∷ call (at 1 3) false (r.Put 1 (codes "b\n")) reply.Done ∷ [],
    )
unfolding rules
nextfile_leaves_the_standard_input_unread = refl

nextfile_without_operands :
    replay (given [] [] false [] [] [] None 1000
    (codes "function f() { nextfile } { print; f(); print \"no\" } END { print NR }"))
    ((reply.Bytes (codes "a\nb\n")) ∷ reply.Done ∷ reply.Done ∷ [])
    ≡ Some (
      (Status 0),
      6,
      call (at 0 0) false (r.Next 0) (reply.Bytes (codes "a\nb\n")) ∷ call (at 1 29) false
          (r.Put 1 (codes "a\n")) reply.Done ∷ call (at 1 60) false (r.Put 1 (codes "1\n")) reply.Done ∷ [],
    )
unfolding rules
nextfile_without_operands = refl

nextfile_once_all_is_read :
    replay (given [] [] false [] [] [] None 1000 (codes "{ while (getline) n++; nextfile } END { print n }"))
    ((reply.Bytes (codes "a\nb\n")) ∷ reply.End ∷ reply.Done ∷ [])
    ≡ Some (
      (Status 0),
      5,
      call (at 0 0) false (r.Next 0) (reply.Bytes (codes "a\nb\n")) ∷ call (at 0 0) false
          (r.Next 0) reply.End ∷ call (at 1 41) false (r.Put 1 (codes "1\n")) reply.Done ∷ [],
    )
unfolding rules
nextfile_once_all_is_read = refl

nextfile_outside_the_rules :
    replay (given [] [] false [] [] [] None 1000 (codes "function f() { nextfile } BEGIN { f() }")) []
    ≡ Some ((Faulted f.NextOutside (at 1 16)), 3, [])
unfolding rules
nextfile_outside_the_rules = refl

-- ---- whole arrays

delete_of_an_array :
    replay (given (((codes ""), (codes "a")) ∷ []) [] false [] [] [] None 1000
    (codes "BEGIN { a[1]; a[2]; print length(a); delete a; print length(a) }")) (reply.Done ∷ reply.Done ∷ [])
    ≡ Some (
      (Status 0),
      5,
      call (at 1 21) false (r.Put 1 (codes "2\n")) reply.Done ∷ call (at 1 48) false
          (r.Put 1 (codes "0\n")) reply.Done ∷ [],
    )
unfolding rules
delete_of_an_array = refl

delete_in_a_loop_over_keys :
    replay (given (((codes ""), (codes "a")) ∷ []) [] false [] [] [] None 1000
    (codes "BEGIN { a[1]; a[2]; for (k in a) { delete a; n = n k } print n, length(a) }")) (reply.Done ∷ [])
    ≡ Some ((Status 0), 8, call (at 1 56) false (r.Put 1 (codes "12 0\n")) reply.Done ∷ [])
unfolding rules
delete_in_a_loop_over_keys = refl

length_of_a_parameter :
    replay (given (((codes "f"), (codes "p")) ∷ []) [] false [] [] [] None 1000
    (codes "function f(p) { return length(p) } BEGIN { x[\"k\"]; print f(x) }")) (reply.Done ∷ [])
    ≡ Some ((Status 0), 4, call (at 1 52) false (r.Put 1 (codes "1\n")) reply.Done ∷ [])
unfolding rules
length_of_a_parameter = refl

-- ---- fflush

fflush_of_a_file :
    replay (given [] [] false [] [] [] None 1000
    (codes "BEGIN { print \"a\" > \"f\"; print fflush(\"f\"), fflush(\"g\"), fflush() }"))
    ((reply.Opened 3) ∷ reply.Done ∷ reply.Done ∷ reply.Done ∷ [])
    ≡ Some (
      (Status 0),
      2,
      call (at 1 19) false (r.Open mode.Write (codes "f")) (reply.Opened 3) ∷ call (at 1 19) false
          (r.Put 3 (codes "a\n")) reply.Done ∷ call (at 1 26) false (r.Put 1 (codes "0 -1 0\n")) reply.Done ∷ call
          (at 0 0) false (r.Shut 3) reply.Done ∷ [],
    )
unfolding rules
fflush_of_a_file = refl

fflush_of_a_command :
    replay (given [] [] false [] [] [] None 1000
    (codes "BEGIN { \"c\" | getline; print fflush(\"c\"); print \"a\" | \"c\"; print fflush(\"c\") }"))
    ((reply.Opened 3) ∷ (reply.Bytes (codes "x\n")) ∷ reply.Done ∷ (reply.Opened 4) ∷ reply.Done ∷ reply.Done ∷
    reply.Done ∷ reply.Done ∷ [])
    ≡ Some (
      (Status 0),
      4,
      call (at 1 15) false (r.Open mode.RunIn (codes "c")) (reply.Opened 3) ∷ call (at 1 15) false
          (r.Next 3) (reply.Bytes (codes "x\n")) ∷ call (at 1 24) false (r.Put 1 (codes "-1\n")) reply.Done ∷ call
          (at 1 53) false (r.Open mode.RunOut (codes "c")) (reply.Opened 4) ∷ call (at 1 53) false (r.Put 4 (codes "a\n"))
          reply.Done ∷ call (at 1 60) false (r.Put 1 (codes "0\n")) reply.Done ∷ call (at 0 0) false (r.Shut 3) reply.Done
          ∷ call (at 0 0) false (r.Shut 4) reply.Done ∷ [],
    )
unfolding rules
fflush_of_a_command = refl

-- ---- what is evaluated first

subscripts_before_the_right_side :
    replay (given [] [] false [] [] [] None 1000 (codes "BEGIN { a[system(\"p\"), system(\"q\")] = system(\"r\") }"))
    ((reply.Status (pos 1)) ∷ (reply.Status (pos 2)) ∷ (reply.Status (pos 3)) ∷ [])
    ≡ Some (
      (Status 0),
      1,
      call (at 1 11) false (r.System (codes "p")) (reply.Status (pos 1)) ∷ call (at 1 24) false
          (r.System (codes "q")) (reply.Status (pos 2)) ∷ call (at 1 39) false (r.System (codes "r"))
          (reply.Status (pos 3)) ∷ [],
    )
unfolding rules
subscripts_before_the_right_side = refl

target_before_the_right_side_of_a_change :
    replay (given [] [] false [] [] [] None 1000 (codes "BEGIN { a[system(\"p\")] += system(\"q\"); print a[1] }"))
    ((reply.Status (pos 1)) ∷ (reply.Status (pos 2)) ∷ reply.Done ∷ [])
    ≡ Some (
      (Status 0),
      2,
      call (at 1 11) false (r.System (codes "p")) (reply.Status (pos 1)) ∷ call (at 1 27) false
          (r.System (codes "q")) (reply.Status (pos 2)) ∷ call (at 1 40) false (r.Put 1 (codes "2\n")) reply.Done ∷ [],
    )
unfolding rules
target_before_the_right_side_of_a_change = refl

subscripts_in_order :
    replay (given [] [] false [] [] [] None 1000
    (codes "BEGIN { print ((system(\"p\"), system(\"q\")) in a); delete a[system(\"r\"), system(\"s\")] }"))
    ((reply.Status (pos 1)) ∷ (reply.Status (pos 2)) ∷ reply.Done ∷ (reply.Status (pos 3)) ∷ (reply.Status (pos 4))
    ∷ [])
    ≡ Some (
      (Status 0),
      2,
      call (at 1 17) false (r.System (codes "p")) (reply.Status (pos 1)) ∷ call (at 1 30) false
          (r.System (codes "q")) (reply.Status (pos 2)) ∷ call (at 1 9) false (r.Put 1 (codes "0\n")) reply.Done ∷ call
          (at 1 59) false (r.System (codes "r")) (reply.Status (pos 3)) ∷ call (at 1 72) false (r.System (codes "s"))
          (reply.Status (pos 4)) ∷ [],
    )
unfolding rules
subscripts_in_order = refl

operands_in_order :
    replay (given [] [] false [] [] [] None 1000
    (codes
    "BEGIN { print system(\"p\") - system(\"q\"), system(\"r\") system(\"s\"), (system(\"t\") < system(\"u\")), (system(\"v\") ~ system(\"w\")) }"))
    ((reply.Status (pos 5)) ∷ (reply.Status (pos 3)) ∷ (reply.Status (pos 1)) ∷ (reply.Status (pos 2)) ∷
    (reply.Status (pos 0)) ∷ (reply.Status (pos 1)) ∷ (reply.Status (pos 7)) ∷ (reply.Status (pos 7)) ∷ reply.Done ∷
    [])
    ≡ Some (
      (Status 0),
      1,
      call (at 1 15) false (r.System (codes "p")) (reply.Status (pos 5)) ∷ call (at 1 29) false
          (r.System (codes "q")) (reply.Status (pos 3)) ∷ call (at 1 42) false (r.System (codes "r"))
          (reply.Status (pos 1)) ∷ call (at 1 54) false (r.System (codes "s")) (reply.Status (pos 2)) ∷ call
          (at 1 68) false (r.System (codes "t")) (reply.Status (pos 0)) ∷ call (at 1 82) false (r.System (codes "u"))
          (reply.Status (pos 1)) ∷ call (at 1 97) false (r.System (codes "v")) (reply.Status (pos 7)) ∷ call
          (at 1 111) false (r.System (codes "w")) (reply.Status (pos 7)) ∷ call (at 1 9) false
          (r.Put 1 (codes "2 12 1 1\n")) reply.Done ∷ [],
    )
unfolding rules
operands_in_order = refl

a_sum_before_the_next_term :
    replay (given [] [] false [] [] [] None 1000 (codes "BEGIN { print 9223372036854775807 + 1 + system(\"p\") }")) []
    ≡ Some ((Faulted f.OutOfRange (at 1 35)), 1, [])
unfolding rules
a_sum_before_the_next_term = refl

arguments_of_built_ins_in_order :
    replay (given [] [] false [] [] [] None 1000
    (codes
    "BEGIN { print index(system(\"p\"), system(\"q\")), substr(system(\"r\"), system(\"s\"), system(\"t\")), substr(system(\"u\"), system(\"v\")), match(system(\"w\"), system(\"x\")) }"))
    ((reply.Status (pos 12)) ∷ (reply.Status (pos 2)) ∷ (reply.Status (pos 123)) ∷ (reply.Status (pos 2)) ∷
    (reply.Status (pos 1)) ∷ (reply.Status (pos 123)) ∷ (reply.Status (pos 3)) ∷ (reply.Status (pos 45)) ∷
    (reply.Status (pos 5)) ∷ reply.Done ∷ [])
    ≡ Some (
      (Status 0),
      1,
      call (at 1 21) false (r.System (codes "p")) (reply.Status (pos 12)) ∷ call (at 1 34) false
          (r.System (codes "q")) (reply.Status (pos 2)) ∷ call (at 1 55) false (r.System (codes "r"))
          (reply.Status (pos 123)) ∷ call (at 1 68) false (r.System (codes "s")) (reply.Status (pos 2)) ∷ call
          (at 1 81) false (r.System (codes "t")) (reply.Status (pos 1)) ∷ call (at 1 102) false (r.System (codes "u"))
          (reply.Status (pos 123)) ∷ call (at 1 115) false (r.System (codes "v")) (reply.Status (pos 3)) ∷ call
          (at 1 135) false (r.System (codes "w")) (reply.Status (pos 45)) ∷ call (at 1 148) false (r.System (codes "x"))
          (reply.Status (pos 5)) ∷ call (at 1 9) false (r.Put 1 (codes "2 2 3 2\n")) reply.Done ∷ [],
    )
unfolding rules
arguments_of_built_ins_in_order = refl

arguments_of_split_and_sub_in_order :
    replay (given [] [] false [] [] [] None 1000
    (codes
    "BEGIN { split(system(\"p\"), a, system(\"q\")); sub(system(\"r\"), system(\"s\"), a[system(\"t\")]); print a[1] }"))
    ((reply.Status (pos 132)) ∷ (reply.Status (pos 3)) ∷ (reply.Status (pos 1)) ∷ (reply.Status (pos 7)) ∷
    (reply.Status (pos 1)) ∷ reply.Done ∷ [])
    ≡ Some (
      (Status 0),
      3,
      call (at 1 15) false (r.System (codes "p")) (reply.Status (pos 132)) ∷ call (at 1 31) false
          (r.System (codes "q")) (reply.Status (pos 3)) ∷ call (at 1 49) false (r.System (codes "r"))
          (reply.Status (pos 1)) ∷ call (at 1 62) false (r.System (codes "s")) (reply.Status (pos 7)) ∷ call
          (at 1 77) false (r.System (codes "t")) (reply.Status (pos 1)) ∷ call (at 1 92) false (r.Put 1 (codes "7\n"))
          reply.Done ∷ [],
    )
unfolding rules
arguments_of_split_and_sub_in_order = refl

formats_before_their_values :
    replay (given [] [] false [] [] [] None 1000
    (codes
    "BEGIN { printf system(\"p\") \"%d\\n\", system(\"q\"); print sprintf(system(\"r\") \"%d\", system(\"s\")) }"))
    ((reply.Status (pos 1)) ∷ (reply.Status (pos 2)) ∷ reply.Done ∷ (reply.Status (pos 3)) ∷ (reply.Status (pos 4))
    ∷ reply.Done ∷ [])
    ≡ Some (
      (Status 0),
      2,
      call (at 1 16) false (r.System (codes "p")) (reply.Status (pos 1)) ∷ call (at 1 36) false
          (r.System (codes "q")) (reply.Status (pos 2)) ∷ call (at 1 9) false (r.Put 1 (codes "12\n")) reply.Done ∷ call
          (at 1 63) false (r.System (codes "r")) (reply.Status (pos 3)) ∷ call (at 1 81) false (r.System (codes "s"))
          (reply.Status (pos 4)) ∷ call (at 1 49) false (r.Put 1 (codes "34\n")) reply.Done ∷ [],
    )
unfolding rules
formats_before_their_values = refl

only_as_far_as_needed :
    replay (given [] [] false [] [] [] None 1000
    (codes "BEGIN { print (1 || system(\"p\")), (0 && system(\"q\")), (0 || 2), (1 && \"x\") }")) (reply.Done ∷ [])
    ≡ Some ((Status 0), 1, call (at 1 9) false (r.Put 1 (codes "1 0 1 1\n")) reply.Done ∷ [])
unfolding rules
only_as_far_as_needed = refl

targets_of_getline_in_order :
    replay (given [] [] false [] [] [] None 1000
    (codes
    "BEGIN { getline a[system(\"p\")] < system(\"q\"); system(\"r\") | getline a[system(\"s\")]; getline a[system(\"t\")] }"))
    ((reply.Status (pos 1)) ∷ (reply.Status (pos 2)) ∷ (reply.Opened 3) ∷ (reply.Bytes (codes "x\n")) ∷
    (reply.Status (pos 3)) ∷ (reply.Status (pos 4)) ∷ (reply.Opened 4) ∷ (reply.Bytes (codes "y\n")) ∷
    (reply.Status (pos 5)) ∷ (reply.Bytes (codes "z\n")) ∷ reply.Done ∷ (reply.Status (pos 0)) ∷ [])
    ≡ Some (
      (Status 0),
      3,
      call (at 1 19) false (r.System (codes "p")) (reply.Status (pos 1)) ∷ call (at 1 34) false
          (r.System (codes "q")) (reply.Status (pos 2)) ∷ call (at 1 9) false (r.Open mode.Read (codes "2"))
          (reply.Opened 3) ∷ call (at 1 9) false (r.Next 3) (reply.Bytes (codes "x\n")) ∷ call (at 1 47) false
          (r.System (codes "r")) (reply.Status (pos 3)) ∷ call (at 1 71) false (r.System (codes "s"))
          (reply.Status (pos 4)) ∷ call (at 1 61) false (r.Open mode.RunIn (codes "3")) (reply.Opened 4) ∷ call
          (at 1 61) false (r.Next 4) (reply.Bytes (codes "y\n")) ∷ call (at 1 95) false (r.System (codes "t"))
          (reply.Status (pos 5)) ∷ call (at 0 0) false (r.Next 0) (reply.Bytes (codes "z\n")) ∷ call (at 0 0) false
          (r.Shut 3) reply.Done ∷ call (at 0 0) false (r.Shut 4) (reply.Status (pos 0)) ∷ [],
    )
unfolding rules
targets_of_getline_in_order = refl

-- ---- what is unset, and what looks numeric

in_makes_no_element :
    replay (given [] [] false [] [] [] None 1000
    (codes "BEGIN { print (\"k\" in a); for (k in a) print k; print (a[\"k\"] == 0), (a[\"k\"] == \"\") }"))
    (reply.Done ∷ reply.Done ∷ [])
    ≡ Some (
      (Status 0),
      3,
      call (at 1 9) false (r.Put 1 (codes "0\n")) reply.Done ∷ call (at 1 49) false
          (r.Put 1 (codes "1 1\n")) reply.Done ∷ [],
    )
unfolding rules
in_makes_no_element = refl

a_parameter_is_unset :
    replay (given [] [] false [] [] [] None 1000
    (codes "function f(p) { return (p == 0) (p == \"\") } BEGIN { print f() }")) (reply.Done ∷ [])
    ≡ Some ((Status 0), 3, call (at 1 53) false (r.Put 1 (codes "11\n")) reply.Done ∷ [])
unfolding rules
a_parameter_is_unset = refl

input_that_looks_numeric :
    replay (given [] [] false [] [] [] None 1000
    (codes "{ split($0, a); getline v; print ($0 == 7), (a[1] == 7), (v == 8), (\"07\" == 7), (0 7 == 7) }"))
    ((reply.Bytes (codes "07\n08\n")) ∷ reply.Done ∷ reply.End ∷ [])
    ≡ Some (
      (Status 0),
      4,
      call (at 0 0) false (r.Next 0) (reply.Bytes (codes "07\n08\n")) ∷ call (at 1 28) false
          (r.Put 1 (codes "1 1 1 0 0\n")) reply.Done ∷ call (at 0 0) false (r.Next 0) reply.End ∷ [],
    )
unfolding rules
input_that_looks_numeric = refl

what_the_host_gives_looks_numeric :
    replay (given [] ((codes "v") ∷ (codes "w") ∷ []) true ((codes "01") ∷ (codes "w=04") ∷ []) ((codes "E") ∷ [])
    (((codes "v"), (codes "03")) ∷ []) None 1000
    (codes
    "BEGIN { print (ARGV[1] == 1), (ENVIRON[\"E\"] == 2), (v == 3) } { print (FILENAME == 1) } END { print (w == 4) }"))
    ((reply.Value (codes "02")) ∷ reply.Done ∷ (reply.Opened 3) ∷ (reply.Bytes (codes "x\n")) ∷ reply.Done ∷
    reply.End ∷ reply.Done ∷ reply.Done ∷ reply.Done ∷ [])
    ≡ Some (
      (Status 0),
      6,
      call (at 0 0) false (r.Env (codes "E")) (reply.Value (codes "02")) ∷ call (at 1 9) false
          (r.Put 1 (codes "1 1 1\n")) reply.Done ∷ call (at 0 0) true (r.Open mode.Read (codes "01")) (reply.Opened 3) ∷
          call (at 0 0) false (r.Next 3) (reply.Bytes (codes "x\n")) ∷ call (at 1 65) false (r.Put 1 (codes "1\n"))
          reply.Done ∷ call (at 0 0) false (r.Next 3) reply.End ∷ call (at 0 0) false (r.Shut 3) reply.Done ∷ call
          (at 0 0) true (r.Assign (codes "w") (codes "04")) reply.Done ∷ call (at 1 95) false (r.Put 1 (codes "1\n"))
          reply.Done ∷ [],
    )
unfolding rules
what_the_host_gives_looks_numeric = refl

what_sub_makes_is_a_text :
    replay (given [] [] false [] [] [] None 1000 (codes "{ sub(/x/, \"\", $1); print ($1 == 7), int($1) }"))
    ((reply.Bytes (codes "0x7\n")) ∷ reply.Done ∷ reply.End ∷ [])
    ≡ Some (
      (Status 0),
      3,
      call (at 0 0) false (r.Next 0) (reply.Bytes (codes "0x7\n")) ∷ call (at 1 21) false
          (r.Put 1 (codes "0 7\n")) reply.Done ∷ call (at 0 0) false (r.Next 0) reply.End ∷ [],
    )
unfolding rules
what_sub_makes_is_a_text = refl

-- ---- records and fields

records_are_built_with_ofs :
    replay (given [] [] false [] [] [] None 1000
    (codes
    "BEGIN { OFS = \"-\"; ORS = \"!\" } { $1 = $1; print; NF = 2; print $0, NF; $(NF + 2) = \"z\"; print; print NF }"))
    ((reply.Bytes (codes "a b c\n")) ∷ reply.Done ∷ reply.Done ∷ reply.Done ∷ reply.Done ∷ reply.End ∷ [])
    ≡ Some (
      (Status 0),
      10,
      call (at 0 0) false (r.Next 0) (reply.Bytes (codes "a b c\n")) ∷ call (at 1 43) false
          (r.Put 1 (codes "a-b-c!")) reply.Done ∷ call (at 1 58) false (r.Put 1 (codes "a-b-2!")) reply.Done ∷ call
          (at 1 89) false (r.Put 1 (codes "a-b--z!")) reply.Done ∷ call (at 1 96) false (r.Put 1 (codes "4!")) reply.Done
          ∷ call (at 0 0) false (r.Next 0) reply.End ∷ [],
    )
unfolding rules
records_are_built_with_ofs = refl

what_getline_sets :
    replay (given [] [] false [] [] [] None 1000
    (codes
    "NR == 1 { getline; print NR, FNR, $0, NF; getline x; print NR, FNR, $0, x; getline < \"f\"; print NR, FNR, $0; \"c\" | getline; print NR, FNR, $0 }"))
    ((reply.Bytes (codes "a\nb b\nc\n")) ∷ reply.Done ∷ reply.Done ∷ (reply.Opened 3) ∷ (reply.Bytes (codes "d\n"))
    ∷ reply.Done ∷ (reply.Opened 4) ∷ (reply.Bytes (codes "e\n")) ∷ reply.Done ∷ reply.End ∷ reply.Done ∷
    (reply.Status (pos 0)) ∷ [])
    ≡ Some (
      (Status 0),
      9,
      call (at 0 0) false (r.Next 0) (reply.Bytes (codes "a\nb b\nc\n")) ∷ call (at 1 20) false
          (r.Put 1 (codes "2 2 b b 2\n")) reply.Done ∷ call (at 1 54) false (r.Put 1 (codes "3 3 b b c\n")) reply.Done ∷
          call (at 1 76) false (r.Open mode.Read (codes "f")) (reply.Opened 3) ∷ call (at 1 76) false (r.Next 3)
          (reply.Bytes (codes "d\n")) ∷ call (at 1 91) false (r.Put 1 (codes "3 3 d\n")) reply.Done ∷ call
          (at 1 116) false (r.Open mode.RunIn (codes "c")) (reply.Opened 4) ∷ call (at 1 116) false (r.Next 4)
          (reply.Bytes (codes "e\n")) ∷ call (at 1 125) false (r.Put 1 (codes "4 3 e\n")) reply.Done ∷ call (at 0 0) false
          (r.Next 0) reply.End ∷ call (at 0 0) false (r.Shut 3) reply.Done ∷ call (at 0 0) false (r.Shut 4)
          (reply.Status (pos 0)) ∷ [],
    )
unfolding rules
what_getline_sets = refl

getline_at_the_end :
    replay (given [] [] false [] [] [] None 1000 (codes "BEGIN { x = 5; print (getline), (getline x), x, NR }"))
    (reply.End ∷ reply.Done ∷ [])
    ≡ Some (
      (Status 0),
      2,
      call (at 0 0) false (r.Next 0) reply.End ∷ call (at 1 16) false (r.Put 1 (codes "0 0 5 0\n"))
          reply.Done ∷ [],
    )
unfolding rules
getline_at_the_end = refl

end_keeps_the_record :
    replay (given [] [] false [] [] [] None 1000 (codes "END { print $0, NF }"))
    ((reply.Bytes (codes "a b\n")) ∷ reply.End ∷ reply.Done ∷ [])
    ≡ Some (
      (Status 0),
      2,
      call (at 0 0) false (r.Next 0) (reply.Bytes (codes "a b\n")) ∷ call (at 0 0) false
          (r.Next 0) reply.End ∷ call (at 1 7) false (r.Put 1 (codes "a b 2\n")) reply.Done ∷ [],
    )
unfolding rules
end_keeps_the_record = refl

-- the first range ends in the record that begins it
ranges_apart :
    replay (given [] [] false [] [] [] None 1000 (codes "/a/, /b/ { print \"1\" $0 } /c/, /d/ { print \"2\" $0 }"))
    ((reply.Bytes (codes "ab\nc\nx\nd\n")) ∷ reply.Done ∷ reply.Done ∷ reply.Done ∷ reply.Done ∷ reply.End ∷ [])
    ≡ Some (
      (Status 0),
      8,
      call (at 0 0) false (r.Next 0) (reply.Bytes (codes "ab\nc\nx\nd\n")) ∷ call (at 1 12) false
          (r.Put 1 (codes "1ab\n")) reply.Done ∷ call (at 1 38) false (r.Put 1 (codes "2c\n")) reply.Done ∷ call
          (at 1 38) false (r.Put 1 (codes "2x\n")) reply.Done ∷ call (at 1 38) false (r.Put 1 (codes "2d\n")) reply.Done ∷
          call (at 0 0) false (r.Next 0) reply.End ∷ [],
    )
unfolding rules
ranges_apart = refl

actions_in_order :
    replay (given [] [] false [] [] [] None 1000
    (codes "BEGIN { print 1 } END { print 3 } BEGIN { print 2 } END { print 4 }"))
    (reply.Done ∷ reply.Done ∷ reply.End ∷ reply.Done ∷ reply.Done ∷ [])
    ≡ Some (
      (Status 0),
      4,
      call (at 1 9) false (r.Put 1 (codes "1\n")) reply.Done ∷ call (at 1 43) false
          (r.Put 1 (codes "2\n")) reply.Done ∷ call (at 0 0) false (r.Next 0) reply.End ∷ call (at 1 25) false
          (r.Put 1 (codes "3\n")) reply.Done ∷ call (at 1 59) false (r.Put 1 (codes "4\n")) reply.Done ∷ [],
    )
unfolding rules
actions_in_order = refl

-- ---- streams

a_file_twice :
    replay (given [] [] false ((codes "f") ∷ (codes "f") ∷ []) [] [] None 1000 (codes "{ print NR, FNR }"))
    ((reply.Opened 3) ∷ (reply.Bytes (codes "a\n")) ∷ reply.Done ∷ reply.End ∷ reply.Done ∷ (reply.Opened 4) ∷
    (reply.Bytes (codes "b\n")) ∷ reply.Done ∷ reply.End ∷ reply.Done ∷ [])
    ≡ Some (
      (Status 0),
      6,
      call (at 0 0) true (r.Open mode.Read (codes "f")) (reply.Opened 3) ∷ call (at 0 0) false
          (r.Next 3) (reply.Bytes (codes "a\n")) ∷ call (at 1 3) false (r.Put 1 (codes "1 1\n")) reply.Done ∷ call
          (at 0 0) false (r.Next 3) reply.End ∷ call (at 0 0) false (r.Shut 3) reply.Done ∷ call (at 0 0) true
          (r.Open mode.Read (codes "f")) (reply.Opened 4) ∷ call (at 0 0) false (r.Next 4) (reply.Bytes (codes "b\n")) ∷
          call (at 1 3) false (r.Put 1 (codes "2 1\n")) reply.Done ∷ call (at 0 0) false (r.Next 4) reply.End ∷ call
          (at 0 0) false (r.Shut 4) reply.Done ∷ [],
    )
unfolding rules
a_file_twice = refl

close_gives_a_later_status :
    replay (given [] [] false [] [] [] None 1000
    (codes "BEGIN { print \"x\" | \"c\"; \"c\" | getline; print close(\"c\") }"))
    ((reply.Opened 3) ∷ reply.Done ∷ (reply.Opened 4) ∷ (reply.Bytes (codes "y\n")) ∷ (reply.Status (pos 0)) ∷
    (reply.Status (pos 4)) ∷ reply.Done ∷ [])
    ≡ Some (
      (Status 0),
      3,
      call (at 1 19) false (r.Open mode.RunOut (codes "c")) (reply.Opened 3) ∷ call (at 1 19) false
          (r.Put 3 (codes "x\n")) reply.Done ∷ call (at 1 32) false (r.Open mode.RunIn (codes "c")) (reply.Opened 4) ∷
          call (at 1 32) false (r.Next 4) (reply.Bytes (codes "y\n")) ∷ call (at 1 47) false (r.Shut 3)
          (reply.Status (pos 0)) ∷ call (at 1 47) false (r.Shut 4) (reply.Status (pos 4)) ∷ call (at 1 41) false
          (r.Put 1 (codes "4\n")) reply.Done ∷ [],
    )
unfolding rules
close_gives_a_later_status = refl

close_that_fails :
    replay (given [] [] false [] [] [] None 1000
    (codes "BEGIN { getline < \"f\"; print close(\"f\"); print close(\"f\") }"))
    ((reply.Opened 3) ∷ (reply.Bytes (codes "a\n")) ∷ reply.Failed ∷ reply.Done ∷ reply.Done ∷ [])
    ≡ Some (
      (Status 0),
      3,
      call (at 1 9) false (r.Open mode.Read (codes "f")) (reply.Opened 3) ∷ call (at 1 9) false
          (r.Next 3) (reply.Bytes (codes "a\n")) ∷ call (at 1 30) false (r.Shut 3) reply.Failed ∷ call (at 1 24) false
          (r.Put 1 (codes "-1\n")) reply.Done ∷ call (at 1 42) false (r.Put 1 (codes "-1\n")) reply.Done ∷ [],
    )
unfolding rules
close_that_fails = refl

close_leaves_operands :
    replay (given [] [] false ((codes "f") ∷ []) [] [] None 1000 (codes "{ print close(FILENAME) }"))
    ((reply.Opened 3) ∷ (reply.Bytes (codes "a\n")) ∷ reply.Done ∷ reply.End ∷ reply.Done ∷ [])
    ≡ Some (
      (Status 0),
      3,
      call (at 0 0) true (r.Open mode.Read (codes "f")) (reply.Opened 3) ∷ call (at 0 0) false
          (r.Next 3) (reply.Bytes (codes "a\n")) ∷ call (at 1 3) false (r.Put 1 (codes "-1\n")) reply.Done ∷ call
          (at 0 0) false (r.Next 3) reply.End ∷ call (at 0 0) false (r.Shut 3) reply.Done ∷ [],
    )
unfolding rules
close_leaves_operands = refl

a_file_and_a_command :
    replay (given [] [] false [] [] [] None 1000 (codes "BEGIN { print \"a\" > \"c\"; print \"b\" | \"c\" }"))
    ((reply.Opened 3) ∷ reply.Done ∷ (reply.Opened 4) ∷ reply.Done ∷ reply.Done ∷ (reply.Status (pos 0)) ∷ [])
    ≡ Some (
      (Status 0),
      2,
      call (at 1 19) false (r.Open mode.Write (codes "c")) (reply.Opened 3) ∷ call (at 1 19) false
          (r.Put 3 (codes "a\n")) reply.Done ∷ call (at 1 36) false (r.Open mode.RunOut (codes "c")) (reply.Opened 4) ∷
          call (at 1 36) false (r.Put 4 (codes "b\n")) reply.Done ∷ call (at 0 0) false (r.Shut 3) reply.Done ∷ call
          (at 0 0) false (r.Shut 4) (reply.Status (pos 0)) ∷ [],
    )
unfolding rules
a_file_and_a_command = refl

shut_where_it_is_cut :
    replay (given [] [] false [] [] [] None 2 (codes "BEGIN { getline < \"f\"; while (1) { } }"))
    ((reply.Opened 3) ∷ (reply.Bytes (codes "a\n")) ∷ reply.Done ∷ [])
    ≡ Some (
      Cut,
      2,
      call (at 1 9) false (r.Open mode.Read (codes "f")) (reply.Opened 3) ∷ call (at 1 9) false (r.Next 3)
          (reply.Bytes (codes "a\n")) ∷ call (at 0 0) false (r.Shut 3) reply.Done ∷ [],
    )
unfolding rules
shut_where_it_is_cut = refl

-- ---- how a run begins, and its operands

first_values :
    replay (given [] [] false [] [] [] None 1000
    (codes "BEGIN { print NR FNR NF RSTART RLENGTH \"[\" FS OFS SUBSEP RS ORS FILENAME \"]\" CONVFMT OFMT }"))
    (reply.Done ∷ [])
    ≡ Some (
      (Status 0),
      1,
      call (at 1 9) false (r.Put 1 (codes "0000-1[  " ++ 28 ∷ codes "\n\n]%.6g%.6g\n")) reply.Done
          ∷ [],
    )
unfolding rules
first_values = refl

operands_in_argv :
    replay (given [] [] false ((codes "x") ∷ (codes "y") ∷ []) [] [] None 1000
    (codes "BEGIN { for (i = 0; i < ARGC; i++) print ARGV[i] }")) (reply.Done ∷ reply.Done ∷ reply.Done ∷ [])
    ≡ Some (
      (Status 0),
      4,
      call (at 1 36) false (r.Put 1 (codes "awk\n")) reply.Done ∷ call (at 1 36) false
          (r.Put 1 (codes "x\n")) reply.Done ∷ call (at 1 36) false (r.Put 1 (codes "y\n")) reply.Done ∷ [],
    )
unfolding rules
operands_in_argv = refl

environment_not_named :
    replay (given [] [] false [] ((codes "A") ∷ []) [] None 1000 (codes "BEGIN { }")) []
    ≡ Some ((Status 0), 0, [])
unfolding rules
environment_not_named = refl

assignments_after_the_separator :
    replay (given [] ((codes "FS") ∷ []) false [] [] (((codes "FS"), (codes ":")) ∷ []) (Some (codes ";")) 1000
    (codes "BEGIN { print FS }")) (reply.Done ∷ [])
    ≡ Some ((Status 0), 1, call (at 1 9) false (r.Put 1 (codes ":\n")) reply.Done ∷ [])
unfolding rules
assignments_after_the_separator = refl

escapes_of_the_host :
    replay (given [] ((codes "v") ∷ (codes "w") ∷ []) false ((codes "w=r\\ts") ∷ []) []
    (((codes "v"), (codes "p\\nq")) ∷ []) (Some (codes "\\t")) 1000
    (codes "BEGIN { print v length(FS) } { print $2, w }"))
    (reply.Done ∷ reply.Done ∷ (reply.Bytes (codes "a b\tc\n")) ∷ reply.Done ∷ reply.End ∷ [])
    ≡ Some (
      (Status 0),
      4,
      call (at 1 9) false (r.Put 1 (codes "p\nq1\n")) reply.Done ∷ call (at 0 0) true
          (r.Assign (codes "w") (codes "r\\ts")) reply.Done ∷ call (at 0 0) false (r.Next 0)
          (reply.Bytes (codes "a b\tc\n")) ∷ call (at 1 32) false (r.Put 1 (codes "c r\ts\n")) reply.Done ∷ call
          (at 0 0) false (r.Next 0) reply.End ∷ [],
    )
unfolding rules
escapes_of_the_host = refl

operands_passed_over :
    replay (given [] [] false ([] ∷ (codes "f") ∷ (codes "g") ∷ []) [] [] None 1000
    (codes "BEGIN { delete ARGV[3] } { print FILENAME }"))
    ((reply.Opened 3) ∷ (reply.Bytes (codes "a\n")) ∷ reply.Done ∷ reply.End ∷ reply.Done ∷ [])
    ≡ Some (
      (Status 0),
      6,
      call (at 0 0) true (r.Open mode.Read (codes "f")) (reply.Opened 3) ∷ call (at 0 0) false
          (r.Next 3) (reply.Bytes (codes "a\n")) ∷ call (at 1 28) false (r.Put 1 (codes "f\n")) reply.Done ∷ call
          (at 0 0) false (r.Next 3) reply.End ∷ call (at 0 0) false (r.Shut 3) reply.Done ∷ [],
    )
unfolding rules
operands_passed_over = refl

quoted_in_a_message :
    replay (given [] [] false ((codes "a\"b") ∷ []) [] [] None 1000 (codes "END { }")) (reply.Failed ∷ reply.Done ∷ [])
    ≡ Some (
      (Status 2),
      1,
      call (at 0 0) true (r.Open mode.Read (codes "a\"b")) reply.Failed ∷ call (at 0 0) false
          (r.Put 2 (codes "awkbox: cannot open \"a\\x22b\"\n")) reply.Done ∷ [],
    )
unfolding rules
quoted_in_a_message = refl

-- ---- built-in functions

sub_replaces_once :
    replay (given [] [] false [] [] [] None 1000 (codes "BEGIN { s = \"aa\"; print sub(/a/, \"b\", s) s }"))
    (reply.Done ∷ [])
    ≡ Some ((Status 0), 2, call (at 1 19) false (r.Put 1 (codes "1ba\n")) reply.Done ∷ [])
unfolding rules
sub_replaces_once = refl

-- nothing is set, so the blanks stay
sub_that_finds_nothing :
    replay (given [] [] false [] [] [] None 1000 (codes "{ print sub(/x/, \"y\", $1), $0 }"))
    ((reply.Bytes (codes "a  b\n")) ∷ reply.Done ∷ reply.End ∷ [])
    ≡ Some (
      (Status 0),
      2,
      call (at 0 0) false (r.Next 0) (reply.Bytes (codes "a  b\n")) ∷ call (at 1 3) false
          (r.Put 1 (codes "0 a  b\n")) reply.Done ∷ call (at 0 0) false (r.Next 0) reply.End ∷ [],
    )
unfolding rules
sub_that_finds_nothing = refl

split_clears :
    replay (given [] [] false [] [] [] None 1000
    (codes "BEGIN { a[\"k\"]; split(\"p q\", a); for (k in a) print k, a[k] }")) (reply.Done ∷ reply.Done ∷ [])
    ≡ Some (
      (Status 0),
      5,
      call (at 1 47) false (r.Put 1 (codes "1 p\n")) reply.Done ∷ call (at 1 47) false
          (r.Put 1 (codes "2 q\n")) reply.Done ∷ [],
    )
unfolding rules
split_clears = refl

match_that_finds_nothing :
    replay (given [] [] false [] [] [] None 1000
    (codes "BEGIN { match(\"xa\", /a/); print match(\"b\", /a/), RSTART, RLENGTH }")) (reply.Done ∷ [])
    ≡ Some ((Status 0), 2, call (at 1 27) false (r.Put 1 (codes "0 0 -1\n")) reply.Done ∷ [])
unfolding rules
match_that_finds_nothing = refl

-- ---- places of faults

place_of_exit :
    replay (given [] [] false [] [] [] None 1000 (codes "BEGIN { exit \"99999999999999999999\" }")) []
    ≡ Some ((Faulted f.OutOfRange (at 1 9)), 1, [])
unfolding rules
place_of_exit = refl

place_of_nf :
    replay (given [] [] false [] [] [] None 1000 (codes "BEGIN { NF = 70000 }")) []
    ≡ Some ((Faulted f.FieldNumber (at 1 12)), 1, [])
unfolding rules
place_of_nf = refl

place_of_a_step :
    replay (given [] [] false [] [] [] None 1000 (codes "BEGIN { x = 9223372036854775807; x++ }")) []
    ≡ Some ((Faulted f.OutOfRange (at 1 35)), 2, [])
unfolding rules
place_of_a_step = refl

place_of_a_change :
    replay (given [] [] false [] [] [] None 1000 (codes "BEGIN { x /= 0 }")) []
    ≡ Some ((Faulted f.ZeroDivisor (at 1 11)), 1, [])
unfolding rules
place_of_a_change = refl

place_of_a_sign :
    replay (given [] [] false [] [] [] None 1000 (codes "BEGIN { print -\"99999999999999999999\" }")) []
    ≡ Some ((Faulted f.OutOfRange (at 1 15)), 1, [])
unfolding rules
place_of_a_sign = refl

place_of_a_match :
    replay (given [] [] false [] [] [] None 1000 (codes "BEGIN { print \"a\" ~ \"(\" }")) []
    ≡ Some ((Faulted f.Pattern (at 1 19)), 1, [])
unfolding rules
place_of_a_match = refl

place_of_a_pattern_of_match :
    replay (given [] [] false [] [] [] None 1000 (codes "BEGIN { match(\"a\", \"(\") }")) []
    ≡ Some ((Faulted f.Pattern (at 1 9)), 1, [])
unfolding rules
place_of_a_pattern_of_match = refl

place_of_a_separator :
    replay (given [] [] false [] [] [] None 1000 (codes "BEGIN { split(\"a\", a, \"((\") }")) []
    ≡ Some ((Faulted f.Pattern (at 1 9)), 1, [])
unfolding rules
place_of_a_separator = refl

place_of_a_pattern_of_sub :
    replay (given [] [] false [] [] [] None 1000 (codes "BEGIN { sub(\"(\", \"\") }")) []
    ≡ Some ((Faulted f.Pattern (at 1 9)), 1, [])
unfolding rules
place_of_a_pattern_of_sub = refl

place_of_sprintf :
    replay (given [] [] false [] [] [] None 1000 (codes "BEGIN { x = sprintf(\"%d\") }")) []
    ≡ Some ((Faulted f.Format (at 1 13)), 1, [])
unfolding rules
place_of_sprintf = refl

place_of_int :
    replay (given [] [] false [] [] [] None 1000 (codes "BEGIN { int(\"99999999999999999999\") }")) []
    ≡ Some ((Faulted f.OutOfRange (at 1 9)), 1, [])
unfolding rules
place_of_int = refl

place_of_substr :
    replay (given [] [] false [] [] [] None 1000 (codes "BEGIN { substr(\"a\", \"99999999999999999999\") }")) []
    ≡ Some ((Faulted f.OutOfRange (at 1 9)), 1, [])
unfolding rules
place_of_substr = refl
