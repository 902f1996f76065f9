-- The slots and the names of the variables that awk itself has
-- (POSIX.1-2017 XCU awk, "Variables and Special Variables").
use Rattle.std.specs.Prelude.{ℕ, codes, List}
use Rattle.awk_program.specs.declared.variables.Own.{Own}
use Rattle.awk_program.specs.declared.variables.Own.TheVariants as o

abbrev pub Text : Type 0
Text = List ℕ

abbrev pub slot_of : Own → ℕ
slot_of o.Argc = 0
slot_of o.Convfmt = 1
slot_of o.Filename = 2
slot_of o.Fnr = 3
slot_of o.Fs = 4
slot_of o.Nf = 5
slot_of o.Nr = 6
slot_of o.Ofmt = 7
slot_of o.Ofs = 8
slot_of o.Ors = 9
slot_of o.Rlength = 10
slot_of o.Rs = 11
slot_of o.Rstart = 12
slot_of o.Subsep = 13
slot_of o.Argv = 14
slot_of o.Environ = 15

abbrev pub name_of : Own → Text
name_of o.Argc = codes "ARGC"
name_of o.Convfmt = codes "CONVFMT"
name_of o.Filename = codes "FILENAME"
name_of o.Fnr = codes "FNR"
name_of o.Fs = codes "FS"
name_of o.Nf = codes "NF"
name_of o.Nr = codes "NR"
name_of o.Ofmt = codes "OFMT"
name_of o.Ofs = codes "OFS"
name_of o.Ors = codes "ORS"
name_of o.Rlength = codes "RLENGTH"
name_of o.Rs = codes "RS"
name_of o.Rstart = codes "RSTART"
name_of o.Subsep = codes "SUBSEP"
name_of o.Argv = codes "ARGV"
name_of o.Environ = codes "ENVIRON"
