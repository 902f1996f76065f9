-- The codes of the faults, F1 to F13, and their texts.
use Rattle.std.specs.Prelude.{ℕ, List, codes, Result, Ok, Err}
use Rattle.awk_numbers.specs.declared.number.NumberFault.{NumberFault}
use Rattle.awk_numbers.specs.declared.number.NumberFault.TheVariants as of
use Rattle.awk_text.specs.declared.fault.Fault.{Fault}
use Rattle.awk_text.specs.declared.fault.Fault.TheVariants.{OutOfRange, ZeroDivisor, Pattern, Format, CallDepth}
use Rattle.awk_text.specs.declared.fault.Fault.TheVariants.{TextTooLong, Output, NextOutside, FieldNumber}
use Rattle.awk_text.specs.declared.fault.Fault.TheVariants.{TooManyElements, StepBound, Log, Memory}

-- the number in the code
abbrev pub code_of : Fault → ℕ
code_of OutOfRange = 1
code_of ZeroDivisor = 2
code_of Pattern = 3
code_of Format = 4
code_of CallDepth = 5
code_of TextTooLong = 6
code_of Output = 7
code_of NextOutside = 8
code_of FieldNumber = 9
code_of TooManyElements = 10
code_of StepBound = 11
code_of Log = 12
code_of Memory = 13

-- the text, as messages have it
abbrev pub fault_text : Fault → List ℕ
fault_text OutOfRange = codes "number out of range"
fault_text ZeroDivisor = codes "division by zero"
fault_text Pattern = codes "bad pattern"
fault_text Format = codes "bad format"
fault_text CallDepth = codes "calls too deep"
fault_text TextTooLong = codes "text too long"
fault_text Output = codes "cannot open or write output"
fault_text NextOutside = codes "next outside the main rules"
fault_text FieldNumber = codes "bad field number"
fault_text TooManyElements = codes "array too large"
fault_text StepBound = codes "step bound reached"
fault_text Log = codes "cannot write the denial log"
fault_text Memory = codes "out of memory"

-- why there is no number, as a fault of the run: F1 or F2
abbrev pub fault_of : NumberFault → Fault
fault_of of.OutOfRange = OutOfRange
fault_of of.ZeroDivisor = ZeroDivisor

abbrev pub or_fault : {A : Type 0} → Result A NumberFault → Result A Fault
or_fault (Ok x) = Ok x
or_fault (Err e) = Err (fault_of e)
