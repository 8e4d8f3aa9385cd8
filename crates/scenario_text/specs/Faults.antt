-- Faults of bytes in digits, and what is printed of a fault.
use Rattle.std.specs.Prelude.{ℕ, List, ◌++◌, codes}
use denote.Ref.{Bor}
use Rattle.headers_text.specs.declared.hex.HexFault.{HexFault}
use Rattle.headers_text.specs.declared.hex.HexFault.TheVariants.{Odd, NoDigit as NoHexDigit, Memory}
use Rattle.scenario_text.specs.declared.fault.Fault.{Fault}
use Rattle.scenario_text.specs.declared.fault.Fault.TheVariants.{UnknownCommand, Missing, OtherKey, NotInRange, OddDigits, NoDigit, TooLong, UnknownWord, WordTooMany, OutOfMemory}

abbrev pub digits_fault : Bor (List ℕ) → HexFault → Fault
digits_fault key Odd = OddDigits key
digits_fault key NoHexDigit = NoDigit key
digits_fault key Memory = OutOfMemory

abbrev pub fault_text : Fault → List ℕ
fault_text UnknownCommand = codes "no such command"
fault_text (Missing key) = key.now ++ codes " is missing"
fault_text (OtherKey key) = key.now ++ codes " is expected here"
fault_text (NotInRange key) = key.now ++ codes " is no number in its range"
fault_text (OddDigits key) = key.now ++ codes " has half a byte"
fault_text (NoDigit key) = key.now ++ codes " has a character that is no digit"
fault_text (TooLong key) = key.now ++ codes " is longer than 32 bytes"
fault_text (UnknownWord key) = key.now ++ codes " has an unknown value"
fault_text WordTooMany = codes "a word too many"
fault_text OutOfMemory = codes "out of memory"
