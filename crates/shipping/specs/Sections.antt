-- A message of one data section (Part 3, 3.2.6).
use Rattle.std.specs.Prelude.{ℕ, ◌^◌, ◌≤◌, cond, List, [], ◌∷◌, ◌++◌, length, nat_lt}
use Rattle.amqp.specs.Tags.{be4}
use Rattle.amqp.specs.declared.error.SendError.TheVariants.{OutsidePool}
use Rattle.shipping.specs.declared.message.MessageError.{MessageError}
use Rattle.shipping.specs.declared.message.MessageError.TheVariants.{NoMemory, TooLong}
use Rattle.shipping.specs.declared.report.ShipError.{ShipError}
use Rattle.shipping.specs.declared.report.ShipError.TheVariants as ship

-- a data section is described by 0x75, a small ulong (Part 1, 1.2)
abbrev pub descriptor : List ℕ
descriptor = 0x00 ∷ 0x53 ∷ 0x75 ∷ []

-- a binary's code and length: one byte of length up to 255, and else four, highest first (Part 1, 1.6.19)
abbrev pub binary_head : (len : ℕ) → List ℕ
binary_head len = cond (nat_lt len 256) (0xa0 ∷ len ∷ []) (0xb0 ∷ be4 len)

abbrev pub section_head : (len : ℕ) → List ℕ
section_head len = descriptor ++ binary_head len

-- the section that holds these bytes
abbrev pub data_section : List ℕ → List ℕ
data_section bytes = section_head (length bytes) ++ bytes

-- why no section was made: for want of memory, or since the length has no four bytes
abbrev pub Unwritten : List ℕ → MessageError → Type 0
Unwritten bytes NoMemory = Unit {0}
Unwritten bytes TooLong = 2 ^ 32 ≤ length bytes

-- what that is where a file is shipped: no pool is so long either
abbrev pub unshipped : MessageError → ShipError
unshipped NoMemory = ship.NoMemory
unshipped TooLong = ship.Refused OutsidePool
