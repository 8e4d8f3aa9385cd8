-- Writing bytes to the front of a memory that may be too short for them.
use Rattle.std.specs.Prelude.{ℕ, cond, List, ◌++◌, length, drop, Ok, Err, Result, nat_lt}
use Rattle.amqp.specs.declared.error.MemoryError.{MemoryError}
use Rattle.amqp.specs.declared.error.MemoryError.TheVariants.{TooShort}

-- the answer to writing these bytes to a memory that holds `old`
abbrev pub written : List ℕ → List ℕ → Result ℕ MemoryError
written bytes old = cond (nat_lt (length old) (length bytes)) (Err TooShort) (Ok (length bytes))

-- what the memory then holds
abbrev pub after_write : List ℕ → List ℕ → List ℕ
after_write bytes old = cond (nat_lt (length old) (length bytes)) old (bytes ++ drop (length bytes) old)
