-- The words of a pool.
use Rattle.std.proofs.Common.{◌≡◌, ℕ, ◌≤◌, ◌<◌, List, [], ◌∷◌, ◌++◌, codes, decimal, slice_index, Option, None, Some, Result, Err, ap, arith}
use Rattle.std.specs.Option.{ok_or}
use Rattle.scenario_text.specs.declared.fault.Fault.{Fault}
use Rattle.scenario_text.specs.declared.command.PoolSource.{PoolSource}
use Rattle.scenario_text.specs.declared.command.PoolSource.TheVariants.{Digits, Repeat, File}
use Rattle.scenario_text.specs.Commands.{IsPool, pool_words, byte_text}
use Rattle.scenario_text.specs.Words.{keyed}
use Rattle.scenario_text.proofs.Takings.{same_value}

-- there is no pool without a word
pub no_pool_of_none : (x : PoolSource) (rest : List (List ℕ)) → [] ≡ pool_words x ++ rest → ⊥
unfolding pool_words
no_pool_of_none (Digits d) rest e = cc
no_pool_of_none (Repeat count byte) rest e = cc
no_pool_of_none (File path) rest e = cc

-- a pool whose first word repeats a byte
pub record Repeated (count : List ℕ) (mid rest : List (List ℕ)) : Type 0 where
  pub times : ℕ
  pub byte : ℕ
  pub bound : times ≤ 70000000
  pub is_byte : byte < 256
  pub written : count ≡ decimal times
  pub behind : mid ≡ keyed (codes "byte") (byte_text byte) ∷ rest

other_key : (a b : List ℕ) → keyed (codes "repeat") a ≡ keyed (codes "file") b → ⊥
unfolding keyed
other_key a b e = let first : 114 ≡ 102 = ap (λ l. slice_index l 0) e in omega (arith, first)

pub repeated : (count : List ℕ) (mid : List (List ℕ)) (x : PoolSource) (rest : List (List ℕ)) → IsPool x → keyed (codes "repeat") count ∷ mid ≡ pool_words x ++ rest → Repeated count mid rest
unfolding pool_words
repeated count mid (Digits d) rest fits e = let same : d.now ≡ keyed (codes "repeat") count = cc in absurd (fits.1 count same)
repeated count mid (Repeat times byte) rest fits e =
    let same : keyed (codes "repeat") count ≡ keyed (codes "repeat") (decimal times) = cc in
    record { times = times; byte = byte; bound = fits.0; is_byte = fits.1; written = same_value (codes "repeat") count (decimal times) same; behind = cc }
repeated count mid (File path) rest fits e = let same : keyed (codes "repeat") count ≡ keyed (codes "file") path.now = cc in absurd (other_key count path.now same)

-- what was refused was not read
pub not_read : (r : Option ℕ) (f g : Fault) (q : Result ℕ Fault) (n : ℕ) → q ≡ ok_or r f → q ≡ Err g → r ≡ Some n → ⊥
not_read None f g q n is err read = cc
not_read (Some k) f g q n is err read = cc
