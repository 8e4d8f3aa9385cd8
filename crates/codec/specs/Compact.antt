-- The compact form: the shortest codes, and nothing that can be left out (Part 1, 1.6).
use Rattle.std.specs.Prelude.{ℕ, ◌+◌, true, cond, List, [], ◌∷◌, ◌==◌, nat_lt}
use Rattle.amqp.specs.Tags.{be4}
use Rattle.codec.specs.Amqp.{be8}
use Rattle.codec.specs.Form.{Form}

-- by size: a code for 0, a code and a byte, a code and all bytes
abbrev pub shortest : ℕ → ℕ → ℕ → List ℕ → ℕ → List ℕ
shortest none small wide digits x = cond (x == 0) (none ∷ []) (cond (nat_lt x 256) (small ∷ x ∷ []) (wide ∷ digits))

-- the size of a list counts the byte of its count
abbrev pub compact_form : Form
compact_form =
    record {
      terse = true;
      booleans = λ b. cond b 0x41 0x42 ∷ [];
      uints = λ x. shortest 0x43 0x52 0x70 (be4 x) x;
      ulongs = λ x. shortest 0x44 0x53 0x80 (be8 x) x;
      binaries = λ n. 0xa0 ∷ n ∷ [];
      symbols = λ n. 0xa3 ∷ n ∷ [];
      lists = λ count n. cond (count == 0) (0x45 ∷ []) (0xc0 ∷ (n + 1) ∷ count ∷ []);
    }
