-- The wide form: the longest codes, and every field (Part 1, 1.6).
use Rattle.std.specs.Prelude.{◌+◌, false, cond, [], ◌∷◌, ◌++◌}
use Rattle.amqp.specs.Tags.{be4}
use Rattle.codec.specs.Amqp.{be8}
use Rattle.codec.specs.Form.{Form}

-- the size of a list counts the four bytes of its count
abbrev pub wide_form : Form
wide_form =
    record {
      terse = false;
      booleans = λ b. 0x56 ∷ cond b 1 0 ∷ [];
      uints = λ x. 0x70 ∷ be4 x;
      ulongs = λ x. 0x80 ∷ be8 x;
      binaries = λ n. 0xb0 ∷ be4 n;
      symbols = λ n. 0xb3 ∷ be4 n;
      lists = λ count n. 0xd0 ∷ be4 (n + 4) ++ be4 count;
    }
