-- How a form is read: what differs from form to form.
use Rattle.std.specs.Prelude.{ℕ, Bool, List, Result}
use Rattle.codec.specs.Form.{Form}
use Rattle.reader.specs.Places.{Cursor, Reader}

pub record Reading : Type 0 where
  pub form : Form
  pub uint_at : Reader ℕ
  pub ulong_at : Reader ℕ
  pub bool_at : Reader Bool
  -- how many bytes, at most so many, and where they begin
  pub binary_at : ℕ → Reader ℕ
  pub symbol_at : ℕ → Reader ℕ
  -- where the fields of a list begin, and how many there are, from least to most
  pub list_at : ℕ → ℕ → List ℕ → ℕ → Result Cursor ℕ
