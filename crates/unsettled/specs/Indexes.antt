-- What an index holds.
use Rattle.std.specs.Prelude.{ℕ, Bool, List, Some, Option, nat_eq}
use Rattle.std.specs.Option.{option_eq}
use Rattle.unsettled.specs.declared.index.Index.{Index}

-- the key at each place, or none
abbrev pub keys_of : Index → List (Option ℕ)
keys_of i = i.keys

abbrev pub is_key : ℕ → Option ℕ → Bool
is_key n key = option_eq nat_eq key (Some n)
