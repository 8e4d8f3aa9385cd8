-- What the bytes of a value mean: the value, in a terse form without the nulls at the end of its lists.
use Rattle.std.specs.Prelude.{◌^◌, ◌<◌, Bool, true, false}
use Rattle.codec.specs.Amqp.{Val, Vals, nil, cons, null, bool, uint, ulong, binary, symbol, list, described}
use Rattle.codec.specs.Form.{left_out}

-- a value before those that are kept after it: one that may be left out is dropped before none
abbrev pub keep_value : Bool → Val → Vals → Vals
keep_value true v nil = nil
keep_value true v (cons w ws) = cons v (cons w ws)
keep_value false v ws = cons v ws

abbrev mutual
  -- what is left of a value in a form that is terse or not
  pub kept_of : Bool → Val → Val
  kept_of terse null = null
  kept_of terse (bool b) = bool b
  kept_of terse (uint x) = uint x
  kept_of terse (ulong x) = ulong x
  kept_of terse (binary b) = binary b
  kept_of terse (symbol b) = symbol b
  kept_of terse (list vs) = list (all_kept terse vs)
  kept_of terse (described d v) = described (kept_of terse d) (kept_of terse v)

  pub all_kept : Bool → Vals → Vals
  all_kept terse nil = nil
  all_kept terse (cons v vs) = keep_value (left_out terse v) (kept_of terse v) (all_kept terse vs)

-- without the nulls at the end of each list
abbrev pub trimmed : Val → Val
trimmed v = kept_of true v

abbrev mutual
  -- each number is in the range of its type
  pub Ranged : Val → Type 0
  Ranged null = Unit {0}
  Ranged (bool b) = Unit {0}
  Ranged (uint x) = x < 2 ^ 32
  Ranged (ulong x) = x < 2 ^ 64
  Ranged (binary b) = Unit {0}
  Ranged (symbol b) = Unit {0}
  Ranged (list vs) = AllRanged vs
  Ranged (described d v) = Ranged d × Ranged v

  pub AllRanged : Vals → Type 0
  AllRanged nil = Unit {0}
  AllRanged (cons v vs) = Ranged v × AllRanged vs
