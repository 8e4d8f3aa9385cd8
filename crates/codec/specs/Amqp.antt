-- AMQP's values, and which bytes mean which value (Part 1, 1.2 and 1.6), for the codes that a sender's headers may use.
use Rattle.std.specs.Prelude.{ℕ, suc, ◌+◌, ◌/◌, ◌%◌, ◌^◌, ◌<◌, Bool, true, false, List, [], ◌∷◌, ◌++◌, length}
use Rattle.amqp.specs.Tags.{be4}

mutual
  pub data Val : Type 0 where
    null : Val
    bool : Bool → Val
    uint : ℕ → Val
    ulong : ℕ → Val
    binary : List ℕ → Val
    symbol : List ℕ → Val
    list : Vals → Val
    described : Val → Val → Val

  pub data Vals : Type 0 where
    nil : Vals
    cons : Val → Vals → Vals

abbrev pub count : Vals → ℕ
count nil = 0
count (cons v vs) = suc (count vs)

-- a number in eight bytes, highest first
abbrev pub be8 : ℕ → List ℕ
be8 x =
    x / 72057594037927936 % 256 ∷ x / 281474976710656 % 256 ∷ x / 1099511627776 % 256 ∷ x / 4294967296 % 256
    ∷ x / 16777216 % 256 ∷ x / 65536 % 256 ∷ x / 256 % 256 ∷ x % 256 ∷ []

-- one constructor for each code, named by it
mutual
  pub data Means : List ℕ → Val → Type 0 where
    null_40 : Means (0x40 ∷ []) null
    true_41 : Means (0x41 ∷ []) (bool true)
    false_42 : Means (0x42 ∷ []) (bool false)
    true_56 : Means (0x56 ∷ 1 ∷ []) (bool true)
    false_56 : Means (0x56 ∷ 0 ∷ []) (bool false)
    uint_43 : Means (0x43 ∷ []) (uint 0)
    uint_52 : {x : ℕ} → x < 256 → Means (0x52 ∷ x ∷ []) (uint x)
    uint_70 : {x : ℕ} → x < 2 ^ 32 → Means (0x70 ∷ be4 x) (uint x)
    ulong_44 : Means (0x44 ∷ []) (ulong 0)
    ulong_53 : {x : ℕ} → x < 256 → Means (0x53 ∷ x ∷ []) (ulong x)
    ulong_80 : {x : ℕ} → x < 2 ^ 64 → Means (0x80 ∷ be8 x) (ulong x)
    binary_a0 : {b : List ℕ} → length b < 256 → Means (0xa0 ∷ length b ∷ b) (binary b)
    binary_b0 : {b : List ℕ} → length b < 2 ^ 32 → Means (0xb0 ∷ be4 (length b) ++ b) (binary b)
    symbol_a3 : {b : List ℕ} → length b < 256 → Means (0xa3 ∷ length b ∷ b) (symbol b)
    symbol_b3 : {b : List ℕ} → length b < 2 ^ 32 → Means (0xb3 ∷ be4 (length b) ++ b) (symbol b)
    list_45 : Means (0x45 ∷ []) (list nil)
    list_c0 : {b : List ℕ} {vs : Vals} → length b + 1 < 256 → count vs < 256 → MeanAll b vs → Means (0xc0 ∷ (length b + 1) ∷ count vs ∷ b) (list vs)
    list_d0 : {b : List ℕ} {vs : Vals} → length b + 4 < 2 ^ 32 → count vs < 2 ^ 32 → MeanAll b vs → Means (0xd0 ∷ be4 (length b + 4) ++ (be4 (count vs) ++ b)) (list vs)
    described_00 : {b c : List ℕ} {d v : Val} → Means b d → Means c v → Means (0x00 ∷ b ++ c) (described d v)

  -- the values of a list, one after the other
  pub data MeanAll : List ℕ → Vals → Type 0 where
    none : MeanAll [] nil
    more : {b bs : List ℕ} {v : Val} {vs : Vals} → Means b v → MeanAll bs vs → MeanAll (b ++ bs) (cons v vs)
