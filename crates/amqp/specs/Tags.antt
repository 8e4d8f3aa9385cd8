-- Tags: their bytes, and when two are one.
use Rattle.std.specs.Prelude.{◌≡◌, ℕ, ◌-◌, ◌/◌, ◌%◌, ◌≤◌, min, cond, List, [], ◌∷◌, ◌++◌, length, take, replicate, Some, None, Option, nat_lt, refl}
use Rattle.std.proofs.Common.{◌∙◌, lit≤, arith}
use Rattle.std.proofs.lemmas.List.{drop_at, length-append, length-replicate, length-take}
use Rattle.amqp.specs.declared.tag.DeliveryTag.{DeliveryTag}

-- at most 32 bytes
abbrev pub tag_bytes : DeliveryTag → List ℕ
tag_bytes t = take (min t.len 32) t.bytes

-- these bytes, and zeros past them
abbrev pub padded : List ℕ → List ℕ
padded s = s ++ replicate (32 - length s) 0

pub length_padded : (s : List ℕ) → length s ≤ 32 → length (padded s) ≡ 32
length_padded s h = length-append s (replicate (32 - length s) 0) ∙ omega (arith, length-replicate {A = ℕ} (32 - length s) 0)

-- the tag of bytes: of more than 32, the first 32
unfoldable pub tag_from : List ℕ → DeliveryTag
tag_from s =
    let h : length (take 32 s) ≤ 32 = omega (arith, length-take 32 s) in
    record {
      len = length (take 32 s);
      bytes = padded (take 32 s);
      within = (h, length_padded (take 32 s) h);
      clear = drop_at (take 32 s) (replicate (32 - length (take 32 s)) 0) (length (take 32 s)) refl;
    }

-- the tag of bytes, if they are not too many
abbrev pub tag_within : List ℕ → Option DeliveryTag
tag_within s = cond (nat_lt 32 (length s)) None (Some (tag_from s))

-- a number in four bytes, highest first
abbrev pub be4 : ℕ → List ℕ
be4 x = x / 16777216 % 256 ∷ x / 65536 % 256 ∷ x / 256 % 256 ∷ x % 256 ∷ []

-- the tag whose bytes are a count's four
unfoldable pub tag_of : ℕ → DeliveryTag
tag_of n = record { len = 4; bytes = be4 n ++ replicate 28 0; within = (lit≤ tt, refl); clear = refl }

pub record SameBytesSameTag : Type 0 where
  pub one : (x y : DeliveryTag) → tag_bytes x ≡ tag_bytes y → x ≡ y
  pub of_bytes : (s : List ℕ) → length s ≤ 32 → tag_bytes (tag_from s) ≡ s
  pub of_count : (n : ℕ) → tag_bytes (tag_of n) ≡ be4 n
