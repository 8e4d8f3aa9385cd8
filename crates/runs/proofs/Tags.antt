-- Two counts below 2^32 have two tags.
use Rattle.std.proofs.Common.{◌≡◌, ℕ, ◌<◌, ◌≤◌, ◌/◌, ◌%◌, Bool, true, false, get_or, refl, ap, arith}
use Rattle.amqp.specs.declared.tag.DeliveryTag.{DeliveryTag}
use Rattle.amqp.specs.Tags.{tag_of}
use Rattle.unsettled.specs.Tables.{same_tag}
use Rattle.unsettled.proofs.Same.{same_tag_decides}

same_count : (a b : ℕ) → a ≤ 4294967295 → b ≤ 4294967295 → tag_of a ≡ tag_of b → a ≡ b
unfolding tag_of
same_count a b ha hb e =
    let highest : a / 16777216 % 256 ≡ b / 16777216 % 256 = ap (λ (t : DeliveryTag). get_or t.bytes 0 0) e in
    let second : a / 65536 % 256 ≡ b / 65536 % 256 = ap (λ (t : DeliveryTag). get_or t.bytes 1 0) e in
    let third : a / 256 % 256 ≡ b / 256 % 256 = ap (λ (t : DeliveryTag). get_or t.bytes 2 0) e in
    let lowest : a % 256 ≡ b % 256 = ap (λ (t : DeliveryTag). get_or t.bytes 3 0) e in
    omega arith

pub tags_apart : (a b : ℕ) → a < b → b ≤ 4294967295 → same_tag (tag_of a) (tag_of b) ≡ false
tags_apart a b h k = go (same_tag (tag_of a) (tag_of b)) refl
  where
    go : (t : Bool) → same_tag (tag_of a) (tag_of b) ≡ t → t ≡ false
    go false e = refl
    go true e =
        let z : a ≡ b = same_count a b (omega arith) k ((same_tag_decides (tag_of a) (tag_of b)).0 e) in
        absurd (omega arith)
