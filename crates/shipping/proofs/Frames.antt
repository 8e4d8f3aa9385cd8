-- What the archive has once it has read the frames of a message.
use Rattle.std.proofs.Common.{◌≡◌, ℕ, zero, suc, ◌+◌, ◌-◌, ◌/◌, ◌%◌, ◌^◌, List, [], ◌∷◌, ◌++◌, map, length, sym, refl, ap, ◌∙◌, append_assoc, add-one}
use Rattle.std.proofs.lemmas.List.{append-nil}
use Rattle.std.specs.List.{range_with_len, flat_map}
use Rattle.amqp.specs.declared.header.Transfer.{Transfer}
use Rattle.sink.specs.Cuts.{frame_at, frames_of, payload_of}
use Rattle.sink.specs.Frames.{Frame}
use Rattle.shipping.specs.Archives.{Intake, took_all}

pub took_append : (xs ys : List Frame) (a : Intake) → took_all (xs ++ ys) a ≡ took_all ys (took_all xs a)
took_append [] ys a = refl
took_append (f ∷ xs) ys a = took_append xs ys _

abbrev grown : Intake → List ℕ → Intake
grown a bs = record { deliveries = a.deliveries; tag = a.tag; joined = a.joined ++ bs }

-- frames after the first are appended
later : (h : Transfer) (handle share count : ℕ) (msg : List ℕ) (i n : ℕ) (a : Intake) → took_all (map (frame_at h handle share count msg) (range_with_len (suc i) n)) a ≡ grown a (flat_map payload_of (map (frame_at h handle share count msg) (range_with_len (suc i) n)))
later h handle share count msg i zero a = ap (λ (bs : List ℕ). record { deliveries = a.deliveries; tag = a.tag; joined = bs }) (sym (append-nil a.joined))
later h handle share count msg i (suc n) a =
    let part = (frame_at h handle share count msg (suc i)).payload in
    let next : suc i + 1 ≡ suc (suc i) = add-one (suc i) in
    let rest = later h handle share count msg (suc i) n (grown a part) in
    rw next (rest ∙ ap (λ (bs : List ℕ). record { deliveries = a.deliveries; tag = a.tag; joined = bs }) (append_assoc a.joined part _))

begun : (h : Transfer) (handle share count : ℕ) (msg : List ℕ) (n : ℕ) (a : Intake) → took_all (map (frame_at h handle share count msg) (range_with_len 0 (suc n))) a ≡ record { deliveries = (a.deliveries + 1) % 2 ^ 32; tag = h.delivery_tag; joined = flat_map payload_of (map (frame_at h handle share count msg) (range_with_len 0 (suc n))) }
begun h handle share count msg n a = later h handle share count msg 0 n _

-- all frames of a message: its tag, and the payloads joined
pub read_whole : (h : Transfer) (handle share : ℕ) (msg : List ℕ) (a : Intake) → took_all (frames_of h handle share msg) a ≡ record { deliveries = (a.deliveries + 1) % 2 ^ 32; tag = h.delivery_tag; joined = flat_map payload_of (frames_of h handle share msg) }
read_whole h handle share msg a = rw (add-one ((length msg - 1) / share)) (begun h handle share (suc ((length msg - 1) / share)) msg ((length msg - 1) / share) a)
