-- What a send that nothing refuses may rely on, and what its frames carry.
use Rattle.std.proofs.Common.{◌≡◌, ℕ, ◌+◌, ◌<◌, ◌≤◌, min, max, Bool, true, false, cond, eqb, List, [], ◌∷◌, length, drop, Some, None, Option, refl, ap, arith}
use Rattle.std.proofs.lemmas.List.{length-take, length-drop}
use Rattle.std.proofs.lemmas.Bool.Decides.{nat_tests}
use Rattle.std.specs.List.{AllByRecursion}
use Rattle.std.specs.Option.{unwrap_or}
use Rattle.amqp.specs.declared.error.SendError.{SendError}
use Rattle.amqp.specs.declared.error.SendError.TheVariants as fault
use Rattle.amqp.specs.declared.header.Transfer.{Transfer}
use Rattle.amqp.specs.Headers.{Widest, measured}
use Rattle.sink.specs.Cuts.{Carries}
use Rattle.sink.proofs.Cutting.{carried}
use Rattle.unsettled.specs.declared.message.Place.{Place}
use Rattle.unsettled.specs.Messages.{outside}
use Rattle.link.specs.declared.delivery.Sendable.{Sendable}
use Rattle.link.specs.Rows.{first}
use Rattle.link.specs.Sending.{Carrier, message, payload, goes_settled, transfer_of, share_of, share_by, narrow, size_for, share_for, cut, next_tag, tag_there, table_full, no_seat, entry_rows, own_rows, sink_row, send_refusal, sent_frames}
use Rattle.link.specs.Views.{View}
use Rattle.link.proofs.Rows.{all_none, row_off, first_some}

-- what a send that nothing refuses may rely on
pub record Clear (v : View) (c : Carrier) (m : Sendable) : Type 0 where
  pub place : m.place.start + m.place.len ≤ length c.pool
  pub fits : narrow v.settings.max_frame_size (size_for v c m) m.place.len ≡ false
  pub credit : 0 < v.flow.link_credit
  pub absent : goes_settled v m ≡ false → tag_there (next_tag v) v ≡ false
  pub room : goes_settled v m ≡ false → table_full v ≡ false
  pub seat : goes_settled v m ≡ false → no_seat v ≡ false

pub place_clear : (p : Place) (n : ℕ) → outside p n ≡ false → p.start + p.len ≤ n
place_clear p n h = grind (arith, nat_tests)

pub fits_clear : (frame size len : ℕ) → narrow frame size len ≡ false → size + min (max 1 (share_of frame size)) len + 4 ≤ frame
fits_clear frame size len h = grind (arith, nat_tests)

credit_clear : (n : ℕ) → eqb n 0 ≡ false → 0 < n
credit_clear n h = grind (arith, nat_tests)

-- the rows of an entry are those of an unsettled delivery
entry_clear : (v : View) (b : Bool) → AllByRecursion (λ o. o ≡ None) (cond b [] (entry_rows v)) → b ≡ false → (table_full v ≡ false) × (tag_there (next_tag v) v ≡ false) × (no_seat v ≡ false)
entry_clear v true h e = absurd (cc)
entry_clear v false h e =
    (row_off (table_full v) fault.TableFull h.0, row_off (tag_there (next_tag v) v) fault.TagInTable h.1.0, row_off (no_seat v) fault.NoSeat h.1.1.0)

pub clear : (v : View) (c : Carrier) (m : Sendable) → first (own_rows v c m) ≡ None → Clear v c m
clear v c m h =
    let n = all_none (own_rows v c m) h in
    let place : outside m.place (length c.pool) ≡ false = row_off _ fault.OutsidePool n.1.1.0 in
    let credit : eqb v.flow.link_credit 0 ≡ false = row_off _ fault.NoCredit n.1.1.1.1.0 in
    let share : narrow v.settings.max_frame_size (size_for v c m) m.place.len ≡ false = row_off _ fault.FrameTooSmall n.1.1.1.1.1.0 in
    record {
      place = place_clear m.place (length c.pool) place;
      fits = share;
      credit = credit_clear v.flow.link_credit credit;
      absent = λ e. (entry_clear v (goes_settled v m) n.1.1.1.1.1.1 e).1;
      room = λ e. (entry_clear v (goes_settled v m) n.1.1.1.1.1.1 e).0;
      seat = λ e. (entry_clear v (goes_settled v m) n.1.1.1.1.1.1 e).2;
    }

pub length_message : (pool : List ℕ) (p : Place) → p.start + p.len ≤ length pool → length (message pool p) ≡ p.len
length_message pool p h = omega (arith, length-take p.len (drop p.start pool), length-drop p.start pool)

-- the frames of a transfer carry what lies at a place of the pool
pub transfer_carries : (v : View) (c : Carrier) (t : Transfer) (p : Place) → Widest c.bytes t → p.start + p.len ≤ length c.pool → narrow v.settings.max_frame_size (measured c.bytes t) p.len ≡ false
    → Carries c.bytes v.settings.max_frame_size (message c.pool p) (cut v t (share_by v c t) (message c.pool p))
transfer_carries v c t p w h n =
    let l = length_message c.pool p h in
    let f = fits_clear v.settings.max_frame_size (measured c.bytes t) p.len n in
    carried c.bytes t w (unwrap_or v.input 0) (max 1 (share_by v c t)) v.settings.max_frame_size (message c.pool p) (omega arith)
    (omega (arith, f, ap (λ k. min (max 1 (share_by v c t)) k) l))

pub carries : (v : View) (c : Carrier) (m : Sendable) → Widest c.bytes (transfer_of v m) → Clear v c m → Carries c.bytes v.settings.max_frame_size (payload c m) (sent_frames v c m)
carries v c m w k = transfer_carries v c (transfer_of v m) m.place w k.place k.fits

-- a send that nothing refuses is refused by no row of its own
pub own_clear : (v : View) (c : Carrier) (m : Sendable) → send_refusal v c m ≡ None → first (own_rows v c m) ≡ None
own_clear v c m h = go (first (own_rows v c m)) refl
  where
    go : (o : Option SendError) → first (own_rows v c m) ≡ o → o ≡ None
    go None e = refl
    go (Some x) e =
        let f = first_some (own_rows v c m) (sink_row c.sink (share_for v c m) (payload c m) ∷ []) x e in
        absurd (cc)
