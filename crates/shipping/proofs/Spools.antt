-- A spool that was read out.
use Rattle.std.proofs.Common.{◌≡◌, ℕ, ◌+◌, false, cond, ltb, [], length, Ok, Err, Result, OnOk, ap, ◌∙◌, arith}
use Rattle.std.proofs.lemmas.Bool.{le-ltb}
use Rattle.sink.specs.Frames.{Model}
use Rattle.spool.specs.declared.spool.Spool.{Spool}
use Rattle.spool.specs.Memories.{free}
use Rattle.spool.specs.Records.{records}
use Rattle.spool.specs.Spools.{room_for, size_of, model_of, left}
use Rattle.spool.proofs.Laying.{div_mono}
use Rattle.shipping.specs.Unloading.{Emptied}

-- a spool in which nothing waits
abbrev unfilled : Spool → Model
unfilled s = record { waiting = []; vacancy = room_for (size_of s) s.widest; widest = s.widest; stopped = s.stop }

pub spool_emptied : (s : Spool) (room : ℕ) (m : Model) → room ≡ length (records (model_of s).waiting) → m ≡ left (size_of s) (model_of s) room → Emptied (model_of s) m
spool_emptied s room m e h =
    let enough : ltb room (length (records (model_of s).waiting)) ≡ false = le-ltb room (length (records (model_of s).waiting)) (omega arith) in
    let is : m ≡ unfilled s = h ∙ ap (λ b. cond b (model_of s) (unfilled s)) enough in
    record {
      waiting = ap (λ (x : Model). x.waiting) is;
      vacancy = omega (arith, ap (λ (x : Model). x.vacancy) is, div_mono (free s.memory) (size_of s) (267 + s.widest) (omega arith) (omega arith));
      widest = ap (λ (x : Model). x.widest) is;
      stopped = ap (λ (x : Model). x.stopped) is;
    }

pub on_ok : {T E P : Type 0} (r : Result T E) → P → OnOk r P
on_ok (Ok x) p = p
on_ok (Err e) p = tt
