-- What is read is what was written, and nothing else is read.
use Rattle.std.specs.Prelude.{◌≡◌, ℕ, ◌+◌, Bool, true, false, cond, List, [], length, Ok, Err, Result, ◌==◌}
use Rattle.std.proofs.Math.Path.{refl}
use Rattle.std.proofs.Common.{sym, ◌∙◌, arith}
use Rattle.std.specs.Str.{bytes_eq}
use Rattle.std.proofs.lemmas.Slice.Eq.{bytes_eq-Decides}
use Rattle.amqp.specs.declared.header.Transfer.{Transfer as TransferOf}
use Rattle.amqp.specs.declared.header.Disposition.{Disposition as DispositionOf}
use Rattle.amqp.specs.declared.header.Header.{Header}
use Rattle.amqp.specs.declared.header.Header.TheVariants.{Transfer, Disposition}
use Rattle.codec.specs.declared.error.ReadError.{ReadError}
use Rattle.codec.specs.Amqp.{Vals, nil, cons, bool, uint, list}
use Rattle.codec.specs.Form.{encoded}
use Rattle.codec.specs.Headers.{header_bytes}
use Rattle.codec.specs.Values.{transfer_fields, disposition_fields}
use Rattle.reader.specs.Agree.{agree, only, past_zeros}
use Rattle.reader.specs.Places.{Cursor, Found, Has, then}
use Rattle.reader.specs.Reading.{Reading}
use Rattle.reader.specs.Headers.{transfer_at, disposition_at, header_at, refused, read_of}
use Rattle.reader.specs.Fits.{Fits, TransferFits, DispositionFits}
use Rattle.reader.specs.Laws.{Left, Lawful, Written}
use Rattle.reader.specs.Exact.{Exact}
use Rattle.reader.specs.Having.{has_self}
use Rattle.reader.specs.Backs.{must_back, may_back, null_back, flag_back, end_of}
use Rattle.reader.specs.Items.{any, tag, state, described_back, opened, one_kept, two_kept}

abbrev pub rest : Vals → Vals
rest nil = nil
rest (cons v vs) = vs

module _ (R : Reading) (L : Lawful R) where
  -- from its fields on, wherever they begin
  pub transfer_from : (src : List ℕ) (p end : ℕ) (x : TransferOf) → TransferFits x → (c : Cursor) → R.list_at 1 11 src p ≡ Ok c → Left R src end c (transfer_fields R.form.terse x) → transfer_at R src p ≡ Ok (Transfer x, end)
  unfolding transfer_at
  transfer_from src p end x v c o l =
      let a1 = must_back R L.uints x.handle v.handle l in
      let a2 = may_back R L L.uints x.delivery_id v.id a1.2 in
      let a3 = may_back R L (tag R L) x.delivery_tag (any x.delivery_tag) a2.2 in
      let a4 = may_back R L L.uints x.message_format v.format a3.2 in
      let a5 = may_back R L L.bools x.settled (any x.settled) a4.2 in
      let a6 = flag_back R L x.more a5.2 in
      let a7 = null_back R L a6.2 in
      let a8 = may_back R L (state R L) x.state v.state a7.2 in
      let a9 = flag_back R L x.resume a8.2 in
      let a10 = flag_back R L x.aborted a9.2 in
      let a11 = flag_back R L x.batchable a10.2 in
      rw (o, a1.1, a2.1, a3.1, a4.1, a5.1, a6.1, a7.1, a8.1, a9.1, a10.1, a11.1, end_of a11.2)

  transfer : (src : List ℕ) (p end : ℕ) (x : TransferOf) → TransferFits x → p + length (encoded R.form (list (transfer_fields R.form.terse x))) ≡ end → Has src p (encoded R.form (list (transfer_fields R.form.terse x))) → transfer_at R src p ≡ Ok (Transfer x, end)
  transfer src p end x v e h =
      let c = opened R L src p 1 (transfer_fields R.form.terse x) end e (one_kept R L (uint x.handle) (rest (transfer_fields R.form.terse x)) refl) (omega arith) h in
      transfer_from src p end x v c.0 c.1 c.2

  pub disposition_from : (src : List ℕ) (p end : ℕ) (x : DispositionOf) → DispositionFits x → (c : Cursor) → R.list_at 2 6 src p ≡ Ok c → Left R src end c (disposition_fields R.form.terse x) → disposition_at R src p ≡ Ok (Disposition x, end)
  unfolding disposition_at
  disposition_from src p end x v c o l =
      let a1 = must_back R L.bools false tt l in
      let a2 = must_back R L.uints x.first v.first a1.2 in
      let a3 = null_back R L a2.2 in
      let a4 = flag_back R L x.settled a3.2 in
      let a5 = may_back R L (state R L) x.state v.state a4.2 in
      let a6 = flag_back R L x.batchable a5.2 in
      rw (o, a1.1, a2.1, a3.1, a4.1, a5.1, a6.1, end_of a6.2)

  disposition : (src : List ℕ) (p end : ℕ) (x : DispositionOf) → DispositionFits x → p + length (encoded R.form (list (disposition_fields R.form.terse x))) ≡ end → Has src p (encoded R.form (list (disposition_fields R.form.terse x))) → disposition_at R src p ≡ Ok (Disposition x, end)
  disposition src p end x v e h =
      let c = opened R L src p 2 (disposition_fields R.form.terse x) end e (two_kept R L (bool false) (uint x.first) (rest (rest (disposition_fields R.form.terse x))) refl refl) (omega arith) h in
      disposition_from src p end x v c.0 c.1 c.2

  pub header : (src : List ℕ) (at : ℕ) (h : Header) → Fits h → Has src at (header_bytes R.form h) → header_at R src at ≡ Ok (h, at + length (header_bytes R.form h))
  unfolding header_at
  header src at (Transfer x) v h =
      let d = described_back R L src at 0x14 (transfer_fields R.form.terse x) (omega arith) h in
      rw d.1 (transfer src d.0 _ x v d.3 d.2)
  header src at (Disposition x) v h =
      let d = described_back R L src at 0x15 (disposition_fields R.form.terse x) (omega arith) h in
      rw d.1 (disposition src d.0 _ x v d.3 d.2)

no_ok : {B : Type 0} {e : ReadError} {h : Header} → ◌≡◌ {A = Result Header ReadError} (Err e) (Ok h) → B
no_ok p = let z : ◌≡◌ {A = ℕ} 0 1 = cc in absurd (omega arith)

one_ok : {h k : Header} → ◌≡◌ {A = Result Header ReadError} (Ok h) (Ok k) → h ≡ k
one_ok e = cc

only_ok : (src bytes : List ℕ) (x h : Header) → refused (only src bytes x) ≡ Ok h → (src ≡ bytes) × (x ≡ h)
only_ok src bytes x h e = go (bytes_eq src bytes) (agree src bytes == length bytes) refl e
  where
    go : (a b : Bool) → bytes_eq src bytes ≡ a → refused (cond a (Ok x) (cond b (Err (length bytes)) (Err (past_zeros src (agree src bytes))))) ≡ Ok h → (src ≡ bytes) × (x ≡ h)
    go true b q f = ((bytes_eq-Decides src bytes).0 q, one_ok f)
    go false true q f = no_ok f
    go false false q f = no_ok f

pub exact : (R : Reading) → Lawful R → (src : List ℕ) → Exact (header_bytes R.form) src (read_of R src)
exact R L src = record { only = λ h e. from (header_at R src 0) h e; back = back }
  where
    from : (r : Found Header) (h : Header) → refused (then r (λ r. only src (header_bytes R.form r.0) r.0)) ≡ Ok h → src ≡ header_bytes R.form h
    from (Ok p) h e = let o = only_ok src (header_bytes R.form p.0) p.0 h e in rw (← o.1) o.0
    from (Err n) h e = no_ok e

    back : (h : Header) → Fits h → src ≡ header_bytes R.form h → read_of R src ≡ Ok h
    back h v e =
        let b : List ℕ = header_bytes R.form h in
        let s : Has b 0 b = has_self [] b 0 refl in
        rw (e, header R L b 0 h v s, (bytes_eq-Decides b b).1 refl)

-- the same for an encoder that writes the bytes of the form
pub exact_by : (R : Reading) → Lawful R → (E : Header → List ℕ) → ((h : Header) → Written R.form E h) → (src : List ℕ) → Exact E src (read_of R src)
exact_by R L E w src =
    let x = exact R L src in
    record { only = λ h e. x.only h e ∙ sym (w h).same; back = λ h v e. x.back h v (e ∙ (w h).same) }
