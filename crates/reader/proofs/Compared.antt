-- What was read, compared with what is written for it.
use Rattle.std.proofs.Common.{◌≡◌, ℕ, ◌≤◌, List, length, take, drop, Ok, Result, IsOk, sym, ◌∙◌, arith}
use Rattle.std.proofs.lemmas.List.{take_at}
use Rattle.std.proofs.lemmas.Bool.{le-ltb}
use Rattle.amqp.specs.declared.error.MemoryError.{MemoryError}
use Rattle.amqp.specs.declared.header.Header.{Header}
use Rattle.codec.specs.declared.error.ReadError.{ReadError}
use Rattle.codec.specs.Form.{Form}
use Rattle.codec.specs.Written.{written, after_write}
use Rattle.reader.specs.Agree.{only}
use Rattle.reader.specs.Reading.{Reading}
use Rattle.reader.specs.Headers.{header_at, refused, read_of}
use Rattle.reader.specs.Laws.{Written}

-- a memory that suffices is written to
suffices : (bytes old : List ℕ) (w : Result ℕ MemoryError) → length bytes ≤ length old → w ≡ written bytes old → w ≡ Ok (length bytes)
suffices bytes old w l e = e ∙ rw (le-ltb (length old) (length bytes) l)

pub is_written : (F : Form) (E : Header → List ℕ) (h : Header) → Written F E h → (old : List ℕ) (w : Result ℕ MemoryError) → 256 ≤ length old → w ≡ written (E h) old → IsOk w
is_written F E h l old w k e = rw (suffices (E h) old w (omega (arith, l.short)) e)

ok_is : (n m : ℕ) → ◌≡◌ {A = Result ℕ MemoryError} (Ok n) (Ok m) → n ≡ m
ok_is n m e = cc

front : (bytes old new : List ℕ) (w : Result ℕ MemoryError) (n : ℕ) → length bytes ≤ length old → w ≡ written bytes old → new ≡ after_write bytes old → w ≡ Ok n → take n new ≡ bytes
front bytes old new w n l e f g =
    let k : n ≡ length bytes = ok_is n (length bytes) (sym g ∙ suffices bytes old w l e) in
    rw (f, le-ltb (length old) (length bytes) l) (take_at bytes (drop (length bytes) old) n (sym k))

pub compared : (R : Reading) (E : Header → List ℕ) (h : Header) → Written R.form E h → (src s old out : List ℕ) (p end n : ℕ) (w : Result ℕ MemoryError) (r : Result Header ReadError)
    → 256 ≤ length old → s ≡ src → p ≡ 0 → Ok (h, end) ≡ header_at R s p → w ≡ written (E h) old → out ≡ after_write (E h) old → w ≡ Ok n
    → r ≡ refused (only src (take n out) h) → r ≡ read_of R src
compared R E h l src s old out p end n w r k i j q e f g o =
    let a : Ok (h, end) ≡ header_at R src 0 = rw (i, j) at q in
    let t = front (E h) old out w n (omega (arith, l.short)) e f g in
    o ∙ rw (t, l.same, ← a)
