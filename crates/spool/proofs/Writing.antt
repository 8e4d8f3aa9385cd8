-- A record as it is written, piece by piece.
use Rattle.std.proofs.Common.{◌≡◌, ℕ, ◌≤◌, List, ◌++◌, length, take, drop, Ok, Result, IsOk, sym, ◌∙◌, arith}
use Rattle.std.proofs.lemmas.List.{append_assoc, take_at}
use Rattle.std.proofs.lemmas.Bool.{le-ltb}
use Rattle.amqp.specs.declared.error.MemoryError.{MemoryError}
use Rattle.amqp.specs.declared.header.Header.{Header}
use Rattle.codec.specs.Headers.{compact_bytes}
use Rattle.codec.specs.Written.{written, after_write}
use Rattle.spool.proofs.Exact.{compact_short}

suffices : (h : Header) (old : List ℕ) (w : Result ℕ MemoryError) → 255 ≤ length old → w ≡ written (compact_bytes h) old → w ≡ Ok (length (compact_bytes h))
suffices h old w l e = e ∙ rw (le-ltb (length old) (length (compact_bytes h)) (omega (arith, compact_short h)))

pub is_written : (h : Header) (old : List ℕ) (w : Result ℕ MemoryError) → 255 ≤ length old → w ≡ written (compact_bytes h) old → IsOk w
is_written h old w l e = rw (suffices h old w l e)

ok_is : (n m : ℕ) → ◌≡◌ {A = Result ℕ MemoryError} (Ok n) (Ok m) → n ≡ m
ok_is n m e = cc

pub front : (h : Header) (old new : List ℕ) (w : Result ℕ MemoryError) (n : ℕ) → 255 ≤ length old → w ≡ written (compact_bytes h) old → new ≡ after_write (compact_bytes h) old → w ≡ Ok n → (n ≡ length (compact_bytes h)) × (take n new ≡ compact_bytes h)
front h old new w n l e f g =
    let k : n ≡ length (compact_bytes h) = ok_is n (length (compact_bytes h)) (sym g ∙ suffices h old w l e) in
    (k, rw (f, le-ltb (length old) (length (compact_bytes h)) (omega (arith, compact_short h))) (take_at (compact_bytes h) (drop (length (compact_bytes h)) old) n (sym k)))

pub pieces : (l l1 l2 l3 l4 l5 l6 a b c d x p : List ℕ) → l1 ≡ l ++ a → l2 ≡ l1 ++ b → l3 ≡ l2 ++ c → l4 ≡ l3 ++ d → l5 ≡ l4 ++ x → l6 ≡ l5 ++ p → l6 ≡ l ++ ((a ++ (b ++ (c ++ d))) ++ (x ++ p))
pieces l l1 l2 l3 l4 l5 l6 a b c d x p e1 e2 e3 e4 e5 e6 = rw (e6, e5, e4, e3, e2, e1) (simp append_assoc)
