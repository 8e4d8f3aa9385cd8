-- A list whose fields are no longer is no longer: so no transfer is longer than it is measured.
use Rattle.std.specs.Prelude.{◌≡◌, ℕ, ◌≤◌, Bool, true, false, List, [], ◌∷◌, length, Some, None, Option, refl}
use Rattle.std.proofs.Common.{arith}
use Rattle.std.proofs.lemmas.List.{length-append}
use Rattle.std.proofs.lemmas.Bool.{false≢true}
use Rattle.amqp.specs.Headers.{with_id_more, continuation_of, widened, Widest}
use Rattle.amqp.specs.declared.header.Transfer.{Transfer}
use Rattle.codec.specs.Amqp.{Val, Vals, nil, cons, null, bool, uint, ulong, binary, symbol, list, described}
use Rattle.codec.specs.Form.{Form, encoded, kept, absent, left_out, keep, concat, list_of}
use Rattle.codec.specs.Laws.{Sizes}
use Rattle.codec.specs.Headers.{header_bytes}
use Rattle.codec.specs.Values.{optional, flag, transfer_fields}

abbrev Shorter : List (List ℕ) → List (List ℕ) → Type 0
Shorter ts us = (length (concat ts) ≤ length (concat us)) × (length us ≡ 0 → length ts ≡ 0)

next : (a b : Bool) (x y : List ℕ) (ts us : List (List ℕ)) → (b ≡ true → a ≡ true) → length x ≤ length y → Shorter ts us → Shorter (keep a x ts) (keep b y us)
next true true x y [] [] e l s = s
next true true x y [] (u ∷ us) e l s = (omega arith, λ z. refl)
next true true x y (t ∷ ts) [] e l s = absurd (omega (arith, s.1 refl))
next true true x y (t ∷ ts) (u ∷ us) e l s =
    (omega (arith, length-append x (concat (t ∷ ts)), length-append y (concat (u ∷ us))), λ z. omega arith)
next true false x y [] us e l s = (omega arith, λ z. refl)
next true false x y (t ∷ ts) us e l s =
    (omega (arith, length-append x (concat (t ∷ ts)), length-append y (concat us)), λ z. omega arith)
next false true x y ts us e l s = absurd (false≢true (e refl))
next false false x y ts us e l s =
    (omega (arith, length-append x (concat ts), length-append y (concat us)), λ z. omega arith)

null_out : (terse : Bool) → left_out terse null ≡ terse
null_out true = refl
null_out false = refl

out_terse : (terse : Bool) (v : Val) → left_out terse v ≡ true → terse ≡ true
out_terse true v e = refl
out_terse false v e = absurd (false≢true e)

pub out_absent : (terse : Bool) (v : Val) → left_out terse v ≡ true → absent v ≡ true
out_absent true v e = e
out_absent false v e = absurd (false≢true e)

module _ (F : Form) (L : Sizes F) where
  -- v is left out where w is, and no longer
  record Less (v w : Val) : Type 0 where
    pub here : left_out F.terse w ≡ true → left_out F.terse v ≡ true
    pub bytes : length (encoded F v) ≤ length (encoded F w)

  abbrev Below : Vals → Vals → Type 0
  Below nil nil = Unit {0}
  Below nil (cons w ws) = ⊥
  Below (cons v vs) nil = ⊥
  Below (cons v vs) (cons w ws) = Less v w × Below vs ws

  below : (vs ws : Vals) → Below vs ws → Shorter (kept F vs) (kept F ws)
  below nil nil b = (omega arith, λ z. refl)
  below nil (cons w ws) b = absurd b
  below (cons v vs) nil b = absurd b
  below (cons v vs) (cons w ws) b =
      next (left_out F.terse v) (left_out F.terse w) (encoded F v) (encoded F w) (kept F vs) (kept F ws) b.0.here b.0.bytes (below vs ws b.1)

  list_below : (ts us : List (List ℕ)) → Shorter ts us → length (list_of F ts) ≤ length (list_of F us)
  list_below ts us s =
      let h = L.lists (length ts) (length us) (length (concat ts)) (length (concat us)) s.1 in
      simp length-append (omega (arith, s.0))

  longer : (vs ws : Vals) → Below vs ws → length (encoded F (described (ulong 0x14) (list vs))) ≤ length (encoded F (described (ulong 0x14) (list ws)))
  longer vs ws l =
      let s = list_below (kept F vs) (kept F ws) (below vs ws l) in
      let a = length-append (F.ulongs 0x14) (list_of F (kept F vs)) in
      let b = length-append (F.ulongs 0x14) (list_of F (kept F ws)) in
      omega arith

  same : (v : Val) → Less v v
  same v = record { here = λ e. e; bytes = omega arith }

  pub filled : (v : Val) → 1 ≤ length (encoded F v)
  filled null = omega arith
  filled (bool b) = L.some_booleans b
  filled (uint x) = L.some_uints x
  filled (ulong x) = L.some_ulongs x
  filled (binary b) = omega (arith, L.some_binaries (length b), length-append (F.binaries (length b)) b)
  filled (symbol b) = omega (arith, L.some_symbols (length b), length-append (F.symbols (length b)) b)
  filled (list vs) =
      let ts : List (List ℕ) = kept F vs in
      omega (arith, L.some_lists (length ts) (length (concat ts)), length-append (F.lists (length ts) (length (concat ts))) (concat ts))
  filled (described d v) = omega arith

  null_less : (v : Val) → Less null v
  null_less v = record { here = λ e. rw (null_out F.terse) (out_terse F.terse v e); bytes = filled v }

  id_less : (id : Option ℕ) → Less (optional uint id) (uint 4294967295)
  id_less None = null_less (uint 4294967295)
  id_less (Some x) = record { here = λ e. e; bytes = L.uints x }

  more_less : (more : Bool) → Less (flag F.terse more) (flag F.terse true)
  more_less true = same (flag F.terse true)
  more_less false = go F.terse refl
    where
      go : (terse : Bool) → F.terse ≡ terse → Less (flag terse false) (flag terse true)
      go true e = null_less (bool true)
      go false e = record { here = λ z. z; bytes = omega (arith, L.booleans false) }

  pub widest : (h : Transfer) → Widest (header_bytes F) h
  widest h =
      record {
        first = λ id more.
            longer (transfer_fields F.terse (with_id_more h id more)) (transfer_fields F.terse (widened h))
            (same _, (id_less id, (same _, (same _, (same _, (more_less more, (same _, (same _, (same _, (same _, (same _, tt)))))))))));
        later = λ id more.
            longer (transfer_fields F.terse (with_id_more (continuation_of h) id more)) (transfer_fields F.terse (widened h))
            (same _, (id_less id, (null_less _, (null_less _, (null_less _, (more_less more, (same _, (null_less _, (same _, (same _, (same _, tt)))))))))));
      }
