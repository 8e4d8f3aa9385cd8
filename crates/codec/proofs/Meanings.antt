-- The bytes of a value, at most 255, mean what the form keeps of it.
use Rattle.std.proofs.Common.{◌≡◌, ℕ, suc, ◌≤◌, Bool, true, false, List, [], ◌∷◌, length, refl, ap, arith}
use Rattle.std.proofs.lemmas.List.{length-append}
use Rattle.arrayvec.specs.ArrayVec.{ArrayVec}
use Rattle.codec.specs.Amqp.{Val, Vals, nil, cons, count, null, bool, uint, ulong, binary, symbol, list, described, Means, MeanAll, none, more, null_40, described_00}
use Rattle.codec.specs.Form.{Form, encoded, kept, left_out, keep, concat, list_of}
use Rattle.codec.specs.Laws.{Lawful}
use Rattle.codec.specs.Meaning.{keep_value, kept_of, all_kept, Ranged, AllRanged}
use Rattle.amqp.specs.declared.header.Header.{Header}
use Rattle.codec.specs.Values.{header_value}
use Rattle.codec.specs.Headers.{header_bytes, MeansIn}
use Rattle.codec.specs.Bodies.{Encodes}
use Rattle.codec.proofs.Closing.{absent_null}
use Rattle.codec.specs.Longer.{filled, out_absent}

-- the fields that are kept mean these values, one each
record Fields (ts : List (List ℕ)) (ws : Vals) : Type 0 where
  pub mean : MeanAll (concat ts) ws
  pub count : length ts ≡ count ws
  pub few : length ts ≤ length (concat ts)

-- from a bound on all fields, bounds on the first, where it is kept, and on those after it
split : (a : Bool) (b : List ℕ) (ts : List (List ℕ)) (n : ℕ) → length (concat (keep a b ts)) ≤ n → (a ≡ true → length b ≤ n) → (length b ≤ n) × (length (concat ts) ≤ n)
split true b [] n l f = (f refl, omega arith)
split true b (t ∷ ts) n l f = let e = length-append b (concat (t ∷ ts)) in (omega arith, omega arith)
split false b ts n l f = let e = length-append b (concat ts) in (omega arith, omega arith)

keeps : (a : Bool) (b : List ℕ) (v : Val) (ts : List (List ℕ)) (ws : Vals) → 1 ≤ length b → Means b v → Fields ts ws → Fields (keep a b ts) (keep_value a v ws)
keeps true b v [] nil l m r = r
keeps true b v [] (cons w ws) l m r = absurd (omega arith)
keeps true b v (t ∷ ts) nil l m r = absurd (omega arith)
keeps true b v (t ∷ ts) (cons w ws) l m r =
    record { mean = more m r.mean; count = ap suc r.count; few = omega (arith, length-append b (concat (t ∷ ts))) }
keeps false b v ts ws l m r =
    record { mean = more m r.mean; count = ap suc r.count; few = omega (arith, length-append b (concat ts)) }

module _ (F : Form) (L : Lawful F) where
  list_means : (ts : List (List ℕ)) (ws : Vals) → length (concat ts) ≤ 252 → Fields ts ws → Means (list_of F ts) (list ws)
  list_means ts ws l r = rw r.count (L.meaning.lists (concat ts) ws l (omega (arith, r.count, r.few)) r.mean)

  -- what is left out is a null
  out_short : (v : Val) → left_out F.terse v ≡ true → length (encoded F v) ≤ 252
  out_short v e = omega (arith, ap length (absent_null F v (out_absent F.terse v e)))

  mutual
    means : (v : Val) → Ranged v → length (encoded F v) ≤ 252 → Means (encoded F v) (kept_of F.terse v)
    means null r l = null_40
    means (bool b) r l = L.meaning.booleans b
    means (uint x) r l = L.meaning.uints x r
    means (ulong x) r l = L.meaning.ulongs x r
    means (binary b) r l = L.meaning.binaries b (omega (arith, length-append (F.binaries (length b)) b))
    means (symbol b) r l = L.meaning.symbols b (omega (arith, length-append (F.symbols (length b)) b))
    means (list vs) r l =
        let ts : List (List ℕ) = kept F vs in
        let i : length (concat (kept F vs)) ≤ 252 = omega (arith, length-append (F.lists (length ts) (length (concat ts))) (concat ts)) in
        list_means (kept F vs) (all_kept F.terse vs) i (all_mean vs r i)
    means (described d v) r l =
        let n = length-append (encoded F d) (encoded F v) in
        described_00 (means d r.0 (omega arith)) (means v r.1 (omega arith))

    all_mean : (vs : Vals) → AllRanged vs → length (concat (kept F vs)) ≤ 252 → Fields (kept F vs) (all_kept F.terse vs)
    all_mean nil r l = record { mean = none; count = refl; few = omega arith }
    all_mean (cons v vs) r l =
        let s = split (left_out F.terse v) (encoded F v) (kept F vs) 252 l (out_short v) in
        keeps (left_out F.terse v) (encoded F v) (kept_of F.terse v) (kept F vs) (all_kept F.terse vs) (filled F L.sizes v) (means v r.0 s.0) (all_mean vs r.1 s.1)

  encoded_means : (v : Val) (s : ArrayVec ℕ) → Encodes F 155 v s → Means (encoded F v) (kept_of F.terse v)
  encoded_means v s e = means v e.ranged (omega (arith, ap length e.made))

mutual
  -- a form that is not terse keeps all
  keeps_all : (v : Val) → kept_of false v ≡ v
  keeps_all null = refl
  keeps_all (bool b) = refl
  keeps_all (uint x) = refl
  keeps_all (ulong x) = refl
  keeps_all (binary b) = refl
  keeps_all (symbol b) = refl
  keeps_all (list vs) = ap list (keeps_each vs)
  keeps_all (described d v) = rw (keeps_all d, keeps_all v)

  keeps_each : (vs : Vals) → all_kept false vs ≡ vs
  keeps_each nil = refl
  keeps_each (cons v vs) = rw (keeps_all v, keeps_each vs)

means_in : (terse : Bool) (bytes : List ℕ) (h : Header) → Means bytes (kept_of terse (header_value terse h)) → MeansIn terse bytes h
means_in true bytes h m = m
means_in false bytes h m = rw (keeps_all (header_value false h)) at m

-- the bytes of a header mean it
pub header_means : (F : Form) → Lawful F → (h : Header) (s : ArrayVec ℕ) → Encodes F 155 (header_value F.terse h) s → MeansIn F.terse (header_bytes F h) h
header_means F L h s e = means_in F.terse (header_bytes F h) h (encoded_means F L (header_value F.terse h) s e)
