-- Fields that were met one by one, closed, are the list of their values.
use Rattle.std.proofs.Common.{◌≡◌, ℕ, ◌+◌, ◌^◌, ◌<◌, ◌≤◌, Bool, true, false, cond, List, [], ◌∷◌, ◌++◌, length, replicate, sym, refl, ap, ◌∙◌, append_assoc, arith}
use Rattle.std.proofs.lemmas.List.{append-nil, replicate_more}
use Rattle.std.proofs.lemmas.Bool.{false≢true}
use Rattle.arrayvec.specs.ArrayVec.{ArrayVec, array_vec_len}
use Rattle.codec.specs.Meaning.{AllRanged}
use Rattle.codec.specs.Amqp.{Val, Vals, nil, cons, null, bool, uint, ulong, binary, symbol, list, described}
use Rattle.codec.specs.Form.{Form, encoded, kept, absent, keep, concat}
use Rattle.codec.specs.Bodies.{Met, none_met, skipped, with_nulls, added, step, steps, closed, Encodes}

-- t is s with these fields, each given by its bytes, met after it
abbrev After : Bool → Met → List (List ℕ) → Met → Type 0
After true s [] t = (t.bytes ≡ s.bytes) × (t.count ≡ s.count)
After true s (u ∷ us) t =
    (t.bytes ≡ s.bytes ++ (replicate s.gap 0x40 ++ concat (u ∷ us))) × (t.count ≡ s.count + s.gap + length (u ∷ us))
After false s us t =
    (t.bytes ++ replicate t.gap 0x40 ≡ (s.bytes ++ replicate s.gap 0x40) ++ concat us) × (t.count + t.gap ≡ s.count + s.gap + length us)

next : (terse a : Bool) (b : List ℕ) (s t : Met) (us : List (List ℕ)) → (a ≡ true → b ≡ 0x40 ∷ []) → After terse (cond a (skipped s) (added s b)) us t → After terse s (keep (cond terse a false) b us) t
next true true b s t [] e r = r
next true true b s t (u ∷ us) e (p, q) =
    let m = replicate_more {X = ℕ} s.gap 0x40 in
    (p ∙ rw (← m, e refl) (simp append_assoc), omega arith)
next true false b s t [] e (p, q) = (rw append-nil (p ∙ simp append_assoc), omega arith)
next true false b s t (u ∷ us) e (p, q) = (p ∙ simp append_assoc, omega arith)
next false true b s t us e (p, q) =
    let m = replicate_more {X = ℕ} s.gap 0x40 in
    (p ∙ rw (← m, e refl) (simp append_assoc), omega arith)
next false false b s t us e (p, q) = (p ∙ rw append-nil (simp append_assoc), omega arith)

pub absent_null : (F : Form) (v : Val) → absent v ≡ true → encoded F v ≡ 0x40 ∷ []
absent_null F null e = refl
absent_null F (bool _) e = absurd (false≢true e)
absent_null F (uint _) e = absurd (false≢true e)
absent_null F (ulong _) e = absurd (false≢true e)
absent_null F (binary _) e = absurd (false≢true e)
absent_null F (symbol _) e = absurd (false≢true e)
absent_null F (list _) e = absurd (false≢true e)
absent_null F (described _ _) e = absurd (false≢true e)

walk : (F : Form) (vs : Vals) (s : Met) → After F.terse s (kept F vs) (steps F s vs)
unfolding step
walk F nil s = start F.terse
  where
    start : (terse : Bool) → After terse s [] s
    start true = (refl, refl)
    start false = (sym (append-nil (s.bytes ++ replicate s.gap 0x40)), omega arith)
walk F (cons v vs) s =
    next F.terse (absent v) (encoded F v) s (steps F (step F s v) vs) (kept F vs) (absent_null F v) (walk F vs (step F s v))

close_after : (terse : Bool) (us : List (List ℕ)) (t : Met) → After terse none_met us t → ((cond terse t (with_nulls t)).bytes ≡ concat us) × ((cond terse t (with_nulls t)).count ≡ length us)
close_after true [] t (p, q) = (rw p, omega arith)
close_after true (u ∷ us) t (p, q) = (p, omega arith)
close_after false us t (p, q) = (p, omega arith)

-- what `close` answers is the described list of the fields that were met
pub closes : {F : Form} {n code : ℕ} {vs : Vals} {r : ArrayVec ℕ} (s : Met) → r.items ≡ closed F code s → s ≡ steps F none_met vs → array_vec_len r ≤ n → code < 2 ^ 64 → AllRanged vs → Encodes F n (described (ulong code) (list vs)) r
closes {F} {n} {code} {vs} s p e l c a =
    let q = close_after F.terse (kept F vs) (steps F none_met vs) (walk F vs none_met) in
    record { made = p ∙ (ap (λ t. closed F code t) e ∙ rw (q.0, q.1)); len = l; ranged = (c, a) }
