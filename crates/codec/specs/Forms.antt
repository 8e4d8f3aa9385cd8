-- Both forms are lawful.
use Rattle.std.specs.Prelude.{◌≡◌, ℕ, ◌+◌, ◌<◌, ◌≤◌, Bool, true, false, cond, List, [], ◌∷◌, ◌++◌, length, ◌==◌, nat_lt, refl}
use Rattle.std.proofs.Common.{arith, lit≤}
use Rattle.std.proofs.lemmas.Bool.{eqb-true, ltb-true, eq-eqb, ne_eqb, false≢true}
use Rattle.amqp.specs.Tags.{be4}
use Rattle.codec.specs.Amqp.{Val, Vals, nil, cons, count, bool, uint, ulong, list, be8, Means, MeanAll, none, true_41, false_42, true_56, false_56, uint_43, uint_52, uint_70, ulong_44, ulong_53, ulong_80, binary_a0, binary_b0, symbol_a3, symbol_b3, list_45, list_c0, list_d0}
use Rattle.codec.specs.Compact.{compact_form}
use Rattle.codec.specs.Wide.{wide_form}
use Rattle.codec.specs.Laws.{Lawful}

shortest_size : (x : ℕ) (a b : Bool) (i j k : ℕ) (ys : List ℕ) → 1 ≤ length ys → (1 ≤ length (cond a (i ∷ []) (cond b (j ∷ x ∷ []) (k ∷ ys)))) × (length (cond a (i ∷ []) (cond b (j ∷ x ∷ []) (k ∷ ys))) ≤ length (k ∷ ys))
shortest_size x true b i j k ys l = (omega arith, omega arith)
shortest_size x false true i j k ys l = (omega arith, omega arith)
shortest_size x false false i j k ys l = (omega arith, omega arith)

shortest_means : (v : ℕ → Val) (i j k : ℕ) (ys : List ℕ) (x : ℕ) (a b : Bool) → (x == 0) ≡ a → nat_lt x 256 ≡ b → Means (i ∷ []) (v 0) → (x < 256 → Means (j ∷ x ∷ []) (v x)) → Means (k ∷ ys) (v x) → Means (cond a (i ∷ []) (cond b (j ∷ x ∷ []) (k ∷ ys))) (v x)
shortest_means v i j k ys x true b e f nought small wide = rw (eqb-true x 0 e) nought
shortest_means v i j k ys x false true e f nought small wide = small (ltb-true x 256 f)
shortest_means v i j k ys x false false e f nought small wide = wide

compact_bool : (b : Bool) → Means (cond b 0x41 0x42 ∷ []) (bool b)
compact_bool true = true_41
compact_bool false = false_42

wide_bool : (b : Bool) → Means (0x56 ∷ cond b 1 0 ∷ []) (bool b)
wide_bool true = true_56
wide_bool false = false_56

compact_list : (b : List ℕ) (vs : Vals) → length b ≤ 252 → count vs ≤ 252 → MeanAll b vs → Means (compact_form.lists (count vs) (length b) ++ b) (list vs)
compact_list _ nil l m none = list_45
compact_list b (cons v vs) l m a =
    rw (ne_eqb (count (cons v vs)) 0 (λ e. omega arith)) (list_c0 {b = b} {vs = cons v vs} (omega arith) (omega arith) a)

wide_list : (b : List ℕ) (vs : Vals) → length b ≤ 252 → count vs ≤ 252 → MeanAll b vs → Means (wide_form.lists (count vs) (length b) ++ b) (list vs)
wide_list b vs l m a = list_d0 {b = b} {vs = vs} (omega arith) (omega arith) a

front_size : (a b : Bool) (n k : ℕ) (x y : ℕ) → (b ≡ true → a ≡ true) → length (cond a (0x45 ∷ []) (0xc0 ∷ n ∷ x ∷ [])) ≤ length (cond b (0x45 ∷ []) (0xc0 ∷ k ∷ y ∷ []))
front_size true true n k x y e = omega arith
front_size true false n k x y e = omega arith
front_size false true n k x y e = absurd (false≢true (e refl))
front_size false false n k x y e = omega arith

front_bounds : (a : Bool) (n x : ℕ) → (1 ≤ length (cond a (0x45 ∷ []) (0xc0 ∷ n ∷ x ∷ []))) × (length (cond a (0x45 ∷ []) (0xc0 ∷ n ∷ x ∷ [])) ≤ 9)
front_bounds true n x = (omega arith, omega arith)
front_bounds false n x = (omega arith, omega arith)

pub compact_lawful : Lawful compact_form
compact_lawful =
    record {
      meaning =
          record {
            booleans = compact_bool;
            uints = λ x r. shortest_means uint 0x43 0x52 0x70 (be4 x) x (x == 0) (nat_lt x 256) refl refl uint_43 uint_52 (uint_70 r);
            ulongs = λ x r. shortest_means ulong 0x44 0x53 0x80 (be8 x) x (x == 0) (nat_lt x 256) refl refl ulong_44 ulong_53 (ulong_80 r);
            binaries = λ b l. binary_a0 l;
            symbols = λ b l. symbol_a3 l;
            lists = compact_list;
          };
      sizes =
          record {
            booleans = λ b. refl;
            uints = λ x. (shortest_size x (x == 0) (nat_lt x 256) 0x43 0x52 0x70 (be4 x) (lit≤ tt)).1;
            lists = λ m n k l e. front_size (m == 0) (n == 0) (k + 1) (l + 1) m n (λ z. eq-eqb m 0 (e (eqb-true n 0 z)));
            some_booleans = λ b. omega arith;
            some_uints = λ x. (shortest_size x (x == 0) (nat_lt x 256) 0x43 0x52 0x70 (be4 x) (lit≤ tt)).0;
            some_ulongs = λ x. (shortest_size x (x == 0) (nat_lt x 256) 0x44 0x53 0x80 (be8 x) (lit≤ tt)).0;
            some_binaries = λ n. omega arith;
            some_symbols = λ n. omega arith;
            some_lists = λ m k. (front_bounds (m == 0) (k + 1) m).0;
          };
      bounds =
          record {
            booleans = λ b. omega arith;
            uints = λ x. (shortest_size x (x == 0) (nat_lt x 256) 0x43 0x52 0x70 (be4 x) (lit≤ tt)).1;
            ulongs = λ x. (shortest_size x (x == 0) (nat_lt x 256) 0x44 0x53 0x80 (be8 x) (lit≤ tt)).1;
            binaries = λ n. omega arith;
            symbols = λ n. omega arith;
            lists = λ m k. (front_bounds (m == 0) (k + 1) m).1;
          };
    }

pub wide_lawful : Lawful wide_form
wide_lawful =
    record {
      meaning =
          record {
            booleans = wide_bool;
            uints = λ x r. uint_70 r;
            ulongs = λ x r. ulong_80 r;
            binaries = λ b l. binary_b0 {b = b} (omega arith);
            symbols = λ b l. symbol_b3 {b = b} (omega arith);
            lists = wide_list;
          };
      sizes =
          record {
            booleans = λ b. refl;
            uints = λ x. omega arith;
            lists = λ m n k l e. omega arith;
            some_booleans = λ b. omega arith;
            some_uints = λ x. omega arith;
            some_ulongs = λ x. omega arith;
            some_binaries = λ n. omega arith;
            some_symbols = λ n. omega arith;
            some_lists = λ m k. omega arith;
          };
      bounds =
          record {
            booleans = λ b. omega arith;
            uints = λ x. omega arith;
            ulongs = λ x. omega arith;
            binaries = λ n. omega arith;
            symbols = λ n. omega arith;
            lists = λ m k. omega arith;
          };
    }
