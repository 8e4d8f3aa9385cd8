-- How the threads of an index are kept where a place's key goes, and where one comes.
use Rattle.std.proofs.Common.{◌≡◌, ◌≢◌, ℕ, ◌+◌, ◌<◌, ◌≤◌, ◌%◌, true, false, List, length, get_or, set, replicate, Some, None, Option, IfSome, sym, ap, ◌∙◌, subst, ◌⊎◌, inl, inr, ⊎_elim, arith}
use Rattle.std.proofs.lemmas.Grind.{get_or-set_at}
use Rattle.std.proofs.lemmas.List.{get_or-set_other, get_or-replicate, length-replicate, length-set}
use Rattle.std.proofs.lemmas.Bool.{both_ways, false_from_ne_true}
use Rattle.std.proofs.lemmas.Bool.Decides.{eqb_tells, leb_tells}
use borrow.Author.Tests.{eqb-true}
use Rattle.std.proofs.lemmas.Bool.{eq-eqb}
use Rattle.unsettled.specs.Threads.{in_bucket, key_at, LeadsTo, Threaded, Before}

-- what a search for the place before another ends with
pub stopped : (keys : List (Option ℕ)) (b at place : ℕ) (last : Option ℕ) → Before keys b at last → IfSome last (λ p. p < place) → place ≤ at → Before keys b place last
stopped keys b at place None h w le = λ j l. h j (omega arith)
stopped keys b at place (Some p) h w le = (w, h.1, λ j l m. h.2 j l (omega arith))

-- what a list holds at a place, where it was written at one
pub read_set : {X : Type 0} (xs : List X) (i j : ℕ) (y d : X) → i < length xs → ((j ≡ i) × (get_or (set xs i y) j d ≡ y)) ⊎ ((j ≢ i) × (get_or (set xs i y) j d ≡ get_or xs j d))
read_set xs i j y d lt =
    ⊎_elim (λ s. inl (s.1, get_or-set_at xs i j y d s.1 lt)) (λ s. inr (s.1, get_or-set_other xs i j y d s.1)) (eqb_tells j i)

pub lower_or_not : (j k : ℕ) → (j < k) ⊎ (k ≤ j)
lower_or_not j k = ⊎_elim (λ s. inr s.1) (λ s. inl s.1) (leb_tells k j)

one_bucket : (b c : ℕ) (o : Option ℕ) → in_bucket b o ≡ true → in_bucket c o ≡ true → b ≡ c
one_bucket b c None h k = absurd (cc)
one_bucket b c (Some x) h k = sym (eqb-true _ _ h) ∙ eqb-true _ _ k

clash : (b c : ℕ) (o : Option ℕ) → b ≡ c → in_bucket b o ≡ false → in_bucket c o ≡ true → ⊥
clash b c o e h k = both_ways _ (ap (λ x. in_bucket x o) (sym e) ∙ h) k

lands_at : (keys : List (Option ℕ)) (b from to place : ℕ) → LeadsTo keys b from to → place < 1024 → to ≡ place → in_bucket b (key_at keys place) ≡ true
lands_at keys b from to place h lt e = subst (λ x. in_bucket b (key_at keys x) ≡ true) e (h.lands (omega arith))

-- ---- a place's key goes

leads_out : (keys : List (Option ℕ)) (b from to place : ℕ) → length keys ≡ 1024 → place < 1024 → LeadsTo keys b from to → to ≢ place → LeadsTo (set keys place None) b from to
leads_out keys b from to place n lt h ne =
    record {
      onward = h.onward;
      within = h.within;
      between = λ j l m. ⊎_elim (λ s. ap (in_bucket b) s.1) (λ s. ap (in_bucket b) s.1 ∙ h.between j l m) (read_set keys place j None None (omega arith));
      lands = λ m. ap (in_bucket b) (get_or-set_other keys place to None None ne) ∙ h.lands m;
    }

-- the link over the place
bridged : (keys : List (Option ℕ)) (b from to place : ℕ) → length keys ≡ 1024 → place < 1024 → LeadsTo keys b (place + 1) to → from ≤ place → ((j : ℕ) → from ≤ j → j < place → in_bucket b (key_at keys j) ≡ false) → LeadsTo (set keys place None) b from to
bridged keys b from to place n lt h le gap =
    let up = h.onward in
    record {
      onward = omega arith;
      within = h.within;
      between = λ j l m.
          ⊎_elim (λ s. ap (in_bucket b) s.1)
          (λ s. ap (in_bucket b) s.1 ∙ ⊎_elim (λ a. gap j l a) (λ a. let ne = s.0 in h.between j (omega arith) m) (lower_or_not j place))
          (read_set keys place j None None (omega arith));
      lands = λ m. ap (in_bucket b) (get_or-set_other keys place to None None (omega arith)) ∙ h.lands m;
    }

pub removed_first : (heads next : List ℕ) (keys : List (Option ℕ)) (b place : ℕ) → Threaded heads next keys → place < 1024 → b < 2048 → in_bucket b (key_at keys place) ≡ true → Before keys b place None → Threaded (set heads b (get_or next place 0)) next (set keys place None)
unfolding Threaded
removed_first heads next keys b place t lt lb here none =
    record {
      heads_len = length-set heads b _ ∙ t.heads_len;
      next_len = t.next_len;
      keys_len = length-set keys place None ∙ t.keys_len;
      first = λ c l.
          ⊎_elim
          (λ s.
          let e = sym s.0 in
          subst (LeadsTo (set keys place None) c 0) (sym s.1)
          (bridged keys c 0 _ place t.keys_len lt (t.after c place lt (subst (λ x. in_bucket x (key_at keys place) ≡ true) e here)) (omega arith) (λ j _ m. subst (λ x. in_bucket x (key_at keys j) ≡ false) e (none j m))))
          (λ s.
          subst (LeadsTo (set keys place None) c 0) (sym s.1)
          (leads_out keys c 0 _ place t.keys_len lt (t.first c l) (λ q. s.0 (one_bucket c b _ (lands_at keys c 0 _ place (t.first c l) lt q) here))))
          (read_set heads b c (get_or next place 0) 0 (omega (arith, t.heads_len)));
      after = λ c k l m.
          ⊎_elim (λ s. absurd (both_ways _ (ap (in_bucket c) s.1) m))
          (λ s.
          let was = ap (in_bucket c) (sym s.1) ∙ m in
          let h = t.after c k l was in
          let up = h.onward in
          leads_out keys c (k + 1) _ place t.keys_len lt h
          (λ q. clash b c (key_at keys k) (one_bucket b c _ here (lands_at keys c (k + 1) _ place h lt q)) (none k (omega arith)) was))
          (read_set keys place k None None (omega (arith, t.keys_len)));
    }

pub removed_after : (heads next : List ℕ) (keys : List (Option ℕ)) (b place last : ℕ) → Threaded heads next keys → place < 1024 → in_bucket b (key_at keys place) ≡ true → Before keys b place (Some last) → Threaded heads (set next last (get_or next place 0)) (set keys place None)
unfolding Threaded
removed_after heads next keys b place last t lt here h =
    let below = h.0 in
    record {
      heads_len = t.heads_len;
      next_len = length-set next last _ ∙ t.next_len;
      keys_len = length-set keys place None ∙ t.keys_len;
      first = λ c l.
          let f = t.first c l in
          leads_out keys c 0 _ place t.keys_len lt f
          (λ q. clash c b (key_at keys last) (one_bucket c b _ (lands_at keys c 0 _ place f lt q) here) (f.between last (omega arith) (omega arith)) h.1);
      after = λ c k l m.
          ⊎_elim (λ s. absurd (both_ways _ (ap (in_bucket c) s.1) m))
          (λ s.
          let was = ap (in_bucket c) (sym s.1) ∙ m in
          let f = t.after c k l was in
          let up = f.onward in
          ⊎_elim
          (λ r.
          let e : b ≡ c = one_bucket b c (key_at keys k) (subst (λ x. in_bucket b (key_at keys x) ≡ true) (sym r.0) h.1) was in
          let at = r.0 in
          subst (LeadsTo (set keys place None) c (k + 1)) (sym r.1)
          (bridged keys c (k + 1) _ place t.keys_len lt (t.after c place lt (subst (λ x. in_bucket x (key_at keys place) ≡ true) e here)) (omega arith)
          (λ j a d. subst (λ x. in_bucket x (key_at keys j) ≡ false) e (h.2 j (omega arith) d))))
          (λ r.
          let ne = r.0 in
          subst (LeadsTo (set keys place None) c (k + 1)) (sym r.1)
          (leads_out keys c (k + 1) _ place t.keys_len lt f
          (λ q.
          let e = one_bucket c b _ (lands_at keys c (k + 1) _ place f lt q) here in
          ⊎_elim (λ a. clash c b (key_at keys last) e (f.between last (omega arith) (omega arith)) h.1) (λ a. clash b c (key_at keys k) (sym e) (h.2 k (omega (arith, ne, a)) (omega arith)) was) (lower_or_not k last))))
          (read_set next last k (get_or next place 0) 0 (omega (arith, t.next_len))))
          (read_set keys place k None None (omega (arith, t.keys_len)));
    }

-- ---- a place gets a key

leads_in : (keys : List (Option ℕ)) (b from to place x : ℕ) → length keys ≡ 1024 → place < 1024 → key_at keys place ≡ None → LeadsTo keys b from to → (from ≤ place → place < to → in_bucket b (Some x) ≡ false) → LeadsTo (set keys place (Some x)) b from to
leads_in keys b from to place x n lt free h outside =
    record {
      onward = h.onward;
      within = h.within;
      between = λ j l m.
          ⊎_elim (λ s. let e = s.0 in ap (in_bucket b) s.1 ∙ outside (omega arith) (omega arith)) (λ s. ap (in_bucket b) s.1 ∙ h.between j l m) (read_set keys place j (Some x) None (omega arith));
      lands = λ m.
          ap (in_bucket b) (get_or-set_other keys place to (Some x) None (λ e. both_ways _ (ap (in_bucket b) free) (lands_at keys b from to place h lt e)))
          ∙ h.lands m;
    }

-- the link to the place, and the link on from it
cut : (keys : List (Option ℕ)) (b from to place x : ℕ) → length keys ≡ 1024 → place < 1024 → LeadsTo keys b from to → from ≤ place → place ≤ to → in_bucket b (Some x) ≡ true → LeadsTo (set keys place (Some x)) b from place
cut keys b from to place x n lt h le lo here =
    record {
      onward = le;
      within = omega arith;
      between = λ j l m. ap (in_bucket b) (get_or-set_other keys place j (Some x) None (omega arith)) ∙ h.between j l (omega arith);
      lands = λ m. ap (in_bucket b) (get_or-set_at keys place place (Some x) None (λ i. place) (omega arith)) ∙ here;
    }

rest : (keys : List (Option ℕ)) (b from to place x : ℕ) → LeadsTo keys b from to → from ≤ place → place < to → LeadsTo (set keys place (Some x)) b (place + 1) to
rest keys b from to place x h le lo =
    record {
      onward = omega arith;
      within = h.within;
      between = λ j l m. ap (in_bucket b) (get_or-set_other keys place j (Some x) None (omega arith)) ∙ h.between j (omega arith) m;
      lands = λ m. ap (in_bucket b) (get_or-set_other keys place to (Some x) None (omega arith)) ∙ h.lands m;
    }

-- a link from below a place that has no key, over places without a key of the bucket, leads past it
past : (keys : List (Option ℕ)) (b from to place : ℕ) → place < 1024 → key_at keys place ≡ None → LeadsTo keys b from to → ((j : ℕ) → from ≤ j → j < place → in_bucket b (key_at keys j) ≡ false) → place < to
past keys b from to place lt free h gap =
    let ne : to ≢ place = λ e. both_ways _ (ap (in_bucket b) free) (lands_at keys b from to place h lt e) in
    let up = h.onward in
    ⊎_elim (λ a. absurd (both_ways _ (gap to up a) (h.lands (omega arith)))) (λ a. omega (arith, ne, a)) (lower_or_not to place)

pub inserted_first : (heads next : List ℕ) (keys : List (Option ℕ)) (b place x : ℕ) → Threaded heads next keys → place < 1024 → b < 2048 → key_at keys place ≡ None → b ≡ x % 2048 → Before keys b place None → Threaded (set heads b place) (set next place (get_or heads b 0)) (set keys place (Some x))
unfolding Threaded
inserted_first heads next keys b place x t lt lb free of none =
    let new = set keys place (Some x) in
    let head = t.first b lb in
    let over = past keys b 0 _ place lt free head (λ j _ m. none j m) in
    let mine : in_bucket b (Some x) ≡ true = eq-eqb _ _ (sym of) in
    record {
      heads_len = length-set heads b place ∙ t.heads_len;
      next_len = length-set next place _ ∙ t.next_len;
      keys_len = length-set keys place (Some x) ∙ t.keys_len;
      first = λ c l.
          ⊎_elim
          (λ s.
          subst (LeadsTo new c 0) (sym s.1)
          (subst (λ a. LeadsTo new a 0 place) (sym s.0) (cut keys b 0 _ place x t.keys_len lt head (omega arith) (omega arith) mine)))
          (λ s.
          subst (LeadsTo new c 0) (sym s.1)
          (leads_in keys c 0 _ place x t.keys_len lt free (t.first c l) (λ _ _. false_from_ne_true _ (λ e. s.0 (one_bucket c b (Some x) e mine)))))
          (read_set heads b c place 0 (omega (arith, t.heads_len)));
      after = λ c k l m.
          ⊎_elim
          (λ s.
          let same : b ≡ c = one_bucket b c (Some x) mine (ap (in_bucket c) (sym s.1) ∙ m) in
          let at = s.0 in
          subst (LeadsTo new c (k + 1)) (sym (get_or-set_at next place k (get_or heads b 0) 0 at (omega (arith, t.next_len))))
          (subst (λ a. LeadsTo new c (a + 1) (get_or heads b 0)) (sym at) (subst (λ a. LeadsTo new a (place + 1) (get_or heads b 0)) same (rest keys b 0 _ place x head (omega arith) over))))
          (λ s.
          let was = ap (in_bucket c) (sym s.1) ∙ m in
          subst (LeadsTo new c (k + 1)) (sym (get_or-set_other next place k (get_or heads b 0) 0 s.0))
          (leads_in keys c (k + 1) _ place x t.keys_len lt free (t.after c k l was)
          (λ d _. false_from_ne_true _ (λ e. clash b c (key_at keys k) (one_bucket b c (Some x) mine e) (none k (omega arith)) was))))
          (read_set keys place k (Some x) None (omega (arith, t.keys_len)));
    }

pub inserted_after : (heads next : List ℕ) (keys : List (Option ℕ)) (b place last x : ℕ) → Threaded heads next keys → place < 1024 → key_at keys place ≡ None → b ≡ x % 2048 → Before keys b place (Some last) → Threaded heads (set (set next place (get_or next last 0)) last place) (set keys place (Some x))
unfolding Threaded
inserted_after heads next keys b place last x t lt free of h =
    let new = set keys place (Some x) in
    let below = h.0 in
    let link = t.after b last (omega arith) h.1 in
    let over = past keys b (last + 1) _ place lt free link (λ j l m. h.2 j (omega arith) m) in
    let mine : in_bucket b (Some x) ≡ true = eq-eqb _ _ (sym of) in
    record {
      heads_len = t.heads_len;
      next_len = length-set (set next place (get_or next last 0)) last place ∙ length-set next place _ ∙ t.next_len;
      keys_len = length-set keys place (Some x) ∙ t.keys_len;
      first = λ c l.
          let f = t.first c l in
          leads_in keys c 0 _ place x t.keys_len lt free f
          (λ _ d. false_from_ne_true _ (λ e. clash c b (key_at keys last) (one_bucket c b (Some x) e mine) (f.between last (omega arith) (omega arith)) h.1));
      after = λ c k l m.
          ⊎_elim
          (λ s.
          let same : b ≡ c = one_bucket b c (Some x) mine (ap (in_bucket c) (sym s.1) ∙ m) in
          let at = s.0 in
          let e : get_or (set (set next place (get_or next last 0)) last place) k 0 ≡ get_or next last 0 =
          get_or-set_other (set next place (get_or next last 0)) last k place 0 (omega arith)
          ∙ get_or-set_at next place k (get_or next last 0) 0 at (omega (arith, t.next_len)) in
          subst (LeadsTo new c (k + 1)) (sym e)
          (subst (λ a. LeadsTo new c (a + 1) (get_or next last 0)) (sym at) (subst (λ a. LeadsTo new a (place + 1) (get_or next last 0)) same (rest keys b (last + 1) _ place x link (omega arith) over))))
          (λ s.
          let was = ap (in_bucket c) (sym s.1) ∙ m in
          let f = t.after c k l was in
          ⊎_elim
          (λ r.
          let same : b ≡ c = one_bucket b c (key_at keys k) (subst (λ y. in_bucket b (key_at keys y) ≡ true) (sym r.0) h.1) was in
          subst (LeadsTo new c (k + 1)) (sym r.1)
          (subst (λ a. LeadsTo new c (a + 1) place) (sym r.0) (subst (λ a. LeadsTo new a (last + 1) place) same (cut keys b (last + 1) _ place x t.keys_len lt link (omega arith) (omega arith) mine))))
          (λ r.
          let ne = r.0 in
          subst (LeadsTo new c (k + 1)) (sym (r.1 ∙ get_or-set_other next place k (get_or next last 0) 0 s.0))
          (leads_in keys c (k + 1) _ place x t.keys_len lt free f
          (λ d u. false_from_ne_true _
          (λ e.
          let same = one_bucket b c (Some x) mine e in
          ⊎_elim (λ a. clash c b (key_at keys last) (sym same) (f.between last (omega arith) (omega arith)) h.1) (λ a. clash b c (key_at keys k) same (h.2 k (omega (arith, ne, a)) (omega arith)) was) (lower_or_not k last)))))
          (read_set (set next place (get_or next last 0)) last k place 0 (omega (arith, t.next_len, length-set next place (get_or next last 0)))))
          (read_set keys place k (Some x) None (omega (arith, t.keys_len)));
    }

-- ---- at first

pub unthreaded : Threaded (replicate 2048 1024) (replicate 1024 1024) (replicate 1024 None)
unfolding Threaded
unthreaded =
    record {
      heads_len = length-replicate {A = ℕ} 2048 1024;
      next_len = length-replicate {A = ℕ} 1024 1024;
      keys_len = length-replicate {A = Option ℕ} 1024 None;
      first = λ b l.
          subst (LeadsTo (replicate 1024 None) b 0) (sym (get_or-replicate {A = ℕ} 2048 b 1024 0 l))
          (record {
            onward = omega arith;
            within = omega arith;
            between = λ j _ m. ap (in_bucket b) (get_or-replicate 1024 j None None m);
            lands = λ m. absurd (omega arith);
          });
      after = λ b k l m. absurd (both_ways _ (ap (in_bucket b) (get_or-replicate 1024 k None None l)) m);
    }
