-- What holds by one script holds by each other one that is the same before every part's place. So
-- the way may be found out as the parts go: what a part will give can still be chosen as long as no
-- part has passed the operation that takes it.
use Rattle.std.proofs.Common.{◌≡◌, ℕ, zero, suc, ◌<◌, ◌≤◌, ◌⊎◌, inl, inr, ◌++◌, length, refl, sym, ap, ◌∙◌, subst, arith, length-append}
use Rattle.std.proofs.lemmas.Bool.{cases_lt}
use Rattle.law_network.specs.Machine.{Net, World}
use Rattle.law_network.specs.Agreement.{Script, Woven, posted, taken, to_writer, spent}
use Rattle.law_network.proofs.Put.{sum_same}
use Rattle.law_network.proofs.Queues.{posted_upto}

pub posted_same : {M C : Type 0} (S T : Script M C) (c : C) (n : ℕ)
    → ((m : ℕ) → m < n → T.mail c m ≡ S.mail c m)
    → posted T c n ≡ posted S c n
posted_same S T c zero h = refl
posted_same S T c (suc n) h =
    rw (posted_same S T c n (λ m l. h m (omega arith)), h n (omega arith)) refl

pub taken_same : {M C : Type 0} (S T : Script M C) (c : C) (n : ℕ)
    → ((m : ℕ) → suc m < n → T.mail c m ≡ S.mail c m)
    → taken T c n ≡ taken S c n
taken_same S T c zero h = refl
taken_same S T c (suc n) h = posted_same S T c n (λ m l. h m (omega arith))

module _ {L M C K B : Type 0} (N : Net L M C K B) (S : Script M C) (Agrees : ℕ → ℕ → L → Type 0)
    (Books : ℕ → B → Type 0) (w : World L M C B) (inv : Woven N S Agrees Books w) where
  -- where a message stands at place m and its sender hasn't passed that place, its receiver hasn't
  -- passed the next one
  pub not_taken : (c : C) (m : ℕ) → 0 < length (S.mail c m) → w.place (N.sender c) ≤ m
      → w.place (N.receiver c) ≤ suc m
  not_taken c m some l = go (cases_lt (suc m) (w.place (N.receiver c)))
    where
      go : (suc m < w.place (N.receiver c)) ⊎ (w.place (N.receiver c) ≤ suc m)
          → w.place (N.receiver c) ≤ suc m
      go (inr h) = h
      go (inl h) = by (w.place (N.receiver c)) refl
        where
          by : (p : ℕ) → w.place (N.receiver c) ≡ p → w.place (N.receiver c) ≤ suc m
          by zero e = omega arith
          by (suc p) e =
              let q : posted S c (w.place (N.sender c)) ≡ posted S c p ++ w.queue c =
              rw e at (inv.queues c) in
              let a = posted_upto S c (w.place (N.sender c)) m l in
              let b = posted_upto S c (suc m) p (omega arith) in
              absurd
              (omega (
                arith,
                some,
                ap length q,
                length-append (posted S c p) (w.queue c),
                ap length a.1,
                length-append (posted S c (w.place (N.sender c))) a.0,
                ap length b.1,
                length-append (posted S c m ++ S.mail c m) b.0,
                length-append (posted S c m) (S.mail c m),
              ))

  module _ (way : ℕ → K) (last : ℕ) (T : Script M C) (Fits : ℕ → ℕ → L → Type 0)
      (Kept : ℕ → B → Type 0) where
    -- the same net on another way
    abbrev pub on_way : Net L M C K B
    on_way = record N { way = way; last = last }

    -- the other script has the same way up to each part's place, the same mail as far as it was
    -- posted or taken, and the same pieces as far as they were handed in
    pub prefix_kept : ((k m : ℕ) → k < N.parts → m ≤ w.place k → way m ≡ N.way m)
        → ((k : ℕ) → k < N.parts → w.place k ≤ N.last → w.place k ≤ last)
        → ((k : ℕ) → k < N.parts → w.place k < N.last → w.place k < last)
        → ((c : C) (m : ℕ) → m < w.place (N.sender c) → T.mail c m ≡ S.mail c m)
        → ((c : C) (m : ℕ) → suc m < w.place (N.receiver c) → T.mail c m ≡ S.mail c m)
        → ((k m : ℕ) → k < N.parts → m < w.place k → T.piece k m ≡ S.piece k m)
        → ((k : ℕ) (x : L) → k < N.parts → Agrees k (w.place k) x → Fits k (w.place k) x)
        → (Books w.wrote w.book → Kept w.wrote w.book)
        → Woven on_way T Fits Kept w
    prefix_kept ways lasts inner sent got pieces agree books = record {
      agrees = λ k l. agree k (w.held k) l (inv.agrees k l);
      queues = λ c. posted_same S T c (w.place (N.sender c)) (sent c)
          ∙ inv.queues c
          ∙ ap (λ xs. xs ++ w.queue c) (sym (taken_same S T c (w.place (N.receiver c)) (got c)));
      pieces = λ k l. posted_same (to_writer S) (to_writer T) k (w.place k) (λ m h. pieces k m l h)
          ∙ inv.pieces k l
          ∙ ap (λ xs. xs ++ w.pieces k)
          (sym (posted_same (to_writer S) (to_writer T) k w.wrote
          (λ m h. pieces k m l (omega (arith, inv.behind k l)))));
      within = λ k l. lasts k l (inv.within k l);
      stop_within = inv.stop_within;
      stopped = still inv.stopped;
      behind = inv.behind;
      one_work = λ k m i b l h o p q.
          inv.one_work k m i b l h o (ap N.buffer (sym (ways k m l (omega arith))) ∙ p)
          (ap N.buffer (sym (ways k i l (omega arith))) ∙ q);
      book = books inv.book;
      meter = λ i e. inv.meter i e
          ∙ sum_same N.parts (λ k. spent N i k (w.place k)) (λ k. spent on_way i k (w.place k))
          (λ k l. sum_same (w.place k) (λ n. N.cost i k (N.way n)) (λ n. N.cost i k (way n))
          (λ n h. ap (N.cost i k) (sym (ways k n l (omega arith)))));
    }
      where
        still : (w.stop ≡ N.most)
            ⊎ ((k : ℕ) × (k < N.parts) × (w.place k ≡ w.stop) × (w.stop < N.last))
            → (w.stop ≡ N.most) ⊎ ((k : ℕ) × (k < N.parts) × (w.place k ≡ w.stop) × (w.stop < last))
        still (inl e) = inl e
        still (inr h) = inr (h.0, h.1, h.2, subst (λ n. n < last) h.2 (inner h.0 h.1 (rw h.2 h.3)))

-- ---- an oracle

-- the other way, script and agreement differ in what part k gives at place p alone, which only the
-- operations behind the next one see
pub record Frees {L M C K B : Type 0} (N : Net L M C K B) (S : Script M C)
    (Agrees : ℕ → ℕ → L → Type 0) (Books : ℕ → B → Type 0) (way : ℕ → K) (last : ℕ) (T : Script M C)
    (Fits : ℕ → ℕ → L → Type 0) (Kept : ℕ → B → Type 0) (k p : ℕ) : Type 0 where
  pub ways : (m : ℕ) → m ≤ suc p → way m ≡ N.way m
  pub lasts : (m : ℕ) → m ≤ suc p → m ≤ N.last → m ≤ last
  pub inner : (m : ℕ) → m ≤ suc p → m < N.last → m < last
  pub mails : (c : C) (m : ℕ) → (N.sender c ≡ k → m ≡ p → ⊥) → m ≤ suc p → T.mail c m ≡ S.mail c m
  -- on a channel that has no two parts at its ends there is nothing
  pub others : (c : C) (m : ℕ) → (N.sender c < N.parts → ⊥) ⊎ (N.receiver c < N.parts → ⊥)
      → T.mail c m ≡ S.mail c m
  pub pieces : (j m : ℕ) → m ≤ suc p → T.piece j m ≡ S.piece j m
  pub agrees : (j m : ℕ) (x : L) → (j ≡ k → m ≡ p → ⊥) → m ≤ suc p → Agrees j m x → Fits j m x
  pub books : (m : ℕ) (b : B) → m ≤ suc p → Books m b → Kept m b
  -- it gives to all parts there
  pub to_all : (j : ℕ) → j < N.parts
      → (c : C) × (N.sender c ≡ k) × (N.receiver c ≡ j) × (0 < length (S.mail c p))

module _ {L M C K B : Type 0} (N : Net L M C K B) (S : Script M C) (Agrees : ℕ → ℕ → L → Type 0)
    (Books : ℕ → B → Type 0) (way : ℕ → K) (last : ℕ) (T : Script M C) (Fits : ℕ → ℕ → L → Type 0)
    (Kept : ℕ → B → Type 0) (k p : ℕ) (frees : Frees N S Agrees Books way last T Fits Kept k p)
    (w : World L M C B) (inv : Woven N S Agrees Books w) where
  -- no part has passed the operation that takes what part k has still to give
  all_near : w.place k ≤ p → (j : ℕ) → j < N.parts → w.place j ≤ suc p
  all_near l j h =
      let c = frees.to_all j h in
      subst (λ i. w.place i ≤ suc p) c.2
      (not_taken N S Agrees Books w inv c.0 p c.3 (subst (λ i. w.place i ≤ p) (sym c.1) l))

  pub oracle_kept : k < N.parts → w.place k < p
      → Woven (on_way N S Agrees Books w inv way last T Fits Kept) T Fits Kept w
  oracle_kept kp l =
      prefix_kept N S Agrees Books w inv way last T Fits Kept
      (λ j m h i. frees.ways m (omega (arith, near j h)))
      (λ j h i. frees.lasts (w.place j) (near j h) i)
      (λ j h i. frees.inner (w.place j) (near j h) i)
      (λ c m h. sent c m h (cases_lt (N.sender c) N.parts))
      (λ c m h. got c m h (cases_lt (N.receiver c) N.parts))
      (λ j m h i. frees.pieces j m (omega (arith, near j h)))
      (λ j x h a. frees.agrees j (w.place j) x
      (λ e f. let q : w.place k ≡ p = subst (λ i. w.place i ≡ p) e f in omega arith) (near j h)
      a)
      (λ b. frees.books w.wrote w.book (omega (arith, inv.behind k kp)) b)
    where
      near : (j : ℕ) → j < N.parts → w.place j ≤ suc p
      near = all_near (omega arith)

      sent : (c : C) (m : ℕ) → m < w.place (N.sender c)
          → (N.sender c < N.parts) ⊎ (N.parts ≤ N.sender c) → T.mail c m ≡ S.mail c m
      sent c m h (inr o) = frees.others c m (inl (λ i. omega arith))
      sent c m h (inl i) = frees.mails c m
          (λ e f. let q : w.place (N.sender c) ≡ w.place k = ap w.place e in omega arith)
          (omega (arith, near (N.sender c) i))

      got : (c : C) (m : ℕ) → suc m < w.place (N.receiver c)
          → (N.receiver c < N.parts) ⊎ (N.parts ≤ N.receiver c) → T.mail c m ≡ S.mail c m
      got c m h (inr o) = frees.others c m (inr (λ i. omega arith))
      got c m h (inl i) = frees.mails c m (λ e f. omega (arith, near (N.receiver c) i))
          (omega (arith, near (N.receiver c) i))
