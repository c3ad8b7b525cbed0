-- Whole runs: what holds in every state that is reached, that some event is enabled, and the
-- totals.
use Rattle.std.proofs.Common.{◌≡◌, ℕ, zero, suc, ◌+◌, ◌-◌, ◌<◌, ◌≤◌, ◌⊎◌, inl, inr, true, ◌++◌, length, Some, None, refl, sym, ap, ◌∙◌, subst, arith}
use Rattle.std.proofs.lemmas.Bool.{cases_lt, cases_eq, both_ways}
use Rattle.law_network.specs.Machine.{Net, World, begun, After, left, put, IsWork, IsNext, Event, Part, Write, End, Can, end_of, sum_below}
use Rattle.law_network.specs.Agreement.{Script, Fits, Woven, Ends, Ended, posted, taken, spent}
use Rattle.law_network.proofs.Put.{sum_zero, sum_same, sum_swap, sum_more, put_same, put_other}
use Rattle.law_network.proofs.Steps.{move_kept, met_ok, move_ended, met_ended}
use Rattle.law_network.proofs.Writer.{write_kept, over_kept, write_ended, burst_ended, end_ended, buffer_cases}

module _ {L M C K B : Type 0} (N : Net L M C K B) (S : Script M C)
    (Agrees Gives : ℕ → ℕ → L → Type 0) (Books : ℕ → B → Type 0)
    (fits : Fits N S Agrees Gives Books) where
  pub begun_woven : Woven N S Agrees Books (begun N)
  begun_woven = record {
    agrees = fits.starts;
    queues = λ c. refl;
    pieces = λ k l. refl;
    within = λ k l. omega arith;
    stop_within = omega arith;
    stopped = inl refl;
    behind = λ k l. omega arith;
    one_work = λ k m n b l h o p q. absurd (omega arith);
    book = fits.books_start;
    meter = λ i e. sym (sum_zero N.parts);
  }

  -- what the oracle has to say before a part moves: what it will give
  abbrev pub Foretold : World L M C B → World L M C B → Event → Type 0
  Foretold w v (Part k) = Gives k (v.place k) (v.held k)
  Foretold w v (Write n) = Unit {0}
  Foretold w v End = Unit {0}

  pub event_kept : (w v : World L M C B) → Woven N S Agrees Books w → (e : Event) → Can N w e
      → After N w e v
      → Foretold w v e → Woven N S Agrees Books v
  event_kept w v inv (Part k) can (inl a) g =
      rw a.2 (move_kept N S Agrees Gives Books fits w inv k can a.0 a.1
      (subst (λ n. Gives k n a.0) (put_same w.place k (suc (w.place k)) k refl)
      (subst (Gives k (put w.place k (suc (w.place k)) k)) (put_same w.held k a.0 k refl)
      (subst (λ u. Gives k (u.place k) (u.held k)) a.2 g))))
  event_kept w v inv (Part k) can (inr a) g =
      rw a.2 (met_ok N S Agrees Gives Books fits w inv k can a.0)
  event_kept w v inv (Write n) can (inl a) g =
      rw a.2 (write_kept N S Agrees Gives Books fits w inv n can a.0 a.1)
  event_kept w v inv (Write n) can (inr a) g =
      rw a.1 (over_kept N S Agrees Gives Books fits w inv n)
  event_kept w v inv End can a g = rw a (over_kept N S Agrees Gives Books fits w inv (end_of N w))

  module _ (ends : Ends N S Agrees Books) where
    pub begun_ended : Ended N S (begun N)
    begun_ended = record {
      passed = λ k n l h. absurd (omega arith);
      cause = inl refl;
      fitting = λ n l q. absurd (omega arith);
      ended = λ n e. absurd cc;
    }

    pub event_ended : (w v : World L M C B) → Woven N S Agrees Books w → Ended N S w → (e : Event)
        → Can N w e
        → After N w e v → Ended N S v
    event_ended w v inv old (Part k) can (inl a) =
        rw a.2 (move_ended N S Agrees Gives Books fits w inv ends old k can a.0 a.1)
    event_ended w v inv old (Part k) can (inr a) =
        rw a.2 (met_ended N S Agrees Gives Books fits w inv ends old k can a.1 a.0)
    event_ended w v inv old (Write n) can (inl a) =
        rw a.2 (write_ended N S Agrees Gives Books fits w inv ends old n can a.0 a.1)
    event_ended w v inv old (Write n) can (inr a) =
        rw a.1 (burst_ended N S Agrees Gives Books fits w inv ends old n can a.0)
    event_ended w v inv old End can a =
        rw a (end_ended N S Agrees Gives Books fits w inv ends old can)

  -- the first work from a on that is before b, or none
  first_work : (a b : ℕ) → ((m : ℕ) × (a ≤ m) × (m < b) × IsWork N m
      × ((i : ℕ) → a ≤ i → i < m → IsWork N i → ⊥)) ⊎ ((i : ℕ) → a ≤ i → i < b → IsWork N i → ⊥)
  first_work a zero = inr (λ i l h q. omega arith)
  first_work a (suc b) = go (first_work a b)
    where
      go : ((m : ℕ) × (a ≤ m) × (m < b) × IsWork N m × ((i : ℕ) → a ≤ i → i < m → IsWork N i → ⊥))
          ⊎ ((i : ℕ) → a ≤ i → i < b → IsWork N i → ⊥)
          → ((m : ℕ) × (a ≤ m) × (m < suc b) × IsWork N m
          × ((i : ℕ) → a ≤ i → i < m → IsWork N i → ⊥))
          ⊎ ((i : ℕ) → a ≤ i → i < suc b → IsWork N i → ⊥)
      go (inl f) = inl (f.0, f.1, omega (arith, f.2), f.3, f.4)
      go (inr none) = at (cases_lt b a) (buffer_cases N S Agrees Gives Books fits b)
        where
          last_not : ((i : ℕ) → i ≡ b → a ≤ i → IsWork N i → ⊥) → (i : ℕ) → a ≤ i → i < suc b
              → IsWork N i → ⊥
          last_not absent i l h q = both (cases_eq i b)
            where
              both : (i ≡ b) ⊎ (i ≡ b → ⊥) → ⊥
              both (inl e) = absent i e l q
              both (inr e) = none i l (omega arith) q

          at : (b < a) ⊎ (a ≤ b) → IsWork N b ⊎ (N.buffer (N.way b) ≡ None)
              → ((m : ℕ) × (a ≤ m) × (m < suc b) × IsWork N m
              × ((i : ℕ) → a ≤ i → i < m → IsWork N i → ⊥))
              ⊎ ((i : ℕ) → a ≤ i → i < suc b → IsWork N i → ⊥)
          at (inl h) c = inr (last_not (λ i e l q. omega arith))
          at (inr h) (inl q) = inl (b, h, omega arith, q, none)
          at (inr h) (inr e) = inr (last_not (λ i p l q. clash i p q))
            where
              clash : (i : ℕ) → i ≡ b → IsWork N i → ⊥
              clash i p q = let x : N.buffer (N.way b) ≡ Some q.0 = rw p at q.1 in cc

  -- a part that no other stands behind
  hindmost : (f : ℕ → ℕ) (n : ℕ) → 0 < n → (k : ℕ) × (k < n) × ((j : ℕ) → j < n → f k ≤ f j)
  hindmost f zero l = absurd (omega arith)
  hindmost f (suc n) l = go (hindmost f n) (cases_lt 0 n)
    where
      go : (0 < n → (k : ℕ) × (k < n) × ((j : ℕ) → j < n → f k ≤ f j)) → (0 < n) ⊎ (n ≤ 0)
          → (k : ℕ) × (k < suc n) × ((j : ℕ) → j < suc n → f k ≤ f j)
      go more (inr h) = let z : n ≡ 0 = omega arith in
          (n, omega arith, λ j i. let e : j ≡ n = omega arith in rw e (omega arith))
      go more (inl h) = pick (more h)
        where
          pick : (k : ℕ) × (k < n) × ((j : ℕ) → j < n → f k ≤ f j)
              → (k : ℕ) × (k < suc n) × ((j : ℕ) → j < suc n → f k ≤ f j)
          pick r = less (cases_lt (f n) (f r.0))
            where
              less : (f n < f r.0) ⊎ (f r.0 ≤ f n)
                  → (k : ℕ) × (k < suc n) × ((j : ℕ) → j < suc n → f k ≤ f j)
              less (inl q) = (n, omega arith, λ j i. new j i (cases_eq j n))
                where
                  new : (j : ℕ) → j < suc n → (j ≡ n) ⊎ (j ≡ n → ⊥) → f n ≤ f j
                  new j i (inl e) = rw e (omega arith)
                  new j i (inr e) = omega (arith, r.2 j (omega arith))
              less (inr q) = (r.0, omega (arith, r.1), λ j i. old j i (cases_eq j n))
                where
                  old : (j : ℕ) → j < suc n → (j ≡ n) ⊎ (j ≡ n → ⊥) → f r.0 ≤ f j
                  old j i (inl e) = rw e q
                  old j i (inr e) = r.2 j (omega arith)

  module _ (w : World L M C B) (inv : Woven N S Agrees Books w) (going : w.over ≡ None) where
    writer_can : (m : ℕ) → IsNext N w m → (e : Event) × Can N w e
    writer_can m nx = (Write m, nx)

    -- no sender stands behind the hindmost part
    its_mail : (k : ℕ) → k < N.parts → ((j : ℕ) → j < N.parts → w.place k ≤ w.place j) → (c : C)
        → N.receiver c ≡ k → 0 < N.wants c (N.look (w.held k)) → w.place k ≤ w.place (N.sender c)
    its_mail k l hind c e pos = go (w.place k) refl
      where
        its : N.wants c (N.look (w.held k)) ≡ N.wants c (N.way (w.place k))
        its = ap (N.wants c) (fits.looks k (w.place k) (w.held k) l (inv.agrees k l))

        go : (p : ℕ) → w.place k ≡ p → w.place k ≤ w.place (N.sender c)
        go zero q = omega arith
        go (suc m) q =
            let z : N.wants c (N.look (w.held k)) ≡ length (S.mail c m) =
            its ∙ ap (λ n. N.wants c (N.way n)) q ∙ fits.pairs c m in
            hind (N.sender c) (fits.among c m (omega arith)).0

    pub some_event : (e : Event) × Can N w e
    some_event = choose (hindmost w.place N.parts fits.some_part)
      where
        choose : (k : ℕ) × (k < N.parts) × ((j : ℕ) → j < N.parts → w.place k ≤ w.place j)
            → (e : Event) × Can N w e
        choose h = go (cases_lt (w.place h.0) (end_of N w))
          where
            go : (w.place h.0 < end_of N w) ⊎ (end_of N w ≤ w.place h.0) → (e : Event) × Can N w e
            go (inl before) = work (first_work w.wrote (w.place h.0))
              where
                work : ((m : ℕ) × (w.wrote ≤ m) × (m < w.place h.0) × IsWork N m
                    × ((i : ℕ) → w.wrote ≤ i → i < m → IsWork N i → ⊥))
                    ⊎ ((i : ℕ) → w.wrote ≤ i → i < w.place h.0 → IsWork N i → ⊥)
                    → (e : Event) × Can N w e
                work (inl f) = writer_can f.0
                    (record {
                      going = going;
                      work = f.3;
                      after_wrote = f.1;
                      none_before = f.4;
                      before = omega (arith, f.2);
                      all_in = λ j l. omega (arith, f.2, h.2 j l);
                    })
                work (inr none) = (
                  Part h.0,
                  record {
                    part = h.1;
                    going = going;
                    left_over = ap N.halts
                        (fits.looks h.0 (w.place h.0) (w.held h.0) h.1 (inv.agrees h.0 h.1))
                        ∙ fits.goes_on (w.place h.0) (omega arith);
                    before = omega arith;
                    ready = its_mail h.0 h.1 h.2;
                    near = fits.nears w.place (λ j. N.look (w.held j)) w.wrote h.0 h.1
                        (λ j l. fits.looks j (w.place j) (w.held j) l (inv.agrees j l)) h.2 none;
                    room = λ b m e l i q. none m l i (b, q);
                  },
                )
            go (inr beyond) = work (first_work w.wrote (end_of N w))
              where
                at_end : (j : ℕ) → j < N.parts → (w.stop < N.last) ⊎ (N.last ≤ w.stop)
                    → (N.halts (N.look (w.held j)) ≡ true) ⊎ (w.stop ≤ w.place j)
                at_end j l (inl s) = inr (omega (arith, h.2 j l))
                at_end j l (inr s) =
                    inl (let e : w.place j ≡ N.last = omega (arith, h.2 j l, inv.within j l) in
                    ap N.halts (fits.looks j (w.place j) (w.held j) l (inv.agrees j l))
                    ∙ ap (λ n. N.halts (N.way n)) e ∙ fits.halted)

                work : ((m : ℕ) × (w.wrote ≤ m) × (m < end_of N w) × IsWork N m
                    × ((i : ℕ) → w.wrote ≤ i → i < m → IsWork N i → ⊥))
                    ⊎ ((i : ℕ) → w.wrote ≤ i → i < end_of N w → IsWork N i → ⊥)
                    → (e : Event) × Can N w e
                work (inl f) = writer_can f.0
                    (record {
                      going = going;
                      work = f.3;
                      after_wrote = f.1;
                      none_before = f.4;
                      before = omega (arith, f.2);
                      all_in = λ j l. omega (arith, f.2, h.2 j l);
                    })
                work (inr none) = (
                  End,
                  record {
                    going = going;
                    none_left = none;
                    all_at = λ j l. at_end j l (cases_lt w.stop N.last);
                  },
                )

  -- where the run is done at its last place the meter has risen by all turns of all parts, and no
  -- message is left but those that the last operation posted
  pub done_meter : (w : World L M C B) → Woven N S Agrees Books w → Ends N S Agrees Books
      → Ended N S w
      → w.over ≡ Some N.last → (i : ℕ)
      → w.meter i ≡ sum_below N.last (λ n. sum_below N.parts (λ k. N.cost i k (N.way n)))
  done_meter w inv ends old e i =
      inv.meter i (no_stop inv.stopped old.cause)
      ∙ sum_same N.parts (λ k. spent N i k (w.place k)) (λ k. spent N i k N.last)
      (λ k l. ap (spent N i k) ((old.ended N.last e).2 refl k l))
      ∙ sum_swap N.parts N.last (λ k n. N.cost i k (N.way n))
    where
      no_stop : (w.stop ≡ N.most)
          ⊎ ((k : ℕ) × (k < N.parts) × (w.place k ≡ w.stop) × (w.stop < N.last))
          → (w.stop ≡ N.most) ⊎ ((k : ℕ) × (k < N.parts) × (S.faulty k w.stop ≡ true))
          → w.stop ≡ N.most
      no_stop (inl q) c = q
      no_stop (inr h) (inl q) = q
      no_stop (inr h) (inr f) = let z : N.last ≡ S.ends = (old.ended N.last e).0 in
          absurd (both_ways (S.faulty f.0 w.stop) (ends.quiet f.0 w.stop f.1 (omega (arith, h.3)))
          f.2)

  pub done_queues : (w : World L M C B) → Woven N S Agrees Books w → Ended N S w
      → w.over ≡ Some N.last → (c : C)
      → N.sender c < N.parts → N.receiver c < N.parts
      → posted S c N.last ≡ taken S c N.last ++ w.queue c
  done_queues w inv old e c s r =
      let p : w.place (N.sender c) ≡ N.last = (old.ended N.last e).2 refl (N.sender c) s in
      let q : w.place (N.receiver c) ≡ N.last = (old.ended N.last e).2 refl (N.receiver c) r in
      rw (p, q) at (inv.queues c)

  -- each event lessens what is left
  pub falls : (w v : World L M C B) → Woven N S Agrees Books w → (e : Event) → Can N w e
      → After N w e v
      → left N v < left N w
  falls w v inv (Part k) can (inl a) = rw a.2 (
      let s : sum_below N.parts (λ j. N.most - w.place j)
      ≡ sum_below N.parts (λ j. N.most - put w.place k (suc (w.place k)) j) + 1 =
      sum_more N.parts k 1 (λ j. N.most - put w.place k (suc (w.place k)) j)
      (λ j. N.most - w.place j) can.part
      (rw (put_same w.place k (suc (w.place k)) k refl)
      (omega (arith, can.before, inv.stop_within)))
      (λ j e. ap (λ x. N.most - x) (sym (put_other w.place k (suc (w.place k)) j e))) in
      omega arith)
  falls w v inv (Part k) can (inr a) = rw a.2 (omega (arith, can.before))
  falls w v inv (Write n) can (inl a) =
      rw a.2 (omega (arith, can.after_wrote, can.before, inv.stop_within))
  falls w v inv (Write n) can (inr a) = rw (a.1, can.going) (omega arith)
  falls w v inv End can a = rw (a, can.going) (omega arith)
