-- The writer's events keep what holds in every state, and report the undivided run's end.
use Rattle.std.proofs.Common.{◌≡◌, ℕ, zero, suc, ◌<◌, ◌≤◌, ◌⊎◌, inl, inr, true, false, ◌++◌, length, take, drop, Option, Some, None, refl, sym, ap, ◌∙◌, subst, arith}
use Rattle.std.proofs.lemmas.List.{append-nil}
use Rattle.std.proofs.lemmas.Bool.{cases_lt, cases_eq, both_ways}
use Rattle.law_network.specs.Machine.{Net, World, wrote_at, over_at, fronts, end_of, IsWork, IsNext, CanEnd}
use Rattle.law_network.specs.Agreement.{Script, Fits, Woven, Ends, Ended, posted, to_writer, handed}
use Rattle.law_network.proofs.Queues.{take_front, there}

module _ {L M C K B : Type 0} (N : Net L M C K B) (S : Script M C)
    (Agrees Gives : ℕ → ℕ → L → Type 0) (Books : ℕ → B → Type 0)
    (fits : Fits N S Agrees Gives Books) where
  pub buffer_cases : (n : ℕ) → IsWork N n ⊎ (N.buffer (N.way n) ≡ None)
  buffer_cases n = go (N.buffer (N.way n)) refl
    where
      go : (o : Option ℕ) → N.buffer (N.way n) ≡ o → IsWork N n ⊎ (N.buffer (N.way n) ≡ None)
      go None e = inr e
      go (Some b) e = inl (b, e)

  -- where there is no work nothing is handed in
  handed_still : (k a b : ℕ) → a ≤ b → ((m : ℕ) → a ≤ m → m < b → IsWork N m → ⊥)
      → handed S k b ≡ handed S k a
  handed_still k a zero l none = let e : a ≡ 0 = omega arith in rw e refl
  handed_still k a (suc b) l none = go (handed_still k a b) (cases_lt b a)
    where
      go : (a ≤ b → ((m : ℕ) → a ≤ m → m < b → IsWork N m → ⊥) → handed S k b ≡ handed S k a)
          → (b < a) ⊎ (a ≤ b) → handed S k (suc b) ≡ handed S k a
      go more (inl h) = let e : a ≡ suc b = omega arith in rw e refl
      go more (inr h) = still (buffer_cases b)
        where
          still : IsWork N b ⊎ (N.buffer (N.way b) ≡ None) → handed S k (suc b) ≡ handed S k a
          still (inl q) = absurd (none b h (omega arith) q)
          still (inr q) = rw (fits.no_piece k b q)
              (append-nil (handed S k b) ∙ more h (λ m x y. none m x (omega arith)))

  module _ (w : World L M C B) (inv : Woven N S Agrees Books w) where
    -- at the writer's next work the piece of each part is at the front, and is the undivided run's
    pub next_piece : (n : ℕ) → IsNext N w n → (k : ℕ) → k < N.parts
        → (take 1 (w.pieces k) ≡ S.piece k n)
        × (handed S k (w.place k) ≡ handed S k (suc n) ++ drop 1 (w.pieces k))
    next_piece n nx k l =
        let e : posted (to_writer S) k (w.place k) ≡ posted (to_writer S) k n ++ w.pieces k =
        inv.pieces k l ∙ ap (λ xs. xs ++ w.pieces k)
        (sym (handed_still k w.wrote n nx.after_wrote nx.none_before)) in
        let one : length (S.piece k n) ≡ 1 = fits.piece k n nx.work.0 nx.work.1 in
        take_front (to_writer S) k (suc n) (w.place k) 1 (w.pieces k) e (sym one)
        (rw (← one) (there (to_writer S) k n (w.place k) (w.pieces k) e (nx.all_in k l)))

    written : (n : ℕ) → ((m : ℕ) → w.wrote ≤ m → m < n → IsWork N m → ⊥) → (m : ℕ) → m < n
        → IsWork N m → m < w.wrote
    written n none m l q = go (cases_lt m w.wrote)
      where
        go : (m < w.wrote) ⊎ (w.wrote ≤ m) → m < w.wrote
        go (inl h) = h
        go (inr h) = absurd (none m h l q)

    -- the next work stands before the last place
    next_inside : (n : ℕ) → IsNext N w n → n < N.last
    next_inside n nx = omega (arith, nx.all_in 0 fits.some_part, inv.within 0 fits.some_part)

    -- what the writer keeps is that of all works before its next one
    book_at : (b : B) (a n : ℕ) → a ≤ n → ((m : ℕ) → a ≤ m → m < n → IsWork N m → ⊥) → Books a b
        → Books n b
    book_at b a zero l none h = let e : a ≡ 0 = omega arith in subst (λ i. Books i b) e h
    book_at b a (suc n) l none h = go (book_at b a n) (cases_lt n a)
      where
        go : (a ≤ n → ((m : ℕ) → a ≤ m → m < n → IsWork N m → ⊥) → Books a b → Books n b)
            → (n < a) ⊎ (a ≤ n) → Books (suc n) b
        go more (inl i) = let e : a ≡ suc n = omega arith in subst (λ i. Books i b) e h
        go more (inr i) = still (buffer_cases n)
          where
            still : IsWork N n ⊎ (N.buffer (N.way n) ≡ None) → Books (suc n) b
            still (inl q) = absurd (none n i (omega arith) q)
            still (inr q) = fits.books_stay n b q (more i (λ m x y. none m x (omega arith)) h)

    next_book : (n : ℕ) → IsNext N w n → Books n w.book
    next_book n nx = book_at w.book w.wrote n nx.after_wrote nx.none_before inv.book

    pub write_kept : (n : ℕ) → IsNext N w n → (b : B) → N.Writes n (fronts w) w.book (Some b)
        → Woven N S Agrees Books (wrote_at w n b)
    write_kept n nx b did = record {
      agrees = inv.agrees;
      queues = inv.queues;
      pieces = λ k l. (next_piece n nx k l).1;
      within = inv.within;
      stop_within = inv.stop_within;
      stopped = inv.stopped;
      behind = nx.all_in;
      one_work = λ k m i b l h o p q. omega (arith, inv.one_work k m i b l h o p q, nx.after_wrote);
      book = fits.books n w.book b (fronts w) nx.work (next_inside n nx) (next_book n nx)
          (λ k l. (next_piece n nx k l).0) did;
      meter = inv.meter;
    }

    pub over_kept : (n : ℕ) → Woven N S Agrees Books (over_at w n)
    over_kept n = record {
      agrees = inv.agrees;
      queues = inv.queues;
      pieces = inv.pieces;
      within = inv.within;
      stop_within = inv.stop_within;
      stopped = inv.stopped;
      behind = inv.behind;
      one_work = inv.one_work;
      book = inv.book;
      meter = inv.meter;
    }

    not_over : {m : ℕ} → w.over ≡ None → w.over ≡ Some m → ⊥
    not_over a b = cc

    some_is : {A : Type 0} {a b : A} → Some a ≡ Some b → a ≡ b
    some_is e = cc

    module _ (ends : Ends N S Agrees Books) (old : Ended N S w) where
      -- the undivided run's end isn't before a place that all parts have reached, with all works
      -- before it written
      pub not_past : (n : ℕ) → n ≤ N.last → ((k : ℕ) → k < N.parts → n ≤ w.place k)
          → ((m : ℕ) → m < n → IsWork N m → m < w.wrote) → n ≤ S.ends
      not_past n l at done = go (cases_lt S.ends n)
        where
          clash : S.ends < n → (S.ends ≡ N.last)
              ⊎ (((k : ℕ) × (k < N.parts) × (S.faulty k S.ends ≡ true))
              ⊎ (IsWork N S.ends × (S.full S.ends ≡ true))) → ⊥
          clash h (inl e) = omega arith
          clash h (inr (inl f)) =
              both_ways (S.faulty f.0 S.ends)
              (old.passed f.0 S.ends f.1 (omega (arith, at f.0 f.1))) f.2
          clash h (inr (inr f)) =
              both_ways (S.full S.ends) (old.fitting S.ends (done S.ends h f.0) f.0) f.1

          go : (S.ends < n) ⊎ (n ≤ S.ends) → n ≤ S.ends
          go (inl h) = absurd (clash h ends.cause)
          go (inr h) = h

      -- no part's end is before the undivided run's
      pub ends_first : S.ends ≤ w.stop
      ends_first = go old.cause (cases_lt w.stop S.ends)
        where
          go : (w.stop ≡ N.most) ⊎ ((k : ℕ) × (k < N.parts) × (S.faulty k w.stop ≡ true))
              → (w.stop < S.ends) ⊎ (S.ends ≤ w.stop) → S.ends ≤ w.stop
          go c (inr h) = h
          go (inl e) (inl h) = omega (arith, ends.within, fits.within_most)
          go (inr f) (inl h) = absurd
              (both_ways (S.faulty f.0 w.stop) (ends.quiet f.0 w.stop f.1 h) f.2)

      -- the writer's next work isn't after the undivided run's end
      next_within : (n : ℕ) → IsNext N w n → n ≤ S.ends
      next_within n nx = not_past n (omega (arith, next_inside n nx))
          (λ k l. omega (arith, nx.all_in k l)) (written n nx.none_before)

      pub write_ended : (n : ℕ) → IsNext N w n → (b : B) → N.Writes n (fronts w) w.book (Some b)
          → Ended N S (wrote_at w n b)
      write_ended n nx b did = record {
        passed = old.passed;
        cause = old.cause;
        fitting = fit;
        ended = λ m e. absurd (not_over nx.going e);
      }
        where
          f : S.full n ≡ false
          f = ends.bursts n w.book (fronts w) nx.work (next_inside n nx) (next_book n nx)
              (λ k l. (next_piece n nx k l).0) (Some b) did

          at_last : (m : ℕ) → IsWork N m → m < suc n → (m ≡ n) ⊎ (m ≡ n → ⊥) → S.full m ≡ false
          at_last m q l (inl e) = rw e f
          at_last m q l (inr e) = old.fitting m (written n nx.none_before m (omega arith) q) q

          fit : (m : ℕ) → m < suc n → IsWork N m → S.full m ≡ false
          fit m l q = at_last m q l (cases_eq m n)

      pub burst_ended : (n : ℕ) → IsNext N w n → N.Writes n (fronts w) w.book None
          → Ended N S (over_at w n)
      burst_ended n nx did = record {
        passed = old.passed;
        cause = old.cause;
        fitting = old.fitting;
        ended = λ m e. report m (sym (some_is e));
      }
        where
          f : S.full n ≡ true
          f = ends.bursts n w.book (fronts w) nx.work (next_inside n nx) (next_book n nx)
              (λ k l. (next_piece n nx k l).0) None did

          is_end : n ≡ S.ends
          is_end = go (cases_lt n S.ends)
            where
              go : (n < S.ends) ⊎ (S.ends ≤ n) → n ≡ S.ends
              go (inl h) = absurd (both_ways (S.full n) (ends.fitting n h nx.work) f)
              go (inr h) = omega (arith, next_within n nx)

          report : (m : ℕ) → m ≡ n
              → (m ≡ S.ends) × ((i : ℕ) → i < m → IsWork N i → i < w.wrote)
              × (m ≡ N.last → (k : ℕ) → k < N.parts → w.place k ≡ N.last)
          report m e = rw e (
            is_end,
            written n nx.none_before,
            λ p. absurd (omega (arith, next_inside n nx)),
          )

      -- where an end may be reported all parts stand at or behind it
      reached : CanEnd N w → (k : ℕ) → k < N.parts → end_of N w ≤ w.place k
      reached can k l = go (can.all_at k l)
        where
          at_last : N.halts (N.look (w.held k)) ≡ true → w.place k ≡ N.last
          at_last h = by (cases_eq (w.place k) N.last)
            where
              by : (w.place k ≡ N.last) ⊎ (w.place k ≡ N.last → ⊥) → w.place k ≡ N.last
              by (inl e) = e
              by (inr n) =
                  absurd (both_ways (N.halts (N.look (w.held k)))
                  (ap N.halts (fits.looks k (w.place k) (w.held k) l (inv.agrees k l))
                  ∙ fits.goes_on (w.place k) (omega (arith, inv.within k l))) h)

          go : (N.halts (N.look (w.held k)) ≡ true) ⊎ (w.stop ≤ w.place k) → end_of N w ≤ w.place k
          go (inl h) = omega (arith, at_last h)
          go (inr h) = omega arith

      pub end_ended : CanEnd N w → Ended N S (over_at w (end_of N w))
      end_ended can = record {
        passed = old.passed;
        cause = old.cause;
        fitting = old.fitting;
        ended = λ m e. report m (sym (some_is e));
      }
        where
          report : (m : ℕ) → m ≡ end_of N w
              → (m ≡ S.ends) × ((i : ℕ) → i < m → IsWork N i → i < w.wrote)
              × (m ≡ N.last → (k : ℕ) → k < N.parts → w.place k ≡ N.last)
          report m e =
              rw e (
                omega (
                  arith,
                  ends_first,
                  ends.within,
                  not_past (end_of N w) (omega arith) (reached can)
                      (written (end_of N w) can.none_left),
                ),
                written (end_of N w) can.none_left,
                λ p k l. omega (arith, p, reached can k l, inv.within k l),
              )
