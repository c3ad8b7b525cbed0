-- Each event keeps what holds in every state.
use Rattle.std.proofs.Common.{◌≡◌, ℕ, zero, suc, ◌+◌, ◌<◌, ◌≤◌, ◌⊎◌, inl, inr, true, false, cond, eqb, [], ◌++◌, length, drop, Option, Some, None, MatchOption, refl, sym, ap, ◌∙◌, subst, arith, append_assoc, eq-eqb, length-append, ◌↔◌}
use Rattle.std.proofs.lemmas.List.{append-nil}
use Rattle.std.proofs.lemmas.Bool.{cases_lt, cases_eq, both_ways, ne_eqb, cond-true, cond-false}
use Rattle.law_network.specs.Machine.{Net, World, put, taken_now, queue_after, moved, met, CanMove}
use Rattle.law_network.specs.Agreement.{Script, Fits, Woven, Ends, Ended, posted, taken, takes, handed, spent}
use Rattle.law_network.proofs.Queues.{take_front, there, posted_upto}
use Rattle.law_network.proofs.Put.{put_same, put_other, at_put, at_put2, sum_more}

module _ {L M C K B : Type 0} (N : Net L M C K B) (S : Script M C)
    (Agrees Gives : ℕ → ℕ → L → Type 0) (Books : ℕ → B → Type 0)
    (fits : Fits N S Agrees Gives Books) (w : World L M C B) (inv : Woven N S Agrees Books w) where
  -- a part that can move has operations left
  pub inside : (k : ℕ) → CanMove N w k → w.place k < N.last
  inside k can = go (cases_eq (w.place k) N.last)
    where
      go : (w.place k ≡ N.last) ⊎ (w.place k ≡ N.last → ⊥) → w.place k < N.last
      go (inr n) = omega (arith, inv.within k can.part)
      go (inl e) =
          absurd (both_ways (N.halts (N.look (w.held k))) can.left_over
          (ap N.halts (fits.looks k (w.place k) (w.held k) can.part (inv.agrees k can.part))
          ∙ ap (λ n. N.halts (N.way n)) e ∙ fits.halted))

  -- what part k finds in the queues is what the undivided run has there
  pub wanted : (k : ℕ) → CanMove N w k → (c : C) → N.receiver c ≡ k
      → N.wants c (N.look (w.held k)) ≡ length (takes S c (w.place k))
  wanted k can c e = ap (N.wants c)
      (fits.looks k (w.place k) (w.held k) can.part (inv.agrees k can.part)) ∙ go (w.place k)
    where
      go : (n : ℕ) → N.wants c (N.way n) ≡ length (takes S c n)
      go zero = fits.first c
      go (suc n) = fits.pairs c n

  -- an operation's messages are in the queues exactly where their senders have done all operations
  -- before it
  pub ready_by_places : (k : ℕ) → k < N.parts → (c : C) → N.receiver c ≡ k
      → (N.wants c (N.look (w.held k)) ≤ length (w.queue c))
      ↔ (0 < N.wants c (N.look (w.held k)) → w.place k ≤ w.place (N.sender c))
  ready_by_places k l c e = (needs (w.place k) refl, gives (w.place k) refl)
    where
      its : N.wants c (N.look (w.held k)) ≡ N.wants c (N.way (w.place k))
      its = ap (N.wants c) (fits.looks k (w.place k) (w.held k) l (inv.agrees k l))

      needs : (p : ℕ) → w.place k ≡ p → N.wants c (N.look (w.held k)) ≤ length (w.queue c)
          → 0 < N.wants c (N.look (w.held k)) → w.place k ≤ w.place (N.sender c)
      needs zero q h pos = omega arith
      needs (suc m) q h pos = go (cases_lt m (w.place (N.sender c)))
        where
          go : (m < w.place (N.sender c)) ⊎ (w.place (N.sender c) ≤ m)
              → w.place k ≤ w.place (N.sender c)
          go (inl b) = omega arith
          go (inr b) =
              let f = posted_upto S c (w.place (N.sender c)) m b in
              let g : posted S c (w.place (N.sender c)) ≡ posted S c m ++ w.queue c =
              rw (e, q) at (inv.queues c) in
              absurd
              (omega (
                arith,
                ap length g,
                ap length f.1,
                length-append (posted S c m) (w.queue c),
                length-append (posted S c (w.place (N.sender c))) f.0,
              ))

      gives : (p : ℕ) → w.place k ≡ p
          → (0 < N.wants c (N.look (w.held k)) → w.place k ≤ w.place (N.sender c))
          → N.wants c (N.look (w.held k)) ≤ length (w.queue c)
      gives zero q h = rw (its, q, fits.first c) (omega arith)
      gives (suc m) q h = go (cases_lt 0 (N.wants c (N.look (w.held k))))
        where
          go : (0 < N.wants c (N.look (w.held k))) ⊎ (N.wants c (N.look (w.held k)) ≤ 0)
              → N.wants c (N.look (w.held k)) ≤ length (w.queue c)
          go (inl b) =
              rw (its, q, fits.pairs c m)
              (there S c m (w.place (N.sender c)) (w.queue c) (rw (e, q) at (inv.queues c))
              (omega (arith, h b)))
          go (inr b) = omega arith

  pub found : (k : ℕ) → CanMove N w k → (c : C) → N.receiver c ≡ k
      → (taken_now N w k c ≡ takes S c (w.place k))
      × (posted S c (w.place (N.sender c))
      ≡ taken S c (suc (w.place k)) ++ drop (N.wants c (N.look (w.held k))) (w.queue c))
  found k can c e =
      take_front S c (w.place k) (w.place (N.sender c)) (N.wants c (N.look (w.held k))) (w.queue c)
      (rw e at (inv.queues c)) (wanted k can c e)
      ((ready_by_places k can.part c e).1 (can.ready c e))

  -- the queue after part k's operation, seen from its receiver
  received : (k : ℕ) → CanMove N w k → (c : C)
      → posted S c (w.place (N.sender c))
      ≡ taken S c (put w.place k (suc (w.place k)) (N.receiver c))
      ++ cond (eqb (N.receiver c) k) (drop (N.wants c (N.look (w.held k))) (w.queue c)) (w.queue c)
  received k can c = go (cases_eq (N.receiver c) k)
    where
      go : (N.receiver c ≡ k) ⊎ (N.receiver c ≡ k → ⊥)
          → posted S c (w.place (N.sender c))
          ≡ taken S c (put w.place k (suc (w.place k)) (N.receiver c))
          ++ cond (eqb (N.receiver c) k) (drop (N.wants c (N.look (w.held k))) (w.queue c))
          (w.queue c)
      go (inl e) = rw (
        put_same w.place k (suc (w.place k)) (N.receiver c) e,
        cond-true (eqb (N.receiver c) k) (drop (N.wants c (N.look (w.held k))) (w.queue c))
            (w.queue c) (eq-eqb _ _ e),
      ) (found k can c e).1
      go (inr e) = rw (
        put_other w.place k (suc (w.place k)) (N.receiver c) e,
        cond-false (eqb (N.receiver c) k) (drop (N.wants c (N.look (w.held k))) (w.queue c))
            (w.queue c) (ne_eqb _ _ e),
      ) (inv.queues c)

  -- and from its sender
  sent : (k : ℕ) → CanMove N w k → (c : C)
      → posted S c (put w.place k (suc (w.place k)) (N.sender c))
      ≡ posted S c (w.place (N.sender c)) ++ cond (eqb (N.sender c) k) (N.posts c (w.held k)) []
  sent k can c = go (cases_eq (N.sender c) k)
    where
      go : (N.sender c ≡ k) ⊎ (N.sender c ≡ k → ⊥)
          → posted S c (put w.place k (suc (w.place k)) (N.sender c))
          ≡ posted S c (w.place (N.sender c)) ++ cond (eqb (N.sender c) k) (N.posts c (w.held k)) []
      go (inl e) =
          let a : Agrees (N.sender c) (w.place k) (w.held k) = rw e (inv.agrees k can.part) in
          rw (
            put_same w.place k (suc (w.place k)) (N.sender c) e,
            cond-true (eqb (N.sender c) k) (N.posts c (w.held k)) [] (eq-eqb _ _ e),
            e,
            fits.posts c (w.place k) (w.held k) (rw e can.part) (inside k can) a,
          )
      go (inr e) = rw (
        put_other w.place k (suc (w.place k)) (N.sender c) e,
        cond-false (eqb (N.sender c) k) (N.posts c (w.held k)) [] (ne_eqb _ _ e),
      )
          (sym (append-nil (posted S c (w.place (N.sender c)))))

  pub queues_kept : (k : ℕ) → CanMove N w k → (c : C)
      → posted S c (put w.place k (suc (w.place k)) (N.sender c))
      ≡ taken S c (put w.place k (suc (w.place k)) (N.receiver c)) ++ queue_after N w k c
  queues_kept k can c =
      sent k can c ∙ ap (λ xs. xs ++ cond (eqb (N.sender c) k) (N.posts c (w.held k)) [])
      (received k can c)
      ∙ append_assoc (taken S c (put w.place k (suc (w.place k)) (N.receiver c)))
      (cond (eqb (N.receiver c) k) (drop (N.wants c (N.look (w.held k))) (w.queue c))
      (w.queue c)) (cond (eqb (N.sender c) k) (N.posts c (w.held k)) [])

  not_over : {n : ℕ} → w.over ≡ None → w.over ≡ Some n → ⊥
  not_over a b = cc

  pub met_ok : (k : ℕ) → CanMove N w k → (m : ℕ → ℕ) → Woven N S Agrees Books (met w k m)
  met_ok k can m = record {
    agrees = inv.agrees;
    queues = inv.queues;
    pieces = inv.pieces;
    within = inv.within;
    stop_within = omega (arith, inv.within k can.part, fits.within_most);
    stopped = inr (k, can.part, refl, inside k can);
    behind = inv.behind;
    one_work = inv.one_work;
    book = inv.book;
    meter = λ i e. absurd (omega (arith, inside k can, fits.within_most));
  }

  moved_ok : (k : ℕ) → CanMove N w k → (y : L) → Agrees k (suc (w.place k)) y
      → Woven N S Agrees Books (moved N w k y)
  moved_ok k can y f = record {
    agrees = at_put2 w.place w.held k (suc (w.place k)) y (λ j a b. j < N.parts → Agrees j a b)
        (λ _. f) inv.agrees;
    queues = queues_kept k can;
    pieces = at_put2 w.place w.pieces k (suc (w.place k)) (w.pieces k ++ N.hands k (w.held k))
        (λ j a b. j < N.parts → handed S j a ≡ handed S j w.wrote ++ b)
        (λ l. rw (fits.hands k (w.place k) (w.held k) l (inv.agrees k l))
        (ap (λ xs. xs ++ S.piece k (w.place k)) (inv.pieces k l)
        ∙ append_assoc (handed S k w.wrote) (w.pieces k) (S.piece k (w.place k))))
        inv.pieces;
    within = at_put w.place k (suc (w.place k)) (λ j a. j < N.parts → a ≤ N.last)
        (λ _. omega (arith, inside k can)) inv.within;
    stop_within = inv.stop_within;
    stopped = still inv.stopped;
    behind = at_put w.place k (suc (w.place k)) (λ j a. j < N.parts → w.wrote ≤ a)
        (λ l. omega (arith, inv.behind k l)) inv.behind;
    one_work = λ j m n b. at_put w.place k (suc (w.place k))
        (λ j a. j < N.parts → m < n → n < a → N.buffer (N.way m) ≡ Some b
        → N.buffer (N.way n) ≡ Some b → m < w.wrote)
        (λ l i h p q. alone m n b i h p q (cases_eq n (w.place k))) (λ j. inv.one_work j m n b) j;
    book = inv.book;
    meter = λ i st. (ap (λ x. x + N.cost i k (N.look (w.held k))) (inv.meter i st))
        ∙ sym (sum_more N.parts k (N.cost i k (N.look (w.held k))) (λ j. spent N i j (w.place j))
        (λ j. spent N i j (put w.place k (suc (w.place k)) j)) can.part
        (rw (
          put_same w.place k (suc (w.place k)) k refl,
          fits.looks k (w.place k) (w.held k) can.part (inv.agrees k can.part),
        ))
        (λ j e. ap (spent N i j) (put_other w.place k (suc (w.place k)) j e)));
  }
    where
      still : (w.stop ≡ N.most)
          ⊎ ((j : ℕ) × (j < N.parts) × (w.place j ≡ w.stop) × (w.stop < N.last))
          → (w.stop ≡ N.most) ⊎ ((j : ℕ) × (j < N.parts)
          × (put w.place k (suc (w.place k)) j ≡ w.stop) × (w.stop < N.last))
      still (inl e) = inl e
      still (inr h) = inr (
        h.0,
        h.1,
        put_other w.place k (suc (w.place k)) h.0
            (λ e. let q : w.place k ≡ w.stop = subst (λ j. w.place j ≡ w.stop) e h.2 in
            omega (arith, can.before)) ∙ h.2,
        h.3,
      )

      unwritten : (m b : ℕ) → m < w.place k → N.buffer (N.way m) ≡ Some b
          → N.buffer (N.way (w.place k)) ≡ Some b → (m < w.wrote) ⊎ (w.wrote ≤ m) → m < w.wrote
      unwritten m b i p q (inl h) = h
      unwritten m b i p q (inr h) =
          absurd
          (can.room b m (ap N.buffer
          (fits.looks k (w.place k) (w.held k) can.part (inv.agrees k can.part)) ∙ q) h i p)

      alone : (m n b : ℕ) → m < n → n < suc (w.place k) → N.buffer (N.way m) ≡ Some b
          → N.buffer (N.way n) ≡ Some b → (n ≡ w.place k) ⊎ (n ≡ w.place k → ⊥) → m < w.wrote
      alone m n b i h p q (inl e) = unwritten m b (omega arith) p (rw e at q) (cases_lt m w.wrote)
      alone m n b i h p q (inr e) = inv.one_work k m n b can.part i (omega arith) p q

  pub move_kept : (k : ℕ) → CanMove N w k → (y : L) → N.Move k (w.held k) (taken_now N w k) (Some y)
      → Gives k (suc (w.place k)) y → Woven N S Agrees Books (moved N w k y)
  move_kept k can y m g = moved_ok k can y
      (fits.moves k (w.place k) (w.held k) (taken_now N w k) can.part (inside k can)
      (inv.agrees k can.part) (λ c e. (found k can c e).0) y m g)

  module _ (ends : Ends N S Agrees Books) (old : Ended N S w) where
    outcome : (k : ℕ) → CanMove N w k → (o : Option L) → N.Move k (w.held k) (taken_now N w k) o
        → MatchOption o (S.faulty k (w.place k) ≡ true) (λ y. S.faulty k (w.place k) ≡ false)
    outcome k can o m = ends.faults k (w.place k) (w.held k) (taken_now N w k) can.part
        (inside k can) (inv.agrees k can.part) (λ c e. (found k can c e).0) o m

    pub met_ended : (k : ℕ) → CanMove N w k → N.Move k (w.held k) (taken_now N w k) None
        → (m : ℕ → ℕ)
        → Ended N S (met w k m)
    met_ended k can m n = record {
      passed = old.passed;
      cause = inr (k, can.part, outcome k can None m);
      fitting = old.fitting;
      ended = λ i e. absurd (not_over can.going e);
    }

    pub move_ended : (k : ℕ) → CanMove N w k → (y : L)
        → N.Move k (w.held k) (taken_now N w k) (Some y)
        → Ended N S (moved N w k y)
    move_ended k can y m = record {
      passed = λ j n. at_put w.place k (suc (w.place k))
          (λ j a. j < N.parts → n < a → S.faulty j n ≡ false)
          (λ l h. last_passed n l h (cases_eq n (w.place k))) (λ j l h. old.passed j n l h) j;
      cause = old.cause;
      fitting = old.fitting;
      ended = λ i e. absurd (not_over can.going e);
    }
      where
        last_passed : (n : ℕ) → k < N.parts → n < suc (w.place k)
            → (n ≡ w.place k) ⊎ (n ≡ w.place k → ⊥) → S.faulty k n ≡ false
        last_passed n l h (inl e) = rw e (outcome k can (Some y) m)
        last_passed n l h (inr e) = old.passed k n l (omega arith)
