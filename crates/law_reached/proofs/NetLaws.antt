-- The writer's events, and where the end stands, in any network.
use Rattle.std.proofs.Common.{◌≡◌, ℕ, ◌<◌, ◌≤◌, ◌⊎◌, inl, inr, arith}
use Rattle.std.proofs.lemmas.Bool.{cases_lt}
use Rattle.law_network.specs.Machine.{Net, World, IsNext, IsWork, CanEnd, end_of}
use Rattle.law_network.specs.Agreement.{Script, Fits, Ends, Woven, Ended}
use Rattle.law_network.proofs.Writer.{not_past}

module _ {L M C K B : Type 0} (N : Net L M C K B) (w : World L M C B) where
  pub one_next : (m n : ℕ) → IsNext N w m → IsNext N w n → m ≡ n
  one_next m n a b = go (cases_lt m n) (cases_lt n m)
    where
      go : (m < n) ⊎ (n ≤ m) → (n < m) ⊎ (m ≤ n) → m ≡ n
      go (inl l) c = absurd (b.none_before m a.after_wrote l a.work)
      go (inr l) (inl k) = absurd (a.none_before n b.after_wrote k b.work)
      go (inr l) (inr k) = omega arith

module _ {L M C K B : Type 0} (N : Net L M C K B) (S : Script M C)
    (Agrees Gives : ℕ → ℕ → L → Type 0) (Books : ℕ → B → Type 0)
    (fits : Fits N S Agrees Gives Books)
    (w : World L M C B) (inv : Woven N S Agrees Books w) where
  pub next_before_end : (n : ℕ) → IsNext N w n → CanEnd N w → ⊥
  next_before_end n nx can =
      can.none_left n nx.after_wrote
      (omega (arith, nx.before, nx.all_in 0 fits.some_part, inv.within 0 fits.some_part))
      nx.work

  pub end_last : w.stop ≡ N.most → end_of N w ≡ N.last
  end_last e = omega (arith, fits.within_most)

  pub end_stop : (w.stop ≡ N.most → ⊥) → (end_of N w ≡ w.stop) × (w.stop < N.last)
  end_stop no_most = go inv.stopped
    where
      go : (w.stop ≡ N.most) ⊎ ((k : ℕ) × (k < N.parts) × (w.place k ≡ w.stop) × (w.stop < N.last))
          → (end_of N w ≡ w.stop) × (w.stop < N.last)
      go (inl e) = absurd (no_most e)
      go (inr h) = let l = h.3 in (omega (arith, l), l)

  pub wrote_inside : w.wrote ≤ N.last
  wrote_inside = omega (arith, inv.behind 0 fits.some_part, inv.within 0 fits.some_part)

  -- what was written is before the run's end
  pub wrote_within : Ends N S Agrees Books → Ended N S w → w.wrote ≤ S.ends
  wrote_within ends old = not_past N S Agrees Gives Books fits w inv ends old w.wrote wrote_inside
      inv.behind (λ m l q. l)

  pub next_inside : (n : ℕ) → IsNext N w n → n < N.last
  next_inside n nx = omega (arith, nx.all_in 0 fits.some_part, inv.within 0 fits.some_part)

  -- the next work isn't behind the run's end
  pub next_within : Ends N S Agrees Books → Ended N S w → (n : ℕ) → IsNext N w n → n ≤ S.ends
  next_within ends old n nx =
      not_past N S Agrees Gives Books fits w inv ends old n (omega (arith, next_inside n nx))
      (λ k l. omega (arith, nx.all_in k l)) written
    where
      written : (m : ℕ) → m < n → IsWork N m → m < w.wrote
      written m l q = go (cases_lt m w.wrote)
        where
          go : (m < w.wrote) ⊎ (w.wrote ≤ m) → m < w.wrote
          go (inl h) = h
          go (inr h) = absurd (nx.none_before m h l q)
