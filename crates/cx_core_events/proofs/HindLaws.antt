-- The part before which no other stands, where comparing places compares numbers.
use Rattle.std.proofs.Common.{◌≡◌, ℕ, zero, suc, ◌<◌, ◌≤◌, ◌⊎◌, inl, inr, Bool, true, false, ltb, cond, List, refl, sym, subst, arith}
use Rattle.std.proofs.lemmas.Bool.{cases_lt, cases_eq, lt-ltb, le-ltb}
use Rattle.cx_core_events.specs.declared.standing.Standing.{Standing}
use Rattle.cx_core_events.specs.Paces.{is_before, hindmost_of}

module _ (parts : List Standing) (count : ℕ) (place : ℕ → ℕ)
    (compares : (i j : ℕ) → i < count → j < count → is_before parts i j ≡ ltb (place i) (place j))
  where
    -- the hindmost of the first parts
    pub record IsHind (n h : ℕ) : Type 0 where
      pub below : h < n
      pub least : (j : ℕ) → j < n → place h ≤ place j

    hind_step : (n h : ℕ) → suc n ≤ count → (0 < n → IsHind n h) → (n ≡ 0 → h ≡ 0)
        → IsHind (suc n) (cond (is_before parts n h) n h)
    hind_step zero h l old none = go (is_before parts 0 h)
      where
        go : (b : Bool) → IsHind 1 (cond b 0 h)
        go true = record {
          below = omega arith;
          least = λ j i. let e : j ≡ 0 = omega (arith, i) in
              rw e (omega arith);
        }
        go false = let z = none refl in
            record {
              below = omega (arith, z);
              least = λ j i. let e : j ≡ h = omega (arith, i, z) in
                  rw e (omega arith);
            }
    hind_step (suc n) h l old none =
        let o = old (omega arith) in
        let is = compares (suc n) h (omega (arith, l)) (let b = o.below in omega (arith, b, l)) in
        subst (λ b. IsHind (suc (suc n)) (cond b (suc n) h)) (sym is)
        (go (cases_lt (place (suc n)) (place h)))
      where
        go : (place (suc n) < place h) ⊎ (place h ≤ place (suc n))
            → IsHind (suc (suc n)) (cond (ltb (place (suc n)) (place h)) (suc n) h)
        go (inl c) =
            subst (λ b. IsHind (suc (suc n)) (cond b (suc n) h))
            (sym (lt-ltb (place (suc n)) (place h) c))
            (record { below = omega arith; least = λ j i. by j i (cases_eq j (suc n)) })
          where
            by : (j : ℕ) → j < suc (suc n) → (j ≡ suc n) ⊎ (j ≡ suc n → ⊥) → place (suc n) ≤ place j
            by j i (inl e) = rw e (omega arith)
            by j i (inr e) = let m = (old (omega arith)).least j (omega arith) in
                omega (arith, m, c)
        go (inr c) =
            subst (λ b. IsHind (suc (suc n)) (cond b (suc n) h))
            (sym (le-ltb (place (suc n)) (place h) c))
            (record {
              below = let b = (old (omega arith)).below in
                  omega (arith, b);
              least = λ j i. by j i (cases_eq j (suc n));
            })
          where
            by : (j : ℕ) → j < suc (suc n) → (j ≡ suc n) ⊎ (j ≡ suc n → ⊥) → place h ≤ place j
            by j i (inl e) = rw e c
            by j i (inr e) = (old (omega arith)).least j (omega arith)

    hind_of : (n : ℕ) → n ≤ count
        → (0 < n → IsHind n (hindmost_of parts n)) × (n ≡ 0 → hindmost_of parts n ≡ 0)
    hind_of zero l = ((λ h. absurd (omega arith)), (λ e. refl))
    hind_of (suc n) l =
        let before = hind_of n (omega arith) in
        ((λ h. hind_step n (hindmost_of parts n) l before.0 before.1), (λ e. absurd (omega arith)))

    pub hind_whole : 0 < count → IsHind count (hindmost_of parts count)
    hind_whole some = (hind_of count (omega arith)).0 some
