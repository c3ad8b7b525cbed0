-- What a queue has at its front.
use Rattle.std.proofs.Common.{◌≡◌, ℕ, zero, suc, ◌<◌, ◌≤◌, ◌⊎◌, inl, inr, List, [], ◌++◌, length, take, drop, refl, sym, ap, ◌∙◌, arith, append_assoc, length-append}
use Rattle.std.proofs.lemmas.List.{append-nil, append_cancel_left, take_at, drop_at, nil_from_length}
use Rattle.std.proofs.lemmas.Bool.{cases_lt}
use Rattle.law_network.specs.Agreement.{Script, posted, taken, takes}

-- what is posted before a is the beginning of what is posted before a later b
pub posted_upto : {M C : Type 0} (S : Script M C) (c : C) (a b : ℕ) → a ≤ b
    → (rest : List M) × (posted S c b ≡ posted S c a ++ rest)
posted_upto S c a zero h = let e : a ≡ 0 = omega arith in ([], rw e refl)
posted_upto {M} S c a (suc b) h = go (posted_upto S c a b) (cases_lt b a)
  where
    go : (a ≤ b → (rest : List M) × (posted S c b ≡ posted S c a ++ rest)) → (b < a) ⊎ (a ≤ b)
        → (rest : List M) × (posted S c (suc b) ≡ posted S c a ++ rest)
    go more (inl l) = let e : a ≡ suc b = omega arith in
        ([], rw e (sym (append-nil (posted S c (suc b)))))
    go more (inr l) =
        let r = more l in (
          r.0 ++ S.mail c b,
          ap (λ xs. xs ++ S.mail c b) r.1
              ∙ append_assoc (posted S c a) r.0 (S.mail c b),
        )

-- what was not taken begins with the mail of the next place, where it is long enough
pub front : {M C : Type 0} (S : Script M C) (c : C) (m p : ℕ) (q : List M)
    → posted S c p ≡ posted S c m ++ q
    → length (S.mail c m) ≤ length q → (rest : List M) × (q ≡ S.mail c m ++ rest)
front {M} S c m p q e l = go (cases_lt m p)
  where
    go : (m < p) ⊎ (p ≤ m) → (rest : List M) × (q ≡ S.mail c m ++ rest)
    go (inl h) =
        let r = posted_upto S c (suc m) p h in (
          r.0,
          append_cancel_left (posted S c m) q (S.mail c m ++ r.0)
              (sym e ∙ r.1 ∙ append_assoc (posted S c m) (S.mail c m) r.0),
        )
    go (inr h) =
        let r = posted_upto S c p m h in
        let n : length q ≡ 0 =
        omega (
          arith,
          ap length e,
          ap length r.1,
          length-append (posted S c m) q,
          length-append (posted S c p) r.0,
        ) in
        let t : length (S.mail c m) ≡ 0 = omega arith in
        ([], nil_from_length q n ∙ sym (ap (λ xs. xs ++ []) (nil_from_length (S.mail c m) t)))

-- where the sender stands beyond m, the mail of m is there
pub there : {M C : Type 0} (S : Script M C) (c : C) (m p : ℕ) (q : List M)
    → posted S c p ≡ posted S c m ++ q → m < p
    → length (S.mail c m) ≤ length q
there {M} S c m p q e h =
    let r = posted_upto S c (suc m) p h in
    let s : q ≡ S.mail c m ++ r.0 =
    append_cancel_left (posted S c m) q (S.mail c m ++ r.0)
    (sym e ∙ r.1 ∙ append_assoc (posted S c m) (S.mail c m) r.0) in
    omega (arith, ap length s, length-append (S.mail c m) r.0)

-- an operation at place n that takes k messages takes those that it is to take, and leaves the rest
pub take_front : {M C : Type 0} (S : Script M C) (c : C) (n p k : ℕ) (q : List M)
    → posted S c p ≡ taken S c n ++ q
    → k ≡ length (takes S c n) → k ≤ length q
    → (take k q ≡ takes S c n) × (posted S c p ≡ taken S c (suc n) ++ drop k q)
take_front S c zero p k q e w l = rw w (refl, e)
take_front S c (suc m) p k q e w l =
    let t : length (S.mail c m) ≤ length q = omega arith in
    let r = front S c m p q e t in
    let d : drop k q ≡ r.0 = ap (drop k) r.1 ∙ drop_at (S.mail c m) r.0 k (sym w) in (
      ap (take k) r.1 ∙ take_at (S.mail c m) r.0 k (sym w),
      e ∙ ap (λ xs. posted S c m ++ xs) r.1 ∙ sym (append_assoc (posted S c m) (S.mail c m) r.0)
          ∙ sym (ap (λ xs. posted S c m ++ S.mail c m ++ xs) d),
    )
