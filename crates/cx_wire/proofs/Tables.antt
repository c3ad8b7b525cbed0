-- A table of queues with one queue changed.
use Rattle.std.proofs.Common.{◌≡◌, ℕ, suc, ◌+◌, ◌*◌, ◌/◌, ◌%◌, ◌<◌, ◌≤◌, Bool, true, false, cond, eqb, ltb, ◌&&◌, List, [], ◌∷◌, ◌++◌, length, map, arith, refl, sym, ap, ◌∙◌, subst, eq-eqb, ◌⊎◌, inl, inr, append-nil, mul_comm, All, Result, Ok, Err, OnOk}
use Rattle.std.specs.Prelude.{slice_index_or, slice_set}
use Rattle.std.proofs.lemmas.List.{get_or-set_same, get_or-set_other, map-append}
use Rattle.std.proofs.lemmas.Nat.{mod-mul-add, div-mul-add}
use Rattle.std.proofs.lemmas.Bool.{cases_eq, cases_lt, lt-ltb, le-ltb, ne_eqb, and_left, and_right, and_from}
use Rattle.cx_grid.proofs.Places.{radix}
use Rattle.cx_wire.specs.declared.mail.Mail.{Mail}
use Rattle.cx_wire.specs.Messages.{Sent, sent}
use Rattle.cx_wire.specs.Queues.{Gains, Loses}
use Rattle.cx_wire.specs.Memory.{queue_in}

-- what holds of all elements holds of those behind the first
pub all_rest : {A : Type 0} (P : A → Type 0) (xs : List A) (x : A) (ys : List A) → xs ≡ x ∷ ys
    → All P xs → All P ys
all_rest P xs x ys e h k d l =
    let l' : suc k < length (x ∷ ys) = omega (arith, l) in
    subst (λ (zs : List _). All P zs) e h (suc k) d l'

-- what an Ok says says more
pub if_sent : {T E : Type 0} (r : Result T E) {P Q : Type 0} → (P → Q) → OnOk r P → OnOk r Q
if_sent (Ok x) f h = f h
if_sent (Err e) f h = h

module _ (parts : ℕ) (qs ns : List (List Mail)) (full : length qs ≡ parts * parts) (f o : ℕ)
    (hf : f < parts) (ho : o < parts) (q : List Mail) (queues : ns ≡ slice_set qs (f * parts + o) q)
  where
    there : f * parts + o < length qs
    there = omega (arith, full, radix o parts f parts ho hf, mul_comm f parts)

    in_table : (a b : ℕ) (xs : List (List Mail)) → a < parts → b < parts
        → queue_in parts xs a b ≡ slice_index_or xs (a * parts + b) []
    in_table a b xs ha hb = rw (lt-ltb a parts ha, lt-ltb b parts hb) refl

    outside : (a b : ℕ) → (ltb a parts && ltb b parts) ≡ false
        → queue_in parts ns a b ≡ queue_in parts qs a b
    outside a b e = rw e refl

    now_there : queue_in parts ns f o ≡ q
    now_there = in_table f o ns hf ho ∙ rw queues (get_or-set_same qs (f * parts + o) q [] there)

    was_there : queue_in parts qs f o ≡ slice_index_or qs (f * parts + o) []
    was_there = in_table f o qs hf ho

    apart : (a b : ℕ) → b < parts → (a ≡ f → ⊥) ⊎ (b ≡ o → ⊥) → a * parts + b ≡ f * parts + o → ⊥
    apart a b hb (inl m) e =
        m (sym (div-mul-add a parts b hb) ∙ ap (λ z. z / parts) e ∙ div-mul-add f parts o ho)
    apart a b hb (inr m) e =
        m (sym (mod-mul-add a parts b hb) ∙ ap (λ z. z % parts) e ∙ mod-mul-add f parts o ho)

    elsewhere : (a b : ℕ) → (a ≡ f → ⊥) ⊎ (b ≡ o → ⊥)
        → queue_in parts ns a b ≡ queue_in parts qs a b
    elsewhere a b m = go (cases_lt a parts) (cases_lt b parts)
      where
        go : (a < parts) ⊎ (parts ≤ a) → (b < parts) ⊎ (parts ≤ b)
            → queue_in parts ns a b ≡ queue_in parts qs a b
        go (inl ha) (inl hb) =
            in_table a b ns ha hb
            ∙ rw queues (get_or-set_other qs (f * parts + o) (a * parts + b) q [] (apart a b hb m))
            ∙ sym (in_table a b qs ha hb)
        go (inr ha) hb = outside a b (and_left _ _ (le-ltb a parts ha))
        go ha (inr hb) = outside a b (and_right _ _ (le-ltb b parts hb))

    -- the pair itself, and every other
    by_pair : (P : ℕ → ℕ → Bool → Type 0) → P f o true
        → ((a b : ℕ) → queue_in parts ns a b ≡ queue_in parts qs a b → P a b false) → (a b : ℕ)
        → P a b (eqb a f && eqb b o)
    by_pair P here other a b = go (cases_eq a f) (cases_eq b o)
      where
        go : (a ≡ f) ⊎ (a ≡ f → ⊥) → (b ≡ o) ⊎ (b ≡ o → ⊥) → P a b (eqb a f && eqb b o)
        go (inr m) k = subst (λ v. P a b v) (sym (and_left _ _ (ne_eqb a f m)))
            (other a b (elsewhere a b (inl m)))
        go m (inr k) = subst (λ v. P a b v) (sym (and_right _ _ (ne_eqb b o k)))
            (other a b (elsewhere a b (inr k)))
        go (inl m) (inl k) =
            subst (λ v. P a b v) (sym (and_from _ _ (eq-eqb a f m) (eq-eqb b o k)))
            (subst (λ c. P c b true) (sym m) (subst (λ c. P f c true) (sym k) here))

-- a queue with a message more at its end
pub one_more : (tells : Type 0) (parts : ℕ) (qs ns : List (List Mail)) → length qs ≡ parts * parts
    → (f o : ℕ) → f < parts → o < parts → (m : Mail)
    → ns ≡ slice_set qs (f * parts + o) (slice_index_or qs (f * parts + o) [] ++ m ∷ [])
    → Gains {M = Sent tells} (λ a b. map sent (queue_in parts qs a b))
    (λ a b. map sent (queue_in parts ns a b)) f o (sent m)
one_more tells parts qs ns full f o hf ho m queues a b =
    by_pair parts qs ns full f o hf ho _ queues
    (λ c d v. map (sent {tells = tells}) (queue_in parts ns c d)
    ≡ map sent (queue_in parts qs c d) ++ cond v (sent m ∷ []) [])
    (ap (map (sent {tells = tells}))
    (now_there parts qs ns full f o hf ho _ queues
    ∙ ap (λ xs. xs ++ m ∷ []) (sym (was_there parts qs ns full f o hf ho _ queues)))
    ∙ map-append (sent {tells = tells}) (queue_in parts qs f o) (m ∷ []))
    (λ c d e. rw e (sym (append-nil (map sent (queue_in parts qs c d)))))
    a b

-- a queue without its first message
pub one_less : (tells : Type 0) (parts : ℕ) (qs ns : List (List Mail)) → length qs ≡ parts * parts
    → (f o : ℕ) → f < parts → o < parts → (m : Mail) (q : List Mail)
    → ns ≡ slice_set qs (f * parts + o) q → slice_index_or qs (f * parts + o) [] ≡ m ∷ q
    → Loses {M = Sent tells} (λ a b. map sent (queue_in parts qs a b))
    (λ a b. map sent (queue_in parts ns a b)) f o (sent m)
one_less tells parts qs ns full f o hf ho m q queues front a b =
    by_pair parts qs ns full f o hf ho q queues
    (λ c d v. map (sent {tells = tells}) (queue_in parts qs c d)
    ≡ cond v (sent m ∷ []) [] ++ map sent (queue_in parts ns c d))
    (rw (
      now_there parts qs ns full f o hf ho q queues,
      was_there parts qs ns full f o hf ho q queues,
      front,
    ) refl)
    (λ c d e. ap (map sent) (sym e))
    a b
