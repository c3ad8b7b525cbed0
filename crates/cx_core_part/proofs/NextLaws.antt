-- Until the next steer begins to count the copies of items are the same.
use Rattle.std.proofs.Common.{◌≡◌, ℕ, ◌<◌, ◌≤◌, ◌⊎◌, inl, inr, arith, true, ltb, leb, ◌&&◌, eqb, refl, sym, ap, ◌∙◌, subst, List, [], ◌∷◌, length, map, Option, Some, None}
use Rattle.std.specs.Prelude.{ℤ, min, slice_index_or, slice_set, if◌then◌else◌}
use Rattle.std.specs.List.{range_with_len}
use Rattle.std.proofs.lemmas.Bool.{and_parts, cases_lt, ltb-true, lt-ltb, le-ltb, leb-true, le-leb, lt-leb}
use Rattle.cx_plan.specs.declared.item.Item.{Item}
use Rattle.cx_plan.specs.declared.steered.Steered.{Steered}
use Rattle.cx_plan.specs.Lookups.{no_item}
use Rattle.cx_plan.specs.Setups.{Setup}
use Rattle.cx_plan.specs.Steering.{steered, set_by}
use Rattle.cx_core_part.specs.Copies.{Copies, are_of, copies_at, copies_of, copy_of, if_steered, is_before, is_steered, items_at, lesser, next_after}

-- ---- the next steer

-- the earlier of two iterations, each of which may be none
abbrev pub earlier : Option ℕ → Option ℕ → Option ℕ
earlier None b = b
earlier (Some a) b = Some (lesser a b)

-- ---- what stays

module _ (m n : ℕ) (later : m ≤ n) where
  -- an iteration that comes before the lesser of two comes before both
  before_both : (a : ℕ) (rest : Option ℕ) → ltb n (lesser a rest) ≡ true
      → (n < a) × (is_before n rest ≡ true)
  before_both a None e = (ltb-true n a e, refl)
  before_both a (Some b) e =
      let l = ltb-true n (min a b) e in (omega (arith, l), lt-ltb n b (omega (arith, l)))

  -- of one steer: it counts in both iterations or in neither, and comes after both or neither
  record Stays (a : ℕ) : Type 0 where
    counts : leb a n ≡ leb a m
    comes : ltb n a ≡ ltb m a

  counted : (a : ℕ) → a ≤ m → Stays a
  counted a l = record {
    counts = le-leb a n (let k = later in omega (arith, k, l)) ∙ sym (le-leb a m l);
    comes = le-ltb n a (let k = later in omega (arith, k, l)) ∙ sym (le-ltb m a l);
  }

  ahead : (a : ℕ) → n < a → Stays a
  ahead a l = record {
    counts = lt-leb a n l ∙ sym (lt-leb a m (let k = later in omega (arith, k, l)));
    comes = lt-ltb n a l ∙ sym (lt-ltb m a (let k = later in omega (arith, k, l)));
  }

  -- of the first steer, and of those after it
  first_stays : (s : Steered) (ss : List Steered) → is_before n (next_after (s ∷ ss) m) ≡ true
      → Stays s.at × (is_before n (next_after ss m) ≡ true)
  first_stays s ss = go (cases_lt m s.at)
    where
      go : (m < s.at) ⊎ (s.at ≤ m) → is_before n (next_after (s ∷ ss) m) ≡ true
          → Stays s.at × (is_before n (next_after ss m) ≡ true)
      go (inl l) e =
          let both = before_both s.at (next_after ss m)
          (subst (λ b. is_before n
          (if b then Some (lesser s.at (next_after ss m)) else next_after ss m) ≡ true)
          (lt-ltb m s.at l) e) in
          (ahead s.at both.0, both.1)
      go (inr l) e = (
        counted s.at l,
        subst (λ b. is_before n
            (if b then Some (lesser s.at (next_after ss m)) else next_after ss m) ≡ true)
            (le-ltb m s.at l) e,
      )

  next_stays : (ss : List Steered) → is_before n (next_after ss m) ≡ true
      → next_after ss n ≡ next_after ss m
  next_stays [] e = refl
  next_stays (s ∷ ss) e =
      let f = first_stays s ss e in
      ap (λ b. if b then Some (lesser s.at (next_after ss n)) else next_after ss n) f.0.comes
      ∙ ap (λ o. if ltb m s.at then Some (lesser s.at o) else o) (next_stays ss f.1)

  params_stay : (ss : List Steered) → is_before n (next_after ss m) ≡ true
      → (k : ℕ) (params : List ℤ) → steered ss k n params ≡ steered ss k m params
  params_stay [] e k params = refl
  params_stay (s ∷ ss) e k params =
      let f = first_stays s ss e in
      params_stay ss f.1 k (set_by k n s params)
      ∙ ap (λ b. steered ss k m
      (if eqb s.item k && b then slice_set params s.slot s.value else params)) f.0.counts

  copies_stay : (ss : List Steered) → is_before n (next_after ss m) ≡ true
      → (items : List Item) → copies_of ss items n ≡ copies_of ss items m
  copies_stay ss e items = each (range_with_len 0 (length items))
    where
      one : (k : ℕ) → copy_of ss items n k ≡ copy_of ss items m k
      one k =
          let x = slice_index_or items k no_item in
          ap (λ ps. if is_steered ss k then Some (record x { params = ps }) else None)
          (params_stay ss e k x.params)

      each : (ks : List ℕ) → map (copy_of ss items n) ks ≡ map (copy_of ss items m) ks
      each [] = refl
      each (k ∷ ks) = ap (λ c. c ∷ map (copy_of ss items n) ks) (one k)
          ∙ ap (λ cs. copy_of ss items m k ∷ cs) (each ks)

-- the copies of an iteration are those of another one, until the next steer
pub still : (setup : Setup) (m n : ℕ) (c : Copies) → c ≡ copies_at setup m → are_of c n ≡ true
    → record c { iteration = n } ≡ copies_at setup n
still setup m n c is e =
    ap (λ (d : Copies). record d { iteration = n }) is
    ∙ ap (λ cs. record (copies_at setup m) { items = if_steered setup.steers cs; iteration = n })
    (sym (copies_stay m n later setup.steers before setup.items))
    ∙ ap (λ o. record { items = items_at setup n; iteration = n; next = o })
    (sym (next_stays m n later setup.steers before))
  where
    both : (leb m n ≡ true) × (is_before n (next_after setup.steers m) ≡ true)
    both = and_parts (leb m n) (is_before n (next_after setup.steers m))
        (subst (λ (d : Copies). are_of d n ≡ true) is e)

    later : m ≤ n
    later = leb-true m n both.0

    before : is_before n (next_after setup.steers m) ≡ true
    before = both.1
