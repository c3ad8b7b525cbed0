-- Copies of a part's items, set one after another.
use Rattle.std.proofs.Common.{◌≡◌, ℕ, zero, suc, ◌+◌, ◌<◌, ◌≤◌, Bool, true, false, ◌||◌, ◌&&◌, eqb, refl, sym, ap, ◌∙◌, subst, arith, List, [], ◌∷◌, ◌++◌, length, map, get_or, Option, Some, None}
use Rattle.std.specs.Prelude.{ℤ, slice_get, slice_set, slice_index_or, nat_le, if◌then◌else◌}
use Rattle.std.specs.List.{range_with_len}
use Rattle.std.proofs.lemmas.List.FromFn.{length-map-range_with_len, get_or-map-range_with_len, map-range_with_len_more}
use Rattle.cx_plan.specs.declared.item.Item.{Item}
use Rattle.cx_plan.specs.declared.steered.Steered.{Steered}
use Rattle.cx_plan.specs.Lookups.{no_item}
use Rattle.cx_plan.specs.Steering.{steered, set_by}
use Rattle.law_parts.proofs.FilledLaws.{filled, filled_later, filled_step, filled_all}
use Rattle.cx_core_part.specs.Copies.{copied, copies_of, copy_of, if_steered, is_steered, picked}

-- ---- what steers do to parameters

none_or : (a b : Bool) → (a || b) ≡ false → (a ≡ false) × (b ≡ false)
none_or true b e = absurd cc
none_or false b e = (refl, e)

never_steered : (ss : List Steered) (k n : ℕ) (params : List ℤ) → is_steered ss k ≡ false
    → steered ss k n params ≡ params
never_steered [] k n params e = refl
never_steered (s ∷ ss) k n params e =
    let b = none_or (eqb s.item k) (is_steered ss k) e in
    ap (λ c. steered ss k n
    (if c && nat_le s.at n then slice_set params s.slot s.value else params)) b.0
    ∙ never_steered ss k n params b.1

set_length : (xs : List ℤ) (k : ℕ) (x : ℤ) → length (slice_set xs k x) ≡ length xs
set_length [] k x = refl
set_length (y ∷ ys) zero x = refl
set_length (y ∷ ys) (suc k) x = ap suc (set_length ys k x)

-- there are as many as before
pub as_many : (ss : List Steered) (k n : ℕ) (params : List ℤ)
    → length (steered ss k n params) ≡ length params
as_many [] k n params = refl
as_many (s ∷ ss) k n params =
    as_many ss k n (set_by k n s params) ∙ one (eqb s.item k && nat_le s.at n)
  where
    one : (c : Bool) → length (if c then slice_set params s.slot s.value else params)
        ≡ length params
    one true = set_length params s.slot s.value
    one false = refl

-- ---- one item

picked_is : (ss : List Steered) (k n : ℕ) (x : Item)
    → picked (Some (copied ss k n x)) x ≡ record x { params = steered ss k n x.params }
picked_is ss k n x = go (is_steered ss k) refl
  where
    go : (b : Bool) → is_steered ss k ≡ b
        → picked (Some (if b then Some (record x { params = steered ss k n x.params }) else None)) x
        ≡ record x { params = steered ss k n x.params }
    go true e = refl
    go false e = ap (λ ps. record x { params = ps }) (sym (never_steered ss k n x.params e))

-- what is known of the copy of an item in some iteration
pub record IsSame (x y : Item) : Type 0 where
  pub same : y ≡ record x { params = y.params }
  pub count : length y.params ≡ length x.params

module _ (ss : List Steered) (k m n : ℕ) (x : Item) where
  pub no_copy : None ≡ copied ss k m x → None ≡ copied ss k n x
  no_copy e = go (is_steered ss k) e
    where
      go : (b : Bool) → None ≡ (if b then Some (record x { params = steered ss k m x.params })
          else None)
          → None ≡ (if b then Some (record x { params = steered ss k n x.params }) else None)
      go true e = absurd cc
      go false e = refl

  some_is : (a b : Item) → Some a ≡ Some b → a ≡ b
  some_is a b e = cc

  pub the_copy : (y : Item) → Some y ≡ copied ss k m x
      → IsSame x y × (Some (record x { params = steered ss k n x.params }) ≡ copied ss k n x)
  the_copy y e = go (is_steered ss k) e
    where
      go : (b : Bool) → Some y
          ≡ (if b then Some (record x { params = steered ss k m x.params }) else None)
          → IsSame x y × (Some (record x { params = steered ss k n x.params })
          ≡ (if b then Some (record x { params = steered ss k n x.params }) else None))
      go false e = absurd cc
      go true e =
          let is = some_is y (record x { params = steered ss k m x.params }) e in (
            record {
              same = is ∙ ap (λ ps. record x { params = ps })
                  (sym (ap (λ (z : Item). z.params) is));
              count = ap (λ (z : Item). length z.params) is ∙ as_many ss k m x.params;
            },
            refl,
          )

-- ---- all items

index_any : {A : Type 0} (xs : List A) (k : ℕ) (d e : A) → k < length xs
    → slice_index_or xs k d ≡ slice_index_or xs k e
index_any [] k d e l = absurd (omega (arith, l))
index_any (x ∷ xs) zero d e l = refl
index_any (x ∷ xs) (suc k) d e l = index_any xs k d e (omega (arith, l))

get_is : {A : Type 0} (xs : List A) (k : ℕ) (d : A) → k < length xs
    → slice_get xs k ≡ Some (get_or xs k d)
get_is [] k d l = absurd (omega (arith, l))
get_is (x ∷ xs) zero d l = refl
get_is (x ∷ xs) (suc k) d l = get_is xs k d (omega (arith, l))

module _ (ss : List Steered) (items : List Item) where
  pub copy_count : (n : ℕ) → length (copies_of ss items n) ≡ length items
  copy_count n = length-map-range_with_len (copy_of ss items n) 0 (length items)

  copy_is : (n k : ℕ) (d : Option Item) → k < length items
      → get_or (copies_of ss items n) k d ≡ copy_of ss items n k
  copy_is n k d l =
      get_or-map-range_with_len (copy_of ss items n) 0 (length items) k k d l (omega arith)

  -- the item of a number, as a part has it
  pub item_is : (n k : ℕ) (copies : List (Option Item)) → k < length items
      → copies ≡ copies_of ss items n
      → picked (slice_get copies k) (slice_index_or items k no_item)
      ≡ record (slice_index_or items k no_item) {
        params = steered ss k n (slice_index_or items k no_item).params;
      }
  item_is n k copies l is =
      ap (λ cs. picked (slice_get cs k) (slice_index_or items k no_item)) is
      ∙ ap (λ c. picked c (slice_index_or items k no_item))
      (get_is (copies_of ss items n) k None (let e = copy_count n in omega (arith, l, e))
      ∙ ap (λ (c : Option Item). Some c) (copy_is n k None l))
      ∙ picked_is ss k n (slice_index_or items k no_item)

  -- ---- set one after another

  -- the copies of the first items are those of iteration n, and the others those of iteration m
  abbrev pub set_to : (m n k : ℕ) → List (Option Item)
  set_to m n k = filled k (copies_of ss items n) (copies_of ss items m)

  module _ (m n : ℕ) where
    pub all_set : (k : ℕ) (first now : List (Option Item)) → first ≡ copies_of ss items m
        → now ≡ set_to m n k → length first ≤ k → now ≡ copies_of ss items n
    all_set k first now was is l =
        is
        ∙ filled_all k (copies_of ss items n) (copies_of ss items m)
        (copy_count n ∙ sym (copy_count m)) (subst (λ cs. length cs ≤ k) was l)

    module _ (k : ℕ) (first now : List (Option Item)) (was : first ≡ copies_of ss items m)
        (l : k < length first) (is : now ≡ set_to m n k) where
      pub below : k < length items
      below = let e = ap length was ∙ copy_count m in omega (arith, l, e)

      module _ (x : Item) (there : x ≡ slice_index_or items k x) where
        its : x ≡ slice_index_or items k no_item
        its = there ∙ index_any items k x no_item below

        -- the one that comes next is as it was
        pub still : (d : Option Item) → slice_index_or now k d ≡ copied ss k m x
        still d =
            ap (λ (cs : List (Option Item)). slice_index_or cs k d) is
            ∙ filled_later k k (copies_of ss items n) (copies_of ss items m) d (omega arith)
            ∙ copy_is m k d below
            ∙ ap (copied ss k m) (sym its)

        -- and then it is set
        pub one_more : (new : Option Item) → new ≡ copied ss k n x
            → slice_set now k new ≡ set_to m n (k + 1)
        one_more new e =
            ap (λ (cs : List (Option Item)). slice_set cs k new) is
            ∙ ap (slice_set (set_to m n k) k)
            (e ∙ ap (copied ss k n) its ∙ sym (copy_is n k None below))
            ∙ filled_step k (copies_of ss items n) (copies_of ss items m) None
            (let c = copy_count n in let b = below in omega (arith, b, c))
            (let c = copy_count m in let b = below in omega (arith, b, c))
            ∙ ap (set_to m n) (next k)
          where
            next : (a : ℕ) → suc a ≡ a + 1
            next a = omega arith

  -- ---- made one after another

  pub one_made : (n k : ℕ) (x : Item) (copies : List (Option Item)) (new : Option Item)
      → k < length items → copies ≡ map (copy_of ss items n) (range_with_len 0 k)
      → x ≡ slice_index_or items k x → new ≡ copied ss k n x
      → copies ++ new ∷ [] ≡ map (copy_of ss items n) (range_with_len 0 (k + 1))
  one_made n k x copies new l are there is =
      ap (λ cs. cs ++ new ∷ []) are
      ∙ ap (λ c. map (copy_of ss items n) (range_with_len 0 k) ++ c ∷ [])
      (is ∙ ap (copied ss k n) (there ∙ index_any items k x no_item l))
      ∙ sym (map-range_with_len_more (copy_of ss items n) 0 k k (omega arith))

-- ---- where nothing is steered

pub its_item : (ss : List Steered) (items : List Item) (n k : ℕ) (copies : List (Option Item))
    → k < length items → copies ≡ if_steered ss (copies_of ss items n)
    → picked (slice_get copies k) (slice_index_or items k no_item)
    ≡ record (slice_index_or items k no_item) {
      params = steered ss k n (slice_index_or items k no_item).params;
    }
its_item [] items n k copies l is =
    ap (λ cs. picked (slice_get cs k) (slice_index_or items k no_item)) is
its_item (s ∷ ss) items n k copies l is = item_is (s ∷ ss) items n k copies l is

pub where_steered : (ss : List Steered) (copies : List (Option Item)) → (ss ≡ [] → ⊥)
    → if_steered ss copies ≡ copies
where_steered [] copies some = absurd (some refl)
where_steered (s ∷ ss) copies some = refl

pub where_none : (ss : List Steered) (copies : List (Option Item)) → ss ≡ []
    → if_steered ss copies ≡ []
where_none [] copies none = refl
where_none (s ∷ ss) copies none = absurd cc
