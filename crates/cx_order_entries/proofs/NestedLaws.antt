-- Groups in groups: what blocks say of them.
use Rattle.std.proofs.Common.{◌≡◌, refl, sym, ◌∙◌, ap, subst, ℕ, zero, suc, ◌+◌, ◌<◌, ◌≤◌, Bool, true, false, ◌||◌, ◌&&◌, List, [], ◌∷◌, ◌++◌, filter, filter_map, length, get_or, take, Option, Some, None, Result, append-nil}
use Rattle.std.specs.Prelude.{slice_get, IfOk}
use Rattle.std.specs.List.{list_any, position}
use Rattle.std.proofs.Math.Path.{fun_ext}
use Rattle.std.proofs.lemmas.List.{take_more}
use Rattle.std.proofs.lemmas.List.Elements.{filter_map-append}
use Rattle.std.proofs.lemmas.Option.{slice_get_past}
use Rattle.cx_text.specs.Lexemes.{same_name}
use Rattle.cx_sched.specs.declared.tree.Spot.{Spot}
use Rattle.cx_sched.specs.declared.tree.Spot.TheVariants.{At, Inside}
use Rattle.cx_order_least.specs.declared.outcome.Sorted.{Sorted}
use Rattle.cx_order_entries.specs.Counted.{Entry}
use Rattle.cx_order_entries.specs.Entries.{Group, is_bin, stands_at, is_group}
use Rattle.cx_order_least.specs.Orders.{Before, pair_before, numbers}
use Rattle.cx_order_least.specs.Sorting.{IsSorted}
use Rattle.cx_order_entries.specs.PlaceNumbers.{group_names}
use Rattle.cx_order_entries.specs.Nested.{outer_number, puts_inside, both_inside, contains_at}
use Rattle.cx_order_entries.proofs.OnceLaws.{Unique, unique, name_same, at-position, has_at, any-agree}

and_false : (t : Bool) → (t && false) ≡ false
and_false true = refl
and_false false = refl

swapped : (g s n : Bool) → (g && (s && n)) ≡ (s && (g && n))
swapped true true n = refl
swapped true false n = refl
swapped false true n = refl
swapped false false n = refl

pub any-filter : {X : Type 0} (p s : X → Bool) (xs : List X)
    → list_any p (filter s xs) ≡ list_any (λ x. s x && p x) xs
any-filter p s [] = refl
any-filter p s (x ∷ xs) = by (s x) refl (any-filter p s xs)
  where
    by : (t : Bool) → s x ≡ t → list_any p (filter s xs) ≡ list_any (λ x. s x && p x) xs
        → list_any p (filter s (x ∷ xs)) ≡ list_any (λ x. s x && p x) (x ∷ xs)
    by true e rest = rw e (ap (λ t. p x || t) rest)
    by false e rest = rw e rest

abbrev opt_at : (List ℕ → Bool) → Option (List ℕ) → Bool
opt_at p None = false
opt_at p (Some x) = p x

has_at-opt : (p : List ℕ → Bool) (xs : List (List ℕ)) (k : ℕ)
    → has_at p xs k ≡ opt_at p (slice_get xs k)
has_at-opt p [] zero = refl
has_at-opt p [] (suc k) = refl
has_at-opt p (x ∷ xs) zero = refl
has_at-opt p (x ∷ xs) (suc k) = has_at-opt p xs k

none-of : {X : Type 0} (p : X → Bool) → ((x : X) → p x ≡ false) → (xs : List X)
    → list_any p xs ≡ false
none-of p h [] = refl
none-of p h (x ∷ xs) = let e = h x in rw e (none-of p h xs)

module _ (es : List Entry) (gs : List (List ℕ)) (u : Unique same_name gs) where
  outer-is : (a : ℕ) (s : Spot)
      → is_bin a (outer_number gs s) ≡ opt_at (λ g. stands_at (Group g) s) (slice_get gs a)
  outer-is a (At m) = by (slice_get gs a)
    where
      by : (o : Option (List ℕ)) → false ≡ opt_at (λ g. stands_at (Group g) (At m)) o
      by None = refl
      by (Some g) = refl
  outer-is a (Inside m) = at-position same_name name_same m gs u a ∙ has_at-opt (same_name m) gs a
      ∙ by (slice_get gs a)
    where
      by : (o : Option (List ℕ))
          → opt_at (same_name m) o ≡ opt_at (λ g. stands_at (Group g) (Inside m)) o
      by None = refl
      by (Some g) = name_same.turn m g

  inner-is : (b : ℕ) (name : List ℕ)
      → is_bin b (position (same_name name) gs) ≡ opt_at (same_name name) (slice_get gs b)
  inner-is b name = at-position same_name name_same name gs u b ∙ has_at-opt (same_name name) gs b

  abbrev puts : Option (List ℕ) → Option (List ℕ) → Entry → Bool
  puts o q e = e.block.group
      && (opt_at (λ g. stands_at (Group g) e.block.spot) o && opt_at (same_name e.block.name) q)

  puts-is : (a b : ℕ) (e : Entry) → puts_inside gs e a b ≡ puts (slice_get gs a) (slice_get gs b) e
  puts-is a b e =
      ap (λ t. e.block.group && (t && is_bin b (position (same_name e.block.name) gs)))
      (outer-is a e.block.spot)
      ∙ ap (λ t. e.block.group
      && (opt_at (λ g. stands_at (Group g) e.block.spot) (slice_get gs a) && t))
      (inner-is b e.block.name)

  both : (o q : Option (List ℕ)) → list_any (puts o q) es ≡ both_inside es o q
  both None q = none-of (puts None q) (λ e. and_false e.block.group) es
  both (Some g) None = none-of (puts (Some g) None)
      (λ e. ap (λ t. e.block.group && t) (and_false (stands_at (Group g) e.block.spot))
      ∙ and_false e.block.group) es
  both (Some g) (Some h) =
      any-agree (puts (Some g) (Some h)) (λ e. stands_at (Group g) e.block.spot && is_group h e)
      (λ e. swapped e.block.group (stands_at (Group g) e.block.spot) (same_name e.block.name h))
      es
      ∙ sym (any-filter (is_group h) (λ e. stands_at (Group g) e.block.spot) es)

  pub said-inside : (a b : ℕ)
      → list_any (λ e. puts_inside gs e a b) es ≡ both_inside es (slice_get gs a) (slice_get gs b)
  said-inside a b = any-agree (λ e. puts_inside gs e a b) (puts (slice_get gs a) (slice_get gs b))
      (puts-is a b) es ∙ both (slice_get gs a) (slice_get gs b)

pub sorted-groups : {E : Type 0} (es : List Entry) (pairs : List (ℕ × ℕ)) (ts : List (List ℕ))
    (n : ℕ) (r : Result Sorted E) → ts ≡ group_names es → n ≡ length ts
    → ((a b : ℕ) → pair_before pairs a b ≡ list_any (λ e. puts_inside ts e a b) es)
    → IfOk r (λ s. IsSorted (pair_before pairs) (numbers n) s)
    → IfOk r (λ s. IsSorted (contains_at es) (numbers (length ts)) s)
sorted-groups es pairs ts n r named size told sorted =
    let gs = group_names es in
    let same : pair_before pairs ≡ contains_at es =
    fun_ext
    (λ a. fun_ext (λ b. told a b ∙ ap (λ gs. list_any (λ e. puts_inside gs e a b) es) named
    ∙ said-inside es gs (unique same_name name_same [] _) a b)) in
    let P : Before → Type 0 = λ before. IfOk r (λ s. IsSorted before (numbers n) s) in
    let Q : ℕ → Type 0 = λ m. IfOk r (λ s. IsSorted (contains_at es) (numbers m) s) in
    subst Q size (subst P same sorted)

-- ---- names

pub name-past : (gs names : List (List ℕ)) (k : ℕ) → length gs ≤ k
    → names ≡ names ++ filter_map (λ k. slice_get gs k) (k ∷ [])
name-past gs names k past = let e = slice_get_past gs k past in rw e (sym (append-nil names))

pub name-here : (gs names new : List (List ℕ)) (k : ℕ) (name : List ℕ) → slice_get gs k ≡ Some name
    → new ≡ names ++ name ∷ [] → new ≡ names ++ filter_map (λ k. slice_get gs k) (k ∷ [])
name-here gs names new k name here is = rw here is

pub names-more : (gs : List (List ℕ)) (ks : List ℕ) (i : ℕ) (old new : List (List ℕ))
    → i < length ks → new ≡ old ++ filter_map (λ k. slice_get gs k) (get_or ks i 0 ∷ [])
    → old ≡ filter_map (λ k. slice_get gs k) (take i ks)
    → new ≡ filter_map (λ k. slice_get gs k) (take (i + 1) ks)
names-more gs ks i old new within is was =
    is
    ∙ ap (λ l. l ++ filter_map (λ k. slice_get gs k) (get_or ks i 0 ∷ [])) was
    ∙ sym (filter_map-append (λ k. slice_get gs k) (take i ks) (get_or ks i 0 ∷ []))
    ∙ ap (filter_map (λ k. slice_get gs k)) (sym (take_more ks i 0 within))
