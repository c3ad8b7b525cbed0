-- A cycle of groups by their numbers, as one by their names.
use Rattle.std.proofs.Common.{◌≡◌, ◌⊎◌, inl, inr, refl, sym, ◌∙◌, ap, subst, ℕ, zero, suc, ◌<◌, ◌≤◌, Bool, true, false, cond, ◌||◌, ◌&&◌, eqb, eqb-true, ltb, ltb-true, ltb-false, List, [], ◌∷◌, ◌++◌, map, filter, filter_map, length, get_or, Option, Some, None, arith}
use Rattle.std.specs.Prelude.{slice_get, nat_le}
use Rattle.std.specs.List.{list_any, position, find, cons_option}
use Rattle.std.specs.Option.{option_map}
use Rattle.std.proofs.lemmas.Bool.{false≢true, and_parts, ne_eqb, leb-true}
use Rattle.std.proofs.lemmas.List.Folds.{list_any-append}
use Rattle.std.proofs.lemmas.Option.{slice_get-get_or}
use Rattle.cx_text.specs.Lexemes.{same_name, among}
use Rattle.cx_plan.specs.Lists.{once, once_behind}
use Rattle.cx_order_entries.specs.Counted.{Entry}
use Rattle.cx_order_entries.specs.Entries.{Group, is_bin, stands_at, block_name}
use Rattle.cx_order_least.specs.Orders.{count, numbers, IsOrder, IsLeastOrder, IsCycle, leads}
use Rattle.cx_order_entries.specs.PlaceNumbers.{inside_name, block_names, spot_names, group_names}
use Rattle.cx_order_entries.specs.Cycles.{is_inside, first_group, begins_with, AllDiffer, AreSpelled, IsGroupCycle, NoGroupCycle}
use Rattle.cx_order_entries.specs.Nested.{contains_at}
use Rattle.cx_order_least.proofs.Counts.{same_or_other, count-first, count-later, all-at}
use Rattle.cx_order_entries.proofs.KeyLaws.{any_mapped}
use Rattle.cx_order_entries.proofs.OnceLaws.{unique, bytes_same, name_same, at-position, has_at-get, any-agree}
use Rattle.cx_order_entries.proofs.GroupCycles.{cycle-map, within, contains-is, no-block, no-groups}

-- ---- what is found first

module _ {X : Type 0} where
  any-imply : (p q : X → Bool) → ((x : X) → p x ≡ true → q x ≡ true) → (xs : List X)
      → list_any p xs ≡ true → list_any q xs ≡ true
  any-imply p q h [] e = e
  any-imply p q h (x ∷ xs) e = by (p x) refl (any-imply p q h xs)
    where
      by : (t : Bool) → p x ≡ t → (list_any p xs ≡ true → list_any q xs ≡ true)
          → (q x || list_any q xs) ≡ true
      by true f rest = let g = h x f in rw g refl
      by false f rest = last (q x) (rest (sym (ap (λ t. t || list_any p xs) f) ∙ e))
        where
          last : (t : Bool) → list_any q xs ≡ true → (t || list_any q xs) ≡ true
          last true g = refl
          last false g = g

  find-append : (q : X → Bool) (xs ys : List X) → list_any q xs ≡ true
      → find q (xs ++ ys) ≡ find q xs
  find-append q [] ys h = absurd (false≢true h)
  find-append q (x ∷ xs) ys h = by (q x) refl (find-append q xs ys)
    where
      by : (t : Bool) → q x ≡ t → (list_any q xs ≡ true → find q (xs ++ ys) ≡ find q xs)
          → cond (q x) (Some x) (find q (xs ++ ys)) ≡ cond (q x) (Some x) (find q xs)
      by true e rest = rw e refl
      by false e rest = rw e (rest (sym (ap (λ t. t || list_any q xs) e) ∙ h))

  find-at : (p : X → Bool) (xs : List X) (k : ℕ) (d : X) → k < length xs
      → ((i : ℕ) → i < k → p (get_or xs i d) ≡ false) → p (get_or xs k d) ≡ true
      → find p xs ≡ Some (get_or xs k d)
  find-at p [] k d l before here = absurd (let no : ⊥ = omega (arith, l) in no)
  find-at p (x ∷ xs) zero d l before here = rw here refl
  find-at p (x ∷ xs) (suc k) d l before here = let e = before 0 (omega arith) in
      rw e (find-at p xs k d (omega (arith, l)) (λ i h. before (suc i) (omega (arith, h))) here)

or_no : (a b : Bool) → (a || b) ≡ false → (a ≡ false) × (b ≡ false)
or_no false b e = (refl, e)
or_no true b e = absurd (false≢true (sym e))

-- among names that a test can't tell apart, the first that passes is kept
module _ (q : List ℕ → Bool) (blind : (x y : List ℕ) → same_name x y ≡ true → q x ≡ q y) where
  known : (x : List ℕ) (there : List (List ℕ)) → list_any (same_name x) there ≡ true
      → list_any q there ≡ false → q x ≡ false
  known x [] h none = absurd (false≢true h)
  known x (y ∷ ys) h none = by (same_name x y) refl (known x ys)
    where
      parts : (q y ≡ false) × (list_any q ys ≡ false)
      parts = or_no (q y) (list_any q ys) none

      by : (t : Bool) → same_name x y ≡ t
          → (list_any (same_name x) ys ≡ true → list_any q ys ≡ false → q x ≡ false) → q x ≡ false
      by true e rest = blind x y e ∙ parts.0
      by false e rest = rest (sym (ap (λ t. t || list_any (same_name x) ys) e) ∙ h) parts.1

  find-once : (there xs : List (List ℕ)) → list_any q there ≡ false
      → find q (once_behind same_name there xs) ≡ find q xs
  find-once there [] none = refl
  find-once there (x ∷ xs) none =
      by (list_any (same_name x) there) refl (q x) refl (find-once there xs none)
      (find-once (there ++ x ∷ []) xs)
    where
      by : (t : Bool) → list_any (same_name x) there ≡ t → (u : Bool) → q x ≡ u
          → find q (once_behind same_name there xs) ≡ find q xs
          → (list_any q (there ++ x ∷ []) ≡ false
          → find q (once_behind same_name (there ++ x ∷ []) xs) ≡ find q xs)
          → find q (once_behind same_name there (x ∷ xs)) ≡ cond (q x) (Some x) (find q xs)
      by true e u f passed more = let g = known x there e none in rw (e, g) passed
      by false e true f passed more = rw (e, f) refl
      by false e false f passed more =
          rw (e, f)
          (more (list_any-append q there (x ∷ []) ∙ ap (λ t. t || (q x || false)) none
          ∙ ap (λ t. t || false) f))

first-block : (q : List ℕ → Bool) (es : List Entry)
    → option_map (λ e. e.block.name) (find (λ e. e.block.group && q e.block.name) es)
    ≡ find q (map (λ e. e.block.name) (filter (λ e. e.block.group) es))
first-block q [] = refl
first-block q (e ∷ es) = by e.block.group refl (q e.block.name) refl (first-block q es)
  where
    by : (t : Bool) → e.block.group ≡ t → (u : Bool) → q e.block.name ≡ u
        → option_map (λ e. e.block.name) (find (λ e. e.block.group && q e.block.name) es)
        ≡ find q (map (λ e. e.block.name) (filter (λ e. e.block.group) es))
        → option_map (λ e. e.block.name) (find (λ e. e.block.group && q e.block.name) (e ∷ es))
        ≡ find q (map (λ e. e.block.name) (filter (λ e. e.block.group) (e ∷ es)))
    by true f true g rest = rw (f, g) refl
    by true f false g rest = rw (f, g) rest
    by false f u g rest = rw f rest

-- ---- numbers on a cycle

last-link : (before : ℕ → ℕ → Bool) (x : ℕ) (ys : List ℕ) (end : ℕ) → leads before x ys end ≡ true
    → (a : ℕ) × (before a end ≡ true)
last-link before x [] end h = (x, h)
last-link before x (y ∷ ys) end h =
    last-link before y ys end (and_parts (before x y) (leads before y ys end) h).1

differs : (k x : ℕ) → ((xs : List ℕ) → count x (k ∷ xs) ≡ count x xs) → x ≡ k → ⊥
differs k x other same =
    let C : ℕ → Type 0 = λ j. count j (k ∷ []) ≡ count j [] in
    let e : count k (k ∷ []) ≡ count k [] = subst C same (other []) in
    let f = count-first k [] in omega (arith, e, f)

module _ (es : List Entry) where
  abbrev g : ℕ → List ℕ
  g k = get_or (group_names es) k []

  named : (x : ℕ) (ys : List ℕ) (end : ℕ) → leads (contains_at es) x ys end ≡ true
      → filter_map (λ k. slice_get (group_names es) k) (x ∷ ys) ≡ map g (x ∷ ys)
  named x [] end h = ap (λ o. cons_option o [])
      (slice_get-get_or (group_names es) x [] (within es x end h).0)
  named x (y ∷ ys) end h =
      let parts = and_parts (contains_at es x y) (leads (contains_at es) y ys end) h in
      ap (λ o. cons_option o (filter_map (λ k. slice_get (group_names es) k) (y ∷ ys)))
      (slice_get-get_or (group_names es) x [] (within es x y parts.0).0)
      ∙ ap (λ r. g x ∷ r) (named y ys end parts.1)

  below : (x : ℕ) (ys : List ℕ) (end : ℕ) → leads (contains_at es) x ys end ≡ true → (k : ℕ)
      → 0 < count k (x ∷ ys) → k < length (group_names es)
  below x [] end h k there = elim (same_or_other x k) [
    | inl e ↦ (let L : ℕ → Type 0 = λ j. j < length (group_names es) in
        subst L e (within es x end h).0)
    | inr other ↦ absurd (let o = other [] in let no : ⊥ = omega (arith, there, o) in no)
  ]
  below x (y ∷ ys) end h k there =
      let parts = and_parts (contains_at es x y) (leads (contains_at es) y ys end) h in
      elim (same_or_other x k) [
        | inl e ↦ (let L : ℕ → Type 0 = λ j. j < length (group_names es) in
            subst L e (within es x y parts.0).0)
        | inr other ↦ below y ys end parts.1 k (let o = other (y ∷ ys) in omega (arith, there, o))
      ]

  apart : (i j : ℕ) → i < length (group_names es) → j < length (group_names es) → (i ≡ j → ⊥)
      → same_name (g i) (g j) ≡ false
  apart i j li lj other = by (position (same_name (g i)) (group_names es)) refl
    where
      at : (k : ℕ) → k < length (group_names es)
          → is_bin k (position (same_name (g i)) (group_names es)) ≡ same_name (g i) (g k)
      at k l = at-position same_name name_same (g i) (group_names es)
          (unique same_name name_same [] _) k ∙ has_at-get (same_name (g i)) (group_names es) k [] l

      by : (o : Option ℕ) → position (same_name (g i)) (group_names es) ≡ o
          → same_name (g i) (g j) ≡ false
      by None e = absurd (false≢true (sym (ap (is_bin i) e) ∙ at i li ∙ name_same.itself (g i)))
      by (Some m) e =
          let here : eqb i m ≡ true = sym (ap (is_bin i) e) ∙ at i li ∙ name_same.itself (g i) in
          sym (at j lj) ∙ ap (is_bin j) e
          ∙ ne_eqb j m (λ same. other (eqb-true i m here ∙ sym same))

  absent : (x : ℕ) (ks : List ℕ) → x < length (group_names es) → count x ks ≡ 0
      → ((k : ℕ) → 0 < count k ks → k < length (group_names es))
      → list_any (λ k. same_name (g x) (g k)) ks ≡ false
  absent x [] l none inside = refl
  absent x (k ∷ ks) l none inside = by (same_or_other k x) (absent x ks l)
    where
      k_below : k < length (group_names es)
      k_below = inside k (let f = count-first k ks in omega (arith, f))

      by : (k ≡ x) ⊎ ((xs : List ℕ) → count x (k ∷ xs) ≡ count x xs)
          → (count x ks ≡ 0 → ((k : ℕ) → 0 < count k ks → k < length (group_names es))
          → list_any (λ k. same_name (g x) (g k)) ks ≡ false)
          → (same_name (g x) (g k) || list_any (λ k. same_name (g x) (g k)) ks) ≡ false
      by (inl e) rest =
          let C : ℕ → Type 0 = λ j. count j (k ∷ ks) ≡ 0 in
          absurd (let z : count k (k ∷ ks) ≡ 0 = subst C (sym e) none in let f = count-first k ks in
          let no : ⊥ = omega (arith, z, f) in no)
      by (inr other) rest =
          let a = apart x k l k_below (differs k x other) in
          rw a (rest (sym (other ks) ∙ none) (λ j there. inside j (count-later k j ks there)))

  all-differ : (ks : List ℕ) → ((k : ℕ) → count k ks ≤ 1)
      → ((k : ℕ) → 0 < count k ks → k < length (group_names es)) → AllDiffer (map g ks)
  all-differ [] once inside = tt
  all-differ (x ∷ ks) once inside =
      let f = count-first x ks in
      let o = once x in (
        any_mapped (same_name (g x)) g ks
            ∙ absent x ks (inside x (omega (arith, f))) (omega (arith, f, o))
            (λ k there. inside k (count-later x k ks there)),
        all-differ ks (λ k. (let c = once k in fewer x k ks c))
            (λ k there. inside k (count-later x k ks there)),
      )
    where
      fewer : (x k : ℕ) (ks : List ℕ) → count k (x ∷ ks) ≤ 1 → count k ks ≤ 1
      fewer x k ks c = omega (arith, c)

  -- a group that another contains has its name from its first block
  own : (a k : ℕ) → contains_at es a k ≡ true → block_name es (g k) ≡ Some (g k)
  own a k h =
      first-block (λ n. same_name n (g k)) es
      ∙ sym (find-append (λ n. same_name n (g k)) (block_names es) (spot_names es)
      (any-imply (same_name (g k)) (λ n. same_name n (g k)) (λ b s. name_same.turn b (g k) ∙ s)
      (block_names es) a_block))
      ∙ sym (find-once (λ n. same_name n (g k)) (λ m n same. name_same.agree m n (g k) same) []
      (block_names es ++ spot_names es) refl)
      ∙ find-at (λ n. same_name n (g k)) (group_names es) k [] (within es a k h).1 earlier
      (name_same.itself (g k))
    where
      earlier : (i : ℕ) → i < k → same_name (g i) (g k) ≡ false
      earlier i below = let l = (within es a k h).1 in
          apart i k (omega (arith, below, l)) l (λ e. let no : ⊥ = omega (arith, e, below) in no)

      a_block : list_any (same_name (g k)) (block_names es) ≡ true
      a_block = by (list_any (same_name (g k)) (block_names es)) refl
        where
          by : (t : Bool) → list_any (same_name (g k)) (block_names es) ≡ t
              → list_any (same_name (g k)) (block_names es) ≡ true
          by true e = e
          by false e =
              let w = within es a k h in
              absurd
              (false≢true
              (sym (no-block es (g k) (λ e. stands_at (Group (g a)) e.block.spot) es e)
              ∙ sym (contains-is es a k w.0 w.1) ∙ h))

  later-spelled : (x : ℕ) (ys : List ℕ) (end : ℕ) → leads (contains_at es) x ys end ≡ true
      → AreSpelled es (map g ys)
  later-spelled x [] end h = tt
  later-spelled x (y ∷ ys) end h =
      let parts = and_parts (contains_at es x y) (leads (contains_at es) y ys end) h in
      (own x y parts.0, later-spelled y ys end parts.1)

  all-spelled : (x : ℕ) (ks : List ℕ) → leads (contains_at es) x ks x ≡ true
      → AreSpelled es (map g (x ∷ ks))
  all-spelled x ks h = let l = last-link (contains_at es) x ks x h in
      (own l.0 x l.1, later-spelled x ks x h)

  pub group-cycle : (ks : List ℕ) → IsCycle (contains_at es) ks
      → IsGroupCycle es (filter_map (λ k. slice_get (group_names es) k) ks)
  group-cycle [] c = absurd (false≢true c.cycle)
  group-cycle (x ∷ ks) c =
      let G : List (List ℕ) → Type 0 = λ names. IsGroupCycle es names in
      subst G (sym (named x ks x c.cycle))
      (record {
        cycle = cycle-map (contains_at es) (is_inside es) g contained (x ∷ ks) c.cycle;
        differ = all-differ (x ∷ ks) c.once inside;
        begins = ap (begins_with (map g (x ∷ ks))) first ∙ bytes_same.itself (g x);
        spelled = all-spelled x ks c.cycle;
      })
    where
      contained : (a b : ℕ) → contains_at es a b ≡ true → is_inside es (g a) (g b) ≡ true
      contained a b h = (let w = within es a b h in sym (contains-is es a b w.0 w.1) ∙ h)

      inside : (k : ℕ) → 0 < count k (x ∷ ks) → k < length (group_names es)
      inside = below x ks x c.cycle

      x_below : x < length (group_names es)
      x_below = inside x (let f = count-first x ks in omega (arith, f))

      blind : (m n : List ℕ) → same_name m n ≡ true
          → among (map g (x ∷ ks)) m ≡ among (map g (x ∷ ks)) n
      blind m n h = any-agree (same_name m) (same_name n) (λ y. name_same.agree m n y h)
          (map g (x ∷ ks))

      none_yet : (i : ℕ) → i < x → count i (x ∷ ks) ≡ 0
      none_yet i h = by (ltb 0 (count i (x ∷ ks))) refl
        where
          later : 0 < count i ks → ⊥
          later there = (let up = leb-true x i (all-at (λ y. nat_le x y) ks i c.least there) in
              omega (arith, up, h))

          by : (t : Bool) → ltb 0 (count i (x ∷ ks)) ≡ t → count i (x ∷ ks) ≡ 0
          by false e = let l = ltb-false 0 (count i (x ∷ ks)) e in omega (arith, l)
          by true e = elim (same_or_other x i) [
            | inl same ↦ absurd (let no : ⊥ = omega (arith, same, h) in no)
            | inr other
                ↦ absurd
                (later (let l = ltb-true 0 (count i (x ∷ ks)) e in let o = other ks in
                omega (arith, l, o)))
          ]

      here : among (map g (x ∷ ks)) (g x) ≡ true
      here = let e = name_same.itself (g x) in rw e refl

      earlier : (i : ℕ) → i < x → among (map g (x ∷ ks)) (g i) ≡ false
      earlier i h = any_mapped (same_name (g i)) g (x ∷ ks)
          ∙ absent i (x ∷ ks) (let l = x_below in omega (arith, h, l)) (none_yet i h) inside

      a_block : list_any (same_name (g x))
          (map (λ e. e.block.name) (filter (λ e. e.block.group) es)) ≡ true
      a_block =
          by (list_any (same_name (g x)) (map (λ e. e.block.name) (filter (λ e. e.block.group) es)))
          refl
        where
          by : (t : Bool) → list_any (same_name (g x))
              (map (λ e. e.block.name) (filter (λ e. e.block.group) es)) ≡ t
              → list_any (same_name (g x))
              (map (λ e. e.block.name) (filter (λ e. e.block.group) es)) ≡ true
          by true e = e
          by false e = (let l = last-link (contains_at es) x ks x c.cycle in
              absurd
              (false≢true
              (sym (no-block es (g x) (λ e. stands_at (Group (g l.0)) e.block.spot) es e)
              ∙ contained l.0 x l.1)))

      first : first_group es (map g (x ∷ ks)) ≡ Some (g x)
      first =
          first-block (among (map g (x ∷ ks))) es
          ∙ sym (find-append (among (map g (x ∷ ks)))
          (map (λ e. e.block.name) (filter (λ e. e.block.group) es))
          (filter_map (λ e. inside_name e.block.spot) es)
          (any-imply (same_name (g x)) (among (map g (x ∷ ks)))
          (λ b h. (let e = name_same.turn b (g x) ∙ h in rw e refl))
          (map (λ e. e.block.name) (filter (λ e. e.block.group) es)) a_block))
          ∙ sym (find-once (among (map g (x ∷ ks))) blind []
          (map (λ e. e.block.name) (filter (λ e. e.block.group) es)
          ++ filter_map (λ e. inside_name e.block.spot) es) refl)
          ∙ find-at (among (map g (x ∷ ks))) (group_names es) x [] x_below earlier here

pub nested-cycle : (es : List Entry) (ts names : List (List ℕ)) (ks : List ℕ) → ts ≡ group_names es
    → names ≡ filter_map (λ k. slice_get ts k) ks → IsCycle (contains_at es) ks
    → IsGroupCycle es names
nested-cycle es ts names ks same named cycle =
    let G : List (List ℕ) → Type 0 = λ names. IsGroupCycle es names in
    subst G (sym (named ∙ ap (λ gs. filter_map (λ k. slice_get gs k) ks) same))
    (group-cycle es ks cycle)

pub nested-order : (es : List Entry) (ts : List (List ℕ)) (xs : List ℕ) → ts ≡ group_names es
    → IsLeastOrder (contains_at es) (numbers (length ts)) xs
    → IsOrder (contains_at es) (numbers (length (group_names es))) xs × NoGroupCycle es
nested-order es ts xs same least =
    let O : List (List ℕ) → Type 0 = λ gs. IsOrder (contains_at es) (numbers (length gs)) xs in
    let order = subst O same least.order in
    (order, no-groups es xs order)
