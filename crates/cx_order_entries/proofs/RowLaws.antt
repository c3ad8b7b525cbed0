-- The entries of places by their numbers.
use Rattle.std.proofs.Common.{◌≡◌, refl, sym, ◌∙◌, ap, subst, ℕ, ◌+◌, ◌-◌, ◌<◌, ◌≤◌, Bool, true, false, eqb, eqb-true, eq-eqb, ltb, ltb-true, ltb-false, List, [], ◌∷◌, ◌++◌, map, length, get_or, set, take, Option, Some, None, if◌then◌else◌, append-nil, arith}
use Rattle.std.specs.Prelude.{slice_get}
use Rattle.std.specs.List.{All, position}
use Rattle.std.specs.Option.{option_map}
use Rattle.std.proofs.lemmas.Bool.{eqb-false, ne_eqb}
use Rattle.std.proofs.lemmas.List.{take_more, length-map, get_or-map, get_or-set_same, get_or-set_other}
use Rattle.std.proofs.lemmas.List.Elements.{filter-append, filter_map-append, All-push}
use Rattle.std.proofs.lemmas.List.Quantifiers.{position-Some}
use Rattle.std.proofs.lemmas.Option.{slice_get_read}
use Rattle.cx_text.specs.Lexemes.{same_name}
use Rattle.cx_sched.specs.declared.tree.Spot.{Spot}
use Rattle.cx_sched.specs.declared.tree.Spot.TheVariants.{At, Inside}
use Rattle.cx_order_entries.specs.Bins.{bin_of, plain}
use Rattle.cx_plan.specs.Lookups.{bin_names}
use Rattle.cx_order_entries.specs.declared.counted.Entry.{Entry as LentEntry}
use Rattle.cx_order_entries.specs.Seen.{seen_entry}
use Rattle.cx_order_entries.specs.Counted.{Entry}
use Rattle.cx_order_entries.specs.Entries.{Place, Bin, Group, is_bin, stands_at, entries_at}
use Rattle.cx_order_least.specs.Links.{row}
use Rattle.cx_order_entries.specs.PlaceNumbers.{group_names, place_count, place}
use Rattle.cx_plan.specs.Lookups.{bin_count}
use Rattle.cx_order_entries.specs.Members.{spot_number, entries_of}
use Rattle.cx_order_entries.proofs.OnceLaws.{Unique, unique, name_same, at-position, has_at-get}

-- ---- a place by its number

abbrev place_in : List (List ℕ) → ℕ → Place
place_in gs k = if ltb k bin_count then Bin k else Group (get_or gs (k - bin_count) [])

pub eqb-same : (a b c d : ℕ) → (a ≡ b → c ≡ d) → (c ≡ d → a ≡ b) → eqb a b ≡ eqb c d
eqb-same a b c d f g = by_test (eqb a b) refl
  where
    by_test : (t : Bool) → eqb a b ≡ t → eqb a b ≡ eqb c d
    by_test true e = e ∙ sym (eq-eqb c d (f (eqb-true a b e)))
    by_test false e = e ∙ sym (ne_eqb c d (λ same. eqb-false a b e (g same)))

no-group : (k : ℕ) → k < bin_count → (o : Option ℕ)
    → is_bin k (option_map (λ j. bin_count + j) o) ≡ false
no-group k h None = refl
no-group k h (Some j) = ne_eqb k (bin_count + j) (λ same. omega (arith, h, same))

pub no-bin : (k : ℕ) (name : List ℕ) → bin_count ≤ k → (o : Option ℕ) → bin_of name ≡ o
    → is_bin k o ≡ false
no-bin k name h None e = refl
no-bin k name h (Some i) e =
    ne_eqb k i (λ same. let below = (position-Some (same_name (plain name)) bin_names i [] e).0 in
    omega (arith, h, same, below))

shifted : (k : ℕ) → bin_count ≤ k → (o : Option ℕ)
    → is_bin k (option_map (λ j. bin_count + j) o) ≡ is_bin (k - bin_count) o
shifted k h None = refl
shifted k h (Some j) = eqb-same k (bin_count + j) (k - bin_count) j (λ e. omega (arith, h, e))
    (λ e. omega (arith, h, e))

pub stands-number : (gs : List (List ℕ)) → Unique same_name gs → (k : ℕ) → k < bin_count + length gs
    → (s : Spot) → stands_at (place_in gs k) s ≡ is_bin k (spot_number gs s)
stands-number gs u k h s = by_test s (ltb k bin_count) refl
  where
    by_test : (s : Spot) → (t : Bool) → ltb k bin_count ≡ t
        → stands_at (place_in gs k) s ≡ is_bin k (spot_number gs s)
    by_test (At name) true e = rw e refl
    by_test (Inside name) true e =
        rw e (sym (no-group k (ltb-true k bin_count e) (position (same_name name) gs)))
    by_test (At name) false e =
        rw e (sym (no-bin k name (ltb-false k bin_count e) (bin_of name) refl))
    by_test (Inside name) false e =
        let above = ltb-false k bin_count e in
        let j = k - bin_count in
        let below : j < length gs = omega (arith, h, above) in
        rw e
        (sym (shifted k above (position (same_name name) gs)
        ∙ at-position same_name name_same name gs u j
        ∙ has_at-get (same_name name) gs j [] below
        ∙ name_same.turn name (get_or gs j [])))

pub stands : (es : List Entry) (k : ℕ) → k < place_count es → (s : Spot)
    → stands_at (place es k) s ≡ is_bin k (spot_number (group_names es) s)
stands es k h s = stands-number (group_names es) (unique same_name name_same [] _) k h s

-- ---- rows

pub row-push : (rows : List (List ℕ)) (at n k : ℕ) → at < length rows
    → row (set rows at (row rows at ++ n ∷ [])) k ≡ row rows k ++ (if eqb k at then n ∷ [] else [])
row-push rows at n k h = by_test (eqb k at) refl
  where
    by_test : (t : Bool) → eqb k at ≡ t
        → row (set rows at (row rows at ++ n ∷ [])) k
        ≡ row rows k ++ (if eqb k at then n ∷ [] else [])
    by_test true e =
        let P : ℕ → Type 0 = λ m. row (set rows at (row rows at ++ n ∷ [])) m
        ≡ row rows m ++ n ∷ [] in
        rw e (subst P (sym (eqb-true k at e))
        (get_or-set_same rows at (row rows at ++ n ∷ []) [] h))
    by_test false e = rw e (get_or-set_other rows at k (row rows at ++ n ∷ []) [] (eqb-false k at e)
        ∙ sym (append-nil (row rows k)))

-- the rows of the first so many entries
pub record Standing (es : List Entry) (i : ℕ) (rows : List (List ℕ)) : Type 0 where
  pub count : length rows ≡ place_count es
  pub entries : (k : ℕ) → k < length rows
      → entries_of es (row rows k) ≡ entries_at (take i es) (place es k)
  pub within : (k : ℕ) → All (λ j. j < length es) (row rows k)

module _ (es : List Entry) (i : ℕ) (x : Entry) (within : i < length es) (at : x ≡ get_or es i x)
    (o : Option ℕ) (is : o ≡ spot_number (group_names es) x.block.spot) (rows new : List (List ℕ))
    (size : length new ≡ length rows)
    (grown : (k : ℕ) → row new k ≡ row rows k ++ (if is_bin k o then i ∷ [] else []))
    (s : Standing es i rows) where
  taken : take (i + 1) es ≡ take i es ++ x ∷ []
  taken = take_more es i x within ∙ ap (λ u. take i es ++ u ∷ []) (sym at)

  one : (p : Place) (t b : Bool) → stands_at p x.block.spot ≡ t → b ≡ t
      → entries_of es (if b then i ∷ [] else []) ≡ entries_at (x ∷ []) p
  one p true b e f = let got = slice_get_read es (length es) i x refl within at in
      rw (f, e, got) refl
  one p false b e f = rw (f, e) refl

  in_row : (k : ℕ) → k < length new
      → entries_of es (row new k) ≡ entries_at (take (i + 1) es) (place es k)
  in_row k h =
      let below : k < length rows = let e = size in omega (arith, h, e) in
      let p = place es k in
      let there : stands_at p x.block.spot ≡ is_bin k o =
      stands es k (let e = s.count in omega (arith, below, e)) x.block.spot
      ∙ ap (is_bin k) (sym is) in
      ap (entries_of es) (grown k)
      ∙ filter_map-append (λ j. slice_get es j) (row rows k) (if is_bin k o then i ∷ [] else [])
      ∙ ap (λ l. l ++ entries_of es (if is_bin k o then i ∷ [] else [])) (s.entries k below)
      ∙ ap (λ l. entries_at (take i es) p ++ l) (one p (is_bin k o) (is_bin k o) there refl)
      ∙ sym (filter-append (λ e. stands_at p e.block.spot) (take i es) (x ∷ []))
      ∙ ap (λ l. entries_at l p) (sym taken)

  row_within : (k : ℕ) (b : Bool) → is_bin k o ≡ b
      → All (λ j. j < length es) (row rows k ++ (if is_bin k o then i ∷ [] else []))
  row_within k true e = rw e (All-push (λ j. j < length es) (row rows k) i (s.within k) within)
  row_within k false e = let A : List ℕ → Type 0 = λ l. All (λ j. j < length es) l in
      rw e (subst A (sym (append-nil (row rows k))) (s.within k))

  pub standing-next : Standing es (i + 1) new
  standing-next =
      record {
        count = size ∙ s.count;
        entries = in_row;
        within = λ k. (let A : List ℕ → Type 0 = λ l. All (λ j. j < length es) l in
            subst A (sym (grown k)) (row_within k (is_bin k o) refl));
      }

-- ---- entries that are lent

module _ (xs : List LentEntry) where
  pub in_all : (i : ℕ) → i < length xs → i < length (map seen_entry xs)
  in_all i within = subst (λ n. i < n) (sym (length-map xs seen_entry)) within

  pub at_seen : (i : ℕ) (x : LentEntry) → i < length xs → x ≡ get_or xs i x
      → seen_entry x ≡ get_or (map seen_entry xs) i (seen_entry x)
  at_seen i x within is = ap seen_entry is
      ∙ sym (get_or-map seen_entry xs i x (seen_entry x) within)
