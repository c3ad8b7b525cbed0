-- A whole level from the values of all parts, and the values of the parts from a whole level.
use Rattle.std.proofs.Common.{◌≡◌, ◌≢◌, ℕ, ◌+◌, ◌<◌, ◌≤◌, ◌⊎◌, inl, inr, Bool, true, false, arith, refl, sym, ap, ◌∙◌, subst, ℤ, pos, List, length}
use Rattle.std.specs.Prelude.{slice_index_or}
use Rattle.std.specs.List.{range_with_len}
use Rattle.std.proofs.Math.ListN.{set}
use Rattle.std.proofs.lemmas.Bool.{cases_eq, cases_Bool}
use Rattle.std.proofs.lemmas.List.{get_or-set_other, length-set}
use Rattle.std.proofs.lemmas.Grind.{get_or-set_at}
use Rattle.std.proofs.lemmas.List.Sums.{position_or_len_is}
use Rattle.std.proofs.lemmas.List.FromFn.{fill_by_all, length-range_with_len, get_or-range_with_len, length-map-range_with_len, get_or-map-range_with_len}
use Rattle.cx_grid.specs.declared.boxes.Point.{Point}
use Rattle.cx_grid.specs.declared.boxes.Box3.{Box3}
use Rattle.cx_grid.specs.Boxes.{IsIn, has_point, point_count, index_in, point_in, numbers_in}
use Rattle.cx_grid.specs.Grid.{whole}
use Rattle.cx_grid.proofs.Places.{index_below, index_once, index_at_point, point_at_index, point_inside}
use Rattle.cx_grid.proofs.Points.{in_is, in_from}
use Rattle.cx_cut.specs.Cuts.{Parts, IsCut, IsWhole, part_count, owned}
use Rattle.cx_cut.proofs.Tiled.{tiles}
use Rattle.cx_chunks.specs.Cutting.{own_values}
use Rattle.cx_chunks.specs.Combining.{owner_of, joined_at, joined}
use Rattle.cx_chunks.proofs.OwnLaws.{own_inside}

-- a number of a level by its point
abbrev pub at_point : Box3 → List ℤ → Point → ℤ
at_point b level p = slice_index_or level (index_in b p) (pos 0)

-- ---- a level from numbers at points

pub number_is : (b : Box3) (f : Point → ℤ) (p : Point) → IsIn b p
    → at_point b (numbers_in b f) p ≡ f p
number_is b f p inside =
    get_or-map-range_with_len (λ i. f (point_in b i)) 0 (point_count b) (index_in b p)
    (index_in b p)
    (pos 0) (index_below b p inside) (omega arith)
    ∙ ap f (point_at_index b p inside)

pub level_is : (b : Box3) (f : Point → ℤ) (level : List ℤ) → length level ≡ point_count b
    → ((p : Point) → IsIn b p → at_point b level p ≡ f p) → level ≡ numbers_in b f
level_is b f level count same =
    fill_by_all (λ i. f (point_in b i)) level (point_count b) (pos 0) count
    (λ i l. ap (λ k. slice_index_or level k (pos 0)) (sym (index_at_point b i l))
    ∙ same (point_in b i) (point_inside b i l))

pub numbers_count : (b : Box3) (f : Point → ℤ) → length (numbers_in b f) ≡ point_count b
numbers_count b f = length-map-range_with_len (λ i. f (point_in b i)) 0 (point_count b)

-- ---- the values of a part, put into a level one after another

pub record IsPut (all own : Box3) (values old : List ℤ) (i : ℕ) (level : List ℤ) : Type 0 where
  pub count : length level ≡ point_count all
  pub mine : (p : Point) → IsIn own p → index_in own p < i
      → at_point all level p ≡ at_point own values p
  pub others : (p : Point) → IsIn all p → (IsIn own p → i ≤ index_in own p)
      → at_point all level p ≡ at_point all old p

module _ (all own : Box3) (values old : List ℤ) (inside : (p : Point) → IsIn own p → IsIn all p)
  where
    pub none_put : length old ≡ point_count all → IsPut all own values old 0 old
    none_put count = record {
      count = count;
      mine = λ p here below. absurd (omega (arith, below));
      others = λ p here past. refl;
    }

    -- one value more
    module _ (i : ℕ) (level : List ℤ) (v : ℤ) (there : i < point_count own)
        (value : v ≡ slice_index_or values i (pos 0)) (put : IsPut all own values old i level) where
      abbrev q : Point
      q = point_in own i

      abbrev at : ℕ
      at = index_in all q

      q_own : IsIn own q
      q_own = point_inside own i there

      q_index : index_in own q ≡ i
      q_index = index_at_point own i there

      at_below : at < length level
      at_below =
          let b = index_below all q (inside q q_own) in let n = put.count in omega (arith, b, n)

      apart : (p : Point) → IsIn all p → (IsIn own p → i + 1 ≤ index_in own p) → index_in all p ≢ at
      apart p here past e =
          let same : p ≡ q = index_once all p q here (inside q q_own) e in
          let n = past (subst (IsIn own) (sym same) q_own) in
          let m : index_in own p ≡ i = ap (index_in own) same ∙ q_index in
          omega (arith, n, m)

      mine : (p : Point) → IsIn own p → index_in own p < i + 1
          → (index_in own p ≡ i) ⊎ (index_in own p ≡ i → ⊥)
          → at_point all (set level at v) p ≡ at_point own values p
      mine p here below (inl e) =
          let same : p ≡ q = index_once own p q here q_own (e ∙ sym q_index) in
          get_or-set_at level at (index_in all p) v (pos 0) (ap (index_in all) same) at_below
          ∙ value ∙ ap (λ k. slice_index_or values k (pos 0)) (sym e)
      mine p here below (inr differs) =
          let less : index_in own p < i = omega (arith, below, differs) in
          let elsewhere : index_in all p ≢ at = λ e.
          differs (ap (index_in own) (index_once all p q (inside p here) (inside q q_own) e)
          ∙ q_index) in
          get_or-set_other level at (index_in all p) v (pos 0) elsewhere
          ∙ put.mine p here less

      pub one_put : IsPut all own values old (i + 1) (set level at v)
      one_put = record {
        count = length-set level at v ∙ put.count;
        mine = λ p here below. mine p here below (cases_eq (index_in own p) i);
        others = λ p here past.
            get_or-set_other level at (index_in all p) v (pos 0) (apart p here past)
            ∙ put.others p here (λ own_p. let n = past own_p in omega (arith, n));
      }

    pub all_put : (i : ℕ) (level : List ℤ) → point_count own ≤ i → IsPut all own values old i level
        → (p : Point) → IsIn own p → at_point all level p ≡ at_point own values p
    all_put i level end put p here =
        let below = index_below own p here in put.mine p here (omega (arith, below, end))

    pub rest_kept : (i : ℕ) (level : List ℤ) → IsPut all own values old i level
        → (p : Point) → IsIn all p → (IsIn own p → ⊥) → at_point all level p ≡ at_point all old p
    rest_kept i level put p here out = put.others p here (λ own_p. absurd (out own_p))

-- ---- the owner of a point

module _ (c : Parts) (k : ℕ) (p : Point) (cut : IsCut c) (there : k < part_count c)
    (own : IsIn (owned c k) p) where
  abbrev owns : ℕ → Bool
  owns j = has_point (owned c j) p

  abbrev parts : List ℕ
  parts = range_with_len 0 (part_count c)

  part : (j : ℕ) → j < part_count c → slice_index_or parts j 0 ≡ j
  part j l =
      get_or-range_with_len 0 (part_count c) j 0 l ∙ (let e : 0 + j ≡ j = omega arith in e)

  no_other : (j : ℕ) → j < k → (owns j ≡ true) ⊎ (owns j ≡ false) → owns j ≡ false
  no_other j less (inr no_owner) = no_owner
  no_other j less (inl also) =
      let e = (tiles c cut).once p j k (omega (arith, less, there)) there
      (in_is (owned c j) p also) own in
      absurd (omega (arith, less, e))

  pub owner_is : owner_of c p ≡ k
  owner_is =
      let count = length-range_with_len 0 (part_count c) in
      position_or_len_is owns parts k 0 (omega (arith, count, there))
      (λ j less. ap owns (part j (omega (arith, less, there)))
      ∙ no_other j less (cases_Bool (owns j)))
      (λ l. ap owns (part k there) ∙ in_from (owned c k) p own)

-- ---- the level that all parts have together

-- the parts below k have put their values
pub record ArePut (c : Parts) (values : ℕ → List ℤ) (k : ℕ) (level : List ℤ) : Type 0 where
  pub count : length level ≡ point_count (whole c.shape)
  pub here : (j : ℕ) (p : Point) → j < k → j < part_count c → IsIn (owned c j) p
      → at_point (whole c.shape) level p ≡ joined_at c values p j

pub joined_count : (c : Parts) (values : ℕ → List ℤ)
    → length (joined c values) ≡ point_count (whole c.shape)
joined_count c values = numbers_count (whole c.shape) (λ p. joined_at c values p (owner_of c p))

module _ (c : Parts) (is : IsWhole c) (values : ℕ → List ℤ) where
  pub joined_is : (k : ℕ) (p : Point) → k < part_count c → IsIn (owned c k) p
      → at_point (whole c.shape) (joined c values) p ≡ joined_at c values p k
  joined_is k p there own =
      number_is (whole c.shape) (λ q. joined_at c values q (owner_of c q)) p
      (own_inside c k is there p own)
      ∙ ap (joined_at c values p) (owner_is c k p is.cut there own)

  pub none_are : (level : List ℤ) → length level ≡ point_count (whole c.shape)
      → ArePut c values 0 level
  none_are level count =
      record { count = count; here = λ j p below there own. absurd (omega (arith, below)) }

  -- one part more
  module _ (k : ℕ) (there : k < part_count c) (all own : Box3) (vs old level : List ℤ)
      (all_is : all ≡ whole c.shape) (own_is : own ≡ owned c k) (vs_is : vs ≡ values k)
      (count : length level ≡ point_count all)
      (mine : (p : Point) → IsIn own p → at_point all level p ≡ at_point own vs p)
      (others : (p : Point) → IsIn all p → (IsIn own p → ⊥)
      → at_point all level p ≡ at_point all old p)
      (put : ArePut c values k old) where
    number : (j : ℕ) (p : Point) → j < k + 1 → j < part_count c → IsIn (owned c j) p
        → (j ≡ k) ⊎ (j ≡ k → ⊥) → at_point (whole c.shape) level p ≡ joined_at c values p j
    number j p below within owns (inl e) =
        ap (λ (b : Box3). at_point b level p) (sym all_is)
        ∙ mine p (subst (λ (b : Box3). IsIn b p) (sym own_is)
        (subst (λ m. IsIn (owned c m) p) e owns))
        ∙ ap (λ (b : Box3). at_point b vs p) own_is
        ∙ ap (λ (ws : List ℤ). at_point (owned c k) ws p) vs_is
        ∙ ap (joined_at c values p) (sym e)
    number j p below within owns (inr differs) =
        ap (λ (b : Box3). at_point b level p) (sym all_is)
        ∙ others p (subst (λ (b : Box3). IsIn b p) (sym all_is) (own_inside c j is within p owns))
        (λ also. differs ((tiles c is.cut).once p j k within there owns
        (subst (λ (b : Box3). IsIn b p) own_is also)))
        ∙ ap (λ (b : Box3). at_point b old p) all_is
        ∙ put.here j p (omega (arith, below, differs)) within owns

    pub one_more : ArePut c values (k + 1) level
    one_more = record {
      count = count ∙ ap (λ (b : Box3). point_count b) all_is;
      here = λ j p below within owns. number j p below within owns (cases_eq j k);
    }

  pub all_are : (k : ℕ) (level : List ℤ) → part_count c ≤ k → ArePut c values k level
      → level ≡ joined c values
  all_are k level end put =
      level_is (whole c.shape) (λ p. joined_at c values p (owner_of c p)) level put.count
      (λ p inside.
      let o = (tiles c is.cut).each p inside in
      let below = o.1 in
      put.here o.0 p (omega (arith, below, end)) o.1 o.2
      ∙ ap (joined_at c values p) (sym (owner_is c o.0 p is.cut o.1 o.2)))

-- ---- a level that was cut is joined again

pub joined_again : (c : Parts) (is : IsWhole c) (level : List ℤ)
    → length level ≡ point_count (whole c.shape)
    → joined c (λ k. own_values c k level) ≡ level
joined_again c is level count =
    sym (level_is (whole c.shape) (λ p. joined_at c (λ k. own_values c k level) p (owner_of c p))
    level count same)
  where
    same : (p : Point) → IsIn (whole c.shape) p
        → at_point (whole c.shape) level p
        ≡ joined_at c (λ k. own_values c k level) p (owner_of c p)
    same p inside =
        let o = (tiles c is.cut).each p inside in
        sym (ap (joined_at c (λ k. own_values c k level) p) (owner_is c o.0 p is.cut o.1 o.2)
        ∙ number_is (owned c o.0) (at_point (whole c.shape) level) p o.2)

-- what is joined depends on the values of the parts alone
pub joined_same : (c : Parts) (is : IsWhole c) (f g : ℕ → List ℤ)
    → ((k : ℕ) → k < part_count c → f k ≡ g k)
    → joined c f ≡ joined c g
joined_same c is f g same =
    level_is (whole c.shape) (λ p. joined_at c g p (owner_of c p)) (joined c f)
    (numbers_count (whole c.shape) (λ p. joined_at c f p (owner_of c p))) number
  where
    number : (p : Point) → IsIn (whole c.shape) p
        → at_point (whole c.shape) (joined c f) p ≡ joined_at c g p (owner_of c p)
    number p inside =
        let o = (tiles c is.cut).each p inside in
        joined_is c is f o.0 p o.1 o.2
        ∙ ap (λ (vs : List ℤ). at_point (owned c o.0) vs p) (same o.0 o.1)
        ∙ ap (joined_at c g p) (sym (owner_is c o.0 p is.cut o.1 o.2))
