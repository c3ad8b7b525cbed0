-- A box filled point by point, and variable by variable.
use Rattle.std.proofs.Common.{◌≡◌, ℕ, ◌+◌, ◌*◌, ◌<◌, ◌≤◌, ◌⊎◌, inl, inr, Bool, true, false, arith, refl, sym, ap, ◌∙◌, subst, ℤ, pos, List, [], ◌∷◌, ◌++◌, length, take, drop, map, mul-le-mul_left, mul_comm, append_assoc, append-nil, eq-eqb}
use Rattle.std.specs.Prelude.{slice_index_or, ◌≢◌}
use Rattle.std.specs.List.{range_with_len, flat_map, AllPairs}
use Rattle.std.proofs.lemmas.List.FromFn.{map-range_with_len_more}
use Rattle.std.proofs.lemmas.Grind.{flat_map-append}
use Rattle.std.proofs.lemmas.List.{take_more, get_or-take, get_or-drop}
use Rattle.std.proofs.lemmas.List.Elements.{All-get_or, All-from_get_or}
use Rattle.std.proofs.lemmas.List.Folds.{list_any_at}
use Rattle.std.proofs.lemmas.Bool.{cases_eq}
use Rattle.cx_grid.specs.declared.boxes.Point.{Point}
use Rattle.cx_grid.specs.declared.boxes.Box3.{Box3}
use Rattle.cx_grid.specs.Boxes.{IsIn, point_count, index_in, point_in}
use Rattle.cx_grid.proofs.Places.{index_below, point_at_index, point_inside, index_at_point}
use Rattle.cx_plan.specs.declared.variable.VarId.{VarId}
use Rattle.cx_plan.specs.Lookups.{is_scalar}
use Rattle.cx_plan.specs.Regions.{is_among, same_variable}
use Rattle.cx_rule.specs.Patches.{PatchValue, IsPatch, IsGridLevel, setup_in, number_at, values_in, with_number, with_numbers, with_buffers}
use Rattle.cx_rule.specs.Faces.{AreGrid, Filled, IsFilled, IsKept, variable_at}
use Rattle.cx_rule.specs.Filling.{IsAlike, IsElsewhere, SetsIfLocal, FilledTo, FilledVars}
use Rattle.cx_rule.proofs.OneNumber.{number_same, number_other, number_alike}

pub never : {t : Bool} → t ≡ true → t ≡ false → ⊥
never a b = cc

-- ---- what stays

pub alike_same : (p : PatchValue) → IsAlike p p
alike_same p = record { frame = refl; sized = refl; scalars = λ v h. refl }

pub local_is : (p q : PatchValue) → IsAlike p q → q.local ≡ p.local
local_is p q e = ap (λ (r : PatchValue). r.local) e.frame

setup_is : (p q : PatchValue) → IsAlike p q → setup_in q ≡ setup_in p
setup_is p q e = ap (λ (r : PatchValue). setup_in r) e.frame

pub alike_twice : (p q r : PatchValue) → IsAlike p q → IsAlike q r → IsAlike p r
alike_twice p q r a b = record {
  frame = ap (λ (t : PatchValue). with_numbers t p.numbers) b.frame ∙ a.frame;
  sized = b.sized ∙ a.sized;
  scalars = λ v h. b.scalars v (subst (λ s. is_scalar s v ≡ true) (sym (setup_is p q a)) h)
      ∙ a.scalars v h;
}

pub grid_alike : (p q : PatchValue) → IsAlike p q → (v : VarId) (l : ℕ) → IsGridLevel p v l
    → IsGridLevel q v l
grid_alike p q e v l g =
    let vars : length q.vars ≡ length p.vars = ap (λ (r : PatchValue). length r.vars) e.frame in
    record {
      var = omega (arith, vars, g.var);
      stored = rw (setup_is p q e) g.stored;
      grid = rw (setup_is p q e) g.grid;
    }

pub filled_none : (p : PatchValue) (v : VarId) (b : Box3) (values : List ℤ)
    → FilledTo p p v b values 0
filled_none p v b values =
    record {
      alike = alike_same p;
      inside = λ y h m l. absurd (omega (arith, l));
      outside = λ u m y h e. refl;
    }

module _ (old cur : PatchValue) (v : VarId) (b : Box3) (values : List ℤ) (i : ℕ)
    (below : i < point_count b) (f : FilledTo old cur v b values i) where
  abbrev x : Point
  x = point_in b i

  abbrev a : ℤ
  a = slice_index_or values i (pos 0)

  in_b : IsIn b x
  in_b = point_inside b i below

  to_cur : (y : Point) → IsIn old.local y → IsIn cur.local y
  to_cur y h = subst (λ (l : Box3). IsIn l y) (sym (local_is old cur f.alike)) h

  to_old : (y : Point) → IsIn cur.local y → IsIn old.local y
  to_old y h = subst (λ (l : Box3). IsIn l y) (local_is old cur f.alike) h

  before : (u : VarId) (m : ℕ) (y : Point) → IsElsewhere v b u m y ⊎ (i + 1 ≤ index_in b y)
      → IsElsewhere v b u m y ⊎ (i ≤ index_in b y)
  before u m y (inl e) = inl e
  before u m y (inr l) = inr (omega (arith, l))

  module _ (s : IsPatch cur) (g : IsGridLevel cur v 0) (here : IsIn cur.local x) where
    in_box : (y : Point) → IsIn b y → IsIn old.local y → (index_in b y ≡ i) ⊎ (index_in b y ≡ i → ⊥)
        → index_in b y < i + 1
        → number_at (with_number cur v 0 x a) v 0 y ≡ slice_index_or values (index_in b y) (pos 0)
    in_box y h near (inl e) l =
        let same : y ≡ x = sym (point_at_index b y h) ∙ ap (point_in b) e in
        rw (same, index_at_point b i below) (number_same cur v 0 x a s g here)
    in_box y h near (inr e) l =
        let other : y ≡ x → ⊥ = λ r. e (ap (index_in b) r ∙ index_at_point b i below) in
        let less : index_in b y < i = omega (arith, l, e) in
        number_other cur v 0 x a s g here v 0 y (to_cur y near) (inr (inr other))
        ∙ f.inside y h near less

    away : (u : VarId) (m : ℕ) (y : Point) → IsElsewhere v b u m y ⊎ (i + 1 ≤ index_in b y)
        → (u.0 ≡ v.0 → ⊥) ⊎ ((m ≡ 0 → ⊥) ⊎ (y ≡ x → ⊥))
    away u m y (inl (inl e)) = inl e
    away u m y (inl (inr (inl e))) = inr (inl e)
    away u m y (inl (inr (inr e))) = inr (inr (λ r. e (subst (IsIn b) (sym r) in_b)))
    away u m y (inr l) = inr
        (inr (λ r. let q : index_in b y ≡ i = ap (index_in b) r ∙ index_at_point b i below in
        omega (arith, q, l)))

    pub filled_more : FilledTo old
        (with_number cur v 0 (point_in b i) (slice_index_or values i (pos 0))) v b values (i + 1)
    filled_more = record {
      alike = alike_twice old cur _ f.alike (number_alike cur v 0 x a s g);
      inside = λ y h near l. in_box y h near (cases_eq (index_in b y) i) l;
      outside = λ u m y h e. number_other cur v 0 x a s g here u m y (to_cur y h) (away u m y e)
          ∙ f.outside u m y h (before u m y e);
    }

  skip_box : (IsIn cur.local (point_in b i) → ⊥) → (y : Point) → IsIn b y → IsIn old.local y
      → (index_in b y ≡ i) ⊎ (index_in b y ≡ i → ⊥) → index_in b y < i + 1
      → number_at cur v 0 y ≡ slice_index_or values (index_in b y) (pos 0)
  skip_box out y h near (inl e) l =
      let same : y ≡ x = sym (point_at_index b y h) ∙ ap (point_in b) e in
      absurd (out (subst (IsIn cur.local) same (to_cur y near)))
  skip_box out y h near (inr e) l = let less : index_in b y < i = omega (arith, l, e) in
      f.inside y h near less

  pub filled_skip : (IsIn cur.local (point_in b i) → ⊥) → FilledTo old cur v b values (i + 1)
  filled_skip out = record {
    alike = f.alike;
    inside = λ y h near l. skip_box out y h near (cases_eq (index_in b y) i) l;
    outside = λ u m y h e. f.outside u m y h (before u m y e);
  }

  pub filled_step : (new : PatchValue) → IsPatch cur → IsGridLevel cur v 0
      → SetsIfLocal cur v (point_in b i) (slice_index_or values i (pos 0)) new
      → IsGridLevel new v 0 × FilledTo old new v b values (i + 1)
  filled_step new s g (inl (here, e)) =
      rw e (grid_alike cur _ (number_alike cur v 0 x a s g) v 0 g, filled_more s g here)
  filled_step new s g (inr (out, e)) = rw e (g, filled_skip out)

-- ---- lists that grow by one

pub copy_more : (f : ℕ → ℤ) (start cur new : List ℤ) (i : ℕ) (z : ℤ) → new ≡ cur ++ z ∷ []
    → cur ≡ start ++ map f (range_with_len 0 i) → z ≡ f i
    → new ≡ start ++ map f (range_with_len 0 (i + 1))
copy_more f start cur new i z n c e =
    rw (n, c, e, map-range_with_len_more f 0 i i (omega arith), append_assoc) refl

pub vars_more : (f : VarId → List ℤ) (vars : List VarId) (i : ℕ) (cur new : List ℤ)
    → i < length vars → cur ≡ flat_map f (take i vars)
    → new ≡ cur ++ f (variable_at vars i) → new ≡ flat_map f (take (i + 1) vars)
vars_more f vars i cur new h c n =
    n ∙ rw (
      c,
      take_more vars i (record { 0 = 0 }) h,
      flat_map-append f (take i vars) (variable_at vars i ∷ []),
    )
    (ap (λ t. flat_map f (take i vars) ++ t) (sym (append-nil (f (variable_at vars i)))))

pub record PieceFits (i m n : ℕ) : Type 0 where
  pub end : i * n + n ≤ m * n

pub piece_fits : (i m n : ℕ) → i < m → PieceFits i m n
piece_fits i m n h =
    let more : n * (i + 1) ≤ n * m = mul-le-mul_left n (omega (arith, h)) in
    record { end = omega (arith, more, mul_comm n m, mul_comm i n) }

piece_at : (values : List ℤ) (k n j : ℕ) → j < n
    → slice_index_or (take n (drop k values)) j (pos 0) ≡ slice_index_or values (k + j) (pos 0)
piece_at values k n j h = get_or-take n (drop k values) j (pos 0) h ∙ get_or-drop k values j (pos 0)

-- ---- variables

pub vars_none : (p : PatchValue) (vars : List VarId) (b : Box3) (values : List ℤ)
    → FilledVars p p vars b values 0
vars_none p vars b values =
    record {
      alike = alike_same p;
      inside = λ i l. absurd (omega (arith, l));
      outside = λ u m y h e. refl;
    }

pub are_alike : (p q : PatchValue) (vars : List VarId) → IsAlike p q → AreGrid p vars → (i : ℕ)
    → i < length vars → IsGridLevel q (variable_at vars i) 0
are_alike p q vars e g i l =
    grid_alike p q e (variable_at vars i) 0
    (All-get_or (λ v. IsGridLevel p v 0) vars i (record { 0 = 0 }) l g.levels)

module _ (old cur new : PatchValue) (vars : List VarId) (b : Box3) (values : List ℤ) (i : ℕ)
    (h : i < length vars)
    (differ : AllPairs (λ (a b : VarId). a.0 ≢ b.0) vars)
    (f : FilledVars old cur vars b values i)
    (g : FilledTo cur new (variable_at vars i) b
    (take (point_count b) (drop (i * point_count b) values)) (point_count b)) where
  near_cur : (y : Point) → IsIn old.local y → IsIn cur.local y
  near_cur y l = subst (λ (z : Box3). IsIn z y) (sym (local_is old cur f.alike)) l

  inside_var : (j : ℕ) → j < i + 1 → (j ≡ i) ⊎ (j ≡ i → ⊥) → (y : Point) → IsIn b y
      → IsIn old.local y
      → number_at new (variable_at vars j) 0 y
      ≡ slice_index_or values (j * point_count b + index_in b y) (pos 0)
  inside_var j l (inl e) y q near =
      rw e (g.inside y q (near_cur y near) (index_below b y q)
      ∙ piece_at values (i * point_count b) (point_count b) (index_in b y) (index_below b y q))
  inside_var j l (inr e) y q near =
      let before : j < i = omega (arith, l, e) in
      g.outside (variable_at vars j) 0 y (near_cur y near)
      (inl (inl (differ j i (record { 0 = 0 }) before h))) ∙ f.inside j before y q near

  apart : (u : VarId) (m : ℕ) (y : Point)
      → ((j : ℕ) → j < i + 1 → (variable_at vars j).0 ≢ u.0) ⊎ ((m ≢ 0) ⊎ (IsIn b y → ⊥))
      → IsElsewhere (variable_at vars i) b u m y
  apart u m y (inl e) = inl (λ r. e i (omega arith) (sym r))
  apart u m y (inr e) = inr e

  earlier : (u : VarId) (m : ℕ) (y : Point)
      → ((j : ℕ) → j < i + 1 → (variable_at vars j).0 ≢ u.0) ⊎ ((m ≢ 0) ⊎ (IsIn b y → ⊥))
      → ((j : ℕ) → j < i → (variable_at vars j).0 ≢ u.0) ⊎ ((m ≢ 0) ⊎ (IsIn b y → ⊥))
  earlier u m y (inl e) = inl (λ j l. e j (omega (arith, l)))
  earlier u m y (inr e) = inr e

  pub vars_filled : FilledVars old new vars b values (i + 1)
  vars_filled = record {
    alike = alike_twice old cur new f.alike g.alike;
    inside = λ j l y q near. inside_var j l (cases_eq j i) y q near;
    outside = λ u m y l e. g.outside u m y (near_cur y l) (inl (apart u m y e))
        ∙ f.outside u m y l (earlier u m y e);
  }

-- ---- the whole face

not_among : (v : VarId) (vars : List VarId) → is_among v vars ≡ false → (i : ℕ) → i < length vars
    → (variable_at vars i).0 ≡ v.0 → ⊥
not_among v vars e i l r =
    let t : is_among v vars ≡ true =
    list_any_at (same_variable v) vars i (record { 0 = 0 }) l
    (eq-eqb v.0 (variable_at vars i).0 (sym r)) in
    absurd cc

module _ (old new : PatchValue) (vars : List VarId) (b : Box3) (values : List ℤ)
    (are : AreGrid old vars) (f : FilledVars old new vars b values (length vars)) where
  setup_same : setup_in new ≡ setup_in old
  setup_same = setup_is old new f.alike

  back : (y : Point) → IsIn new.local y → IsIn old.local y
  back y h = subst (λ (l : Box3). IsIn l y) (local_is old new f.alike) h

  all_filled : IsFilled new vars b values
  all_filled i y l q near =
      let g = are_alike old new vars f.alike are i l in
      rw g.grid (f.inside i l y q (back y near))

  place : (v : VarId) (level : ℕ) (y : Point) → IsKept vars b v level y
      → (level ≡ 0) ⊎ (level ≡ 0 → ⊥) → (t : Bool) → is_among v vars ≡ t
      → ((i : ℕ) → i < length vars → (variable_at vars i).0 ≢ v.0) ⊎ ((level ≢ 0) ⊎ (IsIn b y → ⊥))
  place v level y k (inr e) t is = inr (inl e)
  place v level y k (inl e) false is = inl (not_among v vars is)
  place v level y k (inl e) true is = inr (inr (k (rw (is, e) refl)))

  kept_by : (v : VarId) (level : ℕ) (y : Point) → IsIn old.local y → IsKept vars b v level y
      → (t : Bool) → is_scalar (setup_in old) v ≡ t
      → values_in new v level y ≡ values_in old v level y
  kept_by v level y h k true is =
      let n : is_scalar (setup_in new) v ≡ true = rw setup_same is in
      rw (n, is) (f.alike.scalars v is)
  kept_by v level y h k false is =
      let n : is_scalar (setup_in new) v ≡ false = rw setup_same is in
      rw (n, is) (f.outside v level y h
      (place v level y k (cases_eq level 0) (is_among v vars) refl))

  pub face_filled : Filled old new vars b values
  face_filled = record {
    frame = f.alike.frame;
    sized = f.alike.sized;
    filled = all_filled;
    kept = λ v level y h k. kept_by v level y h k (is_scalar (setup_in old) v) refl;
    scalars = f.alike.scalars;
  }

-- a box's numbers of a grid variable
pub grid_values : (p : PatchValue) (v : VarId) → IsGridLevel p v 0 → (y : Point)
    → number_at p v 0 y ≡ values_in p v 0 y
grid_values p v g y = rw g.grid refl

-- ---- the same beside buffers

bare_grid : (p : PatchValue) (staged : List (List ℤ)) (room : ℕ) (v : VarId) (l : ℕ)
    → IsGridLevel (with_buffers p staged room) v l → IsGridLevel p v l
bare_grid p staged room v l g = record { var = g.var; stored = g.stored; grid = g.grid }

pub bare_are : (p : PatchValue) (staged : List (List ℤ)) (room : ℕ) (vars : List VarId)
    → AreGrid (with_buffers p staged room) vars → AreGrid p vars
bare_are p staged room vars a = record {
  levels = All-from_get_or (λ v. IsGridLevel p v 0) vars (record { 0 = 0 })
      (λ i l. bare_grid p staged room _ 0
      (All-get_or (λ v. IsGridLevel (with_buffers p staged room) v 0) vars i (record { 0 = 0 })
      l a.levels));
  differ = a.differ;
}

pub filled_buffered : (old new : PatchValue) (staged : List (List ℤ)) (room : ℕ) (vars : List VarId)
    (b : Box3) (values : List ℤ)
    → AreGrid (with_buffers old staged room) vars → FilledVars old new vars b values (length vars)
    → Filled (with_buffers old staged room) (with_buffers new staged room) vars b values
filled_buffered old new staged room vars b values are f =
    let g = face_filled old new vars b values (bare_are old staged room vars are) f in
    record {
      frame = ap (λ (p : PatchValue). with_buffers p staged room) g.frame;
      sized = g.sized;
      filled = g.filled;
      kept = g.kept;
      scalars = g.scalars;
    }
