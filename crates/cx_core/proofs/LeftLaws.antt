-- What is left to do falls with each event, by where the parts stand alone.
use Rattle.std.specs.Prelude.{slice_get}
use Rattle.std.proofs.Common.{◌≡◌, ℕ, zero, suc, ◌+◌, ◌-◌, ◌*◌, ◌<◌, ◌≤◌, Bool, true, false, not, ◌&&◌, ltb, ℤ, List, [], ◌∷◌, ◌++◌, map, length, get_or, drop, set, cond, Option, Some, None, refl, sym, ap, subst, arith, length-append}
use Rattle.std.proofs.lemmas.Bool.{and_parts}
use Rattle.cx_plan.specs.declared.variable.VarId.{VarId}
use Rattle.cx_plan.specs.Setups.{Setup}
use Rattle.cx_flat.specs.Code.{op_at, code}
use Rattle.cx_flat.specs.Flats.{Control, control_after, is_halt}
use Rattle.cx_flat.specs.Ways.{key, Less, WaysEnd}
use Rattle.cx_flat.proofs.WayLaws.{less_never}
use Rattle.cx_core_place.specs.Steps.{IsReached, PlacesFit}
use Rattle.cx_core_events.specs.declared.standing.Standing.{Standing}
use Rattle.cx_core_events.specs.declared.standing.Work.{Work}
use Rattle.cx_core_events.specs.Paces.{Paces, part_of, no_part, op_of, iteration_of, is_before, are_in_order}
use Rattle.cx_core_events.specs.Events.{can_go, goes_on, is_ahead, is_near, is_ready, has_room, work_of}
use Rattle.cx_core_events.specs.Steps.{advanced, handed_after, works_after, moved_on, met_by, one_less, wrote_one, over_now}
use Rattle.cx_core_events.proofs.OrderLaws.{told_less}
use Rattle.cx_core.specs.Left.{place_rank, rank_limit, places_left, stop_left, going_left, steps_left}
use Rattle.cx_core.proofs.PlaceRanks.{place_rises, rank_small, rank_rises}

none_some : {X : Type 0} (y : X) → None ≡ Some y → ⊥
none_some y e = cc

-- ---- lists

set_other : {A : Type 0} (xs : List A) (k j : ℕ) (v d : A) → (j ≡ k → ⊥)
    → get_or (set xs k v) j d ≡ get_or xs j d
set_other [] k j v d n = refl
set_other (x ∷ xs) zero zero v d n = absurd (n refl)
set_other (x ∷ xs) zero (suc j) v d n = refl
set_other (x ∷ xs) (suc k) zero v d n = refl
set_other (x ∷ xs) (suc k) (suc j) v d n = set_other xs k j v d (λ e. n (ap suc e))

-- who stands before another one is a part, and so is the other one
before_there : (xs : List Standing) (j k : ℕ) (a b : Option Standing) → slice_get xs j ≡ a
    → slice_get xs k ≡ b → are_in_order a b ≡ true
    → (x : Standing) × (y : Standing) × (slice_get xs j ≡ Some x) × (slice_get xs k ≡ Some y)
    × Less (key x.place) (key y.place)
before_there xs j k None b e f h = absurd (clash h)
  where
    clash : false ≡ true → ⊥
    clash q = cc
before_there xs j k (Some x) None e f h = absurd (clash h)
  where
    clash : false ≡ true → ⊥
    clash q = cc
before_there xs j k (Some x) (Some y) e f h = (x, y, e, f, told_less (key x.place) (key y.place) h)

get_is : {A : Type 0} (xs : List A) (k : ℕ) (x d : A) → slice_get xs k ≡ Some x
    → (k < length xs) × (get_or xs k d ≡ x)
get_is [] k x d e = absurd (none_some x e)
get_is (y ∷ ys) zero x d e = (omega arith, some_is y x e)
  where
    some_is : {A : Type 0} (a b : A) → Some a ≡ Some b → a ≡ b
    some_is a b q = cc
get_is (y ∷ ys) (suc k) x d e = let h = get_is ys k x d e in (omega (arith, h.0), h.1)

-- ---- the places that are left

module _ (setup : Setup) where
  left_less : (ss : List Standing) (k : ℕ) (s : Standing) → k < length ss
      → place_rank setup (get_or ss k no_part).place < place_rank setup s.place
      → place_rank setup (get_or ss k no_part).place < rank_limit setup
      → places_left setup (set ss k s) < places_left setup ss
  left_less [] k s l less small = absurd (omega (arith, l))
  left_less (x ∷ ss) zero s l less small = omega (arith, less, small)
  left_less (x ∷ ss) (suc k) s l less small =
      omega (arith, left_less ss k s (omega (arith, l)) less small)

  left_same : (ss : List Standing) → places_left setup (map one_less ss) ≡ places_left setup ss
  left_same [] = refl
  left_same (s ∷ ss) = ap (λ n. (rank_limit setup - place_rank setup s.place) + n) (left_same ss)

  less_place : (ss : List Standing) (j : ℕ)
      → (get_or (map one_less ss) j no_part).place ≡ (get_or ss j no_part).place
  less_place [] j = refl
  less_place (s ∷ ss) zero = refl
  less_place (s ∷ ss) (suc j) = less_place ss j

  -- ---- works

  one_more : (w : Work) (works : List Work) (b : Bool)
      → length (cond b works (works ++ w ∷ [])) ≤ suc (length works)
  one_more w works true = omega arith
  one_more w works false = omega (arith, length-append works (w ∷ []))

  more_works : (o : Option Work) (works : List Work) (handed : ℕ)
      → length (works_after o works handed) ≤ suc (length works)
  more_works None works handed = omega arith
  more_works (Some w) works handed = one_more w works (ltb handed (length works))

  fewer_works : (works : List Work) (w : Work) → slice_get works 0 ≡ Some w
      → length (drop 1 works) < length works
  fewer_works [] w e = absurd (none_some w e)
  fewer_works (x ∷ works) w e = omega arith

  -- ---- sums

  falls_moved : (a b w v s t g : ℕ) → a < b → w ≤ suc v → s ≡ t
      → 2 * a + w + s + g < 2 * b + v + t + g
  falls_moved a b w v s t g l m e = omega (arith, l, m, e)

  falls_stop : (a w s t g : ℕ) → s < t → 2 * a + w + s + g < 2 * a + w + t + g
  falls_stop a w s t g l = omega (arith, l)

  falls_works : (a b w v s t g : ℕ) → a ≡ b → w < v → s ≡ t → 2 * a + w + s + g < 2 * b + v + t + g
  falls_works a b w v s t g e l f = omega (arith, e, l, f)

  -- ---- the writer

  stop_same : (p : Paces) (o : Option ℕ) → stop_left setup (wrote_one p) o ≡ stop_left setup p o
  stop_same p None = refl
  stop_same p (Some j) = ap (place_rank setup) (less_place p.parts j)

  pub less_written : (p : Paces) (w : Work) → slice_get p.works 0 ≡ Some w
      → steps_left setup (wrote_one p) < steps_left setup p
  unfolding steps_left
  less_written p w e =
      falls_works (places_left setup (map one_less p.parts)) (places_left setup p.parts)
      (length (drop 1 p.works)) (length p.works)
      (stop_left setup (wrote_one p) p.stopped) (stop_left setup p p.stopped) (going_left p.over)
      (left_same p.parts) (fewer_works p.works w e) (stop_same p p.stopped)

  stop_over : (p : Paces) (o : Option ℕ) → stop_left setup (over_now p) o ≡ stop_left setup p o
  stop_over p None = refl
  stop_over p (Some j) = refl

  pub less_over : (p : Paces) → p.over ≡ false → steps_left setup (over_now p) < steps_left setup p
  unfolding steps_left
  less_over p e =
      let g : going_left p.over ≡ 1 = ap going_left e in
      omega (arith, g, stop_over p p.stopped)

  -- ---- a part

  module _ (ways : WaysEnd setup) (fits : PlacesFit setup) (p : Paces) (ops : p.ops ≡ code setup)
      (reached : (j : ℕ) → j < length p.parts → IsReached setup (part_of p j).place)
      (k : ℕ) (here : k < length p.parts) (goes : can_go p k ≡ true) where
    goes_here : goes_on p k ≡ true
    goes_here =
        (and_parts (not p.over) (goes_on p k)
        (and_parts (not p.over && goes_on p k) (is_near p k)
        (and_parts (not p.over && goes_on p k && is_near p k) (is_ready p k (op_of p k))
        (and_parts (not p.over && goes_on p k && is_near p k && is_ready p k (op_of p k))
        (has_room p k) goes).0).0).0).1

    two : (not (is_halt (op_of p k)) ≡ true) × (is_ahead p.parts p.stopped k ≡ true)
    two = and_parts (not (is_halt (op_of p k))) (is_ahead p.parts p.stopped k) goes_here

    running : is_halt (op_at (code setup) (part_of p k).place.pc) ≡ false
    running = subst (λ os. is_halt (op_at os (part_of p k).place.pc) ≡ false) ops
        (not_true (is_halt (op_of p k)) two.0)
      where
        not_true : (b : Bool) → not b ≡ true → b ≡ false
        not_true true e = absurd cc
        not_true false e = refl

    abbrev place : Control
    place = (part_of p k).place

    rises : (s : VarId → ℤ)
        → place_rank setup place < place_rank setup (control_after setup (op_of p k) s place)
    rises s =
        subst (λ os. place_rank setup place
        < place_rank setup (control_after setup (op_at os place.pc) s place)) (sym ops)
        (rank_rises setup fits place (control_after setup (op_at (code setup) place.pc) s place)
        (reached k here) (place_rises setup ways place (reached k here) running s))

    -- it stands before the end that a part has met
    ahead : (j : ℕ) → is_before p.parts k j ≡ true
        → (j < length p.parts) × Less (key place) (key (part_of p j).place)
    ahead j e =
        let h = before_there p.parts k j (slice_get p.parts k) (slice_get p.parts j) refl refl e in
        let a = get_is p.parts k h.0 no_part h.2 in
        let b = get_is p.parts j h.1 no_part h.3 in (
          b.0,
          subst (λ (x : Standing). Less (key x.place) (key (part_of p j).place)) (sym a.1)
              (subst (λ (y : Standing). Less (key h.0.place) (key y.place)) (sym b.1) h.4),
        )

    stays : (s : Standing) (works : List Work) (hind : ℕ) (o : Option ℕ)
        → is_ahead p.parts o k ≡ true
        → stop_left setup (record p { parts = set p.parts k s; works = works; hind = hind }) o
        ≡ stop_left setup p o
    stays s works hind None e = refl
    stays s works hind (Some j) e =
        let h = ahead j e in
        let other : j ≡ k → ⊥ =
        λ q. less_never (key place)
        (subst (λ i. Less (key place) (key (part_of p i).place)) q h.1) in
        ap (λ (x : Standing). place_rank setup x.place) (set_other p.parts k j s no_part other)

    stop_falls : (o : Option ℕ) → is_ahead p.parts o k ≡ true
        → place_rank setup place < stop_left setup p o
    stop_falls None e = let l = rank_small setup fits place (reached k here) in omega (arith, l)
    stop_falls (Some j) e = let h = ahead j e in
        rank_rises setup fits place (part_of p j).place (reached k here) h.1

    pub less_moved : (s : VarId → ℤ) → steps_left setup (moved_on setup p k s) < steps_left setup p
    unfolding steps_left
    less_moved s =
        let handed = handed_after (work_of (op_of p k) (iteration_of p k)) (length p.works)
        (part_of p k).handed in
        let it = advanced setup (op_of p k) s handed (part_of p k) in
        falls_moved (places_left setup (set p.parts k it)) (places_left setup p.parts)
        (length (moved_on setup p k s).works) (length p.works)
        (stop_left setup (moved_on setup p k s) p.stopped) (stop_left setup p p.stopped)
        (going_left p.over)
        (left_less p.parts k it here (rises s) (rank_small setup fits place (reached k here)))
        (more_works (work_of (op_of p k) (iteration_of p k)) p.works (part_of p k).handed)
        (stays it (moved_on setup p k s).works (moved_on setup p k s).hind p.stopped two.1)

    pub less_met : steps_left setup (met_by p k) < steps_left setup p
    unfolding steps_left
    less_met =
        falls_stop (places_left setup p.parts) (length p.works)
        (stop_left setup (met_by p k) (Some k)) (stop_left setup p p.stopped)
        (going_left p.over) (stop_falls p.stopped two.1)
