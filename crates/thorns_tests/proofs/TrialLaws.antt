-- Parts of a field, and what can be swept in them.
use Rattle.std.proofs.Common.{◌≡◌, ℕ, zero, suc, ◌-◌, ◌≤◌, ◌^◌, List, [], ◌∷◌, length, map, arith, refl, sym, ap, ◌∙◌, subst, ℤ, inl, Bool, true, Result, Ok, Err, All, min, max}
use Rattle.std.proofs.lemmas.List.{length-map, length-replicate, length-set}
use Rattle.cx_grid.specs.declared.boxes.Point.{Point}
use Rattle.cx_grid.specs.declared.boxes.Box3.{Box3}
use Rattle.cx_grid.specs.declared.shapes.Shape.{Shape}
use Rattle.cx_grid.specs.Boxes.{IsIn, point_count}
use Rattle.cx_grid.specs.Grid.{IsShape, whole, wrap}
use Rattle.cx_cut.specs.Cuts.{Parts, local}
use Rattle.cx_plan.specs.declared.item.Item.{Item}
use Rattle.cx_plan.specs.declared.item.Touch.{Touch}
use Rattle.cx_plan.specs.declared.variable.VarInfo.{VarInfo}
use Rattle.cx_plan.specs.Regions.{has_shape, region_of, within_ghosts}
use Rattle.cx_rule.specs.Jobs.{of_touch, of_want, IsRoutineOf}
use Rattle.cx_rule.specs.Patches.{PatchValue, IsPatch, IsStored, new_patch, value_count, setup_in, values_in, with_numbers}
use Rattle.cx_rule.specs.Routine.{Rule, Fits}
use Rattle.cx_rule.specs.Seen.{Seen}
use Rattle.cx_rule.specs.Sweeps.{seen_at, place_at, window_point}
use Rattle.cx_rule.specs.declared.place.Place.{Place}
use Rattle.cx_rule.proofs.StageLaws.{can_call}
use Rattle.cx_rule.specs.Staging.{CanStage, Stages, CanCommit, Commits, staged_at, with_one_staged, with_row_staged}
use Rattle.cx_rule.specs.Swept.{IsSamePatch, Sweeps, swept_zone, window_from}
use Rattle.cx_rule.specs.Zones.{in_zone}
use Rattle.cx_rule.specs.declared.zone.Zone.{Zone}
use Rattle.cx_rule.specs.declared.routine.Overflow.{Overflow}
use Rattle.cx_rule.specs.declared.spec.Spec.{Spec}
use Rattle.cx_rule.specs.declared.spec.Want.{Want}
use Rattle.cx_rule.proofs.SweptLaws.{can_stage, can_commit}
use Rattle.thorns_tests.specs.Fields.{field_vars, field_on, touch_of, item_for, first_item, IsTested, IsFieldFor, IsTrial, IsSamePart}

-- ---- a tested routine's item

its_touches : (ws : List Want) → map of_touch (map touch_of ws) ≡ map of_want ws
its_touches [] = refl
its_touches (w ∷ ws) = ap (λ rest. of_want w ∷ rest) (its_touches ws)

module _ (p : PatchValue) (vars : p.vars ≡ field_vars) where
  its_levels : (ws : List Want) → All (λ (r : Touch). IsStored p r.var r.level) (map touch_of ws)
  its_levels [] k d l = absurd (omega (arith, l))
  its_levels (w ∷ ws) zero d l =
      record { var = rw vars (omega arith); stored = rw vars (omega arith) }
  its_levels (w ∷ ws) (suc k) d l = its_levels ws k d (omega (arith, l))

pub is_trial : (s : Spec) (params : List ℤ) (g : Shape) (own near : Box3) (p : PatchValue)
    → IsTested s → length params ≡ length s.params
    → IsShape g → within_ghosts g 1 ≡ true
    → IsSamePart p (new_patch g own near field_vars (item_for s params ∷ []))
    → point_count p.local ≤ s.cap
    → IsTrial s (item_for s params) p
is_trial s params g own near p t count shape wide e under =
    let x = item_for s params in
    let vars : p.vars ≡ field_vars = ap (λ (q : PatchValue). q.vars) e in
    let at : p.shape ≡ g = ap (λ (q : PatchValue). q.shape) e in
    let writes : length x.writes ≡ length s.writes = length-map s.writes touch_of in
    let few = t.writes in
    let small = t.params in
    let staged : length p.staged ≡ min (max (length x.writes) 0) (2 ^ 32 - 1) =
    ap (λ (q : PatchValue). length q.staged) e ∙ length-replicate _ _ in
    let room : p.room ≡ min (max (value_count g.dims x) 0) (2 ^ 32 - 1) =
    ap (λ (q : PatchValue). q.room) e in
    let values : value_count g.dims x ≤ 99 = t.values g.dims shape.most in
    let same : value_count p.shape.dims x ≡ value_count g.dims x =
    ap (λ (q : Shape). value_count q.dims x) at in
    record {
      can = record {
        routine = record {
          thorn = t.thorn;
          name = t.name;
          kind = refl;
          reads = its_touches s.reads;
          writes = its_touches s.writes;
          params = count;
        };
        kind = inl t.kind;
        declared = ap (λ (vs : List VarInfo). has_shape (field_on p.shape vs) x) vars
            ∙ t.declared p.shape params (ap (λ (q : Shape). within_ghosts q 1) at ∙ wide);
        reads = its_levels p vars s.reads;
        writes = its_levels p vars s.writes;
        buffers = omega (arith, writes, few, staged);
        values = omega (arith, room, values, same);
        params = omega (arith, count, small);
        cap = under;
      };
      cell = t.kind;
      vars = vars;
      writes = omega (arith, writes, few);
      values = omega (arith, values, same);
    }

-- the part of a field, filled
pub trial_of : (s : Spec) (items : List Item) (vars : List VarInfo) (g : Shape) (cut : Parts)
    (own near : Box3) (made p : PatchValue) → IsTested s
    → IsFieldFor s g cut items → vars ≡ field_vars → made ≡ new_patch g own near vars items
    → IsSamePart p made → point_count made.local ≤ 1000000
    → IsTrial s (first_item items) p
trial_of s items vars g cut own near made p t f v m e few =
    let is : made ≡ new_patch g own near field_vars (item_for s f.params ∷ []) =
    m ∙ rw (v, f.items_are) refl in
    let all : IsSamePart p (new_patch g own near field_vars (item_for s f.params ∷ [])) =
    e ∙ ap (λ (q : PatchValue). with_numbers q []) is in
    let local : p.local ≡ made.local = ap (λ (q : PatchValue). q.local) e in
    let count : point_count p.local ≡ point_count made.local = ap point_count local in
    let least = t.cap in
    rw f.items_are
    (is_trial s f.params g own near p t f.count (subst IsShape f.cut_is f.whole.shape) f.wide all
    (omega (arith, count, few, least)))

-- ---- calls

-- the window and the place of a point fit the routine
pub fits_at : (s : Spec) (x : Item) (p : PatchValue) (from y : Point) (iteration : ℕ) (w : Seen)
    (at : Place) (out : List ℤ) (g : Shape) (q : Point)
    → IsShape p.shape → IsRoutineOf s x → w ≡ seen_at (setup_in p) x (values_in p) from
    → g ≡ p.shape → q ≡ wrap g y
    → at ≡ (record { at = q; shape = g; iteration = iteration; params = x.params })
    → IsIn (whole g) q → length out ≡ length x.writes → Fits s w at out
fits_at s x p from y iteration w at out g q shape its seen same wrapped place inside room =
    let is : at ≡ place_at (setup_in p) x iteration y = place ∙ rw (wrapped, same) refl in
    let point : at.at ≡ q = ap (λ (r : Place). r.at) place in
    let here : IsIn (whole p.shape) at.at = rw point (subst (λ h. IsIn (whole h) q) same inside) in
    can_call s x (setup_in p) (values_in p) from y iteration w at out shape its seen is here room

-- ---- sweeps

pub sweeps_keep : (old new : PatchValue) (rule : Rule) (x : Item) (iteration before after : ℕ)
    (r : Result (Unit {0}) Overflow)
    → Sweeps old rule x iteration new before after r
    → (new.vars ≡ old.vars) × (new.local ≡ old.local)
sweeps_keep old new rule x iteration before after (Ok u) (state, gives, same, meter) =
    (ap (λ (q : PatchValue). q.vars) same.numbers, ap (λ (q : PatchValue). q.local) same.numbers)
sweeps_keep old new rule x iteration before after (Err e) (none, same, meter) =
    (ap (λ (q : PatchValue). q.vars) same.numbers, ap (λ (q : PatchValue). q.local) same.numbers)

-- a point of the item's zone can be computed
pub can_be_given : (s : Spec) (x : Item) (p : PatchValue) (from y : Point) (g : Shape) (zone : Zone)
    (inside : Bool) → IsTrial s x p → IsPatch p → g ≡ p.shape
    → from ≡ window_point g (region_of x.writes) y → zone ≡ swept_zone p x → inside ≡ in_zone zone y
    → inside ≡ true → CanStage s x p from y
can_be_given s x p from y g zone inside t its same is zone_is test holds =
    let from_is : from ≡ window_from p x y =
    is ∙ ap (λ (h : Shape). window_point h (region_of x.writes) y) same in
    let held : in_zone (swept_zone p x) y ≡ true =
    ap (λ z. in_zone z y) (sym zone_is) ∙ sym test ∙ holds in
    can_stage s x p t.can its t.cell p from y (record { numbers = refl; buffers = refl })
    from_is held

-- ---- stages

staged_count : (at : ℕ) (buffers : List (List ℤ)) (ns : List ℤ)
    → length (staged_at at buffers ns) ≡ length buffers
staged_count at [] ns = refl
staged_count at (b ∷ bs) [] = refl
staged_count at (b ∷ bs) (n ∷ ns) = ap suc (staged_count at bs ns)

pub stages_keep : (old new : PatchValue) (rule : Rule) (x : Item) (iteration : ℕ) (from y : Point)
    (r : Result (Unit {0}) Overflow)
    → Stages old rule x iteration from y new r → IsSamePatch new old
stages_keep old new rule x iteration from y (Ok u) (ns, gives, count, is) =
    rw is (record { numbers = refl; buffers = staged_count _ _ _ })
stages_keep old new rule x iteration from y (Err e) (none, is) =
    rw is (record { numbers = refl; buffers = refl })

pub one_keeps : (old new : PatchValue) (k : ℕ) (y : Point) (n : ℤ) → new ≡ with_one_staged old k y n
    → IsSamePatch new old
one_keeps old new k y n is = rw is (record { numbers = refl; buffers = length-set _ _ _ })

pub row_keeps : (old new : PatchValue) (k : ℕ) (y : Point) (ns : List ℤ)
    → new ≡ with_row_staged old k y ns → IsSamePatch new old
row_keeps old new k y ns is = rw is (record { numbers = refl; buffers = length-set _ _ _ })

pub same_thrice : (a b c d : PatchValue) → IsSamePatch b a → IsSamePatch c b → IsSamePatch d c
    → IsSamePatch d a
same_thrice a b c d ba cb dc =
    record {
      numbers = dc.numbers ∙ cb.numbers ∙ ba.numbers;
      buffers = dc.buffers ∙ cb.buffers ∙ ba.buffers;
    }

pub commits_keep : (old new : PatchValue) (x : Item) (zone : Zone) (r : Result (Unit {0}) Overflow)
    → Commits old x zone new r → new.vars ≡ old.vars
commits_keep old new x zone (Ok u) (state, gives, is) = ap (λ (q : PatchValue). q.vars) is
commits_keep old new x zone (Err e) (none, is) = ap (λ (q : PatchValue). q.vars) is

-- what is staged in a part can be set
pub can_be_set : (s : Spec) (x : Item) (old p : PatchValue) (zone : Zone) → IsTrial s x old
    → IsPatch old → zone ≡ swept_zone old x → IsSamePatch p old
    → CanCommit p x zone
can_be_set s x old p zone t its is same = rw is (can_commit s x old t.can its t.cell p same)
