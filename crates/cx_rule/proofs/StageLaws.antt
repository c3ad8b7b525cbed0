-- Buffers written one place at a time.
use Rattle.std.proofs.Common.{◌≡◌, ℕ, zero, suc, ◌<◌, ◌≤◌, arith, refl, sym, ap, ◌∙◌, subst, ℤ, pos, List, [], ◌∷◌, length, length-set, take, map, get_or}
use Rattle.std.specs.Prelude.{slice_index_or, slice_set}
use Rattle.std.proofs.lemmas.List.{length-map}
use Rattle.cx_grid.specs.declared.boxes.Point.{Point}
use Rattle.cx_grid.specs.Boxes.{IsIn}
use Rattle.cx_grid.specs.Grid.{IsShape, whole}
use Rattle.cx_plan.specs.declared.item.Touch.{Touch}
use Rattle.cx_plan.specs.declared.item.Item.{Item}
use Rattle.cx_plan.specs.declared.item.Region.{Region}
use Rattle.cx_plan.specs.Setups.{Setup}
use Rattle.cx_rule.specs.declared.place.Place.{Place}
use Rattle.cx_rule.specs.declared.spec.Spec.{Spec}
use Rattle.cx_rule.specs.declared.spec.Want.{Want}
use Rattle.cx_rule.specs.Jobs.{IsRoutineOf, of_touch, of_want}
use Rattle.cx_rule.specs.Routine.{Fits, reach_of as want_reach}
use Rattle.cx_rule.specs.Seen.{Seen}
use Rattle.cx_rule.specs.Sweeps.{Values, reach_of, seen_at, place_at}
use Rattle.cx_rule.specs.Staging.{staged_at, no_numbers, cleared}
use Rattle.cx_rule.proofs.WindowLaws.{seen_count}

-- ---- a number for each write

-- the next write's buffer is as before
pub staged_beyond : (at : ℕ) (buffers : List (List ℤ)) (ns : List ℤ) (k : ℕ) → k ≤ length ns
    → slice_index_or (staged_at at buffers (take k ns)) k [] ≡ slice_index_or buffers k []
staged_beyond at [] [] zero h = refl
staged_beyond at [] (n ∷ ns) zero h = refl
staged_beyond at (b ∷ bs) [] zero h = refl
staged_beyond at (b ∷ bs) (n ∷ ns) zero h = refl
staged_beyond at buffers [] (suc k) h = absurd (omega (arith, h))
staged_beyond at [] (n ∷ ns) (suc k) h = refl
staged_beyond at (b ∷ bs) (n ∷ ns) (suc k) h = staged_beyond at bs ns k (omega (arith, h))

pub staged_next : (at : ℕ) (buffers : List (List ℤ)) (ns : List ℤ) (k : ℕ) → k < length ns
    → k < length buffers
    → slice_set (staged_at at buffers (take k ns)) k
    (slice_set (slice_index_or (staged_at at buffers (take k ns)) k []) at
    (get_or ns k (pos 0)))
    ≡ staged_at at buffers (take (suc k) ns)
staged_next at [] ns k h l = absurd (omega (arith, l))
staged_next at (b ∷ bs) [] k h l = absurd (omega (arith, h))
staged_next at (b ∷ []) (n ∷ ns) zero h l = refl
staged_next at (b ∷ c ∷ bs) (n ∷ ns) zero h l = refl
staged_next at (b ∷ bs) (n ∷ ns) (suc k) h l =
    ap (λ rest. slice_set b at n ∷ rest)
    (staged_next at bs ns k (omega (arith, h)) (omega (arith, l)))

pub staged_count : (at : ℕ) (buffers : List (List ℤ)) (ns : List ℤ)
    → length (staged_at at buffers ns) ≡ length buffers
staged_count at [] ns = refl
staged_count at (b ∷ bs) [] = refl
staged_count at (b ∷ bs) (n ∷ ns) = ap suc (staged_count at bs ns)

pub staged_sizes : (at : ℕ) (buffers : List (List ℤ)) (ns : List ℤ)
    → map length (staged_at at buffers ns) ≡ map length buffers
staged_sizes at [] ns = refl
staged_sizes at (b ∷ bs) [] = refl
staged_sizes at (b ∷ bs) (n ∷ ns) =
    let e : length (slice_set b at n) ≡ length b = length-set b at n in
    rw (e, staged_sizes at bs ns) refl

-- ---- clearing

pub cleared_sizes : (buffers : List (List ℤ)) → map length (cleared buffers) ≡ map length buffers
cleared_sizes [] = refl
cleared_sizes (b ∷ bs) =
    let e : length (no_numbers b) ≡ length b = length-map b (λ n. pos 0) in
    rw (e, cleared_sizes bs) refl

-- ---- what a routine may be called with

pub touch_reaches : (ts : List Touch)
    → map (λ (t : Region × ℕ). t.1) (map of_touch ts) ≡ map reach_of ts
touch_reaches [] = refl
touch_reaches (t ∷ ts) = ap (λ (rs : List ℕ). t.reach ∷ rs) (touch_reaches ts)

pub want_reaches : (ws : List Want)
    → map (λ (t : Region × ℕ). t.1) (map of_want ws) ≡ map want_reach ws
want_reaches [] = refl
want_reaches (w ∷ ws) = ap (λ (rs : List ℕ). w.reach ∷ rs) (want_reaches ws)

pub touch_count : (ts : List Touch) → length (map of_touch ts) ≡ length ts
touch_count ts = length-map ts of_touch

pub want_count : (ws : List Want) → length (map of_want ws) ≡ length ws
want_count ws = length-map ws of_want

pub can_call : (s : Spec) (x : Item) (setup : Setup) (values : Values) (from y : Point)
    (iteration : ℕ) (w : Seen) (at : Place) (out : List ℤ)
    → IsShape setup.shape → IsRoutineOf s x → w ≡ seen_at setup x values from
    → at ≡ place_at setup x iteration y
    → IsIn (whole setup.shape) at.at → length out ≡ length x.writes → Fits s w at out
can_call s x setup values from y iteration w at out shape its seen place inside room =
    let same : at.shape ≡ setup.shape = ap (λ (p : Place). p.shape) place in
    record {
      shape = subst IsShape (sym same) shape;
      point = subst (λ (q : _). IsIn (whole q) at.at) (sym same) inside;
      dims = ap (λ (u : Seen). u.dims) seen ∙ ap (λ (q : _). q.dims) (sym same);
      reads = ap (λ (u : Seen). u.reaches) seen ∙ sym (touch_reaches x.reads)
          ∙ ap (λ (ts : List (Region × ℕ)). map (λ (t : Region × ℕ). t.1) ts) its.reads
          ∙ want_reaches s.reads;
      values = rw seen (seen_count setup values from x.reads);
      params = ap (λ (p : Place). length p.params) place ∙ its.params;
      writes = room ∙ sym (touch_count x.writes)
          ∙ ap (λ (ts : List (Region × ℕ)). length ts) its.writes ∙ want_count s.writes;
    }
