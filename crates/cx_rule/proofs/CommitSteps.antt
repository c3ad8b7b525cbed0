-- Writes tested and set one after another.
use Rattle.std.proofs.Common.{◌≡◌, ℕ, zero, suc, ◌+◌, ◌<◌, ◌≤◌, Bool, true, false, ◌&&◌, if◌then◌else◌, arith, refl, ap, ◌∙◌, ℤ, pos, List, [], ◌∷◌, length, drop, get_or, Option, Some, None, is_some}
use Rattle.std.specs.List.{list_all}
use Rattle.std.proofs.lemmas.List.{drop_more}
use Rattle.std.proofs.lemmas.List.FromFn.{fill_by_all, get_or-map-range_with_len, length-map-range_with_len}
use Rattle.cx_grid.specs.declared.boxes.Point.{Point}
use Rattle.cx_grid.specs.declared.boxes.Box3.{Box3}
use Rattle.cx_grid.specs.Boxes.{point_count, point_in}
use Rattle.cx_plan.specs.declared.item.Touch.{Touch}
use Rattle.cx_plan.specs.Setups.{Setup}
use Rattle.cx_plan.specs.Lookups.{variable}
use Rattle.cx_rule.specs.States.{State, with_level}
use Rattle.cx_rule.specs.Sweeps.{Values, fits, all_fit, number_or, level_after, levels_after}
use Rattle.cx_rule.specs.Staging.{numbers_staged}

pub fit_step : (setup : Setup) (ws : List Touch) (ns : List ℤ) (k : ℕ) (w : Touch) → k < length ws
    → k < length ns
    → all_fit setup (drop k ws) (drop k ns)
    ≡ (fits (variable setup (get_or ws k w).var).ctype (get_or ns k (pos 0))
    && all_fit setup (drop (k + 1) ws) (drop (k + 1) ns))
fit_step setup ws ns k w l m = rw (drop_more ws k w l, drop_more ns k (pos 0) m) refl

pub staged_length : (buffers : List (List ℤ)) (count at : ℕ) → count ≤ length buffers
    → length (numbers_staged buffers count at) ≡ count
staged_length [] zero at h = refl
staged_length [] (suc n) at h = absurd (omega (arith, h))
staged_length (b ∷ bs) zero at h = refl
staged_length (b ∷ bs) (suc n) at h = ap suc (staged_length bs n at (omega (arith, h)))

-- ---- where all that is staged fits, the staged numbers are those of the sweep

pub some_fit : (t : Bool) (ns : List ℤ) → is_some (if t then Some ns else None) ≡ t
some_fit true ns = refl
some_fit false ns = refl

pub if_true : (t : Bool) (ns : List ℤ) → t ≡ true → (if t then Some ns else None) ≡ Some ns
if_true t ns e = rw e refl

-- a test of the points of a box, seen point by point
pub all_points : (test : Point → Bool) (ps : List Point) (i : ℕ) (d : Point) → i < length ps
    → list_all test ps ≡ true → test (get_or ps i d) ≡ true
all_points test [] i d l e = absurd (omega (arith, l))
all_points test (p ∷ ps) zero d l e = first (test p) (list_all test ps) e
  where
    first : (a b : Bool) → (a && b) ≡ true → a ≡ true
    first true b e = refl
    first false b e = cc
all_points test (p ∷ ps) (suc i) d l e =
    all_points test ps i d (omega (arith, l)) (second (test p) (list_all test ps) e)
  where
    second : (a b : Bool) → (a && b) ≡ true → b ≡ true
    second true b e = e
    second false b e = cc

-- ---- levels by numbers that agree in a zone

level_cong : (b : Box3) (zone : Point → Bool) (f g : Point → Option (List ℤ)) (k : ℕ)
    (old : Point → ℤ)
    → ((i : ℕ) → i < point_count b → zone (point_in b i) ≡ true
    → f (point_in b i) ≡ g (point_in b i))
    → level_after b zone f k old ≡ level_after b zone g k old
level_cong b zone f g k old h =
    fill_by_all (λ i. at g (point_in b i)) (level_after b zone f k old) (point_count b) (pos 0)
    (length-map-range_with_len (λ i. at f (point_in b i)) 0 (point_count b))
    (λ i l. let z : 0 + i ≡ i = omega arith in
    get_or-map-range_with_len (λ i. at f (point_in b i)) 0 (point_count b) i i (pos 0) l z
    ∙ same i l (zone (point_in b i)) refl)
  where
    at : (Point → Option (List ℤ)) → Point → ℤ
    at u y = if zone y then number_or (u y) k (old y) else old y

    same : (i : ℕ) → i < point_count b → (t : Bool) → zone (point_in b i) ≡ t
        → at f (point_in b i) ≡ at g (point_in b i)
    same i l true e = rw (e, h i l e) refl
    same i l false e = rw e refl

pub levels_cong : (b : Box3) (values : Values) (zone : Point → Bool) (f g : Point → Option (List ℤ))
    (k : ℕ) (ws : List Touch) (state : State)
    → ((i : ℕ) → i < point_count b → zone (point_in b i) ≡ true
    → f (point_in b i) ≡ g (point_in b i))
    → levels_after b values zone f k ws state ≡ levels_after b values zone g k ws state
levels_cong b values zone f g k [] state h = refl
levels_cong b values zone f g k (w ∷ ws) state h =
    ap (λ ns. levels_after b values zone f (k + 1) ws (with_level state w.var w.level ns))
    (level_cong b zone f g k (values w.var w.level) h)
    ∙ levels_cong b values zone f g (k + 1) ws
    (with_level state w.var w.level (level_after b zone g k (values w.var w.level))) h
