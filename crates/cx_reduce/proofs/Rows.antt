-- The number of a reduction, row after row.
use Rattle.std.proofs.Common.{◌≡◌, ◌∙◌, ℕ, zero, suc, ◌+◌, ◌*◌, ◌%◌, ◌^◌, ◌<◌, ◌≤◌, subst, ◌+ℤ◌, ◌≤ℤ◌, refl, sym, ap, arith, ℤ, pos, List, [], ◌∷◌, ◌++◌, length, map, take, get_or, Option, Some, None}
use Rattle.std.specs.List.{range_with_len, fold}
use Rattle.std.specs.Option.{unwrap_or}
use Rattle.std.proofs.lemmas.List.{append_assoc, append-nil, take_more, take_all}
use Rattle.std.proofs.lemmas.List.FromFn.{length-map-range_with_len, map-range_with_len_more}
use Rattle.std.proofs.lemmas.List.Sums.{fold-append}
use Rattle.std.proofs.lemmas.Int.{ints}
use Rattle.std.proofs.Math.Nat.{mul-mod_left}
use Rattle.cx_plan.specs.declared.item.ItemKind.{ItemKind}
use Rattle.cx_model.specs.Turns.{reduced}
use Rattle.cx_grid.specs.declared.boxes.Point.{Point}
use Rattle.cx_grid.specs.declared.boxes.Box3.{Box3}
use Rattle.cx_grid.specs.Boxes.{IsIn, IsBox, extent, point_in, point_count, numbers_in}
use Rattle.cx_grid.proofs.Places.{gap_up}
use Rattle.cx_rule.specs.Patches.{PatchValue, IsPatch, beside}
use Rattle.cx_rule.proofs.FaceLaws.{spans}
use Rattle.cx_rule.proofs.PartPoints.{own_local}
use Rattle.cx_rule.proofs.RunLaws.{starts_row, row_point}
use Rattle.cx_reduce.specs.Partials.{IsReduction, IsBounded, IsWithin, reduced_over, one_more}
use Rattle.cx_reduce.proofs.Counts.{few_points}
use Rattle.cx_reduce.proofs.Running.{running, running_is}

-- the number over the first so many points of a box
abbrev pub running_over : ItemKind → Box3 → (Point → ℤ) → ℕ → Option ℤ
running_over kind b f n = running kind (map (λ i. f (point_in b i)) (range_with_len 0 n))

-- numbers from a place on, one more each time
more_along : (g h : ℕ → ℤ) (s n : ℕ) → ((i : ℕ) → i < n → g (s + i) ≡ h i)
    → map g (range_with_len 0 (s + n)) ≡ map g (range_with_len 0 s) ++ map h (range_with_len 0 n)
more_along g h s zero same =
    let e : s + 0 ≡ s = omega arith in
    ap (λ k. map g (range_with_len 0 k)) e ∙ sym (append-nil (map g (range_with_len 0 s)))
more_along g h s (suc n) same =
    let e : s + suc n ≡ s + n + 1 = omega arith in
    let f : suc n ≡ n + 1 = omega arith in
    let before = more_along g h s n (λ i l. same i (omega (arith, l))) in
    ap (λ k. map g (range_with_len 0 k)) e
    ∙ map-range_with_len_more g 0 (s + n) (s + n) (omega arith)
    ∙ ap (λ z. map g (range_with_len 0 (s + n)) ++ z ∷ []) (same n (omega arith))
    ∙ ap (λ ns. ns ++ h n ∷ []) before
    ∙ append_assoc (map g (range_with_len 0 s)) (map h (range_with_len 0 n)) (h n ∷ [])
    ∙ ap (λ ns. map g (range_with_len 0 s) ++ ns)
    (sym (map-range_with_len_more h 0 n n (omega arith)))
    ∙ ap (λ k. map g (range_with_len 0 s) ++ map h (range_with_len 0 k)) (sym f)

-- a row more
pub running_row : (kind : ItemKind) (b : Box3) (f : Point → ℤ) (s n next : ℕ) (low : Point)
    (number result : Option ℤ) (row : List ℤ)
    → next ≡ s + n → ((i : ℕ) → i < n → point_in b (s + i) ≡ beside low i)
    → row ≡ map (λ i. f (beside low i)) (range_with_len 0 n)
    → number ≡ running_over kind b f s → result ≡ fold (one_more kind) number row
    → result ≡ running_over kind b f next
running_row kind b f s n next low number result row to points is before after =
    let all = more_along (λ i. f (point_in b i)) (λ i. f (beside low i)) s n
    (λ i l. ap f (points i l)) in
    after
    ∙ ap (λ o. fold (one_more kind) o row) before
    ∙ ap (λ ns. fold (one_more kind) (running_over kind b f s) ns) is
    ∙ sym (fold-append (one_more kind) None (map (λ i. f (point_in b i)) (range_with_len 0 s))
    (map (λ i. f (beside low i)) (range_with_len 0 n)))
    ∙ ap (running kind) (sym all)
    ∙ ap (running_over kind b f) (sym to)

-- a number more of a row
pub folded_more : (kind : ItemKind) (number so_far next : Option ℤ) (row : List ℤ) (k : ℕ)
    (value : ℤ) → k < length row → value ≡ get_or row k value
    → so_far ≡ fold (one_more kind) number (take k row) → next ≡ one_more kind so_far value
    → next ≡ fold (one_more kind) number (take (k + 1) row)
folded_more kind number so_far next row k value below is before after =
    after ∙ ap (λ o. one_more kind o value) before
    ∙ sym (fold-append (one_more kind) number (take k row) (value ∷ []))
    ∙ ap (fold (one_more kind) number)
    (ap (λ z. take k row ++ z ∷ []) is ∙ sym (take_more row k value below))

-- the whole box
pub reduced_all : (kind : ItemKind) → IsReduction kind
    → (points : ℕ) (b : Box3) (f : Point → ℤ) (passed : ℕ) (number : Option ℤ) (result : ℤ)
    → points ≡ point_count b → passed ≡ point_count b → number ≡ running_over kind b f passed
    → result ≡ unwrap_or number (pos 0)
    → (record { kind = kind; points = points; number = result })
    ≡ reduced_over kind (numbers_in b f)
reduced_all kind r points b f passed number result count all is answer =
    let long : points ≡ length (numbers_in b f) =
    count ∙ sym (length-map-range_with_len (λ i. f (point_in b i)) 0 (point_count b)) in
    let value : result ≡ reduced kind (numbers_in b f) =
    answer ∙ ap (λ o. unwrap_or o (pos 0)) (is ∙ ap (running_over kind b f) all)
    ∙ running_is kind (numbers_in b f) r
    in
    rw (long, value) refl

-- ---- a row of a part

-- a row of the points that a part owns, from a place on: its first point
pub record OwnRow (p : PatchValue) (b : Box3) (start : ℕ) (y : Point) : Type 0 where
  pub near : IsIn p.local y
  pub within : (y.x +ℤ pos (extent b 0)) ≤ℤ p.local.high.x
  pub points : (i : ℕ) → i < extent b 0 → point_in b (start + i) ≡ beside y i
  pub few : start + extent b 0 ≤ 2 ^ 24
  pub some : 0 < extent b 0

pub own_few : (p : PatchValue) (b : Box3) → IsPatch p → b ≡ p.owned → point_count b ≤ 2 ^ 24
own_few p b its same = subst (λ c. point_count c ≤ 2 ^ 24) (sym same)
    (few_points p.shape p.owned p.local its.part)

pub own_row : (p : PatchValue) (b : Box3) (row start : ℕ) (y : Point) → IsPatch p → b ≡ p.owned
    → start ≡ row * extent b 0
    → start + extent b 0 ≤ point_count b → y ≡ point_in b start → IsIn b y → OwnRow p b start y
own_row p b row start y its same is room e inside =
    let part = its.part in
    let own = part.x in
    let r = spans p.shape p.owned p.local part 0 (omega arith) in
    let order : IsBox p.owned =
    record {
      x = omega (arith, ints, part.x.some);
      y = omega (arith, ints, part.y.some);
      z = omega (arith, ints, part.z.some);
    } in
    let box : IsBox b = subst IsBox (sym same) order in
    let low : b.low.x ≡ p.owned.low.x = ap (λ (c : Box3). c.low.x) same in
    let high : b.high.x ≡ p.owned.high.x = ap (λ (c : Box3). c.high.x) same in
    let ordered : b.low.x ≤ℤ b.high.x = box.x in
    let gap = gap_up b.low.x b.high.x ordered in
    let some : 0 < extent b 0 = omega (arith, ints, gap, low, high, own.some) in
    let first : start % extent b 0 ≡ 0 =
    ap (λ n. n % extent b 0) is ∙ mul-mod_left row (extent b 0) in
    let begins : (point_in b start).x ≡ b.low.x = starts_row b start box some room first in
    let at : y.x ≡ b.low.x = ap (λ (q : Point). q.x) e ∙ begins in
    let few = own_few p b its same in
    record {
      near = own_local p.shape p.owned p.local part y (subst (λ c. IsIn c y) same inside);
      within = omega (arith, ints, at, gap, high, r.high);
      points = λ i l. row_point b start box some room first i l ∙ ap (λ q. beside q i) (sym e);
      few = omega (arith, room, few);
      some = some;
    }

-- all numbers of a row, and what the number over them is
pub told_all : (kind : ItemKind) (number so_far : Option ℤ) (row : List ℤ) (passed k : ℕ)
    (result : ℤ) → k ≡ length row → 0 < passed → IsBounded passed so_far
    → so_far ≡ fold (one_more kind) number (take k row) → result ≡ unwrap_or so_far (pos 0)
    → (Some result ≡ fold (one_more kind) number row) × IsWithin passed result
told_all kind number None row passed k result all some bounded is answer =
    absurd (omega (arith, some, bounded))
told_all kind number (Some n) row passed k result all some bounded is answer = (
  ap Some answer ∙ is ∙ ap (fold (one_more kind) number) (take_all k row (omega (arith, all))),
  subst (IsWithin passed) (sym answer) bounded.1,
)
