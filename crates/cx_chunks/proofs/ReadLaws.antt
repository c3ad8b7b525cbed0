-- The text of a part's chunk is read as its pieces.
use Rattle.std.proofs.Common.{◌≡◌, ℕ, zero, suc, ◌+◌, ◌*◌, ◌<◌, ◌≤◌, ◌⊎◌, inl, inr, Bool, true, false, eqb, rules, arith, refl, sym, ap, ◌∙◌, subst, ℤ, pos, ◌≤ℤ◌, List, [], ◌∷◌, length, map, get_or, unsigned_abs}
use Rattle.std.specs.Prelude.{slice_index_or, slice_index, if◌then◌else◌}
use Rattle.std.specs.List.{flat_map, range_with_len, AllByRecursion}
use Rattle.std.specs.Int.{int_gap, w64}
use Rattle.std.specs.Int.RustNames.{FitsSigned}
use Rattle.std.proofs.lemmas.Bool.{cases_lt}
use Rattle.std.proofs.lemmas.Int.{ints}
use Rattle.std.proofs.lemmas.List.{get_or_past}
use Rattle.std.proofs.lemmas.List.Concat.{flat_map-cons}
use Rattle.std.proofs.lemmas.List.FromFn.{length-map-range_with_len, get_or-map-range_with_len}
use Rattle.cx_grid.specs.declared.boxes.Box3.{Box3}
use Rattle.cx_grid.specs.Boxes.{along, extent, point_count, point_in, index_in}
use Rattle.cx_grid.specs.Grid.{whole}
use Rattle.cx_cut.specs.Axis.{start_at, sum_of, own_low, own_high, IsAxisCut}
use Rattle.cx_cut.specs.Cuts.{Parts, IsWhole, widths, part_count, place_along, owned}
use Rattle.cx_cut.proofs.AxisFacts.{start_more, start_le}
use Rattle.cx_cut.proofs.Boxed.{by_direction, place_below}
use Rattle.cx_plan.specs.declared.job.Job.{Job}
use Rattle.cx_plan.specs.declared.variable.VarId.{VarId}
use Rattle.cx_plan.specs.Lookups.{variable}
use Rattle.cx_plan.specs.Setups.{Setup, setup_of}
use Rattle.cx_ascii_read.specs.declared.record.Record.{Record}
use Rattle.cx_ascii_read.specs.Records.{shape_of, IsSize, IsRecord}
use Rattle.cx_ascii_read.proofs.RowLaws.{all-append}
use Rattle.cx_chunks.specs.declared.piece.Piece.TheVariants.{Line}
use Rattle.cx_chunks.specs.Pieces.{IsWord, IsPiece}
use Rattle.cx_chunks.specs.Cutting.{size_of, section_in, pieces_by, pieces_in, pieces_of, IsRecordOf, AreOutputs}
use Rattle.cx_chunks.specs.Laws.{ChunksAreRead}
use Rattle.cx_chunks.proofs.JoinLaws.{numbers_count}

-- ---- lists

all_get : {X : Type 0} (P : X → Type 0) (xs : List X) (i : ℕ) (d : X) → AllByRecursion P xs → P d
    → P (slice_index_or xs i d)
all_get P [] i d all here = here
all_get P (x ∷ xs) zero d all here = all.0
all_get P (x ∷ xs) (suc i) d all here = all_get P xs i d all.1 here

all_range : {X : Type 0} (P : X → Type 0) (f : ℕ → X) (a n : ℕ) → ((k : ℕ) → k < a + n → P (f k))
    → AllByRecursion P (map f (range_with_len a n))
all_range P f a zero h = tt
all_range P f a (suc n) h =
    (h a (omega arith), all_range P f (a + 1) n (λ k l. h k (omega (arith, l))))

pub all_flat : {X Y : Type 0} (P : Y → Type 0) (Q : X → Type 0) (f : X → List Y) (xs : List X)
    → ((x : X) → Q x → AllByRecursion P (f x)) → AllByRecursion Q xs
    → AllByRecursion P (flat_map f xs)
all_flat P Q f [] each all = tt
all_flat P Q f (x ∷ xs) each all =
    subst (AllByRecursion P) (sym (flat_map-cons f x xs))
    (all-append P (f x) (flat_map f xs) (each x all.0) (all_flat P Q f xs each all.1))

-- ---- a box whose further directions have one point has as many points as its sizes say

pub size_count : (size : List ℕ) (b : Box3) → ((d : ℕ) → d < 3 → get_or size d 1 ≡ extent b d)
    → point_count (whole (shape_of size)) ≡ point_count b
size_count size b same =
    let x : extent (whole (shape_of size)) 0 ≡ get_or size 0 1 = omega arith in
    let y : extent (whole (shape_of size)) 1 ≡ get_or size 1 1 = omega arith in
    let z : extent (whole (shape_of size)) 2 ≡ get_or size 2 1 = omega arith in
    ap (λ (n : ℕ). n * extent (whole (shape_of size)) 1 * extent (whole (shape_of size)) 2)
    (x ∙ same 0 (omega arith))
    ∙ ap (λ (n : ℕ). extent b 0 * n * extent (whole (shape_of size)) 2) (y ∙ same 1 (omega arith))
    ∙ ap (λ (n : ℕ). extent b 0 * extent b 1 * n) (z ∙ same 2 (omega arith))

pub sizes_are : (dims : ℕ) (b : Box3) → ((d : ℕ) → d < 3 → dims ≤ d → extent b d ≡ 1) → (d : ℕ)
    → d < 3
    → get_or (size_of dims b) d 1 ≡ extent b d
sizes_are dims b flat d l = go (cases_lt d dims)
  where
    go : (d < dims) ⊎ (dims ≤ d) → get_or (size_of dims b) d 1 ≡ extent b d
    go (inl there) = get_or-map-range_with_len (extent b) 0 dims d d 1 there (omega arith)
    go (inr past) =
        let n = length-map-range_with_len (extent b) 0 dims in
        get_or_past (size_of dims b) d 1 (omega (arith, past, n)) ∙ sym (flat d l past)

-- ---- one direction of a part

-- how many points a part has in a direction
axis_extent : (ws : List ℕ) (a : ℕ) → a < length ws
    → int_gap (own_low ws a) (own_high ws a) ≡ slice_index ws a
axis_extent ws a there = let more = start_more ws a there in omega (arith, more)

axis_few : (ws : List ℕ) (n g : ℤ) → IsAxisCut n g ws → n ≤ℤ pos 16777216 → sum_of ws ≤ 16777216
axis_few ws n g cut most = let total = cut.total in omega (arith, ints, total, most)

axis_size : (ws : List ℕ) (a : ℕ) (n g : ℤ) → IsAxisCut n g ws → n ≤ℤ pos 16777216 → a < length ws
    → IsSize (int_gap (own_low ws a) (own_high ws a))
axis_size ws a n g cut most there =
    let e = axis_extent ws a there in
    let some = cut.some a there in
    let less = start_le ws (suc a) in
    let few = axis_few ws n g cut most in
    (omega (arith, e, some), omega (arith, less, few))

axis_word : (ws : List ℕ) (a : ℕ) (n g : ℤ) → IsAxisCut n g ws → n ≤ℤ pos 16777216
    → IsWord (start_at ws a)
axis_word ws a n g cut most =
    let less = start_le ws a in let few = axis_few ws n g cut most in omega (arith, less, few)

axis_one : (ws : List ℕ) (a : ℕ) (n g : ℤ) → IsAxisCut n g ws → n ≡ pos 1 → a < length ws
    → int_gap (own_low ws a) (own_high ws a) ≡ 1
axis_one ws a n g cut one there =
    let e = axis_extent ws a there in
    let some = cut.some a there in
    let more = start_more ws a there in
    let less = start_le ws (suc a) in
    let total = cut.total in
    let sum : sum_of ws ≡ 1 = omega (arith, ints, total, one) in
    omega (arith, e, some, more, less, sum)

-- ---- the section of a part

module _ (c : Parts) (is : IsWhole c) (k : ℕ) (there : k < part_count c) where
  place_there : (d : ℕ) → d < 3 → place_along c k d < length (widths c d)
  place_there = place_below c k there

  pub extent_size : (d : ℕ) → d < 3 → IsSize (extent (owned c k) d)
  extent_size = by_direction (λ d. IsSize (extent (owned c k) d))
      (axis_size c.x (place_along c k 0) _ _ is.cut.x is.shape.x.most (place_there 0 (omega arith)))
      (axis_size c.y (place_along c k 1) _ _ is.cut.y is.shape.y.most (place_there 1 (omega arith)))
      (axis_size c.z (place_along c k 2) _ _ is.cut.z is.shape.z.most (place_there 2 (omega arith)))

  low_word : (d : ℕ) → d < 3 → IsWord (unsigned_abs (along (owned c k).low d))
  low_word = by_direction (λ d. IsWord (unsigned_abs (along (owned c k).low d)))
      (axis_word c.x (place_along c k 0) _ _ is.cut.x is.shape.x.most)
      (axis_word c.y (place_along c k 1) _ _ is.cut.y is.shape.y.most)
      (axis_word c.z (place_along c k 2) _ _ is.cut.z is.shape.z.most)

  pub flat : (d : ℕ) → d < 3 → c.shape.dims ≤ d → extent (owned c k) d ≡ 1
  flat = by_direction (λ d. c.shape.dims ≤ d → extent (owned c k) d ≡ 1)
      (λ none. let some = is.shape.some in absurd (omega (arith, none, some)))
      (λ none. axis_one c.y (place_along c k 1) _ _ is.cut.y
      (is.shape.no_y (omega (arith, none))).one
      (place_there 1 (omega arith)))
      (λ none. axis_one c.z (place_along c k 2) _ _ is.cut.z
      (is.shape.no_z (omega (arith, none))).one
      (place_there 2 (omega arith)))

  pub section_is_piece : (r : Record) → IsRecord r → IsPiece (section_in c k r)
  section_is_piece r fits =
      let few = is.few in
      let some = is.shape.some in
      let most = is.shape.most in
      let sizes = length-map-range_with_len (extent (owned c k)) 0 c.shape.dims in
      let lows = length-map-range_with_len (λ d. unsigned_abs (along (owned c k).low d))
      0 c.shape.dims in
      record {
        name = fits.name;
        iteration = fits.iteration;
        part = omega (arith, there, few);
        parts = omega (arith, few);
        some = omega (arith, sizes, some);
        directions = omega (arith, sizes, most);
        from = all_range IsWord (λ d. unsigned_abs (along (owned c k).low d)) 0 c.shape.dims
            (λ d l. low_word d (omega (arith, l, most)));
        alike = lows ∙ sym sizes;
        sizes = all_range IsSize (extent (owned c k)) 0 c.shape.dims
            (λ d l. extent_size d (omega (arith, l, most)));
        count =
            numbers_count (owned c k)
            (λ p. slice_index_or r.values (index_in (whole c.shape) p) (pos 0))
            ∙ sym (size_count (size_of c.shape.dims (owned c k)) (owned c k)
            (sizes_are c.shape.dims (owned c k) flat));
        values = all_range (FitsSigned w64)
            (λ i. slice_index_or r.values (index_in (whole c.shape) (point_in (owned c k) i))
            (pos 0))
            0 (point_count (owned c k))
            (λ i l. all_get (FitsSigned w64) r.values _ (pos 0) fits.values zero_fits);
      }
    where
      zero_fits : FitsSigned w64 (pos 0)
      zero_fits = search rules

  -- what a part has of a record is made of pieces
  pub pieces_are : (r : Record) → IsRecord r → AllByRecursion IsPiece (pieces_in c k r)
  pieces_are r fits = go r.size refl
    where
      line : (b : Bool) → r.size ≡ [] → AllByRecursion IsPiece (if b then Line r ∷ [] else [])
      line true none = ((fits, none), tt)
      line false none = tt

      go : (size : List ℕ) → r.size ≡ size → AllByRecursion IsPiece (pieces_by c k size r)
      go [] e = line (eqb k 0) e
      go (n ∷ ns) e = (section_is_piece r fits, tt)

pub outputs_are : (setup : Setup) (c : Parts) (is : IsWhole c) (k : ℕ) (there : k < part_count c)
    (vs : List VarId) (rss : List (List Record)) → AreOutputs setup vs rss
    → AllByRecursion IsPiece (pieces_of c rss k)
outputs_are setup c is k there [] [] are = tt
outputs_are setup c is k there [] (rs ∷ rss) are = absurd are
outputs_are setup c is k there (v ∷ vs) [] are = absurd are
outputs_are setup c is k there (v ∷ vs) (rs ∷ rss) are =
    subst (AllByRecursion IsPiece) (sym (flat_map-cons (flat_map (pieces_in c k)) rs rss))
    (all-append IsPiece (flat_map (pieces_in c k) rs) (pieces_of c rss k)
    (all_flat IsPiece (IsRecordOf setup (variable setup v)) (pieces_in c k) rs
    (λ r of. pieces_are c is k there r of.is) are.0.records)
    (outputs_are setup c is k there vs rss are.1))

pub chunks_are_read : (job : Job) → ChunksAreRead job
chunks_are_read job c records k cut are there = record {
  in_range = outputs_are (setup_of job) c cut.whole k there job.out_vars records are;
  spelled = refl;
}
