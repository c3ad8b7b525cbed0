-- The pieces of all parts are combined into the text of the records that were cut.
use Rattle.std.proofs.Common.{◌≡◌, ◌≢◌, ℕ, zero, suc, ◌+◌, ◌<◌, ◌≤◌, ◌⊎◌, inl, inr, Bool, true, false, ◌||◌, eqb, arith, refl, sym, ap, ◌∙◌, subst, ℤ, pos, negsuc, ◌≤ℤ◌, List, [], ◌∷◌, ◌++◌, length, map, get_or, unsigned_abs, Option, Some, None, Ok}
use Rattle.std.specs.Prelude.{find, not, slice_index_or, if◌then◌else◌}
use Rattle.std.specs.Int.{int_gap}
use Rattle.std.specs.List.{flat_map, list_any, range_with_len, AllByRecursion}
use Rattle.std.proofs.lemmas.Bool.{cases_Bool, cases_lt, true≢false, eq-eqb}
use Rattle.std.proofs.lemmas.Int.{ints}
use Rattle.std.proofs.lemmas.List.{append-nil, get_or_past}
use Rattle.std.proofs.lemmas.List.Concat.{flat_map-cons}
use Rattle.std.proofs.lemmas.List.Folds.{flat_map-map}
use Rattle.std.proofs.lemmas.List.FromFn.{get_or-map-range_with_len, length-map-range_with_len}
use Rattle.cx_grid.specs.declared.shapes.Shape.{Shape}
use Rattle.cx_grid.specs.Boxes.{along, extent, IsIn, point_count}
use Rattle.cx_grid.specs.Grid.{IsShape, whole}
use Rattle.cx_ascii.specs.Output.{section, line}
use Rattle.cx_plan.specs.declared.job.Job.{Job}
use Rattle.cx_plan.specs.declared.variable.VarId.{VarId}
use Rattle.cx_plan.specs.declared.variable.VarInfo.{VarInfo}
use Rattle.cx_plan.specs.Lists.{first_of_each}
use Rattle.cx_plan.specs.Lookups.{variable, no_variable}
use Rattle.cx_plan.specs.Setups.{Setup, setup_of}
use Rattle.cx_plan.specs.Whole.{IsWhole as IsWholeJob}
use Rattle.cx_cut.specs.Cuts.{Parts, part_count}
use Rattle.cx_cut.proofs.Boxed.{by_direction}
use Rattle.cx_cut.proofs.Tiled.{tiles}
use Rattle.cx_ascii_read.specs.declared.record.Record.{Record}
use Rattle.cx_ascii_read.specs.Records.{text_of, record_text}
use Rattle.cx_ascii_read.specs.Printed.{sizes_of, level_record, SectionsAreRecords}
use Rattle.cx_chunks.specs.declared.fault.ChunkFault.{ChunkFault}
use Rattle.cx_chunks.specs.declared.fault.ChunkFault.TheVariants.{Stranger, Double}
use Rattle.cx_chunks.specs.declared.piece.Piece.{Piece}
use Rattle.cx_chunks.specs.declared.piece.Piece.TheVariants.{Line}
use Rattle.cx_chunks.specs.Cutting.{IsRecordOf, IsOutputOf, AreOutputs, own_of, own_values, section_in, pieces_in, pieces_of}
use Rattle.cx_chunks.specs.Combining.{is_at, is_twin, is_output, is_output_of, is_stranger, by_piece, stranger_in, double_in, first_of_chunks, iterations_in, iterations_of, chunk, missing_in, missing_at, missing_of, missing, chunk_fault, found_values, values_in, joined, text_at, whole_text, unless, combined}
use Rattle.cx_chunks.specs.Laws.{IsCutOf, PiecesJoin, OwnersCount}
use Rattle.cx_chunks.proofs.RisingLaws.{has, rising_is, pairs_from}
use Rattle.cx_chunks.proofs.PieceLists.{name_is, any_flat, find_none, none_again, has_iteration}
use Rattle.cx_chunks.proofs.GroupLaws.{Stands, times, any_stands, Apart, stands_output, map_stands, first_stands, stands_find, stands_any, chunk_twins, any_group, grid_found, line_found, chunk_own}
use Rattle.cx_chunks.proofs.JoinLaws.{joined_is, joined_again, joined_same}
use Rattle.cx_chunks.proofs.ReadLaws.{size_count}

-- ---- lists of chunks

module _ (g : ℕ → List Piece) where
  any_chunks : (p : List Piece → Bool) (b : Bool) (a n : ℕ) → 1 ≤ n → p (g a) ≡ b
      → ((k : ℕ) → a < k → p (g k) ≡ true → b ≡ true) → list_any p (map g (range_with_len a n)) ≡ b
  any_chunks p b a zero some first rest = absurd (omega (arith, some))
  any_chunks p true a (suc n) some first rest = rw first refl
  any_chunks p false a (suc n) some first rest =
      rw first (none (a + 1) n (λ k l. not_true (p (g k)) (rest k (omega (arith, l)))))
    where
      not_true : (b : Bool) → (b ≡ true → false ≡ true) → b ≡ false
      not_true true h = absurd (true≢false (sym (h refl)))
      not_true false h = refl

      none : (c m : ℕ) → ((k : ℕ) → c ≤ k → p (g k) ≡ false)
          → list_any p (map g (range_with_len c m)) ≡ false
      none c zero lacks = refl
      none c (suc m) lacks = rw (lacks c (omega arith))
          (none (c + 1) m (λ k l. lacks k (omega (arith, l))))

  no_fault : (fault : ℕ → List Piece → Option ChunkFault) (a n : ℕ)
      → ((k : ℕ) → k < a + n → fault k (g k) ≡ None)
      → first_of_chunks fault a (map g (range_with_len a n)) ≡ None
  no_fault fault a zero none = refl
  no_fault fault a (suc n) none =
      rw (none a (omega arith)) (no_fault fault (a + 1) n (λ k l. none k (omega (arith, l))))

first_range : {A : Type 0} (f : ℕ → Option A) (a n : ℕ) → ((k : ℕ) → k < a + n → f k ≡ None)
    → first_of_each f (range_with_len a n) ≡ None
first_range f a zero none = refl
first_range f a (suc n) none =
    rw (none a (omega arith)) (first_range f (a + 1) n (λ k l. none k (omega (arith, l))))

first_has : {A : Type 0} (f : ℕ → Option A) (ns : List ℕ) → ((n : ℕ) → has n ns ≡ true → f n ≡ None)
    → first_of_each f ns ≡ None
first_has f [] none = refl
first_has f (n ∷ ns) none =
    rw (none n (rw (eq-eqb n n refl) refl))
    (first_has f ns (λ m h. none m (ap (λ b. eqb m n || b) h ∙ or_true (eqb m n))))
  where
    or_true : (b : Bool) → (b || true) ≡ true
    or_true true = refl
    or_true false = refl

flat_same : {X A : Type 0} (f g : X → List A) (xs : List X) → AllByRecursion (λ x. f x ≡ g x) xs
    → flat_map f xs ≡ flat_map g xs
flat_same f g [] same = refl
flat_same f g (x ∷ xs) same =
    flat_map-cons f x xs ∙ ap (λ a. a ++ flat_map f xs) same.0
    ∙ ap (λ b. g x ++ b) (flat_same f g xs same.1)
    ∙ sym (flat_map-cons g x xs)

for_each : {X : Type 0} (B : ℕ → Type 0) (Q : ℕ → X → Type 0) (xs : List X)
    → ((k : ℕ) → B k → AllByRecursion (Q k) xs) → AllByRecursion (λ x. (k : ℕ) → B k → Q k x) xs
for_each B Q [] all = tt
for_each B Q (x ∷ xs) all = ((λ k b. (all k b).0), for_each B Q xs (λ k b. (all k b).1))

both : {X : Type 0} (P Q R : X → Type 0) (xs : List X) → ((x : X) → P x → Q x → R x)
    → AllByRecursion P xs → AllByRecursion Q xs → AllByRecursion R xs
both P Q R [] since ps qs = tt
both P Q R (x ∷ xs) since ps qs = (since x ps.0 qs.0, both P Q R xs since ps.1 qs.1)

-- ---- the text of a level's record

axis_points : (n : ℤ) → pos 1 ≤ℤ n → unsigned_abs n ≡ int_gap (pos 0) n
axis_points (pos n) some = omega arith
axis_points (negsuc n) some = absurd (omega (arith, ints, some))

grid_sizes : (s : Shape) → IsShape s → (d : ℕ) → d < 3
    → get_or (sizes_of s.dims s.n) d 1 ≡ extent (whole s) d
grid_sizes s is d l = go (cases_lt d s.dims)
  where
    points : (e : ℕ) → e < 3 → unsigned_abs (along s.n e) ≡ extent (whole s) e
    points = by_direction (λ e. unsigned_abs (along s.n e) ≡ extent (whole s) e)
        (axis_points s.n.x is.x.some) (axis_points s.n.y is.y.some) (axis_points s.n.z is.z.some)

    one : (e : ℕ) → e < 3 → s.dims ≤ e → 1 ≡ extent (whole s) e
    one = by_direction (λ e. s.dims ≤ e → 1 ≡ extent (whole s) e)
        (λ none. let some = is.some in absurd (omega (arith, none, some)))
        (λ none. sym (ap (int_gap (pos 0)) (is.no_y (omega (arith, none))).one))
        (λ none. sym (ap (int_gap (pos 0)) (is.no_z (omega (arith, none))).one))

    go : (d < s.dims) ⊎ (s.dims ≤ d) → get_or (sizes_of s.dims s.n) d 1 ≡ extent (whole s) d
    go (inl there) =
        get_or-map-range_with_len (λ e. unsigned_abs (along s.n e)) 0 s.dims d d 1 there
        (omega arith)
        ∙ points d l
    go (inr past) =
        let n = length-map-range_with_len (λ e. unsigned_abs (along s.n e)) 0 s.dims in
        get_or_past (sizes_of s.dims s.n) d 1 (omega (arith, past, n)) ∙ one d l past

module _ (job : Job) (whole_job : IsWholeJob job) (c : Parts) (cut : IsCutOf job c)
    (sections : SectionsAreRecords) where
  abbrev setup : Setup
  setup = setup_of job

  abbrev named : VarId → List ℕ
  named v = (variable setup v).full

  level_count : (v : VarInfo) (r : Record) → v.scalar ≡ false → IsRecordOf setup v r
      → length r.values ≡ point_count (whole job.shape)
  level_count v r is of =
      of.is.count
      ∙ size_count r.size (whole job.shape)
      (subst (λ size. (d : ℕ) → d < 3 → get_or size d 1 ≡ extent (whole job.shape) d)
      (sym (of.size ∙ ap (λ b. if b then [] else sizes_of job.shape.dims job.shape.n) is))
      (grid_sizes job.shape whole_job.shape))

  section_is : (v : VarInfo) (r : Record) → v.scalar ≡ false → IsRecordOf setup v r
      → section v.full r.iteration job.shape r.values ≡ record_text r
  section_is v r is of =
      let size : r.size ≡ sizes_of job.shape.dims job.shape.n =
      of.size ∙ ap (λ b. if b then [] else sizes_of job.shape.dims job.shape.n) is in
      let spells = sections r.full r.iteration job.shape r.values
      (record { named = of.is.name; small = of.is.iteration }) whole_job.shape
      (level_count v r is of) of.is.values in
      let level = level_record r.full r.iteration job.shape r.values in
      ap (λ name. section name r.iteration job.shape r.values) (sym of.full)
      ∙ spells.spelled
      ∙ flat_map-cons record_text level [] ∙ append-nil (record_text level)
      ∙ ap (λ (ns : List ℕ). text_of r.full r.iteration ns r.values) (sym size)

  line_is : (v : VarInfo) (r : Record) → v.scalar ≡ true → IsRecordOf setup v r
      → line v.full r.iteration (slice_index_or r.values 0 (pos 0)) ≡ record_text r
  line_is v r is of =
      let size : r.size ≡ [] =
      of.size ∙ ap (λ b. if b then [] else sizes_of job.shape.dims job.shape.n) is in
      ap (λ name. line name r.iteration (slice_index_or r.values 0 (pos 0))) (sym of.full)
      ∙ ap (λ (ns : List ℕ). text_of r.full r.iteration ns r.values) (sym size)

  some_part : 1 ≤ part_count c
  some_part =
      let corner : IsIn (whole c.shape) (record { x = pos 0; y = pos 0; z = pos 0 }) = record {
        x = record {
          from = omega (arith, ints);
          below = (let s = cut.whole.shape.x.some in omega (arith, ints, s));
        };
        y = record {
          from = omega (arith, ints);
          below = (let s = cut.whole.shape.y.some in omega (arith, ints, s));
        };
        z = record {
          from = omega (arith, ints);
          below = (let s = cut.whole.shape.z.some in omega (arith, ints, s));
        };
      } in
      let o = (tiles c cut.whole.cut).each _ corner in
      let l = o.1 in omega (arith, l)

  grid : 1 ≤ setup.shape.dims
  grid = whole_job.shape.some

  -- ---- names of output variables differ

  apart : Apart setup job.out_vars
  apart = pairs_from (λ v w. (variable setup v).full ≢ (variable setup w).full) job.out_vars
      (λ i j d less there.
      let rise = whole_job.outputs_rise i j d less there in
      let in_vars = whole_job.outputs j d there in
      whole_job.names_differ _ _ no_variable rise in_vars.0)

  module _ (records : List (List Record)) (are : AreOutputs setup job.out_vars records) where
    abbrev pieces : ℕ → List Piece
    pieces k = pieces_of c records k

    abbrev chunks : List (List Piece)
    chunks = map pieces (range_with_len 0 (part_count c))

    chunk_is : (k : ℕ) → k < part_count c → chunk chunks k ≡ pieces k
    chunk_is k there = get_or-map-range_with_len pieces 0 (part_count c) k k [] there (omega arith)

    outputs : (v : VarId) (rs : List Record) → Stands v rs job.out_vars records
        → IsOutputOf setup (variable setup v) rs
    outputs v rs at = stands_output setup v rs job.out_vars records are at

    -- ---- iterations

    any_piece : (v : VarId) (rs : List Record) (k n : ℕ) → Stands v rs job.out_vars records
        → list_any (is_at (variable setup v).full n) (pieces k)
        ≡ (if (variable setup v).scalar then (if eqb k 0 then has n (times rs) else false)
        else has n (times rs))
    any_piece v rs k n at =
        stands_any setup c grid k v rs n job.out_vars records are apart at
        ∙ any_group setup c grid k (variable setup v) rs n (outputs v rs at)

    abbrev at_first : Bool → Bool → Bool → Bool
    at_first scalar first b = if scalar then (if first then b else false) else b

    iterations_are : (v : VarId) (rs : List Record) → Stands v rs job.out_vars records
        → iterations_of chunks (variable setup v).full ≡ times rs
    iterations_are v rs at =
        rising_is (flat_map (iterations_in (named v)) chunks) (times rs) (outputs v rs at).rising
        (λ n. sym (any_flat (eqb n) (iterations_in (named v)) chunks
        ∙ any_chunks pieces (λ ps. has n (iterations_in (named v) ps)) (has n (times rs)) 0
        (part_count c) some_part
        (in_chunk 0 n ∙ first (variable setup v).scalar (has n (times rs)))
        (λ k l h. later (variable setup v).scalar (eqb k 0) (has n (times rs))
        (sym (in_chunk k n) ∙ h))))
      where
        in_chunk : (k n : ℕ) → has n (iterations_in (named v) (pieces k))
            ≡ at_first (variable setup v).scalar (eqb k 0) (has n (times rs))
        in_chunk k n = has_iteration (named v) n (pieces k) ∙ any_piece v rs k n at

        first : (scalar b : Bool) → at_first scalar true b ≡ b
        first true b = refl
        first false b = refl

        later : (scalar zeroth b : Bool) → at_first scalar zeroth b ≡ true → b ≡ true
        later true true b h = h
        later true false b h = absurd (true≢false (sym h))
        later false zeroth b h = h

    -- ---- no fault

    no_stranger : first_of_chunks (stranger_in setup c) 0 chunks ≡ None
    no_stranger = no_fault pieces (stranger_in setup c) 0 (part_count c)
        (λ k l. ap (by_piece Stranger k) (find_none (is_stranger setup (own_of c k)) (pieces k)
        (chunk_own setup c grid k job.out_vars records are output)))
      where
        output : (v : VarId) (rs : List Record) → Stands v rs job.out_vars records → (scalar : Bool)
            → (variable setup v).scalar ≡ scalar
            → is_output setup scalar (variable setup v).full ≡ true
        output v rs at scalar is =
            any_stands (λ w. is_output_of scalar (variable setup v).full (variable setup w))
            v rs job.out_vars records at
            (rw (name_is (variable setup v).full (variable setup v).full refl)
            (kind (variable setup v).scalar scalar is))
          where
            kind : (a b : Bool) → a ≡ b → (if a then b else not b) ≡ true
            kind true b e = sym e
            kind false b e = ap not (sym e)

    no_double : first_of_chunks double_in 0 chunks ≡ None
    no_double = no_fault pieces double_in 0 (part_count c)
        (λ k l. ap (by_piece Double k) (none_again is_twin [] (pieces k) (fresh (pieces k))
        (chunk_twins setup c grid k job.out_vars records are apart)))
      where
        fresh : (ps : List Piece) → AllByRecursion (λ p. list_any (is_twin p) [] ≡ false) ps
        fresh [] = tt
        fresh (p ∷ ps) = (refl, fresh ps)

    none_missing : missing setup c chunks ≡ None
    none_missing = first_stands setup (λ v. missing_of c chunks (variable setup v))
        job.out_vars records are one
      where
        everywhere : (v : VarId) (rs : List Record) (n : ℕ) → Stands v rs job.out_vars records
            → (variable setup v).scalar ≡ false → has n (times rs) ≡ true
            → missing_at c chunks (variable setup v).full n ≡ None
        everywhere v rs n at is there =
            first_range (missing_in chunks (variable setup v).full n) 0 (part_count c)
            (λ k below. let l : k < part_count c = omega (arith, below) in
            let found : list_any (is_at (variable setup v).full n) (chunk chunks k) ≡ true =
            ap (list_any (is_at (variable setup v).full n)) (chunk_is k l) ∙ any_piece v rs k n at
            ∙ ap (λ b. at_first b (eqb k 0) (has n (times rs))) is ∙ there in
            rw found refl)

        one : (v : VarId) (rs : List Record) → Stands v rs job.out_vars records
            → missing_of c chunks (variable setup v) ≡ None
        one v rs at = go (cases_Bool (variable setup v).scalar)
          where
            go : ((variable setup v).scalar ≡ true) ⊎ ((variable setup v).scalar ≡ false)
                → missing_of c chunks (variable setup v) ≡ None
            go (inl is) = rw is refl
            go (inr is) =
                rw is
                (ap (first_of_each (missing_at c chunks (variable setup v).full))
                (iterations_are v rs at)
                ∙ first_has (missing_at c chunks (variable setup v).full) (times rs)
                (λ n h. everywhere v rs n at is h))

    no_chunk_fault : chunk_fault setup c chunks ≡ None
    no_chunk_fault = rw (no_stranger, no_double) none_missing

    -- ---- the text of a variable

    level_text : (v : VarId) (rs : List Record) → Stands v rs job.out_vars records
        → (variable setup v).scalar ≡ false
        → AllByRecursion (λ (r : Record). text_at setup c chunks (variable setup v) r.iteration
        ≡ record_text r) rs
    level_text v rs at is =
        both (IsRecordOf setup (variable setup v))
        (λ (r : Record). (k : ℕ) → k < part_count c
        → values_in chunks (named v) r.iteration k ≡ own_values c k r.values)
        (λ (r : Record). text_at setup c chunks (variable setup v) r.iteration ≡ record_text r) rs
        text (outputs v rs at).records
        (for_each (λ k. k < part_count c)
        (λ k (r : Record). values_in chunks (named v) r.iteration k ≡ own_values c k r.values)
        rs values)
      where
        values : (k : ℕ) → k < part_count c
            → AllByRecursion (λ (r : Record). values_in chunks (named v) r.iteration k
            ≡ own_values c k r.values) rs
        values k l = seen rs (grid_found setup c grid k (variable setup v) rs is (outputs v rs at))
          where
            seen : (ss : List Record)
                → AllByRecursion (λ (r : Record).
                find (is_at (named v) r.iteration) (flat_map (pieces_in c k) rs)
                ≡ Some (section_in c k r)) ss
                → AllByRecursion (λ (r : Record). values_in chunks (named v) r.iteration k
                ≡ own_values c k r.values) ss
            seen [] are_found = tt
            seen (r ∷ ss) are_found = (
              ap (λ ps. found_values (find (is_at (named v) r.iteration) ps)) (chunk_is k l)
                  ∙ ap found_values (stands_find setup c grid k v rs r.iteration job.out_vars
                  records are apart at
                  ∙ are_found.0),
              seen ss are_found.1,
            )

        text : (r : Record) → IsRecordOf setup (variable setup v) r
            → ((k : ℕ) → k < part_count c
            → values_in chunks (named v) r.iteration k ≡ own_values c k r.values)
            → text_at setup c chunks (variable setup v) r.iteration ≡ record_text r
        text r of same =
            let level : joined c (values_in chunks (named v) r.iteration) ≡ r.values =
            joined_same c cut.whole (values_in chunks (named v) r.iteration)
            (λ k. own_values c k r.values) same
            ∙ joined_again c cut.whole r.values (level_count (variable setup v) r is of
            ∙ ap (λ (s : Shape). point_count (whole s)) (sym cut.shape)) in
            rw is (ap (section (named v) r.iteration job.shape) level
            ∙ section_is (variable setup v) r is of)

    scalar_text : (v : VarId) (rs : List Record) → Stands v rs job.out_vars records
        → (variable setup v).scalar ≡ true
        → AllByRecursion (λ (r : Record). text_at setup c chunks (variable setup v) r.iteration
        ≡ record_text r) rs
    scalar_text v rs at is =
        both (IsRecordOf setup (variable setup v))
        (λ (r : Record). find (is_at (named v) r.iteration) (flat_map (pieces_in c 0) rs)
        ≡ Some (Line r))
        (λ (r : Record). text_at setup c chunks (variable setup v) r.iteration ≡ record_text r) rs
        text (outputs v rs at).records
        (line_found setup c grid 0 (variable setup v) rs is refl (outputs v rs at))
      where
        text : (r : Record) → IsRecordOf setup (variable setup v) r
            → find (is_at (named v) r.iteration) (flat_map (pieces_in c 0) rs) ≡ Some (Line r)
            → text_at setup c chunks (variable setup v) r.iteration ≡ record_text r
        text r of same =
            let values : values_in chunks (named v) r.iteration 0 ≡ r.values =
            ap (λ ps. found_values (find (is_at (named v) r.iteration) ps)) (chunk_is 0 some_part)
            ∙ ap found_values (stands_find setup c grid 0 v rs r.iteration job.out_vars records are
            apart at ∙ same) in
            rw is (ap (λ (vs : List ℤ). line (named v) r.iteration (slice_index_or vs 0 (pos 0)))
            values
            ∙ line_is (variable setup v) r is of)

    text_is : (v : VarId) (rs : List Record) → Stands v rs job.out_vars records
        → whole_text setup c chunks (variable setup v) ≡ flat_map record_text rs
    text_is v rs at =
        ap (flat_map (text_at setup c chunks (variable setup v))) (iterations_are v rs at)
        ∙ flat_map-map (text_at setup c chunks (variable setup v)) (λ (r : Record). r.iteration) rs
        ∙ flat_same (λ (r : Record). text_at setup c chunks (variable setup v) r.iteration)
        record_text rs
        (go (cases_Bool (variable setup v).scalar))
      where
        go : ((variable setup v).scalar ≡ true) ⊎ ((variable setup v).scalar ≡ false)
            → AllByRecursion (λ (r : Record). text_at setup c chunks (variable setup v) r.iteration
            ≡ record_text r) rs
        go (inl is) = scalar_text v rs at is
        go (inr is) = level_text v rs at is

    join : combined setup c chunks ≡ Ok (map (flat_map record_text) records)
    join =
        ap (unless _) no_chunk_fault
        ∙ ap (λ (ts : List (List ℕ)). Ok ts)
        (map_stands setup (λ v. whole_text setup c chunks (variable setup v)) (flat_map record_text)
        job.out_vars
        records are text_is)

pub pieces_join : (job : Job) → IsWholeJob job → SectionsAreRecords → PiecesJoin job
pieces_join job whole_job sections c records cut are = join job whole_job c cut sections records are

pub owners_count : (job : Job) → OwnersCount job
owners_count job c values k p cut there own = joined_is c cut.whole values k p there own
