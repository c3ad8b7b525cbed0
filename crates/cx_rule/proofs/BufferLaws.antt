-- The buffers of a patch: their sizes, and how many are needed.
use Rattle.std.proofs.Common.{◌≡◌, ℕ, zero, suc, ◌+◌, ◌-◌, ◌<◌, ◌≤◌, max, arith, sym, ap, ◌∙◌, ℤ, pos, List, [], ◌∷◌, ◌++◌, length, length-append, map, take, drop, replicate, length-set, get_or}
use Rattle.std.specs.Prelude.{slice_index_or, slice_set}
use Rattle.std.specs.List.{range_with_len}
use Rattle.std.proofs.Math.Seq.{map-set_same}
use Rattle.std.proofs.lemmas.List.{get_or-map, get_or-replicate, length-replicate, length-map, map-append, length-drop, length-take-le}
use Rattle.std.proofs.lemmas.List.FromFn.{get_or-range_with_len, length-range_with_len}
use Rattle.std.proofs.lemmas.List.Sums.{sum_by-cons}
use Rattle.cx_grid.specs.declared.boxes.Box3.{Box3}
use Rattle.cx_grid.specs.Boxes.{point_count}
use Rattle.cx_rule.specs.Staging.{put_from, AreBuffers}
use Rattle.std.specs.List.{All}
use Rattle.std.proofs.lemmas.List.Elements.{All-from_get_or}
use Rattle.cx_plan.specs.declared.item.Touch.{Touch}
use Rattle.cx_rule.specs.Seen.{volumes, volume_of}
use Rattle.cx_rule.specs.Sweeps.{reach_of}
use Rattle.cx_rule.specs.Patches.{PatchValue, IsPatch, HasBuffers, with_buffers, capped}
use Rattle.cx_rule.proofs.PartLaws.{zero_sizes}
use Rattle.cx_plan.specs.Lists.{greatest}

pub buffered : (p : PatchValue) (staged cells : List (List ℤ)) (room : ℕ) → IsPatch p
    → HasBuffers p staged cells → IsPatch (with_buffers p staged room)
buffered p staged cells room s h =
    record { part = s.part; box = s.box; small = s.small; sized = s.sized; buffers = h.buffers }

pub new_buffers : (p : PatchValue) (n : ℕ) (cells : List (List ℤ))
    → map length cells ≡ range_with_len 0 (n + 1)
    → HasBuffers p (replicate n (replicate (point_count p.local) (pos 0))) cells
new_buffers p n cells e =
    let c = point_count p.local in
    let m : length (replicate n (replicate c (pos 0))) ≡ n =
    length-replicate n (replicate c (pos 0)) in
    record {
      buffers = zero_sizes n (replicate c (pos 0))
          ∙ ap (λ k. replicate n k) (length-replicate c (pos 0)) ∙ ap (λ k. replicate k c) (sym m);
      counts = e ∙ ap (λ k. range_with_len 0 (k + 1)) (sym m);
    }

module _ (p : PatchValue) (staged cells : List (List ℤ)) (h : HasBuffers p staged cells) where
  pub buffer_size : (k : ℕ) → k < length staged
      → length (slice_index_or staged k []) ≡ point_count p.local
  buffer_size k l =
      sym (get_or-map length staged k [] 0 l) ∙ ap (λ ns. slice_index_or ns k 0) h.buffers
      ∙ get_or-replicate (length staged) k (point_count p.local) 0 l

  pub cell_count : length cells ≡ length staged + 1
  cell_count = sym (length-map cells length) ∙ ap length h.counts
      ∙ length-range_with_len 0 (length staged + 1)

  pub cell_size : (k : ℕ) → k ≤ length staged → length (slice_index_or cells k []) ≡ k
  cell_size k l =
      let below : k < length cells = omega (arith, cell_count, l) in
      let less : k < length staged + 1 = omega (arith, l) in
      let z : 0 + k ≡ k = omega arith in
      sym (get_or-map length cells k [] 0 below) ∙ ap (λ ns. slice_index_or ns k 0) h.counts
      ∙ get_or-range_with_len 0 (length staged + 1) k 0 less ∙ z

  pub buffers_kept : (new : List (List ℤ)) → map length new ≡ map length staged
      → HasBuffers p new cells
  buffers_kept new e =
      let n : length new ≡ length staged =
      sym (length-map new length) ∙ ap length e ∙ length-map staged length in
      record {
        buffers = e ∙ h.buffers ∙ ap (λ k. replicate k (point_count p.local)) (sym n);
        counts = h.counts ∙ ap (λ k. range_with_len 0 (k + 1)) (sym n);
      }

pub buffer_sizes_kept : (staged : List (List ℤ)) (k at : ℕ) (n : ℤ)
    → map length (slice_set staged k (slice_set (slice_index_or staged k []) at n))
    ≡ map length staged
buffer_sizes_kept staged k at n =
    map-set_same length staged k (slice_set (slice_index_or staged k []) at n) []
    (length-set (slice_index_or staged k []) at n)

pub put_from_size : (buffer values : List ℤ) (at : ℕ) → at + length values ≤ length buffer
    → length (put_from at buffer values) ≡ length buffer
put_from_size buffer values at h =
    let a : length (take at buffer) ≡ at = length-take-le at buffer (omega (arith, h)) in
    let d : length (drop (at + length values) buffer) ≡ length buffer - (at + length values) =
    length-drop (at + length values) buffer in
    let i : length (values ++ drop (at + length values) buffer)
    ≡ length values + length (drop (at + length values) buffer) =
    length-append values (drop (at + length values) buffer) in
    let j : length (put_from at buffer values)
    ≡ length (take at buffer) + length (values ++ drop (at + length values) buffer) =
    length-append (take at buffer) (values ++ drop (at + length values) buffer) in
    omega (arith, a, d, i, j, h)

pub row_sizes_kept : (staged : List (List ℤ)) (k at : ℕ) (values : List ℤ)
    → at + length values ≤ length (slice_index_or staged k [])
    → map length (slice_set staged k (put_from at (slice_index_or staged k []) values))
    ≡ map length staged
row_sizes_kept staged k at values h =
    map-set_same length staged k (put_from at (slice_index_or staged k []) values) []
    (put_from_size (slice_index_or staged k []) values at h)

pub buffer_length : (b : Box3) (buffers : List (List ℤ)) → AreBuffers b buffers → (k : ℕ)
    → k < length buffers
    → length (slice_index_or buffers k []) ≡ point_count b
buffer_length b buffers e k l =
    sym (get_or-map length buffers k [] 0 l) ∙ ap (λ ns. slice_index_or ns k 0) e
    ∙ get_or-replicate (length buffers) k (point_count b) 0 l

pub longer_each : (p : PatchValue) (staged cells : List (List ℤ)) (at : ℕ)
    → HasBuffers p staged cells → at < point_count p.local
    → All (λ numbers. at < length numbers) staged
longer_each p staged cells at h l =
    All-from_get_or (λ numbers. at < length numbers) staged []
    (λ k below. let e = buffer_size p staged cells h k below in omega (arith, e, l))

pub cells_kept : (p : PatchValue) (staged cells : List (List ℤ)) (k : ℕ) (one : List ℤ)
    → HasBuffers p staged cells
    → length one ≡ length (slice_index_or cells k []) → HasBuffers p staged (slice_set cells k one)
cells_kept p staged cells k one h e =
    record { buffers = h.buffers; counts = map-set_same length cells k one [] e ∙ h.counts }

-- ---- the largest item

greatest_at : {X : Type 0} (f : X → ℕ) (xs : List X) (i : ℕ) (d : X) → i < length xs
    → greatest (map f (take (suc i) xs)) ≡ max (greatest (map f (take i xs))) (f (get_or xs i d))
greatest_at f [] i d h = absurd (omega (arith, h))
greatest_at f (x ∷ xs) zero d h = omega arith
greatest_at f (x ∷ xs) (suc i) d h =
    let below : i < length xs = omega (arith, h) in
    let e : greatest (map f (take (suc i) xs))
    ≡ max (greatest (map f (take i xs))) (f (get_or xs i d)) = greatest_at f xs i d below in
    ap (max (f x)) e ∙ omega arith

pub capped_next : {X : Type 0} (f : X → ℕ) (xs : List X) (i : ℕ) (d : X) → i < length xs
    → capped (greatest (map f (take (i + 1) xs)))
    ≡ max (capped (greatest (map f (take i xs)))) (capped (f (get_or xs i d)))
capped_next f xs i d h =
    let e : i + 1 ≡ suc i = omega arith in
    rw e (omega (arith, greatest_at f xs i d h))

volumes_at : (dims : ℕ) (reads : List Touch) (i : ℕ) (d : Touch) → i < length reads
    → volumes dims (map reach_of (take (suc i) reads))
    ≡ volumes dims (map reach_of (take i reads)) + volume_of dims (get_or reads i d).reach
volumes_at dims [] i d h = absurd (omega (arith, h))
volumes_at dims (r ∷ rs) zero d h =
    let a : volumes dims (r.reach ∷ []) ≡ volume_of dims r.reach + volumes dims [] =
    sum_by-cons (volume_of dims) r.reach [] in
    omega (arith, a)
volumes_at dims (r ∷ rs) (suc i) d h =
    let below : i < length rs = omega (arith, h) in
    let a = sum_by-cons (volume_of dims) r.reach (map reach_of (take (suc i) rs)) in
    let b = sum_by-cons (volume_of dims) r.reach (map reach_of (take i rs)) in
    let e : volumes dims (map reach_of (take (suc i) rs))
    ≡ volumes dims (map reach_of (take i rs)) + volume_of dims (get_or rs i d).reach
    = volumes_at dims rs i d below in
    a ∙ ap (λ n. volume_of dims r.reach + n) e ∙ omega (arith, b)

pub capped_values : (dims : ℕ) (reads : List Touch) (i : ℕ) (d : Touch) → i < length reads
    → capped (volumes dims (map reach_of (take (i + 1) reads)))
    ≡ capped (capped (volumes dims (map reach_of (take i reads)))
    + volume_of dims (get_or reads i d).reach)
capped_values dims reads i d h =
    let e : i + 1 ≡ suc i = omega arith in
    rw e (omega (arith, volumes_at dims reads i d h))

-- ---- numbers for each count of writes

range_next : (a n k : ℕ) → k ≡ a + n → range_with_len a (suc n) ≡ range_with_len a n ++ k ∷ []
range_next a zero k e = ap (λ m. m ∷ []) (omega (arith, e))
range_next a (suc n) k e = ap (λ ns. a ∷ ns) (range_next (a + 1) n k (omega (arith, e)))

pub counts_next : (all : List (List ℤ)) (k : ℕ) (one : List ℤ)
    → map length all ≡ range_with_len 0 (k + 1) → length one ≡ k + 1
    → map length (all ++ one ∷ []) ≡ range_with_len 0 (k + 1 + 1)
counts_next all k one e n =
    let z : k + 1 + 1 ≡ suc (k + 1) = omega arith in
    map-append length all (one ∷ []) ∙ ap (λ ns. ns ++ length one ∷ []) e
    ∙ rw z (sym (range_next 0 (k + 1) (length one) (omega (arith, n))))
