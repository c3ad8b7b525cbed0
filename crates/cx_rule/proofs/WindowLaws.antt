-- A window filled value by value, and read by read.
use Rattle.std.proofs.Common.{◌≡◌, ℕ, zero, suc, ◌+◌, ◌-◌, ◌<◌, ◌≤◌, arith, refl, sym, ap, ◌∙◌, ℤ, pos, List, [], ◌∷◌, ◌++◌, length, length-append, take, map, replicate, get_or, sum_by, append-nil}
use Rattle.std.specs.Prelude.{slice_index_or, slice_set}
use Rattle.std.specs.List.{range_with_len, flat_map}
use Rattle.std.proofs.lemmas.List.{take_more, map-append}
use Rattle.std.proofs.lemmas.List.FromFn.{length-map-range_with_len, map-range_with_len_more}
use Rattle.std.proofs.lemmas.List.Folds.{fold-map}
use Rattle.std.proofs.lemmas.List.Sums.{sum_by_more_le, sum_by-cons}
use Rattle.std.proofs.lemmas.Grind.{flat_map-append}
use Rattle.cx_grid.specs.declared.boxes.Point.{Point}
use Rattle.cx_grid.specs.Boxes.{IsIn, point_count, point_in, index_in, shifted}
use Rattle.cx_grid.specs.Windows.{reach_box}
use Rattle.cx_grid.proofs.Places.{index_at_point}
use Rattle.cx_plan.specs.declared.item.Touch.{Touch}
use Rattle.cx_plan.specs.declared.item.Item.{Item}
use Rattle.cx_plan.specs.Setups.{Setup}
use Rattle.cx_rule.specs.Seen.{Shown, volume_of, volumes, place_among, place_of, HasRoom}
use Rattle.cx_rule.specs.Sweeps.{Values, values_around, reach_of, seen_at}
use Rattle.cx_rule.specs.Staging.{with_window}

-- ---- a value behind others

put_next : (before done : List ℤ) (rest : ℕ) (a : ℤ) (n : ℕ) → n ≡ length before + length done
    → slice_set (before ++ (done ++ replicate (suc rest) (pos 0))) n a
    ≡ before ++ ((done ++ a ∷ []) ++ replicate rest (pos 0))
put_next [] [] rest a zero e = refl
put_next [] [] rest a (suc n) e = absurd (omega (arith, e))
put_next [] (x ∷ done) rest a zero e = absurd (omega (arith, e))
put_next [] (x ∷ done) rest a (suc n) e =
    ap (λ ns. x ∷ ns) (put_next [] done rest a n (omega (arith, e)))
put_next (b ∷ before) done rest a zero e = absurd (omega (arith, e))
put_next (b ∷ before) done rest a (suc n) e =
    ap (λ ns. b ∷ ns) (put_next before done rest a n (omega (arith, e)))

take_front : (rs ys : List ℕ) (k : ℕ) → k ≡ length rs → take k (rs ++ ys) ≡ rs
take_front [] [] zero e = refl
take_front [] (y ∷ ys) zero e = refl
take_front [] ys (suc k) e = absurd (omega (arith, e))
take_front (r ∷ rs) ys zero e = absurd (omega (arith, e))
take_front (r ∷ rs) ys (suc k) e = ap (λ ns. r ∷ ns) (take_front rs ys k (omega (arith, e)))

pub last_at : (rs : List ℕ) (r k d : ℕ) → k ≡ length rs → get_or (rs ++ r ∷ []) k d ≡ r
last_at [] r zero d e = refl
last_at [] r (suc k) d e = absurd (omega (arith, e))
last_at (x ∷ rs) r zero d e = absurd (omega (arith, e))
last_at (x ∷ rs) r (suc k) d e = last_at rs r k d (omega (arith, e))

pub place_last : (dims : ℕ) (rs : List ℕ) (r k : ℕ) (o : Point) → k ≡ length rs
    → place_among dims (rs ++ r ∷ []) k o ≡ volumes dims rs + index_in (reach_box dims r) o
place_last dims rs r k o e = rw (take_front rs (r ∷ []) k e, last_at rs r k 0 e) refl

pub is_offset : (dims : ℕ) (rs : List ℕ) (r k : ℕ) (o : Point) → k ≡ length rs
    → IsIn (reach_box dims r) o
    → IsIn (reach_box dims (slice_index_or (rs ++ r ∷ []) k 0)) o
is_offset dims rs r k o e h = rw (last_at rs r k 0 e) h

pub one_more : (rs : List ℕ) (r k : ℕ) → k ≡ length rs → k < length (rs ++ r ∷ [])
one_more rs r k e = omega (arith, e, length-append rs (r ∷ []))

-- the values of a read so far, with 0 for those that follow
abbrev pub shown_to : (ℕ → ℤ) → ℕ → ℕ → List ℤ
shown_to f n i = map f (range_with_len 0 i) ++ replicate (n - i) (pos 0)

pub shown_next : (old w : Shown) (r k i n : ℕ) (f : ℕ → ℤ) (o : Point) (a : ℤ)
    → k ≡ length old.seen.reaches
    → length old.seen.values ≡ volumes old.seen.dims old.seen.reaches
    → n ≡ volume_of old.seen.dims r → i < n → o ≡ point_in (reach_box old.seen.dims r) i → a ≡ f i
    → w ≡ with_window old r (shown_to f n i)
    → (record w {
      seen = record w.seen { values = slice_set w.seen.values (place_of w.seen k o) a };
    }) ≡ with_window old r (shown_to f n (i + 1))
shown_next old w r k i n f o a reads count size below place number e =
    let dims = old.seen.dims in
    let rs = old.seen.reaches in
    let b = reach_box dims r in
    let small : i < point_count b = omega (arith, below, size) in
    let q : place_among dims (rs ++ r ∷ []) k o ≡ volumes dims rs + index_in b o =
    place_last dims rs r k o reads in
    let z : index_in b o ≡ i = ap (index_in b) place ∙ index_at_point b i small in
    let at : place_among dims (rs ++ r ∷ []) k o
    ≡ length old.seen.values + length (map f (range_with_len 0 i)) =
    omega (arith, q, z, count, length-map-range_with_len f 0 i) in
    let rest : n - i ≡ suc (n - (i + 1)) = omega (arith, below) in
    let put = put_next old.seen.values (map f (range_with_len 0 i)) (n - (i + 1)) a
    (place_among dims (rs ++ r ∷ []) k o) at in
    let more : map f (range_with_len 0 (i + 1)) ≡ map f (range_with_len 0 i) ++ a ∷ [] =
    map-range_with_len_more f 0 i i (omega arith)
    ∙ ap (λ z. map f (range_with_len 0 i) ++ z ∷ []) (sym number) in
    rw (e, rest, more)
    (ap (λ ns. record old { seen = record old.seen { reaches = rs ++ r ∷ []; values = ns } })
    put)

pub shown_all : (f : ℕ → ℤ) (n i : ℕ) → i ≡ n → shown_to f n i ≡ map f (range_with_len 0 n)
shown_all f n i e =
    let z : n - i ≡ 0 = omega (arith, e) in
    rw z (rw e (append-nil (map f (range_with_len 0 n))))

-- ---- reads

volumes_sum : (dims : ℕ) (reads : List Touch)
    → volumes dims (map reach_of reads) ≡ sum_by (λ (r : Touch). volume_of dims r.reach) reads
volumes_sum dims reads = fold-map (λ a n. a + volume_of dims n) reach_of 0 reads

-- a window with room for all reads has room for the next one
pub room_left : (dims : ℕ) (reads : List Touch) (k : ℕ) (d : Touch) (w : Shown) → k < length reads
    → volumes dims (map reach_of reads) ≤ w.room → w.seen.dims ≡ dims
    → w.seen.reaches ≡ map reach_of (take k reads)
    → HasRoom w (get_or reads k d).reach
room_left dims reads k d w below room same reaches =
    let f = λ (r : Touch). volume_of dims r.reach in
    let more : sum_by f (take k reads) + f (get_or reads k d) ≤ sum_by f reads =
    sum_by_more_le f reads k d below in
    let so_far : volumes dims (map reach_of (take k reads)) ≡ sum_by f (take k reads) =
    volumes_sum dims (take k reads) in
    let all : volumes dims (map reach_of reads) ≡ sum_by f reads = volumes_sum dims reads in
    rw (same, reaches, so_far) (omega (arith, more, all, room))

pub around_count : (setup : Setup) (values : Values) (p : Point) (r : Touch)
    → length (values_around setup values p r) ≡ volume_of setup.shape.dims r.reach
around_count setup values p r =
    let b = reach_box setup.shape.dims r.reach in
    length-map-range_with_len (λ i. values r.var r.level (shifted p (point_in b i))) 0
    (point_count b)

-- as many values are seen around a point as the reads have
pub seen_count : (setup : Setup) (values : Values) (p : Point) (reads : List Touch)
    → length (flat_map (values_around setup values p) reads)
    ≡ volumes setup.shape.dims (map reach_of reads)
seen_count setup values p [] = refl
seen_count setup values p (r ∷ rs) =
    length-append (values_around setup values p r) (flat_map (values_around setup values p) rs)
    ∙ ap (λ n. n + length (flat_map (values_around setup values p) rs))
    (around_count setup values p r)
    ∙ ap (λ n. volume_of setup.shape.dims r.reach + n) (seen_count setup values p rs)
    ∙ sym (sum_by-cons (volume_of setup.shape.dims) r.reach (map reach_of rs))

-- what is seen of the first so many reads
pub record SeesTo (setup : Setup) (x : Item) (values : Values) (p : Point) (room k : ℕ)
    (w : Shown) : Type 0 where
  pub room_is : w.room ≡ room
  pub seen : w.seen ≡ seen_at setup (record x { reads = take k x.reads }) values p

pub sees_more : (setup : Setup) (x : Item) (values : Values) (p : Point) (room k : ℕ)
    (w new : Shown) (r : Touch) → k < length x.reads
    → r ≡ get_or x.reads k r → SeesTo setup x values p room k w
    → new ≡ with_window w r.reach (values_around setup values p r)
    → SeesTo setup x values p room (k + 1) new
sees_more setup x values p room k w new r below is s e =
    let t : take (k + 1) x.reads ≡ take k x.reads ++ r ∷ [] =
    take_more x.reads k r below ∙ ap (λ z. take k x.reads ++ z ∷ []) (sym is) in
    let a : map reach_of (take (k + 1) x.reads) ≡ map reach_of (take k x.reads) ++ r.reach ∷ [] =
    ap (map reach_of) t ∙ map-append reach_of (take k x.reads) (r ∷ []) in
    let v : flat_map (values_around setup values p) (take (k + 1) x.reads)
    ≡ flat_map (values_around setup values p) (take k x.reads)
    ++ values_around setup values p r =
    ap (flat_map (values_around setup values p)) t
    ∙ flat_map-append (values_around setup values p) (take k x.reads) (r ∷ [])
    ∙ ap (λ ns. flat_map (values_around setup values p) (take k x.reads) ++ ns)
    (append-nil (values_around setup values p r)) in
    record {
      room_is = ap (λ (u : Shown). u.room) e ∙ s.room_is;
      seen = ap (λ (u : Shown). u.seen) e ∙ rw (a, v, s.seen) refl;
    }

pub sees_none : (setup : Setup) (x : Item) (values : Values) (p : Point) (w : Shown)
    → w.seen ≡ record { dims = setup.shape.dims; reaches = []; values = [] }
    → SeesTo setup x values p w.room 0 w
sees_none setup x values p w e = record { room_is = refl; seen = e }

pub reads_count : (reads : List Touch) (k : ℕ) → k ≤ length reads
    → length (map reach_of (take k reads)) ≡ k
reads_count [] zero h = refl
reads_count [] (suc k) h = absurd (omega (arith, h))
reads_count (r ∷ rs) zero h = refl
reads_count (r ∷ rs) (suc k) h = ap suc (reads_count rs k (omega (arith, h)))
