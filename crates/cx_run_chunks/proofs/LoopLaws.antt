-- One step of a loop more.
use Rattle.std.proofs.Common.{◌≡◌, inl, inr, ℕ, suc, ◌+◌, ◌-◌, ◌^◌, ◌<◌, min, List, [], ◌∷◌, ◌++◌, length, map, take, drop, get_or, Option, Some, None, Result, Ok, Err, refl, sym, ap, subst, ◌∙◌, arith}
use Rattle.std.proofs.Math.Path.{fun_ext}
use Rattle.std.specs.Prelude.{◌⊎◌, codes}
use Rattle.std.specs.List.{flat_map, range_with_len}
use Rattle.std.proofs.lemmas.Grind.{flat_map-append}
use Rattle.std.proofs.lemmas.List.{append-nil, drop_more, length-append, take_more}
use Rattle.std.proofs.lemmas.List.Concat.{flat_map-cons}
use Rattle.std.proofs.lemmas.List.FromFn.{map-range_with_len_more}
use Rattle.cx_plan.specs.Lists.{or_else, first_of_each}
use Rattle.cx_disk.specs.declared.disk.DiskFault.{DiskFault}
use Rattle.cx_disk.specs.declared.disk.DiskFault.TheVariants as disk
use Rattle.cx_disk.specs.Moments.{IsQuiet}
use Rattle.cx_ascii_read.specs.declared.record.Record.{Record}
use Rattle.cx_chunks.specs.Cutting.{chunk_texts, AddsVariable}
use Rattle.cx_chunks.specs.declared.fault.ChunkFault.{ChunkFault}
use Rattle.cx_chunks.specs.declared.fault.ChunkFault.TheVariants.{Memory, NotOutput}
use Rattle.cx_run_chunks.specs.declared.fault.ChunksFault.{ChunksFault}
use Rattle.cx_run_chunks.specs.declared.fault.ChunksFault.TheVariants as chunks
use Rattle.cx_run_chunks.specs.Faults.{Finds, IsFaultOf, IsRefusal, chunks_fault_of}
use Rattle.cx_plan.specs.declared.variable.VarId.{VarId}
use Rattle.cx_plan.specs.declared.variable.VarInfo.{VarInfo}
use Rattle.cx_plan.specs.Lookups.{variable}
use Rattle.cx_plan.specs.Setups.{Setup}
use Rattle.cx_disk.specs.Disk.{Files, View}
use Rattle.cx_disk.specs.Files.{chunk_file, named_output_file}
use Rattle.cx_outputs.specs.Names.{output_count}
use Rattle.cx_cut.specs.Cuts.{Parts, part_count}
use Rattle.cx_run_chunks.specs.Commands.{chunk_files, fault_unless, first_by_place, not_output, output_files, output_in, too_long}
use Rattle.cx_run_chunks.specs.Next.{total_of}

-- calls that change no byte leave the files as they read
pub seen_same : {old new : View} → IsQuiet old new → new.seen ≡ old.seen
seen_same quiet = fun_ext quiet.same

-- one item more that has no fault
pub place_more : {X F : Type 0} (test : ℕ → X → Option F) (xs : List X) (k : ℕ) (d : X)
    (w : Option F) → k < length xs → test k (get_or xs k d) ≡ None
    → first_by_place test k (drop k xs) ≡ w → first_by_place test (k + 1) (drop (k + 1) xs) ≡ w
place_more test xs k d w lt none left =
    ap (λ o. or_else o (first_by_place test (k + 1) (drop (k + 1) xs))) (sym none)
    ∙ ap (first_by_place test k) (sym (drop_more xs k d lt)) ∙ left

-- the first item with a fault
pub place_told : {X F : Type 0} (test : ℕ → X → Option F) (xs : List X) (k : ℕ) (d : X)
    (w : Option F) (e : F) → k < length xs → first_by_place test k (drop k xs) ≡ w
    → test k (get_or xs k d) ≡ Some e → w ≡ Some e
place_told test xs k d w e lt left is =
    sym left ∙ ap (first_by_place test k) (drop_more xs k d lt)
    ∙ ap (λ o. or_else o (first_by_place test (k + 1) (drop (k + 1) xs))) is

-- a fault that is that of a whole
pub fault_of : (fault w : Option ChunkFault) (e : ChunksFault) → IsFaultOf fault e
    → ((f : ChunkFault) → fault ≡ Some f → w ≡ Some f) → IsFaultOf w e
fault_of fault w chunks.Disk is whole = tt
fault_of fault w (chunks.Chunks f) (inl memory) whole = inl memory
fault_of fault w (chunks.Chunks f) (inr is) whole = inr (whole f is)

-- the first of two faults, and the second
pub first_fault : (fault other : Option ChunkFault) (e : ChunksFault) → IsFaultOf fault e
    → IsFaultOf (or_else fault other) e
first_fault fault other e is =
    fault_of fault (or_else fault other) e is (λ f some. ap (λ o. or_else o other) some)

pub second_fault : (fault other : Option ChunkFault) (e : ChunksFault) → fault ≡ None
    → IsFaultOf other e → IsFaultOf (or_else fault other) e
second_fault fault other e none is =
    subst (λ o. IsFaultOf (or_else o other) e) (sym none) is

-- a failure of the disk, or want of memory
pub disk_fault : (fault : Option ChunkFault) (d : DiskFault) → IsFaultOf fault (chunks_fault_of d)
disk_fault fault disk.Failed = tt
disk_fault fault disk.Memory = inl refl

-- one of a list of numbers more
pub grown_map : {X : Type 0} (f : ℕ → X) (old new : List X) (k : ℕ)
    → old ≡ map f (range_with_len 0 k)
    → new ≡ old ++ f k ∷ [] → new ≡ map f (range_with_len 0 (k + 1))
grown_map f old new k before now =
    now ∙ ap (λ l. l ++ f k ∷ []) before ∙ sym (map-range_with_len_more f 0 k k (omega arith))

range_left : (a n : ℕ) → a < n
    → range_with_len a (n - a) ≡ a ∷ range_with_len (a + 1) (n - (a + 1))
range_left a n less =
    let e : n - a ≡ suc (n - (a + 1)) = omega (arith, less) in
    ap (range_with_len a) e

-- one part more that has no fault, and the first one that has
pub part_more : {F : Type 0} (f : ℕ → Option F) (k count : ℕ) (w : Option F) → k < count
    → f k ≡ None → first_of_each f (range_with_len k (count - k)) ≡ w
    → first_of_each f (range_with_len (k + 1) (count - (k + 1))) ≡ w
part_more f k count w less none all =
    ap (λ o. or_else o (first_of_each f (range_with_len (k + 1) (count - (k + 1))))) (sym none)
    ∙ ap (first_of_each f) (sym (range_left k count less)) ∙ all

pub part_told : {F : Type 0} (f : ℕ → Option F) (k count : ℕ) (w : Option F) (e : F) → k < count
    → first_of_each f (range_with_len k (count - k)) ≡ w → f k ≡ Some e → w ≡ Some e
part_told f k count w e less all is =
    sym all ∙ ap (first_of_each f) (range_left k count less)
    ∙ ap (λ o. or_else o (first_of_each f (range_with_len (k + 1) (count - (k + 1))))) is

-- a sum as 64 bits hold it, of one item more
pub sum_more : {X A : Type 0} (f : X → List A) (xs : List X) (k : ℕ) (x d : X) (n count now : ℕ)
    → k < length xs → x ≡ get_or xs k d
    → count ≡ min (length (flat_map f (take k xs))) (2 ^ 64 - 1) → n ≡ length (f x)
    → now ≡ min (count + n) (2 ^ 64 - 1)
    → now ≡ min (length (flat_map f (take (k + 1) xs))) (2 ^ 64 - 1)
sum_more f xs k x d n count now lt at before this is =
    let whole : take (k + 1) xs ≡ take k xs ++ x ∷ [] =
    take_more xs k d lt ∙ ap (λ u. take k xs ++ u ∷ []) (sym at) in
    let grown : length (flat_map f (take (k + 1) xs))
    ≡ length (flat_map f (take k xs)) + length (f x) =
    ap (λ l. length (flat_map f l)) whole ∙ ap length (flat_map-append f (take k xs) (x ∷ []))
    ∙ length-append (flat_map f (take k xs)) (flat_map f (x ∷ []))
    ∙ ap (λ l. length (flat_map f (take k xs)) + length l)
    (flat_map-cons f x [] ∙ append-nil (f x)) in
    most (length (flat_map f (take k xs))) n (length (flat_map f (take (k + 1) xs))) (2 ^ 64 - 1)
    count now before (grown ∙ ap (λ m. length (flat_map f (take k xs)) + m) (sym this)) is
  where
    most : (sum n more top total now : ℕ) → total ≡ min sum top → more ≡ sum + n
        → now ≡ min (total + n) top → now ≡ min more top
    most sum n more top total now a b c = omega arith

-- the records of one variable more
pub total_more : (f : ℕ → List Record) (k n total now : ℕ)
    → total ≡ total_of (map f (range_with_len 0 k)) → n ≡ min (length (f k)) (2 ^ 64 - 1)
    → now ≡ min (total + n) (2 ^ 64 - 1) → now ≡ total_of (map f (range_with_len 0 (k + 1)))
total_more f k n total now before count is =
    let all = λ (rs : List Record). rs in
    let done = map f (range_with_len 0 k) in
    let grown : length (flat_map all (map f (range_with_len 0 (k + 1))))
    ≡ length (flat_map all done) + length (f k) =
    ap (λ (rss : List (List Record)). length (flat_map all rss))
    (map-range_with_len_more f 0 k k (omega arith))
    ∙ ap length (flat_map-append all done (f k ∷ []))
    ∙ length-append (flat_map all done) (flat_map all (f k ∷ []))
    ∙ ap (λ (rs : List Record). length (flat_map all done) + length rs)
    (flat_map-cons all (f k) [] ∙ append-nil (f k)) in
    most (length (flat_map all done)) (length (f k))
    (length (flat_map all (map f (range_with_len 0 (k + 1))))) n total now (2 ^ 64 - 1)
    before count grown is
  where
    most : (sum more both n total now top : ℕ) → total ≡ min sum top → n ≡ min more top
        → both ≡ sum + more → now ≡ min (total + n) top → now ≡ min both top
    most sum more both n total now top a b c d = omega arith

pub total_none : (top : ℕ) → 0 ≡ min 0 top
total_none top = omega arith

pub texts_more : (c : Parts) (f : ℕ → List Record) (k : ℕ) (old new : List (List ℕ))
    → old ≡ chunk_texts c (map f (range_with_len 0 k)) → AddsVariable c (f k) old new
    → new ≡ chunk_texts c (map f (range_with_len 0 (k + 1)))
texts_more c f k old new before more =
    more (map f (range_with_len 0 k)) before
    ∙ ap (chunk_texts c) (sym (map-range_with_len_more f 0 k k (omega arith)))

pub sum_next : {X A : Type 0} (f : X → List A) (xs ys : List X) (k : ℕ) (d : X) (n count now : ℕ)
    → ys ≡ xs → k < length ys
    → count ≡ min (length (flat_map f (take k xs))) (2 ^ 64 - 1) → n ≡ length (f (get_or ys k d))
    → now ≡ min (count + n) (2 ^ 64 - 1)
    → now ≡ min (length (flat_map f (take (k + 1) xs))) (2 ^ 64 - 1)
sum_next {X} f xs ys k d n count now same lt before this is =
    sum_more f xs k (get_or ys k d) d n count now (subst (λ (l : List X). k < length l) same lt)
    (ap (λ (l : List X). get_or l k d) same) before this is

-- the fault of one output, by what its file holds
pub told_one : (setup : Setup) (files : Files) (place : ℕ) (v : VarId) (info : VarInfo)
    (bytes : List ℕ) → info ≡ variable setup v → bytes ≡ files (named_output_file place)
    → fault_unless (NotOutput (info.full ++ codes ".asc")) (output_in setup info bytes)
    ≡ not_output setup files place v
told_one setup files place v info bytes known read =
    ap (λ (i : VarInfo). fault_unless (NotOutput (i.full ++ codes ".asc"))
    (output_in setup i bytes)) known
    ∙ ap (λ (b : List ℕ). fault_unless (NotOutput ((variable setup v).full ++ codes ".asc"))
    (output_in setup (variable setup v) b)) read

-- a fault of a test, as one of a command
pub same_fault : (fault w : Option ChunkFault) (f : ChunkFault) → fault ≡ w
    → (f ≡ Memory) ⊎ (fault ≡ Some f) → (f ≡ Memory) ⊎ (w ≡ Some f)
same_fault fault w f same told = subst (λ o. (f ≡ Memory) ⊎ (o ≡ Some f)) same told

-- so is not a failure of the disk, nor want of memory
pub no_refusal : (d : DiskFault) → IsRefusal (chunks_fault_of d) → ⊥
no_refusal disk.Failed refusal = refusal
no_refusal disk.Memory refusal = refusal refl

-- the files that are tested are the output files, and the chunks
pub output_length : (setup : Setup) (files : Files) (first count : ℕ)
    → first ≡ named_output_file 0 → count ≡ output_count setup
    → too_long files (range_with_len first count) ≡ too_long files (output_files setup)
output_length setup files first count start many =
    ap (λ n. too_long files (range_with_len n count)) start
    ∙ ap (λ n. too_long files (range_with_len (named_output_file 0) n)) many

pub chunk_length : (c : Parts) (files : Files) (first count : ℕ)
    → first ≡ chunk_file 0 → count ≡ part_count c
    → too_long files (range_with_len first count) ≡ too_long files (chunk_files c)
chunk_length c files first count start many =
    ap (λ n. too_long files (range_with_len n count)) start
    ∙ ap (λ n. too_long files (range_with_len (chunk_file 0) n)) many

-- what is found after a test that found none
pub second_finds : {X : Type 0} (fault other : Option ChunkFault) (result : Result X ChunksFault)
    → fault ≡ None → Finds other result → Finds (or_else fault other) result
second_finds fault other (Ok x) none is = ap (λ o. or_else o other) none ∙ is
second_finds fault other (Err e) none is = second_fault fault other e none is

-- one output more that has no fault, and the first one that has
pub output_more : (setup : Setup) (files now : Files) (vs ys : List VarId) (k p : ℕ) (d : VarId)
    (w : Option ChunkFault) → now ≡ files → ys ≡ vs → p ≡ k → k < length ys
    → not_output setup now p (get_or ys k d) ≡ None
    → first_by_place (not_output setup files) k (drop k vs) ≡ w
    → first_by_place (not_output setup files) (k + 1) (drop (k + 1) vs) ≡ w
output_more setup files now vs ys k p d w seen same at lt none left =
    place_more (not_output setup files) vs k d w (subst (λ (l : List VarId). k < length l) same lt)
    (subst (λ (l : List VarId). not_output setup files k (get_or l k d) ≡ None) same
    (subst (λ (n : ℕ). not_output setup files n (get_or ys k d) ≡ None) at
    (subst (λ (f : Files). not_output setup f p (get_or ys k d) ≡ None) seen none))) left

pub output_told : (setup : Setup) (files now : Files) (vs ys : List VarId) (k p : ℕ) (d : VarId)
    (w : Option ChunkFault) (e : ChunksFault) → now ≡ files → ys ≡ vs → p ≡ k → k < length ys
    → IsFaultOf (not_output setup now p (get_or ys k d)) e
    → first_by_place (not_output setup files) k (drop k vs) ≡ w → IsFaultOf w e
output_told setup files now vs ys k p d w e seen same at lt is left =
    fault_of (not_output setup files k (get_or vs k d)) w e
    (subst (λ (l : List VarId). IsFaultOf (not_output setup files k (get_or l k d)) e) same
    (subst (λ (n : ℕ). IsFaultOf (not_output setup files n (get_or ys k d)) e) at
    (subst (λ (f : Files). IsFaultOf (not_output setup f p (get_or ys k d)) e) seen is)))
    (λ f some. place_told (not_output setup files) vs k d w f
    (subst (λ (l : List VarId). k < length l) same lt) left some)
