-- How long files are together, and how many records they are.
use Rattle.std.proofs.Common.{◌≡◌, ℕ, zero, suc, ◌≤◌, ◌+◌, ◌-◌, ◌*◌, ◌^◌, min, Bool, true, false, List, [], ◌∷◌, ◌++◌, length, map, filter, Option, Some, None, refl, sym, ap, subst, ◌∙◌, arith}
use Rattle.std.specs.Prelude.{◌==◌, nat_lt, if◌then◌else◌}
use Rattle.std.specs.List.{flat_map, range_with_len}
use Rattle.std.proofs.Math.Nat.{suc-mul}
use Rattle.std.proofs.lemmas.Bool.Decides.{nat_tests}
use Rattle.std.proofs.lemmas.Nat.{mul-le}
use Rattle.std.proofs.lemmas.List.{length-append, append-nil}
use Rattle.std.proofs.lemmas.Grind.{flat_map-append}
use Rattle.std.proofs.lemmas.List.Concat.{flat_map-cons}
use Rattle.cx_plan.specs.declared.variable.VarId.{VarId}
use Rattle.cx_plan.specs.Lists.{or_else}
use Rattle.cx_plan.specs.Lookups.{variable}
use Rattle.cx_plan.specs.Setups.{Setup}
use Rattle.cx_cut.specs.Cuts.{Parts, part_count}
use Rattle.cx_disk.specs.Disk.{Files}
use Rattle.cx_disk.specs.Files.{named_output_file, chunk_file}
use Rattle.cx_outputs.specs.Names.{output_count}
use Rattle.cx_ascii_read.specs.declared.record.Record.{Record}
use Rattle.cx_ascii_read.specs.Reading.{record_at}
use Rattle.cx_chunks.specs.declared.fault.ChunkFault.{ChunkFault}
use Rattle.cx_chunks.specs.declared.piece.Piece.{Piece}
use Rattle.cx_chunks.specs.Reading.{piece_at}
use Rattle.cx_chunks.specs.Combining.{iteration_of, is_of, iterations_in, iterations_of, rising, with_number}
use Rattle.cx_run_chunks.specs.Entries.{entries_at, found}
use Rattle.cx_run_chunks.specs.Commands.{all_pieces, chunk_files, files_fault, greatest_length, length_of, output_files, output_records, outputs_fault, pieces_in, record_count, records_at, too_long}
use Rattle.cx_run_chunks.proofs.EntryLaws.{few_read}

range_more : (first k : ℕ)
    → range_with_len first (k + 1) ≡ range_with_len first k ++ (first + k) ∷ []
range_more first zero =
    let e : first + 0 ≡ first = omega arith in
    ap (λ (n : ℕ). n ∷ []) (sym e)
range_more first (suc k) =
    let e : (first + 1) + k ≡ first + suc k = omega arith in
    let n : suc k + 1 ≡ suc (k + 1) = omega arith in
    ap (range_with_len first) n ∙ ap (λ (l : List ℕ). first ∷ l) (range_more (first + 1) k)
    ∙ ap (λ (n : ℕ). first ∷ (range_with_len (first + 1) k ++ n ∷ [])) e

-- one file more, as 64 bits hold the sum
pub length_more : (files : Files) (first k n total now : ℕ)
    → total ≡ length_of files (range_with_len first k) → n ≡ length (files (first + k))
    → now ≡ min (total + n) (2 ^ 64 - 1)
    → now ≡ length_of files (range_with_len first (k + 1))
length_more files first k n total now before this is =
    let grown : length (flat_map files (range_with_len first (k + 1)))
    ≡ length (flat_map files (range_with_len first k)) + length (files (first + k)) =
    ap (λ (l : List ℕ). length (flat_map files l)) (range_more first k)
    ∙ ap length (flat_map-append files (range_with_len first k) ((first + k) ∷ []))
    ∙ length-append (flat_map files (range_with_len first k)) (flat_map files ((first + k) ∷ []))
    ∙ ap (λ (l : List ℕ). length (flat_map files (range_with_len first k)) + length l)
    (flat_map-cons files (first + k) [] ∙ append-nil (files (first + k))) in
    most (length (flat_map files (range_with_len first k))) n
    (length (flat_map files (range_with_len first (k + 1)))) (2 ^ 64 - 1) total now before
    (grown ∙ ap (λ (m : ℕ). length (flat_map files (range_with_len first k)) + m) (sym this)) is
  where
    most : (sum n more top total now : ℕ) → total ≡ min sum top → more ≡ sum + n
        → now ≡ min (total + n) top → now ≡ min more top
    most sum n more top total now a b c = omega arith

-- ---- records are no more than the bytes of their files

flat_few : {X A B : Type 0} (f : X → List A) (g : X → List B)
    → ((x : X) → length (f x) ≤ length (g x)) → (xs : List X)
    → length (flat_map f xs) ≤ length (flat_map g xs)
flat_few f g few [] = omega arith
flat_few f g few (x ∷ xs) =
    let one = few x in
    let rest = flat_few f g few xs in
    let a = length-append (f x) (flat_map f xs) in
    let b = length-append (g x) (flat_map g xs) in
    omega arith

few_in_all : {E : Type 0} (files : Files) (base : ℕ) (get : ℕ → List E)
    → ((j : ℕ) → length (get j) ≤ length (files (base + j))) → (k n : ℕ)
    → length (flat_map (λ (xs : List E). xs) (map get (range_with_len k n)))
    ≤ length (flat_map files (range_with_len (base + k) n))
few_in_all files base get few k zero = omega arith
few_in_all files base get few k (suc n) =
    let one = few k in
    let next : base + (k + 1) ≡ base + k + 1 = omega arith in
    let rest : length (flat_map (λ xs. xs) (map get (range_with_len (k + 1) n)))
    ≤ length (flat_map files (range_with_len (base + k + 1) n)) =
    subst (λ (m : ℕ). length (flat_map (λ xs. xs) (map get (range_with_len (k + 1) n)))
    ≤ length (flat_map files (range_with_len m n))) next
    (few_in_all files base get few (k + 1) n) in
    let a = length-append (get k) (flat_map (λ xs. xs) (map get (range_with_len (k + 1) n))) in
    let b = length-append (files (base + k))
    (flat_map files (range_with_len (base + k + 1) n)) in
    omega arith

few_found : {E : Type 0} (read : List ℕ → Option (E × List ℕ)) (bytes : List ℕ)
    → length (found (entries_at read (length bytes) bytes)) ≤ length bytes
few_found {E} read bytes = by (entries_at read (length bytes) bytes) refl
  where
    by : (o : Option (List E)) → entries_at read (length bytes) bytes ≡ o
        → length (found o) ≤ length bytes
    by None e = omega arith
    by (Some xs) e = few_read read (length bytes) bytes xs e

-- files that aren't too long
not_long : (b : Bool) (x : ChunkFault) → (if b then Some x else None) ≡ None → b ≡ false
not_long true x e = absurd cc
not_long false x e = refl

pub bytes_few : (files : Files) (numbers : List ℕ) → too_long files numbers ≡ None
    → length (flat_map files numbers) ≤ 268435456
bytes_few files numbers none =
    let small = not_long (nat_lt greatest_length (length_of files numbers)) _ none in
    let most : length_of files numbers ≤ 268435456 = grind (arith, nat_tests) in
    omega arith

pub none_of_two : {X : Type 0} (a b : Option X) → or_else a b ≡ None → (a ≡ None) × (b ≡ None)
none_of_two (Some x) b e = absurd cc
none_of_two None b e = (refl, e)

-- as many records of outputs as 64 bits hold
pub records_fit : (setup : Setup) (files : Files) (count : ℕ) → outputs_fault setup files ≡ None
    → count ≡ min (length (flat_map (λ (rs : List Record). rs) (output_records setup files)))
    (2 ^ 64 - 1)
    → count ≡ length (flat_map (λ (rs : List Record). rs) (output_records setup files))
records_fit setup files count none is =
    let bytes = bytes_few files (output_files setup) (none_of_two _ _ none).0 in
    let few = few_in_all files (named_output_file 0) (records_at files)
    (λ j. few_found record_at (files (named_output_file j))) 0 (output_count setup) in
    least (length (flat_map (λ (rs : List Record). rs) (output_records setup files))) count is
    (omega arith)
  where
    least : (n count : ℕ) → count ≡ min n (2 ^ 64 - 1) → n ≤ 268435456 → count ≡ n
    least n count is few = omega arith

-- ---- and of pieces

with_few : (n : ℕ) (ms : List ℕ) → length (with_number n ms) ≤ suc (length ms)
with_few n [] = omega arith
with_few n (m ∷ ms) = by (n == m) (nat_lt n m) (with_few n ms)
  where
    by : (a b : Bool) → length (with_number n ms) ≤ suc (length ms)
        → length (if a then m ∷ ms else (if b then n ∷ m ∷ ms else m ∷ with_number n ms))
        ≤ suc (suc (length ms))
    by true b rest = omega arith
    by false true rest = omega arith
    by false false rest = omega arith

rising_few : (ns : List ℕ) → length (rising ns) ≤ length ns
rising_few [] = omega arith
rising_few (n ∷ ns) =
    let one = with_few n (rising ns) in
    let rest = rising_few ns in
    omega arith

filter_few : {X Y : Type 0} (f : X → Y) (test : X → Bool) (xs : List X)
    → length (map f (filter test xs)) ≤ length xs
filter_few f test [] = omega arith
filter_few {X} f test (x ∷ xs) = by (test x) (filter_few f test xs)
  where
    by : (b : Bool) → length (map f (filter test xs)) ≤ length xs
        → length (map f (if b then x ∷ filter test xs else filter test xs)) ≤ suc (length xs)
    by true rest = omega arith
    by false rest = omega arith

iterations_few : (chunks : List (List Piece)) (full : List ℕ)
    → length (iterations_of chunks full) ≤ length (flat_map (λ (ps : List Piece). ps) chunks)
iterations_few chunks full =
    let a = rising_few (flat_map (iterations_in full) chunks) in
    let b = flat_few (iterations_in full) (λ (ps : List Piece). ps)
    (filter_few iteration_of (is_of full)) chunks in
    omega arith

count_few : (setup : Setup) (chunks : List (List Piece)) (vs : List VarId)
    → length (flat_map (λ (v : VarId). iterations_of chunks (variable setup v).full) vs)
    ≤ length vs * length (flat_map (λ (ps : List Piece). ps) chunks)
count_few setup chunks [] = omega arith
count_few setup chunks (v ∷ vs) =
    let one = iterations_few chunks (variable setup v).full in
    let rest = count_few setup chunks vs in
    let a = length-append (iterations_of chunks (variable setup v).full)
    (flat_map (λ (w : VarId). iterations_of chunks (variable setup w).full) vs) in
    let m = suc-mul (length vs) (length (flat_map (λ (ps : List Piece). ps) chunks)) in
    omega arith

pub pieces_fit : (setup : Setup) (c : Parts) (files : Files) (count : ℕ)
    → files_fault c files ≡ None → output_count setup ≤ 256
    → count ≡ min (record_count setup (all_pieces c files)) (2 ^ 64 - 1)
    → count ≡ record_count setup (all_pieces c files)
pieces_fit setup c files count none outputs is =
    let bytes = bytes_few files (chunk_files c) (none_of_two _ _ none).0 in
    let few = few_in_all files (chunk_file 0) (pieces_in files)
    (λ j. few_found piece_at (files (chunk_file j))) 0 (part_count c) in
    let all = count_few setup (all_pieces c files) setup.out_vars in
    let times : length setup.out_vars
    * length (flat_map (λ (ps : List Piece). ps) (all_pieces c files)) ≤ 256 * 268435456 =
    mul-le (length setup.out_vars)
    (length (flat_map (λ (ps : List Piece). ps) (all_pieces c files)))
    256 268435456 outputs (omega arith) in
    least (record_count setup (all_pieces c files)) count is (omega arith)
  where
    least : (n count : ℕ) → count ≡ min n (2 ^ 64 - 1) → n ≤ 256 * 268435456 → count ≡ n
    least n count is few = omega arith
