-- The paths of a disk's files: how many there are, that no two files have one place, and that each
-- is in its folder.
use Rattle.std.specs.Prelude.{ℕ, zero, suc, ◌+◌, ◌-◌, ◌<◌, ◌≤◌, ◌≡◌, ◌≢◌, ◌⊎◌, Bool, true, false, List, [], ◌∷◌, ◌++◌, map, length, slice_index_or, nat_lt, codes, take, Result, Err, IsErrOf, if◌then◌else◌}
use Rattle.std.specs.Fmt.{decimal}
use Rattle.std.proofs.Common.{refl, sym, ◌∙◌, ap, subst, arith, inl, inr, append_assoc, append-nil}
use Rattle.std.proofs.lemmas.List.{length-append, length-map, get_or_append_left, get_or-append_right, map-append, take_more}
use Rattle.std.proofs.Math.ListN.{get_or-eq_default}
use Rattle.std.specs.List.{All}
use Rattle.std.specs.Str.{IsUtf8, bytes_eq}
use Rattle.std.proofs.lemmas.List.Elements.{All-get_or, All-from_get_or}
use Rattle.std.proofs.lemmas.Slice.Eq.{bytes_eq-Decides}
use Rattle.std.proofs.lemmas.Bool.{cases_eq}
use Rattle.std.proofs.lemmas.Bool.Decides.{nat_tests, Decides-ltb}
use Rattle.cx_disk.specs.Disk.{Folders, files_in}
use Rattle.cx_disk.specs.Files.{IsFile}
use Rattle.cx_folder.specs.Names.{Path, IsIn, below, slot_path, old_output_path, named_path, chunk_path, recombined_path, paths_in, AreDistinct, HavePlaces, IsNewAt, place_of, path_at, folder_at, output_folder, checkpoint_folder, AreAt}

pub length_below : (path : ℕ → Path) (n : ℕ) → length (below path n) ≡ n
unfolding below
length_below path zero = refl
length_below path (suc n) = rw (length-append, length_below path n) (omega arith)

-- one more
pub below_more : (path : ℕ → Path) (n : ℕ) → below path (n + 1) ≡ below path n ++ path n ∷ []
unfolding below
below_more path n = let e : n + 1 ≡ suc n = omega arith in rw e refl

pub count_paths : (folders : Folders) → length (paths_in folders) ≡ files_in folders + 513
count_paths folders =
    let s = length_below (slot_path (checkpoint_folder folders)) 8 in
    let h = length_below (chunk_path (output_folder folders)) 512 in
    let m = length-map folders.names (named_path (output_folder folders)) in
    simp (length-append, s, h, m) (omega arith)

-- ---- places

pub place_within : (count file : ℕ) → IsFile count file → place_of count file < count + 513
place_within count file is = grind (arith, nat_tests)

low_place : (count file : ℕ) → IsFile count file → file < 8 → place_of count file ≡ file
low_place count file is low = grind (arith, nat_tests)

high_place : (count file : ℕ) → 8 ≤ count → IsFile count file → 8 ≤ file
    → 8 ≤ place_of count file
high_place count file most is high = grind (arith, nat_tests)

pub low_is : (count file : ℕ) → IsFile count file → (file < 1024) ⊎ (1536 < file)
    → file ≡ place_of count file
low_is count file is low = grind (arith, nat_tests)

pub high_is : (count file all n : ℕ) → 1024 ≤ file → file ≤ 1536 → all ≡ count + 513
    → n ≡ all - (1537 - file) → n ≡ place_of count file
high_is count file all n low high is place = grind (arith, nat_tests)

pub place_apart : (count file other : ℕ) → IsFile count file → other ≢ file
    → place_of count other ≢ place_of count file
place_apart count file other is ne = grind (arith, nat_tests)

pub path_apart : (folders : Folders) (file other : ℕ) → AreDistinct (paths_in folders)
    → IsFile (files_in folders) file → other ≢ file → path_at folders other ≢ path_at folders file
path_apart folders file other distinct is ne same =
    let lt : place_of (files_in folders) file < length (paths_in folders) =
    rw (count_paths folders) (place_within (files_in folders) file is) in
    let apart : place_of (files_in folders) file ≢ place_of (files_in folders) other =
    λ e. place_apart (files_in folders) file other is ne (sym e) in
    distinct (place_of (files_in folders) file) (place_of (files_in folders) other) lt apart
    (sym same)

-- ---- apart

lt_cases : (a b : ℕ) → (a < b) ⊎ (b ≤ a)
lt_cases a b = by (nat_lt a b) (λ e. (Decides-ltb a b).0 e) (λ e. (Decides-ltb a b).1 e)
  where
    no : false ≡ true → ⊥
    no e = cc

    by : (t : Bool) → (t ≡ true → a < b) → (a < b → t ≡ true) → (a < b) ⊎ (b ≤ a)
    by true is only = inl (is refl)
    by false is only = inr (omega (arith, λ (lt : a < b). no (only lt)))

-- each is new, so no two are one
pub distinct_of : (paths : List Path) → ((k : ℕ) → k < length paths → IsNewAt paths k)
    → AreDistinct paths
distinct_of paths each i j lt ne same = elim (lt_cases i j) as (λ _. ⊥) [
  | inl below ↦ elim (lt_cases j (length paths)) as (λ _. ⊥) [
    | inl within ↦ (each j within).is_new i below same
    | inr past ↦ (each i lt).is_path (same ∙ get_or-eq_default paths [] past)
  ]
  | inr above ↦ (each i lt).is_new j (omega arith) (sym same)
]

-- ---- lists that are pushed

-- all paths, as they come one after another
pub joined : (p q r s t u slots old names chunks last : List Path) → p ≡ [] → q ≡ p ++ slots
    → r ≡ q ++ old → s ≡ r ++ names → t ≡ s ++ chunks → u ≡ t ++ last
    → u ≡ slots ++ (old ++ names) ++ (chunks ++ last)
joined p q r s t u slots old names chunks last e0 e1 e2 e3 e4 e5 =
    rw (e5, e4, e3, e2, e1, e0) (simp append_assoc)

-- one more in a list, as its texts
pub pushed : {A : Type 0} (f : A → List ℕ) (items new : List A) (x : A) → new ≡ items ++ x ∷ []
    → map f new ≡ map f items ++ f x ∷ []
pushed f items new x is = ap (map f) is ∙ map-append f items (x ∷ [])

-- one more of the paths of numbers
pub pushed_below : {A : Type 0} (f : A → List ℕ) (path : ℕ → Path) (first items new : List A)
    (x : A) (n : ℕ) → map f items ≡ map f first ++ below path n → new ≡ items ++ x ∷ []
    → f x ≡ path n → map f new ≡ map f first ++ below path (n + 1)
pushed_below f path first items new x n had is one =
    pushed f items new x is ∙ rw (had, one, below_more path n) (simp append_assoc)

-- ---- folders

abbrev EachIn : Path → List Path → Type 0
EachIn folder xs = (k : ℕ) → k < length xs → IsIn folder (slice_index_or xs k [])

each_append : (folder : Path) (xs ys : List Path) → EachIn folder xs → EachIn folder ys
    → EachIn folder (xs ++ ys)
each_append folder [] ys ex ey k lt = ey k lt
each_append folder (x ∷ xs) ys ex ey zero lt = ex zero (omega arith)
each_append folder (x ∷ xs) ys ex ey (suc k) lt =
    each_append folder xs ys (λ j l. ex (suc j) (omega arith)) ey k (omega arith)

each_one : (folder path : Path) → IsIn folder path → EachIn folder (path ∷ [])
each_one folder path is zero lt = is
each_one folder path is (suc k) lt = absurd (omega arith)

each_below : (folder : Path) (path : ℕ → Path) → ((k : ℕ) → IsIn folder (path k))
    → (n : ℕ) → EachIn folder (below path n)
unfolding below
each_below folder path is zero k lt = absurd (omega arith)
each_below folder path is (suc n) k lt =
    each_append folder (below path n) (path n ∷ []) (each_below folder path is n)
    (each_one folder (path n) (is n)) k lt

each_named : (folder : Path) (names : List Path) → EachIn folder (map (named_path folder) names)
each_named folder [] k lt = absurd (omega arith)
each_named folder (name ∷ names) zero lt = (name, refl)
each_named folder (name ∷ names) (suc k) lt = each_named folder names k (omega arith)

each_slot : (folder : Path) (n : ℕ) → EachIn folder (below (slot_path folder) n)
each_slot folder n = each_below folder (slot_path folder)
    (λ k. (codes "checkpoint.chkpt." ++ decimal k, refl)) n

each_chunk : (folder : Path) (n : ℕ) → EachIn folder (below (chunk_path folder) n)
each_chunk folder n = each_below folder (chunk_path folder)
    (λ k. (codes "chunk." ++ (decimal k ++ codes ".asc"), refl)) n

-- the paths but for the slots
rest_of : Path → List Path → List Path
rest_of folder names = (old_output_path folder ∷ map (named_path folder) names)
    ++ (below (chunk_path folder) 512 ++ recombined_path folder ∷ [])

each_rest : (folder : Path) (names : List Path) → EachIn folder (rest_of folder names)
unfolding rest_of
each_rest folder names =
    each_append folder (old_output_path folder ∷ map (named_path folder) names)
    (below (chunk_path folder) 512 ++ recombined_path folder ∷ [])
    (each_append folder (old_output_path folder ∷ []) (map (named_path folder) names)
    (each_one folder (old_output_path folder) (codes "output.asc", refl)) (each_named folder names))
    (each_append folder (below (chunk_path folder) 512) (recombined_path folder ∷ [])
    (each_chunk folder 512)
    (each_one folder (recombined_path folder) (codes "recombined.asc", refl)))

-- an element of two lists, the first of one folder and the second of another
in_either : (a b : Path) (xs ys : List Path) (file place : ℕ) → length xs ≡ 8 → EachIn a xs
    → EachIn b ys → place < length xs + length ys → (file < 8 → place ≡ file)
    → (8 ≤ file → 8 ≤ place)
    → IsIn (if nat_lt file 8 then a else b) (slice_index_or (xs ++ ys) place [])
in_either a b xs ys file place eight ex ey lt low high =
    by (nat_lt file 8) ((Decides-ltb file 8).0) (λ e. (Decides-ltb file 8).1 e)
  where
    by : (t : Bool) → (t ≡ true → file < 8) → (file < 8 → t ≡ true)
        → IsIn (if t then a else b) (slice_index_or (xs ++ ys) place [])
    by true is only = let p : place < length xs = omega (arith, low (is refl), is refl) in
        rw (get_or_append_left xs ys [] place p) (ex place p)
    by false is only =
        let f : 8 ≤ file = omega (arith, λ (e : file < 8). absurd_of (only e)) in
        let p : 8 ≤ place = high f in
        rw (get_or-append_right xs ys 8 place [] eight p) (ey (place - 8) (omega arith))
      where
        absurd_of : false ≡ true → ⊥
        absurd_of e = absurd (cc)

pub in_folder : (folders : Folders) (file : ℕ) → IsFile (files_in folders) file
    → IsIn (folder_at folders file) (path_at folders file)
unfolding rest_of
in_folder folders file is =
    let a = checkpoint_folder folders in
    let b = output_folder folders in
    let slots = below (slot_path a) 8 in
    let all = count_paths folders in
    let place = place_of (files_in folders) file in
    let one_list : paths_in folders ≡ slots ++ rest_of b folders.names = append_assoc slots
    (old_output_path b ∷ map (named_path b) folders.names)
    (below (chunk_path b) 512 ++ recombined_path b ∷ []) in
    let within : place < length slots + length (rest_of b folders.names) =
    subst (λ (n : ℕ). place < n) (sym all ∙ ap length one_list
    ∙ length-append slots (rest_of b folders.names)) (place_within (files_in folders) file is) in
    subst (λ (xs : List Path). IsIn (folder_at folders file) (slice_index_or xs place []))
    (sym one_list)
    (in_either a b slots (rest_of b folders.names) file place (length_below (slot_path a) 8)
    (each_slot a 8) (each_rest b folders.names) within (low_place (files_in folders) file is)
    (high_place (files_in folders) file (omega arith) is))

pub distinct_in : {output checkpoints : Path} {paths : List Path} {folders : Folders}
    → AreAt output checkpoints paths folders → AreDistinct (paths_in folders)
distinct_in {output} {checkpoints} {paths} {folders} at = subst AreDistinct at.each at.distinct

-- ---- texts of a list

pub map_at : {A : Type 0} (f : A → List ℕ) (xs : List A) (i : ℕ) (x : A) → i < length xs
    → x ≡ slice_index_or xs i x → f x ≡ slice_index_or (map f xs) i []
map_at f [] i x lt is = absurd (omega arith)
map_at f (y ∷ ys) zero x lt is = ap f is
map_at f (y ∷ ys) (suc i) x lt is = map_at f ys i x (omega arith) is

-- a path that a list doesn't have up to a place, nor there
pub each_more : (paths : List Path) (path : Path) (i : ℕ)
    → ((j : ℕ) → j < i → slice_index_or paths j [] ≢ path) → slice_index_or paths i [] ≢ path
    → (j : ℕ) → j < i + 1 → slice_index_or paths j [] ≢ path
each_more paths path i below here j lt =
    elim (cases_eq j i) as (λ _. slice_index_or paths j [] ≢ path) [
      | inl is ↦ subst (λ (k : ℕ). slice_index_or paths k [] ≢ path) (sym is) here
      | inr ne ↦ below j (omega arith)
    ]

-- two texts that a test found to differ
pub differ : (a b x y : List ℕ) (test : Bool) → test ≡ bytes_eq a b → test ≡ false → a ≡ x → b ≡ y
    → x ≢ y
differ a b x y test is fails ax at same =
    let yes : bytes_eq a b ≡ true = (bytes_eq-Decides a b).1 (ax ∙ same ∙ sym at) in
    cc

-- none more
pub below_none : (xs : List Path) (path : ℕ → Path) → xs ≡ xs ++ below path 0
unfolding below
below_none xs path = sym (append-nil xs)

-- two lists of texts that are one up to a place, and there
pub same_more : (xs ys : List Path) (k : ℕ) (x y : Path) → k < length xs → k < length ys
    → take k xs ≡ take k ys → x ≡ slice_index_or xs k x → y ≡ slice_index_or ys k y → x ≡ y
    → take (k + 1) xs ≡ take (k + 1) ys
same_more xs ys k x y one other front at also same =
    cc (take_more xs k x one, take_more ys k y other)

-- ---- what is refused

-- where two texts are found to be one, the later isn't new
taken_by : (paths : List Path) (i k : ℕ) (x y : Path) → i < k → x ≡ slice_index_or paths i []
    → y ≡ slice_index_or paths k [] → x ≡ y → IsNewAt paths k → ⊥
taken_by paths i k x y lt at also same new = new.is_new i lt (sym at ∙ same ∙ also)

pub taken_at : (paths : List Path) (i k : ℕ) (a b : Path) (test : Bool) → i < k
    → test ≡ bytes_eq a b → test ≡ true → a ≡ slice_index_or paths i []
    → b ≡ slice_index_or paths k [] → IsNewAt paths k → ⊥
taken_at paths i k a b test lt is holds at also new =
    taken_by paths i k a b lt at also ((bytes_eq-Decides a b).0 (sym is ∙ holds)) new

-- where no two are one, each is new
new_of : (paths : List Path) → AreDistinct paths → (k : ℕ) → k < length paths → IsNewAt paths k
new_of paths distinct k lt = record {
  is_path = λ empty. distinct k (length paths) lt (λ (e : k ≡ length paths). omega (arith, e, lt))
      (empty ∙ sym (get_or-eq_default paths [] (omega arith)));
  is_new = λ i below. distinct i k (omega arith) (λ (e : i ≡ k). omega (arith, e, below));
}

pub clash_at : (paths : List Path) (k : ℕ) → k < length paths → (IsNewAt paths k → ⊥)
    → AreDistinct paths → ⊥
clash_at paths k lt taken distinct = taken (new_of paths distinct k lt)

fault_is : {A E : Type 0} (result : Result A E) (x y : E) → result ≡ Err x → result ≡ Err y
    → x ≡ y
fault_is result x y one other = cc

-- what a call told, as the call within it did
pub told_as : {A B E : Type 0} (result : Result A E) (told got fault : E) → result ≡ Err told
    → told ≡ got → result ≡ Err fault → IsErrOf {T = B} {E = E} (Err got) fault
told_as {A} {B} {E} result told got fault is same failed =
    subst (λ (e : E). IsErrOf {T = B} {E = E} (Err got) e)
    (sym same ∙ fault_is result told fault is failed) refl

-- a list of names that are texts, and one that has another
pub all_texts : (names : List Path) → ((k : ℕ) → k < length names
    → IsUtf8 (slice_index_or names k [])) → All IsUtf8 names
all_texts names each = All-from_get_or IsUtf8 names [] each

item_at : (names : List Path) (k : ℕ) (name : Path) → k < length names
    → name ≡ slice_index_or names k name → name ≡ slice_index_or names k []
item_at [] k name lt at = absurd (omega arith)
item_at (x ∷ names) zero name lt at = at
item_at (x ∷ names) (suc k) name lt at = item_at names k name (omega arith) at

pub text_more : (names : List Path) (k : ℕ) (name : Path) → k < length names
    → name ≡ slice_index_or names k name → IsUtf8 name
    → ((j : ℕ) → j < k → IsUtf8 (slice_index_or names j []))
    → (j : ℕ) → j < k + 1 → IsUtf8 (slice_index_or names j [])
text_more names k name lt at text had j below =
    elim (cases_eq j k) as (λ _. IsUtf8 (slice_index_or names j [])) [
      | inl is ↦ subst (λ (n : ℕ). IsUtf8 (slice_index_or names n [])) (sym is)
          (subst IsUtf8 (item_at names k name lt at) text)
      | inr ne ↦ had j (omega arith)
    ]

-- one more of the paths of names
pub named_more : {A : Type 0} (f : A → Path) (path : Path → Path) (first items new : List A)
    (names : List Path) (k : ℕ) (name : Path) (x : A) → k < length names
    → name ≡ slice_index_or names k name
    → map f items ≡ map f first ++ map path (take k names) → new ≡ items ++ x ∷ []
    → f x ≡ path name → map f new ≡ map f first ++ map path (take (k + 1) names)
named_more f path first items new names k name x lt at had is one =
    let front : take (k + 1) names ≡ take k names ++ name ∷ [] =
    take_more names k name lt ∙ ap (λ (n : Path). take k names ++ n ∷ []) (sym at) in
    pushed f items new x is ∙ ap (λ (ps : List Path). ps ++ f x ∷ []) had
    ∙ append_assoc (map f first) (map path (take k names)) (f x ∷ [])
    ∙ ap (λ (p : Path). map f first ++ (map path (take k names) ++ p ∷ [])) one
    ∙ ap (λ (ps : List Path). map f first ++ ps) (sym (map-append path (take k names) (name ∷ [])))
    ∙ ap (λ (ns : List Path). map f first ++ map path ns) (sym front)

pub no_text : (names : List Path) (k : ℕ) (name : Path) → k < length names
    → name ≡ slice_index_or names k name → (IsUtf8 name → ⊥) → All IsUtf8 names → ⊥
no_text names k name lt at refused all =
    refused (subst IsUtf8 (sym at) (All-get_or IsUtf8 names k name lt all))

-- the paths that were made are those of the folders
paths_are : (output checkpoints : Path) (names paths : List Path) (folders : Folders)
    → output ≡ output_folder folders → checkpoints ≡ checkpoint_folder folders
    → names ≡ folders.names → paths ≡ below (slot_path checkpoints) 8
    ++ old_output_path output ∷ map (named_path output) names
    ++ (below (chunk_path output) 512 ++ recombined_path output ∷ [])
    → paths ≡ paths_in folders
paths_are output checkpoints names paths folders at also named is =
    rw (is, at, also, named) refl

pub fit_by : (output checkpoints : Path) (names paths : List Path) (folders : Folders)
    → output ≡ output_folder folders → checkpoints ≡ checkpoint_folder folders
    → names ≡ folders.names → paths ≡ below (slot_path checkpoints) 8
    ++ old_output_path output ∷ map (named_path output) names
    ++ (below (chunk_path output) 512 ++ recombined_path output ∷ [])
    → IsUtf8 folders.output → All IsUtf8 names → IsUtf8 folders.checkpoints
    → AreDistinct paths → HavePlaces folders
fit_by output checkpoints names paths folders at also named is one texts other distinct = record {
  output = one;
  names = subst (All IsUtf8) named texts;
  checkpoints = other;
  distinct = subst AreDistinct
      (paths_are output checkpoints names paths folders at also named is) distinct;
}

pub clash_of : (output checkpoints : Path) (names paths : List Path) (folders : Folders)
    → output ≡ output_folder folders → checkpoints ≡ checkpoint_folder folders
    → names ≡ folders.names → paths ≡ below (slot_path checkpoints) 8
    ++ old_output_path output ∷ map (named_path output) names
    ++ (below (chunk_path output) 512 ++ recombined_path output ∷ [])
    → (AreDistinct paths → ⊥) → HavePlaces folders → ⊥
clash_of output checkpoints names paths folders at also named is clash fit =
    clash (subst AreDistinct
    (sym (paths_are output checkpoints names paths folders at also named is)) fit.distinct)
