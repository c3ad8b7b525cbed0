-- The output files of a checkpoint: what is read of them is what was written, in both versions.
use Rattle.std.proofs.Common.{◌≡◌, ◌⊎◌, inl, inr, ℕ, zero, suc, ◌^◌, ◌<◌, Bool, true, false, List, [], ◌∷◌, ◌++◌, length, map, get_or, Some, None, refl, sym, ap, subst, ◌∙◌, append_assoc, arith, length-append}
use Rattle.std.specs.Prelude.{◌||◌, ◌==◌, if◌then◌else◌, Result, Ok, Err, IfOk}
use Rattle.std.specs.List.{zip, AllByRecursion}
use Rattle.std.specs.Int.{w32, w64}
use Rattle.std.proofs.lemmas.Bool.{eqb-true}
use Rattle.std.proofs.lemmas.Slice.Zip.{firsts-zip, seconds-zip}
use Rattle.cx_chk.specs.Encoding.{word, counted, string, named_length, outputs, AreCounted, IsWord, IsShort, IsVersion}
use Rattle.cx_chk.specs.declared.reading.Stop.{Stop}
use Rattle.cx_chk.specs.declared.reading.Stop.TheVariants as stops
use Rattle.cx_chk.specs.Reading.{◌>>=◌, Gives, number_at, string_at, some_at, counted_at, named_at, bare_at, all_named_at, outputs_at, version_at}
use Rattle.cx_chk.proofs.Fields.{IsBytes, bind_some, some_is, Takes, Takes-then, IsField, word_field, string_field, counted_field, wide32}

abbrev pub IsNamed : List ℕ × ℕ → Type 0
IsNamed file = IsShort file.0 × IsWord file.1

-- ---- one file

pub named_field : IsField named_length named_at IsNamed
unfolding named_at
named_field = record {
  takes = λ bytes x fits e.
      let a = bind_some (string_at bytes)
      (λ name. number_at w64 name.1 >>= λ count. Some ((name.0, count.0), count.1)) x e in
      let b = bind_some (number_at w64 a.0.1) (λ count. Some ((a.0.0, count.0), count.1)) x a.2 in
      let t0 = string_field.takes bytes a.0 fits a.1 in
      let t1 = word_field.takes a.0.1 b.0 t0.0.rest_fits b.1 in
      let both = Takes-then bytes (string a.0.0) a.0.1 (word b.0.0) b.0.1 t0.0 t1.0 in
      let made : (List ℕ × ℕ) × List ℕ = ((a.0.0, b.0.0), b.0.1) in
      subst (λ (y : (List ℕ × ℕ) × List ℕ). Takes bytes (named_length y.0) y.1 × IsNamed y.0)
      (some_is made x b.2) (both, (t0.1, t1.1));
  again = λ f rest fits.
      ap named_at (append_assoc (string f.0) (word f.1) rest)
      ∙ rw (string_field.again f.0 (word f.1 ++ rest) fits.0, word_field.again f.1 rest fits.1)
      refl;
}

all_named_field : IsField (counted w32 named_length) (counted_at w32 named_at)
    (AreCounted (2 ^ 32) IsNamed)
all_named_field = counted_field named_length named_at IsNamed named_field w32 (2 ^ 32) wide32

lengths_field : IsField (counted w32 word) (counted_at w32 (number_at w64))
    (AreCounted (2 ^ 32) IsWord)
lengths_field = counted_field word (number_at w64) IsWord word_field w32 (2 ^ 32) wide32

-- ---- names and lengths, in one list and in two

abbrev pub name_in : List ℕ × ℕ → List ℕ
name_in file = file.0

abbrev pub length_in : List ℕ × ℕ → ℕ
length_in file = file.1

zip_maps : (files : List (List ℕ × ℕ)) → zip (map name_in files) (map length_in files) ≡ files
zip_maps [] = refl
zip_maps (f ∷ files) = ap (λ (fs : List (List ℕ × ℕ)). f ∷ fs) (zip_maps files)

names_short : (files : List (List ℕ × ℕ)) → AllByRecursion IsNamed files
    → AllByRecursion IsShort (map name_in files)
names_short [] all = tt
names_short (f ∷ files) all = (all.0.0, names_short files all.1)

lengths_words : (files : List (List ℕ × ℕ)) → AllByRecursion IsNamed files
    → AllByRecursion IsWord (map length_in files)
lengths_words [] all = tt
lengths_words (f ∷ files) all = (all.0.1, lengths_words files all.1)

maps_long : (files : List (List ℕ × ℕ))
    → (length (map name_in files) ≡ length files) × (length (map length_in files) ≡ length files)
maps_long [] = (refl, refl)
maps_long (f ∷ files) = let more = maps_long files in (ap suc more.0, ap suc more.1)

all_zip : (names : List (List ℕ)) (lengths : List ℕ) → AllByRecursion IsShort names
    → AllByRecursion IsWord lengths → AllByRecursion IsNamed (zip names lengths)
all_zip [] lengths short words = tt
all_zip (n ∷ names) [] short words = tt
all_zip (n ∷ names) (l ∷ lengths) short words =
    ((short.0, words.0), all_zip names lengths short.1 words.1)

pub zip_long : (names : List (List ℕ)) (lengths : List ℕ) → length names ≡ length lengths
    → length (zip names lengths) ≡ length lengths
zip_long [] [] e = refl
zip_long [] (l ∷ lengths) e = absurd (omega arith)
zip_long (n ∷ names) [] e = absurd (omega arith)
zip_long (n ∷ names) (l ∷ lengths) e = ap suc (zip_long names lengths (omega arith))

-- one file more behind both lists
pub zip_more : (names : List (List ℕ)) (lengths : List ℕ) (name : List ℕ) (n : ℕ)
    → length names ≡ length lengths
    → zip (names ++ name ∷ []) (lengths ++ n ∷ []) ≡ zip names lengths ++ (name, n) ∷ []
zip_more [] [] name n e = refl
zip_more [] (l ∷ lengths) name n e = absurd (omega arith)
zip_more (m ∷ names) [] name n e = absurd (omega arith)
zip_more (m ∷ names) (l ∷ lengths) name n e =
    ap (λ (fs : List (List ℕ × ℕ)). (m, l) ∷ fs) (zip_more names lengths name n (omega arith))

pub short_at : (names : List (List ℕ)) (k : ℕ) (d : List ℕ) → AllByRecursion IsShort names
    → k < length names → length (get_or names k d) < 2 ^ 32
short_at [] k d all lt = absurd (omega arith)
short_at (n ∷ names) zero d all lt = all.0
short_at (n ∷ names) (suc k) d all lt = short_at names k d all.1 (omega arith)

-- ---- by the version

abbrev pub Files : Type 0
Files = List (List ℕ) × List ℕ

abbrev pub AreFiles : ℕ → Files → Type 0
AreFiles version files = IsVersion version files.0 files.1 × AreCounted (2 ^ 32) IsWord files.1

bare_takes : (bytes : List ℕ) (x : Files × List ℕ) → IsBytes bytes → bare_at bytes ≡ Some x
    → Takes bytes (outputs 1 x.0.0 x.0.1) x.1 × AreFiles 1 x.0
unfolding bare_at
bare_takes bytes x fits e =
    let a = bind_some (counted_at w32 (number_at w64) bytes)
    (λ lengths. Some (([], lengths.0), lengths.1)) x e in
    let t = lengths_field.takes bytes a.0 fits a.1 in
    let made : Files × List ℕ = (([], a.0.0), a.0.1) in
    subst (λ (y : Files × List ℕ). Takes bytes (outputs 1 y.0.0 y.0.1) y.1 × AreFiles 1 y.0)
    (some_is made x a.2) (t.0, (inl (refl, refl), t.1))

named_takes : (bytes : List ℕ) (x : Files × List ℕ) → IsBytes bytes → all_named_at bytes ≡ Some x
    → Takes bytes (outputs 2 x.0.0 x.0.1) x.1 × AreFiles 2 x.0
unfolding all_named_at
named_takes bytes x fits e =
    let a = bind_some (counted_at w32 named_at bytes)
    (λ files.
    Some (
      (map (λ (f : List ℕ × ℕ). f.0) files.0, map (λ (f : List ℕ × ℕ). f.1) files.0),
      files.1,
    )) x e in
    let t = all_named_field.takes bytes a.0 fits a.1 in
    let files = a.0.0 in
    let long = maps_long files in
    let made : Files × List ℕ = ((map name_in files, map length_in files), a.0.1) in
    let whole : Takes bytes
    (counted w32 named_length (zip (map name_in files) (map length_in files))) a.0.1 =
    subst (λ (fs : List (List ℕ × ℕ)). Takes bytes (counted w32 named_length fs) a.0.1)
    (sym (zip_maps files)) t.0 in
    let few : length (map length_in files) < 2 ^ 32 =
    subst (λ (n : ℕ). n < 2 ^ 32) (sym long.1) t.1.0 in
    subst (λ (y : Files × List ℕ). Takes bytes (outputs 2 y.0.0 y.0.1) y.1 × AreFiles 2 y.0)
    (some_is made x a.2) (
      whole,
      (
        inr (refl, long.0 ∙ sym long.1, names_short files t.1.1),
        (few, lengths_words files t.1.1),
      ),
    )

pub outputs_take : (version : ℕ) → (version ≡ 1) ⊎ (version ≡ 2)
    → (bytes : List ℕ) (x : Files × List ℕ) → IsBytes bytes → outputs_at version bytes ≡ Some x
    → Takes bytes (outputs version x.0.0 x.0.1) x.1 × AreFiles version x.0
outputs_take version known bytes x fits e =
    elim known as (λ _. Takes bytes (outputs version x.0.0 x.0.1) x.1 × AreFiles version x.0) [
      | inl one ↦
          subst (λ (v : ℕ). Takes bytes (outputs v x.0.0 x.0.1) x.1 × AreFiles v x.0) (sym one)
          (bare_takes bytes x fits (subst (λ (v : ℕ). outputs_at v bytes ≡ Some x) one e))
      | inr two ↦
          subst (λ (v : ℕ). Takes bytes (outputs v x.0.0 x.0.1) x.1 × AreFiles v x.0) (sym two)
          (named_takes bytes x fits (subst (λ (v : ℕ). outputs_at v bytes ≡ Some x) two e))
    ]

bare_again : (lengths rest : List ℕ) → AreCounted (2 ^ 32) IsWord lengths
    → bare_at (counted w32 word lengths ++ rest) ≡ Some (([], lengths), rest)
unfolding bare_at
bare_again lengths rest fits = rw (lengths_field.again lengths rest fits) refl

named_again : (names : List (List ℕ)) (lengths rest : List ℕ) → length names ≡ length lengths
    → AllByRecursion IsShort names → AreCounted (2 ^ 32) IsWord lengths
    → all_named_at (counted w32 named_length (zip names lengths) ++ rest)
    ≡ Some ((names, lengths), rest)
unfolding all_named_at
named_again names lengths rest many short fits =
    let few : length (zip names lengths) < 2 ^ 32 =
    subst (λ (n : ℕ). n < 2 ^ 32) (sym (zip_long names lengths many)) fits.0 in
    let a = all_named_field.again (zip names lengths) rest (few, all_zip names lengths short fits.1)
    in
    rw (a, firsts-zip names lengths (sym many), seconds-zip names lengths (sym many)) refl

pub outputs_again : (version : ℕ) (names : List (List ℕ)) (lengths rest : List ℕ)
    → IsVersion version names lengths → AreCounted (2 ^ 32) IsWord lengths
    → outputs_at version (outputs version names lengths ++ rest) ≡ Some ((names, lengths), rest)
outputs_again version names lengths rest known fits =
    elim known as (λ _. outputs_at version (outputs version names lengths ++ rest)
    ≡ Some ((names, lengths), rest)) [
      | inl one ↦
          subst (λ (v : ℕ). outputs_at v (outputs v names lengths ++ rest)
          ≡ Some ((names, lengths), rest)) (sym one.0)
          (bare_again lengths rest fits
          ∙ ap (λ (ns : List (List ℕ)). Some ((ns, lengths), rest)) (sym one.1))
      | inr two ↦
          subst (λ (v : ℕ). outputs_at v (outputs v names lengths ++ rest)
          ≡ Some ((names, lengths), rest)) (sym two.0)
          (named_again names lengths rest two.1 two.2 fits)
    ]

-- ---- the version

either : (a b : Bool) → (a || b) ≡ true → (a ≡ true) ⊎ (b ≡ true)
either true b e = inl refl
either false b e = inr e

pub known_version : (v : ℕ) → ((v == 1) || (v == 2)) ≡ true → (v ≡ 1) ⊎ (v ≡ 2)
known_version v e = elim (either (v == 1) (v == 2) e) as (λ _. (v ≡ 1) ⊎ (v ≡ 2))
    [ inl one ↦ inl (eqb-true v 1 one) | inr two ↦ inr (eqb-true v 2 two) ]

pub version_takes : (bytes : List ℕ) (x : ℕ × List ℕ) → version_at bytes ≡ Some x
    → (bytes ≡ x.0 ∷ x.1) × ((x.0 ≡ 1) ⊎ (x.0 ≡ 2))
version_takes [] x e = absurd cc
version_takes (b ∷ rest) x e = by ((b == 1) || (b == 2)) refl e
  where
    by : (t : Bool) → ((b == 1) || (b == 2)) ≡ t → (if t then Some (b, rest) else None) ≡ Some x
        → (b ∷ rest ≡ x.0 ∷ x.1) × ((x.0 ≡ 1) ⊎ (x.0 ≡ 2))
    by true is f = let made : ℕ × List ℕ = (b, rest) in
        subst (λ (y : ℕ × List ℕ). (b ∷ rest ≡ y.0 ∷ y.1) × ((y.0 ≡ 1) ⊎ (y.0 ≡ 2)))
        (some_is made x f) (refl, known_version b is)
    by false is f = absurd cc

pub version_again : (v : ℕ) (rest : List ℕ) → (v ≡ 1) ⊎ (v ≡ 2)
    → version_at (v ∷ rest) ≡ Some (v, rest)
version_again v rest known = elim known as (λ _. version_at (v ∷ rest) ≡ Some (v, rest)) [
  | inl one ↦ subst (λ (w : ℕ). version_at (w ∷ rest) ≡ Some (w, rest)) (sym one) refl
  | inr two ↦ subst (λ (w : ℕ). version_at (w ∷ rest) ≡ Some (w, rest)) (sym two) refl
]

pub version_known : (version : ℕ) (names : List (List ℕ)) (lengths : List ℕ)
    → IsVersion version names lengths → (version ≡ 1) ⊎ (version ≡ 2)
version_known version names lengths known =
    elim known as (λ _. (version ≡ 1) ⊎ (version ≡ 2)) [ inl one ↦ inl one.0 | inr two ↦ inr two.0 ]

-- ---- a loop that reads files into two lists

pub one_longer : {A B : Type 0} → (xs : List A) (ys : List B) (x : A) (y : B)
    → length xs ≡ length ys → length (xs ++ x ∷ []) ≡ length (ys ++ y ∷ [])
one_longer xs ys x y e = let a = length-append xs (x ∷ []) in let b = length-append ys (y ∷ []) in
    omega arith

-- the two lists that were read
pub two_lists : (bytes : List ℕ) (names : List (List ℕ)) (lengths : List ℕ) (rest : List ℕ)
    → counted_at w32 named_at bytes ≡ Some (zip names lengths, rest) → length names ≡ length lengths
    → all_named_at bytes ≡ Some ((names, lengths), rest)
unfolding all_named_at
two_lists bytes names lengths rest is many =
    rw (is, firsts-zip names lengths (sym many), seconds-zip names lengths (sym many)) refl

pub named_gives : {X : Type 0} (names : X → List (List ℕ)) (lengths : X → List ℕ)
    (rest : X → List ℕ) (r : Result X Stop) (count : ℕ) (bytes after : List ℕ)
    → number_at w32 bytes ≡ Some (count, after)
    → Gives (λ x. (zip (names x) (lengths x), rest x)) r (some_at named_at count after)
    → IfOk r (λ x. length (names x) ≡ length (lengths x))
    → Gives (λ x. ((names x, lengths x), rest x)) r (all_named_at bytes)
unfolding all_named_at counted_at
named_gives names lengths rest (Ok x) count bytes after first read many =
    let whole : counted_at w32 named_at bytes ≡ Some (zip (names x) (lengths x), rest x) =
    rw first read in
    two_lists bytes (names x) (lengths x) (rest x) whole many
named_gives names lengths rest (Err stops.Memory) count bytes after first read many = tt
named_gives names lengths rest (Err stops.Other) count bytes after first read many =
    rw (first, read) refl
