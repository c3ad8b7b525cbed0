-- Sizes and rows that are read are those that were written, and what was written is read again.
use Rattle.std.proofs.Common.{◌≡◌, ℕ, ℤ, zero, suc, ◌+◌, ◌*◌, ◌≤◌, Bool, true, false, cond, eqb, List, [], ◌∷◌, ◌++◌, length, take, drop, Some, None, refl, sym, ap, subst, ◌∙◌, append_assoc, arith}
use Rattle.std.specs.Fmt.{decimal, signed_decimal}
use Rattle.std.specs.List.{flat_map, range_with_len, AllByRecursion}
use Rattle.std.specs.Int.{w64}
use Rattle.std.specs.Int.RustNames.{FitsSigned}
use Rattle.std.proofs.lemmas.Bool.{eqb-true}
use Rattle.std.proofs.lemmas.List.{append-nil, take_at, drop_at, take-append-drop, length-append, length-take-le, length-drop, drop-drop}
use Rattle.std.proofs.lemmas.List.Concat.{flat_map-cons}
use Rattle.cx_ascii.specs.Output.{values_of, after_blank, row_in}
use Rattle.cx_ascii_read.specs.Spelling.{IsField}
use Rattle.cx_ascii_read.specs.Records.{IsSize}
use Rattle.cx_ascii_read.specs.Reading.{◌>>=◌, is_end, word, behind, size_of, value_of, value_at, size_end, size_at, sizes_at, row_at, rows_at}
use Rattle.cx_ascii_read.proofs.WordLaws.{bind_some, some_is, word-behind, word_again, behind_again, field_of_word}
use Rattle.cx_ascii_read.proofs.NumberLaws.{size_word, value_word}

pub value_field : (e : ℕ) → is_end e ≡ true
    → IsField (λ v. signed_decimal v ++ e ∷ []) (value_at e) (FitsSigned w64)
value_field e end = field_of_word signed_decimal value_of (FitsSigned w64) value_word e end

-- ---- a row

values-one : (v : ℤ) → values_of (v ∷ []) ≡ signed_decimal v
values-one v = append-nil (signed_decimal v)

values-more : (v : ℤ) (vs : List ℤ) → 1 ≤ length vs
    → values_of (v ∷ vs) ≡ signed_decimal v ++ 32 ∷ values_of vs
values-more v [] some = absurd (omega arith)
values-more v (w ∷ ws) some =
    ap (λ (r : List ℕ). signed_decimal v ++ r) (flat_map-cons after_blank w ws)

abbrev pub row_text : List ℤ → List ℕ
row_text vs = values_of vs ++ 10 ∷ []

joined : (a m b n rest : List ℕ) → ((a ++ (m ++ b)) ++ n) ++ rest ≡ (a ++ m) ++ ((b ++ n) ++ rest)
joined a m b n rest = simp append_assoc

row-more : (v : ℤ) (vs : List ℤ) (rest : List ℕ) → 1 ≤ length vs
    → row_text (v ∷ vs) ++ rest ≡ (signed_decimal v ++ 32 ∷ []) ++ (row_text vs ++ rest)
row-more v vs rest some =
    ap (λ (t : List ℕ). (t ++ 10 ∷ []) ++ rest) (values-more v vs some)
    ∙ joined (signed_decimal v) (32 ∷ []) (values_of vs) (10 ∷ []) rest

row-one : (v : ℤ) (rest : List ℕ)
    → row_text (v ∷ []) ++ rest ≡ (signed_decimal v ++ 10 ∷ []) ++ rest
row-one v rest = ap (λ (t : List ℕ). (t ++ 10 ∷ []) ++ rest) (values-one v)

abbrev IsRowRead : ℕ → List ℕ → List ℤ × List ℕ → Type 0
IsRowRead more bytes x =
    (bytes ≡ row_text x.0 ++ x.1) × (length x.0 ≡ suc more) × AllByRecursion (FitsSigned w64) x.0

row_takes : (more : ℕ) (bytes : List ℕ) (x : List ℤ × List ℕ) → row_at more bytes ≡ Some x
    → IsRowRead more bytes x
unfolding row_at
row_takes zero bytes x h =
    let a = bind_some (value_at 10 bytes) (λ v. Some (v.0 ∷ [], v.1)) x h in
    let t = (value_field 10 refl).takes bytes a.0 a.1 in
    subst (IsRowRead zero bytes) (some_is (a.0.0 ∷ [], a.0.1) x a.2)
    (t.0 ∙ sym (row-one a.0.0 a.0.1), refl, (t.1, tt))
row_takes (suc more) bytes x h =
    let a = bind_some (value_at 32 bytes)
    (λ v. row_at more v.1 >>= λ others. Some (v.0 ∷ others.0, others.1)) x h in
    let b = bind_some (row_at more a.0.1) (λ others. Some (a.0.0 ∷ others.0, others.1)) x a.2 in
    let t = (value_field 32 refl).takes bytes a.0 a.1 in
    let u = row_takes more a.0.1 b.0 b.1 in
    let whole = t.0 ∙ ap (λ (r : List ℕ). (signed_decimal a.0.0 ++ 32 ∷ []) ++ r) u.0
    ∙ sym (row-more a.0.0 b.0.0 b.0.1 (omega (arith, u.1))) in
    subst (IsRowRead (suc more) bytes) (some_is (a.0.0 ∷ b.0.0, b.0.1) x b.2)
    (whole, ap suc u.1, (t.1, u.2))

row_again : (more : ℕ) (vs : List ℤ) (rest : List ℕ) → length vs ≡ suc more
    → AllByRecursion (FitsSigned w64) vs → row_at more (row_text vs ++ rest) ≡ Some (vs, rest)
unfolding row_at
row_again zero [] rest len fits = absurd (omega (arith, len))
row_again zero (v ∷ []) rest len fits =
    ap (row_at zero) (row-one v rest) ∙ rw ((value_field 10 refl).again v rest fits.0) refl
row_again zero (v ∷ w ∷ ws) rest len fits = absurd (omega (arith, len))
row_again (suc more) [] rest len fits = absurd (omega (arith, len))
row_again (suc more) (v ∷ vs) rest len fits =
    ap (row_at (suc more)) (row-more v vs rest (omega (arith, len)))
    ∙ rw (
      (value_field 32 refl).again v (row_text vs ++ rest) fits.0,
      row_again more vs rest (omega (arith, len)) fits.1,
    ) refl

-- ---- rows

pub all-append : {A : Type 0} (P : A → Type 0) (xs ys : List A) → AllByRecursion P xs
    → AllByRecursion P ys → AllByRecursion P (xs ++ ys)
all-append P [] ys p q = q
all-append P (x ∷ xs) ys p q = (p.0, all-append P xs ys p.1 q)

all-take : {A : Type 0} (P : A → Type 0) (n : ℕ) (xs : List A) → AllByRecursion P xs
    → AllByRecursion P (take n xs)
all-take P zero [] p = tt
all-take P (suc n) [] p = tt
all-take P zero (x ∷ xs) p = tt
all-take P (suc n) (x ∷ xs) p = (p.0, all-take P n xs p.1)

all-drop : {A : Type 0} (P : A → Type 0) (n : ℕ) (xs : List A) → AllByRecursion P xs
    → AllByRecursion P (drop n xs)
all-drop P zero [] p = tt
all-drop P (suc n) [] p = tt
all-drop P zero (x ∷ xs) p = p
all-drop P (suc n) (x ∷ xs) p = all-drop P n xs p.1

-- so many rows of a level, from its first value on
abbrev pub rows_of : ℕ → ℕ → List ℤ → List (List ℤ)
rows_of width zero level = []
rows_of width (suc count) level = take width level ∷ rows_of width count (drop width level)

abbrev pub rows_text : ℕ → ℕ → List ℤ → List ℕ
rows_text width count level = flat_map row_text (rows_of width count level)

pub rows-are : (width : ℕ) (level : List ℤ) (count k : ℕ)
    → flat_map (row_in width level) (range_with_len k count)
    ≡ rows_text width count (drop (width * k) level)
rows-are width level zero k = refl
rows-are width level (suc count) k =
    let next : width * k + width ≡ width * (k + 1) = omega arith in
    let others : drop (width * (k + 1)) level ≡ drop width (drop (width * k) level) =
    ap (λ (n : ℕ). drop n level) (sym next) ∙ sym (drop-drop width (width * k) level) in
    flat_map-cons (row_in width level) k (range_with_len (k + 1) count)
    ∙ ap (λ (r : List ℕ). row_in width level k ++ r)
    (rows-are width level count (k + 1) ∙ ap (λ (l : List ℤ). rows_text width count l) others)
    ∙ sym (flat_map-cons row_text (take width (drop (width * k) level))
    (rows_of width count (drop width (drop (width * k) level))))

rows-more : (width count : ℕ) (row others : List ℤ) (rest : List ℕ) → length row ≡ width
    → rows_text width (suc count) (row ++ others) ++ rest
    ≡ row_text row ++ (rows_text width count others ++ rest)
rows-more width count row others rest len =
    ap (λ (t : List ℕ). t ++ rest)
    (flat_map-cons row_text (take width (row ++ others))
    (rows_of width count (drop width (row ++ others))))
    ∙ ap (λ (r : List ℤ). (row_text r ++ rows_text width count (drop width (row ++ others)))
    ++ rest) (take_at row others width len)
    ∙ ap (λ (r : List ℤ). (row_text row ++ rows_text width count r) ++ rest)
    (drop_at row others width len)
    ∙ append_assoc (row_text row) (rows_text width count others) rest

abbrev pub AreRowsRead : ℕ → ℕ → List ℕ → List ℤ × List ℕ → Type 0
AreRowsRead more count bytes x =
    (bytes ≡ rows_text (suc more) count x.0 ++ x.1) × (length x.0 ≡ suc more * count)
    × AllByRecursion (FitsSigned w64) x.0

pub rows_take : (more count : ℕ) (bytes : List ℕ) (x : List ℤ × List ℕ)
    → rows_at more count bytes ≡ Some x → AreRowsRead more count bytes x
unfolding rows_at
rows_take more zero bytes x h =
    let none : 0 ≡ suc more * 0 = omega arith in
    subst (AreRowsRead more zero bytes) (some_is ([], bytes) x h) (refl, none, tt)
rows_take more (suc count) bytes x h =
    let a = bind_some (row_at more bytes)
    (λ row. rows_at more count row.1 >>= λ others. Some (row.0 ++ others.0, others.1)) x h in
    let b = bind_some (rows_at more count a.0.1) (λ others. Some (a.0.0 ++ others.0, others.1))
    x a.2 in
    let t = row_takes more bytes a.0 a.1 in
    let u = rows_take more count a.0.1 b.0 b.1 in
    let next : suc more * suc count ≡ suc more * count + suc more = omega arith in
    let whole = t.0 ∙ ap (λ (r : List ℕ). row_text a.0.0 ++ r) u.0
    ∙ sym (rows-more (suc more) count a.0.0 b.0.0 b.0.1 t.1) in
    subst (AreRowsRead more (suc count) bytes) (some_is (a.0.0 ++ b.0.0, b.0.1) x b.2) (
      whole,
      omega (arith, next, t.1, u.1, length-append a.0.0 b.0.0),
      all-append (FitsSigned w64) a.0.0 b.0.0 t.2 u.2,
    )

pub rows_again : (more count : ℕ) (level : List ℤ) (rest : List ℕ) → length level ≡ suc more * count
    → AllByRecursion (FitsSigned w64) level
    → rows_at more count (rows_text (suc more) count level ++ rest) ≡ Some (level, rest)
unfolding rows_at
rows_again more zero [] rest len fits = refl
rows_again more zero (v ∷ vs) rest len fits =
    absurd (let none : suc more * 0 ≡ 0 = omega arith in omega (arith, len, none))
rows_again more (suc count) level rest len fits =
    let width = suc more in
    let next : suc more * suc count ≡ suc more * count + suc more = omega arith in
    let row = take width level in
    let others = drop width level in
    let one : length row ≡ width = length-take-le width level (omega (arith, len, next)) in
    let left : length others ≡ suc more * count =
    omega (arith, len, next, length-drop width level) in
    let regrouped : rows_text width (suc count) level ++ rest
    ≡ row_text row ++ (rows_text width count others ++ rest) =
    ap (λ (l : List ℤ). rows_text width (suc count) l ++ rest) (sym (take-append-drop width level))
    ∙ rows-more width count row others rest one in
    ap (rows_at more (suc count)) regrouped
    ∙ rw (
      row_again more row (rows_text width count others ++ rest) one
          (all-take (FitsSigned w64) width level fits),
      rows_again more count others rest left (all-drop (FitsSigned w64) width level fits),
    )
    (ap (λ (l : List ℤ). Some (l, rest)) (take-append-drop width level))

-- ---- sizes

-- the byte behind a size
abbrev end_byte : Bool → ℕ
end_byte true = 10
end_byte false = 32

end_is : (last : Bool) → is_end (end_byte last) ≡ true
end_is true = refl
end_is false = refl

end_takes_by : (b : ℕ) (bs : List ℕ) (x : Bool × List ℕ) (line blank : Bool) → eqb b 10 ≡ line
    → eqb b 32 ≡ blank → cond line (Some (true, bs)) (cond blank (Some (false, bs)) None) ≡ Some x
    → b ∷ bs ≡ end_byte x.0 ∷ x.1
end_takes_by b bs x true blank is other h =
    subst (λ (y : Bool × List ℕ). b ∷ bs ≡ end_byte y.0 ∷ y.1) (some_is (true, bs) x h)
    (ap (λ (c : ℕ). c ∷ bs) (eqb-true b 10 is))
end_takes_by b bs x false true is other h =
    subst (λ (y : Bool × List ℕ). b ∷ bs ≡ end_byte y.0 ∷ y.1) (some_is (false, bs) x h)
    (ap (λ (c : ℕ). c ∷ bs) (eqb-true b 32 other))
end_takes_by b bs x false false is other h = absurd cc

end_takes : (bytes : List ℕ) (x : Bool × List ℕ) → size_end bytes ≡ Some x
    → bytes ≡ end_byte x.0 ∷ x.1
end_takes [] x h = absurd cc
end_takes (b ∷ bs) x h = end_takes_by b bs x (eqb b 10) (eqb b 32) refl refl h

end_again : (last : Bool) (rest : List ℕ) → size_end (end_byte last ∷ rest) ≡ Some (last, rest)
end_again true rest = refl
end_again false rest = refl

abbrev IsSizeRead : List ℕ → ℕ × Bool × List ℕ → Type 0
IsSizeRead bytes x = (bytes ≡ (decimal x.0 ++ end_byte x.1 ∷ []) ++ x.2) × IsSize x.0

size_takes : (bytes : List ℕ) (x : ℕ × Bool × List ℕ) → size_at bytes ≡ Some x → IsSizeRead bytes x
size_takes bytes x h =
    let a = bind_some (size_of (word bytes))
    (λ n. size_end (behind bytes) >>= λ end. Some (n, end.0, end.1)) x h in
    let b = bind_some (size_end (behind bytes)) (λ end. Some (a.0, end.0, end.1)) x a.2 in
    let t = size_word.takes (word bytes) a.0 a.1 in
    let whole : bytes ≡ (decimal a.0 ++ end_byte b.0.0 ∷ []) ++ b.0.1 =
    word-behind bytes ∙ ap (λ (r : List ℕ). word bytes ++ r) (end_takes (behind bytes) b.0 b.1)
    ∙ ap (λ (f : List ℕ). f ++ end_byte b.0.0 ∷ b.0.1) t.0
    ∙ sym (append_assoc (decimal a.0) (end_byte b.0.0 ∷ []) b.0.1) in
    subst (IsSizeRead bytes) (some_is (a.0, b.0.0, b.0.1) x b.2) (whole, t.1)

size_again : (n : ℕ) (last : Bool) (rest : List ℕ) → IsSize n
    → size_at ((decimal n ++ end_byte last ∷ []) ++ rest) ≡ Some (n, last, rest)
size_again n last rest fits =
    let p = size_word.plain n fits in
    ap size_at (append_assoc (decimal n) (end_byte last ∷ []) rest)
    ∙ rw (
      word_again (decimal n) rest (end_byte last) p (end_is last),
      behind_again (decimal n) rest (end_byte last) p (end_is last),
      size_word.again n fits,
      end_again last rest,
    ) refl

-- sizes with blanks between and the end of the line behind
abbrev pub sizes_line : List ℕ → List ℕ
sizes_line [] = []
sizes_line (n ∷ []) = decimal n ++ 10 ∷ []
sizes_line (n ∷ m ∷ ns) = (decimal n ++ 32 ∷ []) ++ sizes_line (m ∷ ns)

line-more : (n : ℕ) (ns rest : List ℕ) → 1 ≤ length ns
    → sizes_line (n ∷ ns) ++ rest ≡ (decimal n ++ 32 ∷ []) ++ (sizes_line ns ++ rest)
line-more n [] rest some = absurd (omega arith)
line-more n (m ∷ ns) rest some = append_assoc (decimal n ++ 32 ∷ []) (sizes_line (m ∷ ns)) rest

pub record AreSizesRead (most : ℕ) (bytes : List ℕ) (x : List ℕ × List ℕ) : Type 0 where
  pub spelled : bytes ≡ sizes_line x.0 ++ x.1
  pub some : 1 ≤ length x.0
  pub most_sizes : length x.0 ≤ most
  pub fits : AllByRecursion IsSize x.0

sizes_take_by : (more : ℕ) (bytes : List ℕ) (x : List ℕ × List ℕ)
    → ((rest : List ℕ) (y : List ℕ × List ℕ) → sizes_at more rest ≡ Some y
    → AreSizesRead more rest y)
    → (n : ℕ) (last : Bool) (rest : List ℕ) → IsSizeRead bytes (n, last, rest)
    → cond last (Some (n ∷ [], rest))
    (sizes_at more rest >>= λ others. Some (n ∷ others.0, others.1)) ≡ Some x
    → AreSizesRead (suc more) bytes x
sizes_take_by more bytes x others_take n true rest t e =
    subst (AreSizesRead (suc more) bytes) (some_is (n ∷ [], rest) x e)
    (record { spelled = t.0; some = omega arith; most_sizes = omega arith; fits = (t.1, tt) })
sizes_take_by more bytes x others_take n false rest t e =
    let b = bind_some (sizes_at more rest) (λ others. Some (n ∷ others.0, others.1)) x e in
    let u = others_take rest b.0 b.1 in
    subst (AreSizesRead (suc more) bytes) (some_is (n ∷ b.0.0, b.0.1) x b.2) (record {
      spelled = t.0 ∙ ap (λ (r : List ℕ). (decimal n ++ 32 ∷ []) ++ r) u.spelled
          ∙ sym (line-more n b.0.0 b.0.1 u.some);
      some = omega arith;
      most_sizes = omega (arith, u.most_sizes);
      fits = (t.1, u.fits);
    })

pub sizes_take : (most : ℕ) (bytes : List ℕ) (x : List ℕ × List ℕ) → sizes_at most bytes ≡ Some x
    → AreSizesRead most bytes x
unfolding sizes_at
sizes_take zero bytes x h = absurd cc
sizes_take (suc more) bytes x h =
    let a = bind_some (size_at bytes)
    (λ size. cond size.1 (Some (size.0 ∷ [], size.2))
    (sizes_at more size.2 >>= λ others. Some (size.0 ∷ others.0, others.1))) x h in
    sizes_take_by more bytes x (λ rest y e. sizes_take more rest y e) a.0.0 a.0.1 a.0.2
    (size_takes bytes a.0 a.1) a.2

pub sizes_again : (most : ℕ) (ns rest : List ℕ) → 1 ≤ length ns → length ns ≤ most
    → AllByRecursion IsSize ns → sizes_at most (sizes_line ns ++ rest) ≡ Some (ns, rest)
unfolding sizes_at
sizes_again zero [] rest some few fits = absurd (omega arith)
sizes_again zero (n ∷ ns) rest some few fits = absurd (omega arith)
sizes_again (suc more) [] rest some few fits = absurd (omega arith)
sizes_again (suc more) (n ∷ []) rest some few fits = rw (size_again n true rest fits.0) refl
sizes_again (suc more) (n ∷ m ∷ ns) rest some few fits =
    ap (sizes_at (suc more)) (line-more n (m ∷ ns) rest (omega arith))
    ∙ rw (
      size_again n false (sizes_line (m ∷ ns) ++ rest) fits.0,
      sizes_again more (m ∷ ns) rest (omega arith) (omega (arith, few)) fits.1,
    ) refl
