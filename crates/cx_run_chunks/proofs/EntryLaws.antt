-- What is read of bytes is what they spell.
use Rattle.std.proofs.Common.{◌≡◌, ℕ, zero, suc, ◌≤◌, ◌+◌, List, [], ◌∷◌, ◌++◌, length, Option, Some, None, refl, sym, ap, subst, ◌∙◌, append_assoc, arith}
use Rattle.std.specs.List.{flat_map, AllByRecursion}
use Rattle.std.proofs.lemmas.List.{append-nil, length-append}
use Rattle.std.proofs.lemmas.List.Concat.{flat_map-cons}
use Rattle.cx_ascii_read.specs.Spelling.{IsField, SpellsAll, ReadsAll}
use Rattle.cx_ascii_read.specs.Reading.{◌>>=◌}
use Rattle.cx_ascii_read.proofs.WordLaws.{bind_some, some_is}
use Rattle.cx_run_chunks.specs.Entries.{entries_at}

module _ {E : Type 0} (text : E → List ℕ) (read : List ℕ → Option (E × List ℕ))
    (Fits : E → Type 0) (field : IsField text read Fits) (nothing : read [] ≡ None) where
  -- a text is there
  some_text : (x : E) → Fits x → (b : ℕ) × (bs : List ℕ) × (text x ≡ b ∷ bs)
  some_text x is = by (text x) refl
    where
      by : (t : List ℕ) → text x ≡ t → (b : ℕ) × (bs : List ℕ) × (text x ≡ b ∷ bs)
      by [] e =
          absurd (let bad : Some (x, []) ≡ None =
          sym (field.again x [] is) ∙ ap read (append-nil (text x) ∙ e) ∙ nothing in cc)
      by (b ∷ bs) e = (b, bs, e)

  -- a step that reads an entry
  step : (count b : ℕ) (bytes : List ℕ) (x : E) (after : List ℕ) (xs : List E)
      → read (b ∷ bytes) ≡ Some (x, after) → entries_at read count after ≡ Some xs
      → entries_at read (suc count) (b ∷ bytes) ≡ Some (x ∷ xs)
  unfolding entries_at
  step count b bytes x after xs first others =
      ap (λ (o : Option (E × List ℕ)). o
      >>= λ f. entries_at read count f.1 >>= λ os. Some (f.0 ∷ os)) first
      ∙ ap (λ (o : Option (List E)). o >>= λ os. Some (x ∷ os)) others

  nothing_at : (count : ℕ) → entries_at read count [] ≡ Some []
  unfolding entries_at
  nothing_at zero = refl
  nothing_at (suc count) = refl

  read_by : (xs : List E) (count : ℕ) → AllByRecursion Fits xs → length xs ≤ count
      → entries_at read count (flat_map text xs) ≡ Some xs
  read_by [] count all le = nothing_at count
  read_by (x ∷ xs) zero all le = absurd (omega arith)
  read_by (x ∷ xs) (suc count) all le =
      let t = some_text x all.0 in
      let whole : flat_map text (x ∷ xs) ≡ t.0 ∷ (t.1 ++ flat_map text xs) =
      flat_map-cons text x xs ∙ ap (λ (s : List ℕ). s ++ flat_map text xs) t.2 in
      let first : read (t.0 ∷ (t.1 ++ flat_map text xs)) ≡ Some (x, flat_map text xs) =
      ap read (sym whole ∙ flat_map-cons text x xs)
      ∙ field.again x (flat_map text xs) all.0 in
      ap (entries_at read (suc count)) whole
      ∙ step count t.0 (t.1 ++ flat_map text xs) x (flat_map text xs) xs first
      (read_by xs count all.1 (omega arith))

  -- there are no more entries than bytes
  few_entries : (xs : List E) → AllByRecursion Fits xs → length xs ≤ length (flat_map text xs)
  few_entries [] all = omega arith
  few_entries (x ∷ xs) all =
      let t = some_text x all.0 in
      let rest = few_entries xs all.1 in
      let size : length (flat_map text (x ∷ xs)) ≡ length (text x) + length (flat_map text xs) =
      ap length (flat_map-cons text x xs) ∙ length-append (text x) (flat_map text xs) in
      let long : length (text x) ≡ suc (length t.1) = ap length t.2 in
      omega arith

  -- what bytes spell is read
  pub spelled_read : (bytes : List ℕ) (xs : List E) → SpellsAll text Fits bytes xs
      → entries_at read (length bytes) bytes ≡ Some xs
  spelled_read bytes xs spells =
      ap (λ (bs : List ℕ). entries_at read (length bs) bs) spells.spelled
      ∙ read_by xs (length (flat_map text xs)) spells.in_range (few_entries xs spells.in_range)

  -- what is read is spelled
  pub read_spelled : (count : ℕ) (bytes : List ℕ) (xs : List E)
      → entries_at read count bytes ≡ Some xs → SpellsAll text Fits bytes xs
  unfolding entries_at
  read_spelled zero [] xs h =
      subst (SpellsAll text Fits []) (some_is [] xs h) (record { in_range = tt; spelled = refl })
  read_spelled (suc count) [] xs h =
      subst (SpellsAll text Fits []) (some_is [] xs h) (record { in_range = tt; spelled = refl })
  read_spelled zero (b ∷ bytes) xs h = absurd cc
  read_spelled (suc count) (b ∷ bytes) xs h =
      let a = bind_some (read (b ∷ bytes)) _ xs h in
      let d = bind_some (entries_at read count a.0.1) _ xs a.2 in
      let t = field.takes (b ∷ bytes) a.0 a.1 in
      let others = read_spelled count a.0.1 d.0 d.1 in
      subst (SpellsAll text Fits (b ∷ bytes)) (some_is (a.0.0 ∷ d.0) xs d.2) (record {
        in_range = (t.1, others.in_range);
        spelled = t.0 ∙ ap (λ (s : List ℕ). text a.0.0 ++ s) others.spelled
            ∙ sym (flat_map-cons text a.0.0 d.0);
      })

  -- an entry has some bytes
  pub gets_shorter : (bytes : List ℕ) (x : E) (after : List ℕ) → read bytes ≡ Some (x, after)
      → suc (length after) ≤ length bytes
  gets_shorter bytes x after h =
      let t = field.takes bytes (x, after) h in
      let s = some_text x t.1 in
      let long : length (text x) ≡ suc (length s.1) = ap length s.2 in
      omega (arith, long, ap length t.0, length-append (text x) after)

  -- a reader's answer is what is read
  pub answer_is : (bytes : List ℕ) (answer : Option (List E)) → ReadsAll text Fits bytes answer
      → answer ≡ entries_at read (length bytes) bytes
  answer_is bytes (Some xs) spells = sym (spelled_read bytes xs spells)
  answer_is bytes None unread = by (entries_at read (length bytes) bytes) refl
    where
      by : (o : Option (List E)) → entries_at read (length bytes) bytes ≡ o → None ≡ o
      by None e = refl
      by (Some xs) e = absurd (unread xs (read_spelled (length bytes) bytes xs e))

-- no more entries are read than there are bytes
pub few_read : {E : Type 0} (read : List ℕ → Option (E × List ℕ)) (count : ℕ) (bytes : List ℕ)
    (xs : List E) → entries_at read count bytes ≡ Some xs → length xs ≤ count
unfolding entries_at
few_read read zero [] xs h = let e = ap length (some_is [] xs h) in omega arith
few_read read (suc count) [] xs h = let e = ap length (some_is [] xs h) in omega arith
few_read read zero (b ∷ bytes) xs h = absurd cc
few_read read (suc count) (b ∷ bytes) xs h =
    let a = bind_some (read (b ∷ bytes)) _ xs h in
    let d = bind_some (entries_at read count a.0.1) _ xs a.2 in
    let rest = few_read read count a.0.1 d.0 d.1 in
    let e = ap length (some_is (a.0.0 ∷ d.0) xs d.2) in
    omega arith

-- ---- one entry after another

-- what was read before, and what is still read
abbrev pub with_taken : {E : Type 0} → List E → Option (List E) → Option (List E)
with_taken taken others = others >>= λ os. Some (taken ++ os)

-- Of all entries some are taken, and the rest is still to be read.
pub record AreTaken {E : Type 0} (read : List ℕ → Option (E × List ℕ)) (bytes : List ℕ)
    (taken : List E) (rest : List ℕ) : Type 0 where
  pub count : ℕ
  pub enough : length rest ≤ count
  pub left : entries_at read (length bytes) bytes ≡ with_taken taken (entries_at read count rest)

module _ {E : Type 0} (read : List ℕ → Option (E × List ℕ)) (bytes : List ℕ) where
  none_before : (others : Option (List E)) → others ≡ with_taken [] others
  none_before None = refl
  none_before (Some os) = refl

  pub none_taken : AreTaken read bytes [] bytes
  none_taken = record {
    count = length bytes;
    enough = omega arith;
    left = none_before (entries_at read (length bytes) bytes);
  }

  one_before : (taken : List E) (x : E) (others : Option (List E))
      → with_taken taken (others >>= λ os. Some (x ∷ os)) ≡ with_taken (taken ++ x ∷ []) others
  one_before taken x None = refl
  one_before taken x (Some os) =
      ap (λ (xs : List E). Some xs) (sym (append_assoc taken (x ∷ []) os))

  -- the entry in front, and what comes after it
  in_front : (count : ℕ) (rest : List ℕ) (x : E) (after : List ℕ) → (rest ≡ [] → ⊥)
      → length rest ≤ count → read rest ≡ Some (x, after)
      → (more : ℕ) × (count ≡ suc more)
      × (entries_at read count rest ≡ (entries_at read more after >>= λ os. Some (x ∷ os)))
  unfolding entries_at
  in_front count [] x after some enough h = absurd (some refl)
  in_front zero (b ∷ bs) x after some enough h = absurd (omega arith)
  in_front (suc more) (b ∷ bs) x after some enough h = (
    more,
    refl,
    ap (λ (o : Option (E × List ℕ)). o
        >>= λ f. entries_at read more f.1 >>= λ os. Some (f.0 ∷ os)) h,
  )

  none_in_front : (count : ℕ) (rest : List ℕ) → (rest ≡ [] → ⊥) → read rest ≡ None
      → entries_at read count rest ≡ None
  unfolding entries_at
  none_in_front count [] some h = absurd (some refl)
  none_in_front zero (b ∷ bs) some h = refl
  none_in_front (suc more) (b ∷ bs) some h =
      ap (λ (o : Option (E × List ℕ)). o
      >>= λ f. entries_at read more f.1 >>= λ os. Some (f.0 ∷ os)) h

  none_after : (count : ℕ) → entries_at read count [] ≡ Some []
  unfolding entries_at
  none_after zero = refl
  none_after (suc count) = refl

  module _ (taken : List E) (rest : List ℕ) (so_far : AreTaken read bytes taken rest) where
    -- one more is taken
    pub one_taken : (x : E) (after : List ℕ) → (rest ≡ [] → ⊥) → read rest ≡ Some (x, after)
        → suc (length after) ≤ length rest → AreTaken read bytes (taken ++ x ∷ []) after
    one_taken x after some h shorter =
        let f = in_front so_far.count rest x after some so_far.enough h in
        let one : so_far.count ≡ suc f.0 = f.1 in
        let long : length rest ≤ so_far.count = so_far.enough in
        record {
          count = f.0;
          enough = omega arith;
          left = so_far.left ∙ ap (with_taken taken) f.2
              ∙ one_before taken x (entries_at read f.0 after);
        }

    -- where one is in front, all are those before it, this one and others
    pub one_left : (x : E) (after : List ℕ) → (rest ≡ [] → ⊥) → read rest ≡ Some (x, after)
        → (others : Option (List E))
        × (entries_at read (length bytes) bytes
        ≡ with_taken taken (others >>= λ os. Some (x ∷ os)))
    one_left x after some h =
        let f = in_front so_far.count rest x after some so_far.enough h in
        (entries_at read f.0 after, so_far.left ∙ ap (with_taken taken) f.2)

    -- where none is in front, the bytes aren't entries
    pub not_entries : (rest ≡ [] → ⊥) → read rest ≡ None
        → entries_at read (length bytes) bytes ≡ None
    not_entries some h =
        so_far.left ∙ ap (with_taken taken) (none_in_front so_far.count rest some h)

    -- where nothing is left, all are taken
    pub all_taken : rest ≡ [] → entries_at read (length bytes) bytes ≡ Some taken
    all_taken none =
        so_far.left ∙ ap (λ (bs : List ℕ). with_taken taken (entries_at read so_far.count bs)) none
        ∙ ap (with_taken taken) (none_after so_far.count)
        ∙ ap (λ (xs : List E). Some xs) (append-nil taken)
