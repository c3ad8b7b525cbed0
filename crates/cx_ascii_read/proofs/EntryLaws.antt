-- All entries of a file.
use Rattle.std.proofs.Common.{◌≡◌, ℕ, ◌≤◌, ◌<◌, Bool, false, eqb, List, [], ◌∷◌, ◌++◌, length, Option, Some, None, Err, refl, sym, ap, ◌∙◌, append_assoc, arith}
use Rattle.std.specs.List.{flat_map, AllByRecursion}
use Rattle.std.proofs.lemmas.Bool.{eqb-false}
use Rattle.std.proofs.lemmas.List.{append-nil, length-append}
use Rattle.std.proofs.lemmas.List.Concat.{flat_map-cons}
use Rattle.std.proofs.lemmas.Grind.{flat_map-append}
use Rattle.cx_ascii_read.specs.declared.words.Stop.{Stop}
use Rattle.cx_ascii_read.specs.declared.words.Stop.TheVariants as stops
use Rattle.cx_ascii_read.specs.Spelling.{IsField, SpellsAll}
use Rattle.cx_ascii_read.specs.Reading.{Stops, GivesAll}
use Rattle.cx_ascii_read.proofs.WordLaws.{some_is}
use Rattle.cx_ascii_read.proofs.RowLaws.{all-append}

pub some_left : (rest : List ℕ) (empty : Bool) → empty ≡ eqb (length rest) 0 → empty ≡ false
    → rest ≡ [] → ⊥
some_left rest empty is some none = eqb-false (length rest) 0 (sym is ∙ some) (ap length none)

some_long : (text : List ℕ) → (text ≡ [] → ⊥) → 1 ≤ length text
some_long [] some = absurd (some refl)
some_long (b ∷ bs) some = omega arith

-- some entries are read, and the rest isn't
pub record AreRead {E : Type 0} (text : E → List ℕ) (Fits : E → Type 0) (bytes : List ℕ)
    (es : List E) (rest : List ℕ) : Type 0 where
  pub spelled : bytes ≡ flat_map text es ++ rest
  pub fits : AllByRecursion Fits es

module _ {E : Type 0} (text : E → List ℕ) (read : List ℕ → Option (E × List ℕ)) (Fits : E → Type 0)
    (field : IsField text read Fits) (nothing : read [] ≡ None) where
  nothing_read : (rest : List ℕ) → rest ≡ [] → read rest ≡ None
  nothing_read rest none = ap read none ∙ nothing

  pub no_text : (r : E) (rest : List ℕ) → Fits r → text r ++ rest ≡ [] → ⊥
  no_text r rest is none =
      absurd (let bad : Some (r, rest) ≡ None =
      sym (field.again r rest is) ∙ nothing_read (text r ++ rest) none in cc)

  texts-cons : (r : E) (rs : List E) (rest : List ℕ)
      → flat_map text (r ∷ rs) ++ rest ≡ text r ++ (flat_map text rs ++ rest)
  texts-cons r rs rest = ap (λ (t : List ℕ). t ++ rest) (flat_map-cons text r rs)
      ∙ append_assoc (text r) (flat_map text rs) rest

  -- what spells more than some entries begins with these
  pub goes_on : (front rs : List E) (rest : List ℕ) → AllByRecursion Fits front
      → AllByRecursion Fits rs → flat_map text front ++ rest ≡ flat_map text rs
      → (more : List E) × (rs ≡ front ++ more) × (rest ≡ flat_map text more)
      × AllByRecursion Fits more
  goes_on [] rs rest p q e = (rs, refl, e, q)
  goes_on (r ∷ front) [] rest p q e =
      absurd (no_text r (flat_map text front ++ rest) p.0 (sym (texts-cons r front rest) ∙ e))
  goes_on (r ∷ front) (s ∷ rs) rest p q e =
      let both : Some (r, flat_map text front ++ rest) ≡ Some (s, flat_map text rs) =
      sym (field.again r (flat_map text front ++ rest) p.0)
      ∙ ap read (sym (texts-cons r front rest) ∙ e ∙ flat_map-cons text s rs)
      ∙ field.again s (flat_map text rs) q.0 in
      let pair = some_is (r, flat_map text front ++ rest) (s, flat_map text rs) both in
      let same : r ≡ s = ap (λ (x : E × List ℕ). x.0) pair in
      let behind : flat_map text front ++ rest ≡ flat_map text rs =
      ap (λ (x : E × List ℕ). x.1) pair in
      let m = goes_on front rs rest p.1 q.1 behind in
      (m.0, ap (λ (x : E). x ∷ rs) (sym same) ∙ ap (λ (xs : List E). r ∷ xs) m.1, m.2, m.3)

  none_more : (more : List E) → AllByRecursion Fits more → [] ≡ flat_map text more → more ≡ []
  none_more [] is none = refl
  none_more (r ∷ more) is none =
      absurd (no_text r (flat_map text more) is.0 (sym (flat_map-cons text r more) ∙ sym none))

  -- bytes spell one list of entries at most
  pub spells_one : (bytes : List ℕ) (rs ss : List E) → SpellsAll text Fits bytes rs
      → SpellsAll text Fits bytes ss → rs ≡ ss
  spells_one bytes rs ss one two =
      let m = goes_on rs ss [] one.in_range two.in_range
      (append-nil (flat_map text rs) ∙ sym one.spelled ∙ two.spelled) in
      sym (m.1 ∙ ap (λ (more : List E). rs ++ more) (none_more m.0 m.3 m.2) ∙ append-nil rs)

  -- ---- an entry after another

  pub one_more : (bytes : List ℕ) (front : List E) (rest : List ℕ) (r : E) (after : List ℕ)
      → AreRead text Fits bytes front rest → read rest ≡ Some (r, after)
      → AreRead text Fits bytes (front ++ r ∷ []) after
  one_more bytes front rest r after so_far h =
      let t = field.takes rest (r, after) h in
      let last : flat_map text (front ++ r ∷ []) ≡ flat_map text front ++ text r =
      flat_map-append text front (r ∷ [])
      ∙ ap (λ (s : List ℕ). flat_map text front ++ s)
      (flat_map-cons text r [] ∙ append-nil (text r)) in
      record {
        spelled = so_far.spelled ∙ ap (λ (s : List ℕ). flat_map text front ++ s) t.0
            ∙ sym (append_assoc (flat_map text front) (text r) after)
            ∙ ap (λ (s : List ℕ). s ++ after) (sym last);
        fits = all-append Fits front (r ∷ []) so_far.fits (t.1, tt);
      }

  pub gets_shorter : (rest : List ℕ) (r : E) (after : List ℕ) → read rest ≡ Some (r, after)
      → length after < length rest
  gets_shorter rest r after h =
      let t = field.takes rest (r, after) h in
      let some : 1 ≤ length (text r) =
      some_long (text r) (λ none. no_text r [] t.1 (ap (λ (s : List ℕ). s ++ []) none)) in
      omega (arith, some, ap length t.0, length-append (text r) after)

  none_spelled : (rest : List ℕ) (more : List E) → AllByRecursion Fits more
      → rest ≡ flat_map text more → (rest ≡ [] → ⊥) → read rest ≡ None → ⊥
  none_spelled rest [] is spelled some h = some spelled
  none_spelled rest (r ∷ more) is spelled some h =
      absurd (let bad : None ≡ Some (r, flat_map text more) =
      sym h ∙ ap read (spelled ∙ flat_map-cons text r more)
      ∙ field.again r (flat_map text more) is.0 in cc)

  pub fails : (bytes : List ℕ) (front : List E) (rest : List ℕ) (e : Stop)
      → AreRead text Fits bytes front rest → (rest ≡ [] → ⊥) → Stops e (read rest)
      → GivesAll text Fits bytes (Err e)
  fails bytes front rest stops.Memory so_far some h = tt
  fails bytes front rest stops.Other so_far some h = λ rs spells.
      let m = goes_on front rs rest so_far.fits spells.in_range
      (sym so_far.spelled ∙ spells.spelled) in
      none_spelled rest m.0 m.3 m.2 some h
