-- A field that is read is the field that was written, and what was written is read again.
use Rattle.std.proofs.Common.{◌≡◌, ℕ, ℤ, zero, suc, ◌+◌, ◌^◌, ◌<◌, ◌≤◌, Bool, true, false, cond, ltb, List, [], ◌∷◌, ◌++◌, length, get_or, take, drop, Option, Some, None, refl, sym, ap, subst, ◌∙◌, append_assoc, arith, inl, inr}
use Rattle.std.specs.List.{flat_map, AllByRecursion}
use Rattle.std.specs.Int.{Width, w32, w64, byte_len, from_be_bytes, to_be_bytes, cast_signed, cast_unsigned}
use Rattle.std.specs.Int.RustNames.{FitsSigned}
use Rattle.std.proofs.lemmas.Bool.{cases_lt, ltb-false, le-ltb}
use Rattle.std.proofs.lemmas.List.{take_at, drop_at, take-append-drop, length-append, length-take, get_or-drop, get_or-take, get_or_past}
use Rattle.std.proofs.lemmas.List.Concat.{flat_map-cons}
use Rattle.std.proofs.lemmas.Nat.{be_bytes_4, be_bytes_8, from_be_bytes-to_be_bytes_4, from_be_bytes-to_be_bytes_8}
use Rattle.std.proofs.lemmas.Int.{of_z-to_z, to_z-of_z}
use mir.ValLaws as laws
use Rattle.cx_chk.specs.Encoding.{word, value, counted, string, AreCounted, IsWord, level, IsLevel}
use Rattle.cx_chk.specs.Reading.{◌>>=◌, number_at, value_at, string_at, some_at, counted_at, level_at}

abbrev pub IsBytes : List ℕ → Type 0
IsBytes bytes = (i : ℕ) → get_or bytes i 0 < 256

pub IsBytes-drop : (n : ℕ) (bytes : List ℕ) → IsBytes bytes → IsBytes (drop n bytes)
IsBytes-drop n bytes h i = rw get_or-drop (h (n + i))

IsBytes-take : (n : ℕ) (bytes : List ℕ) → IsBytes bytes → IsBytes (take n bytes)
IsBytes-take n bytes h i =
    elim (cases_lt i n) [
      | inl lt ↦ rw (get_or-take n bytes i 0 lt) (h i)
      | inr le ↦ rw (get_or_past (take n bytes) i 0 (omega (arith, length-take n bytes)))
          (omega arith)
    ]

-- the value of a step that went on
pub bind_some : {A B : Type 0} (r : Option A) (f : A → Option B) (y : B) → (r >>= f) ≡ Some y
    → (x : A) × (r ≡ Some x) × (f x ≡ Some y)
bind_some (Some x) f y e = (x, refl, e)
bind_some None f y e = absurd cc

-- a test that went on
pub guard_some : {A : Type 0} (b : Bool) (x y : A) → cond b None (Some x) ≡ Some y
    → (b ≡ false) × (x ≡ y)
guard_some true x y e = absurd cc
guard_some false x y e = (refl, cc)

pub some_is : {A : Type 0} (x y : A) → Some x ≡ Some y → x ≡ y
some_is x y e = cc

-- what a reader took from the front
pub record Takes (bytes text rest : List ℕ) : Type 0 where
  pub parts : bytes ≡ text ++ rest
  pub rest_fits : IsBytes rest

pub Takes-then : (a x b y c : List ℕ) → Takes a x b → Takes b y c → Takes a (x ++ y) c
Takes-then a x b y c p q =
    record {
      parts = p.parts ∙ ap (λ (t : List ℕ). x ++ t) q.parts ∙ sym (append_assoc x y c);
      rest_fits = q.rest_fits;
    }

-- ---- a kind of field

pub record IsField {A : Type 0} (spelled : A → List ℕ) (read : List ℕ → Option (A × List ℕ))
    (Fits : A → Type 0) : Type 0 where
  pub takes : (bytes : List ℕ) (x : A × List ℕ) → IsBytes bytes → read bytes ≡ Some x
      → Takes bytes (spelled x.0) x.1 × Fits x.0
  pub again : (x : A) (rest : List ℕ) → Fits x → read (spelled x ++ rest) ≡ Some (x, rest)

-- ---- numbers

pub record IsWide (w : Width) (limit : ℕ) : Type 0 where
  pub len : (n : ℕ) → length (to_be_bytes w n) ≡ byte_len w
  pub back : (bytes : List ℕ) → length bytes ≡ byte_len w → IsBytes bytes
      → to_be_bytes w (from_be_bytes w bytes) ≡ bytes
  pub again : (n : ℕ) → n < limit → from_be_bytes w (to_be_bytes w n) ≡ n
  pub below : (bytes : List ℕ) → IsBytes bytes → from_be_bytes w bytes < limit

pub wide32 : IsWide w32 (2 ^ 32)
wide32 = record {
  len = λ n. refl;
  back = λ bytes len fits. be_bytes_4 bytes _ len fits refl;
  again = λ n lt. from_be_bytes-to_be_bytes_4 n lt;
  below = λ bytes fits. omega (arith, fits 0, fits 1, fits 2, fits 3);
}

pub wide64 : IsWide w64 (2 ^ 64)
wide64 = record {
  len = λ n. refl;
  back = λ bytes len fits. be_bytes_8 bytes _ len fits refl;
  again = λ n lt. from_be_bytes-to_be_bytes_8 n lt;
  below = λ bytes fits. omega
      (arith, fits 0, fits 1, fits 2, fits 3, fits 4, fits 5, fits 6, fits 7);
}

pub number_field : (w : Width) (limit : ℕ) (wide : IsWide w limit)
    → IsField (to_be_bytes w) (number_at w) (λ n. n < limit)
number_field w limit wide = record {
  takes = λ bytes x fits e.
      let g = guard_some (ltb (length bytes) (byte_len w))
      (from_be_bytes w (take (byte_len w) bytes), drop (byte_len w) bytes) x e in
      let long : byte_len w ≤ length bytes = ltb-false _ _ g.0 in
      let n-is : from_be_bytes w (take (byte_len w) bytes) ≡ x.0 =
      ap (λ (p : ℕ × List ℕ). p.0) g.1 in
      let rest-is : drop (byte_len w) bytes ≡ x.1 = ap (λ (p : ℕ × List ℕ). p.1) g.1 in
      let front : to_be_bytes w x.0 ≡ take (byte_len w) bytes =
      rw (← n-is) (wide.back (take (byte_len w) bytes)
      (omega (arith, length-take (byte_len w) bytes)) (IsBytes-take (byte_len w) bytes fits)) in (
        record {
          parts = rw (front, ← rest-is) (sym (take-append-drop (byte_len w) bytes));
          rest_fits = rw (← rest-is) (IsBytes-drop (byte_len w) bytes fits);
        },
        rw (← n-is) (wide.below (take (byte_len w) bytes)
            (IsBytes-take (byte_len w) bytes fits)),
      );
  again = λ n rest lt.
      let len = wide.len n in
      let long : ltb (length (to_be_bytes w n ++ rest)) (byte_len w) ≡ false =
      le-ltb _ _ (omega (arith, length-append (to_be_bytes w n) rest)) in
      rw (
        long,
        take_at (to_be_bytes w n) rest (byte_len w) len,
        drop_at (to_be_bytes w n) rest (byte_len w) len,
        wide.again n lt,
      ) refl;
}

pub word_field : IsField word (number_at w64) IsWord
word_field = number_field w64 (2 ^ 64) wide64

-- ---- values

pub value_field : IsField value value_at (FitsSigned w64)
unfolding value_at
value_field = record {
  takes = λ bytes x fits e.
      let a = bind_some (number_at w64 bytes) (λ n. Some (cast_signed w64 n.0, n.1)) x e in
      let t = word_field.takes bytes a.0 fits a.1 in
      let made : ℤ × List ℕ = (cast_signed w64 a.0.0, a.0.1) in
      let same : Takes bytes (value (cast_signed w64 a.0.0)) a.0.1 =
      subst (λ (k : ℕ). Takes bytes (to_be_bytes w64 k) a.0.1) (sym (of_z-to_z w64 a.0.0 t.1))
      t.0 in
      subst (λ (y : ℤ × List ℕ). Takes bytes (value y.0) y.1 × FitsSigned w64 y.0)
      (some_is made x a.2) (same, laws.to_z-Fits w64 a.0.0 (record { fits = t.1 }));
  again = λ z rest fit.
      rw (
        word_field.again (cast_unsigned w64 z) rest (laws.of_z_fits w64 z fit).fits,
        to_z-of_z w64 z fit,
      ) refl;
}

-- ---- texts

pub string_field : IsField string string_at (λ t. length t < 2 ^ 32)
unfolding string_at
string_field = record {
  takes = λ bytes x fits e.
      let b = bind_some (number_at w32 bytes)
      (λ n. cond (ltb (length n.1) n.0) None (Some (take n.0 n.1, drop n.0 n.1))) x e in
      let n = b.0 in
      let t = (number_field w32 (2 ^ 32) wide32).takes bytes n fits b.1 in
      let g = guard_some (ltb (length n.1) n.0) (take n.0 n.1, drop n.0 n.1) x b.2 in
      let long : n.0 ≤ length n.1 = ltb-false _ _ g.0 in
      let len : length (take n.0 n.1) ≡ n.0 = omega (arith, length-take n.0 n.1) in
      let second : Takes n.1 (take n.0 n.1) (drop n.0 n.1) =
      record {
        parts = sym (take-append-drop n.0 n.1);
        rest_fits = IsBytes-drop n.0 n.1 t.0.rest_fits;
      } in
      let both = Takes-then bytes (to_be_bytes w32 n.0) n.1 (take n.0 n.1) (drop n.0 n.1)
      t.0 second in
      let whole : Takes bytes (string (take n.0 n.1)) (drop n.0 n.1) =
      subst (λ (k : ℕ). Takes bytes (to_be_bytes w32 k ++ take n.0 n.1) (drop n.0 n.1))
      (sym len) both in
      subst (λ (p : List ℕ × List ℕ). Takes bytes (string p.0) p.1 × (length p.0 < 2 ^ 32)) g.1
      (whole, omega (arith, t.1));
  again = λ text rest lt.
      let long : ltb (length (text ++ rest)) (length text) ≡ false =
      le-ltb _ _ (omega (arith, length-append text rest)) in
      let regrouped : string text ++ rest ≡ to_be_bytes w32 (length text) ++ (text ++ rest) =
      append_assoc (to_be_bytes w32 (length text)) text rest in
      ap string_at regrouped ∙ rw (
        (number_field w32 (2 ^ 32) wide32).again (length text) (text ++ rest) lt,
        long,
        take_at text rest (length text) refl,
        drop_at text rest (length text) refl,
      ) refl;
}

-- ---- so many items

module _ {A : Type 0} (spelled : A → List ℕ) (read : List ℕ → Option (A × List ℕ))
    (Fits : A → Type 0) (field : IsField spelled read Fits) where
  pub some_take : (n : ℕ) (bytes : List ℕ) (x : List A × List ℕ) → IsBytes bytes
      → some_at read n bytes ≡ Some x
      → Takes bytes (flat_map spelled x.0) x.1 × (length x.0 ≡ n) × AllByRecursion Fits x.0
  unfolding some_at
  some_take zero bytes x fits e =
      subst (λ (y : List A × List ℕ). Takes bytes (flat_map spelled y.0) y.1 × (length y.0 ≡ 0)
      × AllByRecursion Fits y.0) (some_is ([], bytes) x e)
      (record { parts = refl; rest_fits = fits }, refl, tt)
  some_take (suc n) bytes x fits e =
      let a = bind_some (read bytes)
      (λ first. some_at read n first.1 >>= λ others. Some (first.0 ∷ others.0, others.1)) x e in
      let b = bind_some (some_at read n a.0.1) (λ others. Some (a.0.0 ∷ others.0, others.1))
      x a.2 in
      let first = field.takes bytes a.0 fits a.1 in
      let second = some_take n a.0.1 b.0 first.0.rest_fits b.1 in
      let both = Takes-then bytes (spelled a.0.0) a.0.1 (flat_map spelled b.0.0)
      b.0.1 first.0 second.0 in
      let made : List A × List ℕ = (a.0.0 ∷ b.0.0, b.0.1) in
      subst (λ (y : List A × List ℕ). Takes bytes (flat_map spelled y.0) y.1 × (length y.0 ≡ suc n)
      × AllByRecursion Fits y.0) (some_is made x b.2)
      (rw flat_map-cons both, ap suc second.1, (first.1, second.2))

  pub some_again : (xs : List A) (rest : List ℕ) → AllByRecursion Fits xs
      → some_at read (length xs) (flat_map spelled xs ++ rest) ≡ Some (xs, rest)
  unfolding some_at
  some_again [] rest fits = refl
  some_again (x ∷ xs) rest fits =
      let regrouped : flat_map spelled (x ∷ xs) ++ rest
      ≡ spelled x ++ (flat_map spelled xs ++ rest) =
      ap (λ (t : List ℕ). t ++ rest) (flat_map-cons spelled x xs)
      ∙ append_assoc (spelled x) (flat_map spelled xs) rest in
      ap (some_at read (suc (length xs))) regrouped
      ∙ rw (field.again x (flat_map spelled xs ++ rest) fits.0, some_again xs rest fits.1) refl

  pub counted_field : (w : Width) (limit : ℕ) → IsWide w limit
      → IsField (counted w spelled) (counted_at w read) (AreCounted limit Fits)
  unfolding counted_at
  counted_field w limit wide = record {
    takes = λ bytes x fits e.
        let a = bind_some (number_at w bytes) (λ n. some_at read n.0 n.1) x e in
        let first = (number_field w limit wide).takes bytes a.0 fits a.1 in
        let second = some_take a.0.0 a.0.1 x first.0.rest_fits a.2 in
        let both = Takes-then bytes (to_be_bytes w a.0.0) a.0.1 (flat_map spelled x.0)
        x.1 first.0 second.0 in (
          subst (λ (k : ℕ). Takes bytes (to_be_bytes w k ++ flat_map spelled x.0) x.1)
              (sym second.1)
              both,
          (subst (λ (k : ℕ). k < limit) (sym second.1) first.1, second.2),
        );
    again = λ xs rest fits.
        let regrouped : counted w spelled xs ++ rest
        ≡ to_be_bytes w (length xs) ++ (flat_map spelled xs ++ rest) =
        append_assoc (to_be_bytes w (length xs)) (flat_map spelled xs) rest in
        ap (counted_at w read) regrouped
        ∙ rw (
          (number_field w limit wide).again (length xs) (flat_map spelled xs ++ rest)
              fits.0,
          some_again xs rest fits.1,
        ) refl;
  }

pub level_field : IsField level level_at IsLevel
level_field = counted_field value value_at (FitsSigned w64) value_field w64 (2 ^ 64) wide64
