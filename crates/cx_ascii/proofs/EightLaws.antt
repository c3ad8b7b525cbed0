-- Eight values at once.
use Rattle.std.proofs.Common.{◌≡◌, ◌∙◌, ℕ, ℤ, pos, List, [], ◌∷◌, ◌++◌, length, take, drop, get_or, w64, SFits, to_z, of_z, arith, sym, ap, refl}
use Rattle.std.specs.List.{flat_map}
use Rattle.std.specs.Fmt.{signed_decimal}
use Rattle.std.proofs.lemmas.Int.{to_z-of_z}
use Rattle.std.proofs.lemmas.Grind.{flat_map-append}
use Rattle.std.proofs.lemmas.List.{take-append-drop, append_assoc}
use Rattle.cx_ascii.specs.Output.{after_blank}

pub eight_more : (rest eight others : List ℤ) (start text new : List ℕ) → eight ≡ take 8 rest
    → others ≡ drop 8 rest → new ≡ text ++ flat_map after_blank eight
    → text ++ flat_map after_blank rest ≡ start → new ++ flat_map after_blank others ≡ start
eight_more rest eight others start text new front back now before =
    let parts : eight ++ others ≡ rest =
    ap (λ (l : List ℤ). l ++ others) front ∙ ap (λ (l : List ℤ). take 8 rest ++ l) back
    ∙ take-append-drop 8 rest in
    ap (λ (l : List ℕ). l ++ flat_map after_blank others) now
    ∙ append_assoc text (flat_map after_blank eight) (flat_map after_blank others)
    ∙ ap (λ (l : List ℕ). text ++ l)
    (sym (flat_map-append after_blank eight others) ∙ ap (flat_map after_blank) parts)
    ∙ before

pub eight_digits : (l : List ℤ) (a b c d e f g h : ℕ) → length l ≡ 8
    → signed_decimal (get_or l 0 (pos 0)) ≡ a ∷ [] → signed_decimal (get_or l 1 (pos 0)) ≡ b ∷ []
    → signed_decimal (get_or l 2 (pos 0)) ≡ c ∷ [] → signed_decimal (get_or l 3 (pos 0)) ≡ d ∷ []
    → signed_decimal (get_or l 4 (pos 0)) ≡ e ∷ [] → signed_decimal (get_or l 5 (pos 0)) ≡ f ∷ []
    → signed_decimal (get_or l 6 (pos 0)) ≡ g ∷ [] → signed_decimal (get_or l 7 (pos 0)) ≡ h ∷ []
    → 32 ∷ a ∷ 32 ∷ b ∷ 32 ∷ c ∷ 32 ∷ d ∷ 32 ∷ e ∷ 32 ∷ f ∷ 32 ∷ g ∷ 32 ∷ h ∷ []
    ≡ flat_map after_blank l
eight_digits (s ∷ t ∷ u ∷ v ∷ w ∷ x ∷ y ∷ z ∷ []) a b c d e f g h eight p q r i j k m n =
    rw (p, q, r, i, j, k, m, n) refl
eight_digits [] a b c d e f g h eight p q r i j k m n = absurd (omega arith)
eight_digits (s ∷ []) a b c d e f g h eight p q r i j k m n = absurd (omega arith)
eight_digits (s ∷ t ∷ []) a b c d e f g h eight p q r i j k m n = absurd (omega arith)
eight_digits (s ∷ t ∷ u ∷ []) a b c d e f g h eight p q r i j k m n = absurd (omega arith)
eight_digits (s ∷ t ∷ u ∷ v ∷ []) a b c d e f g h eight p q r i j k m n = absurd (omega arith)
eight_digits (s ∷ t ∷ u ∷ v ∷ w ∷ []) a b c d e f g h eight p q r i j k m n = absurd (omega arith)
eight_digits (s ∷ t ∷ u ∷ v ∷ w ∷ x ∷ []) a b c d e f g h eight p q r i j k m n =
    absurd (omega arith)
eight_digits (s ∷ t ∷ u ∷ v ∷ w ∷ x ∷ y ∷ []) a b c d e f g h eight p q r i j k m n =
    absurd (omega arith)
eight_digits (s ∷ t ∷ u ∷ v ∷ w ∷ x ∷ y ∷ z ∷ more ∷ l) a b c d e f g h eight p q r i j k m n =
    absurd (omega arith)

-- what a machine number says is so of the number
pub plain : (v : ℤ) (a : ℕ) → SFits w64 v
    → signed_decimal (to_z w64 (of_z w64 v)) ≡ a ∷ [] → signed_decimal v ≡ a ∷ []
plain v a fits is = sym (ap signed_decimal (to_z-of_z w64 v fits)) ∙ is
