-- Rows of a sheet that a rule sees.
use Rattle.std.proofs.Common.{◌≡◌, ℕ, ◌+◌, ◌<◌, ◌≤◌, arith, refl, sym, ap, ◌∙◌, ℤ, pos, negsuc, List, [], ◌∷◌, ◌++◌, Some, Bool, true, false, nat_lt}
use Rattle.std.specs.Prelude.{if◌then◌else◌}
use Rattle.cx_rule.specs.Numbers.{bit_of}
use Rattle.cx_rule.specs.Place.{param_of}
use Rattle.cx_rule.specs.Rows.{SeenRow, FitsRow, ShowsAlong, GivesRow}
use Rattle.cx_rule.specs.Seen.{Seen, value_of}
use Rattle.cx_thorn_ca.specs.Automaton.{alive_of, off}
use Rattle.cx_thorn_ca.specs.Life.{life_step_spec, life_step_rule, living, neighbours, row_of_three, counts_of}
use Rattle.cx_thorn_ca.specs.Rows.{AreBy, beside_at, three_at, next_alone, next_amid}
use Rattle.cx_thorn_ca.proofs.RowLaws.{first_shown, shown_at}

-- ---- what the rule counts

abbrev alive_at : Seen → ℤ → ℤ → ℕ
alive_at w x y = alive_of (value_of w 0 (off x y))

abbrev beside_seen : Seen → ℕ
beside_seen w = alive_at w (negsuc 0) (pos 0) + alive_at w (pos 1) (pos 0)

abbrev three_seen : Seen → ℤ → ℕ
three_seen w y = alive_at w (negsuc 0) y + alive_at w (pos 0) y + alive_at w (pos 1) y

two : (a b : ℕ) → 0 + a + b ≡ a + b
two a b = omega arith

eight : (a b c d e f g h : ℕ)
    → 0 + a + b + c + d + e + f + g + h ≡ a + b + (c + d + e) + (f + g + h)
eight a b c d e f g h = omega arith

abbrev counted : Seen → Bool → ℕ
counted w many =
    living w (off (negsuc 0) (pos 0) ∷ off (pos 1) (pos 0)
    ∷ (if many then row_of_three (negsuc 0) ++ row_of_three (pos 1) else []))

living_alone : (w : Seen) → nat_lt 1 w.dims ≡ false → living w (neighbours w.dims) ≡ beside_seen w
living_alone w few = ap (counted w) few
    ∙ two (alive_at w (negsuc 0) (pos 0)) (alive_at w (pos 1) (pos 0))

living_amid : (w : Seen) → nat_lt 1 w.dims ≡ true
    → living w (neighbours w.dims) ≡ beside_seen w + three_seen w (negsuc 0) + three_seen w (pos 1)
living_amid w many = ap (counted w) many ∙ eight _ _ _ _ _ _ _ _

-- ---- what a row shows

same_two : (a b c d : ℤ) → a ≡ b → c ≡ d → alive_of a + alive_of c ≡ alive_of b + alive_of d
same_two a b c d p q = rw (p, q) refl

same_three : (a b c d e f : ℤ) → a ≡ b → c ≡ d → e ≡ f
    → alive_of a + alive_of c + alive_of e ≡ alive_of b + alive_of d + alive_of f
same_three a b c d e f p q r = rw (p, q, r) refl

same_life : (survive s born b cell c : ℤ) (n m : ℕ) → survive ≡ s → born ≡ b → cell ≡ c → n ≡ m
    → pos (bit_of (counts_of cell survive born) n) ≡ pos (bit_of (counts_of c s b) m)
same_life survive s born b cell c n m e f g h = rw (e, f, g, h) refl

same_counts : (a b c d e f : ℕ) → a ≡ b → c ≡ d → e ≡ f → a + c + e ≡ b + d + f
same_counts a b c d e f p q r = rw (p, q, r) refl

beside_shown : (r : SeenRow) (cells : List ℤ) (i : ℕ) → r.reaches ≡ 1 ∷ []
    → ShowsAlong r 0 (pos 0) (pos 0) cells
    → i < r.count → beside_at cells i ≡ beside_seen (r.seen i)
beside_shown r cells i reads shows l =
    same_two _ _ _ _ (first_shown r (pos 0) cells i reads shows l)
    (shown_at r (pos 0) cells i 2 reads shows l (omega arith))

three_shown : (r : SeenRow) (y : ℤ) (cells : List ℤ) (i : ℕ) → r.reaches ≡ 1 ∷ []
    → ShowsAlong r 0 y (pos 0) cells
    → i < r.count → three_at cells i ≡ three_seen (r.seen i) y
three_shown r y cells i reads shows l =
    same_three _ _ _ _ _ _ (first_shown r y cells i reads shows l)
    (shown_at r y cells i 1 reads shows l (omega arith))
    (shown_at r y cells i 2 reads shows l (omega arith))

is_few : (n d : ℕ) → n ≡ d → d < 2 → nat_lt 1 n ≡ false
is_few n d e h = grind (arith, e, h)

is_many : (n d : ℕ) → n ≡ d → 2 ≤ d → nat_lt 1 n ≡ true
is_many n d e h = grind (arith, e, h)

-- ---- the rule along a row

pub alone_row : (r : SeenRow) (survive born : ℤ) (cells next : List ℤ) (n : ℕ)
    → FitsRow life_step_spec r → r.dims < 2
    → ((i : ℕ) → survive ≡ param_of (r.place i) 0) → ((i : ℕ) → born ≡ param_of (r.place i) 1)
    → ShowsAlong r 0 (pos 0) (pos 0) cells
    → n ≡ r.count → AreBy (next_alone survive born cells) next n → GivesRow life_step_rule r next
alone_row r survive born cells next n fits few first second shows count is i l =
    let near : i < n = omega (arith, l, count) in
    let middle = shown_at r (pos 0) cells i 1 fits.reads shows l (omega arith) in
    let around = beside_shown r cells i fits.reads shows l
    ∙ sym (living_alone (r.seen i) (is_few _ _ (fits.dims i) few)) in
    ap (λ cell. Some (cell ∷ []))
    (sym (is i near ∙ same_life _ _ _ _ _ _ _ _ (first i) (second i) middle around))

pub amid_row : (r : SeenRow) (survive born : ℤ) (below cells above next : List ℤ) (n : ℕ)
    → FitsRow life_step_spec r
    → 2 ≤ r.dims → ((i : ℕ) → survive ≡ param_of (r.place i) 0)
    → ((i : ℕ) → born ≡ param_of (r.place i) 1)
    → ShowsAlong r 0 (negsuc 0) (pos 0) below → ShowsAlong r 0 (pos 0) (pos 0) cells
    → ShowsAlong r 0 (pos 1) (pos 0) above
    → n ≡ r.count → AreBy (next_amid survive born below cells above) next n
    → GivesRow life_step_rule r next
amid_row r survive born below cells above next n fits many first second under shows over count is i
    l =
    let near : i < n = omega (arith, l, count) in
    let middle = shown_at r (pos 0) cells i 1 fits.reads shows l (omega arith) in
    let around = same_counts _ _ _ _ _ _ (beside_shown r cells i fits.reads shows l)
    (three_shown r (negsuc 0) below i fits.reads under l)
    (three_shown r (pos 1) above i fits.reads over l)
    ∙ sym (living_amid (r.seen i) (is_many _ _ (fits.dims i) many)) in
    ap (λ cell. Some (cell ∷ []))
    (sym (is i near ∙ same_life _ _ _ _ _ _ _ _ (first i) (second i) middle around))
