-- Rows of cells that grow by one number, and those that the gas's rule sees.
use Rattle.std.proofs.Common.{◌≡◌, ◌≢◌, ℕ, ◌+◌, ◌<◌, ◌≤◌, arith, refl, sym, ap, ◌∙◌, subst, ◌⊎◌, inl, inr, ℤ, pos, negsuc, List, [], ◌∷◌, length, slice_set, slice_index_or, Some, Bool, true, false, nat_lt}
use Rattle.std.specs.Prelude.{if◌then◌else◌}
use Rattle.std.proofs.lemmas.Bool.{cases_eq}
use Rattle.std.proofs.lemmas.List.{get_or-set_same, get_or-set_other}
use Rattle.cx_rule.specs.Rows.{SeenRow, FitsRow, ShowsAlong, GivesRow, reach_at, offset_from}
use Rattle.cx_rule.specs.Seen.{Seen, value_of}
use Rattle.cx_thorn_physics.specs.Gas.{gas_step_spec, gas_step_rule}
use Rattle.cx_thorn_physics.specs.Offsets.{step}
use Rattle.cx_thorn_physics.specs.Rows.{number_at, AreBy, cell_amid, gas_at}

pub one_more : (f : ℕ → ℤ) (ns : List ℤ) (k : ℕ) (n : ℤ) → k < length ns → n ≡ f k
    → AreBy f ns k → AreBy f (slice_set ns k n) (k + 1)
one_more f ns k n room is before i l = go (cases_eq i k)
  where
    go : (i ≡ k) ⊎ (i ≢ k) → number_at (slice_set ns k n) i ≡ f i
    go (inl same) =
        subst (λ j. number_at (slice_set ns k n) j ≡ f j) (sym same)
        (get_or-set_same ns k n (pos 0) room ∙ is)
    go (inr other) = get_or-set_other ns k i n (pos 0) other ∙ before i (omega (arith, other))

-- a number of a lent row by its offset, where the first read's reach is 1
pub shown_at : (r : SeenRow) (y : ℤ) (ns : List ℤ) (i j : ℕ) → reach_at r 0 ≡ 1
    → ShowsAlong r 0 y (pos 0) ns → i < r.count → j ≤ 2
    → number_at ns (i + j) ≡ value_of (r.seen i) 0 (offset_from 1 y (pos 0) j)
shown_at r y ns i j reach shows l h =
    subst (λ k. number_at ns (i + j) ≡ value_of (r.seen i) 0 (offset_from k y (pos 0) j)) reach
    (shows.each i j l (rw reach h))

pub first_shown : (r : SeenRow) (y : ℤ) (ns : List ℤ) (i : ℕ) → reach_at r 0 ≡ 1
    → ShowsAlong r 0 y (pos 0) ns → i < r.count
    → number_at ns i ≡ value_of (r.seen i) 0 (offset_from 1 y (pos 0) 0)
first_shown r y ns i reach shows l =
    let none : i ≡ i + 0 = omega arith in
    ap (number_at ns) none ∙ shown_at r y ns i 0 reach shows l (omega arith)

same_cell : (a b c d e f g h : ℤ) → a ≡ b → c ≡ d → e ≡ f → g ≡ h
    → cell_amid a c e g ≡ cell_amid b d f h
same_cell a b c d e f g h p q r t = rw (p, q, r, t) refl

-- the cell to which the neighbours of a point send their particles, with a direction y or without
abbrev comes : Seen → Bool → ℤ
comes w has =
    cell_amid (value_of w 0 (step 0 (negsuc 0)))
    (value_of w 0 (step 1 (if has then negsuc 0 else pos 0))) (value_of w 0 (step 0 (pos 1)))
    (value_of w 0 (step 1 (if has then pos 1 else pos 0)))

is_few : (n d : ℕ) → n ≡ d → d < 2 → nat_lt 1 n ≡ false
is_few n d e h = grind (arith, e, h)

is_many : (n d : ℕ) → n ≡ d → 2 ≤ d → nat_lt 1 n ≡ true
is_many n d e h = grind (arith, e, h)

pub alone_row : (r : SeenRow) (cells next : List ℤ) (n : ℕ) → FitsRow gas_step_spec r
    → r.dims < 2 → ShowsAlong r 0 (pos 0) (pos 0) cells → n ≡ r.count
    → AreBy (gas_at cells cells cells) next n → GivesRow gas_step_rule r next
alone_row r cells next n fits few shows count is i l =
    let near : i < n = omega (arith, l, count) in
    let reach = ap (λ rs. slice_index_or rs 0 0) fits.reads in
    let here = shown_at r (pos 0) cells i 1 reach shows l (omega arith) in
    ap (λ cell. Some (cell ∷ []))
    (sym (is i near
    ∙ same_cell _ _ _ _ _ _ _ _ (first_shown r (pos 0) cells i reach shows l) here
    (shown_at r (pos 0) cells i 2 reach shows l (omega arith)) here
    ∙ ap (comes (r.seen i)) (sym (is_few _ _ (fits.dims i) few))))

pub amid_row : (r : SeenRow) (below cells above next : List ℤ) (n : ℕ)
    → FitsRow gas_step_spec r → 2 ≤ r.dims → ShowsAlong r 0 (negsuc 0) (pos 0) below
    → ShowsAlong r 0 (pos 0) (pos 0) cells → ShowsAlong r 0 (pos 1) (pos 0) above → n ≡ r.count
    → AreBy (gas_at below cells above) next n → GivesRow gas_step_rule r next
amid_row r below cells above next n fits many under shows over count is i l =
    let near : i < n = omega (arith, l, count) in
    let reach = ap (λ rs. slice_index_or rs 0 0) fits.reads in
    ap (λ cell. Some (cell ∷ []))
    (sym (is i near
    ∙ same_cell _ _ _ _ _ _ _ _ (first_shown r (pos 0) cells i reach shows l)
    (shown_at r (negsuc 0) below i 1 reach under l (omega arith))
    (shown_at r (pos 0) cells i 2 reach shows l (omega arith))
    (shown_at r (pos 1) above i 1 reach over l (omega arith))
    ∙ ap (comes (r.seen i)) (sym (is_many _ _ (fits.dims i) many))))
