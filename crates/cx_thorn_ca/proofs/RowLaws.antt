-- Rows that grow by one number, and rows of cells that a rule sees.
use Rattle.std.proofs.Common.{◌≡◌, ◌≢◌, ℕ, ◌+◌, ◌<◌, ◌≤◌, arith, refl, sym, ap, ◌∙◌, subst, ◌⊎◌, inl, inr, ℤ, pos, negsuc, List, [], ◌∷◌, length, slice_set, slice_index_or, Some, Bool, true, false}
use Rattle.std.specs.Prelude.{if◌then◌else◌, nat_eq, unsigned_abs}
use Rattle.std.proofs.lemmas.Bool.{cases_eq}
use Rattle.std.proofs.lemmas.List.{get_or-set_same, get_or-set_other, length-set}
use Rattle.cx_rule.specs.Place.{param_of}
use Rattle.cx_rule.specs.Rows.{SeenRow, FitsRow, ShowsAlong, GivesRow, reach_at, offset_from}
use Rattle.cx_rule.specs.Seen.{value_of}
use Rattle.cx_thorn_ca.specs.Automaton.{alive_of, ca_step_spec, ca_step_rule, off}
use Rattle.cx_thorn_ca.specs.Rows.{cell_at, AreBy, next_cell, next_at}

pub one_more : (f : ℕ → ℤ) (cells : List ℤ) (k : ℕ) (cell : ℤ) → k < length cells → cell ≡ f k
    → AreBy f cells k → AreBy f (slice_set cells k cell) (k + 1)
one_more f cells k cell room is before i l = go (cases_eq i k)
  where
    go : (i ≡ k) ⊎ (i ≢ k) → cell_at (slice_set cells k cell) i ≡ f i
    go (inl same) =
        subst (λ j. cell_at (slice_set cells k cell) j ≡ f j) (sym same)
        (get_or-set_same cells k cell (pos 0) room ∙ is)
    go (inr other) = get_or-set_other cells k i cell (pos 0) other ∙ before i (omega (arith, other))

pub two_more : (f : ℕ → ℤ) (cells : List ℤ) (k : ℕ) (first second : ℤ) → k + 1 < length cells
    → first ≡ f k → second ≡ f (k + 1)
    → AreBy f cells k → AreBy f (slice_set (slice_set cells k first) (k + 1) second) (k + 2)
two_more f cells k first second room is next before i l =
    let long : length (slice_set cells k first) ≡ length cells = length-set cells k first in
    one_more f (slice_set cells k first) (k + 1) second (omega (arith, room, long)) next
    (one_more f cells k first (omega (arith, room)) is before) i (omega (arith, l))

few_of : (b : Bool) → (if b then 0 else 1) ≤ 1
few_of true = omega arith
few_of false = omega arith

pub alive_few : (cell : ℤ) → alive_of cell ≤ 1
alive_few cell = few_of (nat_eq (unsigned_abs cell) 0)

-- a number of a lent row by its offset, where the read's reach is 1
pub shown_at : (r : SeenRow) (y : ℤ) (cells : List ℤ) (i j : ℕ) → r.reaches ≡ 1 ∷ []
    → ShowsAlong r 0 y (pos 0) cells
    → i < r.count → j ≤ 2 → cell_at cells (i + j)
    ≡ value_of (r.seen i) 0 (offset_from 1 y (pos 0) j)
shown_at r y cells i j reads shows l h =
    let reach : reach_at r 0 ≡ 1 = ap (λ rs. slice_index_or rs 0 0) reads in
    subst (λ k. cell_at cells (i + j) ≡ value_of (r.seen i) 0 (offset_from k y (pos 0) j)) reach
    (shows.each i j l (rw reach h))

-- the first of them
pub first_shown : (r : SeenRow) (y : ℤ) (cells : List ℤ) (i : ℕ) → r.reaches ≡ 1 ∷ []
    → ShowsAlong r 0 y (pos 0) cells
    → i < r.count → cell_at cells i ≡ value_of (r.seen i) 0 (off (negsuc 0) y)
first_shown r y cells i reads shows l =
    let none : i ≡ i + 0 = omega arith in
    ap (cell_at cells) none ∙ shown_at r y cells i 0 reads shows l (omega arith)

same_next : (rule to left l middle m right r : ℤ) → rule ≡ to → left ≡ l → middle ≡ m → right ≡ r
    → next_cell rule left middle right ≡ next_cell to l m r
same_next rule to left l middle m right r e a b c = rw (e, a, b, c) refl

pub ca_row : (r : SeenRow) (rule : ℤ) (cells next : List ℤ) (n : ℕ) → FitsRow ca_step_spec r
    → ((i : ℕ) → rule ≡ param_of (r.place i) 0) → ShowsAlong r 0 (pos 0) (pos 0) cells
    → n ≡ r.count → AreBy (next_at rule cells) next n → GivesRow ca_step_rule r next
ca_row r rule cells next n fits param shows count is i l =
    let left = first_shown r (pos 0) cells i fits.reads shows l in
    let middle = shown_at r (pos 0) cells i 1 fits.reads shows l (omega arith) in
    let right = shown_at r (pos 0) cells i 2 fits.reads shows l (omega arith) in
    let near : i < n = omega (arith, l, count) in
    ap (λ cell. Some (cell ∷ []))
    (sym (is i near ∙ same_next _ _ _ _ _ _ _ _ (param i) left middle right))
