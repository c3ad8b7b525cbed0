-- Pieces that come in turn have no twins.
use Rattle.std.proofs.Common.{◌≡◌, ℕ, zero, suc, ◌+◌, ◌-◌, ◌<◌, ◌≤◌, ◌⊎◌, inl, inr, Bool, true, false, not, ◌&&◌, eqb, arith, refl, sym, ap, ◌∙◌, subst, List, [], ◌∷◌, ◌++◌, length, take, drop, get_or, Option, Some, None}
use Rattle.std.specs.Prelude.{nat_lt, slice_get, if◌then◌else◌}
use Rattle.std.specs.List.{list_any, AllByRecursion}
use Rattle.std.proofs.lemmas.Bool.{cases_Bool, eqb-true, ltb-true, true≢false, not-true}
use Rattle.std.proofs.lemmas.List.{length-append}
use Rattle.std.proofs.lemmas.Slice.Eq.{bytes_eq-Decides}
use Rattle.cx_ascii_read.proofs.RowLaws.{all-append}
use Rattle.cx_plan.specs.Lists.{first_again_behind}
use Rattle.cx_chunks.specs.declared.piece.Piece.{Piece}
use Rattle.cx_chunks.specs.Combining.{full_of, iteration_of, is_of, is_twin}
use Rattle.cx_chunks.specs.Turns.{in_turn_behind}
use Rattle.cx_chunks.proofs.PieceLists.{name_is, any_none}
use Rattle.cx_chunks.proofs.FindLaws.{both_hold, neither}
use Rattle.cx_chunks.proofs.StepLaws.{taken, left_over}

-- the last of some pieces
abbrev pub last_of : List Piece → Option Piece
last_of ps = slice_get ps (length ps - 1)

-- no piece of this one's variable is later; each is earlier
abbrev pub NotAfter : Piece → List Piece → Type 0
NotAfter p ps =
    AllByRecursion (λ q. is_of (full_of p) q ≡ true → iteration_of q ≤ iteration_of p) ps

abbrev pub Before : Piece → List Piece → Type 0
Before p ps = AllByRecursion (λ q. is_of (full_of p) q ≡ true → iteration_of q < iteration_of p) ps

-- the last of some pieces is the latest of its variable
abbrev pub IsTop : List Piece → Type 0
IsTop ps = (q : Piece) → last_of ps ≡ Some q → NotAfter q ps

pub top_none : IsTop []
top_none q e = tt

name_of : (p q : Piece) → is_of (full_of p) q ≡ true → full_of q ≡ full_of p
name_of p q e = (bytes_eq-Decides (full_of q) (full_of p)).0 e

-- a piece of the variable of one that is the latest, and later than it
later : (ps : List Piece) (q p : Piece) → NotAfter q ps → is_of (full_of p) q ≡ true
    → iteration_of q < iteration_of p → Before p ps
later [] q p tops same less = tt
later (r ∷ ps) q p tops same less = (
  λ e.
      let name : full_of r ≡ full_of q = name_of p r e ∙ sym (name_of p q same) in
      let most = tops.0 (name_is (full_of r) (full_of q) name) in
      omega (arith, most, less),
  later ps q p tops.1 same less,
)

-- a piece of a variable of which there is none yet
fresh : (ps : List Piece) (p : Piece) → list_any (is_of (full_of p)) ps ≡ false → Before p ps
fresh [] p none = tt
fresh (q ∷ ps) p none =
    let n = neither (is_of (full_of p) q) (list_any (is_of (full_of p)) ps) none in
    ((λ e. absurd (true≢false (sym e ∙ n.0))), fresh ps p n.1)

no_last : (ps : List Piece) → last_of ps ≡ None → ps ≡ []
no_last [] e = refl
no_last (p ∷ ps) e = absurd (some p ps e)
  where
    some_none : (q : Piece) → Some q ≡ None → ⊥
    some_none q e = cc

    there : (qs : List Piece) (k : ℕ) → k < length qs → slice_get qs k ≡ None → ⊥
    there [] k l none = omega (arith, l)
    there (q ∷ qs) zero l none = some_none q none
    there (q ∷ qs) (suc k) l none = there qs k (omega (arith, l)) none

    some : (q : Piece) (qs : List Piece) → last_of (q ∷ qs) ≡ None → ⊥
    some q qs none = there (q ∷ qs) (length (q ∷ qs) - 1) (omega arith) none

pub turn_before : (ps : List Piece) (p : Piece) → IsTop ps
    → in_turn_behind (last_of ps) ps p ≡ true → Before p ps
turn_before ps p top turn = go (last_of ps) refl turn
  where
    go : (o : Option Piece) → last_of ps ≡ o → in_turn_behind o ps p ≡ true → Before p ps
    go None e turns = subst (Before p) (sym (no_last ps e)) tt
    go (Some q) e turns = by (cases_Bool (is_of (full_of p) q))
      where
        by : (is_of (full_of p) q ≡ true) ⊎ (is_of (full_of p) q ≡ false) → Before p ps
        by (inl same) =
            later ps q p (top q e) same
            (ltb-true (iteration_of q) (iteration_of p)
            (ap (λ b. if b then nat_lt (iteration_of q) (iteration_of p)
            else not (list_any (is_of (full_of p)) ps)) (sym same) ∙ turns))
        by (inr other) =
            fresh ps p (not-true (list_any (is_of (full_of p)) ps)
            (ap (λ b. if b then nat_lt (iteration_of q) (iteration_of p)
            else not (list_any (is_of (full_of p)) ps)) (sym other) ∙ turns))

-- what comes in turn has no twin
pub turn_single : (ps : List Piece) (p : Piece) → Before p ps → list_any (is_twin p) ps ≡ false
turn_single ps p before = any_none (is_twin p) ps (go ps before)
  where
    go : (qs : List Piece) → Before p qs → AllByRecursion (λ q. is_twin p q ≡ false) qs
    go [] all = tt
    go (q ∷ qs) all = (this (cases_Bool (is_twin p q)), go qs all.1)
      where
        this : (is_twin p q ≡ true) ⊎ (is_twin p q ≡ false) → is_twin p q ≡ false
        this (inr differs) = differs
        this (inl twin) =
            let b = both_hold (is_of (full_of q) p) (eqb (iteration_of p) (iteration_of q)) twin in
            let less = all.0 (name_is (full_of q) (full_of p) (sym (name_of q p b.0))) in
            let same = eqb-true (iteration_of p) (iteration_of q) b.1 in
            absurd (omega (arith, less, same))

last_pushed : (ps : List Piece) (p q : Piece) → last_of (ps ++ p ∷ []) ≡ Some q → p ≡ q
last_pushed ps p q e =
    let n = length-append ps (p ∷ []) in
    let k : length (ps ++ p ∷ []) - 1 ≡ length ps = omega (arith, n) in
    let f : Some p ≡ Some q = sym (at ps) ∙ ap (slice_get (ps ++ p ∷ [])) (sym k) ∙ e in
    cc
  where
    at : (qs : List Piece) → slice_get (qs ++ p ∷ []) (length qs) ≡ Some p
    at [] = refl
    at (x ∷ qs) = at qs

-- and is the latest of its variable then
pub top_more : (ps : List Piece) (p : Piece) → Before p ps → IsTop (ps ++ p ∷ [])
top_more ps p before q e =
    subst (λ r. NotAfter r (ps ++ p ∷ [])) (last_pushed ps p q e)
    (all-append (λ r. is_of (full_of p) r ≡ true → iteration_of r ≤ iteration_of p) ps (p ∷ [])
    (weaker ps before) ((λ same. omega arith), tt))
  where
    weaker : (qs : List Piece) → Before p qs → NotAfter p qs
    weaker [] all = tt
    weaker (r ∷ qs) all = ((λ same. let less = all.0 same in omega (arith, less)), weaker qs all.1)

-- one step of a loop over pieces
pub next_single : (turn now : Bool) (ps : List Piece) (p : Piece) → (turn ≡ true → IsTop ps)
    → now ≡ (turn && in_turn_behind (last_of ps) ps p)
    → now ≡ true → list_any (is_twin p) ps ≡ false
next_single turn now ps p tops is turns =
    let b = both_hold turn (in_turn_behind (last_of ps) ps p) (sym is ∙ turns) in
    turn_single ps p (turn_before ps p (tops b.0) b.1)

pub next_top : (turn now : Bool) (ps : List Piece) (p : Piece) → (turn ≡ true → IsTop ps)
    → now ≡ (turn && in_turn_behind (last_of ps) ps p)
    → now ≡ true → IsTop (ps ++ p ∷ [])
next_top turn now ps p tops is turns =
    let b = both_hold turn (in_turn_behind (last_of ps) ps p) (sym is ∙ turns) in
    top_more ps p (turn_before ps p (tops b.0) b.1)

-- one piece more that is no twin
pub again_more : (ps : List Piece) (k : ℕ) (p : Piece) (w : Option Piece) → k < length ps
    → p ≡ get_or ps k p → list_any (is_twin p) (take k ps) ≡ false
    → first_again_behind is_twin (take k ps) (drop k ps) ≡ w
    → first_again_behind is_twin (take (k + 1) ps) (drop (k + 1) ps) ≡ w
again_more ps k p w within at new all =
    ap (λ (l : List Piece). first_again_behind is_twin l (drop (k + 1) ps)) (taken ps k p within at)
    ∙ ap (λ b. if b then Some p
    else first_again_behind is_twin (take k ps ++ p ∷ []) (drop (k + 1) ps)) (sym new)
    ∙ ap (first_again_behind is_twin (take k ps)) (sym (left_over ps k p within at)) ∙ all

pub top_taken : (ps : List Piece) (k : ℕ) (p : Piece) → k < length ps → p ≡ get_or ps k p
    → IsTop (take k ps ++ p ∷ []) → IsTop (take (k + 1) ps)
top_taken ps k p within at = subst IsTop (sym (taken ps k p within at))
