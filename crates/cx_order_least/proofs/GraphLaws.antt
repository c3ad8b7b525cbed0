-- The pairs that were passed, and the next.
use Rattle.std.proofs.Common.{◌≡◌, ℕ, ◌+◌, ◌<◌, Bool, true, false, ◌&&◌, ◌||◌, eqb, List, length, get_or, take, refl, sym, ◌∙◌, ap}
use Rattle.std.proofs.lemmas.List.Folds.{list_any_more}
use Rattle.cx_order_least.specs.Orders.{pair_before}

and_or : (p q w : Bool) → ((p || q) && w) ≡ ((p && w) || (q && w))
and_or true true true = refl
and_or true true false = refl
and_or true false true = refl
and_or true false false = refl
and_or false q w = refl

pub pair_more : (pairs : List (ℕ × ℕ)) (i : ℕ) (within : Bool) (a b : ℕ) → i < length pairs
    → ((pair_before (take i pairs) a b && within)
    || ((eqb (get_or pairs i (0, 0)).0 a && eqb (get_or pairs i (0, 0)).1 b) && within))
    ≡ (pair_before (take (i + 1) pairs) a b && within)
pair_more pairs i within a b h =
    sym (ap (λ t. t && within)
    (list_any_more (λ pair. eqb pair.0 a && eqb pair.1 b) pairs i (0, 0) h)
    ∙ and_or (pair_before (take i pairs) a b)
    (eqb (get_or pairs i (0, 0)).0 a && eqb (get_or pairs i (0, 0)).1 b) within)
