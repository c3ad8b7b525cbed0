-- Rows of boundary points.
use Rattle.std.proofs.Common.{◌≡◌, ℕ, ℤ, pos, List, ◌∷◌, [], Some, ap, sym, ◌∙◌, arith}
use Rattle.cx_rule.specs.Place.{param_of}
use Rattle.cx_rule.specs.Rows.{SeenRow, ShowsAlong, GivesRow, reach_at}
use Rattle.cx_rule.specs.Single.{one_number, read_rule, param_rule}
use Rattle.cx_thorn_pde.specs.Rows.{AreBy}
use Rattle.cx_thorn_pde.proofs.RowLaws.{alone_shown}

pub read_row : (r : SeenRow) (ns : List ℤ) → reach_at r 0 ≡ 0 → ShowsAlong r 0 (pos 0) (pos 0) ns
    → GivesRow read_rule r ns
read_row r ns reach shows i l = ap (λ n. Some (n ∷ [])) (sym (alone_shown r 0 ns i reach shows l))

pub param_row : (r : SeenRow) (number : ℤ) (ns : List ℤ) (n : ℕ)
    → ((i : ℕ) → number ≡ param_of (r.place i) 0) → n ≡ r.count
    → AreBy (λ _. Some number) ns n → GivesRow param_rule r ns
param_row r number ns n same count are i l =
    ap (λ k. Some (k ∷ [])) (sym (same i)) ∙ ap one_number (are i (omega (arith, l, count)))
