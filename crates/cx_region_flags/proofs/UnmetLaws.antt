-- The first that passes of what several elements give, one after another.
use Rattle.std.proofs.Common.{◌≡◌, ℕ, ◌+◌, ◌<◌, Bool, sym, ap, ◌∙◌, List, length, get_or, drop, Option, Some, None}
use Rattle.std.specs.List.{find, flat_map}
use Rattle.std.specs.Option.{option_or}
use Rattle.std.proofs.lemmas.List.{drop_more}
use Rattle.std.proofs.lemmas.List.Folds.{find-append}

step : {X Y : Type 0} (p : Y → Bool) (F : X → List Y) (xs : List X) (i : ℕ) (d : X) → i < length xs
    → find p (flat_map F (drop i xs))
    ≡ option_or (find p (F (get_or xs i d))) (find p (flat_map F (drop (i + 1) xs)))
step p F xs i d below =
    ap (λ l. find p (flat_map F l)) (drop_more xs i d below)
    ∙ find-append p (F (get_or xs i d)) (flat_map F (drop (i + 1) xs))

pub first_here : {X Y : Type 0} (p : Y → Bool) (F : X → List Y) (xs : List X) (i : ℕ) (d : X)
    (y : Y) (all : Option Y) → i < length xs → Some y ≡ find p (F (get_or xs i d))
    → find p (flat_map F (drop i xs)) ≡ all → Some y ≡ all
first_here p F xs i d y all below found same =
    ap (λ o. option_or o (find p (flat_map F (drop (i + 1) xs)))) found
    ∙ sym (step p F xs i d below) ∙ same

pub first_later : {X Y : Type 0} (p : Y → Bool) (F : X → List Y) (xs : List X) (i : ℕ) (d : X)
    (all : Option Y) → i < length xs → None ≡ find p (F (get_or xs i d))
    → find p (flat_map F (drop i xs)) ≡ all → find p (flat_map F (drop (i + 1) xs)) ≡ all
first_later p F xs i d all below none same =
    ap (λ o. option_or o (find p (flat_map F (drop (i + 1) xs)))) none ∙ sym (step p F xs i d below)
    ∙ same
