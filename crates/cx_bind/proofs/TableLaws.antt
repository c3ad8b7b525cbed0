-- What is pushed in two parts.
use Rattle.std.proofs.Common.{◌≡◌, ◌∙◌, ap, List, ◌++◌}
use Rattle.std.proofs.lemmas.List.{append_assoc}

pub joined : {X : Type 0} (t0 t1 t2 a b : List X) → t1 ≡ t0 ++ a → t2 ≡ t1 ++ b
    → t2 ≡ t0 ++ (a ++ b)
joined t0 t1 t2 a b first second = second ∙ ap (λ t. t ++ b) first ∙ append_assoc t0 a b
