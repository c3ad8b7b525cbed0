-- One line more behind others.
use Rattle.std.proofs.Common.{◌≡◌, sym, ◌∙◌, ap, ℕ, ◌+◌, List, [], ◌∷◌, ◌++◌, Option, Some, zero-add}
use Rattle.std.proofs.lemmas.List.{map-id, flat_map_more}
use Rattle.std.proofs.lemmas.List.FromFn.{map-range_with_len_more}
use Rattle.std.specs.List.{flat_map, range_with_len}
use Rattle.cx_bind.specs.Variables.{copies}

one_behind : {X : Type 0} (line : X → List ℕ) (text : List ℕ) (xs ys : List X) (x : X)
    {before after : List ℕ} → ys ≡ xs ++ x ∷ [] → before ≡ text ++ flat_map line xs
    → after ≡ before ++ line x → after ≡ text ++ flat_map line ys
one_behind line text xs ys x more begun added =
    added ∙ ap (λ part. part ++ line x) begun ∙ flat_map_more line text xs x
    ∙ ap (λ zs. text ++ flat_map line zs) (sym more)

pub numbers_more : (n : ℕ) → range_with_len 0 (n + 1) ≡ range_with_len 0 n ++ n ∷ []
numbers_more n =
    sym (map-id (range_with_len 0 (n + 1)))
    ∙ map-range_with_len_more (λ k. k) 0 n n (zero-add n)
    ∙ ap (λ ks. ks ++ n ∷ []) (map-id (range_with_len 0 n))

-- one number more
pub one_number_more : (line : ℕ → List ℕ) (text : List ℕ) (n : ℕ) {before after : List ℕ}
    → before ≡ text ++ flat_map line (range_with_len 0 n) → after ≡ before ++ line n
    → after ≡ text ++ flat_map line (range_with_len 0 (n + 1))
one_number_more line text n begun added =
    one_behind line text (range_with_len 0 n) (range_with_len 0 (n + 1)) n (numbers_more n)
    begun added

-- one element of an array more
pub one_index_more : (line : Option ℕ → List ℕ) (text : List ℕ) (n : ℕ) {before after : List ℕ}
    → before ≡ text ++ flat_map line (copies (Some n)) → after ≡ before ++ line (Some n)
    → after ≡ text ++ flat_map line (copies (Some (n + 1)))
one_index_more line text n begun added =
    one_behind line text (copies (Some n)) (copies (Some (n + 1))) (Some n)
    (map-range_with_len_more (λ k. Some k) 0 n n (zero-add n)) begun added
