-- Groups linked, from the last one on.
use Rattle.std.proofs.Common.{◌≡◌, refl, sym, ◌∙◌, ap, ℕ, List, [], ◌∷◌, ◌++◌, length, take, drop, slice_get, Option, None}
use Rattle.std.proofs.lemmas.List.{append-nil}
use Rattle.std.proofs.lemmas.Option.{slice_get_past}
use Rattle.cx_scope.specs.declared.names.NamedGroup.{NamedGroup}
use Rattle.cx_bind.specs.NamePlaces.{place_of}
use Rattle.cx_scope.specs.Chains.{named_from, FindsFirsts, FindsNexts}

module _ {X : Type 0} where
  none_left : (xs : List X) → drop (length xs) xs ≡ []
  none_left [] = refl
  none_left (x ∷ xs) = none_left xs

  all_of : (xs : List X) → take (length xs) xs ≡ xs
  all_of [] = refl
  all_of (x ∷ xs) = ap (λ l. x ∷ l) (all_of xs)

  -- a slice of a whole vector, written back
  pub written : (new items : List X) (len : ℕ) → length new ≡ length items → len ≡ length items
      → take len (new ++ drop (length new) items) ≡ new
  written new items len same is =
      ap (λ n. take len (new ++ drop n items)) same
      ∙ ap (λ l. take len (new ++ l)) (none_left items)
      ∙ ap (λ l. take len l) (append-nil new)
      ∙ ap (λ n. take n new) (is ∙ sym same)
      ∙ all_of new

pub no_firsts : (gs : List NamedGroup) (firsts : List (List ℕ × ℕ)) → firsts ≡ []
    → FindsFirsts firsts (length gs) gs
no_firsts gs firsts e = λ name. ap (λ es. place_of es name) e
    ∙ ap (λ l. named_from name (length gs) l) (sym (none_left gs))

pub no_nexts : (gs : List NamedGroup) (nexts : List (Option ℕ)) → FindsNexts nexts (length gs) gs
no_nexts gs nexts = λ j g past got.
    absurd (let none : slice_get gs j ≡ None = slice_get_past gs j past in cc)
