-- What a table of names has.
use Rattle.std.proofs.Common.{◌≡◌, refl, sym, ◌∙◌, ap, ℕ, Bool, true, false, ◌||◌, List, [], ◌∷◌, ◌++◌, map, if◌then◌else◌}
use Rattle.std.proofs.lemmas.List.{map_push}
use Rattle.std.proofs.lemmas.List.Folds.{list_any-append}
use Rattle.std.proofs.lemmas.Slice.Eq.{bytes_eq-Decides}
use Rattle.std.specs.Bool.{one_answer}
use Rattle.std.specs.List.{list_any}
use Rattle.std.specs.Str.{bytes_eq}
use Rattle.cx_text.specs.Lexemes.{same_name, among}
use Rattle.cx_text_names.specs.Folded.{HasNames}
use Rattle.cx_text.specs.Bytes.{folded}

same_back : (a b : List ℕ) → bytes_eq a b ≡ bytes_eq b a
same_back a b = one_answer (bytes_eq a b) (bytes_eq b a) (bytes_eq-Decides a b)
    ((λ h. sym ((bytes_eq-Decides b a).0 h)), (λ e. (bytes_eq-Decides b a).1 (sym e)))

or_none : (a : Bool) → (a || false) ≡ a
or_none true = refl
or_none false = refl

there_already : (o n : List ℕ) (ns : List (List ℕ)) (b : Bool) → bytes_eq o n ≡ b
    → list_any (bytes_eq n) ns ≡ true → list_any (bytes_eq o) ns ≡ (list_any (bytes_eq o) ns || b)
there_already o n ns true same h =
    let e : list_any (bytes_eq o) ns ≡ true =
    ap (λ m. list_any (bytes_eq m) ns) ((bytes_eq-Decides o n).0 same) ∙ h in
    rw e refl
there_already o n ns false same h = sym (or_none (list_any (bytes_eq o) ns))

put : (o n : List ℕ) (ns : List (List ℕ)) (b : Bool) → list_any (bytes_eq n) ns ≡ b
    → list_any (bytes_eq o) (if b then ns else ns ++ n ∷ [])
    ≡ (list_any (bytes_eq o) ns || bytes_eq o n)
put o n ns true h = there_already o n ns (bytes_eq o n) refl h
put o n ns false h = list_any-append (bytes_eq o) ns (n ∷ [])
    ∙ ap (λ b. list_any (bytes_eq o) ns || b) (or_none (bytes_eq o n))

more : (names : List (List ℕ)) (name other : List ℕ)
    → (among names other || same_name other name) ≡ among (names ++ name ∷ []) other
more names name other =
    ap (λ b. among names other || b) (sym (or_none (same_name other name)))
    ∙ sym (list_any-append (same_name other) names (name ∷ []))

module _ {V : Type 0} (items : V → List ℕ) where
  put_keys : (v : V) (keys : List V) (b : Bool)
      → map items (if b then keys else keys ++ v ∷ [])
      ≡ (if b then map items keys else map items keys ++ items v ∷ [])
  put_keys v keys true = refl
  put_keys v keys false = map_push items keys v

  any_key : (n : List ℕ) (keys : List V)
      → list_any (λ k. bytes_eq n (items k)) keys ≡ list_any (bytes_eq n) (map items keys)
  any_key n [] = refl
  any_key n (k ∷ keys) = ap (λ b. bytes_eq n (items k) || b) (any_key n keys)

  -- a table has a name where its list does
  pub found : (v : V) (keys : List V) (name : List ℕ) (names : List (List ℕ))
      → items v ≡ folded name → HasNames (map items keys) names
      → list_any (λ k. bytes_eq (items v) (items k)) keys ≡ among names name
  found v keys name names key has =
      any_key (items v) keys ∙ ap (λ n. list_any (bytes_eq n) (map items keys)) key ∙ has name

  -- a table and its list with a name more
  pub one_more : (v : V) (keys keys2 : List V) (name : List ℕ) (names names2 : List (List ℕ))
      → items v ≡ folded name → HasNames (map items keys) names
      → keys2 ≡ (if list_any (λ k. bytes_eq (items v) (items k)) keys then keys else keys ++ v ∷ [])
      → names2 ≡ names ++ name ∷ [] → HasNames (map items keys2) names2
  one_more v keys keys2 name names names2 key has after longer = λ other.
      ap (λ ks. list_any (bytes_eq (folded other)) (map items ks)) after
      ∙ ap (λ ns. list_any (bytes_eq (folded other)) ns)
      (put_keys v keys (list_any (λ k. bytes_eq (items v) (items k)) keys))
      ∙ put (folded other) (items v) (map items keys)
      (list_any (λ k. bytes_eq (items v) (items k)) keys) (sym (any_key (items v) keys))
      ∙ ap (λ n. list_any (bytes_eq (folded other)) (map items keys) || bytes_eq (folded other) n)
      key
      ∙ ap (λ b. b || same_name other name) (has other)
      ∙ more names name other
      ∙ ap (λ ns. among ns other) (sym longer)
