-- The first of a list that passes a test, as the list grows.
use Rattle.std.proofs.Common.{◌≡◌, refl, sym, ◌∙◌, ap, ℕ, ◌+◌, Bool, true, false, cond, ◌||◌, List, [], ◌∷◌, ◌++◌, length, find, position, slice_get, Option, Some, None, is_some, arith, nat_lt, true≢false}
use Rattle.std.proofs.lemmas.Bool.{ltb-false}
use Rattle.std.specs.List.{list_any, position_from, position_or_len}
use Rattle.std.specs.Option.{option_and_then}
use Rattle.std.proofs.lemmas.Option.{slice_get_past}
use Rattle.std.proofs.lemmas.Iterator.Adapters.{position_from-zero}
use Rattle.std.proofs.lemmas.List.Folds.{find_at}
use Rattle.cx_plan.specs.Lists.{or_else}

or_none : {X : Type 0} (o : Option X) → or_else o None ≡ o
or_none (Some x) = refl
or_none None = refl

module _ {X : Type 0} (p : X → Bool) where
  chosen : (b : Bool) (i : ℕ) (o q r : Option ℕ) → o ≡ or_else q r
      → cond b (Some i) o ≡ or_else (cond b (Some i) q) r
  chosen true i o q r h = refl
  chosen false i o q r h = h

  from_push : (i : ℕ) (xs : List X) (x : X)
      → position_from p i (xs ++ x ∷ [])
      ≡ or_else (position_from p i xs) (cond (p x) (Some (i + length xs)) None)
  from_push i [] x = ap (λ k. cond (p x) (Some k) None) (omega arith)
  from_push i (y ∷ ys) x =
      let e : (i + 1) + length ys ≡ i + length (y ∷ ys) = omega arith in
      chosen (p y) i (position_from p (i + 1) (ys ++ x ∷ [])) (position_from p (i + 1) ys)
      (cond (p x) (Some (i + length (y ∷ ys))) None)
      (from_push (i + 1) ys x
      ∙ ap (λ k. or_else (position_from p (i + 1) ys) (cond (p x) (Some k) None)) e)

  pub place_push : (xs : List X) (x : X)
      → position p (xs ++ x ∷ []) ≡ or_else (position p xs) (cond (p x) (Some (length xs)) None)
  place_push xs x =
      let e : 0 + length xs ≡ length xs = omega arith in
      position_from-zero p (xs ++ x ∷ [])
      ∙ from_push 0 xs x
      ∙ ap (λ k. or_else (position_from p 0 xs) (cond (p x) (Some k) None)) e
      ∙ ap (λ o. or_else o (cond (p x) (Some (length xs)) None)) (sym (position_from-zero p xs))

  within : (xs : List X) (n : ℕ) (b : Bool) → nat_lt n (length xs) ≡ b
      → slice_get xs n ≡ option_and_then (slice_get xs) (cond b (Some n) None)
  within xs n true e = refl
  within xs n false e = slice_get_past xs n (ltb-false n (length xs) e)

  -- what is found stands at its place
  pub found_at_place : (xs : List X) → find p xs ≡ option_and_then (slice_get xs) (position p xs)
  found_at_place xs = find_at p xs
      ∙ within xs (position_or_len p xs) (nat_lt (position_or_len p xs) (length xs)) refl

  any_of : (b : Bool) (i : ℕ) (o : Option ℕ) (c : Bool) → is_some o ≡ c
      → is_some (cond b (Some i) o) ≡ (b || c)
  any_of true i o c h = refl
  any_of false i o c h = h

  from_any : (i : ℕ) (xs : List X) → is_some (position_from p i xs) ≡ list_any p xs
  from_any i [] = refl
  from_any i (x ∷ xs) = any_of (p x) i (position_from p (i + 1) xs) (list_any p xs)
      (from_any (i + 1) xs)

  -- some element has a place where one passes
  pub placed_any : (xs : List X) → is_some (position p xs) ≡ list_any p xs
  placed_any xs = ap (λ o. is_some o) (position_from-zero p xs) ∙ from_any 0 xs

-- an element joins at a place, where none of its kind has one
pub joined : (o : Option ℕ) (b : Bool) (k : ℕ) → (b ≡ true → o ≡ None)
    → cond b (Some k) o ≡ or_else o (cond b (Some k) None)
joined o true k h = ap (λ o. or_else o (Some k)) (sym (h refl))
joined o false k h = sym (or_none o)

-- it has a place already
pub kept : (o : Option ℕ) (b : Bool) (k : ℕ) → (b ≡ true → is_some o ≡ true)
    → o ≡ or_else o (cond b (Some k) None)
kept (Some n) b k h = refl
kept None true k h = absurd (true≢false (sym (h refl)))
kept None false k h = refl
