-- Values that are all there, one more at a time.
use Rattle.std.proofs.Common.{◌≡◌, ◌⊎◌, inl, inr, refl, sym, ◌∙◌, ap, subst, ℕ, ◌+◌, ◌<◌, ◌≤◌, Bool, List, [], ◌∷◌, ◌++◌, map, length, drop, get_or, position, Option, Some, None, Result, Ok, Err, arith, if◌then◌else◌}
use Rattle.std.specs.Prelude.{slice_get, option_map}
use Rattle.std.specs.List.{position_from, enumerate_from}
use Rattle.std.proofs.lemmas.Iterator.Adapters.{position_from-zero}
use Rattle.std.proofs.lemmas.List.{append_assoc, append-nil, length-append}
use Rattle.std.proofs.lemmas.List.FromFn.{length-enumerate_from, get_or-enumerate_from}
use Rattle.std.proofs.lemmas.Option.{slice_get-map, slice_get-get_or}
use Rattle.cx_plan.specs.declared.item.Item.{Item}
use Rattle.cx_values.proofs.Along.{left_over}
use Rattle.cx_values.specs.declared.values.Values.{Values}
use Rattle.cx_order.specs.Meanings.{World}
use Rattle.cx_rule.specs.declared.spec.Spec.{Spec}
use Rattle.cx_text.specs.Telling.{Answers}
use Rattle.cx_job_items.specs.declared.fault.MatchFault.{MatchFault}
use Rattle.cx_job_items.specs.declared.fault.MatchFault.TheVariants.{Memory}
use Rattle.cx_job_items.specs.Matching.{with_first, all_some, thorn_number, routine_number, spec_at, with_routine, matched_with, matched, matched_if_run, all_matched}
use Rattle.cx_job_items.proofs.AllLaws.{nothing_left, Given, given_none, given_one, given_fault, given_all}

-- some values with others behind them
abbrev followed : {Y : Type 0} → List Y → Option (List Y) → Option (List Y)
followed ys None = None
followed ys (Some others) = Some (ys ++ others)

none_before : {Y : Type 0} (o : Option (List Y)) → followed [] o ≡ o
none_before None = refl
none_before (Some ys) = refl

one_before : {Y : Type 0} (ys : List Y) (y : Y) (o : Option (List Y))
    → followed (ys ++ y ∷ []) o ≡ followed ys (with_first (Some y) o)
one_before ys y None = refl
one_before ys y (Some others) = ap (λ zs. Some zs) (append_assoc ys (y ∷ []) others)

module _ {X Y : Type 0} (f : X → Option Y) (xs : List X) where
  -- what the first ones gave and what the others give is what all give
  abbrev pub Had : ℕ → List Y → Type 0
  Had k ys = followed ys (all_some (map f (drop k xs))) ≡ all_some (map f xs)

  pub had_none : Had 0 []
  had_none = none_before (all_some (map f xs))

  behind : (k : ℕ) (x : X) (o : Option Y) → k < length xs → x ≡ get_or xs k x → f x ≡ o
      → all_some (map f (drop k xs)) ≡ with_first o (all_some (map f (drop (k + 1) xs)))
  behind k x o within at is =
      ap (λ rest. all_some (map f rest)) (left_over xs k x within at)
      ∙ ap (λ o. with_first o (all_some (map f (drop (k + 1) xs)))) is

  pub had_one : (k : ℕ) (x : X) (y : Y) (ys ys2 : List Y) → k < length xs → x ≡ get_or xs k x
      → f x ≡ Some y → Had k ys → ys2 ≡ ys ++ y ∷ [] → Had (k + 1) ys2
  had_one k x y ys ys2 within at is before after =
      ap (λ zs. followed zs (all_some (map f (drop (k + 1) xs)))) after
      ∙ one_before ys y (all_some (map f (drop (k + 1) xs)))
      ∙ ap (λ o. followed ys o) (sym (behind k x (Some y) within at is))
      ∙ before

  pub had_not : (k : ℕ) (x : X) (ys : List Y) → k < length xs → x ≡ get_or xs k x → f x ≡ None
      → Had k ys → all_some (map f xs) ≡ None
  had_not k x ys within at is before =
      sym before ∙ ap (λ o. followed ys o) (behind k x None within at is)

  pub had_all : (k : ℕ) (ys : List Y) → length xs ≤ k → Had k ys → all_some (map f xs) ≡ Some ys
  had_all k ys past before =
      sym before
      ∙ ap (λ rest. followed ys (all_some (map f rest))) (nothing_left xs k past)
      ∙ ap (λ zs. Some zs) (append-nil ys)

-- ---- the first routine of an item

from_through : {X Y : Type 0} (p : Y → Bool) (f : X → Y) (n : ℕ) (xs : List X)
    → position_from p n (map f xs) ≡ position_from (λ x. p (f x)) n xs
from_through p f n [] = refl
from_through p f n (x ∷ xs) = ap (λ o. if p (f x) then Some n else o) (from_through p f (n + 1) xs)

pub position_through : {X Y : Type 0} (p : Y → Bool) (f : X → Y) (xs : List X)
    → position p (map f xs) ≡ position (λ x. p (f x)) xs
position_through p f xs =
    position_from-zero p (map f xs) ∙ from_through p f 0 xs
    ∙ sym (position_from-zero (λ x. p (f x)) xs)

found : {X Y : Type 0} (f : X → Y) (xs : List X) (k : ℕ) (d : X) → k < length xs
    → slice_get (map f xs) k ≡ Some (f (get_or xs k d))
found f xs k d within = slice_get-map f xs k ∙ ap (option_map f) (slice_get-get_or xs k d within)

-- what is answered with the routine of an item is what is answered of the item
pub as_matched : {X : Type 0} (f : X → Spec) (specs : List X) (w w2 : World) (v : Values) (x : Item)
    (k routine : ℕ) (d : X) (t : Option ℕ) {number : Option ℕ} (result : Result Item MatchFault)
    → number ≡ routine_number (map f specs) x → number ≡ Some k → k < length specs → routine ≡ k
    → w2 ≡ w → t ≡ thorn_number w.thorns x.thorn
    → Answers Memory (matched_with w2 v t x routine (f (get_or specs k d))) result
    → Answers Memory (matched w v (map f specs) x) result
as_matched f specs w w2 v x k routine d t result told is within same world thorn answers =
    let s = f (get_or specs k d) in
    let A : Result Item MatchFault → Type 0 = λ r. Answers Memory r result in
    let place : routine_number (map f specs) x ≡ Some k = sym told ∙ is in
    let with_it : spec_at (map f specs) (routine_number (map f specs) x) ≡ Some (k, s) =
    ap (spec_at (map f specs)) place ∙ ap (option_map (λ s. (k, s))) (found f specs k d within) in
    subst A
    (ap (λ u. matched_with u v t x routine s) world
    ∙ ap (λ t. matched_with w v t x routine s) thorn
    ∙ ap (λ n. matched_with w v (thorn_number w.thorns x.thorn) x n s) same
    ∙ sym (ap (with_routine w v x) with_it))
    answers

-- ---- all items

numbered : {X : Type 0} (xs : List X) (k : ℕ) (x : X) → k < length xs → x ≡ get_or xs k x
    → (k, x) ≡ get_or (enumerate_from 0 xs) k (k, x)
numbered xs k x within at =
    let none : 0 + k ≡ k = omega arith in
    sym (get_or-enumerate_from 0 xs k (k, x) within ∙ ap (λ m. (m, get_or xs k x)) none
    ∙ ap (λ y. (k, y)) (sym at))

module _ (w : World) (v : Values) (specs : List Spec) (run : ℕ) (items : List Item) where
  abbrev one : ℕ × Item → Result Item MatchFault
  one x = matched_if_run w v specs run x

  -- so many items are matched, and what they and the others give is what all give
  pub record Sofar (k : ℕ) (ys : List Item) : Type 0 where
    pub many : length ys ≡ k
    pub given : Given one (enumerate_from 0 items) k ys

  pub sofar_none : Sofar 0 []
  sofar_none = record { many = refl; given = given_none one (enumerate_from 0 items) }

  within_all : (k : ℕ) → k < length items → k < length (enumerate_from 0 items)
  within_all k within = let same = length-enumerate_from 0 items in omega (arith, same, within)

  pub sofar_one : (k : ℕ) (x y : Item) (ys ys2 : List Item) (number : ℕ)
      → (k < length items) × (x ≡ get_or items k x) → number ≡ length ys
      → Answers Memory (one (number, x)) (Ok y) → Sofar k ys → ys2 ≡ ys ++ y ∷ []
      → Sofar (k + 1) ys2
  sofar_one k x y ys ys2 number at is told before after =
      record {
        many = (let n = before.many in
            let more : length (ys ++ y ∷ []) ≡ length ys + 1 = length-append ys (y ∷ []) in
            ap length after ∙ more ∙ ap (λ n. n + 1) n);
        given =
            given_one one (enumerate_from 0 items) k (k, x) y ys ys2 (within_all k at.0)
            (numbered items k x at.0 at.1)
            (ap (λ n. one (n, x)) (sym (is ∙ before.many)) ∙ told) before.given after;
      }

  pub sofar_fault : (k : ℕ) (x : Item) (ys : List Item) (number : ℕ) (e : MatchFault)
      → (k < length items) × (x ≡ get_or items k x) → number ≡ length ys → Sofar k ys
      → Answers Memory (one (number, x)) (Err e)
      → (e ≡ Memory) ⊎ (all_matched w v specs run items ≡ Err e)
  sofar_fault k x ys number e at is before (inl memory) = inl memory
  sofar_fault k x ys number e at is before (inr told) =
      inr (given_fault one (enumerate_from 0 items) k (k, x) ys e (within_all k at.0)
      (numbered items k x at.0 at.1) (ap (λ n. one (n, x)) (sym (is ∙ before.many)) ∙ told)
      before.given)

  pub sofar_all : (k : ℕ) (ys : List Item) → length items ≤ k → Sofar k ys
      → all_matched w v specs run items ≡ Ok ys
  sofar_all k ys past before =
      given_all one (enumerate_from 0 items) k ys
      (let same = length-enumerate_from 0 items in omega (arith, same, past)) before.given
