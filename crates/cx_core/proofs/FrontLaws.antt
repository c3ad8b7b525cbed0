-- The writer's next work: its pieces stand in front, and the buffers hold them.
use Rattle.std.proofs.Common.{◌≡◌, ℕ, zero, suc, ◌-◌, ◌<◌, List, [], ◌∷◌, length, take, drop, slice_get, Some, None, arith, refl, sym, ap, subst}
use Rattle.std.specs.List.{AllZip}
use Rattle.std.proofs.lemmas.List.{get_or-map}
use Rattle.cx_core_buffers.specs.Gathering.{Buffers}
use Rattle.cx_core_events.specs.declared.standing.Standing.{Standing}
use Rattle.cx_core_events.specs.declared.standing.Work.{Work}
use Rattle.cx_core_events.specs.Paces.{Paces, part_of, no_part}
use Rattle.cx_core_events.specs.Steps.{one_less, wrote_one}
use Rattle.law_parts.specs.Moves.{Message, Sent, Given, Handed}
use Rattle.law_parts.specs.Nets.{piece_levels}
use Rattle.law_parts.specs.Runs.{Run}
use Rattle.cx_core.specs.Shows.{HoldsFor, HoldsWork}

none_some : {X : Type 0} (y : X) → None ≡ Some y → ⊥
none_some y e = cc

some_is : {X : Type 0} (x y : X) → Some x ≡ Some y → x ≡ y
some_is x y e = cc

-- ---- lists side by side

pub record Front {A B : Type 0} (R : A → B → Type 0) (h : ℕ) (xs : List A) (ms : List B)
    (x : A) : Type 0 where
  pub first : B
  pub is_first : take 1 ms ≡ first ∷ []
  pub related : R x first
  pub rest : AllZip R (take (h - 1) (drop 1 xs)) (drop 1 ms)

pub front : {A B : Type 0} (R : A → B → Type 0) (h : ℕ) (xs : List A) (ms : List B) (x : A) → 0 < h
    → slice_get xs 0 ≡ Some x → AllZip R (take h xs) ms → Front R h xs ms x
front R zero xs ms x l e z = absurd (omega (arith, l))
front R (suc h) [] ms x l e z = absurd (none_some x e)
front R (suc h) (y ∷ ys) [] x l e z = absurd z
front R (suc h) (y ∷ ys) (m ∷ ms) x l e z =
    let same : suc h - 1 ≡ h = omega arith in
    record {
      first = m;
      is_first = refl;
      related = subst (λ a. R a m) (some_is y x e) z.0;
      rest = subst (λ n. AllZip R (take n ys) ms) (sym same) z.1;
    }

pub zip_weaker : {A B : Type 0} (R Q : A → B → Type 0) → ((a : A) (b : B) → R a b → Q a b)
    → (xs : List A) (ys : List B) → AllZip R xs ys → AllZip Q xs ys
zip_weaker R Q f [] [] z = tt
zip_weaker R Q f [] (y ∷ ys) z = absurd z
zip_weaker R Q f (x ∷ xs) [] z = absurd z
zip_weaker R Q f (x ∷ xs) (y ∷ ys) z = (f x y z.0, zip_weaker R Q f xs ys z.1)

-- ---- pieces

-- what the buffers hold of the first message
pub holds_front : {tells : Type 0} (t : tells) (r : Run) (b : Buffers) (k : ℕ) (work : Work)
    (m : Message tells) → HoldsWork r b k work m
    → HoldsFor r b k work.var (piece_levels t (m ∷ []))
holds_front t r b k work (Handed n state) h = h t
holds_front t r b k work (Sent h values) f = absurd f
holds_front t r b k work (Given number) f = absurd f

-- what other buffers hold too
pub holds_on : {tells : Type 0} (r : Run) (b c : Buffers) (k : ℕ)
    → ((var : _) (state : _) → HoldsFor r b k var state → HoldsFor r c k var state)
    → (work : Work) (m : Message tells) → HoldsWork r b k work m → HoldsWork r c k work m
holds_on r b c k f work (Handed n state) h = λ t. f work.var (state t) (h t)
holds_on r b c k f work (Sent h values) g = absurd g
holds_on r b c k f work (Given number) g = absurd g

-- ---- the pace behind a work

pub less_of : (p : Paces) (k : ℕ) → k < length p.parts
    → (part_of (wrote_one p) k).handed ≡ (part_of p k).handed - 1
less_of p k l = ap (λ (s : Standing). s.handed) (get_or-map one_less p.parts k no_part no_part l)
