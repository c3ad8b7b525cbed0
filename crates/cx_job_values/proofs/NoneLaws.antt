-- What follows where no fault is found.
use Rattle.std.proofs.Common.{◌≡◌, refl, subst, ℕ, zero, suc, Bool, true, false, ◌&&◌, List, [], ◌∷◌, slice_get, Option, Some, None, if◌then◌else◌}
use Rattle.cx_plan.specs.Lists.{or_else, first_of_each}

pub no_some : {X : Type 0} {x : X} {A : Type 0} → None ≡ Some x → A
no_some e = absurd cc

pub some_none : {X : Type 0} {x : X} {A : Type 0} → Some x ≡ None → A
some_none e = absurd cc

pub some_same : {X : Type 0} (x y : X) → Some x ≡ Some y → x ≡ y
some_same x y e = cc

pub first_none : {X : Type 0} (a b : Option X) → or_else a b ≡ None → a ≡ None
first_none None b e = refl
first_none (Some x) b e = some_none e

pub second_none : {X : Type 0} (a b : Option X) → or_else a b ≡ None → b ≡ None
second_none None b e = e
second_none (Some x) b e = some_none e

pub passed : {X : Type 0} (b : Bool) (x : X) → (if b then None else Some x) ≡ None → b ≡ true
passed true x e = refl
passed false x e = some_none e

pub both_first : (a b : Bool) → (a && b) ≡ true → a ≡ true
both_first true b e = refl
both_first false b e = e

pub none_at : {X Y : Type 0} (f : X → Option Y) (xs : List X) (k : ℕ) (x : X)
    → first_of_each f xs ≡ None → slice_get xs k ≡ Some x → f x ≡ None
none_at f [] zero x none there = no_some there
none_at f [] (suc k) x none there = no_some there
none_at f (y ∷ ys) zero x none there =
    let same : y ≡ x = cc in
    subst (λ z. f z ≡ None) same (first_none (f y) (first_of_each f ys) none)
none_at f (y ∷ ys) (suc k) x none there =
    none_at f ys k x (second_none (f y) (first_of_each f ys) none) there
