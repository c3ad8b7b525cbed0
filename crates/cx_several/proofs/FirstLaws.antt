-- A call on the first disk and the first wire.
use Rattle.std.proofs.Common.{◌≡◌, ◌≤◌, List, [], ◌∷◌, refl, sym, subst}
use Rattle.std.specs.List.{AllByRecursion}
use Rattle.cx_wire.specs.declared.wire.Wire.{Ghosts as WireGhosts}
use Rattle.cx_core.specs.Starts.{AreEmpty}
use Rattle.cx_several.specs.Clauses.{OnFirst}

pub on_first : {D W : Type 0} (holds : D → D → W → W → Type 0) (all was : List D) (ws vs : List W)
    (a b : D) (v u : W) → all ≡ a ∷ was → ws ≡ v ∷ vs → holds a b v u
    → OnFirst holds all (b ∷ was) ws (u ∷ vs)
on_first holds all was ws vs a b v u disks wires so =
    subst (λ l. OnFirst holds l (b ∷ was) ws (u ∷ vs)) (sym disks)
    (subst (λ l. OnFirst holds (a ∷ was) (b ∷ was) l (u ∷ vs)) (sym wires) (so, (refl, refl)))

-- what follows from it of any of them
pub first_holds : {D W : Type 0} (holds : D → D → W → W → Type 0) (P : Type 0)
    → ((a b : D) (v u : W) → holds a b v u → P) → (was is : List D) (vs us : List W)
    → OnFirst holds was is vs us → P
first_holds holds P so [] is vs us x = absurd x
first_holds holds P so (a ∷ was) [] vs us x = absurd x
first_holds holds P so (a ∷ was) (b ∷ is) [] us x = absurd x
first_holds holds P so (a ∷ was) (b ∷ is) (v ∷ vs) [] x = absurd x
first_holds holds P so (a ∷ was) (b ∷ is) (v ∷ vs) (u ∷ us) x = so a b v u x.0

-- that wire is as a call asks
pub first_served : {W : Type 0} (w : WireGhosts W) (all more : List W) (wire : W)
    → all ≡ wire ∷ more
    → AllByRecursion (λ (v : W). (512 ≤ w.parts v) × AreEmpty (w.queue v)) all
    → (512 ≤ w.parts wire) × AreEmpty (w.queue wire)
first_served {W} w all more wire is served =
    let both : AllByRecursion (λ (v : W). (512 ≤ w.parts v) × AreEmpty (w.queue v)) (wire ∷ more) =
    subst (λ l. AllByRecursion (λ (v : W). (512 ≤ w.parts v) × AreEmpty (w.queue v)) l) is served in
    both.0
