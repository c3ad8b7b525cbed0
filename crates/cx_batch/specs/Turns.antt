-- Tasks that take turns: what is asked of them, and what some turns do.
use Rattle.std.specs.Prelude.{ℕ, ◌≡◌, ◌≢◌, ◌≤◌, ◌+◌, List, [], ◌∷◌, map, sum}
use Rattle.std.specs.List.{AllByRecursion}
use Rattle.cx_batch.specs.declared.task.Task.{Ghosts}

-- a place that is none of these
abbrev pub IsElsewhere : ℕ → List ℕ → Type 0
IsElsewhere place places = AllByRecursion (λ p. place ≢ p) places

-- no two of these places are the same
abbrev pub AreApart : List ℕ → Type 0
AreApart [] = Unit {0}
AreApart (place ∷ places) = IsElsewhere place places × AreApart places

-- each task is sound
abbrev pub AreSound : {X K : Type 0} → Ghosts K X → X → List K → Type 0
AreSound m x tasks = AllByRecursion (λ task. m.sound task x) tasks

-- The tasks and what they share, before and after some turns. The tasks keep their places and are
-- sound. The count has risen by the work of all of them. A task at a place that is none of theirs
-- is sound if it was.
pub record Turned {X K : Type 0} (m : Ghosts K X) (was is : List K) (x y : X) : Type 0 where
  pub places : map m.place is ≡ map m.place was
  pub sound : AreSound m y is
  pub rises : sum (map m.work was) ≤ sum (map m.work is)
  pub counts : m.count y + sum (map m.work was) ≡ m.count x + sum (map m.work is)
  pub fixed : m.fixed y ≡ m.fixed x
  pub others : (other : K) → IsElsewhere (m.place other) (map m.place was)
      → m.sound other x → m.sound other y
