-- Folders in memory as they read are one of the images that a crash may leave.
use Rattle.std.specs.Prelude.{ℕ, suc, ◌≤◌, List, [], ◌∷◌, length}
use Rattle.std.proofs.Common.{refl, arith, inl, inr}
use Rattle.cx_folder.specs.Tree.{Tree, IsTreeView}
use Rattle.cx_folder.specs.declared.memory_folder.Event.{Event}
use Rattle.cx_folder.specs.Memory.{seen_in, images_in, left_in, view_in}

pub reads_in : (events : List Event) → images_in events (seen_in events)
reads_in [] = refl
reads_in (event ∷ before) = inl refl

counts_in : (events : List Event) (since : ℕ) (image : Tree) → images_in events image
    → left_in events since image
counts_in [] since image now = now
counts_in (event ∷ before) since image now = inl now

past_end : (n : ℕ) → suc n ≤ n → ⊥
past_end n le = omega arith

only_in : (events : List Event) (image : Tree) → left_in events (length events) image
    → images_in events image
only_in [] image left = left
only_in (event ∷ before) image left = elim left as (λ _. images_in (event ∷ before) image)
    [ inl now ↦ now | inr past ↦ absurd (past_end (length before) past.0) ]

pub sound_in : (events : List Event) → IsTreeView (view_in events)
sound_in events = record {
  reads = reads_in events;
  counts_now = λ since image le now. counts_in events since image now;
  only_now = λ image left. only_in events image left;
}
