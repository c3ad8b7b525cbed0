-- What a disk over folders keeps, between its calls and within them.
use Rattle.std.specs.Prelude.{ℕ, ◌≡◌, ◌<◌, false, List, Option, Some, Result, OnOk, length, slice_index_or}
use Rattle.std.proofs.Common.{refl, sym, ◌∙◌, subst}
use Rattle.cx_disk.specs.Disk.{Folders, IsSettled}
use Rattle.cx_folder.specs.Names.{Path, paths_in}
use Rattle.cx_folder.specs.Tree.{TreeView, IsFresh}
use Rattle.cx_folder.specs.Pulled.{pulled}
use Rattle.cx_folder.specs.Placed.{IsPlaced, folders_of}
use Rattle.cx_folder.specs.declared.kept.Hold.{Hold}
use Rattle.cx_folder.specs.declared.kept.Hold.TheVariants.{Shut, Lost}
use Rattle.cx_folder.specs.declared.kept.Entries.TheVariants.{Made}
use Rattle.cx_folder.proofs.ReadyLaws.{fresh_tended}

-- what a sync of known folders has settled
pub settled_known : {A E : Type 0} (folders : Folders) (places : Option Folders) (v : TreeView)
    (file : ℕ) (done result : Result A E) → places ≡ Some folders → result ≡ done
    → OnOk done (IsSettled (pulled folders v) file)
    → OnOk result (IsSettled (pulled (folders_of places) v) file)
settled_known {A} {E} folders places v file done result is same settled =
    subst (λ (r : Result A E). OnOk r (IsSettled (pulled (folders_of places) v) file)) (sym same)
    (subst (λ (o : Option Folders). OnOk done (IsSettled (pulled (folders_of o) v) file)) (sym is)
    settled)

-- a disk that was made for its folders
pub fresh_placed : {F T : Type 0} {tells : Type 0} {holds : F → Path → Type 0} {path_of : T → Path}
    {view : F → TreeView} (f : F) (hs : List (Hold T)) (folders : Folders) (count : ℕ)
    → count ≡ length (paths_in folders) → length hs ≡ count
    → ((k : ℕ) → k < count → slice_index_or hs k Lost ≡ Shut) → (tells → IsFresh (view f))
    → IsPlaced tells holds path_of view f hs Made (Some folders) false
fresh_placed {F} {T} {tells} {holds} {path_of} {view} f hs folders count all as_many shut fresh =
    record {
      known = λ t. refl;
      placed = λ m. refl;
      held = λ m. absurd (cc);
      kept = as_many ∙ all;
      tended = λ t. fresh_tended hs (fresh t)
          (λ k lt. shut k (subst (λ (n : ℕ). k < n) (sym all) lt));
    }
