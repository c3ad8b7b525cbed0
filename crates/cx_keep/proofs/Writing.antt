-- The outputs written anew, one after another.
use Rattle.std.proofs.Common.{◌≡◌, inl, inr, ℕ, ◌+◌, ◌≤◌, ◌<◌, max, List, [], length, sym, ◌∙◌, ap, subst, arith}
use Rattle.std.specs.Prelude.{slice_index_or}
use Rattle.std.proofs.lemmas.Bool.{cases_eq}
use Rattle.cx_disk.specs.Disk.{Files, View, Anew, NoLonger}
use Rattle.cx_disk.specs.Files.{old_output_file}
use Rattle.cx_disk.specs.Moments.{After, IsDone, Stepped}
use Rattle.cx_disk.proofs.Moments.{joins}
use Rattle.cx_keep.specs.Renewing.{IsWithinRenewal, IsRenewed, LeavesRenewal, RenewsOutputs}
use Rattle.cx_keep.specs.Resuming.{EarlierSame}
use Rattle.cx_keep.specs.Trails.{file_of_output}
use Rattle.cx_keep.proofs.Begins.{other_output, earlier_file}

module _ (texts : List (List ℕ)) (k : ℕ) (text : List ℕ) (is : text ≡ slice_index_or texts k [])
    (first old new : View) (crash : RenewsOutputs texts first old)
    (after : Stepped (NoLonger (length text)) (file_of_output k) old new) where
  write_image : (c : Files) → After (NoLonger (length text)) (file_of_output k) old c
      → IsWithinRenewal texts first c
  write_image c from =
      let w = crash from.0 from.1 in
      record {
        image = w.image;
        was = w.was;
        slots = λ s low. from.2.others s (earlier_file s k (omega arith)) ∙ w.slots s low;
        former = from.2.others old_output_file (earlier_file old_output_file k (omega arith))
            ∙ w.former;
        outputs = λ j low. elim (cases_eq j k) as
            (λ _. length (c (file_of_output j))
            ≤ max (length (w.image (file_of_output j))) (length (slice_index_or texts j []))) [
              | inl same ↦
                  let was : length (from.0 (file_of_output j))
                  ≤ max (length (w.image (file_of_output j))) (length (slice_index_or texts j []))
                  = w.outputs j low in
                  let size : length text ≡ length (slice_index_or texts j []) =
                  ap length (is ∙ ap (λ (i : ℕ). slice_index_or texts i []) (sym same)) in
                  let now : length (c (file_of_output j))
                  ≤ max (length (from.0 (file_of_output j))) (length text) =
                  subst (λ (i : ℕ). length (c (file_of_output i))
                  ≤ max (length (from.0 (file_of_output i))) (length text)) (sym same) from.2.this
                  in
                  omega arith
              | inr ne ↦
                  let e = ap length (from.2.others (file_of_output j) (other_output j k ne)) in
                  let was = w.outputs j low in
                  omega arith
            ];
      }

  pub write_crash : RenewsOutputs texts first new
  write_crash c now = write_image c (after.crash c now)

  pub write_leaving : LeavesRenewal texts first old → LeavesRenewal texts first new
  write_leaving so_far = joins (IsWithinRenewal texts first) so_far after.moments write_image

  pub write_earlier : EarlierSame first.seen old.seen → EarlierSame first.seen new.seen
  write_earlier earlier f low = after.others f (earlier_file f k low) ∙ earlier f low

  pub write_own :
      ((j : ℕ) → j < k → IsRenewed (slice_index_or texts j []) (file_of_output j) old)
      → IsDone (Anew text) (file_of_output k) old new
      → (j : ℕ) → j < k + 1 → IsRenewed (slice_index_or texts j []) (file_of_output j) new
  write_own own done j low = elim (cases_eq j k) as
      (λ _. IsRenewed (slice_index_or texts j []) (file_of_output j) new) [
        | inl same ↦
            subst (λ (i : ℕ). IsRenewed (slice_index_or texts i []) (file_of_output i) new)
            (sym same) (record { reads = done.changed ∙ is; settled = done.settled })
        | inr ne ↦
            let o = own j (omega arith) in
            let apart = other_output j k ne in
            record {
              reads = after.others (file_of_output j) apart ∙ o.reads;
              settled = λ c now.
                  let from = after.crash c now in
                  from.2.others (file_of_output j) apart ∙ o.settled from.0 from.1
                  ∙ sym (after.others (file_of_output j) apart);
            }
      ]
