-- What is left where nothing was touched.
use Rattle.std.proofs.Common.{◌≡◌, ◌⊎◌, ℕ, ◌<◌, ◌≤◌, length, Option, None, Some, inl, inr, sym, subst, arith}
use Rattle.std.proofs.Math.Path.{fun_ext}
use Rattle.cx_disk.specs.Disk.{Files, SameFiles}
use Rattle.cx_plan.specs.declared.job.Job.{Job}
use Rattle.cx_rule.specs.Meter.{raised}
use Rattle.cx_wire.specs.Received.{counted}
use Rattle.cx_keep.specs.Resuming.{AreTrails}
use Rattle.cx_keep.specs.Trails.{file_of_output}
use Rattle.cx_run_loop.specs.Drives.{Drive, course, CountsNoMore, IsNotBelow, KeepsTrail, LeavesTrails}
use Rattle.cx_run_loop.proofs.FoundLaws.{only_newest}
use Rattle.cx_run.specs.Calls.{Work, IsStill, driven}

not_below_itself : (n : Option ℕ) → IsNotBelow n n
not_below_itself None = tt
not_below_itself (Some n) = omega arith

-- an image from before is a trail that keeps pace
keeps_trail : (d : Drive) → AreTrails (course d) d.disk.old → (image : Files)
    → d.disk.old.images image → KeepsTrail d image
keeps_trail d trails image was =
    record {
      trail = trails image was;
      not_behind = λ goes_on. record {
        first = image;
        was = was;
        not_below = λ n m one other. subst (λ (x : Option ℕ). IsNotBelow n x)
            (only_newest image n m one other) (not_below_itself n);
      };
      pace = λ c j has within long all n is.
          let l : length (image (file_of_output j)) < length (image (file_of_output j)) =
          all image was in
          absurd (omega (arith, l));
    }

pub still_trails : (w : Work) (job : Job) → IsStill w → w.disk.tells
    → AreTrails (course (driven w job)) w.disk.old → LeavesTrails (driven w job)
still_trails w job still told trails =
    let quiet = still.quiet told in
    record {
      later = quiet.moments.later;
      each = λ since image le left. go image (quiet.moments.each since image le left);
    }
  where
    go : {L : Type 0} (image : Files)
        → L ⊎ ((before : Files) × w.disk.old.images before × SameFiles before image)
        → L ⊎ KeepsTrail (driven w job) image
    go image (inl left) = inl left
    go image (inr (before, was, same)) =
        inr (subst (λ (files : Files). KeepsTrail (driven w job) files) (sym (fun_ext same))
        (keeps_trail (driven w job) trails before was))

-- nothing more was counted
same_points : (old new more : ℕ) → new ≡ old → new ≤ raised old more
same_points old new more same = omega (arith, same)

same_values : (old new more : ℕ) → new ≡ old → new ≤ counted old more
same_values old new more same = omega (arith, same)

pub still_within : (w : Work) (job : Job) → IsStill w → CountsNoMore (driven w job)
still_within w job still found is state goes = record {
  points = same_points w.meter.old w.meter.new _ still.meter;
  values = same_values w.wire.old.received w.wire.new.received _ still.received;
}
