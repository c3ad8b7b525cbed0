-- From where a run begins to its end.
use Rattle.std.proofs.Common.{◌≡◌, ℕ, List, length, refl, sym, ◌∙◌, ap, subst}
use Rattle.std.proofs.lemmas.List.{length-map}
use Rattle.std.specs.Prelude.{Option, Some, None, Result, Ok, Err, IfOk}
use Rattle.cx_plan.specs.Setups.{Setup, setup_of}
use Rattle.cx_plan.specs.declared.variable.VarId.{VarId}
use Rattle.cx_outputs.specs.Names.{output_count}
use Rattle.cx_plan.specs.declared.job.Job.{Job}
use Rattle.cx_disk.specs.Disk.{View}
use Rattle.cx_disk.specs.Moments.{IsQuiet}
use Rattle.cx_chk.specs.declared.checkpoint.Checkpoint.{Checkpoint}
use Rattle.cx_chk.specs.Slots.{SlotsSettled}
use Rattle.cx_keep.specs.Beginning.{lengths_left}
use Rattle.cx_keep.specs.Keeping.{Keeper, keeper_of}
use Rattle.cx_keep.specs.Trails.{Counts as AreCounted, OutputsSettled, file_of_output}
use Rattle.law_parts.specs.Beginnings.{run_of}
use Rattle.cx_core.specs.Cores.{Cores}
use Rattle.cx_core.specs.Starts.{lengths_first}
use Rattle.cx_core.specs.Steps.{IsRunning}
use Rattle.cx_run_loop.proofs.TurnLaws.{setup_is}
use Rattle.cx_run_loop.specs.Going.{Setting, Place, IsKept}

-- ---- the keeper and the core as a run begins

lengths_same : (setup : Setup) (found : Option Checkpoint)
    → lengths_left (output_count setup) found ≡ lengths_first setup found
lengths_same setup None = refl
lengths_same setup (Some c) = refl

pub starts_kept : (job : Job) (tells : Type 0) (found : Option Checkpoint) (k : Keeper)
    (core : Cores) (v : View) → k ≡ keeper_of job found → core.buffers.state.key ≡ job.key
    → core.lengths ≡ lengths_first (setup_of job) found → (tells → AreCounted k.lengths v)
    → (tells → SlotsSettled v) → IsKept job tells k core v
starts_kept job tells found k core v is key lengths counts slots =
    let keeper : k ≡ record { keep = job.keep; vars = job.out_vars; lengths = core.lengths } =
    is ∙ ap (λ (l : List ℕ). record { keep = job.keep; vars = job.out_vars; lengths = l })
    (lengths_same (setup_of job) found ∙ sym lengths) in
    record {
      keeper = keeper;
      key = key;
      counts = λ t. subst (λ (l : List ℕ). AreCounted l v)
          (ap (λ (x : Keeper). x.lengths) keeper) (counts t);
      slots = slots;
    }

-- a core counts each output
pub length_count : (s : Setting) (p : Place s) → IsRunning s.wire s.job s.rules p.is
    → length p.is.core.lengths ≡ output_count (setup_of s.job)
length_count s p running =
    ap (λ (l : List ℕ). length l) running.at.shows.book
    ∙ length-map (run_of s.job s.rules running.beginning).setup.out_vars
    (λ (v : VarId). running.at.world.book v.0)
    ∙ ap (λ (u : Setup). output_count u) (setup_is s.job s.rules running.beginning)

-- where a keeper has finished, each output is settled that the core counts, and no count has
-- changed
pub settled_by : (s : Setting) (p : Place s) (k : Keeper) (new : View)
    → IsKept s.job s.disk k p.is.core p.view → IsRunning s.wire s.job s.rules p.is
    → OutputsSettled (length k.lengths) new → OutputsSettled (output_count (setup_of s.job)) new
settled_by s p k new kept running settled =
    let count : length k.lengths ≡ output_count (setup_of s.job) =
    ap (λ (x : Keeper). length x.lengths) kept.keeper ∙ length_count s p running in
    subst (λ (n : ℕ). OutputsSettled n new) count settled

pub counted_quiet : (lengths : List ℕ) (old new : View) → IsQuiet old new → AreCounted lengths old
    → AreCounted lengths new
counted_quiet lengths old new quiet counts j lt =
    counts j lt ∙ sym (ap (λ (l : List ℕ). length l) (quiet.same (file_of_output j)))

pub if_ok_more : {A E : Type 0} {P Q : A → Type 0} (r : Result A E) → ((x : A) → P x → Q x)
    → IfOk r P → IfOk r Q
if_ok_more (Ok x) f h = f x h
if_ok_more (Err e) f h = tt

pub if_ok_is : {A E : Type 0} (r : Result A E) (P : A → Type 0) (x : A) → IfOk r (λ y. y ≡ x) → P x
    → IfOk r P
if_ok_is (Ok y) P x same h = subst P (sym same) h
if_ok_is (Err e) P x same h = tt
