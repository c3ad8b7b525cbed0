-- What a start comes to, over calls that change no byte and by the way to begin.
use Rattle.std.proofs.Common.{◌≡◌, ◌≢◌, ◌≤◌, ◌⊎◌, inl, inr, ℕ, List, length, refl, sym, ◌∙◌, ap, subst, arith}
use Rattle.std.specs.Prelude.{Option, Some, None, Result, Ok, Err, IfOk, IfErr, IsErrOf}
use Rattle.cx_disk.specs.Cause.{Rose}
use Rattle.cx_disk.specs.Keeps.{Keeps}
use Rattle.cx_disk.specs.declared.disk.Disk.{Ghosts as DiskGhosts}
use Rattle.cx_disk.specs.Disk.{Files, View, SameFiles, LeavesOnly}
use Rattle.cx_disk.specs.Moments.{IsQuiet}
use Rattle.cx_disk.proofs.Moments.{weaker, joins, quiet_more}
use Rattle.cx_plan.specs.Setups.{Setup, setup_of}
use Rattle.cx_outputs.specs.Names.{output_count}
use Rattle.cx_plan.specs.declared.job.Job.{Job}
use Rattle.cx_plan.specs.declared.job.Recover.{Recover}
use Rattle.cx_plan.specs.declared.job.Recover.TheVariants.{No, Auto, Autoprobe}
use Rattle.cx_chk.specs.declared.checkpoint.Checkpoint.{Checkpoint}
use Rattle.cx_chk.specs.Slots.{IsOrShut, newest_below}
use Rattle.cx_keep.specs.declared.fault.BeginFault.{BeginFault}
use Rattle.cx_keep.specs.declared.fault.BeginFault.TheVariants as faults
use Rattle.cx_keep.specs.Trails.{Course, file_of_output}
use Rattle.cx_keep.specs.Resuming.{AreTrails}
use Rattle.cx_keep.specs.Beginning.{IsWithinStart, IsOfNewest, CanStart, IsStarted, StartMoments, LeavesAsIs, former_left, lengths_left}
use Rattle.cx_keep.specs.Tests.{begun, begun_from, resumed, tested, IsFaultOf}
use Rattle.cx_keep.proofs.Afresh.{within_quiet}
use Rattle.cx_keep.proofs.Stays.{newest_same}
use Rattle.cx_disk.specs.Files.{slot_count, old_output_file}
use Rattle.cx_keep.proofs.Begins.{trails_quiet, left_back}

-- ---- over calls that change no byte

pub begun_same : (job : Job) (f g : Files) → SameFiles f g → begun job g ≡ begun job f
begun_same job f g same =
    subst (λ (h : Files). begun job h ≡ begun job f) (λ i x. sym (same x) i) refl

pub newest_files : (f g : Files) → SameFiles f g
    → newest_below slot_count g ≡ newest_below slot_count f
newest_files f g same = subst (λ (h : Files). newest_below slot_count h ≡ newest_below slot_count f)
    (λ i x. sym (same x) i) refl

pub can_quiet : (setup : Setup) (course : Course) (recover : Recover) (old mid : View)
    → CanStart setup course recover old → IsQuiet old mid → CanStart setup course recover mid
can_quiet setup course recover old mid can quiet =
    record {
      monotone = can.monotone;
      outputs = can.outputs;
      fronts = can.fronts;
      splits = can.splits;
      trails = λ not. trails_quiet course old mid (can.trails not) quiet;
    }

within_back : (course : Course) (recover : Recover) (old mid : View) → IsQuiet old mid → (c : Files)
    → IsWithinStart course recover mid c → IsWithinStart course recover old c
within_back course recover old mid quiet c within =
    let was = quiet.crash within.before within.was in
    record {
      before = was.0;
      was = was.1;
      newest = λ not n top. within.newest not n
          (newest_same was.0 within.before (λ s lt. was.2 s) n top);
      outputs = λ j out. elim (within.outputs j out) as
          (λ _. (length (c (file_of_output j)) ≤ length (was.0 (file_of_output j)))
          ⊎ IsOfNewest course j c) [
            | inl le ↦ inl (let l = le in let e = ap length (was.2 (file_of_output j)) in
                omega arith)
            | inr new ↦ inr new
          ];
      trail = within.trail;
    }

pub quiet_start : (course : Course) (recover : Recover) (old mid : View) → AreTrails course old
    → IsQuiet old mid → LeavesOnly old mid (IsWithinStart course recover old)
quiet_start course recover old mid trails quiet =
    weaker (IsWithinStart course recover old) quiet.moments (within_quiet course recover old trails)

pub moments_back : (course : Course) (recover : Recover) (old mid new : View) → AreTrails course old
    → IsQuiet old mid → LeavesOnly mid new (IsWithinStart course recover mid)
    → LeavesOnly old new (IsWithinStart course recover old)
moments_back course recover old mid new trails quiet moments =
    joins (IsWithinStart course recover old) (quiet_start course recover old mid trails quiet)
    moments (within_back course recover old mid quiet)

pub tested_same : (job : Job) (f g : Files) (slot : ℕ) → SameFiles f g
    → tested job g slot ≡ tested job f slot
tested_same job f g slot same =
    subst (λ (h : Files). tested job h slot ≡ tested job f slot) (λ i x. sym (same x) i) refl

-- ---- by the way to begin

pub begun_no : (job : Job) (files : Files) → job.recover ≡ No → begun job files ≡ Ok None
begun_no job files is = ap (λ (r : Recover). begun_from job files r (newest_below slot_count files))
    is

some_from : (job : Job) (files : Files) (slot n : ℕ) (r : Recover) → r ≢ No
    → begun_from job files r (Some (slot, n)) ≡ resumed (tested job files slot)
some_from job files slot n No not = absurd (not refl)
some_from job files slot n Auto not = refl
some_from job files slot n Autoprobe not = refl

pub begun_some : (job : Job) (files : Files) (slot n : ℕ) → job.recover ≢ No
    → newest_below slot_count files ≡ Some (slot, n)
    → begun job files ≡ resumed (tested job files slot)
begun_some job files slot n not is =
    ap (λ (o : Option (ℕ × ℕ)). begun_from job files job.recover o) is
    ∙ some_from job files slot n job.recover not

pub begun_auto : (job : Job) (files : Files) → job.recover ≡ Auto
    → newest_below slot_count files ≡ None → begun job files ≡ Err faults.NoCheckpoint
begun_auto job files auto is =
    ap (λ (o : Option (ℕ × ℕ)). begun_from job files job.recover o) is
    ∙ ap (λ (r : Recover). begun_from job files r None) auto

none_from : (job : Job) (files : Files) (r : Recover) → r ≢ No → r ≢ Auto
    → begun_from job files r None ≡ Ok None
none_from job files No not other = absurd (not refl)
none_from job files Auto not other = absurd (other refl)
none_from job files Autoprobe not other = refl

pub begun_probe : (job : Job) (files : Files) → job.recover ≢ No → job.recover ≢ Auto
    → newest_below slot_count files ≡ None → begun job files ≡ Ok None
begun_probe job files not other is =
    ap (λ (o : Option (ℕ × ℕ)). begun_from job files job.recover o) is
    ∙ none_from job files job.recover not other

pub probe_keeps : Autoprobe ≢ No
probe_keeps is = cc

-- where old checkpoints aren't given up, the way to begin makes no difference
pub within_any : (course : Course) (recover : Recover) (old new : View)
    → LeavesOnly old new (IsWithinStart course Autoprobe old)
    → LeavesOnly old new (IsWithinStart course recover old)
within_any course recover old new moments =
    weaker (IsWithinStart course recover old) moments (λ c within. record {
      before = within.before;
      was = within.was;
      newest = λ not. within.newest probe_keeps;
      outputs = within.outputs;
      trail = within.trail;
    })

-- ---- answers

resumed_err : (e : BeginFault) (t : Result Checkpoint BeginFault) → IsFaultOf e t
    → IsFaultOf e (resumed t)
resumed_err faults.Disk t is = tt
resumed_err faults.Memory t is = tt
resumed_err faults.NoCheckpoint t is = ap resumed is
resumed_err (faults.OtherJob a b) t is = ap resumed is
resumed_err (faults.Damaged slot) t is = ap resumed is
resumed_err (faults.OutputShort a b) t is = ap resumed is
resumed_err (faults.OldTooLong a b) t is = ap resumed is

pub fault_resumed : (e : BeginFault) (t : Result Checkpoint BeginFault)
    (s : Result (Option Checkpoint) BeginFault) → s ≡ resumed t → IsFaultOf e t → IsFaultOf e s
fault_resumed e t s is fault =
    subst (λ (r : Result (Option Checkpoint) BeginFault). IsFaultOf e r) (sym is)
    (resumed_err e t fault)

-- ---- what a start leaves, over calls that change no byte

pub started_quiet : (job : Job) (recover : Recover) (found : Option Checkpoint) (old mid new : View)
    → IsQuiet old mid → IsStarted job recover found mid new → IsStarted job recover found old new
started_quiet job recover found old mid new quiet s =
    record {
      stands = λ course can. s.stands course
          (can_quiet (setup_of job) course recover old mid can quiet);
      left = left_back job (lengths_left (output_count (setup_of job)) found) old mid new
          (λ f le. quiet.same f) s.left;
      former = s.former ∙ ap (former_left found) (quiet.same old_output_file);
      kept = λ not slot lt. subst (λ (b : List ℕ). IsOrShut b (new.seen slot)) (quiet.same slot)
          (s.kept not slot lt);
      closed = s.closed;
    }

pub quiet_alone : (job : Job) (recover : Recover) (old mid : View) → IsQuiet old mid
    → StartMoments job recover old mid
quiet_alone job recover old mid quiet course can trails =
    quiet_start course recover old mid trails quiet

pub moments_quiet : (job : Job) (recover : Recover) (old mid new : View) → IsQuiet old mid
    → StartMoments job recover mid new → StartMoments job recover old new
moments_quiet job recover old mid new quiet moments course can trails =
    moments_back course recover old mid new trails quiet
    (moments course (can_quiet (setup_of job) course recover old mid can quiet)
    (trails_quiet course old mid trails quiet))

pub refused_quiet : {A : Type 0} (r : Result A BeginFault) (old mid new : View) → IsQuiet old mid
    → IfErr r (LeavesAsIs mid new) → IfErr r (LeavesAsIs old new)
refused_quiet (Ok x) old mid new quiet as_is = tt
refused_quiet (Err e) old mid new quiet as_is = λ refusal. quiet_more quiet (as_is refusal)

pub if_ok_more : {A E : Type 0} {P Q : A → Type 0} (r : Result A E) → ((x : A) → P x → Q x)
    → IfOk r P → IfOk r Q
if_ok_more (Ok x) more has = more x has
if_ok_more (Err e) more has = tt

-- ---- and where old checkpoints aren't given up, for each way to begin

can_probe : (setup : Setup) (course : Course) (recover : Recover) (old : View) → recover ≢ No
    → CanStart setup course recover old → CanStart setup course Autoprobe old
can_probe setup course recover old not can =
    record {
      monotone = can.monotone;
      outputs = can.outputs;
      fronts = can.fronts;
      splits = can.splits;
      trails = λ probe. can.trails not;
    }

pub started_any : (job : Job) (recover : Recover) (found : Option Checkpoint) (old new : View)
    → recover ≢ No → IsStarted job Autoprobe found old new → IsStarted job recover found old new
started_any job recover found old new not s =
    record {
      stands = λ course can. s.stands course
          (can_probe (setup_of job) course recover old not can);
      left = s.left;
      former = s.former;
      kept = λ still. s.kept probe_keeps;
      closed = λ is. absurd (not is);
    }

pub moments_any : (job : Job) (recover : Recover) (old new : View) → recover ≢ No
    → StartMoments job Autoprobe old new → StartMoments job recover old new
moments_any job recover old new not moments course can trails =
    within_any course recover old new
    (moments course (can_probe (setup_of job) course recover old not can) trails)

-- ---- the disk behind a call that leaves it alone

pub kept_still : {D A B E : Type 0} {failure : E} (d : DiskGhosts D) (old new : D) (r : Result A E)
    (s : Result B BeginFault) → Keeps d failure old new r
    → IfErr s (λ (e : BeginFault). e ≢ faults.Disk) → Keeps d faults.Disk old new s
kept_still {D} {A} {B} d old new r s kept told =
    record {
      mounted = kept.mounted;
      folders = kept.folders;
      count = kept.count;
      cause = record { later = kept.cause.later; failed = by s told };
    }
  where
    by : (t : Result B BeginFault) → IfErr t (λ (e : BeginFault). e ≢ faults.Disk)
        → IsErrOf t faults.Disk → Rose (d.faults old) (d.faults new)
    by (Ok x) told is = absurd cc
    by (Err e) told is = absurd (told (let same : e ≡ faults.Disk = cc in same))
