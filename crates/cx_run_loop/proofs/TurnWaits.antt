-- One turn of a run whose parts wait: they stay together, and a checkpoint finds them gathered.
use Rattle.std.proofs.Common.{◌≡◌, ◌≢◌, ◌≤◌, ◌<◌, ℕ, false, List, [], ◌∷◌, ◌++◌, length, Option, Some, None, arith, refl, sym, ◌∙◌, ap, subst, append_assoc}
use Rattle.std.specs.Prelude.{IfSome}
use Rattle.cx_plan.specs.declared.job.Job.{Job}
use Rattle.cx_plan.specs.Setups.{Setup, setup_of}
use Rattle.cx_rule.specs.Routine.{Rule}
use Rattle.cx_rule.specs.States.{State}
use Rattle.cx_model.specs.Checkpoints.{Continues}
use Rattle.cx_model.specs.Runs.{Lengths, lengths_behind}
use Rattle.cx_model.specs.Traces.{Entry, Wrote, Saved as SavedState, Trace, after}
use Rattle.cx_outputs.specs.Names.{lengths_in, lengths_by}
use Rattle.cx_disk.specs.Disk.{View}
use Rattle.cx_keep.specs.Keeping.{Keeper}
use Rattle.cx_chk.specs.declared.checkpoint.Checkpoint.{Checkpoint}
use Rattle.cx_core_buffers.specs.Checkpoints.{HoldsState}
use Rattle.law_parts.specs.Beginnings.{Beginning, Afresh, From, run_of}
use Rattle.law_parts.specs.Runs.{Run}
use Rattle.law_parts.specs.Totals.{undivided_from}
use Rattle.law_reached.specs.Works.{works_of, works_left}
use Rattle.law_reached.proofs.SilentWorks.{lengths_same}
use Rattle.law_course.proofs.StateLaws.{due_within}
use Rattle.cx_core.specs.declared.answers.Event.{Event}
use Rattle.cx_core.specs.declared.answers.Event.TheVariants.{Part, Section, Save, End}
use Rattle.cx_core.specs.declared.answers.Outcome.TheVariants.{Going}
use Rattle.cx_core.specs.Cores.{Cores, ahead_in}
use Rattle.cx_core.specs.Hands.{HandsOut, IsCheckpointOf, Leaves, StepsTo}
use Rattle.cx_core.specs.Starts.{begins_in}
use Rattle.cx_core.specs.Steps.{Counts}
use Rattle.cx_run_loop.specs.Advances.{came_of}
use Rattle.cx_run_loop.specs.CoresWait.{CoresWait}
use Rattle.cx_run_loop.specs.Going.{Setting, Place, IsBehind, IsDriving, KeepsEvent, handed, run_in, trace_in}
use Rattle.cx_run_loop.specs.Laws.{DriveLaws}
use Rattle.cx_run_loop.specs.Sums.{AreUnsaved}
use Rattle.cx_run_loop.specs.Waiting.{AreTogetherAt, ComesTo, HasGathered, HoldsCheckpoint, IsWaiting, Waits}
use Rattle.cx_run_loop.specs.declared.turn.Advance.{Advance}
use Rattle.cx_run_loop.specs.declared.turn.Advance.TheVariants as answer
use Rattle.cx_run_loop.proofs.ContinueLaws.{GoesOnAt, IsOfOutputs, SplitsAt, by_outputs, first_lengths, first_place, goes_on_at, split_works}
use Rattle.cx_run_loop.proofs.GatherCounts.{unsaved_both, works_unsaved}
use Rattle.cx_run_loop.proofs.TurnLaws.{Steps, is_save, setup_is, there, turn_driven}
use Rattle.cx_run_loop.proofs.Works.{is_packed}

so_far_of : (job : Job) (rules : List Rule) (b : Beginning)
    → (run_of job rules b).so_far ≡ first_lengths b
so_far_of job rules Afresh = refl
so_far_of job rules (From c state so_far) = refl

of_outputs : (setup : Setup) (found : Option Checkpoint)
    → IsOfOutputs setup.out_vars (first_lengths (begins_in setup found))
of_outputs setup None v missing = refl
of_outputs setup (Some c) v missing = by_outputs setup.out_vars c.lengths v missing

later_by : (setup : Setup) (found : Option Checkpoint) (n : ℕ)
    → first_place (begins_in setup found) ≤ n → IfSome found (λ f. f.iteration < n)
later_by setup None n le = tt
later_by setup (Some f) n le = omega (arith, le)

-- a checkpoint that was just saved is a whole one, with the outputs' lengths
pub holds_at : (job : Job) (tells : Type 0) (k : Keeper) (is : Cores) (event : Event) (v : View)
    → IsBehind job tells k is event v → (c : ℕ) → event ≡ Save c
    → HoldsCheckpoint (setup_of job) is
holds_at job tells k is event v behind c same =
    let leaves : Leaves (setup_of job) behind.was is (Save c) =
    subst (λ (e : Event). Leaves (setup_of job) behind.was is e) same behind.leaves in
    let lengths : is.buffers.state.lengths ≡ is.lengths =
    ap (λ (core : Cores). core.buffers.state.lengths) leaves.0
    ∙ sym (ap (λ (core : Cores). core.lengths) leaves.0) in
    record {
      state = leaves.1.state;
      lengths = lengths;
      count = ap (λ (l : List ℕ). length l) (sym lengths) ∙ leaves.1.lengths;
    }

-- an event that saves no checkpoint hands out none
unsaved_by : (q : Run) (trace : Trace) (core : Cores) (before now : List Entry) (event : Event)
    → came_of event ≢ answer.Saved → HandsOut q trace core before now event → AreUnsaved before
    → AreUnsaved now
unsaved_by q trace core before now (Part k) other hands u = subst AreUnsaved (sym hands) u
unsaved_by q trace core before now (Section v i) other hands u =
    subst AreUnsaved (sym hands.2)
    (unsaved_both before (Wrote v i hands.0 hands.1 ∷ []) u (tt, tt))
unsaved_by q trace core before now (Save c) other hands u = absurd (other refl)
unsaved_by q trace core before now End other hands u = subst AreUnsaved (sym hands.0) u

module _ (s : Setting) (laws : DriveLaws s.wire s.job s.rules)
    (continues : Continues (setup_of s.job) s.rules) (was is : Place s) (event : Event)
    (going : was.is.core.outcome ≡ Going) (key : was.is.core.buffers.state.key ≡ s.job.key)
    (steps : Steps s.wire s.job s.rules was.is is.is event)
    (holds : (c : ℕ) → event ≡ Save c → HoldsState (setup_of s.job) is.is.core.buffers.state)
    (found : Option Checkpoint) (first : Counts) (x : IsDriving s found first was)
    (wait : CoresWait s.wire s.job s.rules (begins_in (setup_of s.job) found))
    (fails : ahead_in was.is.core
    (steps (begins_in (setup_of s.job) found) x.begins first x.at).0 ≡ false) where
  abbrev b : Beginning
  b = begins_in (setup_of s.job) found

  abbrev k : ℕ
  k = (steps b x.begins first x.at).0

  abbrev step : StepsTo s.wire (run_in s found) (trace_in s found) first k was.is is.is x.at event
  step = (steps b x.begins first x.at).1

  abbrev now : IsDriving s found first is
  now = there s laws was is event going key steps found first x

  together : AreTogetherAt s found first was x → AreTogetherAt s found first is now
  together t = wait.keeps first k was.is is.is x.at event step fails t

  unsaved : came_of event ≢ answer.Saved → s.wire → AreUnsaved (handed x)
      → AreUnsaved (handed now)
  unsaved other t u =
      unsaved_by (run_in s found) (trace_in s found) is.is.core (handed x) (handed now) event other
      (step.hands t) u

  -- ---- at a checkpoint

  module _ (c : ℕ) (same : event ≡ Save c) where
    saves : StepsTo s.wire (run_in s found) (trace_in s found) first k was.is is.is x.at (Save c)
    saves = subst (λ (e : Event).
        StepsTo s.wire (run_in s found) (trace_in s found) first k was.is is.is x.at e) same step

    abbrev chk : Checkpoint
    chk = is.is.core.buffers.state

    module _ (t : s.wire) (u : AreUnsaved (handed x)) where
      hands : HandsOut (run_in s found) (trace_in s found) is.is.core (handed x) (handed now)
          (Save c)
      hands = subst (λ (e : Event). HandsOut (run_in s found) (trace_in s found) is.is.core
          (handed x) (handed now) e) same (step.hands t)

      abbrev state : State
      state = hands.0

      named : IsCheckpointOf (setup_of s.job) chk c state
          (lengths_behind (run_in s found).so_far (handed x))
      named = subst (λ (v : Setup). IsCheckpointOf v chk c state
          (lengths_behind (run_in s found).so_far (handed x))) (setup_is s.job s.rules b) hands.2

      added : handed now ≡ handed x ++ SavedState chk.iteration state ∷ []
      added = hands.1
          ∙ ap (λ (n : ℕ). handed x ++ SavedState n state ∷ []) (sym named.iteration_is)

      abbrev rest : List Entry
      rest = works_left (run_in s found) (trace_in s found) step.there.world

      works : works_of (trace_in s found).entries
          ≡ handed x ++ SavedState chk.iteration state ∷ rest
      works =
          (laws.works b x.begins t step.there.oracle step.there.world step.there.reached).first
          ∙ ap (λ (l : List Entry). l ++ rest) added
          ∙ append_assoc (handed x) (SavedState chk.iteration state ∷ []) rest

      split : SplitsAt (trace_in s found).entries (handed x) rest chk.iteration state
      split = split_works (trace_in s found).entries (handed x) rest chk.iteration state u works

      lengths : chk.lengths
          ≡ lengths_in (setup_of s.job).out_vars (lengths_behind (first_lengths b) split.earlier)
      lengths = named.lengths_is
          ∙ ap (lengths_in (setup_of s.job).out_vars)
          (ap (λ (n : Lengths). lengths_behind n (handed x)) (so_far_of s.job s.rules b)
          ∙ ap (lengths_behind (first_lengths b)) (sym split.before)
          ∙ lengths_same (first_lengths b) split.earlier)

      goes : GoesOnAt (setup_of s.job) s.rules b split.earlier chk.iteration state chk.lengths
      goes = goes_on_at (setup_of s.job) s.rules continues split.earlier split.later
          chk.iteration state chk.lengths b (of_outputs (setup_of s.job) found) split.there lengths

      again : IsCheckpointOf (setup_of s.job) chk chk.iteration state
          (lengths_behind (run_in s found).so_far (works_of split.earlier))
      again = record {
        version_is = named.version_is;
        names_is = named.names_is;
        iteration_is = refl;
        state_is = named.state_is;
        lengths_is = named.lengths_is
            ∙ ap (λ (l : List Entry). lengths_in (setup_of s.job).out_vars
            (lengths_behind (run_in s found).so_far l)) (sym split.before);
      }

      comes : ComesTo s found chk (handed now)
      comes = record {
        earlier = split.earlier;
        state = state;
        unsaved = works_unsaved split.earlier (subst AreUnsaved (sym split.before) u);
        run = subst (λ (now_in : State). trace_in s found
            ≡ after (split.earlier ++ SavedState chk.iteration state ∷ [])
            (undivided_from (setup_of s.job) s.rules
            (From chk.iteration now_in (lengths_by (setup_of s.job).out_vars chk.lengths))))
            (sym named.state_is) goes.run;
        done_is = added
            ∙ ap (λ (l : List Entry). l ++ SavedState chk.iteration state ∷ [])
            (sym split.before);
        checkpoint = is_packed (setup_of s.job) s.job.key laws.pack chk (holds c same)
            (step.key ∙ key) chk.iteration state
            (lengths_behind (run_in s found).so_far (works_of split.earlier)) again;
        later = later_by (setup_of s.job) found chk.iteration goes.later;
        within = due_within (setup_of s.job) chk.iteration goes.due;
      }

    gathers : IsWaiting s found first was x → HasGathered s found first is now
    gathers w = record {
      none_left = wait.none_left first k c was.is is.is x.at saves w.together;
      comes = λ t. comes t (w.unsaved t);
      counted = λ t last ends.
          let it = comes t (w.unsaved t) in
          wait.counted t first k c was.is is.is x.at saves w.together (w.unsaved t) last ends
          it.earlier (trace_in s (Some chk)).entries chk.iteration it.state it.unsaved
          (ap (λ (v : Trace). v.entries) it.run
          ∙ append_assoc it.earlier (SavedState chk.iteration it.state ∷ [])
          (trace_in s (Some chk)).entries);
    }

  pub turn_waits : (s.disk → KeepsEvent (setup_of s.job) is.is.core was.view is.view event)
      → (came : Advance) → came ≡ came_of event → Waits s found first was is x came
  turn_waits keeps came same = record {
    moves = record {
      there = now;
      driven = turn_driven s laws was is event going key steps found first x keeps;
    };
    together = together;
    unsaved = λ other. unsaved (λ saved. other (same ∙ saved));
    gathers = λ saved.
        let save = is_save event (sym same ∙ saved) in gathers save.0 save.1;
  }
