-- One turn of a run: where its core is, and what the disk has of it.
use Rattle.std.proofs.Common.{◌≡◌, ◌≢◌, ℕ, ◌+◌, ◌<◌, Bool, true, false, List, [], ◌∷◌, ◌++◌, length, length-append, refl, sym, ◌∙◌, ap, subst, arith, inl, inr}
use Rattle.std.proofs.Math.Path.{fun_ext}
use Rattle.std.proofs.lemmas.List.{length-take-le}
use Rattle.std.specs.Prelude.{Option, Some, None, Result, Ok, Err, OnErr, OnOk, ◌==◌, if◌then◌else◌}
use Rattle.cx_plan.specs.Setups.{Setup, setup_of}
use Rattle.cx_plan.specs.declared.job.Job.{Job}
use Rattle.cx_plan.specs.declared.variable.VarId.{VarId}
use Rattle.cx_outputs.specs.Names.{place_in}
use Rattle.cx_rule.specs.Routine.{Rule}
use Rattle.cx_rule.specs.States.{State}
use Rattle.cx_model.specs.Runs.{Lengths, grown_by, lengths_behind, output, output_of, text_to}
use Rattle.cx_model.specs.Traces.{Entry, Turned, Overflowed, Exchanged, Tested, Rotated, Wrote, Saved, Trace}
use Rattle.cx_disk.specs.Disk.{View, LeavesOnly}
use Rattle.cx_disk.specs.Moments.{IsQuiet}
use Rattle.cx_disk.proofs.Moments.{started, joins}
use Rattle.cx_chk.specs.declared.checkpoint.Checkpoint.{Checkpoint}
use Rattle.cx_core_buffers.specs.Checkpoints.{HoldsState}
use Rattle.cx_core_buffers.specs.Gathering.{piece_of}
use Rattle.cx_keep.specs.Keeping.{Keeper, IsAppended, AppendMoments}
use Rattle.cx_keep.specs.Beginning.{newest_left}
use Rattle.cx_keep.specs.Trails.{NewestIs}
use Rattle.law_parts.specs.Beginnings.{Beginning, IsBeginning, Afresh, From, run_of}
use Rattle.law_parts.specs.Runs.{Run}
use Rattle.law_parts.specs.Totals.{undivided_from}
use Rattle.law_reached.specs.Works.{works_of, handed_out, works_left}
use Rattle.cx_core.specs.declared.answers.Event.{Event}
use Rattle.cx_core.specs.declared.answers.Event.TheVariants.{Part, Section, Save, End}
use Rattle.cx_core.specs.declared.answers.Outcome.{Outcome}
use Rattle.cx_core.specs.declared.answers.Outcome.TheVariants.{Going, Done, Overflow, WhileLimit, OutputLimit}
use Rattle.cx_core.specs.Cores.{Cores}
use Rattle.cx_core.specs.Hands.{HandsOut, IsCheckpointOf, Leaves, StepsTo}
use Rattle.cx_core.specs.Left.{steps_left}
use Rattle.cx_core.specs.Starts.{begins_in}
use Rattle.cx_core.specs.Steps.{Counts, IsAt, Standing}
use Rattle.cx_core.specs.Texts.{text_of_piece}
use Rattle.cx_core.specs.Writes.{ended_by}
use Rattle.law_course.specs.Beginnings.{GoesOn, beginning_of, lengths_found}
use Rattle.law_course.specs.Courses.{StatesPackAgain, checkpoint_of}
use Rattle.law_course.specs.Works.{KeptRun, WorksFollow, lengths_done, newest_after, works_by, output_found}
use Rattle.cx_run_loop.specs.Advances.{FitsOutcome, HasSaved, Saves, SavesOn, came_of}
use Rattle.cx_run_loop.specs.Going.{Setting, Place, IsBehind, IsGoing, IsKept, IsDriving, IsDriven, IsImageOf, Moves, MovesOn, LeavesImages, KeepsEvent, EventMoments, run_in, trace_in, kept_in, handed}
use Rattle.cx_run_loop.specs.Laws.{DriveLaws}
use Rattle.cx_run_loop.specs.declared.turn.Advance.{Advance}
use Rattle.cx_run_loop.specs.declared.turn.Advance.TheVariants as answer
use Rattle.cx_run_loop.proofs.Works.{next_is, driven_quiet, images_quiet, is_packed, text_driven, text_images, state_driven, state_images}

-- ---- runs from what was found

pub same_beginning : (setup : Setup) (found : Option Checkpoint)
    → begins_in setup found ≡ beginning_of setup found
same_beginning setup None = refl
same_beginning setup (Some c) = refl

pub setup_is : (job : Job) (rules : List Rule) (b : Beginning)
    → (run_of job rules b).setup ≡ setup_of job
setup_is job rules Afresh = refl
setup_is job rules (From c state so_far) = refl

pub so_far_is : (job : Job) (rules : List Rule) (found : Option Checkpoint)
    → (run_of job rules (begins_in (setup_of job) found)).so_far
    ≡ lengths_found (setup_of job) found
so_far_is job rules None = refl
so_far_is job rules (Some c) = refl

-- ---- one event

-- a checkpoint's
abbrev pub IsSave : Event → Type 0
IsSave event = (iteration : ℕ) × (event ≡ Save iteration)

pub is_save : (event : Event) → came_of event ≡ answer.Saved → IsSave event
is_save (Part k) same = absurd cc
is_save (Section v iteration) same = absurd cc
is_save (Save iteration) same = (iteration, refl)
is_save End same = absurd cc

-- how long an output is behind some entries
longer_by : (so_far : Lengths) (w v : VarId) (text : List ℕ) (rest : ℕ)
    → grown_by so_far w (length text) v.0 + rest
    ≡ so_far v.0 + (length (if w.0 == v.0 then text else []) + rest)
longer_by so_far w v text rest = by (w.0 == v.0)
  where
    by : (b : Bool) → (if b then so_far v.0 + length text else so_far v.0) + rest
        ≡ so_far v.0 + (length (if b then text else []) + rest)
    by true = omega arith
    by false = omega arith

length_more : (text more : List ℕ) (so_far : ℕ)
    → so_far + (length text + length more) ≡ so_far + length (text ++ more)
length_more text more so_far = ap (λ (n : ℕ). so_far + n) (sym (length-append text more))

lengths_are : (es : List Entry) (so_far : Lengths) (v : VarId)
    → lengths_behind so_far es v.0 ≡ so_far v.0 + length (output_of v es)
lengths_are [] so_far v = omega arith
lengths_are (Wrote w i text state ∷ es) so_far v =
    lengths_are es (grown_by so_far w (length text)) v
    ∙ longer_by so_far w v text (length (output_of v es))
    ∙ length_more (text_to v (Wrote w i text state)) (output_of v es) (so_far v.0)
lengths_are (Turned k i state ∷ es) so_far v = lengths_are es so_far v
lengths_are (Overflowed k i state ∷ es) so_far v = lengths_are es so_far v
lengths_are (Exchanged vars path state ∷ es) so_far v = lengths_are es so_far v
lengths_are (Tested w path state ∷ es) so_far v = lengths_are es so_far v
lengths_are (Rotated state ∷ es) so_far v = lengths_are es so_far v
lengths_are (Saved i state ∷ es) so_far v = lengths_are es so_far v

-- a core counts the outputs as they are
pub counted_as : (r : KeptRun) → GoesOn r.setup r.rules r.found → (so_far : Lengths)
    → so_far ≡ lengths_found r.setup r.found → (done : List Entry)
    → lengths_behind so_far done ≡ lengths_done r done
counted_as r goes so_far is done = fun_ext (λ v.
    let var : VarId = record { 0 = v } in
    let begun : length (output_found r var) ≡ lengths_found r.setup r.found v =
    length-take-le (lengths_found r.setup r.found v) (output r.setup r.rules var)
    (goes.within var) in
    lengths_are done so_far var
    ∙ ap (λ (n : ℕ). n + length (output_of var done))
    (ap (λ (n : Lengths). n v) is ∙ sym begun)
    ∙ sym (length-append (output_found r var) (output_of var done)))

-- the newest checkpoint after one that was just saved
pub newest_last : (newest : Option ℕ) (es : List Entry) (i : ℕ) (state : State)
    → newest_after newest (es ++ Saved i state ∷ []) ≡ Some i
newest_last newest [] i state = refl
newest_last newest (Wrote w j text other ∷ es) i state = newest_last newest es i state
newest_last newest (Turned k j other ∷ es) i state = newest_last newest es i state
newest_last newest (Overflowed k j other ∷ es) i state = newest_last newest es i state
newest_last newest (Exchanged vars path other ∷ es) i state = newest_last newest es i state
newest_last newest (Tested w path other ∷ es) i state = newest_last newest es i state
newest_last newest (Rotated other ∷ es) i state = newest_last newest es i state
newest_last newest (Saved j other ∷ es) i state = newest_last (Some j) es i state

module _ (q : Run) (trace : Trace) (r : KeptRun) (follow : WorksFollow r)
    (goes : GoesOn r.setup r.rules r.found)
    (pack : StatesPackAgain r.setup) (one_setup : q.setup ≡ r.setup)
    (one_length : q.so_far ≡ lengths_found r.setup r.found)
    (before now rest : List Entry) (works : works_by r ≡ now ++ rest) (was is : Cores)
    (old new : View) (x : IsDriven r before old) where
  packed : (iteration : ℕ) (state : State) → HoldsState r.setup is.buffers.state
      → is.buffers.state.key ≡ r.key
      → IsCheckpointOf q.setup is.buffers.state iteration state (lengths_behind q.so_far before)
      → is.buffers.state ≡ checkpoint_of r.setup r.key iteration state (lengths_done r before)
  packed iteration state holds key named =
      is_packed r.setup r.key pack is.buffers.state holds key iteration state
      (lengths_done r before)
      (subst (λ (n : Lengths). IsCheckpointOf r.setup is.buffers.state iteration state n)
      (counted_as r goes q.so_far one_length before)
      (subst (λ (u : Setup). IsCheckpointOf u is.buffers.state iteration state
      (lengths_behind q.so_far before)) one_setup named))

  pub event_driven : (event : Event) → Leaves r.setup was is event → is.buffers.state.key ≡ r.key
      → HandsOut q trace is before now event → KeepsEvent r.setup is old new event
      → IsDriven r now new
  event_driven (Part k) leaves key hands keeps =
      subst (λ (d : List Entry). IsDriven r d new) (sym hands)
      (driven_quiet r before old new keeps x)
  event_driven (Section v iteration) leaves key hands keeps =
      let added : now ≡ before ++ Wrote v iteration hands.0 hands.1 ∷ [] = hands.2 in
      let is_text : hands.0 ≡ text_of_piece r.setup iteration v (piece_of is.buffers v) =
      subst (λ (u : Setup). hands.0 ≡ text_of_piece u iteration v (piece_of is.buffers v))
      one_setup hands.4 in
      subst (λ (d : List Entry). IsDriven r d new) (sym added)
      (text_driven r follow before rest old new x v iteration hands.0 hands.1
      (next_is (works_by r) before x.left now rest (Wrote v iteration hands.0 hands.1)
      x.has works added)
      (subst (λ (t : List ℕ). IsAppended (place_in r.setup.out_vars v) t old new) (sym is_text)
      keeps))
  event_driven (Save iteration) leaves key hands keeps =
      let added : now ≡ before ++ Saved iteration hands.0 ∷ [] = hands.1 in
      subst (λ (d : List Entry). IsDriven r d new) (sym added)
      (state_driven r follow before rest old new x iteration hands.0 is.buffers.state
      (next_is (works_by r) before x.left now rest (Saved iteration hands.0)
      x.has works added)
      (packed iteration hands.0 leaves.1.state key hands.2) keeps.0 keeps.1)
  event_driven End leaves key hands keeps =
      subst (λ (d : List Entry). IsDriven r d new) (sym hands.0)
      (driven_quiet r before old new keeps x)

  pub event_images : (event : Event) → Leaves r.setup was is event → is.buffers.state.key ≡ r.key
      → HandsOut q trace is before now event → EventMoments r.setup is old new event
      → LeavesOnly old new (IsImageOf r)
  event_images (Part k) leaves key hands moments = images_quiet r before old new moments x
  event_images (Section v iteration) leaves key hands moments =
      let added : now ≡ before ++ Wrote v iteration hands.0 hands.1 ∷ [] = hands.2 in
      let is_text : hands.0 ≡ text_of_piece r.setup iteration v (piece_of is.buffers v) =
      subst (λ (u : Setup). hands.0 ≡ text_of_piece u iteration v (piece_of is.buffers v))
      one_setup hands.4 in
      elim moments as (λ _. LeavesOnly old new (IsImageOf r)) [
        | inl quiet ↦ images_quiet r before old new quiet x
        | inr more ↦ text_images r follow before rest old new x v iteration hands.0 hands.1
            (next_is (works_by r) before x.left now rest (Wrote v iteration hands.0 hands.1)
            x.has works added)
            (subst (λ (t : List ℕ). AppendMoments (place_in r.setup.out_vars v) t old new)
            (sym is_text) more)
      ]
  event_images (Save iteration) leaves key hands moments =
      let added : now ≡ before ++ Saved iteration hands.0 ∷ [] = hands.1 in
      state_images r follow before rest old new x iteration hands.0 is.buffers.state
      (next_is (works_by r) before x.left now rest (Saved iteration hands.0)
      x.has works added)
      (packed iteration hands.0 leaves.1.state key hands.2) moments
  event_images End leaves key hands moments = images_quiet r before old new moments x

  pub event_saved : (iteration : ℕ) → Leaves r.setup was is (Save iteration)
      → is.buffers.state.key ≡ r.key → HandsOut q trace is before now (Save iteration)
      → IsDriven r now new → HasSaved r is.buffers.state now new
  event_saved iteration leaves key hands y =
      let added : now ≡ before ++ Saved iteration hands.0 ∷ [] = hands.1 in
      let named : iteration ≡ is.buffers.state.iteration = sym hands.2.iteration_is in
      record {
        before = before;
        state = hands.0;
        last = added
            ∙ ap (λ (i : ℕ). before ++ Saved i hands.0 ∷ []) named;
        checkpoint = packed iteration hands.0 leaves.1.state key hands.2
            ∙ ap (λ (i : ℕ). checkpoint_of r.setup r.key i hands.0 (lengths_done r before)) named;
        newest = subst (λ (n : Option ℕ). NewestIs new.seen n)
            (ap (λ (d : List Entry). newest_after (newest_left r.found) d) added
            ∙ newest_last (newest_left r.found) before iteration hands.0
            ∙ ap (λ (i : ℕ). Some i) named) y.stands.newest_is;
      }

-- a run that goes on before an event is over after it only where that is the end
pub over_by : (q : Run) (trace : Trace) (setup : Setup) (before now : List Entry) (was is : Cores)
    (event : Event) → Leaves setup was is event → HandsOut q trace is before now event
    → was.outcome ≡ Going → is.outcome ≢ Going → works_of trace.entries ≡ now
over_by q trace setup before now was is (Part k) leaves hands going over =
    absurd (over (leaves.1 ∙ going))
over_by q trace setup before now was is (Section v iteration) leaves hands going over =
    absurd (over (ap (λ (c : Cores). c.outcome) leaves.0 ∙ going))
over_by q trace setup before now was is (Save iteration) leaves hands going over =
    absurd (over (ap (λ (c : Cores). c.outcome) leaves.0 ∙ going))
over_by q trace setup before now was is End leaves hands going over = hands.1

-- what comes of an event fits the outcome that it leaves
ended_is_over : (o : Outcome) → ended_by o ≢ Going
ended_is_over Going same = absurd cc
ended_is_over Done same = absurd cc
ended_is_over (Overflow iteration path) same = absurd cc
ended_is_over (WhileLimit iteration path) same = absurd cc
ended_is_over (OutputLimit iteration) same = absurd cc

limit_is_over : (iteration : ℕ) → OutputLimit iteration ≢ Going
limit_is_over iteration same = absurd cc

outcome_after : (setup : Setup) (was is : Cores) (event : Event) → Leaves setup was is event
    → was.outcome ≡ Going → FitsOutcome (came_of event) is.outcome
outcome_after setup was is (Part k) leaves going = leaves.1 ∙ going
outcome_after setup was is (Section v iteration) leaves going =
    ap (λ (c : Cores). c.outcome) leaves.0 ∙ going
outcome_after setup was is (Save iteration) leaves going =
    ap (λ (c : Cores). c.outcome) leaves.0 ∙ going
outcome_after setup was is End (inl ended) going =
    λ goes. ended_is_over was.met (sym (ap (λ (c : Cores). c.outcome) ended) ∙ goes)
outcome_after setup was is End (inr met) going =
    λ goes. limit_is_over met.1 (sym (ap (λ (c : Cores). c.outcome) met.2) ∙ goes)

-- ---- one turn

-- a step of the core, whatever the run began from
abbrev pub Steps : (tells : Type 0) (job : Job) (rules : List Rule) (was is : Standing tells)
    (event : Event) → Type 0
Steps tells job rules was is event =
    (b : Beginning) → IsBeginning (setup_of job) b → (first : Counts)
    (at : IsAt tells (run_of job rules b) first was.core was.queue was.now)
    → (k : ℕ)
    × StepsTo tells (run_of job rules b) (undivided_from (setup_of job) rules b)
    first k was is at event

module _ (s : Setting) (laws : DriveLaws s.wire s.job s.rules) (was is : Place s) (event : Event)
    (going : was.is.core.outcome ≡ Going) (key : was.is.core.buffers.state.key ≡ s.job.key)
    (steps : Steps s.wire s.job s.rules was.is is.is event) (found : Option Checkpoint)
    (first : Counts) (x : IsDriving s found first was) where
  abbrev step : StepsTo s.wire (run_in s found) (trace_in s found) first
      (steps (begins_in (setup_of s.job) found) x.begins first x.at).0 was.is is.is x.at event
  step = (steps (begins_in (setup_of s.job) found) x.begins first x.at).1

  abbrev leaves : Leaves (setup_of s.job) was.is.core is.is.core event
  leaves = subst (λ (u : Setup). Leaves u was.is.core is.is.core event)
      (setup_is s.job s.rules (begins_in (setup_of s.job) found)) step.leaves

  works : s.wire → works_by (kept_in s found)
      ≡ handed_out (run_in s found) step.there.world
      ++ works_left (run_in s found) (trace_in s found) step.there.world
  works t =
      ap (λ (b : Beginning). works_of (undivided_from (setup_of s.job) s.rules b).entries)
      (sym (same_beginning (setup_of s.job) found))
      ∙ (laws.works (begins_in (setup_of s.job) found)
      x.begins t step.there.oracle step.there.world step.there.reached).first

  abbrev pub there : IsDriving s found first is
  there = record {
    begins = x.begins;
    at = step.there;
    over = λ t over. over_by (run_in s found) (trace_in s found) (setup_of s.job) (handed x)
        (handed_out (run_in s found) step.there.world) was.is.core is.is.core event leaves
        (step.hands t) going over;
  }

  pub turn_driven : (s.disk → KeepsEvent (setup_of s.job) is.is.core was.view is.view event)
      → s.disk → s.wire → IsDriven (kept_in s found) (handed x) was.view
      → IsDriven (kept_in s found) (handed there) is.view
  turn_driven keeps d t y =
      event_driven (run_in s found) (trace_in s found) (kept_in s found)
      (laws.follow found y.of_run) (laws.goes_on found y.of_run) laws.pack
      (setup_is s.job s.rules (begins_in (setup_of s.job) found))
      (so_far_is s.job s.rules found)
      (handed x) (handed there) (works_left (run_in s found) (trace_in s found) step.there.world)
      (works t) was.is.core is.is.core was.view is.view y event leaves (step.key ∙ key)
      (step.hands t) (keeps d)

  pub turn_images : (new : View)
      → (s.disk → EventMoments (setup_of s.job) is.is.core was.view new event) → s.disk → s.wire
      → IsDriven (kept_in s found) (handed x) was.view
      → LeavesOnly was.view new (IsImageOf (kept_in s found))
  turn_images new moments d t y =
      event_images (run_in s found) (trace_in s found) (kept_in s found)
      (laws.follow found y.of_run) (laws.goes_on found y.of_run) laws.pack
      (setup_is s.job s.rules (begins_in (setup_of s.job) found))
      (so_far_is s.job s.rules found)
      (handed x) (handed there) (works_left (run_in s found) (trace_in s found) step.there.world)
      (works t) was.is.core is.is.core was.view new y event leaves (step.key ∙ key)
      (step.hands t) (moments d)

  pub turn_saved : (s.disk → KeepsEvent (setup_of s.job) is.is.core was.view is.view event)
      → IsSave event → s.disk → s.wire → IsDriven (kept_in s found) (handed x) was.view
      → HasSaved (kept_in s found) is.is.core.buffers.state (handed there) is.view
  turn_saved keeps save d t y =
      event_saved (run_in s found) (trace_in s found) (kept_in s found)
      (laws.follow found y.of_run) (laws.goes_on found y.of_run) laws.pack
      (setup_is s.job s.rules (begins_in (setup_of s.job) found))
      (so_far_is s.job s.rules found)
      (handed x) (handed there) (works_left (run_in s found) (trace_in s found) step.there.world)
      (works t) was.is.core is.is.core was.view is.view y save.0
      (subst (λ (e : Event). Leaves (setup_of s.job) was.is.core is.is.core e) save.1 leaves)
      (step.key ∙ key)
      (subst (λ (e : Event). HandsOut (run_in s found) (trace_in s found) is.is.core (handed x)
      (handed there) e) save.1 (step.hands t)) (turn_driven keeps d t y)

pub turn_moves : (s : Setting) (laws : DriveLaws s.wire s.job s.rules) (was is : Place s)
    (event : Event) → was.is.core.outcome ≡ Going → was.is.core.buffers.state.key ≡ s.job.key
    → Steps s.wire s.job s.rules was.is is.is event
    → (s.disk → KeepsEvent (setup_of s.job) is.is.core was.view is.view event)
    → MovesOn s was is
turn_moves s laws was is event going key steps keeps found first x = record {
  there = there s laws was is event going key steps found first x;
  driven = turn_driven s laws was is event going key steps found first x keeps;
}

pub turn_saves : (s : Setting) (laws : DriveLaws s.wire s.job s.rules) (was is : Place s)
    (event : Event) → was.is.core.outcome ≡ Going → was.is.core.buffers.state.key ≡ s.job.key
    → Steps s.wire s.job s.rules was.is is.is event
    → (s.disk → KeepsEvent (setup_of s.job) is.is.core was.view is.view event)
    → came_of event ≡ answer.Saved → SavesOn s was is
turn_saves s laws was is event going key steps keeps save found first x = record {
  moves = record {
    there = there s laws was is event going key steps found first x;
    driven = turn_driven s laws was is event going key steps found first x keeps;
  };
  saved = turn_saved s laws was is event going key steps found first x keeps
      (is_save event save);
}

-- ---- turns one after another

pub moves_none : (s : Setting) (was : Place s) → MovesOn s was was
moves_none s was found first x = record { there = x; driven = λ d t y. y }

pub moves_more : (s : Setting) (was mid is : Place s) → MovesOn s was mid → MovesOn s mid is
    → MovesOn s was is
moves_more s was mid is one two found first x =
    let a : Moves s found first was mid x = one found first x in
    let b : Moves s found first mid is a.there = two found first a.there in
    record { there = b.there; driven = λ d t y. b.driven d t (a.driven d t y) }

pub saves_more : (s : Setting) (was mid is : Place s) → MovesOn s was mid → SavesOn s mid is
    → SavesOn s was is
saves_more s was mid is one two found first x =
    let a : Moves s found first was mid x = one found first x in
    let b : Saves s found first mid is a.there = two found first a.there in
    record {
      moves = record {
        there = b.moves.there;
        driven = λ d t y. b.moves.driven d t (a.driven d t y);
      };
      saved = λ d t y. b.saved d t (a.driven d t y);
    }

pub images_none : (s : Setting) (was : Place s) → LeavesImages s was was.view
images_none s was found first x d t y = started was.view (IsImageOf (kept_in s found))

pub images_more : (s : Setting) (was mid : Place s) (new : View) → MovesOn s was mid
    → LeavesImages s was mid.view → LeavesImages s mid new → LeavesImages s was new
images_more s was mid new one before after found first x d t y =
    let a : Moves s found first was mid x = one found first x in
    joins (IsImageOf (kept_in s found)) (before found first x d t y)
    (after found first a.there d t (a.driven d t y)) (λ c has. has)

-- ---- a call that changes no byte, from the same core

pub moves_quiet : (s : Setting) (was : Place s) (new : View) → (s.disk → IsQuiet was.view new)
    → MovesOn s was (record { is = was.is; view = new })
moves_quiet s was new quiet found first x = record {
  there = record { begins = x.begins; at = x.at; over = x.over };
  driven = λ d t y. driven_quiet (kept_in s found) (handed x) was.view new (quiet d) y;
}

pub leaves_quiet : (s : Setting) (was : Place s) (new : View) → (s.disk → IsQuiet was.view new)
    → LeavesImages s was new
leaves_quiet s was new quiet found first x d t y =
    images_quiet (kept_in s found) (handed x) was.view new (quiet d) y

-- ---- on whatever disk and wire

module _ (s : Setting) (k : Keeper) (was is : Place s) (event : Event) (going : IsGoing s k was)
    (steps : Steps s.wire s.job s.rules was.is is.is event) where
  abbrev taken : StepsTo s.wire (run_of s.job s.rules going.running.beginning)
      (undivided_from (setup_of s.job) s.rules going.running.beginning) going.running.first
      (steps going.running.beginning going.running.begins going.running.first going.running.at).0
      was.is is.is going.running.at event
  taken =
      (steps going.running.beginning going.running.begins going.running.first going.running.at).1

  pub behind : IsBehind s.job s.disk k is.is.core event was.view
  behind = record {
    was = was.is.core;
    leaves = subst (λ (u : Setup). Leaves u was.is.core is.is.core event)
        (setup_is s.job s.rules going.running.beginning) taken.leaves;
    kept = going.kept;
    key = taken.key;
  }

  pub fits_outcome : was.is.core.outcome ≡ Going → (came : Advance) → came ≡ came_of event
      → FitsOutcome came is.is.core.outcome
  fits_outcome outcome came same =
      subst (λ (x : Advance). FitsOutcome x is.is.core.outcome) (sym same)
      (outcome_after (setup_of s.job) was.is.core is.is.core event
      (subst (λ (u : Setup). Leaves u was.is.core is.is.core event)
      (setup_is s.job s.rules going.running.beginning) taken.leaves) outcome)

  pub less : steps_left (setup_of s.job) is.is.core.pace
      < steps_left (setup_of s.job) was.is.core.pace
  less = subst (λ (u : Setup). steps_left u is.is.core.pace < steps_left u was.is.core.pace)
      (setup_is s.job s.rules going.running.beginning) taken.less

  pub going_on : (new : Keeper) → IsKept s.job s.disk new is.is.core is.view → IsGoing s new is
  going_on new kept = record {
    running = record {
      beginning = going.running.beginning;
      begins = going.running.begins;
      first = going.running.first;
      at = taken.there;
    };
    kept = kept;
  }

-- what holds where a call answered, by what its device tells
pub on_ok_told : {A E : Type 0} (T P Q : Type 0) (r : Result A E) → ((T → P) → Q) → (T → OnOk r P)
    → OnOk r Q
on_ok_told T P Q (Ok x) f h = f h
on_ok_told T P Q (Err e) f h = tt

pub on_ok_fact : {A E : Type 0} (P : Type 0) (r : Result A E) → P → OnOk r P
on_ok_fact P (Ok x) p = p
on_ok_fact P (Err e) p = tt

pub on_err_fact : {A E : Type 0} (P : Type 0) (r : Result A E) → P → OnErr r P
on_err_fact P (Ok x) p = tt
on_err_fact P (Err e) p = p
