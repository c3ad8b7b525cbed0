-- One call after another that moves a run on.
use Rattle.std.proofs.Common.{◌≡◌, ◌≢◌, ◌≤◌, ◌<◌, ◌+◌, ℕ, List, [], ◌∷◌, ◌++◌, length, length-append, append_assoc, refl, sym, ◌∙◌, ap, subst, arith, inl, inr}
use Rattle.std.proofs.lemmas.List.Elements.{All-nil, All-cons, All-head, All-tail, All-append}
use Rattle.std.specs.Prelude.{All, IsTrue, true}
use Rattle.cx_cut.specs.Cuts.{part_count}
use Rattle.cx_cut.specs.Faults.{parts_of}
use Rattle.cx_disk.specs.Disk.{Folders}
use Rattle.cx_disk.specs.Moments.{IsQuiet}
use Rattle.cx_disk.specs.declared.disk.Disk.{Ghosts as DiskGhosts}
use Rattle.cx_wire.specs.declared.wire.Wire.{Ghosts as WireGhosts}
use Rattle.cx_turns.specs.declared.turns.Turns.{Ghosts as TurnsGhosts}
use Rattle.cx_plan.specs.declared.job.Job.{Job}
use Rattle.cx_plan.specs.Setups.{setup_of}
use Rattle.cx_rule.specs.Routine.{Rule}
use Rattle.cx_core.specs.declared.answers.Event.{Event}
use Rattle.cx_core.specs.declared.answers.Outcome.TheVariants.{Going}
use Rattle.cx_core.specs.Left.{steps_left}
use Rattle.cx_core.specs.Steps.{counts}
use Rattle.cx_run_loop.specs.Advances.{Advances, AnswersBy, CanAdvance, Keeps, RunState, came_of, place_of, turning_of}
use Rattle.cx_run_loop.specs.Going.{Place, EventMoments, IsGoing, IsKept, KeepsEvent, LeavesImages, MovesOn, setting}
use Rattle.cx_run_loop.specs.Laws.{DriveLaws}
use Rattle.cx_run_loop.specs.Turning.{IsTurn, Picks, StepsBy, Turning, TurnsLead, TurnsStop}
use Rattle.cx_run_loop.specs.Waiting.{StaysBelow, WaitsOn}
use Rattle.cx_run_loop.specs.Within.{StaysWithin}
use Rattle.cx_run_loop.specs.declared.turn.Advance.{Advance}
use Rattle.cx_run_loop.specs.declared.turn.Advance.TheVariants.{More, Saved}
use Rattle.cx_run_loop.proofs.WaitMore.{below_more, waits_more, waits_none}
use Rattle.cx_run_loop.proofs.WithinLaws.{driven_within, stays_more, stays_there}
use Rattle.cx_run_loop.proofs.TurnLaws.{Steps, fits_outcome, going_on, images_more, images_none, leaves_quiet, less, moves_more, moves_none, saves_more, turn_images, turn_moves, turn_saves}

-- ---- lists of events

abbrev GoesOn : Event → Type 0
GoesOn e = came_of e ≡ More

-- the last one of some events, after each of which the run goes on
record Last (events : List Event) : Type 0 where
  before : List Event
  last : Event
  events_are : events ≡ before ++ last ∷ []
  go_on : All GoesOn before
  goes_on : GoesOn last

last_of : (e : Event) (es : List Event) → All GoesOn (e ∷ es) → Last (e ∷ es)
last_of e [] all = record {
  before = [];
  last = e;
  events_are = refl;
  go_on = All-nil GoesOn;
  goes_on = All-head GoesOn e [] all;
}
last_of e (f ∷ fs) all =
    let r : Last (f ∷ fs) = last_of f fs (All-tail GoesOn e (f ∷ fs) all) in
    record {
      before = e ∷ r.before;
      last = r.last;
      events_are = ap (λ (l : List Event). e ∷ l) r.events_are;
      go_on = All-cons GoesOn e r.before (All-head GoesOn e (f ∷ fs) all) r.go_on;
      goes_on = r.goes_on;
    }

answers_more : (most : ℕ) (events : List Event) → 0 < most → length events ≡ most
    → All GoesOn events → AnswersBy most More events
answers_more most [] some count all = absurd (omega (arith, some, count))
answers_more most (e ∷ es) some count all =
    let r : Last (e ∷ es) = last_of e es all in
    record {
      before = r.before;
      last = r.last;
      events_are = r.events_are;
      go_on = r.go_on;
      came_is = sym r.goes_on;
      few = omega (arith, count);
      all = λ same. count;
    }

answers_one : (event : Event) (came : Advance) → came ≡ came_of event
    → AnswersBy 1 came (event ∷ [])
answers_one event came is = record {
  before = [];
  last = event;
  events_are = refl;
  go_on = All-nil GoesOn;
  came_is = is;
  few = omega arith;
  all = λ same. refl;
}

-- all of them go on
all_go_on : (most : ℕ) (events : List Event) → AnswersBy most More events → All GoesOn events
all_go_on most events a =
    subst (λ (l : List Event). All GoesOn l) (sym a.events_are)
    (All-append GoesOn a.before (a.last ∷ []) a.go_on
    (All-cons GoesOn a.last [] (sym a.came_is) (All-nil GoesOn)))

-- after others that go on, the last one decides
answers_last : (n most : ℕ) (came : Advance) (first events : List Event) → length first ≡ n
    → n < most → All GoesOn first → came ≢ More → AnswersBy 1 came events
    → AnswersBy most came (first ++ events)
answers_last n most came first events count below all other a =
    let few : length events ≤ 1 = a.few in
    let both : length (first ++ events) ≡ length first + length events =
    length-append first events in
    record {
      before = first ++ a.before;
      last = a.last;
      events_are = ap (λ (l : List Event). first ++ l) a.events_are
          ∙ sym (append_assoc first a.before (a.last ∷ []));
      go_on = All-append GoesOn first a.before all a.go_on;
      came_is = a.came_is;
      few = omega (arith, few, both, count, below);
      all = λ same. absurd (other same);
    }

pub steps_more : {T : Type 0} (t : TurnsGhosts T) (tells : Type 0) (job : Job) (rules : List Rule)
    (es fs : List Event) (was mid is : Turning tells T) → StepsBy t tells job rules es was mid
    → StepsBy t tells job rules fs mid is → StepsBy t tells job rules (es ++ fs) was is
steps_more {T} t tells job rules [] fs was mid is one two =
    subst (λ (x : Turning tells T). StepsBy t tells job rules fs x is) one two
steps_more t tells job rules (e ∷ es) fs was mid is (x, turn, rest) two =
    (x, turn, steps_more t tells job rules es fs x mid is rest two)

-- ---- calls

module _ {D W : Type 0} (d : DiskGhosts D) (w : WireGhosts W) (job : Job) (rules : List Rule) where
  abbrev at : RunState D W → Place (setting d w job rules)
  at x = place_of d w job rules x

  within_none : DriveLaws (IsTrue w.tells) job rules → (x : RunState D W)
      → StaysWithin (setting d w job rules) (at x) (at x).is.now
  within_none laws x =
      driven_within (setting d w job rules) (at x) (at x).is.now
      (stays_there (IsTrue w.tells) job rules laws.counts (at x).is)

  pub keeps_none : DriveLaws (IsTrue w.tells) job rules → (x : RunState D W)
      → CanAdvance d w job rules x → Keeps d w job rules x x.disk x.wire x.meter
  keeps_none laws x able = record {
    moments = images_none (setting d w job rules) (at x);
    parts = refl;
    mounted = able.mounted;
    files = able.files;
    folders = refl;
    points = omega arith;
    values = omega arith;
    within = within_none laws x;
  }

  pub keeps_more : (was mid : RunState D W) (disk : D) (wire : W) (meter : ℕ)
      → MovesOn (setting d w job rules) (at was) (at mid)
      → Keeps d w job rules was mid.disk mid.wire mid.meter
      → Keeps d w job rules mid disk wire meter → Keeps d w job rules was disk wire meter
  keeps_more was mid disk wire meter moves one two =
      let a : was.meter ≤ mid.meter = one.points in
      let b : mid.meter ≤ meter = two.points in
      let e : w.received was.wire ≤ w.received mid.wire = one.values in
      let f : w.received mid.wire ≤ w.received wire = two.values in
      record {
        moments = images_more (setting d w job rules) (at was) (at mid) (d.view disk) moves
            one.moments two.moments;
        parts = two.parts ∙ one.parts;
        mounted = two.mounted;
        files = two.files;
        folders = two.folders ∙ one.folders;
        points = omega (arith, a, b);
        values = omega (arith, e, f);
        within = stays_more (setting d w job rules) (at was) (at mid)
            (counts meter (w.received wire) (w.sum wire)) moves two.within;
      }

  -- a call that changes no byte
  pub keeps_quiet : DriveLaws (IsTrue w.tells) job rules → (x : RunState D W)
      → CanAdvance d w job rules x → (disk : D)
      → (d.tells → IsQuiet (d.view x.disk) (d.view disk)) → IsTrue (d.mounted disk)
      → d.file_count disk ≡ d.file_count x.disk → d.folders disk ≡ d.folders x.disk
      → Keeps d w job rules x disk x.wire x.meter
  keeps_quiet laws x able disk quiet mounted files folders = record {
    moments = leaves_quiet (setting d w job rules) (at x) (d.view disk) quiet;
    parts = refl;
    mounted = mounted;
    files = files ∙ able.files;
    folders = folders;
    points = omega arith;
    values = omega arith;
    within = within_none laws x;
  }

  pub can_again : (was is : RunState D W) → CanAdvance d w job rules was
      → Keeps d w job rules was is.disk is.wire is.meter
      → IsGoing (setting d w job rules) is.run.keeper (at is) → CanAdvance d w job rules is
  can_again was is able keeps going = record {
    parts = subst (λ (n : ℕ). part_count (parts_of job.shape job.cut) ≤ n) (sym keeps.parts)
        able.parts;
    mounted = keeps.mounted;
    files = keeps.files;
    names = ap (λ (f : Folders). f.names) keeps.folders ∙ able.names;
    going = going;
  }

  module _ {T : Type 0} (t : TurnsGhosts T) where
    -- ---- one turn

    module _ (laws : DriveLaws (IsTrue w.tells) job rules) (was is : RunState D W)
        (turns turns_after : T) (event : Event) (able : CanAdvance d w job rules was)
        (outcome : was.run.core.outcome ≡ Going)
        (turn : IsTurn t (IsTrue w.tells) job rules (turning_of w was turns)
        (turning_of w is turns_after) event) where
      abbrev steps : Steps (IsTrue w.tells) job rules (at was).is (at is).is event
      steps b begins first there = (turn.k, turn.does b begins first there)

      pub turn_advances : (came : Advance) → came ≡ came_of event
          → (d.tells
          → KeepsEvent (setup_of job) is.run.core (d.view was.disk) (d.view is.disk) event)
          → IsKept job d.tells is.run.keeper is.run.core (d.view is.disk)
          → Advances d w t job rules 1 was is turns turns_after came
      turn_advances came same keeps kept = record {
        events = event ∷ [];
        steps = (turning_of w is turns_after, turn, refl);
        answers = answers_one event came same;
        over = fits_outcome (setting d w job rules) was.run.keeper (at was) (at is) event
            able.going steps outcome came same;
        moves = turn_moves (setting d w job rules) laws (at was) (at is) event outcome
            able.going.kept.key steps keeps;
        saved = λ saved. turn_saves (setting d w job rules) laws (at was) (at is) event outcome
            able.going.kept.key steps keeps (sym same ∙ saved);
        going = going_on (setting d w job rules) was.run.keeper (at was) (at is) event able.going
            steps is.run.keeper kept;
        less = less (setting d w job rules) was.run.keeper (at was) (at is) event able.going
            steps;
      }

      pub turn_moments : (disk : D)
          → (d.tells
          → EventMoments (setup_of job) is.run.core (d.view was.disk) (d.view disk) event)
          → LeavesImages (setting d w job rules) (at was) (d.view disk)
      turn_moments disk moments found first x told heard y =
          turn_images (setting d w job rules) laws (at was) (at is) event outcome
          able.going.kept.key steps found first x (d.view disk) moments told heard y

    -- ---- turn after turn

    -- so many events, after each of which the run goes on
    pub record HasGone (n : ℕ) (was is : RunState D W) (turns turns_after : T) : Type 0 where
      pub events : List Event
      pub count : length events ≡ n
      pub go_on : All GoesOn events
      pub steps : StepsBy t (IsTrue w.tells) job rules events (turning_of w was turns)
          (turning_of w is turns_after)
      pub moves : MovesOn (setting d w job rules) (at was) (at is)
      pub able : CanAdvance d w job rules is
      pub keeps : Keeps d w job rules was is.disk is.wire is.meter
      pub outcome : is.run.core.outcome ≡ Going
      pub less : steps_left (setup_of job) is.run.core.pace + n
          ≤ steps_left (setup_of job) was.run.core.pace
      pub waits : job.balance ≡ true → WaitsOn (setting d w job rules) (at was) (at is) More
      pub below : job.balance ≡ true
          → StaysBelow (setting d w job rules) (at was) (at is).is.now

    pub gone_none : DriveLaws (IsTrue w.tells) job rules → (x : RunState D W) (turns : T)
        → CanAdvance d w job rules x → x.run.core.outcome ≡ Going
        → StaysBelow (setting d w job rules) (at x) (at x).is.now → HasGone 0 x x turns turns
    gone_none laws x turns able outcome below = record {
      events = [];
      count = refl;
      go_on = All-nil GoesOn;
      steps = refl;
      moves = moves_none (setting d w job rules) (at x);
      able = able;
      keeps = keeps_none laws x able;
      outcome = outcome;
      less = omega arith;
      waits = λ same. waits_none (setting d w job rules) (at x);
      below = λ same. below;
    }

    module _ (n : ℕ) (was mid is : RunState D W) (turns between turns_after : T)
        (gone : HasGone n was mid turns between) where
      pub gone_more : (m : ℕ) → m ≡ n + 1 → (came : Advance) → came ≡ More
          → Advances d w t job rules 1 mid is between turns_after came
          → Keeps d w job rules mid is.disk is.wire is.meter
          → (job.balance ≡ true → WaitsOn (setting d w job rules) (at mid) (at is) came)
          → (job.balance ≡ true → StaysBelow (setting d w job rules) (at mid) (at is).is.now)
          → HasGone m was is turns turns_after
      gone_more m next came same one keeps waits below =
          let a : Advances d w t job rules 1 mid is between turns_after More =
          subst (λ (x : Advance). Advances d w t job rules 1 mid is between turns_after x) same
          one in
          let all : length a.events ≡ 1 = a.answers.all refl in
          let both : length (gone.events ++ a.events) ≡ length gone.events + length a.events =
          length-append gone.events a.events in
          let count : length gone.events ≡ n = gone.count in
          let left : steps_left (setup_of job) mid.run.core.pace + n
          ≤ steps_left (setup_of job) was.run.core.pace = gone.less in
          let fewer : steps_left (setup_of job) is.run.core.pace
          < steps_left (setup_of job) mid.run.core.pace = a.less in
          record {
            events = gone.events ++ a.events;
            count = omega (arith, next, all, both, count);
            go_on = All-append GoesOn gone.events a.events gone.go_on
                (all_go_on 1 a.events a.answers);
            steps = steps_more t (IsTrue w.tells) job rules gone.events a.events
                (turning_of w was turns) (turning_of w mid between)
                (turning_of w is turns_after) gone.steps a.steps;
            moves = moves_more (setting d w job rules) (at was) (at mid) (at is) gone.moves
                a.moves;
            able = can_again mid is gone.able keeps a.going;
            keeps = keeps_more was mid is.disk is.wire is.meter gone.moves gone.keeps keeps;
            outcome = a.over;
            less = omega (arith, next, left, fewer);
            waits = λ is_balanced. waits_more (setting d w job rules) (at was) (at mid) (at is) More
                (gone.waits is_balanced)
                (subst (λ (y : Advance). WaitsOn (setting d w job rules) (at mid) (at is) y) same
                (waits is_balanced));
            below = λ is_balanced. below_more (setting d w job rules) (at was) (at mid)
                (at is).is.now (gone.waits is_balanced) (below is_balanced);
          }

      -- a fault stops the turn that follows
      pub gone_stop : (k : ℕ) → Picks t job.balance mid.run.core between k turns_after
          → TurnsStop t (IsTrue w.tells) job rules (turning_of w was turns) turns_after
      gone_stop k picked = record {
        last = turning_of w mid between;
        lead = (gone.events, gone.steps);
        stop = inr (k, picked);
      }

      -- the last one answers otherwise
      pub gone_last : (most : ℕ) → n < most → (came : Advance) → came ≢ More
          → Advances d w t job rules 1 mid is between turns_after came
          → Advances d w t job rules most was is turns turns_after came
      gone_last most below came other a =
          let left : steps_left (setup_of job) mid.run.core.pace + n
          ≤ steps_left (setup_of job) was.run.core.pace = gone.less in
          let fewer : steps_left (setup_of job) is.run.core.pace
          < steps_left (setup_of job) mid.run.core.pace = a.less in
          record {
            events = gone.events ++ a.events;
            steps = steps_more t (IsTrue w.tells) job rules gone.events a.events
                (turning_of w was turns) (turning_of w mid between)
                (turning_of w is turns_after) gone.steps a.steps;
            answers = answers_last n most came gone.events a.events gone.count below gone.go_on
                other a.answers;
            over = a.over;
            moves = moves_more (setting d w job rules) (at was) (at mid) (at is) gone.moves
                a.moves;
            saved = λ same. saves_more (setting d w job rules) (at was) (at mid) (at is) gone.moves
                (a.saved same);
            going = a.going;
            less = omega (arith, left, fewer);
          }

    more_saves_none : More ≡ Saved → ⊥
    more_saves_none same = cc

    -- all that were asked for
    pub gone_all : (n most : ℕ) (was is : RunState D W) (turns turns_after : T)
        → HasGone n was is turns turns_after → n ≡ most → 0 < most
        → Advances d w t job rules most was is turns turns_after More
    gone_all n most was is turns turns_after gone same some =
        let left : steps_left (setup_of job) is.run.core.pace + n
        ≤ steps_left (setup_of job) was.run.core.pace = gone.less in
        record {
          events = gone.events;
          steps = gone.steps;
          answers = answers_more most gone.events some (gone.count ∙ same) gone.go_on;
          over = gone.outcome;
          moves = gone.moves;
          saved = λ saved. absurd (more_saves_none saved);
          going = gone.able.going;
          less = omega (arith, left, same, some);
        }

    -- ---- call after call

    pub leads_none : (x : RunState D W) (turns : T)
        → TurnsLead t (IsTrue w.tells) job rules (turning_of w x turns) (turning_of w x turns)
    leads_none x turns = ([], refl)

    pub leads_more : (most : ℕ) (was mid is : RunState D W) (turns between turns_after : T)
        (came : Advance)
        → TurnsLead t (IsTrue w.tells) job rules (turning_of w was turns)
        (turning_of w mid between)
        → Advances d w t job rules most mid is between turns_after came
        → TurnsLead t (IsTrue w.tells) job rules (turning_of w was turns)
        (turning_of w is turns_after)
    leads_more most was mid is turns between turns_after came one a = (
      one.0 ++ a.events,
      steps_more t (IsTrue w.tells) job rules one.0 a.events (turning_of w was turns)
          (turning_of w mid between) (turning_of w is turns_after) one.1 a.steps,
    )

    pub leads_stop : (was mid : RunState D W) (turns between turns_after : T)
        → TurnsLead t (IsTrue w.tells) job rules (turning_of w was turns)
        (turning_of w mid between)
        → TurnsStop t (IsTrue w.tells) job rules (turning_of w mid between) turns_after
        → TurnsStop t (IsTrue w.tells) job rules (turning_of w was turns) turns_after
    leads_stop was mid turns between turns_after one two = record {
      last = two.last;
      lead = (
        one.0 ++ two.lead.0,
        steps_more t (IsTrue w.tells) job rules one.0 two.lead.0 (turning_of w was turns)
            (turning_of w mid between) two.last one.1 two.lead.1,
      );
      stop = two.stop;
    }

    -- the last one was the end
    pub leads_end : (was is : RunState D W) (turns turns_after : T)
        → TurnsLead t (IsTrue w.tells) job rules (turning_of w was turns)
        (turning_of w is turns_after)
        → TurnsStop t (IsTrue w.tells) job rules (turning_of w was turns) turns_after
    leads_end was is turns turns_after one = record {
      last = turning_of w is turns_after;
      lead = one;
      stop = inl refl;
    }
