-- The next operation of a part, done on a core.
use Rattle.std.proofs.Common.{◌≡◌, ℕ, ◌<◌, ◌≤◌, ◌%◌, ◌^◌, inl, inr, Bool, true, ℤ, List, set, length, Option, Some, None, refl, sym, ap, ◌∙◌, subst, arith}
use Rattle.std.specs.Prelude.{slice_get, IsTrue, IsErrOf, OnOk, Result, Ok, Err}
use Rattle.cx_plan.specs.declared.job.Job.{Job}
use Rattle.cx_plan.specs.declared.variable.VarId.{VarId}
use Rattle.cx_plan.specs.Setups.{setup_of}
use Rattle.cx_rule.specs.Routine.{Rule}
use Rattle.cx_rule.specs.States.{scalar_of}
use Rattle.cx_field.specs.Patches.{PatchValue}
use Rattle.cx_cut.specs.Cuts.{IsCut, IsWhole, part_count}
use Rattle.cx_cut.specs.Faults.{parts_of}
use Rattle.cx_flat.specs.declared.op.Op.{Op}
use Rattle.cx_flat.specs.declared.op.Op.TheVariants as op
use Rattle.cx_flat.specs.Code.{code}
use Rattle.law_network.specs.Machine.{Part, After}
use Rattle.cx_core_place.specs.Steps.{IsReached, IsTested}
use Rattle.cx_wire.specs.Messages.{Sent as SentMail}
use Rattle.law_parts.specs.Beginnings.{Beginning, Afresh, From, IsBeginning, run_of}
use Rattle.law_parts.specs.Nets.{net, within_lead}
use Rattle.law_parts.specs.Runs.{Run, cut_of}
use Rattle.law_parts.proofs.WholeRun.{IsRun, job_run, shape}
use Rattle.cx_core_part.specs.Copies.{Copies}
use Rattle.cx_core_part.specs.Frames.{IsPatchOf}
use Rattle.cx_core_part.specs.Jobs.{IsChecked, IsCutOf, IsRunOf}
use Rattle.cx_core_part.specs.Tests.{CanTest, tested_number}
use Rattle.cx_core_part.proofs.AskLaws.{can_test}
use Rattle.cx_core_part.proofs.MoveLaws.{is_run, by_rules}
use Rattle.cx_core_buffers.specs.Boards.{Given}
use Rattle.cx_core_buffers.specs.Gathering.{Buffers}
use Rattle.cx_core_events.specs.Paces.{Paces, part_of, op_of}
use Rattle.cx_core_events.specs.Events.{can_go}
use Rattle.cx_core_events.specs.Shows.{SameWay}
use Rattle.cx_core_events.specs.Steps.{moved_on, met_by}
use Rattle.cx_core.specs.declared.answers.Outcome.{Outcome}
use Rattle.cx_core.specs.Cores.{Cores, items_of}
use Rattle.cx_core.specs.Moving.{Holdings, Operates, CanOperate, MoveLaws, MovesOn, followed}
use Rattle.cx_core.specs.Starts.{IsReady}
use Rattle.cx_core.specs.Steps.{Counts, IsAt}
use Rattle.cx_core.proofs.MovedStates.{LedTo, Ready, world, oracle, its, next}
use Rattle.cx_core.proofs.KeptKeys.{key_stays}
use Rattle.cx_core.proofs.AsksLaws.{can_operate}
use Rattle.cx_core.proofs.Operated.{operated_goes, operated_meets}

-- what is tested is that scalar's number
pub is_tested : (o : Op) (scalars : VarId → ℤ) → IsTested o scalars (tested_number o scalars)
is_tested (op.Test v path skip) scalars = λ w e. ap scalars (sym (inside v w e))
  where
    inside : (a b : VarId) → Some a ≡ Some b → a ≡ b
    inside a b q = cc
is_tested (op.Turn v path skip) scalars = λ w e. ap scalars (sym (inside v w e))
  where
    inside : (a b : VarId) → Some a ≡ Some b → a ≡ b
    inside a b q = cc
is_tested (op.Sweep i) scalars = λ w e. absurd cc
is_tested (op.Apply i) scalars = λ w e. absurd cc
is_tested (op.Give i) scalars = λ w e. absurd cc
is_tested (op.Join i) scalars = λ w e. absurd cc
is_tested (op.Post d vars) scalars = λ w e. absurd cc
is_tested (op.Take d vars path) scalars = λ w e. absurd cc
is_tested op.Open scalars = λ w e. absurd cc
is_tested (op.Again back) scalars = λ w e. absurd cc
is_tested op.Rotate scalars = λ w e. absurd cc
is_tested (op.Due skip) scalars = λ w e. absurd cc
is_tested (op.Written skip) scalars = λ w e. absurd cc
is_tested (op.Skip skip) scalars = λ w e. absurd cc
is_tested (op.Next back) scalars = λ w e. absurd cc
is_tested (op.Piece v) scalars = λ w e. absurd cc
is_tested op.Save scalars = λ w e. absurd cc
is_tested op.Halt scalars = λ w e. absurd cc

module _ (job : Job) (rules : List Rule) (ready : IsReady job) (laws : MoveLaws job rules)
    (b : Beginning) (begins : IsBeginning (setup_of job) b) where
  cut_there : (c : Beginning) → IsCut (cut_of (run_of job rules c))
  cut_there Afresh = ready.cut
  cut_there (From c state so_far) = ready.cut

  run_is : IsRun (run_of job rules b)
  run_is = job_run job rules b ready.whole ready.shapes ready.interior begins (cut_there b)
      laws.flat laws.ways laws.met

  module _ (told : Bool) (first : Counts) (old : Cores)
      (queue : ℕ → ℕ → List (SentMail (IsTrue told))) (now : Counts) (k : ℕ)
      (part : k < length old.pace.parts) (goes : can_go old.pace k ≡ true)
      (at : IsAt (IsTrue told) (run_of job rules b) first old queue now) where
    pub start : Ready (IsTrue told) (run_of job rules b) first old queue now k
    start = record {
      run = run_is;
      tell = laws.pace told b begins;
      sums = laws.taken told b begins;
      at = at;
      part = let c = at.shows.pace.count in omega (arith, c, part);
      goes = goes;
    }

    run_of_job : IsRunOf job (run_of job rules b)
    run_of_job = is_run job rules b

    checked : IsChecked job
    checked = record { whole = ready.whole; shapes = ready.shapes }

    -- ---- what is asked for

    pub there : k < length old.patches
    there = let c = at.shows.count in let d = at.shows.pace.count in omega (arith, c, d, part)

    pub ops_are : old.pace.ops ≡ code (setup_of job)
    ops_are = at.shows.pace.ops ∙ ap code run_of_job.setup

    pub reached : IsReached (setup_of job) (part_of old.pace k).place
    unfolding start
    reached = subst (λ x. IsReached x (part_of old.pace k).place) run_of_job.setup
        ((start.tell.events (oracle start) (world start) old.pace at.reached at.shows.pace).reached
        k start.part)

    module _ (few : part_count old.pace.cut ≤ 512) where
      pub whole_cut : IsCutOf job old.pace.cut
      whole_cut = record {
        parts = at.shows.pace.cut ∙ by b;
        whole = subst IsWhole (sym at.shows.pace.cut) (record {
          cut = run_is.cut;
          shape = shape (run_of job rules b) run_is;
          interior = run_is.interior;
          few = subst (λ c. part_count c ≤ 512) at.shows.pace.cut few;
        });
      }
        where
          by : (c : Beginning) → cut_of (run_of job rules c) ≡ parts_of job.shape job.cut
          by Afresh = refl
          by (From c state so_far) = refl

      module _ (was : PatchValue) (here : slice_get old.patches k ≡ Some was) where
        pub can_do : CanOperate {tells = IsTrue told} job old.pace.cut k (op_of old.pace k)
            (record {
              patch = was;
              given = old.given;
              buffers = old.buffers;
              queue = queue;
              now = now;
            })
        unfolding start
        can_do = can_operate start job run_of_job.setup was whole_cut checked here

        pub can_test_it : CanTest (op_of old.pace k) was
        can_test_it = can_test job checked was can_do.patch.patch (op_of old.pace k)
            can_do.operation

    -- ---- where it leads

    -- each part's items are those of its iteration
    moved_items : (new : Cores) (scalars : VarId → ℤ)
        → new.pace ≡ moved_on (setup_of job) old.pace k scalars
        → new.items ≡ items_of (setup_of job) (moved_on (setup_of job) old.pace k scalars)
        → new.items ≡ items_of (run_of job rules b).setup new.pace
    moved_items new scalars pace items =
        items ∙ ap (items_of (setup_of job)) (sym pace)
        ∙ ap (λ x. items_of x new.pace) (sym run_of_job.setup)

    met_items : (new : Cores) → new.pace ≡ met_by old.pace k → new.items ≡ old.items
        → new.items ≡ items_of (run_of job rules b).setup new.pace
    met_items new pace items =
        items ∙ at.items ∙ ap (items_of (run_of job rules b).setup) (sym pace)

    abbrev is_at : (new : Cores) (after : ℕ → ℕ → List (SentMail (IsTrue told))) (later : Counts)
        → LedTo at k new after later
        → new.items ≡ items_of (run_of job rules b).setup new.pace
        → IsAt (IsTrue told) (run_of job rules b) first new after later
    is_at new after later to items =
        record {
          world = to.state;
          oracle = to.way;
          reached = to.reached;
          shows = to.shows;
          points = to.points;
          values = to.values;
          sum = to.sum;
          items = items;
        }

    pub items_are : old.items ≡ items_of (setup_of job) old.pace
    items_are = at.items ∙ ap (λ x. items_of x old.pace) run_of_job.setup

    module _ (was is : PatchValue) (here : slice_get old.patches k ≡ Some was) (new : Cores)
        (after : ℕ → ℕ → List (SentMail (IsTrue told))) (later : Counts)
        (patches : new.patches ≡ set old.patches k is) (lengths_are : new.lengths ≡ old.lengths)
        (outcome_is : new.outcome ≡ old.outcome) where
      abbrev before : Holdings (IsTrue told)
      before = record {
        patch = was;
        given = old.given;
        buffers = old.buffers;
        queue = queue;
        now = now;
      }

      abbrev behind : Holdings (IsTrue told)
      behind = record {
        patch = is;
        given = new.given;
        buffers = new.buffers;
        queue = after;
        now = later;
      }

      abbrev r : Run
      r = run_of job rules b

      op_here : op_of old.pace k ≡ next start
      unfolding start
      op_here =
          (start.tell.events (oracle start) (world start) old.pace at.reached at.shows.pace).op k
          start.part

      as_its : (met : Option Outcome)
          → Operates r k (part_of old.pace k).place (part_of old.pace k).count (op_of old.pace k)
          before behind met
          → Operates r k (its start).control (part_of old.pace k).count (next start)
          before behind met
      unfolding start
      as_its met d =
          subst (λ c. Operates r k c (part_of old.pace k).count (next start) before behind met)
          (at.shows.pace.parts k start.part).place
          (subst (λ o. Operates r k (part_of old.pace k).place
          (part_of old.pace k).count o before behind met) op_here d)

      count_is : (part_of old.pace k).count ≡ (its start).count % 2 ^ 64
      unfolding start
      count_is = (at.shows.pace.parts k start.part).count
          ∙ ap (λ n. n % 2 ^ 64) (sym (at.reached.woven.agrees k start.part).stands.count)

      pub goes_on : new.pace ≡ moved_on (setup_of job) old.pace k (scalar_of was.numbers)
          → new.met ≡ old.met
          → Operates r k (part_of old.pace k).place (part_of old.pace k).count (op_of old.pace k)
          before behind None
          → LedTo at k new after later
      unfolding start
      goes_on pace met d =
          operated_goes start was is here
          (part_of old.pace k).count count_is new after later patches lengths_are outcome_is
          (pace ∙ ap (λ x. moved_on x old.pace k (scalar_of was.numbers)) (sym run_of_job.setup)
          ∙ ap (λ ns. moved_on r.setup old.pace k (scalar_of ns))
          (at.shows.patches k was here).numbers) met
          (next start) refl (as_its None d)

      pub meets : (m : Outcome) → new.pace ≡ met_by old.pace k → new.met ≡ m
          → Operates r k (part_of old.pace k).place (part_of old.pace k).count (op_of old.pace k)
          before behind (Some m)
          → LedTo at k new after later
      unfolding start
      meets m pace met d =
          operated_meets start was is here
          (part_of old.pace k).count count_is new after later patches lengths_are outcome_is m
          pace met
          (next start) refl (as_its (Some m) d)

      -- what the operation on the patch says of this run
      pub asked : (cut_of r ≡ old.pace.cut) × (r.rules ≡ rules) × IsPatchOf r.setup (cut_of r) k was
      asked = (sym at.shows.pace.cut, by_rules job rules b, (at.shows.patches k was here).frame)

    -- by what the operation on the patch says of each run
    module _ (was is : PatchValue) (here : slice_get old.patches k ≡ Some was) (mid new : Cores)
        (given : Given) (buffers : Buffers) (after : ℕ → ℕ → List (SentMail (IsTrue told)))
        (later : Counts)
        (mid_is : mid ≡ record old
        { patches = set old.patches k is; given = given; buffers = buffers }) where
      abbrev was_holding : Holdings (IsTrue told)
      was_holding = record {
        patch = was;
        given = old.given;
        buffers = old.buffers;
        queue = queue;
        now = now;
      }

      abbrev is_holding : Holdings (IsTrue told)
      is_holding = record {
        patch = is;
        given = given;
        buffers = buffers;
        queue = after;
        now = later;
      }

      abbrev Said : Option Outcome → Type 0
      Said met = (q : Run) → IsRunOf job q → q.rules ≡ rules → cut_of q ≡ old.pace.cut
          → IsPatchOf q.setup (cut_of q) k was
          → Operates q k (part_of old.pace k).place (part_of old.pace k).count (op_of old.pace k)
          was_holding is_holding met

      said : (met : Option Outcome) → Said met
          → Operates (run_of job rules b) k (part_of old.pace k).place (part_of old.pace k).count
          (op_of old.pace k) was_holding is_holding met
      said met h = h (run_of job rules b) run_of_job (by_rules job rules b) (sym at.shows.pace.cut)
          (at.shows.patches k was here).frame

      pub follows : (met : Option Outcome) → Said met
          → new ≡ followed (setup_of job) mid k (scalar_of was.numbers) met
          → (to : IsAt (IsTrue told) (run_of job rules b) first new after later)
          × After (net (IsTrue told) within_lead (run_of job rules b) at.oracle) at.world
          (Part k) to.world
          × MovesOn (run_of job rules b).setup k old new
          × SameWay (run_of job rules b) at.oracle to.oracle to.world
      follows None h e =
          let all = e ∙ ap (λ (m : Cores). followed (setup_of job) m k (scalar_of was.numbers) None)
          mid_is in
          let there = goes_on was is here new after later (ap (λ (n : Cores). n.patches) all)
          (ap (λ (n : Cores). n.lengths) all) (ap (λ (n : Cores). n.outcome) all)
          (ap (λ (n : Cores). n.pace) all) (ap (λ (n : Cores). n.met) all)
          (subst (λ (n : Cores).
          Operates (run_of job rules b) k (part_of old.pace k).place (part_of old.pace k).count
          (op_of old.pace k) was_holding
          (record {
            patch = is;
            given = n.given;
            buffers = n.buffers;
            queue = after;
            now = later;
          }) None)
          (sym all) (said None h)) in (
            is_at new after later there
                (moved_items new (scalar_of was.numbers) (ap (λ (n : Cores). n.pace) all)
                (ap (λ (n : Cores). n.items) all)),
            there.event,
            record {
              pace = inl (
                scalar_of was.numbers,
                ap (λ (n : Cores). n.pace) all
                    ∙ ap (λ x. moved_on x old.pace k (scalar_of was.numbers))
                    (sym run_of_job.setup),
              );
              key = ap (λ (n : Cores). n.buffers.state.key) all
                  ∙ key_stays (run_of job rules b) k (part_of old.pace k).place
                  (part_of old.pace k).count (op_of old.pace k) was_holding is_holding None
                  (said None h);
              lengths = ap (λ (n : Cores). n.lengths) all;
              outcome = ap (λ (n : Cores). n.outcome) all;
            },
            there.same_way,
          )
      follows (Some m) h e =
          let all =
          e ∙ ap (λ (q : Cores). followed (setup_of job) q k (scalar_of was.numbers) (Some m))
          mid_is in
          let there = meets was is here new after later (ap (λ (n : Cores). n.patches) all)
          (ap (λ (n : Cores). n.lengths) all) (ap (λ (n : Cores). n.outcome) all)
          m (ap (λ (n : Cores). n.pace) all) (ap (λ (n : Cores). n.met) all)
          (subst (λ (n : Cores).
          Operates (run_of job rules b) k (part_of old.pace k).place (part_of old.pace k).count
          (op_of old.pace k) was_holding
          (record {
            patch = is;
            given = n.given;
            buffers = n.buffers;
            queue = after;
            now = later;
          }) (Some m))
          (sym all) (said (Some m) h)) in (
            is_at new after later there
                (met_items new (ap (λ (n : Cores). n.pace) all) (ap (λ (n : Cores). n.items) all)),
            there.event,
            record {
              pace = inr (ap (λ (n : Cores). n.pace) all);
              key = ap (λ (n : Cores). n.buffers.state.key) all
                  ∙ key_stays (run_of job rules b) k (part_of old.pace k).place
                  (part_of old.pace k).count (op_of old.pace k) was_holding is_holding (Some m)
                  (said (Some m) h);
              lengths = ap (λ (n : Cores). n.lengths) all;
              outcome = ap (λ (n : Cores). n.outcome) all;
            },
            there.same_way,
          )

-- what follows at Ok
pub on_ok : {T E A B : Type 0} (r : Result T E) → OnOk r A → (A → B) → OnOk r B
on_ok (Ok x) h f = f h
on_ok (Err e) h f = h

-- a core of these fields
abbrev pub with_pace : Paces → List PatchValue → List Copies → Given → Buffers
    → (met outcome : Outcome) → (lengths : List ℕ) → VarId → Cores
with_pace pace patches items given buffers met outcome lengths section =
    record {
      pace = pace;
      patches = patches;
      items = items;
      given = given;
      buffers = buffers;
      met = met;
      outcome = outcome;
      lengths = lengths;
      section = section;
    }

-- an error of a call is that of another one
abbrev as_err : {T E : Type 0} → E → Result T E
as_err e = Err e

abbrev err_or : {S E : Type 0} → Result S E → E → E
err_or (Ok x) d = d
err_or (Err e) d = e

pub other_err : {S T E : Type 0} (e f : E) → IsErrOf {T = S} (Err e) f → IsErrOf {T = T} (Err e) f
other_err {S} {T} {E} e f h = ap (as_err {T = T} {E = E}) (ap (λ (r : Result S E). err_or r e) h)

pub some_same : {A : Type 0} (a b : A) → Some a ≡ Some b → a ≡ b
some_same a b q = cc
