-- From core to core: what is known between two, and at the end.
use Rattle.std.proofs.Common.{◌≡◌, ◌≤◌, ◌<◌, ◌+◌, ℕ, true, List, [], ◌∷◌, ◌++◌, length, arith, refl, sym, ◌∙◌, ap, subst, append_assoc}
use Rattle.std.specs.Prelude.{◌%◌, ◌^◌, Option, Some}
use Rattle.cx_grid.specs.declared.shapes.Shape.{Shape}
use Rattle.cx_plan.specs.declared.job.Cuts.{Cuts}
use Rattle.cx_plan.specs.declared.job.Job.{Job}
use Rattle.cx_plan.specs.Lookups.{is_scalar, levels_of}
use Rattle.cx_plan.specs.Setups.{Setup, setup_of}
use Rattle.cx_rule.specs.Meter.{raised, raised_twice}
use Rattle.cx_rule.specs.Routine.{Rule}
use Rattle.cx_rule.specs.States.{State}
use Rattle.cx_rule.specs.declared.spec.Spec.{Spec}
use Rattle.cx_model.specs.Runs.{no_lengths}
use Rattle.cx_model.specs.Traces.{Entry, Saved, Trace, Goes}
use Rattle.cx_cut.specs.Cuts.{Parts}
use Rattle.cx_cut.specs.Faults.{parts_of}
use Rattle.cx_disk.specs.Disk.{View}
use Rattle.cx_disk.proofs.Moments.{joins, started}
use Rattle.cx_wire.specs.Received.{counted, counted_twice}
use Rattle.cx_chk.specs.declared.checkpoint.Checkpoint.{Checkpoint}
use Rattle.law_parts.specs.Beginnings.{Beginning, Afresh, From, run_of}
use Rattle.law_parts.specs.Totals.{undivided_from}
use Rattle.law_parts.specs.Work.{work, carried_count, total_sum}
use Rattle.law_reached.specs.Works.{works_of}
use Rattle.law_course.specs.Courses.{checkpoint_of}
use Rattle.law_course.specs.Works.{works_by}
use Rattle.cx_core.proofs.MovedStates.{mod_more}
use Rattle.cx_core.specs.Hands.{HasTotals, IsDone, ended_as}
use Rattle.cx_core.specs.Starts.{begins_in}
use Rattle.cx_core.specs.Steps.{Counts}
use Rattle.cx_run_loop.specs.Going.{Setting, Place, IsDriven, IsImageOf, RunsFrom, handed, kept_in, run_in, trace_in}
use Rattle.cx_run_loop.specs.Laws.{DriveLaws}
use Rattle.cx_run_loop.specs.Recuts.{cut_from, next_cut, with_cut}
use Rattle.cx_run_loop.specs.Segments.{CountsOver, HasTotalsBy, IsDoneBy, RunsBy, SegmentTo, Start, entries_at, parts_at}
use Rattle.cx_run_loop.specs.Sums.{AreUnsaved, SumsAdd, carried_in, sum_in, work_in}
use Rattle.cx_run_loop.specs.UnderWay.{HasCome}
use Rattle.cx_run_loop.specs.Waiting.{ComesTo, HasCounted, HasGathered}
use Rattle.cx_run_loop.proofs.ContinueLaws.{done_goes, run_stops}
use Rattle.cx_run_loop.proofs.FromLaws.{length_count}
use Rattle.cx_run_loop.proofs.RecutLaws.{next_same}
use Rattle.cx_run_loop.proofs.SegmentLaws.{after_more, after_none, begins_there, comes_after, image_more, outcome, whole_after}
use Rattle.cx_run_loop.proofs.SumLaws.{count_alone, sum_alone, work_alone}
use Rattle.cx_run_loop.proofs.TurnLaws.{same_beginning, setup_is}

-- a setting by another cut
abbrev pub recut : Setting → Cuts → Setting
recut s cut = record s { job = with_cut s.job cut }

module _ (s : Setting) (again : State → Parts) where
  pub segment_none : (a : Start) → SegmentTo s again a a
  segment_none a = record {
    outcome = λ t. refl;
    counts = λ t last goes. record { totals = λ now h. h; below = λ now h. h };
    goes_over = λ d t y. record {
      driven = y;
      moments = started a.view (IsImageOf (kept_in s a.found));
      images = λ image w. w;
      after = after_none (kept_in s a.found) y.of_run;
    };
  }

  pub segment_more : (a b c : Start) → SegmentTo s again a b → SegmentTo s again b c
      → SegmentTo s again a c
  segment_more a b c one two = record {
    outcome = λ t. two.outcome t ∙ one.outcome t;
    counts = λ t last goes.
        let x = one.counts t last goes in
        let y = two.counts t last (one.outcome t ∙ goes) in
        record {
          totals = λ now h. x.totals now (y.totals now h);
          below = λ now h. x.below now (y.below now h);
        };
    goes_over = λ d t y.
        let x = one.goes_over d t y in
        let z = two.goes_over d t x.driven in
        record {
          driven = z.driven;
          moments = joins (IsImageOf (kept_in s a.found)) x.moments z.moments x.images;
          images = λ image w. x.images image (z.images image w);
          after = after_more (kept_in s a.found) b.found c.found x.after z.after;
        };
  }

-- ---- one core, up to a checkpoint

raised_on : (first n now : ℕ) (rest all : ℕ) (mid : ℕ) → mid ≡ raised first n → all ≡ n + rest
    → now ≡ raised mid rest → now ≡ raised first all
raised_on first n now rest all mid is sum here =
    here ∙ ap (λ (m : ℕ). raised m rest) is ∙ raised_twice first n rest
    ∙ ap (λ (m : ℕ). raised first m) (sym sum)

raised_within : (first n now : ℕ) (rest all : ℕ) (mid : ℕ) → mid ≡ raised first n → all ≡ n + rest
    → now ≤ raised mid rest → now ≤ raised first all
raised_within first n now rest all mid is sum here =
    subst (λ (m : ℕ). now ≤ m)
    (ap (λ (m : ℕ). raised m rest) is ∙ raised_twice first n rest
    ∙ ap (λ (m : ℕ). raised first m) (sym sum)) here

counted_on : (first n now : ℕ) (rest all : ℕ) (mid : ℕ) → mid ≡ counted first n → all ≡ n + rest
    → now ≡ counted mid rest → now ≡ counted first all
counted_on first n now rest all mid is sum here =
    here ∙ ap (λ (m : ℕ). counted m rest) is ∙ counted_twice first n rest
    ∙ ap (λ (m : ℕ). counted first m) (sym sum)

counted_within : (first n now : ℕ) (rest all : ℕ) (mid : ℕ) → mid ≡ counted first n → all ≡ n + rest
    → now ≤ counted mid rest → now ≤ counted first all
counted_within first n now rest all mid is sum here =
    subst (λ (m : ℕ). now ≤ m)
    (ap (λ (m : ℕ). counted m rest) is ∙ counted_twice first n rest
    ∙ ap (λ (m : ℕ). counted first m) (sym sum)) here

summed_on : (first n now : ℕ) (rest all : ℕ) (mid : ℕ) → mid ≡ (first + n) % 2 ^ 64
    → all ≡ n + rest → now ≡ (mid + rest) % 2 ^ 64 → now ≡ (first + all) % 2 ^ 64
summed_on first n now rest all mid is sum here =
    here ∙ ap (λ (m : ℕ). (m + rest) % 2 ^ 64) is ∙ mod_on first n rest
    ∙ ap (λ (m : ℕ). (first + m) % 2 ^ 64) (sym sum)
  where
    mod_on : (a b c : ℕ) → ((a + b) % 2 ^ 64 + c) % 2 ^ 64 ≡ (a + (b + c)) % 2 ^ 64
    mod_on a b c = mod_more (2 ^ 64) (a + b) c ∙ ap (λ (n : ℕ). n % 2 ^ 64) (omega arith)

module _ (s : Setting) (laws : DriveLaws s.wire s.job s.rules) (sums : SumsAdd (setup_of s.job))
    (specs : List Spec) (own : Job) (shape : own.shape ≡ s.job.shape)
    (setup : setup_of own ≡ setup_of s.job)
    (found : Option Checkpoint) (first : Counts) (old : View) (p : Place s)
    (x : HasCome s found first old p) (g : HasGathered s found first p x.there) where
  abbrev c : Checkpoint
  c = p.is.core.buffers.state

  abbrev was : Start
  was = record { cut = s.job.cut; found = found; counts = first; view = old }

  abbrev is : Start
  is = record {
    cut = next_cut specs own c;
    found = Some c;
    counts = p.is.now;
    view = p.view;
  }

  module _ (t : s.wire) where
    comes : ComesTo s found c (handed x.there)
    comes = g.comes t

    entries : entries_at s was ≡ comes.earlier ++ Saved c.iteration comes.state ∷ entries_at s is
    entries =
        ap (λ (u : Trace). u.entries) comes.run
        ∙ append_assoc comes.earlier (Saved c.iteration comes.state ∷ []) (entries_at s is)

    -- the cut that the state chooses is that of the checkpoint
    next_is : cut_from specs own comes.state ≡ parts_of s.job.shape (next_cut specs own c)
    next_is =
        ap (λ (v : Shape). parts_of v
        (next_cut specs own (checkpoint_of (setup_of own) own.key 0 comes.state no_lengths))) shape
        ∙ ap (parts_of s.job.shape)
        (next_same specs own
        (checkpoint_of (setup_of own) own.key 0 comes.state no_lengths) c
        (ap (λ (u : Setup). (checkpoint_of u own.key 0 comes.state no_lengths).levels) setup
        ∙ sym (ap (λ (k : Checkpoint). k.levels) comes.checkpoint)))

    over : (last : State) → (trace_in s found).outcome ≡ Goes last
        → CountsOver s (cut_from specs own) was is
    unfolding comes
    over last goes =
        let h = g.counted t last goes in
        let work_is : work_in (setup_of s.job) (cut_from specs own) (parts_at s was)
        (entries_at s was)
        ≡ work (setup_of s.job) (parts_at s was) comes.earlier
        + work_in (setup_of s.job) (cut_from specs own) (parts_at s is) (entries_at s is) =
        ap (work_in (setup_of s.job) (cut_from specs own) (parts_at s was)) entries
        ∙ sums.work_adds (cut_from specs own) (parts_at s was) comes.earlier (entries_at s is)
        c.iteration comes.state comes.unsaved
        ∙ ap (λ (q : Parts). work (setup_of s.job) (parts_at s was) comes.earlier
        + work_in (setup_of s.job) (cut_from specs own) q (entries_at s is)) next_is in
        let count_is : carried_in (setup_of s.job) (cut_from specs own) (parts_at s was)
        (entries_at s was)
        ≡ carried_count (setup_of s.job) (parts_at s was) comes.earlier
        + carried_in (setup_of s.job) (cut_from specs own) (parts_at s is) (entries_at s is) =
        ap (carried_in (setup_of s.job) (cut_from specs own) (parts_at s was)) entries
        ∙ sums.count_adds (cut_from specs own) (parts_at s was) comes.earlier (entries_at s is)
        c.iteration comes.state comes.unsaved
        ∙ ap (λ (q : Parts). carried_count (setup_of s.job) (parts_at s was) comes.earlier
        + carried_in (setup_of s.job) (cut_from specs own) q (entries_at s is)) next_is in
        let sum_is : sum_in (setup_of s.job) (cut_from specs own) (parts_at s was)
        (entries_at s was)
        ≡ total_sum (setup_of s.job) (parts_at s was) comes.earlier
        + sum_in (setup_of s.job) (cut_from specs own) (parts_at s is) (entries_at s is) =
        ap (sum_in (setup_of s.job) (cut_from specs own) (parts_at s was)) entries
        ∙ sums.sum_adds (cut_from specs own) (parts_at s was) comes.earlier (entries_at s is)
        c.iteration comes.state comes.unsaved
        ∙ ap (λ (q : Parts). total_sum (setup_of s.job) (parts_at s was) comes.earlier
        + sum_in (setup_of s.job) (cut_from specs own) q (entries_at s is)) next_is in
        record {
          totals = λ now a. record {
            points = raised_on first.points _ now.points _ _ p.is.now.points h.points work_is
                a.points;
            values = counted_on first.values _ now.values _ _ p.is.now.values h.values count_is
                a.values;
            sum = summed_on first.sum _ now.sum _ _ p.is.now.sum h.sum sum_is a.sum;
          };
          below = λ now a. record {
            points = raised_within first.points _ now.points _ _ p.is.now.points h.points work_is
                a.points;
            values = counted_within first.values _ now.values _ _ p.is.now.values h.values
                count_is a.values;
          };
        }

  pub segment_one : SegmentTo s (cut_from specs own) was is
  segment_one = record {
    outcome = λ t. outcome s laws found c (handed x.there) (comes t);
    counts = λ t last goes. over t last goes;
    goes_over = λ d t y.
        let driven : IsDriven (kept_in s found) (handed x.there) p.view = x.driven d t y in
        record {
          driven = begins_there s laws found c (handed x.there) (comes t) p.view driven;
          moments = x.moments d t y;
          images = image_more s laws found c (handed x.there) (comes t) p.view driven;
          after = comes_after s laws found c (handed x.there) (comes t) p.view driven;
        };
  }

-- ---- the last core

-- its entries count what they do by its own cut alone, whatever cuts are to come
pub record CountAsOne (s : Setting) (again : State → Parts) (a : Start) : Type 0 where
  pub points : work_in (setup_of s.job) again (parts_at s a) (entries_at s a)
      ≡ work (setup_of s.job) (parts_at s a) (entries_at s a)
  pub values : carried_in (setup_of s.job) again (parts_at s a) (entries_at s a)
      ≡ carried_count (setup_of s.job) (parts_at s a) (entries_at s a)
  pub sum : sum_in (setup_of s.job) again (parts_at s a) (entries_at s a)
      ≡ total_sum (setup_of s.job) (parts_at s a) (entries_at s a)

totals_by : (job : Job) (rules : List Rule) (b : Beginning) (trace : Trace) (first now : Counts)
    → HasTotals (run_of job rules b) trace first now
    → HasCounted (setup_of job) (parts_of job.shape job.cut) trace.entries first now
totals_by job rules Afresh trace first now h =
    record { points = h.points; values = h.values; sum = h.sum }
totals_by job rules (From c state so_far) trace first now h =
    record { points = h.points; values = h.values; sum = h.sum }

module _ (s : Setting) (again : State → Parts) (a b : Start) (seg : SegmentTo s again a b)
    (cut_is : s.job.cut ≡ b.cut) (p : Place s) (runs : RunsFrom s b.found b.counts b.view p)
    (one : s.wire → CountAsOne s again b) where
  abbrev set : Setup
  set = setup_of s.job

  run_setup : (run_in s b.found).setup ≡ set
  run_setup = setup_is s.job s.rules (begins_in (setup_of s.job) b.found)

  totals : s.wire → IsDone s.wire (run_in s b.found) (trace_in s b.found) b.counts p.is
      → HasTotalsBy s again b p.is.now
  totals t done =
      let h : HasCounted (setup_of s.job) (parts_of s.job.shape b.cut) (entries_at s b) b.counts
      p.is.now =
      subst (λ (u : Cuts). HasCounted (setup_of s.job) (parts_of s.job.shape u) (entries_at s b)
      b.counts p.is.now) cut_is
      (totals_by s.job s.rules (begins_in (setup_of s.job) b.found) (trace_in s b.found) b.counts
      p.is.now done.totals) in
      record {
        points = h.points ∙ ap (λ (n : ℕ). raised b.counts.points n) (sym (one t).points);
        values = h.values ∙ ap (λ (n : ℕ). counted b.counts.values n) (sym (one t).values);
        sum = h.sum ∙ ap (λ (n : ℕ). (b.counts.sum + n) % 2 ^ 64) (sym (one t).sum);
      }

  done_by : (t : s.wire) → IsDone s.wire (run_in s b.found) (trace_in s b.found) b.counts p.is
      → (last : State) → (trace_in s b.found).outcome ≡ Goes last → IsDoneBy s again a p
  done_by t done last goes = record {
    totals = (seg.counts t last (sym (seg.outcome t) ∙ goes)).totals p.is.now (totals t done);
    none_left = done.none_left;
    last = λ state v is scalar. done.last state v (seg.outcome t ∙ is)
        (subst (λ (u : Setup). is_scalar u v ≡ true) (sym run_setup) scalar);
  }

  ended : s.wire → p.is.core.outcome ≡ ended_as (trace_in s a.found).outcome
  ended t = (runs.stands.told t).ended runs.over ∙ ap ended_as (seg.outcome t)

  -- over, all works are handed out
  all_handed : s.wire → handed runs.there ≡ works_by (kept_in s b.found)
  all_handed t =
      sym (runs.there.over t runs.over)
      ∙ ap (λ (c : Beginning). works_of (undivided_from set s.rules c).entries)
      (same_beginning set b.found)

  pub runs_by : RunsBy s again a p
  runs_by = record {
    over = runs.over;
    ended = ended;
    done = λ t is.
        let goes = done_goes (trace_in s a.found).outcome
        (run_stops set s.rules (begins_in set a.found)) (sym (ended t) ∙ is) in
        done_by t ((runs.stands.told t).done is) goes.0 (seg.outcome t ∙ goes.1);
    driven = λ d t y.
        let o = seg.goes_over d t y in
        whole_after (kept_in s a.found) b.found p.view o.after
        (subst (λ (l : List Entry). IsDriven (kept_in s b.found) l p.view) (all_handed t)
        (runs.driven d t o.driven));
    settled = runs.settled;
    counts = runs.counts;
    lengths = length_count s p (record {
      beginning = begins_in set b.found;
      begins = runs.there.begins;
      first = b.counts;
      at = runs.there.at;
    });
    scalars = λ v var level scalar.
        runs.stands.scalars v (subst (λ (u : Setup). v.0 < length u.vars) (sym run_setup) var)
        (subst (λ (u : Setup). 0 < levels_of u v) (sym run_setup) level)
        (subst (λ (u : Setup). is_scalar u v ≡ true) (sym run_setup) scalar);
  }

-- ---- a core with one cut, or one that no checkpoint comes after

pub one_unsaved : (s : Setting) (again : State → Parts) (a : Start)
    → AreUnsaved (entries_at s a) → CountAsOne s again a
one_unsaved s again a u = record {
  points = work_alone (setup_of s.job) again (parts_at s a) (entries_at s a) u;
  values = count_alone (setup_of s.job) again (parts_at s a) (entries_at s a) u;
  sum = sum_alone (setup_of s.job) again (parts_at s a) (entries_at s a) u;
}

pub one_cut : (s : Setting) (a : Start) → SumsAdd (setup_of s.job)
    → CountAsOne s (λ state. parts_at s a) a
one_cut s a sums = record {
  points = sums.one_work (parts_at s a) (entries_at s a);
  values = sums.one_count (parts_at s a) (entries_at s a);
  sum = sums.one_sum (parts_at s a) (entries_at s a);
}
