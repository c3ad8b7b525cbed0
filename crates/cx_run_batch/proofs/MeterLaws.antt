-- A run beside others that count on the same meter.
use Rattle.std.proofs.Common.{◌≡◌, ◌≤◌, ◌+◌, ℕ, sym, ◌∙◌, ap, arith, refl, subst}
use Rattle.std.specs.Prelude.{◌%◌, ◌^◌, Option}
use Rattle.cx_plan.specs.Setups.{setup_of}
use Rattle.cx_rule.specs.Meter.{raised, raised_twice}
use Rattle.cx_rule.specs.States.{State}
use Rattle.cx_cut.specs.Cuts.{Parts}
use Rattle.cx_disk.specs.Disk.{View}
use Rattle.cx_wire.specs.Received.{counted}
use Rattle.cx_chk.specs.declared.checkpoint.Checkpoint.{Checkpoint}
use Rattle.law_parts.specs.Runs.{Run}
use Rattle.cx_core.specs.Steps.{Counts, IsAt}
use Rattle.cx_run_loop.specs.Going.{IsDriving, Place, Setting, run_in}
use Rattle.cx_run_loop.specs.Segments.{CountsOver, HasTotalsBy, SegmentTo, Start, entries_at, parts_at}
use Rattle.cx_run_loop.specs.Sums.{carried_in, sum_in, work_in}
use Rattle.cx_run_loop.specs.UnderWay.{metered}
use Rattle.cx_run_loop.specs.Waiting.{IsWaiting}
use Rattle.cx_run_batch.specs.Stages.{ComesWaiting, HaveWaited}

abbrev pub with_points : ℕ → Counts → Counts
with_points n c = record c { points = raised c.points n }

pub raised_either : (first n m : ℕ) → raised (raised first m) n ≡ raised (raised first n) m
raised_either first n m = raised_twice first m n ∙ ap (λ (k : ℕ). raised first k) (omega arith)
    ∙ sym (raised_twice first n m)

abbrev at_metered : (s : Setting) (r : Run) (first : Counts) (n : ℕ) (p : Place s)
    → IsAt s.wire r first p.is.core p.is.queue p.is.now
    → IsAt s.wire r (with_points n first) p.is.core p.is.queue (metered n p).is.now
at_metered s r first n p at = record {
  world = at.world;
  oracle = at.oracle;
  reached = at.reached;
  shows = at.shows;
  points = ap (λ (k : ℕ). raised k n) at.points
      ∙ raised_either first.points n (at.world.meter 0);
  values = at.values;
  sum = at.sum;
  items = at.items;
}

-- ---- what the others count, the meter has counted too

module _ (s : Setting) (found : Option Checkpoint) (first : Counts) (n : ℕ) (p : Place s) where
  unfoldable pub driving_metered : IsDriving s found first p
      → IsDriving s found (with_points n first) (metered n p)
  driving_metered x = record {
    begins = x.begins;
    at = at_metered s (run_in s found) first n p x.at;
    over = x.over;
  }

  pub waiting_metered : (x : IsDriving s found first p) → IsWaiting s found first p x
      → IsWaiting s found (with_points n first) (metered n p) (driving_metered x)
  unfolding driving_metered
  waiting_metered x h = record { together = h.together; unsaved = h.unsaved }

  pub comes_metered : (old : View) → ComesWaiting s found first old p
      → ComesWaiting s found (with_points n first) old (metered n p)
  unfolding driving_metered
  comes_metered old x = record {
    come = record {
      there = driving_metered x.come.there;
      driven = x.come.driven;
      moments = x.come.moments;
    };
    waits = λ same. waiting_metered x.come.there (x.waits same);
  }

pub waited_metered : (s : Setting) (next n : ℕ) (p : Place s) → HaveWaited s next p
    → HaveWaited s next (metered n p)
waited_metered s next n p h = record {
  found = h.found;
  first = with_points n h.first;
  next_is = h.next_is;
  there = driving_metered s h.found h.first n p h.there;
  waiting = waiting_metered s h.found h.first n p h.there h.waiting;
}

-- ---- so from one core to the next

abbrev pub start_metered : ℕ → Start → Start
start_metered n a = record a { counts = with_points n a.counts }

module _ (s : Setting) (again : State → Parts) (n : ℕ) (a b : Start) where
  abbrev work_from : Start → ℕ
  work_from x = work_in (setup_of s.job) again (parts_at s x) (entries_at s x)

  -- what the later run counts in all, so does the earlier one
  abbrev in_all : Counts
  in_all = record {
    points = raised b.counts.points (work_from b);
    values = counted b.counts.values
        (carried_in (setup_of s.job) again (parts_at s b) (entries_at s b));
    sum = (b.counts.sum + sum_in (setup_of s.job) again (parts_at s b) (entries_at s b)) % 2 ^ 64;
  }

  over_metered : CountsOver s again a b
      → CountsOver s again (start_metered n a) (start_metered n b)
  over_metered over =
      let ends : HasTotalsBy s again a in_all =
      over.totals in_all (record { points = refl; values = refl; sum = refl }) in
      let points : raised (raised b.counts.points n) (work_from b)
      ≡ raised (raised a.counts.points n) (work_from a) =
      raised_either b.counts.points (work_from b) n
      ∙ ap (λ (k : ℕ). raised k n) ends.points
      ∙ raised_either a.counts.points n (work_from a) in
      record {
        totals = λ now h. record {
          points = h.points ∙ points;
          values = h.values ∙ ends.values;
          sum = h.sum ∙ ends.sum;
        };
        below = λ now h. record {
          points = subst (λ (m : ℕ). now.points ≤ m) points h.points;
          values = subst (λ (m : ℕ). now.values ≤ m) ends.values h.values;
        };
      }

  pub segment_metered : SegmentTo s again a b
      → SegmentTo s again (start_metered n a) (start_metered n b)
  segment_metered seg = record {
    outcome = seg.outcome;
    counts = λ t last goes. over_metered (seg.counts t last goes);
    goes_over = seg.goes_over;
  }
