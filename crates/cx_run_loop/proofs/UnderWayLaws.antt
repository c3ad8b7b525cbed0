-- A run on its way: where it begins, what keeps it, and where it ends.
use Rattle.std.proofs.Common.{◌≡◌, ℕ, List, [], sym, ◌∙◌, ap, subst, arith, refl}
use Rattle.std.specs.Prelude.{Option}
use Rattle.cx_plan.specs.Setups.{setup_of}
use Rattle.cx_rule.specs.Meter.{raised, raised_twice}
use Rattle.cx_model.specs.Runs.{Lengths}
use Rattle.cx_model.specs.Traces.{Entry}
use Rattle.law_network.specs.Machine.{World}
use Rattle.cx_disk.specs.Disk.{View}
use Rattle.cx_disk.proofs.Moments.{joins, started}
use Rattle.cx_chk.specs.declared.checkpoint.Checkpoint.{Checkpoint}
use Rattle.cx_keep.specs.Keeping.{Keeper}
use Rattle.law_parts.specs.Holding.{Held}
use Rattle.law_parts.specs.Moves.{Message, Channel}
use Rattle.law_parts.specs.Beginnings.{run_of}
use Rattle.law_parts.specs.Runs.{Run}
use Rattle.law_reached.specs.Works.{handed_out}
use Rattle.cx_core.specs.declared.answers.Outcome.TheVariants.{Going}
use Rattle.cx_core.specs.Starts.{begins_in}
use Rattle.cx_core.specs.Steps.{Counts, IsAt}
use Rattle.cx_run_loop.specs.Going.{Setting, Place, EndsAt, IsDriven, IsGoing, IsImageOf, LeavesImages, Moves, MovesOn, RunLeaves, RunsFrom, run_in, kept_in}
use Rattle.cx_run_loop.specs.UnderWay.{HasBegunAt, HasCome, IsUnderWay, metered, points_of}

-- ---- as it begins

pub going_at : (s : Setting) (found : Option Checkpoint) (k : Keeper) (p : Place s)
    → HasBegunAt s found k p → IsGoing s k p
going_at s found k p b = record {
  running = record {
    beginning = begins_in (setup_of s.job) found;
    begins = b.begins;
    first = p.is.now;
    at = b.begun.at;
  };
  kept = b.kept;
}

unfoldable pub come_at : (s : Setting) (found : Option Checkpoint) (k : Keeper) (p : Place s)
    → HasBegunAt s found k p → p.is.core.outcome ≡ Going → HasCome s found p.is.now p.view p
come_at s found k p b going =
    let nothing_handed : handed_out (run_in s found) b.begun.at.world ≡ [] =
    ap (λ (w : World Held (Message s.wire) Channel Lengths). handed_out (run_in s found) w)
    b.begun.nothing_done in
    record {
      there = record { begins = b.begins; at = b.begun.at; over = λ t over. absurd (over going) };
      driven = λ d t y. subst (λ (l : List Entry). IsDriven (kept_in s found) l p.view)
          (sym nothing_handed) y;
      moments = λ d t y. started p.view (IsImageOf (kept_in s found));
    }

-- ---- on its way

module _ (s : Setting) (found : Option Checkpoint) (first : Counts) (old : View) (was : Place s)
    (x : HasCome s found first old was) where
  pub leaves_on : (new : View) → LeavesImages s was new → RunLeaves s found old new
  leaves_on new leaves d t y =
      joins (IsImageOf (kept_in s found)) (x.moments d t y)
      (leaves found first x.there d t (x.driven d t y)) (λ c has. has)

  pub comes_on : (is : Place s) → MovesOn s was is → LeavesImages s was is.view
      → HasCome s found first old is
  comes_on is moves leaves =
      let m : Moves s found first was is x.there = moves found first x.there in
      record {
        there = m.there;
        driven = λ d t y. m.driven d t (x.driven d t y);
        moments = leaves_on is.view leaves;
      }

  pub ends : (is : Place s) → EndsAt s was is → RunsFrom s found first old is
  ends is end =
      let m : Moves s found first was is x.there = end.moves found first x.there in
      record {
        over = end.over;
        there = m.there;
        stands = end.stands found first m.there;
        driven = λ d t y. m.driven d t (x.driven d t y);
        settled = end.settled;
        counts = end.counts;
      }

-- ---- beside others that count on the meter

abbrev with_points : ℕ → Counts → Counts
with_points n c = record c { points = raised c.points n }

raised_either : (first n m : ℕ) → raised (raised first m) n ≡ raised (raised first n) m
raised_either first n m = raised_twice first m n ∙ ap (λ (k : ℕ). raised first k) (omega arith)
    ∙ sym (raised_twice first n m)

abbrev at_metered : (s : Setting) (r : Run) (first : Counts) (n : ℕ) (p : Place s)
    → IsAt s.wire r first p.is.core p.is.queue p.is.now
    → IsAt s.wire r (with_points n first) p.is.core p.is.queue (metered n p).is.now
at_metered s r first n p at = record {
  world = at.world;
  oracle = at.oracle;
  reached = at.reached;
  shows = at.shows;
  points = ap (λ (k : ℕ). raised k n) at.points
      ∙ raised_either first.points n (at.world.meter 0);
  values = at.values;
  sum = at.sum;
  items = at.items;
}

abbrev come_metered : (s : Setting) (found : Option Checkpoint) (first : Counts) (old : View) (n :
    ℕ)
    (p : Place s) → HasCome s found first old p
    → HasCome s found (with_points n first) old (metered n p)
come_metered s found first old n p x = record {
  there = record {
    begins = x.there.begins;
    at = at_metered s (run_in s found) first n p x.there.at;
    over = x.there.over;
  };
  driven = x.driven;
  moments = x.moments;
}

pub waits : (s : Setting) (found : Option Checkpoint) (values sum : ℕ) (old : View) (n : ℕ)
    (p : Place s) (u : IsUnderWay s found values sum old p)
    → (v : IsUnderWay s found values sum old (metered n p)) × (points_of v ≡ points_of u)
waits s found values sum old n p u = (
  record {
    first = with_points n u.first;
    values_are = u.values_are;
    sum_is = u.sum_is;
    come = come_metered s found u.first old n p u.come;
  },
  refl,
)

pub going_metered : (s : Setting) (k : Keeper) (n : ℕ) (p : Place s) → IsGoing s k p
    → IsGoing s k (metered n p)
going_metered s k n p going = record {
  running = record {
    beginning = going.running.beginning;
    begins = going.running.begins;
    first = with_points n going.running.first;
    at = at_metered s (run_of s.job s.rules going.running.beginning) going.running.first n p
        going.running.at;
  };
  kept = going.kept;
}

pub under_way_on : (s : Setting) (found : Option Checkpoint) (values sum : ℕ) (old : View)
    (was is : Place s) → IsUnderWay s found values sum old was → MovesOn s was is
    → LeavesImages s was is.view → IsUnderWay s found values sum old is
under_way_on s found values sum old was is u moves leaves = record {
  first = u.first;
  values_are = u.values_are;
  sum_is = u.sum_is;
  come = comes_on s found u.first old was u.come is moves leaves;
}
