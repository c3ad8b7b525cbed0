-- How much a core has to do that has just begun.
use Rattle.std.proofs.Common.{◌≡◌, ◌≤◌, ◌<◌, ◌+◌, ◌-◌, ◌*◌, ℕ, zero, suc, Bool, true, false, List, [], ◌∷◌, length, arith, sym, ap, subst}
use Rattle.std.proofs.Math.Nat.{mul-le-mul_right, suc-mul}
use Rattle.std.specs.Prelude.{Option, Some, None}
use Rattle.cx_plan.specs.declared.job.Job.{Job}
use Rattle.cx_plan.specs.Setups.{Setup, setup_of}
use Rattle.cx_rule.specs.Routine.{Rule}
use Rattle.cx_model.specs.Runs.{Lengths}
use Rattle.cx_chk.specs.declared.checkpoint.Checkpoint.{Checkpoint}
use Rattle.cx_wire.specs.Messages.{Sent}
use Rattle.cx_flat.specs.Ways.{most_after, most_rest}
use Rattle.law_network.specs.Machine.{World, begun}
use Rattle.law_parts.specs.Beginnings.{run_of}
use Rattle.law_parts.specs.Holding.{Held}
use Rattle.law_parts.specs.Moves.{Message, Channel}
use Rattle.law_parts.specs.Nets.{net, within_lead}
use Rattle.law_parts.specs.Runs.{Run, parts_in}
use Rattle.law_parts.specs.Truths.{truth}
use Rattle.cx_core_events.specs.declared.standing.Standing.{Standing}
use Rattle.cx_core_events.specs.declared.standing.Work.{Work}
use Rattle.cx_core_events.specs.Shows.{ShowsPace, StopsAt}
use Rattle.cx_core.specs.Cores.{Cores}
use Rattle.cx_core.specs.Left.{going_left, place_rank, places_left, rank_limit, steps_left, stop_left}
use Rattle.cx_core.specs.Starts.{begins_in}
use Rattle.cx_core.specs.Steps.{Begins, Counts}
use Rattle.cx_run_batch.specs.Stages.{most_steps}

places_few : (setup : Setup) (ss : List Standing)
    → places_left setup ss ≤ length ss * rank_limit setup
places_few setup [] = omega arith
places_few setup (s ∷ ss) =
    one_more (rank_limit setup) (place_rank setup s.place) (places_left setup ss) (length ss)
    (places_few setup ss)
  where
    one_more : (limit rank left n : ℕ) → left ≤ n * limit
        → (limit - rank) + left ≤ suc n * limit
    one_more limit rank left n less = omega (arith, less, suc-mul n limit)

going_few : (over : Bool) → going_left over ≤ 1
going_few true = omega arith
going_few false = omega arith

all_few : (places works stop going most limit : ℕ) → places ≤ most → works ≡ 0 → stop ≤ suc limit
    → going ≤ 1 → 2 * places + works + stop + going ≤ 2 * most + limit + 2
all_few places works stop going most limit a b c d = omega (arith, a, b, c, d)

-- a run has some operation to come
some_rest : (setup : Setup) (n : ℕ) → 0 < most_rest setup n
some_rest setup zero = omega arith
some_rest setup (suc n) = omega arith

some_after : (setup : Setup) (c : ℕ) → 0 < most_after setup c
some_after setup c =
    let rest : 0 < most_rest setup (setup.itlast - c) = some_rest setup (setup.itlast - c) in
    omega (arith, rest)

module _ (tells : Type 0) (r : Run) (core : Cores) (some : 0 < r.most) where
  stop_few : (o : Option ℕ)
      → StopsAt r (begun (net tells within_lead r (truth r))) o
      → stop_left r.setup core.pace o ≤ suc (rank_limit r.setup)
  stop_few None h = omega arith
  stop_few (Some j) h = absurd (let none : r.most ≡ 0 = h.1 in omega (arith, none, some))

  begun_few : (first : Counts) (queue : ℕ → ℕ → List (Sent tells)) → Begins tells r first core queue
      → steps_left r.setup core.pace
      ≤ 2 * (parts_in r * rank_limit r.setup) + rank_limit r.setup + 2
  unfolding steps_left
  begun_few first queue b =
      let shows : ShowsPace tells r b.at.oracle (begun (net tells within_lead r (truth r)))
      core.pace =
      subst (λ (w : World Held (Message tells) Channel Lengths).
      ShowsPace tells r b.at.oracle w core.pace) b.nothing_done b.at.shows.pace in
      all_few (places_left r.setup core.pace.parts) (length core.pace.works)
      (stop_left r.setup core.pace core.pace.stopped) (going_left core.pace.over)
      (parts_in r * rank_limit r.setup) (rank_limit r.setup)
      (subst (λ (n : ℕ). places_left r.setup core.pace.parts ≤ n * rank_limit r.setup) shows.count
      (places_few r.setup core.pace.parts))
      (ap (λ (works : List Work). length works) (sym shows.works))
      (stop_few core.pace.stopped shows.stopped) (going_few core.pace.over)

-- of a job's run from a checkpoint
pub fresh_few : (job : Job) (rules : List Rule) (c : Checkpoint) (tells : Type 0) (first : Counts)
    (core : Cores) (queue : ℕ → ℕ → List (Sent tells))
    → Begins tells (run_of job rules (begins_in (setup_of job) (Some c))) first core queue
    → steps_left (setup_of job) core.pace ≤ most_steps job
fresh_few job rules c tells first core queue b =
    begun_few tells (run_of job rules (begins_in (setup_of job) (Some c))) core
    (some_after (setup_of job) c.iteration) first queue b

-- ---- turns that are left

pub fewer_steps : (a m n : ℕ) → m < n → 1 + a + m < 1 + a + n
fewer_steps a m n less = omega (arith, less)

pub some_left : (a n : ℕ) → 0 < 1 + a + n
some_left a n = omega arith

-- one core less, and no more steps than any has
pub fewer_cores : (m n most s t : ℕ) → m < n → s ≤ most
    → 1 + m * (1 + most) + s < 1 + n * (1 + most) + t
fewer_cores m n most s t less few =
    let h : suc m * (1 + most) ≤ n * (1 + most) = mul-le-mul_right (1 + most) less in
    omega (arith, h, suc-mul m (1 + most), few)
