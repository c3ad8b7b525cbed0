-- Which turns a run takes: those that its source picks, begun from the seed that the words give.
use Rattle.std.specs.Prelude.{◌≡◌, ◌⊎◌, ℕ, Some}
use Rattle.cx_plan.specs.declared.job.Job.{Job}
use Rattle.cx_turns.specs.declared.turns.Turns.{Ghosts as TurnsGhosts}
use Rattle.cx_core.specs.Cores.{Cores}
use Rattle.cx_run_loop.specs.Drives.{Drive}
use Rattle.cx_run_loop.specs.Turning.{StopsTurns, TakesTurns}
use Rattle.cx_run.specs.Calls.{Call, IsRun, IsStill, Runs, Work, driven}
use Rattle.cx_run.specs.Clauses.{IsEnd}
use Rattle.cx_run.specs.Words.{Request, asked}

-- the source was begun from the seed, and what it picked led the run to its end
pub record PicksToEnd {T : Type 0} (t : TurnsGhosts T) (d : Drive) (seed : ℕ) (turns_after : T)
    : Type 0 where
  pub turns : T
  pub begun : t.begun turns ≡ Some seed
  pub core : Cores
  pub takes : TakesTurns t d turns turns_after core

-- or to where something stopped it
pub record PicksToStop {T : Type 0} (t : TurnsGhosts T) (d : Drive) (seed : ℕ) (turns_after : T)
    : Type 0 where
  pub turns : T
  pub begun : t.begun turns ≡ Some seed
  pub stops : StopsTurns t d turns turns_after

-- a run that was begun: by its picks to its end or to a stop; where the status is that of an end,
-- to its end
pub record HasTurned {T : Type 0} (t : TurnsGhosts T) (d : Drive) (seed : ℕ) (turns_after : T)
    (status : ℕ) : Type 0 where
  pub picks : PicksToEnd t d seed turns_after ⊎ PicksToStop t d seed turns_after
  pub ends : IsEnd status → PicksToEnd t d seed turns_after

-- nothing was begun: the source is as it was, and so are the disk, the wire and the meter
pub record IsNotBegun {T : Type 0} (w : Work) (turns turns_after : T) : Type 0 where
  pub source : turns_after ≡ turns
  pub still : IsStill w

-- A run that came to its end went by its picks. Any other one did, or nothing was begun.
-- Other commands leave the source alone.
pub record FollowsTurns {T : Type 0} (t : TurnsGhosts T) (c : Call) (turns turns_after : T)
    (status : ℕ) : Type 0 where
  pub picks : (job : Job) (run : IsRun c job) → IsNotBegun c.work turns turns_after
      ⊎ (PicksToEnd t (driven c.work job) run.request.seed turns_after
      ⊎ PicksToStop t (driven c.work job) run.request.seed turns_after)
  pub ends : (job : Job) (run : IsRun c job) → IsEnd status
      → PicksToEnd t (driven c.work job) run.request.seed turns_after
  pub spared : (r : Request) → asked c.words ≡ Some r → (Runs r.command → ⊥)
      → turns_after ≡ turns
