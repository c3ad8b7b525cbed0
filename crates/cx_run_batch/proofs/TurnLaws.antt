-- Turns of a batch, one after another.
use Rattle.std.proofs.Common.{◌≡◌, ◌<◌, ◌^◌, ℕ, suc, inl, inr, true, List, [], ◌∷◌, ◌++◌, map, refl, sym, ap, subst}
use Rattle.std.specs.Prelude.{IsTrue, Result, Ok, Err, IfOk}
use Rattle.cx_plan.specs.declared.job.Job.{Job}
use Rattle.cx_rule.specs.Routine.{Rule}
use Rattle.cx_rule.specs.declared.spec.Spec.{Spec}
use Rattle.cx_turns.specs.declared.turns.Turns.{Ghosts as TurnsGhosts}
use Rattle.cx_wire.specs.declared.wire.Wire.{Ghosts as WireGhosts}
use Rattle.cx_core.specs.declared.answers.Event.{Event}
use Rattle.cx_core.specs.Cores.{Cores}
use Rattle.cx_core.specs.Starts.{AreEmpty}
use Rattle.cx_core.specs.Steps.{counts}
use Rattle.cx_run_loop.specs.Cores.{is_cut_anew}
use Rattle.cx_run_loop.specs.Lent.{wired}
use Rattle.cx_run_loop.specs.Turning.{StepsBy, Turning, TurnsLead, turning}
use Rattle.cx_run_loop.specs.UnderWay.{Runs}
use Rattle.cx_run_loop.specs.declared.fault.DriveFault.{DriveFault}
use Rattle.cx_run_loop.specs.declared.fault.DriveFault.TheVariants as faults
use Rattle.cx_run_loop.specs.declared.turn.Advance.TheVariants.{Saved}
use Rattle.cx_run_batch.specs.Stages.{GoesOnAfter}
use Rattle.cx_run_batch.specs.Turns.{AreTurns, Batch, IsOneTurn, TakesTurn, TurnsBy, batch}
use Rattle.cx_run_batch.specs.declared.member.Member.{Member}
use Rattle.cx_run_batch.specs.declared.stage.Stage.{Stage}
use Rattle.cx_run_batch.specs.declared.stage.Stage.TheVariants.{Going, Over}
use Rattle.cx_run_batch.specs.declared.stage.UnderWay.{UnderWay}

no_fault : (core : Cores) (fault : DriveFault)
    → ◌≡◌ {A = Result Cores DriveFault} (Ok core) (Err fault) → ⊥
no_fault core fault e = cc

-- ---- one turn of one run

module _ {W T : Type 0} (w : WireGhosts W) (t : TurnsGhosts T) (rules : List Rule) (job : Job)
    (x : UnderWay) (mid : Runs) (wire wire_after : W) (meter meter_after : ℕ)
    (turns turns_after : T) (events : List Event)
    (steps : StepsBy t (IsTrue w.tells) job rules events
    (turning x.run.core (wired w wire) meter turns)
    (turning mid.core (wired w wire_after) meter_after turns_after)) where
  abbrev last : Turning (IsTrue w.tells) T
  last = turning mid.core (wired w wire_after) meter_after turns_after

  pub turn_same : TakesTurn w t rules job job wire wire_after meter meter_after turns turns_after
      (Going x) (Going (record x { run = mid }))
  turn_same = (last, (events, steps), inl refl)

  pub turn_ends : (now : Job) (r : Result Cores DriveFault) → IfOk r (λ core. core ≡ mid.core)
      → TakesTurn w t rules job now wire wire_after meter meter_after turns turns_after (Going x)
      (Over r)
  turn_ends now (Ok core) same =
      subst (λ (c : Cores). TurnsLead t (IsTrue w.tells) job rules
      (turning x.run.core (wired w wire) meter turns)
      (turning c (wired w wire_after) meter_after turns_after)) (sym same) (events, steps)
  turn_ends now (Err fault) same =
      record { last = last; lead = (events, steps); stop = inl refl }

  pub turn_after : (specs : List Spec) (now : Job) (stage : Stage)
      → (is_cut_anew job x.next Saved mid.core ≡ true → AreEmpty (w.queue wire_after))
      → (IsTrue w.tells → w.sum wire_after < 2 ^ 64)
      → GoesOnAfter specs job now (record x { run = mid }) stage
      → TakesTurn w t rules job now wire wire_after meter meter_after turns turns_after (Going x)
      stage
  turn_after specs now (Going y) empty fits (inl h) = (
    last,
    (events, steps),
    inr (record {
      begins = h.begins.begins w.tells rules (w.queue wire_after)
          (counts meter_after (w.received wire_after) (w.sum wire_after)) (empty h.anew) fits;
      queue = refl;
      now = refl;
      turns = refl;
    }),
  )
  turn_after specs now (Going y) empty fits (inr h) = (
    last,
    (events, steps),
    inl (ap (λ (v : UnderWay). turning v.run.core (wired w wire_after) meter_after turns_after)
        h.same),
  )
  turn_after specs now (Over (Ok core)) empty fits h =
      absurd (no_fault core faults.Memory h.result_is)
  turn_after specs now (Over (Err fault)) empty fits h =
      record { last = last; lead = (events, steps); stop = inl refl }

-- ---- turn after turn

module _ {W T : Type 0} (w : WireGhosts W) (t : TurnsGhosts T) (rules : List Rule) where
  pub no_turns : (b : Batch W T) → AreTurns w t rules b b
  no_turns b = ([], refl)

  by_more : (bs cs : List (Batch W T)) (was mid is : Batch W T) → TurnsBy w t rules bs was mid
      → TurnsBy w t rules cs mid is → TurnsBy w t rules (bs ++ cs) was is
  by_more [] cs was mid is one two =
      subst (λ (b : Batch W T). TurnsBy w t rules cs b is) one two
  by_more (b ∷ bs) cs was mid is (one, rest) two = (one, by_more bs cs b mid is rest two)

  pub turns_more : (was mid is : Batch W T) → AreTurns w t rules was mid
      → AreTurns w t rules mid is → AreTurns w t rules was is
  turns_more was mid is one two = (one.0 ++ two.0, by_more one.0 two.0 was mid is one.1 two.1)

  -- beside another member, which comes first
  module _ (m : Member) (u : W) where
    abbrev behind : Batch W T → Batch W T
    behind b = record b { members = m ∷ b.members; wires = u ∷ b.wires }

    one_behind : (was is : Batch W T) → IsOneTurn w t rules was is
        → IsOneTurn w t rules (behind was) (behind is)
    one_behind was is one = record {
      k = suc one.k;
      member = one.member;
      member_after = one.member_after;
      wire = one.wire;
      wire_after = one.wire_after;
      member_was = one.member_was;
      members_are = ap (λ (ms : List Member). m ∷ ms) one.members_are;
      wire_was = one.wire_was;
      wires_are = ap (λ (us : List W). u ∷ us) one.wires_are;
      turn = one.turn;
    }

    by_behind : (bs : List (Batch W T)) (was is : Batch W T) → TurnsBy w t rules bs was is
        → TurnsBy w t rules (map behind bs) (behind was) (behind is)
    by_behind [] was is same = ap behind same
    by_behind (b ∷ bs) was is (one, rest) = (one_behind was b one, by_behind bs b is rest)

  -- a turn of the first member, and then some of the others
  pub turns_beside : (all : List Member) (m n : Member) (ms ns : List Member) (wires : List W)
      (u x : W) (us xs : List W) (old mid new : ℕ) (turns between turns_after : T) → all ≡ m ∷ ms
      → wires ≡ u ∷ us
      → TakesTurn w t rules m.job n.job u x old mid turns between m.stage n.stage
      → AreTurns w t rules (batch ms us mid between) (batch ns xs new turns_after)
      → AreTurns w t rules (batch all wires old turns) (batch (n ∷ ns) (x ∷ xs) new turns_after)
  turns_beside all m n ms ns wires u x us xs old mid new turns between turns_after e f one rest =
      subst (λ (l : List Member). AreTurns w t rules (batch l wires old turns)
      (batch (n ∷ ns) (x ∷ xs) new turns_after)) (sym e)
      (subst (λ (l : List W). AreTurns w t rules (batch (m ∷ ms) l old turns)
      (batch (n ∷ ns) (x ∷ xs) new turns_after)) (sym f) (
        batch (n ∷ ms) (x ∷ us) mid between ∷ map (behind n x) rest.0,
        (
          record {
            k = 0;
            member = m;
            member_after = n;
            wire = u;
            wire_after = x;
            member_was = refl;
            members_are = refl;
            wire_was = refl;
            wires_are = refl;
            turn = one;
          },
          by_behind n x rest.0 (batch ms us mid between) (batch ns xs new turns_after) rest.1,
        ),
      ))
