-- Members that can be run, as the run of several jobs asks for them.
use Rattle.std.proofs.Common.{◌≤◌, ℕ, List, [], ◌∷◌, length, arith}
use Rattle.std.specs.List.{AllByRecursion}
use Rattle.cx_rule.specs.declared.spec.Spec.{Spec}
use Rattle.cx_wire.specs.declared.wire.Wire.{Ghosts as WireGhosts}
use Rattle.cx_core.specs.Starts.{AreEmpty}
use Rattle.cx_run_batch.specs.Members.{AreServed, AreWaiting, HaveWires}
use Rattle.cx_run_batch.specs.declared.member.Member.{Member}
use Rattle.cx_run.proofs.Running.{enough_parts, ready}
use Rattle.cx_several.specs.Making.{AreRunnable}

pub all_waiting : (specs : List Spec) (ms : List Member) → AreRunnable specs ms → AreWaiting ms
all_waiting specs [] x = tt
all_waiting specs (m ∷ ms) x = (x.0.waits, all_waiting specs ms x.1)

pub all_served : (specs : List Spec) (ms : List Member) → AreRunnable specs ms → AreServed specs ms
all_served specs [] x = tt
all_served specs (m ∷ ms) x =
    let s = x.0.servable in (
      record {
        ready = ready specs m.job s.ready s.interior;
        short = s.ready.names;
        fit = s.ready.fit;
        cut = s.ready.cut;
      },
      all_served specs ms x.1,
    )

pub all_wired : {W : Type 0} (w : WireGhosts W) (specs : List Spec) (ms : List Member)
    (wires : List W) → AreRunnable specs ms
    → AllByRecursion (λ (wire : W). (512 ≤ w.parts wire) × AreEmpty (w.queue wire)) wires
    → length ms ≤ length wires → HaveWires w ms wires
all_wired w specs [] wires x served long = tt
all_wired w specs (m ∷ ms) [] x served long = absurd (none (length ms) long)
  where
    none : (n : ℕ) → length (m ∷ ms) ≤ 0 → ⊥
    none n less = omega (arith, less)
all_wired w specs (m ∷ ms) (wire ∷ wires) x served long =
    let s = x.0.servable in (
      record {
        parts = enough_parts m.job (w.parts wire) s.ready.whole s.ready.cut served.0.0;
        empty = served.0.1;
      },
      all_wired w specs ms wires x.1 served.1 (omega (arith, long)),
    )
