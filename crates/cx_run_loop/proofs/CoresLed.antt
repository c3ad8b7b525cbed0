-- A run by one core after another: the turns that led there.
use Rattle.std.proofs.Common.{inl, inr, ℕ, refl, subst}
use Rattle.std.specs.Prelude.{Bool, IsTrue}
use Rattle.cx_plan.specs.declared.job.Cuts.{Cuts}
use Rattle.cx_disk.specs.declared.disk.Disk.{Ghosts as DiskGhosts}
use Rattle.cx_wire.specs.declared.wire.Wire.{Ghosts as WireGhosts}
use Rattle.cx_turns.specs.declared.turns.Turns.{Ghosts as TurnsGhosts}
use Rattle.cx_run_loop.specs.Advances.{RunState, turning_of}
use Rattle.cx_run_loop.specs.Cores.{From, LeadsOut, LeadsStop, RunsCore}
use Rattle.cx_run_loop.specs.Lent.{wired}
use Rattle.cx_run_loop.specs.Recuts.{first_cut, with_cut}
use Rattle.cx_run_loop.specs.Turning.{TurnsLead, TurnsStop, turning}
use Rattle.cx_run_loop.proofs.CoresGo.{AreBetween}
use Rattle.cx_run_loop.proofs.LeadLaws.{leads_on, leads_stop}

module _ {D W T : Type 0} (d : DiskGhosts D) (w : WireGhosts W) (t : TurnsGhosts T) (f : From)
    (disk : D) (wire : W) (meter : ℕ) (turns : T) (cut : Cuts) (next : ℕ) (was : RunState D W)
    (turns_was : T) (b : AreBetween d w t f disk wire meter turns cut next was turns_was) where
  -- a fault stops the core
  pub stops_here : (turns_after : T)
      → TurnsStop t (IsTrue w.tells) (with_cut f.job cut) f.rules (turning_of w was turns_was)
      turns_after
      → LeadsStop w t f wire meter turns turns_after
  stops_here turns_after stop =
      inr (
        b.core,
        b.begins,
        leads_stop t (IsTrue w.tells) f.specs f.job f.rules (first_cut f.specs f.job f.found)
            b.checkpoints (turning b.core (wired w wire) meter turns) (turning_of w was turns_was)
            turns_after b.lead
            (subst (λ (u : Cuts). TurnsStop t (IsTrue w.tells) (with_cut f.job u) f.rules
            (turning_of w was turns_was) turns_after) b.cut_is stop),
      )

  module _ (mid : RunState D W) (turns_mid : T) (anew : Bool)
      (runs : RunsCore d w t (with_cut f.job cut) f.rules next was mid turns_was turns_mid anew)
    where
      -- or there was none up to where it stops
      pub stops_after : LeadsStop w t f wire meter turns turns_mid
      stops_after =
          stops_here turns_mid
          (record { last = turning_of w mid turns_mid; lead = runs.lead; stop = inl refl })

      pub leads_out : LeadsOut w t f wire mid.wire meter mid.meter turns turns_mid mid.run.core
      leads_out = record {
        first = b.core;
        begins = b.begins;
        checkpoints = b.checkpoints;
        lead = leads_on t (IsTrue w.tells) f.specs f.job f.rules (first_cut f.specs f.job f.found)
            b.checkpoints (turning b.core (wired w wire) meter turns) (turning_of w was turns_was)
            (turning_of w mid turns_mid) b.lead
            (subst (λ (u : Cuts). TurnsLead t (IsTrue w.tells) (with_cut f.job u) f.rules
            (turning_of w was turns_was) (turning_of w mid turns_mid)) b.cut_is runs.lead);
      }
