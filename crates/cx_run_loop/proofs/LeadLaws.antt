-- Turns over one core after another.
use Rattle.std.proofs.Common.{◌≡◌, List, [], ◌∷◌, ◌++◌, refl}
use Rattle.cx_plan.specs.declared.job.Cuts.{Cuts}
use Rattle.cx_plan.specs.declared.job.Job.{Job}
use Rattle.cx_rule.specs.Routine.{Rule}
use Rattle.cx_rule.specs.declared.spec.Spec.{Spec}
use Rattle.cx_chk.specs.declared.checkpoint.Checkpoint.{Checkpoint}
use Rattle.cx_turns.specs.declared.turns.Turns.{Ghosts as TurnsGhosts}
use Rattle.cx_run_loop.specs.Recuts.{next_cut, with_cut}
use Rattle.cx_run_loop.specs.Turning.{CoresLead, CoresStop, IsCutAnew, Turning, TurnsLead, TurnsStop}
use Rattle.cx_run_loop.proofs.AdvanceLaws.{steps_more}

-- the cut after all of some checkpoints
abbrev pub last_cut : List Spec → Job → Cuts → List Checkpoint → Cuts
last_cut specs job cut [] = cut
last_cut specs job cut (c ∷ cs) = last_cut specs job (next_cut specs job c) cs

module _ {T : Type 0} (t : TurnsGhosts T) (tells : Type 0) (specs : List Spec) (job : Job)
    (rules : List Rule) where
  turns_both : (cut : Cuts) (was mid is : Turning tells T)
      → TurnsLead t tells (with_cut job cut) rules was mid
      → TurnsLead t tells (with_cut job cut) rules mid is
      → TurnsLead t tells (with_cut job cut) rules was is
  turns_both cut was mid is one two = (
    one.0 ++ two.0,
    steps_more t tells (with_cut job cut) rules one.0 two.0 was mid is one.1 two.1,
  )

  -- the last core goes on
  pub leads_on : (cut : Cuts) (cs : List Checkpoint) (was mid is : Turning tells T)
      → CoresLead t tells specs job rules cut cs was mid
      → TurnsLead t tells (with_cut job (last_cut specs job cut cs)) rules mid is
      → CoresLead t tells specs job rules cut cs was is
  leads_on cut [] was mid is one two = turns_both cut was mid is one two
  leads_on cut (c ∷ cs) was mid is (a, b, lead, same, anew, rest) two =
      (a, b, lead, same, anew, leads_on (next_cut specs job c) cs b mid is rest two)

  -- another one begins
  pub leads_anew : (cut : Cuts) (cs : List Checkpoint) (c : Checkpoint) (was mid is : Turning tells
      T)
      → CoresLead t tells specs job rules cut cs was mid → mid.is.core.buffers.state ≡ c
      → IsCutAnew tells (with_cut job (next_cut specs job c)) rules mid is
      → CoresLead t tells specs job rules cut (cs ++ c ∷ []) was is
  leads_anew cut [] c was mid is lead same anew = (mid, is, lead, same, anew, ([], refl))
  leads_anew cut (e ∷ cs) c was mid is (a, b, lead, here, one, rest) same anew = (
    a,
    b,
    lead,
    here,
    one,
    leads_anew (next_cut specs job e) cs c b mid is rest same anew,
  )

  pub last_anew : (cut : Cuts) (cs : List Checkpoint) (c : Checkpoint)
      → last_cut specs job cut (cs ++ c ∷ []) ≡ next_cut specs job c
  last_anew cut [] c = refl
  last_anew cut (e ∷ cs) c = last_anew (next_cut specs job e) cs c

  -- a fault stops the last core
  pub leads_stop : (cut : Cuts) (cs : List Checkpoint) (was mid : Turning tells T) (turns_after : T)
      → CoresLead t tells specs job rules cut cs was mid
      → TurnsStop t tells (with_cut job (last_cut specs job cut cs)) rules mid turns_after
      → CoresStop t tells specs job rules cut was turns_after
  leads_stop cut cs was mid turns_after lead stop = record {
    checkpoints = cs;
    last = stop.last;
    lead = leads_on cut cs was mid stop.last lead stop.lead;
    stop = stop.stop;
  }
