-- What each event leaves of where the parts stand.
use Rattle.std.specs.Prelude.{ℕ, suc, ◌+◌, ◌-◌, ◌%◌, ◌^◌, true, false, nat_lt, ℤ, List, [], ◌∷◌, ◌++◌, map, length, drop, replicate, Option, Some, None, if◌then◌else◌, slice_set}
use Rattle.cx_plan.specs.declared.variable.VarId.{VarId}
use Rattle.cx_plan.specs.Setups.{Setup}
use Rattle.cx_cut.specs.Cuts.{Parts, part_count}
use Rattle.cx_flat.specs.declared.op.Op.{Op}
use Rattle.cx_flat.specs.Code.{analysis_place}
use Rattle.cx_flat.specs.Flats.{Control, control_after}
use Rattle.cx_flat.specs.Ways.{at_place}
use Rattle.cx_core_events.specs.declared.standing.Standing.{Standing}
use Rattle.cx_core_events.specs.declared.standing.Work.{Work}
use Rattle.cx_core_events.specs.Paces.{Paces, part_of, op_of, iteration_of, other_hind, hind_after}
use Rattle.cx_core_events.specs.Events.{work_of}

-- the first place of a run, or of one that is continued from a checkpoint of an iteration
abbrev pub first_place : Setup → Option ℕ → Control
first_place setup None = at_place 0 0
first_place setup (Some c) = at_place (analysis_place setup) c

-- a part that has done nothing
abbrev pub standing_at : Control → Standing
standing_at place = record { place = place; count = 0; handed = 0 }

-- all parts stand there
abbrev pub all_at : Parts → List Op → ℕ → Control → Paces
all_at cut ops lead place = record {
  cut = cut;
  ops = ops;
  lead = lead;
  parts = replicate (part_count cut) (standing_at place);
  works = [];
  stopped = None;
  over = false;
  hind = 0;
}

-- how many works are handed in behind one more; the foremost part adds it to the list
abbrev pub handed_after : Option Work → ℕ → ℕ → ℕ
handed_after None known handed = handed
handed_after (Some work) known handed = if nat_lt handed known then suc handed else suc known

abbrev pub works_after : Option Work → List Work → ℕ → List Work
works_after None works handed = works
works_after (Some work) works handed = if nat_lt handed (length works) then works
    else works ++ work ∷ []

-- a part behind an operation, by the scalars
abbrev pub advanced : Setup → Op → (VarId → ℤ) → (handed : ℕ) → Standing → Standing
advanced setup o scalars handed s =
    record {
      place = control_after setup o scalars s.place;
      count = (s.count + 1) % 2 ^ 64;
      handed = handed;
    }

-- a part's operation is done
abbrev pub gone_on : Setup → Paces → ℕ → (VarId → ℤ) → Paces
gone_on setup p k scalars = record p {
  parts = slice_set p.parts k (advanced setup (op_of p k) scalars
      (handed_after (work_of (op_of p k) (iteration_of p k)) (length p.works) (part_of p k).handed)
      (part_of p k));
  works = works_after (work_of (op_of p k) (iteration_of p k)) p.works (part_of p k).handed;
}

-- and the hindmost part is known
abbrev pub with_hind : Paces → Option ℕ → Paces
with_hind p other = record p { hind = hind_after other p.parts }

abbrev pub moved_on : Setup → Paces → ℕ → (VarId → ℤ) → Paces
moved_on setup p k scalars = with_hind (gone_on setup p k scalars) (other_hind p k)

-- a part has met an end
abbrev pub met_by : Paces → ℕ → Paces
met_by p k = record p { stopped = Some k }

-- the writer has done the first work
abbrev pub one_less : Standing → Standing
one_less s = record s { handed = s.handed - 1 }

abbrev pub wrote_one : Paces → Paces
wrote_one p = record p { parts = map one_less p.parts; works = drop 1 p.works }

-- the run is over
abbrev pub over_now : Paces → Paces
over_now p = record p { over = true }
