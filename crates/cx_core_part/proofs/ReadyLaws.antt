-- Where a part can go on with a Take, what its neighbours posted is there.
use Rattle.std.proofs.Common.{◌≡◌, ℕ, zero, suc, ◌<◌, true, false, cond, refl, sym, ap, ◌∙◌, subst, arith, ℤ, List, []}
use Rattle.cx_grid.specs.declared.shapes.Side.{Side}
use Rattle.cx_grid.specs.Grid.{HasInterior}
use Rattle.cx_plan.specs.declared.job.Job.{Job}
use Rattle.cx_plan.specs.declared.variable.VarId.{VarId}
use Rattle.cx_plan.specs.Regions.{HasShapes}
use Rattle.cx_plan.specs.Setups.{setup_of}
use Rattle.cx_plan.specs.Whole.{IsWhole}
use Rattle.cx_rule.specs.Routine.{Rule}
use Rattle.cx_model.specs.Runs.{Lengths}
use Rattle.cx_model.specs.Turns.{values_of}
use Rattle.cx_cut.specs.Cuts.{IsCut}
use Rattle.cx_cut.specs.Faults.{parts_of}
use Rattle.law_network.specs.Machine.{World, CanMove, taken_now}
use Rattle.law_network.specs.Agreement.{takes}
use Rattle.law_network.proofs.Steps.{found}
use Rattle.cx_flat.specs.declared.op.Op.{Op}
use Rattle.cx_flat.specs.declared.op.Op.TheVariants.{Sweep, Apply, Give, Join, Post, Take, Test, Open, Turn, Again, Rotate, Due, Written, Skip, Next, Piece, Save, Halt}
use Rattle.cx_flat.specs.Laws.{FlatIsRun}
use Rattle.cx_flat.specs.Places.{OperationsMet}
use Rattle.cx_flat.specs.Ways.{Paired, is_receiving, WaysEnd}
use Rattle.law_parts.specs.Beginnings.{Beginning, Afresh, From, IsBeginning, run_of}
use Rattle.law_parts.specs.Holding.{Held}
use Rattle.law_parts.specs.Laws.{IsReachedState}
use Rattle.law_parts.specs.Runs.{Run, Oracle, cut_of, parts_in, next_op, undivided}
use Rattle.law_parts.specs.Moves.{Message, Channel, Wire, op_posts, posted_faces, faces_by}
use Rattle.law_parts.specs.Nets.{net, within_lead}
use Rattle.law_parts.specs.Truths.{script, Agrees, GivesAt, Books}
use Rattle.law_parts.proofs.FitLaws.{lead_fits}
use Rattle.law_parts.proofs.PairLaws.{are_there}
use Rattle.law_parts.proofs.Ways.{scalars_at, op_there, pair_there, first_quiet}
use Rattle.law_parts.proofs.WholeRun.{IsRun, job_run, shape, law, names}
use Rattle.cx_core_part.specs.Laws.{TakesAreThere}
use Rattle.cx_core_part.proofs.WorldLaws.{begins_taken}

-- what a Take ends
abbrev posted_of : Op → Op
posted_of (Take d vars path) = Post d vars
posted_of _ = Halt

-- behind a Post alone stands a Take, of the same direction and variables
behind_post : (o : Op) (d : ℕ) (vars : List VarId) (path : List ℕ) → Paired o (Take d vars path)
    → o ≡ Post d vars
behind_post (Post e us) d vars path h = sym (ap posted_of h.1)
behind_post (Give i) d vars path h = absurd cc
behind_post (Sweep i) d vars path h = absurd cc
behind_post (Apply i) d vars path h = absurd cc
behind_post (Join i) d vars path h = absurd cc
behind_post (Take e us other) d vars path h = absurd cc
behind_post (Test v other skip) d vars path h = absurd cc
behind_post Open d vars path h = absurd cc
behind_post (Turn v other skip) d vars path h = absurd cc
behind_post (Again back) d vars path h = absurd cc
behind_post Rotate d vars path h = absurd cc
behind_post (Due skip) d vars path h = absurd cc
behind_post (Written skip) d vars path h = absurd cc
behind_post (Skip skip) d vars path h = absurd cc
behind_post (Next back) d vars path h = absurd cc
behind_post (Piece v) d vars path h = absurd cc
behind_post Save d vars path h = absurd cc
behind_post Halt d vars path h = absurd cc

module _ (tells : Type 0) (r : Run) (run : IsRun r) (oracle : Oracle)
    (w : World Held (Message tells) Channel Lengths) (is : IsReachedState tells r oracle w)
    (k : ℕ) (can : CanMove (net tells within_lead r oracle) w k) (d : ℕ) (vars : List VarId)
    (path : List ℕ) (here : next_op r (w.held k).control ≡ Take d vars path) where
  found_there : (a : ℕ) → taken_now (net tells within_lead r oracle) w k (Wire a k)
      ≡ takes (script tells r oracle) (Wire a k) (w.place k)
  found_there a =
      (found (net tells within_lead r oracle) (script tells r oracle) (Agrees tells r oracle)
      (GivesAt r oracle) (Books tells r)
      (lead_fits tells r run oracle is.oracle_is.told is.oracle_is.first) w is.woven k can
      (Wire a k) refl).0

  on_way : op_there r oracle (w.place k) ≡ Take d vars path
  on_way = ap (next_op r) (sym (is.woven.agrees k can.part).stands.control) ∙ here

  -- what a part posted is what is taken of it
  faces_taken : (a : ℕ) → a < parts_in r
      → (n : ℕ) × (values : Side → tells → List ℤ)
      × (taken_now (net tells within_lead r oracle) w k (Wire a k)
      ≡ posted_faces r n a values d vars k)
  faces_taken a la = go (w.place k) refl
    where
      go : (p : ℕ) → w.place k ≡ p
          → (n : ℕ) × (values : Side → tells → List ℤ)
          × (taken_now (net tells within_lead r oracle) w k (Wire a k)
          ≡ posted_faces r n a values d vars k)
      go zero e =
          let quiet : is_receiving (op_there r oracle 0) ≡ false =
          first_quiet r oracle (run.ways (scalars_at r oracle)) in
          let takes_first : is_receiving (op_there r oracle 0) ≡ true =
          ap (λ p. is_receiving (op_there r oracle p)) (sym e) ∙ ap is_receiving on_way in
          absurd cc
      go (suc m) e =
          let next : op_there r oracle (suc m) ≡ Take d vars path =
          ap (op_there r oracle) (sym e) ∙ on_way in
          let pair : Paired (op_there r oracle m) (Take d vars path) =
          subst (Paired (op_there r oracle m)) next
          (pair_there r oracle (run.ways (scalars_at r oracle)) m) in
          let before = behind_post (op_there r oracle m) d vars path pair in
          let faces = faces_by {tells = tells} r a (values_of r.setup (undivided r m).state) in (
            m,
            faces d vars,
            found_there a
                ∙ ap (takes (script tells r oracle) (Wire a k)) e
                ∙ ap (λ t. cond t (op_posts r (op_there r oracle m) m faces (λ i. oracle a m)
                (Wire a k)) []) (are_there r (Wire a k) la can.part)
                ∙ ap (λ o. op_posts r o m faces (λ i. oracle a m) (Wire a k)) before,
          )

  few : d < 3
  few =
      let direction = (names r run (Take d vars path) (w.held k).control.pc here).direction in
      let most = (shape r run).most in
      omega (arith, direction, most)

pub takes_begin : (tells : Type 0) (r : Run) → IsRun r → TakesAreThere tells r
takes_begin tells r run oracle w k d vars path is can here q shown a la =
    let faces = faces_taken tells r run oracle w is k can d vars path here a la in
    begins_taken tells within_lead r oracle k (w.held k) w.queue q shown (law r run)
    d vars path here (few tells r run oracle w is k can d vars path here) can.part a la
    faces.0 faces.1 faces.2

-- of a job
module _ (job : Job) (whole : IsWhole job) (shapes : HasShapes (setup_of job))
    (interior : HasInterior job.shape) (cut : IsCut (parts_of job.shape job.cut))
    (flat : (rules : List Rule) → FlatIsRun (setup_of job) rules) (ways : WaysEnd (setup_of job))
    (met : (rules : List Rule) → OperationsMet (setup_of job) rules)
    (rules : List Rule) (b : Beginning) (begins : IsBeginning (setup_of job) b) where
  cut_is : (b : Beginning) → IsCut (cut_of (run_of job rules b))
  cut_is Afresh = cut
  cut_is (From c state so_far) = cut

  pub job_takes : (tells : Type 0) → TakesAreThere tells (run_of job rules b)
  job_takes tells = takes_begin tells (run_of job rules b)
      (job_run job rules b whole shapes interior begins (cut_is b) (flat rules) ways (met rules))
