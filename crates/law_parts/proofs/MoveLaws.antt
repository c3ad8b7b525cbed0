-- Each operation of a part that agrees leaves a part that agrees, whatever its wires tell.
use Rattle.std.proofs.Common.{◌≡◌, ℕ, zero, suc, ◌<◌, true, List, None, Some, refl, sym, ap, ◌∙◌, subst, arith}
use Rattle.std.proofs.lemmas.List.Elements.{All-get_or}
use Rattle.cx_plan.specs.declared.job.Job.{Job}
use Rattle.cx_plan.specs.declared.variable.VarId.{VarId}
use Rattle.cx_plan.specs.Setups.{Setup, setup_of}
use Rattle.cx_plan.specs.Lookups.{item, no_item}
use Rattle.cx_plan.specs.Whole.{IsWhole, IsItem}
use Rattle.cx_flat.specs.declared.op.Op.{Op}
use Rattle.cx_flat.specs.declared.op.Op.TheVariants.{Sweep, Apply, Give, Join, Post, Take, Test, Open, Turn, Again, Rotate, Due, Written, Skip, Next, Piece, Save, Halt}
use Rattle.cx_flat.specs.Flats.{Control, begins_pair, ends_pair}
use Rattle.law_network.specs.Agreement.{takes}
use Rattle.law_parts.specs.Holding.{Held}
use Rattle.law_parts.specs.Runs.{Run, Oracle, parts_in, next_op, undivided, op_of, guided, given_before, last_of}
use Rattle.law_parts.specs.Moves.{Message, Channel, Board, receiver, given_number, Moves}
use Rattle.law_parts.specs.Operations.{NamesWell}
use Rattle.law_parts.specs.Truths.{truth, script, Stands}
use Rattle.law_parts.specs.Nets.{Nearness}
use Rattle.law_parts.proofs.GhostLaws.{has_ghosts}
use Rattle.law_parts.proofs.JoinMoves.{IsReduction, board_number, join_moves}
use Rattle.law_parts.proofs.Jumps.{ReadsScalar, is_jump, jump_moves}
use Rattle.law_parts.proofs.Places.{guided_op, Exchanges}
use Rattle.law_parts.proofs.Rotations.{rotate_moves}
use Rattle.law_parts.proofs.ScalarMoves.{IsScalarItem, apply_moves}
use Rattle.law_parts.proofs.SweepMoves.{sweep_moves}
use Rattle.law_parts.proofs.Sweeps.{IsCell}
use Rattle.law_parts.proofs.TakeLaws.{took, take_behind}
use Rattle.law_parts.proofs.TruthLaws.{guided_true}
use Rattle.law_parts.proofs.Ways.{scalars_at, pair_there}
use Rattle.law_parts.proofs.WholeRun.{IsRun, shape, law, lies, names, first_pair, next_pairs, true_states, way_states, all_folds, one_level}

-- where wires tell, what the oracle says is what the parts give
abbrev pub IsTrueOracle : Type 0 → Run → Oracle → Type 0
IsTrueOracle tells r oracle = tells → (k n : ℕ) → k < parts_in r → oracle k n ≡ truth r k n

abbrev pub MovesOn : (tells : Type 0) → Run → Oracle → Op → Type 0
MovesOn tells r oracle o =
    (k n : ℕ) (x y : Held) (mails : Channel → List (Message tells)) → k < parts_in r
    → n < last_of r oracle → guided_op r oracle n ≡ o → Stands tells r oracle k n x
    → ((c : Channel) → receiver c ≡ k → mails c ≡ takes (script tells r oracle) c n)
    → Moves tells r k x mails o (Some y) → Stands tells r oracle k (suc n) y

-- ---- items of a whole job

module _ (job : Job) (w : IsWhole job) where
  cell_of : (i : ℕ) → NamesWell (setup_of job) (Sweep i)
      → IsCell (setup_of job) (item (setup_of job) i)
  cell_of i h = record {
    kind = h.1;
    shape = h.0.1;
    reads = (All-get_or (IsItem job) job.items i no_item h.0.0 w.items).reads;
  }

  scalar_of_job : (i : ℕ) → NamesWell (setup_of job) (Apply i)
      → IsScalarItem (setup_of job) (item (setup_of job) i)
  scalar_of_job i h =
      let writes = (All-get_or (IsItem job) job.items i no_item h.0.0 w.items).writes in
      record {
        kind = h.1;
        shape = h.0.1;
        writes = λ k d l. let s = writes k d l in
            (s.0, omega (arith, s.1));
      }

  reduction_of : (i : ℕ) → NamesWell (setup_of job) (Join i)
      → IsReduction (setup_of job) (item (setup_of job) i)
  reduction_of i h =
      let writes = (All-get_or (IsItem job) job.items i no_item h.0.0 w.items).writes in
      record {
        kind = h.1;
        shape = h.0.1;
        writes = λ k d l. let s = writes k d l in
            (s.0, omega (arith, s.1));
      }

pub reads_scalar : (setup : Setup) (o : Op) → NamesWell setup o → ReadsScalar setup o
reads_scalar setup (Sweep k) h = tt
reads_scalar setup (Apply k) h = tt
reads_scalar setup (Give k) h = tt
reads_scalar setup (Join k) h = tt
reads_scalar setup (Post d vars) h = tt
reads_scalar setup (Take d vars path) h = tt
reads_scalar setup (Test v path skip) h = h
reads_scalar setup Open h = tt
reads_scalar setup (Turn v path skip) h = h
reads_scalar setup (Again back) h = tt
reads_scalar setup Rotate h = tt
reads_scalar setup (Due skip) h = tt
reads_scalar setup (Written skip) h = tt
reads_scalar setup (Skip skip) h = tt
reads_scalar setup (Next back) h = tt
reads_scalar setup (Piece v) h = tt
reads_scalar setup Save h = tt
reads_scalar setup Halt h = tt

module _ (r : Run) (run : IsRun r) where
  pub cell_at : (i : ℕ) (c : Control) → next_op r c ≡ Sweep i → IsCell r.setup (item r.setup i)
  cell_at i c e = subst (λ s. NamesWell s (Sweep i) → IsCell s (item s i)) (sym run.is)
      (cell_of run.job run.whole i) (names r run (Sweep i) c.pc e)

  pub scalar_at : (i : ℕ) (c : Control) → next_op r c ≡ Apply i
      → IsScalarItem r.setup (item r.setup i)
  scalar_at i c e = subst (λ s. NamesWell s (Apply i) → IsScalarItem s (item s i)) (sym run.is)
      (scalar_of_job run.job run.whole i) (names r run (Apply i) c.pc e)

  pub reduction_at : (i : ℕ) (c : Control) → next_op r c ≡ Join i
      → IsReduction r.setup (item r.setup i)
  reduction_at i c e = subst (λ s. NamesWell s (Join i) → IsReduction s (item s i)) (sym run.is)
      (reduction_of run.job run.whole i) (names r run (Join i) c.pc e)

-- ---- the run by an oracle

module _ (tells : Type 0) (r : Run) (run : IsRun r) (oracle : Oracle)
    (is_true : IsTrueOracle tells r oracle) where
  pub same : tells → (n : ℕ) → guided r oracle n ≡ undivided r n
  same t = guided_true r (all_folds r run) oracle (is_true t)

  pub op_same : (n : ℕ) (o : Op) → guided_op r oracle n ≡ o → tells → op_of r n ≡ o
  op_same n o e t = ap (λ g. next_op r g.control) (sym (same t n)) ∙ e

  pub quiet : (n : ℕ) (o : Op) → guided_op r oracle n ≡ o → begins_pair r.setup o ≡ None → tells
      → ends_pair (op_of r (suc n)) ≡ None
  quiet n o e h t = next_pairs r run n ∙ ap (begins_pair r.setup) (op_same n o e t) ∙ h

  pub exchanges : Exchanges tells r oracle
  exchanges = record {
    few = (shape r run).most;
    first = first_pair r run;
    pairs = λ t n l. ap (λ g. ends_pair (next_op r g.control)) (same t (suc n)) ∙ next_pairs r run n
        ∙ sym (ap (λ g. begins_pair r.setup (next_op r g.control)) (same t n));
    posts = λ n d vars e. names r run (Post d vars) (guided r oracle n).control.pc e;
    true_control = λ t n. ap (λ g. g.control) (same t n);
  }

  sweeps_on : (i : ℕ) → MovesOn tells r oracle (Sweep i)
  sweeps_on i k n x y mails part l here a mailed h =
      sweep_moves tells r oracle k n i x (lies r run k part) (shape r run)
      (cell_at r run i (guided r oracle n).control here) a here (λ t. same t n)
      (true_states r run n)
      (λ t. has_ghosts r run.met n i (op_same n (Sweep i) here t)) (quiet n (Sweep i) here refl)
      mails y h

  applies_on : (i : ℕ) → MovesOn tells r oracle (Apply i)
  applies_on i k n x y mails part l here a mailed h =
      apply_moves tells r oracle k n i x (scalar_at r run i (guided r oracle n).control here) a here
      (λ t. same t n) (way_states r run oracle n) (quiet n (Apply i) here refl) mails y h

  rotates_on : MovesOn tells r oracle Rotate
  rotates_on k n x y mails part l here a mailed h =
      rotate_moves tells r oracle k n x (lies r run k part) a here (λ t. same t n)
      (way_states r run oracle n) (one_level r run) (quiet n Rotate here refl) mails y h

  jumps_on : (o : Op) → is_jump o ≡ true → MovesOn tells r oracle o
  jumps_on o j k n x y mails part l here a mailed h =
      jump_moves tells r oracle k n x o j
      (reads_scalar r.setup o (names r run o (guided r oracle n).control.pc here)) a here
      (λ t. same t n) (λ t. next_pairs r run n) mails y h

  -- what is taken of the boards is what the oracle says of the place before
  pub boards : (k n i : ℕ) (mails : Channel → List (Message tells)) → k < parts_in r
      → guided_op r oracle n ≡ Join i
      → ((c : Channel) → receiver c ≡ k → mails c ≡ takes (script tells r oracle) c n)
      → (a : ℕ) → a < parts_in r → given_number (mails (Board a k)) ≡ given_before oracle n a
  boards k zero i mails part here mailed a l = ap given_number (mailed (Board a k) refl)
  boards k (suc m) i mails part here mailed a l =
      ap given_number (mailed (Board a k) refl)
      ∙ board_number tells r oracle k m i a part l
      (pair_there r oracle (run.ways (scalars_at r oracle)) m) here

  joins_on : (i : ℕ) → MovesOn tells r oracle (Join i)
  joins_on i k n x y mails part l here a mailed h =
      join_moves tells r oracle k n i x (reduction_at r run i (guided r oracle n).control here)
      a here (λ t. same t n) (way_states r run oracle n) (quiet n (Join i) here refl)
      mails (boards k n i mails part here mailed) y h

  takes_on : (Near : Nearness) (d : ℕ) (vars : List VarId) (path : List ℕ)
      → MovesOn tells r oracle (Take d vars path)
  takes_on Near d vars path k zero x y mails part l here a mailed h =
      absurd (take_behind tells r oracle exchanges d vars path here)
  takes_on Near d vars path k (suc m) x y mails part l here a mailed h =
      took tells Near r oracle (law r run)
      exchanges m l k part x y d vars path here mails mailed a h.0 h.1

  by_op : (Near : Nearness) (o : Op) → MovesOn tells r oracle o
  by_op Near (Sweep i) = sweeps_on i
  by_op Near (Apply i) = applies_on i
  by_op Near (Give i) = jumps_on (Give i) refl
  by_op Near (Join i) = joins_on i
  by_op Near (Post d vars) = jumps_on (Post d vars) refl
  by_op Near (Take d vars path) = takes_on Near d vars path
  by_op Near (Test v path skip) = jumps_on (Test v path skip) refl
  by_op Near Open = jumps_on Open refl
  by_op Near (Turn v path skip) = jumps_on (Turn v path skip) refl
  by_op Near (Again back) = jumps_on (Again back) refl
  by_op Near Rotate = rotates_on
  by_op Near (Due skip) = jumps_on (Due skip) refl
  by_op Near (Written skip) = jumps_on (Written skip) refl
  by_op Near (Skip skip) = jumps_on (Skip skip) refl
  by_op Near (Next back) = jumps_on (Next back) refl
  by_op Near (Piece v) = jumps_on (Piece v) refl
  by_op Near Save = jumps_on Save refl
  by_op Near Halt = jumps_on Halt refl

  pub moves_on : (Near : Nearness) (k n : ℕ) (x : Held) (mails : Channel → List (Message tells))
      → k < parts_in r → n < last_of r oracle → Stands tells r oracle k n x
      → ((c : Channel) → receiver c ≡ k → mails c ≡ takes (script tells r oracle) c n) → (y : Held)
      → Moves tells r k x mails (next_op r x.control) (Some y)
      → Stands tells r oracle k (suc n) y
  moves_on Near k n x mails part l a mailed y h =
      by_op Near (guided_op r oracle n) k n x y mails part l refl a mailed
      (subst (λ q. Moves tells r k x mails (next_op r q) (Some y)) a.control h)
