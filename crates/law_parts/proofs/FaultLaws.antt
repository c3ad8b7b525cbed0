-- Where wires tell, a part meets an end exactly where the undivided run says so, and the run's end
-- is the first of these.
use Rattle.std.proofs.Common.{◌≡◌, ℕ, ◌<◌, true, false, List, Option, Some, None, refl, sym, ap, ◌∙◌, subst, MatchOption}
use Rattle.cx_plan.specs.declared.variable.VarId.{VarId}
use Rattle.cx_plan.specs.Lookups.{item}
use Rattle.cx_rule.specs.States.{rotate}
use Rattle.cx_model.specs.Turns.{reduced, first_read}
use Rattle.cx_flat.specs.declared.op.Op.{Op}
use Rattle.cx_flat.specs.declared.op.Op.TheVariants.{Sweep, Apply, Give, Join, Post, Take, Test, Open, Turn, Again, Rotate, Due, Written, Skip, Next, Piece, Save, Halt}
use Rattle.law_network.specs.Machine.{IsWork}
use Rattle.law_network.specs.Agreement.{Ends, takes}
use Rattle.law_parts.specs.Holding.{Held}
use Rattle.law_parts.specs.Moves.{Message, Channel, receiver, buffer_of, Gives, Moves}
use Rattle.law_parts.specs.Nets.{Nearness, net}
use Rattle.law_parts.specs.Runs.{Run, Oracle, parts_in, next_op, undivided, op_of, guided, joined_at}
use Rattle.law_parts.specs.Truths.{truth, script, is_faulty, is_full, passes_limit, Stands, Agrees, Books}
use Rattle.law_parts.proofs.BookLaws.{burst_by}
use Rattle.law_parts.proofs.EndAssembly.{all_ends}
use Rattle.law_parts.proofs.FitLaws.{some_part}
use Rattle.law_parts.proofs.GhostLaws.{has_ghosts}
use Rattle.law_parts.proofs.JoinMoves.{join_faults}
use Rattle.law_parts.proofs.Jumps.{is_jump, jump_faults}
use Rattle.law_parts.proofs.MoveLaws.{IsTrueOracle, same, op_same, quiet, reads_scalar, cell_at, scalar_at, reduction_at, boards}
use Rattle.law_parts.proofs.Places.{guided_op}
use Rattle.law_parts.proofs.ScalarMoves.{apply_faults}
use Rattle.law_parts.proofs.SweepMoves.{sweep_faults}
use Rattle.law_parts.proofs.WayLaws.{joined_same}
use Rattle.law_parts.proofs.WholeRun.{IsRun, shape, lies, names, next_pairs, true_states, way_states, all_folds}

not_full : false ≡ true → ⊥
not_full e = absurd cc

module _ (tells : Type 0) (r : Run) (run : IsRun r) (oracle : Oracle)
    (is_true : IsTrueOracle tells r oracle) (t : tells) where
  abbrev Meets : ℕ → ℕ → Option Held → Type 0
  Meets k n o = MatchOption o (is_faulty r k (op_of r n) (undivided r n) ≡ true)
      (λ y. is_faulty r k (op_of r n) (undivided r n) ≡ false)

  abbrev FaultsOn : Op → Type 0
  FaultsOn o = (k n : ℕ) (x : Held) (mails : Channel → List (Message tells)) → k < parts_in r
      → guided_op r oracle n ≡ o → Stands tells r oracle k n x
      → ((c : Channel) → receiver c ≡ k → mails c ≡ takes (script tells r oracle) c n)
      → (out : Option Held) → Moves tells r k x mails o out → Meets k n out

  sweeps : (i : ℕ) → FaultsOn (Sweep i)
  sweeps i k n x mails part here a mailed out moved =
      sweep_faults tells r oracle k n i x (lies r run k part) (shape r run)
      (cell_at r run i (guided r oracle n).control here) a here
      (λ u. same tells r run oracle is_true u n) (true_states r run n)
      (λ u. has_ghosts r run.met n i (op_same tells r run oracle is_true n (Sweep i) here u))
      (quiet tells r run oracle is_true n (Sweep i) here refl) t mails out moved

  applies : (i : ℕ) → FaultsOn (Apply i)
  applies i k n x mails part here a mailed out moved =
      apply_faults tells r oracle k n i x (scalar_at r run i (guided r oracle n).control here)
      a here (λ u. same tells r run oracle is_true u n) (way_states r run oracle n)
      (quiet tells r run oracle is_true n (Apply i) here refl) t mails out moved

  number_joined : (i n : ℕ) → op_of r n ≡ Join i
      → joined_at r oracle i n
      ≡ reduced (item r.setup i).kind (first_read (undivided r n).state (item r.setup i).reads)
  number_joined i n e = joined_same r oracle (truth r) (is_true t) i n
      ∙ (all_folds r run).number n i e

  joins : (i : ℕ) → FaultsOn (Join i)
  joins i k n x mails part here a mailed out moved =
      join_faults tells r oracle k n i x (reduction_at r run i (guided r oracle n).control here)
      a here (λ u. same tells r run oracle is_true u n) (way_states r run oracle n)
      (quiet tells r run oracle is_true n (Join i) here refl) mails
      (boards tells r run oracle is_true k n i mails part here mailed)
      t (number_joined i n (op_same tells r run oracle is_true n (Join i) here t)) out moved

  jumps : (o : Op) → is_jump o ≡ true → FaultsOn o
  jumps o j k n x mails part here a mailed out moved =
      jump_faults tells r oracle k n x o j
      (reads_scalar r.setup o (names r run o (guided r oracle n).control.pc here)) a here
      (λ u. same tells r run oracle is_true u n) (λ u. next_pairs r run n) t mails out moved

  -- a rotation and a Take meet no end
  rotates : FaultsOn Rotate
  rotates k n x mails part here a mailed out moved =
      subst (λ o. MatchOption out (is_faulty r k o (undivided r n) ≡ true)
      (λ y. is_faulty r k o (undivided r n) ≡ false))
      (sym (op_same tells r run oracle is_true n Rotate here t)) (go out moved)
    where
      go : (o : Option Held) → Gives r Rotate x (Some (rotate x.numbers)) o
          → MatchOption o (false ≡ true) (λ y. false ≡ false)
      go None g = absurd g
      go (Some y) g = refl

  takes_all : (d : ℕ) (vars : List VarId) (path : List ℕ) → FaultsOn (Take d vars path)
  takes_all d vars path k n x mails part here a mailed None moved = absurd moved
  takes_all d vars path k n x mails part here a mailed (Some y) moved =
      ap (λ o. is_faulty r k o (undivided r n))
      (op_same tells r run oracle is_true n (Take d vars path) here t)

  by_op : (o : Op) → FaultsOn o
  by_op (Sweep i) = sweeps i
  by_op (Apply i) = applies i
  by_op (Give i) = jumps (Give i) refl
  by_op (Join i) = joins i
  by_op (Post d vars) = jumps (Post d vars) refl
  by_op (Take d vars path) = takes_all d vars path
  by_op (Test v path skip) = jumps (Test v path skip) refl
  by_op Open = jumps Open refl
  by_op (Turn v path skip) = jumps (Turn v path skip) refl
  by_op (Again back) = jumps (Again back) refl
  by_op Rotate = rotates
  by_op (Due skip) = jumps (Due skip) refl
  by_op (Written skip) = jumps (Written skip) refl
  by_op (Skip skip) = jumps (Skip skip) refl
  by_op (Next back) = jumps (Next back) refl
  by_op (Piece v) = jumps (Piece v) refl
  by_op Save = jumps Save refl
  by_op Halt = jumps Halt refl

  -- a text is a work
  full_work : (Near : Nearness) (n : ℕ) → is_full r n ≡ true → IsWork (net tells Near r oracle) n
  full_work Near n e = go (op_of r n) refl e
    where
      there : (o : Op) → op_of r n ≡ o → guided_op r oracle n ≡ o
      there o q = ap (λ g. next_op r g.control) (same tells r run oracle is_true t n) ∙ q

      go : (o : Op) → op_of r n ≡ o → passes_limit r n o ≡ true → IsWork (net tells Near r oracle) n
      go (Piece v) q h = (v.0, ap (buffer_of r) (there (Piece v) q))
      go (Sweep i) q h = absurd (not_full h)
      go (Apply i) q h = absurd (not_full h)
      go (Give i) q h = absurd (not_full h)
      go (Join i) q h = absurd (not_full h)
      go (Post d vars) q h = absurd (not_full h)
      go (Take d vars path) q h = absurd (not_full h)
      go (Test v path skip) q h = absurd (not_full h)
      go Open q h = absurd (not_full h)
      go (Turn v path skip) q h = absurd (not_full h)
      go (Again back) q h = absurd (not_full h)
      go Rotate q h = absurd (not_full h)
      go (Due skip) q h = absurd (not_full h)
      go (Written skip) q h = absurd (not_full h)
      go (Skip skip) q h = absurd (not_full h)
      go (Next back) q h = absurd (not_full h)
      go Save q h = absurd (not_full h)
      go Halt q h = absurd (not_full h)

  pub told_ends : (Near : Nearness)
      → Ends (net tells Near r oracle) (script tells r oracle) (Agrees tells r oracle)
      (Books tells r)
  told_ends Near = all_ends tells Near r oracle (record {
    faults = λ k n x mails part l a mailed out moved.
        by_op (guided_op r oracle n) k n x mails part refl a.stands mailed out
        (subst (λ q. Moves tells r k x mails (next_op r q) out) a.stands.control moved);
    bursts = λ n b pieces work l old given out w.
        subst (λ o. MatchOption out (passes_limit r n o ≡ true) (λ c. passes_limit r n o ≡ false))
        (sym (op_same tells r run oracle is_true n (guided_op r oracle n) refl t))
        (burst_by tells r run oracle is_true (some_part r run) n t pieces given
        (guided_op r oracle n) refl work.0 b out work.1 (old t) w);
    full_work = λ n e before. full_work Near n e;
  })
