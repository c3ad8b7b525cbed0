-- A run writes the variables that are to be written, and no others.
use Rattle.std.proofs.Common.{◌≡◌, ℕ, zero, suc, ◌+◌, ◌<◌, true, List, [], ◌∷◌, ◌++◌, length, arith, subst}
use Rattle.cx_plan.specs.declared.variable.VarId.{VarId}
use Rattle.cx_plan.specs.declared.item.ItemKind.{ItemKind}
use Rattle.cx_plan.specs.declared.item.ItemKind.TheVariants.{Cell, Scalar, Sum, Least, Greatest, Count}
use Rattle.cx_plan.specs.declared.tree.Tree.{Tree, Seq', Call, Sync, If', While', Row_of-Tree, end_of-Tree, more_of-Tree}
use Rattle.cx_plan.specs.Setups.{Setup}
use Rattle.cx_plan.specs.Lookups.{item, bin, STARTUP, WRAGH, PARAMCHECK, BASEGRID, INITIAL, POSTINITIAL, PRESTEP, EVOL, POSTSTEP, CHECKPOINT, ANALYSIS, TERMINATE, SHUTDOWN}
use Rattle.cx_plan.specs.Regions.{is_among}
use Rattle.cx_flat.specs.declared.op.Op.{Op}
use Rattle.cx_flat.specs.declared.op.Op.TheVariants.{Sweep, Apply, Give, Join, Post, Take, Test, Open, Turn, Again, Rotate, Due, Written, Skip, Next, Piece, Save, Halt}
use Rattle.cx_flat.specs.Code.{item_code, sync_code, tree_code, row_code, bins_code, start_code, checkpoint_code, before_code, pieces_code, from_code, loop_code, end_code, code, op_at}
use Rattle.law_parts.proofs.ListLaws.{at_var, at_among}

-- a piece of output is one of a variable that is written
abbrev pub WritesWell : Setup → Op → Type 0
WritesWell setup (Piece v) = is_among v setup.out_vars ≡ true
WritesWell setup (Sweep k) = Unit {0}
WritesWell setup (Apply k) = Unit {0}
WritesWell setup (Give k) = Unit {0}
WritesWell setup (Join k) = Unit {0}
WritesWell setup (Post d vars) = Unit {0}
WritesWell setup (Take d vars path) = Unit {0}
WritesWell setup (Test v path skip) = Unit {0}
WritesWell setup Open = Unit {0}
WritesWell setup (Turn v path skip) = Unit {0}
WritesWell setup (Again back) = Unit {0}
WritesWell setup Rotate = Unit {0}
WritesWell setup (Due skip) = Unit {0}
WritesWell setup (Written skip) = Unit {0}
WritesWell setup (Skip skip) = Unit {0}
WritesWell setup (Next back) = Unit {0}
WritesWell setup Save = Unit {0}
WritesWell setup Halt = Unit {0}

abbrev All : Setup → List Op → Type 0
All setup [] = Unit {0}
All setup (o ∷ os) = WritesWell setup o × All setup os

both : (setup : Setup) (a b : List Op) → All setup a → All setup b → All setup (a ++ b)
both setup [] b h k = k
both setup (o ∷ os) b h k = (h.0, both setup os b h.1 k)

at : (setup : Setup) (ops : List Op) (pc : ℕ) → All setup ops → WritesWell setup (op_at ops pc)
at setup [] pc h = tt
at setup (o ∷ os) zero h = h.0
at setup (o ∷ os) (suc pc) h = at setup os pc h.1

of_item : (setup : Setup) (kind : ItemKind) (k : ℕ) → All setup (item_code kind k)
of_item setup Cell k = (tt, tt)
of_item setup Scalar k = (tt, tt)
of_item setup Sum k = (tt, (tt, tt))
of_item setup Least k = (tt, (tt, tt))
of_item setup Greatest k = (tt, (tt, tt))
of_item setup Count k = (tt, (tt, tt))

of_sync : (setup : Setup) (vars : List VarId) (path : List ℕ) (d count : ℕ)
    → All setup (sync_code vars path d count)
of_sync setup vars path d zero = tt
of_sync setup vars path d (suc count) = (tt, (tt, of_sync setup vars path (suc d) count))

of_pieces : (setup : Setup) (vars : List VarId)
    → ((i : ℕ) → i < length vars → is_among (at_var vars i) setup.out_vars ≡ true)
    → All setup (pieces_code vars)
of_pieces setup [] h = tt
of_pieces setup (v ∷ vs) h =
    (h 0 (omega arith), of_pieces setup vs (λ i l. h (suc i) (omega (arith, l))))

module _ (S : Setup) where
  mutual
    of_tree : (tree : Tree) → All S (tree_code S tree)
    of_tree (Seq' shape all) = of_row all
    of_tree (Call k) = of_item S (item S k).kind k
    of_tree (Sync vars path) = of_sync S vars path 0 S.shape.dims
    of_tree (If' v path shape one) = (tt, of_row one)
    of_tree (While' v path shape one) = (
      tt,
      (
        tt,
        both S (row_code S one) (Again (suc (length (row_code S one))) ∷ []) (of_row one)
            (tt, tt),
      ),
    )

    of_row : {m : _} (row : Row_of-Tree m) → All S (row_code S row)
    of_row end_of-Tree = tt
    of_row (more_of-Tree tree rest) =
        both S (tree_code S tree) (row_code S rest) (of_tree tree) (of_row rest)

  of_bins : (bs : List ℕ) → All S (bins_code S bs)
  of_bins [] = tt
  of_bins (b ∷ bs) = both S (tree_code S (bin S b)) (bins_code S bs) (of_tree (bin S b))
      (of_bins bs)

  of_checkpoint : All S (checkpoint_code S)
  of_checkpoint = both S (tree_code S (bin S CHECKPOINT)) (Save ∷ []) (of_tree (bin S CHECKPOINT))
      (tt, tt)

  of_before : All S (before_code S)
  of_before = (
    tt,
    both S (bins_code S (PRESTEP ∷ EVOL ∷ POSTSTEP ∷ []))
        (Due (suc (length (checkpoint_code S))) ∷ checkpoint_code S)
        (of_bins (PRESTEP ∷ EVOL ∷ POSTSTEP ∷ [])) (tt, of_checkpoint),
  )

  of_from : All S (from_code S)
  of_from =
      both S (tree_code S (bin S ANALYSIS))
      (Written (suc (length S.out_vars)) ∷ pieces_code S.out_vars) (of_tree (bin S ANALYSIS))
      (tt, of_pieces S S.out_vars (at_among S.out_vars))

  of_loop : All S (loop_code S)
  of_loop =
      both S (before_code S) (from_code S ++ Next (length (before_code S) + length (from_code S))
      ∷ []) of_before
      (both S (from_code S) (Next (length (before_code S) + length (from_code S)) ∷ []) of_from
      (tt, tt))

  of_end : All S (end_code S)
  of_end = both S (bins_code S (TERMINATE ∷ SHUTDOWN ∷ [])) (Halt ∷ [])
      (of_bins (TERMINATE ∷ SHUTDOWN ∷ [])) (tt, tt)

  of_code : All S (code S)
  of_code =
      both S (start_code S) (Skip (suc (length (before_code S))) ∷ (loop_code S ++ end_code S))
      (of_bins (STARTUP ∷ WRAGH ∷ PARAMCHECK ∷ BASEGRID ∷ INITIAL ∷ POSTINITIAL ∷ POSTSTEP ∷ []))
      (tt, both S (loop_code S) (end_code S) of_loop of_end)

  -- each operation of a run
  pub op_writes : (pc : ℕ) → WritesWell S (op_at (code S) pc)
  op_writes pc = at S (code S) pc of_code

  pub piece_among : (pc : ℕ) (v : VarId) → op_at (code S) pc ≡ Piece v
      → is_among v S.out_vars ≡ true
  piece_among pc v e = subst (WritesWell S) e (op_writes pc)
