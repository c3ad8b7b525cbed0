-- The first jump of a run leads to ANALYSIS.
use Rattle.std.proofs.Common.{◌≡◌, ℕ, zero, suc, ◌+◌, List, [], ◌∷◌, ◌++◌, length, refl, ap, ◌∙◌, arith, None}
use Rattle.cx_plan.specs.declared.variable.VarId.{VarId}
use Rattle.cx_plan.specs.declared.item.ItemKind.{ItemKind}
use Rattle.cx_plan.specs.declared.item.ItemKind.TheVariants.{Cell, Scalar, Sum, Least, Greatest, Count}
use Rattle.cx_plan.specs.declared.tree.Tree.{Tree, Seq', Call, Sync, If', While', Row_of-Tree, end_of-Tree, more_of-Tree}
use Rattle.cx_plan.specs.Setups.{Setup}
use Rattle.cx_plan.specs.Lookups.{item, bin, STARTUP, WRAGH, PARAMCHECK, BASEGRID, INITIAL, POSTINITIAL, POSTSTEP}
use Rattle.cx_flat.specs.declared.op.Op.{Op}
use Rattle.cx_flat.specs.declared.op.Op.TheVariants as op
use Rattle.cx_flat.specs.Code.{item_code, sync_code, tree_code, row_code, bins_code, start_code, before_code, loop_code, end_code, code, analysis_place}
use Rattle.cx_core_place.specs.Skips.{skipped, landing, landed}

-- no operation of a list always jumps
abbrev NoSkip : List Op → Type 0
NoSkip [] = Unit {0}
NoSkip (o ∷ os) = (skipped o ≡ None) × NoSkip os

none_both : (a b : List Op) → NoSkip a → NoSkip b → NoSkip (a ++ b)
none_both [] b h k = k
none_both (o ∷ os) b h k = (h.0, none_both os b h.1 k)

none_item : (kind : ItemKind) (k : ℕ) → NoSkip (item_code kind k)
none_item Cell k = (refl, tt)
none_item Scalar k = (refl, tt)
none_item Sum k = (refl, (refl, tt))
none_item Least k = (refl, (refl, tt))
none_item Greatest k = (refl, (refl, tt))
none_item Count k = (refl, (refl, tt))

none_sync : (vars : List VarId) (path : List ℕ) (d count : ℕ) → NoSkip (sync_code vars path d count)
none_sync vars path d zero = tt
none_sync vars path d (suc count) = (refl, (refl, none_sync vars path (suc d) count))

module _ (setup : Setup) where
  mutual
    none_tree : (tree : Tree) → NoSkip (tree_code setup tree)
    none_tree (Seq' shape all) = none_row all
    none_tree (Call k) = none_item (item setup k).kind k
    none_tree (Sync vars path) = none_sync vars path 0 setup.shape.dims
    none_tree (If' v path shape one) = (refl, none_row one)
    none_tree (While' v path shape one) = (
      refl,
      (
        refl,
        none_both (row_code setup one) (op.Again (suc (length (row_code setup one))) ∷ [])
            (none_row one) (refl, tt),
      ),
    )

    none_row : {m : _} → (row : Row_of-Tree m) → NoSkip (row_code setup row)
    none_row end_of-Tree = tt
    none_row (more_of-Tree tree rest) =
        none_both (tree_code setup tree) (row_code setup rest) (none_tree tree) (none_row rest)

  none_bins : (bs : List ℕ) → NoSkip (bins_code setup bs)
  none_bins [] = tt
  none_bins (b ∷ bs) = none_both (tree_code setup (bin setup b)) (bins_code setup bs)
      (none_tree (bin setup b)) (none_bins bs)

behind_none : (a rest : List Op) (count : ℕ) → NoSkip a
    → landed (a ++ op.Skip count ∷ rest) ≡ length a + count
behind_none [] rest count h = let e : count ≡ 0 + count = omega arith in e
behind_none (o ∷ os) rest count h =
    let e : suc (length os + count) ≡ suc (length os) + count = omega arith in
    ap (λ x. landing x (landed (os ++ op.Skip count ∷ rest))) h.0
    ∙ ap suc (behind_none os rest count h.1) ∙ e

pub lands : (setup : Setup) → landed (code setup) ≡ analysis_place setup
lands setup =
    behind_none (start_code setup) (loop_code setup ++ end_code setup)
    (suc (length (before_code setup)))
    (none_bins setup (STARTUP ∷ WRAGH ∷ PARAMCHECK ∷ BASEGRID ∷ INITIAL ∷ POSTINITIAL ∷ POSTSTEP
    ∷ []))
