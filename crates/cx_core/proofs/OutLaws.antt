-- Each variable that an operation writes is one that the job names for the output.
use Rattle.std.proofs.Common.{◌≡◌, ℕ, zero, suc, ◌+◌, true, ◌||◌, List, [], ◌∷◌, ◌++◌, length, ap, ◌∙◌, subst, arith}
use Rattle.cx_plan.specs.declared.variable.VarId.{VarId}
use Rattle.cx_plan.specs.declared.item.ItemKind.{ItemKind}
use Rattle.cx_plan.specs.declared.item.ItemKind.TheVariants.{Cell, Scalar, Sum, Least, Greatest, Count}
use Rattle.cx_plan.specs.declared.tree.Tree.{Tree, Seq', Call, Sync, If', While', Row_of-Tree, end_of-Tree, more_of-Tree}
use Rattle.cx_plan.specs.Setups.{Setup}
use Rattle.cx_plan.specs.Lookups.{item, bin, STARTUP, WRAGH, PARAMCHECK, BASEGRID, INITIAL, POSTINITIAL, PRESTEP, EVOL, POSTSTEP, CHECKPOINT, ANALYSIS, TERMINATE, SHUTDOWN}
use Rattle.cx_plan.specs.Regions.{is_among, same_variable}
use Rattle.cx_flat.specs.declared.op.Op.{Op}
use Rattle.cx_flat.specs.declared.op.Op.TheVariants.{Sweep, Apply, Give, Join, Post, Take, Test, Open, Turn, Again, Rotate, Due, Written, Skip, Next, Piece, Save, Halt}
use Rattle.cx_flat.specs.Code.{item_code, sync_code, tree_code, row_code, bins_code, start_code, checkpoint_code, before_code, pieces_code, from_code, loop_code, end_code, code, op_at}

-- an operation that writes no other variable
abbrev IsOut : (VarId → Type 0) → Op → Type 0
IsOut P (Piece v) = P v
IsOut P (Sweep k) = Unit {0}
IsOut P (Apply k) = Unit {0}
IsOut P (Give k) = Unit {0}
IsOut P (Join k) = Unit {0}
IsOut P (Post d vars) = Unit {0}
IsOut P (Take d vars path) = Unit {0}
IsOut P (Test v path skip) = Unit {0}
IsOut P Open = Unit {0}
IsOut P (Turn v path skip) = Unit {0}
IsOut P (Again back) = Unit {0}
IsOut P Rotate = Unit {0}
IsOut P (Due skip) = Unit {0}
IsOut P (Written skip) = Unit {0}
IsOut P (Skip skip) = Unit {0}
IsOut P (Next back) = Unit {0}
IsOut P Save = Unit {0}
IsOut P Halt = Unit {0}

abbrev AllOut : (VarId → Type 0) → List Op → Type 0
AllOut P [] = Unit {0}
AllOut P (o ∷ os) = IsOut P o × AllOut P os

module _ (P : VarId → Type 0) where
  out_at : (ops : List Op) (pc : ℕ) → AllOut P ops → IsOut P (op_at ops pc)
  out_at [] pc h = tt
  out_at (o ∷ os) zero h = h.0
  out_at (o ∷ os) (suc pc) h = out_at os pc h.1

  out_both : (a b : List Op) → AllOut P a → AllOut P b → AllOut P (a ++ b)
  out_both [] b h k = k
  out_both (o ∷ os) b h k = (h.0, out_both os b h.1 k)

  out_item : (kind : ItemKind) (k : ℕ) → AllOut P (item_code kind k)
  out_item Cell k = (tt, tt)
  out_item Scalar k = (tt, tt)
  out_item Sum k = (tt, (tt, tt))
  out_item Least k = (tt, (tt, tt))
  out_item Greatest k = (tt, (tt, tt))
  out_item Count k = (tt, (tt, tt))

  out_sync : (vars : List VarId) (path : List ℕ) (d count : ℕ)
      → AllOut P (sync_code vars path d count)
  out_sync vars path d zero = tt
  out_sync vars path d (suc count) = (tt, (tt, out_sync vars path (suc d) count))

  mutual
    out_tree : (setup : Setup) (tree : Tree) → AllOut P (tree_code setup tree)
    out_tree setup (Seq' shape all) = out_row setup all
    out_tree setup (Call k) = out_item (item setup k).kind k
    out_tree setup (Sync vars path) = out_sync vars path 0 setup.shape.dims
    out_tree setup (If' v path shape one) = (tt, out_row setup one)
    out_tree setup (While' v path shape one) = (
      tt,
      (
        tt,
        out_both (row_code setup one) (Again (suc (length (row_code setup one))) ∷ [])
            (out_row setup one) (tt, tt),
      ),
    )

    out_row : {m : _} (setup : Setup) (row : Row_of-Tree m) → AllOut P (row_code setup row)
    out_row setup end_of-Tree = tt
    out_row setup (more_of-Tree tree rest) =
        out_both (tree_code setup tree) (row_code setup rest) (out_tree setup tree)
        (out_row setup rest)

  out_bins : (setup : Setup) (bs : List ℕ) → AllOut P (bins_code setup bs)
  out_bins setup [] = tt
  out_bins setup (b ∷ bs) =
      out_both (tree_code setup (bin setup b)) (bins_code setup bs) (out_tree setup (bin setup b))
      (out_bins setup bs)

  module _ (S : Setup) (pieces : AllOut P (pieces_code S.out_vars)) where
    out_checkpoint : AllOut P (checkpoint_code S)
    out_checkpoint = out_both (tree_code S (bin S CHECKPOINT)) (Save ∷ [])
        (out_tree S (bin S CHECKPOINT)) (tt, tt)

    out_before : AllOut P (before_code S)
    out_before = (
      tt,
      out_both (bins_code S (PRESTEP ∷ EVOL ∷ POSTSTEP ∷ []))
          (Due (suc (length (checkpoint_code S))) ∷ checkpoint_code S)
          (out_bins S (PRESTEP ∷ EVOL ∷ POSTSTEP ∷ [])) (tt, out_checkpoint),
    )

    out_from : AllOut P (from_code S)
    out_from =
        out_both (tree_code S (bin S ANALYSIS))
        (Written (suc (length S.out_vars)) ∷ pieces_code S.out_vars)
        (out_tree S (bin S ANALYSIS)) (tt, pieces)

    out_loop : AllOut P (loop_code S)
    out_loop =
        out_both (before_code S)
        (from_code S ++ Next (length (before_code S) + length (from_code S)) ∷ []) out_before
        (out_both (from_code S) (Next (length (before_code S) + length (from_code S)) ∷ []) out_from
        (tt, tt))

    out_end : AllOut P (end_code S)
    out_end = out_both (bins_code S (TERMINATE ∷ SHUTDOWN ∷ [])) (Halt ∷ [])
        (out_bins S (TERMINATE ∷ SHUTDOWN ∷ [])) (tt, tt)

    out_code : AllOut P (code S)
    out_code =
        out_both (start_code S) (Skip (suc (length (before_code S))) ∷ (loop_code S ++ end_code S))
        (out_bins S (STARTUP ∷ WRAGH ∷ PARAMCHECK ∷ BASEGRID ∷ INITIAL ∷ POSTINITIAL ∷ POSTSTEP
        ∷ []))
        (tt, out_both (loop_code S) (end_code S) out_loop out_end)

-- ---- the variables of the output

or_true : (b : _) → (b || true) ≡ true
or_true b = grind arith

among_first : (v : VarId) (vs : List VarId) → is_among v (v ∷ vs) ≡ true
among_first v vs = grind (arith)

among_later : (v w : VarId) (vs : List VarId) → is_among v vs ≡ true → is_among v (w ∷ vs) ≡ true
among_later v w vs h = ap (λ b. same_variable v w || b) h ∙ or_true (same_variable v w)

out_pieces : (all vs : List VarId) → ((v : VarId) → is_among v vs ≡ true → is_among v all ≡ true)
    → AllOut (λ v. is_among v all ≡ true) (pieces_code vs)
out_pieces all [] h = tt
out_pieces all (v ∷ vs) h =
    (h v (among_first v vs), out_pieces all vs (λ w q. h w (among_later w v vs q)))

pub outputs_among : (setup : Setup) (pc : ℕ) (v : VarId) → op_at (code setup) pc ≡ Piece v
    → is_among v setup.out_vars ≡ true
outputs_among setup pc v e =
    go (op_at (code setup) pc) e
    (out_at (λ u. is_among u setup.out_vars ≡ true) (code setup) pc
    (out_code (λ u. is_among u setup.out_vars ≡ true) setup
    (out_pieces setup.out_vars setup.out_vars (λ u q. q))))
  where
    go : (o : Op) → o ≡ Piece v → IsOut (λ u. is_among u setup.out_vars ≡ true) o
        → is_among v setup.out_vars ≡ true
    go o q h = subst (IsOut (λ u. is_among u setup.out_vars ≡ true)) q h
