-- The operations of a whole job name what is there.
use Rattle.std.proofs.Common.{◌≡◌, ℕ, zero, suc, ◌+◌, ◌<◌, ◌≤◌, true, false, List, [], ◌∷◌, ◌++◌, length, arith, refl, ap, subst}
use Rattle.std.specs.Prelude.{slice_index_or}
use Rattle.std.specs.List.{flat_map}
use Rattle.std.proofs.lemmas.List.Elements.{All-get_or}
use Rattle.cx_plan.specs.declared.variable.VarId.{VarId}
use Rattle.cx_plan.specs.declared.job.Job.{Job}
use Rattle.cx_plan.specs.declared.item.ItemKind.{ItemKind}
use Rattle.cx_plan.specs.declared.item.ItemKind.TheVariants.{Cell, Scalar, Sum, Least, Greatest, Count}
use Rattle.cx_plan.specs.declared.tree.Tree.{Tree, Seq, Seq', Call, Sync, If', While', Row_of-Tree, end_of-Tree, more_of-Tree}
use Rattle.cx_plan.specs.Setups.{Setup, setup_of}
use Rattle.cx_plan.specs.Lookups.{item, bin, called, called_in, is_scalar, STARTUP, WRAGH, PARAMCHECK, BASEGRID, INITIAL, POSTINITIAL, PRESTEP, EVOL, POSTSTEP, CHECKPOINT, ANALYSIS, TERMINATE, SHUTDOWN}
use Rattle.cx_plan.specs.Regions.{has_shape, run_items, HasShapes}
use Rattle.cx_plan.specs.Whole.{IsWhole, IsTree, IsRow, IsStored, IsStoredGrid}
use Rattle.cx_flat.specs.declared.op.Op.{Op}
use Rattle.cx_flat.specs.declared.op.Op.TheVariants.{Again, Due, Written, Skip, Next, Save, Halt}
use Rattle.cx_flat.specs.Code.{item_code, sync_code, tree_code, row_code, bins_code, start_code, checkpoint_code, before_code, pieces_code, from_code, loop_code, end_code, code, op_at}
use Rattle.law_parts.specs.Operations.{is_reduction, IsRunItem, IsCurrent, IsExchange, NamesWell, AllNameWell}
use Rattle.cx_rule.specs.Faces.{variable_at}

well_both : (setup : Setup) (a b : List Op) → AllNameWell setup a → AllNameWell setup b
    → AllNameWell setup (a ++ b)
well_both setup [] b h k = k
well_both setup (o ∷ os) b h k = (h.0, well_both setup os b h.1 k)

pub well_at : (setup : Setup) (ops : List Op) (pc : ℕ) → AllNameWell setup ops
    → NamesWell setup (op_at ops pc)
well_at setup [] pc h = tt
well_at setup (o ∷ os) zero h = h.0
well_at setup (o ∷ os) (suc pc) h = well_at setup os pc h.1

well_item : (setup : Setup) (kind : ItemKind) (k : ℕ) → (item setup k).kind ≡ kind
    → IsRunItem setup k → AllNameWell setup (item_code kind k)
well_item setup Cell k e h = ((h, e), tt)
well_item setup Scalar k e h = ((h, e), tt)
well_item setup Sum k e h = ((h, ap is_reduction e), ((h, ap is_reduction e), tt))
well_item setup Least k e h = ((h, ap is_reduction e), ((h, ap is_reduction e), tt))
well_item setup Greatest k e h = ((h, ap is_reduction e), ((h, ap is_reduction e), tt))
well_item setup Count k e h = ((h, ap is_reduction e), ((h, ap is_reduction e), tt))

-- items that are called have their shapes
abbrev Shaped : Setup → List ℕ → Type 0
Shaped setup [] = Unit {0}
Shaped setup (k ∷ ks) = (has_shape setup (item setup k) ≡ true) × Shaped setup ks

shaped_from : (setup : Setup) (ks : List ℕ)
    → ((i : ℕ) → i < length ks → has_shape setup (item setup (slice_index_or ks i 0)) ≡ true)
    → Shaped setup ks
shaped_from setup [] h = tt
shaped_from setup (k ∷ ks) h =
    (h 0 (omega arith), shaped_from setup ks (λ i l. h (suc i) (omega (arith, l))))

shaped_left : (setup : Setup) (a b : List ℕ) → Shaped setup (a ++ b) → Shaped setup a
shaped_left setup [] b h = tt
shaped_left setup (k ∷ ks) b h = (h.0, shaped_left setup ks b h.1)

shaped_right : (setup : Setup) (a b : List ℕ) → Shaped setup (a ++ b) → Shaped setup b
shaped_right setup [] b h = h
shaped_right setup (k ∷ ks) b h = shaped_right setup ks b h.1

shaped_bin : (setup : Setup) (bs : List ℕ) → Shaped setup (flat_map (λ b. called (bin setup b)) bs)
    → (j : ℕ) → j < length bs → Shaped setup (called (bin setup (slice_index_or bs j 0)))
shaped_bin setup [] h j l = absurd (omega (arith, l))
shaped_bin setup (b ∷ bs) h zero l =
    shaped_left setup (called (bin setup b)) (flat_map (λ c. called (bin setup c)) bs) h
shaped_bin setup (b ∷ bs) h (suc j) l =
    shaped_bin setup bs (shaped_right setup (called (bin setup b))
    (flat_map (λ c. called (bin setup c)) bs) h) j (omega (arith, l))

well_sync : (setup : Setup) (vars : List VarId) (path : List ℕ) (d count : ℕ)
    → d + count ≤ setup.shape.dims
    → ((i : ℕ) → i < length vars
    → IsCurrent setup (variable_at vars i) × (is_scalar setup (variable_at vars i) ≡ false))
    → AllNameWell setup (sync_code vars path d count)
well_sync setup vars path d zero l h = tt
well_sync setup vars path d (suc count) l h =
    let e : IsExchange setup d vars =
    record { direction = omega (arith, l); current = λ i m. (h i m).0; grid = λ i m. (h i m).1 }
    in
    (e, (e, well_sync setup vars path (suc d) count (omega (arith, l)) h))

well_pieces : (setup : Setup) (vars : List VarId)
    → ((i : ℕ) → i < length vars → IsCurrent setup (variable_at vars i))
    → AllNameWell setup (pieces_code vars)
well_pieces setup [] h = tt
well_pieces setup (v ∷ vs) h =
    (h 0 (omega arith), well_pieces setup vs (λ i l. h (suc i) (omega (arith, l))))

module _ (job : Job) where
  abbrev S : Setup
  S = setup_of job

  mutual
    well_tree : (tree : Tree) → IsTree job tree → Shaped S (called tree)
        → AllNameWell S (tree_code S tree)
    well_tree (Seq' shape all) h q = well_row all h q
    well_tree (Call k) h q = well_item S (item S k).kind k refl (h, q.0)
    well_tree (Sync vars path) h q =
        well_sync S vars path 0 S.shape.dims (omega arith)
        (λ i l. All-get_or (IsStoredGrid job) vars i (record { 0 = 0 }) l h.0)
    well_tree (If' v path shape one) h q = (h.0.1, well_row one h.1 q)
    well_tree (While' v path shape one) h q = (
      tt,
      (
        h.0.1,
        well_both S (row_code S one) (Again (suc (length (row_code S one))) ∷ [])
            (well_row one h.1 q) (tt, tt),
      ),
    )

    well_row : {m : _} (row : Row_of-Tree m) → IsRow job row → Shaped S (called_in row)
        → AllNameWell S (row_code S row)
    well_row end_of-Tree h q = tt
    well_row (more_of-Tree tree rest) h q =
        well_both S (tree_code S tree) (row_code S rest)
        (well_tree tree h.0 (shaped_left S (called tree) (called_in rest) q))
        (well_row rest h.1 (shaped_right S (called tree) (called_in rest) q))

  module _ (w : IsWhole job) (shapes : HasShapes S) where
    all_shaped : Shaped S (run_items S)
    all_shaped = shaped_from S (run_items S)
        (λ i l. All-get_or (λ k. has_shape S (item S k) ≡ true) (run_items S) i 0 l shapes)

    well_bin : (b : ℕ) → b < 13 → AllNameWell S (tree_code S (bin S b))
    well_bin b h = well_tree (slice_index_or job.plan.bins b (Seq []))
        (All-get_or (IsTree job) job.plan.bins b (Seq [])
        (let all = w.bins in omega (arith, all, h)) w.trees) (shaped b h)
      where
        numbers : (b : ℕ) → b < 13
            → slice_index_or (0 ∷ 1 ∷ 2 ∷ 3 ∷ 4 ∷ 5 ∷ 6 ∷ 7 ∷ 8 ∷ 9 ∷ 10 ∷ 11 ∷ 12 ∷ []) b 0 ≡ b
        numbers zero h = refl
        numbers (suc zero) h = refl
        numbers (suc (suc zero)) h = refl
        numbers (suc (suc (suc zero))) h = refl
        numbers (suc (suc (suc (suc zero)))) h = refl
        numbers (suc (suc (suc (suc (suc zero))))) h = refl
        numbers (suc (suc (suc (suc (suc (suc zero)))))) h = refl
        numbers (suc (suc (suc (suc (suc (suc (suc zero))))))) h = refl
        numbers (suc (suc (suc (suc (suc (suc (suc (suc zero)))))))) h = refl
        numbers (suc (suc (suc (suc (suc (suc (suc (suc (suc zero))))))))) h = refl
        numbers (suc (suc (suc (suc (suc (suc (suc (suc (suc (suc zero)))))))))) h = refl
        numbers (suc (suc (suc (suc (suc (suc (suc (suc (suc (suc (suc zero))))))))))) h = refl
        numbers (suc (suc (suc (suc (suc (suc (suc (suc (suc (suc (suc (suc zero)))))))))))) h =
            refl
        numbers (suc (suc (suc (suc (suc (suc (suc (suc (suc (suc (suc (suc (suc b))))))))))))) h =
            absurd (omega (arith, h))

        shaped : (b : ℕ) → b < 13 → Shaped S (called (bin S b))
        shaped b h = subst (λ j. Shaped S (called (bin S j))) (numbers b h)
            (shaped_bin S (0 ∷ 1 ∷ 2 ∷ 3 ∷ 4 ∷ 5 ∷ 6 ∷ 7 ∷ 8 ∷ 9 ∷ 10 ∷ 11 ∷ 12 ∷ [])
            all_shaped b h)

    abbrev AreBins : List ℕ → Type 0
    AreBins [] = Unit {0}
    AreBins (b ∷ bs) = (b < 13) × AreBins bs

    well_bins : (bs : List ℕ) → AreBins bs → AllNameWell S (bins_code S bs)
    well_bins [] h = tt
    well_bins (b ∷ bs) h = well_both S (tree_code S (bin S b)) (bins_code S bs) (well_bin b h.0)
        (well_bins bs h.1)

    well_checkpoint : AllNameWell S (checkpoint_code S)
    well_checkpoint = well_both S (tree_code S (bin S CHECKPOINT)) (Save ∷ [])
        (well_bin CHECKPOINT (omega arith)) (tt, tt)

    well_before : AllNameWell S (before_code S)
    well_before = (
      tt,
      well_both S (bins_code S (PRESTEP ∷ EVOL ∷ POSTSTEP ∷ []))
          (Due (suc (length (checkpoint_code S))) ∷ checkpoint_code S)
          (well_bins (PRESTEP ∷ EVOL ∷ POSTSTEP ∷ [])
          (omega arith, (omega arith, (omega arith, tt))))
          (tt, well_checkpoint),
    )

    well_from : AllNameWell S (from_code S)
    well_from = well_both S (tree_code S (bin S ANALYSIS))
        (Written (suc (length S.out_vars)) ∷ pieces_code S.out_vars)
        (well_bin ANALYSIS (omega arith)) (
          tt,
          well_pieces S S.out_vars
              (λ i l. All-get_or (λ v. IsStored job v 0) job.out_vars i (record { 0 = 0 })
              l w.outputs),
        )

    well_loop : AllNameWell S (loop_code S)
    well_loop = well_both S (before_code S)
        (from_code S ++ Next (length (before_code S) + length (from_code S)) ∷ []) well_before
        (well_both S (from_code S) (Next (length (before_code S) + length (from_code S)) ∷ [])
        well_from (tt, tt))

    well_end : AllNameWell S (end_code S)
    well_end = well_both S (bins_code S (TERMINATE ∷ SHUTDOWN ∷ [])) (Halt ∷ [])
        (well_bins (TERMINATE ∷ SHUTDOWN ∷ []) (omega arith, (omega arith, tt))) (tt, tt)

    -- each operation of a whole job's run
    pub well_code : AllNameWell S (code S)
    well_code = well_both S (start_code S)
        (Skip (suc (length (before_code S))) ∷ (loop_code S ++ end_code S))
        (well_bins (STARTUP ∷ WRAGH ∷ PARAMCHECK ∷ BASEGRID ∷ INITIAL ∷ POSTINITIAL ∷ POSTSTEP ∷ []) (
          omega arith,
          (
            omega arith,
            (omega arith, (omega arith, (omega arith, (omega arith, (omega arith, tt))))),
          ),
        ))
        (tt, well_both S (loop_code S) (end_code S) well_loop well_end)

    pub op_well : (pc : ℕ) → NamesWell S (op_at (code S) pc)
    op_well pc = well_at S (code S) pc well_code
