-- The operations of a whole job name items that are run, different variables, and stored ones.
use Rattle.std.proofs.Common.{◌≡◌, ℕ, zero, suc, ◌+◌, ◌<◌, List, [], ◌∷◌, ◌++◌, length, get_or, arith, refl, sym, subst}
use Rattle.std.specs.Prelude.{slice_index_or, Contains}
use Rattle.std.specs.List.{flat_map}
use Rattle.std.proofs.lemmas.List.Elements.{All-get_or, Contains-append_left, Contains-append_right}
use Rattle.cx_plan.specs.declared.variable.VarId.{VarId}
use Rattle.cx_plan.specs.declared.job.Job.{Job}
use Rattle.cx_plan.specs.declared.item.ItemKind.{ItemKind}
use Rattle.cx_plan.specs.declared.item.ItemKind.TheVariants.{Cell, Scalar, Sum, Least, Greatest, Count}
use Rattle.cx_plan.specs.declared.tree.Tree.{Tree, Seq, Seq', Call, Sync, If', While', Row_of-Tree, end_of-Tree, more_of-Tree}
use Rattle.cx_plan.specs.Setups.{Setup, setup_of}
use Rattle.cx_plan.specs.Lookups.{item, bin, called, called_in, run_bins, STARTUP, WRAGH, PARAMCHECK, BASEGRID, INITIAL, POSTINITIAL, PRESTEP, EVOL, POSTSTEP, CHECKPOINT, ANALYSIS, TERMINATE, SHUTDOWN}
use Rattle.cx_plan.specs.Regions.{run_items}
use Rattle.cx_plan.specs.Whole.{IsWhole, IsTree, IsRow, IsStored}
use Rattle.cx_flat.specs.declared.op.Op.{Op}
use Rattle.cx_flat.specs.declared.op.Op.TheVariants.{Again, Due, Written, Skip, Next, Save, Halt}
use Rattle.cx_flat.specs.Code.{item_code, sync_code, tree_code, row_code, bins_code, start_code, checkpoint_code, before_code, pieces_code, from_code, loop_code, end_code, code, op_at}
use Rattle.cx_core_part.proofs.Known.{AreDifferent, IsKnown, AllKnown}

known_at : (job : Job) (ops : List Op) (pc : ℕ) → AllKnown job ops → IsKnown job (op_at ops pc)
known_at job [] pc h = tt
known_at job (o ∷ os) zero h = h.0
known_at job (o ∷ os) (suc pc) h = known_at job os pc h.1

known_both : (job : Job) (a b : List Op) → AllKnown job a → AllKnown job b → AllKnown job (a ++ b)
known_both job [] b h k = k
known_both job (o ∷ os) b h k = (h.0, known_both job os b h.1 k)

known_item : (job : Job) (kind : ItemKind) (k : ℕ) → Contains (run_items (setup_of job)) k
    → AllKnown job (item_code kind k)
known_item job Cell k h = (h, tt)
known_item job Scalar k h = (h, tt)
known_item job Sum k h = (h, (h, tt))
known_item job Least k h = (h, (h, tt))
known_item job Greatest k h = (h, (h, tt))
known_item job Count k h = (h, (h, tt))

known_sync : (job : Job) (vars : List VarId) (path : List ℕ) (d count : ℕ) → AreDifferent vars
    → AllKnown job (sync_code vars path d count)
known_sync job vars path d zero h = tt
known_sync job vars path d (suc count) h = (h, (h, known_sync job vars path (suc d) count h))

known_pieces : (job : Job) (vars : List VarId)
    → ((i : ℕ) → i < length vars → IsStored job (slice_index_or vars i (record { 0 = 0 })) 0)
    → AllKnown job (pieces_code vars)
known_pieces job [] h = tt
known_pieces job (v ∷ vs) h =
    (h 0 (omega arith), known_pieces job vs (λ i l. h (suc i) (omega (arith, l))))

-- a bin's items are among those of all bins
among_bins : (f : ℕ → List ℕ) (bs : List ℕ) (j k : ℕ) → j < length bs
    → Contains (f (get_or bs j 0)) k → Contains (flat_map f bs) k
among_bins f [] j k l h = absurd (omega (arith, l))
among_bins f (b ∷ bs) zero k l h = Contains-append_left (f b) (flat_map f bs) k h
among_bins f (b ∷ bs) (suc j) k l h =
    Contains-append_right (f b) (flat_map f bs) k (among_bins f bs j k (omega (arith, l)) h)

module _ (job : Job) where
  abbrev S : Setup
  S = setup_of job

  -- each item that is called is one that is run
  abbrev AreRun : List ℕ → Type 0
  AreRun ks = (k : ℕ) → Contains ks k → Contains (run_items S) k

  mutual
    known_tree : (tree : Tree) → IsTree job tree → AreRun (called tree)
        → AllKnown job (tree_code S tree)
    known_tree (Seq' shape all) h q = known_row all h q
    known_tree (Call k) h q = known_item job (item S k).kind k (q k (0, omega arith, refl))
    known_tree (Sync vars path) h q = known_sync job vars path 0 S.shape.dims h.1
    known_tree (If' v path shape one) h q = (h.0.0, known_row one h.1 q)
    known_tree (While' v path shape one) h q = (
      tt,
      (
        h.0.0,
        known_both job (row_code S one) (Again (suc (length (row_code S one))) ∷ [])
            (known_row one h.1 q) (tt, tt),
      ),
    )

    known_row : {m : _} (row : Row_of-Tree m) → IsRow job row → AreRun (called_in row)
        → AllKnown job (row_code S row)
    known_row end_of-Tree h q = tt
    known_row (more_of-Tree tree rest) h q =
        known_both job (tree_code S tree) (row_code S rest)
        (known_tree tree h.0 (λ k c. q k (Contains-append_left (called tree) (called_in rest) k c)))
        (known_row rest h.1 (λ k c. q k (Contains-append_right (called tree) (called_in rest) k c)))

  module _ (w : IsWhole job) where
    known_bin : (b : ℕ) → b < 13 → AllKnown job (tree_code S (bin S b))
    known_bin b h =
        known_tree (slice_index_or job.plan.bins b (Seq []))
        (All-get_or (IsTree job) job.plan.bins b (Seq [])
        (let all = w.bins in omega (arith, all, h)) w.trees)
        (λ k c. among_bins (λ j. called (bin S j)) run_bins b k h
        (subst (λ j. Contains (called (bin S j)) k) (sym (numbers b h)) c))
      where
        numbers : (b : ℕ) → b < 13
            → get_or (0 ∷ 1 ∷ 2 ∷ 3 ∷ 4 ∷ 5 ∷ 6 ∷ 7 ∷ 8 ∷ 9 ∷ 10 ∷ 11 ∷ 12 ∷ []) b 0 ≡ b
        numbers zero h = refl
        numbers (suc zero) h = refl
        numbers (suc (suc zero)) h = refl
        numbers (suc (suc (suc zero))) h = refl
        numbers (suc (suc (suc (suc zero)))) h = refl
        numbers (suc (suc (suc (suc (suc zero))))) h = refl
        numbers (suc (suc (suc (suc (suc (suc zero)))))) h = refl
        numbers (suc (suc (suc (suc (suc (suc (suc zero))))))) h = refl
        numbers (suc (suc (suc (suc (suc (suc (suc (suc zero)))))))) h = refl
        numbers (suc (suc (suc (suc (suc (suc (suc (suc (suc zero))))))))) h = refl
        numbers (suc (suc (suc (suc (suc (suc (suc (suc (suc (suc zero)))))))))) h = refl
        numbers (suc (suc (suc (suc (suc (suc (suc (suc (suc (suc (suc zero))))))))))) h = refl
        numbers (suc (suc (suc (suc (suc (suc (suc (suc (suc (suc (suc (suc zero)))))))))))) h =
            refl
        numbers (suc (suc (suc (suc (suc (suc (suc (suc (suc (suc (suc (suc (suc b))))))))))))) h =
            absurd (omega (arith, h))

    abbrev AreBins : List ℕ → Type 0
    AreBins [] = Unit {0}
    AreBins (b ∷ bs) = (b < 13) × AreBins bs

    known_bins : (bs : List ℕ) → AreBins bs → AllKnown job (bins_code S bs)
    known_bins [] h = tt
    known_bins (b ∷ bs) h =
        known_both job (tree_code S (bin S b)) (bins_code S bs) (known_bin b h.0)
        (known_bins bs h.1)

    known_checkpoint : AllKnown job (checkpoint_code S)
    known_checkpoint = known_both job (tree_code S (bin S CHECKPOINT)) (Save ∷ [])
        (known_bin CHECKPOINT (omega arith)) (tt, tt)

    known_before : AllKnown job (before_code S)
    known_before = (
      tt,
      known_both job (bins_code S (PRESTEP ∷ EVOL ∷ POSTSTEP ∷ []))
          (Due (suc (length (checkpoint_code S))) ∷ checkpoint_code S)
          (known_bins (PRESTEP ∷ EVOL ∷ POSTSTEP ∷ [])
          (omega arith, (omega arith, (omega arith, tt)))) (tt, known_checkpoint),
    )

    known_from : AllKnown job (from_code S)
    known_from =
        known_both job (tree_code S (bin S ANALYSIS))
        (Written (suc (length S.out_vars)) ∷ pieces_code S.out_vars)
        (known_bin ANALYSIS (omega arith)) (
          tt,
          known_pieces job S.out_vars
              (λ i l. All-get_or (λ v. IsStored job v 0) job.out_vars i (record { 0 = 0 })
              l w.outputs),
        )

    known_loop : AllKnown job (loop_code S)
    known_loop =
        known_both job (before_code S)
        (from_code S ++ Next (length (before_code S) + length (from_code S)) ∷ []) known_before
        (known_both job (from_code S) (Next (length (before_code S) + length (from_code S)) ∷ [])
        known_from (tt, tt))

    known_end : AllKnown job (end_code S)
    known_end = known_both job (bins_code S (TERMINATE ∷ SHUTDOWN ∷ [])) (Halt ∷ [])
        (known_bins (TERMINATE ∷ SHUTDOWN ∷ []) (omega arith, (omega arith, tt))) (tt, tt)

    known_code : AllKnown job (code S)
    known_code =
        known_both job (start_code S)
        (Skip (suc (length (before_code S))) ∷ (loop_code S ++ end_code S))
        (known_bins (STARTUP ∷ WRAGH ∷ PARAMCHECK ∷ BASEGRID ∷ INITIAL ∷ POSTINITIAL ∷ POSTSTEP
        ∷ []) (
          omega arith,
          (
            omega arith,
            (omega arith, (omega arith, (omega arith, (omega arith, (omega arith, tt))))),
          ),
        ))
        (tt, known_both job (loop_code S) (end_code S) known_loop known_end)

    pub op_known : (pc : ℕ) → IsKnown job (op_at (code S) pc)
    op_known pc = known_at job (code S) pc known_code
