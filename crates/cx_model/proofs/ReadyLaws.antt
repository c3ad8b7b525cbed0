-- Jobs of which the laws of values hold.
use Rattle.std.proofs.Common.{◌≡◌, ℕ, ◌<◌, ◌≤◌, true, arith, ap, subst, ◌∙◌, [], length, get_or, inl, inr}
use Rattle.std.specs.List.{All}
use Rattle.std.proofs.lemmas.Bool.{cases_lt}
use Rattle.std.proofs.lemmas.List.{get_or_past}
use Rattle.std.proofs.lemmas.List.Elements.{All-head, All-get_or}
use Rattle.std.proofs.lemmas.List.FromFn.{get_or-range_with_len}
use Rattle.cx_grid.specs.Grid.{HasInterior}
use Rattle.cx_plan.specs.declared.variable.VarId.{VarId}
use Rattle.cx_plan.specs.declared.variable.VarInfo.{VarInfo}
use Rattle.cx_plan.specs.declared.job.Job.{Job}
use Rattle.cx_plan.specs.declared.tree.Tree.{Tree, Seq, Seq', Call, Sync, If', While', Row_of-Tree, end_of-Tree, more_of-Tree}
use Rattle.cx_plan.specs.Setups.{Setup, setup_of}
use Rattle.cx_plan.specs.Lookups.{item, no_item, no_variable, bin, called, called_in, is_scalar, levels_of, run_bins, run_bin_count}
use Rattle.cx_plan.specs.Steering.{item_at}
use Rattle.cx_plan.specs.Regions.{has_shape, HasShapes}
use Rattle.cx_plan.specs.Whole.{IsWhole, IsTree, IsRow, IsItem}
use Rattle.cx_model.specs.Agreement.{IsReady, IsReadyTree, IsReadyRow, IsSettled}
use Rattle.cx_model.proofs.ListLaws.{all-left, all-right, all-of-one}

abbrev Shaped : Setup → ℕ → Type 0
Shaped setup k = has_shape setup (item setup k) ≡ true

pub ready-item : (job : Job) (k : ℕ) → All (IsItem job) job.items → k < length job.items
    → Shaped (setup_of job) k → IsReady (setup_of job) (item (setup_of job) k)
ready-item job k items below shaped =
    record {
      declared = shaped;
      writes = (All-get_or (IsItem job) job.items k no_item below items).writes;
    }

-- an item is as ready with other parameters
pub ready-at : (setup : Setup) (k n : ℕ) → IsReady setup (item setup k)
    → IsReady setup (item_at setup k n)
ready-at setup k n r = record { declared = r.declared; writes = r.writes }

mutual
  ready-tree : (job : Job) (tree : Tree) → All (IsItem job) job.items → IsTree job tree
      → All (Shaped (setup_of job)) (called tree) → IsReadyTree (setup_of job) tree
  ready-tree job (Seq' shape all) items is shaped = ready-row job all items is shaped
  ready-tree job (Call k) items is shaped =
      ready-item job k items is (All-head (Shaped (setup_of job)) k [] shaped)
  ready-tree job (Sync vars path) items is shaped = tt
  ready-tree job (If' v path shape one) items is shaped =
      (is.0.1, ready-row job one items is.1 shaped)
  ready-tree job (While' v path shape one) items is shaped =
      (is.0.1, ready-row job one items is.1 shaped)

  ready-row : {m : _} (job : Job) (row : Row_of-Tree m) → All (IsItem job) job.items → IsRow job row
      → All (Shaped (setup_of job)) (called_in row) → IsReadyRow (setup_of job) row
  ready-row job end_of-Tree items is shaped = tt
  ready-row job (more_of-Tree tree rest) items is shaped = (
    ready-tree job tree items is.0
        (all-left (Shaped (setup_of job)) (called tree) (called_in rest) shaped),
    ready-row job rest items is.1
        (all-right (Shaped (setup_of job)) (called tree) (called_in rest) shaped),
  )

pub ready-trees : (job : Job) → IsWhole job → HasShapes (setup_of job) → (b : ℕ) → b < run_bin_count
    → IsReadyTree (setup_of job) (bin (setup_of job) b)
ready-trees job is shapes b below =
    ready-tree job (bin (setup_of job) b) is.items
    (All-get_or (IsTree job) job.plan.bins b (Seq []) (let e = is.bins in omega (arith, e, below))
    is.trees)
    (subst (λ k. All (Shaped (setup_of job)) (called (bin (setup_of job) k))) number
    (all-of-one (Shaped (setup_of job)) (λ b. called (bin (setup_of job) b))
    run_bins b 0 below shapes))
  where
    number : get_or run_bins b 0 ≡ b
    number = get_or-range_with_len 0 run_bin_count b 0 below ∙ omega arith

pub settled : (job : Job) → IsWhole job → HasShapes (setup_of job) → HasInterior job.shape
    → IsSettled (setup_of job)
settled job is shapes wide =
    record {
      shape = is.shape;
      interior = wide;
      one_level = λ v scalar. levels v scalar;
      trees = ready-trees job is shapes;
    }
  where
    levels : (v : VarId) → is_scalar (setup_of job) v ≡ true → levels_of (setup_of job) v ≤ 1
    levels v scalar =
        elim (cases_lt v.0 (length job.vars)) [
          | inl there ↦ All-get_or (λ (x : VarInfo). x.scalar ≡ true → x.levels ≤ 1)
              job.vars v.0 no_variable there is.one_level scalar
          | inr past ↦ let e = ap (λ (x : VarInfo). x.levels)
              (get_or_past job.vars v.0 no_variable past) in omega (arith, e)
        ]
