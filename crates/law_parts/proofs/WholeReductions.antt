-- The reductions of a whole job's run, from its code: their kinds, and what they read.
use Rattle.std.proofs.Common.{◌≡◌, ℕ, true, not, ◌&&◌, List, [], ◌∷◌, arith, refl, sym, subst, All}
use Rattle.std.specs.Prelude.{is_some, None}
use Rattle.std.specs.List.{list_all}
use Rattle.std.proofs.lemmas.Bool.{and_parts}
use Rattle.std.proofs.lemmas.List.Elements.{All-get_or}
use Rattle.cx_plan.specs.declared.job.Job.{Job}
use Rattle.cx_plan.specs.declared.item.Touch.{Touch}
use Rattle.cx_plan.specs.declared.item.Item.{Item}
use Rattle.cx_plan.specs.declared.item.ItemKind.{ItemKind}
use Rattle.cx_plan.specs.declared.item.ItemKind.TheVariants.{Cell, Scalar, Sum, Least, Greatest, Count}
use Rattle.cx_plan.specs.Setups.{Setup, setup_of}
use Rattle.cx_plan.specs.Lookups.{item, is_scalar, no_item}
use Rattle.cx_plan.specs.Regions.{has_shape, kinds_agree, is_some_list, are_distinct, read_needs, reduces, is_one, HasShapes}
use Rattle.cx_plan.specs.Whole.{IsWhole, IsItem, IsTouch}
use Rattle.cx_model.specs.States.{IsState}
use Rattle.cx_flat.specs.declared.op.Op.TheVariants.{Join}
use Rattle.cx_flat.specs.Flats.{flat_from, is_halt, InPairs}
use Rattle.cx_flat.specs.Code.{code, op_at}
use Rattle.law_parts.specs.Runs.{Run, undivided, op_of}
use Rattle.law_parts.specs.Operations.{is_reduction, IsRunItem, NamesWell}
use Rattle.law_parts.proofs.Reductions.{ReadsGrid, Reduces}
use Rattle.law_parts.proofs.CodeLaws.{op_well}
use Rattle.law_parts.proofs.UndividedPairs.{pairs_first, pairs_next}
use Rattle.law_parts.proofs.ListLaws.{not_true}

reduce_kinds : (setup : Setup) (x : Item) (kind : ItemKind) → is_reduction kind ≡ true
    → kinds_agree setup x kind ≡ true → reduces setup x ≡ true
reduce_kinds setup x Cell e h = absurd cc
reduce_kinds setup x Scalar e h = absurd cc
reduce_kinds setup x Sum e h = h
reduce_kinds setup x Least e h = h
reduce_kinds setup x Greatest e h = h
reduce_kinds setup x Count e h = h

pub shape_reduces : (setup : Setup) (x : Item) → is_reduction x.kind ≡ true
    → has_shape setup x ≡ true → reduces setup x ≡ true
shape_reduces setup x red h =
    reduce_kinds setup x x.kind red
    (and_parts (is_some_list x.writes && are_distinct x.writes) (kinds_agree setup x x.kind)
    (and_parts (is_some_list x.writes && are_distinct x.writes && kinds_agree setup x x.kind)
    (list_all (λ r. is_some (read_needs setup x r)) x.reads) h).0).1

one_read : (job : Job) (reads : List Touch) → is_one reads ≡ true
    → list_all (λ (r : Touch). not (is_scalar (setup_of job) r.var)) reads ≡ true
    → All (IsTouch job) reads → ReadsGrid (setup_of job) reads
one_read job [] one h all = absurd cc
one_read job (t ∷ []) one h all =
    let stored = all 0 t (omega arith) in
    record {
      touch = t;
      more = [];
      reads_are = refl;
      grid = not_true (is_scalar (setup_of job) t.var)
          (and_parts (not (is_scalar (setup_of job) t.var)) true h).0;
      there = stored.0;
      stored = stored.1;
    }
one_read job (t ∷ u ∷ ts) one h all = absurd cc

module _ (job : Job) (w : IsWhole job) where
  pub reads_grid : (k : ℕ) → IsRunItem (setup_of job) k
      → is_reduction (item (setup_of job) k).kind ≡ true
      → ReadsGrid (setup_of job) (item (setup_of job) k).reads
  reads_grid k h red =
      let x = item (setup_of job) k in
      let is = All-get_or (IsItem job) job.items k no_item h.0 w.items in
      let both = shape_reduces (setup_of job) x red h.1 in
      let three =
      (and_parts _ (list_all (λ (t : Touch). is_scalar (setup_of job) t.var) x.writes)
      both).0 in
      let four = and_parts (is_one x.reads && is_one x.writes)
      (list_all (λ (t : Touch). not (is_scalar (setup_of job) t.var)) x.reads) three in
      one_read job x.reads (and_parts (is_one x.reads) (is_one x.writes) four.0).0 four.1 is.reads

-- what reductions ask of a run, of a whole job
module _ (job : Job) (w : IsWhole job) (shapes : HasShapes (setup_of job)) (r : Run)
    (is : r.setup ≡ setup_of job) where
  turns_well : (n : ℕ) → NamesWell r.setup (op_of r n)
  turns_well n = subst (λ s. NamesWell s (op_at (code s) (undivided r n).control.pc)) (sym is)
      (op_well job w shapes (undivided r n).control.pc)

  join_well : (n i : ℕ) → op_of r n ≡ Join i → NamesWell r.setup (Join i)
  join_well n i e = subst (NamesWell r.setup) e (turns_well n)

  pub job_reduces : (count : ℕ) → InPairs r.setup r.rules (code r.setup) None None count r.first
      → is_halt (op_at (code r.setup)
      (flat_from r.setup r.rules (code r.setup) count r.first).control.pc) ≡ true
      → ((n : ℕ) → IsState r.setup (undivided r n).state) → Reduces r
  job_reduces count paired halts states = record {
    first = pairs_first r count paired halts;
    pairs = pairs_next r count paired halts;
    states = states;
    kind = λ n i e. (join_well n i e).1;
    reads = λ n i e. reads_of i (join_well n i e);
  }
    where
      reads_of : (i : ℕ) → NamesWell r.setup (Join i) → ReadsGrid r.setup (item r.setup i).reads
      reads_of i = subst (λ s. NamesWell s (Join i) → ReadsGrid s (item s i).reads) (sym is)
          (λ h. reads_grid job w i h.0 h.1)
