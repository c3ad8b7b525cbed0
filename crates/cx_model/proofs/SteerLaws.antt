-- Runs that are steered alike up to an iteration are the same up to its checkpoint place.
use Rattle.std.proofs.Common.{◌≡◌, ℕ, zero, suc, ◌+◌, ◌-◌, ◌<◌, ◌≤◌, ◌⊎◌, inl, inr, refl, sym, ap, subst, ◌∙◌, Bool, true, false, cond, leb, ◌&&◌, ◌||◌, ◌==◌, ℤ, List, [], ◌∷◌, ◌++◌, flat_map, length, take, append_assoc, length-append, Option, Some, None, zero-add, arith}
use Rattle.std.specs.Prelude.{slice_set}
use Rattle.std.specs.List.{range_with_len}
use Rattle.std.proofs.lemmas.Bool.{cases_order, leb-true, le-leb, and_parts, false≢true}
use Rattle.std.proofs.lemmas.List.{take-append-le, take_all}
use Rattle.cx_plan.specs.declared.item.Item.{Item}
use Rattle.cx_plan.specs.declared.item.ItemKind.{ItemKind}
use Rattle.cx_plan.specs.declared.item.ItemKind.TheVariants.{Cell, Scalar, Sum, Least, Greatest, Count}
use Rattle.cx_plan.specs.declared.steered.Steered.{Steered}
use Rattle.cx_plan.specs.declared.tree.Tree.{Tree, Seq', Call, Sync, If', While', Row_of-Tree, end_of-Tree, more_of-Tree}
use Rattle.cx_plan.specs.declared.variable.VarId.{VarId}
use Rattle.cx_plan.specs.Setups.{Setup}
use Rattle.cx_plan.specs.Dues.{is_each, is_due, is_written}
use Rattle.cx_plan.specs.Lookups.{item, bin, CHECKPOINT, ANALYSIS, start_bins, step_bins, end_bins}
use Rattle.cx_plan.specs.Steering.{counts_at, set_by, steered, item_at}
use Rattle.cx_rule.specs.Routine.{Rule}
use Rattle.cx_rule.specs.States.{State, rotate}
use Rattle.cx_model.specs.States.{start}
use Rattle.cx_model.specs.Traces.{Entry, Turned, Overflowed, Exchanged, Tested, Rotated, Wrote, Saved, Outcome, Goes, Ends, Trace, stays, after, follow, then_go}
use Rattle.cx_model.specs.Trees.{test, turn_trace, loop, run_tree, run_row}
use Rattle.cx_model.specs.Turns.{turn, turn_by}
use Rattle.cx_model.specs.declared.ends.End.{End}
use Rattle.cx_model.specs.declared.ends.End.TheVariants.{WhileLimit}
use Rattle.cx_model.specs.Stages.{Stage, Bin, Rotate, Save, Write, bins, before_analysis, from_analysis, iteration, rest_behind, stages, stages_after}
use Rattle.cx_model.specs.Runs.{all_written, run_stages, text_to, output_of, Lengths, no_lengths, lengths_after, lengths_behind, passing, stop_or, within_limit, limited, output, Reaches}
use Rattle.cx_model.proofs.ListLaws.{heads, tails, nothing_there}
use Rattle.cx_model.proofs.WalkLaws.{Each, walk-tree}
use Rattle.cx_model.proofs.SaveLaws.{IsOther, others, others-written, Stands, EachSave, found, output-both}
use Rattle.cx_model.proofs.StageLaws.{Rises, each-after}
use Rattle.cx_model.proofs.CheckpointLaws.{run-continues}
use Rattle.cx_model.specs.Steers.{steered_as, steers_to, SteeredAlike}

-- ---- steers

-- those of later iterations don't count
only_to : (c k n : ℕ) → n ≤ c → (ss : List Steered) (params : List ℤ)
    → steered (steers_to c ss) k n params ≡ steered ss k n params
only_to c k n l [] params = refl
only_to c k n l (s ∷ ss) params = go (leb s.at c) refl (λ ps. only_to c k n l ss ps)
  where
    go : (b : Bool) → leb s.at c ≡ b
        → ((ps : List ℤ) → steered (steers_to c ss) k n ps ≡ steered ss k n ps)
        → steered (steers_to c (s ∷ ss)) k n params ≡ steered (s ∷ ss) k n params
    go true t again = ap (λ b. steered (cond b (s ∷ steers_to c ss) (steers_to c ss)) k n params) t
        ∙ again (set_by k n s params)
    go false f again =
        ap (λ b. steered (cond b (s ∷ steers_to c ss) (steers_to c ss)) k n params) f
        ∙ again params
        ∙ ap (steered ss k n) (sym
        (ap (λ b. cond b (slice_set params s.slot s.value) params) (late (leb s.at n) refl)))
      where
        none : (b : Bool) → (b && false) ≡ false
        none true = refl
        none false = refl

        late : (b : Bool) → leb s.at n ≡ b → counts_at k n s ≡ false
        late true t =
            absurd
            (false≢true (sym f ∙ le-leb s.at c (let m = leb-true s.at n t in omega (arith, m, l))))
        late false e = ap (λ b. (s.item == k) && b) e ∙ none (s.item == k)

alike : (c k n : ℕ) → n ≤ c → (one other : List Steered) → steers_to c one ≡ steers_to c other
    → (params : List ℤ) → steered one k n params ≡ steered other k n params
alike c k n l one other same params =
    sym (only_to c k n l one params) ∙ ap (λ ss. steered ss k n params) same
    ∙ only_to c k n l other params

-- ---- trees

module _ (setup : Setup) (other : List Steered) (rules : List Rule) where
  kind_same : (kind : ItemKind) (x : Item) (state : State) (n : ℕ)
      → turn_by kind setup rules x state n ≡ turn_by kind (steered_as setup other) rules x state n
  kind_same Cell x state n = refl
  kind_same Scalar x state n = refl
  kind_same Sum x state n = refl
  kind_same Least x state n = refl
  kind_same Greatest x state n = refl
  kind_same Count x state n = refl

  loop_same : (v : VarId) (path : List ℕ) (limit : End) (body next : State → Trace)
      → ((s : State) → body s ≡ next s) → (turns : ℕ) (s : State)
      → loop v path limit body turns s ≡ loop v path limit next turns s
  loop_same v path limit body next e turns s = ap (λ f. loop v path limit f turns s) (λ i t. e t i)

  module _ (c n : ℕ) (l : n ≤ c) (same : steers_to c setup.steers ≡ steers_to c other) where
    mutual
      tree_same : (tree : Tree) (s : State)
          → run_tree setup rules n tree s ≡ run_tree (steered_as setup other) rules n tree s
      tree_same (Seq' shape all) s = row_same all s
      tree_same (Call k) s =
          ap (λ (ps : List ℤ). turn_trace k (record (item setup k) { params = ps }) n s
          (turn setup rules (record (item setup k) { params = ps }) s n))
          (alike c k n l setup.steers other same (item setup k).params)
          ∙ ap (turn_trace k (item_at (steered_as setup other) k n) n s)
          (kind_same (item setup k).kind (item_at (steered_as setup other) k n) s n)
      tree_same (Sync vars path) s = refl
      tree_same (If' v path shape one) s = ap (λ f. test v path stays f s) (λ i t. row_same one t i)
      tree_same (While' v path shape one) s =
          loop_same v path (WhileLimit n path) (run_row setup rules n one)
          (run_row (steered_as setup other) rules n one) (row_same one) setup.while_limit s

      row_same : {m : _} → (row : Row_of-Tree m) (s : State)
          → run_row setup rules n row s ≡ run_row (steered_as setup other) rules n row s
      row_same end_of-Tree s = refl
      row_same (more_of-Tree tree rest) s =
          ap (λ t. then_go t (run_row setup rules n rest)) (tree_same tree s)
          ∙ ap (λ f. then_go (run_tree (steered_as setup other) rules n tree s) f)
          (λ i t. row_same rest t i)

-- ---- entries that don't pass the limit

-- behind a place that stands there, whatever comes behind the entries before it
passes_any : (so_far : Lengths) (es more : List Entry) (o : Outcome) (earlier : List Entry) (c : ℕ)
    (state : State) (later : List Entry)
    → Each IsOther es → Stands (within_limit so_far (es ++ more) o) earlier c state later
    → (between : List Entry) × (earlier ≡ es ++ between)
    × Stands (within_limit (lengths_behind so_far es) more o) between c state later
    × ((less : List Entry) (p : Outcome)
    → within_limit so_far (es ++ less) p
    ≡ after es (within_limit (lengths_behind so_far es) less p))
passes_any so_far [] more o earlier c state later none there =
    (earlier, refl, there, λ less p. refl)
passes_any so_far (e ∷ es) more o earlier c state later none there =
    by (passing so_far e) refl earlier there
    (λ rest at. passes_any (lengths_after so_far e) es more o rest c state later none.1 at)
  where
    inner : Trace
    inner = within_limit (lengths_after so_far e) (es ++ more) o

    Again : List Entry → Type 0
    Again rest =
        (between : List Entry) × (rest ≡ es ++ between)
        × Stands (within_limit (lengths_behind (lengths_after so_far e) es) more o)
        between c state later
        × ((less : List Entry) (p : Outcome)
        → within_limit (lengths_after so_far e) (es ++ less) p
        ≡ after es (within_limit (lengths_behind (lengths_after so_far e) es) less p))

    by : (p : Option ℕ) → passing so_far e ≡ p → (earlier : List Entry)
        → Stands (stop_or p (after (e ∷ []) inner)) earlier c state later
        → ((rest : List Entry) → Stands inner rest c state later → Again rest)
        → (between : List Entry) × (earlier ≡ (e ∷ es) ++ between)
        × Stands (within_limit (lengths_behind so_far (e ∷ es)) more o) between c state later
        × ((less : List Entry) (p : Outcome)
        → within_limit so_far ((e ∷ es) ++ less) p
        ≡ after (e ∷ es) (within_limit (lengths_behind so_far (e ∷ es)) less p))
    by None is [] there again =
        absurd (subst IsOther (heads e (Saved c state) inner.entries later there) none.0)
    by None is (f ∷ rest) there again =
        let r = again rest (tails e f inner.entries (rest ++ Saved c state ∷ later) there) in (
          r.0,
          ap (λ g. g ∷ rest) (sym (heads e f inner.entries (rest ++ Saved c state ∷ later) there))
              ∙ ap (λ l. e ∷ l) r.1,
          r.2,
          λ less p. ap (λ q. stop_or q
              (after (e ∷ []) (within_limit (lengths_after so_far e) (es ++ less) p))) is
              ∙ ap (after (e ∷ [])) (r.3 less p),
        )
    by (Some n) is earlier there again = absurd (nothing_there earlier (Saved c state) later there)

-- ---- stages

-- up to the checkpoint place of c all bins are of iterations up to c
abbrev AlikeTo : ℕ → List Stage → Type 0
AlikeTo c [] = Unit {0}
AlikeTo c (Save n ∷ ss) = ((n < c) × AlikeTo c ss) ⊎ EachSave (λ m rest. c < m) ss
AlikeTo c (Bin b n ∷ ss) = (n ≤ c) × AlikeTo c ss
AlikeTo c (Rotate ∷ ss) = AlikeTo c ss
AlikeTo c (Write n ∷ ss) = AlikeTo c ss

module _ (setup : Setup) (other : List Steered) (rules : List Rule) (c : ℕ)
    (same : steers_to c setup.steers ≡ steers_to c other) where
  abbrev two : Setup
  two = steered_as setup other

  -- the place is there in the other run too
  abbrev Also : Trace → List Entry → State → Type 0
  Also t earlier state = (later : List Entry) × Stands t earlier c state later

  also_behind : (es : List Entry) (out : Outcome) (ss : List Stage) (so_far : Lengths)
      (earlier : List Entry) (state : State) (later : List Entry)
      → Each IsOther es
      → ((first : State) (n : Lengths) (between : List Entry)
      → Stands (limited n (run_stages setup rules ss first)) between c state later
      → Also (limited n (run_stages two rules ss first)) between state)
      → Stands (limited so_far (after es (follow out (run_stages setup rules ss))))
      earlier c state later
      → Also (limited so_far (after es (follow out (run_stages two rules ss)))) earlier state
  also_behind es (Goes first) ss so_far earlier state later none again there =
      let one = run_stages setup rules ss first in
      let less = run_stages two rules ss first in
      let r = passes_any so_far es one.entries one.outcome earlier c state later none there in
      let f = again first (lengths_behind so_far es) r.0 r.2 in (
        f.0,
        ap (λ (t : Trace). t.entries) (r.3 less.entries less.outcome) ∙ ap (λ l. es ++ l) f.1
            ∙ sym (append_assoc es r.0 (Saved c state ∷ f.0))
            ∙ ap (λ a. a ++ Saved c state ∷ f.0) (sym r.1),
      )
  also_behind es (Ends end) ss so_far earlier state later none again there =
      let r = passes_any so_far es [] (Ends end) earlier c state later none there in
      absurd (nothing_there r.0 (Saved c state) later r.2)

  also : (ss : List Stage) → AlikeTo c ss
      → (first : State) (so_far : Lengths) (earlier : List Entry) (state : State)
      (later : List Entry)
      → Stands (limited so_far (run_stages setup rules ss first)) earlier c state later
      → Also (limited so_far (run_stages two rules ss first)) earlier state
  also [] to first so_far earlier state later there =
      absurd (nothing_there earlier (Saved c state) later there)
  also (Bin b n ∷ ss) to first so_far earlier state later there =
      let t = run_tree setup rules n (bin setup b) first in
      subst (λ u. Also (limited so_far (then_go u (run_stages two rules ss))) earlier state)
      (tree_same setup other rules c n to.0 same (bin setup b) first)
      (also_behind t.entries t.outcome ss so_far earlier state later
      (walk-tree IsOther (λ _. Unit {0}) setup rules n (bin setup b) first others).entries
      (λ now k between at. also ss to.1 now k between state later at) there)
  also (Rotate ∷ ss) to first so_far earlier state later there =
      also_behind (Rotated first ∷ []) (Goes (rotate first)) ss so_far earlier state later (tt, tt)
      (λ now k between at. also ss to now k between state later at) there
  also (Write n ∷ ss) to first so_far earlier state later there =
      also_behind (all_written setup n first setup.out_vars) (Goes first)
      ss so_far earlier state later (others-written setup n first setup.out_vars)
      (λ now k between at. also ss to now k between state later at) there
  also (Save n ∷ ss) to first so_far [] state later there =
      let here = heads (Saved n first) (Saved c state)
      (limited so_far (run_stages setup rules ss first)).entries later there in (
        (limited so_far (run_stages two rules ss first)).entries,
        ap (λ (e : Entry). e ∷ (limited so_far (run_stages two rules ss first)).entries) here,
      )
  also (Save n ∷ ss) (inl to) first so_far (e ∷ earlier) state later there =
      let rest = limited so_far (run_stages setup rules ss first) in
      let here = heads (Saved n first) e rest.entries (earlier ++ Saved c state ∷ later) there in
      let f = also ss to.1 first so_far earlier state later
      (tails (Saved n first) e rest.entries (earlier ++ Saved c state ∷ later) there) in (
        f.0,
        ap (λ (l : List Entry). Saved n first ∷ l) f.1
            ∙ ap (λ (g : Entry). g ∷ earlier ++ Saved c state ∷ f.0) here,
      )
  also (Save n ∷ ss) (inr none) first so_far (e ∷ earlier) state later there =
      let rest = limited so_far (run_stages setup rules ss first) in
      let f = found (λ m more. c < m) setup rules ss none first so_far earlier c state later
      (tails (Saved n first) e rest.entries (earlier ++ Saved c state ∷ later) there) in
      let l = f.holds in
      absurd (omega (arith, l))

-- ---- the stages of a run

each_weaker : (P Q : ℕ → List Stage → Type 0) → ((n : ℕ) (ss : List Stage) → P n ss → Q n ss)
    → (ss : List Stage) → EachSave P ss → EachSave Q ss
each_weaker P Q f [] e = tt
each_weaker P Q f (Save n ∷ ss) e = (f n ss e.0, each_weaker P Q f ss e.1)
each_weaker P Q f (Bin b n ∷ ss) e = each_weaker P Q f ss e
each_weaker P Q f (Rotate ∷ ss) e = each_weaker P Q f ss e
each_weaker P Q f (Write n ∷ ss) e = each_weaker P Q f ss e

bins_alike : (c n : ℕ) → n ≤ c → (bs : List ℕ) (ss : List Stage) → AlikeTo c ss
    → AlikeTo c (bins bs n ++ ss)
bins_alike c n l [] ss to = to
bins_alike c n l (b ∷ bs) ss to = (l, bins_alike c n l bs ss to)

analysis_alike : (setup : Setup) (c n : ℕ) → n ≤ c → (ss : List Stage) → AlikeTo c ss
    → AlikeTo c (from_analysis setup n ++ ss)
analysis_alike setup c n l ss to = go (is_written setup n)
  where
    go : (b : Bool) → AlikeTo c ((Bin ANALYSIS n ∷ cond b (Write n ∷ []) []) ++ ss)
    go true = (l, to)
    go false = (l, to)

module _ (setup : Setup) (c : ℕ) (due : is_due setup c ≡ true) where
  -- an iteration before c, and c itself
  passed : (m : ℕ) → suc m < c → (ss : List Stage) → AlikeTo c ss
      → AlikeTo c (before_analysis setup (suc m) ++ ss)
  passed m l ss to = go (is_due setup (suc m))
    where
      go : (b : Bool) → AlikeTo c
          ((Rotate ∷ bins step_bins (suc m)
          ++ cond b (Bin CHECKPOINT (suc m) ∷ Save (suc m) ∷ []) []) ++ ss)
      go true = (
        omega (arith, l),
        (omega (arith, l), (omega (arith, l), (omega (arith, l), inl (l, to)))),
      )
      go false = (omega (arith, l), (omega (arith, l), (omega (arith, l), to)))

  reached : (m : ℕ) → suc m ≡ c → (ss : List Stage) → EachSave (λ k rest. c < k) ss
      → AlikeTo c (before_analysis setup (suc m) ++ ss)
  reached m e ss none =
      subst
      (λ b.
      AlikeTo c
      ((Rotate ∷ bins step_bins (suc m)
      ++ cond b (Bin CHECKPOINT (suc m) ∷ Save (suc m) ∷ []) []) ++ ss))
      (sym (ap (is_due setup) e ∙ due))
      (omega (arith, e), (omega (arith, e), (omega (arith, e), (omega (arith, e), inr none))))

  behind_alike : (b count : ℕ) → b < c → c ≤ b + count → count ≡ setup.itlast - b
      → AlikeTo c (rest_behind setup b count)
  behind_alike b zero below enough is = absurd (omega (arith, below, enough))
  behind_alike b (suc count) below enough is =
      subst (AlikeTo c) (sym order)
      (go (cases_order (suc b) c)
      (λ l. behind_alike (suc b) count l (omega (arith, enough)) (omega (arith, is))))
    where
      next : suc b ≡ b + 1
      next = omega arith

      order : rest_behind setup b (suc count)
          ≡ before_analysis setup (suc b)
          ++ (from_analysis setup (suc b) ++ rest_behind setup (suc b) count)
      order =
          let others = flat_map (iteration setup) (range_with_len (b + 1 + 1) count) in
          let ending = bins end_bins setup.itlast in
          append_assoc (before_analysis setup (b + 1) ++ from_analysis setup (b + 1)) others ending
          ∙ append_assoc (before_analysis setup (b + 1)) (from_analysis setup (b + 1))
          (others ++ ending)
          ∙ ap (λ n. before_analysis setup n
          ++ (from_analysis setup n ++ rest_behind setup n count)) (sym next)

      later : suc b ≡ c → EachSave (λ k rest. c < k)
          (from_analysis setup (suc b) ++ rest_behind setup (suc b) count)
      later e =
          let left : setup.itlast - suc b ≡ count = omega (arith, is) in
          subst (λ n. EachSave (λ k rest. c < k)
          (from_analysis setup (suc b) ++ rest_behind setup (suc b) n)) left
          (each_weaker (Rises setup (suc b)) (λ k rest. c < k)
          (λ k rest r. subst (λ d. d < k) e r.later) (stages_after setup (suc b))
          (each-after setup (suc b)))

      go : (suc b ≡ c) ⊎ ((suc b < c) ⊎ (c < suc b))
          → (suc b < c → AlikeTo c (rest_behind setup (suc b) count))
          → AlikeTo c (before_analysis setup (suc b)
          ++ (from_analysis setup (suc b) ++ rest_behind setup (suc b) count))
      go (inl e) again = reached b e
          (from_analysis setup (suc b) ++ rest_behind setup (suc b) count) (later e)
      go (inr (inl l)) again =
          passed b l (from_analysis setup (suc b) ++ rest_behind setup (suc b) count)
          (analysis_alike setup c (suc b) (omega (arith, l)) (rest_behind setup (suc b) count)
          (again l))
      go (inr (inr l)) again = absurd (omega (arith, l, below))

  run_alike : 0 < c → c ≤ setup.itlast → AlikeTo c (stages setup)
  run_alike some last =
      subst (AlikeTo c)
      (sym (append_assoc (bins start_bins 0) (from_analysis setup 0)
      (rest_behind setup 0 setup.itlast)))
      (bins_alike c 0 (omega arith) start_bins
      (from_analysis setup 0 ++ rest_behind setup 0 setup.itlast)
      (analysis_alike setup c 0 (omega arith) (rest_behind setup 0 setup.itlast)
      (behind_alike 0 setup.itlast some (omega (arith, last)) (omega arith))))

-- ---- the law

due_within : (setup : Setup) (c : ℕ) → is_due setup c ≡ true → (0 < c) × (c ≤ setup.itlast)
due_within setup zero due = absurd (false≢true due)
due_within setup (suc n) due = (
  omega arith,
  leb-true (suc n) setup.itlast
      (and_parts (leb (suc n) setup.itlast)
      (is_each setup.chk_every (suc n) || (setup.on_end && (suc n == setup.itlast))) due).0,
)

fewer : (c d : ℕ) → d ≤ c → (ss : List Steered) → steers_to d (steers_to c ss) ≡ steers_to d ss
fewer c d l [] = refl
fewer c d l (s ∷ ss) = go (leb s.at c) refl (fewer c d l ss)
  where
    late : leb s.at c ≡ false → (b : Bool) → leb s.at d ≡ b → leb s.at d ≡ false
    late f true t =
        absurd
        (false≢true (sym f ∙ le-leb s.at c (let m = leb-true s.at d t in omega (arith, m, l))))
    late f false e = e

    go : (b : Bool) → leb s.at c ≡ b → steers_to d (steers_to c ss) ≡ steers_to d ss
        → steers_to d (steers_to c (s ∷ ss)) ≡ steers_to d (s ∷ ss)
    go true t e = ap (λ b. steers_to d (cond b (s ∷ steers_to c ss) (steers_to c ss))) t
        ∙ ap (λ ks. cond (leb s.at d) (s ∷ ks) ks) e
    go false f e =
        ap (λ b. steers_to d (cond b (s ∷ steers_to c ss) (steers_to c ss))) f
        ∙ e
        ∙ sym (ap (λ b. cond b (s ∷ steers_to d ss) (steers_to d ss)) (late f (leb s.at d) refl))

up_to_earlier : (c d : ℕ) → d ≤ c → (one other : List Steered) → steers_to c one ≡ steers_to c other
    → steers_to d one ≡ steers_to d other
up_to_earlier c d l one other e = sym (fewer c d l one) ∙ ap (steers_to d) e ∙ fewer c d l other

place_same : (setup : Setup) (other : List Steered) (rules : List Rule) (d : ℕ)
    → steers_to d setup.steers ≡ steers_to d other
    → (state : State) (so_far : Lengths) (r : Reaches setup rules d state so_far)
    → (q : Reaches (steered_as setup other) rules d state so_far) × (q.earlier ≡ r.earlier)
place_same setup other rules d same state so_far r =
    let due = (run-continues setup rules).due d state so_far r in
    let w = due_within setup d due in
    let f = also setup other rules d same (stages setup) (run_alike setup d due w.0 w.1)
    (start setup) no_lengths r.earlier state r.later r.there in (
      record { earlier = r.earlier; later = f.0; there = f.1; lengths_there = r.lengths_there },
      refl,
    )

-- an output's length is that of its text
text_length : (v : VarId) (so_far : Lengths) (e : Entry)
    → lengths_after so_far e v.0 ≡ so_far v.0 + length (text_to v e)
text_length v so_far (Wrote w n text state) = by (w.0 == v.0)
  where
    by : (b : Bool) → (cond b (so_far v.0 + length text) (so_far v.0))
        ≡ so_far v.0 + length (cond b text [])
    by true = refl
    by false = omega arith
text_length v so_far (Turned k n state) = omega arith
text_length v so_far (Overflowed k n state) = omega arith
text_length v so_far (Exchanged vars path state) = omega arith
text_length v so_far (Tested w path state) = omega arith
text_length v so_far (Rotated state) = omega arith
text_length v so_far (Saved n state) = omega arith

length_behind : (v : VarId) (es : List Entry) (so_far : Lengths)
    → lengths_behind so_far es v.0 ≡ so_far v.0 + length (output_of v es)
length_behind v [] so_far = omega arith
length_behind v (e ∷ es) so_far =
    let rest = length_behind v es (lengths_after so_far e) in
    let here = text_length v so_far e in
    let both = length-append (text_to v e) (output_of v es) in
    omega (arith, rest, here, both)

-- as much of an output as stands before a place
front : (setup : Setup) (rules : List Rule) (d : ℕ) (state : State) (so_far : Lengths)
    (r : Reaches setup rules d state so_far) (v : VarId)
    → take (so_far v.0) (output setup rules v) ≡ output_of v r.earlier
front setup rules d state so_far r v =
    ap (λ es. take (so_far v.0) (output_of v es)) r.there
    ∙ ap (take (so_far v.0)) (output-both v r.earlier (Saved d state ∷ r.later))
    ∙ ap (λ n. take n (output_of v r.earlier ++ output_of v (Saved d state ∷ r.later)))
    (ap (λ (n : Lengths). n v.0) r.lengths_there ∙ length_behind v r.earlier no_lengths
    ∙ zero-add (length (output_of v r.earlier)))
    ∙ take-append-le (length (output_of v r.earlier)) (output_of v r.earlier)
    (output_of v (Saved d state ∷ r.later)) (omega arith)
    ∙ take_all (length (output_of v r.earlier)) (output_of v r.earlier) (omega arith)

pub steered_alike : (setup : Setup) (rules : List Rule) → SteeredAlike setup rules
steered_alike setup rules other c same =
    record {
      places = λ d state so_far l r.
          place_same setup other rules d (up_to_earlier c d l setup.steers other same)
          state so_far r;
      output = λ d state so_far l r v.
          let q = place_same setup other rules d (up_to_earlier c d l setup.steers other same)
          state so_far r in
          front setup rules d state so_far r v ∙ ap (output_of v) (sym q.1)
          ∙ sym (front (steered_as setup other) rules d state so_far q.0 v);
    }
