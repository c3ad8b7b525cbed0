-- The operations of a run do what its stages do.
use Rattle.std.proofs.Common.{◌≡◌, ℕ, zero, suc, ◌+◌, ◌-◌, ◌≤◌, ◌<◌, Bool, true, false, List, [], ◌∷◌, ◌++◌, length, refl, sym, ap, subst, arith, length-append, append-nil, cond}
use Rattle.std.specs.List.{flat_map, range_with_len}
use Rattle.std.proofs.lemmas.Bool.{lt-ltb, le-ltb}
use Rattle.cx_plan.specs.declared.variable.VarId.{VarId}
use Rattle.cx_plan.specs.Setups.{Setup}
use Rattle.cx_plan.specs.Dues.{is_due, is_written}
use Rattle.cx_plan.specs.Lookups.{bin, PRESTEP, EVOL, POSTSTEP, CHECKPOINT, ANALYSIS}
use Rattle.cx_rule.specs.Routine.{Rule}
use Rattle.cx_model.specs.States.{State}
use Rattle.cx_model.specs.Stages.{Stage, Bin, Rotate, Save, Write, bins, checkpoint, before_analysis, from_analysis, iteration}
use Rattle.cx_flat.specs.declared.op.Op.{Op}
use Rattle.cx_flat.specs.declared.op.Op.TheVariants as op
use Rattle.cx_model.proofs.CourseLaws.{course_both}
use Rattle.cx_model.specs.Courses.{course_tree, write_note, write_notes, course_stages}
use Rattle.cx_flat.specs.Code.{op_at, tree_code, bins_code, checkpoint_code, before_code, pieces_code, from_code, loop_code}
use Rattle.cx_flat.specs.Flats.{Control, to, stepped}
use Rattle.cx_flat.proofs.RunLaws.{StandsAt, stands_first, stands_then, Runs, runs_stay, runs_then, runs_to, runs_one}
use Rattle.cx_flat.proofs.TreeLaws.{placed, does_tree}

-- ---- courses

module _ (setup : Setup) (rules : List Rule) (ops : List Op) (dims : ℕ)
    (some_dims : setup.shape.dims ≡ suc dims) where
  -- from one place to another the operations do what the stages do
  abbrev pub DoesStages : Control → ℕ → Control → ℕ → List Stage → Type 0
  DoesStages c pc d goal ss =
      (state : State) → Runs setup rules ops (placed c pc state)
      (placed d goal (course_stages setup rules ss state).state)
      (course_stages setup rules ss state).notes

  pub stages_then : (c : Control) (pc : ℕ) (d : Control) (q : ℕ) (e : Control) (r : ℕ)
      (a b : List Stage) → DoesStages c pc d q a → DoesStages d q e r b
      → DoesStages c pc e r (a ++ b)
  stages_then c pc d q e r a b x y state =
      let first = course_stages setup rules a state in
      subst (λ z. Runs setup rules ops (placed c pc state) (placed e r z.state) z.notes)
      (sym (course_both setup rules a b state))
      (runs_then setup rules ops (placed c pc state) (placed d q first.state)
      (placed e r (course_stages setup rules b first.state).state) first.notes
      (course_stages setup rules b first.state).notes (x state) (y first.state))

  pub stages_to : (c : Control) (pc : ℕ) (d : Control) (q r : ℕ) (a : List Stage)
      → DoesStages c pc d q a → q ≡ r → DoesStages c pc d r a
  stages_to c pc d q r a x e = subst (λ n. DoesStages c pc d n a) e x

  pub stages_from : (c : Control) (pc qc : ℕ) (d : Control) (q : ℕ) (a : List Stage)
      → DoesStages c pc d q a → pc ≡ qc → DoesStages c qc d q a
  stages_from c pc qc d q a x e = subst (λ n. DoesStages c n d q a) e x

  -- one operation, one stage or none
  does_tree_stage : (c : Control) (pc b : ℕ) → StandsAt ops pc (tree_code setup (bin setup b))
      → DoesStages c pc c (pc + length (tree_code setup (bin setup b))) (Bin b c.iteration ∷ [])
  does_tree_stage c pc b h state =
      let t = course_tree setup rules c.iteration (bin setup b) state in
      runs_to setup rules ops (placed c pc state)
      (placed c (pc + length (tree_code setup (bin setup b))) t.state)
      (placed c (pc + length (tree_code setup (bin setup b))) t.state) t.notes (t.notes ++ [])
      (does_tree setup rules ops dims some_dims c pc (bin setup b) state h) refl
      (sym (append-nil t.notes))

  pub does_bins : (c : Control) (pc : ℕ) (bs : List ℕ) → StandsAt ops pc (bins_code setup bs)
      → DoesStages c pc c (pc + length (bins_code setup bs)) (bins bs c.iteration)
  does_bins c pc [] h = let e : pc ≡ pc + 0 = omega arith in
      stages_to c pc c pc (pc + 0) [] (λ state. runs_stay setup rules ops (placed c pc state)) e
  does_bins c pc (b ∷ bs) h =
      let t = tree_code setup (bin setup b) in
      let e : pc + length t + length (bins_code setup bs) ≡ pc + length (t ++ bins_code setup bs) =
      omega (arith, length-append t (bins_code setup bs)) in
      stages_to c pc c (pc + length t + length (bins_code setup bs))
      (pc + length (t ++ bins_code setup bs)) (bins (b ∷ bs) c.iteration)
      (stages_then c pc c (pc + length t) c (pc + length t + length (bins_code setup bs))
      (Bin b c.iteration ∷ []) (bins bs c.iteration)
      (does_tree_stage c pc b (stands_first ops pc t (bins_code setup bs) h))
      (does_bins c (pc + length t) bs (stands_then ops pc t (bins_code setup bs) h))) e

  -- ---- an iteration

  abbrev pub in_turn : ℕ → Control
  in_turn n = record { pc = 0; iteration = n; opened = [] }

  does_rotate : (n pc : ℕ) → op_at ops pc ≡ op.Rotate
      → DoesStages (in_turn n) pc (in_turn n) (suc pc) (Rotate ∷ [])
  does_rotate n pc h state = runs_one setup rules ops (placed (in_turn n) pc state) op.Rotate h refl

  does_save : (n pc : ℕ) → op_at ops pc ≡ op.Save
      → DoesStages (in_turn n) pc (in_turn n) (suc pc) (Save n ∷ [])
  does_save n pc h state = runs_one setup rules ops (placed (in_turn n) pc state) op.Save h refl

  does_checkpoint : (n pc : ℕ)
      → StandsAt ops pc (op.Due (suc (length (checkpoint_code setup))) ∷ checkpoint_code setup)
      → DoesStages (in_turn n) pc (in_turn n) (pc + suc (length (checkpoint_code setup)))
      (checkpoint setup n)
  does_checkpoint n pc h =
      go (is_due setup n) (λ state.
      runs_one setup rules ops (placed (in_turn n) pc state)
      (op.Due (suc (length (checkpoint_code setup)))) h.0 refl)
    where
      t : List Op
      t = tree_code setup (bin setup CHECKPOINT)

      go : (b : Bool) → ((state : State)
          → Runs setup rules ops (placed (in_turn n) pc state)
          (record {
            control = cond b (to (in_turn n) (suc pc))
                (to (in_turn n) (pc + suc (length (checkpoint_code setup))));
            state = state;
          }) [])
          → DoesStages (in_turn n) pc (in_turn n) (pc + suc (length (checkpoint_code setup)))
          (cond b (Bin CHECKPOINT n ∷ Save n ∷ []) [])
      go false r = r
      go true r =
          let e : suc (suc pc + length (tree_code setup (bin setup CHECKPOINT)))
          ≡ pc + suc (length (checkpoint_code setup)) =
          omega (arith, length-append (tree_code setup (bin setup CHECKPOINT)) (op.Save ∷ []))
          in
          stages_to (in_turn n) pc (in_turn n) (suc (suc pc + length t))
          (pc + suc (length (checkpoint_code setup))) (Bin CHECKPOINT n ∷ Save n ∷ [])
          (stages_then (in_turn n) pc (in_turn n) (suc pc) (in_turn n) (suc (suc pc + length t)) []
          (Bin CHECKPOINT n ∷ Save n ∷ []) r
          (stages_then (in_turn n) (suc pc) (in_turn n) (suc pc + length t) (in_turn n)
          (suc (suc pc + length t)) (Bin CHECKPOINT n ∷ []) (Save n ∷ [])
          (does_tree_stage (in_turn n) (suc pc) CHECKPOINT
          (stands_first ops (suc pc) t (op.Save ∷ []) h.1))
          (does_save n (suc pc + length t) (stands_then ops (suc pc) t (op.Save ∷ []) h.1).0))) e

  pub does_before : (n pc : ℕ) → StandsAt ops pc (before_code setup)
      → DoesStages (in_turn (suc n)) pc (in_turn (suc n)) (pc + length (before_code setup))
      (before_analysis setup (suc n))
  does_before n pc h =
      let bs = bins_code setup (PRESTEP ∷ EVOL ∷ POSTSTEP ∷ []) in
      let c = op.Due (suc (length (checkpoint_code setup))) ∷ checkpoint_code setup in
      let e : suc pc + length bs + suc (length (checkpoint_code setup))
      ≡ pc + suc (length (bs ++ c)) = omega (arith, length-append bs c) in
      stages_to (in_turn (suc n)) pc (in_turn (suc n))
      (suc pc + length bs + suc (length (checkpoint_code setup))) (pc + suc (length (bs ++ c)))
      (before_analysis setup (suc n))
      (stages_then (in_turn (suc n)) pc (in_turn (suc n)) (suc pc) (in_turn (suc n))
      (suc pc + length bs + suc (length (checkpoint_code setup))) (Rotate ∷ [])
      (bins (PRESTEP ∷ EVOL ∷ POSTSTEP ∷ []) (suc n) ++ checkpoint setup (suc n))
      (does_rotate (suc n) pc h.0)
      (stages_then (in_turn (suc n)) (suc pc) (in_turn (suc n)) (suc pc + length bs)
      (in_turn (suc n)) (suc pc + length bs + suc (length (checkpoint_code setup)))
      (bins (PRESTEP ∷ EVOL ∷ POSTSTEP ∷ []) (suc n)) (checkpoint setup (suc n))
      (does_bins (in_turn (suc n)) (suc pc) (PRESTEP ∷ EVOL ∷ POSTSTEP ∷ [])
      (stands_first ops (suc pc) bs c h.1))
      (does_checkpoint (suc n) (suc pc + length bs) (stands_then ops (suc pc) bs c h.1)))) e

  does_pieces : (n pc : ℕ) (vs : List VarId) → StandsAt ops pc (pieces_code vs) → (state : State)
      → Runs setup rules ops (placed (in_turn n) pc state)
      (placed (in_turn n) (pc + length vs) state) (write_notes setup n state vs)
  does_pieces n pc [] h state =
      let e : pc ≡ pc + 0 = omega arith in
      runs_to setup rules ops (placed (in_turn n) pc state) (placed (in_turn n) pc state)
      (placed (in_turn n) (pc + 0) state) [] []
      (runs_stay setup rules ops (placed (in_turn n) pc state))
      (ap (λ q. placed (in_turn n) q state) e) refl
  does_pieces n pc (v ∷ vs) h state =
      let e : suc pc + length vs ≡ pc + suc (length vs) = omega arith in
      runs_to setup rules ops (placed (in_turn n) pc state)
      (placed (in_turn n) (suc pc + length vs) state)
      (placed (in_turn n) (pc + suc (length vs)) state) (write_notes setup n state (v ∷ vs))
      (write_notes setup n state (v ∷ vs))
      (runs_then setup rules ops (placed (in_turn n) pc state) (placed (in_turn n) (suc pc) state)
      (placed (in_turn n) (suc pc + length vs) state) (write_note setup n state v ∷ [])
      (write_notes setup n state vs)
      (runs_one setup rules ops (placed (in_turn n) pc state) (op.Piece v) h.0 refl)
      (does_pieces n (suc pc) vs h.1 state))
      (ap (λ q. placed (in_turn n) q state) e) refl

  does_output : (n pc : ℕ)
      → StandsAt ops pc (op.Written (suc (length setup.out_vars)) ∷ pieces_code setup.out_vars)
      → DoesStages (in_turn n) pc (in_turn n) (pc + suc (length setup.out_vars))
      (cond (is_written setup n) (Write n ∷ []) [])
  does_output n pc h = go (is_written setup n)
      (λ state. runs_one setup rules ops (placed (in_turn n) pc state)
      (op.Written (suc (length setup.out_vars))) h.0 refl)
    where
      go : (b : Bool) → ((state : State)
          → Runs setup rules ops (placed (in_turn n) pc state)
          (record {
            control = cond b (to (in_turn n) (suc pc))
                (to (in_turn n) (pc + suc (length setup.out_vars)));
            state = state;
          }) [])
          → DoesStages (in_turn n) pc (in_turn n) (pc + suc (length setup.out_vars))
          (cond b (Write n ∷ []) [])
      go false r = r
      go true r = λ state.
          let e : suc pc + length setup.out_vars ≡ pc + suc (length setup.out_vars) = omega arith in
          let ns = write_notes setup n state setup.out_vars in
          runs_to setup rules ops (placed (in_turn n) pc state)
          (placed (in_turn n) (suc pc + length setup.out_vars) state)
          (placed (in_turn n) (pc + suc (length setup.out_vars)) state) ns (ns ++ [])
          (runs_then setup rules ops (placed (in_turn n) pc state)
          (placed (in_turn n) (suc pc) state)
          (placed (in_turn n) (suc pc + length setup.out_vars) state) [] ns (r state)
          (does_pieces n (suc pc) setup.out_vars h.1 state))
          (ap (λ q. placed (in_turn n) q state) e) (sym (append-nil ns))

  pieces_length : (vs : List VarId) → length (pieces_code vs) ≡ length vs
  pieces_length [] = refl
  pieces_length (v ∷ vs) = ap suc (pieces_length vs)

  pub does_from : (n pc : ℕ) → StandsAt ops pc (from_code setup)
      → DoesStages (in_turn n) pc (in_turn n) (pc + length (from_code setup))
      (from_analysis setup n)
  does_from n pc h =
      let t = tree_code setup (bin setup ANALYSIS) in
      let o = op.Written (suc (length setup.out_vars)) ∷ pieces_code setup.out_vars in
      let e : pc + length t + suc (length setup.out_vars) ≡ pc + length (t ++ o) =
      omega (arith, length-append t o, pieces_length setup.out_vars) in
      stages_to (in_turn n) pc (in_turn n) (pc + length t + suc (length setup.out_vars))
      (pc + length (t ++ o)) (from_analysis setup n)
      (stages_then (in_turn n) pc (in_turn n) (pc + length t) (in_turn n)
      (pc + length t + suc (length setup.out_vars)) (Bin ANALYSIS n ∷ [])
      (cond (is_written setup n) (Write n ∷ []) [])
      (does_tree_stage (in_turn n) pc ANALYSIS (stands_first ops pc t o h))
      (does_output n (pc + length t) (stands_then ops pc t o h))) e

  -- ---- iterations

  -- the places of a loop: its beginning, ANALYSIS in it, and the jump back
  does_next : (n pc back : ℕ) → op_at ops pc ≡ op.Next back → n < setup.itlast
      → DoesStages (in_turn n) pc (in_turn (suc n)) (pc - back) []
  does_next n pc back h l state =
      runs_to setup rules ops (placed (in_turn n) pc state)
      (stepped setup rules (op.Next back) (placed (in_turn n) pc state))
      (placed (in_turn (suc n)) (pc - back) state) [] []
      (runs_one setup rules ops (placed (in_turn n) pc state) (op.Next back) h refl)
      (ap (λ b. record {
        control =
            cond b (to (in_turn (suc n)) (pc - back)) (to (in_turn n) (suc pc));
        state = state;
      })
      (lt-ltb n setup.itlast l)) refl

  does_no_next : (n pc back : ℕ) → op_at ops pc ≡ op.Next back → setup.itlast ≤ n
      → DoesStages (in_turn n) pc (in_turn n) (suc pc) []
  does_no_next n pc back h l state =
      runs_to setup rules ops (placed (in_turn n) pc state)
      (stepped setup rules (op.Next back) (placed (in_turn n) pc state))
      (placed (in_turn n) (suc pc) state) [] []
      (runs_one setup rules ops (placed (in_turn n) pc state) (op.Next back) h refl)
      (ap (λ b. record {
        control =
            cond b (to (in_turn (suc n)) (pc - back)) (to (in_turn n) (suc pc));
        state = state;
      })
      (le-ltb n setup.itlast l)) refl

  module _ (loop : ℕ) (h : StandsAt ops loop (loop_code setup)) where
    analysis : ℕ
    analysis = loop + length (before_code setup)

    back : ℕ
    back = analysis + length (from_code setup)

    at_before : StandsAt ops loop (before_code setup)
    at_before = stands_first ops loop (before_code setup)
        (from_code setup ++ op.Next (length (before_code setup) + length (from_code setup)) ∷ []) h

    at_rest : StandsAt ops (loop + length (before_code setup))
        (from_code setup ++ op.Next (length (before_code setup) + length (from_code setup)) ∷ [])
    at_rest = stands_then ops loop (before_code setup)
        (from_code setup ++ op.Next (length (before_code setup) + length (from_code setup)) ∷ []) h

    pub at_from : StandsAt ops (loop + length (before_code setup)) (from_code setup)
    at_from = stands_first ops (loop + length (before_code setup)) (from_code setup)
        (op.Next (length (before_code setup) + length (from_code setup)) ∷ []) at_rest

    at_next : op_at ops (loop + length (before_code setup) + length (from_code setup))
        ≡ op.Next (length (before_code setup) + length (from_code setup))
    at_next =
        (stands_then ops (loop + length (before_code setup)) (from_code setup)
        (op.Next (length (before_code setup) + length (from_code setup)) ∷ []) at_rest).0

    -- a whole iteration, from the jump back to the jump back
    does_iteration : (n : ℕ) → n < setup.itlast
        → DoesStages (in_turn n) (loop + length (before_code setup) + length (from_code setup))
        (in_turn (suc n)) (loop + length (before_code setup) + length (from_code setup))
        (iteration setup (suc n))
    does_iteration n l =
        let e : loop + length (before_code setup)
        + length (from_code setup) - (length (before_code setup) + length (from_code setup))
        ≡ loop = omega arith in
        stages_then (in_turn n) (loop + length (before_code setup) + length (from_code setup))
        (in_turn (suc n)) loop (in_turn (suc n))
        (loop + length (before_code setup) + length (from_code setup)) []
        (iteration setup (suc n))
        (stages_to (in_turn n) (loop + length (before_code setup) + length (from_code setup))
        (in_turn (suc n)) (loop + length (before_code setup)
        + length (from_code setup) - (length (before_code setup) + length (from_code setup)))
        loop [] (does_next n (loop + length (before_code setup) + length (from_code setup))
        (length (before_code setup) + length (from_code setup)) at_next l) e)
        (stages_then (in_turn (suc n)) loop (in_turn (suc n)) (loop + length (before_code setup))
        (in_turn (suc n)) (loop + length (before_code setup) + length (from_code setup))
        (before_analysis setup (suc n)) (from_analysis setup (suc n))
        (does_before n loop at_before)
        (does_from (suc n) (loop + length (before_code setup)) at_from))

    pub does_iterations : (count n m : ℕ) → m ≡ suc n → n + count ≡ setup.itlast
        → DoesStages (in_turn n) (loop + length (before_code setup) + length (from_code setup))
        (in_turn setup.itlast)
        (suc (loop + length (before_code setup) + length (from_code setup)))
        (flat_map (iteration setup) (range_with_len m count))
    does_iterations zero n m e sum =
        let z : n ≡ setup.itlast = omega arith in
        subst (λ k. DoesStages (in_turn n)
        (loop + length (before_code setup) + length (from_code setup)) (in_turn k)
        (suc (loop + length (before_code setup) + length (from_code setup))) []) z
        (does_no_next n (loop + length (before_code setup) + length (from_code setup))
        (length (before_code setup) + length (from_code setup)) at_next (omega arith))
    does_iterations (suc count) n m e sum =
        stages_then (in_turn n) (loop + length (before_code setup) + length (from_code setup))
        (in_turn (suc n)) (loop + length (before_code setup) + length (from_code setup))
        (in_turn setup.itlast)
        (suc (loop + length (before_code setup) + length (from_code setup))) (iteration setup m)
        (flat_map (iteration setup) (range_with_len (m + 1) count))
        (subst (λ k. DoesStages (in_turn n)
        (loop + length (before_code setup) + length (from_code setup)) (in_turn (suc n))
        (loop + length (before_code setup) + length (from_code setup)) (iteration setup k))
        (sym e) (does_iteration n (omega arith)))
        (does_iterations count (suc n) (m + 1) (omega arith) (omega arith))
