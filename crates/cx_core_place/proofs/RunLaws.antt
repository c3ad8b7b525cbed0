-- Each place of a run fits.
use Rattle.std.proofs.Common.{◌≡◌, ℕ, zero, suc, ◌+◌, ◌-◌, ◌*◌, ◌^◌, ◌≤◌, ◌<◌, List, [], ◌∷◌, ◌++◌, length, refl, sym, ap, ◌∙◌, subst, arith, length-append, cond, get_or}
use Rattle.std.specs.Prelude.{All, AllPairs}
use Rattle.std.proofs.lemmas.Bool.{lt-ltb, le-ltb}
use Rattle.std.proofs.lemmas.List.Elements.{All-nil}
use Rattle.cx_plan.specs.declared.variable.VarId.{VarId}
use Rattle.cx_plan.specs.declared.job.Job.{Job}
use Rattle.cx_plan.specs.declared.tree.Tree.{Tree, Seq}
use Rattle.cx_plan.specs.Setups.{Setup, setup_of}
use Rattle.cx_plan.specs.Dues.{is_due, is_written}
use Rattle.cx_plan.specs.Lookups.{bin, bin_count, STARTUP, WRAGH, PARAMCHECK, BASEGRID, INITIAL, POSTINITIAL, PRESTEP, EVOL, POSTSTEP, CHECKPOINT, ANALYSIS, TERMINATE, SHUTDOWN}
use Rattle.cx_plan.specs.Sizes.{depth, greatest_depth}
use Rattle.cx_plan.specs.Whole.{IsWhole, IsStored}
use Rattle.cx_flat.specs.declared.op.Op.{Op}
use Rattle.cx_flat.specs.declared.op.Op.TheVariants as op
use Rattle.cx_flat.specs.Code.{op_at, tree_code, bins_code, start_code, checkpoint_code, before_code, pieces_code, from_code, loop_code, end_code, code, analysis_place}
use Rattle.cx_flat.specs.Flats.{Opened, Control, to, next, control_after}
use Rattle.cx_flat.specs.Ways.{Scalars, later, way_from, at_place}
use Rattle.cx_flat.proofs.RunLaws.{StandsAt, stands_first, stands_then}
use Rattle.cx_flat.proofs.WholeLaws.{at_start, at_skip, at_loop, at_end}
use Rattle.cx_flat.proofs.FlattenLaws.{bin_length}
use Rattle.cx_core_place.specs.Steps.{Fits, IsReached, starts, continues, follows, PlacesFit, most_open}
use Rattle.cx_core_place.proofs.FitLaws.{Room, bool_cases, Safe, Leads, leads_then, leads_to, either, step, fits_at, halted, leads_straight, pieces_straight, leads_tree}

-- numbers of bins
abbrev AreBins : List ℕ → Type 0
AreBins [] = Unit {0}
AreBins (b ∷ bs) = (b < bin_count) × AreBins bs

-- an iteration, with no WHILE open
abbrev pub in_turn : ℕ → Control
in_turn n = record { pc = 0; iteration = n; opened = [] }

pieces_length : (vs : List VarId) → length (pieces_code vs) ≡ length vs
pieces_length [] = refl
pieces_length (v ∷ vs) = ap suc (pieces_length vs)

room_in : (setup : Setup) (n : ℕ) → n ≤ setup.itlast → Room setup (in_turn n) most_open
room_in setup n l = record {
  iteration = l;
  depth = omega arith;
  turns = All-nil (λ (o : Opened). o.turns ≤ setup.while_limit);
}

module _ (setup : Setup) (ops : List Op)
    (deep : (b : ℕ) → b < bin_count → depth (bin setup b) ≤ most_open) where
  leads_bins : (c : Control) (pc : ℕ) (bs : List ℕ) → AreBins bs → Room setup c most_open
      → StandsAt ops pc (bins_code setup bs) → pc + length (bins_code setup bs) < length ops
      → Leads setup ops (to c pc) (to c (pc + length (bins_code setup bs)))
  leads_bins c pc [] all r h l = let e : pc ≡ pc + 0 = omega arith in
      leads_to setup ops (to c pc) (to c pc) (to c (pc + 0)) (λ n x. x) (ap (to c) e)
  leads_bins c pc (b ∷ bs) all r h l =
      let t = tree_code setup (bin setup b) in
      let rest = bins_code setup bs in
      let size : length (t ++ rest) ≡ length t + length rest = length-append t rest in
      let e : pc + length t + length rest ≡ pc + length (t ++ rest) = omega (arith, size) in
      leads_to setup ops (to c pc) (to c (pc + length t + length rest))
      (to c (pc + length (t ++ rest)))
      (leads_then setup ops (to c pc) (to c (pc + length t)) (to c (pc + length t + length rest))
      (leads_tree setup ops c most_open pc (bin setup b) r (deep b all.0)
      (stands_first ops pc t rest h) (omega (arith, size, l)))
      (leads_bins c (pc + length t) bs all.1 r (stands_then ops pc t rest h)
      (omega (arith, size, l)))) (ap (to c) e)

  leads_checkpoint : (c : Control) (pc : ℕ) → Room setup c most_open
      → StandsAt ops pc (op.Due (suc (length (checkpoint_code setup))) ∷ checkpoint_code setup)
      → pc + suc (length (checkpoint_code setup)) < length ops
      → Leads setup ops (to c pc) (to c (pc + suc (length (checkpoint_code setup))))
  leads_checkpoint c pc r h l =
      let t = tree_code setup (bin setup CHECKPOINT) in
      let size : length (t ++ op.Save ∷ []) ≡ length t + 1 = length-append t (op.Save ∷ []) in
      let e : suc pc + length t + 1 ≡ pc + suc (length (t ++ op.Save ∷ [])) = omega (arith, size) in
      let out = to c (pc + suc (length (checkpoint_code setup))) in
      either setup ops (to c pc) out (to c (suc pc)) (op.Due (suc (length (checkpoint_code setup))))
      (fits_at setup ops c most_open pc r (omega (arith, l))) h.0
      (λ s. bool_cases (is_due setup c.iteration) out (to c (suc pc)))
      (leads_to setup ops (to c (suc pc)) (to c (suc pc + length t + 1)) out
      (leads_then setup ops (to c (suc pc)) (to c (suc pc + length t))
      (to c (suc pc + length t + 1))
      (leads_tree setup ops c most_open (suc pc) (bin setup CHECKPOINT) r
      (deep CHECKPOINT (omega arith)) (stands_first ops (suc pc) t (op.Save ∷ []) h.1)
      (omega (arith, size, l)))
      (leads_straight setup ops c most_open (suc pc + length t) (op.Save ∷ []) r
      (stands_then ops (suc pc) t (op.Save ∷ []) h.1) (λ s d. refl, tt)
      (omega (arith, size, l)))) (ap (to c) e))

  leads_before : (c : Control) (pc : ℕ) → Room setup c most_open
      → StandsAt ops pc (before_code setup) → pc + length (before_code setup) < length ops
      → Leads setup ops (to c pc) (to c (pc + length (before_code setup)))
  leads_before c pc r h l =
      let bs = bins_code setup (PRESTEP ∷ EVOL ∷ POSTSTEP ∷ []) in
      let k = op.Due (suc (length (checkpoint_code setup))) ∷ checkpoint_code setup in
      let size : length (bs ++ k) ≡ length bs + suc (length (checkpoint_code setup)) =
      length-append bs k in
      let e : suc pc + length bs + suc (length (checkpoint_code setup))
      ≡ pc + suc (length (bs ++ k)) = omega (arith, size) in
      leads_to setup ops (to c pc)
      (to c (suc pc + length bs + suc (length (checkpoint_code setup))))
      (to c (pc + suc (length (bs ++ k))))
      (leads_then setup ops (to c pc) (to c (suc pc))
      (to c (suc pc + length bs + suc (length (checkpoint_code setup))))
      (step setup ops (to c pc) (to c (suc pc)) op.Rotate
      (fits_at setup ops c most_open pc r (omega (arith, l))) h.0 (λ s. refl))
      (leads_then setup ops (to c (suc pc)) (to c (suc pc + length bs))
      (to c (suc pc + length bs + suc (length (checkpoint_code setup))))
      (leads_bins c (suc pc) (PRESTEP ∷ EVOL ∷ POSTSTEP ∷ [])
      (omega arith, (omega arith, (omega arith, tt))) r (stands_first ops (suc pc) bs k h.1)
      (omega (arith, size, l)))
      (leads_checkpoint c (suc pc + length bs) r (stands_then ops (suc pc) bs k h.1)
      (omega (arith, size, l))))) (ap (to c) e)

  leads_output : (c : Control) (pc : ℕ) → Room setup c most_open
      → StandsAt ops pc (op.Written (suc (length setup.out_vars)) ∷ pieces_code setup.out_vars)
      → pc + suc (length setup.out_vars) < length ops
      → Leads setup ops (to c pc) (to c (pc + suc (length setup.out_vars)))
  leads_output c pc r h l =
      let size : length (pieces_code setup.out_vars) ≡ length setup.out_vars =
      pieces_length setup.out_vars in
      let e : suc pc + length (pieces_code setup.out_vars) ≡ pc + suc (length setup.out_vars) =
      omega (arith, size) in
      let out = to c (pc + suc (length setup.out_vars)) in
      either setup ops (to c pc) out (to c (suc pc)) (op.Written (suc (length setup.out_vars)))
      (fits_at setup ops c most_open pc r (omega (arith, l))) h.0
      (λ s. bool_cases (is_written setup c.iteration) out (to c (suc pc)))
      (leads_to setup ops (to c (suc pc)) (to c (suc pc + length (pieces_code setup.out_vars))) out
      (leads_straight setup ops c most_open (suc pc) (pieces_code setup.out_vars) r h.1
      (pieces_straight setup ops setup.out_vars) (omega (arith, size, l))) (ap (to c) e))

  leads_from : (c : Control) (pc : ℕ) → Room setup c most_open → StandsAt ops pc (from_code setup)
      → pc + length (from_code setup) < length ops
      → Leads setup ops (to c pc) (to c (pc + length (from_code setup)))
  leads_from c pc r h l =
      let t = tree_code setup (bin setup ANALYSIS) in
      let o = op.Written (suc (length setup.out_vars)) ∷ pieces_code setup.out_vars in
      let size : length (t ++ o) ≡ length t + suc (length (pieces_code setup.out_vars)) =
      length-append t o in
      let most : length (pieces_code setup.out_vars) ≡ length setup.out_vars =
      pieces_length setup.out_vars in
      let e : pc + length t + suc (length setup.out_vars) ≡ pc + length (t ++ o) =
      omega (arith, size, most) in
      leads_to setup ops (to c pc) (to c (pc + length t + suc (length setup.out_vars)))
      (to c (pc + length (t ++ o)))
      (leads_then setup ops (to c pc) (to c (pc + length t))
      (to c (pc + length t + suc (length setup.out_vars)))
      (leads_tree setup ops c most_open pc (bin setup ANALYSIS) r (deep ANALYSIS (omega arith))
      (stands_first ops pc t o h) (omega (arith, size, l)))
      (leads_output c (pc + length t) r (stands_then ops pc t o h) (omega (arith, size, most, l))))
      (ap (to c) e)

  -- all of a run, where its pieces stand
  module _ (start loop : ℕ) (at_first : StandsAt ops 0 (start_code setup))
      (begins : start ≡ length (start_code setup)) (goes_on : loop ≡ suc start)
      (at_jump : op_at ops start ≡ op.Skip (suc (length (before_code setup))))
      (at_turns : StandsAt ops loop (loop_code setup))
      (at_last : StandsAt ops (suc (loop + length (before_code setup) + length (from_code setup)))
      (end_code setup))
      (all : length ops ≡ suc
      (suc (loop + length (before_code setup) + length (from_code setup))
      + length (bins_code setup (TERMINATE ∷ SHUTDOWN ∷ [])))) where
    abbrev analysis : ℕ
    analysis = loop + length (before_code setup)

    abbrev back : ℕ
    back = loop + length (before_code setup) + length (from_code setup)

    abbrev size : ℕ
    size = length (before_code setup) + length (from_code setup)

    abbrev last_bins : List Op
    last_bins = bins_code setup (TERMINATE ∷ SHUTDOWN ∷ [])

    abbrev stop : Control
    stop = to (in_turn setup.itlast) (suc back + length last_bins)

    at_before : StandsAt ops loop (before_code setup)
    at_before = stands_first ops loop (before_code setup) (from_code setup ++ op.Next size ∷ [])
        at_turns

    at_rest : StandsAt ops analysis (from_code setup ++ op.Next size ∷ [])
    at_rest = stands_then ops loop (before_code setup) (from_code setup ++ op.Next size ∷ [])
        at_turns

    at_from : StandsAt ops analysis (from_code setup)
    at_from = stands_first ops analysis (from_code setup) (op.Next size ∷ []) at_rest

    at_next : op_at ops back ≡ op.Next size
    at_next = (stands_then ops analysis (from_code setup) (op.Next size ∷ []) at_rest).0

    fits_here : (n pc : ℕ) → n ≤ setup.itlast → pc < length ops → Fits setup ops (to (in_turn n) pc)
    fits_here n pc l b = fits_at setup ops (in_turn n) most_open pc (room_in setup n l) b

    leads_end : Leads setup ops (to (in_turn setup.itlast) (suc back)) stop
    leads_end = leads_bins (in_turn setup.itlast) (suc back) (TERMINATE ∷ SHUTDOWN ∷ [])
        (omega arith, (omega arith, tt)) (room_in setup setup.itlast (omega arith))
        (stands_first ops (suc back) last_bins (op.Halt ∷ []) at_last) (omega (arith, all))

    safe_stop : (n : ℕ) → Safe setup ops n stop
    safe_stop = halted setup ops stop
        (fits_here setup.itlast (suc back + length last_bins) (omega arith) (omega (arith, all)))
        (stands_then ops (suc back) last_bins (op.Halt ∷ []) at_last).0

    leads_rest : (count n : ℕ) → n + count ≡ setup.itlast
        → Leads setup ops (to (in_turn n) back) stop
    leads_rest zero n sum =
        let z : n ≡ setup.itlast = omega arith in
        leads_then setup ops (to (in_turn n) back) (to (in_turn setup.itlast) (suc back)) stop
        (leads_to setup ops (to (in_turn n) back) (to (in_turn n) (suc back))
        (to (in_turn setup.itlast) (suc back))
        (step setup ops (to (in_turn n) back) (to (in_turn n) (suc back)) (op.Next size)
        (fits_here n back (omega arith) (omega (arith, all))) at_next
        (λ s. ap (λ b. cond b (to (in_turn (suc n)) (back - size)) (to (in_turn n) (suc back)))
        (le-ltb n setup.itlast (omega arith)))) (ap (λ k. to (in_turn k) (suc back)) z))
        leads_end
    leads_rest (suc count) n sum =
        let e : loop + length (before_code setup)
        + length (from_code setup) - (length (before_code setup) + length (from_code setup))
        ≡ loop = omega arith in
        leads_then setup ops (to (in_turn n) back) (to (in_turn (suc n)) loop) stop
        (step setup ops (to (in_turn n) back) (to (in_turn (suc n)) loop) (op.Next size)
        (fits_here n back (omega arith) (omega (arith, all))) at_next
        (λ s. ap (λ b. cond b (to (in_turn (suc n)) (back - size)) (to (in_turn n) (suc back)))
        (lt-ltb n setup.itlast (omega arith)) ∙ ap (to (in_turn (suc n))) e))
        (leads_then setup ops (to (in_turn (suc n)) loop) (to (in_turn (suc n)) analysis) stop
        (leads_before (in_turn (suc n)) loop (room_in setup (suc n) (omega arith)) at_before
        (omega (arith, all)))
        (leads_then setup ops (to (in_turn (suc n)) analysis) (to (in_turn (suc n)) back) stop
        (leads_from (in_turn (suc n)) analysis (room_in setup (suc n) (omega arith)) at_from
        (omega (arith, all)))
        (leads_rest count (suc n) (omega arith))))

    leads_behind : (n : ℕ) → n ≤ setup.itlast → Leads setup ops (to (in_turn n) analysis) stop
    leads_behind n l =
        leads_then setup ops (to (in_turn n) analysis) (to (in_turn n) back) stop
        (leads_from (in_turn n) analysis (room_in setup n l) at_from (omega (arith, all)))
        (leads_rest (setup.itlast - n) n (omega arith))

    leads_whole : Leads setup ops (to (in_turn 0) 0) stop
    leads_whole =
        let bs = STARTUP ∷ WRAGH ∷ PARAMCHECK ∷ BASEGRID ∷ INITIAL ∷ POSTINITIAL ∷ POSTSTEP ∷ [] in
        let e : 0 + length (start_code setup) ≡ start = omega (arith, begins) in
        let f : start + suc (length (before_code setup)) ≡ analysis = omega (arith, goes_on) in
        leads_then setup ops (to (in_turn 0) 0) (to (in_turn 0) start) stop
        (leads_to setup ops (to (in_turn 0) 0) (to (in_turn 0) (0 + length (start_code setup)))
        (to (in_turn 0) start)
        (leads_bins (in_turn 0) 0 bs (
          omega arith,
          (
            omega arith,
            (omega arith, (omega arith, (omega arith, (omega arith, (omega arith, tt))))),
          ),
        )
        (room_in setup 0 (omega arith)) at_first (omega (arith, all, begins, goes_on)))
        (ap (to (in_turn 0)) e))
        (leads_then setup ops (to (in_turn 0) start) (to (in_turn 0) analysis) stop
        (step setup ops (to (in_turn 0) start) (to (in_turn 0) analysis)
        (op.Skip (suc (length (before_code setup))))
        (fits_here 0 start (omega arith) (omega (arith, all, goes_on))) at_jump
        (λ s. ap (to (in_turn 0)) f))
        (leads_behind 0 (omega arith)))

    pub safe_whole : (n : ℕ) → Safe setup ops n (at_place 0 0)
    safe_whole n = leads_whole n (safe_stop n)

    pub safe_behind : (c : ℕ) → c ≤ setup.itlast → (n : ℕ) → Safe setup ops n (at_place analysis c)
    safe_behind c l n = leads_behind c l n (safe_stop n)

-- ---- the operations of a job

abbrev last_code : Setup → List Op
last_code setup = bins_code setup (TERMINATE ∷ SHUTDOWN ∷ [])

code_length : (setup : Setup)
    → length (code setup) ≡ suc
    (suc (suc (length (start_code setup)) + length (before_code setup) + length (from_code setup))
    + length (last_code setup))
code_length setup = sizes (start_code setup) (before_code setup) (from_code setup) (last_code setup)
    (op.Skip (suc (length (before_code setup))))
    (op.Next (length (before_code setup) + length (from_code setup)))
  where
    sizes : (s b f e : List Op) (skip next : Op)
        → length (s ++ (skip ∷ ((b ++ (f ++ next ∷ [])) ++ (e ++ op.Halt ∷ []))))
        ≡ suc (suc (suc (length s) + length b + length f) + length e)
    sizes s b f e skip next =
        let u : length (s ++ (skip ∷ ((b ++ (f ++ next ∷ [])) ++ (e ++ op.Halt ∷ []))))
        ≡ length s + suc (length ((b ++ (f ++ next ∷ [])) ++ (e ++ op.Halt ∷ []))) =
        length-append s (skip ∷ ((b ++ (f ++ next ∷ [])) ++ (e ++ op.Halt ∷ []))) in
        let v : length ((b ++ (f ++ next ∷ [])) ++ (e ++ op.Halt ∷ []))
        ≡ length (b ++ (f ++ next ∷ [])) + length (e ++ op.Halt ∷ []) =
        length-append (b ++ (f ++ next ∷ [])) (e ++ op.Halt ∷ []) in
        let w : length (b ++ (f ++ next ∷ [])) ≡ length b + length (f ++ next ∷ []) =
        length-append b (f ++ next ∷ []) in
        let x : length (f ++ next ∷ []) ≡ length f + 1 = length-append f (next ∷ []) in
        let y : length (e ++ op.Halt ∷ []) ≡ length e + 1 = length-append e (op.Halt ∷ []) in
        omega (arith, u, v, w, x, y)

module _ (setup : Setup) (dims : ℕ) (some_dims : setup.shape.dims ≡ suc dims)
    (deep : (b : ℕ) → b < bin_count → depth (bin setup b) ≤ most_open) where
  whole : (n : ℕ) → Safe setup (code setup) n (at_place 0 0)
  whole = safe_whole setup (code setup) deep (length (start_code setup))
      (suc (length (start_code setup))) (at_start setup [] dims some_dims) refl refl
      (at_skip setup [] dims some_dims).0 (at_loop setup [] dims some_dims)
      (at_end setup [] dims some_dims) (code_length setup)

  behind : (c : ℕ) → c ≤ setup.itlast → (n : ℕ)
      → Safe setup (code setup) n (at_place (analysis_place setup) c)
  behind c l n =
      let e : suc (length (start_code setup)) + length (before_code setup) ≡ analysis_place setup =
      omega arith in
      subst (λ pc. Safe setup (code setup) n (at_place pc c)) e
      (safe_behind setup (code setup) deep (length (start_code setup))
      (suc (length (start_code setup))) (at_start setup [] dims some_dims) refl refl
      (at_skip setup [] dims some_dims).0 (at_loop setup [] dims some_dims)
      (at_end setup [] dims some_dims) (code_length setup) c l n)

  pub always : {c : Control} → IsReached setup c → (n : ℕ) → Safe setup (code setup) n c
  always (starts e) n = subst (Safe setup (code setup) n) (sym e) (whole n)
  always (continues k l e) n = subst (Safe setup (code setup) n) (sym e) (behind k l n)
  always (follows before scalars r e) n =
      subst (Safe setup (code setup) n) (sym e) ((always r (suc n)).1 scalars)

reached : (setup : Setup) (scalars : Scalars) (first : Control) (n : ℕ) → IsReached setup first
    → IsReached setup (way_from setup (code setup) scalars n first)
reached setup scalars first zero r = r
reached setup scalars first (suc n) r =
    reached setup (later scalars)
    (control_after setup (op_at (code setup) first.pc) (scalars 0) first) n
    (follows first (scalars 0) r refl)

-- ---- a whole job

depth_of : (trees : List Tree) (b : ℕ) → b < length trees → greatest_depth trees ≤ most_open
    → depth (get_or trees b (Seq [])) ≤ most_open
depth_of [] b h l = absurd (omega arith)
depth_of (t ∷ ts) zero h l = omega (arith, l)
depth_of (t ∷ ts) (suc b) h l = depth_of ts b (omega (arith, h)) (omega (arith, l))

at_least : (vs : List VarId) → AllPairs (λ (a b : VarId). a.0 < b.0) vs → (d : VarId) (k : ℕ)
    → k < length vs → k ≤ (get_or vs k d).0
at_least vs rise d zero l = omega arith
at_least vs rise d (suc k) l =
    omega (arith, at_least vs rise d k (omega arith), rise k (suc k) d (omega arith) l)

few_outputs : (job : Job) → IsWhole job → (vs : List VarId) → vs ≡ job.out_vars → length vs ≤ 256
few_outputs job whole [] e = omega arith
few_outputs job whole (v ∷ vs) e =
    let rise = subst (AllPairs (λ (a b : VarId). a.0 < b.0)) (sym e) whole.outputs_rise in
    let stored = subst (All (λ u. IsStored job u 0)) (sym e) whole.outputs in
    omega (
      arith,
      at_least (v ∷ vs) rise v (length vs) (omega arith),
      (stored (length vs) v (omega arith)).0,
      whole.variables_limit,
    )

bins_length : (job : Job) → IsWhole job → (bs : List ℕ) → AreBins bs
    → length (bins_code (setup_of job) bs) ≤ length bs * 24576
bins_length job whole [] all = omega arith
bins_length job whole (b ∷ bs) all =
    let t = tree_code (setup_of job) (bin (setup_of job) b) in
    let rest = bins_code (setup_of job) bs in
    omega (
      arith,
      length-append t rest,
      bin_length job whole b all.0,
      bins_length job whole bs all.1,
    )

few_operations : (job : Job) → IsWhole job → length (code (setup_of job)) < 2 ^ 31
few_operations job whole =
    let setup = setup_of job in
    let start : length (start_code setup) ≤ 7 * 24576 =
    bins_length job whole (STARTUP ∷ WRAGH ∷ PARAMCHECK ∷ BASEGRID ∷ INITIAL ∷ POSTINITIAL
    ∷ POSTSTEP ∷ []) (
      omega arith,
      (
        omega arith,
        (
          omega arith,
          (omega arith, (omega arith, (omega arith, (omega arith, tt)))),
        ),
      ),
    ) in
    let steps : length (bins_code setup (PRESTEP ∷ EVOL ∷ POSTSTEP ∷ [])) ≤ 3 * 24576 =
    bins_length job whole (PRESTEP ∷ EVOL ∷ POSTSTEP ∷ [])
    (omega arith, (omega arith, (omega arith, tt))) in
    let ends : length (last_code setup) ≤ 2 * 24576 =
    bins_length job whole (TERMINATE ∷ SHUTDOWN ∷ []) (omega arith, (omega arith, tt)) in
    let tree = tree_code setup (bin setup CHECKPOINT) in
    let saves : length (tree ++ op.Save ∷ []) ≡ length tree + 1 =
    length-append tree (op.Save ∷ []) in
    let checkpoints : length tree ≤ 24576 = bin_length job whole CHECKPOINT (omega arith) in
    let due = op.Due (suc (length (checkpoint_code setup))) ∷ checkpoint_code setup in
    let before : length (bins_code setup (PRESTEP ∷ EVOL ∷ POSTSTEP ∷ []) ++ due)
    ≡ length (bins_code setup (PRESTEP ∷ EVOL ∷ POSTSTEP ∷ []))
    + suc (length (checkpoint_code setup)) =
    length-append (bins_code setup (PRESTEP ∷ EVOL ∷ POSTSTEP ∷ [])) due in
    let analysis : length (tree_code setup (bin setup ANALYSIS)) ≤ 24576 =
    bin_length job whole ANALYSIS (omega arith) in
    let output = op.Written (suc (length setup.out_vars)) ∷ pieces_code setup.out_vars in
    let from : length (tree_code setup (bin setup ANALYSIS) ++ output)
    ≡ length (tree_code setup (bin setup ANALYSIS))
    + suc (length (pieces_code setup.out_vars)) =
    length-append (tree_code setup (bin setup ANALYSIS)) output in
    let pieces : length (pieces_code setup.out_vars) ≡ length setup.out_vars =
    pieces_length setup.out_vars in
    let outputs : length setup.out_vars ≤ 256 = few_outputs job whole setup.out_vars refl in
    omega (
      arith,
      code_length setup,
      start,
      steps,
      ends,
      saves,
      checkpoints,
      before,
      analysis,
      from,
      pieces,
      outputs,
    )

pub places_fit : (job : Job) → IsWhole job → PlacesFit (setup_of job)
places_fit job whole =
    let dims = job.shape.dims in
    let some : 1 ≤ dims = whole.shape.some in
    let is : dims ≡ suc (dims - 1) = omega (arith, some) in
    record {
      few = few_operations job whole;
      fit = λ c r. always (setup_of job) (dims - 1) is
          (λ b h. depth_of job.plan.bins b
          (let e : length job.plan.bins ≡ bin_count = whole.bins in omega (arith, h, e))
          whole.depth_limit) r 0;
      reached = reached (setup_of job);
    }
