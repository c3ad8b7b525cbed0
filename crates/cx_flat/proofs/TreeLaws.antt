-- The operations of a tree do what its course does.
use Rattle.std.proofs.Common.{◌≡◌, ℕ, zero, suc, ◌+◌, ◌-◌, Bool, true, false, eqb, ℤ, pos, negsuc, List, [], ◌∷◌, ◌++◌, length, Some, None, refl, sym, ap, ◌∙◌, subst, arith, length-append, eq-eqb, cond}
use Rattle.std.proofs.lemmas.Bool.{ne_eqb}
use Rattle.cx_plan.specs.declared.variable.VarId.{VarId}
use Rattle.cx_plan.specs.declared.item.ItemKind.{ItemKind}
use Rattle.cx_plan.specs.declared.item.ItemKind.TheVariants.{Cell, Scalar, Sum, Least, Greatest, Count}
use Rattle.cx_plan.specs.declared.tree.Tree.{Tree, Seq', Call, Sync, If', While', Row_of-Tree, end_of-Tree, more_of-Tree}
use Rattle.cx_plan.specs.Setups.{Setup}
use Rattle.cx_plan.specs.Lookups.{item}
use Rattle.cx_plan.specs.Steering.{item_at}
use Rattle.cx_rule.specs.Routine.{Rule}
use Rattle.cx_model.specs.States.{State, scalar_of}
use Rattle.cx_model.specs.declared.ends.End.TheVariants.{WhileLimit}
use Rattle.cx_model.specs.Traces.{Exchanged, Tested}
use Rattle.cx_flat.specs.declared.op.Op.{Op}
use Rattle.cx_flat.specs.declared.op.Op.TheVariants.{Sweep, Apply, Give, Join, Post, Take, Test, Open, Turn, Again}
use Rattle.cx_model.specs.Courses.{note, limit_note, Course, rests, goes_on, turned, turn_course, by_zero, tested, turning, course_tree, course_row}
use Rattle.cx_flat.specs.Code.{op_at, item_code, sync_code, if_code, while_code, tree_code, row_code}
use Rattle.cx_flat.specs.Flats.{Control, last_turns, turned_on, to, next, leaves_loop, turns_back, Flat, stepped, notes_at, Exchange, Onward, Reduction, onward}
use Rattle.cx_flat.proofs.RunLaws.{StandsAt, stands_first, stands_then, last_of, turned_of, closed_of, Runs, runs_stay, runs_then, runs_to, runs_one, runs_pair, RunsBetween, between_then, between_to}

-- a part's control at a place, with a state
abbrev pub placed : Control → ℕ → State → Flat
placed c pc state = record { control = to c pc; state = state }

module _ (setup : Setup) (rules : List Rule) (ops : List Op) (dims : ℕ)
    (some_dims : setup.shape.dims ≡ suc dims) where
  -- from one place to another the operations do what a course does
  abbrev pub Does : Control → ℕ → ℕ → State → Course → Type 0
  Does c pc goal state course =
      Runs setup rules ops (placed c pc state) (placed c goal course.state) course.notes

  -- ---- items

  does_reduction : (c : Control) (pc k : ℕ) (state : State) → op_at ops pc ≡ Give k
      → op_at ops (suc pc) ≡ Join k
      → Does c pc (pc + 2) state (turn_course setup rules c.iteration k state)
  does_reduction c pc k state a b =
      let e : suc (suc pc) ≡ pc + 2 = omega arith in
      runs_to setup rules ops (placed c pc state)
      (placed c (suc (suc pc))
      (turned setup rules (item_at setup k c.iteration) state c.iteration))
      (placed c (pc + 2) (turned setup rules (item_at setup k c.iteration) state c.iteration))
      (turn_course setup rules c.iteration k state).notes
      (turn_course setup rules c.iteration k state).notes
      (runs_pair setup rules ops None None (placed c pc state) (placed c (suc pc) state) (Give k)
      (Join k) (Reduction k) a refl b refl refl refl refl refl refl refl)
      (ap (λ q. placed c q (turned setup rules (item_at setup k c.iteration) state c.iteration)) e)
      refl

  does_one : (c : Control) (pc k : ℕ) (state : State) (o : Op) → op_at ops pc ≡ o
      → Runs setup rules ops (placed c pc state)
      (placed c (suc pc) (turned setup rules (item_at setup k c.iteration) state c.iteration))
      (turn_course setup rules c.iteration k state).notes
      → Does c pc (pc + 1) state (turn_course setup rules c.iteration k state)
  does_one c pc k state o a r =
      let e : suc pc ≡ pc + 1 = omega arith in
      runs_to setup rules ops (placed c pc state)
      (placed c (suc pc) (turned setup rules (item_at setup k c.iteration) state c.iteration))
      (placed c (pc + 1) (turned setup rules (item_at setup k c.iteration) state c.iteration))
      (turn_course setup rules c.iteration k state).notes
      (turn_course setup rules c.iteration k state).notes r
      (ap (λ q. placed c q (turned setup rules (item_at setup k c.iteration) state c.iteration)) e)
      refl

  pub does_item : (c : Control) (pc k : ℕ) (state : State) (kind : ItemKind)
      → StandsAt ops pc (item_code kind k)
      → Does c pc (pc + length (item_code kind k)) state
      (turn_course setup rules c.iteration k state)
  does_item c pc k state Cell h =
      does_one c pc k state (Sweep k) h.0
      (runs_one setup rules ops (placed c pc state) (Sweep k) h.0 refl)
  does_item c pc k state Scalar h =
      does_one c pc k state (Apply k) h.0
      (runs_one setup rules ops (placed c pc state) (Apply k) h.0 refl)
  does_item c pc k state Sum h = does_reduction c pc k state h.0 h.1.0
  does_item c pc k state Least h = does_reduction c pc k state h.0 h.1.0
  does_item c pc k state Greatest h = does_reduction c pc k state h.0 h.1.0
  does_item c pc k state Count h = does_reduction c pc k state h.0 h.1.0

  -- ---- SYNC

  -- from a direction on, behind the one before it
  does_sync : (c : Control) (pc : ℕ) (vars : List VarId) (path : List ℕ) (state : State)
      (d count : ℕ) → d + suc count ≡ setup.shape.dims
      → StandsAt ops pc (sync_code vars path d (suc count))
      → RunsBetween setup rules ops (onward d vars) None (placed c pc state)
      (placed c (pc + length (sync_code vars path d (suc count))) state)
      (note (Exchanged vars path state) ∷ [])
  does_sync c pc vars path state d zero e h =
      let p : suc (suc pc) ≡ pc + 2 = omega arith in
      let q : eqb (suc d) setup.shape.dims ≡ true = eq-eqb (suc d) setup.shape.dims (omega arith) in
      between_to setup rules ops (onward d vars) None (placed c pc state)
      (placed c (suc (suc pc)) state) (placed c (pc + 2) state)
      (notes_at setup rules (Take d vars path) (to c (suc pc)) state)
      (note (Exchanged vars path state) ∷ [])
      (runs_pair setup rules ops (onward d vars) None (placed c pc state) (placed c (suc pc) state)
      (Post d vars) (Take d vars path) (Exchange d vars) h.0 refl h.1.0 refl refl refl refl refl
      (ap (λ b. cond b None (Some (Onward (suc d) vars))) q) refl)
      (ap (λ q. placed c q state) p) (ap (λ b. cond b (note (Exchanged vars path state) ∷ []) []) q)
  does_sync c pc vars path state d (suc count) e h =
      let p : suc (suc pc) + length (sync_code vars path (suc d) (suc count))
      ≡ pc + length (sync_code vars path d (suc (suc count))) = omega arith in
      let q : eqb (suc d) setup.shape.dims ≡ false =
      ne_eqb (suc d) setup.shape.dims (λ z. omega arith) in
      between_to setup rules ops (onward d vars) None (placed c pc state)
      (placed c (suc (suc pc) + length (sync_code vars path (suc d) (suc count))) state)
      (placed c (pc + length (sync_code vars path d (suc (suc count)))) state)
      (note (Exchanged vars path state) ∷ []) (note (Exchanged vars path state) ∷ [])
      (between_then setup rules ops (onward d vars) (onward (suc d) vars) None (placed c pc state)
      (placed c (suc (suc pc)) state)
      (placed c (suc (suc pc) + length (sync_code vars path (suc d) (suc count))) state) []
      (note (Exchanged vars path state) ∷ [])
      (between_to setup rules ops (onward d vars) (onward (suc d) vars) (placed c pc state)
      (placed c (suc (suc pc)) state) (placed c (suc (suc pc)) state)
      (notes_at setup rules (Take d vars path) (to c (suc pc)) state) []
      (runs_pair setup rules ops (onward d vars) (onward (suc d) vars) (placed c pc state)
      (placed c (suc pc) state) (Post d vars) (Take d vars path) (Exchange d vars)
      h.0 refl h.1.0 refl refl refl refl refl
      (ap (λ b. cond b None (Some (Onward (suc d) vars))) q) refl) refl
      (ap (λ b. cond b (note (Exchanged vars path state) ∷ []) []) q))
      (does_sync c (suc (suc pc)) vars path state (suc d) count (omega arith) h.1.1))
      (ap (λ q. placed c q state) p) refl

  -- ---- tests

  -- what is done where the scalar isn't 0, behind the test
  does_if : (c : Control) (pc : ℕ) (v : VarId) (path : List ℕ) (body : List Op)
      (more : State → Course) (state : State) → StandsAt ops pc (if_code v path body)
      → Does c (suc pc) (suc pc + length body) state (more state)
      → Does c pc (pc + length (if_code v path body)) state (tested v path more state)
  does_if c pc v path body more state h inner =
      go (scalar_of state v) (runs_one setup rules ops (placed c pc state)
      (Test v path (suc (length body))) h.0 refl)
    where
      go : (n : ℤ) → Runs setup rules ops (placed c pc state)
          (record {
            control = by_zero n (to c (pc + suc (length body))) (to c (suc pc));
            state = state;
          }) (note (Tested v path state) ∷ [])
          → Runs setup rules ops (placed c pc state)
          (placed c (pc + suc (length body)) (by_zero n (rests state) (more state)).state)
          (note (Tested v path state) ∷ (by_zero n (rests state) (more state)).notes)
      go (pos zero) r = r
      go (pos (suc n)) r =
          let e : suc pc + length body ≡ pc + suc (length body) = omega arith in
          runs_to setup rules ops (placed c pc state)
          (placed c (suc pc + length body) (more state).state)
          (placed c (pc + suc (length body)) (more state).state)
          (note (Tested v path state) ∷ (more state).notes)
          (note (Tested v path state) ∷ (more state).notes)
          (runs_then setup rules ops (placed c pc state) (placed c (suc pc) state)
          (placed c (suc pc + length body) (more state).state) (note (Tested v path state) ∷ [])
          (more state).notes r inner)
          (ap (λ q. placed c q (more state).state) e) refl
      go (negsuc n) r =
          let e : suc pc + length body ≡ pc + suc (length body) = omega arith in
          runs_to setup rules ops (placed c pc state)
          (placed c (suc pc + length body) (more state).state)
          (placed c (pc + suc (length body)) (more state).state)
          (note (Tested v path state) ∷ (more state).notes)
          (note (Tested v path state) ∷ (more state).notes)
          (runs_then setup rules ops (placed c pc state) (placed c (suc pc) state)
          (placed c (suc pc + length body) (more state).state) (note (Tested v path state) ∷ [])
          (more state).notes r inner)
          (ap (λ q. placed c q (more state).state) e) refl

  -- ---- WHILE

  -- within a WHILE whose test stands at a place, after so many turns
  abbrev pub inside : Control → ℕ → ℕ → Control
  inside c f t = record {
    pc = 0;
    iteration = c.iteration;
    opened = c.opened ++ record { place = f; turns = t } ∷ [];
  }

  last_is : (c : Control) (f t : ℕ) (b : Bool) → eqb t setup.while_limit ≡ b
      → eqb (last_turns (c.opened ++ record { place = f; turns = t } ∷ [])) setup.while_limit ≡ b
  last_is c f t b e = ap (λ n. eqb n setup.while_limit)
      (last_of c.opened (record { place = f; turns = t })) ∙ e

  -- out of the WHILE
  out_is : (c : Control) (f t pc : ℕ) → leaves_loop (to (inside c f t) f) pc ≡ to c pc
  out_is c f t pc = ap (λ os. record { pc = pc; iteration = c.iteration; opened = os })
      (closed_of c.opened (record { place = f; turns = t }))

  -- back to its test
  back_is : (c : Control) (f t l : ℕ)
      → turns_back (to (inside c f t) (suc f + l)) (suc f + l - suc l) ≡ to (inside c f (suc t)) f
  back_is c f t l =
      let e : suc f + l - suc l ≡ f = omega arith in
      ap (λ n. record {
        pc = n;
        iteration = c.iteration;
        opened = turned_on (c.opened ++ record { place = f; turns = t } ∷ []);
      }) e
      ∙ ap (λ os. record { pc = f; iteration = c.iteration; opened = os })
      (turned_of c.opened (record { place = f; turns = t }))

  does_turns : (c : Control) (f l : ℕ) (v : VarId) (path : List ℕ) (more : State → Course)
      → op_at ops f ≡ Turn v path (suc (suc l)) → op_at ops (suc f + l) ≡ Again (suc l)
      → ((t : ℕ) (s : State) → Does (inside c f t) (suc f) (suc f + l) s (more s))
      → (turns t : ℕ) → t + turns ≡ setup.while_limit → (state : State)
      → Runs setup rules ops (placed (inside c f t) f state)
      (placed c (f + suc (suc l))
      (turning v path (WhileLimit c.iteration path) more turns state).state)
      (turning v path (WhileLimit c.iteration path) more turns state).notes
  does_turns c f l v path more at_test at_end body zero t sum state =
      let b : eqb (last_turns (c.opened ++ record { place = f; turns = t } ∷ [])) setup.while_limit
      ≡ true = last_is c f t true (eq-eqb t setup.while_limit (omega arith)) in
      runs_to setup rules ops (placed (inside c f t) f state)
      (stepped setup rules (Turn v path (suc (suc l))) (placed (inside c f t) f state))
      (placed c (f + suc (suc l)) state)
      (notes_at setup rules (Turn v path (suc (suc l))) (to (inside c f t) f) state)
      (limit_note v path (WhileLimit c.iteration path) state ∷ [])
      (runs_one setup rules ops (placed (inside c f t) f state) (Turn v path (suc (suc l)))
      at_test refl)
      (ap (λ z. record {
        control =
            cond z (leaves_loop (to (inside c f t) f) (f + suc (suc l)))
            (by_zero (scalar_of state v) (leaves_loop (to (inside c f t) f) (f + suc (suc l)))
            (next (to (inside c f t) f)));
        state = state;
      }) b
      ∙ ap (λ z. record { control = z; state = state }) (out_is c f t (f + suc (suc l))))
      (ap (λ z. cond z (limit_note v path (WhileLimit c.iteration path) state)
      (note (Tested v path state)) ∷ []) b)
  does_turns c f l v path more at_test at_end body (suc turns) t sum state =
      let b : eqb (last_turns (c.opened ++ record { place = f; turns = t } ∷ [])) setup.while_limit
      ≡ false = last_is c f t false (ne_eqb t setup.while_limit (λ z. omega arith)) in
      go (scalar_of state v)
      (runs_to setup rules ops (placed (inside c f t) f state)
      (stepped setup rules (Turn v path (suc (suc l))) (placed (inside c f t) f state))
      (record {
        control = by_zero (scalar_of state v) (to c (f + suc (suc l)))
            (to (inside c f t) (suc f));
        state = state;
      })
      (notes_at setup rules (Turn v path (suc (suc l))) (to (inside c f t) f) state)
      (note (Tested v path state) ∷ [])
      (runs_one setup rules ops (placed (inside c f t) f state) (Turn v path (suc (suc l)))
      at_test refl)
      (ap (λ z. record {
        control =
            cond z (leaves_loop (to (inside c f t) f) (f + suc (suc l)))
            (by_zero (scalar_of state v) (leaves_loop (to (inside c f t) f) (f + suc (suc l)))
            (next (to (inside c f t) f)));
        state = state;
      }) b
      ∙ ap (λ z. record {
        control = by_zero (scalar_of state v) z (to (inside c f t) (suc f));
        state = state;
      }) (out_is c f t (f + suc (suc l))))
      (ap (λ z. cond z (limit_note v path (WhileLimit c.iteration path) state)
      (note (Tested v path state)) ∷ []) b))
      (runs_then setup rules ops (placed (inside c f t) (suc f) state)
      (placed (inside c f t) (suc f + l) (more state).state)
      (placed c (f + suc (suc l))
      (turning v path (WhileLimit c.iteration path) more turns (more state).state).state)
      (more state).notes (turning v path (WhileLimit c.iteration path) more turns
      (more state).state).notes (body t state)
      (runs_then setup rules ops (placed (inside c f t) (suc f + l) (more state).state)
      (placed (inside c f (suc t)) f (more state).state)
      (placed c (f + suc (suc l))
      (turning v path (WhileLimit c.iteration path) more turns (more state).state).state)
      [] (turning v path (WhileLimit c.iteration path) more turns (more state).state).notes
      (runs_to setup rules ops (placed (inside c f t) (suc f + l) (more state).state)
      (stepped setup rules (Again (suc l))
      (placed (inside c f t) (suc f + l) (more state).state))
      (placed (inside c f (suc t)) f (more state).state) [] []
      (runs_one setup rules ops (placed (inside c f t) (suc f + l) (more state).state)
      (Again (suc l)) at_end refl)
      (ap (λ z. record { control = z; state = (more state).state }) (back_is c f t l)) refl)
      (does_turns c f l v path more at_test at_end body turns (suc t) (omega arith)
      (more state).state)))
    where
      go : (n : ℤ) → Runs setup rules ops (placed (inside c f t) f state)
          (record {
            control = by_zero n (to c (f + suc (suc l))) (to (inside c f t) (suc f));
            state = state;
          }) (note (Tested v path state) ∷ [])
          → Runs setup rules ops (placed (inside c f t) (suc f) state)
          (placed c (f + suc (suc l))
          (turning v path (WhileLimit c.iteration path) more turns (more state).state).state)
          ((more state).notes
          ++ (turning v path (WhileLimit c.iteration path) more turns (more state).state).notes)
          → Runs setup rules ops (placed (inside c f t) f state)
          (placed c (f + suc (suc l))
          (by_zero n (rests state)
          (goes_on (more state)
          (turning v path (WhileLimit c.iteration path) more turns))).state)
          (note (Tested v path state)
          ∷ (by_zero n (rests state)
          (goes_on (more state)
          (turning v path (WhileLimit c.iteration path) more turns))).notes)
      go (pos zero) r s = r
      go (pos (suc n)) r s = runs_then setup rules ops (placed (inside c f t) f state)
          (placed (inside c f t) (suc f) state)
          (placed c (f + suc (suc l))
          (turning v path (WhileLimit c.iteration path) more turns (more state).state).state)
          (note (Tested v path state) ∷ [])
          ((more state).notes
          ++ (turning v path (WhileLimit c.iteration path) more turns (more state).state).notes) r s
      go (negsuc n) r s = runs_then setup rules ops (placed (inside c f t) f state)
          (placed (inside c f t) (suc f) state)
          (placed c (f + suc (suc l))
          (turning v path (WhileLimit c.iteration path) more turns (more state).state).state)
          (note (Tested v path state) ∷ [])
          ((more state).notes
          ++ (turning v path (WhileLimit c.iteration path) more turns (more state).state).notes) r s

  does_while : (c : Control) (pc : ℕ) (v : VarId) (path : List ℕ) (body : List Op)
      (more : State → Course) (state : State) → StandsAt ops pc (while_code v path body)
      → ((t : ℕ) (s : State) → StandsAt ops (suc (suc pc)) body
      → Does (inside c (suc pc) t) (suc (suc pc)) (suc (suc pc) + length body) s (more s))
      → Does c pc (pc + length (while_code v path body)) state
      (turning v path (WhileLimit c.iteration path) more setup.while_limit state)
  does_while c pc v path body more state h inner =
      let within : StandsAt ops (suc (suc pc)) body =
      stands_first ops (suc (suc pc)) body (Again (suc (length body)) ∷ []) h.1.1 in
      let at_end : op_at ops (suc (suc pc) + length body) ≡ Again (suc (length body)) =
      (stands_then ops (suc (suc pc)) body (Again (suc (length body)) ∷ []) h.1.1).0 in
      let e : suc pc + suc (suc (length body)) ≡ pc + length (while_code v path body) =
      omega (arith, length-append body (Again (suc (length body)) ∷ [])) in
      let course = turning v path (WhileLimit c.iteration path) more setup.while_limit state in
      runs_to setup rules ops (placed c pc state)
      (placed c (suc pc + suc (suc (length body))) course.state)
      (placed c (pc + length (while_code v path body)) course.state) course.notes course.notes
      (runs_then setup rules ops (placed c pc state) (placed (inside c (suc pc) 0) (suc pc) state)
      (placed c (suc pc + suc (suc (length body))) course.state) [] course.notes
      (runs_one setup rules ops (placed c pc state) Open h.0 refl)
      (does_turns c (suc pc) (length body) v path more h.1.0 at_end (λ t s. inner t s within)
      setup.while_limit 0 (omega arith) state))
      (ap (λ q. placed c q course.state) e) refl

  -- ---- trees

  mutual
    pub does_tree : (c : Control) (pc : ℕ) (tree : Tree) (state : State)
        → StandsAt ops pc (tree_code setup tree)
        → Does c pc (pc + length (tree_code setup tree)) state
        (course_tree setup rules c.iteration tree state)
    does_tree c pc (Seq' shape all) state h = does_row c pc all state h
    does_tree c pc (Call k) state h = does_item c pc k state (item setup k).kind h
    does_tree c pc (Sync vars path) state h =
        subst (λ n. Runs setup rules ops (placed c pc state)
        (placed c (pc + length (sync_code vars path 0 n)) state)
        (note (Exchanged vars path state) ∷ [])) (sym some_dims)
        (does_sync c pc vars path state 0 dims
        (let e : 0 + suc dims ≡ suc dims = omega arith in e ∙ sym some_dims)
        (subst (λ n. StandsAt ops pc (sync_code vars path 0 n)) some_dims h))
    does_tree c pc (If' v path shape one) state h =
        does_if c pc v path (row_code setup one) (course_row setup rules c.iteration one) state h
        (does_row c (suc pc) one state h.1)
    does_tree c pc (While' v path shape one) state h =
        does_while c pc v path (row_code setup one) (course_row setup rules c.iteration one) state h
        (λ t s within. does_row (inside c (suc pc) t) (suc (suc pc)) one s within)

    pub does_row : {m : _} → (c : Control) (pc : ℕ) (row : Row_of-Tree m) (state : State)
        → StandsAt ops pc (row_code setup row)
        → Does c pc (pc + length (row_code setup row)) state
        (course_row setup rules c.iteration row state)
    does_row c pc end_of-Tree state h =
        let e : pc ≡ pc + 0 = omega arith in
        runs_to setup rules ops (placed c pc state) (placed c pc state) (placed c (pc + 0) state) []
        [] (runs_stay setup rules ops (placed c pc state)) (ap (λ q. placed c q state) e) refl
    does_row c pc (more_of-Tree tree rest) state h =
        let a = tree_code setup tree in
        let b = row_code setup rest in
        let first = course_tree setup rules c.iteration tree state in
        let then = course_row setup rules c.iteration rest first.state in
        let e : pc + length a + length b ≡ pc + length (a ++ b) =
        omega (arith, length-append a b) in
        runs_to setup rules ops (placed c pc state) (placed c (pc + length a + length b) then.state)
        (placed c (pc + length (a ++ b)) then.state) (first.notes ++ then.notes)
        (first.notes ++ then.notes)
        (runs_then setup rules ops (placed c pc state) (placed c (pc + length a) first.state)
        (placed c (pc + length a + length b) then.state) first.notes then.notes
        (does_tree c pc tree state (stands_first ops pc a b h))
        (does_row c (pc + length a) rest first.state (stands_then ops pc a b h)))
        (ap (λ q. placed c q then.state) e) refl
