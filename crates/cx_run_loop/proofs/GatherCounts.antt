-- What parts have counted that wait for each other: no more than the entries before the next
-- checkpoint place count, and just that once they are at it.
use Rattle.std.proofs.Common.{◌≡◌, ◌≤◌, ◌<◌, ◌+◌, ℕ, zero, suc, ◌⊎◌, inl, inr, Bool, true, false, List, [], ◌∷◌, ◌++◌, Option, Some, None, arith, refl, sym, ◌∙◌, ap, subst, append_assoc, append-nil, cond}
use Rattle.std.proofs.lemmas.Bool.{and_from, cases_lt, lt-ltb}
use Rattle.std.specs.Prelude.{if◌then◌else◌, ◌==◌}
use Rattle.cx_plan.specs.declared.item.Item.{Item}
use Rattle.cx_plan.specs.Setups.{Setup}
use Rattle.cx_plan.specs.Steering.{item_at}
use Rattle.cx_rule.specs.Routine.{Rule}
use Rattle.cx_rule.specs.States.{State}
use Rattle.cx_model.specs.declared.ends.End.TheVariants.{WhileLimit}
use Rattle.cx_model.specs.Courses.{Note, note, turn_note, limit_note}
use Rattle.cx_model.specs.Runs.{Lengths}
use Rattle.cx_model.specs.Traces.{Entry, Turned, Overflowed, Exchanged, Tested, Rotated, Wrote, Saved}
use Rattle.cx_model.specs.Turns.{turn, values_of}
use Rattle.cx_flat.specs.Flats.{Control, Flat, ends_pair, last_turns, notes_at}
use Rattle.cx_flat.specs.declared.op.Op.{Op}
use Rattle.cx_flat.specs.declared.op.Op.TheVariants.{Sweep, Apply, Give, Join, Post, Take, Test, Open, Turn, Again, Rotate, Due, Written, Skip, Next, Piece, Save, Halt}
use Rattle.law_network.specs.Machine.{World, sum_below}
use Rattle.law_network.specs.Agreement.{spent, taken, takes}
use Rattle.law_network.proofs.Put as put
use Rattle.law_parts.specs.Ends.{noted}
use Rattle.law_parts.specs.Holding.{Held}
use Rattle.law_parts.specs.Laws.{IsReachedState}
use Rattle.law_parts.specs.Moves.{Message, Channel, Wire, op_posts, faces_by}
use Rattle.law_parts.specs.Nets.{net, within_lead, costs, values_sum, taken_sum}
use Rattle.law_parts.specs.Runs.{Run, Oracle, cut_of, parts_in, next_op, undivided, op_of, notes_of, guided}
use Rattle.law_parts.specs.Truths.{script, mail_at, entries_of}
use Rattle.law_parts.specs.Work.{work, carried_count, total_sum}
use Rattle.law_parts.proofs.CountLaws.{sum_same, sum_add, sum_none}
use Rattle.law_parts.proofs.PlaceTotals.{points_before, values_before, done_count}
use Rattle.law_parts.proofs.TraceTotals.{AllQuiet, entries_both}
use Rattle.law_parts.proofs.WholeRun.{IsRun, names_at, first_pair, next_pairs}
use Rattle.law_reached.specs.Works.{works_of}
use Rattle.law_reached.proofs.SentSums.{pair_sum, done_sum, op_sent, sum_before}
use Rattle.law_reached.proofs.TakenLaws.{values_both, taken_next}
use Rattle.law_reached.proofs.TellLaws.{way}
use Rattle.cx_core.specs.Gathered.{is_save}
use Rattle.cx_run_loop.specs.Sums.{AreUnsaved}

-- ---- entries without a checkpoint place

pub unsaved_both : (a b : List Entry) → AreUnsaved a → AreUnsaved b → AreUnsaved (a ++ b)
unsaved_both [] b u v = v
unsaved_both (e ∷ a) b u v = (u.0, unsaved_both a b u.1 v)

pub unsaved_left : (a b : List Entry) → AreUnsaved (a ++ b) → AreUnsaved a
unsaved_left [] b u = tt
unsaved_left (e ∷ a) b u = (u.0, unsaved_left a b u.1)

pub unsaved_right : (a b : List Entry) → AreUnsaved (a ++ b) → AreUnsaved b
unsaved_right [] b u = u
unsaved_right (e ∷ a) b u = unsaved_right a b u.1

pub works_unsaved : (es : List Entry) → AreUnsaved (works_of es) → AreUnsaved es
works_unsaved [] u = tt
works_unsaved (Wrote v i text s ∷ es) u = (tt, works_unsaved es u.1)
works_unsaved (Saved i s ∷ es) u = absurd u.0
works_unsaved (Turned k i s ∷ es) u = (tt, works_unsaved es u)
works_unsaved (Overflowed k i s ∷ es) u = (tt, works_unsaved es u)
works_unsaved (Exchanged vars path s ∷ es) u = (tt, works_unsaved es u)
works_unsaved (Tested v path s ∷ es) u = (tt, works_unsaved es u)
works_unsaved (Rotated s ∷ es) u = (tt, works_unsaved es u)

-- ---- what an operation notes that hands in no checkpoint

module _ (setup : Setup) (rules : List Rule) where
  turn_unsaved : (k iteration : ℕ) (x : Item) (s : State) (o : Option State)
      → AreUnsaved (entries_of (turn_note k x iteration s o ∷ []))
  turn_unsaved k iteration x s None = (tt, tt)
  turn_unsaved k iteration x s (Some y) = (tt, tt)

  op_unsaved : (o : Op) (c : Control) (s : State) → is_save o ≡ false
      → AreUnsaved (entries_of (notes_at setup rules o c s))
  op_unsaved (Sweep k) c s e =
      turn_unsaved k c.iteration (item_at setup k c.iteration) s
      (turn setup rules (item_at setup k c.iteration) s c.iteration)
  op_unsaved (Apply k) c s e =
      turn_unsaved k c.iteration (item_at setup k c.iteration) s
      (turn setup rules (item_at setup k c.iteration) s c.iteration)
  op_unsaved (Give k) c s e = tt
  op_unsaved (Join k) c s e =
      turn_unsaved k c.iteration (item_at setup k c.iteration) s
      (turn setup rules (item_at setup k c.iteration) s c.iteration)
  op_unsaved (Post d vars) c s e = tt
  op_unsaved (Take d vars path) c s e = go (suc d == setup.shape.dims)
    where
      go : (b : Bool)
          → AreUnsaved (entries_of (if b then note (Exchanged vars path s) ∷ [] else []))
      go true = (tt, tt)
      go false = tt
  op_unsaved (Test v path skip) c s e = (tt, tt)
  op_unsaved Open c s e = tt
  op_unsaved (Turn v path skip) c s e = go (last_turns c.opened == setup.while_limit)
    where
      go : (b : Bool) → AreUnsaved (entries_of
          ((if b then limit_note v path (WhileLimit c.iteration path) s else note (Tested v path s))
          ∷ []))
      go true = (tt, tt)
      go false = (tt, tt)
  op_unsaved (Again back) c s e = tt
  op_unsaved Rotate c s e = (tt, tt)
  op_unsaved (Due skip) c s e = tt
  op_unsaved (Written skip) c s e = tt
  op_unsaved (Skip skip) c s e = tt
  op_unsaved (Next back) c s e = tt
  op_unsaved (Piece v) c s e = (tt, tt)
  op_unsaved Save c s e = absurd cc
  op_unsaved Halt c s e = tt

-- an operation that hands in a checkpoint
pub save_is : (o : Op) → is_save o ≡ true → o ≡ Save
save_is Save e = refl
save_is (Sweep k) e = absurd cc
save_is (Apply k) e = absurd cc
save_is (Give k) e = absurd cc
save_is (Join k) e = absurd cc
save_is (Post d vars) e = absurd cc
save_is (Take d vars path) e = absurd cc
save_is (Test v path skip) e = absurd cc
save_is Open e = absurd cc
save_is (Turn v path skip) e = absurd cc
save_is (Again back) e = absurd cc
save_is Rotate e = absurd cc
save_is (Due skip) e = absurd cc
save_is (Written skip) e = absurd cc
save_is (Skip skip) e = absurd cc
save_is (Next back) e = absurd cc
save_is (Piece v) e = absurd cc
save_is Halt e = absurd cc

-- ---- by places

module _ (r : Run) where
  -- what is noted before a place begins with what is noted before an earlier one
  pub noted_more : (m n : ℕ) → m ≤ n → (rest : List Note) × (noted r n ≡ noted r m ++ rest)
  noted_more m zero le = ([], ap (noted r) (none m le) ∙ sym (append-nil (noted r m)))
    where
      none : (m : ℕ) → m ≤ 0 → 0 ≡ m
      none m le = omega (arith, le)
  noted_more m (suc n) le = go (λ l. noted_more m n l) (cases_lt n m)
    where
      same : n < m → suc n ≡ m
      same l = omega (arith, l, le)

      go : (m ≤ n → (rest : List Note) × (noted r n ≡ noted r m ++ rest)) → (n < m) ⊎ (m ≤ n)
          → (rest : List Note) × (noted r (suc n) ≡ noted r m ++ rest)
      go more (inl l) = ([], ap (noted r) (same l) ∙ sym (append-nil (noted r m)))
      go more (inr l) =
          let p = more l in (
            p.0 ++ notes_of r n,
            ap (λ (ns : List Note). ns ++ notes_of r n) p.1
                ∙ append_assoc (noted r m) p.0 (notes_of r n),
          )

  pub entries_more : (m n : ℕ) → m ≤ n
      → (rest : List Entry) × (entries_of (noted r n) ≡ entries_of (noted r m) ++ rest)
  entries_more m n le =
      let p = noted_more m n le in
      (entries_of p.0, ap entries_of p.1 ∙ entries_both (noted r m) p.0)

  -- none of the operations before a place hands in a checkpoint
  abbrev pub AreNone : ℕ → Type 0
  AreNone m = (j : ℕ) → j < m → is_save (op_of r j) ≡ false

  pub none_noted : (m : ℕ) → AreNone m → AreUnsaved (entries_of (noted r m))
  none_noted zero none = tt
  none_noted (suc m) none =
      subst AreUnsaved (sym (entries_both (noted r m) (notes_of r m)))
      (unsaved_both (entries_of (noted r m)) (entries_of (notes_of r m))
      (none_noted m (λ j l. none j (omega (arith, l))))
      (op_unsaved r.setup r.rules (op_of r m) (undivided r m).control (undivided r m).state
      (none m (omega arith))))

  -- where one does it is noted
  pub notes_saved : (m : ℕ) → op_of r m ≡ Save
      → entries_of (notes_of r m)
      ≡ Saved (undivided r m).control.iteration (undivided r m).state ∷ []
  notes_saved m e =
      ap (λ (q : Op). entries_of (notes_at r.setup r.rules q (undivided r m).control
      (undivided r m).state)) e

  pub saved_there : (m n : ℕ) → m < n → op_of r m ≡ Save → AreUnsaved (entries_of (noted r n)) → ⊥
  saved_there m n l e u =
      let p = entries_more (suc m) n l in
      let here : AreUnsaved (entries_of (noted r m ++ notes_of r m)) =
      unsaved_left (entries_of (noted r (suc m))) p.0 (subst AreUnsaved p.1 u) in
      let there : AreUnsaved (entries_of (notes_of r m)) =
      unsaved_right (entries_of (noted r m)) (entries_of (notes_of r m))
      (subst AreUnsaved (entries_both (noted r m) (notes_of r m)) here) in
      (subst AreUnsaved (notes_saved m e) there).0

  -- the first of so many places at which one does, or the last of them
  pub record First (count : ℕ) : Type 0 where
    pub place : ℕ
    pub within : place ≤ count
    pub none : AreNone place
    pub saves : (place ≡ count) ⊎ ((place < count) × (op_of r place ≡ Save))

  pub first_save : (count : ℕ) → First count
  first_save zero = record {
    place = 0;
    within = omega arith;
    none = λ j l. absurd (let bad : ⊥ = omega (arith, l) in bad);
    saves = inl refl;
  }
  first_save (suc count) = go (first_save count) (is_save (op_of r count)) refl
    where
      go : First count → (b : Bool) → is_save (op_of r count) ≡ b → First (suc count)
      go f b is = by f.saves
        where
          le : f.place ≤ count
          le = f.within

          by : (f.place ≡ count) ⊎ ((f.place < count) × (op_of r f.place ≡ Save))
              → First (suc count)
          by (inr early) =
              let l : f.place < count = early.0 in
              record {
                place = f.place;
                within = omega (arith, le);
                none = f.none;
                saves = inr (omega (arith, l), early.1);
              }
          by (inl end) = at b is
            where
              all : (j : ℕ) → j < count → is_save (op_of r j) ≡ false
              all j l = f.none j (subst (λ (m : ℕ). j < m) (sym end) l)

              more : is_save (op_of r count) ≡ false → (j : ℕ) → (j < count) ⊎ (count ≤ j)
                  → j < suc count → is_save (op_of r j) ≡ false
              more fails j (inl l) m = all j l
              more fails j (inr l) m =
                  let same : count ≡ j = omega (arith, l, m) in
                  subst (λ (i : ℕ). is_save (op_of r i) ≡ false) same fails

              at : (b : Bool) → is_save (op_of r count) ≡ b → First (suc count)
              at true e = record {
                place = count;
                within = omega arith;
                none = all;
                saves = inr (omega arith, save_is (op_of r count) e);
              }
              at false e = record {
                place = suc count;
                within = omega arith;
                none = λ j l. more e j (cases_lt j count) l;
                saves = inl refl;
              }

-- ---- sums up to a place

module _ (tells : Type 0) (t : tells) (r : Run) (run : IsRun r) (o : Oracle)
    (w : World Held (Message tells) Channel Lengths) (st : IsReachedState tells r o w) where
  -- what all parts count before a place
  abbrev pub spent_all : ℕ → ℕ → ℕ
  spent_all i m = sum_below (parts_in r) (λ k. spent (net tells within_lead r o) i k m)

  pub op_is : (n : ℕ) → next_op r (guided r o n).control ≡ op_of r n
  op_is n = ap (λ (g : Flat). next_op r g.control) (way tells r run o st.oracle_is t n)

  pub spent_is : (i m : ℕ) → spent_all i m
      ≡ sum_below m (λ n. sum_below (parts_in r) (λ k. costs r i k (op_of r n)))
  spent_is i m =
      put.sum_swap (parts_in r) m (λ k n. costs r i k (next_op r (guided r o n).control))
      ∙ put.sum_same m
      (λ n. sum_below (parts_in r) (λ k. costs r i k (next_op r (guided r o n).control)))
      (λ n. sum_below (parts_in r) (λ k. costs r i k (op_of r n)))
      (λ n l. put.sum_same (parts_in r)
      (λ k. costs r i k (next_op r (guided r o n).control)) (λ k. costs r i k (op_of r n))
      (λ k q. ap (costs r i k) (op_is n)))

  -- no exchange is under way there
  abbrev IsApart : ℕ → Type 0
  IsApart m = ends_pair (op_of r m) ≡ None

  pub points_to : (m : ℕ) → AllQuiet (noted r m)
      → spent_all 0 m ≡ work r.setup (cut_of r) (entries_of (noted r m))
  points_to m quiet = spent_is 0 m ∙ points_before r run m quiet

  plus_none : (a b : ℕ) → b ≡ 0 → a + b ≡ a
  plus_none a b e = omega (arith, e)

  pub values_to : (m : ℕ) → IsApart m
      → spent_all 1 m ≡ carried_count r.setup (cut_of r) (entries_of (noted r m))
  values_to m apart =
      spent_is 1 m ∙ values_before r run m
      ∙ plus_none (carried_count r.setup (cut_of r) (entries_of (noted r m)))
      (done_count r (ends_pair (op_of r m))) (ap (done_count r) apart)

  -- ---- the sum of the values

  abbrev sum_at : ℕ → ℕ
  sum_at n = sum_below (parts_in r)
      (λ a. sum_below (parts_in r) (λ b. values_sum t (taken (script tells r o) (Wire a b) n)))

  abbrev step_at : ℕ → ℕ
  step_at n = sum_below (parts_in r)
      (λ a. sum_below (parts_in r) (λ b. values_sum t (takes (script tells r o) (Wire a b) n)))

  nothing : sum_below (parts_in r) (λ a. sum_below (parts_in r) (λ b. 0)) ≡ 0
  nothing = sum_same (parts_in r) _ _ (λ a l. sum_none (parts_in r)) ∙ sum_none (parts_in r)

  sum_next : (n : ℕ) → sum_at (suc n) ≡ sum_at n + step_at n
  sum_next n =
      sum_same (parts_in r) _ _ (λ a l.
      sum_same (parts_in r) _ _ (λ b k.
      ap (values_sum t) (taken_next (script tells r o) (Wire a b) n)
      ∙ values_both t (taken (script tells r o) (Wire a b) n)
      (takes (script tells r o) (Wire a b) n))
      ∙ sum_add (parts_in r) (λ b. values_sum t (taken (script tells r o) (Wire a b) n))
      (λ b. values_sum t (takes (script tells r o) (Wire a b) n)))
      ∙ sum_add (parts_in r) (λ a.
      sum_below (parts_in r) (λ b. values_sum t (taken (script tells r o) (Wire a b) n)))
      (λ a. sum_below (parts_in r) (λ b. values_sum t (takes (script tells r o) (Wire a b) n)))

  mail_is : (a b m : ℕ) → a < parts_in r → b < parts_in r
      → mail_at tells r o (Wire a b) m
      ≡ op_posts r (op_of r m) m
      (faces_by {tells = tells} r a (values_of r.setup (undivided r m).state)) (λ i. o a m)
      (Wire a b)
  mail_is a b m l k =
      ap (λ (x : Bool). cond x
      (op_posts r (next_op r (guided r o m).control) m
      (faces_by {tells = tells} r a (values_of r.setup (undivided r m).state)) (λ i. o a m)
      (Wire a b)) [])
      (and_from _ _ (lt-ltb a (parts_in r) l) (lt-ltb b (parts_in r) k))
      ∙ ap (λ (g : Flat). op_posts r (next_op r g.control) m
      (faces_by {tells = tells} r a (values_of r.setup (undivided r m).state)) (λ i. o a m)
      (Wire a b)) (way tells r run o st.oracle_is t m)

  step_is : (n : ℕ) → step_at n ≡ pair_sum r (undivided r n).state (ends_pair (op_of r n))
  step_is zero = nothing ∙ ap (pair_sum r (undivided r 0).state) (sym (first_pair r run))
  step_is (suc m) =
      sum_same (parts_in r) _ _
      (λ a l. sum_same (parts_in r) _ _ (λ b k. ap (values_sum t) (mail_is a b m l k)))
      ∙ op_sent tells t r run (undivided r m).state m (op_of r m) (undivided r m).control.iteration
      (λ a i. o a m) (names_at r run (undivided r m).control.pc)
      ∙ ap (pair_sum r (undivided r (suc m)).state) (sym (next_pairs r run m))

  sum_to : (m : ℕ) → IsApart m
      → sum_at m ≡ total_sum r.setup (cut_of r) (entries_of (noted r m))
  sum_to m apart =
      sum_before r run sum_at nothing step_at sum_next step_is m
      ∙ plus_none (total_sum r.setup (cut_of r) (entries_of (noted r m)))
      (done_sum r (undivided r m).state (ends_pair (op_of r m)))
      (ap (done_sum r (undivided r m).state) apart)

  -- ---- all parts at one place

  -- what was counted by parts that are all just past a checkpoint place
  pub record CountsTo (m : ℕ) : Type 0 where
    pub points : w.meter 0 ≡ work r.setup (cut_of r) (entries_of (noted r m))
    pub values : w.meter 1 ≡ carried_count r.setup (cut_of r) (entries_of (noted r m))
    pub sum : taken_sum t r o w ≡ total_sum r.setup (cut_of r) (entries_of (noted r m))

  saved_pair : (m : ℕ) → op_of r m ≡ Save → IsApart m
  saved_pair m e = ap (λ (q : Op). ends_pair q) e

  -- a checkpoint costs nothing
  costs_none : (i k m : ℕ) → op_of r m ≡ Save → costs r i k (next_op r (guided r o m).control) ≡ 0
  costs_none zero k m e = ap (costs r 0 k) (op_is m ∙ e)
  costs_none (suc zero) k m e = ap (costs r 1 k) (op_is m ∙ e)
  costs_none (suc (suc i)) k m e = refl

  pub spent_saved_at : (i k m : ℕ) → op_of r m ≡ Save
      → spent (net tells within_lead r o) i k (suc m) ≡ spent (net tells within_lead r o) i k m
  spent_saved_at i k m e =
      plus_none (spent (net tells within_lead r o) i k m)
      (costs r i k (next_op r (guided r o m).control)) (costs_none i k m e)

  spent_saved : (i m : ℕ) → op_of r m ≡ Save → spent_all i (suc m) ≡ spent_all i m
  spent_saved i m e =
      put.sum_same (parts_in r) (λ k. spent (net tells within_lead r o) i k (suc m))
      (λ k. spent (net tells within_lead r o) i k m)
      (λ k l. spent_saved_at i k m e)

  -- nothing is taken at it
  sum_saved : (m : ℕ) → op_of r m ≡ Save → sum_at (suc m) ≡ sum_at m
  sum_saved m e =
      sum_next m ∙ plus_none (sum_at m) (step_at m)
      (step_is m ∙ ap (pair_sum r (undivided r m).state) (saved_pair m e))

  pub gathered_counts : (m : ℕ) → op_of r m ≡ Save → AllQuiet (noted r m)
      → ((k : ℕ) → k < parts_in r → w.place k ≡ suc m)
      → ((i : ℕ) → w.meter i ≡ spent_all i (suc m)) → CountsTo m
  gathered_counts m e quiet places meter = record {
    points = meter 0 ∙ spent_saved 0 m e ∙ points_to m quiet;
    values = meter 1 ∙ spent_saved 1 m e ∙ values_to m (saved_pair m e);
    sum = sum_same (parts_in r) _ _
        (λ a l. sum_same (parts_in r) _ _
        (λ b k. ap (λ (n : ℕ). values_sum t (taken (script tells r o) (Wire a b) n)) (places b k)))
        ∙ sum_saved m e ∙ sum_to m (saved_pair m e);
  }
