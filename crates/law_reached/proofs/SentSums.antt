-- Along the undivided run: what all parts have taken of wires before a place has the sum that the
-- run's entries say.
use Rattle.std.proofs.Common.{◌≡◌, ℕ, zero, suc, ◌+◌, ◌<◌, Bool, true, false, ℤ, List, [], ◌∷◌, ◌++◌, Option, Some, None, arith, refl, sym, ap, ◌∙◌, cond}
use Rattle.std.specs.Prelude.{if◌then◌else◌, ◌==◌, is_some}
use Rattle.std.specs.Int.{cast_unsigned, w64}
use Rattle.std.proofs.lemmas.Bool.{eqb-true}
use Rattle.cx_grid.specs.Boxes.{numbers_in}
use Rattle.cx_grid.specs.declared.shapes.Side.{Side}
use Rattle.cx_grid.specs.declared.shapes.Side.TheVariants.{Low, High}
use Rattle.cx_plan.specs.declared.variable.VarId.{VarId}
use Rattle.cx_plan.specs.Steering.{item_at}
use Rattle.cx_rule.specs.States.{State}
use Rattle.cx_model.specs.declared.ends.End.TheVariants.{WhileLimit}
use Rattle.cx_model.specs.Courses.{note, turn_note, limit_note}
use Rattle.cx_model.specs.Traces.{Entry, Exchanged, Tested}
use Rattle.cx_model.specs.Turns.{turn, values_of}
use Rattle.cx_cut.specs.Cuts.{face_of}
use Rattle.cx_cut.specs.Neighbours.{partner}
use Rattle.cx_flat.specs.declared.op.Op.{Op}
use Rattle.cx_flat.specs.declared.op.Op.TheVariants.{Sweep, Apply, Give, Join, Post, Take, Test, Open, Turn, Again, Rotate, Due, Written, Skip, Next, Piece, Save, Halt}
use Rattle.cx_flat.specs.Flats.{Control, last_turns, state_after, notes_at, Pair, Exchange, Onward, Reduction, begins_pair, ends_pair}
use Rattle.law_parts.specs.Ends.{noted}
use Rattle.law_parts.specs.Moves.{Message, Sent, Wire, op_posts, face_head, posted_faces, faces_by}
use Rattle.law_parts.specs.Holding.{numbers_of}
use Rattle.law_parts.specs.Nets.{values_sum}
use Rattle.law_parts.specs.Operations.{NamesWell}
use Rattle.law_parts.specs.Runs.{Run, cut_of, parts_in, op_of, notes_of, undivided}
use Rattle.law_parts.specs.Truths.{entries_of}
use Rattle.law_parts.specs.Work.{entry_sum, total_sum}
use Rattle.law_parts.proofs.CountLaws.{sum_same, sum_add, sum_none, sum_one, taken_is_posted, exchange_sum}
use Rattle.law_parts.proofs.Counts.{face_sum, posted_sum}
use Rattle.law_parts.proofs.TraceTotals.{entries_both}
use Rattle.law_parts.proofs.WholeRun.{IsRun, shape, law, first_pair, next_pairs}
use Rattle.law_reached.proofs.TakenLaws.{values_both}
use Rattle.law_network.specs.Machine.{sum_below}
use Rattle.cx_plan.specs.Lists.{only, is_at}
use Rattle.cx_text.specs.Numbers.{word_sum}

plus_none : (a : ℕ) → a ≡ a + 0
plus_none a = omega arith

none_more : (a : ℕ) → a ≡ 0 + a
none_more a = omega arith

plus_first : (a b c : ℕ) → a + (b + c) ≡ a + b + c
plus_first a b c = omega arith

-- ---- sums of numbers

sum_both : (xs ys : List ℤ) → word_sum (xs ++ ys) ≡ word_sum xs + word_sum ys
sum_both [] ys = none_more (word_sum ys)
sum_both (n ∷ ns) ys = ap (λ m. cast_unsigned w64 n + m) (sum_both ns ys)
    ∙ plus_first (cast_unsigned w64 n) (word_sum ns) (word_sum ys)

module _ (r : Run) where
  face_total : (state : State) (vars : List VarId) (d k : ℕ) (side : Side)
      → word_sum (numbers_of (values_of r.setup state) (face_of (cut_of r) k d side) vars)
      ≡ face_sum r state vars d k side
  face_total state [] d k side = refl
  face_total state (v ∷ vars) d k side =
      sum_both (numbers_in (face_of (cut_of r) k d side) (values_of r.setup state v 0))
      (numbers_of (values_of r.setup state) (face_of (cut_of r) k d side) vars)
      ∙ ap (λ n. word_sum (numbers_in (face_of (cut_of r) k d side) (values_of r.setup state v 0))
      + n) (face_total state vars d k side)

  total_both : (a b : List Entry)
      → total_sum r.setup (cut_of r) (a ++ b)
      ≡ total_sum r.setup (cut_of r) a + total_sum r.setup (cut_of r) b
  total_both [] b = none_more (total_sum r.setup (cut_of r) b)
  total_both (e ∷ es) b =
      ap (λ z. entry_sum r.setup (cut_of r) e + z) (total_both es b)
      ∙ plus_first (entry_sum r.setup (cut_of r) e) (total_sum r.setup (cut_of r) es)
      (total_sum r.setup (cut_of r) b)

  -- what all parts send in one direction of an exchange, and in those that are done
  abbrev pub direction_sum : State → List VarId → ℕ → ℕ
  direction_sum state vars d =
      sum_below (parts_in r) (λ a. posted_sum r state vars d a Low
      + posted_sum r state vars d a High)

  abbrev pub done_sum : State → Option Pair → ℕ
  done_sum state None = 0
  done_sum state (Some (Exchange d vars)) = sum_below d (direction_sum state vars)
  done_sum state (Some (Onward d vars)) = sum_below d (direction_sum state vars)
  done_sum state (Some (Reduction k)) = 0

  -- what an operation takes
  abbrev pub pair_sum : State → Option Pair → ℕ
  pair_sum state None = 0
  pair_sum state (Some (Exchange d vars)) = direction_sum state vars d
  pair_sum state (Some (Onward d vars)) = 0
  pair_sum state (Some (Reduction k)) = 0

-- ---- what is sent

module _ (tells : Type 0) (t : tells) (r : Run) (run : IsRun r) where
  -- of one side, over all receivers
  to_all : (d a n : ℕ) (side : Side) → d < 3 → a < parts_in r
      → sum_below (parts_in r) (λ b. cond (is_at (partner (cut_of r) a d side) b) n 0)
      ≡ cond (is_some (partner (cut_of r) a d side)) n 0
  to_all d a n side few l = go (partner (cut_of r) a d side) refl
    where
      go : (o : Option ℕ) → partner (cut_of r) a d side ≡ o
          → sum_below (parts_in r) (λ b. cond (is_at o b) n 0) ≡ cond (is_some o) n 0
      go None e = sum_none (parts_in r)
      go (Some k) e = sum_one (parts_in r) k (λ i. n) ((law r run).there a d side k l few e)

  one_face : (b : Bool) (ms : List (Message tells))
      → values_sum t (only b ms) ≡ cond b (values_sum t ms) 0
  one_face true ms = refl
  one_face false ms = refl

  module _ (state : State) (n : ℕ) where
    abbrev face : ℕ → ℕ → List VarId → Side → tells → List ℤ
    face a d vars = faces_by {tells = tells} r a (values_of r.setup state) d vars

    side_total : (a d : ℕ) (vars : List VarId) (side : Side)
        → values_sum t (Sent (face_head r n a d side vars) (face a d vars side) ∷ [])
        ≡ face_sum r state vars d a side
    side_total a d vars side =
        sym (plus_none (word_sum (face a d vars side t))) ∙ face_total r state vars d a side

    pair_total : (a d b : ℕ) (vars : List VarId)
        → values_sum t (posted_faces r n a (face a d vars) d vars b)
        ≡ cond (is_at (partner (cut_of r) a d Low) b) (face_sum r state vars d a Low) 0
        + cond (is_at (partner (cut_of r) a d High) b) (face_sum r state vars d a High) 0
    pair_total a d b vars =
        values_both t (only (is_at (partner (cut_of r) a d Low) b)
        (Sent (face_head r n a d Low vars) (face a d vars Low) ∷ []))
        (only (is_at (partner (cut_of r) a d High) b)
        (Sent (face_head r n a d High vars) (face a d vars High) ∷ []))
        ∙ ap (λ m. m + values_sum t
        (only (is_at (partner (cut_of r) a d High) b)
        (Sent (face_head r n a d High vars) (face a d vars High) ∷ [])))
        (one_face (is_at (partner (cut_of r) a d Low) b)
        (Sent (face_head r n a d Low vars) (face a d vars Low) ∷ [])
        ∙ ap (λ z. cond (is_at (partner (cut_of r) a d Low) b) z 0) (side_total a d vars Low))
        ∙ ap (λ m. cond (is_at (partner (cut_of r) a d Low) b) (face_sum r state vars d a Low) 0
        + m)
        (one_face (is_at (partner (cut_of r) a d High) b)
        (Sent (face_head r n a d High vars) (face a d vars High) ∷ [])
        ∙ ap (λ z. cond (is_at (partner (cut_of r) a d High) b) z 0) (side_total a d vars High))

    -- what all parts send in one direction
    posted_total : (d : ℕ) (vars : List VarId) → d < 3
        → sum_below (parts_in r)
        (λ a. sum_below (parts_in r)
        (λ b. values_sum t (posted_faces r n a (face a d vars) d vars b)))
        ≡ direction_sum r state vars d
    posted_total d vars few =
        sum_same (parts_in r) _ _ (λ a l.
        sum_same (parts_in r) _ _ (λ b k. pair_total a d b vars)
        ∙ sum_add (parts_in r)
        (λ b. cond (is_at (partner (cut_of r) a d Low) b) (face_sum r state vars d a Low) 0)
        (λ b. cond (is_at (partner (cut_of r) a d High) b) (face_sum r state vars d a High) 0)
        ∙ ap (λ m. m + sum_below (parts_in r)
        (λ b. cond (is_at (partner (cut_of r) a d High) b) (face_sum r state vars d a High) 0))
        (to_all d a (face_sum r state vars d a Low) Low few l)
        ∙ ap (λ m. posted_sum r state vars d a Low + m)
        (to_all d a (face_sum r state vars d a High) High few l))

    abbrev sent_by : Op → (ℕ → ℤ) → ℕ → ℕ → ℕ
    sent_by o number a b = values_sum t (op_posts r o n (face a) number (Wire a b))

    none_sent : sum_below (parts_in r) (λ a. sum_below (parts_in r) (λ b. 0)) ≡ 0
    none_sent = sum_same (parts_in r) _ _ (λ a l. sum_none (parts_in r)) ∙ sum_none (parts_in r)

    turning : (b : Bool) (d : ℕ) (vars : List VarId)
        → 0 ≡ pair_sum r state (if b then None else Some (Onward d vars))
    turning true d vars = refl
    turning false d vars = refl

    -- what an operation sends over wires is what the next one takes
    pub op_sent : (o : Op) (iteration : ℕ) (number : ℕ → ℕ → ℤ) → NamesWell r.setup o
        → sum_below (parts_in r)
        (λ a. sum_below (parts_in r)
        (λ b. values_sum t (op_posts r o n
        (faces_by {tells = tells} r a (values_of r.setup state)) (number a) (Wire a b))))
        ≡ pair_sum r (state_after r.setup r.rules o iteration state) (begins_pair r.setup o)
    op_sent (Post d vars) iteration number h =
        posted_total d vars (let l = h.direction in let m = (shape r run).most in
        omega (arith, l, m))
    op_sent (Take d vars path) iteration number h =
        none_sent ∙ turning (suc d == r.setup.shape.dims) (suc d) vars
    op_sent (Sweep i) iteration number h = none_sent
    op_sent (Apply i) iteration number h = none_sent
    op_sent (Give i) iteration number h = none_sent
    op_sent (Join i) iteration number h = none_sent
    op_sent (Test v path skip) iteration number h = none_sent
    op_sent Open iteration number h = none_sent
    op_sent (Turn v path skip) iteration number h = none_sent
    op_sent (Again back) iteration number h = none_sent
    op_sent Rotate iteration number h = none_sent
    op_sent (Due skip) iteration number h = none_sent
    op_sent (Written skip) iteration number h = none_sent
    op_sent (Skip skip) iteration number h = none_sent
    op_sent (Next back) iteration number h = none_sent
    op_sent (Piece v) iteration number h = none_sent
    op_sent Save iteration number h = none_sent
    op_sent Halt iteration number h = none_sent

-- ---- what is noted

module _ (r : Run) (run : IsRun r) where
  turn_total : (k iteration : ℕ) (s : State) (o : Option State)
      → 0 + total_sum r.setup (cut_of r)
      (entries_of (turn_note k (item_at r.setup k iteration) iteration s o ∷ [])) ≡ 0
  turn_total k iteration s None = refl
  turn_total k iteration s (Some x) = refl

  exchange_total : (state : State) (vars : List VarId) (path : List ℕ)
      → sum_below r.setup.shape.dims (direction_sum r state vars)
      ≡ entry_sum r.setup (cut_of r) (Exchanged vars path state)
  exchange_total state vars path =
      sum_same r.setup.shape.dims _ _
      (λ d l. sym (taken_is_posted r (law r run) (shape r run).most state vars d
      (let m = (shape r run).most in omega (arith, l, m))))
      ∙ exchange_sum r (law r run) (shape r run).most state vars path

  -- what is done before an operation, and what it takes, is what it notes and what is done before
  -- the next one
  op_total : (o : Op) (c : Control) (s : State)
      → done_sum r (state_after r.setup r.rules o c.iteration s) (begins_pair r.setup o)
      + total_sum r.setup (cut_of r) (entries_of (notes_at r.setup r.rules o c s))
      ≡ done_sum r s (ends_pair o) + pair_sum r s (ends_pair o)
  op_total (Sweep i) c s =
      turn_total i c.iteration s
      (turn r.setup r.rules (item_at r.setup i c.iteration) s c.iteration)
  op_total (Apply i) c s =
      turn_total i c.iteration s
      (turn r.setup r.rules (item_at r.setup i c.iteration) s c.iteration)
  op_total (Give i) c s = refl
  op_total (Join i) c s = turn_total i c.iteration s
      (turn r.setup r.rules (item_at r.setup i c.iteration) s c.iteration)
  op_total (Post zero vars) c s = refl
  op_total (Post (suc d) vars) c s = refl
  op_total (Take d vars path) c s = go (suc d == r.setup.shape.dims) refl
    where
      plain : (a : ℕ) → a + 0 ≡ a
      plain a = omega arith

      one_entry : (a : ℕ) → 0 + (a + 0) ≡ a
      one_entry a = omega arith

      go : (b : Bool) → (suc d == r.setup.shape.dims) ≡ b
          → done_sum r s (if b then None else Some (Onward (suc d) vars))
          + total_sum r.setup (cut_of r)
          (entries_of (if b then note (Exchanged vars path s) ∷ [] else []))
          ≡ sum_below (suc d) (direction_sum r s vars)
      go true e =
          one_entry (entry_sum r.setup (cut_of r) (Exchanged vars path s))
          ∙ sym (ap (λ n. sum_below n (direction_sum r s vars))
          (eqb-true (suc d) r.setup.shape.dims e) ∙ exchange_total s vars path)
      go false e = plain (sum_below (suc d) (direction_sum r s vars))
  op_total (Test v path skip) c s = refl
  op_total Open c s = refl
  op_total (Turn v path skip) c s = go (last_turns c.opened == r.setup.while_limit)
    where
      go : (b : Bool) → 0 + total_sum r.setup (cut_of r)
          (entries_of
          ((if b then limit_note v path (WhileLimit c.iteration path) s else note (Tested v path s))
          ∷ [])) ≡ 0 + 0
      go true = refl
      go false = refl
  op_total (Again back) c s = refl
  op_total Rotate c s = refl
  op_total (Due skip) c s = refl
  op_total (Written skip) c s = refl
  op_total (Skip skip) c s = refl
  op_total (Next back) c s = refl
  op_total (Piece v) c s = refl
  op_total Save c s = refl
  op_total Halt c s = refl

  join_sums : (x q c d p b y : ℕ) → x ≡ c + d → y ≡ q → b + p ≡ d + q → x + y ≡ c + p + b
  join_sums x q c d p b y h e k = omega (arith, h, e, k)

  -- sums that grow at each place by what the operation there takes
  pub sum_before : (sum : ℕ → ℕ) → sum 0 ≡ 0 → (step : ℕ → ℕ)
      → ((n : ℕ) → sum (suc n) ≡ sum n + step n)
      → ((n : ℕ) → step n ≡ pair_sum r (undivided r n).state (ends_pair (op_of r n)))
      → (n : ℕ) → sum n ≡ total_sum r.setup (cut_of r) (entries_of (noted r n))
      + done_sum r (undivided r n).state (ends_pair (op_of r n))
  sum_before sum start step next is zero =
      start ∙ ap (λ p. 0 + done_sum r (undivided r 0).state p) (sym (first_pair r run))
  sum_before sum start step next is (suc n) =
      next n
      ∙ join_sums (sum n) (pair_sum r (undivided r n).state (ends_pair (op_of r n)))
      (total_sum r.setup (cut_of r) (entries_of (noted r n)))
      (done_sum r (undivided r n).state (ends_pair (op_of r n)))
      (total_sum r.setup (cut_of r) (entries_of (notes_of r n)))
      (done_sum r (undivided r (suc n)).state (begins_pair r.setup (op_of r n))) (step n)
      (sum_before sum start step next is n) (is n)
      (op_total (op_of r n) (undivided r n).control (undivided r n).state)
      ∙ ap (λ z. z + done_sum r (undivided r (suc n)).state (begins_pair r.setup (op_of r n)))
      (sym (ap (total_sum r.setup (cut_of r)) (entries_both (noted r n) (notes_of r n))
      ∙ total_both r (entries_of (noted r n)) (entries_of (notes_of r n))))
      ∙ ap (λ p. total_sum r.setup (cut_of r) (entries_of (noted r n ++ notes_of r n))
      + done_sum r (undivided r (suc n)).state p) (sym (next_pairs r run n))
