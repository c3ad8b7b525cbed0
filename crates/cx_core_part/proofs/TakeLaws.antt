-- What a part takes in a direction, in the words of a run.
use Rattle.std.proofs.Common.{◌≡◌, ℕ, ◌+◌, ◌*◌, ◌%◌, ◌^◌, ◌<◌, ◌≤◌, arith, Bool, true, false, cond, eqb, eq-eqb, refl, sym, ap, ◌∙◌, subst, ℤ, List, [], ◌∷◌, ◌++◌, length, take, drop, Option, Some, None}
use Rattle.std.specs.Prelude.{if◌then◌else◌, is_some, Result, Ok, Err, OnOk}
use Rattle.cx_grid.specs.declared.boxes.Point.{Point}
use Rattle.cx_grid.specs.declared.shapes.Side.{Side}
use Rattle.cx_grid.specs.declared.shapes.Side.TheVariants.{Low, High}
use Rattle.cx_grid.specs.Boxes.{IsIn, point_count}
use Rattle.cx_plan.specs.declared.variable.VarId.{VarId}
use Rattle.cx_plan.specs.Lookups.{is_scalar}
use Rattle.cx_cut.specs.Cuts.{Parts, halo_of}
use Rattle.cx_cut.specs.Neighbours.{partner, Neighbours}
use Rattle.cx_field.specs.Patches.{PatchValue, setup_in, values_in}
use Rattle.cx_field.specs.Faces as faces
use Rattle.cx_wire.specs.Messages.{Sent as SentMail}
use Rattle.cx_wire.specs.Received as received
use Rattle.cx_wire.specs.declared.wire.Wire.{Ghosts}
use Rattle.cx_cut.proofs.NeighbourLaws.{neighbours}
use Rattle.cx_text.specs.Numbers.{word_sum}
use Rattle.cx_plan.specs.Lists.{only, is_at}
use Rattle.cx_ghost.specs.Posts.{CanExchange}
use Rattle.cx_ghost.specs.declared.faults.TakeFault.{TakeFault}
use Rattle.cx_ghost.specs.declared.faults.TakeFault.TheVariants as faults
use Rattle.cx_ghost.specs.Takes as takes
use Rattle.cx_ghost.specs.Takes.{needed, TakesNeeded, Fills, Keeps, behind_high, taken_count, taken_sum, sum_from, count_from}
use Rattle.cx_flat.specs.declared.op.Op.TheVariants.{Take}
use Rattle.law_parts.specs.Runs.{Run, cut_of, parts_in}
use Rattle.law_parts.specs.Moves as run
use Rattle.law_parts.specs.Moves.{Message, Sent, Given, Handed, Channel, Wire, Filled, held_values, takes_from}
use Rattle.law_parts.specs.Nets.{values_sum, values_of_op, side_values}
use Rattle.law_parts.proofs.CountLaws.{sum_same, sum_add, sum_none, sum_one}
use Rattle.cx_core_part.specs.Frames.{IsPatchOf}
use Rattle.cx_core_part.specs.Exchanges.{ReceivedWithin, ShowsQueue, ShowsTaken, Takes, sum_taken}
use Rattle.cx_core_part.proofs.FrameLaws.{same_patch, still_of}
use Rattle.cx_core_part.proofs.ExchangeLaws.{drop_shown, values_are}
use Rattle.law_network.specs.Machine.{sum_below}

-- ---- the queues

needed_count : (h l : Bool)
    → length (only h (Low ∷ []) ++ only l (High ∷ [])) ≡ cond h 1 0 + cond l 1 0
needed_count true true = refl
needed_count true false = refl
needed_count false true = refl
needed_count false false = refl

-- as many messages are taken as are needed
takes_count : (r : Run) (k d a : ℕ) → length (needed (cut_of r) k d a) ≡ takes_from r k d a
takes_count r k d a =
    needed_count (is_at (partner (cut_of r) k d High) a) (is_at (partner (cut_of r) k d Low) a)

pub takes_there : {M : Type 0} (r : Run) (k d : ℕ) (cut : Parts) (old new : ℕ → ℕ → List M)
    → TakesNeeded cut k d old new → cut_of r ≡ cut → Takes r k d old new
takes_there r k d cut old new taken same a b =
    subst (λ c. TakesNeeded c k d old new) (sym same) taken a b
    ∙ ap (λ n. if eqb b k then drop n (old a b) else old a b) (takes_count r k d a)

-- ---- the counts

side_same : (o : Option ℕ) (n : ℕ) → count_from o n ≡ cond (is_some o) n 0
side_same None n = refl
side_same (Some j) n = refl

commute : (a b : ℕ) → a + b ≡ b + a
commute a b = omega arith

taken_same : (r : Run) (k d : ℕ) (vars : List VarId) (cut : Parts) → cut_of r ≡ cut
    → taken_count cut k d vars ≡ values_of_op r k (Take d vars [])
taken_same r k d vars cut same =
    ap (λ c. taken_count c k d vars) (sym same)
    ∙ ap (λ n. n + takes.side_count (cut_of r) k d vars Low)
    (side_same (partner (cut_of r) k d High)
    (length vars * point_count (halo_of (cut_of r) k d High)))
    ∙ ap (λ n. side_values r k d High vars + n)
    (side_same (partner (cut_of r) k d Low)
    (length vars * point_count (halo_of (cut_of r) k d Low)))
    ∙ commute (side_values r k d High vars) (side_values r k d Low vars)

pub count_there : (r : Run) (k d : ℕ) (vars : List VarId) (cut : Parts) (old new : ℕ)
    → new ≡ received.counted old (taken_count cut k d vars) → cut_of r ≡ cut
    → new ≡ received.counted old (values_of_op r k (Take d vars []))
count_there r k d vars cut old new counted same =
    counted ∙ ap (received.counted old) (taken_same r k d vars cut same)

counted_within : (n m before after : ℕ) → after ≡ received.counted before m → m ≤ n
    → ReceivedWithin n before after
counted_within n m before after e l = record {
  least = omega (arith, e);
  most = omega (arith, e, l);
}

-- whatever a take comes to, it received as many values at most: all, those of one side, or none
module _ {W : Type 0} (g : Ghosts W) (k d : ℕ) (vars : List VarId) (cut : Parts)
    (old new : PatchValue) (wire after : W) where
  one_side : (side : Side)
      → takes.TakesHigh g cut k d vars (takes.taken_before cut k d side) old new wire after
      → ReceivedWithin (taken_count cut k d vars) (g.received wire) (g.received after)
  one_side High h =
      counted_within (taken_count cut k d vars) 0 (g.received wire) (g.received after) h.received
      (omega arith)
  one_side Low h =
      counted_within (taken_count cut k d vars) (takes.side_count cut k d vars High)
      (g.received wire) (g.received after) h.received
      (less (takes.side_count cut k d vars High) (takes.side_count cut k d vars Low))
    where
      less : (a b : ℕ) → a ≤ a + b
      less a b = omega arith

  received_within : {A : Type 0} (result : Result A TakeFault)
      → OnOk result
      (g.received after ≡ received.counted (g.received wire) (taken_count cut k d vars))
      → (takes.IsNotYet result → after ≡ wire)
      → takes.Stops g cut k d vars old new wire after result
      → ReceivedWithin (taken_count cut k d vars) (g.received wire) (g.received after)
  received_within (Ok x) all none stopped =
      counted_within (taken_count cut k d vars) (taken_count cut k d vars)
      (g.received wire) (g.received after) all (omega arith)
  received_within (Err (faults.NotYet a b)) all none stopped =
      counted_within (taken_count cut k d vars) 0 (g.received wire) (g.received after)
      (ap g.received (none tt) ∙ received.counted_none (g.received wire)) (omega arith)
  received_within (Err faults.Wire) all none stopped = one_side stopped.0 stopped.2

  pub rises_there : {A : Type 0} (r : Run) (result : Result A TakeFault)
      → OnOk result
      (g.received after ≡ received.counted (g.received wire) (taken_count cut k d vars))
      → (takes.IsNotYet result → after ≡ wire)
      → takes.Stops g cut k d vars old new wire after result → cut_of r ≡ cut
      → ReceivedWithin (values_of_op r k (Take d vars [])) (g.received wire) (g.received after)
  rises_there r result all none stopped same =
      subst (λ n. ReceivedWithin n (g.received wire) (g.received after))
      (taken_same r k d vars cut same) (received_within result all none stopped)

-- ---- the values

-- the sum of the values of several messages
abbrev all_sum : {tells : Type 0} → tells → List (SentMail tells) → ℕ
all_sum told [] = 0
all_sum told (m ∷ q) = word_sum (m.values told) + all_sum told q

shown_sum : {tells : Type 0} (told : tells) (q : List (SentMail tells)) (ms : List (Message tells))
    → ShowsQueue q ms → values_sum told ms ≡ all_sum told q
shown_sum told [] [] h = refl
shown_sum told [] (m ∷ ms) h = absurd h
shown_sum told (p ∷ ps) [] h = absurd h
shown_sum told (p ∷ ps) (Sent head values ∷ ms) h =
    ap (λ s. s + values_sum told ms) (ap word_sum (sym (h.0.1 told)))
    ∙ ap (λ s. word_sum (p.values told) + s) (shown_sum told ps ms h.1)
shown_sum told (p ∷ ps) (Given number ∷ ms) h = absurd h.0
shown_sum told (p ∷ ps) (Handed n state ∷ ms) h = absurd h.0

-- the front one's values
shown_front : {tells : Type 0} (told : tells) (q : List (SentMail tells))
    (ms : List (Message tells)) → ShowsQueue q ms
    → run.front_values told ms ≡ takes.front_values told q
shown_front told [] [] h = refl
shown_front told [] (m ∷ ms) h = absurd h
shown_front told (p ∷ ps) [] h = absurd h
shown_front told (p ∷ ps) (Sent head values ∷ ms) h = sym (h.0.1 told)
shown_front told (p ∷ ps) (Given number ∷ ms) h = absurd h.0
shown_front told (p ∷ ps) (Handed n state ∷ ms) h = absurd h.0

-- what is taken of a queue: the first one at a high neighbour, and the one behind it, or the first,
-- at a low one
sum_front : {tells : Type 0} (told : tells) (h l : Bool) (q : List (SentMail tells))
    → all_sum told (take (cond h 1 0 + cond l 1 0) q)
    ≡ cond h (word_sum (takes.front_values told q)) 0
    + cond l (word_sum (takes.front_values told (drop (if h then 1 else 0) q))) 0
sum_front told true true [] = refl
sum_front told true true (m ∷ []) = refl
sum_front told true true (m ∷ n ∷ q) =
    let z : word_sum (n.values told) + 0 ≡ word_sum (n.values told) = omega arith in
    ap (λ s. word_sum (m.values told) + s) z
sum_front told true false [] = refl
sum_front told true false (m ∷ q) = refl
sum_front told false true [] = refl
sum_front told false true (m ∷ q) = commute (word_sum (m.values told)) 0
sum_front told false false q = refl

high_front : {tells : Type 0} (told : tells) (l : Bool) (q : List (SentMail tells))
    → takes.front_values told (take (1 + cond l 1 0) q) ≡ takes.front_values told q
high_front told true [] = refl
high_front told true (m ∷ q) = refl
high_front told false [] = refl
high_front told false (m ∷ q) = refl

low_front : {tells : Type 0} (told : tells) (h : Bool) (q : List (SentMail tells))
    → takes.front_values told (drop (cond h 1 0) (take (cond h 1 0 + 1) q))
    ≡ takes.front_values told (drop (if h then 1 else 0) q)
low_front told true [] = refl
low_front told true (m ∷ []) = refl
low_front told true (m ∷ n ∷ q) = refl
low_front told false [] = refl
low_front told false (m ∷ q) = refl

at_some : (o : Option ℕ) (j : ℕ) → o ≡ Some j → is_at o j ≡ true
at_some o j e = rw e (eq-eqb j j refl)

module _ {tells : Type 0} (r : Run) (k d : ℕ) (law : Neighbours (cut_of r)) (part : k < parts_in r)
    (dir : d < 3)
    (q : ℕ → ℕ → List (SentMail tells)) (mails : Channel → List (Message tells))
    (shown : ShowsTaken r k d q mails) where
  abbrev c : Parts
  c = cut_of r

  abbrev at : Side → ℕ → Bool
  at side a = is_at (partner c k d side) a

  abbrev shown_at : (j : ℕ) → j < parts_in r
      → ShowsQueue (take (cond (at High j) 1 0 + cond (at Low j) 1 0) (q j k)) (mails (Wire j k))
  shown_at j l = shown j l

  -- the high neighbour's values
  pub high_values : (told : tells) (j : ℕ) → partner c k d High ≡ Some j
      → run.front_values told (mails (Wire j k)) ≡ takes.front_values told (q j k)
  high_values told j e =
      shown_front told (take (takes_from r k d j) (q j k)) (mails (Wire j k))
      (shown j (law.there k d High j part dir e))
      ∙ ap (λ h. takes.front_values told (take (cond h 1 0 + cond (at Low j) 1 0) (q j k)))
      (at_some (partner c k d High) j e)
      ∙ high_front told (at Low j) (q j k)

  -- the low neighbour's
  pub low_values : (told : tells) (j : ℕ) → partner c k d Low ≡ Some j
      → run.front_values told (drop (cond (at High j) 1 0) (mails (Wire j k)))
      ≡ takes.front_values told (behind_high c k d q j)
  low_values told j e =
      shown_front told (drop (cond (at High j) 1 0) (take (takes_from r k d j) (q j k)))
      (drop (cond (at High j) 1 0) (mails (Wire j k)))
      (drop_shown (cond (at High j) 1 0) (take (takes_from r k d j) (q j k)) (mails (Wire j k))
      (shown j (law.there k d Low j part dir e)))
      ∙ ap (λ l. takes.front_values told
      (drop (cond (at High j) 1 0) (take (cond (at High j) 1 0 + cond l 1 0) (q j k))))
      (at_some (partner c k d Low) j e)
      ∙ low_front told (at High j) (q j k)

  abbrev high_sum : tells → ℕ → ℕ
  high_sum told a = word_sum (takes.front_values told (q a k))

  abbrev low_sum : tells → ℕ → ℕ
  low_sum told a = word_sum (takes.front_values told (behind_high c k d q a))

  sum_at : (told : tells) (a : ℕ) → a < parts_in r
      → values_sum told (mails (Wire a k))
      ≡ cond (at High a) (high_sum told a) 0 + cond (at Low a) (low_sum told a) 0
  sum_at told a l =
      shown_sum told (take (takes_from r k d a) (q a k)) (mails (Wire a k)) (shown a l)
      ∙ sum_front told (at High a) (at Low a) (q a k)

  from_side : (told : tells) (o : Option ℕ) (f : ℕ → List (SentMail tells))
      → ((j : ℕ) → o ≡ Some j → j < parts_in r)
      → sum_below (parts_in r) (λ a. cond (is_at o a) (word_sum (takes.front_values told (f a))) 0)
      ≡ sum_from told o f
  from_side told None f below = sum_none (parts_in r)
  from_side told (Some j) f below =
      sum_one (parts_in r) j (λ a. word_sum (takes.front_values told (f a))) (below j refl)

  -- what is taken of all wires
  pub sum_is : (told : tells) → sum_taken told r k mails ≡ taken_sum told c k d q
  sum_is told =
      sum_same (parts_in r) (λ a. values_sum told (mails (Wire a k)))
      (λ a. cond (at High a) (high_sum told a) 0 + cond (at Low a) (low_sum told a) 0)
      (sum_at told)
      ∙ sum_add (parts_in r) (λ a. cond (at High a) (high_sum told a) 0)
      (λ a. cond (at Low a) (low_sum told a) 0)
      ∙ ap (λ n. n + sum_below (parts_in r) (λ a. cond (at Low a) (low_sum told a) 0))
      (from_side told (partner c k d High) (λ a. q a k)
      (λ j e. law.there k d High j part dir e))
      ∙ ap (λ n. sum_from told (partner c k d High) (λ a. q a k) + n)
      (from_side told (partner c k d Low) (behind_high c k d q)
      (λ j e. law.there k d Low j part dir e))

  -- ---- what is filled

  module _ (vars : List VarId) (old new : PatchValue) (before : IsPatchOf r.setup c k old)
      (keeps : Keeps c k d vars old new) (fills : Fills tells c k d vars q new) where
    after : IsPatchOf r.setup c k new
    after = still_of r.setup c k old new
        (record {
          numbers = ap (λ (p : PatchValue). record p { staged = [] }) keeps.frame;
          buffers = ap (λ (p : PatchValue). length p.staged) keeps.frame;
        }) before

    values_same : (p : PatchValue) → IsPatchOf r.setup c k p → (v : VarId) (level : ℕ) (y : Point)
        → values_in p v level y ≡ held_values r k p.numbers v level y
    values_same p h v level y = ap (λ values. values v level y) (values_are r.setup c k p h)

    side_filled : (side : Side) (j : ℕ) → partner c k d side ≡ Some j → (values : List ℤ)
        → faces.IsFilled new vars (halo_of c k d side) values
        → run.IsFilled r k d vars side values new.numbers
    side_filled side j e values filled i y below on =
        sym (values_same new after (faces.variable_at vars i) 0 y)
        ∙ filled i y below on (subst (λ b. IsIn b y) (sym after.local_is)
        (law.halo_local k d side j y part dir e on))

    pub filled_is : Filled tells r k d vars mails old.numbers new.numbers
    filled_is = record {
      sized = keeps.sized;
      high = λ t j e. side_filled High j e (run.front_values t (mails (Wire j k)))
          (subst (faces.IsFilled new vars (halo_of c k d High)) (sym (high_values t j e))
          (fills.high t j e));
      low = λ t j e. side_filled Low j e
          (run.front_values t (drop (cond (at High j) 1 0) (mails (Wire j k))))
          (subst (faces.IsFilled new vars (halo_of c k d Low)) (sym (low_values t j e))
          (fills.low t j e));
      kept = λ v level y on kept.
          sym (values_same new after v level y)
          ∙ keeps.kept v level y (subst (λ b. IsIn b y) (sym before.local_is) on)
          (both_sides v level y kept)
          ∙ values_same old before v level y;
      scalars = λ v e. keeps.scalars v
          (subst (λ p. is_scalar (setup_in p) v ≡ true)
          (same_patch r.setup old before.patch.shape before.patch.vars) e);
    }
      where
        both_sides : (v : VarId) (level : ℕ) (y : Point) → run.IsKept r k d vars v level y
            → takes.IsKept c k d vars v level y
        both_sides v level y kept among Low on = (kept among).0 on
        both_sides v level y kept among High on = (kept among).1 on

-- ---- in the code's terms

pub filled_there : {tells : Type 0} (r : Run) (k d : ℕ) (vars : List VarId) (cut : Parts)
    (old new : PatchValue) → CanExchange cut k d vars old
    → (q : ℕ → ℕ → List (SentMail tells)) (mails : Channel → List (Message tells)) → cut_of r ≡ cut
    → IsPatchOf r.setup (cut_of r) k old → ShowsTaken r k d q mails
    → Keeps cut k d vars old new → Fills tells cut k d vars q new
    → Filled tells r k d vars mails old.numbers new.numbers
filled_there {tells} r k d vars cut old new can q mails same before shown keeps fills =
    let here : CanExchange (cut_of r) k d vars old =
    subst (λ c. CanExchange c k d vars old) (sym same) can in
    let direction = here.direction in
    let most = here.whole.shape.most in
    filled_is r k d (neighbours (cut_of r) here.whole.cut here.whole.shape) here.part
    (omega (arith, direction, most)) q mails shown vars old new before
    (subst (λ c. Keeps c k d vars old new) (sym same) keeps)
    (subst (λ c. Fills tells c k d vars q new) (sym same) fills)

pub sum_there : {tells : Type 0} (told : tells) (r : Run) (k d : ℕ) (vars : List VarId)
    (cut : Parts) (p : PatchValue) → CanExchange cut k d vars p
    → (q : ℕ → ℕ → List (SentMail tells)) (mails : Channel → List (Message tells)) → cut_of r ≡ cut
    → ShowsTaken r k d q mails
    → (old new : ℕ) → new ≡ (old + taken_sum told cut k d q) % 2 ^ 64
    → new ≡ (old + sum_taken told r k mails) % 2 ^ 64
sum_there told r k d vars cut p can q mails same shown old new summed =
    let here : CanExchange (cut_of r) k d vars p =
    subst (λ c. CanExchange c k d vars p) (sym same) can in
    let direction = here.direction in
    let most = here.whole.shape.most in
    summed ∙ ap (λ c. (old + taken_sum told c k d q) % 2 ^ 64) (sym same)
    ∙ ap (λ s. (old + s) % 2 ^ 64)
    (sym (sum_is r k d (neighbours (cut_of r) here.whole.cut here.whole.shape) here.part
    (omega (arith, direction, most)) q mails shown told))
