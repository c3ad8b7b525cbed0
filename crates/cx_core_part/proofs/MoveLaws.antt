-- From what the calls say to the moves of a run in parts, and how queues go on showing those of a
-- run.
use Rattle.std.proofs.Common.{◌≡◌, ℕ, ◌<◌, Bool, true, false, eqb, refl, sym, ap, ◌∙◌, subst, ℤ, List, [], ◌∷◌, ◌++◌, take, drop, Option, Some, None, Ok, Err}
use Rattle.std.specs.Prelude.{if◌then◌else◌}
use Rattle.cx_grid.specs.declared.shapes.Side.{Side}
use Rattle.cx_grid.specs.declared.shapes.Side.TheVariants.{Low, High}
use Rattle.cx_plan.specs.declared.job.Job.{Job}
use Rattle.cx_plan.specs.declared.variable.VarId.{VarId}
use Rattle.cx_plan.specs.Lookups.{item}
use Rattle.cx_rule.specs.Routine.{Rule}
use Rattle.cx_rule.specs.States.{State}
use Rattle.cx_rule.specs.declared.routine.Overflow.{Overflow}
use Rattle.cx_cut.specs.Cuts.{Parts}
use Rattle.cx_cut.specs.Neighbours.{partner, Neighbours}
use Rattle.cx_wire.specs.Messages.{Sent as SentMail}
use Rattle.cx_plan.specs.Lists.{only, is_at}
use Rattle.cx_ghost.specs.Takes.{needed, BeginsWith, IsFace}
use Rattle.cx_ghost.proofs.Sides.{to_high, to_low}
use Rattle.cx_flat.specs.declared.op.Op.{Op}
use Rattle.cx_flat.specs.declared.op.Op.TheVariants.{Sweep, Apply, Join, Take}
use Rattle.law_parts.specs.Beginnings.{Beginning, Afresh, From, run_of}
use Rattle.law_parts.specs.Holding.{Held, joined, join_turn}
use Rattle.law_parts.specs.Runs.{Run, cut_of, parts_in}
use Rattle.law_parts.specs.Moves as run
use Rattle.law_parts.specs.Moves.{Message, Sent, Channel, Wire, Goes, Gives, Moves, Filled, all_given, takes_from, face_head}
use Rattle.cx_core_part.specs.Jobs.{IsCutOf, IsRunOf}
use Rattle.cx_core_part.specs.Items.{Computes}
use Rattle.cx_core_part.specs.Reductions.{Joins}
use Rattle.cx_core_part.specs.Exchanges.{ShowsMessage, ShowsQueue, posted_to, Posts, ShowsTaken, Takes}
use Rattle.cx_core_part.proofs.ExchangeLaws.{both_shown, drop_shown, take_shown}

-- ---- runs of a job

pub is_run : (job : Job) (rules : List Rule) (b : Beginning) → IsRunOf job (run_of job rules b)
is_run job rules Afresh = record { setup = refl; cuts = refl }
is_run job rules (From c state so_far) = record { setup = refl; cuts = refl }

pub by_rules : (job : Job) (rules : List Rule) (b : Beginning) → (run_of job rules b).rules ≡ rules
by_rules job rules Afresh = refl
by_rules job rules (From c state so_far) = refl

pub same_cut : (job : Job) (rules : List Rule) (b : Beginning) (cut : Parts) → IsCutOf job cut
    → cut_of (run_of job rules b) ≡ cut
same_cut job rules Afresh cut is = sym is.parts
same_cut job rules (From c state so_far) cut is = sym is.parts

-- ---- moves

-- where an operation gives these numbers, a part that has them and goes on has moved
gives_some : (r : Run) (o : Op) (x y : Held) (new : State) (given : Option State) → given ≡ Some new
    → Goes r o x y → y.numbers ≡ new → Gives r o x given (Some y)
gives_some r o x y new given e goes numbers =
    subst (λ g. Gives r o x g (Some y)) (sym e) (goes, numbers)

gives_none : (r : Run) (o : Op) (x : Held) (given : Option State) → given ≡ None
    → Gives r o x given None
gives_none r o x given e = subst (λ g. Gives r o x g None) (sym e) tt

module _ (tells : Type 0) (r : Run) (k : ℕ) (x : Held) (mails : Channel → List (Message tells))
  where
    pub sweep_moves : (i : ℕ) (new : State) (before after : ℕ)
        → Computes r k (Sweep i) x.control.iteration x.numbers new before after (Ok tt)
        → (y : Held) → Goes r (Sweep i) x y → y.numbers ≡ new
        → Moves tells r k x mails (Sweep i) (Some y)
    sweep_moves i new before after h y goes numbers =
        gives_some r (Sweep i) x y new _ h.0 goes numbers

    pub sweep_ends : (i : ℕ) (new : State) (before after : ℕ) (e : Overflow)
        → Computes r k (Sweep i) x.control.iteration x.numbers new before after (Err e)
        → Moves tells r k x mails (Sweep i) None
    sweep_ends i new before after e h = gives_none r (Sweep i) x _ h.0

    pub apply_moves : (i : ℕ) (new : State) (before after : ℕ)
        → Computes r k (Apply i) x.control.iteration x.numbers new before after (Ok tt)
        → (y : Held) → Goes r (Apply i) x y → y.numbers ≡ new
        → Moves tells r k x mails (Apply i) (Some y)
    apply_moves i new before after h y goes numbers =
        gives_some r (Apply i) x y new _ h.0 goes numbers

    pub apply_ends : (i : ℕ) (new : State) (before after : ℕ) (e : Overflow)
        → Computes r k (Apply i) x.control.iteration x.numbers new before after (Err e)
        → Moves tells r k x mails (Apply i) None
    apply_ends i new before after e h = gives_none r (Apply i) x _ h.0

    -- the number that all parts have given
    abbrev all_parts : ℕ → ℤ
    all_parts i = joined (item r.setup i).kind (all_given k mails (parts_in r))

    pub join_moves : (i : ℕ) (number : ℤ) (new : State)
        → Joins r.setup (item r.setup i) number x.numbers new (Ok tt) → number ≡ all_parts i
        → (y : Held) → Goes r (Join i) x y → y.numbers ≡ new
        → Moves tells r k x mails (Join i) (Some y)
    join_moves i number new h is y goes numbers =
        gives_some r (Join i) x y new _
        (ap (join_turn r.setup (item r.setup i) x.numbers) (sym is) ∙ h) goes numbers

    pub join_ends : (i : ℕ) (number : ℤ) (new : State) (e : Overflow)
        → Joins r.setup (item r.setup i) number x.numbers new (Err e) → number ≡ all_parts i
        → Moves tells r k x mails (Join i) None
    join_ends i number new e h is =
        gives_none r (Join i) x _ (ap (join_turn r.setup (item r.setup i) x.numbers) (sym is) ∙ h.0)

    pub take_moves : (d : ℕ) (vars : List VarId) (path : List ℕ) (new : State)
        → Filled tells r k d vars mails x.numbers new
        → (y : Held) → Goes r (Take d vars path) x y → y.numbers ≡ new
        → Moves tells r k x mails (Take d vars path) (Some y)
    take_moves d vars path new h y goes numbers =
        (goes, subst (Filled tells r k d vars mails x.numbers) (sym numbers) h)

-- ---- queues

module _ {tells : Type 0} (r : Run) (k : ℕ) where
  -- behind a post each queue shows what it showed and what was posted
  pub posted_shown : (o : Op) (n : ℕ) (numbers : State) (old new : ℕ → ℕ → List (SentMail tells))
      → Posts r k o n numbers old new
      → (a b : ℕ) (ms : List (Message tells)) → ShowsQueue (old a b) ms
      → ShowsQueue (new a b) (ms ++ (if eqb a k then posted_to r k o n numbers b else []))
  posted_shown o n numbers old new posts a b ms h =
      let here = posts a b in
      subst (λ q. ShowsQueue q (ms ++ (if eqb a k then posted_to r k o n numbers b else [])))
      (sym here.1) (both_shown (old a b) here.0 ms _ h here.2)

  -- behind a take each queue shows what is left
  pub taken_shown : (d : ℕ) (old new : ℕ → ℕ → List (SentMail tells)) → Takes r k d old new
      → (a b : ℕ) (ms : List (Message tells)) → ShowsQueue (old a b) ms
      → ShowsQueue (new a b) (if eqb b k then drop (takes_from r k d a) ms else ms)
  taken_shown d old new takes a b ms h =
      subst (λ q. ShowsQueue q (if eqb b k then drop (takes_from r k d a) ms else ms))
      (sym (takes a b)) (go (eqb b k))
    where
      go : (c : Bool) → ShowsQueue (if c then drop (takes_from r k d a) (old a b) else old a b)
          (if c then drop (takes_from r k d a) ms else ms)
      go true = drop_shown (takes_from r k d a) (old a b) ms h
      go false = h

  -- what is taken in front of queues that are shown
  pub shown_in_front : (d : ℕ) (q : ℕ → ℕ → List (SentMail tells))
      (queue mails : Channel → List (Message tells))
      → ((a : ℕ) → a < parts_in r → ShowsQueue (q a k) (queue (Wire a k)))
      → ((a : ℕ) → a < parts_in r
      → mails (Wire a k) ≡ take (takes_from r k d a) (queue (Wire a k)))
      → ShowsTaken r k d q mails
  shown_in_front d q queue mails shown front a l =
      subst (ShowsQueue (take (takes_from r k d a) (q a k))) (sym (front a l))
      (take_shown (takes_from r k d a) (q a k) (queue (Wire a k)) (shown a l))

-- a queue that shows what a part posted begins with what is needed of it
module _ {tells : Type 0} (r : Run) (law : Neighbours (cut_of r)) (a k d : ℕ)
    (from : a < parts_in r) (part : k < parts_in r) (dir : d < 3)
    (n : ℕ) (values : Side → tells → List ℤ) (vars : List VarId) (rest : List (Message tells)) where
  abbrev c : Parts
  c = cut_of r

  abbrev face : Side → Message tells
  face side = Sent (face_head r n a d side vars) (values side)

  is_face : (side : Side) (m : SentMail tells) → ShowsMessage m (face side)
      → IsFace c a d vars side m
  is_face side m h = record { direction = h.0.dir; side_is = h.0.side; count = h.0.count }

  begins : (h l : Bool) (q : List (SentMail tells))
      → ShowsQueue q ((only h (face Low ∷ []) ++ only l (face High ∷ [])) ++ rest)
      → BeginsWith c a d vars (only h (Low ∷ []) ++ only l (High ∷ [])) q
  begins true true [] s = absurd s
  begins true true (m ∷ []) s = absurd s.1
  begins true true (m ∷ p ∷ q) s = (is_face Low m s.0, (is_face High p s.1.0, tt))
  begins true false [] s = absurd s
  begins true false (m ∷ q) s = (is_face Low m s.0, tt)
  begins false true [] s = absurd s
  begins false true (m ∷ q) s = (is_face High m s.0, tt)
  begins false false q s = tt

  pub begins_shown : (q : List (SentMail tells))
      → ShowsQueue q (run.posted_faces r n a values d vars k ++ rest)
      → BeginsWith c a d vars (needed c k d a) q
  begins_shown q s =
      subst (λ h. BeginsWith c a d vars
      (only h (Low ∷ []) ++ only (is_at (partner c k d Low) a) (High ∷ [])) q) high
      (subst (λ l. BeginsWith c a d vars
      (only (is_at (partner c a d Low) k) (Low ∷ []) ++ only l (High ∷ [])) q) low
      (begins (is_at (partner c a d Low) k) (is_at (partner c a d High) k) q s))
    where
      high : is_at (partner c a d Low) k ≡ is_at (partner c k d High) a
      high = to_high c law d dir a k from part

      low : is_at (partner c a d High) k ≡ is_at (partner c k d Low) a
      low = to_low c law d dir a k from part
