-- A wire goes on showing the queues of a run, and what a part takes is in front of them.
use Rattle.std.proofs.Common.{◌≡◌, ℕ, ◌<◌, Bool, true, false, cond, eqb, refl, sym, ap, ◌∙◌, subst, ℤ, List, [], ◌++◌, append-nil, take, drop, take-append-drop}
use Rattle.std.specs.Prelude.{if◌then◌else◌}
use Rattle.std.proofs.lemmas.Bool.{eqb-true}
use Rattle.cx_grid.specs.declared.shapes.Side.{Side}
use Rattle.cx_plan.specs.declared.variable.VarId.{VarId}
use Rattle.cx_cut.specs.Neighbours.{Neighbours}
use Rattle.law_network.specs.Machine.{queue_by, taken_by}
use Rattle.cx_wire.specs.Messages.{Sent as SentMail}
use Rattle.cx_ghost.specs.Takes.{needed, BeginsWith}
use Rattle.cx_flat.specs.declared.op.Op.{Op}
use Rattle.cx_flat.specs.declared.op.Op.TheVariants.{Sweep, Apply, Give, Join, Post, Take, Test, Open, Turn, Again, Rotate, Due, Written, Skip, Next, Piece, Save, Halt}
use Rattle.law_parts.specs.Holding.{Held}
use Rattle.law_parts.specs.Runs.{Run, Oracle, cut_of, parts_in, next_op}
use Rattle.law_parts.specs.Moves as run
use Rattle.law_parts.specs.Moves.{Message, Channel, Wire, is_there, held_values, op_wants, op_posts, faces_by, number_by, takes_from}
use Rattle.law_parts.specs.Nets.{Nearness, net}
use Rattle.law_parts.proofs.PairLaws.{are_there}
use Rattle.cx_core_part.specs.Exchanges.{ShowsQueue, ShowsWire, posted_to, Posts, ShowsTaken, Takes}
use Rattle.cx_core_part.proofs.MoveLaws.{posted_shown, taken_shown, shown_in_front, begins_shown}

-- an operation that neither posts faces nor takes them
abbrev pub IsQuiet : Op → Type 0
IsQuiet (Post d vars) = ⊥
IsQuiet (Take d vars path) = ⊥
IsQuiet (Sweep i) = Unit {0}
IsQuiet (Apply i) = Unit {0}
IsQuiet (Give i) = Unit {0}
IsQuiet (Join i) = Unit {0}
IsQuiet (Test v path skip) = Unit {0}
IsQuiet Open = Unit {0}
IsQuiet (Turn v path skip) = Unit {0}
IsQuiet (Again back) = Unit {0}
IsQuiet Rotate = Unit {0}
IsQuiet (Due skip) = Unit {0}
IsQuiet (Written skip) = Unit {0}
IsQuiet (Skip skip) = Unit {0}
IsQuiet (Next back) = Unit {0}
IsQuiet (Piece v) = Unit {0}
IsQuiet Save = Unit {0}
IsQuiet Halt = Unit {0}

record Quiet (tells : Type 0) (r : Run) (o : Op) (n a b : ℕ)
    (faces : ℕ → List VarId → Side → tells → List ℤ) (number : ℕ → ℤ) : Type 0 where
  wants : op_wants r o (Wire a b) ≡ 0
  posts : op_posts {tells = tells} r o n faces number (Wire a b) ≡ []

quiet_is : (tells : Type 0) (r : Run) (o : Op) (n a b : ℕ)
    (faces : ℕ → List VarId → Side → tells → List ℤ) (number : ℕ → ℤ) → IsQuiet o
    → Quiet tells r o n a b faces number
quiet_is tells r (Post d vars) n a b faces number h = absurd h
quiet_is tells r (Take d vars path) n a b faces number h = absurd h
quiet_is tells r (Sweep i) n a b faces number h = record { wants = refl; posts = refl }
quiet_is tells r (Apply i) n a b faces number h = record { wants = refl; posts = refl }
quiet_is tells r (Give i) n a b faces number h = record { wants = refl; posts = refl }
quiet_is tells r (Join i) n a b faces number h = record { wants = refl; posts = refl }
quiet_is tells r (Test v path skip) n a b faces number h = record { wants = refl; posts = refl }
quiet_is tells r Open n a b faces number h = record { wants = refl; posts = refl }
quiet_is tells r (Turn v path skip) n a b faces number h = record { wants = refl; posts = refl }
quiet_is tells r (Again back) n a b faces number h = record { wants = refl; posts = refl }
quiet_is tells r Rotate n a b faces number h = record { wants = refl; posts = refl }
quiet_is tells r (Due skip) n a b faces number h = record { wants = refl; posts = refl }
quiet_is tells r (Written skip) n a b faces number h = record { wants = refl; posts = refl }
quiet_is tells r (Skip skip) n a b faces number h = record { wants = refl; posts = refl }
quiet_is tells r (Next back) n a b faces number h = record { wants = refl; posts = refl }
quiet_is tells r (Piece v) n a b faces number h = record { wants = refl; posts = refl }
quiet_is tells r Save n a b faces number h = record { wants = refl; posts = refl }
quiet_is tells r Halt n a b faces number h = record { wants = refl; posts = refl }

-- nothing is dropped, and nothing is added
drop_none : {M : Type 0} (c : Bool) (q : List M) → cond c (drop 0 q) q ≡ q
drop_none true q = refl
drop_none false q = refl

add_none : {M : Type 0} (c : Bool) (q : List M) → q ++ cond c [] [] ≡ q
add_none true q = append-nil q
add_none false q = append-nil q

module _ (tells : Type 0) (Near : Nearness) (r : Run) (oracle : Oracle) (k : ℕ) (x : Held)
    (queue : Channel → List (Message tells)) where
  abbrev after : Channel → List (Message tells)
  after = queue_by (net tells Near r oracle) k x queue

  abbrev wants : ℕ → ℕ → Op → ℕ
  wants a b o = cond (is_there r (Wire a b)) (op_wants r o (Wire a b)) 0

  abbrev sends : ℕ → ℕ → Op → List (Message tells)
  sends a b o = cond (is_there r (Wire a b))
      (op_posts r o x.count (faces_by r a (held_values r a x.numbers))
      (number_by r a (held_values r a x.numbers)) (Wire a b)) []

  -- a queue behind an operation
  queue_is : (o : Op) → next_op r x.control ≡ o → (a b : ℕ)
      → after (Wire a b) ≡ cond (eqb b k) (drop (wants a b o) (queue (Wire a b))) (queue (Wire a b))
      ++ cond (eqb a k) (sends a b o) []
  queue_is o e a b =
      ap (λ o. cond (eqb b k) (drop (wants a b o) (queue (Wire a b))) (queue (Wire a b))
      ++ cond (eqb a k) (sends a b o) []) e

  post_is : (d : ℕ) (vars : List VarId) → next_op r x.control ≡ Post d vars → (a b : ℕ)
      → a < parts_in r → b < parts_in r
      → after (Wire a b) ≡ queue (Wire a b)
      ++ (if eqb a k then posted_to r k (Post d vars) x.count x.numbers b else [])
  post_is d vars e a b la lb =
      queue_is (Post d vars) e a b
      ∙ ap (λ t. cond (eqb b k) (drop (cond t 0 0) (queue (Wire a b))) (queue (Wire a b))
      ++ cond (eqb a k) (cond t (posted_to r a (Post d vars) x.count x.numbers b) []) [])
      (are_there r (Wire a b) la lb)
      ∙ ap (λ q. q ++ cond (eqb a k) (posted_to r a (Post d vars) x.count x.numbers b) [])
      (drop_none (eqb b k) (queue (Wire a b)))
      ∙ ap (λ l. queue (Wire a b) ++ l) (mine (eqb a k) refl)
    where
      mine : (t : Bool) → eqb a k ≡ t
          → ◌≡◌ {A = List (Message tells)}
          (cond (eqb a k) (posted_to r a (Post d vars) x.count x.numbers b) [])
          (if eqb a k then posted_to r k (Post d vars) x.count x.numbers b else [])
      mine true h =
          rw h (ap (λ j. posted_to r j (Post d vars) x.count x.numbers b) (eqb-true a k h))
      mine false h = rw h refl

  take_is : (d : ℕ) (vars : List VarId) (path : List ℕ) → next_op r x.control ≡ Take d vars path
      → (a b : ℕ) → a < parts_in r → b < parts_in r
      → after (Wire a b) ≡ (if eqb b k then drop (takes_from r k d a) (queue (Wire a b))
      else queue (Wire a b))
  take_is d vars path e a b la lb =
      queue_is (Take d vars path) e a b
      ∙ ap (λ t. cond (eqb b k) (drop (cond t (takes_from r b d a) 0) (queue (Wire a b)))
      (queue (Wire a b)) ++ cond (eqb a k) (cond t [] []) []) (are_there r (Wire a b) la lb)
      ∙ add_none (eqb a k) (cond (eqb b k) (drop (takes_from r b d a) (queue (Wire a b)))
      (queue (Wire a b)))
      ∙ mine (eqb b k) refl
    where
      mine : (t : Bool) → eqb b k ≡ t
          → cond (eqb b k) (drop (takes_from r b d a) (queue (Wire a b))) (queue (Wire a b))
          ≡ (if eqb b k then drop (takes_from r k d a) (queue (Wire a b)) else queue (Wire a b))
      mine true h = rw h (ap (λ j. drop (takes_from r j d a) (queue (Wire a b))) (eqb-true b k h))
      mine false h = rw h refl

  quiet_same : (o : Op) → next_op r x.control ≡ o → IsQuiet o → (a b : ℕ) → a < parts_in r
      → b < parts_in r → after (Wire a b) ≡ queue (Wire a b)
  quiet_same o e h a b la lb =
      let q = quiet_is tells r o x.count a b (faces_by r a (held_values r a x.numbers))
      (number_by r a (held_values r a x.numbers)) h in
      queue_is o e a b
      ∙ ap (λ t. cond (eqb b k) (drop (cond t (op_wants r o (Wire a b)) 0) (queue (Wire a b)))
      (queue (Wire a b)) ++ cond (eqb a k)
      (cond t (op_posts r o x.count (faces_by r a (held_values r a x.numbers))
      (number_by r a (held_values r a x.numbers)) (Wire a b)) []) [])
      (are_there r (Wire a b) la lb)
      ∙ ap (λ n. cond (eqb b k) (drop n (queue (Wire a b))) (queue (Wire a b))
      ++ cond (eqb a k) (op_posts r o x.count (faces_by r a (held_values r a x.numbers))
      (number_by r a (held_values r a x.numbers)) (Wire a b)) []) q.wants
      ∙ ap (λ l. cond (eqb b k) (drop 0 (queue (Wire a b))) (queue (Wire a b))
      ++ cond (eqb a k) l []) q.posts
      ∙ add_none (eqb a k) (cond (eqb b k) (drop 0 (queue (Wire a b))) (queue (Wire a b)))
      ∙ drop_none (eqb b k) (queue (Wire a b))

  module _ (old : ℕ → ℕ → List (SentMail tells)) (shown : ShowsWire r old queue) where
    -- behind a post, behind a take, and behind any other operation
    pub post_keeps : (d : ℕ) (vars : List VarId) → next_op r x.control ≡ Post d vars
        → (new : ℕ → ℕ → List (SentMail tells)) → Posts r k (Post d vars) x.count x.numbers old new
        → ShowsWire r new after
    post_keeps d vars e new posts a b la lb =
        subst (ShowsQueue (new a b)) (sym (post_is d vars e a b la lb))
        (posted_shown r k (Post d vars) x.count x.numbers old new posts a b (queue (Wire a b))
        (shown a b la lb))

    pub take_keeps : (d : ℕ) (vars : List VarId) (path : List ℕ)
        → next_op r x.control ≡ Take d vars path → (new : ℕ → ℕ → List (SentMail tells))
        → Takes r k d old new → ShowsWire r new after
    take_keeps d vars path e new takes a b la lb =
        subst (ShowsQueue (new a b)) (sym (take_is d vars path e a b la lb))
        (taken_shown r k d old new takes a b (queue (Wire a b)) (shown a b la lb))

    pub quiet_keeps : (o : Op) → next_op r x.control ≡ o → IsQuiet o → ShowsWire r old after
    quiet_keeps o e h a b la lb =
        subst (ShowsQueue (old a b)) (sym (quiet_same o e h a b la lb)) (shown a b la lb)

    -- what a Take takes is what the wire shows in front
    front_is : (d : ℕ) (vars : List VarId) (path : List ℕ) → next_op r x.control ≡ Take d vars path
        → k < parts_in r → (a : ℕ) → a < parts_in r
        → taken_by (net tells Near r oracle) x queue (Wire a k)
        ≡ take (takes_from r k d a) (queue (Wire a k))
    front_is d vars path e part a la =
        ap (λ o. take (wants a k o) (queue (Wire a k))) e
        ∙ ap (λ t. take (cond t (takes_from r k d a) 0) (queue (Wire a k)))
        (are_there r (Wire a k) la part)

    pub takes_shown : (d : ℕ) (vars : List VarId) (path : List ℕ)
        → next_op r x.control ≡ Take d vars path → k < parts_in r
        → ShowsTaken r k d old (taken_by (net tells Near r oracle) x queue)
    takes_shown d vars path e part =
        shown_in_front r k d old queue (taken_by (net tells Near r oracle) x queue)
        (λ a la. shown a k la part) (front_is d vars path e part)

    -- where it is what its sender posted, the wire's queue begins with what is needed
    pub begins_taken : Neighbours (cut_of r) → (d : ℕ) (vars : List VarId) (path : List ℕ)
        → next_op r x.control ≡ Take d vars path → d < 3 → k < parts_in r
        → (a : ℕ) → a < parts_in r → (n : ℕ) (values : Side → tells → List ℤ)
        → taken_by (net tells Near r oracle) x queue (Wire a k)
        ≡ run.posted_faces r n a values d vars k
        → BeginsWith (cut_of r) a d vars (needed (cut_of r) k d a) (old a k)
    begins_taken law d vars path e dir part a la n values posted =
        begins_shown r law a k d la part dir n values vars
        (drop (takes_from r k d a) (queue (Wire a k))) (old a k)
        (subst (ShowsQueue (old a k))
        (sym (take-append-drop (takes_from r k d a) (queue (Wire a k)))
        ∙ ap (λ l. l ++ drop (takes_from r k d a) (queue (Wire a k)))
        (sym (front_is d vars path e part a la) ∙ posted))
        (shown a k la part))
