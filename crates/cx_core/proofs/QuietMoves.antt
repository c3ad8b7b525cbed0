-- What an operation leaves that it doesn't touch.
use Rattle.std.proofs.Common.{◌≡◌, ℕ, zero, suc, ◌+◌, ◌<◌, ◌%◌, ◌^◌, ◌⊎◌, inl, inr, Bool, true, false, ℤ, List, [], ◌∷◌, ◌++◌, length, take, drop, map, cond, eqb, None, refl, sym, ap, ◌∙◌, subst, arith, append-nil, get_or-set_same, get_or-set_other}
use Rattle.std.specs.List.{AllZip}
use Rattle.std.proofs.lemmas.Bool.{cases_eq}
use Rattle.cx_grid.specs.declared.shapes.Side.{Side}
use Rattle.cx_plan.specs.declared.variable.VarId.{VarId}
use Rattle.cx_rule.specs.States.{State, scalar_of}
use Rattle.cx_flat.specs.declared.op.Op.{Op}
use Rattle.cx_flat.specs.declared.op.Op.TheVariants as op
use Rattle.cx_flat.specs.Ways.{Paired}
use Rattle.law_network.specs.Machine.{put, taken_now, queue_after, sum_below}
use Rattle.law_network.proofs.Put.{at_put}
use Rattle.cx_wire.specs.Messages.{Sent as SentMail}
use Rattle.cx_wire.specs.Received.{counted, counted_none}
use Rattle.law_parts.specs.Moves.{Message, Channel, Wire, Board, sender, receiver, is_there, op_wants, op_posts, op_hands, held_values, piece_by, state_by}
use Rattle.law_parts.specs.Nets.{values_of_op, values_sum}
use Rattle.law_parts.specs.Runs.{Run, parts_in, next_op}
use Rattle.law_parts.proofs.Ways.{scalars_at, op_there, pair_there}
use Rattle.cx_core_part.specs.Exchanges.{ShowsQueue}
use Rattle.cx_core_buffers.specs.Boards.{Given, queue as waiting}
use Rattle.cx_core_events.specs.declared.standing.Standing.{Standing}
use Rattle.cx_core_events.specs.Paces.{Paces, part_of, op_of, iteration_of, no_part}
use Rattle.cx_core_events.specs.Events.{work_of}
use Rattle.cx_core_events.specs.Steps.{moved_on, works_after, handed_after}
use Rattle.law_reached.specs.Sums.{sum_taken_now}
use Rattle.cx_core.specs.Cores.{Cores}
use Rattle.cx_core.specs.Shows.{ShowsGiven, HoldsWork, kinds_given, kinds_joined, kinds_by, kind_of}
use Rattle.cx_core.specs.Steps.{Counts}
use Rattle.cx_core.proofs.MovedStates.{Ready, world, oracle, its, next, network, places, mod_more}

pub take_zero : {A : Type 0} (xs : List A) → take 0 xs ≡ []
take_zero [] = refl
take_zero (x ∷ xs) = refl

pub drop_zero : {A : Type 0} (xs : List A) → drop 0 xs ≡ xs
drop_zero [] = refl
drop_zero (x ∷ xs) = refl

pub cond_both : {A : Type 0} (b : Bool) (x : A) → cond b x x ≡ x
cond_both true x = refl
cond_both false x = refl

-- an operation that gives no number is one behind which none is joined
pub kinds_quiet : (r : Run) (o p : Op) → Paired o p → ((i : ℕ) → p ≡ op.Join i → ⊥)
    → kinds_by r o ≡ []
kinds_quiet r (op.Sweep i) p h n = refl
kinds_quiet r (op.Apply i) p h n = refl
kinds_quiet r (op.Give i) p h n = absurd (n i h)
kinds_quiet r (op.Join i) p h n = refl
kinds_quiet r (op.Post d vars) p h n = refl
kinds_quiet r (op.Take d vars path) p h n = refl
kinds_quiet r (op.Test v path skip) p h n = refl
kinds_quiet r op.Open p h n = refl
kinds_quiet r (op.Turn v path skip) p h n = refl
kinds_quiet r (op.Again back) p h n = refl
kinds_quiet r op.Rotate p h n = refl
kinds_quiet r (op.Due skip) p h n = refl
kinds_quiet r (op.Written skip) p h n = refl
kinds_quiet r (op.Skip skip) p h n = refl
kinds_quiet r (op.Next back) p h n = refl
kinds_quiet r (op.Piece v) p h n = refl
kinds_quiet r op.Save p h n = refl
kinds_quiet r op.Halt p h n = refl

sum_zero : (n : ℕ) (f : ℕ → ℕ) → ((a : ℕ) → f a ≡ 0) → sum_below n f ≡ 0
sum_zero zero f h = refl
sum_zero (suc n) f h = let a = sum_zero n f h in let b = h n in omega (arith, a, b)

more_none : (n : ℕ) → n + 0 ≡ n
more_none n = omega arith

module _ {tells : Type 0} {r : Run} {first : Counts} {old : Cores}
    {queue : ℕ → ℕ → List (SentMail tells)} {now : Counts} {k : ℕ}
    (s : Ready tells r first old queue now k) where
  wants_zero : (c : Channel) → op_wants r (next s) c ≡ 0 → (network s).wants c (its s).control ≡ 0
  wants_zero c e = ap (λ n. cond (is_there r c) n 0) e ∙ cond_both (is_there r c) 0

  pub taken_none : (c : Channel) → op_wants r (next s) c ≡ 0
      → taken_now (network s) (world s) k c ≡ []
  taken_none c e = ap (λ n. take n ((world s).queue c)) (wants_zero c e)
      ∙ take_zero ((world s).queue c)

  -- nothing is posted
  abbrev pub PostsNone : Channel → Type 0
  PostsNone c = (n : ℕ) (faces : ℕ → List VarId → Side → tells → List ℤ) (number : ℕ → ℤ)
      → op_posts r (next s) n faces number c ≡ []

  pub posts_none : (c : Channel) → PostsNone c → (network s).posts c (its s) ≡ []
  posts_none c h = ap (λ ms. cond (is_there r c) ms []) (h _ _ _) ∙ cond_both (is_there r c) []

  pub queue_kept : (c : Channel) → op_wants r (next s) c ≡ 0 → PostsNone c
      → queue_after (network s) (world s) k c ≡ (world s).queue c
  queue_kept c e h =
      ap (λ n. cond (eqb (receiver c) k) (drop n ((world s).queue c)) ((world s).queue c)
      ++ cond (eqb (sender c) k) ((network s).posts c (its s)) []) (wants_zero c e)
      ∙ ap (λ q. cond (eqb (receiver c) k) q ((world s).queue c)
      ++ cond (eqb (sender c) k) ((network s).posts c (its s)) [])
      (drop_zero ((world s).queue c))
      ∙ ap (λ q. q ++ cond (eqb (sender c) k) ((network s).posts c (its s)) [])
      (cond_both (eqb (receiver c) k) ((world s).queue c))
      ∙ ap (λ p. (world s).queue c ++ cond (eqb (sender c) k) p []) (posts_none c h)
      ∙ ap (λ p. (world s).queue c ++ p) (cond_both (eqb (sender c) k) [])
      ∙ append-nil ((world s).queue c)

  pub wires_kept : (after : ℕ → ℕ → List (SentMail tells)) → ((a b : ℕ) → after a b ≡ queue a b)
      → ((a b : ℕ) → op_wants r (next s) (Wire a b) ≡ 0) → ((a b : ℕ) → PostsNone (Wire a b))
      → (a b : ℕ) → a < parts_in r → b < parts_in r
      → ShowsQueue (after a b) (queue_after (network s) (world s) k (Wire a b))
  wires_kept after same e h a b l i =
      subst (λ q. ShowsQueue (after a b) q) (sym (queue_kept (Wire a b) (e a b) (h a b)))
      (subst (λ q. ShowsQueue q ((world s).queue (Wire a b))) (sym (same a b))
      (s.at.shows.wires a b l i))

  pub others_kept : (after : ℕ → ℕ → List (SentMail tells)) → ((a b : ℕ) → after a b ≡ queue a b)
      → (a b : ℕ) → (a < parts_in r → b < parts_in r → ⊥) → after a b ≡ []
  others_kept after same a b n = same a b ∙ s.at.shows.others a b n

  pub boards_kept : (given : Given) → given ≡ old.given
      → ((a b : ℕ) → op_wants r (next s) (Board a b) ≡ 0) → ((a b : ℕ) → PostsNone (Board a b))
      → (a b : ℕ) → a < parts_in r → b < parts_in r
      → AllZip (ShowsGiven r a) (waiting given a b)
      (queue_after (network s) (world s) k (Board a b))
  boards_kept given same e h a b l i =
      subst (λ q. AllZip (ShowsGiven r a) (waiting given a b) q)
      (sym (queue_kept (Board a b) (e a b) (h a b)))
      (subst (λ g. AllZip (ShowsGiven r a) (waiting g a b) ((world s).queue (Board a b))) (sym same)
      (s.at.shows.boards a b l i))

  -- ---- kinds

  pub op_is : op_there r (oracle s) ((world s).place k) ≡ next s
  op_is = ap (next_op r) (sym (s.at.reached.woven.agrees k s.part).stands.control)

  joined_on : (n : ℕ) → ((i : ℕ) → op_there r (oracle s) n ≡ op.Join i → ⊥)
      → kinds_joined r (oracle s) (suc n) ≡ kinds_joined r (oracle s) n
  joined_on zero h = refl
  joined_on (suc m) h =
      ap (λ ks. kinds_given r (oracle s) m ++ ks)
      (kinds_quiet r (op_there r (oracle s) m) (op_there r (oracle s) (suc m))
      (pair_there r (oracle s) (s.run.ways (scalars_at r (oracle s))) m) h)
      ∙ append-nil (kinds_given r (oracle s) m)

  pub joined_kept : ((i : ℕ) → next s ≡ op.Join i → ⊥) → (b : ℕ)
      → kinds_joined r (oracle s) (places s b) ≡ kinds_joined r (oracle s) ((world s).place b)
  joined_kept h = at_put (world s).place k (suc ((world s).place k))
      (λ b n. kinds_joined r (oracle s) n ≡ kinds_joined r (oracle s) ((world s).place b))
      (joined_on ((world s).place k) (λ i e. h i (sym op_is ∙ e))) (λ b. refl)

  pub given_kept : kinds_by r (next s) ≡ [] → (a : ℕ)
      → kinds_given r (oracle s) (places s a) ≡ kinds_given r (oracle s) ((world s).place a)
  given_kept h = at_put (world s).place k (suc ((world s).place k))
      (λ a n. kinds_given r (oracle s) n ≡ kinds_given r (oracle s) ((world s).place a))
      (ap (λ o. kinds_given r (oracle s) ((world s).place k) ++ kinds_by r o) op_is
      ∙ ap (λ ks. kinds_given r (oracle s) ((world s).place k) ++ ks) h
      ∙ append-nil (kinds_given r (oracle s) ((world s).place k))) (λ a. refl)

  pub kinds_kept : (given : Given) → given ≡ old.given → kinds_by r (next s) ≡ []
      → ((i : ℕ) → next s ≡ op.Join i → ⊥)
      → (a b : ℕ) → a < parts_in r → b < parts_in r
      → kinds_given r (oracle s) (places s a)
      ≡ kinds_joined r (oracle s) (places s b) ++ map kind_of (waiting given a b)
  kinds_kept given same e h a b l i =
      given_kept e a ∙ s.at.shows.kinds a b l i
      ∙ ap (λ ks. ks ++ map kind_of (waiting old.given a b)) (sym (joined_kept h b))
      ∙ ap (λ g. kinds_joined r (oracle s) (places s b) ++ map kind_of (waiting g a b)) (sym same)

  -- ---- pieces

  pub work_is : work_of (op_of old.pace k) (iteration_of old.pace k)
      ≡ work_of (next s) (its s).control.iteration
  work_is =
      ap (λ o. work_of o (iteration_of old.pace k))
      ((s.tell.events (oracle s) (world s) old.pace s.at.reached s.at.shows.pace).op k s.part)
      ∙ ap (λ c. work_of (next s) c.iteration) (s.at.shows.pace.parts k s.part).place

  pub there : k < length old.pace.parts
  there = let c = s.at.shows.pace.count in let l = s.part in omega (arith, c, l)

  abbrev pub moved_pace : Paces
  moved_pace = moved_on r.setup old.pace k (scalar_of (its s).numbers)

  pub handed_its : (part_of moved_pace k).handed
      ≡ handed_after (work_of (next s) (its s).control.iteration) (length old.pace.works)
      (part_of old.pace k).handed
  handed_its = ap (λ (x : Standing). x.handed) (get_or-set_same old.pace.parts k _ no_part there)
      ∙ ap (λ o. handed_after o (length old.pace.works) (part_of old.pace k).handed) work_is

  pub handed_other : (j : ℕ) → (j ≡ k → ⊥)
      → (part_of moved_pace j).handed ≡ (part_of old.pace j).handed
  handed_other j n = ap (λ (x : Standing). x.handed)
      (get_or-set_other old.pace.parts k j _ no_part n)

  pub works_are : moved_pace.works
      ≡ works_after (work_of (next s) (its s).control.iteration) old.pace.works
      (part_of old.pace k).handed
  works_are = ap (λ o. works_after o old.pace.works (part_of old.pace k).handed) work_is

  abbrev pub pieces_after : ℕ → List (Message tells)
  pieces_after = put (world s).pieces k ((world s).pieces k ++ (network s).hands k (its s))

  pub pieces_kept : (new : Cores) → new.pace ≡ moved_pace → new.buffers ≡ old.buffers
      → work_of (next s) (its s).control.iteration ≡ None → (network s).hands k (its s) ≡ []
      → (j : ℕ) → j < parts_in r
      → AllZip (HoldsWork r new.buffers j) (take (part_of new.pace j).handed new.pace.works)
      (put (world s).pieces k ((world s).pieces k ++ (network s).hands k (its s)) j)
  pieces_kept new pace buffers none hands j l =
      subst (λ b. AllZip (HoldsWork r b j) (take (part_of new.pace j).handed new.pace.works)
      (pieces_after j)) (sym buffers)
      (subst (λ p. AllZip (HoldsWork r old.buffers j) (take (part_of p j).handed p.works)
      (pieces_after j)) (sym pace)
      (subst (λ ws. AllZip (HoldsWork r old.buffers j) (take (part_of moved_pace j).handed ws)
      (pieces_after j)) (sym works_same)
      (subst (λ n. AllZip (HoldsWork r old.buffers j) (take n old.pace.works) (pieces_after j))
      (sym (handed_same (cases_eq j k)))
      (subst (λ ms. AllZip (HoldsWork r old.buffers j)
      (take (part_of old.pace j).handed old.pace.works) ms) (sym pieces_same)
      (s.at.shows.pieces j l)))))
    where
      works_same : moved_pace.works ≡ old.pace.works
      works_same = works_are ∙ ap (λ o. works_after o old.pace.works (part_of old.pace k).handed)
          none

      handed_same : (j ≡ k) ⊎ (j ≡ k → ⊥)
          → (part_of moved_pace j).handed ≡ (part_of old.pace j).handed
      handed_same (inl e) = ap (λ i. (part_of moved_pace i).handed) e ∙ handed_its
          ∙ ap (λ o. handed_after o (length old.pace.works) (part_of old.pace k).handed) none
          ∙ ap (λ i. (part_of old.pace i).handed) (sym e)
      handed_same (inr n) = handed_other j n

      pieces_same : put (world s).pieces k ((world s).pieces k ++ (network s).hands k (its s)) j
          ≡ (world s).pieces j
      pieces_same = at_put (world s).pieces k ((world s).pieces k ++ (network s).hands k (its s))
          (λ i ms. ms ≡ (world s).pieces i)
          (ap (λ ms. (world s).pieces k ++ ms) hands ∙ append-nil ((world s).pieces k)) (λ i. refl)
          j

  pub hands_by : (o : Op) → next s ≡ o
      → ((n : ℕ) (piece : VarId → tells → List ℤ) (all : tells → State)
      → op_hands r o n piece all ≡ []) → (network s).hands k (its s) ≡ []
  hands_by o e h =
      ap (λ p. op_hands r p (its s).count (piece_by r k (held_values r k (its s).numbers))
      (state_by r k (held_values r k (its s).numbers) (its s).numbers)) e
      ∙ h (its s).count (piece_by r k (held_values r k (its s).numbers))
      (state_by r k (held_values r k (its s).numbers) (its s).numbers)

  -- ---- counts

  pub values_none : (later : Counts) → later.values ≡ now.values → values_of_op r k (next s) ≡ 0
      → later.values ≡ counted now.values (values_of_op r k (next s))
  values_none later e z = e ∙ counted_none now.values ∙ ap (counted now.values) (sym z)

  pub sum_none : (later : Counts) → ((t : tells) → later.sum ≡ now.sum)
      → ((a : ℕ) → op_wants r (next s) (Wire a k) ≡ 0)
      → (t : tells) → later.sum ≡ (now.sum + sum_taken_now t r (oracle s) (world s) k) % 2 ^ 64
  sum_none later e z t =
      e t ∙ s.at.sum t ∙ sym (mod_more (2 ^ 64) _ 0 ∙ ap (λ n. n % 2 ^ 64) (more_none _))
      ∙ ap (λ n. (n + 0) % 2 ^ 64) (sym (s.at.sum t))
      ∙ ap (λ n. (now.sum + n) % 2 ^ 64)
      (sym (sum_zero (parts_in r) _ (λ a. ap (values_sum t) (taken_none (Wire a k) (z a)))))
