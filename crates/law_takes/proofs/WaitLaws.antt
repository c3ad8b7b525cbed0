-- Where the messages of a Take are there, its part can go on with it.
use Rattle.std.proofs.Common.{◌≡◌, ℕ, ◌+◌, ◌<◌, ◌≤◌, Bool, true, false, cond, List, [], ◌∷◌, ◌++◌, length, Option, Some, None, refl, sym, ap, ◌∙◌, arith, ◌↔◌}
use Rattle.std.proofs.lemmas.Bool.{ltb-true}
use Rattle.std.proofs.lemmas.Slice.Zip.{AllZip-long}
use Rattle.cx_grid.specs.declared.shapes.Side.{Side}
use Rattle.cx_grid.specs.declared.shapes.Side.TheVariants.{Low, High}
use Rattle.cx_plan.specs.declared.variable.VarId.{VarId}
use Rattle.cx_plan.specs.Lists.{only, is_at}
use Rattle.cx_model.specs.Runs.{Lengths}
use Rattle.cx_cut.specs.Cuts.{Parts}
use Rattle.cx_cut.specs.Neighbours.{partner}
use Rattle.law_network.specs.Machine.{World, CanMove}
use Rattle.law_network.proofs.Steps.{ready_by_places}
use Rattle.cx_wire.specs.Messages.{Sent as SentMail}
use Rattle.cx_ghost.specs.Takes.{needed, BeginsWith}
use Rattle.cx_flat.specs.declared.op.Op.TheVariants.{Take}
use Rattle.cx_flat.specs.Flats.{is_halt}
use Rattle.law_parts.specs.Holding.{Held}
use Rattle.law_parts.specs.Laws.{IsReachedState}
use Rattle.law_parts.specs.Moves.{Message, Channel, Wire, Board, sender, receiver, is_there, takes_from, buffer_of}
use Rattle.law_parts.specs.Nets.{net, within_lead}
use Rattle.law_parts.specs.Runs.{Run, Oracle, cut_of, parts_in, next_op}
use Rattle.law_parts.specs.Truths.{script, Agrees, GivesAt, Books}
use Rattle.law_parts.proofs.FitLaws.{lead_fits}
use Rattle.law_parts.proofs.PairLaws.{and_left}
use Rattle.law_parts.proofs.WholeRun.{IsRun}
use Rattle.cx_core_part.specs.Exchanges.{ShowsMessage, ShowsWire}
use Rattle.cx_core_part.specs.Laws.{TakesAreThere}
use Rattle.law_takes.specs.Waiting.{MayTake, TakesWaitForMessages, QueuesFollowPlaces, taken_next}

-- a queue that begins with faces has as many messages
at_least : {tells : Type 0} (c : Parts) (a d : ℕ) (vars : List VarId) (sides : List Side)
    (q : List (SentMail tells)) → BeginsWith c a d vars sides q → length sides ≤ length q
at_least c a d vars [] q h = omega arith
at_least c a d vars (side ∷ sides) [] h = absurd h
at_least c a d vars (side ∷ sides) (m ∷ q) h =
    let more = at_least c a d vars sides q h.1 in omega (arith, more)

-- as many messages are taken as are needed
needed_count : (h l : Bool) → length (only h (Low ∷ []) ++ only l (High ∷ []))
    ≡ cond h 1 0 + cond l 1 0
needed_count true true = refl
needed_count true false = refl
needed_count false true = refl
needed_count false false = refl

counted : (r : Run) (k d a : ℕ) → length (needed (cut_of r) k d a) ≡ takes_from r k d a
counted r k d a =
    needed_count (is_at (partner (cut_of r) k d High) a) (is_at (partner (cut_of r) k d Low) a)

-- what is taken of a channel, if both its ends are parts
taken_if : (t : Bool) (n m : ℕ) → (t ≡ true → n ≤ m) → cond t n 0 ≤ m
taken_if true n m h = h refl
taken_if false n m h = omega arith

none_is_some : {n : ℕ} → ◌≡◌ {A = Option ℕ} None (Some n) → ⊥
none_is_some e = cc

module _ (tells : Type 0) (r : Run) (run : IsRun r) (oracle : Oracle)
    (w : World Held (Message tells) Channel Lengths) (is : IsReachedState tells r oracle w)
    (k : ℕ) (part : k < parts_in r) where
  pub by_places : (c : Channel) → receiver c ≡ k
      → (taken_next r oracle w k c ≤ length (w.queue c))
      ↔ (0 < taken_next r oracle w k c → w.place k ≤ w.place (sender c))
  by_places c e =
      ready_by_places (net tells within_lead r oracle) (script tells r oracle)
      (Agrees tells r oracle) (GivesAt r oracle) (Books tells r)
      (lead_fits tells r run oracle is.oracle_is.told is.oracle_is.first) w is.woven k part c e

  module _ (d : ℕ) (vars : List VarId) (path : List ℕ)
      (here : next_op r (w.held k).control ≡ Take d vars path)
      (q : ℕ → ℕ → List (SentMail tells)) (shown : ShowsWire r q w.queue)
      (may : MayTake r w k d vars q) where
    -- of a wire to part k
    wire_has : (a : ℕ) → a < parts_in r → takes_from r k d a ≤ length (w.queue (Wire a k))
    wire_has a la =
        let begins = at_least (cut_of r) a d vars (needed (cut_of r) k d a) (q a k)
        (may.there a la) in
        let long = AllZip-long ShowsMessage (q a k) (w.queue (Wire a k)) (shown a k la part) in
        let count = counted r k d a in
        omega (arith, begins, long, count)

    has_all : (c : Channel) → receiver c ≡ k → taken_next r oracle w k c ≤ length (w.queue c)
    has_all (Wire a b) e =
        rw (here, e) (taken_if (is_there r (Wire a k)) (takes_from r k d a)
        (length (w.queue (Wire a k)))
        (λ t. wire_has a (ltb-true a (parts_in r) (and_left _ _ t))))
    has_all (Board a b) e =
        rw here (taken_if (is_there r (Board a b)) 0 (length (w.queue (Board a b)))
        (λ t. omega arith))

    can_take : CanMove (net tells within_lead r oracle) w k
    can_take = record {
      part = part;
      going = may.going;
      left_over = ap is_halt here;
      before = may.before;
      ready = λ c e some. (by_places c e).0 (has_all c e) some;
      near = may.near;
      room = λ b m e _ _ _. none_is_some (sym (ap (buffer_of r) here) ∙ e);
    }

pub queues_follow : (tells : Type 0) (r : Run) → IsRun r → QueuesFollowPlaces tells r
queues_follow tells r run oracle w k c is part e = by_places tells r run oracle w is k part c e

pub takes_wait_so : (tells : Type 0) (r : Run) → IsRun r → TakesAreThere tells r
    → TakesWaitForMessages tells r
takes_wait_so tells r run there oracle w k d vars path is part here q shown = (
  λ can. record {
    going = can.going;
    before = can.before;
    near = can.near;
    there = λ a la. there oracle w k d vars path is can here q shown a la;
  },
  λ may. can_take tells r run oracle w is k part d vars path here q shown may,
)
