-- Joining: the front numbers of all boards to a part are those of the reduction, and the number of
-- all parts goes to its scalar.
use Rattle.std.proofs.Common.{◌≡◌, ℕ, zero, suc, ◌+◌, ◌-◌, ◌<◌, ◌≤◌, ◌⊎◌, inl, inr, Bool, true, false, ℤ, List, [], ◌∷◌, ◌++◌, get_or, map, set, length, cond, eqb, take, drop, Some, None, refl, sym, ap, ◌∙◌, subst, arith, append_assoc, append-nil, eq-eqb}
use Rattle.std.specs.List.{AllZip}
use Rattle.std.proofs.lemmas.Bool.{cases_eq, ne_eqb, both_ways}
use Rattle.std.proofs.lemmas.List.{append_cancel_left}
use Rattle.cx_grid.specs.Boxes.{point_count}
use Rattle.cx_plan.specs.declared.item.ItemKind.{ItemKind}
use Rattle.cx_plan.specs.declared.variable.VarId.{VarId}
use Rattle.cx_plan.specs.Lookups.{item}
use Rattle.cx_rule.specs.Meter.{raised, raised_none}
use Rattle.cx_rule.specs.States.{scalar_of}
use Rattle.cx_model.specs.declared.ends.End.{End}
use Rattle.cx_reduce.specs.Partials.{Reduced}
use Rattle.cx_cut.specs.Cuts.{owned}
use Rattle.cx_field.specs.Patches.{PatchValue}
use Rattle.cx_flat.specs.declared.op.Op.{Op}
use Rattle.cx_flat.specs.declared.op.Op.TheVariants as op
use Rattle.cx_flat.specs.Flats.{control_after}
use Rattle.cx_flat.specs.Ways.{Paired, is_receiving}
use Rattle.law_network.specs.Machine.{taken_now, queue_after}
use Rattle.law_network.proofs.Put.{put_same, put_other}
use Rattle.cx_wire.specs.Messages.{Sent as SentMail}
use Rattle.law_parts.specs.Holding.{joined, join_turn}
use Rattle.law_parts.specs.Moves.{Message, Given, Sent, Handed, Wire, Board, is_there, op_wants, op_posts, faces_by, number_by, held_values, given_number, all_given, Gives, Moves}
use Rattle.law_parts.specs.Nets.{points_of, values_of_op}
use Rattle.law_parts.specs.Runs.{Run, Oracle, parts_in, cut_of}
use Rattle.law_parts.proofs.PairLaws.{are_there}
use Rattle.law_parts.proofs.Ways.{scalars_at, op_there, pair_there, first_quiet}
use Rattle.cx_core_part.specs.Frames.{IsPatchOf}
use Rattle.cx_core_buffers.specs.Boards.{queue as waiting, Takes, front, no_number}
use Rattle.cx_core_buffers.specs.Gathering.{HasRoom}
use Rattle.cx_core_events.specs.Events.{work_of}
use Rattle.cx_core_events.specs.Steps.{moved_on, met_by}
use Rattle.law_reached.specs.Endings.{end_met_by}
use Rattle.cx_core.specs.Cores.{Cores, outcome_of}
use Rattle.cx_core.specs.Moving.{all_fronts}
use Rattle.cx_core.specs.Shows.{ShowsGiven, kinds_by, kinds_given, kinds_joined, kind_of}
use Rattle.cx_core.specs.Steps.{Counts}
use Rattle.cx_core.proofs.ZipLaws.{zip_drop}
use Rattle.cx_core.proofs.MovedStates.{LedTo, Ready, world, oracle, its, next, network, places, can, moved_at, met_at}
use Rattle.cx_core.proofs.QuietMoves.{cond_both, drop_zero, wires_kept, others_kept, pieces_kept, hands_by, values_none, sum_none, op_is, given_kept}
use Rattle.cx_core.proofs.QuietOperations.{held_with, Leaves, some_gives, none_gives}

-- the kind that an operation joins
abbrev kinds_by_join : Run → Op → List ItemKind
kinds_by_join r (op.Join i) = (item r.setup i).kind ∷ []
kinds_by_join r (op.Sweep i) = []
kinds_by_join r (op.Apply i) = []
kinds_by_join r (op.Give i) = []
kinds_by_join r (op.Post d vars) = []
kinds_by_join r (op.Take d vars path) = []
kinds_by_join r (op.Test v path skip) = []
kinds_by_join r op.Open = []
kinds_by_join r (op.Turn v path skip) = []
kinds_by_join r (op.Again back) = []
kinds_by_join r op.Rotate = []
kinds_by_join r (op.Due skip) = []
kinds_by_join r (op.Written skip) = []
kinds_by_join r (op.Skip skip) = []
kinds_by_join r (op.Next back) = []
kinds_by_join r (op.Piece v) = []
kinds_by_join r op.Save = []
kinds_by_join r op.Halt = []

receives : (p : Op) (i : ℕ) → p ≡ op.Join i → is_receiving p ≡ false → ⊥
receives p i e h = both_ways (is_receiving p) h (ap is_receiving e)

take_no_join : (d i : ℕ) (vars : List VarId) (path : List ℕ) → op.Take d vars path ≡ op.Join i → ⊥
take_no_join d i vars path e = absurd cc

-- it is the kind that was given
kinds_met : (r : Run) (o p : Op) (i : ℕ) → Paired o p → p ≡ op.Join i
    → kinds_by r o ≡ (item r.setup i).kind ∷ []
kinds_met r (op.Sweep j) p i h q = absurd (receives p i q h)
kinds_met r (op.Apply j) p i h q = absurd (receives p i q h)
kinds_met r (op.Give j) p i h q = ap (kinds_by_join r) (sym h ∙ q)
kinds_met r (op.Join j) p i h q = absurd (receives p i q h)
kinds_met r (op.Post d vars) p i h q = absurd (take_no_join d i vars h.0 (sym h.1 ∙ q))
kinds_met r (op.Take d vars path) p i h q = absurd (receives p i q h)
kinds_met r (op.Test v path skip) p i h q = absurd (receives p i q h)
kinds_met r op.Open p i h q = absurd (receives p i q h)
kinds_met r (op.Turn v path skip) p i h q = absurd (receives p i q h)
kinds_met r (op.Again back) p i h q = absurd (receives p i q h)
kinds_met r op.Rotate p i h q = absurd (receives p i q h)
kinds_met r (op.Due skip) p i h q = absurd (receives p i q h)
kinds_met r (op.Written skip) p i h q = absurd (receives p i q h)
kinds_met r (op.Skip skip) p i h q = absurd (receives p i q h)
kinds_met r (op.Next back) p i h q = absurd (receives p i q h)
kinds_met r (op.Piece v) p i h q = absurd (receives p i q h)
kinds_met r op.Save p i h q = absurd (receives p i q h)
kinds_met r op.Halt p i h q = absurd (receives p i q h)

-- what is given before a place begins what is given before a later one
given_upto : (r : Run) (o : Oracle) (m d : ℕ)
    → (more : List ItemKind) × (kinds_given r o (m + d) ≡ kinds_given r o m ++ more)
given_upto r o m zero = let e : m + 0 ≡ m = omega arith in
    ([], ap (kinds_given r o) e ∙ sym (append-nil (kinds_given r o m)))
given_upto r o m (suc d) =
    let before = given_upto r o m d in
    let e : m + suc d ≡ suc (m + d) = omega arith in (
      before.0 ++ kinds_by r (op_there r o (m + d)),
      ap (kinds_given r o) e ∙ ap (λ ks. ks ++ kinds_by r (op_there r o (m + d))) before.1
          ∙ append_assoc (kinds_given r o m) before.0 (kinds_by r (op_there r o (m + d))),
    )

-- a list of which this is said is not empty
record HasFront (xs : List Reduced) (kind : ItemKind) (more : List ItemKind) : Type 0 where
  some : 0 < length xs
  kind_is : (get_or xs 0 no_number).kind ≡ kind
  rest : map kind_of (drop 1 xs) ≡ more

has_front : (xs : List Reduced) (kind : ItemKind) (more : List ItemKind)
    → map kind_of xs ≡ kind ∷ more → HasFront xs kind more
has_front [] kind more e = absurd cc
has_front (x ∷ xs) kind more e =
    record {
      some = omega arith;
      kind_is = head x.kind kind (map kind_of xs) more e;
      rest = ap (map kind_of) (drop_zero xs) ∙ tail x.kind kind (map kind_of xs) more e;
    }
  where
    head : {A : Type 0} (a b : A) (ps qs : List A) → a ∷ ps ≡ b ∷ qs → a ≡ b
    head a b ps qs q = cc

    tail : {A : Type 0} (a b : A) (ps qs : List A) → a ∷ ps ≡ b ∷ qs → ps ≡ qs
    tail a b ps qs q = cc

front_points : {tells : Type 0} (r : Run) (a : ℕ) (xs : List Reduced) (ms : List (Message tells))
    → AllZip (ShowsGiven r a) xs ms → 0 < length xs
    → ((get_or xs 0 no_number).points ≡ point_count (owned (cut_of r) a))
    × (given_number (take 1 ms) ≡ (get_or xs 0 no_number).number)
front_points r a [] ms h l = absurd (omega (arith, l))
front_points r a (x ∷ xs) [] h l = absurd h
front_points r a (x ∷ xs) (Given number ∷ ms) h l = (h.0.1, sym h.0.0)
front_points r a (x ∷ xs) (Sent head values ∷ ms) h l = absurd h.0
front_points r a (x ∷ xs) (Handed n state ∷ ms) h l = absurd h.0

module _ {tells : Type 0} {r : Run} {first : Counts} {old : Cores}
    {queue : ℕ → ℕ → List (SentMail tells)} {now : Counts} {k : ℕ}
    (s : Ready tells r first old queue now k)
    (i : ℕ) (is : next s ≡ op.Join i) where
  abbrev kind : ItemKind
  kind = (item r.setup i).kind

  joins_there : (n : ℕ) → op_there r (oracle s) n ≡ op.Join i
      → kinds_given r (oracle s) n ≡ kinds_joined r (oracle s) n ++ kind ∷ []
  joins_there zero e = absurd
      (receives (op_there r (oracle s) 0) i e
      (first_quiet r (oracle s) (s.run.ways (scalars_at r (oracle s)))))
  joins_there (suc m) e =
      ap (λ ks. kinds_given r (oracle s) m ++ ks)
      (kinds_met r (op_there r (oracle s) m) (op_there r (oracle s) (suc m)) i
      (pair_there r (oracle s) (s.run.ways (scalars_at r (oracle s))) m) e)

  wants_is : (a b : ℕ) → a < parts_in r → b < parts_in r
      → (network s).wants (Board a b) (its s).control ≡ 1
  wants_is a b l m = ap (λ c. cond c (op_wants r (next s) (Board a b)) 0)
      (are_there r (Board a b) l m) ∙ ap (λ o. op_wants r o (Board a b)) is

  ahead : (a : ℕ) → a < parts_in r → (world s).place k ≤ (world s).place a
  ahead a l = (can s).ready (Board a k) refl (let e = wants_is a k l s.part in omega (arith, e))

  -- the front of a board to the part, and what is behind it
  fronts : (a : ℕ) → a < parts_in r
      → (more : List ItemKind) × HasFront (waiting old.given a k) kind more
      × (kinds_given r (oracle s) ((world s).place a)
      ≡ kinds_joined r (oracle s) (suc ((world s).place k)) ++ more)
  fronts a l =
      let n = (world s).place k in
      let upto = given_upto r (oracle s) n ((world s).place a - n) in
      let e : n + ((world s).place a - n) ≡ (world s).place a = let h = ahead a l in
      omega (arith, h) in
      let whole = ap (kinds_given r (oracle s)) (sym e) ∙ upto.1 in
      let both : kinds_joined r (oracle s) n ++ map kind_of (waiting old.given a k)
      ≡ kinds_joined r (oracle s) n ++ (kind ∷ upto.0) =
      sym (s.at.shows.kinds a k l s.part) ∙ whole
      ∙ ap (λ ks. ks ++ upto.0) (joins_there n (op_is s ∙ is))
      ∙ append_assoc (kinds_joined r (oracle s) n) (kind ∷ []) upto.0 in (
        upto.0,
        has_front (waiting old.given a k) kind upto.0
            (append_cancel_left (kinds_joined r (oracle s) n) (map kind_of (waiting old.given a k))
            (kind ∷ upto.0) both),
        whole,
      )

  -- ---- what the boards ask for

  pub some_front : (a : ℕ) → a < parts_in r → 0 < length (waiting old.given a k)
  some_front a l = (fronts a l).1.some

  pub front_kind : (a : ℕ) → a < parts_in r → (front old.given a k).kind ≡ kind
  front_kind a l = (fronts a l).1.kind_is

  pub front_count : (a : ℕ) → a < parts_in r
      → (front old.given a k).points ≡ point_count (owned (cut_of r) a)
  front_count a l =
      (front_points r a (waiting old.given a k) ((world s).queue (Board a k))
      (s.at.shows.boards a k l s.part) (some_front a l)).0

  -- ---- the numbers that are joined

  mail_is : (a : ℕ) → a < parts_in r
      → given_number (taken_now (network s) (world s) k (Board a k)) ≡ (front old.given a k).number
  mail_is a l =
      ap (λ n. given_number (take n ((world s).queue (Board a k)))) (wants_is a k l s.part)
      ∙ (front_points r a (waiting old.given a k) ((world s).queue (Board a k))
      (s.at.shows.boards a k l s.part) (some_front a l)).1

  mails_are : (n : ℕ) → n ≤ parts_in r
      → all_given k (taken_now (network s) (world s) k) n ≡ all_fronts old.given k n
  mails_are zero l = refl
  mails_are (suc n) l =
      ap (λ ns. ns ++ given_number (taken_now (network s) (world s) k (Board n k)) ∷ [])
      (mails_are n (omega (arith, l)))
      ∙ ap (λ x. all_fronts old.given k n ++ x ∷ []) (mail_is n (omega (arith, l)))

  turn_is : (number : ℤ) → number ≡ joined kind (all_fronts old.given k (parts_in r))
      → join_turn r.setup (item r.setup i) (its s).numbers
      (joined kind (all_given k (taken_now (network s) (world s) k) (parts_in r)))
      ≡ join_turn r.setup (item r.setup i) (its s).numbers number
  turn_is number e =
      ap (λ ns. join_turn r.setup (item r.setup i) (its s).numbers (joined kind ns))
      (mails_are (parts_in r) (omega arith))
      ∙ ap (join_turn r.setup (item r.setup i) (its s).numbers) (sym e)

  -- ---- what is left

  module _ (new : Cores) (after : ℕ → ℕ → List (SentMail tells)) (later : Counts)
      (patch : PatchValue) (taken : Takes old.given k new.given) where
    taken_is : (a b : ℕ) → a < parts_in r → b < parts_in r
        → waiting new.given a b
        ≡ cond (eqb b k) (drop 1 (waiting old.given a b)) (waiting old.given a b)
    taken_is a b l m = taken.queues a b (let c = s.at.shows.senders in omega (arith, c, l))
        (let c = s.at.shows.senders in omega (arith, c, m))

    posts_nothing : (a b : ℕ) → (network s).posts (Board a b) (its s) ≡ []
    posts_nothing a b =
        ap (λ o. cond (is_there r (Board a b))
        (op_posts r o (its s).count (faces_by r a (held_values r a (its s).numbers))
        (number_by r a (held_values r a (its s).numbers)) (Board a b)) []) is
        ∙ cond_both (is_there r (Board a b)) []

    queue_is : (a b : ℕ) → a < parts_in r → b < parts_in r
        → queue_after (network s) (world s) k (Board a b)
        ≡ cond (eqb b k) (drop 1 ((world s).queue (Board a b))) ((world s).queue (Board a b))
    queue_is a b l m =
        ap (λ n. cond (eqb b k) (drop n ((world s).queue (Board a b))) ((world s).queue (Board a b))
        ++ cond (eqb a k) ((network s).posts (Board a b) (its s)) []) (wants_is a b l m)
        ∙ ap (λ ms. cond (eqb b k) (drop 1 ((world s).queue (Board a b)))
        ((world s).queue (Board a b)) ++ cond (eqb a k) ms []) (posts_nothing a b)
        ∙ ap (λ ms. cond (eqb b k) (drop 1 ((world s).queue (Board a b)))
        ((world s).queue (Board a b)) ++ ms) (cond_both (eqb a k) [])
        ∙ append-nil (cond (eqb b k) (drop 1 ((world s).queue (Board a b)))
        ((world s).queue (Board a b)))

    both_drop : (a b : ℕ) (c : Bool)
        → AllZip (ShowsGiven r a) (waiting old.given a b) ((world s).queue (Board a b))
        → AllZip (ShowsGiven r a) (cond c (drop 1 (waiting old.given a b)) (waiting old.given a b))
        (cond c (drop 1 ((world s).queue (Board a b))) ((world s).queue (Board a b)))
    both_drop a b true h = zip_drop (ShowsGiven r a) 1 (waiting old.given a b)
        ((world s).queue (Board a b)) h
    both_drop a b false h = h

    boards : (a b : ℕ) → a < parts_in r → b < parts_in r
        → AllZip (ShowsGiven r a) (waiting new.given a b)
        (queue_after (network s) (world s) k (Board a b))
    boards a b l m =
        subst (λ q. AllZip (ShowsGiven r a) q (queue_after (network s) (world s) k (Board a b)))
        (sym (taken_is a b l m))
        (subst (λ q. AllZip (ShowsGiven r a)
        (cond (eqb b k) (drop 1 (waiting old.given a b)) (waiting old.given a b)) q)
        (sym (queue_is a b l m)) (both_drop a b (eqb b k) (s.at.shows.boards a b l m)))

    kinds : (a b : ℕ) → a < parts_in r → b < parts_in r
        → kinds_given r (oracle s) (places s a)
        ≡ kinds_joined r (oracle s) (places s b) ++ map kind_of (waiting new.given a b)
    kinds a b l m =
        given_kept s (ap (kinds_by r) is) a ∙ by (cases_eq b k)
        ∙ ap (λ xs. kinds_joined r (oracle s) (places s b) ++ map kind_of xs)
        (sym (taken_is a b l m))
      where
        by : (b ≡ k) ⊎ (b ≡ k → ⊥)
            → kinds_given r (oracle s) ((world s).place a)
            ≡ kinds_joined r (oracle s) (places s b)
            ++ map kind_of (cond (eqb b k) (drop 1 (waiting old.given a b)) (waiting old.given a b))
        by (inl e) =
            let f = fronts a l in
            f.2
            ∙ ap (λ ks. kinds_joined r (oracle s) (suc ((world s).place k)) ++ ks) (sym f.1.rest)
            ∙ ap (λ z. kinds_joined r (oracle s) (suc ((world s).place k))
            ++ map kind_of (drop 1 (waiting old.given a z))) (sym e)
            ∙ ap (λ n. kinds_joined r (oracle s) n ++ map kind_of (drop 1 (waiting old.given a b)))
            (sym (put_same (world s).place k (suc ((world s).place k)) b e))
            ∙ ap (λ c. kinds_joined r (oracle s) (places s b)
            ++ map kind_of (cond c (drop 1 (waiting old.given a b)) (waiting old.given a b)))
            (sym (eq-eqb b k e))
        by (inr n) =
            s.at.shows.kinds a b l m
            ∙ ap (λ p. kinds_joined r (oracle s) p ++ map kind_of (waiting old.given a b))
            (sym (put_other (world s).place k (suc ((world s).place k)) b n))
            ∙ ap (λ c. kinds_joined r (oracle s) (places s b)
            ++ map kind_of (cond c (drop 1 (waiting old.given a b)) (waiting old.given a b)))
            (sym (ne_eqb b k n))

    pub join_goes : new.pace ≡ moved_on r.setup old.pace k (scalar_of (its s).numbers)
        → new.patches ≡ set old.patches k patch → IsPatchOf r.setup (cut_of r) k patch
        → new.buffers ≡ old.buffers → new.lengths ≡ old.lengths → new.met ≡ old.met
        → new.outcome ≡ old.outcome
        → (number : ℤ) → number ≡ joined kind (all_fronts old.given k (parts_in r))
        → join_turn r.setup (item r.setup i) (its s).numbers number ≡ Some patch.numbers
        → ((a b : ℕ) → after a b ≡ queue a b) → later.points ≡ now.points
        → later.values ≡ now.values → ((t : tells) → later.sum ≡ now.sum)
        → LedTo s.at k new after later
    join_goes pace patches frame buffers lengths_are met outcome number joins turn same points
        values
        sum = moved_at s new after later (held_with s patch.numbers) (record {
          move =
              subst (λ p. Moves tells r k (its s) (taken_now (network s) (world s) k) p
              (Some (held_with s patch.numbers))) (sym is)
              (subst (λ p. Gives r (op.Join i) (its s)
              (join_turn r.setup (item r.setup i) (its s).numbers
              (joined kind (all_given k (taken_now (network s) (world s) k) (parts_in r))))
              (Some
              (record {
                count = suc (its s).count;
                control = control_after r.setup p (scalar_of (its s).numbers) (its s).control;
                numbers = patch.numbers;
              }))) (sym is)
              (some_gives r (op.Join i) (its s) _ patch.numbers (turn_is number joins ∙ turn)));
          pace_is = pace;
          patch = patch;
          patches_are = patches;
          shown = record { frame = frame; numbers = refl };
          wires = wires_kept s after same (λ a b. ap (λ o. op_wants r o (Wire a b)) is)
              (λ a b n faces number. ap (λ o. op_posts r o n faces number (Wire a b)) is);
          others = others_kept s after same;
          senders = taken.parts;
          boards = boards;
          kinds = kinds;
          pieces = pieces_kept s new pace buffers (ap (λ o. work_of o (its s).control.iteration) is)
              (hands_by s (op.Join i) is (λ n piece all. refl));
          room = subst (HasRoom r.setup) (sym buffers) s.at.shows.room;
          lengths_are = lengths_are;
          met_is = met;
          outcome_is = outcome;
          points = points ∙ raised_none now.points
              ∙ ap (raised now.points) (sym (ap (points_of r k) is));
          values = values_none s later values (ap (values_of_op r k) is);
          sum = sum_none s later sum (λ a. ap (λ o. op_wants r o (Wire a k)) is);
        })

  -- a number that leaves the scalar's type; the boards may be left as they were
  pub join_meets : (new : Cores) (after : ℕ → ℕ → List (SentMail tells)) (later : Counts)
      (l : Leaves s new after later) → new.pace ≡ met_by old.pace k
      → l.patch.numbers ≡ (its s).numbers
      → (number : ℤ) → number ≡ joined kind (all_fronts old.given k (parts_in r))
      → join_turn r.setup (item r.setup i) (its s).numbers number ≡ None
      → (end : End) → end_met_by r (op.Join i) (its s).control.iteration ≡ Some end
      → new.met ≡ outcome_of (Some end) → later.points ≡ now.points
      → LedTo s.at k new after later
  join_meets new after later l pace numbers number joins turn end end_is met points =
      met_at s new after later (record {
        move = subst (λ p. Moves tells r k (its s) (taken_now (network s) (world s) k) p None)
            (sym is)
            (none_gives r (op.Join i) (its s) _ (turn_is number joins ∙ turn));
        pace_is = pace;
        patch = l.patch;
        patches_are = l.patches_are;
        shown = record { frame = l.frame; numbers = numbers };
        given_is = l.given_is;
        buffers_are = l.buffers_are;
        lengths_are = l.lengths_are;
        outcome_is = l.outcome_is;
        end = end;
        end_is = ap (λ o. end_met_by r o (its s).control.iteration) is ∙ end_is;
        met_is = met;
        queue_is = l.queue_is;
        rose = record {
          least = no_less later.points now.points points;
          most = no_more later.points now.points (points_of r k (next s)) points;
        };
        values = l.values_are;
        sum = l.sum_is;
      })
    where
      no_less : (a b : ℕ) → a ≡ b → b ≤ a
      no_less a b e = omega (arith, e)

      no_more : (a b n : ℕ) → a ≡ b → a ≤ raised b n
      no_more a b n e = omega (arith, e)
