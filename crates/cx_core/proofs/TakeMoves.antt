-- Taking: what a part takes of its queues is what its neighbours posted, and its ghosts get it.
use Rattle.std.proofs.Common.{◌≡◌, ℕ, zero, suc, ◌+◌, ◌<◌, ◌≤◌, ◌%◌, ◌^◌, ◌⊎◌, inl, inr, Bool, true, false, ℤ, List, [], ◌∷◌, ◌++◌, set, length, cond, eqb, take, drop, Some, refl, sym, ap, ◌∙◌, subst, arith, append-nil, eq-eqb}
use Rattle.std.proofs.lemmas.Bool.{cases_eq, ne_eqb, both_ways}
use Rattle.cx_grid.specs.declared.shapes.Side.{Side}
use Rattle.cx_grid.specs.declared.shapes.Side.TheVariants.{Low, High}
use Rattle.cx_plan.specs.declared.variable.VarId.{VarId}
use Rattle.cx_rule.specs.Meter.{raised, raised_none}
use Rattle.cx_rule.specs.States.{scalar_of}
use Rattle.cx_cut.specs.Neighbours.{partner}
use Rattle.cx_field.specs.Patches.{PatchValue}
use Rattle.cx_flat.specs.declared.op.Op.{Op}
use Rattle.cx_flat.specs.declared.op.Op.TheVariants as op
use Rattle.cx_flat.specs.Flats.{control_after}
use Rattle.cx_flat.specs.Ways.{Paired, is_receiving}
use Rattle.law_network.specs.Machine.{taken_now, queue_after}
use Rattle.law_network.specs.Agreement.{Fits, takes}
use Rattle.law_network.proofs.Steps.{found}
use Rattle.cx_model.specs.Turns.{values_of}
use Rattle.cx_wire.specs.Messages.{Sent as SentMail}
use Rattle.cx_wire.specs.Received.{counted}
use Rattle.cx_ghost.specs.Takes.{needed, IsFace, BeginsWith}
use Rattle.law_parts.specs.Moves.{Sent, Wire, Board, is_there, takes_from, face_head, op_wants, op_posts, faces_by, number_by, held_values, Filled, Moves}
use Rattle.law_parts.specs.Nets.{points_of, values_of_op}
use Rattle.law_parts.specs.Runs.{Run, parts_in, cut_of, undivided}
use Rattle.law_parts.specs.Truths.{script, Agrees, GivesAt, Books}
use Rattle.law_parts.proofs.FitLaws.{lead_fits}
use Rattle.law_parts.proofs.MutualLaws.{partners_mutual}
use Rattle.law_parts.proofs.PairLaws.{are_there}
use Rattle.law_parts.proofs.Ways.{scalars_at, op_there, pair_there, first_quiet, IsMutual}
use Rattle.law_parts.proofs.WholeRun.{law, names_at, shape}
use Rattle.law_parts.specs.Operations.{NamesWell, IsExchange}
use Rattle.cx_core_part.specs.Exchanges.{ShowsMessage, ShowsQueue, ShowsTaken, Takes, sum_taken}
use Rattle.cx_core_part.specs.Frames.{IsPatchOf}
use Rattle.cx_core_events.specs.Events.{work_of}
use Rattle.cx_core_events.specs.Steps.{moved_on}
use Rattle.cx_core_buffers.specs.Gathering.{HasRoom}
use Rattle.cx_core.specs.Cores.{Cores}
use Rattle.cx_core.specs.Shows.{kinds_by}
use Rattle.cx_core.specs.Steps.{Counts}
use Rattle.cx_core.proofs.ZipLaws.{zip_take, zip_drop}
use Rattle.cx_core.proofs.MovedStates.{LedTo, Ready, world, oracle, its, next, network, can, moved_at}
use Rattle.cx_core.proofs.QuietMoves.{cond_both, boards_kept, kinds_kept, pieces_kept, hands_by, op_is}
use Rattle.cx_core.proofs.QuietOperations.{held_with}
use Rattle.cx_plan.specs.Lists.{only, is_at}

-- the posting before a taking
abbrev posting : Op → Op
posting (op.Take d vars path) = op.Post d vars
posting (op.Sweep i) = op.Halt
posting (op.Apply i) = op.Halt
posting (op.Give i) = op.Halt
posting (op.Join i) = op.Halt
posting (op.Post d vars) = op.Halt
posting (op.Test v path skip) = op.Halt
posting op.Open = op.Halt
posting (op.Turn v path skip) = op.Halt
posting (op.Again back) = op.Halt
posting op.Rotate = op.Halt
posting (op.Due skip) = op.Halt
posting (op.Written skip) = op.Halt
posting (op.Skip skip) = op.Halt
posting (op.Next back) = op.Halt
posting (op.Piece v) = op.Halt
posting op.Save = op.Halt
posting op.Halt = op.Halt

receives : (p : Op) (d : ℕ) (vars : List VarId) (path : List ℕ) → p ≡ op.Take d vars path
    → is_receiving p ≡ false → ⊥
receives p d vars path e h = both_ways (is_receiving p) h (ap is_receiving e)

join_no_take : (i d : ℕ) (vars : List VarId) (path : List ℕ) → op.Join i ≡ op.Take d vars path → ⊥
join_no_take i d vars path e = absurd cc

posted_before : (o p : Op) (d : ℕ) (vars : List VarId) (path : List ℕ) → Paired o p
    → p ≡ op.Take d vars path → o ≡ op.Post d vars
posted_before (op.Sweep i) p d vars path h q = absurd (receives p d vars path q h)
posted_before (op.Apply i) p d vars path h q = absurd (receives p d vars path q h)
posted_before (op.Give i) p d vars path h q = absurd (join_no_take i d vars path (sym h ∙ q))
posted_before (op.Join i) p d vars path h q = absurd (receives p d vars path q h)
posted_before (op.Post e more) p d vars path h q = ap posting (sym h.1 ∙ q)
posted_before (op.Take e more way) p d vars path h q = absurd (receives p d vars path q h)
posted_before (op.Test v way skip) p d vars path h q = absurd (receives p d vars path q h)
posted_before op.Open p d vars path h q = absurd (receives p d vars path q h)
posted_before (op.Turn v way skip) p d vars path h q = absurd (receives p d vars path q h)
posted_before (op.Again back) p d vars path h q = absurd (receives p d vars path q h)
posted_before op.Rotate p d vars path h q = absurd (receives p d vars path q h)
posted_before (op.Due skip) p d vars path h q = absurd (receives p d vars path q h)
posted_before (op.Written skip) p d vars path h q = absurd (receives p d vars path q h)
posted_before (op.Skip skip) p d vars path h q = absurd (receives p d vars path q h)
posted_before (op.Next back) p d vars path h q = absurd (receives p d vars path q h)
posted_before (op.Piece v) p d vars path h q = absurd (receives p d vars path q h)
posted_before op.Save p d vars path h q = absurd (receives p d vars path q h)
posted_before op.Halt p d vars path h q = absurd (receives p d vars path q h)

is_face : {tells : Type 0} (r : Run) (n a d : ℕ) (vars : List VarId) (side : Side)
    (m : SentMail tells) (values : tells → List ℤ)
    → ShowsMessage m (Sent (face_head r n a d side vars) values) → IsFace (cut_of r) a d vars side m
is_face r n a d vars side m values h =
    record { direction = h.0.dir; side_is = h.0.side; count = h.0.count }

-- a queue that shows these faces begins with them
begins : {tells : Type 0} (r : Run) (n a d : ℕ) (vars : List VarId) (x y : Bool)
    (low high : tells → List ℤ) (q : List (SentMail tells))
    → ShowsQueue (take (cond x 1 0 + cond y 1 0) q)
    (only x (Sent (face_head r n a d Low vars) low ∷ [])
    ++ only y (Sent (face_head r n a d High vars) high ∷ []))
    → BeginsWith (cut_of r) a d vars (only x (Low ∷ []) ++ only y (High ∷ [])) q
begins r n a d vars true true low high [] h = absurd h
begins r n a d vars true true low high (m ∷ []) h = absurd h.1
begins r n a d vars true true low high (m ∷ p ∷ q) h =
    (is_face r n a d vars Low m low h.0, (is_face r n a d vars High p high h.1.0, tt))
begins r n a d vars true false low high [] h = absurd h
begins r n a d vars true false low high (m ∷ q) h = (is_face r n a d vars Low m low h.0, tt)
begins r n a d vars false true low high [] h = absurd h
begins r n a d vars false true low high (m ∷ q) h = (is_face r n a d vars High m high h.0, tt)
begins r n a d vars false false low high q h = tt

drop_empty : {A : Type 0} (n : ℕ) (xs : List A) → xs ≡ [] → drop n xs ≡ xs
drop_empty zero [] e = refl
drop_empty zero (x ∷ xs) e = refl
drop_empty (suc n) [] e = refl
drop_empty (suc n) (x ∷ xs) e = absurd cc

module _ {tells : Type 0} {r : Run} {first : Counts} {old : Cores}
    {queue : ℕ → ℕ → List (SentMail tells)} {now : Counts} {k : ℕ}
    (s : Ready tells r first old queue now k)
    (d : ℕ) (vars : List VarId) (path : List ℕ) (is : next s ≡ op.Take d vars path) where
  wants_is : (a b : ℕ) → a < parts_in r → b < parts_in r
      → (network s).wants (Wire a b) (its s).control ≡ takes_from r b d a
  wants_is a b l m = ap (λ c. cond c (op_wants r (next s) (Wire a b)) 0)
      (are_there r (Wire a b) l m) ∙ ap (λ o. op_wants r o (Wire a b)) is

  pub shows_taken : ShowsTaken r k d queue (taken_now (network s) (world s) k)
  shows_taken a l =
      subst (λ n. ShowsQueue (take n (queue a k)) (taken_now (network s) (world s) k (Wire a k)))
      (wants_is a k l s.part)
      (zip_take ShowsMessage ((network s).wants (Wire a k) (its s).control) (queue a k)
      ((world s).queue (Wire a k)) (s.at.shows.wires a k l s.part))

  -- ---- what is there

  fits : Fits (network s) (script tells r (oracle s)) (Agrees tells r (oracle s))
      (GivesAt r (oracle s)) (Books tells r)
  fits = lead_fits tells r s.run (oracle s) s.at.reached.oracle_is.told s.at.reached.oracle_is.first

  mutual_parts : IsMutual r
  mutual_parts = partners_mutual r (law r s.run)

  below : d < 3
  below = by (subst (NamesWell r.setup) is (names_at r s.run (its s).control.pc))
      (shape r s.run).most
    where
      by : IsExchange r.setup d vars → r.setup.shape.dims ≤ 3 → d < 3
      by e m = let q = e.direction in omega (arith, q, m)

  faces_there : (n a : ℕ) → a < parts_in r → (world s).place k ≡ n
      → (m : ℕ) × (takes (script tells r (oracle s)) (Wire a k) n
      ≡ only (is_at (partner (cut_of r) k d High) a)
      (Sent (face_head r m a d Low vars)
      (faces_by r a (values_of r.setup (undivided r m).state) d vars Low) ∷ [])
      ++ only (is_at (partner (cut_of r) k d Low) a)
      (Sent (face_head r m a d High vars)
      (faces_by r a (values_of r.setup (undivided r m).state) d vars High) ∷ []))
  faces_there zero a l e =
      absurd (both_ways (is_receiving (op_there r (oracle s) 0))
      (first_quiet r (oracle s) (s.run.ways (scalars_at r (oracle s))))
      (ap is_receiving (ap (op_there r (oracle s)) (sym e) ∙ op_is s ∙ is)))
  faces_there (suc m) a l e =
      let took : op_there r (oracle s) (suc m) ≡ op.Take d vars path =
      ap (op_there r (oracle s)) (sym e) ∙ op_is s ∙ is in
      let sent = posted_before (op_there r (oracle s) m) (op_there r (oracle s) (suc m)) d vars path
      (pair_there r (oracle s) (s.run.ways (scalars_at r (oracle s))) m) took in
      let low = Sent (face_head r m a d Low vars)
      (faces_by {tells = tells} r a (values_of r.setup (undivided r m).state) d vars Low) in
      let high = Sent (face_head r m a d High vars)
      (faces_by {tells = tells} r a (values_of r.setup (undivided r m).state) d vars High) in (
        m,
        ap (λ c. cond c (op_posts {tells = tells} r (op_there r (oracle s) m) m
            (faces_by r a (values_of r.setup (undivided r m).state)) (λ i. oracle s a m) (Wire a k))
            []) (are_there r (Wire a k) l s.part)
            ∙ ap (λ o. op_posts {tells = tells} r o m
            (faces_by r a (values_of r.setup (undivided r m).state)) (λ i. oracle s a m)
            (Wire a k)) sent
            ∙ ap (λ c. only c (low ∷ [])
            ++ only (is_at (partner (cut_of r) a d High) k) (high ∷ []))
            (sym (mutual_parts.high a k d below l s.part))
            ∙ ap (λ c. only (is_at (partner (cut_of r) k d High) a) (low ∷ [])
            ++ only c (high ∷ [])) (sym (mutual_parts.low a k d below l s.part)),
      )

  -- each queue begins with what is needed
  pub begins_with : (a : ℕ) → a < parts_in r
      → BeginsWith (cut_of r) a d vars (needed (cut_of r) k d a) (queue a k)
  begins_with a l =
      let there = faces_there ((world s).place k) a l refl in
      let what =
      (found (network s) (script tells r (oracle s)) (Agrees tells r (oracle s))
      (GivesAt r (oracle s)) (Books tells r) fits (world s) s.at.reached.woven k (can s)
      (Wire a k) refl).0 in
      begins r there.0 a d vars (is_at (partner (cut_of r) k d High) a)
      (is_at (partner (cut_of r) k d Low) a)
      (faces_by r a (values_of r.setup (undivided r there.0).state) d vars Low)
      (faces_by r a (values_of r.setup (undivided r there.0).state) d vars High) (queue a k)
      (subst (λ ms. ShowsQueue (take (takes_from r k d a) (queue a k)) ms) (what ∙ there.1)
      (shows_taken a l))

  -- ---- what is left

  module _ (new : Cores) (after : ℕ → ℕ → List (SentMail tells)) (later : Counts)
      (patch : PatchValue) (took : Takes r k d queue after) where
    posts_nothing : (a b : ℕ) → (network s).posts (Wire a b) (its s) ≡ []
    posts_nothing a b =
        ap (λ o. cond (is_there r (Wire a b))
        (op_posts r o (its s).count (faces_by r a (held_values r a (its s).numbers))
        (number_by r a (held_values r a (its s).numbers)) (Wire a b)) []) is
        ∙ cond_both (is_there r (Wire a b)) []

    wires : (a b : ℕ) → a < parts_in r → b < parts_in r
        → ShowsQueue (after a b) (queue_after (network s) (world s) k (Wire a b))
    wires a b l m =
        subst (λ q. ShowsQueue q (queue_after (network s) (world s) k (Wire a b))) (sym (took a b))
        (subst (λ ms. ShowsQueue
        (cond (eqb b k) (drop (takes_from r k d a) (queue a b)) (queue a b)) ms) (sym shape_is)
        (by (cases_eq b k)))
      where
        shape_is : queue_after (network s) (world s) k (Wire a b)
            ≡ cond (eqb b k) (drop (takes_from r b d a) ((world s).queue (Wire a b)))
            ((world s).queue (Wire a b))
        shape_is =
            ap (λ n. cond (eqb b k) (drop n ((world s).queue (Wire a b)))
            ((world s).queue (Wire a b))
            ++ cond (eqb a k) ((network s).posts (Wire a b) (its s)) []) (wants_is a b l m)
            ∙ ap (λ ms. cond (eqb b k) (drop (takes_from r b d a) ((world s).queue (Wire a b)))
            ((world s).queue (Wire a b)) ++ cond (eqb a k) ms []) (posts_nothing a b)
            ∙ ap (λ ms. cond (eqb b k) (drop (takes_from r b d a) ((world s).queue (Wire a b)))
            ((world s).queue (Wire a b)) ++ ms) (cond_both (eqb a k) [])
            ∙ append-nil (cond (eqb b k) (drop (takes_from r b d a) ((world s).queue (Wire a b)))
            ((world s).queue (Wire a b)))

        by : (b ≡ k) ⊎ (b ≡ k → ⊥)
            → ShowsQueue (cond (eqb b k) (drop (takes_from r k d a) (queue a b)) (queue a b))
            (cond (eqb b k) (drop (takes_from r b d a) ((world s).queue (Wire a b)))
            ((world s).queue (Wire a b)))
        by (inl e) =
            subst (λ c. ShowsQueue (cond c (drop (takes_from r k d a) (queue a b)) (queue a b))
            (cond c (drop (takes_from r b d a) ((world s).queue (Wire a b)))
            ((world s).queue (Wire a b)))) (sym (eq-eqb b k e))
            (subst (λ z. ShowsQueue (drop (takes_from r z d a) (queue a b))
            (drop (takes_from r b d a) ((world s).queue (Wire a b)))) e
            (zip_drop ShowsMessage (takes_from r b d a) (queue a b) ((world s).queue (Wire a b))
            (s.at.shows.wires a b l m)))
        by (inr n) =
            subst (λ c. ShowsQueue (cond c (drop (takes_from r k d a) (queue a b)) (queue a b))
            (cond c (drop (takes_from r b d a) ((world s).queue (Wire a b)))
            ((world s).queue (Wire a b)))) (sym (ne_eqb b k n))
            (s.at.shows.wires a b l m)

    -- nothing is taken of an empty queue
    others : (a b : ℕ) → (a < parts_in r → b < parts_in r → ⊥) → after a b ≡ []
    others a b n = took a b ∙ by (eqb b k) ∙ s.at.shows.others a b n
      where
        by : (c : Bool) → cond c (drop (takes_from r k d a) (queue a b)) (queue a b) ≡ queue a b
        by true = drop_empty (takes_from r k d a) (queue a b) (s.at.shows.others a b n)
        by false = refl

    pub take_goes : new.pace ≡ moved_on r.setup old.pace k (scalar_of (its s).numbers)
        → new.patches ≡ set old.patches k patch → IsPatchOf r.setup (cut_of r) k patch
        → new.given ≡ old.given → new.buffers ≡ old.buffers → new.lengths ≡ old.lengths
        → new.met ≡ old.met → new.outcome ≡ old.outcome
        → Filled tells r k d vars (taken_now (network s) (world s) k) (its s).numbers patch.numbers
        → later.points ≡ now.points
        → later.values ≡ counted now.values (values_of_op r k (op.Take d vars []))
        → ((t : tells) → later.sum
        ≡ (now.sum + sum_taken t r k (taken_now (network s) (world s) k)) % 2 ^ 64)
        → LedTo s.at k new after later
    take_goes pace patches frame given buffers lengths_are met outcome filled points values sum =
        moved_at s new after later (held_with s patch.numbers) (record {
          move =
              subst (λ p. Moves tells r k (its s) (taken_now (network s) (world s) k) p
              (Some (held_with s patch.numbers))) (sym is) (
                record {
                  count = refl;
                  control =
                      ap (λ p. control_after r.setup p (scalar_of (its s).numbers) (its s).control)
                      is;
                },
                filled,
              );
          pace_is = pace;
          patch = patch;
          patches_are = patches;
          shown = record { frame = frame; numbers = refl };
          wires = wires;
          others = others;
          senders = ap (λ g. length g.given) given;
          boards = boards_kept s new.given given (λ a b. ap (λ o. op_wants r o (Board a b)) is)
              (λ a b n faces number. ap (λ o. op_posts r o n faces number (Board a b)) is);
          kinds = kinds_kept s new.given given (ap (kinds_by r) is)
              (λ i e. join_no_take i d vars path (sym e ∙ is));
          pieces = pieces_kept s new pace buffers (ap (λ o. work_of o (its s).control.iteration) is)
              (hands_by s (op.Take d vars path) is (λ n piece all. refl));
          room = subst (HasRoom r.setup) (sym buffers) s.at.shows.room;
          lengths_are = lengths_are;
          met_is = met;
          outcome_is = outcome;
          points = points ∙ raised_none now.points
              ∙ ap (raised now.points) (sym (ap (points_of r k) is));
          values = values ∙ ap (counted now.values) (sym (ap (values_of_op r k) is));
          sum = sum;
        })
