-- The operation of a part leads to a state that is shown, where each piece of what it leaves is
-- shown.
use Rattle.std.proofs.Common.{◌≡◌, ℕ, zero, suc, ◌+◌, ◌-◌, ◌<◌, ◌≤◌, ◌%◌, ◌^◌, min, max, ◌⊎◌, inl, inr, true, List, [], ◌++◌, length, take, set, map, Some, None, refl, sym, ap, ◌∙◌, subst, arith, length-set}
use Rattle.std.specs.List.{AllZip}
use Rattle.std.specs.Prelude.{slice_get}
use Rattle.std.proofs.Math.Nat.{add-mod-mod}
use Rattle.std.proofs.lemmas.Bool.{cases_eq}
use Rattle.cx_rule.specs.Meter.{raised, raised_twice}
use Rattle.cx_rule.specs.States.{scalar_of}
use Rattle.cx_model.specs.declared.ends.End.{End}
use Rattle.cx_flat.specs.declared.op.Op.{Op}
use Rattle.cx_flat.specs.Flats.{Control, Flat}
use Rattle.cx_model.specs.Runs.{Lengths}
use Rattle.law_network.specs.Machine.{Net, World, Part, CanMove, After, put, taken_now, queue_after, moved, met}
use Rattle.law_network.proofs.Put.{put_same, put_other, at_put}
use Rattle.cx_field.specs.Patches.{PatchValue}
use Rattle.cx_field.specs.Sweeps.{RoseWithin}
use Rattle.cx_wire.specs.Messages.{Sent as SentMail}
use Rattle.cx_wire.specs.Received.{counted, counted_twice}
use Rattle.law_parts.specs.Holding.{Held}
use Rattle.law_parts.specs.Laws.{IsReachedState}
use Rattle.law_parts.specs.Moves.{Message, Channel, Wire, Board, Moves}
use Rattle.law_parts.specs.Nets.{net, within_lead, points_of, taken_sum, values_of_op}
use Rattle.law_parts.proofs.WholeRun.{IsRun}
use Rattle.law_parts.specs.Runs.{Run, Oracle, parts_in, next_op, guided, last_of}
use Rattle.cx_core_part.specs.Exchanges.{ShowsQueue}
use Rattle.cx_core_buffers.specs.Boards.{queue as waiting}
use Rattle.cx_core_buffers.specs.Gathering.{HasRoom}
use Rattle.cx_core_events.specs.Paces.{part_of}
use Rattle.cx_core_events.specs.Events.{can_go}
use Rattle.cx_core_events.specs.Steps.{moved_on, met_by}
use Rattle.cx_core_events.specs.Shows.{ShowsPace, PaceTells, SameWay}
use Rattle.law_reached.specs.Endings.{end_met_by}
use Rattle.law_reached.specs.Sums.{TakenAddsUp, sum_taken_now}
use Rattle.cx_core.specs.declared.answers.Outcome.{Outcome}
use Rattle.cx_core.specs.Cores.{Cores, outcome_of}
use Rattle.cx_core.specs.Shows.{ShowsPart, ShowsGiven, HoldsWork, MetAt, OverAs, Shows, kinds_given, kinds_joined, kinds_by, kind_of}
use Rattle.cx_core.specs.Steps.{Counts, IsAt}
use Rattle.cx_core.proofs.ZipLaws.{get_set_same, get_set_other}

pub mod_more : (k a x : ℕ) → (a % k + x) % k ≡ (a + x) % k
mod_more k a x =
    let p : a % k + x ≡ x + a % k = omega arith in
    let q : x + a ≡ a + x = omega arith in
    ap (λ n. n % k) p ∙ add-mod-mod x a k ∙ ap (λ n. n % k) q

sum_more : (k first taken more now later : ℕ) → now ≡ (first + taken) % k → later ≡ (now + more) % k
    → later ≡ (first + (taken + more)) % k
sum_more k first taken more now later e f =
    let p : first + taken + more ≡ first + (taken + more) = omega arith in
    f ∙ ap (λ n. (n + more) % k) e ∙ mod_more k (first + taken) more ∙ ap (λ n. n % k) p

-- the way of all parts up to a place gives the kinds before it
kinds_same : (r : Run) (o other : Oracle) (n : ℕ)
    → ((m : ℕ) → m ≤ n → guided r other m ≡ guided r o m)
    → kinds_given r other n ≡ kinds_given r o n
kinds_same r o other zero h = refl
kinds_same r o other (suc n) h =
    ap (λ xs. xs ++ kinds_by r (next_op r (guided r other n).control))
    (kinds_same r o other n (λ m l. h m (omega (arith, l))))
    ∙ ap (λ (g : Flat). kinds_given r o n ++ kinds_by r (next_op r g.control)) (h n (omega arith))

joined_same : (r : Run) (o other : Oracle) (n : ℕ)
    → ((m : ℕ) → m ≤ n → guided r other m ≡ guided r o m)
    → kinds_joined r other n ≡ kinds_joined r o n
joined_same r o other zero h = refl
joined_same r o other (suc n) h = kinds_same r o other n (λ m l. h m (omega (arith, l)))

put_rises : (f : ℕ → ℕ) (k j m : ℕ) → m ≤ f j → m ≤ put f k (suc (f k)) j
put_rises f k j m l = go (cases_eq j k)
  where
    go : (j ≡ k) ⊎ (j ≡ k → ⊥) → m ≤ put f k (suc (f k)) j
    go (inl e) = subst (λ n. m ≤ n) (sym (put_same f k (suc (f k)) j e))
        (let q = ap f e in omega (arith, l, q))
    go (inr n) = subst (λ n. m ≤ n) (sym (put_other f k (suc (f k)) j n)) l

abbrev pub State : Type 0 → Type 0
State tells = World Held (Message tells) Channel Lengths

risen : (c first meter points now later : ℕ) → now ≡ max first (min (first + meter) c) → now ≤ later
    → later ≤ max now (min (now + points) c)
    → later ≡ max first (min (first + (later - first)) c)
risen c first meter points now later e l m = omega arith

-- where the operation of a part leads, and what shows it there
pub record LedTo {tells : Type 0} {r : Run} {first : Counts} {old : Cores}
    {queue : ℕ → ℕ → List (SentMail tells)} {now : Counts} (at : IsAt tells r first old queue now)
    (k : ℕ)
    (new : Cores) (after : ℕ → ℕ → List (SentMail tells)) (later : Counts) : Type 0 where
  pub state : State tells
  pub way : Oracle
  pub reached : IsReachedState tells r way state
  pub shows : Shows tells r way new after state
  pub points : later.points ≡ raised first.points (state.meter 0)
  pub values : later.values ≡ counted first.values (state.meter 1)
  pub sum : (t : tells) → later.sum ≡ (first.sum + taken_sum t r way state) % 2 ^ 64
  pub event : After (net tells within_lead r at.oracle) at.world (Part k) state
  pub same_way : SameWay r at.oracle way state

-- a part that can go, in a state that is shown
pub record Ready (tells : Type 0) (r : Run) (first : Counts) (old : Cores)
    (queue : ℕ → ℕ → List (SentMail tells)) (now : Counts) (k : ℕ) : Type 0 where
  pub run : IsRun r
  pub tell : PaceTells tells r
  pub sums : TakenAddsUp tells r
  pub at : IsAt tells r first old queue now
  pub part : k < parts_in r
  pub goes : can_go old.pace k ≡ true

module _ {tells : Type 0} {r : Run} {first : Counts} {old : Cores}
    {queue : ℕ → ℕ → List (SentMail tells)} {now : Counts} {k : ℕ}
    (s : Ready tells r first old queue now k) where
  abbrev pub world : State tells
  world = s.at.world

  abbrev pub oracle : Oracle
  oracle = s.at.oracle

  abbrev pub its : Held
  its = s.at.world.held k

  abbrev pub next : Op
  next = next_op r (s.at.world.held k).control

  abbrev pub network : Net Held (Message tells) Channel Control Lengths
  network = net tells within_lead r s.at.oracle

  abbrev pub places : ℕ → ℕ
  places = put s.at.world.place k (suc (s.at.world.place k))

  pub can : CanMove network world k
  can = ((s.tell.events oracle world old.pace s.at.reached s.at.shows.pace).part k s.part).0 s.goes

  -- what part k, which holds y then, leaves of each thing
  pub record MovedTo (new : Cores) (after : ℕ → ℕ → List (SentMail tells)) (later : Counts)
      (y : Held) : Type 0 where
    pub move : Moves tells r k its (taken_now network world k) next (Some y)
    pub pace_is : new.pace ≡ moved_on r.setup old.pace k (scalar_of its.numbers)
    pub patch : PatchValue
    pub patches_are : new.patches ≡ set old.patches k patch
    pub shown : ShowsPart r k patch y
    pub wires : (a b : ℕ) → a < parts_in r → b < parts_in r
        → ShowsQueue (after a b) (queue_after network world k (Wire a b))
    pub others : (a b : ℕ) → (a < parts_in r → b < parts_in r → ⊥) → after a b ≡ []
    pub senders : length new.given.given ≡ length old.given.given
    pub boards : (a b : ℕ) → a < parts_in r → b < parts_in r
        → AllZip (ShowsGiven r a) (waiting new.given a b) (queue_after network world k (Board a b))
    pub kinds : (a b : ℕ) → a < parts_in r → b < parts_in r
        → kinds_given r oracle (places a)
        ≡ kinds_joined r oracle (places b) ++ map kind_of (waiting new.given a b)
    pub pieces : (j : ℕ) → j < parts_in r
        → AllZip (HoldsWork r new.buffers j) (take (part_of new.pace j).handed new.pace.works)
        (put world.pieces k (world.pieces k ++ network.hands k its) j)
    pub room : HasRoom r.setup new.buffers
    pub lengths_are : new.lengths ≡ old.lengths
    pub met_is : new.met ≡ old.met
    pub outcome_is : new.outcome ≡ old.outcome
    pub points : later.points ≡ raised now.points (points_of r k next)
    pub values : later.values ≡ counted now.values (values_of_op r k next)
    pub sum : (t : tells) → later.sum ≡ (now.sum + sum_taken_now t r oracle world k) % 2 ^ 64

  patch_at : (new : List PatchValue) (patch : PatchValue) (y : Held) → new ≡ set old.patches k patch
      → ShowsPart r k patch y
      → (j : ℕ) (p : PatchValue) → slice_get new j ≡ Some p → ShowsPart r j p (put world.held k y j)
  patch_at new patch y e shown j p g = go (cases_eq j k)
    where
      some_same : (a b : PatchValue) → Some a ≡ Some b → a ≡ b
      some_same a b q = cc

      there : k < length old.patches
      there = let c = s.at.shows.count in let l = s.part in omega (arith, c, l)

      go : (j ≡ k) ⊎ (j ≡ k → ⊥) → ShowsPart r j p (put world.held k y j)
      go (inl q) =
          let s : Some patch ≡ Some p =
          sym (get_set_same old.patches k patch there)
          ∙ ap (λ i. slice_get (set old.patches k patch) i) (sym q)
          ∙ ap (λ xs. slice_get xs j) (sym e) ∙ g in
          subst (λ h. ShowsPart r j p h) (sym (put_same world.held k y j q))
          (subst (λ i. ShowsPart r i p y) (sym q)
          (subst (λ a. ShowsPart r k a y) (some_same patch p s) shown))
      go (inr n) =
          subst (λ h. ShowsPart r j p h) (sym (put_other world.held k y j n))
          (s.at.shows.patches j p
          (sym (get_set_other old.patches k j patch n) ∙ ap (λ xs. slice_get xs j) (sym e) ∙ g))

  -- the place where a part met an end is one that some part has come to
  stop_same : (other : Oracle) → SameWay r oracle other (moved network world k its)
      → (world.stop ≡ r.most) ⊎ (guided r other world.stop ≡ guided r oracle world.stop)
  stop_same other same = go s.at.reached.woven.stopped
    where
      go : (world.stop ≡ r.most)
          ⊎ ((j : ℕ) × (j < parts_in r) × (world.place j ≡ world.stop)
          × (world.stop < last_of r oracle))
          → (world.stop ≡ r.most) ⊎ (guided r other world.stop ≡ guided r oracle world.stop)
      go (inl e) = inl e
      go (inr h) =
          inr (same h.0 world.stop h.1
          (put_rises world.place k h.0 world.stop (let q = h.2 in omega (arith, q))))

  met_same : (other : Oracle) (m : Outcome)
      → (world.stop ≡ r.most) ⊎ (guided r other world.stop ≡ guided r oracle world.stop)
      → MetAt r oracle world m → MetAt r other world m
  met_same other m (inl e) h = (h.0, λ no. absurd (no e))
  met_same other m (inr e) h = (
    h.0,
    λ no. subst (λ (g : Flat). (end : End)
        × (end_met_by r (next_op r g.control) g.control.iteration ≡ Some end)
        × (m ≡ outcome_of (Some end))) (sym e) (h.1 no),
  )

  over_same : (other : Oracle) → OverAs r other world.over old.outcome
  over_same other = subst (λ n. OverAs r other n old.outcome) (sym can.going)
      (subst (λ n. OverAs r oracle n old.outcome) can.going s.at.shows.over)

  -- the part has met an end
  pub record MetTo (new : Cores) (after : ℕ → ℕ → List (SentMail tells))
      (later : Counts) : Type 0 where
    pub move : Moves tells r k its (taken_now network world k) next None
    pub pace_is : new.pace ≡ met_by old.pace k
    pub patch : PatchValue
    pub patches_are : new.patches ≡ set old.patches k patch
    pub shown : ShowsPart r k patch its
    pub given_is : new.given ≡ old.given
    pub buffers_are : new.buffers ≡ old.buffers
    pub lengths_are : new.lengths ≡ old.lengths
    pub outcome_is : new.outcome ≡ old.outcome
    pub end : End
    pub end_is : end_met_by r next its.control.iteration ≡ Some end
    pub met_is : new.met ≡ outcome_of (Some end)
    pub queue_is : (a b : ℕ) → after a b ≡ queue a b
    pub rose : RoseWithin (points_of r k next) now.points later.points
    pub values : later.values ≡ now.values
    pub sum : (t : tells) → later.sum ≡ now.sum

  module _ (new : Cores) (after : ℕ → ℕ → List (SentMail tells)) (later : Counts)
      (m : MetTo new after later) where
    abbrev meter : ℕ → ℕ
    meter zero = later.points - first.points
    meter (suc i) = world.meter (suc i)

    keeps_met : IsReachedState tells r oracle (met world k meter)
        × ShowsPace tells r oracle (met world k meter) (met_by old.pace k)
    keeps_met = (s.tell.keeps oracle world old.pace s.at.reached s.at.shows.pace).met k meter can
        m.move

    held_same : (j : ℕ) → put world.held k its j ≡ world.held j
    held_same = at_put world.held k its (λ j h. h ≡ world.held j) refl (λ j. refl)

    no_most : world.place k ≡ r.most → ⊥
    no_most e = let a = can.before in let b = s.at.reached.woven.stop_within in
        omega (arith, a, b, e)

    shows_met : Shows tells r oracle new after (met world k meter)
    shows_met = record {
      pace = subst (ShowsPace tells r oracle (met world k meter)) (sym m.pace_is) keeps_met.1;
      count = ap length m.patches_are ∙ length-set old.patches k m.patch ∙ s.at.shows.count;
      patches = λ j p g. subst (λ h. ShowsPart r j p h) (held_same j)
          (patch_at new.patches m.patch its m.patches_are m.shown j p g);
      wires = λ a b l i. subst (λ q. ShowsQueue q (world.queue (Wire a b))) (sym (m.queue_is a b))
          (s.at.shows.wires a b l i);
      others = λ a b n. m.queue_is a b ∙ s.at.shows.others a b n;
      senders = ap (λ g. length g.given) m.given_is ∙ s.at.shows.senders;
      boards = λ a b l i. subst
          (λ g. AllZip (ShowsGiven r a) (waiting g a b) (world.queue (Board a b))) (sym m.given_is)
          (s.at.shows.boards a b l i);
      kinds = λ a b l i. s.at.shows.kinds a b l i
          ∙ ap (λ g. kinds_joined r oracle (world.place b) ++ map kind_of (waiting g a b))
          (sym m.given_is);
      pieces = λ j l.
          subst (λ b. AllZip (HoldsWork r b j) (take (part_of new.pace j).handed new.pace.works)
          (world.pieces j)) (sym m.buffers_are)
          (subst (λ p. AllZip (HoldsWork r old.buffers j) (take (part_of p j).handed p.works)
          (world.pieces j)) (sym m.pace_is) (s.at.shows.pieces j l));
      room = subst (HasRoom r.setup) (sym m.buffers_are) s.at.shows.room;
      book = m.lengths_are ∙ s.at.shows.book;
      met = (
        (λ e. absurd (no_most e)),
        λ no. subst (λ (c : Control). (end : End)
            × (end_met_by r (next_op r c) c.iteration ≡ Some end)
            × (new.met ≡ outcome_of (Some end)))
            (s.at.reached.woven.agrees k s.part).stands.control (m.end, m.end_is, m.met_is),
      );
      over = subst (λ o. OverAs r oracle world.over o) (sym m.outcome_is) s.at.shows.over;
    }

    pub met_at : LedTo s.at k new after later
    met_at =
        record {
          state = met world k meter;
          way = oracle;
          reached = keeps_met.0;
          shows = shows_met;
          points = risen (2 ^ 128 - 1) first.points (world.meter 0) (points_of r k next)
              now.points later.points s.at.points m.rose.least m.rose.most;
          values = m.values ∙ s.at.values;
          sum = λ t. m.sum t ∙ s.at.sum t
              ∙ ap (λ n. (first.sum + n) % 2 ^ 64)
              (sym ((s.sums t oracle oracle world s.at.reached s.at.reached.oracle_is).stays
              (met world k meter) (λ j l. refl)));
          event = inr (meter, m.move, refl);
          same_way = λ j n l b. refl;
        }

  module _ (new : Cores) (after : ℕ → ℕ → List (SentMail tells)) (later : Counts) (y : Held)
      (m : MovedTo new after later y) where
    keeps : (other : Oracle) × IsReachedState tells r other (moved network world k y)
        × ShowsPace tells r other (moved network world k y)
        (moved_on r.setup old.pace k (scalar_of its.numbers))
        × SameWay r oracle other (moved network world k y)
    keeps = (s.tell.keeps oracle world old.pace s.at.reached s.at.shows.pace).moved k y can m.move

    abbrev other : Oracle
    other = keeps.0

    abbrev to : State tells
    to = moved network world k y

    shows : Shows tells r other new after to
    shows = record {
      pace = subst (ShowsPace tells r other to) (sym m.pace_is) keeps.2;
      count = ap length m.patches_are ∙ length-set old.patches k m.patch ∙ s.at.shows.count;
      patches = patch_at new.patches m.patch y m.patches_are m.shown;
      wires = m.wires;
      others = m.others;
      senders = m.senders ∙ s.at.shows.senders;
      boards = m.boards;
      kinds = λ a b l i.
          kinds_same r oracle other (places a) (λ n. keeps.3 a n l)
          ∙ m.kinds a b l i
          ∙ ap (λ ks. ks ++ map kind_of (waiting new.given a b))
          (sym (joined_same r oracle other (places b) (λ n. keeps.3 b n i)));
      pieces = m.pieces;
      room = m.room;
      book = m.lengths_are ∙ s.at.shows.book;
      met = subst (λ o. MetAt r other world o) (sym m.met_is)
          (met_same other old.met (stop_same other keeps.3) s.at.shows.met);
      over = subst (λ o. OverAs r other world.over o) (sym m.outcome_is) (over_same other);
    }

    pub moved_at : LedTo s.at k new after later
    moved_at =
        record {
          state = to;
          way = other;
          reached = keeps.1;
          shows = shows;
          points = m.points ∙ ap (λ n. raised n (points_of r k next)) s.at.points
              ∙ raised_twice first.points (world.meter 0) (points_of r k next);
          values = m.values ∙ ap (λ n. counted n (values_of_op r k next)) s.at.values
              ∙ counted_twice first.values (world.meter 1) (values_of_op r k next);
          sum = λ t.
              sum_more (2 ^ 64) first.sum _ _ now.sum later.sum (s.at.sum t) (m.sum t)
              ∙ ap (λ n. (first.sum + n) % 2 ^ 64)
              (sym ((s.sums t oracle other world s.at.reached keeps.1.oracle_is).goes_on k y
              can));
          event = inl (y, m.move, refl);
          same_way = keeps.3;
        }
