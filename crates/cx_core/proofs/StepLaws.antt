-- Which event a step does, and how many can happen.
use Rattle.std.proofs.Common.{◌≡◌, ℕ, zero, suc, ◌<◌, ◌⊎◌, inl, inr, true, false, List, [], ◌∷◌, map, length, get_or, slice_get, All, ℤ, Option, Some, None, arith, refl, sym, ap, ◌∙◌, subst}
use Rattle.std.specs.Prelude.{◌↔◌, option_map}
use Rattle.std.proofs.lemmas.Bool.{cases_eq}
use Rattle.cx_plan.specs.declared.variable.VarId.{VarId}
use Rattle.cx_model.specs.declared.ends.End.{End}
use Rattle.cx_model.specs.declared.ends.End.TheVariants as ends
use Rattle.cx_model.specs.Traces.{Trace}
use Rattle.law_network.specs.Machine.{Can, CanMove}
use Rattle.law_network.specs.Machine as network
use Rattle.cx_wire.specs.Messages.{Sent as SentMail}
use Rattle.cx_core_events.specs.declared.standing.Next.{Next}
use Rattle.cx_core_events.specs.declared.standing.Next.TheVariants as next
use Rattle.cx_core_events.specs.Paces.{Paces, part_of}
use Rattle.cx_core_events.specs.Events.{can_go, events, lies_ahead}
use Rattle.cx_core_events.specs.Steps.{moved_on, met_by}
use Rattle.cx_core_place.specs.Steps.{IsReached}
use Rattle.law_parts.specs.Nets.{net, within_lead}
use Rattle.law_parts.specs.Runs.{Run, last_of}
use Rattle.cx_core.specs.declared.answers.Event.TheVariants as event
use Rattle.cx_core.specs.declared.answers.Outcome.TheVariants as out
use Rattle.cx_core.specs.Cores.{Cores, outcome_of, enabled_in, ahead_in}
use Rattle.cx_core.specs.Hands.{LiesAhead, StepsTo}
use Rattle.cx_core.specs.Laws.{RunLaws}
use Rattle.cx_core.specs.Left.{steps_left}
use Rattle.cx_core.specs.Moving.{PartGoes, MovesOn}
use Rattle.cx_core.specs.Shows.{OverAs}
use Rattle.cx_core.specs.Steps.{Counts, IsAt, AreEnabled}
use Rattle.cx_core.proofs.LeftLaws.{less_moved, less_met}
use Rattle.cx_core.proofs.EventLaws.{event_of, get_map, how_many}
use Rattle.cx_core.proofs.WriterLaws.{told, goes, place, event_list, enabled_are}

none_some : {X : Type 0} (y : X) → None ≡ Some y → ⊥
none_some y e = cc

some_is : {X : Type 0} (x y : X) → Some x ≡ Some y → x ≡ y
some_is x y e = cc

-- what holds of each element holds of the one at a place
at_place : {X : Type 0} (P : X → Type 0) (xs : List X) (k : ℕ) (x : X) → All P xs
    → slice_get xs k ≡ Some x → P x
at_place P xs k x all e = go xs k (λ i d l. all i d l) e
  where
    go : (ys : List _) (i : ℕ) → ((j : ℕ) (d : _) → j < length ys → P (get_or ys j d))
        → slice_get ys i ≡ Some x → P x
    go [] i h f = absurd (none_some x f)
    go (y ∷ ys) zero h f = subst P (some_is y x f) (h 0 y (omega arith))
    go (y ∷ ys) (suc i) h f = go ys i (λ j d l. h (suc j) d (omega (arith, l))) f

still_going : (end : End) → out.Going ≡ outcome_of (Some end) → ⊥
still_going ends.Done e = cc
still_going (ends.Overflow iteration path) e = cc
still_going (ends.WhileLimit iteration path) e = cc
still_going (ends.OutputLimit iteration) e = cc

false_true : false ≡ true → ⊥
false_true e = cc

get_below : {X : Type 0} (xs : List X) (k : ℕ) (x : X) → slice_get xs k ≡ Some x → k < length xs
get_below [] k x e = absurd (none_some x e)
get_below (y ∷ ys) zero x e = omega arith
get_below (y ∷ ys) (suc k) x e = let l = get_below ys k x e in omega (arith, l)

get_mapped : {X Y : Type 0} (f : X → Y) (xs : List X) (k : ℕ)
    → slice_get (map f xs) k ≡ option_map f (slice_get xs k)
get_mapped f [] k = refl
get_mapped f (y ∷ ys) zero = refl
get_mapped f (y ∷ ys) (suc k) = get_mapped f ys k

going_done : out.Going ≡ out.Done → ⊥
going_done e = cc

module _ (tells : Type 0) (r : Run) (trace : Trace) (laws : RunLaws tells r trace) (first : Counts)
    (core : Cores) (queue : ℕ → ℕ → List (SentMail tells)) (now : Counts)
    (at : IsAt tells r first core queue now) where
  -- the event at a place of the list
  module _ (k j : ℕ) (kth : slice_get (events core.pace) k ≡ Some (next.Part j)) where
    part_at : slice_get (event_list tells r trace laws first core queue now at) k
        ≡ Some (network.Part j)
    part_at = get_map (event_of (place tells r trace laws first core queue now at).0)
        (events core.pace) k (next.Part j) kth

    pub can_move : CanMove (net tells within_lead r at.oracle) at.world j
    can_move =
        at_place (Can (net tells within_lead r at.oracle) at.world)
        (event_list tells r trace laws first core queue now at) k (network.Part j)
        (enabled_are tells r trace laws first core queue now at).each part_at

    pub goes_now : can_go core.pace j ≡ true
    goes_now = ((told tells r trace laws first core queue now at).part j can_move.part).1 can_move

    pub below : j < length core.pace.parts
    below = omega (arith, can_move.part, at.shows.pace.count)

    reached : (i : ℕ) → i < length core.pace.parts → IsReached r.setup (part_of core.pace i).place
    reached i l = (told tells r trace laws first core queue now at).reached i
        (omega (arith, l, at.shows.pace.count))

    -- it leaves less to do
    part_less : (new : Cores) → MovesOn r.setup j core new
        → steps_left r.setup new.pace < steps_left r.setup core.pace
    part_less new moves = go moves.pace
      where
        go : ((s : VarId → ℤ) × (new.pace ≡ moved_on r.setup core.pace j s))
            ⊎ (new.pace ≡ met_by core.pace j)
            → steps_left r.setup new.pace < steps_left r.setup core.pace
        go (inl h) =
            subst (λ (p : Paces). steps_left r.setup p < steps_left r.setup core.pace) (sym h.1)
            (less_moved r.setup laws.ways laws.places core.pace at.shows.pace.ops reached j below
            goes_now h.0)
        go (inr h) =
            subst (λ (p : Paces). steps_left r.setup p < steps_left r.setup core.pace) (sym h)
            (less_met r.setup laws.ways laws.places core.pace at.shows.pace.ops reached j below
            goes_now)

    -- the operation of a part
    pub part_step : (new : Cores) (after : ℕ → ℕ → List (SentMail tells)) (later : Counts)
        → PartGoes tells r first j core new queue after now later
        → StepsTo tells r trace first k (record { core = core; queue = queue; now = now })
        (record { core = new; queue = after; now = later }) at (event.Part j)
    part_step new after later goes_to =
        let to = goes_to at in
        record {
          there = to.0;
          does = record {
            events = event_list tells r trace laws first core queue now at;
            enabled = enabled_are tells r trace laws first core queue now at;
            which = network.Part j;
            kth = part_at;
            after = to.1;
            answers = refl;
          };
          falls = (goes tells r trace laws first core queue now at).falls (network.Part j)
              to.0.world can_move to.1;
          less = part_less new to.2;
          leaves = (to.2.lengths, to.2.outcome);
          key = to.2.key;
          hands = λ t. (laws.works t at.oracle at.world at.reached).part j to.0.world can_move to.1;
          same_way = to.3;
        }

  not_over : core.outcome ≡ out.Going → at.world.over ≡ None
  not_over going = by at.world.over at.shows.over
    where
      by : (o : Option ℕ) → OverAs r at.oracle o core.outcome → o ≡ None
      by None h = refl
      by (Some n) h = go (cases_eq n (last_of r at.oracle))
        where
          go : (n ≡ last_of r at.oracle) ⊎ (n ≡ last_of r at.oracle → ⊥) → Some n ≡ None
          go (inl e) = absurd (going_done (sym going ∙ h.0 e))
          go (inr e) = let m = h.1 e in absurd (still_going m.0 (sym going ∙ m.2))

  -- some event can happen while the run goes on
  pub some_event : core.outcome ≡ out.Going → 0 < length (events core.pace)
  some_event going =
      let e = (goes tells r trace laws first core queue now at).some_event (not_over going) in
      let c = (enabled_are tells r trace laws first core queue now at).all e.0 e.1 in
      omega (
        arith,
        c.1,
        how_many tells r at.oracle at.world core.pace at.shows.pace.count
            (told tells r trace laws first core queue now at)
            (goes tells r trace laws first core queue now at)
            (place tells r trace laws first core queue now at).0
            (place tells r trace laws first core queue now at).1,
      )

  -- an event that isn't behind the writer's next checkpoint
  pub some_before : core.outcome ≡ out.Going
      → (k : ℕ) × (k < enabled_in core) × (ahead_in core k ≡ false)
  some_before going =
      let says = told tells r trace laws first core queue now at in
      let x = says.some_before (not_over going) in
      let y = says.events.all x.0 x.1 in
      (y.0, get_below (events core.pace) y.0 x.0 y.1, ap (lies_ahead core.pace) y.1 ∙ x.2)

  -- which ones are
  lies_behind : (k : ℕ) → ahead_in core k ≡ true
      ↔ LiesAhead r at.oracle at.world
      (slice_get (event_list tells r trace laws first core queue now at) k)
  lies_behind k =
      subst (λ o. ahead_in core k ≡ true ↔ LiesAhead r at.oracle at.world o)
      (sym (get_mapped (event_of (place tells r trace laws first core queue now at).0)
      (events core.pace) k))
      (by (slice_get (events core.pace) k) refl)
    where
      by : (o : Option Next) → slice_get (events core.pace) k ≡ o
          → lies_ahead core.pace o ≡ true
          ↔ LiesAhead r at.oracle at.world
          (option_map (event_of (place tells r trace laws first core queue now at).0) o)
      by (Some (next.Part j)) e =
          (told tells r trace laws first core queue now at).behind j (can_move k j e).part
      by (Some next.Write) e = (false_true, λ h. absurd h)
      by (Some next.End) e = (false_true, λ h. absurd h)
      by None e = (false_true, λ h. absurd h)

  -- the list of those that can happen
  pub enabled_list : (es : List network.Event) × AreEnabled tells r at.oracle at.world es
      × (length es ≡ length (events core.pace))
      × ((k : ℕ) → ahead_in core k ≡ true ↔ LiesAhead r at.oracle at.world (slice_get es k))
  enabled_list = (
    event_list tells r trace laws first core queue now at,
    enabled_are tells r trace laws first core queue now at,
    how_many tells r at.oracle at.world core.pace at.shows.pace.count
        (told tells r trace laws first core queue now at)
        (goes tells r trace laws first core queue now at)
        (place tells r trace laws first core queue now at).0
        (place tells r trace laws first core queue now at).1,
    lies_behind,
  )
