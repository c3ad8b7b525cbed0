-- The writer's events: each does what the network says, and is shown by what it leaves of the core.
use Rattle.std.proofs.Common.{◌≡◌, ℕ, zero, suc, ◌+◌, ◌<◌, ◌≤◌, ◌⊎◌, inl, inr, Bool, true, false, List, [], ◌∷◌, ◌++◌, map, length, take, drop, slice_get, Option, Some, None, option_to_list, arith, refl, sym, ap, ◌∙◌, subst}
use Rattle.std.specs.Prelude.{nat_lt, slice_index, slice_set}
use Rattle.std.specs.List.{AllZip, list_all}
use Rattle.std.proofs.lemmas.Bool.{and_parts, cases_eq, ltb-true}
use Rattle.cx_plan.specs.declared.variable.VarId.{VarId}
use Rattle.cx_plan.specs.Regions.{is_among}
use Rattle.cx_plan.specs.Setups.{Setup}
use Rattle.cx_rule.specs.States.{State}
use Rattle.cx_model.specs.declared.ends.End.{End}
use Rattle.cx_model.specs.declared.ends.End.TheVariants as ends
use Rattle.cx_model.specs.Runs.{Lengths, grown_by, greatest_output}
use Rattle.cx_model.specs.Traces.{Trace, Entry, Wrote, Saved}
use Rattle.cx_flat.specs.declared.op.Op.{Op}
use Rattle.cx_flat.specs.declared.op.Op.TheVariants.{Sweep, Apply, Give, Join, Post, Take, Test, Open, Turn, Again, Rotate, Due, Written, Skip, Next, Piece, Save, Halt}
use Rattle.cx_flat.specs.Flats.{Control, Flat}
use Rattle.cx_outputs.specs.Names.{place_in, lengths_in}
use Rattle.law_network.specs.Machine.{Net, World, Can, After, IsNext, CanEnd, fronts, end_of, wrote_at, over_at, left}
use Rattle.law_network.specs.Machine as network
use Rattle.cx_core_buffers.specs.Gathering.{Buffers, HasPiece, HasRoom, piece_of, with_name}
use Rattle.cx_core_buffers.specs.Pieces.{HoldsPiece, HoldsPart}
use Rattle.cx_core_buffers.proofs.PieceLaws.{state_is}
use Rattle.cx_cut.proofs.Tiled.{tiles}
use Rattle.cx_wire.specs.Messages.{Sent as SentMail}
use Rattle.cx_core_events.specs.declared.standing.Standing.{Standing}
use Rattle.cx_core_events.specs.declared.standing.Work.{Work}
use Rattle.cx_core_events.specs.declared.standing.Next.{Next as PaceEvent}
use Rattle.cx_core_events.specs.declared.standing.Next.TheVariants as next
use Rattle.cx_core_events.specs.Paces.{part_of, no_part}
use Rattle.cx_core_events.specs.Events.{work_of, events, all_in, writer_going, writer_by, all_stand, parts_going, is_some_work}
use Rattle.cx_core_events.specs.Shows.{ShowsPace, TellsEvents, KeepsPace, work_there}
use Rattle.cx_core_events.specs.Steps.{one_less, wrote_one, over_now}
use Rattle.law_parts.specs.Holding.{Held}
use Rattle.law_parts.specs.Moves.{Message, Channel}
use Rattle.law_parts.specs.Nets.{net, within_lead, only_level, piece_levels, WritesAt}
use Rattle.law_parts.specs.Runs.{Run, Oracle, cut_of, parts_in, next_op, guided, last_of, undivided, op_of, notes_of}
use Rattle.law_parts.specs.Truths.{entries_of}
use Rattle.law_parts.proofs.Sweeps.{all_at}
use Rattle.law_reached.specs.Endings.{end_met_by}
use Rattle.law_reached.specs.Going.{GoesOn, EndStands}
use Rattle.law_reached.specs.Works.{MakesWork, handed_out}
use Rattle.cx_core.specs.declared.answers.Event.{Event}
use Rattle.cx_core.specs.declared.answers.Event.TheVariants as event
use Rattle.cx_core.specs.declared.answers.Outcome.{Outcome}
use Rattle.cx_core.specs.declared.answers.Outcome.TheVariants as out
use Rattle.cx_core.specs.Cores.{Cores, items_in, outcome_of}
use Rattle.cx_core.specs.Hands.{HandsOut, Leaves, StepsTo}
use Rattle.cx_core.specs.Laws.{RunLaws}
use Rattle.cx_core.specs.Texts.{text_of_piece}
use Rattle.cx_core.specs.Shows.{Shows, HoldsFor, HoldsWork, OverAs}
use Rattle.cx_core.specs.Steps.{Counts, Standing as Place, IsAt, AreEnabled, AnswersWork, work_event}
use Rattle.cx_core.specs.Writes.{length_behind, text_written, limit_met, state_written, ended_by, run_ended}
use Rattle.cx_core.proofs.EventLaws.{event_of, get_map, work_place, are_enabled}
use Rattle.cx_core.proofs.FrontLaws.{Front, front, zip_weaker, holds_front, holds_on, less_of}
use Rattle.cx_core.proofs.LeftLaws.{less_written, less_over}
use Rattle.cx_core.proofs.HandLaws.{text_entry, piece_is, works_are, outcome_is}
use Rattle.cx_core.proofs.LengthLaws.{place_there, length_there, length_put, lengths_count}
use Rattle.cx_core.proofs.PieceLaws.{writes_on, writes_full}

none_some : {X : Type 0} (y : X) → None ≡ Some y → ⊥
none_some y e = cc

some_is : {X : Type 0} (x y : X) → Some x ≡ Some y → x ≡ y
some_is x y e = cc

-- ---- the operation of a work

record IsPiece (o : Op) (iteration : ℕ) (v : VarId) (i : ℕ) : Type 0 where
  op : o ≡ Piece v
  at : i ≡ iteration

abbrev var_of : Option Work → Option VarId
var_of None = None
var_of (Some w) = w.var

abbrev iteration_in : Option Work → ℕ
iteration_in None = 0
iteration_in (Some w) = w.iteration

module _ (iteration i : ℕ) where
  no_work : {P : Type 0} (w : Work) → None ≡ Some w → P
  no_work w e = absurd (none_some w e)

  piece_work : (o : Op) (v : VarId)
      → work_of o iteration ≡ Some (record { var = Some v; iteration = i })
      → IsPiece o iteration v i
  piece_work (Piece u) v e =
      record { op = ap Piece (some_is u v (ap var_of e)); at = sym (ap iteration_in e) }
  piece_work Save v e = absurd (none_some v (ap var_of e))
  piece_work (Sweep k) v e = no_work (record { var = Some v; iteration = i }) e
  piece_work (Apply k) v e = no_work (record { var = Some v; iteration = i }) e
  piece_work (Give k) v e = no_work (record { var = Some v; iteration = i }) e
  piece_work (Join k) v e = no_work (record { var = Some v; iteration = i }) e
  piece_work (Post d vars) v e = no_work (record { var = Some v; iteration = i }) e
  piece_work (Take d vars path) v e = no_work (record { var = Some v; iteration = i }) e
  piece_work (Test w path skip) v e = no_work (record { var = Some v; iteration = i }) e
  piece_work Open v e = no_work (record { var = Some v; iteration = i }) e
  piece_work (Turn w path skip) v e = no_work (record { var = Some v; iteration = i }) e
  piece_work (Again back) v e = no_work (record { var = Some v; iteration = i }) e
  piece_work Rotate v e = no_work (record { var = Some v; iteration = i }) e
  piece_work (Due skip) v e = no_work (record { var = Some v; iteration = i }) e
  piece_work (Written skip) v e = no_work (record { var = Some v; iteration = i }) e
  piece_work (Skip skip) v e = no_work (record { var = Some v; iteration = i }) e
  piece_work (Next back) v e = no_work (record { var = Some v; iteration = i }) e
  piece_work Halt v e = no_work (record { var = Some v; iteration = i }) e

  save_work : (o : Op) → work_of o iteration ≡ Some (record { var = None; iteration = i })
      → (o ≡ Save) × (i ≡ iteration)
  save_work Save e = (refl, sym (ap iteration_in e))
  save_work (Piece u) e = absurd (none_some u (sym (ap var_of e)))
  save_work (Sweep k) e = no_work (record { var = None; iteration = i }) e
  save_work (Apply k) e = no_work (record { var = None; iteration = i }) e
  save_work (Give k) e = no_work (record { var = None; iteration = i }) e
  save_work (Join k) e = no_work (record { var = None; iteration = i }) e
  save_work (Post d vars) e = no_work (record { var = None; iteration = i }) e
  save_work (Take d vars path) e = no_work (record { var = None; iteration = i }) e
  save_work (Test w path skip) e = no_work (record { var = None; iteration = i }) e
  save_work Open e = no_work (record { var = None; iteration = i }) e
  save_work (Turn w path skip) e = no_work (record { var = None; iteration = i }) e
  save_work (Again back) e = no_work (record { var = None; iteration = i }) e
  save_work Rotate e = no_work (record { var = None; iteration = i }) e
  save_work (Due skip) e = no_work (record { var = None; iteration = i }) e
  save_work (Written skip) e = no_work (record { var = None; iteration = i }) e
  save_work (Skip skip) e = no_work (record { var = None; iteration = i }) e
  save_work (Next back) e = no_work (record { var = None; iteration = i }) e
  save_work Halt e = no_work (record { var = None; iteration = i }) e

-- ---- which event stands at a place

writer_at : (ks : List ℕ) (o : Option PaceEvent) (k : ℕ) (x : PaceEvent)
    → ((j : ℕ) → x ≡ next.Part j → ⊥)
    → slice_get (map next.Part ks ++ option_to_list o) k ≡ Some x → o ≡ Some x
writer_at [] None k x never e = absurd (none_some x e)
writer_at [] (Some y) zero x never e = e
writer_at [] (Some y) (suc k) x never e = absurd (none_some x e)
writer_at (j ∷ ks) o zero x never e = absurd (never j (sym (some_is (next.Part j) x e)))
writer_at (j ∷ ks) o (suc k) x never e = writer_at ks o k x never e

pub in_front_by : (over in_front at_end : Bool) → writer_by over in_front at_end ≡ Some next.Write
    → in_front ≡ true
in_front_by true i a e = absurd (none_some next.Write e)
in_front_by false true a e = refl
in_front_by false false true e = absurd (end_write (some_is next.End next.Write e))
  where
    end_write : next.End ≡ next.Write → ⊥
    end_write h = cc
in_front_by false false false e = absurd (none_some next.Write e)

not_over : (over in_front at_end : Bool) (x : PaceEvent) → writer_by over in_front at_end ≡ Some x
    → over ≡ false
not_over true i a x e = absurd (none_some x e)
not_over false i a x e = refl

-- ---- items

-- the writer's work leaves each part in its iteration
items_written : (setup : Setup) (parts : List Standing)
    → map (items_in setup) (map one_less parts) ≡ map (items_in setup) parts
items_written setup [] = refl
items_written setup (s ∷ ss) = ap (λ xs. items_in setup s ∷ xs) (items_written setup ss)

-- ---- ends

ended_same : (end : End) → ended_by (outcome_of (Some end)) ≡ outcome_of (Some end)
ended_same ends.Done = refl
ended_same (ends.Overflow iteration path) = refl
ended_same (ends.WhileLimit iteration path) = refl
ended_same (ends.OutputLimit iteration) = refl

module _ (tells : Type 0) (r : Run) (trace : Trace) (laws : RunLaws tells r trace) (first : Counts)
    (core : Cores) (queue : ℕ → ℕ → List (SentMail tells)) (now : Counts)
    (at : IsAt tells r first core queue now) where
  abbrev pub w : World Held (Message tells) Channel Lengths
  w = at.world

  abbrev pub o : Oracle
  o = at.oracle

  abbrev pub N : Net Held (Message tells) Channel Control Lengths
  N = net tells within_lead r o

  abbrev pub shows : Shows tells r o core queue w
  shows = at.shows

  pub told : TellsEvents tells r o w core.pace
  told = laws.pace.events o w core.pace at.reached shows.pace

  pub goes : GoesOn tells r o w
  goes = laws.goes_on.goes_on o w at.reached

  keeps : KeepsPace tells r o w core.pace
  keeps = laws.pace.keeps o w core.pace at.reached shows.pace

  pub place : (n : ℕ) × (writer_going core.pace ≡ Some next.Write → IsNext N w n)
  place = work_place tells r o w core.pace shows.pace.count told goes

  abbrev pub event_list : List network.Event
  event_list = map (event_of place.0) (events core.pace)

  pub enabled_are : AreEnabled tells r o w event_list
  enabled_are = are_enabled tells r o w core.pace shows.pace.count told goes place.0 place.1

  abbrev pub was : Place tells
  was = record { core = core; queue = queue; now = now }

  -- the run is over at a place, and all else is as before
  over_shows : (n : ℕ) (outcome : Outcome) → OverAs r o (Some n) outcome
      → ShowsPace tells r o (over_at w n) (over_now core.pace)
      → Shows tells r o (record core { pace = over_now core.pace; outcome = outcome }) queue
      (over_at w n)
  over_shows n outcome over pace = record {
    pace = pace;
    count = shows.count;
    patches = shows.patches;
    wires = shows.wires;
    others = shows.others;
    senders = shows.senders;
    boards = shows.boards;
    kinds = shows.kinds;
    pieces = shows.pieces;
    room = shows.room;
    book = shows.book;
    met = shows.met;
    over = over;
  }

  -- ---- a work

  module _ (k : ℕ) (kth : slice_get (events core.pace) k ≡ Some next.Write) where
    not_part : (j : ℕ) → next.Write ≡ next.Part j → ⊥
    not_part j e = cc

    pub is_write : writer_going core.pace ≡ Some next.Write
    is_write = writer_at (parts_going core.pace) (writer_going core.pace) k next.Write not_part kth

    module _ (work : Work) (first_work : slice_get core.pace.works 0 ≡ Some work) where
      abbrev pub n : ℕ
      n = place.0

      pub nx : IsNext N w n
      nx = place.1 is_write

      work_is : work_there r o n ≡ Some work
      work_is = sym (told.work n nx) ∙ first_work

      handed_some : (j : ℕ) → j < parts_in r → 0 < (part_of core.pace j).handed
      handed_some j l =
          let b = and_parts (is_some_work core.pace.works)
          (list_all (λ (s : Standing). nat_lt 0 s.handed) core.pace.parts)
          (in_front_by core.pace.over (all_in core.pace) (all_stand core.pace) is_write) in
          ltb-true 0 (part_of core.pace j).handed
          (all_at (λ (s : Standing). nat_lt 0 s.handed) core.pace.parts b.1 j no_part
          (omega (arith, l, shows.pace.count)))

      fronts_at : (j : ℕ) → j < parts_in r
          → Front (HoldsWork r core.buffers j) (part_of core.pace j).handed core.pace.works
          (w.pieces j) work
      fronts_at j l = front (HoldsWork r core.buffers j)
          (part_of core.pace j).handed core.pace.works (w.pieces j) work (handed_some j l)
          first_work (shows.pieces j l)

      -- the buffers hold what stands in front
      pub held : (t : tells) (j : ℕ) → j < parts_in r
          → HoldsFor r core.buffers j work.var (piece_levels t (fronts w j))
      held t j l =
          let f = fronts_at j l in
          subst (λ ms. HoldsFor r core.buffers j work.var (piece_levels t ms)) (sym f.is_first)
          (holds_front t r core.buffers j work f.first f.related)

      at_kth : slice_get event_list k ≡ Some (network.Write n)
      at_kth = get_map (event_of n) (events core.pace) k next.Write kth

      before_last : n < last_of r o
      before_last = omega (
        arith,
        nx.all_in 0 laws.some_part,
        at.reached.woven.within 0 laws.some_part,
      )

      module _ (buffers : Buffers) (lengths : List ℕ) (book : Lengths) (section : VarId)
          (on : (j : ℕ) (var : Option VarId) (state : State) → HoldsFor r core.buffers j var state
          → HoldsFor r buffers j var state)
          (room : HasRoom r.setup buffers) (long : lengths ≡ lengths_in r.setup.out_vars book) where
        abbrev behind : Cores
        behind = record core {
          pace = wrote_one core.pace;
          buffers = buffers;
          lengths = lengths;
          section = section;
        }

        pieces_on : (j : ℕ) → j < parts_in r
            → AllZip (HoldsWork r buffers j)
            (take (part_of (wrote_one core.pace) j).handed (drop 1 core.pace.works))
            (drop 1 (w.pieces j))
        pieces_on j l =
            let f = fronts_at j l in
            zip_weaker (HoldsWork r core.buffers j) (HoldsWork r buffers j)
            (holds_on r core.buffers buffers j (on j))
            (take (part_of (wrote_one core.pace) j).handed (drop 1 core.pace.works))
            (drop 1 (w.pieces j))
            (subst (λ h. AllZip (HoldsWork r core.buffers j) (take h (drop 1 core.pace.works))
            (drop 1 (w.pieces j)))
            (sym (less_of core.pace j (omega (arith, l, shows.pace.count)))) f.rest)

        wrote_shows : ShowsPace tells r o (wrote_at w n book) (wrote_one core.pace)
            → Shows tells r o behind queue (wrote_at w n book)
        wrote_shows pace = record {
          pace = pace;
          count = shows.count;
          patches = shows.patches;
          wires = shows.wires;
          others = shows.others;
          senders = shows.senders;
          boards = shows.boards;
          kinds = shows.kinds;
          pieces = pieces_on;
          room = room;
          book = long;
          met = shows.met;
          over = shows.over;
        }

        -- what is handed out, where wires tell
        pub added : tells → WritesAt tells r (next_op r (guided r o n).control)
            (guided r o n).control.iteration (fronts w) w.book (Some book)
            → handed_out r (wrote_at w n book) ≡ handed_out r w ++ entries_of (notes_of r n)
        added t writes =
            ((laws.works t o w at.reached).work n (wrote_at w n book) nx (inl (book, writes, refl))
            nx.going).added

        pub goes_on : (e : Event)
            → WritesAt tells r (next_op r (guided r o n).control) (guided r o n).control.iteration
            (fronts w) w.book (Some book)
            → e ≡ work_event (next_op r (guided r o n).control) (guided r o n).control.iteration
            → Leaves r.setup core behind e
            → buffers.state.key ≡ core.buffers.state.key
            → (tells → HandsOut r trace behind (handed_out r w) (handed_out r (wrote_at w n book))
            e)
            → StepsTo tells r trace first k was (record { core = behind; queue = queue; now = now })
            at e
        goes_on e writes answers leaves key hands =
            let kept = keeps.wrote n book nx writes in
            record {
              there = record {
                world = wrote_at w n book;
                oracle = o;
                reached = kept.0;
                shows = wrote_shows kept.1;
                points = at.points;
                values = at.values;
                sum = at.sum;
                items = at.items ∙ sym (items_written r.setup core.pace.parts);
              };
              does = record {
                events = event_list;
                enabled = enabled_are;
                which = network.Write n;
                kth = at_kth;
                after = inl (book, writes, refl);
                answers = subst (λ x. AnswersWork r o n x e) (sym nx.going) answers;
              };
              falls = goes.falls (network.Write n) (wrote_at w n book) nx
                  (inl (book, writes, refl));
              less = less_written r.setup core.pace work first_work;
              leaves = leaves;
              key = key;
              hands = hands;
              same_way = λ j m l b. refl;
            }

      -- the undivided run's operation there
      op_is : (t : tells) (p : Op) → next_op r (guided r o n).control ≡ p → op_of r n ≡ p
      op_is t p e = ap (λ (g : Flat). next_op r g.control) (sym (laws.way t o w at.reached n)) ∙ e

      iteration_is : (t : tells) (i : ℕ) → i ≡ (guided r o n).control.iteration
          → (undivided r n).control.iteration ≡ i
      iteration_is t i e = ap (λ (g : Flat). g.control.iteration)
          (sym (laws.way t o w at.reached n)) ∙ sym e

      makes : (t : tells) → MakesWork t r n (fronts w)
      makes t = (laws.works t o w at.reached).makes n nx

      -- a text
      module _ (v : VarId) (i : ℕ) (is : work ≡ record { var = Some v; iteration = i }) where
        piece : IsPiece (next_op r (guided r o n).control) (guided r o n).control.iteration v i
        piece = piece_work (guided r o n).control.iteration i (next_op r (guided r o n).control) v
            (work_is ∙ ap Some is)

        out_is : (v.0 < length r.setup.vars) × (is_among v r.setup.out_vars ≡ true)
        out_is = laws.outputs (guided r o n).control.pc v piece.op

        pub has_piece : HasPiece r.setup core.buffers v
        has_piece = shows.room.pieces v out_is.0 out_is.1

        pub held_piece : (t : tells) (j : ℕ) → j < parts_in r
            → HoldsPiece r.setup (cut_of r) core.buffers v j (only_level t (fronts w j))
        held_piece t j l = subst
            (λ (x : Work). HoldsFor r core.buffers j x.var (piece_levels t (fronts w j))) is
            (held t j l)

        there : (x : Option Lengths) → WritesAt tells r (Piece v) i (fronts w) w.book x
            → WritesAt tells r (next_op r (guided r o n).control) (guided r o n).control.iteration
            (fronts w) w.book x
        there x writes =
            subst (λ p. WritesAt tells r p (guided r o n).control.iteration (fronts w) w.book x)
            (sym piece.op)
            (subst (λ j. WritesAt tells r (Piece v) j (fronts w) w.book x) piece.at writes)

        -- its output is as long as the book says
        abbrev size : ℕ
        size = length (text_of_piece r.setup i v (piece_of core.buffers v))

        long_was : slice_index core.lengths (place_in r.setup.out_vars v) ≡ w.book v.0
        long_was =
            ap (λ (ls : List ℕ). slice_index ls (place_in r.setup.out_vars v)) shows.book
            ∙ length_there w.book v r.setup.out_vars out_is.1

        long_is : length_behind r.setup v i core ≡ w.book v.0 + size
        long_is = ap (λ (l : ℕ). l + size) long_was

        abbrev book_is : Lengths
        book_is = grown_by w.book v size

        abbrev lengths_are : List ℕ
        lengths_are = slice_set core.lengths (place_in r.setup.out_vars v)
            (length_behind r.setup v i core)

        long : lengths_are ≡ lengths_in r.setup.out_vars book_is
        long =
            ap (λ (ls : List ℕ). slice_set ls (place_in r.setup.out_vars v)
            (length_behind r.setup v i core)) shows.book
            ∙ ap (slice_set (lengths_in r.setup.out_vars w.book) (place_in r.setup.out_vars v))
            long_is
            ∙ length_put w.book v size r.setup.out_vars laws.outputs_rise out_is.1

        pub has_place : place_in r.setup.out_vars v < length core.lengths
        has_place =
            let l = place_there v r.setup.out_vars out_is.1 in
            omega (arith, l, ap length shows.book, lengths_count r.setup.out_vars w.book)

        pub text_step : length_behind r.setup v i core ≤ greatest_output
            → StepsTo tells r trace first k was
            (record { core = text_written r.setup v i core; queue = queue; now = now }) at
            (event.Section v i)
        text_step l =
            goes_on core.buffers lengths_are book_is v (λ j var state h. h) shows.room long
            (event.Section v i) writes
            (ap (event.Section v) piece.at
            ∙ sym (ap (λ p. work_event p (guided r o n).control.iteration) piece.op))
            (refl, l, has_piece, place_there v r.setup.out_vars out_is.1)
            refl
            hands
          where
            writes : WritesAt tells r (next_op r (guided r o n).control)
                (guided r o n).control.iteration (fronts w) w.book (Some book_is)
            writes =
                there (Some book_is)
                (writes_on tells r laws.cut (fronts w)
                core.buffers v has_piece held_piece laws.some_part i w.book
                (subst (λ (x : ℕ). x ≤ greatest_output) long_is l))

            entry : (t : tells) → entries_of (notes_of r n)
                ≡ Wrote v i (text_of_piece r.setup i v (piece_of core.buffers v))
                (undivided r n).state ∷ []
            entry t =
                text_entry tells t r trace laws n (fronts w) (makes t) core.buffers v
                (op_is t (Piece v) piece.op) has_piece (held_piece t)
                ∙ ap (λ j. Wrote v j (text_of_piece r.setup j v (piece_of core.buffers v))
                (undivided r n).state ∷ []) (iteration_is t i piece.at)

            hands : tells → HandsOut r trace (text_written r.setup v i core) (handed_out r w)
                (handed_out r (wrote_at w n book_is)) (event.Section v i)
            hands t = (
              text_of_piece r.setup i v (piece_of core.buffers v),
              (undivided r n).state,
              added core.buffers lengths_are book_is v (λ j var state h. h) shows.room long t
                  writes ∙ ap (λ (es : List Entry). handed_out r w ++ es) (entry t),
              piece_is tells t r trace laws n (fronts w) (makes t) core.buffers v
                  (op_is t (Piece v) piece.op) has_piece (held_piece t),
              refl,
            )

        module _ (l : greatest_output < length_behind r.setup v i core) where
          writes : WritesAt tells r (next_op r (guided r o n).control)
              (guided r o n).control.iteration (fronts w) w.book None
          writes =
              there None
              (writes_full tells r laws.cut (fronts w)
              core.buffers v has_piece held_piece laws.some_part i w.book
              (subst (λ (x : ℕ). greatest_output < x) long_is l))

          over : OverAs r o (Some n) (out.OutputLimit i)
          over = (
            λ e. absurd (omega (arith, e, before_last)),
            λ other. (
              ends.OutputLimit i,
              ap (λ p. end_met_by r p (guided r o n).control.iteration) piece.op
                  ∙ ap (λ j. Some (ends.OutputLimit j)) (sym piece.at),
              refl,
            ),
          )

          abbrev limit_place : Place tells
          limit_place = record { core = limit_met i core; queue = queue; now = now }

          abbrev limit_at : IsAt tells r first (limit_met i core) queue now
          limit_at = record {
            world = over_at w n;
            oracle = o;
            reached = (keeps.full n nx writes).0;
            shows = over_shows n (out.OutputLimit i) over (keeps.full n nx writes).1;
            points = at.points;
            values = at.values;
            sum = at.sum;
            items = at.items;
          }

          pub limit_step : StepsTo tells r trace first k was limit_place at event.End
          limit_step = record {
            there = limit_at;
            does = record {
              events = event_list;
              enabled = enabled_are;
              which = network.Write n;
              kth = at_kth;
              after = inr (writes, refl);
              answers = refl;
            };
            falls = goes.falls (network.Write n) (over_at w n) nx (inr (writes, refl));
            less = less_over r.setup core.pace
                (not_over core.pace.over (all_in core.pace) (all_stand core.pace)
                next.Write is_write);
            leaves = inr (v, i, refl, l);
            key = refl;
            hands = λ t. (
              (laws.works t o w at.reached).over n (network.Write n) (over_at w n) nx
                  (inr (writes, refl)) refl,
              works_are tells t r trace laws first limit_place limit_at n refl,
              outcome_is tells t r trace laws first limit_place limit_at n refl,
            );
            same_way = λ j m l b. refl;
          }

      -- a checkpoint
      module _ (i : ℕ) (is : work ≡ record { var = None; iteration = i }) where
        saves : (next_op r (guided r o n).control ≡ Save) × (i ≡ (guided r o n).control.iteration)
        saves = save_work (guided r o n).control.iteration i (next_op r (guided r o n).control)
            (work_is ∙ ap Some is)

        abbrev named : Buffers
        named = with_name i core.lengths core.buffers

        on_named : (j : ℕ) (var : Option VarId) (state : State)
            → HoldsFor r core.buffers j var state → HoldsFor r named j var state
        on_named j None state h = record { scalars = h.scalars; levels = h.levels }
        on_named j (Some v) state h = record { scalar = h.scalar; grid = h.grid }

        room_named : HasRoom r.setup named
        room_named = record {
          pieces = λ v l a. let h = shows.room.pieces v l a in
              record { var = h.var; there = h.there; room = h.room };
          version = shows.room.version;
          names = shows.room.names;
          lengths = ap length shows.book ∙ lengths_count r.setup.out_vars w.book;
          state = record {
            scalars = shows.room.state.scalars;
            levels = shows.room.state.levels;
            points = shows.room.state.points;
          };
        }

        pub held_state : (t : tells) (j : ℕ) → j < parts_in r
            → HoldsPart r.setup (cut_of r) core.buffers.state j (piece_levels t (fronts w j))
        held_state t j l = subst
            (λ (x : Work). HoldsFor r core.buffers j x.var (piece_levels t (fronts w j))) is
            (held t j l)

        pub save_step : StepsTo tells r trace first k was
            (record { core = state_written i core; queue = queue; now = now }) at (event.Save i)
        save_step =
            goes_on named core.lengths w.book core.section on_named room_named shows.book
            (event.Save i) writes
            (ap event.Save saves.1
            ∙ sym (ap (λ p. work_event p (guided r o n).control.iteration) saves.0))
            (refl, room_named)
            refl
            hands
          where
            writes : WritesAt tells r (next_op r (guided r o n).control)
                (guided r o n).control.iteration (fronts w) w.book (Some w.book)
            writes =
                subst (λ p. WritesAt tells r p (guided r o n).control.iteration (fronts w) w.book
                (Some w.book)) (sym saves.0) refl

            hands : tells → HandsOut r trace (state_written i core) (handed_out r w)
                (handed_out r (wrote_at w n w.book)) (event.Save i)
            hands t =
                let op = op_is t Save saves.0 in (
                  (undivided r n).state,
                  added named core.lengths w.book core.section on_named room_named shows.book t
                      writes
                      ∙ ap (λ (es : List Entry). handed_out r w ++ es)
                      ((makes t).entry op
                      ∙ ap (λ j. Saved j (undivided r n).state ∷ [])
                      (iteration_is t i saves.1)),
                  record {
                    version_is = shows.room.version;
                    names_is = shows.room.names;
                    iteration_is = refl;
                    state_is = state_is r.setup (cut_of r) refl (tiles (cut_of r) laws.cut)
                        core.buffers.state shows.room.state laws.some_part (undivided r n).state
                        (laws.states n)
                        (λ j. piece_levels t (fronts w j)) (held_state t)
                        (λ j l. (makes t).state op j l);
                    lengths_is = shows.book
                        ∙ ap (lengths_in r.setup.out_vars) (laws.book_is t o w at.reached);
                  },
                )

  -- ---- the end

  module _ (k : ℕ) (kth : slice_get (events core.pace) k ≡ Some next.End) where
    never_part : (j : ℕ) → next.End ≡ next.Part j → ⊥
    never_part j e = cc

    is_end : writer_going core.pace ≡ Some next.End
    is_end = writer_at (parts_going core.pace) (writer_going core.pace) k next.End never_part kth

    can : CanEnd N w
    can = (told.end).0 is_end

    over_there : OverAs r o (Some (end_of N w)) (ended_by core.met)
    over_there = go (cases_eq w.stop r.most)
      where
        stands : EndStands tells r o w
        stands = laws.goes_on.end_stands o w at.reached

        go : (w.stop ≡ r.most) ⊎ (w.stop ≡ r.most → ⊥)
            → OverAs r o (Some (end_of N w)) (ended_by core.met)
        go (inl e) = (λ h. ap ended_by (shows.met.0 e), λ never. absurd (never (stands.at_last e)))
        go (inr e) =
            let s = stands.at_stop e in
            let m = shows.met.1 e in (
              λ h. absurd (omega (arith, h, s.0, s.1)),
              λ other. (
                m.0,
                ap (λ n. end_met_by r (next_op r (guided r o n).control)
                    (guided r o n).control.iteration) s.0 ∙ m.1,
                ap ended_by m.2 ∙ ended_same m.0,
              ),
            )

    abbrev end_place : Place tells
    end_place = record { core = run_ended core; queue = queue; now = now }

    abbrev end_at : IsAt tells r first (run_ended core) queue now
    end_at = record {
      world = over_at w (end_of N w);
      oracle = o;
      reached = (keeps.ended can).0;
      shows = over_shows (end_of N w) (ended_by core.met) over_there (keeps.ended can).1;
      points = at.points;
      values = at.values;
      sum = at.sum;
      items = at.items;
    }

    pub end_step : StepsTo tells r trace first k was end_place at event.End
    end_step = record {
      there = end_at;
      does = record {
        events = event_list;
        enabled = enabled_are;
        which = network.End;
        kth = get_map (event_of place.0) (events core.pace) k next.End kth;
        after = refl;
        answers = refl;
      };
      falls = goes.falls network.End (over_at w (end_of N w)) can refl;
      less = less_over r.setup core.pace
          (not_over core.pace.over (all_in core.pace) (all_stand core.pace) next.End is_end);
      leaves = inl refl;
      key = refl;
      hands = λ t. (
        (laws.works t o w at.reached).over (end_of N w) network.End (over_at w (end_of N w))
            can refl refl,
        works_are tells t r trace laws first end_place end_at (end_of N w) refl,
        outcome_is tells t r trace laws first end_place end_at (end_of N w) refl,
      );
      same_way = λ j m l b. refl;
    }
