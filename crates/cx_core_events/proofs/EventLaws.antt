-- Which events can happen is told by where the parts stand.
use Rattle.std.proofs.Common.{◌≡◌, ℕ, zero, suc, ◌+◌, ◌-◌, ◌<◌, ◌≤◌, ◌⊎◌, inl, inr, Bool, true, false, not, ◌&&◌, ltb, List, [], ◌∷◌, length, get_or, Option, Some, None, refl, sym, ap, ◌∙◌, subst, arith}
use Rattle.std.specs.Prelude.{is_some, slice_get}
use Rattle.std.specs.List.{list_all}
use Rattle.std.proofs.lemmas.Bool.{cases_lt, cases_eq, cases_Bool, both_ways, ltb-true, lt-ltb, and_parts, and_from, not_from_false}
use Rattle.law_network.specs.Machine.{CanMove, IsNext, CanEnd, IsWork, end_of}
use Rattle.law_parts.specs.Laws.{IsReachedState}
use Rattle.law_parts.specs.Nets.{net, within_lead}
use Rattle.law_parts.specs.Runs.{Run, Oracle, parts_in, next_op, guided, halts, last_of}
use Rattle.law_parts.proofs.ListLaws.{not_true}
use Rattle.law_parts.proofs.Ways.{within_most}
use Rattle.law_parts.proofs.Ways as ways
use Rattle.law_parts.proofs.WholeRun.{IsRun, names_at}
use Rattle.cx_core_events.specs.declared.standing.Standing.{Standing}
use Rattle.cx_core_events.specs.declared.standing.Work.{Work}
use Rattle.cx_core_events.specs.declared.standing.Next.TheVariants.{Write, End}
use Rattle.cx_core_events.specs.Paces.{Paces, no_part, part_of, op_of}
use Rattle.cx_core_events.specs.Events.{goes_on, is_near, is_ready, has_room, can_go, is_some_work, all_in, all_below, all_stand, writer_by, writer_going}
use Rattle.cx_core_events.specs.Shows.{State, ShowsPace, StopsAt, work_there}
use Rattle.cx_core_events.proofs.StandLaws.{ends, control_is, op_is}
use Rattle.cx_core_events.proofs.WorkLaws.{works_from, some_work, IsFirst, first_there, one_first}
use Rattle.cx_core_events.proofs.MoveLaws.{goes_true, true_goes, near_true, true_near, ready_true, true_ready}
use Rattle.cx_core_events.proofs.RoomLaws.{has_work, has_buffer, works_are, handed_is, room_true, true_room}

not_some : {A : Type 0} (o : Option A) → not (is_some o) ≡ true → o ≡ None
not_some None e = refl
not_some (Some x) e = absurd cc

all_each : (f : Standing → Bool) (ss : List Standing) → list_all f ss ≡ true → (k : ℕ)
    → k < length ss → f (get_or ss k no_part) ≡ true
all_each f [] e k l = absurd (omega (arith, l))
all_each f (s ∷ ss) e zero l = (and_parts (f s) (list_all f ss) e).0
all_each f (s ∷ ss) e (suc k) l =
    all_each f ss (and_parts (f s) (list_all f ss) e).1 k (omega (arith, l))

each_all : (f : Standing → Bool) (ss : List Standing)
    → ((k : ℕ) → k < length ss → f (get_or ss k no_part) ≡ true) → list_all f ss ≡ true
each_all f [] h = refl
each_all f (s ∷ ss) h = and_from (f s) (list_all f ss) (h 0 (omega arith))
    (each_all f ss (λ k l. h (suc k) (omega (arith, l))))

below_each : (f : ℕ → Bool) (n : ℕ) → all_below f n ≡ true → (k : ℕ) → k < n → f k ≡ true
below_each f zero e k l = absurd (omega (arith, l))
below_each f (suc n) e k l = go (below_each f n) (cases_eq k n)
  where
    go : (all_below f n ≡ true → (j : ℕ) → j < n → f j ≡ true) → (k ≡ n) ⊎ (k ≡ n → ⊥) → f k ≡ true
    go more (inl i) = ap f i ∙ (and_parts (all_below f n) (f n) e).1
    go more (inr i) = more (and_parts (all_below f n) (f n) e).0 k (omega (arith, l, i))

each_below : (f : ℕ → Bool) (n : ℕ) → ((k : ℕ) → k < n → f k ≡ true) → all_below f n ≡ true
each_below f zero h = refl
each_below f (suc n) h =
    and_from (all_below f n) (f n) (each_below f n (λ k l. h k (omega (arith, l))))
    (h n (omega arith))

writes : (a b c : Bool) → writer_by a b c ≡ Some Write → (a ≡ false) × (b ≡ true)
writes true b c e = absurd cc
writes false true c e = (refl, refl)
writes false false true e = absurd cc
writes false false false e = absurd cc

is_end : (a b c : Bool) → writer_by a b c ≡ Some End → (a ≡ false) × ((b ≡ false) × (c ≡ true))
is_end true b c e = absurd cc
is_end false true c e = absurd cc
is_end false false true e = (refl, (refl, refl))
is_end false false false e = absurd cc

written : (a b c : Bool) → a ≡ false → b ≡ true → writer_by a b c ≡ Some Write
written true b c e f = absurd cc
written false true c e f = refl
written false false c e f = absurd cc

ended : (a b c : Bool) → a ≡ false → b ≡ false → c ≡ true → writer_by a b c ≡ Some End
ended true b c e f g = absurd cc
ended false true c e f g = absurd cc
ended false false true e f g = refl
ended false false false e f g = absurd cc

some_list : (ws : List Work) → 0 < length ws → is_some_work ws ≡ true
some_list [] l = absurd (omega (arith, l))
some_list (x ∷ xs) l = refl

front_is : (ws : List Work) → is_some_work ws ≡ true
    → (x : Work) × ((xs : List Work) × (ws ≡ x ∷ xs))
front_is [] e = absurd cc
front_is (x ∷ xs) e = (x, (xs, refl))

module _ (tells : Type 0) (r : Run) (run : IsRun r) (oracle : Oracle) (w : State tells) (p : Paces)
    (st : IsReachedState tells r oracle w) (sh : ShowsPace tells r oracle w p) where
  going_is : not p.over ≡ true → w.over ≡ None
  going_is e = not_some w.over (ap not (sym sh.over) ∙ e)

  pub over_is : w.over ≡ None → p.over ≡ false
  over_is e = sh.over ∙ ap is_some e

  pub can_true : (k : ℕ) → k < parts_in r → can_go p k ≡ true
      → CanMove (net tells within_lead r oracle) w k
  can_true k l e =
      let five = and_parts (not p.over && goes_on p k && is_near p k && is_ready p k (op_of p k))
      (has_room p k) e in
      let four = and_parts (not p.over && goes_on p k && is_near p k) (is_ready p k (op_of p k))
      five.0 in
      let three = and_parts (not p.over && goes_on p k) (is_near p k) four.0 in
      let two = and_parts (not p.over) (goes_on p k) three.0 in
      let going = goes_true tells r run oracle w p st sh k l two.1 in
      record {
        part = l;
        going = going_is two.0;
        left_over = going.0;
        before = going.1;
        ready = ready_true tells r run oracle w p st sh k (next_op r (w.held k).control) l
            (names_at r run (w.held k).control.pc)
            (subst (λ o. is_ready p k o ≡ true) (op_is tells r run oracle w p st sh k l) four.1);
        near = near_true tells r run oracle w p st sh k l three.1;
        room = room_true tells r run oracle w p st sh k l five.1;
      }

  pub true_can : (k : ℕ) → CanMove (net tells within_lead r oracle) w k → can_go p k ≡ true
  true_can k can =
      let l = can.part in
      and_from (not p.over && goes_on p k && is_near p k && is_ready p k (op_of p k)) (has_room p k)
      (and_from (not p.over && goes_on p k && is_near p k) (is_ready p k (op_of p k))
      (and_from (not p.over && goes_on p k) (is_near p k)
      (and_from (not p.over) (goes_on p k)
      (not_from_false p.over (over_is can.going))
      (true_goes tells r run oracle w p st sh k l can.left_over can.before))
      (true_near tells r run oracle w p st sh k l can.near))
      (subst (λ o. is_ready p k o ≡ true) (sym (op_is tells r run oracle w p st sh k l))
      (true_ready tells r run oracle w p st sh k (next_op r (w.held k).control) l
      (names_at r run (w.held k).control.pc) can.ready)))
      (true_room tells r run oracle w p st sh k l can.room)

  -- ---- the writer's next work

  -- a part has handed in a work exactly where it has passed its place
  pub passed_handed : (n k : ℕ) (work : Work) → k < parts_in r → w.wrote ≤ n
      → work_there r oracle n ≡ Some work → n < w.place k → 0 < (part_of p k).handed
  passed_handed n k work l from is upto =
      let at : w.wrote + (n - w.wrote) ≡ n = omega (arith, from) in
      omega (
        arith,
        handed_is tells r run oracle w p st sh k l,
        some_work r oracle w.wrote (w.place k - w.wrote) (n - w.wrote) work
            (omega (arith, from, upto)) (ap (work_there r oracle) at ∙ is),
      )

  handed_passed : (n k : ℕ) (work : Work) → k < parts_in r → IsFirst r oracle w.wrote n work
      → 0 < (part_of p k).handed → n < w.place k
  handed_passed n k work l first some = go (works_from r oracle w.wrote (w.place k - w.wrote)) refl
    where
      go : (ws : List Work) → works_from r oracle w.wrote (w.place k - w.wrote) ≡ ws → n < w.place k
      go [] e =
          absurd (omega (arith, some, handed_is tells r run oracle w p st sh k l, ap length e))
      go (x ∷ xs) e =
          let f = first_there r oracle w.wrote (w.place k - w.wrote) x xs e in
          let same = one_first r oracle w.wrote n f.0 work x first f.2 in
          let below = f.1 in
          let h = st.woven.behind k l in
          omega (arith, same, below, h)

  -- the first one of all works
  pub record HasFirst : Type 0 where
    pub work : Work
    pub rest : List Work
    pub works : p.works ≡ work ∷ rest
    pub place : ℕ
    pub first : IsFirst r oracle w.wrote place work
    pub inside : place < w.place sh.foremost

  first_of : is_some_work p.works ≡ true → HasFirst
  first_of e =
      let x = front_is p.works e in
      let f = first_there r oracle w.wrote (w.place sh.foremost - w.wrote) x.0 x.1.0
      (sym (works_are tells r run oracle w p st sh) ∙ x.1.1) in
      record {
        work = x.0;
        rest = x.1.0;
        works = x.1.1;
        place = f.0;
        first = f.2;
        inside = let b = f.1 in let h = st.woven.behind sh.foremost sh.foremost_part in
            omega (arith, b, h);
      }

  no_work : (m : ℕ) → work_there r oracle m ≡ None → IsWork (net tells within_lead r oracle) m → ⊥
  no_work m none is =
      let x = has_work r (next_op r (guided r oracle m).control)
      (guided r oracle m).control.iteration is.0 (names_at r run (guided r oracle m).control.pc)
      is.1 in
      clash x.work (sym none ∙ x.is)
    where
      clash : (x : Work) → None ≡ Some x → ⊥
      clash x e = cc

  before_stop : (n : ℕ) → ((k : ℕ) → k < parts_in r → n < w.place k) → n < w.stop
  before_stop n all = go p.stopped sh.stopped
    where
      go : (o : Option ℕ) → StopsAt r w o → n < w.stop
      go None e = omega (
        arith,
        e,
        all sh.foremost sh.foremost_part,
        st.woven.within sh.foremost sh.foremost_part,
        within_most r oracle (ends tells r run oracle w p st sh),
      )
      go (Some j) e = let i = e.1 in omega (arith, i, all j e.0)

  next_true : p.over ≡ false → all_in p ≡ true
      → (n : ℕ) × IsNext (net tells within_lead r oracle) w n
  next_true going e =
      let both = and_parts (is_some_work p.works)
      (list_all (λ (s : Standing). ltb 0 s.handed) p.parts) e in
      let f = first_of both.0 in
      let all : (k : ℕ) → k < parts_in r → f.place < w.place k = λ k l.
      handed_passed f.place k f.work l f.first
      (ltb-true 0 (part_of p k).handed
      (all_each (λ (s : Standing). ltb 0 s.handed) p.parts both.1 k
      (omega (arith, l, sh.count)))) in (
        f.place,
        record {
          going = going_is (not_from_false p.over going);
          work = (
            _,
            has_buffer r (next_op r (guided r oracle f.place).control)
                (guided r oracle f.place).control.iteration f.work f.first.is,
          );
          after_wrote = f.first.from;
          none_before = λ m a b is. no_work m (f.first.none m a b) is;
          before = before_stop f.place all;
          all_in = all;
        },
      )

  -- the work of a place
  pub there_work : (n : ℕ) → IsWork (net tells within_lead r oracle) n
      → (work : Work) × (work_there r oracle n ≡ Some work)
  there_work n is =
      let x = has_work r (next_op r (guided r oracle n).control)
      (guided r oracle n).control.iteration is.0 (names_at r run (guided r oracle n).control.pc)
      is.1 in
      (x.work, x.is)

  pub in_true : (n : ℕ) → IsWork (net tells within_lead r oracle) n → w.wrote ≤ n
      → ((k : ℕ) → k < parts_in r → n < w.place k) → all_in p ≡ true
  in_true n is from all =
      let x = there_work n is in
      let fm = sh.foremost_part in
      let at : w.wrote + (n - w.wrote) ≡ n = omega (arith, from) in
      let last = all sh.foremost fm in
      and_from (is_some_work p.works) (list_all (λ (s : Standing). ltb 0 s.handed) p.parts)
      (some_list p.works (omega (
        arith,
        ap length (works_are tells r run oracle w p st sh),
        some_work r oracle w.wrote (w.place sh.foremost - w.wrote) (n - w.wrote) x.0
            (omega (arith, from, last)) (ap (work_there r oracle) at ∙ x.1),
      )))
      (each_all (λ (s : Standing). ltb 0 s.handed) p.parts
      (λ k l. lt-ltb 0 (part_of p k).handed
      (let m : k < parts_in r = omega (arith, l, sh.count) in
      passed_handed n k x.0 m from x.1 (all k m))))

  pub write_true : writer_going p ≡ Some Write
      → (n : ℕ) × IsNext (net tells within_lead r oracle) w n
  write_true e = let x = writes p.over (all_in p) (all_stand p) e in next_true x.0 x.1

  pub true_write : (n : ℕ) → IsNext (net tells within_lead r oracle) w n
      → writer_going p ≡ Some Write
  true_write n is = written p.over (all_in p) (all_stand p) (over_is is.going)
      (in_true n is.work is.after_wrote is.all_in)

  pub none_of : (n m : ℕ) → IsNext (net tells within_lead r oracle) w n → w.wrote ≤ m → m < n
      → work_there r oracle m ≡ None
  none_of n m is a b = go (work_there r oracle m) refl
    where
      go : (o : Option Work) → work_there r oracle m ≡ o → o ≡ None
      go None e = refl
      go (Some x) e =
          absurd (is.none_before m a b (
            _,
            has_buffer r (next_op r (guided r oracle m).control)
                (guided r oracle m).control.iteration x e,
          ))

  pub front_work : (n : ℕ) → IsNext (net tells within_lead r oracle) w n
      → slice_get p.works 0 ≡ work_there r oracle n
  front_work n is =
      let f =
      first_of (and_parts (is_some_work p.works)
      (list_all (λ (s : Standing). ltb 0 s.handed) p.parts)
      (in_true n is.work is.after_wrote is.all_in)).0 in
      let x = there_work n is.work in
      let same : f.place ≡ n =
      one_first r oracle w.wrote f.place n f.work x.0 f.first
      (record { from = is.after_wrote; is = x.1; none = λ m a b. none_of n m is a b }) in
      ap (λ ws. slice_get ws 0) f.works ∙ sym f.first.is ∙ ap (work_there r oracle) same

  -- ---- the end

  stands_still : (k : ℕ) → k < parts_in r → not (goes_on p k) ≡ true
      → (halts r (w.held k).control ≡ true) ⊎ (w.stop ≤ w.place k)
  stands_still k l e = go (cases_Bool (halts r (w.held k).control)) (cases_lt (w.place k) w.stop)
    where
      go : (halts r (w.held k).control ≡ true) ⊎ (halts r (w.held k).control ≡ false)
          → (w.place k < w.stop) ⊎ (w.stop ≤ w.place k)
          → (halts r (w.held k).control ≡ true) ⊎ (w.stop ≤ w.place k)
      go (inl h) c = inl h
      go (inr h) (inr c) = inr c
      go (inr h) (inl c) = absurd
          (both_ways (goes_on p k) (not_true (goes_on p k) e)
          (true_goes tells r run oracle w p st sh k l h c))

  still_stands : (k : ℕ) → k < parts_in r
      → (halts r (w.held k).control ≡ true) ⊎ (w.stop ≤ w.place k) → not (goes_on p k) ≡ true
  still_stands k l h = not_from_false (goes_on p k) (go (cases_Bool (goes_on p k)) h)
    where
      go : (goes_on p k ≡ true) ⊎ (goes_on p k ≡ false)
          → (halts r (w.held k).control ≡ true) ⊎ (w.stop ≤ w.place k) → goes_on p k ≡ false
      go (inr e) c = e
      go (inl e) (inl c) = absurd
          (both_ways (halts r (w.held k).control)
          (goes_true tells r run oracle w p st sh k l e).0 c)
      go (inl e) (inr c) = let b = (goes_true tells r run oracle w p st sh k l e).1 in
          absurd (omega (arith, b, c))

  -- no part stands before the end
  past_end : (k m : ℕ) → k < parts_in r → (halts r (w.held k).control ≡ true) ⊎ (w.stop ≤ w.place k)
      → m < end_of (net tells within_lead r oracle) w → m < w.place k
  past_end k m l (inr c) b = omega (arith, c, b)
  past_end k m l (inl c) b = go (cases_lt (w.place k) (last_of r oracle))
    where
      go : (w.place k < last_of r oracle) ⊎ (last_of r oracle ≤ w.place k) → m < w.place k
      go (inr i) = omega (arith, i, b)
      go (inl i) = absurd (both_ways (halts r (w.held k).control) (on_way i) c)
        where
          on_way : w.place k < last_of r oracle → halts r (w.held k).control ≡ false
          on_way i = ap (halts r) (control_is tells r run oracle w p st sh k l)
              ∙ ways.goes_on r oracle (ends tells r run oracle w p st sh) (w.place k) i

  pub end_true : writer_going p ≡ Some End → CanEnd (net tells within_lead r oracle) w
  end_true e =
      let x = is_end p.over (all_in p) (all_stand p) e in
      let all : (k : ℕ) → k < parts_in r
      → (halts r (w.held k).control ≡ true) ⊎ (w.stop ≤ w.place k) = λ k l.
      stands_still k l (below_each (λ k. not (goes_on p k)) (length p.parts) x.1.1 k
      (omega (arith, l, sh.count))) in
      record {
        going = going_is (not_from_false p.over x.0);
        none_left = λ m a b is.
            both_ways (all_in p) x.1.0 (in_true m is a (λ k l. past_end k m l (all k l) b));
        all_at = all;
      }

  pub true_end : CanEnd (net tells within_lead r oracle) w → writer_going p ≡ Some End
  true_end can =
      ended p.over (all_in p) (all_stand p) (over_is can.going) (go (cases_Bool (all_in p)))
      (each_below (λ k. not (goes_on p k)) (length p.parts)
      (λ k l. let m : k < parts_in r = omega (arith, l, sh.count) in
      still_stands k m (can.all_at k m)))
    where
      go : (all_in p ≡ true) ⊎ (all_in p ≡ false) → all_in p ≡ false
      go (inr e) = e
      go (inl e) =
          let x = next_true (over_is can.going) e in
          let n = x.0 in
          let is = x.1 in
          let fm = is.all_in sh.foremost sh.foremost_part in
          let before = is.before in
          absurd (can.none_left n is.after_wrote
          (omega (arith, before, fm, st.woven.within sh.foremost sh.foremost_part)) is.work)
