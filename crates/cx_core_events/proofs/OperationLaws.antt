-- A part's operation leaves a state that is shown.
use Rattle.std.proofs.Common.{◌≡◌, ℕ, suc, ◌+◌, ◌-◌, ◌%◌, ◌^◌, ◌<◌, ◌≤◌, ◌⊎◌, inl, inr, true, false, ltb, cond, ℤ, List, [], ◌∷◌, ◌++◌, length, Option, Some, None, refl, sym, ap, ◌∙◌, subst, arith, append-nil, append_assoc, length-append, eq-eqb}
use Rattle.std.specs.Option.{option_to_list}
use Rattle.std.proofs.Math.Nat.{mod-add-mod}
use Rattle.std.specs.Prelude.{slice_get}
use Rattle.std.proofs.lemmas.Bool.{cases_lt, cases_eq, cases_Bool, ltb-false, lt-ltb, le-ltb, ne_eqb}
use Rattle.std.proofs.lemmas.List.{length-set, get_or-set_same, get_or-set_other}
use Rattle.cx_flat.specs.declared.op.Op.{Op}
use Rattle.cx_flat.specs.declared.op.Op.TheVariants as op
use Rattle.cx_flat.specs.Flats.{Control, control_after}
use Rattle.cx_flat.specs.Ways.{key, WayEnds}
use Rattle.cx_flat.proofs.WayLaws.{less_never}
use Rattle.cx_plan.specs.declared.variable.VarId.{VarId}
use Rattle.cx_rule.specs.States.{State as Numbers, scalar_of}
use Rattle.law_network.specs.Machine.{CanMove, taken_now}
use Rattle.law_network.specs.Machine as machine
use Rattle.law_network.specs.Agreement.{Fits, takes}
use Rattle.law_network.proofs.Put.{put_same, put_other}
use Rattle.law_network.proofs.Steps.{inside, found}
use Rattle.law_parts.specs.Holding.{Held}
use Rattle.law_parts.specs.Laws.{IsOracle, IsReachedState}
use Rattle.law_parts.specs.Moves.{Message, Channel, receiver, Goes, Gives, Moves}
use Rattle.law_parts.specs.Nets.{net, within_lead}
use Rattle.law_parts.specs.Runs.{Run, Oracle, parts_in, next_op, last_of}
use Rattle.law_parts.specs.Truths.{script, Stands, Agrees, GivesAt, Books}
use Rattle.law_parts.proofs.FitLaws.{lead_fits, some_part}
use Rattle.law_parts.proofs.MoveLaws.{moves_on}
use Rattle.law_parts.proofs.Ways.{scalars_at}
use Rattle.law_parts.proofs.WholeRun.{IsRun}
use Rattle.cx_core_events.specs.declared.standing.Standing.{Standing}
use Rattle.cx_core_events.specs.declared.standing.Work.{Work}
use Rattle.cx_core_events.specs.Paces.{Paces, no_part, part_of, op_of, iteration_of, is_less, are_in_order, is_before, hindmost_of, twin_from, hind_after}
use Rattle.cx_core_events.specs.Events.{work_of}
use Rattle.cx_core_events.specs.Steps.{handed_after, works_after, advanced, moved_on}
use Rattle.cx_core_events.specs.Shows.{State, ShowsPace, StandsAt, StopsAt, work_there, works_before}
use Rattle.cx_core_events.proofs.HindLaws.{hind_whole}
use Rattle.cx_core_events.proofs.OrderLaws.{told_less}
use Rattle.cx_core_events.proofs.StandLaws.{get_there, way, keys_are, ends, control_is, op_is}
use Rattle.cx_core_events.proofs.StandLaws as stand_laws
use Rattle.cx_core_events.proofs.TwinLaws.{twin_is}
use Rattle.cx_core_events.proofs.WorkLaws.{length_upto}
use Rattle.cx_core_events.proofs.RoomLaws.{work_is}

-- ---- how an operation goes on

given_goes : (r : Run) (o : Op) (x y : Held) (numbers : Option Numbers)
    → Gives r o x numbers (Some y) → Goes r o x y
given_goes r o x y None h = absurd h
given_goes r o x y (Some ns) h = h.0

module _ (tells : Type 0) (r : Run) (k : ℕ) (x y : Held) (mails : Channel → List (Message tells))
  where
    pub moves_go : (o : Op) → Moves tells r k x mails o (Some y) → Goes r o x y
    moves_go (op.Sweep i) h = given_goes r (op.Sweep i) x y _ h
    moves_go (op.Apply i) h = given_goes r (op.Apply i) x y _ h
    moves_go (op.Give i) h = h.0
    moves_go (op.Join i) h = given_goes r (op.Join i) x y _ h
    moves_go (op.Post d vars) h = h.0
    moves_go (op.Take d vars path) h = h.0
    moves_go (op.Test v path skip) h = h.0
    moves_go op.Open h = h.0
    moves_go (op.Turn v path skip) h = given_goes r (op.Turn v path skip) x y _ h
    moves_go (op.Again back) h = h.0
    moves_go op.Rotate h = h.0
    moves_go (op.Due skip) h = h.0
    moves_go (op.Written skip) h = h.0
    moves_go (op.Skip skip) h = h.0
    moves_go (op.Next back) h = h.0
    moves_go (op.Piece v) h = h.0
    moves_go op.Save h = h.0
    moves_go op.Halt h = h.0

-- ---- works by numbers

handed_more : (work : Option Work) (known handed : ℕ) → handed ≤ known
    → handed_after work known handed ≡ handed + length (option_to_list work)
handed_more None known handed l = omega arith
handed_more (Some x) known handed l = go (cases_lt handed known)
  where
    go : (handed < known) ⊎ (known ≤ handed)
        → cond (ltb handed known) (suc handed) (suc known) ≡ handed + 1
    go (inl h) = ap (λ b. cond b (suc handed) (suc known)) (lt-ltb handed known h)
        ∙ (let e : suc handed ≡ handed + 1 = omega arith in e)
    go (inr h) = ap (λ b. cond b (suc handed) (suc known)) (le-ltb handed known h)
        ∙ (let e : suc known ≡ handed + 1 = omega (arith, h, l) in e)

works_same : (work : Option Work) (works : List Work) (handed : ℕ)
    → (0 < length (option_to_list work) → handed < length works)
    → works_after work works handed ≡ works
works_same None works handed h = refl
works_same (Some x) works handed h =
    ap (λ b. cond b works (works ++ x ∷ [])) (lt-ltb handed (length works) (h (omega arith)))

works_more : (work : Option Work) (works : List Work) (handed : ℕ) → handed ≡ length works
    → works_after work works handed ≡ works ++ option_to_list work
works_more None works handed h = sym (append-nil works)
works_more (Some x) works handed h =
    ap (λ b. cond b works (works ++ x ∷ [])) (le-ltb handed (length works) (omega (arith, h)))

next_mod : (n m : ℕ) → (n % m + 1) % m ≡ suc n % m
next_mod n m = let e : n + 1 ≡ suc n = omega arith in mod-add-mod n m 1 ∙ ap (λ i. i % m) e

stands_by : (n m : ℕ) (x z : Held) (s t : Standing) → n ≡ m → x ≡ z → s ≡ t → StandsAt m z t
    → StandsAt n x s
stands_by n m x z s t a b c h =
    subst (λ i. StandsAt i x s) (sym a)
    (subst (λ u. StandsAt m u s) (sym b) (subst (StandsAt m z) (sym c) h))

module _ (tells : Type 0) (r : Run) (run : IsRun r) (oracle : Oracle) (w : State tells) (p : Paces)
    (st : IsReachedState tells r oracle w) (sh : ShowsPace tells r oracle w p)
    (k : ℕ) (y : Held) (can : CanMove (net tells within_lead r oracle) w k)
    (move : Moves tells r k (w.held k) (taken_now (net tells within_lead r oracle) w k)
    (next_op r (w.held k).control) (Some y)) where
  abbrev pub after : State tells
  after = machine.moved (net tells within_lead r oracle) w k y

  abbrev pub scalars : VarId → ℤ
  scalars = scalar_of (w.held k).numbers

  abbrev pub then : Paces
  then = moved_on r.setup p k scalars

  abbrev work : Option Work
  work = work_of (op_of p k) (iteration_of p k)

  abbrev handed : ℕ
  handed = (part_of p k).handed

  abbrev stand : Standing
  stand = advanced r.setup (op_of p k) scalars (handed_after work (length p.works) handed)
      (part_of p k)

  -- ---- it agrees at its new place

  abbrev pub fits : (other : Oracle) → IsOracle tells r other
      → Fits (net tells within_lead r other) (script tells r other) (Agrees tells r other)
      (GivesAt r other) (Books tells r)
  fits other h = lead_fits tells r run other h.told h.first

  pub before_last : w.place k < last_of r oracle
  before_last = inside (net tells within_lead r oracle) (script tells r oracle)
      (Agrees tells r oracle) (GivesAt r oracle) (Books tells r) (fits oracle st.oracle_is)
      w st.woven k can

  mails : (c : Channel) → receiver c ≡ k
      → taken_now (net tells within_lead r oracle) w k c
      ≡ takes (script tells r oracle) c (w.place k)
  mails c e =
      (found (net tells within_lead r oracle) (script tells r oracle) (Agrees tells r oracle)
      (GivesAt r oracle) (Books tells r) (fits oracle st.oracle_is) w st.woven k can c e).0

  pub stands : Stands tells r oracle k (suc (w.place k)) y
  stands = moves_on tells r run oracle st.oracle_is.told within_lead k (w.place k) (w.held k)
      (taken_now (net tells within_lead r oracle) w k) can.part before_last
      (st.woven.agrees k can.part).stands mails y move

  -- ---- places

  here_place : after.place k ≡ suc (w.place k)
  here_place = put_same w.place k (suc (w.place k)) k refl

  other_place : (j : ℕ) → (j ≡ k → ⊥) → after.place j ≡ w.place j
  other_place j n = put_other w.place k (suc (w.place k)) j n

  here_part : part_of then k ≡ stand
  here_part = get_or-set_same p.parts k stand no_part
      (let l = can.part in omega (arith, l, sh.count))

  other_part : (j : ℕ) → (j ≡ k → ⊥) → part_of then j ≡ part_of p j
  other_part j n = get_or-set_other p.parts k j stand no_part n

  place_is : stand.place ≡ y.control
  place_is =
      ap (λ o. control_after r.setup o scalars (part_of p k).place)
      (op_is tells r run oracle w p st sh k can.part)
      ∙ ap (control_after r.setup (next_op r (w.held k).control) scalars)
      (sh.parts k can.part).place
      ∙ sym (moves_go tells r k (w.held k) y (taken_now (net tells within_lead r oracle) w k)
      (next_op r (w.held k).control) move).control

  count_is : stand.count ≡ suc (w.place k) % 2 ^ 64
  count_is = ap (λ n. (n + 1) % 2 ^ 64) (sh.parts k can.part).count ∙ next_mod (w.place k) (2 ^ 64)

  parts_stand : (j : ℕ) → j < parts_in r → StandsAt (after.place j) (after.held j) (part_of then j)
  parts_stand j l = go (cases_eq j k)
    where
      go : (j ≡ k) ⊎ (j ≡ k → ⊥) → StandsAt (after.place j) (after.held j) (part_of then j)
      go (inl e) =
          stands_by (after.place j) (suc (w.place k)) (after.held j) y (part_of then j) stand
          (put_same w.place k (suc (w.place k)) j e) (put_same w.held k y j e)
          (ap (part_of then) e ∙ here_part)
          (record { place = place_is; count = count_is })
      go (inr n) =
          stands_by (after.place j) (w.place j) (after.held j) (w.held j) (part_of then j)
          (part_of p j)
          (other_place j n) (put_other w.held k y j n) (other_part j n) (sh.parts j l)

  -- ---- the hindmost part

  later : (j : ℕ) → w.place j ≤ after.place j
  later j = go (cases_eq j k)
    where
      go : (j ≡ k) ⊎ (j ≡ k → ⊥) → w.place j ≤ after.place j
      go (inl e) = omega (arith, put_same w.place k (suc (w.place k)) j e, ap w.place e)
      go (inr n) = omega (arith, other_place j n)

  abbrev known : WayEnds r.setup r.first.control r.most (scalars_at r oracle)
  known = ends tells r run oracle w p st sh

  new_place : (j : ℕ) → j < parts_in r → (part_of then j).place ≡ way r oracle known (after.place j)
  new_place j l = go (cases_eq j k)
    where
      go : (j ≡ k) ⊎ (j ≡ k → ⊥) → (part_of then j).place ≡ way r oracle known (after.place j)
      go (inl e) =
          ap (λ (s : Standing). s.place) (ap (part_of then) e ∙ here_part) ∙ place_is
          ∙ stands.control
          ∙ ap (way r oracle known) (sym (put_same w.place k (suc (w.place k)) j e))
      go (inr n) =
          ap (λ (s : Standing). s.place) (other_part j n)
          ∙ stand_laws.place_is tells r run oracle w p st sh j l
          ∙ ap (way r oracle known) (sym (other_place j n))

  new_within : (j : ℕ) → j < parts_in r → after.place j ≤ last_of r oracle
  new_within j l = go (cases_eq j k)
    where
      go : (j ≡ k) ⊎ (j ≡ k → ⊥) → after.place j ≤ last_of r oracle
      go (inl e) = omega (arith, put_same w.place k (suc (w.place k)) j e, before_last)
      go (inr n) = omega (arith, other_place j n, st.woven.within j l)

  new_count : length then.parts ≡ parts_in r
  new_count = length-set p.parts k stand ∙ sh.count

  new_before : (i j : ℕ) → i < parts_in r → j < parts_in r
      → is_before then.parts i j ≡ ltb (after.place i) (after.place j)
  new_before i j a b =
      ap (λ x. are_in_order x (slice_get then.parts j))
      (get_there then.parts i (omega (arith, new_count, a)))
      ∙ ap (λ x. are_in_order (Some (part_of then i)) x)
      (get_there then.parts j (omega (arith, new_count, b)))
      ∙ ap (λ c. is_less (key c) (key (part_of then j).place)) (new_place i a)
      ∙ ap (λ c. is_less (key (way r oracle known (after.place i))) (key c)) (new_place j b)
      ∙ keys_are r oracle known (after.place i) (after.place j) (new_within i a) (new_within j b)

  -- one of the hindmost ones
  pub record IsLeast (h : ℕ) : Type 0 where
    pub part : h < parts_in r
    pub least : (j : ℕ) → j < parts_in r → after.place h ≤ after.place j

  computed : IsLeast (hindmost_of then.parts (length then.parts))
  computed = subst (λ n. IsLeast (hindmost_of then.parts n)) (sym new_count)
      (let x = hind_whole then.parts (parts_in r) after.place new_before (some_part r run) in
      record { part = x.below; least = x.least })

  stays : (h : ℕ) → h < parts_in r → (h ≡ k → ⊥) → w.place h ≡ w.place p.hind → IsLeast h
  stays h l n e = record {
    part = l;
    least = λ j m. omega (arith, other_place h n, e, sh.hind_least j m, later j);
  }

  same_places : (i j : ℕ) → i < parts_in r → j < parts_in r
      → (part_of p i).place ≡ (part_of p j).place → w.place i ≡ w.place j
  same_places i j a b e =
      let x = ltb-false (w.place i) (w.place j)
      (sym (keys_are r oracle known (w.place i) (w.place j) (st.woven.within i a)
      (st.woven.within j b)) ∙ no_less i j a b e) in
      let y = ltb-false (w.place j) (w.place i)
      (sym (keys_are r oracle known (w.place j) (w.place i) (st.woven.within j b)
      (st.woven.within i a)) ∙ no_less j i b a (sym e)) in
      omega (arith, x, y)
    where
      self_less : (xs : List ℕ) → is_less xs xs ≡ false
      self_less xs = go (cases_Bool (is_less xs xs))
        where
          go : (is_less xs xs ≡ true) ⊎ (is_less xs xs ≡ false) → is_less xs xs ≡ false
          go (inl h) = absurd (less_never xs (told_less xs xs h))
          go (inr h) = h

      no_less : (i j : ℕ) → i < parts_in r → j < parts_in r
          → (part_of p i).place ≡ (part_of p j).place
          → is_less (key (way r oracle known (w.place i))) (key (way r oracle known (w.place j)))
          ≡ false
      no_less i j a b e =
          ap (λ c. is_less (key c) (key (way r oracle known (w.place j))))
          (sym (stand_laws.place_is tells r run oracle w p st sh i a) ∙ e
          ∙ stand_laws.place_is tells r run oracle w p st sh j b)
          ∙ self_less (key (way r oracle known (w.place j)))

  hind_is : IsLeast then.hind
  hind_is = go (cases_eq k p.hind)
    where
      by : (o : Option ℕ) → twin_from 0 k (part_of p k).place p.parts ≡ o → k ≡ p.hind
          → IsLeast (hind_after o then.parts)
      by None e at = computed
      by (Some j) e at =
          let t = twin_is p.parts 0 k (part_of p k).place j e in
          let l : j < parts_in r = let i = t.inside in omega (arith, i, sh.count) in
          let z : j - 0 ≡ j = omega arith in
          stays j l t.other (same_places j k l can.part (ap (part_place p) (sym z) ∙ t.place)
          ∙ ap w.place at)
        where
          part_place : Paces → ℕ → Control
          part_place p n = (part_of p n).place

      go : (k ≡ p.hind) ⊎ (k ≡ p.hind → ⊥) → IsLeast then.hind
      go (inl at) =
          subst
          (λ b. IsLeast (hind_after
          (cond b (twin_from 0 k (part_of p k).place p.parts) (Some p.hind)) then.parts))
          (sym (eq-eqb k p.hind at))
          (by (twin_from 0 k (part_of p k).place p.parts) refl at)
      go (inr off) =
          subst
          (λ b. IsLeast (hind_after
          (cond b (twin_from 0 k (part_of p k).place p.parts) (Some p.hind)) then.parts))
          (sym (ne_eqb k p.hind off))
          (stays p.hind sh.hind_part (λ e. off (sym e)) refl)

  stops : (o : Option ℕ) → StopsAt r w o → StopsAt r after o
  stops None e = e
  stops (Some j) e = (
    e.0,
    e.1 ∙ sym (other_place j
        (λ i. let b = can.before in let s = e.1 in let q : w.place j ≡ w.place k = ap w.place i in
        omega (arith, b, s, q))),
  )

  -- ---- works

  abbrev before : List Work
  before = works_before r oracle w.wrote

  work_here : work_there r oracle (w.place k) ≡ work
  work_here =
      ap (λ (c : Control). work_of (next_op r c) c.iteration)
      (sym (control_is tells r run oracle w p st sh k can.part))
      ∙ sym (work_is tells r run oracle w p st sh k can.part)

  works_next : works_before r oracle (suc (w.place k))
      ≡ works_before r oracle (w.place k) ++ option_to_list work
  works_next = ap (λ o. works_before r oracle (w.place k) ++ option_to_list o) work_here

  length_next : length (works_before r oracle (suc (w.place k)))
      ≡ length (works_before r oracle (w.place k)) + length (option_to_list work)
  length_next = ap length works_next
      ∙ length-append (works_before r oracle (w.place k)) (option_to_list work)

  length_all : length (works_before r oracle (w.place sh.foremost)) ≡ length before + length p.works
  length_all = ap length sh.works ∙ length-append before p.works

  few_handed : handed ≤ length p.works
  few_handed = omega (
    arith,
    sh.handed k can.part,
    length_all,
    length_upto r oracle (w.place k) (w.place sh.foremost) (sh.behind k can.part),
  )

  handed_stands : (j : ℕ) → j < parts_in r
      → length (works_before r oracle (after.place j)) ≡ length before + (part_of then j).handed
  handed_stands j l = go (cases_eq j k)
    where
      go : (j ≡ k) ⊎ (j ≡ k → ⊥)
          → length (works_before r oracle (after.place j)) ≡ length before + (part_of then j).handed
      go (inl e) =
          let a : length (works_before r oracle (after.place j))
          ≡ length (works_before r oracle (suc (w.place k))) =
          ap (λ n. length (works_before r oracle n)) (put_same w.place k (suc (w.place k)) j e)
          in
          let b : (part_of then j).handed ≡ handed_after work (length p.works) handed =
          ap (λ (s : Standing). s.handed) (ap (part_of then) e ∙ here_part) in
          omega (
            arith,
            a,
            b,
            length_next,
            sh.handed k can.part,
            handed_more work (length p.works) handed few_handed,
          )
      go (inr n) =
          ap (λ i. length (works_before r oracle i)) (other_place j n) ∙ sh.handed j l
          ∙ ap (λ (s : Standing). length before + s.handed) (sym (other_part j n))

  abbrev Shown : Type 0
  Shown = ShowsPace tells r oracle after then

  -- another part is ahead of it
  still_behind : w.place k < w.place sh.foremost → Shown
  still_behind ahead =
      let other : sh.foremost ≡ k
      → ⊥ = λ e. let q : w.place sh.foremost ≡ w.place k = ap w.place e in
      omega (arith, q, ahead) in
      let first = other_place sh.foremost other in
      record {
        cut = sh.cut;
        ops = sh.ops;
        lead = sh.lead;
        count = length-set p.parts k stand ∙ sh.count;
        parts = parts_stand;
        over = sh.over;
        stopped = stops p.stopped sh.stopped;
        hind_part = hind_is.part;
        hind_least = hind_is.least;
        foremost = sh.foremost;
        foremost_part = sh.foremost_part;
        behind = λ j l. by first j l (cases_eq j k);
        works = ap (works_before r oracle) first ∙ sh.works
            ∙ ap (λ ws. before ++ ws) (sym (works_same work p.works handed
            (λ some. omega (
              arith,
              some,
              sh.handed k can.part,
              length_all,
              length_next,
              length_upto r oracle (suc (w.place k)) (w.place sh.foremost) ahead,
            ))));
        handed = handed_stands;
      }
    where
      by : after.place sh.foremost ≡ w.place sh.foremost → (j : ℕ) → j < parts_in r
          → (j ≡ k) ⊎ (j ≡ k → ⊥) → after.place j ≤ after.place sh.foremost
      by first j l (inl e) = omega (arith, put_same w.place k (suc (w.place k)) j e, ahead, first)
      by first j l (inr n) = omega (arith, other_place j n, sh.behind j l, first)

  -- it is the foremost one
  foremost_now : w.place sh.foremost ≤ w.place k → Shown
  foremost_now past =
      let same : w.place k ≡ w.place sh.foremost = omega (arith, past, sh.behind k can.part) in
      let all = ap (λ n. length (works_before r oracle n)) same in
      record {
        cut = sh.cut;
        ops = sh.ops;
        lead = sh.lead;
        count = length-set p.parts k stand ∙ sh.count;
        parts = parts_stand;
        over = sh.over;
        stopped = stops p.stopped sh.stopped;
        hind_part = hind_is.part;
        hind_least = hind_is.least;
        foremost = k;
        foremost_part = can.part;
        behind = λ j l. by j l (cases_eq j k);
        works = ap (works_before r oracle) here_place ∙ works_next
            ∙ ap (λ ws. ws ++ option_to_list work) (ap (works_before r oracle) same ∙ sh.works)
            ∙ append_assoc before p.works (option_to_list work)
            ∙ ap (λ ws. before ++ ws)
            (sym (works_more work p.works handed
            (omega (arith, all, sh.handed k can.part, length_all))));
        handed = handed_stands;
      }
    where
      by : (j : ℕ) → j < parts_in r → (j ≡ k) ⊎ (j ≡ k → ⊥) → after.place j ≤ after.place k
      by j l (inl e) = omega (arith, ap after.place e)
      by j l (inr n) = omega (arith, other_place j n, here_place, sh.behind j l, past)

  pub shown_on : Shown
  shown_on = go (cases_lt (w.place k) (w.place sh.foremost))
    where
      go : (w.place k < w.place sh.foremost) ⊎ (w.place sh.foremost ≤ w.place k) → Shown
      go (inl l) = still_behind l
      go (inr l) = foremost_now l
