-- Where only one part stands elsewhere, the flags of all others stay as they were, but for those
-- that exchange faces with it.
use Rattle.std.proofs.Common.{◌≡◌, ℕ, zero, suc, ◌+◌, ◌-◌, ◌<◌, ◌≤◌, ◌⊎◌, inl, inr, Bool, false, not, ◌&&◌, ℤ, leb, ltb, cond, List, [], ◌∷◌, ◌++◌, length, map, get_or, set, take, Option, Some, None, refl, sym, ap, ◌∙◌, subst, arith, eq-eqb, length-append}
use Rattle.std.specs.Prelude.{slice_get, IsSome, IsTrue}
use Rattle.std.specs.List.{range_with_len}
use Rattle.std.proofs.lemmas.Bool.{both_ways, cases_eq, cases_lt, lt-ltb, le-ltb, ne_eqb}
use Rattle.std.proofs.lemmas.List.{length-set}
use Rattle.std.proofs.lemmas.List.FromFn.{fill_by_all, length-map-range_with_len, get_or-map-range_with_len}
use Rattle.cx_grid.specs.declared.shapes.Side.{Side}
use Rattle.cx_grid.specs.declared.shapes.Side.TheVariants.{Low, High}
use Rattle.cx_plan.specs.declared.variable.VarId.{VarId}
use Rattle.cx_plan.specs.Setups.{Setup}
use Rattle.cx_cut.specs.Cuts.{IsWhole, part_count}
use Rattle.cx_cut.specs.Exchange.{other}
use Rattle.cx_cut.specs.Neighbours.{partner}
use Rattle.cx_cut.proofs.NeighbourLaws.{neighbours}
use Rattle.cx_flat.specs.declared.op.Op.{Op}
use Rattle.cx_flat.specs.declared.op.Op.TheVariants as op
use Rattle.cx_flat.specs.Code.{op_at}
use Rattle.cx_flat.specs.Flats.{Control, is_halt}
use Rattle.cx_flat.specs.Ways.{key}
use Rattle.cx_core_events.specs.declared.standing.Standing.{Standing}
use Rattle.cx_core_events.specs.declared.standing.Work.{Work}
use Rattle.cx_core_events.specs.Paces.{Paces, no_part, part_of, op_of, iteration_of, is_less, are_in_order, is_before, twin_from, other_hind, hind_after}
use Rattle.cx_core_events.specs.Events.{is_ahead, goes_on, is_near, partner_at, waits_for, is_ready, work_of, is_room, has_room, can_go}
use Rattle.cx_core_events.specs.Steps.{handed_after, works_after, advanced, moved_on}
use Rattle.cx_core_events.specs.Flags.{IsAlone, IsRight, IsKept, IsAround}
use Rattle.cx_core_events.proofs.StandLaws.{get_there}
use Rattle.cx_core_events.proofs.TwinLaws.{twin_is}

-- ---- lists

abbrev or_none : Option Standing → Standing
or_none None = no_part
or_none (Some s) = s

part_by : (ss : List Standing) (j : ℕ) → get_or ss j no_part ≡ or_none (slice_get ss j)
part_by [] j = refl
part_by (s ∷ ss) zero = refl
part_by (s ∷ ss) (suc j) = part_by ss j

set_other : (ss : List Standing) (k j : ℕ) (s : Standing) → (j ≡ k → ⊥)
    → slice_get (set ss k s) j ≡ slice_get ss j
set_other [] k j s n = refl
set_other (t ∷ ss) zero zero s n = absurd (n refl)
set_other (t ∷ ss) zero (suc j) s n = refl
set_other (t ∷ ss) (suc k) zero s n = refl
set_other (t ∷ ss) (suc k) (suc j) s n = set_other ss k j s (λ e. n (ap suc e))

-- ---- one part stands elsewhere

module _ (p q : Paces) (k : ℕ) (a : IsAlone p q k) where
  part_same : (j : ℕ) → (j ≡ k → ⊥) → part_of q j ≡ part_of p j
  part_same j n = part_by q.parts j ∙ ap or_none (a.others j n) ∙ sym (part_by p.parts j)

  before_same : (i j : ℕ) → (i ≡ k → ⊥) → (j ≡ k → ⊥)
      → is_before q.parts i j ≡ is_before p.parts i j
  before_same i j m n = ap (λ x. are_in_order x (slice_get q.parts j)) (a.others i m)
      ∙ ap (are_in_order (slice_get p.parts i)) (a.others j n)

  op_same : (j : ℕ) → (j ≡ k → ⊥) → op_of q j ≡ op_of p j
  op_same j n = ap (λ os. op_at os (part_of q j).place.pc) a.ops
      ∙ ap (λ (s : Standing). op_at p.ops s.place.pc) (part_same j n)

  round_same : (j : ℕ) → (j ≡ k → ⊥) → iteration_of q j ≡ iteration_of p j
  round_same j n = ap (λ (s : Standing). s.place.iteration) (part_same j n)

  ahead_same : (j : ℕ) → (j ≡ k → ⊥) → is_ahead q.parts q.stopped j ≡ is_ahead p.parts p.stopped j
  ahead_same j n = ap (λ o. is_ahead q.parts o j) a.stopped ∙ go p.stopped a.not_stop
    where
      go : (o : Option ℕ) → (o ≡ Some k → ⊥) → is_ahead q.parts o j ≡ is_ahead p.parts o j
      go None m = refl
      go (Some i) m = before_same j i n (λ e. m (ap Some e))

  goes_same : (j : ℕ) → (j ≡ k → ⊥) → goes_on q j ≡ goes_on p j
  goes_same j n = ap (λ o. not (is_halt o) && is_ahead q.parts q.stopped j) (op_same j n)
      ∙ ap (λ b. not (is_halt (op_of p j)) && b) (ahead_same j n)

  near_same : (j : ℕ) → (j ≡ k → ⊥) → is_near q j ≡ is_near p j
  near_same j n =
      ap (λ i. leb i (q.lead + iteration_of q q.hind)) (round_same j n)
      ∙ ap (λ l. leb (iteration_of p j) (l + iteration_of q q.hind)) a.lead
      ∙ ap (λ i. leb (iteration_of p j) (p.lead + i)) a.round

  room_same : (j : ℕ) → (j ≡ k → ⊥) → has_room q j ≡ has_room p j
  room_same j n =
      ap (λ o. is_room (work_of o (iteration_of q j)) (take (part_of q j).handed q.works))
      (op_same j n)
      ∙ ap (λ (s : Standing).
      is_room (work_of (op_of p j) s.place.iteration) (take s.handed q.works)) (part_same j n)
      ∙ ap (λ ws. is_room (work_of (op_of p j) (iteration_of p j)) (take (part_of p j).handed ws))
      a.works

  -- what it waits for is the same, or it takes a face of part k
  abbrev Touches : ℕ → Type 0
  Touches j = (d : ℕ) × ((side : Side) × (partner_at q.cut j d side ≡ Some k))

  waits_cases : (j d : ℕ) (side : Side) → (j ≡ k → ⊥)
      → (waits_for q.parts (partner_at q.cut j d side) j
      ≡ waits_for p.parts (partner_at p.cut j d side) j) ⊎ Touches j
  waits_cases j d side n = go (partner_at q.cut j d side) refl
    where
      go : (o : Option ℕ) → partner_at q.cut j d side ≡ o
          → (waits_for q.parts (partner_at q.cut j d side) j
          ≡ waits_for p.parts (partner_at p.cut j d side) j) ⊎ Touches j
      go None e = inl (ap (λ o. waits_for q.parts o j) e
          ∙ sym (ap (λ o. waits_for p.parts o j) (ap (λ c. partner_at c j d side) (sym a.cut) ∙ e)))
      go (Some i) e = by (cases_eq i k)
        where
          by : (i ≡ k) ⊎ (i ≡ k → ⊥)
              → (waits_for q.parts (partner_at q.cut j d side) j
              ≡ waits_for p.parts (partner_at p.cut j d side) j) ⊎ Touches j
          by (inl at) = inr (d, (side, e ∙ ap Some at))
          by (inr off) =
              inl (ap (λ o. waits_for q.parts o j) e ∙ before_same i j off n
              ∙ sym (ap (λ o. waits_for p.parts o j)
              (ap (λ c. partner_at c j d side) (sym a.cut) ∙ e)))

  ready_cases : (j : ℕ) (o : Op) → (j ≡ k → ⊥) → (is_ready q j o ≡ is_ready p j o) ⊎ Touches j
  ready_cases j (op.Sweep i) n = inl refl
  ready_cases j (op.Apply i) n = inl refl
  ready_cases j (op.Give i) n = inl refl
  ready_cases j (op.Join i) n =
      inl (ap not (a.hind (slice_get q.parts j)
      ∙ ap (are_in_order (slice_get p.parts p.hind)) (a.others j n)))
  ready_cases j (op.Post d vars) n = inl refl
  ready_cases j (op.Take d vars path) n = go (waits_cases j d Low n) (waits_cases j d High n)
    where
      go : (waits_for q.parts (partner_at q.cut j d Low) j
          ≡ waits_for p.parts (partner_at p.cut j d Low) j) ⊎ Touches j
          → (waits_for q.parts (partner_at q.cut j d High) j
          ≡ waits_for p.parts (partner_at p.cut j d High) j) ⊎ Touches j
          → (is_ready q j (op.Take d vars path) ≡ is_ready p j (op.Take d vars path)) ⊎ Touches j
      go (inr t) y = inr t
      go (inl x) (inr t) = inr t
      go (inl x) (inl y) =
          inl (ap (λ b. not b && not (waits_for q.parts (partner_at q.cut j d High) j)) x
          ∙ ap (λ b. not (waits_for p.parts (partner_at p.cut j d Low) j) && not b) y)
  ready_cases j (op.Test v path skip) n = inl refl
  ready_cases j op.Open n = inl refl
  ready_cases j (op.Turn v path skip) n = inl refl
  ready_cases j (op.Again back) n = inl refl
  ready_cases j op.Rotate n = inl refl
  ready_cases j (op.Due skip) n = inl refl
  ready_cases j (op.Written skip) n = inl refl
  ready_cases j (op.Skip skip) n = inl refl
  ready_cases j (op.Next back) n = inl refl
  ready_cases j (op.Piece v) n = inl refl
  ready_cases j op.Save n = inl refl
  ready_cases j op.Halt n = inl refl

  pub can_cases : (j : ℕ) → (j ≡ k → ⊥) → (can_go q j ≡ can_go p j) ⊎ Touches j
  can_cases j n = go (ready_cases j (op_of p j) n)
    where
      go : (is_ready q j (op_of p j) ≡ is_ready p j (op_of p j)) ⊎ Touches j
          → (can_go q j ≡ can_go p j) ⊎ Touches j
      go (inr t) = inr t
      go (inl e) =
          inl (ap (λ b. not b && goes_on q j && is_near q j && is_ready q j (op_of q j)
          && has_room q j) a.over
          ∙ ap (λ b. not p.over && b && is_near q j && is_ready q j (op_of q j) && has_room q j)
          (goes_same j n)
          ∙ ap (λ b. not p.over && goes_on p j && b && is_ready q j (op_of q j) && has_room q j)
          (near_same j n)
          ∙ ap (λ b. not p.over && goes_on p j && is_near p j && b && has_room q j)
          (ap (is_ready q j) (op_same j n) ∙ e)
          ∙ ap (λ b. not p.over && goes_on p j && is_near p j && is_ready p j (op_of p j) && b)
          (room_same j n))

-- ---- all flags

below_three : (d : ℕ) (o : Option ℕ) (k : ℕ) → cond (ltb d 3) o None ≡ Some k
    → (d < 3) × (o ≡ Some k)
below_three d o k e = go (cases_lt d 3)
  where
    some_none : (x : ℕ) → None ≡ Some x → ⊥
    some_none x e = cc

    go : (d < 3) ⊎ (3 ≤ d) → (d < 3) × (o ≡ Some k)
    go (inl l) = (l, sym (ap (λ b. cond b o None) (lt-ltb d 3 l)) ∙ e)
    go (inr l) = absurd (some_none k (sym (ap (λ b. cond b o None) (le-ltb d 3 l)) ∙ e))

pub flags_around : (p q : Paces) (k : ℕ) (old mid new : List Bool) → IsWhole q.cut
    → length q.parts ≡ part_count q.cut → k < length q.parts → IsAlone p q k
    → old ≡ map (can_go p) (range_with_len 0 (length p.parts)) → IsKept q old mid
    → (k < length old → IsRight q mid k) → IsAround q k mid new
    → new ≡ map (can_go q) (range_with_len 0 (length q.parts))
flags_around p q k old mid new whole count part a was kept now around =
    fill_by_all (can_go q) new (length q.parts) false
    (around.keeps.count ∙ kept.count ∙ size ∙ sym a.count) (λ j l. right j l (cases_eq j k))
  where
    size : length old ≡ length p.parts
    size = ap length was ∙ length-map-range_with_len (can_go p) 0 (length p.parts)

    old_right : (j : ℕ) → j < length q.parts → can_go q j ≡ can_go p j → IsRight q old j
    old_right j l e =
        ap (λ xs. get_or xs j false) was
        ∙ get_or-map-range_with_len (can_go p) 0 (length p.parts) j j false
        (let c = a.count in omega (arith, l, c)) (omega arith) ∙ sym e

    right : (j : ℕ) → j < length q.parts → (j ≡ k) ⊎ (j ≡ k → ⊥) → IsRight q new j
    right j l (inl e) = subst (IsRight q new) (sym e)
        (around.keeps.kept k (now (let c = a.count in omega (arith, part, c, size))))
    right j l (inr n) = go (can_cases p q k a j n)
      where
        go : (can_go q j ≡ can_go p j)
            ⊎ ((d : ℕ) × ((side : Side) × (partner_at q.cut j d side ≡ Some k))) → IsRight q new j
        go (inl e) = around.keeps.kept j (kept.kept j (old_right j l e))
        go (inr t) =
            let d = t.0 in
            let side = t.1.0 in
            let there = below_three d (partner q.cut j d side) k t.1.1 in
            let back = (neighbours q.cut whole.cut whole.shape).back j d side k
            (omega (arith, l, count)) there.0 there.1 in
            around.around d (other side) j
            (ap (λ b. cond b (partner q.cut k d (other side)) None) (lt-ltb d 3 there.0) ∙ back)
            (let c = a.count in omega (arith, l, c, size, kept.count))

-- ---- one operation leaves it so

works_alone : (work : Option Work) (works : List Work) (handed : ℕ)
    → length (works_after work works handed) ≡ length works → works_after work works handed ≡ works
works_alone None works handed e = refl
works_alone (Some x) works handed e = go (cases_lt handed (length works))
  where
    go : (handed < length works) ⊎ (length works ≤ handed)
        → cond (ltb handed (length works)) works (works ++ x ∷ []) ≡ works
    go (inl l) = ap (λ b. cond b works (works ++ x ∷ [])) (lt-ltb handed (length works) l)
    go (inr l) =
        absurd
        (omega (
          arith,
          ap (λ b. length (cond b works (works ++ x ∷ [])))
              (sym (le-ltb handed (length works) l)) ∙ e,
          length-append works (x ∷ []),
        ))

same_order : (a b : Standing) (s : Option Standing) → a.place ≡ b.place
    → are_in_order (Some a) s ≡ are_in_order (Some b) s
same_order a b None e = refl
same_order a b (Some c) e = ap (λ x. is_less (key x) (key c.place)) e

pub alone_moved : (setup : Setup) (p : Paces) (k : ℕ) (scalars : VarId → ℤ) (j : ℕ)
    → k < length p.parts → other_hind p k ≡ Some j
    → length (moved_on setup p k scalars).works ≡ length p.works → (p.stopped ≡ Some k → ⊥)
    → IsAlone p (moved_on setup p k scalars) k
alone_moved setup p k scalars j part known works stop = record {
  cut = refl;
  ops = refl;
  lead = refl;
  works = works_alone (work_of (op_of p k) (iteration_of p k)) p.works (part_of p k).handed works;
  over = refl;
  stopped = refl;
  not_stop = stop;
  count = length-set p.parts k stand;
  others = λ i n. set_other p.parts k i stand n;
  hind = λ s. ap (λ h. are_in_order (slice_get (moved_on setup p k scalars).parts h) s) hind_is
      ∙ (places (cases_eq k p.hind)).0 s;
  round = ap (iteration_of (moved_on setup p k scalars)) hind_is ∙ (places (cases_eq k p.hind)).1;
}
  where
    stand : Standing
    stand = advanced setup (op_of p k) scalars
        (handed_after (work_of (op_of p k) (iteration_of p k)) (length p.works)
        (part_of p k).handed) (part_of p k)

    hind_is : (moved_on setup p k scalars).hind ≡ j
    hind_is = ap (λ o. hind_after o (moved_on setup p k scalars).parts) known

    same_some : (x y : ℕ) → Some x ≡ Some y → x ≡ y
    same_some x y e = cc

    -- another part's standing
    kept : (i : ℕ) → (i ≡ k → ⊥) → get_or (set p.parts k stand) i no_part ≡ part_of p i
    kept i n = part_by (set p.parts k stand) i ∙ ap or_none (set_other p.parts k i stand n)
        ∙ sym (part_by p.parts i)

    places : (k ≡ p.hind) ⊎ (k ≡ p.hind → ⊥)
        → ((s : Option Standing)
        → are_in_order (slice_get (set p.parts k stand) j) s
        ≡ are_in_order (slice_get p.parts p.hind) s)
        × ((get_or (set p.parts k stand) j no_part).place.iteration ≡ iteration_of p p.hind)
    places (inl at) =
        let twin =
        sym (ap (λ b. cond b (twin_from 0 k (part_of p k).place p.parts) (Some p.hind))
        (eq-eqb k p.hind at)) ∙ known in
        let t = twin_is p.parts 0 k (part_of p k).place j twin in
        let l : j < length p.parts = let i = t.inside in omega (arith, i) in
        let z : j - 0 ≡ j = omega arith in
        let same : (part_of p j).place ≡ (part_of p k).place =
        ap (λ i. (get_or p.parts i no_part).place) (sym z) ∙ t.place in (
          (λ s. ap (λ x. are_in_order x s)
              (set_other p.parts k j stand t.other ∙ get_there p.parts j l)
              ∙ same_order (part_of p j) (part_of p k) s same
              ∙ sym (ap (λ x. are_in_order x s)
              (ap (slice_get p.parts) (sym at) ∙ get_there p.parts k part))),
          ap (λ (s : Standing). s.place.iteration) (kept j t.other)
              ∙ ap (λ (c : Control). c.iteration) same ∙ ap (iteration_of p) at,
        )
    places (inr off) =
        let is : p.hind ≡ j = same_some p.hind j
        (sym (ap (λ b. cond b (twin_from 0 k (part_of p k).place p.parts) (Some p.hind))
        (ne_eqb k p.hind off)) ∙ known) in
        let n : j ≡ k → ⊥ = λ e. off (sym (is ∙ e)) in (
          (λ s. ap (λ x. are_in_order x s)
              (set_other p.parts k j stand n ∙ ap (slice_get p.parts) (sym is))),
          ap (λ (s : Standing). s.place.iteration) (kept j n) ∙ ap (iteration_of p) (sym is),
        )

pub alone_by : (setup : Setup) (p q : Paces) (k : ℕ) (scalars : VarId → ℤ) (o : Option ℕ)
    (stop : Bool) → k < length p.parts → o ≡ other_hind p k → IsSome o
    → q ≡ moved_on setup p k scalars → length q.works ≡ length p.works
    → (p.stopped ≡ Some k → IsTrue stop) → stop ≡ false → IsAlone p q k
alone_by setup p q k scalars None stop part known some new works met not_met = absurd cc
alone_by setup p q k scalars (Some j) stop part known some new works met not_met =
    subst (λ x. IsAlone p x k) (sym new)
    (alone_moved setup p k scalars j part (sym known)
    (ap (λ (x : Paces). length x.works) (sym new) ∙ works)
    (λ e. both_ways stop not_met (met e)))
