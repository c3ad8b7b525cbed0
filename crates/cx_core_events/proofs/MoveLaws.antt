-- A part can go exactly where the places say so: all but its buffer.
use Rattle.std.proofs.Common.{◌≡◌, ℕ, ◌+◌, ◌<◌, ◌≤◌, ◌⊎◌, inl, inr, Bool, true, false, not, ◌&&◌, ltb, cond, List, Option, Some, None, refl, sym, ap, ◌∙◌, subst, arith, eq-eqb}
use Rattle.std.proofs.lemmas.Bool.{cases_lt, both_ways, ltb-true, lt-ltb, ltb-false, le-ltb, leb-true, le-leb, eqb-true, and_parts, and_from, not_from_false}
use Rattle.cx_grid.specs.declared.shapes.Side.{Side}
use Rattle.cx_grid.specs.declared.shapes.Side.TheVariants.{Low, High}
use Rattle.cx_plan.specs.declared.variable.VarId.{VarId}
use Rattle.cx_cut.specs.Cuts.{Parts}
use Rattle.cx_cut.specs.Neighbours.{partner}
use Rattle.cx_flat.specs.declared.op.Op.{Op}
use Rattle.cx_flat.specs.declared.op.Op.TheVariants as op
use Rattle.cx_flat.specs.Flats.{is_halt}
use Rattle.cx_flat.specs.Ways.{is_receiving}
use Rattle.law_parts.specs.Laws.{IsReachedState}
use Rattle.law_parts.specs.Moves.{Channel, Wire, Board, sender, receiver, is_there, takes_from, op_wants}
use Rattle.law_parts.specs.Nets.{round, within_lead}
use Rattle.law_parts.specs.Operations.{NamesWell}
use Rattle.law_parts.specs.Runs.{Run, Oracle, cut_of, parts_in, guided, halts, last_of}
use Rattle.law_parts.proofs.ListLaws.{not_true}
use Rattle.law_parts.proofs.NetWays.{rounds_rise}
use Rattle.law_parts.proofs.Ways.{wants_none, within_most, halted}
use Rattle.law_parts.proofs.WholeRun.{IsRun, shape, law}
use Rattle.cx_core_events.specs.Paces.{Paces, op_of, iteration_of, is_before}
use Rattle.cx_core_events.specs.Events.{is_ahead, goes_on, is_near, partner_at, waits_for, is_ready}
use Rattle.cx_core_events.specs.Shows.{State, ShowsPace, StopsAt}
use Rattle.cx_core_events.proofs.StandLaws.{ends, control_is, op_is, before_is, hind_part, hind_least}
use Rattle.cx_plan.specs.Lists.{is_at}

is_at_some : (o : Option ℕ) (a : ℕ) → is_at o a ≡ true → o ≡ Some a
is_at_some None a e = absurd cc
is_at_some (Some j) a e = ap Some (eqb-true j a e)

some_at : (o : Option ℕ) (a : ℕ) → o ≡ Some a → is_at o a ≡ true
some_at o a e = ap (λ x. is_at x a) e ∙ eq-eqb a a refl

pub cond_some : (b : Bool) (n : ℕ) → 0 < cond b n 0 → (b ≡ true) × (0 < n)
cond_some true n l = (refl, l)
cond_some false n l = absurd (omega (arith, l))

some_cond : (b : Bool) (n : ℕ) → b ≡ true → 0 < n → 0 < cond b n 0
some_cond true n e l = l
some_cond false n e l = absurd cc

either_one : (a b : Bool) → 0 < cond a 1 0 + cond b 1 0 → (a ≡ true) ⊎ (b ≡ true)
either_one true b l = inl refl
either_one false true l = inr refl
either_one false false l = absurd (omega (arith, l))

first_one : (a b : Bool) → a ≡ true → 0 < cond a 1 0 + cond b 1 0
first_one true b e = omega arith
first_one false b e = absurd cc

second_one : (a b : Bool) → b ≡ true → 0 < cond a 1 0 + cond b 1 0
second_one a true e = omega arith
second_one a false e = absurd cc

module _ (tells : Type 0) (r : Run) (run : IsRun r) (oracle : Oracle) (w : State tells) (p : Paces)
    (st : IsReachedState tells r oracle w) (sh : ShowsPace tells r oracle w p) where
  pub halts_is : (k : ℕ) → k < parts_in r → is_halt (op_of p k) ≡ halts r (w.held k).control
  halts_is k l = ap is_halt (op_is tells r run oracle w p st sh k l)

  -- a part that has not come to the last operation stands before it
  pub inside : (k : ℕ) → k < parts_in r → halts r (w.held k).control ≡ false
      → w.place k < last_of r oracle
  inside k l e = go (cases_lt (w.place k) (last_of r oracle))
    where
      go : (w.place k < last_of r oracle) ⊎ (last_of r oracle ≤ w.place k)
          → w.place k < last_of r oracle
      go (inl i) = i
      go (inr i) =
          let at : w.place k ≡ last_of r oracle = omega (arith, i, st.woven.within k l) in
          absurd (both_ways (halts r (w.held k).control) e
          (ap (halts r) (control_is tells r run oracle w p st sh k l)
          ∙ ap (λ n. halts r (guided r oracle n).control) at
          ∙ halted r oracle (ends tells r run oracle w p st sh)))

  pub ahead_is : (k : ℕ) → k < parts_in r → w.place k < last_of r oracle
      → is_ahead p.parts p.stopped k ≡ ltb (w.place k) w.stop
  ahead_is k l i = go p.stopped sh.stopped
    where
      go : (o : Option ℕ) → StopsAt r w o → is_ahead p.parts o k ≡ ltb (w.place k) w.stop
      go None h =
          sym (lt-ltb (w.place k) w.stop
          (omega (arith, i, h, within_most r oracle (ends tells r run oracle w p st sh))))
      go (Some j) h = before_is tells r run oracle w p st sh k j l h.0
          ∙ ap (ltb (w.place k)) (sym h.1)

  pub goes_true : (k : ℕ) → k < parts_in r → goes_on p k ≡ true
      → (halts r (w.held k).control ≡ false) × (w.place k < w.stop)
  goes_true k l e =
      let both = and_parts (not (is_halt (op_of p k))) (is_ahead p.parts p.stopped k) e in
      let going = sym (halts_is k l) ∙ not_true (is_halt (op_of p k)) both.0 in
      (going, ltb-true (w.place k) w.stop (sym (ahead_is k l (inside k l going)) ∙ both.1))

  pub true_goes : (k : ℕ) → k < parts_in r → halts r (w.held k).control ≡ false → w.place k < w.stop
      → goes_on p k ≡ true
  true_goes k l e b =
      and_from (not (is_halt (op_of p k))) (is_ahead p.parts p.stopped k)
      (not_from_false (is_halt (op_of p k)) (halts_is k l ∙ e))
      (ahead_is k l (inside k l e) ∙ lt-ltb (w.place k) w.stop b)

  iteration_is : (k : ℕ) → k < parts_in r → iteration_of p k ≡ round (w.held k).control
  iteration_is k l = ap round (sh.parts k l).place

  pub near_true : (k : ℕ) → k < parts_in r → is_near p k ≡ true
      → within_lead r oracle w.place (λ j. (w.held j).control) w.wrote k
  near_true k l e = λ j m.
      let h = p.hind in
      let hp = hind_part tells r run oracle w p st sh in
      let a : iteration_of p k ≤ p.lead + iteration_of p h =
      leb-true (iteration_of p k) (p.lead + iteration_of p h) e in
      let b = rounds_rise tells within_lead r oracle (ends tells r run oracle w p st sh) (w.place h)
      (w.place j) (hind_least tells r run oracle w p st sh j m) in
      omega (
        arith,
        a,
        b,
        sh.lead,
        iteration_is k l,
        iteration_is h hp,
        ap round (control_is tells r run oracle w p st sh h hp),
        ap round (control_is tells r run oracle w p st sh j m),
      )

  pub true_near : (k : ℕ) → k < parts_in r
      → within_lead r oracle w.place (λ j. (w.held j).control) w.wrote k → is_near p k ≡ true
  true_near k l near =
      let h = p.hind in
      let hp = hind_part tells r run oracle w p st sh in
      le-leb (iteration_of p k) (p.lead + iteration_of p h)
      (omega (arith, near h hp, sh.lead, iteration_is k l, iteration_is h hp))

  -- ---- what is taken

  abbrev Ready : ℕ → Op → Type 0
  Ready k o = (c : Channel) → receiver c ≡ k → 0 < cond (is_there r c) (op_wants r o c) 0
      → w.place k ≤ w.place (sender c)

  quiet : (k : ℕ) (o : Op) → is_receiving o ≡ false → Ready k o
  quiet k o e = λ c is h. let some = (cond_some (is_there r c) (op_wants r o c) h).1 in
      absurd (omega (arith, some, wants_none r o c e))

  there : (a b : ℕ) → (ltb a (parts_in r) && ltb b (parts_in r)) ≡ true → a < parts_in r
  there a b e = ltb-true a (parts_in r) (and_parts (ltb a (parts_in r)) (ltb b (parts_in r)) e).0

  both_there : (a b : ℕ) → a < parts_in r → b < parts_in r
      → (ltb a (parts_in r) && ltb b (parts_in r)) ≡ true
  both_there a b l m = and_from (ltb a (parts_in r)) (ltb b (parts_in r)) (lt-ltb a (parts_in r) l)
      (lt-ltb b (parts_in r) m)

  not_before : (j k : ℕ) → j < parts_in r → k < parts_in r → not (is_before p.parts j k) ≡ true
      → w.place k ≤ w.place j
  not_before j k a b e = ltb-false (w.place j) (w.place k)
      (sym (before_is tells r run oracle w p st sh j k a b) ∙ not_true (is_before p.parts j k) e)

  before_not : (j k : ℕ) → j < parts_in r → k < parts_in r → w.place k ≤ w.place j
      → not (is_before p.parts j k) ≡ true
  before_not j k a b l = not_from_false (is_before p.parts j k)
      (before_is tells r run oracle w p st sh j k a b ∙ le-ltb (w.place j) (w.place k) l)

  partner_is : (k d : ℕ) (side : Side) → d < 3
      → partner_at p.cut k d side ≡ partner (cut_of r) k d side
  partner_is k d side l = ap (λ b. cond b (partner p.cut k d side) None) (lt-ltb d 3 l)
      ∙ ap (λ (c : Parts). partner c k d side) sh.cut

  below_three : (d : ℕ) → d < r.setup.shape.dims → d < 3
  below_three d l = let most = (shape r run).most in omega (arith, l, most)

  -- a side's sender
  side_true : (k d a : ℕ) (side : Side) → k < parts_in r → a < parts_in r → d < 3
      → is_at (partner (cut_of r) k d side) a ≡ true
      → not (waits_for p.parts (partner_at p.cut k d side) k) ≡ true → w.place k ≤ w.place a
  side_true k d a side l m below is e =
      not_before a k m l
      (ap (λ o. not (waits_for p.parts o k))
      (sym (partner_is k d side below ∙ is_at_some (partner (cut_of r) k d side) a is)) ∙ e)

  true_side : (k d : ℕ) (side : Side) → k < parts_in r → d < 3
      → ((j : ℕ) → j < parts_in r → partner (cut_of r) k d side ≡ Some j → w.place k ≤ w.place j)
      → not (waits_for p.parts (partner_at p.cut k d side) k) ≡ true
  true_side k d side l below h =
      ap (λ o. not (waits_for p.parts o k)) (partner_is k d side below)
      ∙ go (partner (cut_of r) k d side) refl
    where
      go : (o : Option ℕ) → partner (cut_of r) k d side ≡ o → not (waits_for p.parts o k) ≡ true
      go None e = refl
      go (Some j) e = let m = (law r run).there k d side j l below e in before_not j k m l (h j m e)

  take_true : (k d : ℕ) (vars : List VarId) (path : List ℕ) → k < parts_in r → d < 3
      → is_ready p k (op.Take d vars path) ≡ true → Ready k (op.Take d vars path)
  take_true k d vars path l below e (Board a b) is h = let none =
      (cond_some (is_there r (Board a b)) 0 h).1 in absurd (omega (arith, none))
  take_true k d vars path l below e (Wire a b) is h =
      let some = cond_some (is_there r (Wire a b)) (takes_from r b d a) h in
      let m = there a b some.0 in
      let both = and_parts (not (waits_for p.parts (partner_at p.cut k d Low) k))
      (not (waits_for p.parts (partner_at p.cut k d High) k)) e in
      go m both.0 both.1 (either_one (is_at (partner (cut_of r) b d High) a)
      (is_at (partner (cut_of r) b d Low) a) some.1)
    where
      go : a < parts_in r → not (waits_for p.parts (partner_at p.cut k d Low) k) ≡ true
          → not (waits_for p.parts (partner_at p.cut k d High) k) ≡ true
          → (is_at (partner (cut_of r) b d High) a ≡ true)
          ⊎ (is_at (partner (cut_of r) b d Low) a ≡ true) → w.place k ≤ w.place a
      go m low high (inl x) =
          side_true k d a High l m below
          (subst (λ n. is_at (partner (cut_of r) n d High) a ≡ true) is x) high
      go m low high (inr x) =
          side_true k d a Low l m below
          (subst (λ n. is_at (partner (cut_of r) n d Low) a ≡ true) is x) low

  true_take : (k d : ℕ) (vars : List VarId) (path : List ℕ) → k < parts_in r → d < 3
      → Ready k (op.Take d vars path) → is_ready p k (op.Take d vars path) ≡ true
  true_take k d vars path l below ready =
      and_from (not (waits_for p.parts (partner_at p.cut k d Low) k))
      (not (waits_for p.parts (partner_at p.cut k d High) k))
      (true_side k d Low l below
      (λ j m e. ready (Wire j k) refl
      (some_cond (is_there r (Wire j k)) (takes_from r k d j) (both_there j k m l)
      (second_one (is_at (partner (cut_of r) k d High) j) (is_at (partner (cut_of r) k d Low) j)
      (some_at (partner (cut_of r) k d Low) j e)))))
      (true_side k d High l below
      (λ j m e. ready (Wire j k) refl
      (some_cond (is_there r (Wire j k)) (takes_from r k d j) (both_there j k m l)
      (first_one (is_at (partner (cut_of r) k d High) j) (is_at (partner (cut_of r) k d Low) j)
      (some_at (partner (cut_of r) k d High) j e)))))

  join_true : (k i : ℕ) → k < parts_in r → is_ready p k (op.Join i) ≡ true → Ready k (op.Join i)
  join_true k i l e (Wire a b) is h = let none = (cond_some (is_there r (Wire a b)) 0 h).1 in
      absurd (omega (arith, none))
  join_true k i l e (Board a b) is h =
      let m = there a b (cond_some (is_there r (Board a b)) 1 h).0 in
      let x = p.hind in
      omega (
        arith,
        not_before x k (hind_part tells r run oracle w p st sh) l e,
        hind_least tells r run oracle w p st sh a m,
      )

  true_join : (k i : ℕ) → k < parts_in r → Ready k (op.Join i) → is_ready p k (op.Join i) ≡ true
  true_join k i l ready =
      let x = p.hind in
      let m = hind_part tells r run oracle w p st sh in
      before_not x k m l (ready (Board x k) refl
      (some_cond (is_there r (Board x k)) 1 (both_there x k m l) (omega arith)))

  pub ready_true : (k : ℕ) (o : Op) → k < parts_in r → NamesWell r.setup o → is_ready p k o ≡ true
      → Ready k o
  ready_true k (op.Sweep i) l names e = quiet k (op.Sweep i) refl
  ready_true k (op.Apply i) l names e = quiet k (op.Apply i) refl
  ready_true k (op.Give i) l names e = quiet k (op.Give i) refl
  ready_true k (op.Join i) l names e = join_true k i l e
  ready_true k (op.Post d vars) l names e = quiet k (op.Post d vars) refl
  ready_true k (op.Take d vars path) l names e =
      take_true k d vars path l (below_three d names.direction) e
  ready_true k (op.Test v path skip) l names e = quiet k (op.Test v path skip) refl
  ready_true k op.Open l names e = quiet k op.Open refl
  ready_true k (op.Turn v path skip) l names e = quiet k (op.Turn v path skip) refl
  ready_true k (op.Again back) l names e = quiet k (op.Again back) refl
  ready_true k op.Rotate l names e = quiet k op.Rotate refl
  ready_true k (op.Due skip) l names e = quiet k (op.Due skip) refl
  ready_true k (op.Written skip) l names e = quiet k (op.Written skip) refl
  ready_true k (op.Skip skip) l names e = quiet k (op.Skip skip) refl
  ready_true k (op.Next back) l names e = quiet k (op.Next back) refl
  ready_true k (op.Piece v) l names e = quiet k (op.Piece v) refl
  ready_true k op.Save l names e = quiet k op.Save refl
  ready_true k op.Halt l names e = quiet k op.Halt refl

  pub true_ready : (k : ℕ) (o : Op) → k < parts_in r → NamesWell r.setup o → Ready k o
      → is_ready p k o ≡ true
  true_ready k (op.Sweep i) l names h = refl
  true_ready k (op.Apply i) l names h = refl
  true_ready k (op.Give i) l names h = refl
  true_ready k (op.Join i) l names h = true_join k i l h
  true_ready k (op.Post d vars) l names h = refl
  true_ready k (op.Take d vars path) l names h =
      true_take k d vars path l (below_three d names.direction) h
  true_ready k (op.Test v path skip) l names h = refl
  true_ready k op.Open l names h = refl
  true_ready k (op.Turn v path skip) l names h = refl
  true_ready k (op.Again back) l names h = refl
  true_ready k op.Rotate l names h = refl
  true_ready k (op.Due skip) l names h = refl
  true_ready k (op.Written skip) l names h = refl
  true_ready k (op.Skip skip) l names h = refl
  true_ready k (op.Next back) l names h = refl
  true_ready k (op.Piece v) l names h = refl
  true_ready k op.Save l names h = refl
  true_ready k op.Halt l names h = refl
