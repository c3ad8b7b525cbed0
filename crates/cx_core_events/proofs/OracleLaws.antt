-- A part's operation leads to a state that is reached and shown, by an oracle that foretells what
-- the part will give next. The state is reached by the same reasoning as the law that each event
-- keeps what holds; here that oracle is also known to leave the way as it was up to all places at
-- which parts stand.
use Rattle.std.proofs.Common.{◌≡◌, ℕ, zero, suc, ◌<◌, ◌≤◌, ◌⊎◌, inl, inr, true, eqb, ltb, ◌++◌, [], length, ℤ, Some, refl, sym, ap, ◌∙◌, subst, arith, cond, eq-eqb}
use Rattle.std.specs.Option.{option_to_list}
use Rattle.std.proofs.lemmas.Bool.{cases_eq, ne_eqb, and_from, lt-ltb}
use Rattle.cx_flat.specs.declared.op.Op.{Op}
use Rattle.cx_flat.specs.declared.op.Op.TheVariants as op
use Rattle.cx_flat.specs.Ways.{WayEnds}
use Rattle.cx_model.specs.Turns.{values_of}
use Rattle.law_network.specs.Machine.{Part, CanMove, taken_now}
use Rattle.law_network.specs.Agreement.{Fits, Woven}
use Rattle.law_network.proofs.Prefix.{not_taken}
use Rattle.law_network.proofs.Put.{put_same, put_other}
use Rattle.law_network.proofs.Runs as runs
use Rattle.law_network.proofs.Steps.{move_kept}
use Rattle.law_parts.specs.Holding.{Held}
use Rattle.law_parts.specs.Laws.{IsOracle, IsReachedState}
use Rattle.law_parts.specs.Moves.{Board, is_there, number_by, buffer_of, held_values, op_posts, faces_by, Moves}
use Rattle.law_parts.specs.Nets.{net, within_lead}
use Rattle.law_parts.specs.Runs.{Run, Oracle, parts_in, next_op, guided, undivided}
use Rattle.law_parts.specs.Truths.{truth, script, mail_at, Stands, Agrees, gives_by, GivesAt, Books}
use Rattle.law_parts.proofs.FaultLaws.{told_ends}
use Rattle.law_parts.proofs.FitLaws.{lead_fits}
use Rattle.law_parts.proofs.Foretelling.{guided_same, control_same, woven_other}
use Rattle.law_parts.proofs.StepLaws.{ended_other}
use Rattle.law_parts.proofs.ToldLaws.{true_gift}
use Rattle.law_parts.proofs.Ways.{scalars_at, op_there}
use Rattle.law_parts.proofs.WholeRun.{IsRun}
use Rattle.cx_core_events.specs.Paces.{Paces}
use Rattle.cx_core_events.specs.Events.{work_of}
use Rattle.cx_core_events.specs.Shows.{State, ShowsPace, work_there, works_before, SameWay}
use Rattle.cx_core_events.proofs.OperationLaws.{after, then, shown_on}
use Rattle.cx_core_events.proofs.OperationLaws as operation

-- ---- another oracle with the same way up to all parts

works_other : (r : Run) (o other : Oracle) (n : ℕ)
    → ((m : ℕ) → m < n → (guided r other m).control ≡ (guided r o m).control)
    → works_before r other n ≡ works_before r o n
works_other r o other zero h = refl
works_other r o other (suc n) h =
    ap (λ xs. xs ++ option_to_list (work_there r other n))
    (works_other r o other n (λ m l. h m (omega (arith, l))))
    ∙ ap (λ c. works_before r o n ++ option_to_list (work_of (next_op r c) c.iteration))
    (h n (omega arith))

pub shown_other : (tells : Type 0) (r : Run) (o other : Oracle) (w : State tells) (p : Paces)
    → ShowsPace tells r o w p
    → ((k : ℕ) → k < parts_in r → w.wrote ≤ w.place k)
    → ((k m : ℕ) → k < parts_in r → m < w.place k
    → (guided r other m).control ≡ (guided r o m).control) → ShowsPace tells r other w p
shown_other tells r o other w p sh behind same =
    let wrote = works_other r o other w.wrote
    (λ m l. same sh.foremost m sh.foremost_part
    (omega (arith, l, behind sh.foremost sh.foremost_part))) in
    record {
      cut = sh.cut;
      ops = sh.ops;
      lead = sh.lead;
      count = sh.count;
      parts = sh.parts;
      over = sh.over;
      stopped = sh.stopped;
      hind_part = sh.hind_part;
      hind_least = sh.hind_least;
      foremost = sh.foremost;
      foremost_part = sh.foremost_part;
      behind = sh.behind;
      works = works_other r o other (w.place sh.foremost)
          (λ m l. same sh.foremost m sh.foremost_part l) ∙ sh.works
          ∙ ap (λ xs. xs ++ p.works) (sym wrote);
      handed = λ k l. omega (
        arith,
        sh.handed k l,
        ap length wrote,
        ap length (works_other r o other (w.place k) (λ m h. same k m l h)),
      );
    }

-- ---- what is foretold

-- an oracle with another number at one place
abbrev foretold : Oracle → ℕ → ℕ → ℤ → Oracle
foretold o k p number j n = cond (eqb j k) (cond (eqb n p) number (o j n)) (o j n)

foretold_here : (o : Oracle) (k p : ℕ) (number : ℤ) → foretold o k p number k p ≡ number
foretold_here o k p number =
    ap (λ b. cond b (cond (eqb p p) number (o k p)) (o k p)) (eq-eqb k k refl)
    ∙ ap (λ b. cond b number (o k p)) (eq-eqb p p refl)

foretold_else : (o : Oracle) (k p : ℕ) (number : ℤ) (j n : ℕ) → (j ≡ k → n ≡ p → ⊥)
    → foretold o k p number j n ≡ o j n
foretold_else o k p number j n out = go (cases_eq j k) (cases_eq n p)
  where
    go : (j ≡ k) ⊎ (j ≡ k → ⊥) → (n ≡ p) ⊎ (n ≡ p → ⊥) → foretold o k p number j n ≡ o j n
    go (inl e) (inl f) = absurd (out e f)
    go (inl e) (inr f) = ap (λ b. cond b (cond (eqb n p) number (o j n)) (o j n)) (eq-eqb j k e)
        ∙ ap (λ b. cond b number (o j n)) (ne_eqb n p f)
    go (inr e) f = ap (λ b. cond b (cond (eqb n p) number (o j n)) (o j n)) (ne_eqb j k e)

module _ (tells : Type 0) (r : Run) (run : IsRun r) (o : Oracle) (w : State tells) (p : Paces)
    (st : IsReachedState tells r o w) (sh : ShowsPace tells r o w p)
    (k : ℕ) (y : Held) (can : CanMove (net tells within_lead r o) w k)
    (move : Moves tells r k (w.held k) (taken_now (net tells within_lead r o) w k)
    (next_op r (w.held k).control) (Some y)) where
  abbrev new : State tells
  new = after tells r run o w p st sh k y can move

  abbrev shows : Paces
  shows = then tells r run o w p st sh k y can move

  abbrev Kept : Type 0
  Kept = (other : Oracle) × IsReachedState tells r other new × ShowsPace tells r other new shows
      × SameWay r o other new

  abbrev next : ℕ
  next = suc (w.place k)

  ways : (other : Oracle) → WayEnds r.setup r.first.control r.most (scalars_at r other)
  ways other = run.ways (scalars_at r other)

  fits : (other : Oracle) → IsOracle tells r other
      → Fits (net tells within_lead r other) (script tells r other) (Agrees tells r other)
      (GivesAt r other) (Books tells r)
  fits other h = lead_fits tells r run other h.told h.first

  stands : Stands tells r o k next y
  stands = operation.stands tells r run o w p st sh k y can move

  -- by an oracle by which all agree
  reached : (other : Oracle) → (is : IsOracle tells r other)
      → Woven (net tells within_lead r other) (script tells r other) (Agrees tells r other)
      (Books tells r) new
      → IsReachedState tells r other new
  reached other is woven = record {
    oracle_is = is;
    woven = woven;
    ended = λ t. ended_other tells r run o other st.oracle_is is t new
        (runs.event_ended (net tells within_lead r o) (script tells r o) (Agrees tells r o)
        (GivesAt r o) (Books tells r) (fits o st.oracle_is)
        (told_ends tells r run o st.oracle_is.told t within_lead) w new st.woven (st.ended t)
        (Part k) can (inl (y, move, refl)));
  }

  -- nothing is given next
  no_gift : gives_by r k y (op_there r o next) (o k next) → Kept
  no_gift g = (
    o,
    reached o st.oracle_is
        (move_kept (net tells within_lead r o) (script tells r o) (Agrees tells r o) (GivesAt r o)
        (Books tells r) (fits o st.oracle_is) w st.woven k can y move
        (subst (λ c. gives_by r k y (next_op r c) (o k next)) (sym stands.control) g)),
    shown_on tells r run o w p st sh k y can move,
    λ j m l h. refl,
  )

  -- a number is given next
  module _ (i : ℕ) (there : op_there r o next ≡ op.Give i) where
    abbrev number : ℤ
    number = number_by r k (held_values r k y.numbers) i

    abbrev other : Oracle
    other = foretold o k next number

    -- where wires tell it is the one that was known already
    number_true : tells → number ≡ truth r k next
    number_true t =
        subst (λ q. gives_by r k y q (o k next)) (ap (next_op r) stands.control ∙ there)
        (true_gift tells r run o st.oracle_is.told t k next y can.part stands)
        ∙ st.oracle_is.told t k next can.part

    other_told : tells → (j n : ℕ) → j < parts_in r → other j n ≡ truth r j n
    other_told t j n l = go (cases_eq j k) (cases_eq n next)
      where
        go : (j ≡ k) ⊎ (j ≡ k → ⊥) → (n ≡ next) ⊎ (n ≡ next → ⊥) → other j n ≡ truth r j n
        go (inl a) (inl b) =
            subst (λ m. other m n ≡ truth r m n) (sym a)
            (subst (λ m. other k m ≡ truth r k m) (sym b)
            (foretold_here o k next number ∙ number_true t))
        go (inl a) (inr b) = foretold_else o k next number j n (λ c d. b d)
            ∙ st.oracle_is.told t j n l
        go (inr a) b = foretold_else o k next number j n (λ c d. a c) ∙ st.oracle_is.told t j n l

    other_is : IsOracle tells r other
    other_is = record {
      told = other_told;
      first = λ j l. foretold_else o k next number j 0 (λ c d. zero_suc (w.place k) d)
          ∙ st.oracle_is.first j l;
    }
      where
        zero_suc : (n : ℕ) → 0 ≡ suc n → ⊥
        zero_suc n e = omega (arith, e)

    same_there : (m : ℕ) → m ≤ suc next → (guided r other m).control ≡ (guided r o m).control
    same_there = control_same r o other k next (foretold_else o k next number) (ways o) (ways other)

    -- a number stands there for each part, so no part has passed the operation that joins it
    some_mail : (j : ℕ) → j < parts_in r → 0 < length (mail_at tells r o (Board k j) next)
    some_mail j l =
        let e : is_there r (Board k j) ≡ true =
        and_from (ltb k (parts_in r)) (ltb j (parts_in r)) (lt-ltb k (parts_in r) can.part)
        (lt-ltb j (parts_in r) l) in
        let z : length (mail_at tells r o (Board k j) next) ≡ 1 =
        ap (λ b. length (cond b
        (op_posts {tells = tells} r (op_there r o next) next
        (faces_by {tells = tells} r k (values_of r.setup (undivided r next).state))
        (λ i. o k next) (Board k j)) [])) e
        ∙ ap (λ q. length (op_posts {tells = tells} r q next
        (faces_by {tells = tells} r k (values_of r.setup (undivided r next).state))
        (λ i. o k next) (Board k j))) there in
        omega (arith, z)

    near : (j : ℕ) → j < parts_in r → new.place j ≤ suc next
    near j l = go (cases_eq j k)
      where
        go : (j ≡ k) ⊎ (j ≡ k → ⊥) → new.place j ≤ suc next
        go (inl e) = omega (arith, put_same w.place k next j e)
        go (inr n) =
            omega (
              arith,
              put_other w.place k next j n,
              not_taken (net tells within_lead r o) (script tells r o) (Agrees tells r o)
                  (Books tells r) w st.woven (Board k j) next (some_mail j l)
                  (let h : w.place k ≤ next = omega arith in h),
            )

    gift : Kept
    gift =
        let before : w.place k < next = omega arith in
        let can_other : CanMove (net tells within_lead r other) w k = record {
          part = can.part;
          going = can.going;
          left_over = can.left_over;
          before = can.before;
          ready = can.ready;
          near = can.near;
          room = λ b m q a l f. can.room b m q a l
              (ap (λ c. buffer_of r (next_op r c))
              (sym (same_there m (let s = l in omega (arith, s)))) ∙ f);
        } in
        let is = reached other other_is
        (move_kept (net tells within_lead r other) (script tells r other) (Agrees tells r other)
        (GivesAt r other) (Books tells r) (fits other other_is) w
        (woven_other r o other k next (foretold_else o k next number) (ways o) (ways other)
        tells within_lead i can.part there w st.woven before) k can_other y move
        (subst (λ c. gives_by r k y (next_op r c) (other k next)) (sym stands.control)
        (subst (λ q. gives_by r k y q (other k next)) (sym there)
        (sym (foretold_here o k next number))))) in (
          other,
          is,
          shown_other tells r o other new shows (shown_on tells r run o w p st sh k y can move)
              is.woven.behind
              (λ j m l h. same_there m (let n = near j l in omega (arith, n, h))),
          λ j m l h. guided_same r o other k next (foretold_else o k next number) (ways o)
              (ways other) m (let n = near j l in omega (arith, n, h)),
        )

  by_op : (q : Op) → op_there r o next ≡ q → Kept
  by_op (op.Give i) e = gift i e
  by_op (op.Sweep i) e = no_gift (subst (λ q. gives_by r k y q (o k next)) (sym e) tt)
  by_op (op.Apply i) e = no_gift (subst (λ q. gives_by r k y q (o k next)) (sym e) tt)
  by_op (op.Join i) e = no_gift (subst (λ q. gives_by r k y q (o k next)) (sym e) tt)
  by_op (op.Post d vars) e = no_gift (subst (λ q. gives_by r k y q (o k next)) (sym e) tt)
  by_op (op.Take d vars path) e = no_gift (subst (λ q. gives_by r k y q (o k next)) (sym e) tt)
  by_op (op.Test v path skip) e = no_gift (subst (λ q. gives_by r k y q (o k next)) (sym e) tt)
  by_op op.Open e = no_gift (subst (λ q. gives_by r k y q (o k next)) (sym e) tt)
  by_op (op.Turn v path skip) e = no_gift (subst (λ q. gives_by r k y q (o k next)) (sym e) tt)
  by_op (op.Again back) e = no_gift (subst (λ q. gives_by r k y q (o k next)) (sym e) tt)
  by_op op.Rotate e = no_gift (subst (λ q. gives_by r k y q (o k next)) (sym e) tt)
  by_op (op.Due skip) e = no_gift (subst (λ q. gives_by r k y q (o k next)) (sym e) tt)
  by_op (op.Written skip) e = no_gift (subst (λ q. gives_by r k y q (o k next)) (sym e) tt)
  by_op (op.Skip skip) e = no_gift (subst (λ q. gives_by r k y q (o k next)) (sym e) tt)
  by_op (op.Next back) e = no_gift (subst (λ q. gives_by r k y q (o k next)) (sym e) tt)
  by_op (op.Piece v) e = no_gift (subst (λ q. gives_by r k y q (o k next)) (sym e) tt)
  by_op op.Save e = no_gift (subst (λ q. gives_by r k y q (o k next)) (sym e) tt)
  by_op op.Halt e = no_gift (subst (λ q. gives_by r k y q (o k next)) (sym e) tt)

  pub moved_kept : Kept
  moved_kept = by_op (op_there r o next) refl
