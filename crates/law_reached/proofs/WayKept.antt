-- Each event keeps what holds by an oracle that foretells what the part will give next, and the way
-- that all parts have come.
use Rattle.std.proofs.Common.{◌≡◌, ℕ, suc, ◌<◌, ◌≤◌, ◌⊎◌, inl, inr, eqb, ℤ, Some, refl, sym, ap, ◌∙◌, subst, arith, cond, eq-eqb}
use Rattle.std.proofs.lemmas.Bool.{cases_eq, ne_eqb}
use Rattle.cx_flat.specs.declared.op.Op.{Op}
use Rattle.cx_flat.specs.declared.op.Op.TheVariants as op
use Rattle.cx_flat.specs.Ways.{WayEnds}
use Rattle.law_network.specs.Machine.{World, Event, Part, Write, End, Can, After, CanMove, put, taken_now, moved}
use Rattle.law_network.specs.Agreement.{Fits, Ends, Woven, takes}
use Rattle.law_network.proofs.Prefix.{not_taken}
use Rattle.law_network.proofs.Put.{at_put}
use Rattle.law_network.proofs.Runs as runs
use Rattle.law_network.proofs.Steps.{inside, found, move_kept}
use Rattle.cx_model.specs.Runs.{Lengths}
use Rattle.law_parts.specs.Holding.{Held}
use Rattle.law_parts.specs.Laws.{IsOracle, IsReachedState}
use Rattle.law_parts.specs.Moves.{Message, Channel, sender, receiver, number_by, buffer_of, Moves, held_values}
use Rattle.law_parts.specs.Nets.{net, within_lead}
use Rattle.law_parts.specs.Runs.{Run, Oracle, parts_in, next_op, guided, last_of}
use Rattle.law_parts.specs.Truths.{truth, script, Stands, Agrees, gives_by, GivesAt, Books}
use Rattle.law_parts.proofs.FaultLaws.{told_ends}
use Rattle.law_parts.proofs.FitLaws.{lead_fits}
use Rattle.law_parts.proofs.Foretelling.{guided_same, control_same, frees, woven_other}
use Rattle.law_parts.proofs.MoveLaws.{moves_on}
use Rattle.law_parts.proofs.StepLaws.{ended_other}
use Rattle.law_parts.proofs.ToldLaws.{true_gift}
use Rattle.law_parts.proofs.Ways.{scalars_at, op_there}
use Rattle.law_parts.proofs.WholeRun.{IsRun}
use Rattle.law_reached.specs.Going.{KeepsWay}

-- an oracle with another number at one place
abbrev foretold : Oracle → ℕ → ℕ → ℤ → Oracle
foretold o k p number j n = cond (eqb j k) (cond (eqb n p) number (o j n)) (o j n)

foretold_here : (o : Oracle) (k p : ℕ) (number : ℤ) → foretold o k p number k p ≡ number
foretold_here o k p number =
    ap (λ b. cond b (cond (eqb p p) number (o k p)) (o k p)) (eq-eqb k k refl)
    ∙ ap (λ b. cond b number (o k p)) (eq-eqb p p refl)

foretold_else : (o : Oracle) (k p : ℕ) (number : ℤ) (j n : ℕ) → (j ≡ k → n ≡ p → ⊥)
    → foretold o k p number j n ≡ o j n
foretold_else o k p number j n out = go (cases_eq j k) (cases_eq n p)
  where
    go : (j ≡ k) ⊎ (j ≡ k → ⊥) → (n ≡ p) ⊎ (n ≡ p → ⊥) → foretold o k p number j n ≡ o j n
    go (inl e) (inl f) = absurd (out e f)
    go (inl e) (inr f) = ap (λ b. cond b (cond (eqb n p) number (o j n)) (o j n)) (eq-eqb j k e)
        ∙ ap (λ b. cond b number (o j n)) (ne_eqb n p f)
    go (inr e) f = ap (λ b. cond b (cond (eqb n p) number (o j n)) (o j n)) (ne_eqb j k e)

up_to : (a b c : ℕ) → a ≤ b → b ≤ c → a ≤ c
up_to a b c h q = omega (arith, h, q)

module _ (tells : Type 0) (r : Run) (run : IsRun r) (o : Oracle) (is : IsOracle tells r o)
    (w : World Held (Message tells) Channel Lengths)
    (inv : Woven (net tells within_lead r o) (script tells r o) (Agrees tells r o) (Books tells r)
    w) (k : ℕ) (can : CanMove (net tells within_lead r o) w k)
    (y : Held) (move : Moves tells r k (w.held k) (taken_now (net tells within_lead r o) w k)
    (next_op r (w.held k).control) (Some y)) where
  abbrev Kept : Type 0
  Kept = (other : Oracle) × IsOracle tells r other
      × Woven (net tells within_lead r other) (script tells r other) (Agrees tells r other)
      (Books tells r) (moved (net tells within_lead r o) w k y)
      × ((j n : ℕ) → j < parts_in r → n ≤ put w.place k (suc (w.place k)) j
      → guided r other n ≡ guided r o n)

  abbrev p : ℕ
  p = suc (w.place k)

  fits : (other : Oracle) → IsOracle tells r other
      → Fits (net tells within_lead r other) (script tells r other) (Agrees tells r other)
      (GivesAt r other) (Books tells r)
  fits other h = lead_fits tells r run other h.told h.first

  ways : (other : Oracle) → WayEnds r.setup r.first.control r.most (scalars_at r other)
  ways other = run.ways (scalars_at r other)

  before_last : w.place k < last_of r o
  before_last = inside (net tells within_lead r o) (script tells r o) (Agrees tells r o)
      (GivesAt r o) (Books tells r) (fits o is) w inv k can

  mails : (c : Channel) → receiver c ≡ k
      → taken_now (net tells within_lead r o) w k c ≡ takes (script tells r o) c (w.place k)
  mails c e =
      (found (net tells within_lead r o) (script tells r o) (Agrees tells r o) (GivesAt r o)
      (Books tells r) (fits o is) w inv k can c e).0

  stands : Stands tells r o k p y
  stands = moves_on tells r run o is.told within_lead k (w.place k) (w.held k)
      (taken_now (net tells within_lead r o) w k) can.part before_last
      (inv.agrees k can.part).stands mails y move

  -- nothing is given next
  no_gift : gives_by r k y (op_there r o p) (o k p) → Kept
  no_gift g = (
    o,
    is,
    move_kept (net tells within_lead r o) (script tells r o) (Agrees tells r o) (GivesAt r o)
        (Books tells r) (fits o is) w inv k can y move
        (subst (λ c. gives_by r k y (next_op r c) (o k p)) (sym stands.control) g),
    λ j n l h. refl,
  )

  -- a number is given next
  module _ (i_there : ℕ) (there : op_there r o p ≡ op.Give i_there) where
    abbrev number : ℤ
    number = number_by r k (held_values r k y.numbers) i_there

    abbrev other : Oracle
    other = foretold o k p number

    -- where wires tell it is the one that was known already
    number_true : tells → number ≡ truth r k p
    number_true t =
        subst (λ q. gives_by r k y q (o k p)) (ap (next_op r) stands.control ∙ there)
        (true_gift tells r run o is.told t k p y can.part stands)
        ∙ is.told t k p can.part

    other_told : tells → (j n : ℕ) → j < parts_in r → other j n ≡ truth r j n
    other_told t j n l = go (cases_eq j k) (cases_eq n p)
      where
        go : (j ≡ k) ⊎ (j ≡ k → ⊥) → (n ≡ p) ⊎ (n ≡ p → ⊥) → other j n ≡ truth r j n
        go (inl a) (inl b) =
            subst (λ m. other m n ≡ truth r m n) (sym a)
            (subst (λ m. other k m ≡ truth r k m) (sym b)
            (foretold_here o k p number ∙ number_true t))
        go (inl a) (inr b) = foretold_else o k p number j n (λ c d. b d) ∙ is.told t j n l
        go (inr a) b = foretold_else o k p number j n (λ c d. a c) ∙ is.told t j n l

    other_is : IsOracle tells r other
    other_is = record {
      told = other_told;
      first = λ j l. foretold_else o k p number j 0 (λ c d. zero_suc (w.place k) d) ∙ is.first j l;
    }
      where
        zero_suc : (n : ℕ) → 0 ≡ suc n → ⊥
        zero_suc n e = omega (arith, e)

    -- no part is beyond the operation that takes what the part is to give
    near : (j : ℕ) → j < parts_in r → put w.place k (suc (w.place k)) j ≤ suc p
    near j l = at_put w.place k (suc (w.place k)) (λ i a. i < parts_in r → a ≤ suc p)
        (λ h. one_less (suc (w.place k))) all_near j l
      where
        one_less : (a : ℕ) → a ≤ suc a
        one_less a = omega arith

        two_less : (a b : ℕ) → a ≡ b → a ≤ suc b
        two_less a b e = omega (arith, e)

        all_near : (i : ℕ) → i < parts_in r → w.place i ≤ suc p
        all_near i h =
            let c =
            (frees r o other k p (foretold_else o k p number) (ways o) (ways other)
            tells within_lead i_there can.part there).to_all i h in
            subst (λ a. w.place a ≤ suc p) c.2
            (not_taken (net tells within_lead r o) (script tells r o) (Agrees tells r o)
            (Books tells r) w inv c.0 p c.3
            (two_less (w.place (sender c.0)) (w.place k) (ap w.place c.1)))

    gift : Kept
    gift =
        let same = foretold_else o k p number in
        let same_control = control_same r o other k p same (ways o) (ways other) in
        let before : w.place k < suc (w.place k) = omega arith in
        let can_other : CanMove (net tells within_lead r other) w k = record {
          part = can.part;
          going = can.going;
          left_over = can.left_over;
          before = can.before;
          ready = can.ready;
          near = can.near;
          room = λ b m q a l f. can.room b m q a l
              (ap (λ c. buffer_of r (next_op r c))
              (sym (same_control m (let s = l in omega (arith, s)))) ∙ f);
        } in (
          other,
          other_is,
          move_kept (net tells within_lead r other) (script tells r other) (Agrees tells r other)
              (GivesAt r other) (Books tells r) (fits other other_is) w
              (woven_other r o other k p same (ways o) (ways other)
              tells within_lead i_there can.part there w inv before) k can_other y move
              (subst (λ c. gives_by r k y (next_op r c) (other k p)) (sym stands.control)
              (subst (λ q. gives_by r k y q (other k p)) (sym there)
              (sym (foretold_here o k p number)))),
          λ j n l h. guided_same r o other k p same (ways o) (ways other) n
              (up_to n (put w.place k (suc (w.place k)) j) (suc p) h (near j l)),
        )

  by_op : (q : Op) → op_there r o p ≡ q → Kept
  by_op (op.Give i) e = gift i e
  by_op (op.Sweep i) e = no_gift (subst (λ q. gives_by r k y q (o k p)) (sym e) tt)
  by_op (op.Apply i) e = no_gift (subst (λ q. gives_by r k y q (o k p)) (sym e) tt)
  by_op (op.Join i) e = no_gift (subst (λ q. gives_by r k y q (o k p)) (sym e) tt)
  by_op (op.Post d vars) e = no_gift (subst (λ q. gives_by r k y q (o k p)) (sym e) tt)
  by_op (op.Take d vars path) e = no_gift (subst (λ q. gives_by r k y q (o k p)) (sym e) tt)
  by_op (op.Test v path skip) e = no_gift (subst (λ q. gives_by r k y q (o k p)) (sym e) tt)
  by_op op.Open e = no_gift (subst (λ q. gives_by r k y q (o k p)) (sym e) tt)
  by_op (op.Turn v path skip) e = no_gift (subst (λ q. gives_by r k y q (o k p)) (sym e) tt)
  by_op (op.Again back) e = no_gift (subst (λ q. gives_by r k y q (o k p)) (sym e) tt)
  by_op op.Rotate e = no_gift (subst (λ q. gives_by r k y q (o k p)) (sym e) tt)
  by_op (op.Due skip) e = no_gift (subst (λ q. gives_by r k y q (o k p)) (sym e) tt)
  by_op (op.Written skip) e = no_gift (subst (λ q. gives_by r k y q (o k p)) (sym e) tt)
  by_op (op.Skip skip) e = no_gift (subst (λ q. gives_by r k y q (o k p)) (sym e) tt)
  by_op (op.Next back) e = no_gift (subst (λ q. gives_by r k y q (o k p)) (sym e) tt)
  by_op (op.Piece v) e = no_gift (subst (λ q. gives_by r k y q (o k p)) (sym e) tt)
  by_op op.Save e = no_gift (subst (λ q. gives_by r k y q (o k p)) (sym e) tt)
  by_op op.Halt e = no_gift (subst (λ q. gives_by r k y q (o k p)) (sym e) tt)

  pub part_kept : Kept
  part_kept = by_op (op_there r o p) refl

-- ---- all events

module _ (tells : Type 0) (r : Run) (run : IsRun r) (o : Oracle)
    (w v : World Held (Message tells) Channel Lengths) (st : IsReachedState tells r o w) where
  abbrev Leads : Type 0
  Leads = (other : Oracle) × IsReachedState tells r other v
      × ((j n : ℕ) → j < parts_in r → n ≤ v.place j → guided r other n ≡ guided r o n)

  fits_here : Fits (net tells within_lead r o) (script tells r o) (Agrees tells r o) (GivesAt r o)
      (Books tells r)
  fits_here = lead_fits tells r run o st.oracle_is.told st.oracle_is.first

  ends_here : tells → Ends (net tells within_lead r o) (script tells r o) (Agrees tells r o)
      (Books tells r)
  ends_here t = told_ends tells r run o st.oracle_is.told t within_lead

  -- an event behind which the same numbers were foretold
  same_oracle : (e : Event) → Can (net tells within_lead r o) w e
      → After (net tells within_lead r o) w e v
      → runs.Foretold (net tells within_lead r o) (script tells r o) (Agrees tells r o)
      (GivesAt r o) (Books tells r) fits_here w v e → Leads
  same_oracle e can a f = (
    o,
    record {
      oracle_is = st.oracle_is;
      woven = runs.event_kept (net tells within_lead r o) (script tells r o) (Agrees tells r o)
          (GivesAt r o) (Books tells r) fits_here w v st.woven e can a f;
      ended = λ t. runs.event_ended (net tells within_lead r o) (script tells r o)
          (Agrees tells r o) (GivesAt r o) (Books tells r) fits_here (ends_here t) w v st.woven
          (st.ended t) e can a;
    },
    λ j n l h. refl,
  )

  leads : (e : Event) → Can (net tells within_lead r o) w e
      → After (net tells within_lead r o) w e v → Leads
  leads (Part k) can (inl a) =
      let kept = part_kept tells r run o st.oracle_is w st.woven k can a.0 a.1 in (
        kept.0,
        record {
          oracle_is = kept.1;
          woven =
              subst (Woven (net tells within_lead r kept.0) (script tells r kept.0)
              (Agrees tells r kept.0) (Books tells r)) (sym a.2) kept.2;
          ended = λ t. ended_other tells r run o kept.0 st.oracle_is kept.1 t v
              (runs.event_ended (net tells within_lead r o) (script tells r o) (Agrees tells r o)
              (GivesAt r o) (Books tells r) fits_here (ends_here t) w v st.woven (st.ended t)
              (Part k) can (inl a));
        },
        λ j n l h. kept.3 j n l
            (subst (λ (u : World Held (Message tells) Channel Lengths). n ≤ u.place j) a.2 h),
      )
  leads (Part k) can (inr a) =
      same_oracle (Part k) can (inr a)
      (subst (λ (u : World Held (Message tells) Channel Lengths).
      GivesAt r o k (u.place k) (u.held k)) (sym a.2) (st.woven.agrees k can.part).gives)
  leads (Write n) can a = same_oracle (Write n) can a tt
  leads End can a = same_oracle End can a tt

pub keeps_way : (tells : Type 0) (r : Run) → IsRun r → KeepsWay tells r
keeps_way tells r run o w v e st can a = leads tells r run o w v st e can a
