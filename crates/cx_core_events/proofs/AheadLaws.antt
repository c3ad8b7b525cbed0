-- Which parts stand behind the writer's next checkpoint, and that an event which isn't of such a
-- part can happen.
use Rattle.std.proofs.Common.{◌≡◌, ℕ, zero, suc, ◌+◌, ◌-◌, ◌<◌, ◌≤◌, ◌⊎◌, ◌||◌, inl, inr, Bool, true, false, List, [], ◌∷◌, length, take, Option, Some, None, refl, sym, ap, ◌∙◌, arith}
use Rattle.std.specs.List.{list_any}
use Rattle.std.proofs.lemmas.Bool.{cases_eq, cases_Bool, both_ways, ltb-true}
use Rattle.cx_flat.specs.declared.op.Op.{Op}
use Rattle.cx_flat.specs.declared.op.Op.TheVariants as op
use Rattle.law_network.specs.Machine.{CanMove, Event, Part, Write, End, Can, IsWork}
use Rattle.law_network.specs.Agreement.{Fits}
use Rattle.law_network.proofs.Runs as runs
use Rattle.law_parts.specs.Laws.{IsReachedState}
use Rattle.law_parts.specs.Moves.{sender, is_there, op_wants, buffer_of}
use Rattle.law_parts.specs.Nets.{net, round, within_lead}
use Rattle.law_parts.specs.Runs.{Run, Oracle, parts_in, next_op, guided, halts, last_of}
use Rattle.law_parts.specs.Truths.{script, Agrees, GivesAt, Books}
use Rattle.law_parts.proofs.FitLaws.{lead_fits}
use Rattle.law_parts.proofs.NetWays.{rounds_rise}
use Rattle.law_parts.proofs.PairLaws.{and_left}
use Rattle.law_parts.proofs.Ways as ways
use Rattle.law_parts.proofs.WholeRun.{IsRun}
use Rattle.cx_core_events.specs.declared.standing.Next.{Next}
use Rattle.cx_core_events.specs.declared.standing.Next.TheVariants as next
use Rattle.cx_core_events.specs.declared.standing.Work.{Work}
use Rattle.cx_core_events.specs.Paces.{Paces, part_of}
use Rattle.cx_core_events.specs.Events.{work_of, same_buffer, all_in, all_stand, writer_by, writer_going, has_saved, is_saving, lies_ahead}
use Rattle.cx_core_events.specs.Shows.{State, ShowsPace, CanHappen, IsBehindSave, work_there}
use Rattle.cx_core_events.proofs.EventLaws.{over_is, in_true, write_true, true_write, end_true, true_end}
use Rattle.cx_core_events.proofs.MoveLaws.{cond_some, inside}
use Rattle.cx_core_events.proofs.RoomLaws.{taken_is}
use Rattle.cx_core_events.proofs.StandLaws.{ends, control_is, hind_part, hind_least}
use Rattle.cx_core_events.proofs.WorkLaws.{works_from, HasPlace, any_place, place_any}

-- ---- the first of some numbers

record IsFirst (f : ℕ → Bool) (m n : ℕ) : Type 0 where
  place : ℕ
  from : m ≤ place
  upto : place ≤ n
  is : f place ≡ true
  none : (j : ℕ) → m ≤ j → j < place → f j ≡ true → ⊥

first_true : (f : ℕ → Bool) (d m n : ℕ) → m + d ≡ n → f n ≡ true → IsFirst f m n
first_true f zero m n e h =
    record {
      place = n;
      from = omega (arith, e);
      upto = omega arith;
      is = h;
      none = λ j a b q. omega (arith, e, a, b);
    }
first_true f (suc d) m n e h = go (f m) refl (first_true f d (suc m) n (omega (arith, e)) h)
  where
    go : (b : Bool) → f m ≡ b → IsFirst f (suc m) n → IsFirst f m n
    go true q later = record {
      place = m;
      from = omega arith;
      upto = omega (arith, e);
      is = q;
      none = λ j a b t. omega (arith, a, b);
    }
    go false q later =
        let from = later.from in
        record {
          place = later.place;
          from = omega (arith, from);
          upto = later.upto;
          is = later.is;
          none = λ j a b t. by j a b t (cases_eq j m);
        }
      where
        by : (j : ℕ) → m ≤ j → j < later.place → f j ≡ true → (j ≡ m) ⊎ (j ≡ m → ⊥) → ⊥
        by j a b t (inl s) = both_ways (f m) q (ap f (sym s) ∙ t)
        by j a b t (inr s) = later.none j (omega (arith, a, s)) b t

-- ---- where no checkpoint was handed in, no event lies ahead

none_of_both : (a b : Bool) → a || b ≡ false → (a ≡ false) × (b ≡ false)
none_of_both true b e = absurd cc
none_of_both false b e = (refl, e)

none_taken : (f : Work → Bool) (n : ℕ) (ws : List Work) → list_any f ws ≡ false
    → list_any f (take n ws) ≡ false
none_taken f zero ws e = refl
none_taken f (suc n) [] e = refl
none_taken f (suc n) (w ∷ ws) e =
    let both = none_of_both (f w) (list_any f ws) e in
    rw both.0 (none_taken f n ws both.1)

pub none_ahead : (p : Paces) (o : Option Next) → is_saving p ≡ false → lies_ahead p o ≡ false
none_ahead p (Some (next.Part k)) e =
    none_taken (λ (w : Work). same_buffer w.var None) (part_of p k).handed p.works e
none_ahead p (Some next.Write) e = refl
none_ahead p (Some next.End) e = refl
none_ahead p None e = refl

-- ---- operations that hand in pieces of a checkpoint

abbrev is_save : Option Work → Bool
is_save None = false
is_save (Some x) = same_buffer x.var None

save_only : (o : Op) (iteration : ℕ) → is_save (work_of o iteration) ≡ true → o ≡ op.Save
save_only (op.Sweep k) iteration e = absurd cc
save_only (op.Apply k) iteration e = absurd cc
save_only (op.Give k) iteration e = absurd cc
save_only (op.Join k) iteration e = absurd cc
save_only (op.Post d vars) iteration e = absurd cc
save_only (op.Take d vars path) iteration e = absurd cc
save_only (op.Test v path skip) iteration e = absurd cc
save_only op.Open iteration e = absurd cc
save_only (op.Turn v path skip) iteration e = absurd cc
save_only (op.Again back) iteration e = absurd cc
save_only op.Rotate iteration e = absurd cc
save_only (op.Due skip) iteration e = absurd cc
save_only (op.Written skip) iteration e = absurd cc
save_only (op.Skip skip) iteration e = absurd cc
save_only (op.Next back) iteration e = absurd cc
save_only (op.Piece v) iteration e = absurd cc
save_only op.Save iteration e = refl
save_only op.Halt iteration e = absurd cc

is_some_save : (o : Option Work) → is_save o ≡ true
    → (x : Work) × (o ≡ Some x) × (same_buffer x.var None ≡ true)
is_some_save None e = absurd cc
is_some_save (Some x) e = (x, refl, e)

no_part : (a b c : Bool) (k : ℕ) → writer_by a b c ≡ Some (next.Part k) → ⊥
no_part true b c k e = cc
no_part false true c k e = cc
no_part false false true k e = cc
no_part false false false k e = cc

still : (a b c : Bool) → a ≡ false → writer_by a b c ≡ None → b ≡ false
still true b c e f = absurd cc
still false true c e f = absurd cc
still false false c e f = refl

none_write : None ≡ Some next.Write → ⊥
none_write e = cc

none_end : None ≡ Some next.End → ⊥
none_end e = cc

module _ (tells : Type 0) (r : Run) (run : IsRun r) (oracle : Oracle) (w : State tells) (p : Paces)
    (st : IsReachedState tells r oracle w) (sh : ShowsPace tells r oracle w p) where
  abbrev saves_at : ℕ → Bool
  saves_at n = is_save (work_there r oracle n)

  save_there : (n : ℕ) → saves_at n ≡ true → next_op r (guided r oracle n).control ≡ op.Save
  save_there n e = save_only (next_op r (guided r oracle n).control)
      (guided r oracle n).control.iteration e

  there_save : (n : ℕ) → next_op r (guided r oracle n).control ≡ op.Save → saves_at n ≡ true
  there_save n e = ap (λ o. is_save (work_of o (guided r oracle n).control.iteration)) e

  -- ---- which parts

  abbrev SavedBefore : ℕ → Type 0
  SavedBefore k = HasPlace r oracle (λ (x : Work). same_buffer x.var None) w.wrote
      (w.wrote + (w.place k - w.wrote))

  saved_is : (k : ℕ) → k < parts_in r
      → has_saved p k ≡ list_any (λ (x : Work). same_buffer x.var None)
      (works_from r oracle w.wrote (w.place k - w.wrote))
  saved_is k l = ap (λ xs. list_any (λ (x : Work). same_buffer x.var None) xs)
      (taken_is tells r run oracle w p st sh k l)

  pub behind_true : (k : ℕ) → k < parts_in r → has_saved p k ≡ true → IsBehindSave r oracle w k
  behind_true k l e =
      go (any_place r oracle (λ (x : Work). same_buffer x.var None) w.wrote (w.place k - w.wrote)
      (sym (saved_is k l) ∙ e))
    where
      go : SavedBefore k → IsBehindSave r oracle w k
      go x =
          let from = x.from in
          let upto = x.upto in
          let f = first_true saves_at (x.place - w.wrote) w.wrote x.place (omega (arith, from))
          (ap is_save x.is ∙ x.passes) in
          let before = f.upto in (
            f.place,
            record {
              from = f.from;
              save = save_there f.place f.is;
              none_before = λ m a b q. f.none m a b (there_save m q);
            },
            omega (arith, from, upto, before),
          )

  pub true_behind : (k : ℕ) → k < parts_in r → IsBehindSave r oracle w k → has_saved p k ≡ true
  true_behind k l h =
      let s = is_some_save (work_there r oracle h.0) (there_save h.0 h.1.save) in
      saved_is k l
      ∙ place_any r oracle (λ (x : Work). same_buffer x.var None) w.wrote (w.place k - w.wrote)
      (record {
        place = h.0;
        from = h.1.from;
        upto = let a = h.1.from in let b = h.2 in omega (arith, a, b);
        work = s.0;
        is = s.1;
        passes = s.2;
      })

  -- ---- where the writer has nothing to do, the hindmost part goes on, and it isn't behind

  module _ (going : w.over ≡ None) (waits : writer_going p ≡ None) where
    -- no work is left to the writer before the hindmost part
    none_behind : (m : ℕ) → w.wrote ≤ m → m < w.place p.hind
        → IsWork (net tells within_lead r oracle) m → ⊥
    none_behind m a b is =
        both_ways (all_in p) (still p.over (all_in p) (all_stand p)
        (over_is tells r run oracle w p st sh going) waits)
        (in_true tells r run oracle w p st sh m is a
        (λ k l. let h = hind_least tells r run oracle w p st sh k l in omega (arith, b, h)))

    fits : Fits (net tells within_lead r oracle) (script tells r oracle) (Agrees tells r oracle)
        (GivesAt r oracle) (Books tells r)
    fits = lead_fits tells r run oracle st.oracle_is.told st.oracle_is.first

    some_part : (j : ℕ) × CanMove (net tells within_lead r oracle) w j
    some_part =
        go (runs.some_event (net tells within_lead r oracle) (script tells r oracle)
        (Agrees tells r oracle) (GivesAt r oracle) (Books tells r) fits w st.woven going)
      where
        go : (e : Event) × Can (net tells within_lead r oracle) w e
            → (j : ℕ) × CanMove (net tells within_lead r oracle) w j
        go (Part j, can) = (j, can)
        go (Write n, can) = absurd
            (none_write (sym waits ∙ true_write tells r run oracle w p st sh n can))
        go (End, can) = absurd (none_end (sym waits ∙ true_end tells r run oracle w p st sh can))

    abbrev hind : ℕ
    hind = p.hind

    last : w.place hind < last_of r oracle
    last =
        let can = some_part.1 in
        let a = inside tells r run oracle w p st sh some_part.0 can.part can.left_over in
        let b = hind_least tells r run oracle w p st sh some_part.0 can.part in
        omega (arith, a, b)

    near : within_lead r oracle w.place (λ j. (w.held j).control) w.wrote hind
    near = λ j m.
        let b = rounds_rise tells within_lead r oracle (ends tells r run oracle w p st sh)
        (w.place hind) (w.place j) (hind_least tells r run oracle w p st sh j m) in
        omega (
          arith,
          b,
          ap round
              (control_is tells r run oracle w p st sh hind
              (hind_part tells r run oracle w p st sh)),
          ap round (control_is tells r run oracle w p st sh j m),
        )

    pub hind_can : CanMove (net tells within_lead r oracle) w hind
    hind_can = record {
      part = hind_part tells r run oracle w p st sh;
      going = going;
      left_over = ap (halts r)
          (control_is tells r run oracle w p st sh hind (hind_part tells r run oracle w p st sh))
          ∙ ways.goes_on r oracle (ends tells r run oracle w p st sh) (w.place hind) last;
      before =
          let can = some_part.1 in
          let a = can.before in
          let b = hind_least tells r run oracle w p st sh some_part.0 can.part in
          omega (arith, a, b);
      ready = λ c e some. hind_least tells r run oracle w p st sh (sender c)
          (ltb-true (sender c) (parts_in r)
          (and_left _ _ (cond_some (is_there r c)
          (op_wants r (next_op r (w.held hind).control) c) some).0));
      near = near;
      room = λ b m e a c q. none_behind m a c (b, q);
    }

    pub hind_before : has_saved p hind ≡ false
    hind_before = go (cases_Bool (has_saved p hind))
      where
        go : (has_saved p hind ≡ true) ⊎ (has_saved p hind ≡ false) → has_saved p hind ≡ false
        go (inr e) = e
        go (inl e) =
            let h = behind_true hind (hind_part tells r run oracle w p st sh) e in
            absurd (none_behind h.0 h.1.from h.2 (length r.setup.vars, ap (buffer_of r) h.1.save))

  pub some_before : w.over ≡ None
      → (e : Next) × CanHappen tells r oracle w e × (lies_ahead p (Some e) ≡ false)
  some_before going = go (writer_going p) refl
    where
      go : (o : Option Next) → writer_going p ≡ o
          → (e : Next) × CanHappen tells r oracle w e × (lies_ahead p (Some e) ≡ false)
      go (Some next.Write) e = (next.Write, write_true tells r run oracle w p st sh e, refl)
      go (Some next.End) e = (next.End, end_true tells r run oracle w p st sh e, refl)
      go (Some (next.Part k)) e = absurd (no_part p.over (all_in p) (all_stand p) k e)
      go None e = (next.Part p.hind, hind_can going e, hind_before going e)
