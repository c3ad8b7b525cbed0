-- Where wires tell, what has been handed out are always the first works of the undivided run.
use Rattle.std.proofs.Common.{◌≡◌, ℕ, suc, ◌<◌, ◌≤◌, ◌⊎◌, inl, inr, Bool, true, false, ◌||◌, List, [], ◌∷◌, ◌++◌, length, drop, Option, Some, None, is_some, refl, sym, ap, ◌∙◌, subst, arith, append_assoc}
use Rattle.std.specs.List.{list_any, range_with_len}
use Rattle.std.proofs.lemmas.Bool.{cases_lt}
use Rattle.std.proofs.lemmas.List.{append_cancel_left, drop_at}
use Rattle.cx_rule.specs.States.{State}
use Rattle.cx_model.specs.Runs.{Lengths, lengths_behind}
use Rattle.cx_model.specs.Traces.{Entry, Saved, Trace}
use Rattle.cx_flat.specs.declared.op.Op.{Op}
use Rattle.cx_flat.specs.declared.op.Op.TheVariants.{Save}
use Rattle.cx_flat.specs.Code.{code}
use Rattle.cx_flat.specs.Flats.{Flat, flat_from, notes_at}
use Rattle.cx_flat.specs.Laws.{RunsAs}
use Rattle.law_network.specs.Machine.{World, Event, Part, Write, End, Can, After, IsNext, IsWork, fronts}
use Rattle.law_network.proofs.Writer.{next_piece}
use Rattle.law_parts.specs.Ends.{noted, met_of}
use Rattle.law_parts.specs.Holding.{Held}
use Rattle.law_parts.specs.Laws.{IsReachedState}
use Rattle.law_parts.specs.Moves.{Message, Channel, buffer_of}
use Rattle.law_parts.specs.Nets.{net, within_lead}
use Rattle.law_parts.specs.Runs.{Run, Oracle, parts_in, next_op, undivided, op_of, notes_of, last_of}
use Rattle.law_parts.specs.Truths.{script, entries_of, is_faulty, passes_limit, is_full, ends_at, Agrees, GivesAt, Books}
use Rattle.law_parts.proofs.EndPlaces.{entries_at}
use Rattle.law_parts.proofs.EndTiles.{tiles_meet}
use Rattle.law_parts.proofs.FitLaws.{some_part}
use Rattle.law_parts.proofs.WholeRun.{IsRun, names_at}
use Rattle.law_parts.proofs.StepLaws.{steps_keep}
use Rattle.law_parts.proofs.TraceTotals.{entries_both}
use Rattle.law_reached.specs.Works.{works_of, handed_out, works_left, MakesWork, HandsOut, SavesAt, KeepsWorks, WorksInOrder, OneWay, BookIsLengths}
use Rattle.law_reached.proofs.PieceWorks.{makes_work}
use Rattle.law_reached.proofs.SilentWorks.{works_both, lengths_same, works_next, works_still, one_work, lengths_are}
use Rattle.law_reached.proofs.TellLaws.{fits, way, end_within, end_place, through, wrote_before, quiet_before, quiet_next, next_place, count_is}

neither : (a b : Bool) → a ≡ false → b ≡ false → (a || b) ≡ false
neither true b e f = e
neither false b e f = f

inside : (n l c : ℕ) → n < l → l ≡ c → suc n ≤ c
inside n l c h e = omega (arith, h, e)

not_both : {n : ℕ} {o : Option ℕ} → o ≡ None → o ≡ Some n → ⊥
not_both e f = cc

module _ (tells : Type 0) (r : Run) (run : IsRun r) (o : Oracle)
    (w : World Held (Message tells) Channel Lengths) (st : IsReachedState tells r o w) (t : tells)
  where
    -- ---- the works of the run by places

    work_there : (n : ℕ) → IsWork (net tells within_lead r o) n
        → (b : ℕ) × (buffer_of r (op_of r n) ≡ Some b)
    work_there n q = (
      q.0,
      ap (λ (g : Flat). buffer_of r (next_op r g.control))
          (sym (way tells r run o st.oracle_is t n)) ∙ q.1,
    )

    no_work : (n : ℕ) → (IsWork (net tells within_lead r o) n → ⊥) → buffer_of r (op_of r n) ≡ None
    no_work n none = go (buffer_of r (op_of r n)) refl
      where
        go : (b : Option ℕ) → buffer_of r (op_of r n) ≡ b → buffer_of r (op_of r n) ≡ None
        go None e = e
        go (Some b) e =
            absurd
            (none (
              b,
              ap (λ (g : Flat). buffer_of r (next_op r g.control))
                  (way tells r run o st.oracle_is t n) ∙ e,
            ))

    -- up to the next work there is none
    pub works_upto : (n : ℕ) → w.wrote ≤ n
        → ((m : ℕ) → w.wrote ≤ m → m < n → IsWork (net tells within_lead r o) m → ⊥)
        → works_of (entries_of (noted r n)) ≡ handed_out r w
    works_upto n l none = works_still r w.wrote n l (λ m x y. no_work m (none m x y))

    added : (n : ℕ) → IsNext (net tells within_lead r o) w n
        → works_of (entries_of (noted r (suc n))) ≡ handed_out r w ++ entries_of (notes_of r n)
    added n nx =
        let q = work_there n nx.work in
        works_next r n ∙ ap (λ (es : List Entry). es ++ works_of (entries_of (notes_of r n)))
        (works_upto n nx.after_wrote nx.none_before)
        ∙ ap (λ (es : List Entry). handed_out r w ++ es)
        (one_work r (op_of r n) (undivided r n).control (undivided r n).state q.0 q.1)

    -- ---- events

    by_work : (n : ℕ) (v : World Held (Message tells) Channel Lengths)
        → IsNext (net tells within_lead r o) w n → After (net tells within_lead r o) w (Write n) v
        → v.over ≡ None
        → handed_out r v ≡ handed_out r w ++ entries_of (notes_of r n)
    by_work n v nx (inl a) e = ap (handed_out r) a.2 ∙ added n nx
    by_work n v nx (inr a) e = absurd (not_both e (ap (λ u. u.over) a.1))

    by_part : (k : ℕ) (v : World Held (Message tells) Channel Lengths)
        → After (net tells within_lead r o) w (Part k) v → handed_out r v ≡ handed_out r w
    by_part k v (inl a) = ap (handed_out r) a.2
    by_part k v (inr a) = ap (handed_out r) a.2

    by_end : (n : ℕ) (e : Event) (v : World Held (Message tells) Channel Lengths)
        → Can (net tells within_lead r o) w e → After (net tells within_lead r o) w e v
        → v.over ≡ Some n → handed_out r v ≡ handed_out r w
    by_end n (Part k) v can a e = by_part k v a
    by_end n (Write m) v can (inl a) e = absurd (not_both (ap (λ u. u.over) a.2 ∙ can.going) e)
    by_end n (Write m) v can (inr a) e = ap (handed_out r) a.1
    by_end n End v can a e = ap (handed_out r) a

    makes : (n : ℕ) → IsNext (net tells within_lead r o) w n → MakesWork t r n (fronts w)
    makes n nx =
        makes_work tells r run o st.oracle_is t n (fronts w)
        (λ k l. (next_piece (net tells within_lead r o) (script tells r o) (Agrees tells r o)
        (GivesAt r o) (Books tells r) (fits tells r run o st.oracle_is t) w st.woven n nx k l).0)

    -- ---- the length

    pub book_is : w.book ≡ lengths_behind r.so_far (handed_out r w)
    book_is = st.woven.book t ∙ lengths_are r w.wrote
        ∙ sym (lengths_same r.so_far (entries_of (noted r w.wrote)))

    module _ (trace : Trace) (runs : RunsAs r.setup r.rules r.first r.so_far trace) where
      abbrev last_state : State
      last_state = (flat_from r.setup r.rules (code r.setup) runs.count r.first).state

      first : (later : List Entry) × (works_of trace.entries ≡ handed_out r w ++ later)
      first =
          let e = entries_at r run (some_part r run) last_state trace runs refl w.wrote
          (through w.wrote (end_place tells r run o st.oracle_is t) runs.count
          (wrote_before tells r run o w st t)
          (end_within tells r run o st.oracle_is t trace runs))
          (quiet_before tells r run o w st t) in
          (works_of e.0, ap works_of e.1 ∙ works_both (entries_of (noted r w.wrote)) e.0)

      left_is : works_left r trace w ≡ first.0
      left_is = ap (drop (length (handed_out r w))) first.1
          ∙ drop_at (handed_out r w) first.0 (length (handed_out r w)) refl

      pub all_works : works_of trace.entries ≡ handed_out r w ++ works_left r trace w
      all_works = first.1 ∙ ap (λ (es : List Entry). handed_out r w ++ es) (sym left_is)

      -- ---- a checkpoint place

      -- no end is met there
      quiet_save : (n : ℕ) → op_of r n ≡ Save → ends_at r n ≡ false
      quiet_save n e =
          neither (list_any (λ k. is_faulty r k (op_of r n) (undivided r n))
          (range_with_len 0 (parts_in r))) (is_full r n)
          (tiles_meet r run (some_part r run) (op_of r n) (undivided r n)
          (names_at r run (undivided r n).control.pc)
          ∙ ap (λ (q : Op). is_some
          (met_of (notes_at r.setup r.rules q (undivided r n).control (undivided r n).state))) e)
          (ap (passes_limit r n) e)

      quiet_upto : (n : ℕ) → IsNext (net tells within_lead r o) w n → op_of r n ≡ Save → (j : ℕ)
          → j < suc n → ends_at r j ≡ false
      quiet_upto n nx e j l = go (cases_lt j n)
        where
          go : (j < n) ⊎ (n ≤ j) → ends_at r j ≡ false
          go (inl h) = quiet_next tells r run o w st t n nx j h
          go (inr h) = let same : j ≡ n = omega (arith, h, l) in
              subst (λ m. ends_at r m ≡ false) (sym same) (quiet_save n e)

      saves : (n : ℕ) → IsNext (net tells within_lead r o) w n → op_of r n ≡ Save
          → SavesAt r trace n w.book
      saves n nx e =
          let at = entries_at r run (some_part r run) last_state trace runs refl (suc n)
          (inside n (last_of r o) runs.count (next_place tells r run o w st t n nx)
          (count_is tells r run o st.oracle_is t trace runs)) (quiet_upto n nx e) in
          record {
            earlier = entries_of (noted r n);
            later = at.0;
            there = at.1 ∙ ap (λ (es : List Entry). es ++ at.0)
                (entries_both (noted r n) (notes_of r n))
                ∙ ap (λ (q : Op). entries_of (noted r n)
                ++ entries_of (notes_at r.setup r.rules q (undivided r n).control
                (undivided r n).state) ++ at.0) e
                ∙ append_assoc (entries_of (noted r n))
                (Saved (undivided r n).control.iteration (undivided r n).state ∷ []) at.0;
            lengths = book_is
                ∙ ap (lengths_behind r.so_far) (sym (works_upto n nx.after_wrote nx.none_before))
                ∙ lengths_same r.so_far (entries_of (noted r n));
          }

module _ (tells : Type 0) (r : Run) (run : IsRun r) (trace : Trace)
    (runs : RunsAs r.setup r.rules r.first r.so_far trace) (o : Oracle)
    (w : World Held (Message tells) Channel Lengths) (st : IsReachedState tells r o w) (t : tells)
  where
    hands_out : (n : ℕ) (v : World Held (Message tells) Channel Lengths)
        → IsNext (net tells within_lead r o) w n → After (net tells within_lead r o) w (Write n) v
        → v.over ≡ None → HandsOut r trace n w v
    hands_out n v nx a going =
        let new = (steps_keep tells r run).keeps o w v (Write n) st nx a in
        let added = by_work tells r run o w st t n v nx a going in
        record {
          added = added;
          left = append_cancel_left (handed_out r w) (works_left r trace w)
              (entries_of (notes_of r n) ++ works_left r trace v)
              (sym (all_works tells r run o w st t trace runs)
              ∙ all_works tells r run new.0 v new.1 t trace runs
              ∙ ap (λ (es : List Entry). es ++ works_left r trace v) added
              ∙ append_assoc (handed_out r w) (entries_of (notes_of r n)) (works_left r trace v));
        }

    pub keeps_works : KeepsWorks t r trace o w
    keeps_works = record {
      first = all_works tells r run o w st t trace runs;
      makes = makes tells r run o w st t;
      saves = saves tells r run o w st t trace runs;
      work = λ n v nx a e. hands_out n v nx a e;
      over = by_end tells r run o w st t;
      part = λ k v can a. by_part tells r run o w st t k v a;
    }

module _ (tells : Type 0) (r : Run) (run : IsRun r) where
  pub one_way : OneWay tells r
  one_way t o w st = way tells r run o st.oracle_is t

  pub book_is_lengths : BookIsLengths tells r
  book_is_lengths t o w st = book_is tells r run o w st t

  pub works_in_order : (trace : Trace) → RunsAs r.setup r.rules r.first r.so_far trace
      → WorksInOrder tells r trace
  works_in_order trace runs t o w st = keeps_works tells r run trace runs o w st t
