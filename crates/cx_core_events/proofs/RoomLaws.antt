-- The works that a part has handed in and that aren't done are those of the places between the
-- writer's and its own; and when there is room for its next one.
use Rattle.std.proofs.Common.{◌≡◌, ℕ, ◌+◌, ◌-◌, ◌<◌, ◌≤◌, Bool, true, false, not, List, ◌++◌, length, take, Option, Some, None, refl, sym, ap, ◌∙◌, arith, length-append, append_assoc, eq-eqb}
use Rattle.std.specs.List.{list_any}
use Rattle.std.proofs.lemmas.Bool.{both_ways, eqb-true}
use Rattle.cx_plan.specs.declared.variable.VarId.{VarId}
use Rattle.cx_flat.specs.declared.op.Op.{Op}
use Rattle.cx_flat.specs.declared.op.Op.TheVariants as op
use Rattle.law_parts.specs.Laws.{IsReachedState}
use Rattle.law_parts.specs.Moves.{buffer_of}
use Rattle.law_parts.specs.Operations.{NamesWell}
use Rattle.law_parts.specs.Runs.{Run, Oracle, parts_in, next_op, guided}
use Rattle.law_parts.proofs.ListLaws.{not_true}
use Rattle.law_parts.proofs.WholeRun.{IsRun, names_at}
use Rattle.cx_core_events.specs.declared.standing.Work.{Work}
use Rattle.cx_core_events.specs.Paces.{Paces, part_of, op_of, iteration_of}
use Rattle.cx_core_events.specs.Events.{work_of, same_buffer, is_room, has_room}
use Rattle.cx_core_events.specs.Shows.{State, ShowsPace, works_before}
use Rattle.cx_core_events.proofs.StandLaws.{op_is}
use Rattle.cx_core_events.proofs.WorkLaws.{works_from, before_upto, same_tail, take_front, any_place, place_any}

-- ---- buffers of works

abbrev pub buffer_by : Run → Option VarId → ℕ
buffer_by r None = length r.setup.vars
buffer_by r (Some v) = v.0

abbrev pub IsStored : Run → Option VarId → Type 0
IsStored r None = Unit {0}
IsStored r (Some v) = v.0 < length r.setup.vars

same_told : (r : Run) (a b : Option VarId) → same_buffer a b ≡ true → buffer_by r a ≡ buffer_by r b
same_told r None None e = refl
same_told r None (Some w) e = absurd cc
same_told r (Some v) None e = absurd cc
same_told r (Some v) (Some w) e = eqb-true v.0 w.0 e

told_same : (r : Run) (a b : Option VarId) → IsStored r a → IsStored r b
    → buffer_by r a ≡ buffer_by r b → same_buffer a b ≡ true
told_same r None None f g e = refl
told_same r None (Some w) f g e = absurd (omega (arith, g, e))
told_same r (Some v) None f g e = absurd (omega (arith, f, e))
told_same r (Some v) (Some w) f g e = eq-eqb v.0 w.0 e

some_none : {A : Type 0} (x : A) → None ≡ Some x → ⊥
some_none x e = cc

same_some : {A : Type 0} (x y : A) → Some x ≡ Some y → x ≡ y
same_some x y e = cc

-- the work of an operation with a buffer
pub record HasWork (r : Run) (o : Op) (iteration b : ℕ) : Type 0 where
  pub work : Work
  pub is : work_of o iteration ≡ Some work
  pub buffer : buffer_by r work.var ≡ b
  pub stored : IsStored r work.var

pub has_work : (r : Run) (o : Op) (iteration b : ℕ) → NamesWell r.setup o → buffer_of r o ≡ Some b
    → HasWork r o iteration b
has_work r (op.Sweep k) iteration b names e = absurd (some_none b e)
has_work r (op.Apply k) iteration b names e = absurd (some_none b e)
has_work r (op.Give k) iteration b names e = absurd (some_none b e)
has_work r (op.Join k) iteration b names e = absurd (some_none b e)
has_work r (op.Post d vars) iteration b names e = absurd (some_none b e)
has_work r (op.Take d vars path) iteration b names e = absurd (some_none b e)
has_work r (op.Test v path skip) iteration b names e = absurd (some_none b e)
has_work r op.Open iteration b names e = absurd (some_none b e)
has_work r (op.Turn v path skip) iteration b names e = absurd (some_none b e)
has_work r (op.Again back) iteration b names e = absurd (some_none b e)
has_work r op.Rotate iteration b names e = absurd (some_none b e)
has_work r (op.Due skip) iteration b names e = absurd (some_none b e)
has_work r (op.Written skip) iteration b names e = absurd (some_none b e)
has_work r (op.Skip skip) iteration b names e = absurd (some_none b e)
has_work r (op.Next back) iteration b names e = absurd (some_none b e)
has_work r (op.Piece v) iteration b names e =
    record {
      work = record { var = Some v; iteration = iteration };
      is = refl;
      buffer = same_some v.0 b e;
      stored = names.0;
    }
has_work r op.Save iteration b names e =
    record {
      work = record { var = None; iteration = iteration };
      is = refl;
      buffer = same_some (length r.setup.vars) b e;
      stored = tt;
    }
has_work r op.Halt iteration b names e = absurd (some_none b e)

pub has_buffer : (r : Run) (o : Op) (iteration : ℕ) (work : Work) → work_of o iteration ≡ Some work
    → buffer_of r o ≡ Some (buffer_by r work.var)
has_buffer r (op.Sweep k) iteration work e = absurd (some_none work e)
has_buffer r (op.Apply k) iteration work e = absurd (some_none work e)
has_buffer r (op.Give k) iteration work e = absurd (some_none work e)
has_buffer r (op.Join k) iteration work e = absurd (some_none work e)
has_buffer r (op.Post d vars) iteration work e = absurd (some_none work e)
has_buffer r (op.Take d vars path) iteration work e = absurd (some_none work e)
has_buffer r (op.Test v path skip) iteration work e = absurd (some_none work e)
has_buffer r op.Open iteration work e = absurd (some_none work e)
has_buffer r (op.Turn v path skip) iteration work e = absurd (some_none work e)
has_buffer r (op.Again back) iteration work e = absurd (some_none work e)
has_buffer r op.Rotate iteration work e = absurd (some_none work e)
has_buffer r (op.Due skip) iteration work e = absurd (some_none work e)
has_buffer r (op.Written skip) iteration work e = absurd (some_none work e)
has_buffer r (op.Skip skip) iteration work e = absurd (some_none work e)
has_buffer r (op.Next back) iteration work e = absurd (some_none work e)
has_buffer r (op.Piece v) iteration work e =
    ap (λ (x : Work). Some (buffer_by r x.var))
    (same_some (record { var = Some v; iteration = iteration }) work e)
has_buffer r op.Save iteration work e =
    ap (λ (x : Work). Some (buffer_by r x.var))
    (same_some (record { var = None; iteration = iteration }) work e)
has_buffer r op.Halt iteration work e = absurd (some_none work e)

-- ---- what was handed in

module _ (tells : Type 0) (r : Run) (run : IsRun r) (oracle : Oracle) (w : State tells) (p : Paces)
    (st : IsReachedState tells r oracle w) (sh : ShowsPace tells r oracle w p) where
  -- all works that aren't done
  pub works_are : p.works ≡ works_from r oracle w.wrote (w.place sh.foremost - w.wrote)
  works_are =
      same_tail (works_before r oracle w.wrote) p.works
      (works_from r oracle w.wrote (w.place sh.foremost - w.wrote))
      (sym sh.works ∙ before_upto r oracle w.wrote (w.place sh.foremost)
      (st.woven.behind sh.foremost sh.foremost_part))

  handed_length : (k : ℕ) → k < parts_in r
      → (part_of p k).handed ≡ length (works_from r oracle w.wrote (w.place k - w.wrote))
  handed_length k l =
      omega (
        arith,
        sh.handed k l,
        ap length (before_upto r oracle w.wrote (w.place k) (st.woven.behind k l)),
        length-append (works_before r oracle w.wrote)
            (works_from r oracle w.wrote (w.place k - w.wrote)),
      )

  pub handed_is : (k : ℕ) → k < parts_in r
      → (part_of p k).handed ≡ length (works_from r oracle w.wrote (w.place k - w.wrote))
  handed_is = handed_length

  pub taken_is : (k : ℕ) → k < parts_in r
      → take (part_of p k).handed p.works ≡ works_from r oracle w.wrote (w.place k - w.wrote)
  taken_is k l =
      let rest = works_from r oracle (w.place k) (w.place sh.foremost - w.place k) in
      let mine = works_from r oracle w.wrote (w.place k - w.wrote) in
      let e : p.works ≡ mine ++ rest =
      same_tail (works_before r oracle w.wrote) p.works (mine ++ rest)
      (sym sh.works ∙ before_upto r oracle (w.place k) (w.place sh.foremost) (sh.behind k l)
      ∙ ap (λ xs. xs ++ rest) (before_upto r oracle w.wrote (w.place k) (st.woven.behind k l))
      ∙ append_assoc (works_before r oracle w.wrote) mine rest) in
      ap (take (part_of p k).handed) e
      ∙ take_front mine rest (part_of p k).handed (handed_length k l)

  abbrev Room : ℕ → Type 0
  Room k = (b m : ℕ) → buffer_of r (next_op r (w.held k).control) ≡ Some b → w.wrote ≤ m
      → m < w.place k → buffer_of r (next_op r (guided r oracle m).control) ≡ Some b → ⊥

  pub work_is : (k : ℕ) → k < parts_in r
      → work_of (op_of p k) (iteration_of p k)
      ≡ work_of (next_op r (w.held k).control) (w.held k).control.iteration
  work_is k l = ap (λ o. work_of o (iteration_of p k)) (op_is tells r run oracle w p st sh k l)
      ∙ ap (λ c. work_of (next_op r (w.held k).control) c.iteration) (sh.parts k l).place

  room_is : (k : ℕ) → k < parts_in r
      → has_room p k ≡ is_room (work_of (next_op r (w.held k).control) (w.held k).control.iteration)
      (works_from r oracle w.wrote (w.place k - w.wrote))
  room_is k l = ap (λ o. is_room o (take (part_of p k).handed p.works)) (work_is k l)
      ∙ ap (is_room (work_of (next_op r (w.held k).control) (w.held k).control.iteration))
      (taken_is k l)

  abbrev Same : Work → Work → Bool
  Same mine x = same_buffer x.var mine.var

  between : (k : ℕ) → k < parts_in r → w.wrote + (w.place k - w.wrote) ≡ w.place k
  between k l = let h = st.woven.behind k l in omega (arith, h)

  pub room_true : (k : ℕ) → k < parts_in r → has_room p k ≡ true → Room k
  room_true k l e b m mine from upto theirs =
      let x = has_work r (next_op r (w.held k).control) (w.held k).control.iteration b
      (names_at r run (w.held k).control.pc) mine in
      let y = has_work r (next_op r (guided r oracle m).control)
      (guided r oracle m).control.iteration b (names_at r run (guided r oracle m).control.pc)
      theirs in
      let works = works_from r oracle w.wrote (w.place k - w.wrote) in
      both_ways (list_any (Same x.work) works)
      (not_true (list_any (Same x.work) works)
      (ap (λ o. is_room o works) (sym x.is) ∙ sym (room_is k l) ∙ e))
      (place_any r oracle (Same x.work) w.wrote (w.place k - w.wrote) (record {
        place = m;
        from = from;
        upto = let h = between k l in omega (arith, upto, h);
        work = y.work;
        is = y.is;
        passes = told_same r y.work.var x.work.var y.stored x.stored (y.buffer ∙ sym x.buffer);
      }))

  pub true_room : (k : ℕ) → k < parts_in r → Room k → has_room p k ≡ true
  true_room k l room = room_is k l
      ∙ go (work_of (next_op r (w.held k).control) (w.held k).control.iteration) refl
    where
      works : List Work
      works = works_from r oracle w.wrote (w.place k - w.wrote)

      go : (o : Option Work) → work_of (next_op r (w.held k).control) (w.held k).control.iteration
          ≡ o → is_room o works ≡ true
      go None e = refl
      go (Some x) e = by (list_any (Same x) works) refl
        where
          by : (b : Bool) → list_any (Same x) works ≡ b → not b ≡ true
          by false f = refl
          by true f =
              let y = any_place r oracle (Same x) w.wrote (w.place k - w.wrote) f in
              absurd (room (buffer_by r x.var) y.place
              (has_buffer r (next_op r (w.held k).control) (w.held k).control.iteration x e)
              y.from
              (let u = y.upto in let h = between k l in omega (arith, u, h))
              (has_buffer r (next_op r (guided r oracle y.place).control)
              (guided r oracle y.place).control.iteration y.work y.is
              ∙ ap Some (same_told r y.work.var x.var y.passes)))
