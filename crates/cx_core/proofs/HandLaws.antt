-- Where wires tell, what the core hands out is the undivided run's.
use Rattle.std.proofs.Common.{◌≡◌, ℕ, ◌+◌, ◌%◌, ◌^◌, ◌<◌, ◌≤◌, ◌⊎◌, inl, inr, Bool, true, false, ℤ, pos, List, [], ◌∷◌, length, get_or, slice_get, Option, Some, None, arith, refl, sym, ap, ◌∙◌, subst}
use Rattle.std.specs.Prelude.{if◌then◌else◌}
use Rattle.std.specs.List.{AllZip}
use Rattle.std.proofs.lemmas.Bool.{cases_eq, cases_lt}
use Rattle.cx_grid.specs.Boxes.{point_count}
use Rattle.cx_grid.specs.Grid.{whole}
use Rattle.cx_plan.specs.declared.variable.VarId.{VarId}
use Rattle.cx_plan.specs.declared.variable.VarInfo.{VarInfo}
use Rattle.cx_plan.specs.Lookups.{is_scalar, levels_of, no_variable}
use Rattle.cx_rule.specs.States.{State, level_of, scalar_of}
use Rattle.cx_rule.specs.Meter.{raised}
use Rattle.cx_model.specs.declared.ends.End.{End}
use Rattle.cx_model.specs.declared.ends.End.TheVariants as ends
use Rattle.cx_model.specs.Traces.{Wrote, Trace}
use Rattle.cx_wire.specs.Received.{counted}
use Rattle.cx_flat.specs.declared.op.Op.{Op}
use Rattle.cx_flat.specs.declared.op.Op.TheVariants.{Sweep, Apply, Give, Join, Post, Take, Test, Open, Turn, Again, Rotate, Due, Written, Skip, Next, Piece, Save, Halt}
use Rattle.cx_flat.specs.Flats.{Flat}
use Rattle.cx_field.specs.Patches.{PatchValue}
use Rattle.cx_model.specs.Runs.{Lengths}
use Rattle.law_network.specs.Machine.{World}
use Rattle.cx_core_buffers.specs.Gathering.{Buffers, HasPiece, piece_of}
use Rattle.cx_core_buffers.specs.Pieces.{HoldsPiece}
use Rattle.law_parts.specs.Ends.{EndsBy}
use Rattle.law_parts.specs.Holding.{Held}
use Rattle.law_parts.specs.Moves.{Message, Channel}
use Rattle.law_parts.specs.Nets.{only_level}
use Rattle.law_parts.specs.Runs.{Run, Oracle, cut_of, parts_in, next_op, undivided, op_of, notes_of, guided, last_of}
use Rattle.law_parts.specs.Truths.{entries_of}
use Rattle.cx_core_part.specs.Exchanges.{ShowsMessage, ShowsQueue}
use Rattle.law_reached.specs.Endings.{end_met_by, EndsAsRun}
use Rattle.law_reached.specs.Sums.{TotalsMatch}
use Rattle.law_reached.specs.Works.{MakesWork, works_of, handed_out}
use Rattle.cx_core.specs.declared.answers.Outcome.TheVariants as out
use Rattle.cx_core.specs.Cores.{outcome_of}
use Rattle.cx_core.specs.Hands.{whole_piece, ended_as, number_in, HasScalar, HasScalarIn, IsDone, Tells}
use Rattle.cx_core.specs.Laws.{RunLaws}
use Rattle.cx_core.specs.Shows.{OverAs}
use Rattle.cx_core.specs.Steps.{Counts, Standing, IsAt}
use Rattle.cx_core.specs.Texts.{text_of_piece}
use Rattle.cx_core.proofs.PieceLaws.{gathered, text_made}

some_is : {X : Type 0} (x y : X) → Some x ≡ Some y → x ≡ y
some_is x y e = cc

none_some : {X : Type 0} (y : X) → None ≡ Some y → ⊥
none_some y e = cc

-- a list of one number
one_number : (xs : List ℤ) (d : ℤ) → length xs ≡ 1 → xs ≡ get_or xs 0 d ∷ []
one_number [] d e = absurd (omega (arith, e))
one_number (x ∷ []) d e = refl
one_number (x ∷ y ∷ ys) d e = absurd (omega (arith, e))

first_there : {X : Type 0} (xs : List X) (n : ℕ) → length xs ≡ n → 0 < n
    → (x : X) × (slice_get xs 0 ≡ Some x)
first_there [] n e l = absurd (omega (arith, e, l))
first_there (x ∷ xs) n e l = (x, refl)

-- ---- a text

module _ (tells : Type 0) (t : tells) (r : Run) (trace : Trace) (laws : RunLaws tells r trace)
    (n : ℕ) (pieces : ℕ → List (Message tells)) (makes : MakesWork t r n pieces)
    (b : Buffers) (v : VarId) (op : op_of r n ≡ Piece v) (room : HasPiece r.setup b v)
    (held : (k : ℕ) → k < parts_in r
    → HoldsPiece r.setup (cut_of r) b v k (only_level t (pieces k))) where
  abbrev now : State
  now = (undivided r n).state

  pub text_entry : entries_of (notes_of r n)
      ≡ Wrote v (undivided r n).control.iteration
      (text_of_piece r.setup (undivided r n).control.iteration v (piece_of b v)) now ∷ []
  text_entry =
      makes.text v (text_of_piece r.setup (undivided r n).control.iteration v (piece_of b v)) op
      (text_made tells t r laws.cut pieces b v room held laws.some_part
      (undivided r n).control.iteration)

  pub piece_is : piece_of b v ≡ whole_piece r.setup v now
  piece_is = go (is_scalar r.setup v) refl
    where
      go : (c : Bool) → is_scalar r.setup v ≡ c
          → piece_of b v ≡ (if c then scalar_of now v ∷ [] else level_of now v 0)
      go true e =
          one_number (piece_of b v) (pos 0)
          (room.room ∙ ap (λ (c : Bool). if c then 1 else point_count (whole r.setup.shape)) e)
          ∙ ap (λ x. x ∷ []) ((held 0 laws.some_part).scalar e refl
          ∙ ap (λ xs. get_or xs 0 (pos 0)) (makes.scalar v op e))
      go false e = makes.level v (piece_of b v) op e
          (gathered tells t r laws.cut pieces b v room held laws.some_part e)

-- ---- the end

not_done : (r : Run) (o : Op) (iteration : ℕ) → end_met_by r o iteration ≡ Some ends.Done → ⊥
not_done r (Sweep k) i e = cc
not_done r (Apply k) i e = cc
not_done r (Join k) i e = cc
not_done r (Turn v path skip) i e = cc
not_done r (Piece v) i e = cc
not_done r (Give k) i e = cc
not_done r (Post d vars) i e = cc
not_done r (Take d vars path) i e = cc
not_done r (Test v path skip) i e = cc
not_done r Open i e = cc
not_done r (Again back) i e = cc
not_done r Rotate i e = cc
not_done r (Due skip) i e = cc
not_done r (Written skip) i e = cc
not_done r (Skip skip) i e = cc
not_done r (Next back) i e = cc
not_done r Save i e = cc
not_done r Halt i e = cc

done_end : (end : End) → outcome_of (Some end) ≡ out.Done → end ≡ ends.Done
done_end ends.Done e = refl
done_end (ends.Overflow iteration path) e = cc
done_end (ends.WhileLimit iteration path) e = cc
done_end (ends.OutputLimit iteration) e = cc

nothing : {A B : Type 0} (R : A → B → Type 0) (xs : List A) → AllZip R xs [] → xs ≡ []
nothing R [] z = refl
nothing R (x ∷ xs) z = absurd z

by_none : (outcome : _) → EndsBy None outcome → ended_as outcome ≡ out.Done
by_none outcome e = ap ended_as e.1

module _ (tells : Type 0) (t : tells) (r : Run) (trace : Trace) (laws : RunLaws tells r trace)
    (first : Counts) (is : Standing tells) (at : IsAt tells r first is.core is.queue is.now) where
  abbrev w : World Held (Message tells) Channel Lengths
  w = at.world

  abbrev o : Oracle
  o = at.oracle

  module _ (n : ℕ) (over : w.over ≡ Some n) where
    abbrev ends_so : EndsAsRun r trace o w n
    ends_so = laws.ends t o w at.reached n over

    over_as : OverAs r o (Some n) is.core.outcome
    over_as = subst (λ x. OverAs r o x is.core.outcome) over at.shows.over

    same_end : end_met_by r (next_op r (guided r o n).control) (guided r o n).control.iteration
        ≡ end_met_by r (op_of r n) (undivided r n).control.iteration
    same_end = ap (λ (g : Flat). end_met_by r (next_op r g.control) g.control.iteration)
        (laws.way t o w at.reached n)

    pub outcome_is : is.core.outcome ≡ ended_as trace.outcome
    outcome_is = go (cases_eq n (last_of r o))
      where
        go : (n ≡ last_of r o) ⊎ (n ≡ last_of r o → ⊥) → is.core.outcome ≡ ended_as trace.outcome
        go (inl e) = over_as.0 e ∙ sym (by_none trace.outcome (ends_so.last e))
        go (inr e) =
            let mine = over_as.1 e in
            let runs = ends_so.earlier e in
            mine.2 ∙ ap (λ x. outcome_of (Some x))
            (some_is mine.0 runs.0 (sym mine.1 ∙ same_end ∙ runs.1)) ∙ sym (ap ended_as runs.2)

    pub works_are : works_of trace.entries ≡ handed_out r w
    works_are = ends_so.works

    -- at the last place
    module _ (done : is.core.outcome ≡ out.Done) where
      at_last : n ≡ last_of r o
      at_last = go (cases_eq n (last_of r o))
        where
          go : (n ≡ last_of r o) ⊎ (n ≡ last_of r o → ⊥) → n ≡ last_of r o
          go (inl e) = e
          go (inr e) =
              let mine = over_as.1 e in
              absurd (not_done r (next_op r (guided r o n).control) (guided r o n).control.iteration
              (mine.1 ∙ ap Some (done_end mine.0 (sym mine.2 ∙ done))))

      matches : TotalsMatch t r trace o w
      matches = laws.done t o w at.reached (over ∙ ap Some at_last)

      none_in : (a b : ℕ) → (a < parts_in r) ⊎ (parts_in r ≤ a)
          → (b < parts_in r) ⊎ (parts_in r ≤ b) → is.queue a b ≡ []
      none_in a b (inl l) (inl m) =
          nothing ShowsMessage (is.queue a b)
          (subst (λ q. ShowsQueue (is.queue a b) q) (matches.wires a b l m)
          (at.shows.wires a b l m))
      none_in a b (inl l) (inr m) = at.shows.others a b (λ i j. omega (arith, m, j))
      none_in a b (inr l) c = at.shows.others a b (λ i j. omega (arith, l, i))

      pub is_done : IsDone tells r trace first is
      is_done = record {
        totals = record {
          points = at.points ∙ ap (raised first.points) matches.counts.points;
          values = at.values ∙ ap (counted first.values) matches.counts.received;
          sum = at.sum t ∙ ap (λ s. (first.sum + s) % 2 ^ 64) matches.sum;
        };
        none_left = λ a b. none_in a b (cases_lt a (parts_in r)) (cases_lt b (parts_in r));
        last = λ state v e scalar.
            let p = first_there is.core.patches (parts_in r) at.shows.count laws.some_part in
            ap (λ (x : Option PatchValue). number_in x v) p.1
            ∙ ap (λ ns. scalar_of ns v) (at.shows.patches 0 p.0 p.1).numbers
            ∙ ends_so.scalars at_last state e 0 v laws.some_part scalar;
      }

  going_still : {n : ℕ} → None ≡ Some n → ⊥
  going_still e = cc

  pub tells_all : Tells tells r trace first is
  tells_all = go w.over refl
    where
      going : w.over ≡ None → is.core.outcome ≡ out.Going
      going e = subst (λ x. OverAs r o x is.core.outcome) e at.shows.over

      clash : out.Going ≡ out.Done → ⊥
      clash e = cc

      go : (x : Option ℕ) → w.over ≡ x → Tells tells r trace first is
      go None e = record {
        ended = λ never. absurd (never (going e));
        done = λ d. absurd (clash (sym (going e) ∙ d));
      }
      go (Some n) e = record { ended = λ h. outcome_is n e; done = is_done n e }

-- ---- scalars

module _ (tells : Type 0) (r : Run) (trace : Trace) (laws : RunLaws tells r trace) (first : Counts)
    (is : Standing tells) (at : IsAt tells r first is.core is.queue is.now) where
  pub scalar_there : (v : VarId) → v.0 < length r.setup.vars → 0 < levels_of r.setup v
      → is_scalar r.setup v ≡ true → HasScalar is.core v
  scalar_there v l stored scalar =
      let p = first_there is.core.patches (parts_in r) at.shows.count laws.some_part in
      let vars : p.0.vars ≡ r.setup.vars = (at.shows.patches 0 p.0 p.1).frame.patch.vars in
      subst (λ (x : Option PatchValue). HasScalarIn x v) (sym p.1)
      (record {
        var = subst (λ (vs : List VarInfo). v.0 < length vs) (sym vars) l;
        stored = subst (λ (vs : List VarInfo). 0 < (get_or vs v.0 no_variable).levels) (sym vars)
            stored;
        scalar = ap (λ (vs : List VarInfo). (get_or vs v.0 no_variable).scalar) vars ∙ scalar;
      })
