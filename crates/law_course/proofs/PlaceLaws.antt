-- The checkpoints among a run's entries, and that they rise.
use Rattle.std.proofs.Common.{◌≡◌, ℕ, zero, suc, ◌<◌, ◌≤◌, refl, sym, ap, ◌∙◌, subst, true, List, [], ◌∷◌, ◌++◌, inl, inr, length, get_or, append_assoc, lt_trans, le_of_eq, arith, true≢false}
use Rattle.std.specs.Prelude.{slice_index}
use Rattle.std.specs.List.{AllPairs}
use Rattle.std.proofs.lemmas.List.{append_cancel_left}
use Rattle.cx_plan.specs.Setups.{Setup}
use Rattle.cx_plan.specs.Dues.{is_due}
use Rattle.cx_rule.specs.Routine.{Rule}
use Rattle.cx_rule.specs.States.{State}
use Rattle.cx_model.specs.Traces.{Entry, Turned, Overflowed, Exchanged, Tested, Rotated, Wrote, Saved, Trace}
use Rattle.cx_model.specs.Runs.{Lengths, no_lengths, grown_by, lengths_after, lengths_behind, output, undivided_run, continued_run, Reaches}
use Rattle.cx_model.specs.Checkpoints.{ReachesFrom, Continues}
use Rattle.cx_model.proofs.ListLaws.{tails}
use Rattle.cx_model.proofs.SaveLaws.{lengths-more}
use Rattle.cx_chk.specs.declared.checkpoint.Checkpoint.{Checkpoint}
use Rattle.cx_outputs.specs.Names.{output_count, lengths_in}
use Rattle.cx_keep.specs.Resuming.{IsMonotone}
use Rattle.cx_keep.specs.Trails.{Has, length_in}
use Rattle.law_course.specs.Courses.{checkpoint_of, checkpoints_in, course_of, IsBehind, CourseRises, HasPlaces}
use Rattle.law_course.proofs.OutputLaws.{longer_in, count_of}

-- ---- where checkpoints stand

-- a checkpoint is that of a place among entries
pub record Origin (setup : Setup) (key : List ℕ) (n : Lengths) (es : List Entry)
    (c : Checkpoint) : Type 0 where
  pub earlier : List Entry
  pub later : List Entry
  pub state : State
  pub there : es ≡ earlier ++ Saved c.iteration state ∷ later
  pub packed : c ≡ checkpoint_of setup key c.iteration state (lengths_behind n earlier)

module _ (setup : Setup) (key : List ℕ) where
  -- those of the entries behind others
  pub has_behind : (a b : List Entry) (n : Lengths) (c : Checkpoint)
      → Has (checkpoints_in setup key (lengths_behind n a) b) c
      → Has (checkpoints_in setup key n (a ++ b)) c
  has_behind [] b n c h = h
  has_behind (Saved i s ∷ es) b n c h = inr (has_behind es b n c h)
  has_behind (Wrote v i text s ∷ es) b n c h = has_behind es b (grown_by n v (length text)) c h
  has_behind (Turned k i s ∷ es) b n c h = has_behind es b n c h
  has_behind (Overflowed k i s ∷ es) b n c h = has_behind es b n c h
  has_behind (Exchanged vars path s ∷ es) b n c h = has_behind es b n c h
  has_behind (Tested v path s ∷ es) b n c h = has_behind es b n c h
  has_behind (Rotated s ∷ es) b n c h = has_behind es b n c h

  pub has_there : (a b : List Entry) (n : Lengths) (i : ℕ) (s : State)
      → Has (checkpoints_in setup key n (a ++ Saved i s ∷ b))
      (checkpoint_of setup key i s (lengths_behind n a))
  has_there a b n i s = has_behind a (Saved i s ∷ b) n
      (checkpoint_of setup key i s (lengths_behind n a)) (inl refl)

  longer : (e : Entry) (es : List Entry) (n : Lengths) (c : Checkpoint)
      → Origin setup key (lengths_after n e) es c → Origin setup key n (e ∷ es) c
  longer e es n c o =
      record {
        earlier = e ∷ o.earlier;
        later = o.later;
        state = o.state;
        there = ap (λ l. e ∷ l) o.there;
        packed = o.packed;
      }

  pub origin : (es : List Entry) (n : Lengths) (c : Checkpoint)
      → Has (checkpoints_in setup key n es) c → Origin setup key n es c
  origin [] n c h = absurd h
  origin (Saved i s ∷ es) n c (inl e) =
      record {
        earlier = [];
        later = es;
        state = s;
        there = ap (λ (k : ℕ). Saved k s ∷ es) (sym (ap (λ (d : Checkpoint). d.iteration) e));
        packed = subst (λ (d : Checkpoint). d ≡ checkpoint_of setup key d.iteration s n) (sym e)
            refl;
      }
  origin (Saved i s ∷ es) n c (inr h) = longer (Saved i s) es n c (origin es n c h)
  origin (Wrote v i text s ∷ es) n c h =
      longer (Wrote v i text s) es n c (origin es (grown_by n v (length text)) c h)
  origin (Turned k i s ∷ es) n c h = longer (Turned k i s) es n c (origin es n c h)
  origin (Overflowed k i s ∷ es) n c h = longer (Overflowed k i s) es n c (origin es n c h)
  origin (Exchanged vars path s ∷ es) n c h =
      longer (Exchanged vars path s) es n c (origin es n c h)
  origin (Tested v path s ∷ es) n c h = longer (Tested v path s) es n c (origin es n c h)
  origin (Rotated s ∷ es) n c h = longer (Rotated s) es n c (origin es n c h)

  -- it records no shorter outputs than there were
  pub no_shorter : (es : List Entry) (n : Lengths) (c : Checkpoint) (j : ℕ)
      → Has (checkpoints_in setup key n es) c
      → slice_index (lengths_in setup.out_vars n) j ≤ length_in c j
  no_shorter es n c j h =
      let o = origin es n c h in
      subst (λ (l : List ℕ). slice_index (lengths_in setup.out_vars n) j ≤ slice_index l j)
      (sym (ap (λ (d : Checkpoint). d.lengths) o.packed))
      (longer_in setup.out_vars n (lengths_behind n o.earlier) (lengths-more o.earlier n) j)

-- ---- the iterations of places rise

abbrev pub Rises : ℕ → List Entry → Type 0
Rises b [] = Unit {0}
Rises b (Saved i s ∷ es) = (b < i) × Rises i es
Rises b (Wrote v i text s ∷ es) = Rises b es
Rises b (Turned k i s ∷ es) = Rises b es
Rises b (Overflowed k i s ∷ es) = Rises b es
Rises b (Exchanged vars path s ∷ es) = Rises b es
Rises b (Tested v path s ∷ es) = Rises b es
Rises b (Rotated s ∷ es) = Rises b es

-- behind a place in a list
cut_behind : (between : List Entry) (e : Entry) (es all rest : List Entry) → all ≡ between ++ e ∷ es
    → all ≡ (between ++ e ∷ []) ++ rest → rest ≡ es
cut_behind between e es all rest is also =
    sym (tails e e es rest (append_cancel_left between (e ∷ es) (e ∷ rest)
    (sym is ∙ also ∙ append_assoc between (e ∷ []) rest)))

further : (between : List Entry) (e : Entry) (es all : List Entry) → all ≡ between ++ e ∷ es
    → all ≡ (between ++ e ∷ []) ++ es
further between e es all is = is ∙ sym (append_assoc between (e ∷ []) es)

due_positive : (setup : Setup) (c : ℕ) → is_due setup c ≡ true → 0 < c
due_positive setup zero due = absurd (true≢false (sym due))
due_positive setup (suc c) due = omega arith

module _ (setup : Setup) (rules : List Rule) (laws : Continues setup rules) where
  abbrev pub place_at : (before : List Entry) (d : ℕ) (t : State) (es : List Entry)
      → (undivided_run setup rules).entries ≡ before ++ Saved d t ∷ es
      → Reaches setup rules d t (lengths_behind no_lengths before)
  place_at before d t es e =
      record { earlier = before; later = es; there = e; lengths_there = refl }

  rises_from : (c : ℕ) (s : State) (n : Lengths) → Reaches setup rules c s n
      → (between es : List Entry)
      → (continued_run setup rules c s n).entries ≡ between ++ es → Rises c es
  rises_from c s n r between [] e = tt
  rises_from c s n r between (Saved d t ∷ es) e =
      let m : Lengths = lengths_behind n between in
      let f : ReachesFrom setup rules c s n d t m =
      record { earlier = between; later = es; there = e; lengths_there = refl } in (
        (laws.due_later c s n d t m f).1,
        rises_from d t m (laws.joins c d s t n m r f) [] es
            (cut_behind between (Saved d t) es (continued_run setup rules c s n).entries
            (continued_run setup rules d t m).entries e
            (ap (λ (x : Trace). x.entries) (laws.rest c s n d t m f))),
      )
  rises_from c s n r between (Wrote v i text t ∷ es) e =
      rises_from c s n r (between ++ Wrote v i text t ∷ []) es
      (further between (Wrote v i text t) es _ e)
  rises_from c s n r between (Turned k i t ∷ es) e =
      rises_from c s n r (between ++ Turned k i t ∷ []) es (further between (Turned k i t) es _ e)
  rises_from c s n r between (Overflowed k i t ∷ es) e =
      rises_from c s n r (between ++ Overflowed k i t ∷ []) es
      (further between (Overflowed k i t) es _ e)
  rises_from c s n r between (Exchanged vars path t ∷ es) e =
      rises_from c s n r (between ++ Exchanged vars path t ∷ []) es
      (further between (Exchanged vars path t) es _ e)
  rises_from c s n r between (Tested v path t ∷ es) e =
      rises_from c s n r (between ++ Tested v path t ∷ []) es
      (further between (Tested v path t) es _ e)
  rises_from c s n r between (Rotated t ∷ es) e =
      rises_from c s n r (between ++ Rotated t ∷ []) es (further between (Rotated t) es _ e)

  rises_first : (before es : List Entry) → (undivided_run setup rules).entries ≡ before ++ es
      → Rises 0 es
  rises_first before [] e = tt
  rises_first before (Saved d t ∷ es) e =
      let m : Lengths = lengths_behind no_lengths before in
      let r = place_at before d t es e in (
        due_positive setup d (laws.due d t m r),
        rises_from d t m r [] es
            (cut_behind before (Saved d t) es (undivided_run setup rules).entries
            (continued_run setup rules d t m).entries e
            (ap (λ (x : Trace). x.entries) (laws.run d t m r))),
      )
  rises_first before (Wrote v i text t ∷ es) e =
      rises_first (before ++ Wrote v i text t ∷ []) es (further before (Wrote v i text t) es _ e)
  rises_first before (Turned k i t ∷ es) e =
      rises_first (before ++ Turned k i t ∷ []) es (further before (Turned k i t) es _ e)
  rises_first before (Overflowed k i t ∷ es) e =
      rises_first (before ++ Overflowed k i t ∷ []) es (further before (Overflowed k i t) es _ e)
  rises_first before (Exchanged vars path t ∷ es) e =
      rises_first (before ++ Exchanged vars path t ∷ []) es
      (further before (Exchanged vars path t) es _ e)
  rises_first before (Tested v path t ∷ es) e =
      rises_first (before ++ Tested v path t ∷ []) es (further before (Tested v path t) es _ e)
  rises_first before (Rotated t ∷ es) e =
      rises_first (before ++ Rotated t ∷ []) es (further before (Rotated t) es _ e)

  pub run_rises : Rises 0 (undivided_run setup rules).entries
  run_rises = rises_first [] (undivided_run setup rules).entries refl

  -- ---- the places of the course

  pub has_places : (key : List ℕ) → HasPlaces setup key rules
  has_places key =
      record {
        places = λ c h.
            let o = origin setup key (undivided_run setup rules).entries no_lengths c h in
            record {
              state = o.state;
              so_far = lengths_behind no_lengths o.earlier;
              reached = record {
                earlier = o.earlier;
                later = o.later;
                there = o.there;
                lengths_there = refl;
              };
              packed = o.packed;
            };
        all = λ iteration state so_far r.
            subst (λ (es : List Entry).
            Has (checkpoints_in setup key no_lengths es)
            (checkpoint_of setup key iteration state so_far)) (sym r.there)
            (subst (λ (n : Lengths). Has
            (checkpoints_in setup key no_lengths (r.earlier ++ Saved iteration state ∷ r.later))
            (checkpoint_of setup key iteration state n)) (sym r.lengths_there)
            (has_there setup key r.earlier r.later no_lengths iteration state));
      }

-- ---- checkpoints of entries whose places rise

module _ (setup : Setup) (key : List ℕ) where
  pub later_than : (b : ℕ) (n : Lengths) (es : List Entry) → Rises b es → (c : Checkpoint)
      → Has (checkpoints_in setup key n es) c → b < c.iteration
  later_than b n [] r c h = absurd h
  later_than b n (Saved i s ∷ es) r c (inl e) =
      subst (λ (k : ℕ). b < k) (sym (ap (λ (d : Checkpoint). d.iteration) e)) r.0
  later_than b n (Saved i s ∷ es) r c (inr h) = lt_trans r.0 (later_than i n es r.1 c h)
  later_than b n (Wrote v i text s ∷ es) r c h =
      later_than b (grown_by n v (length text)) es r c h
  later_than b n (Turned k i s ∷ es) r c h = later_than b n es r c h
  later_than b n (Overflowed k i s ∷ es) r c h = later_than b n es r c h
  later_than b n (Exchanged vars path s ∷ es) r c h = later_than b n es r c h
  later_than b n (Tested v path s ∷ es) r c h = later_than b n es r c h
  later_than b n (Rotated s ∷ es) r c h = later_than b n es r c h

  absurd_order : (a b c : ℕ) → a ≡ b → b < c → c ≤ a → ⊥
  absurd_order a b c e l h = omega (arith, e, l, h)

  monotone_in : (b : ℕ) (n : Lengths) (es : List Entry) → Rises b es → (c d : Checkpoint)
      → Has (checkpoints_in setup key n es) c → Has (checkpoints_in setup key n es) d
      → c.iteration ≤ d.iteration → (j : ℕ) → length_in c j ≤ length_in d j
  monotone_in b n [] r c d h k l j = absurd h
  monotone_in b n (Saved i s ∷ es) r c d (inl e) (inl f) l j =
      le_of_eq (ap (λ (x : Checkpoint). length_in x j) (e ∙ sym f))
  monotone_in b n (Saved i s ∷ es) r c d (inl e) (inr k) l j =
      subst (λ (m : ℕ). m ≤ length_in d j) (sym (ap (λ (x : Checkpoint). length_in x j) e))
      (no_shorter setup key es n d j k)
  monotone_in b n (Saved i s ∷ es) r c d (inr h) (inl f) l j =
      absurd (absurd_order d.iteration i c.iteration (ap (λ (x : Checkpoint). x.iteration) f)
      (later_than i n es r.1 c h) l)
  monotone_in b n (Saved i s ∷ es) r c d (inr h) (inr k) l j = monotone_in i n es r.1 c d h k l j
  monotone_in b n (Wrote v i text s ∷ es) r c d h k l j =
      monotone_in b (grown_by n v (length text)) es r c d h k l j
  monotone_in b n (Turned k i s ∷ es) r c d h q l j = monotone_in b n es r c d h q l j
  monotone_in b n (Overflowed k i s ∷ es) r c d h q l j = monotone_in b n es r c d h q l j
  monotone_in b n (Exchanged vars path s ∷ es) r c d h q l j = monotone_in b n es r c d h q l j
  monotone_in b n (Tested v path s ∷ es) r c d h q l j = monotone_in b n es r c d h q l j
  monotone_in b n (Rotated s ∷ es) r c d h q l j = monotone_in b n es r c d h q l j

  -- an element of a list is among it
  has_at : (cs : List Checkpoint) (i : ℕ) (d : Checkpoint) → i < length cs → Has cs (get_or cs i d)
  has_at [] i d h = absurd (omega (arith, h))
  has_at (c ∷ cs) zero d h = inl refl
  has_at (c ∷ cs) (suc i) d h = inr (has_at cs i d (omega (arith, h)))

  pairs_cons : (c : Checkpoint) (cs : List Checkpoint)
      → ((d : Checkpoint) → Has cs d → IsBehind (output_count setup) c d)
      → AllPairs (IsBehind (output_count setup)) cs
      → AllPairs (IsBehind (output_count setup)) (c ∷ cs)
  pairs_cons c cs first rest zero zero d l h = absurd (omega (arith, l))
  pairs_cons c cs first rest zero (suc j) d l h =
      first (get_or cs j d) (has_at cs j d (omega (arith, h)))
  pairs_cons c cs first rest (suc i) zero d l h = absurd (omega (arith, l))
  pairs_cons c cs first rest (suc i) (suc j) d l h =
      rest i j d (omega (arith, l)) (omega (arith, h))

  pairs_none : AllPairs (IsBehind (output_count setup)) []
  pairs_none i j d l h = absurd (omega (arith, h))

  pairs_in : (b : ℕ) (n : Lengths) (es : List Entry) → Rises b es
      → AllPairs (IsBehind (output_count setup)) (checkpoints_in setup key n es)
  pairs_in b n [] r = pairs_none
  pairs_in b n (Saved i s ∷ es) r =
      pairs_cons (checkpoint_of setup key i s n) (checkpoints_in setup key n es)
      (λ d h. record {
        iteration = later_than i n es r.1 d h;
        lengths = λ j lt. no_shorter setup key es n d j h;
      })
      (pairs_in i n es r.1)
  pairs_in b n (Wrote v i text s ∷ es) r = pairs_in b (grown_by n v (length text)) es r
  pairs_in b n (Turned k i s ∷ es) r = pairs_in b n es r
  pairs_in b n (Overflowed k i s ∷ es) r = pairs_in b n es r
  pairs_in b n (Exchanged vars path s ∷ es) r = pairs_in b n es r
  pairs_in b n (Tested v path s ∷ es) r = pairs_in b n es r
  pairs_in b n (Rotated s ∷ es) r = pairs_in b n es r

  pub monotone : (rules : List Rule) → Rises 0 (undivided_run setup rules).entries
      → IsMonotone (course_of setup key rules)
  monotone rules r c d h k l j lt =
      monotone_in 0 no_lengths (undivided_run setup rules).entries r c d h k l j

  pub course_rises : (rules : List Rule) → Continues setup rules
      → CourseRises setup (course_of setup key rules)
  course_rises rules laws =
      let r = run_rises setup rules laws in
      record {
        outputs = count_of setup.out_vars (output setup rules);
        rises = pairs_in 0 no_lengths (undivided_run setup rules).entries r;
        monotone = monotone rules r;
      }
