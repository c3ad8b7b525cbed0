-- The needs of a run, operation by operation.
use Rattle.std.proofs.Common.{◌≡◌, ℕ, zero, suc, ◌+◌, ◌-◌, ◌<◌, arith, refl, sym, ap, subst, ◌∙◌, inl, inr, List, [], ◌∷◌, ◌++◌}
use Rattle.std.proofs.lemmas.Bool.{cases_lt}
use Rattle.cx_plan.specs.Setups.{Setup}
use Rattle.cx_plan.specs.Regions.{Flags, cleared}
use Rattle.cx_plan.specs.Paths.{Sound}
use Rattle.cx_rule.specs.Routine.{Rule}
use Rattle.cx_model.specs.States.{start}
use Rattle.cx_model.specs.Stages.{stages, stages_after}
use Rattle.cx_flat.specs.declared.op.Op.TheVariants.{Halt}
use Rattle.cx_model.specs.Courses.{Note, course_stages}
use Rattle.cx_flat.specs.Code.{op_at, code}
use Rattle.cx_flat.specs.Flats.{Flat, stepped, notes_at, flat_from, noted_from, first_flat, flat_after}
use Rattle.cx_flat.specs.Laws.{NotesAs}
use Rattle.cx_flat.proofs.WholeLaws.{whole_notes, continued_notes}
use Rattle.cx_model.specs.Needs.{goes_on_with, notes_leave, NotesMet, all_set}
use Rattle.cx_flat.specs.Places.{flat_at, notes_of, flags_at, OperationsMet}
use Rattle.cx_model.proofs.CourseLaws.{needs-met}

abbrev next : Setup → List Rule → Flat → Flat
next setup rules g = stepped setup rules (op_at (code setup) g.control.pc) g

-- from the second operation on
flat-shift : (setup : Setup) (rules : List Rule) (g : Flat) (n : ℕ)
    → flat_at setup rules g (suc n) ≡ flat_at setup rules (next setup rules g) n
flat-shift setup rules g zero = refl
flat-shift setup rules g (suc n) = ap (next setup rules) (flat-shift setup rules g n)

flags-shift : (setup : Setup) (rules : List Rule) (g : Flat) (flags : Flags) (n : ℕ)
    → flags_at setup rules g flags (suc n)
    ≡ flags_at setup rules (next setup rules g)
    (notes_leave setup (notes_of setup rules g) flags) n
flags-shift setup rules g flags zero = refl
flags-shift setup rules g flags (suc n) =
    ap (λ h. notes_leave setup (notes_of setup rules h) (flags_at setup rules g flags (suc n)))
    (flat-shift setup rules g n)
    ∙ ap (notes_leave setup (notes_of setup rules (flat_at setup rules (next setup rules g) n)))
    (flags-shift setup rules g flags n)

flat-same : (setup : Setup) (rules : List Rule) (g : Flat) (n : ℕ)
    → flat_from setup rules (code setup) n g ≡ flat_at setup rules g n
flat-same setup rules g zero = refl
flat-same setup rules g (suc n) =
    flat-same setup rules (next setup rules g) n ∙ sym (flat-shift setup rules g n)

notes-split : (setup : Setup) (a b : List Note) (flags : Flags) → NotesMet setup flags (a ++ b)
    → NotesMet setup flags a × NotesMet setup (notes_leave setup a flags) b
notes-split setup [] b flags met = (tt, met)
notes-split setup (n ∷ a) b flags met = let r =
    notes-split setup a b (goes_on_with setup n.entry flags) met.1 in ((met.0, r.0), r.1)

-- one of so many operations
met-each : (setup : Setup) (rules : List Rule) (count : ℕ) (g : Flat) (flags : Flags)
    → NotesMet setup flags (noted_from setup rules (code setup) count g) → (n : ℕ) → n < count
    → NotesMet setup (flags_at setup rules g flags n)
    (notes_of setup rules (flat_at setup rules g n))
met-each setup rules zero g flags met n below = absurd (omega (arith, below))
met-each setup rules (suc count) g flags met zero below =
    (notes-split setup (notes_of setup rules g)
    (noted_from setup rules (code setup) count (next setup rules g)) flags met).0
met-each setup rules (suc count) g flags met (suc n) below =
    let rest =
    (notes-split setup (notes_of setup rules g)
    (noted_from setup rules (code setup) count (next setup rules g)) flags met).1 in
    let there = met-each setup rules count (next setup rules g)
    (notes_leave setup (notes_of setup rules g) flags) rest n (omega (arith, below)) in
    subst (λ f. NotesMet setup f (notes_of setup rules (flat_at setup rules g (suc n))))
    (sym (flags-shift setup rules g flags n))
    (subst (λ h. NotesMet setup
    (flags_at setup rules (next setup rules g)
    (notes_leave setup (notes_of setup rules g) flags) n) (notes_of setup rules h))
    (sym (flat-shift setup rules g n)) there)

-- behind the last operation nothing is noted
stays-halted : (setup : Setup) (rules : List Rule) (g : Flat) (count k : ℕ)
    → op_at (code setup) (flat_at setup rules g count).control.pc ≡ Halt
    → op_at (code setup) (flat_at setup rules g (k + count)).control.pc ≡ Halt
stays-halted setup rules g count zero stops =
    subst (λ n. op_at (code setup) (flat_at setup rules g n).control.pc ≡ Halt)
    (let e : count ≡ 0 + count = omega arith in e) stops
stays-halted setup rules g count (suc k) stops =
    let before = stays-halted setup rules g count k stops in
    let h = flat_at setup rules g (k + count) in
    subst (λ n. op_at (code setup) (flat_at setup rules g n).control.pc ≡ Halt)
    (let e : suc (k + count) ≡ suc k + count = omega arith in e)
    (ap (λ o. op_at (code setup) (stepped setup rules o h).control.pc) before ∙ before)

met-all : (setup : Setup) (rules : List Rule) (g : Flat) (flags : Flags) (notes : List Note)
    → NotesAs setup rules g notes → NotesMet setup flags notes → (n : ℕ)
    → NotesMet setup (flags_at setup rules g flags n)
    (notes_of setup rules (flat_at setup rules g n))
met-all setup rules g flags notes run met n =
    elim (cases_lt n run.count) [
      | inl below ↦ met-each setup rules run.count g flags
          (subst (NotesMet setup flags) (sym run.noted) met) n below
      | inr past ↦ none (n - run.count)
          (let e : n ≡ n - run.count + run.count = omega (arith, past) in e)
    ]
  where
    none : (k : ℕ) → n ≡ k + run.count
        → NotesMet setup (flags_at setup rules g flags n)
        (notes_of setup rules (flat_at setup rules g n))
    none k is =
        let halted = stays-halted setup rules g run.count k
        (sym (ap (λ (h : Flat). op_at (code setup) h.control.pc)
        (flat-same setup rules g run.count)) ∙ run.stops) in
        let h = flat_at setup rules g n in
        let here : op_at (code setup) h.control.pc ≡ Halt =
        ap (λ m. op_at (code setup) (flat_at setup rules g m).control.pc) is ∙ halted in
        subst (λ o. NotesMet setup (flags_at setup rules g flags n)
        (notes_at setup rules o h.control h.state)) (sym here) tt

pub operations-met : (setup : Setup) (rules : List Rule) (dims : ℕ) → setup.shape.dims ≡ suc dims
    → Sound setup → OperationsMet setup rules
operations-met setup rules dims some sound =
    let n = needs-met setup rules sound in
    record {
      whole = met-all setup rules (first_flat setup) cleared
          (course_stages setup rules (stages setup) (start setup)).notes
          (whole_notes setup rules dims some) (n.whole (start setup));
      from_whole_state = λ c state below.
          met-all setup rules (flat_after setup c state) all_set
          (course_stages setup rules (stages_after setup c) state).notes
          (continued_notes setup rules dims some c state below) (n.from_whole_state c state);
    }
