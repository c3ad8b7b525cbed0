-- One work of a run that its keeper keeps: what the disk has after it, and what its moments leave.
use Rattle.std.proofs.Common.{◌≡◌, ◌≢◌, ℕ, ◌≤◌, ◌<◌, List, [], ◌∷◌, ◌++◌, length, sym, ◌∙◌, ap, subst, arith, append_assoc, append-nil, inl, inr}
use Rattle.std.proofs.Math.Path.{fun_ext}
use Rattle.std.proofs.lemmas.Bool.Decides.{eqb_tells}
use Rattle.std.proofs.lemmas.List.{append_cancel_left, length-map}
use Rattle.std.specs.Prelude.{Option, Some, ◌⊎◌}
use Rattle.cx_plan.specs.declared.variable.VarId.{VarId}
use Rattle.cx_plan.specs.Setups.{Setup}
use Rattle.cx_outputs.specs.Names.{output_count, place_in}
use Rattle.cx_rule.specs.States.{State}
use Rattle.cx_model.specs.Runs.{Lengths, output, output_of}
use Rattle.cx_model.specs.Traces.{Entry, Wrote, Saved}
use Rattle.cx_model.proofs.SaveLaws.{output-both}
use Rattle.cx_disk.specs.Disk.{Files, View, LeavesOnly}
use Rattle.cx_disk.specs.Moments.{IsQuiet}
use Rattle.cx_disk.proofs.Moments.{weaker}
use Rattle.cx_chk.specs.declared.checkpoint.Checkpoint.{Checkpoint}
use Rattle.cx_chk.specs.Slots.{OutputsSame}
use Rattle.cx_core_buffers.specs.Checkpoints.{HoldsState, state_of}
use Rattle.cx_keep.specs.Beginning.{IsLater}
use Rattle.cx_keep.specs.Keeping.{IsAppended, AppendMoments, SaveStands, SaveMoments, CanAppend, CanSave}
use Rattle.cx_keep.specs.Trails.{Course, IsTrailOf, IsNextPiece, AreWithin, NewestIs, Stands, length_in, file_of_output}
use Rattle.cx_keep.proofs.Stays.{stands_quiet, trail_quiet, within_more}
use Rattle.cx_core.specs.Hands.{IsCheckpointOf}
use Rattle.law_course.specs.Courses.{StatesPackAgain, checkpoint_of, checkpoints_in}
use Rattle.law_course.specs.Works.{KeptRun, WorksFollow, HasDone, PieceIsNext, SaveIsNext, course_by, first_of, lengths_done, newest_of, next_of, output_done, output_found}
use Rattle.cx_run_loop.specs.Going.{IsDriven, IsImageOf}

-- a work that is handed out next is the first that was left
pub next_is : (works before left now rest : List Entry) (w : Entry) → works ≡ before ++ left
    → works ≡ now ++ rest → now ≡ before ++ w ∷ [] → left ≡ w ∷ rest
next_is works before left now rest w first second added =
    append_cancel_left before left (w ∷ rest)
    (sym first ∙ second ∙ ap (λ (l : List Entry). l ++ rest) added
    ∙ append_assoc before (w ∷ []) rest)

-- the same works are left
pub same_left : (works before left now rest : List Entry) → works ≡ before ++ left
    → works ≡ now ++ rest → now ≡ before → left ≡ rest
same_left works before left now rest first second same =
    append_cancel_left before left rest
    (sym first ∙ second ∙ ap (λ (l : List Entry). l ++ rest) same)

-- how many outputs a run has
pub output_count_is : (r : KeptRun) → length (course_by r).outputs ≡ output_count r.setup
output_count_is r = length-map r.setup.out_vars (output r.setup r.rules)

-- ---- calls that change no byte

pub driven_quiet : (r : KeptRun) (done : List Entry) (old new : View) → IsQuiet old new
    → IsDriven r done old → IsDriven r done new
driven_quiet r done old new quiet x = record {
  of_run = x.of_run;
  left = x.left;
  has = x.has;
  files = λ j lt. quiet.same (file_of_output j) ∙ x.files j lt;
  stands = stands_quiet (course_by r) (newest_of r done) (next_of r done x.left) old new x.stands
      quiet;
}

pub images_quiet : (r : KeptRun) (done : List Entry) (old new : View) → IsQuiet old new
    → IsDriven r done old → LeavesOnly old new (IsImageOf r)
images_quiet r done old new quiet x = weaker (IsImageOf r) quiet.moments (λ c from. record {
  done = done;
  left = x.left;
  has = x.has;
  trail = trail_quiet (course_by r) (newest_of r done) (next_of r done x.left) old x.stands c from;
})

-- ---- a text and a checkpoint

-- the checkpoint that a core hands out is the run's
pub is_packed : (setup : Setup) (key : List ℕ) → StatesPackAgain setup → (c : Checkpoint)
    → HoldsState setup c → c.key ≡ key → (iteration : ℕ) (state : State) (so_far : Lengths)
    → IsCheckpointOf setup c iteration state so_far
    → c ≡ checkpoint_of setup key iteration state so_far
is_packed setup key pack c holds key_is iteration state so_far is =
    pack c so_far holds is.version_is is.names_is is.lengths_is
    ∙ ap (λ (k : List ℕ). checkpoint_of setup k c.iteration (state_of setup.vars c) so_far) key_is
    ∙ ap (λ (i : ℕ). checkpoint_of setup key i (state_of setup.vars c) so_far) is.iteration_is
    ∙ ap (λ (t : State). checkpoint_of setup key iteration t so_far) is.state_is

within_later : (course : Course) (c : Checkpoint) (later : Option Checkpoint) (image : Files)
    → AreWithin course (Some c) image → IsLater course (Some c) later → AreWithin course later image
within_later course c later image within behind =
    within_more later (λ d more j lt. let a : length (image (file_of_output j)) ≤ length_in c j =
    within j lt in let b : length_in c j ≤ length_in d j = more j lt in omega arith) behind

other_file : (i j : ℕ) → i ≢ j → file_of_output i ≢ file_of_output j
other_file i j other same = other (let e : i ≡ j = omega arith in e)

-- a checkpoint leaves each output as long as it was
lengths_saved : (r : KeptRun) (done : List Entry) (iteration : ℕ) (state : State)
    → lengths_done r (done ++ Saved iteration state ∷ []) ≡ lengths_done r done
lengths_saved r done iteration state = fun_ext (λ v. ap (λ (l : List ℕ).
    length (output_found r (record { 0 = v }) ++ l))
    (output-both (record { 0 = v }) done (Saved iteration state ∷ [])
    ∙ append-nil (output_of (record { 0 = v }) done)))

next_saved : (r : KeptRun) (done left : List Entry) (iteration : ℕ) (state : State)
    → next_of r (done ++ Saved iteration state ∷ []) left ≡ next_of r done left
next_saved r done left iteration state =
    ap (λ (n : Lengths). first_of (checkpoints_in r.setup r.key n left))
    (lengths_saved r done iteration state)

module _ (r : KeptRun) (follow : WorksFollow r) (before rest : List Entry) (old new : View)
    (x : IsDriven r before old) where
  has_next : (w : Entry) → x.left ≡ w ∷ rest → HasDone r before (w ∷ rest)
  has_next w is = subst (λ (l : List Entry). HasDone r before l) is x.has

  stands_next : (w : Entry) → x.left ≡ w ∷ rest
      → Stands (course_by r) (newest_of r before) (next_of r before (w ∷ rest)) old
  stands_next w is = subst
      (λ (l : List Entry). Stands (course_by r) (newest_of r before) (next_of r before l) old)
      is x.stands

  module _ (v : VarId) (iteration : ℕ) (text : List ℕ) (state : State)
      (is : x.left ≡ Wrote v iteration text state ∷ rest) where
    abbrev place : ℕ
    place = place_in r.setup.out_vars v

    next_piece : PieceIsNext r before rest (Wrote v iteration text state) place text
    next_piece = follow.piece before rest v iteration text state
        (has_next (Wrote v iteration text state) is)

    is_output : place < length r.setup.out_vars
    is_output = subst (λ (n : ℕ). place < n) (output_count_is r) next_piece.piece.output

    can_append : CanAppend (course_by r) (newest_of r before)
        (next_of r before (Wrote v iteration text state ∷ rest)) place text old
    can_append = record {
      stands = stands_next (Wrote v iteration text state) is;
      piece = subst (λ (file : List ℕ). IsNextPiece (course_by r)
          (next_of r before (Wrote v iteration text state ∷ rest)) place text file)
          (sym (x.files place is_output)) next_piece.piece;
    }

    files_with : IsAppended place text old new → (i : ℕ) → i < length r.setup.out_vars
        → new.seen (file_of_output i)
        ≡ output_done r (before ++ Wrote v iteration text state ∷ []) i
    files_with kept i lt = elim (eqb_tells i place) as (λ _. new.seen (file_of_output i)
        ≡ output_done r (before ++ Wrote v iteration text state ∷ []) i) [
          | inl same ↦ subst (λ (k : ℕ). new.seen (file_of_output k)
              ≡ output_done r (before ++ Wrote v iteration text state ∷ []) k) (sym same.1)
              (kept.bytes.this ∙ ap (λ (l : List ℕ). l ++ text) (x.files place is_output)
              ∙ sym next_piece.this)
          | inr other ↦ kept.bytes.others (file_of_output i) (other_file i place other.1)
              ∙ x.files i lt ∙ sym (next_piece.others i other.1)
        ]

    pub text_driven : IsAppended (place_in r.setup.out_vars v) text old new
        → IsDriven r (before ++ Wrote v iteration text state ∷ []) new
    text_driven kept =
        let st : Stands (course_by r) (newest_of r before)
        (next_of r before (Wrote v iteration text state ∷ rest)) new =
        kept.stands (course_by r) (newest_of r before)
        (next_of r before (Wrote v iteration text state ∷ rest)) can_append in
        record {
          of_run = x.of_run;
          left = rest;
          has = has_next (Wrote v iteration text state) is
              ∙ sym (append_assoc before (Wrote v iteration text state ∷ []) rest);
          files = files_with kept;
          stands = subst (λ (n : Option ℕ). Stands (course_by r) n
              (next_of r (before ++ Wrote v iteration text state ∷ []) rest) new)
              (sym next_piece.newest)
              (subst (λ (n : Option Checkpoint). Stands (course_by r) (newest_of r before) n new)
              next_piece.next st);
        }

    pub text_images : AppendMoments (place_in r.setup.out_vars v) text old new
        → LeavesOnly old new (IsImageOf r)
    text_images moments =
        weaker (IsImageOf r) (moments (course_by r) (newest_of r before)
        (next_of r before (Wrote v iteration text state ∷ rest)) can_append)
        (λ c trail. record {
          done = before;
          left = Wrote v iteration text state ∷ rest;
          has = has_next (Wrote v iteration text state) is;
          trail = trail;
        })

  module _ (iteration : ℕ) (state : State) (c : Checkpoint)
      (is : x.left ≡ Saved iteration state ∷ rest)
      (packed : c ≡ checkpoint_of r.setup r.key iteration state (lengths_done r before)) where
    next_save : SaveIsNext r before rest (Saved iteration state) c
    next_save =
        subst (λ (k : Checkpoint). SaveIsNext r before rest (Saved iteration state) k) (sym packed)
        (follow.save before rest iteration state (has_next (Saved iteration state) is))

    count_is : length (course_by r).outputs ≡ length c.lengths
    count_is = output_count_is r
        ∙ sym (ap (λ (k : Checkpoint). length k.lengths) packed
        ∙ length-map r.setup.out_vars (λ (v : VarId). lengths_done r before v.0))

    can_save : CanSave (course_by r) (newest_of r before)
        (next_of r before (Saved iteration state ∷ rest)) c old
    can_save = record {
      stands = stands_next (Saved iteration state) is;
      outputs = count_is;
      comes = record {
        of_run = next_save.comes.of_run;
        version = next_save.comes.version;
        in_range = next_save.comes.in_range;
        later = next_save.comes.later;
        lengths = next_save.comes.lengths old.seen x.files;
      };
    }

    later_saved : IsLater (course_by r) (Some c)
        (next_of r (before ++ Saved iteration state ∷ []) rest)
    later_saved = subst (λ (n : Option Checkpoint). IsLater (course_by r) (Some c) n)
        (sym (next_saved r before rest iteration state)) next_save.later

    has_saved : HasDone r (before ++ Saved iteration state ∷ []) rest
    has_saved = has_next (Saved iteration state) is
        ∙ sym (append_assoc before (Saved iteration state ∷ []) rest)

    pub state_driven : OutputsSame old.seen new.seen → SaveStands c old new
        → IsDriven r (before ++ Saved iteration state ∷ []) new
    state_driven same saves =
        let st : Stands (course_by r) (Some c.iteration)
        (next_of r (before ++ Saved iteration state ∷ []) rest) new =
        saves (course_by r) (newest_of r before)
        (next_of r before (Saved iteration state ∷ rest))
        (next_of r (before ++ Saved iteration state ∷ []) rest) can_save later_saved in
        record {
          of_run = x.of_run;
          left = rest;
          has = has_saved;
          files = λ j lt. same (file_of_output j) (omega arith) ∙ x.files j lt
              ∙ sym (next_save.same j);
          stands = subst (λ (n : Option ℕ). Stands (course_by r) n
              (next_of r (before ++ Saved iteration state ∷ []) rest) new) (sym next_save.newest)
              st;
        }

    state_image : (image : Files)
        → IsTrailOf (course_by r) (newest_of r before)
        (next_of r before (Saved iteration state ∷ rest)) image
        ⊎ IsTrailOf (course_by r) (Some c.iteration)
        (next_of r before (Saved iteration state ∷ rest)) image
        → IsImageOf r image
    state_image image trail = elim trail as (λ _. IsImageOf r image) [
      | inl was ↦ record {
        done = before;
        left = Saved iteration state ∷ rest;
        has = has_next (Saved iteration state) is;
        trail = was;
      }
      | inr now ↦ record {
        done = before ++ Saved iteration state ∷ [];
        left = rest;
        has = has_saved;
        trail = record {
          trail = now.trail;
          newest_is = subst (λ (n : Option ℕ). NewestIs image n) (sym next_save.newest)
              now.newest_is;
          within = within_later (course_by r) c
              (next_of r (before ++ Saved iteration state ∷ []) rest) image
              (subst (λ (n : Option Checkpoint). AreWithin (course_by r) n image)
              next_save.next now.within) later_saved;
        };
      }
    ]

    pub state_images : SaveMoments c old new → LeavesOnly old new (IsImageOf r)
    state_images moments =
        weaker (IsImageOf r) (moments (course_by r) (newest_of r before)
        (next_of r before (Saved iteration state ∷ rest)) can_save) state_image
