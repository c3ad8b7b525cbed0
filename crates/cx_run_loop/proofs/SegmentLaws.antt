-- From one core to the next: what the disk has of the run that goes on from a checkpoint, it has of
-- the run that came to it.
use Rattle.std.proofs.Common.{◌≡◌, ℕ, List, [], ◌∷◌, ◌++◌, length, map, refl, sym, ◌∙◌, ap, subst, append_assoc, append-nil}
use Rattle.std.proofs.Math.Path.{fun_ext}
use Rattle.std.proofs.lemmas.List.{append_cancel_left, append_cancel_right}
use Rattle.std.specs.Prelude.{Option, Some, slice_index_or}
use Rattle.cx_plan.specs.declared.variable.VarId.{VarId}
use Rattle.cx_plan.specs.Setups.{setup_of}
use Rattle.cx_model.specs.Runs.{Lengths, output, output_of, text_to}
use Rattle.cx_model.specs.Traces.{Entry, Turned, Overflowed, Exchanged, Tested, Rotated, Wrote, Saved, Trace}
use Rattle.cx_model.proofs.SaveLaws.{output-both}
use Rattle.cx_disk.specs.Disk.{Files, View}
use Rattle.cx_chk.specs.declared.checkpoint.Checkpoint.{Checkpoint}
use Rattle.cx_keep.specs.Beginning.{newest_left}
use Rattle.cx_keep.specs.Trails.{IsTrailOf, Stands}
use Rattle.law_parts.specs.Beginnings.{Beginning}
use Rattle.law_parts.specs.Totals.{undivided_from}
use Rattle.law_reached.specs.Works.{works_of}
use Rattle.law_reached.proofs.SilentWorks.{works_both}
use Rattle.law_course.specs.Beginnings.{GoesOn, IsFound, run_from}
use Rattle.law_course.specs.Courses.{checkpoint_of}
use Rattle.law_course.specs.Works.{KeptRun, HasDone, course_by, first_of, lengths_done, newest_after, newest_of, next_of, output_done, output_found, text_done, works_by}
use Rattle.law_course.specs.Courses as courses
use Rattle.law_course.proofs.BeginLaws.{newest_both}
use Rattle.cx_run_loop.specs.Going.{Setting, IsDriven, IsImageOf, kept_in, run_in, trace_in}
use Rattle.cx_run_loop.specs.Laws.{DriveLaws}
use Rattle.cx_run_loop.specs.Segments.{ComesAfter, run_after}
use Rattle.cx_run_loop.specs.Waiting.{ComesTo}
use Rattle.cx_run_loop.proofs.TurnLaws.{counted_as, newest_last, same_beginning, so_far_is}

-- texts are works
pub output_works : (v : VarId) (es : List Entry) → output_of v (works_of es) ≡ output_of v es
output_works v [] = refl
output_works v (Saved i s ∷ es) = output_works v es
output_works v (Wrote w i text s ∷ es) =
    ap (λ (t : List ℕ). text_to v (Wrote w i text s) ++ t) (output_works v es)
output_works v (Turned k i s ∷ es) = output_works v es
output_works v (Overflowed k i s ∷ es) = output_works v es
output_works v (Exchanged vars path s ∷ es) = output_works v es
output_works v (Tested w path s ∷ es) = output_works v es
output_works v (Rotated s ∷ es) = output_works v es

module _ (s : Setting) (laws : DriveLaws s.wire s.job s.rules) (found : Option Checkpoint)
    (c : Checkpoint) (done : List Entry) (comes : ComesTo s found c done) where
  abbrev r : KeptRun
  r = kept_in s found

  abbrev q : KeptRun
  q = kept_in s (Some c)

  abbrev upto : List Entry
  upto = comes.earlier ++ Saved c.iteration comes.state ∷ []

  -- ---- the run

  pub outcome : (trace_in s (Some c)).outcome ≡ (trace_in s found).outcome
  outcome = sym (ap (λ (u : Trace). u.outcome) comes.run)

  entries : (run_from (setup_of s.job) s.rules found).entries
      ≡ upto ++ (run_from (setup_of s.job) s.rules (Some c)).entries
  entries =
      ap (λ (b : Beginning). (undivided_from (setup_of s.job) s.rules b).entries)
      (sym (same_beginning (setup_of s.job) found))
      ∙ ap (λ (u : Trace). u.entries) comes.run

  done_is : works_of upto ≡ done
  done_is = works_both comes.earlier (Saved c.iteration comes.state ∷ []) ∙ sym comes.done_is

  works : works_by r ≡ done ++ works_by q
  works =
      ap works_of entries
      ∙ works_both upto (run_from (setup_of s.job) s.rules (Some c)).entries
      ∙ ap (λ (l : List Entry). l ++ works_by q) done_is

  -- ---- what the disk has of it

  module _ (v : View) (x : IsDriven r done v) where
    goes_r : GoesOn (setup_of s.job) s.rules found
    goes_r = laws.goes_on found x.of_run

    abbrev before : List Entry
    before = works_of comes.earlier

    checkpoint : c ≡ checkpoint_of (setup_of s.job) s.job.key c.iteration comes.state
        (lengths_done r before)
    checkpoint = comes.checkpoint
        ∙ ap (checkpoint_of (setup_of s.job) s.job.key c.iteration comes.state)
        (counted_as r goes_r (run_in s found).so_far (so_far_is s.job s.rules found) before)

    next_work : HasDone r before (Saved c.iteration comes.state ∷ works_by q)
    next_work = works
        ∙ ap (λ (l : List Entry). l ++ works_by q) comes.done_is
        ∙ append_assoc before (Saved c.iteration comes.state ∷ []) (works_by q)

    -- it is one of the course
    found_there : IsFound (setup_of s.job) s.job.key s.rules (Some c)
    found_there =
        let save = (laws.follow found x.of_run).save before (works_by q) c.iteration comes.state
        next_work in
        subst (λ (k : Checkpoint). IsFound (setup_of s.job) s.job.key s.rules (Some k))
        (sym checkpoint) save.comes.of_run

    goes_q : GoesOn (setup_of s.job) s.rules (Some c)
    goes_q = laws.goes_on (Some c) found_there

    -- ---- outputs

    text_there : (w : VarId) → text_done r done w ≡ output_found q w
    text_there w =
        let entries_q : List Entry = (run_from (setup_of s.job) s.rules (Some c)).entries in
        let first : output (setup_of s.job) s.rules w
        ≡ (output_found r w ++ output_of w done)
        ++ output_of w (run_from (setup_of s.job) s.rules (Some c)).entries =
        goes_r.output w
        ∙ ap (λ (es : List Entry). output_found r w ++ output_of w es) entries
        ∙ ap (λ (l : List ℕ). output_found r w ++ l)
        (output-both w upto (run_from (setup_of s.job) s.rules (Some c)).entries
        ∙ ap (λ (l : List ℕ).
        l ++ output_of w (run_from (setup_of s.job) s.rules (Some c)).entries)
        (sym (output_works w upto) ∙ ap (output_of w) done_is))
        ∙ sym (append_assoc (output_found r w) (output_of w done)
        (output_of w (run_from (setup_of s.job) s.rules (Some c)).entries)) in
        append_cancel_right (output_found r w ++ output_of w done) (output_found q w)
        (output_of w (run_from (setup_of s.job) s.rules (Some c)).entries)
        (sym first ∙ goes_q.output w)

    text_more : (later : List Entry) (w : VarId)
        → text_done r (done ++ later) w ≡ text_done q later w
    text_more later w =
        ap (λ (l : List ℕ). output_found r w ++ l) (output-both w done later)
        ∙ sym (append_assoc (output_found r w) (output_of w done) (output_of w later))
        ∙ ap (λ (l : List ℕ). l ++ output_of w later) (text_there w)

    lengths_more : (later : List Entry) → lengths_done r (done ++ later) ≡ lengths_done q later
    lengths_more later =
        fun_ext (λ w. ap (λ (l : List ℕ). length l) (text_more later (record { 0 = w })))

    output_more : (later : List Entry) (j : ℕ)
        → output_done r (done ++ later) j ≡ output_done q later j
    output_more later j =
        ap (λ (f : VarId → List ℕ). slice_index_or (map f (setup_of s.job).out_vars) j [])
        (fun_ext (text_more later))

    -- ---- checkpoints

    newest_there : newest_after (newest_left found) done ≡ Some c.iteration
    newest_there =
        ap (newest_after (newest_left found)) comes.done_is
        ∙ newest_last (newest_left found) before c.iteration comes.state

    newest_more : (later : List Entry) → newest_of r (done ++ later) ≡ newest_of q later
    newest_more later =
        newest_both (newest_left found) done later
        ∙ ap (λ (n : Option ℕ). newest_after n later) newest_there

    next_more : (later left : List Entry) → next_of r (done ++ later) left ≡ next_of q later left
    next_more later left =
        ap (λ (n : Lengths). first_of
        (courses.checkpoints_in (setup_of s.job) s.job.key n left)) (lengths_more later)

    has_more : (later left : List Entry) → HasDone q later left → HasDone r (done ++ later) left
    has_more later left h =
        works ∙ ap (λ (l : List Entry). done ++ l) h ∙ sym (append_assoc done later left)

    -- ---- images and views

    trail_more : (later left : List Entry) (image : Files)
        → IsTrailOf (course_by q) (newest_of q later) (next_of q later left) image
        → IsTrailOf (course_by r) (newest_of r (done ++ later)) (next_of r (done ++ later) left)
        image
    trail_more later left image trail =
        subst (λ (n : Option ℕ).
        IsTrailOf (course_by r) n (next_of r (done ++ later) left) image)
        (sym (newest_more later))
        (subst (λ (k : Option Checkpoint). IsTrailOf (course_by r) (newest_of q later) k image)
        (sym (next_more later left)) trail)

    pub image_more : (image : Files) → IsImageOf q image → IsImageOf r image
    image_more image w = record {
      done = done ++ w.done;
      left = w.left;
      has = has_more w.done w.left w.has;
      trail = trail_more w.done w.left image w.trail;
    }

    pub comes_after : ComesAfter r (Some c)
    comes_after = record {
      of_run = x.of_run;
      done = done;
      works = works;
      outputs = output_more;
      newest = newest_more;
      next = next_more;
    }

    left_is : x.left ≡ works_by q
    left_is = append_cancel_left done x.left (works_by q) (sym x.has ∙ works)

    pub begins_there : IsDriven q [] v
    begins_there = record {
      of_run = found_there;
      left = works_by q;
      has = refl;
      files = λ j lt. x.files j lt
          ∙ ap (λ (l : List Entry). output_done r l j) (sym (append-nil done))
          ∙ output_more [] j;
      stands = subst (λ (n : Option ℕ). Stands (course_by q) n (next_of q [] (works_by q)) v)
          newest_there
          (subst (λ (k : Option Checkpoint). Stands (course_by r) (newest_of r done) k v)
          (ap (λ (l : List Entry). next_of r l x.left) (sym (append-nil done))
          ∙ next_more [] x.left ∙ ap (next_of q []) left_is) x.stands);
    }

-- ---- from one run to the next

-- it comes after itself
pub after_none : (r : KeptRun) → IsFound r.setup r.key r.rules r.found → ComesAfter r r.found
after_none r of_run = record {
  of_run = of_run;
  done = [];
  works = refl;
  outputs = λ later j. refl;
  newest = λ later. refl;
  next = λ later left. refl;
}

pub after_more : (r : KeptRun) (f g : Option Checkpoint) → ComesAfter r f
    → ComesAfter (run_after r f) g → ComesAfter r g
after_more r f g a b = record {
  of_run = a.of_run;
  done = a.done ++ b.done;
  works = a.works ∙ ap (λ (l : List Entry). a.done ++ l) b.works
      ∙ sym (append_assoc a.done b.done (works_by (run_after r g)));
  outputs = λ later j.
      ap (λ (l : List Entry). output_done r l j) (append_assoc a.done b.done later)
      ∙ a.outputs (b.done ++ later) j ∙ b.outputs later j;
  newest = λ later.
      ap (newest_of r) (append_assoc a.done b.done later)
      ∙ a.newest (b.done ++ later) ∙ b.newest later;
  next = λ later left.
      ap (λ (l : List Entry). next_of r l left) (append_assoc a.done b.done later)
      ∙ a.next (b.done ++ later) left ∙ b.next later left;
}

-- where the later run is done, so is the earlier one
pub whole_after : (r : KeptRun) (f : Option Checkpoint) (v : View) → ComesAfter r f
    → IsDriven (run_after r f) (works_by (run_after r f)) v → IsDriven r (works_by r) v
whole_after r f v a y =
    let later : List Entry = works_by (run_after r f) in
    subst (λ (l : List Entry). IsDriven r l v) (sym a.works)
    (record {
      of_run = a.of_run;
      left = y.left;
      has = a.works ∙ ap (λ (l : List Entry). a.done ++ l) y.has
          ∙ sym (append_assoc a.done later y.left);
      files = λ j lt. y.files j lt ∙ sym (a.outputs later j);
      stands = subst (λ (n : Option ℕ).
          Stands (course_by r) n (next_of r (a.done ++ later) y.left) v) (sym (a.newest later))
          (subst (λ (k : Option Checkpoint).
          Stands (course_by r) (newest_of (run_after r f) later) k v)
          (sym (a.next later y.left)) y.stands);
    })
