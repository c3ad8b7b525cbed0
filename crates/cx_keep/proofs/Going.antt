-- Going on from what the newest slot spells, in each version.
use Rattle.std.proofs.Common.{◌≡◌, inl, inr, ℕ, zero, suc, ◌<◌, true, false, List, [], ◌∷◌, length, map, take, refl, sym, ◌∙◌, ap, subst, arith}
use Rattle.std.specs.Prelude.{Some, ◌==◌, slice_index, slice_index_or}
use Rattle.std.proofs.lemmas.Bool.{ne_eqb}
use Rattle.cx_disk.specs.Disk.{View, IsView}
use Rattle.cx_disk.specs.Files.{slot_count, old_output_file}
use Rattle.cx_disk.specs.Moments.{IsQuiet}
use Rattle.cx_disk.proofs.Moments.{joins}
use Rattle.cx_plan.specs.declared.job.Job.{Job}
use Rattle.cx_plan.specs.declared.job.Recover.{Recover}
use Rattle.cx_plan.specs.declared.job.Recover.TheVariants.{Autoprobe}
use Rattle.cx_plan.specs.Setups.{setup_of}
use Rattle.cx_plan.specs.Whole.{IsWhole}
use Rattle.cx_outputs.specs.Names.{output_count, output_names, full_names}
use Rattle.cx_ascii_read.specs.Splitting.{split_of}
use Rattle.cx_chk.specs.declared.checkpoint.Checkpoint.{Checkpoint}
use Rattle.cx_chk.specs.Reading.{decoded}
use Rattle.cx_chk.specs.Slots.{header_of, is_second, newest_below, IsOrShut, SlotsSettled}
use Rattle.cx_chk.proofs.Decoding.{decoded_again}
use Rattle.cx_keep.specs.Beginning.{IsWithinStart, CanStart, IsLeft, IsStarted, ResumeStands, RenewStands, RenewMoments, Starts, StartMoments}
use Rattle.cx_keep.specs.Renewing.{CanRenew, AreRenewed, fronts_at}
use Rattle.cx_keep.specs.Resuming.{AreTrails, CanResume, EarlierSame, ResumeMoments, SlotsKept}
use Rattle.cx_keep.specs.Tests.{SpellsAgreeing, renewed, split_at}
use Rattle.cx_keep.specs.Trails.{Course, with_key}
use Rattle.cx_keep.proofs.Afresh.{within_from}
use Rattle.cx_keep.proofs.Begins.{left_back, resumed_quiet, trails_quiet}
use Rattle.cx_keep.proofs.Former.{second_is, place, resumed, former_splits, can_renew, renewed_is}
use Rattle.cx_keep.proofs.Naming.{split_total}
use Rattle.cx_keep.proofs.Starting.{moments_back, probe_keeps, quiet_alone}

some_is : (x y : List (List ℕ)) → Some x ≡ Some y → x ≡ y
some_is x y e = cc

take_size : (n : ℕ) (l : List ℕ) → take (length (take n l)) l ≡ take n l
take_size zero l = refl
take_size (suc n) [] = refl
take_size (suc n) (b ∷ l) = ap (λ (r : List ℕ). b ∷ r) (take_size n l)

size_at : (texts : List (List ℕ)) (j : ℕ) → j < length texts
    → slice_index (map (λ (t : List ℕ). length t) texts) j ≡ length (slice_index_or texts j [])
size_at [] j lt = absurd (omega arith)
size_at (t ∷ ts) zero lt = refl
size_at (t ∷ ts) (suc j) lt = size_at ts j (omega arith)

sizes : (texts : List (List ℕ)) → length (map (λ (t : List ℕ). length t) texts) ≡ length texts
sizes [] = refl
sizes (t ∷ ts) = ap suc (sizes ts)

-- over calls that change no byte
pub renew_quiet : (course : Course) (chk : Checkpoint) (texts : List (List ℕ)) (old mid : View)
    → CanRenew course chk texts old → IsQuiet old mid → CanRenew course chk texts mid
renew_quiet course chk texts old mid can quiet = record {
  of_run = can.of_run;
  slot = can.slot;
  known = can.known;
  header = ap header_of (quiet.same can.slot) ∙ can.header;
  first = ap is_second (quiet.same can.slot) ∙ can.first;
  greatest = λ o m lt head. can.greatest o m lt (sym (ap header_of (quiet.same o)) ∙ head);
  counts = can.counts;
  texts_are = can.texts_are;
  long = can.long;
}

module _ (job : Job) (old mid new : View) (sound : IsView old) (slot n : ℕ)
    (newest : newest_below slot_count old.seen ≡ Some (slot, n)) (found : Checkpoint)
    (spells : SpellsAgreeing (old.seen slot) found) (quiet : IsQuiet old mid) where
  -- ---- version 2
  module _ (two : found.version ≡ 2)
      (many : length found.lengths ≡ output_count (setup_of job)) where
    can_resume : (course : Course) (recover : Recover) → CanStart (setup_of job) course recover old
        → AreTrails course old → CanResume course found mid
    can_resume course recover can trails =
        let second : is_second (old.seen slot) ≡ true =
        second_is (old.seen slot) (with_key spells.key found) spells.spelled
        ∙ ap (λ (v : ℕ). v == 2) two in
        record {
          monotone = can.monotone;
          counts = many ∙ sym can.outputs;
          trails = trails_quiet course old mid trails quiet;
          resumed = resumed_quiet course found old mid
              (resumed course old sound trails slot n newest found spells.key
              (decoded_again (old.seen slot) (with_key spells.key found) spells.spelled) second)
              quiet;
        }

    pub second_moments : ResumeMoments found mid new → StartMoments job Autoprobe old new
    second_moments moments course can trails =
        joins (IsWithinStart course Autoprobe old)
        (quiet_alone job Autoprobe old mid quiet course can trails)
        (moments course (can_resume course Autoprobe can trails)) (within_from course old mid quiet)

    pub second_started : ResumeStands found mid new → IsLeft job found.lengths mid new
        → EarlierSame mid.seen new.seen → IsStarted job Autoprobe (Some found) old new
    second_started stands left earlier = record {
      stands = λ course can. stands course
          (can_resume course Autoprobe can (can.trails probe_keeps));
      left = left_back job found.lengths old mid new (λ f le. quiet.same f) left;
      former = earlier old_output_file (omega arith) ∙ quiet.same old_output_file;
      kept = λ not s lt. inl (earlier s (omega arith) ∙ quiet.same s);
      closed = λ is. absurd (probe_keeps is);
    }

  -- ---- version 1
  module _ (whole : IsWhole job) (not_two : found.version ≡ 2 → ⊥) (texts : List (List ℕ))
      (split : split_at job (slice_index found.lengths 0) old.seen ≡ Some texts) where
    first : is_second (old.seen slot) ≡ false
    first = second_is (old.seen slot) (with_key spells.key found) spells.spelled
        ∙ ne_eqb found.version 2 not_two

    spelled : decoded (old.seen slot) ≡ Some (with_key spells.key found)
    spelled = decoded_again (old.seen slot) (with_key spells.key found) spells.spelled

    module _ (course : Course) (recover : Recover)
        (can : CanStart (setup_of job) course recover old)
        (trails : AreTrails course old) where
      of_run : Checkpoint
      of_run = place course old sound trails slot n newest found spells.key spelled

      texts_are : texts ≡ fronts_at course of_run
      unfolding of_run
      texts_are = some_is texts _ (sym split
          ∙ former_splits course old sound trails slot n newest found spells.key spelled
          (λ (b : List ℕ). split_of b (full_names (setup_of job))) (output_names (setup_of job))
          can.splits can.fronts first)

      renews : CanRenew course of_run texts mid
      unfolding of_run
      renews = renew_quiet course of_run texts old mid
          (subst (λ (ts : List (List ℕ)). CanRenew course of_run ts old) (sym texts_are)
          (can_renew course old sound trails slot n newest found spells.key spelled
          (λ (b : List ℕ). split_of b (full_names (setup_of job))) (output_names (setup_of job))
          can.splits can.fronts first)) quiet

      answer_is : with_key of_run.key (renewed job found texts) ≡ of_run
      unfolding of_run
      answer_is = ap (λ (ts : List (List ℕ)). with_key of_run.key (renewed job found ts)) texts_are
          ∙ renewed_is course old sound trails slot n newest found spells.key spelled
          (λ (b : List ℕ). split_of b (full_names (setup_of job))) (output_names (setup_of job))
          can.splits can.fronts first

    pub first_moments : RenewMoments texts mid new → StartMoments job Autoprobe old new
    first_moments moments course can trails =
        moments_back course Autoprobe old mid new trails quiet
        (moments course (of_run course Autoprobe can trails) Autoprobe
        (trails_quiet course old mid trails quiet) (renews course Autoprobe can trails))

    first_left : AreRenewed texts new → SlotsSettled new
        → IsLeft job (map (λ (t : List ℕ). length t) texts) old new
    first_left own settled =
        let many : (j : ℕ) → j < length (map (λ (t : List ℕ). length t) texts)
        → j < length texts = λ j lt. let e = sizes texts in omega arith in
        record {
          slots = settled;
          counts = λ j lt. size_at texts j (many j lt) ∙ sym (ap length (own j (many j lt)).reads);
          settled = λ j lt. (own j (many j lt)).settled;
          outputs = inr (record {
            texts = texts;
            split_is =
                ap (λ (b : List ℕ). split_of b (full_names (setup_of job)))
                (ap (λ (k : ℕ). take k (old.seen old_output_file))
                (split_total job whole
                (take (slice_index found.lengths 0) (old.seen old_output_file)) texts split)
                ∙ take_size (slice_index found.lengths 0) (old.seen old_output_file))
                ∙ split;
            lengths_are = refl;
            outputs = λ j lt. (own j (many j lt)).reads;
          });
        }

    pub first_started : RenewStands texts mid new → AreRenewed texts new → SlotsSettled new
        → new.seen old_output_file ≡ mid.seen old_output_file → SlotsKept mid.seen new.seen
        → IsStarted job Autoprobe (Some (renewed job found texts)) old new
    first_started stands own settled former slots = record {
      stands = λ course can.
          let trails = can.trails probe_keeps in
          subst (λ (c : Checkpoint). Starts course new (Some c))
          (sym (answer_is course Autoprobe can trails))
          (stands course (of_run course Autoprobe can trails)
          (trails_quiet course old mid trails quiet) (renews course Autoprobe can trails));
      left = first_left own settled;
      former = former ∙ quiet.same old_output_file;
      kept = λ not s lt. subst (λ (b : List ℕ). IsOrShut b (new.seen s)) (quiet.same s)
          (slots s lt);
      closed = λ is. absurd (probe_keeps is);
    }
