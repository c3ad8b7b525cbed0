-- Files written anew, one after another.
use Rattle.std.proofs.Common.{◌≡◌, ◌⊎◌, inl, inr, ℕ, ◌+◌, ◌≤◌, ◌<◌, List, [], length, refl, sym, ◌∙◌, subst, arith}
use Rattle.std.specs.Prelude.{slice_index_or}
use Rattle.std.proofs.lemmas.Bool.{cases_eq}
use Rattle.cx_disk.specs.Disk.{Files, View, Anew, IsSettled}
use Rattle.cx_cut.specs.Cuts.{Parts, part_count}
use Rattle.cx_disk.specs.Files.{IsFile, chunk_file}
use Rattle.cx_disk.specs.Moments.{After, IsDone, IsQuiet, Stepped}
use Rattle.cx_disk.proofs.Moments.{joins, started, weaker}
use Rattle.cx_run_chunks.specs.Writing.{AfterWriting, AreFiles, AreWritten, Writes}

pub file_among : (below first count k : ℕ) → AreFiles below first count → k < count
    → IsFile below (first + k)
file_among below first count k (most, inl low) lt = inl (omega arith)
file_among below first count k (most, inr high) lt = inr (omega arith, omega arith)

other_file : (first count k file : ℕ) → k < count
    → (file < first) ⊎ (first + count ≤ file) → file ≡ first + k → ⊥
other_file first count k file lt (inl low) same = omega arith
other_file first count k file lt (inr high) same = omega arith

after_more : (step : List ℕ → List ℕ → Type 0) (first count k : ℕ) (start old : View) → k < count
    → ((image : Files) → old.images image → AfterWriting first count start image)
    → (image : Files) → After step (first + k) old image → AfterWriting first count start image
after_more step first count k start old lt crash image from =
    let w = crash from.0 from.1 in (
      w.0,
      w.1,
      λ file out. from.2.others file (other_file first count k file lt out) ∙ w.2 file out,
    )

pub writes_none : (first count : ℕ) (v : View) → Writes first count v v
writes_none first count v = record {
  others = λ file out. refl;
  crash = λ image now. (image, now, λ file out. refl);
  moments = started v (AfterWriting first count v);
}

pub writes_more : (step : List ℕ → List ℕ → Type 0) (first count k : ℕ) (start old new : View)
    → k < count → Writes first count start old → Stepped step (first + k) old new
    → Writes first count start new
writes_more step first count k start old new lt so_far more =
    record {
      others = λ file out. more.others file (other_file first count k file lt out)
          ∙ so_far.others file out;
      crash = λ image now.
          after_more step first count k start old lt so_far.crash image
          (more.crash image now);
      moments = joins (AfterWriting first count start) so_far.moments more.moments
          (after_more step first count k start old lt so_far.crash);
    }

-- after calls that change no byte
pub quiet_writes : (first count : ℕ) (start old new : View) → IsQuiet start old
    → Writes first count old new → Writes first count start new
quiet_writes first count start old new quiet writes =
    let back : (image : Files) → AfterWriting first count old image
    → AfterWriting first count start image = λ image from.
    let o = quiet.crash from.0 from.1 in (o.0, o.1, λ file out. from.2 file out ∙ o.2 file) in
    record {
      others = λ file out. writes.others file out ∙ quiet.same file;
      crash = λ image now. back image (writes.crash image now);
      moments = joins (AfterWriting first count start)
          (weaker (AfterWriting first count start) quiet.moments
          (λ image from. (from.0, from.1, λ file out. from.2 file)))
          writes.moments back;
    }

pub only_quiet : (first count : ℕ) (start new : View) → IsQuiet start new
    → Writes first count start new
only_quiet first count start new quiet =
    quiet_writes first count start new new quiet (writes_none first count new)

-- a file that reads as its text, and is settled
pub record IsOwn (first : ℕ) (texts : List (List ℕ)) (now : View) (j : ℕ) : Type 0 where
  pub read : now.seen (first + j) ≡ slice_index_or texts j []
  pub settled : IsSettled now (first + j)

apart : (first j k : ℕ) → (j ≡ k → ⊥) → first + j ≡ first + k → ⊥
apart first j k ne same = ne (omega arith)

pub own_more : (step : List ℕ → List ℕ → Type 0) (first : ℕ) (texts : List (List ℕ)) (k : ℕ)
    (text : List ℕ) (old new : View) → text ≡ slice_index_or texts k []
    → ((j : ℕ) → j < k → IsOwn first texts old j)
    → Stepped step (first + k) old new → IsDone (Anew text) (first + k) old new
    → (j : ℕ) → j < k + 1 → IsOwn first texts new j
own_more step first texts k text old new is own after done j low =
    elim (cases_eq j k) as (λ _. IsOwn first texts new j) [
      | inl same ↦
          subst (λ (i : ℕ). IsOwn first texts new i) (sym same)
          (record { read = done.changed ∙ is; settled = done.settled })
      | inr ne ↦
          let o = own j (omega arith) in
          let other = apart first j k ne in
          record {
            read = after.others (first + j) other ∙ o.read;
            settled = λ image now.
                let from = after.crash image now in
                from.2.others (first + j) other ∙ o.settled from.0 from.1
                ∙ sym (after.others (first + j) other);
          }
    ]

pub all_own : (first : ℕ) (texts : List (List ℕ)) (now : View) (k : ℕ)
    → length texts ≤ k → ((j : ℕ) → j < k → IsOwn first texts now j)
    → AreWritten first texts now
all_own first texts now k all own = record {
  read = λ j lt. (own j (omega arith)).read;
  settled = λ j lt. (own j (omega arith)).settled;
}

-- files among more files
wider : (first count low many file : ℕ) → low ≤ first → first + count ≤ low + many
    → (file < low) ⊎ (low + many ≤ file) → (file < first) ⊎ (first + count ≤ file)
wider first count low many file above within (inl less) = inl (omega arith)
wider first count low many file above within (inr more) = inr (omega arith)

pub writes_within : (first count low many : ℕ) (old new : View) → low ≤ first
    → first + count ≤ low + many → Writes first count old new → Writes low many old new
writes_within first count low many old new above within writes =
    let after : (image : Files) → AfterWriting first count old image
    → AfterWriting low many old image = λ image from.
    (from.0, from.1, λ file out. from.2 file (wider first count low many file above within out)) in
    record {
      others = λ file out. writes.others file (wider first count low many file above within out);
      crash = λ image now. after image (writes.crash image now);
      moments = weaker (AfterWriting low many old) writes.moments after;
    }

-- the chunks of all parts are files of a disk
pub chunks_are_files : (below count : ℕ) (c : Parts) → count ≡ part_count c → part_count c ≤ 512
    → AreFiles below (chunk_file 0) count
chunks_are_files below count c many few = (omega (arith, many, few), inr (omega arith))
