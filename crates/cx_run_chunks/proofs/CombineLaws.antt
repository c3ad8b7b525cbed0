-- What is told of cut output, and of chunks that are put together.
use Rattle.std.proofs.Common.{◌≡◌, ◌⊎◌, inl, inr, ℕ, ◌-◌, ◌^◌, min, List, length, Option, Some, None, Ok, Err, refl, sym, ap, ◌∙◌}
use Rattle.std.specs.List.{concat}
use Rattle.cx_plan.specs.declared.job.Job.{Job}
use Rattle.cx_plan.specs.Setups.{setup_of}
use Rattle.cx_plan.specs.Whole.{IsWhole}
use Rattle.cx_plan.specs.Lists.{or_else}
use Rattle.cx_cut.specs.Cuts.{Parts, part_count}
use Rattle.cx_disk.specs.Disk.{Files}
use Rattle.cx_chunks.specs.declared.fault.ChunkFault.{ChunkFault}
use Rattle.cx_chunks.specs.declared.fault.ChunkFault.TheVariants.{Memory}
use Rattle.cx_chunks.specs.declared.piece.Piece.{Piece}
use Rattle.cx_chunks.specs.Cutting.{chunk_texts}
use Rattle.cx_chunks.specs.Combining.{chunk_fault, combined, unless}
use Rattle.cx_run_chunks.specs.declared.fault.ChunksFault.TheVariants as chunks
use Rattle.cx_run_chunks.specs.declared.summary.Chunked.{Chunked}
use Rattle.cx_run_chunks.specs.declared.summary.Recombined.{Recombined}
use Rattle.cx_run_chunks.specs.Commands.{all_pieces, chunked_of, chunks_to_write, files_fault, output_records, outputs_fault, parts_in, recombine_fault, recombined_of, record_count, whole_output}
use Rattle.cx_run_chunks.specs.Faults.{IsFaultOf}
use Rattle.cx_run_chunks.specs.Next.{total_of}
use Rattle.cx_run_chunks.proofs.CountLaws.{pieces_fit, records_fit}
use Rattle.cx_run_chunks.proofs.LoopLaws.{second_fault}
use Rattle.cx_run_chunks.proofs.OutputLaws.{few_outputs}

-- ---- cut output

abbrev chunked : ℕ → ℕ → Chunked
chunked parts records = record { parts = parts; records = records }

pub chunked_is : (job : Job) (files : Files) (c : Parts) (parts records : ℕ)
    → outputs_fault (setup_of job) files ≡ None → c ≡ parts_in job → parts ≡ part_count c
    → records ≡ total_of (output_records (setup_of job) files)
    → chunked parts records ≡ chunked_of job files
chunked_is job files c parts records none cut count all =
    let fits = records_fit (setup_of job) files records none all in
    ap (λ (n : ℕ). chunked n records) (count ∙ ap part_count cut)
    ∙ ap (λ (n : ℕ). chunked (part_count (parts_in job)) n) fits

pub texts_are : (job : Job) (files : Files) (c : Parts) (texts : List (List ℕ)) → c ≡ parts_in job
    → texts ≡ chunk_texts c (output_records (setup_of job) files)
    → texts ≡ chunks_to_write job files
texts_are job files c texts cut is =
    is ∙ ap (λ (k : Parts). chunk_texts k (output_records (setup_of job) files)) cut

-- ---- chunks that are put together

unless_err : {A : Type 0} (whole : A) (o : Option ChunkFault) (f : ChunkFault)
    → unless whole o ≡ Err f → o ≡ Some f
unless_err whole None f e = absurd cc
unless_err whole (Some g) f e = cc

unless_ok : {A : Type 0} (whole : A) (o : Option ChunkFault) (x : A)
    → unless whole o ≡ Ok x → (o ≡ None) × (whole ≡ x)
unless_ok whole None x e = (refl, cc)
unless_ok whole (Some g) x e = absurd cc

none_and : (a b : Option ChunkFault) → a ≡ None → b ≡ None → or_else a b ≡ None
none_and a b first second = ap (λ (o : Option ChunkFault). or_else o b) first ∙ second

module _ (job : Job) (files : Files) (c : Parts) (pieces : List (List Piece))
    (cut : c ≡ parts_in job) (same : pieces ≡ all_pieces c files)
    (none : files_fault c files ≡ None) where
  moved : combined (setup_of job) c pieces
      ≡ combined (setup_of job) (parts_in job) (all_pieces (parts_in job) files)
  moved = ap (combined (setup_of job) c) same
      ∙ ap (λ (k : Parts). combined (setup_of job) k (all_pieces k files)) cut

  no_files_fault : files_fault (parts_in job) files ≡ None
  no_files_fault = sym (ap (λ (k : Parts). files_fault k files) cut) ∙ none

  pub combine_fault : (e : ChunkFault)
      → (e ≡ Memory) ⊎ (combined (setup_of job) c pieces ≡ Err e)
      → IsFaultOf (recombine_fault job files) (chunks.Chunks e)
  combine_fault e (inl memory) = inl memory
  combine_fault e (inr is) =
      second_fault (files_fault (parts_in job) files)
      (chunk_fault (setup_of job) (parts_in job) (all_pieces (parts_in job) files))
      (chunks.Chunks e) no_files_fault
      (inr (unless_err _ _ e (sym moved ∙ is)))

  pub no_fault : (texts : List (List ℕ)) → combined (setup_of job) c pieces ≡ Ok texts
      → recombine_fault job files ≡ None
  no_fault texts is =
      none_and (files_fault (parts_in job) files)
      (chunk_fault (setup_of job) (parts_in job) (all_pieces (parts_in job) files))
      no_files_fault (unless_ok _ _ texts (sym moved ∙ is)).0

  pub whole_is : (texts : List (List ℕ)) → combined (setup_of job) c pieces ≡ Ok texts
      → concat texts ≡ whole_output job files
  whole_is texts is = ap concat (sym (unless_ok _ _ texts (sym moved ∙ is)).1)

  pub records_are : (count : ℕ) → IsWhole job
      → count ≡ min (record_count (setup_of job) pieces) (2 ^ 64 - 1)
      → count ≡ (recombined_of job files).records
  records_are count whole is =
      pieces_fit (setup_of job) (parts_in job) files count no_files_fault (few_outputs job whole)
      (is ∙ ap (λ (ps : List (List Piece)). min (record_count (setup_of job) ps) (2 ^ 64 - 1))
      (same ∙ ap (λ (k : Parts). all_pieces k files) cut))

abbrev recombined : ℕ → ℕ → Recombined
recombined records bytes = record { records = records; bytes = bytes }

pub recombined_is : (job : Job) (files : Files) (records bytes : ℕ) (text : List ℕ)
    → records ≡ (recombined_of job files).records → text ≡ whole_output job files
    → bytes ≡ length text → recombined records bytes ≡ recombined_of job files
recombined_is job files records bytes text count same long =
    ap (λ (n : ℕ). recombined n bytes) count
    ∙ ap (λ (n : ℕ). recombined (recombined_of job files).records n) (long ∙ ap length same)
