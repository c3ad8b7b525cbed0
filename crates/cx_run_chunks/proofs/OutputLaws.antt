-- The outputs of a job: how many they are, and what their files hold.
use Rattle.std.proofs.Common.{◌≡◌, ℕ, suc, ◌+◌, ◌≤◌, ◌<◌, Bool, true, false, List, [], ◌∷◌, length, map, Option, Some, None, refl, sym, ◌∙◌, ap, arith}
use Rattle.std.specs.Prelude.{All, AllPairs, bytes_eq, nat_lt, slice_index_or, if◌then◌else◌}
use Rattle.std.specs.List.{list_all, range_with_len, AllByRecursion}
use Rattle.std.proofs.lemmas.Bool.{and_parts}
use Rattle.std.proofs.lemmas.Bool.Decides.{nat_tests}
use Rattle.std.proofs.lemmas.Slice.Eq.{bytes_eq-Decides}
use Rattle.cx_plan.specs.declared.variable.VarId.{VarId}
use Rattle.cx_plan.specs.declared.variable.VarInfo.{VarInfo}
use Rattle.cx_plan.specs.declared.job.Job.{Job}
use Rattle.cx_plan.specs.Lookups.{variable}
use Rattle.cx_plan.specs.Setups.{Setup, setup_of}
use Rattle.cx_plan.specs.Whole.{IsVariable, IsWhole}
use Rattle.cx_disk.specs.Disk.{Files}
use Rattle.cx_disk.specs.Files.{named_output_file}
use Rattle.cx_outputs.specs.Names.{output_count}
use Rattle.cx_ascii_read.specs.declared.record.Record.{Record}
use Rattle.cx_ascii_read.specs.Records.{IsRecord, record_text}
use Rattle.cx_ascii_read.specs.Spelling.{ReadsAll}
use Rattle.cx_ascii_read.specs.Reading.{◌>>=◌, record_at}
use Rattle.cx_ascii_read.proofs.RecordLaws.{record_field, no_record}
use Rattle.cx_chunks.specs.declared.fault.ChunkFault.{ChunkFault}
use Rattle.cx_chunks.specs.declared.piece.Piece.{Piece}
use Rattle.cx_chunks.specs.Pieces.{IsPiece, piece_text}
use Rattle.cx_chunks.specs.Reading.{piece_at}
use Rattle.cx_chunks.proofs.PieceLaws.{piece_field, no_piece}
use Rattle.cx_chunks.specs.Cutting.{AreOutputs, IsOutputOf, IsRecordOf, IsRising, sizes_in}
use Rattle.cx_run_chunks.specs.Entries.{found, pieces_of, records_of}
use Rattle.cx_run_chunks.specs.Commands.{fault_unless, first_by_place, if_output, is_output_of, is_record_of, is_rising, is_rising_from, not_output, output_in, output_records, outputs_fault, records_at}
use Rattle.cx_run_chunks.proofs.EntryLaws.{answer_is, read_spelled}
use Rattle.cx_run_chunks.proofs.CountLaws.{none_of_two}

-- rising numbers below a limit are no more than that
few_from : (vs : List VarId) (n k : ℕ) → k ≤ n → All (λ (v : VarId). v.0 < n) vs
    → AllPairs (λ (a b : VarId). a.0 < b.0) vs → All (λ (v : VarId). k ≤ v.0) vs
    → length vs + k ≤ n
few_from [] n k le all rise low = omega arith
few_from (v ∷ vs) n k le all rise low =
    let a : v.0 < n = all 0 v (omega arith) in
    let b : k ≤ v.0 = low 0 v (omega arith) in
    let rest = few_from vs n (v.0 + 1) (omega arith) (λ j d lt. all (suc j) d (omega arith))
    (λ i j d lt within. rise (suc i) (suc j) d (omega arith) (omega arith))
    (λ j d lt.
    let r : v.0 < (slice_index_or vs j d).0 = rise 0 (suc j) d (omega arith) (omega arith) in
    omega arith) in
    omega arith

pub few_outputs : (job : Job) → IsWhole job → output_count (setup_of job) ≤ 256
few_outputs job whole =
    let most = few_from job.out_vars (length job.vars) 0 (omega arith)
    (λ j d lt. (whole.outputs j d lt).0) whole.outputs_rise (λ j d lt. omega arith) in
    let limit = whole.variables_limit in
    omega arith

-- each output is of a variable
pub outputs_are : (job : Job) → IsWhole job → All (IsVariable job) job.out_vars
outputs_are job whole j d lt = (whole.outputs j d lt).0

-- ---- what the tests of an output file say

all_above : (n m : ℕ) (ms : List ℕ) → n < m → AllByRecursion (λ j. m < j) ms
    → AllByRecursion (λ j. n < j) ms
all_above n m [] lt all = tt
all_above n m (k ∷ ms) lt all = (let first = all.0 in omega arith, all_above n m ms lt all.1)

rising_behind : (n : ℕ) (ms : List ℕ) → is_rising_from n ms ≡ true
    → AllByRecursion (λ j. n < j) ms × IsRising ms
rising_behind n [] e = (tt, tt)
rising_behind n (m ∷ ms) e =
    let p = and_parts (nat_lt n m) (is_rising_from m ms) e in
    let first = p.0 in
    let lt : n < m = grind (arith, nat_tests) in
    let rest = rising_behind m ms p.1 in
    ((lt, all_above n m ms lt rest.0), (rest.0, rest.1))

rising_all : (ns : List ℕ) → is_rising ns ≡ true → IsRising ns
rising_all [] e = tt
rising_all (n ∷ ns) e = rising_behind n ns e

records_are : (setup : Setup) (v : VarInfo) (rs : List Record) → AllByRecursion IsRecord rs
    → list_all (is_record_of setup v) rs ≡ true → AllByRecursion (IsRecordOf setup v) rs
records_are setup v [] is e = tt
records_are setup v (r ∷ rs) is e =
    let p = and_parts (is_record_of setup v r) (list_all (is_record_of setup v) rs) e in
    let q = and_parts (bytes_eq r.full v.full) (bytes_eq r.size (sizes_in setup v)) p.0 in (
      record {
        is = is.0;
        full = (bytes_eq-Decides r.full v.full).0 q.0;
        size = (bytes_eq-Decides r.size (sizes_in setup v)).0 q.1;
      },
      records_are setup v rs is.1 p.1,
    )

output_is : (setup : Setup) (v : VarInfo) (bytes : List ℕ) (fault : ChunkFault)
    → fault_unless fault (output_in setup v bytes) ≡ None
    → IsOutputOf setup v (found (records_of bytes))
output_is setup v bytes fault none = by (records_of bytes) refl none
  where
    tested : (rs : List Record) (b : Bool) → records_of bytes ≡ Some rs
        → is_output_of setup v rs ≡ b
        → fault_unless fault (if b then Some rs else None) ≡ None → IsOutputOf setup v rs
    tested rs false read is e = absurd cc
    tested rs true read is e =
        let p = and_parts (list_all (is_record_of setup v) rs)
        (is_rising (map (λ (r : Record). r.iteration) rs)) is in
        record {
          records = records_are setup v rs
              (read_spelled record_text record_at IsRecord record_field no_record (length bytes)
              bytes rs read).in_range p.0;
          rising = rising_all (map (λ (r : Record). r.iteration) rs) p.1;
        }

    by : (o : Option (List Record)) → records_of bytes ≡ o
        → fault_unless fault (o >>= if_output setup v) ≡ None
        → IsOutputOf setup v (found o)
    by None read e = absurd cc
    by (Some rs) read e = tested rs (is_output_of setup v rs) read refl e

outputs_from : (setup : Setup) (files : Files) (k : ℕ) (vs : List VarId)
    → first_by_place (not_output setup files) k vs ≡ None
    → AreOutputs setup vs (map (records_at files) (range_with_len k (length vs)))
outputs_from setup files k [] e = tt
outputs_from setup files k (v ∷ vs) e =
    let p = none_of_two (not_output setup files k v)
    (first_by_place (not_output setup files) (k + 1) vs) e in (
      output_is setup (variable setup v) (files (named_output_file k)) _ p.0,
      outputs_from setup files (k + 1) vs p.1,
    )

pub files_are_outputs : (job : Job) (files : Files) → outputs_fault (setup_of job) files ≡ None
    → AreOutputs (setup_of job) job.out_vars (output_records (setup_of job) files)
files_are_outputs job files none =
    outputs_from (setup_of job) files 0 job.out_vars (none_of_two _ _ none).1

-- ---- what a reader's answer is

pub pieces_answer : (bytes : List ℕ) (answer : Option (List Piece))
    → ReadsAll piece_text IsPiece bytes answer → answer ≡ pieces_of bytes
pieces_answer bytes answer reads =
    answer_is piece_text piece_at IsPiece piece_field no_piece bytes answer reads

-- ---- entries that are there, and entries that aren't

pub there : {X : Type 0} (fault : ChunkFault) (o w : Option X) (x : X) → o ≡ w → o ≡ Some x
    → fault_unless fault w ≡ None
there fault o w x same is = ap (fault_unless fault) (sym same ∙ is)

pub got : {X : Type 0} (o w : Option (List X)) (xs : List X) → o ≡ w → o ≡ Some xs → xs ≡ found w
got o w xs same is = sym (ap found (sym same ∙ is))

pub gone : {X : Type 0} (fault : ChunkFault) (o w : Option X) → o ≡ w → o ≡ None
    → fault_unless fault w ≡ Some fault
gone fault o w same is = ap (fault_unless fault) (sym same ∙ is)
