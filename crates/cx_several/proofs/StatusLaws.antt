-- From what the top call ensures of a batch to what its status says of the words.
use Rattle.std.proofs.Common.{◌≡◌, ◌⊎◌, ℕ, ◌≤◌, List, None, inl, inr, Some, true, arith}
use Rattle.cx_run.specs.Answers.{IsStatus}
use Rattle.cx_run.specs.Calls.{Lent}
use Rattle.cx_run.specs.Texts.{usage_text}
use Rattle.cx_run.specs.Words.{is_file, request}
use Rattle.cx_run.specs.declared.words.Command.TheVariants.{Run}
use Rattle.cx_run.proofs.Readings.{status_for}
use Rattle.cx_several.specs.Batches.{Batch, Place, alone}
use Rattle.cx_several.specs.Clauses.{Comes, ObeysAll}
use Rattle.cx_several.specs.Members.{HasRunAlone, Share, sink_of, statuses_of, texts_of}
use Rattle.cx_several.specs.Statuses.{IsBatchStatus}
use Rattle.cx_several.specs.Texts.{fault_status, fault_text, lines, status_in}
use Rattle.cx_several.specs.Words.{files_asked}
use Rattle.cx_several.specs.declared.fault.BatchFault.{BatchFault}
use Rattle.cx_several.specs.declared.fault.BatchFault.TheVariants as batch
use Rattle.cx_several.proofs.ClauseLaws.{each_status, files_named, none_some, result_of}
use Rattle.cx_several.proofs.MemberLaws.{asks_run}

-- a status that isn't 7
six_of : (s : ℕ) → IsStatus s → (s ≡ 7 → ⊥) → s ≤ 6
six_of s (inl e) differs = omega (arith, e)
six_of s (inr (inl e)) differs = omega (arith, e)
six_of s (inr (inr (inl e))) differs = omega (arith, e)
six_of s (inr (inr (inr (inl e)))) differs = omega (arith, e)
six_of s (inr (inr (inr (inr (inl e))))) differs = omega (arith, e)
six_of s (inr (inr (inr (inr (inr (inl e)))))) differs = omega (arith, e)
six_of s (inr (inr (inr (inr (inr (inr (inl e))))))) differs = omega (arith, e)
six_of s (inr (inr (inr (inr (inr (inr (inr e))))))) differs = absurd (differs e)

fault_six : (fault : BatchFault) → fault_status fault ≤ 6
fault_six batch.Shelf = omega arith
fault_six (batch.Job file fault) = omega arith
fault_six (batch.SameFolder a b) = omega arith
fault_six (batch.Limit n) = omega arith
fault_six batch.Memory = omega arith

result_six : (n result : ℕ) → n ≤ 6 → (result ≡ n) ⊎ ((result ≡ 4) ⊎ (result ≡ 5)) → result ≤ 6
result_six n result few (inl e) = omega (arith, few, e)
result_six n result few (inr (inl e)) = omega (arith, e)
result_six n result few (inr (inr e)) = omega (arith, e)

module _ {D W : Type 0} (words : List (List ℕ)) (c : Batch D W) (sink : Lent (List ℕ))
    (result : ℕ) where
  alone_six : (file : List ℕ) (p : Place D W) (s : Share) → is_file file ≡ true
      → HasRunAlone c file p s → s.status ≤ 6
  alone_six file p s is_name x =
      let is = status_for (alone c file p x.meter) (sink_of s.text) s.status x.obeys in
      six_of s.status is.known
      (λ seven. is.refused (request Run file 0) (asks_run file is_name) seven)

  known : Comes words c sink result → result ≤ 6
  known (inl x) = result_six 1 result (omega arith) (result_of sink 1 usage_text result x.said)
  known (inr (inl x)) =
      result_six (fault_status x.fault) result (fault_six x.fault)
      (result_of sink (fault_status x.fault) (fault_text x.fault) result x.said)
  known (inr (inr x)) =
      let ss = x.turns.shares in
      result_six (status_in (statuses_of ss)) result
      (each_status c (λ n. n ≤ 6) (omega arith) alone_six x.files ss c.disks.old c.disks.new
      c.wires.old c.wires.new (files_named words x.files x.asks) x.turns.each)
      (result_of sink (status_in (statuses_of ss)) (lines x.files (texts_of ss)) result
      x.turns.said)

  wrong_use : Comes words c sink result → files_asked words ≡ None
      → (result ≡ 1) ⊎ ((result ≡ 4) ⊎ (result ≡ 5))
  wrong_use (inl x) none = result_of sink 1 usage_text result x.said
  wrong_use (inr (inl x)) none = absurd (none_some (files_asked words) x.files none x.asks)
  wrong_use (inr (inr x)) none = absurd (none_some (files_asked words) x.files none x.asks)

  pub batch_status : ObeysAll words c sink result → IsBatchStatus words result
  batch_status obeys = record {
    known = known obeys.comes;
    wrong_use = wrong_use obeys.comes;
    usage = obeys.owed.only_usage;
  }
