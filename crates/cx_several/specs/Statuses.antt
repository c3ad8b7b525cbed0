-- Which statuses words can come to.
use Rattle.std.specs.Prelude.{◌≡◌, ◌⊎◌, ◌≤◌, ℕ, List, None, true, false}
use Rattle.cx_run.specs.Answers.{IsStatusFor}
use Rattle.cx_several.specs.Words.{begins_batch, files_asked}

-- Of a batch: where the words name no files it is 1, unless the sink failed or memory runs out, and
-- only there.
pub record IsBatchStatus (words : List (List ℕ)) (status : ℕ) : Type 0 where
  pub known : status ≤ 6
  pub wrong_use : files_asked words ≡ None → (status ≡ 1) ⊎ ((status ≡ 4) ⊎ (status ≡ 5))
  pub usage : status ≡ 1 → files_asked words ≡ None

-- of any words
pub record IsStatusForAll (words : List (List ℕ)) (status : ℕ) : Type 0 where
  pub several : begins_batch words ≡ true → IsBatchStatus words status
  pub one : begins_batch words ≡ false → IsStatusFor words status
