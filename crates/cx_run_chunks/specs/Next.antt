-- An output file that is read record by record: the next record of its variable.
use Rattle.std.specs.Prelude.{ℕ, ◌-◌, ◌^◌, nat_lt, min, Bool, true, ◌&&◌, bytes_eq, List, length, Option, Some, None, if◌then◌else◌}
use Rattle.std.specs.List.{flat_map}
use Rattle.cx_ascii_read.specs.declared.record.Record.{Record}
use Rattle.cx_ascii_read.specs.Reading.{◌>>=◌, record_at}

-- How many records there are of several variables. A count that 64 bits don't hold counts as the
-- greatest number that they hold.
abbrev pub total_of : List (List Record) → ℕ
total_of outputs = min (length (flat_map (λ (rs : List Record). rs) outputs)) (2 ^ 64 - 1)

-- an iteration is above the last one, if there was one
abbrev pub is_above : Option ℕ → ℕ → Bool
is_above None iteration = true
is_above (Some last) iteration = nat_lt last iteration

-- a record has this name and these sizes, and comes after the last iteration
abbrev pub is_next : List ℕ → List ℕ → Option ℕ → Record → Bool
is_next full size last r =
    (bytes_eq r.full full && bytes_eq r.size size) && is_above last r.iteration

-- such a record in front of some bytes, and the bytes after it
unfoldable pub next_record : List ℕ → List ℕ → Option ℕ → List ℕ → Option (Record × List ℕ)
next_record full size last bytes = do
  first ← record_at bytes
  if is_next full size last first.0 then Some first else None
