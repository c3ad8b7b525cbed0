-- A sink in memory.
use Rattle.std.specs.Prelude.{ℕ, ◌+◌, ◌-◌, ◌≤◌, List, [], length, take}
use Rattle.std.specs.List.{Contains}

-- its bytes, the most that it holds, the numbers of the calls that fail, and how many calls and
-- faults there were
pub record Written : Type 0 where
  pub bytes : List ℕ
  pub room : ℕ
  pub fail : List ℕ
  pub calls : ℕ
  pub faults : ℕ

-- the next call is one of those that fail
abbrev pub FailsNext : Written → Type 0
FailsNext sink = Contains sink.fail sink.calls

-- there is room for the piece
abbrev pub HasRoom : Written → List ℕ → Type 0
HasRoom sink piece = length sink.bytes + length piece ≤ sink.room

-- a sink that nothing was written to
abbrev pub empty_sink : ℕ → List ℕ → Written
empty_sink room fail = record { bytes = []; room = room; fail = fail; calls = 0; faults = 0 }

-- the front of a piece that there is room for
abbrev pub fitting : Written → List ℕ → List ℕ
fitting sink piece = take (sink.room - length sink.bytes) piece
