-- The words of the command line, as what they ask for.
use Rattle.std.specs.Prelude.{ℕ, ◌-◌, ◌^◌, Bool, not, false, ◌==◌, nat_le, nat_eq, List, [], ◌∷◌, length, drop, codes, bytes_eq, Option, Some, None, if◌then◌else◌}
use Rattle.std.specs.List.{starts_with}
use Rattle.cx_text.specs.Digits.{natural_in}
use Rattle.cx_plan.specs.Lists.{or_else}
use Rattle.cx_run_made.specs.Files.{file_name}
use Rattle.cx_run.specs.declared.words.Command.{Command}
use Rattle.cx_run.specs.declared.words.Command.TheVariants.{Run, Make, Chunk, Recombine, Check, Schedule, Describe, Parts}

-- a command, the name of its file, and the seed of its turns
pub record Request : Type 0 where
  pub command : Command
  pub file : List ℕ
  pub seed : ℕ

abbrev pub request : Command → List ℕ → ℕ → Request
request command file seed = record { command = command; file = file; seed = seed }

-- a file's name isn't empty and doesn't begin with a dash
abbrev pub is_file : List ℕ → Bool
is_file [] = false
is_file (byte ∷ more) = not (byte == 45)

abbrev pub with_file : Command → ℕ → List ℕ → Option Request
with_file command seed file = if is_file file then Some (request command file seed) else None

-- ---- the words of a run

-- a seed: one to twenty digits, below 2^64
abbrev pub seed_in : List ℕ → Option ℕ
seed_in word = if nat_le (length word) 20 then natural_in (2 ^ 64 - 1) word else None

-- `--turns=SEED`
abbrev pub joined_seed : List ℕ → Option ℕ
joined_seed word =
    if starts_with nat_eq word (codes "--turns=") then seed_in (drop 8 word) else None

-- `--turns SEED`
abbrev pub spaced_seed : List ℕ → List ℕ → Option ℕ
spaced_seed word next = if bytes_eq word (codes "--turns") then seed_in next else None

abbrev pub run_with : List ℕ → Option ℕ → Option Request
run_with file None = None
run_with file (Some seed) = with_file Run seed file

-- a file, with a seed before or after it, or with none
abbrev pub run_asked : List (List ℕ) → Option Request
run_asked [] = None
run_asked (file ∷ []) = with_file Run 0 file
run_asked (a ∷ b ∷ []) = or_else (run_with a (joined_seed b)) (run_with b (joined_seed a))
run_asked (a ∷ b ∷ c ∷ []) = or_else (run_with a (spaced_seed b c)) (run_with c (spaced_seed a b))
run_asked (a ∷ b ∷ c ∷ d ∷ words) = None

-- ---- the words of `make`

-- its seed: one to twenty digits, below 2^63
abbrev pub made_seed : List ℕ → Option ℕ
made_seed word = if nat_le (length word) 20 then natural_in (2 ^ 63 - 1) word else None

-- its size: one to four digits, from 8 to 1024
abbrev pub from_8 : Option ℕ → Option ℕ
from_8 None = None
from_8 (Some size) = if nat_le 8 size then Some size else None

abbrev pub made_size : List ℕ → Option ℕ
made_size word = if nat_le (length word) 4 then from_8 (natural_in 1024 word) else None

-- it runs the parameter file that it makes, with turns from 0
abbrev pub make_with : Option ℕ → Option ℕ → Option Request
make_with None size = None
make_with (Some seed) None = None
make_with (Some seed) (Some size) = Some (request (Make seed size) file_name 0)

abbrev pub make_asked : List (List ℕ) → Option Request
make_asked [] = None
make_asked (seed ∷ []) = None
make_asked (seed ∷ size ∷ []) = make_with (made_seed seed) (made_size size)
make_asked (seed ∷ size ∷ next ∷ words) = None

-- ---- the words of the other commands

abbrev pub command_of : List ℕ → Option Command
command_of word =
    if bytes_eq word (codes "check") then Some Check
    else (if bytes_eq word (codes "schedule") then Some Schedule
    else (if bytes_eq word (codes "describe") then Some Describe
    else (if bytes_eq word (codes "parts") then Some Parts
    else (if bytes_eq word (codes "chunk") then Some Chunk
    else (if bytes_eq word (codes "recombine") then Some Recombine else None)))))

-- a file alone
abbrev pub file_asked : Option Command → List (List ℕ) → Option Request
file_asked None words = None
file_asked (Some command) [] = None
file_asked (Some command) (file ∷ []) = with_file command 0 file
file_asked (Some command) (file ∷ next ∷ words) = None

-- ---- what words ask for, or none where they ask for nothing that there is

abbrev pub asked : List (List ℕ) → Option Request
asked [] = None
asked (word ∷ words) =
    if bytes_eq word (codes "run") then run_asked words
    else (if bytes_eq word (codes "make") then make_asked words
    else file_asked (command_of word) words)
