-- What a crash may leave, on small files, and which file is which.
use Rattle.std.specs.Prelude.{ℕ, ◌<◌, ◌≡◌, [], ◌∷◌}
use Rattle.std.proofs.Common.{refl, arith}
use Rattle.cx_disk.specs.Disk.{Files, Torn, CutShort}
use Rattle.cx_disk.specs.Files.{slot_count, old_output_file, named_output_file, output_limit, chunk_file, chunk_count, recombined_file}
use Rattle.cx_disk.specs.declared.files.TheConstants.{SLOTS, OLD_OUTPUT, FIRST_CHUNK, CHUNKS, RECOMBINED}
use Rattle.cx_disk.specs.Memory.{file_of, images_at}
use Rattle.cx_disk.specs.declared.note.Change.TheVariants.{Wrote, Synced}

-- even a write of 0 over a 0 may leave a 1
torn_over : Torn 0 1 (0 ∷ 7 ∷ []) (1 ∷ 7 ∷ [])
torn_over = record {
  before = refl;
  behind = refl;
  no_shorter = omega arith;
  no_longer = omega arith;
}

-- a write past the end may leave a part of its length, with any bytes there
torn_past_end : Torn 1 3 (5 ∷ []) (5 ∷ 9 ∷ [])
torn_past_end = record {
  before = refl;
  behind = refl;
  no_shorter = omega arith;
  no_longer = omega arith;
}

-- but it leaves what lies before it
torn_keeps_front : Torn 1 1 (5 ∷ 6 ∷ []) (4 ∷ 6 ∷ []) → ⊥
torn_keeps_front torn = let front = torn.before in absurd (cc)

-- a cut to one byte may leave two of three
cut_to_one : CutShort 1 (5 ∷ 6 ∷ 7 ∷ []) (5 ∷ 6 ∷ [])
cut_to_one = record { no_shorter = omega arith; front = refl }

-- after a write and a sync a crash leaves what was written
written_and_synced : (c : Files)
    → images_at (file_of [])
    (record { file = 8; change = Wrote 0 (1 ∷ []) } ∷ record { file = 8; change = Synced } ∷ []) c
    → c 8 ≡ 1 ∷ []
written_and_synced c image = image.1

-- the slots, the outputs and the chunks stand one after another
slots_first : (slot : ℕ) → slot < slot_count → slot < old_output_file
slots_first slot low = omega (arith, low)

named_next : (j : ℕ) → old_output_file < named_output_file j
named_next j = omega arith

chunks_last : (j k : ℕ) → j < output_limit → named_output_file j < chunk_file k
chunks_last j k few = omega (arith, few)

recombined_last : (k : ℕ) → k < chunk_count → chunk_file k < recombined_file
recombined_last k few = omega (arith, few)

-- the code's numbers are these
slots_same : slot_count ≡ SLOTS
slots_same = refl

old_output_same : old_output_file ≡ OLD_OUTPUT
old_output_same = refl

first_chunk_same : chunk_file 0 ≡ FIRST_CHUNK
first_chunk_same = refl

chunks_same : chunk_count ≡ CHUNKS
chunks_same = refl

recombined_same : recombined_file ≡ RECOMBINED
recombined_same = refl
