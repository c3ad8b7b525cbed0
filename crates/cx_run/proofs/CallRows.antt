-- The definitions on command lines and on what is printed for them.
use Rattle.std.proofs.Common.{◌≡◌, [], ◌∷◌, codes, pos, Some, None, refl}
use Rattle.std.specs.Fmt.{digits}
use Rattle.cx_chunks.specs.declared.fault.ChunkFault.TheVariants as chunks
use Rattle.cx_job.specs.declared.fault.JobFault.TheVariants as faults
use Rattle.cx_keep.specs.declared.fault.BeginFault.TheVariants as begins
use Rattle.cx_model.specs.declared.ends.End.TheVariants as ends
use Rattle.cx_run.specs.Answers.{text_of, answer_of}
use Rattle.cx_run.specs.Words.{asked, request}
use Rattle.cx_run.specs.declared.reply.Answer.TheVariants as a
use Rattle.cx_run.specs.declared.words.Command.TheVariants as commands

a_run : asked (codes "run" ∷ codes "ca.par" ∷ []) ≡ Some (request commands.Run (codes "ca.par") 0)
a_run = refl

a_seed_behind : asked (codes "run" ∷ codes "ca.par" ∷ codes "--turns" ∷ codes "12" ∷ [])
    ≡ Some (request commands.Run (codes "ca.par") 12)
a_seed_behind = refl

a_seed_before : asked (codes "run" ∷ codes "--turns" ∷ codes "7" ∷ codes "ca.par" ∷ [])
    ≡ Some (request commands.Run (codes "ca.par") 7)
a_seed_before = refl

a_joined_seed : asked (codes "run" ∷ codes "ca.par" ∷ codes "--turns=007" ∷ [])
    ≡ Some (request commands.Run (codes "ca.par") 7)
a_joined_seed = refl

a_joined_seed_before : asked (codes "run" ∷ codes "--turns=3" ∷ codes "ca.par" ∷ [])
    ≡ Some (request commands.Run (codes "ca.par") 3)
a_joined_seed_before = refl

two_seeds : asked (codes "run" ∷ codes "--turns=3" ∷ codes "ca.par" ∷ codes "--turns=3" ∷ []) ≡ None
two_seeds = refl

no_seed : asked (codes "run" ∷ codes "ca.par" ∷ codes "--turns" ∷ []) ≡ None
no_seed = refl

an_empty_seed : asked (codes "run" ∷ codes "ca.par" ∷ codes "--turns=" ∷ []) ≡ None
an_empty_seed = refl

a_schedule : asked (codes "schedule" ∷ codes "ca.par" ∷ [])
    ≡ Some (request commands.Schedule (codes "ca.par") 0)
a_schedule = refl

a_schedule_with_a_seed : asked (codes "schedule" ∷ codes "ca.par" ∷ codes "--turns=1" ∷ []) ≡ None
a_schedule_with_a_seed = refl

a_make : asked (codes "make" ∷ codes "007" ∷ codes "0064" ∷ [])
    ≡ Some (request (commands.Make 7 64) (codes "made.par") 0)
a_make = refl

the_greatest_make : asked (codes "make" ∷ codes "9223372036854775807" ∷ codes "1024" ∷ [])
    ≡ Some (request (commands.Make 9223372036854775807 1024) (codes "made.par") 0)
the_greatest_make = refl

a_seed_too_great : asked (codes "make" ∷ codes "9223372036854775808" ∷ codes "64" ∷ []) ≡ None
a_seed_too_great = refl

a_size_too_small : asked (codes "make" ∷ codes "1" ∷ codes "7" ∷ []) ≡ None
a_size_too_small = refl

a_size_too_great : asked (codes "make" ∷ codes "1" ∷ codes "1025" ∷ []) ≡ None
a_size_too_great = refl

a_size_of_five_digits : asked (codes "make" ∷ codes "1" ∷ codes "00008" ∷ []) ≡ None
a_size_of_five_digits = refl

no_size : asked (codes "make" ∷ codes "1" ∷ []) ≡ None
no_size = refl

no_words : asked [] ≡ None
no_words = refl

one_word : asked (codes "run" ∷ []) ≡ None
one_word = refl

a_dash : asked (codes "run" ∷ codes "-x" ∷ []) ≡ None
a_dash = refl

-- the usage text as it stands on the screen
usage_line : text_of a.Usage
    ≡ codes
    "usage: cactus run FILE [--turns SEED]\n       cactus check FILE\n       cactus schedule FILE\n       cactus describe FILE\n       cactus parts FILE\n       cactus make SEED SIZE\n       cactus chunk FILE\n       cactus recombine FILE\n       cactus batch FILE FILE [FILE ...]\n"
usage_line = refl

done : text_of (a.Done 2) ≡ codes "done: iteration 2\n"
unfolding digits
done = refl

made : text_of (a.Made 20 7 64 16459 (pos 628))
    ≡ codes "done: iteration 20\nmade 7 64 points 4096 parts 16 output 16459 live 628\n"
unfolding digits
made = refl

no_file : text_of (answer_of (faults.NoFile (codes "none.par")))
    ≡ codes "refused: NoFile none.par\n"
no_file = refl

ended_early : text_of (a.Ended (ends.Overflow 7 (codes "EVOL/diff_step")))
    ≡ codes "ended: Overflow 7 EVOL/diff_step\n"
unfolding digits
ended_early = refl

ended_while : text_of (a.Ended (ends.WhileLimit 1 (codes "EVOL/control_spin")))
    ≡ codes "ended: WhileLimit 1 EVOL/control_spin\n"
unfolding digits
ended_while = refl

ended_nowhere : text_of (a.Ended (ends.Overflow 0 [])) ≡ codes "ended: Overflow 0 -\n"
unfolding digits
ended_nowhere = refl

ended_full : text_of (a.Ended (ends.OutputLimit 12)) ≡ codes "ended: OutputLimit 12\n"
unfolding digits
ended_full = refl

no_checkpoint : text_of (a.Recovery begins.NoCheckpoint) ≡ codes "recovery: NoCheckpoint\n"
no_checkpoint = refl

damaged : text_of (a.Recovery (begins.Damaged 1)) ≡ codes "recovery: Damaged 1\n"
unfolding digits
damaged = refl

output_short : text_of (a.Recovery (begins.OutputShort 10 300))
    ≡ codes "recovery: OutputShort 10 300\n"
unfolding digits
output_short = refl

old_too_long : text_of (a.Recovery (begins.OldTooLong 300000000 268435456))
    ≡ codes "recovery: OldTooLong 300000000 268435456\n"
unfolding digits
old_too_long = refl

other_job : text_of (a.Recovery
    (begins.OtherJob (codes "parameter wave::amount = \"5\"")
    (codes "parameter wave::amount = \"6\"")))
    ≡ codes "recovery: OtherJob\nparameter wave::amount = \"5\"\nparameter wave::amount = \"6\"\n"
other_job = refl

a_chunk : asked (codes "chunk" ∷ codes "ca.par" ∷ [])
    ≡ Some (request commands.Chunk (codes "ca.par") 0)
a_chunk = refl

chunked : text_of (a.Chunked (record { parts = 2; records = 3 }))
    ≡ codes "chunked: parts 2 records 3\n"
unfolding digits
chunked = refl

recombined : text_of (a.Recombined (record { records = 3; bytes = 141 }))
    ≡ codes "recombined: records 3 bytes 141\n"
unfolding digits
recombined = refl

missing_piece : text_of (a.Chunks (chunks.Missing 1 (codes "ca::cell") 1))
    ≡ codes "chunks: Missing 1 ca::cell 1\n"
unfolding digits
missing_piece = refl
