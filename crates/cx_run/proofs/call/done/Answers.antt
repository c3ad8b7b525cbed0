use Rattle.std.proofs.Common.{refl, ◌∙◌, inl, arith, subst, sym}
use Rattle.cx_disk.proofs.Moments.{quiet_at_start}
use Rattle.cx_plan.specs.Whole.{IsWhole}
use Rattle.cx_plan.specs.declared.job.Job.{Job}
use Rattle.cx_run.specs.Answers.{AnswersRun}
use Rattle.cx_run.proofs.ChunkLaws as chunks
use Rattle.cx_run.proofs.Running as running
use Rattle.cx_run.proofs.TurnLaws as turned
use Rattle.cx_run.proofs.call.done.Goals as goal

pub drive-came-requires-clause-ready : goal.drive-came-requires-clause-ready
drive-came-requires-clause-ready g c =
    running.ready _ c.args.job.now c.requires.ready c.requires.interior

pub drive-came-requires-clause-parts : goal.drive-came-requires-clause-parts
drive-came-requires-clause-parts g c =
    running.enough_parts c.args.job.now _ c.requires.ready.whole c.requires.ready.cut
    c.requires.parts

pub drive-came-requires-clause-short : goal.drive-came-requires-clause-short
drive-came-requires-clause-short g c = c.requires.ready.names

pub drive-came-requires-clause-cut : goal.drive-came-requires-clause-cut
drive-came-requires-clause-cut g c = c.requires.ready.cut

pub answer_to_run-requires-clause-whole : goal.answer_to_run-requires-clause-whole
answer_to_run-requires-clause-whole g c =
    subst IsWhole (sym c.drive-came.ensures.job) c.requires.ready.whole

pub returns-in-Run-clause-comes : goal.returns-in-Run-clause-comes
returns-in-Run-clause-comes g c =
    running.ran _ c.args.command c.args.job.now c.in-Run.ensures c.drive-came.result
    c.drive-came.ensures.drives c.drive-came.ensures.folders
    (c.trails_begin.ensures _) (g.met.D.Disk.sound c.args.disk.now)
    c.answer_to_run.result
    (subst (λ (j : Job). AnswersRun c.args.command j c.drive-came.result c.answer_to_run.result)
    c.drive-came.ensures.job c.answer_to_run.ensures)

pub returns-in-Run-clause-job : goal.returns-in-Run-clause-job
returns-in-Run-clause-job g c = c.drive-came.ensures.job

pub returns-in-Told-clause-comes : goal.returns-in-Told-clause-comes
returns-in-Told-clause-comes g c =
    running.told _ c.args.command c.args.job.now c.in-Told.text c.printed.result c.in-Told.ensures.0
    c.in-Told.ensures.1 c.printed.ensures
    (record {
      disk = refl;
      quiet = λ told. quiet_at_start _;
      wire = refl;
      received = refl;
      meter = refl;
    })

pub returns-in-Run-clause-begun : goal.returns-in-Run-clause-begun
returns-in-Run-clause-begun g c = λ runs. c.drive-came.ensures.begun ∙ c.start.ensures.begun

pub returns-in-Told-clause-begun : goal.returns-in-Told-clause-begun
returns-in-Told-clause-begun g c = λ runs. absurd (c.in-Told.ensures.0 (inl runs))

pub returns-in-Chunk-clause-comes : goal.returns-in-Chunk-clause-comes
returns-in-Chunk-clause-comes g c =
    chunks.chunk_comes _ c.args.command c.args.job.now c.chunk.result c.answer_to_chunk.result
    c.in-Chunk.ensures
    (running.enough_parts c.args.job.now 512 c.requires.ready.whole c.requires.ready.cut
    (omega arith))
    (record {
      told = c.chunk.ensures.told;
      value_is = c.chunk.ensures.value;
      written = c.chunk.ensures.written;
      writes = c.chunk.ensures.writes;
      refused = c.chunk.ensures.refused;
      folders = c.chunk.ensures.folders;
      cause = c.chunk.ensures.cause;
      wire = refl;
      meter = refl;
    }) c.answer_to_chunk.ensures

pub returns-in-Chunk-clause-begun : goal.returns-in-Chunk-clause-begun
returns-in-Chunk-clause-begun g c = λ runs.
    absurd (chunks.not_chunk c.args.command c.in-Chunk.ensures runs)

pub returns-in-Recombine-clause-comes : goal.returns-in-Recombine-clause-comes
returns-in-Recombine-clause-comes g c =
    chunks.recombine_comes _ c.args.command c.args.job.now c.recombine.result
    c.answer_to_recombine.result c.in-Recombine.ensures
    (record {
      told = c.recombine.ensures.told;
      value_is = c.recombine.ensures.value;
      written = c.recombine.ensures.written;
      writes = c.recombine.ensures.writes;
      refused = c.recombine.ensures.refused;
      folders = c.recombine.ensures.folders;
      cause = c.recombine.ensures.cause;
      wire = refl;
      meter = refl;
    }) c.answer_to_recombine.ensures

pub returns-in-Recombine-clause-begun : goal.returns-in-Recombine-clause-begun
returns-in-Recombine-clause-begun g c = λ runs.
    absurd (chunks.not_recombine c.args.command c.in-Recombine.ensures runs)

pub returns-in-Run-clause-turned : goal.returns-in-Run-clause-turned
returns-in-Run-clause-turned g c = λ runs.
    turned.has_turned g.T.Turns _ _ _ _ c.start.ensures.begun c.drive-came.result
    c.drive-came.ensures.turns c.drive-came.ensures.picked c.args.command c.drive-came.new.job
    c.answer_to_run.result c.answer_to_run.ensures

pub returns-in-Run-clause-spared : goal.returns-in-Run-clause-spared
returns-in-Run-clause-spared g c = λ none. absurd (none c.in-Run.ensures)

pub returns-in-Told-clause-turned : goal.returns-in-Told-clause-turned
returns-in-Told-clause-turned g c = λ runs. absurd (c.in-Told.ensures.0 (inl runs))

pub returns-in-Chunk-clause-turned : goal.returns-in-Chunk-clause-turned
returns-in-Chunk-clause-turned g c = λ runs.
    absurd (chunks.not_chunk c.args.command c.in-Chunk.ensures runs)

pub returns-in-Recombine-clause-turned : goal.returns-in-Recombine-clause-turned
returns-in-Recombine-clause-turned g c = λ runs.
    absurd (chunks.not_recombine c.args.command c.in-Recombine.ensures runs)
