use Rattle.std.proofs.Common.{◌≡◌, ◌<◌, [], ◌++◌, length, rules}
use Rattle.std.proofs.Common.{sym, ap, ◌∙◌, append_assoc, append-nil}
use Rattle.std.proofs.Output.{has_written_append, has_written_of_eq}
use Rattle.std.proofs.lemmas.Str.{utf8_lossy_chunk, utf8_lossy_last_chunk, utf8_lossy_empty}
use Rattle.std.specs.Fmt.{HasWritten}
use Rattle.std.specs.Str.Chunks.{utf8_chunks_rest}
use Rattle.std.specs.Str.Lossy.{replacement_bytes, utf8_lossy}
use Rattle.cx_text.proofs.shown.TextDisplay.fmt.Goals as goal

pub chunks-init : goal.chunks-init
chunks-init g c = λ plain. ([], search rules, search rules)

pub chunks-preserved-in-Continue-branch-2 : goal.chunks-preserved-in-Continue-branch-2
chunks-preserved-in-Continue-branch-2 g c = λ plain.
    let so_far = c.chunks.invariant plain in
    let steps = c.in-Some.ensures.steps in
    let some : 0 < length c.in-Some.chunk.invalid.now = search rules in
    let text = utf8_lossy_chunk _ _ _ _ steps.0 steps.3.0 steps.3.1 some in
    let valid = c.valid.result.now in
    let left = utf8_lossy (utf8_chunks_rest c.next.new.self) in
    let took = g.W.Write.write_str_gives in
    let read : HasWritten took c.args.f.now (so_far.0 ++ valid) c.write_str.new.self =
    has_written_append _ _ _ _ _ _ so_far.1 (search rules) in (
      (so_far.0 ++ valid) ++ replacement_bytes,
      has_written_append _ _ _ _ _ _ read (search rules),
      append_assoc (so_far.0 ++ valid) replacement_bytes left
          ∙ append_assoc so_far.0 valid (replacement_bytes ++ left)
          ∙ ap (λ v. so_far.0 ++ (v ++ (replacement_bytes ++ left))) c.valid.ensures
          ∙ ap (λ t. so_far.0 ++ t) (sym text) ∙ so_far.2,
    )

pub chunks-preserved : goal.chunks-preserved
chunks-preserved g c = λ plain.
    let so_far = c.chunks.invariant plain in
    let steps = c.in-Some.ensures.steps in
    let none : length c.in-Some.chunk.invalid.now ≡ 0 = search rules in
    let text = utf8_lossy_last_chunk _ _ _ _ steps.0 steps.3.0 none (steps.2 none) in
    let valid = c.valid.result.now in
    let left = utf8_lossy (utf8_chunks_rest c.next.new.self) in (
      so_far.0 ++ valid,
      has_written_append _ _ _ _ _ _ so_far.1 (search rules),
      append_assoc so_far.0 valid left ∙ ap (λ v. so_far.0 ++ (v ++ left)) c.valid.ensures
          ∙ ap (λ t. so_far.0 ++ t) (sym text) ∙ so_far.2,
    )

pub returns-clause-writes : goal.returns-clause-writes
returns-clause-writes g c = λ plain _.
    let so_far = c.chunks.invariant plain in
    has_written_of_eq _ _ _ _ _
    (sym (append-nil _) ∙ rw (utf8_lossy_empty _ c.in-None.ensures.steps.0) at so_far.2) so_far.1
