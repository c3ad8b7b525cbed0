use Rattle.std.proofs.Common.{◌≡◌, ◌∙◌, ℤ, ap, to_z, of_z, w64}
use Rattle.std.proofs.lemmas.Int.{to_z-of_z}
use Rattle.cx_run_made.specs.Summaries.{summary}
use Rattle.cx_run.specs.Texts.{done_text}
use Rattle.cx_run.proofs.Ends.{joined}
use Rattle.cx_run.proofs.reply.made_text.Goals as goal

pub returns : goal.returns
returns c =
    let same : to_z w64 (of_z w64 c.args.live) ≡ c.args.live =
    to_z-of_z w64 c.args.live c.ranges.live in
    joined _ _ _ (done_text c.args.iteration)
    (summary c.args.seed c.args.size c.args.output c.args.live)
    c.in_ok-push_slice.ensures.ok c.in_ok-text.ensures
    (c.as_slice.ensures ∙ c.in_ok-line.ensures
    ∙ ap (λ (n : ℤ). summary c.args.seed c.args.size c.args.output n) same)
