use Rattle.std.proofs.Common.{◌≡◌, ℤ, IfOk, rules, subst, to_z, of_z, w64}
use Rattle.cx_run.specs.Texts.{made_text}
use Rattle.cx_run.proofs.reply.Answer.text.Goals as goal

pub returns-in-Made : goal.returns-in-Made
returns-in-Made c =
    let same : to_z w64 (of_z w64 c.in-Made.live) ≡ c.in-Made.live = search rules in
    rw c.in-Made.is
    (subst (λ (n : ℤ). IfOk c.made_text.result
    (λ text. text ≡ made_text c.in-Made.iteration c.in-Made.seed c.in-Made.size c.in-Made.output
    n)) same c.made_text.ensures)
