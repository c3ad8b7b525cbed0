use Rattle.std.proofs.Common.{rules, ◌≡◌, ◌∙◌, ◌-◌, ◌++◌, append_assoc, ap, ℤ, List, length, take, drop}
use Rattle.cx_chunks.proofs.RunLaws.{run_joined}
use Rattle.cx_chunks.proofs.larger.Larger.push_run.Goals as goal

pub returns : goal.returns
returns c =
    let old = c.args.row.now.items in
    let from = c.args.from in
    let count = c.args.count in
    let narrow = c.self.inside.narrow.items in
    let wide = c.self.inside.wide.items in
    let first : c.run-narrow.result.now ≡ take count (drop from narrow) = search rules in
    let rest : c.run.result.now
    ≡ take (count - length c.run-narrow.result.now) (drop (from - length narrow) wide) =
    search rules in
    c.in_ok-extend_from_slice.ensures.items
    ∙ ap (λ (l : List ℤ). l ++ c.run.result.now) c.in_ok-push_widened.ensures
    ∙ append_assoc old c.run-narrow.result.now c.run.result.now
    ∙ ap (λ (l : List ℤ). old ++ (c.run-narrow.result.now ++ l)) rest
    ∙ ap (λ (l : List ℤ). old
    ++ (l ++ take (count - length l) (drop (from - length narrow) wide))) first
    ∙ ap (λ (l : List ℤ). old ++ l) (run_joined narrow wide from count)
    ∙ ap (λ (l : List ℤ). old ++ take count (drop from l)) c.self.view_is
