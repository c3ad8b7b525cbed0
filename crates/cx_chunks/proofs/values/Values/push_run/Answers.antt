use Rattle.std.proofs.Common.{rules, ◌≡◌, ◌∙◌, ◌-◌, ◌++◌, append_assoc, ap, ℕ, ℤ, List, length, take, drop}
use Rattle.std.proofs.lemmas.Result.{on_ok_weaker}
use Rattle.cx_chunks.proofs.RunLaws.{run_joined}
use Rattle.cx_chunks.proofs.values.Values.push_run.Goals as goal

pub returns : goal.returns
returns c =
    let old = c.args.row.now.items in
    let from = c.args.from in
    let count = c.args.count in
    let small = c.self.inside.small.items in
    let larger = c.self.inside.larger in
    let part = c.run-small.result.now in
    let left = count - length part in
    let first : part ≡ take count (drop from small) = search rules in
    let after : c.saturating_sub-after.result ≡ from - length small = search rules in
    on_ok_weaker c.push_run.result
    (λ is. is
    ∙ ap (λ (n : ℕ). c.push_widened.new.row.items ++ take left (drop n larger)) after
    ∙ ap (λ (l : List ℤ). l ++ take left (drop (from - length small) larger))
    c.in_ok-push_widened.ensures
    ∙ append_assoc old part (take left (drop (from - length small) larger))
    ∙ ap (λ (l : List ℤ). old
    ++ (l ++ take (count - length l) (drop (from - length small) larger))) first
    ∙ ap (λ (l : List ℤ). old ++ l) (run_joined small larger from count)
    ∙ ap (λ (l : List ℤ). old ++ take count (drop from l)) c.self.view_is)
    c.push_run.ensures
