use Rattle.std.proofs.Common.{◌≡◌, List, ℕ, IfOk, subst, sym, rules}
use Rattle.std.proofs.lemmas.Result.{IfOk-weaker}
use Rattle.cx_disk.specs.Image.{Leaves, whole}
use Rattle.cx_disk.proofs.Tearing.{nothing_leaves, whole_leaves}
use Rattle.cx_disk.proofs.image.left_bytes.Goals as goal

pub returns-in-Nothing-clause-some : goal.returns-in-Nothing-clause-some
returns-in-Nothing-clause-some c =
    let same : IfOk c.to_vec.result (λ new. new.items ≡ c.args.old.now) = search rules in
    IfOk-weaker c.to_vec.result (λ new. new.items ≡ c.args.old.now)
    (λ new. Leaves c.args.change.now c.args.old.now new.items)
    (λ new is. subst (λ (l : List ℕ). Leaves c.args.change.now c.args.old.now l) (sym is)
    (nothing_leaves c.args.change.now c.args.old.now)) same

pub returns-in-All-clause-some : goal.returns-in-All-clause-some
returns-in-All-clause-some c =
    IfOk-weaker c.whole_bytes.result (λ new. new.items ≡ whole c.args.change.now c.args.old.now)
    (λ new. Leaves c.args.change.now c.args.old.now new.items)
    (λ new is. subst (λ (l : List ℕ). Leaves c.args.change.now c.args.old.now l) (sym is)
    (whole_leaves c.args.change.now c.args.old.now)) c.whole_bytes.ensures
