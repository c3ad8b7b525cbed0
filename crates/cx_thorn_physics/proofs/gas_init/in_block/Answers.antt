use Rattle.std.proofs.Common.{◌≡◌, ◌∙◌, ap, ℤ, ◌&&◌, rules, w64, SFits}
use Rattle.std.specs.Int.{w32}
use Rattle.std.proofs.lemmas.Int.{to_z-of_z}
use Rattle.cx_thorn_physics.specs.Gas.{in_middle}
use Rattle.cx_thorn_physics.proofs.gas_init.in_block.Goals as goal

same_middle : (n n2 size size2 c c2 : ℤ) → n ≡ n2 → size ≡ size2 → c ≡ c2
    → in_middle n size c ≡ in_middle n2 size2 c2
same_middle n n2 size size2 c c2 p q r =
    ap (λ k. in_middle k size c) p ∙ ap (λ k. in_middle n2 k c) q
    ∙ ap (λ k. in_middle n2 size2 k) r

pub returns : goal.returns
returns c =
    let s = c.args.at.now.shape in
    let p = c.args.at.now.at in
    let size_fits : SFits w64 c.args.size = search rules in
    let nx_fits : SFits w32 c.args.at.now.shape.n.x = search rules in
    let ny_fits : SFits w32 c.args.at.now.shape.n.y = search rules in
    let px_fits : SFits w32 c.args.at.now.at.x = search rules in
    let py_fits : SFits w32 c.args.at.now.at.y = search rules in
    let size = to_z-of_z w64 c.args.size size_fits in
    let x = c.in_middle-x.ensures
    ∙ same_middle _ s.n.x _ c.args.size _ p.x (to_z-of_z w32 s.n.x nx_fits) size
    (to_z-of_z w32 p.x px_fits) in
    let y = c.in_middle-y.ensures
    ∙ same_middle _ s.n.y _ c.args.size _ p.y (to_z-of_z w32 s.n.y ny_fits) size
    (to_z-of_z w32 p.y py_fits) in
    c.both.ensures ∙ ap (λ b. b && c.in_middle-y.result) x
    ∙ ap (λ b. in_middle s.n.x c.args.size p.x && b) y
