use Rattle.std.proofs.Common.{ℕ, refl}
use Rattle.std.proofs.lemmas.Simd.{get_or-replicate, length-replicate}
use Rattle.cx_thorn_ca.proofs.LaneLaws.{products}
use Rattle.cx_thorn_ca.proofs.lanes.sixteenfold.Goals as goal

pub returns : goal.returns
returns c = products _ c.args.v _ (λ x y. refl) c.requires (length-replicate {A = ℕ} 16 16)
    (λ k l. get_or-replicate {A = ℕ} 16 k 16 0 l)
