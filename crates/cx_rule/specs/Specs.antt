-- What a routine says of itself, step by step.
use Rattle.std.specs.Prelude.{ℕ, ◌^◌, List, [], ◌∷◌, ◌++◌}
use Rattle.cx_plan.specs.declared.item.ItemKind.{ItemKind}
use Rattle.cx_rule.specs.declared.spec.Spec.{Spec}
use Rattle.cx_rule.specs.declared.spec.Want.{Want}

-- the most points of a part that a routine sweeps, where it sets no other number
abbrev pub most_points : ℕ
most_points = 2 ^ 27

-- a routine of a thorn that reads, writes and takes nothing
abbrev pub spec_named : List ℕ → List ℕ → ItemKind → Spec
spec_named thorn name kind =
    record {
      thorn = thorn;
      name = name;
      kind = kind;
      reads = [];
      writes = [];
      params = [];
      cap = most_points;
    }

-- with another cap
abbrev pub with_cap : Spec → ℕ → Spec
with_cap s cap = record s { cap = cap }

-- one read, write or parameter more, behind the others
abbrev pub with_read : Spec → Want → Spec
with_read s want = record s { reads = s.reads ++ want ∷ [] }

abbrev pub with_write : Spec → Want → Spec
with_write s want = record s { writes = s.writes ++ want ∷ [] }

abbrev pub with_param : Spec → List ℕ → Spec
with_param s name = record s { params = s.params ++ name ∷ [] }
