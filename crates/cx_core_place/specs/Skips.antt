-- The first jump of a list that is always taken.
use Rattle.std.specs.Prelude.{ℕ, suc, List, [], ◌∷◌, Option, Some, None}
use Rattle.cx_flat.specs.declared.op.Op.{Op}
use Rattle.cx_flat.specs.declared.op.Op.TheVariants.{Sweep, Apply, Give, Join, Post, Take, Test, Open, Turn, Again, Rotate, Due, Written, Skip, Next, Piece, Save, Halt}

-- how many operations a jump skips
abbrev pub skipped : Op → Option ℕ
skipped (Sweep k) = None
skipped (Apply k) = None
skipped (Give k) = None
skipped (Join k) = None
skipped (Post d vars) = None
skipped (Take d vars path) = None
skipped (Test v path skip) = None
skipped Open = None
skipped (Turn v path skip) = None
skipped (Again back) = None
skipped Rotate = None
skipped (Due skip) = None
skipped (Written skip) = None
skipped (Skip skip) = Some skip
skipped (Next back) = None
skipped (Piece v) = None
skipped Save = None
skipped Halt = None

-- where a jump leads, or else one place later than in the rest
abbrev pub landing : Option ℕ → ℕ → ℕ
landing (Some count) place = count
landing None place = suc place

-- where the first jump leads; without one to the end
abbrev pub landed : List Op → ℕ
landed [] = 0
landed (o ∷ os) = landing (skipped o) (landed os)
