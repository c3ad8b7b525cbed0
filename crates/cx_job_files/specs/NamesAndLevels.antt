-- What readers make sure of: names that the output may hold, and few levels.
use Rattle.std.specs.Prelude.{◌≡◌, ◌≤◌, ℕ, List, All, IfSome}
use Rattle.cx_plan.specs.Whole.{IsName}
use Rattle.cx_plan.specs.declared.variable.VarInfo.{VarInfo}
use Rattle.cx_iface.specs.declared.tree.Group.{Group}
use Rattle.cx_iface.specs.declared.tree.Interface.{Interface}
use Rattle.cx_bind.specs.declared.thorns.Thorn.{Thorn}
use Rattle.cx_job_files.specs.declared.reading.ThornFiles.{ThornFiles}

pub record IsReadGroup (g : Group) : Type 0 where
  pub variables : All IsName g.variables
  pub levels : g.levels ≤ 8
  pub copies : IfSome g.copies (λ n. n ≤ 64)

pub record HasNames (i : Interface) : Type 0 where
  pub implements : IsName i.implements
  pub groups : All IsReadGroup i.groups

pub record IsReadThorn (t : Thorn) : Type 0 where
  pub name : IsName t.name
  pub interface : HasNames t.interface

-- what files say of the thorn at this place, whose interface is this
abbrev pub SayOf : List ℕ × List ℕ → Interface → ThornFiles → Type 0
SayOf place i files = (files.thorn.name ≡ place.1) × (files.thorn.interface ≡ i)

-- the places of thorns that have names
abbrev pub AreNamed : List (List ℕ × List ℕ) → Type 0
AreNamed places = All (λ place. IsName place.1) places

-- what files say of thorns that were read
abbrev pub SayRead : List ThornFiles → Type 0
SayRead said = All (λ files. IsReadThorn files.thorn) said

-- declared variables
pub record AreRead (infos : List VarInfo) : Type 0 where
  pub names : All (λ (v : VarInfo). IsName v.full) infos
  pub levels : All (λ (v : VarInfo). v.levels ≤ 8) infos
