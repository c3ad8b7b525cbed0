-- Worked rows: the steps of some lines, and their faults.
use Rattle.std.specs.Prelude.{◌≡◌, refl, ℕ, pos, List, [], ◌∷◌, codes, map, Some, None}
use Rattle.cx_param.specs.declared.declarations.PType.TheVariants.{Keyword, Int}
use Rattle.cx_param.specs.declared.declarations.ParamDecl.{ParamDecl}
use Rattle.cx_param.specs.declared.declarations.Scope.TheVariants.{Restricted}
use Rattle.cx_param.specs.declared.declarations.Steer.{Steer}
use Rattle.cx_param.specs.declared.declarations.Steer.TheVariants.{Always, Recover}
use Rattle.cx_param.specs.declared.ranges.Range.{Range}
use Rattle.cx_param.specs.declared.ranges.Range.TheVariants.{Word}
use Rattle.cx_param.specs.declared.ranges.Value.{Value}
use Rattle.cx_param.specs.declared.ranges.Value.TheVariants as values
use Rattle.cx_parfile.specs.declared.settings.Setting.{Setting}
use Rattle.cx_parfile.specs.declared.steer.SteerLine.{SteerLine}
use Rattle.cx_bind.specs.declared.thorns.Thorn.{Thorn}
use Rattle.cx_bind.specs.BuiltIn.{from_to}
use Rattle.cx_bind.proofs.Samples.{decl, thorn}
use Rattle.cx_values.specs.declared.fault.ValueFault.TheVariants.{UnknownParam, Index, NotSteerable, BadSpelling, OutOfRange, SteerOrder}
use Rattle.cx_values.specs.declared.steering.SteerStep.{SteerStep}
use Rattle.cx_values.specs.declared.values.Values.{Values}
use Rattle.cx_values.specs.Naming.{names}
use Rattle.cx_values.specs.Assigned.{assigned}
use Rattle.cx_values.specs.Steering.{steer_fault, steps}

abbrev steered : Steer → ParamDecl → ParamDecl
steered when d = record d { steer = when }

abbrev numbers : List Range
numbers = from_to (pos 0) (pos 100) ∷ []

abbrev waves : List Thorn
waves =
    thorn (codes "WaveInt") (codes "wave") [] []
    (steered Always (decl Restricted Int (codes "factor") numbers)
    ∷ steered Recover (decl Restricted Int (codes "edge") numbers)
    ∷ steered Always (decl Restricted Keyword (codes "pattern")
    (Word (codes "point") ∷ Word (codes "uniform") ∷ []))
    ∷ []) ∷ []

abbrev set : List ℕ → List ℕ → List ℕ → Setting
set owner name value =
    record { owner = Some owner; name = name; index = None; value = value; line = 1 }

-- two iterations, without checkpoints and with one at each
abbrev plain : Values
plain = assigned waves (set (codes "Cactus") (codes "cctk_itlast") (codes "2") ∷ [])

abbrev saved : Values
saved = assigned waves
    (set (codes "Cactus") (codes "cctk_itlast") (codes "2")
    ∷ set (codes "IO") (codes "checkpoint_every") (codes "1") ∷ [])

abbrev line : ℕ → List ℕ → List ℕ → List ℕ → ℕ → SteerLine
line at owner name value k = record {
  at = at;
  setting = record { owner = Some owner; name = name; index = None; value = value; line = k };
}

abbrev indexed : SteerLine → SteerLine
indexed l = record l { setting = record l.setting { index = Some 0 } }

abbrev factor : ℕ → List ℕ → ℕ → SteerLine
factor at value k = line at (codes "wave") (codes "factor") value k

abbrev edge : ℕ → SteerLine
edge at = line at (codes "wave") (codes "edge") (codes "3") 1

-- ---- faults

row_unknown : steer_fault waves plain
    (line 1 (codes "driver") (codes "nosuch") (codes "1") 1 ∷ []) ≡ Some (UnknownParam 1)
unfolding steer_fault assigned names
row_unknown = refl

row_index : steer_fault waves plain
    (indexed (line 1 (codes "driver") (codes "lead") (codes "1") 1) ∷ []) ≡ Some (Index 1)
unfolding steer_fault assigned names
row_index = refl

row_never : steer_fault waves plain (line 1 (codes "driver") (codes "lead") (codes "x") 1 ∷ [])
    ≡ Some (NotSteerable 1)
unfolding steer_fault assigned names
row_never = refl

-- a RECOVER parameter, without a checkpoint at the iteration before, with one, and behind the last
row_no_checkpoint : steer_fault waves plain (edge 2 ∷ []) ≡ Some (NotSteerable 1)
unfolding steer_fault assigned names
row_no_checkpoint = refl

row_checkpoint : steer_fault waves saved (edge 2 ∷ edge 3 ∷ []) ≡ None
unfolding steer_fault assigned names
row_checkpoint = refl

row_first : steer_fault waves saved (edge 1 ∷ []) ≡ Some (NotSteerable 1)
unfolding steer_fault assigned names
row_first = refl

row_past : steer_fault waves saved (edge 4 ∷ []) ≡ Some (NotSteerable 1)
unfolding steer_fault assigned names
row_past = refl

row_spelling : steer_fault waves plain (factor 1 (codes "x") 1 ∷ []) ≡ Some (BadSpelling 1)
unfolding steer_fault assigned names
row_spelling = refl

row_range : steer_fault waves plain (factor 2 (codes "-1") 1 ∷ []) ≡ Some (OutOfRange 1)
unfolding steer_fault assigned names
row_range = refl

row_order : steer_fault waves plain (factor 2 (codes "1") 1 ∷ factor 1 (codes "2") 2 ∷ [])
    ≡ Some (SteerOrder 2)
unfolding steer_fault assigned names
row_order = refl

-- ---- steps

-- of one iteration all stand, and a keyword is spelled as it is declared
row_steps : map {B = ℕ × ℕ × Value} (λ (s : SteerStep). (s.at, s.param, s.value))
    (steps waves
    (factor 2 (codes "1") 1 ∷ factor 2 (codes "1") 2
    ∷ line 3 (codes "WAVEINT") (codes "Pattern") (codes "UNIFORM") 3 ∷ []))
    ≡ (2, 37, values.Number (pos 1)) ∷ (2, 37, values.Number (pos 1))
    ∷ (3, 39, values.Text (codes "uniform")) ∷ []
unfolding steps names
row_steps = refl
