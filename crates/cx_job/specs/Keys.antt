-- The key of a job, and the lines of the parameters that only say how and where a run is done.
use Rattle.std.specs.Prelude.{ℕ, zero, suc, ◌==◌, Bool, ℤ, List, [], ◌∷◌, ◌++◌, map, codes, slice_get, Option, Some, None, if◌then◌else◌}
use Rattle.std.specs.List.{flat_map, enumerate_from, range_with_len}
use Rattle.std.specs.Fmt.{decimal, signed_decimal}
use Rattle.cx_text.specs.declared.ctype.CType.{CType}
use Rattle.cx_text.specs.declared.ctype.CType.TheVariants.{Char, Byte, Int, Int2, Int4, Int8, Real, Complex}
use Rattle.cx_text.specs.Lexemes.{among}
use Rattle.cx_grid.specs.declared.shapes.Shape.{Shape}
use Rattle.cx_grid.specs.Boxes.{along}
use Rattle.cx_grid.specs.Grid.{is_periodic}
use Rattle.cx_plan.specs.declared.variable.VarInfo.{VarInfo}
use Rattle.cx_plan.specs.Names.{bracketed}
use Rattle.cx_param.specs.declared.ranges.Value.{Value}
use Rattle.cx_param.specs.declared.ranges.Value.TheVariants.{Number, Flag, Text}
use Rattle.cx_param.specs.declared.declarations.PType.{PType}
use Rattle.cx_param.specs.declared.declarations.PType.TheVariants as ptypes
use Rattle.cx_bind.specs.declared.thorns.Thorn.{Thorn}
use Rattle.cx_bind.specs.declared.thorns.Param.{Param}
use Rattle.cx_bind.specs.BuiltIn.{starred}
use Rattle.cx_bind.specs.Parameters.{parameters}
use Rattle.cx_values.specs.declared.values.Values.{Values}
use Rattle.cx_values.specs.declared.steering.SteerStep.{SteerStep}
use Rattle.cx_values.specs.Assigned.{get, number}
use Rattle.cx_values.specs.Spelling.{number_by}
use Rattle.cx_bind.specs.Variables.{copies}

abbrev pub line_feed : List ℕ
line_feed = 10 ∷ []

-- ---- thorns and directions

abbrev pub thorn_line : Thorn → List ℕ
thorn_line t = codes "thorn " ++ t.arrangement ++ codes "/" ++ t.name ++ codes " "
    ++ t.interface.implements ++ line_feed

abbrev pub letter : ℕ → List ℕ
letter zero = codes "x"
letter (suc zero) = codes "y"
letter (suc (suc d)) = codes "z"

abbrev pub side_text : Bool → List ℕ
side_text periodic = if periodic then codes " periodic" else codes " boundary"

-- a direction with its points, the width of its ghost zone, and what its ends are
abbrev pub direction_line : Shape → ℕ → List ℕ
direction_line shape d =
    codes "direction " ++ letter d ++ codes " points " ++ signed_decimal (along shape.n d)
    ++ codes " ghost "
    ++ signed_decimal (along shape.ghost_ d) ++ side_text (is_periodic shape d) ++ line_feed

abbrev pub direction_lines : Shape → List ℕ
direction_lines shape = flat_map (direction_line shape) (range_with_len 0 shape.dims)

-- ---- variables

abbrev pub type_name : CType → List ℕ
type_name Char = codes "CHAR"
type_name Byte = codes "BYTE"
type_name Int = codes "INT"
type_name Int2 = codes "INT2"
type_name Int4 = codes "INT4"
type_name Int8 = codes "INT8"
type_name Real = codes "REAL"
type_name Complex = codes "COMPLEX"

abbrev pub kind_text : Bool → List ℕ
kind_text scalar = if scalar then codes " SCALAR" else codes " GF"

-- a variable by its number, with its levels
abbrev pub variable_line : ℕ × VarInfo → List ℕ
variable_line v =
    codes "variable " ++ decimal v.0 ++ codes " " ++ v.1.full ++ codes " " ++ type_name v.1.ctype
    ++ kind_text v.1.scalar ++ codes " levels "
    ++ decimal v.1.levels ++ line_feed

abbrev pub variable_lines : List VarInfo → List ℕ
variable_lines vars = flat_map variable_line (enumerate_from 0 vars)

-- ---- parameters

-- a quote and a backslash behind a backslash, and a line feed as `\n`
abbrev pub escaped_byte : ℕ → List ℕ
escaped_byte b = if b == 34 then 92 ∷ 34 ∷ []
    else (if b == 92 then 92 ∷ 92 ∷ [] else (if b == 10 then 92 ∷ 110 ∷ [] else b ∷ []))

abbrev pub escaped : List ℕ → List ℕ
escaped text = flat_map escaped_byte text

abbrev pub value_text : Option Value → List ℕ
value_text None = []
value_text (Some (Number n)) = signed_decimal n
value_text (Some (Flag b)) = if b then codes "yes" else codes "no"
value_text (Some (Text text)) = escaped text

-- behind the word of a KEYWORD its number
abbrev pub place_text : PType → Option ℤ → List ℕ
place_text ptypes.Keyword (Some n) = codes " " ++ signed_decimal n
place_text ptypes.Keyword None = []
place_text ptypes.Boolean n = []
place_text ptypes.Int n = []
place_text ptypes.String n = []
place_text ptypes.Real n = []

abbrev pub element_name : List ℕ → Option ℕ → List ℕ
element_name full None = full
element_name full (Some k) = bracketed full k

-- a parameter, or with an index an element of an array
abbrev pub parameter_line : Values → Param → Option ℕ → List ℕ
parameter_line values p index =
    codes "parameter " ++ element_name p.full index ++ codes " = \""
    ++ value_text (get values p.full index) ++ codes "\""
    ++ place_text p.decl.ptype (number values p.full index) ++ line_feed

abbrev pub lines_at : Values → Param → List (Option ℕ) → List ℕ
lines_at values p places = flat_map (parameter_line values p) places

abbrev pub parameter_lines : Values → Param → List ℕ
parameter_lines values p = flat_map (parameter_line values p) (copies p.decl.length)

-- a parameter that only says how and where a run is done
abbrev pub is_starred : Param → Bool
is_starred p = among starred p.full

abbrev pub lines_if_starred : Values → Param → List ℕ
lines_if_starred values p = if is_starred p then parameter_lines values p else []

abbrev pub lines_unless_starred : Values → Param → List ℕ
lines_unless_starred values p = if is_starred p then [] else parameter_lines values p

-- the lines of all starred parameters
abbrev pub starred_lines : List Thorn → Values → List ℕ
starred_lines thorns values = flat_map (lines_if_starred values) (parameters thorns)

-- the lines of all other parameters
abbrev pub other_lines : List Thorn → Values → List ℕ
other_lines thorns values = flat_map (lines_unless_starred values) (parameters thorns)

-- ---- the key

-- What two jobs have in common if a checkpoint of one serves the other: the thorns, the grid, the
-- variables, the parameters that aren't starred, and the plan.
abbrev pub key : Shape → List Thorn → Values → List VarInfo → List ℕ → List ℕ
key shape thorns values vars plan_text =
    flat_map thorn_line thorns ++ direction_lines shape ++ variable_lines vars
    ++ other_lines thorns values ++ plan_text

-- ---- steps

-- a step of a parameter, with its value as in a parameter's line
abbrev pub step_line_of : SteerStep → Option Param → List ℕ
step_line_of s None = []
step_line_of s (Some p) =
    codes "steer " ++ decimal s.at ++ codes " " ++ element_name p.full s.index ++ codes " = \""
    ++ value_text (Some s.value) ++ codes "\""
    ++ place_text p.decl.ptype (number_by p.decl.ptype p.ranges s.value) ++ line_feed

abbrev pub step_line : List Param → SteerStep → List ℕ
step_line params s = step_line_of s (slice_get params s.param)

-- the lines of steps, in the order of the steer file
abbrev pub step_lines : List Param → List SteerStep → List ℕ
step_lines params steps = flat_map (step_line params) steps
