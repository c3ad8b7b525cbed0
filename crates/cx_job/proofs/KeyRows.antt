-- Worked rows of keys.
use Rattle.std.specs.Prelude.{◌≡◌, refl, true, false, pos, [], ◌∷◌, ◌++◌, codes, Some, None}
use Rattle.std.specs.Fmt.{digits}
use Rattle.cx_text.specs.declared.ctype.CType.TheVariants.{Byte, Int}
use Rattle.cx_grid.specs.declared.shapes.Shape.{Shape}
use Rattle.cx_param.specs.declared.ranges.Range.TheVariants.{Word, AnyText}
use Rattle.cx_param.specs.declared.ranges.Value.TheVariants as kinds
use Rattle.cx_param.specs.declared.declarations.PType.TheVariants as ptypes
use Rattle.cx_param.specs.declared.declarations.Scope.TheVariants.{Restricted}
use Rattle.cx_bind.specs.declared.thorns.Thorn.{Thorn}
use Rattle.cx_bind.specs.declared.thorns.Param.{Param}
use Rattle.cx_bind.specs.BuiltIn.{text_parameter}
use Rattle.cx_bind.specs.Parameters.{parameter_of}
use Rattle.cx_bind.proofs.Samples.{decl, thorn, elem_ca}
use Rattle.cx_values.specs.declared.values.Values.{Values}
use Rattle.cx_values.specs.Assigned.{slot}
use Rattle.cx_job.specs.Keys.{thorn_line, direction_line, direction_lines, variable_line, escaped, parameter_line, parameter_lines, lines_if_starred, lines_unless_starred, line_feed, step_lines}

-- ---- thorns, directions and variables

row_thorn : thorn_line elem_ca ≡ codes "thorn Integer/ElemCA ca" ++ line_feed
row_thorn = refl

-- a ring of 8 points
abbrev ring : Shape
ring =
    record {
      dims = 1;
      n = record { x = pos 8; y = pos 1; z = pos 1 };
      ghost_ = record { x = pos 1; y = pos 0; z = pos 0 };
      periodic = true ∷ false ∷ false ∷ [];
    }

row_ring : direction_lines ring ≡ codes "direction x points 8 ghost 1 periodic" ++ line_feed
unfolding digits
row_ring = refl

row_boundary : direction_line ring 2 ≡ codes "direction z points 1 ghost 0 boundary" ++ line_feed
unfolding digits
row_boundary = refl

row_cell : variable_line
    (0, record { full = codes "ca::cell"; ctype = Byte; scalar = false; levels = 1 })
    ≡ codes "variable 0 ca::cell BYTE GF levels 1" ++ line_feed
unfolding digits
row_cell = refl

row_live : variable_line
    (12, record { full = codes "ca::live"; ctype = Int; scalar = true; levels = 1 })
    ≡ codes "variable 12 ca::live INT SCALAR levels 1" ++ line_feed
unfolding digits
row_live = refl

-- ---- parameters

-- a quote, a backslash and a line feed
row_escaped : escaped (97 ∷ 34 ∷ 92 ∷ 10 ∷ 98 ∷ []) ≡ 97 ∷ 92 ∷ 34 ∷ 92 ∷ 92 ∷ 92 ∷ 110 ∷ 98 ∷ []
row_escaped = refl

abbrev wave : Thorn
wave = thorn (codes "WaveInt") (codes "wave") [] [] []

abbrev amount : Param
amount = parameter_of 0 wave
    (record (decl Restricted ptypes.Int (codes "amount") []) { default = Some (codes "5") })

abbrev pattern_ : Param
pattern_ =
    parameter_of 0 wave
    (record (decl Restricted ptypes.Keyword (codes "pattern")
    (Word (codes "point") ∷ Word (codes "uniform") ∷ [])) { default = Some (codes "UNIFORM") })

abbrev title : Param
title = parameter_of 0 wave
    (record (decl Restricted ptypes.String (codes "title") (AnyText ∷ []))
    { default = Some (34 ∷ 92 ∷ 10 ∷ []) })

abbrev flags : Param
flags = parameter_of 0 wave
    (record (decl Restricted ptypes.Boolean (codes "flags") [])
    { length = Some 2; default = Some (codes "t") })

-- the second flag is set to no
abbrev values : Values
values =
    record {
      slots = slot [] amount ∷ slot [] pattern_ ∷ slot [] title ∷ slot [] flags ∷ [];
      given = record {
        parameter = 3;
        element = 1;
        held = record { value = kinds.Flag false; number = Some (pos 0) };
      } ∷ [];
      uses = [];
      globals = [];
    }

row_number : parameter_line values amount None ≡ codes "parameter wave::amount = \"5\"" ++ line_feed
unfolding digits
row_number = refl

-- as it is declared, and with its number
row_keyword : parameter_line values pattern_ None
    ≡ codes "parameter wave::pattern = \"uniform\" 1" ++ line_feed
unfolding digits
row_keyword = refl

row_text : parameter_line values title None
    ≡ codes "parameter wave::title = \"" ++ (92 ∷ 34 ∷ 92 ∷ 92 ∷ 92 ∷ 110 ∷ []) ++ codes "\""
    ++ line_feed
unfolding digits
row_text = refl

row_array : parameter_lines values flags
    ≡ codes "parameter wave::flags[0] = \"yes\"" ++ line_feed
    ++ codes "parameter wave::flags[1] = \"no\"" ++ line_feed
unfolding digits
row_array = refl

-- ---- which lines the key has

abbrev out_dir : Param
out_dir = text_parameter 1 (codes "IO") (codes "out_dir") (codes ".")

abbrev both : Values
both = record { slots = slot [] out_dir ∷ slot [] amount ∷ []; given = []; uses = []; globals = [] }

row_starred : lines_if_starred both out_dir ≡ codes "parameter IO::out_dir = \".\"" ++ line_feed
row_starred = refl

row_left_out : lines_unless_starred both out_dir ≡ []
row_left_out = refl

row_not_starred : lines_if_starred both amount ≡ []
row_not_starred = refl

row_kept : lines_unless_starred both amount ≡ codes "parameter wave::amount = \"5\"" ++ line_feed
unfolding digits
row_kept = refl

-- ---- steps

-- a number, a keyword with its place, and an element of an array
row_step : step_lines (amount ∷ pattern_ ∷ flags ∷ [])
    (record { at = 2; param = 0; index = None; value = kinds.Number (pos 0) }
    ∷ record { at = 10; param = 1; index = None; value = kinds.Text (codes "uniform") }
    ∷ record { at = 10; param = 2; index = Some 1; value = kinds.Flag true } ∷ [])
    ≡ codes "steer 2 wave::amount = \"0\"" ++ line_feed
    ++ codes "steer 10 wave::pattern = \"uniform\" 1" ++ line_feed
    ++ codes "steer 10 wave::flags[1] = \"yes\"" ++ line_feed
unfolding digits
row_step = refl
