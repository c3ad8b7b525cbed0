-- Keys are whole lines, and those of steers agree up to where the steers are the same.
use Rattle.std.proofs.Common.{◌≡◌, refl, sym, ap, subst, ◌∙◌, inl, ℕ, zero, suc, ◌+◌, ◌/◌, ◌%◌, ◌^◌, ◌<◌, Bool, true, false, ◌==◌, cond, ℤ, pos, negsuc, List, [], ◌∷◌, ◌++◌, length, filter, append_assoc, codes, Option, Some, None, arith, if◌then◌else◌}
use Rattle.std.specs.Prelude.{nat_le, nat_lt, slice_get}
use Rattle.std.specs.Fmt.{decimal, signed_decimal, digits, digits_onto, digit_glyph}
use Rattle.std.specs.Char.{is_ascii_digit}
use Rattle.std.specs.List.{flat_map, list_all, enumerate_from, range_with_len, AllByRecursion}
use Rattle.std.proofs.lemmas.Fmt.{decimal_nonempty}
use Rattle.std.proofs.lemmas.Bool.{lt-ltb, ltb-true, ne_eqb}
use Rattle.cx_text.specs.Digits.{is_digits}
use Rattle.cx_text.proofs.DecimalLaws.{decimal_again}
use Rattle.cx_parfile.proofs.NumberLaws.{decimal_digits}
use Rattle.cx_grid.specs.declared.shapes.Shape.{Shape}
use Rattle.cx_grid.specs.Boxes.{along}
use Rattle.cx_grid.specs.Grid.{is_periodic}
use Rattle.cx_param.specs.declared.ranges.Value.{Value}
use Rattle.cx_param.specs.declared.ranges.Value.TheVariants.{Number, Flag, Text}
use Rattle.cx_param.specs.declared.declarations.PType.{PType}
use Rattle.cx_param.specs.declared.declarations.PType.TheVariants as ptypes
use Rattle.cx_plan.specs.declared.variable.VarInfo.{VarInfo}
use Rattle.cx_bind.specs.Parameters.{parameters}
use Rattle.cx_bind.specs.Variables.{copies}
use Rattle.cx_bind.specs.declared.thorns.Param.{Param}
use Rattle.cx_bind.specs.declared.thorns.Thorn.{Thorn}
use Rattle.cx_values.specs.Assigned.{get, number}
use Rattle.cx_values.specs.Spelling.{number_by}
use Rattle.cx_values.specs.declared.steering.SteerStep.{SteerStep}
use Rattle.cx_values.specs.declared.values.Values.{Values}
use Rattle.cx_plan.specs.Lookups.{bin_name, run_bin_count}
use Rattle.cx_order.specs.Texts.{blanks, entry_text, forest_text, bin_text, bins_text, schedule_text}
use Rattle.cx_order.specs.Meanings.{World}
use Rattle.cx_order.specs.Plans.{Forest, Done, Then}
use Rattle.cx_keep.specs.Agreement.{Agree, steered_at}
use Rattle.cx_job.specs.Keys.{line_feed, letter, side_text, type_name, kind_text, thorn_line, direction_line, direction_lines, variable_line, variable_lines, escaped_byte, escaped, value_text, place_text, element_name, parameter_line, is_starred, lines_unless_starred, other_lines, key, step_line_of, step_lines}
use Rattle.law_restarts.proofs.ListLaws.{Each, each_at}
use Rattle.law_restarts.proofs.ParamNameLaws.{IsOneLine}
use Rattle.law_restarts.proofs.SteerKeyLaws.{Lacks, lacks_more, EndsLine, ends_line, ends_more, ends_all, steer_text, steered_there, one_line, line_of, keys_agree}

-- ---- whole lines

forest_ends : (w : World) (depth : ℕ) (f : Forest) → EndsLine (forest_text w depth f)
forest_ends w depth Done = inl refl
forest_ends w depth (Then e path inside rest) =
    ends_more (blanks depth ++ entry_text w e ++ line_feed ++ forest_text w (suc depth) inside)
    (forest_text w depth rest)
    (ends_more (blanks depth ++ entry_text w e ++ line_feed) (forest_text w (suc depth) inside)
    (ends_line (blanks depth ++ entry_text w e)) (forest_ends w (suc depth) inside))
    (forest_ends w depth rest)

bins_end : (w : World) (b : ℕ) (fs : List Forest) → EndsLine (bins_text w b fs)
bins_end w b [] = inl refl
bins_end w b (f ∷ fs) =
    ends_more (bin_text w b f) (bins_text w (suc b) fs)
    (ends_more (codes "bin " ++ bin_name b
    ++ (if nat_lt b run_bin_count then [] else codes " not run") ++ line_feed) (forest_text w 1 f)
    (ends_line (codes "bin " ++ bin_name b
    ++ (if nat_lt b run_bin_count then [] else codes " not run"))) (forest_ends w 1 f))
    (bins_end w (suc b) fs)

pub schedule_ends : (w : World) (fs : List Forest) → EndsLine (schedule_text w fs)
schedule_ends w fs = bins_end w 0 fs

module _ (values : Values) where
  parameter_ends : (p : Param) (index : Option ℕ) → EndsLine (parameter_line values p index)
  parameter_ends p index =
      ends_line (codes "parameter " ++ element_name p.full index ++ codes " = \""
      ++ value_text (get values p.full index) ++ codes "\""
      ++ place_text p.decl.ptype (number values p.full index))

  unless_ends : (p : Param) → EndsLine (lines_unless_starred values p)
  unless_ends p = by (is_starred p)
    where
      by : (b : Bool)
          → EndsLine (cond b [] (flat_map (parameter_line values p) (copies p.decl.length)))
      by true = inl refl
      by false = ends_all (parameter_line values p) (parameter_ends p) (copies p.decl.length)

thorn_ends : (t : Thorn) → EndsLine (thorn_line t)
thorn_ends t = ends_line (codes "thorn " ++ t.arrangement ++ codes "/" ++ t.name ++ codes " "
    ++ t.interface.implements)

direction_ends : (shape : Shape) (d : ℕ) → EndsLine (direction_line shape d)
direction_ends shape d =
    ends_line (codes "direction " ++ letter d ++ codes " points "
    ++ signed_decimal (along shape.n d) ++ codes " ghost " ++ signed_decimal (along shape.ghost_ d) ++ side_text (is_periodic shape d))

variable_ends : (v : ℕ × VarInfo) → EndsLine (variable_line v)
variable_ends v =
    ends_line (codes "variable " ++ decimal v.0 ++ codes " " ++ v.1.full ++ codes " "
    ++ type_name v.1.ctype ++ kind_text v.1.scalar ++ codes " levels " ++ decimal v.1.levels)

pub key_ends : (shape : Shape) (thorns : List Thorn) (values : Values) (vars : List VarInfo)
    (text : List ℕ) → EndsLine text → EndsLine (key shape thorns values vars text)
key_ends shape thorns values vars text last =
    ends_more (flat_map thorn_line thorns ++ direction_lines shape ++ variable_lines vars
    ++ other_lines thorns values) text
    (ends_more (flat_map thorn_line thorns ++ direction_lines shape ++ variable_lines vars)
    (other_lines thorns values)
    (ends_more (flat_map thorn_line thorns ++ direction_lines shape) (variable_lines vars)
    (ends_more (flat_map thorn_line thorns) (direction_lines shape)
    (ends_all thorn_line thorn_ends thorns)
    (ends_all (direction_line shape) (direction_ends shape) (range_with_len 0 shape.dims)))
    (ends_all variable_line variable_ends (enumerate_from 0 vars)))
    (ends_all (lines_unless_starred values) (unless_ends values) (parameters thorns))) last

-- ---- texts without a line feed

glyph_lacks : (d : ℕ) → (digit_glyph false d == 10) ≡ false
glyph_lacks d = by (nat_lt d 10)
  where
    by : (b : Bool) → (cond b (48 + d) (cond false (55 + d) (87 + d)) == 10) ≡ false
    by true = ne_eqb (48 + d) 10 (λ e. absurd (omega (arith, e)))
    by false = ne_eqb (87 + d) 10 (λ e. absurd (omega (arith, e)))

digits_lack : (k n : ℕ) (acc : List ℕ) → Lacks 10 acc → Lacks 10 (digits_onto k 10 false n acc)
digits_lack zero n acc h = h
digits_lack (suc k) n acc h = by (n / 10 == 0)
    (digits_lack k (n / 10) (digit_glyph false (n % 10) ∷ acc) (glyph_lacks (n % 10), h))
  where
    by : (b : Bool)
        → Lacks 10 (digits_onto k 10 false (n / 10) (digit_glyph false (n % 10) ∷ acc))
        → Lacks 10 (cond b (digit_glyph false (n % 10) ∷ acc)
        (digits_onto k 10 false (n / 10) (digit_glyph false (n % 10) ∷ acc)))
    by true more = (glyph_lacks (n % 10), h)
    by false more = more

decimal_lacks : (n : ℕ) → Lacks 10 (decimal n)
unfolding digits
decimal_lacks n = digits_lack 64 n [] tt

signed_lacks : (n : ℤ) → Lacks 10 (signed_decimal n)
signed_lacks (pos n) = decimal_lacks n
signed_lacks (negsuc n) = (refl, decimal_lacks (suc n))

byte_lacks : (b : ℕ) → Lacks 10 (escaped_byte b)
byte_lacks b = by (b == 34) (b == 92) (b == 10) refl
  where
    by : (quote slash feed : Bool) → (b == 10) ≡ feed
        → Lacks 10 (cond quote (92 ∷ 34 ∷ []) (cond slash (92 ∷ 92 ∷ [])
        (cond feed (92 ∷ 110 ∷ []) (b ∷ []))))
    by true slash feed e = (refl, (refl, tt))
    by false true feed e = (refl, (refl, tt))
    by false false true e = (refl, (refl, tt))
    by false false false e = (e, tt)

escaped_lacks : (text : List ℕ) → Lacks 10 (escaped text)
escaped_lacks [] = tt
escaped_lacks (b ∷ text) =
    lacks_more 10 (escaped_byte b) (escaped text) (byte_lacks b) (escaped_lacks text)

value_lacks : (v : Value) → Lacks 10 (value_text (Some v))
value_lacks (Number n) = signed_lacks n
value_lacks (Flag b) = by b
  where
    by : (c : Bool) → Lacks 10 (cond c (codes "yes") (codes "no"))
    by true = (refl, (refl, (refl, tt)))
    by false = (refl, (refl, tt))
value_lacks (Text text) = escaped_lacks text

place_lacks : (t : PType) (n : Option ℤ) → Lacks 10 (place_text t n)
place_lacks ptypes.Keyword (Some n) = (refl, signed_lacks n)
place_lacks ptypes.Keyword None = tt
place_lacks ptypes.Boolean n = tt
place_lacks ptypes.Int n = tt
place_lacks ptypes.String n = tt
place_lacks ptypes.Real n = tt

name_lacks : (full : List ℕ) (index : Option ℕ) → Lacks 10 full → Lacks 10 (element_name full index)
name_lacks full None h = h
name_lacks full (Some k) h =
    lacks_more 10 (full ++ codes "[" ++ decimal k) (codes "]")
    (lacks_more 10 (full ++ codes "[") (decimal k)
    (lacks_more 10 full (codes "[") h (refl, tt)) (decimal_lacks k)) (refl, tt)

-- ---- the lines of steps

-- what follows the iteration
abbrev rest_of : SteerStep → Param → List ℕ
rest_of s p = element_name p.full s.index ++ codes " = \"" ++ value_text (Some s.value)
    ++ codes "\"" ++ place_text p.decl.ptype (number_by p.decl.ptype p.ranges s.value)

rest_lacks : (s : SteerStep) (p : Param) → IsOneLine p → Lacks 10 (rest_of s p)
rest_lacks s p named =
    let name = element_name p.full s.index in
    let value = value_text (Some s.value) in
    let place = place_text p.decl.ptype (number_by p.decl.ptype p.ranges s.value) in
    lacks_more 10 (name ++ codes " = \"" ++ value ++ codes "\"") place
    (lacks_more 10 (name ++ codes " = \"" ++ value) (codes "\"")
    (lacks_more 10 (name ++ codes " = \"") value
    (lacks_more 10 name (codes " = \"")
    (name_lacks p.full s.index named)
    (refl, (refl, (refl, (refl, tt))))) (value_lacks s.value)) (refl, tt))
    (place_lacks p.decl.ptype (number_by p.decl.ptype p.ranges s.value))

grouped : (front name a value b place last : List ℕ)
    → front ++ name ++ a ++ value ++ b ++ place ++ last
    ≡ (front ++ (name ++ a ++ value ++ b ++ place)) ++ last
grouped front name a value b place last = simp append_assoc

some_digits : (ds : List ℕ) → 0 < length ds → list_all is_ascii_digit ds ≡ true
    → is_digits ds ≡ true
some_digits [] some h = absurd (omega arith)
some_digits (d ∷ ds) some h = h

-- iterations that are written in decimal
abbrev pub limit : ℕ
limit = 2 ^ 64

module _ (ps : List Param) (named : Each IsOneLine ps) where
  abbrev text_by : SteerStep → Option Param → List ℕ
  text_by s None = []
  text_by s (Some p) = steer_text s.at (rest_of s p)

  abbrev has_by : SteerStep → Option Param → Bool
  has_by s None = false
  has_by s (Some p) = nat_lt s.at limit

  abbrev text : SteerStep → List ℕ
  text s = text_by s (slice_get ps s.param)

  abbrev has : SteerStep → Bool
  has s = has_by s (slice_get ps s.param)

  there : (s : SteerStep) → has s ≡ true → (steered_at (text s) ≡ Some s.at) × Lacks 10 (text s)
  there s is = by (slice_get ps s.param) refl is
    where
      by : (o : Option Param) → slice_get ps s.param ≡ o → has_by s o ≡ true
          → (steered_at (text_by s o) ≡ Some s.at) × Lacks 10 (text_by s o)
      by None at e = absurd cc
      by (Some p) at e =
          let small : s.at < limit = ltb-true s.at limit e in
          let all = decimal_digits s.at small in
          let some = some_digits (decimal s.at) (decimal_nonempty s.at small) all in
          let again = decimal_again s.at small in
          let rest = rest_lacks s p (each_at IsOneLine ps s.param p named at) in (
            steered_there s.at all some again (rest_of s p),
            one_line s.at all some again (rest_of s p) rest,
          )

  -- the lines of steps of such iterations
  lines_by : (s : SteerStep) (o : Option Param) → s.at < limit
      → step_line_of s o ≡ cond (has_by s o) (text_by s o ++ 10 ∷ []) []
  lines_by s None small = refl
  lines_by s (Some p) small =
      grouped (codes "steer " ++ decimal s.at ++ codes " ") (element_name p.full s.index)
      (codes " = \"") (value_text (Some s.value)) (codes "\"")
      (place_text p.decl.ptype (number_by p.decl.ptype p.ranges s.value)) line_feed
      ∙ sym (ap (λ b. cond b (text_by s (Some p) ++ 10 ∷ []) []) (lt-ltb s.at limit small))

  lines_are : (ss : List SteerStep) → AllByRecursion (λ (s : SteerStep). s.at < limit) ss
      → step_lines ps ss ≡ flat_map (line_of (λ (s : SteerStep). s.at) text has there) ss
  lines_are [] small = refl
  lines_are (s ∷ ss) small =
      let one = lines_by s (slice_get ps s.param) small.0 in
      let more = lines_are ss small.1 in
      (λ i. one i ++ more i)

  pub steps_agree : (c : ℕ) (base : List ℕ) → EndsLine base → (one other : List SteerStep)
      → AllByRecursion (λ (s : SteerStep). s.at < limit) one
      → AllByRecursion (λ (s : SteerStep). s.at < limit) other
      → filter (λ (s : SteerStep). nat_le s.at c) one
      ≡ filter (λ (s : SteerStep). nat_le s.at c) other
      → Agree c (base ++ step_lines ps one) (base ++ step_lines ps other)
  steps_agree c base ends one other small_one small_other same =
      subst (λ l. Agree c (base ++ l) (base ++ step_lines ps other)) (sym (lines_are one small_one))
      (subst (λ l. Agree c (base ++ flat_map (line_of (λ (s : SteerStep). s.at) text has there) one)
      (base ++ l)) (sym (lines_are other small_other))
      (keys_agree (λ (s : SteerStep). s.at) text has there c base ends one other same))
