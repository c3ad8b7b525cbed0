-- Each variable's full name is in the key, so the names of the output files are short enough for a
-- checkpoint.
use Rattle.std.proofs.Common.{◌≡◌, refl, sym, subst, ℕ, zero, suc, ◌+◌, ◌≤◌, ◌<◌, List, [], ◌∷◌, ◌++◌, map, length, length-append, get_or, codes, arith, ◌^◌}
use Rattle.std.specs.Fmt.{decimal}
use Rattle.std.specs.List.{flat_map, enumerate_from, AllByRecursion}
use Rattle.std.specs.Prelude.{All}
use Rattle.cx_grid.specs.declared.shapes.Shape.{Shape}
use Rattle.cx_plan.specs.Lookups.{variable, no_variable}
use Rattle.cx_plan.specs.Setups.{setup_of}
use Rattle.cx_plan.specs.Whole.{IsWhole}
use Rattle.cx_plan.specs.declared.job.Job.{Job}
use Rattle.cx_plan.specs.declared.variable.VarId.{VarId}
use Rattle.cx_plan.specs.declared.variable.VarInfo.{VarInfo}
use Rattle.cx_outputs.specs.Names.{HasShortNames}
use Rattle.cx_bind.specs.declared.thorns.Thorn.{Thorn}
use Rattle.cx_values.specs.declared.values.Values.{Values}
use Rattle.cx_job.specs.Keys.{line_feed, type_name, kind_text, variable_line, variable_lines, thorn_line, direction_lines, other_lines, key}

-- a text of ten pieces is as long as its first and its fourth together
two_pieces : (a b c d e f g h i j : List ℕ)
    → length a + length d ≤ length (a ++ b ++ c ++ d ++ e ++ f ++ g ++ h ++ i ++ j)
two_pieces a b c d e f g h i j =
    let p1 = length-append a b in
    let p2 = length-append (a ++ b) c in
    let p3 = length-append (a ++ b ++ c) d in
    let p4 = length-append (a ++ b ++ c ++ d) e in
    let p5 = length-append (a ++ b ++ c ++ d ++ e) f in
    let p6 = length-append (a ++ b ++ c ++ d ++ e ++ f) g in
    let p7 = length-append (a ++ b ++ c ++ d ++ e ++ f ++ g) h in
    let p8 = length-append (a ++ b ++ c ++ d ++ e ++ f ++ g ++ h) i in
    let p9 = length-append (a ++ b ++ c ++ d ++ e ++ f ++ g ++ h ++ i) j in
    omega (arith, p1, p2, p3, p4, p5, p6, p7, p8, p9)

-- a text of five pieces is as long as its third
third_piece : (a b c d e : List ℕ) → length c ≤ length (a ++ b ++ c ++ d ++ e)
third_piece a b c d e =
    let p1 = length-append a b in
    let p2 = length-append (a ++ b) c in
    let p3 = length-append (a ++ b ++ c) d in
    let p4 = length-append (a ++ b ++ c ++ d) e in
    omega (arith, p1, p2, p3, p4)

in_line : (n : ℕ) (v : VarInfo) → 8 + length v.full ≤ length (variable_line (n, v))
in_line n v =
    let word : length (codes "variable ") ≡ 9 = refl in
    let pieces = two_pieces (codes "variable ") (decimal n) (codes " ") v.full (codes " ")
    (type_name v.ctype) (kind_text v.scalar) (codes " levels ") (decimal v.levels) line_feed in
    omega (arith, word, pieces)

at_front : (line rest : List ℕ) (n : ℕ) → n ≤ length line → n ≤ length (line ++ rest)
at_front line rest n within = let both = length-append line rest in omega (arith, both, within)

at_rest : (line rest : List ℕ) (n : ℕ) → n ≤ length rest → n ≤ length (line ++ rest)
at_rest line rest n within = let both = length-append line rest in omega (arith, both, within)

at_most : (a b c : ℕ) → a ≤ b → b ≤ c → a ≤ c
at_most a b c one two = omega (arith, one, two)

in_lines : (vars : List VarInfo) (n k : ℕ) (d : VarInfo) → k < length vars
    → 8 + length (get_or vars k d).full ≤ length (flat_map variable_line (enumerate_from n vars))
in_lines [] n k d within = absurd (let no : ⊥ = omega (arith, within) in no)
in_lines (v ∷ vs) n zero d within =
    at_front (variable_line (n, v)) (flat_map variable_line (enumerate_from (n + 1) vs))
    (8 + length v.full) (in_line n v)
in_lines (v ∷ vs) n (suc k) d within =
    at_rest (variable_line (n, v)) (flat_map variable_line (enumerate_from (n + 1) vs))
    (8 + length (get_or vs k d).full) (in_lines vs (n + 1) k d (omega (arith, within)))

in_key : (shape : Shape) (thorns : List Thorn) (values : Values) (vars : List VarInfo)
    (plan_text : List ℕ) (k : ℕ) (d : VarInfo) → k < length vars
    → 8 + length (get_or vars k d).full ≤ length (key shape thorns values vars plan_text)
in_key shape thorns values vars plan_text k d within =
    at_most (8 + length (get_or vars k d).full) (length (variable_lines vars))
    (length (key shape thorns values vars plan_text)) (in_lines vars 0 k d within)
    (third_piece (flat_map thorn_line thorns) (direction_lines shape)
    (variable_lines vars) (other_lines thorns values) plan_text)

-- ---- the names of the output files

-- each variable's full name is in the key, beside other words
abbrev pub KeyNames : Job → Type 0
KeyNames job = All (λ (v : VarInfo). 8 + length v.full ≤ length job.key) job.vars

pub key_names : (job : Job) (shape : Shape) (thorns : List Thorn) (values : Values)
    (plan_text rest : List ℕ) → job.key ≡ key shape thorns values job.vars plan_text ++ rest
    → KeyNames job
key_names job shape thorns values plan_text rest is k d within =
    subst (λ (text : List ℕ). 8 + length (get_or job.vars k d).full ≤ length text) (sym is)
    (at_front (key shape thorns values job.vars plan_text) rest
    (8 + length (get_or job.vars k d).full)
    (in_key shape thorns values job.vars plan_text k d within))

shorter : (name : List ℕ) (full most : ℕ) → length name ≡ full + 4 → 8 + full ≤ most
    → most < 2 ^ 32 → length name < 2 ^ 32
shorter name full most is within few = omega (arith, is, within, few)

module _ (job : Job) (whole : IsWhole job) (named : KeyNames job) where
  short_name : (v : VarId) → v.0 < length job.vars
      → length ((variable (setup_of job) v).full ++ codes ".asc") < 2 ^ 32
  short_name v within =
      let full : List ℕ = (variable (setup_of job) v).full in
      shorter (full ++ codes ".asc") (length full) (length job.key)
      (length-append full (codes ".asc")) (named v.0 no_variable within) whole.key_limit

  each_short : (vs : List VarId) → All (λ (v : VarId). v.0 < length job.vars) vs
      → AllByRecursion (λ (name : List ℕ). length name < 2 ^ 32)
      (map (λ (v : VarId). (variable (setup_of job) v).full ++ codes ".asc") vs)
  each_short [] all = tt
  each_short (v ∷ vs) all = (
    short_name v (all 0 v (omega arith)),
    each_short vs (λ k d within. all (suc k) d (omega (arith, within))),
  )

  pub short_names : HasShortNames (setup_of job)
  short_names = each_short job.out_vars (λ k d within. (whole.outputs k d within).0)
