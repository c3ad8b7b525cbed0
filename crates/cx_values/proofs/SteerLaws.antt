-- The steps of a steer file, one line after another, by the names that a table has.
use Rattle.std.proofs.Common.{◌≡◌, sym, ◌∙◌, ap, ℕ, ◌+◌, ◌<◌, ◌⊎◌, inl, inr, List, [], ◌∷◌, length, drop, get_or, Option, Some, None, Result, Ok, Err, IfOk}
use Rattle.std.specs.List.{flat_map}
use Rattle.std.proofs.Math.Path.{fun_ext}
use Rattle.cx_text.specs.Telling.{Tells}
use Rattle.cx_plan.specs.Lists.{or_else}
use Rattle.cx_parfile.specs.declared.steer.SteerLine.{SteerLine}
use Rattle.cx_bind.specs.declared.thorns.Thorn.{Thorn}
use Rattle.cx_bind.specs.declared.thorns.Param.{Param}
use Rattle.cx_bind.specs.Parameters.{parameters}
use Rattle.cx_values.specs.declared.fault.ValueFault.{ValueFault}
use Rattle.cx_values.specs.declared.fault.ValueFault.TheVariants.{Memory}
use Rattle.cx_values.specs.declared.numbers.Dues.{Dues}
use Rattle.cx_values.specs.declared.steering.SteerStep.{SteerStep}
use Rattle.cx_values.specs.declared.values.Values.{Values}
use Rattle.cx_values.specs.Naming.{Names, names_by, names}
use Rattle.cx_values.specs.Numbers.{dues_of}
use Rattle.cx_values.specs.Steering.{line_fault, lines_fault, steer_fault, step_by, steps, Steers}
use Rattle.cx_values.proofs.Along.{left_over}

-- ---- the first fault, one line on

module _ (ps : List Param) (nm : Names) (dues : Dues) (lines : List SteerLine) (k before : ℕ)
    (l : SteerLine) (within : k < length lines) (at : l ≡ get_or lines k l)
    (all : Option ValueFault)
    (left : lines_fault ps nm dues before (drop k lines) ≡ all) where
  abbrev later : Option ValueFault
  later = lines_fault ps nm dues l.at (drop (k + 1) lines)

  opened : or_else (line_fault ps nm dues before l) later ≡ all
  opened =
      sym (ap (λ rest. lines_fault ps nm dues before rest) (left_over lines k l within at)) ∙ left

  pub line_passed : line_fault ps nm dues before l ≡ None
      → lines_fault ps nm dues l.at (drop (k + 1) lines) ≡ all
  line_passed none = sym (ap (λ o. or_else o later) none) ∙ opened

  pub line_told : (none fault : ValueFault)
      → (fault ≡ none) ⊎ (line_fault ps nm dues before l ≡ Some fault)
      → (fault ≡ none) ⊎ (all ≡ Some fault)
  line_told none fault (inl memory) = inl memory
  line_told none fault (inr some) = inr (sym opened ∙ ap (λ o. or_else o later) some)

-- ---- all lines

module _ (thorns : List Thorn) (values : Values) (lines : List SteerLine) (ts : List Thorn)
    (ps : List Param) (dues : Dues) (ls : List SteerLine) (table : Names) (t : ts ≡ thorns)
    (p : ps ≡ parameters thorns) (d : dues ≡ dues_of values) (s : ls ≡ lines)
    (named : (name : List ℕ) → table name ≡ names_by ts ps name) where
  same_names : table ≡ names thorns
  unfolding names
  same_names = fun_ext named ∙ ap (λ ts. names_by ts ps) t ∙ ap (λ ps. names_by thorns ps) p

  same_fault : lines_fault ps table dues 0 ls ≡ steer_fault thorns values lines
  unfolding steer_fault
  same_fault =
      ap (λ ps. lines_fault ps table dues 0 ls) p
      ∙ ap (λ table. lines_fault (parameters thorns) table dues 0 ls) same_names
      ∙ ap (λ dues. lines_fault (parameters thorns) (names thorns) dues 0 ls) d
      ∙ ap (λ ls. lines_fault (parameters thorns) (names thorns) (dues_of values) 0 ls) s

  same_steps : flat_map (step_by ps table) ls ≡ steps thorns lines
  unfolding steps
  same_steps =
      ap (λ ps. flat_map (step_by ps table) ls) p
      ∙ ap (λ table. flat_map (step_by (parameters thorns) table) ls) same_names
      ∙ ap (λ ls. flat_map (step_by (parameters thorns) (names thorns)) ls) s

  pub steers : (r : Result (List SteerStep) ValueFault)
      → Tells Memory (lines_fault ps table dues 0 ls) r
      → IfOk r (λ found. found ≡ flat_map (step_by ps table) ls) → Steers thorns values lines r
  steers (Ok found) told is = (is ∙ same_steps, sym same_fault ∙ told)
  steers (Err e) (inl memory) is = inl memory
  steers (Err e) (inr fault) is = inr (sym same_fault ∙ fault)
