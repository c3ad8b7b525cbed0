-- Values that differ only in starred parameters make jobs of one setup and one key.
use Rattle.std.proofs.Common.{◌≡◌, refl, ◌∙◌, ap, ℕ, Bool, true, false, ◌&&◌, ℤ, pos, negsuc, unsigned_abs, List, [], ◌∷◌, ◌++◌, map, filter, codes, Option, Some, None, Result, Ok, Err, if◌then◌else◌}
use Rattle.std.specs.Prelude.{nat_lt, is_none}
use Rattle.std.specs.List.{flat_map, list_any, enumerate_from, slice_split}
use Rattle.std.specs.Option.{option_map, option_and_then, unwrap_or}
use Rattle.std.proofs.Math.Path.{fun_ext}
use Rattle.cx_text.specs.Lexemes.{among}
use Rattle.cx_grid.specs.declared.shapes.Shape.{Shape}
use Rattle.cx_plan.specs.Lists.{all_ok}
use Rattle.cx_plan.specs.Setups.{Setup, setup_of}
use Rattle.cx_plan.specs.declared.item.Item.{Item}
use Rattle.cx_plan.specs.declared.variable.VarId.{VarId}
use Rattle.cx_plan.specs.declared.variable.VarInfo.{VarInfo}
use Rattle.cx_bind.specs.declared.thorns.Thorn.{Thorn}
use Rattle.cx_bind.specs.declared.thorns.Param.{Param}
use Rattle.cx_bind.specs.BuiltIn.{starred}
use Rattle.cx_bind.specs.Parameters.{parameters}
use Rattle.cx_bind.specs.Variables.{variable_infos, copies}
use Rattle.cx_values.specs.declared.values.Values.{Values}
use Rattle.cx_values.specs.Assigned.{held_named, get, number}
use Rattle.cx_order.specs.declared.ordered.Ordered.{Ordered}
use Rattle.cx_order.specs.declared.fault.OrderFault.TheVariants as orders
use Rattle.cx_order.specs.Meanings.{World}
use Rattle.cx_rule.specs.declared.spec.Spec.{Spec}
use Rattle.cx_job_items.specs.declared.fault.MatchFault.{MatchFault}
use Rattle.cx_job_items.specs.declared.fault.MatchFault.TheVariants.{RoutineMismatch}
use Rattle.cx_job_items.specs.declared.matching.Offer.{Offer}
use Rattle.cx_job_items.specs.Matching.{thorn_number, param_number, touches_of, numbers_of, all_some, offer_by, offer, wants_text, params_text, enclosed, declared_text, offered_text, fits, completed, mismatch, matched_by, spec_at, routine_number, with_routine, matched_if_run, all_matched}
use Rattle.cx_job_values.specs.declared.direction.Direction.{Direction}
use Rattle.cx_job_values.specs.declared.direction.Direction.TheVariants.{X, Y, Z}
use Rattle.cx_job_values.specs.Grids.{within, number_at, is_on, text_of, holds_at, text_at, letter, has_direction, for_all_or, points_along, ghosts_along, is_periodic_along, shape_of, dims}
use Rattle.cx_job_values.specs.RunNumbers.{itlast, while_limit, out_every, checkpoint_every, on_end}
use Rattle.cx_job_values.specs.Stored.{stored_infos}
use Rattle.cx_job_files.specs.Stages.{or_fault}
use Rattle.cx_job.specs.declared.fault.JobFault.TheVariants as faults
use Rattle.cx_job.specs.Jobs.{job_of}
use Rattle.cx_job.specs.Keys.{thorn_line, direction_lines, variable_lines, value_text, place_text, element_name, parameter_line, parameter_lines, is_starred, lines_unless_starred, other_lines, key, line_feed}
use Rattle.cx_job.specs.Outputs.{is_name, is_between, output_names, full_groups, group_places, outputs, ids_or_fault}
use Rattle.cx_job.specs.Making.{output_ids}

module _ (a b : Values) (agree : (full : List ℕ) (index : Option ℕ) → among starred full ≡ false
    → held_named a full index ≡ held_named b full index) where
  -- ---- values by their full names

  get_same : (full : List ℕ) (index : Option ℕ) → among starred full ≡ false
      → get a full index ≡ get b full index
  get_same full index none = ap (λ o. option_map (λ h. h.value) o) (agree full index none)

  number_same : (full : List ℕ) (index : Option ℕ) → among starred full ≡ false
      → number a full index ≡ number b full index
  number_same full index none = ap (λ o. option_and_then (λ h. h.number) o) (agree full index none)

  at_same : (full : List ℕ) → among starred full ≡ false → number_at a full ≡ number_at b full
  at_same full none = ap (λ o. unwrap_or o (pos 0)) (number_same full None none)

  on_same : (full : List ℕ) → among starred full ≡ false → holds_at a full ≡ holds_at b full
  on_same full none = ap (λ o. unwrap_or (option_map is_on o) false) (get_same full None none)

  text_same : (full : List ℕ) → among starred full ≡ false → text_at a full ≡ text_at b full
  text_same full none = ap (λ o. unwrap_or (option_map text_of o) []) (get_same full None none)

  -- ---- the grid

  points_plain : (d : Direction) → among starred (codes "driver::global_n" ++ letter d) ≡ false
  points_plain X = refl
  points_plain Y = refl
  points_plain Z = refl

  ghosts_plain : (d : Direction) → among starred (codes "driver::ghost_size_" ++ letter d) ≡ false
  ghosts_plain X = refl
  ghosts_plain Y = refl
  ghosts_plain Z = refl

  periodic_plain : (d : Direction) → among starred (codes "driver::periodic_" ++ letter d) ≡ false
  periodic_plain X = refl
  periodic_plain Y = refl
  periodic_plain Z = refl

  abbrev points_by : ℕ → Direction → ℤ → ℤ → ℤ
  points_by n d all one = if has_direction n d
      then within (pos 1) (pos 16777216) (for_all_or (pos 1) all one) else pos 1

  points_same : (n : ℕ) (d : Direction) → points_along n a d ≡ points_along n b d
  points_same n d =
      ap (λ all. points_by n d all (number_at a (codes "driver::global_n" ++ letter d)))
      (at_same (codes "driver::global_nsize") refl)
      ∙ ap (λ one. points_by n d (number_at b (codes "driver::global_nsize")) one)
      (at_same (codes "driver::global_n" ++ letter d) (points_plain d))

  abbrev ghosts_by : ℕ → Direction → ℤ → ℤ → ℤ
  ghosts_by n d all one = if has_direction n d
      then within (pos 0) (pos 8) (for_all_or (pos 0) all one) else pos 0

  ghosts_same : (n : ℕ) (d : Direction) → ghosts_along n a d ≡ ghosts_along n b d
  ghosts_same n d =
      ap (λ all. ghosts_by n d all (number_at a (codes "driver::ghost_size_" ++ letter d)))
      (at_same (codes "driver::ghost_size") refl)
      ∙ ap (λ one. ghosts_by n d (number_at b (codes "driver::ghost_size")) one)
      (at_same (codes "driver::ghost_size_" ++ letter d) (ghosts_plain d))

  periodic_same : (n : ℕ) (d : Direction) → is_periodic_along n a d ≡ is_periodic_along n b d
  periodic_same n d =
      ap (λ all. has_direction n d && (all && holds_at a (codes "driver::periodic_" ++ letter d)))
      (on_same (codes "driver::periodic") refl)
      ∙ ap (λ one. has_direction n d && (holds_at b (codes "driver::periodic") && one))
      (on_same (codes "driver::periodic_" ++ letter d) (periodic_plain d))

  abbrev shape_from : ℕ → (Direction → ℤ) → (Direction → ℤ) → (Direction → Bool) → Shape
  shape_from n points ghosts periodic =
      record {
        dims = n;
        n = record { x = points X; y = points Y; z = points Z };
        ghost_ = record { x = ghosts X; y = ghosts Y; z = ghosts Z };
        periodic = periodic X ∷ periodic Y ∷ periodic Z ∷ [];
      }

  pub shape_same : (thorns : List Thorn) → shape_of thorns a ≡ shape_of thorns b
  shape_same thorns =
      let n : ℕ = dims thorns in
      ap (λ f. shape_from n f (ghosts_along n a) (is_periodic_along n a)) (fun_ext (points_same n))
      ∙ ap (λ f. shape_from n (points_along n b) f (is_periodic_along n a))
      (fun_ext (ghosts_same n))
      ∙ ap (λ f. shape_from n (points_along n b) (ghosts_along n b) f) (fun_ext (periodic_same n))

  -- ---- the variables that are written

  names_same : output_names a ≡ output_names b
  names_same = ap (λ text. filter is_name (slice_split is_between text))
      (text_same (codes "IO::out_vars") refl)

  pub outputs_same : (thorns : List Thorn) (storage : List ℕ)
      → output_ids thorns a storage ≡ output_ids thorns b storage
  outputs_same thorns storage =
      ap (λ names. or_fault (λ f. faults.Order (orders.Scope (codes "output") f))
      (ids_or_fault (group_places thorns)
      (outputs (variable_infos thorns) (full_groups thorns) (group_places thorns)
      storage names))) names_same

  -- ---- items and their routines

  param_same : (name : List ℕ) → param_number a name ≡ param_number b name
  param_same name = by (among starred name) refl
    where
      by : (t : Bool) → among starred name ≡ t
          → (if t then None else number a name None) ≡ (if t then None else number b name None)
      by true e = refl
      by false e = number_same name None e

  params_same : param_number a ≡ param_number b
  params_same = fun_ext param_same

  numbers_same : (names : List (List ℕ)) → numbers_of a names ≡ numbers_of b names
  numbers_same names = ap (λ (f : List ℕ → Option ℤ). all_some (map f names)) params_same

  texts_same : (names : List (List ℕ)) → params_text a names ≡ params_text b names
  texts_same names = ap by params_same
    where
      by : (List ℕ → Option ℤ) → List ℕ
      by f = if list_any (λ n. is_none (f n)) names
          then codes " params" ++ flat_map (λ n. if is_none (f n) then codes " " ++ n else []) names
          else []

  module _ (w : World) where
    module _ (t : Option ℕ) where
      offer_same : (s : Spec) → offer w a t s ≡ offer w b t s
      offer_same s = ap (λ o. offer_by (touches_of w t s.reads) (touches_of w t s.writes) o)
          (numbers_same s.params)

      offered_same : (s : Spec) → offered_text w a t s ≡ offered_text w b t s
      offered_same s =
          ap (λ text. enclosed (wants_text (codes " reads") w t s.reads
          ++ wants_text (codes " writes") w t s.writes ++ text)) (texts_same s.params)

      mismatch_same : (x : Item) (s : Spec) → mismatch w a t x s ≡ mismatch w b t x s
      mismatch_same x s = ap (λ text. RoutineMismatch x.path (declared_text w x) text)
          (offered_same s)

      by_same : (x : Item) (k : ℕ) (s : Spec) (o : Option Offer)
          → matched_by w a t x k s o ≡ matched_by w b t x k s o
      by_same x k s None = ap (λ (e : MatchFault). Err e) (mismatch_same x s)
      by_same x k s (Some o) =
          ap (λ (e : MatchFault). if fits x o then Ok (completed x k s.kind o) else Err e)
          (mismatch_same x s)

      matched_same : (x : Item) (k : ℕ) (s : Spec)
          → matched_by w a t x k s (offer w a t s) ≡ matched_by w b t x k s (offer w b t s)
      matched_same x k s = by_same x k s (offer w a t s)
          ∙ ap (matched_by w b t x k s) (offer_same s)

    with_same : (x : Item) (s : Option (ℕ × Spec)) → with_routine w a x s ≡ with_routine w b x s
    with_same x None = refl
    with_same x (Some s) = matched_same (thorn_number w.thorns x.thorn) x s.0 s.1

    if_run_same : (specs : List Spec) (run : ℕ) (x : ℕ × Item)
        → matched_if_run w a specs run x ≡ matched_if_run w b specs run x
    if_run_same specs run x =
        ap (λ (r : Result Item MatchFault). if nat_lt x.0 run then r else Ok x.1)
        (with_same x.1 (spec_at specs (routine_number specs x.1)))

    pub items_same : (specs : List Spec) (run : ℕ) (items : List Item)
        → all_matched w a specs run items ≡ all_matched w b specs run items
    items_same specs run items =
        ap (λ (f : ℕ × Item → Result Item MatchFault). all_ok (map f (enumerate_from 0 items)))
        (fun_ext (if_run_same specs run))

  -- ---- the key

  module _ (p : Param) (none : among starred p.full ≡ false) where
    line_same : (index : Option ℕ) → parameter_line a p index ≡ parameter_line b p index
    line_same index =
        ap (λ v. codes "parameter " ++ element_name p.full index ++ codes " = \"" ++ value_text v
        ++ codes "\"" ++ place_text p.decl.ptype (number a p.full index) ++ line_feed)
        (get_same p.full index none)
        ∙ ap (λ n. codes "parameter " ++ element_name p.full index ++ codes " = \""
        ++ value_text (get b p.full index) ++ codes "\"" ++ place_text p.decl.ptype n
        ++ line_feed) (number_same p.full index none)

    parameter_same : parameter_lines a p ≡ parameter_lines b p
    parameter_same = ap (λ (f : Option ℕ → List ℕ). flat_map f (copies p.decl.length))
        (fun_ext line_same)

  unless_same : (p : Param) → lines_unless_starred a p ≡ lines_unless_starred b p
  unless_same p = by (is_starred p) refl
    where
      by : (t : Bool) → is_starred p ≡ t
          → (if t then [] else parameter_lines a p) ≡ (if t then [] else parameter_lines b p)
      by true e = refl
      by false e = parameter_same p e

  others_same : (thorns : List Thorn) → other_lines thorns a ≡ other_lines thorns b
  others_same thorns = ap (λ (f : Param → List ℕ). flat_map f (parameters thorns))
      (fun_ext unless_same)

  key_same : (thorns : List Thorn) (vars : List VarInfo) (text : List ℕ)
      → key (shape_of thorns a) thorns a vars text ≡ key (shape_of thorns b) thorns b vars text
  key_same thorns vars text =
      ap (λ shape. key shape thorns a vars text) (shape_same thorns)
      ∙ ap (λ lines. flat_map thorn_line thorns ++ direction_lines (shape_of thorns b)
      ++ variable_lines vars ++ lines ++ text) (others_same thorns)

  -- ---- the job

  module _ (thorns : List Thorn) (ordered : Ordered) (items : List Item) (out_vars : List VarId)
    where
      abbrev setup_with : Shape → ℕ → ℕ → ℤ → ℤ → Bool → Setup
      setup_with shape last limit every checkpoints end =
          record {
            shape = shape;
            vars = stored_infos thorns ordered.storage;
            items = items;
            steers = [];
            bins = ordered.plan.bins;
            itlast = last;
            while_limit = limit;
            out_every = every;
            out_vars = out_vars;
            chk_every = checkpoints;
            on_end = end;
          }

      pub setup_same : setup_of (job_of thorns a ordered items out_vars)
          ≡ setup_of (job_of thorns b ordered items out_vars)
      setup_same =
          ap (λ x. setup_with x (itlast a) (while_limit a) (out_every a) (checkpoint_every a)
          (on_end a)) (shape_same thorns)
          ∙ ap (λ x. setup_with (shape_of thorns b) (unsigned_abs (within (pos 0) (pos 1000000) x))
          (while_limit a) (out_every a) (checkpoint_every a) (on_end a))
          (at_same (codes "Cactus::cctk_itlast") refl)
          ∙ ap (λ x. setup_with (shape_of thorns b) (itlast b)
          (unsigned_abs (within (pos 1) (pos 1000000) x)) (out_every a) (checkpoint_every a)
          (on_end a)) (at_same (codes "driver::while_limit") refl)
          ∙ ap (λ x. setup_with (shape_of thorns b) (itlast b) (while_limit b)
          (within (negsuc 0) (pos 1000000) x) (checkpoint_every a) (on_end a))
          (at_same (codes "IO::out_every") refl)
          ∙ ap (λ x. setup_with (shape_of thorns b) (itlast b) (while_limit b) (out_every b)
          (within (negsuc 0) (pos 1000000) x) (on_end a))
          (at_same (codes "IO::checkpoint_every") refl)
          ∙ ap (λ x. setup_with (shape_of thorns b) (itlast b) (while_limit b) (out_every b)
          (checkpoint_every b) x) (on_same (codes "IO::checkpoint_on_terminate") refl)

      pub one_key : (job_of thorns a ordered items out_vars).key
          ≡ (job_of thorns b ordered items out_vars).key
      one_key = key_same thorns (stored_infos thorns ordered.storage) ordered.text
