-- What the files of the thorns that conserve say: their variables, their parameters that can't be
-- steered, and their storage.
use Rattle.std.proofs.Common.{◌≡◌, refl, ℕ, Bool, true, List, [], ◌∷◌, Option, Some, None, Result, Ok, Err, codes}
use Rattle.std.specs.Option.{option_map}
use Rattle.std.specs.List.{list_all}
use Rattle.cx_text.specs.declared.ctype.CType.{CType}
use Rattle.cx_text.specs.declared.ctype.CType.TheVariants.{Byte, Int}
use Rattle.cx_text.specs.Reading.{read_many, read_up_to}
use Rattle.cx_text.specs.Scanning.{quoted}
use Rattle.cx_iface.specs.declared.tree.Access.TheVariants.{Public}
use Rattle.cx_iface.specs.declared.tree.GType.{GType}
use Rattle.cx_iface.specs.declared.tree.GType.TheVariants.{Gf, Scalar}
use Rattle.cx_iface.specs.declared.tree.Group.{Group}
use Rattle.cx_iface.specs.declared.tree.Interface.{Interface}
use Rattle.cx_iface.specs.File.{file}
use Rattle.cx_expr.specs.Known.{Names}
use Rattle.cx_param.specs.Params.{params}
use Rattle.cx_param.specs.declared.declarations.ParamDecl.{ParamDecl}
use Rattle.cx_conf.specs.declared.configuration.Configuration.{Configuration}
use Rattle.cx_sched.specs.Nodes.{schedule}
use Rattle.cx_sched.specs.declared.tree.ScheduleFile.{ScheduleFile}
use Rattle.cx_bind.specs.Parameters.{parameters}
use Rattle.cx_bind.specs.Selecting.{Place}
use Rattle.cx_bind.specs.declared.thorns.Thorn.{Thorn}
use Rattle.cx_scope.specs.Sight.{Sight}
use Rattle.cx_order_entries.specs.Counted.{Counted, Line}
use Rattle.cx_order.specs.Files.{counted_from}
use Rattle.cx_order.specs.Storage.{storage}
use Rattle.cx_order.specs.declared.fault.OrderFault.{OrderFault}
use Rattle.cx_thorn_physics.specs.Flux.{heatflux_init_spec}
use Rattle.cx_thorn_physics.specs.Gas.{gas_init_spec}
use Rattle.law_physics_job.specs.Texts.{heat_interface, heat_params, heat_schedule, gas_interface, gas_params, gas_schedule}
use Rattle.law_physics_job.proofs.Pieces.{tree_of}
use Rattle.law_physics_job.proofs.Steers.{is_quiet}

abbrev group : CType → List ℕ → GType → ℕ → List (List ℕ) → List ℕ → Group
group ctype name gtype dim variables text = record {
  access = Public;
  ctype = ctype;
  name = name;
  copies = None;
  gtype = gtype;
  dim = dim;
  levels = 1;
  rest = [];
  variables = variables;
  text = text;
}

abbrev implementing : List ℕ → List Group → Interface
implementing name groups = record {
  implements = name;
  inherits = [];
  friends = [];
  groups = groups;
  others = [];
}

abbrev pub heat_tree : Interface
heat_tree =
    implementing (codes "heatflux")
    (group Int (codes "evolved") Gf 3 (codes "u" ∷ []) (codes "heat")
    ∷ group Byte (codes "walls") Gf 3 (codes "mask" ∷ [])
    (codes "1 where heat flows, 0 where none does")
    ∷ group Int (codes "sums") Scalar 3 (codes "total" ∷ []) (codes "sum")
    ∷ [])

abbrev pub gas_tree : Interface
gas_tree =
    implementing (codes "gas")
    (group Byte (codes "cells") Gf 2 (codes "cell" ∷ [])
    (codes "particles: bit 0 goes east, 1 north, 2 west, 3 south")
    ∷ group Int (codes "measured") Gf 2
    (codes "number" ∷ codes "momentum_x" ∷ codes "momentum_y" ∷ []) (codes "of each cell")
    ∷ group Int (codes "sums") Scalar 3
    (codes "particles" ∷ codes "total_x" ∷ codes "total_y" ∷ []) (codes "over all cells")
    ∷ [])

pub heat_says : option_map (λ s. s.tree) (tree_of file.reads heat_interface) ≡ Some heat_tree
unfolding quoted read_many read_up_to
heat_says = refl

pub gas_says : option_map (λ s. s.tree) (tree_of file.reads gas_interface) ≡ Some gas_tree
unfolding quoted read_many read_up_to
gas_says = refl

-- ---- parameters

abbrev pub thorn_of : (place : Place) (interface : Interface) (params : List ParamDecl)
    (conf : Configuration) → Thorn
thorn_of place interface params conf =
    record {
      arrangement = place.0;
      name = place.1;
      interface = interface;
      params = params;
      conf = conf;
    }

-- whether no parameter that can be steered fills one of these slots
abbrev pub are_quiet : List (List ℕ) → Thorn → Bool
are_quiet slots t = list_all (is_quiet slots) (parameters (t ∷ []))

abbrev pub heat_slots : List (List ℕ)
heat_slots = heatflux_init_spec.params

abbrev pub gas_slots : List (List ℕ)
gas_slots = gas_init_spec.params

pub heat_quiet : (place : Place) (conf : Configuration)
    → option_map (λ ps. are_quiet heat_slots (thorn_of place heat_tree ps conf))
    (tree_of params.reads heat_params) ≡ Some true
unfolding quoted read_many read_up_to
heat_quiet place conf = refl

pub gas_quiet : (place : Place) (conf : Configuration)
    → option_map (λ ps. are_quiet gas_slots (thorn_of place gas_tree ps conf))
    (tree_of params.reads gas_params) ≡ Some true
unfolding quoted read_many read_up_to
gas_quiet place conf = refl

-- ---- storage

abbrev pub lines_of : Result Counted OrderFault → Option (List Line)
lines_of (Ok c) = Some c.lines
lines_of (Err e) = None

-- the STORAGE lines of a schedule file that is the only one
abbrev pub lines_in : (ℕ → Names) → Thorn → ScheduleFile → Option (List Line)
lines_in names t s = lines_of (counted_from names 0 (t ∷ []) (s ∷ []))

-- a line that stores one level of a group
abbrev stores : List ℕ → Line
stores group = record {
  thorn = 0;
  group = record { owner = None; name = group; copy = None };
  levels = Some 1;
}

abbrev pub heat_lines : List Line
heat_lines = stores (codes "evolved") ∷ stores (codes "walls") ∷ stores (codes "sums") ∷ []

abbrev pub gas_lines : List Line
gas_lines = stores (codes "cells") ∷ stores (codes "measured") ∷ stores (codes "sums") ∷ []

pub heat_stores : (names : ℕ → Names) (t : Thorn)
    → option_map (lines_in names t) (tree_of schedule.reads heat_schedule) ≡ Some (Some heat_lines)
unfolding quoted read_many read_up_to
heat_stores names t = refl

pub gas_stores : (names : ℕ → Names) (t : Thorn)
    → option_map (lines_in names t) (tree_of schedule.reads gas_schedule) ≡ Some (Some gas_lines)
unfolding quoted read_many read_up_to
gas_stores names t = refl

-- one level of each variable
abbrev pub heat_storage : List ℕ
heat_storage = 1 ∷ 1 ∷ 1 ∷ []

abbrev pub gas_storage : List ℕ
gas_storage = 1 ∷ 1 ∷ 1 ∷ 1 ∷ 1 ∷ 1 ∷ 1 ∷ []

pub heat_stored : (place : Place) (ps : List ParamDecl) (conf : Configuration) (sight : Sight)
    → storage (thorn_of place heat_tree ps conf ∷ []) sight heat_lines ≡ heat_storage
heat_stored place ps conf sight = refl

pub gas_stored : (place : Place) (ps : List ParamDecl) (conf : Configuration) (sight : Sight)
    → storage (thorn_of place gas_tree ps conf ∷ []) sight gas_lines ≡ gas_storage
gas_stored place ps conf sight = refl
