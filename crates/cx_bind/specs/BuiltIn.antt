-- The thorns and the parameters that are built in.
use Rattle.std.specs.Prelude.{ℕ, ℤ, pos, negsuc, List, [], ◌∷◌, ◌++◌, codes, Some, None, true}
use Rattle.cx_param.specs.declared.declarations.PType.{PType}
use Rattle.cx_param.specs.declared.declarations.PType.TheVariants.{Boolean, Int, Keyword, String}
use Rattle.cx_param.specs.declared.declarations.Scope.TheVariants.{Restricted}
use Rattle.cx_param.specs.declared.declarations.Steer.TheVariants.{Never}
use Rattle.cx_param.specs.declared.ranges.Range.{Range}
use Rattle.cx_param.specs.declared.ranges.Range.TheVariants.{Ints, Word, AnyText}
use Rattle.cx_plan.specs.Names.{full_name}
use Rattle.cx_bind.specs.declared.thorns.Param.{Param}
use Rattle.cx_bind.specs.declared.providers.Provider.{Provider}

abbrev pub provider : List ℕ → List ℕ → Provider
provider implementation thorn = record { implementation = implementation; thorn = thorn }

-- what the thorns that are active in any case implement
abbrev pub built_in : List Provider
built_in = provider (codes "Cactus") (codes "Cactus") ∷ provider (codes "driver") (codes "PUGH")
    ∷ provider (codes "IO") (codes "IOUtil") ∷ []

abbrev pub built_in_thorns : List (List ℕ)
built_in_thorns = codes "Cactus" ∷ codes "PUGH" ∷ codes "IOUtil" ∷ []

-- Parameters that only say how and where a run is done: no thorn can use one of these.
abbrev pub starred_of_driver : List (List ℕ)
starred_of_driver =
    codes "driver::parts_x" ∷ codes "driver::parts_y" ∷ codes "driver::parts_z"
    ∷ codes "driver::widths_x" ∷ codes "driver::widths_y" ∷ codes "driver::widths_z"
    ∷ codes "driver::lead"
    ∷ codes "driver::balance" ∷ codes "driver::weight" ∷ codes "driver::weight_factor"
    ∷ []

abbrev pub starred_of_io : List (List ℕ)
starred_of_io = codes "IO::out_dir" ∷ codes "IO::checkpoint_dir" ∷ codes "IO::recover_dir"
    ∷ codes "IO::recover" ∷ codes "IO::steer_file" ∷ []

abbrev pub starred : List (List ℕ)
starred = starred_of_driver ++ starred_of_io

-- the numbers from one to another, both ends among them
abbrev pub from_to : ℤ → ℤ → Range
from_to low high = Ints (Some low) true (Some high) true 1

-- A built-in parameter. All are restricted, and none is an array. Its thorn's number is that of the
-- thorns.
abbrev pub parameter : ℕ → List ℕ → PType → List ℕ → List Range → List ℕ → Param
parameter number implementation ptype name ranges default =
    record {
      full = full_name implementation name;
      thorn = number;
      decl = record {
        scope = Restricted;
        ptype = ptype;
        name = name;
        length = None;
        alias = None;
        steer = Never;
        ranges = ranges;
        default = Some default;
      };
      ranges = ranges;
    }

abbrev pub int_parameter : ℕ → List ℕ → List ℕ → ℤ → ℤ → List ℕ → Param
int_parameter number implementation name low high default =
    parameter number implementation Int name (from_to low high ∷ []) default

-- -1, or a number of a range
abbrev pub unset_parameter : ℕ → List ℕ → List ℕ → ℤ → ℤ → List ℕ → Param
unset_parameter number implementation name low high default =
    parameter number implementation Int name (from_to (negsuc 0) (negsuc 0) ∷ from_to low high ∷ [])
    default

abbrev pub flag_parameter : ℕ → List ℕ → List ℕ → List ℕ → Param
flag_parameter number implementation name default =
    parameter number implementation Boolean name [] default

abbrev pub text_parameter : ℕ → List ℕ → List ℕ → List ℕ → Param
text_parameter number implementation name default =
    parameter number implementation String name (AnyText ∷ []) default

abbrev pub terminate_parameter : ℕ → Param
terminate_parameter n = parameter n (codes "Cactus") Keyword (codes "terminate")
    (Word (codes "iteration") ∷ []) (codes "iteration")

abbrev pub cactus_parameters : ℕ → List Param
cactus_parameters n =
    int_parameter n (codes "Cactus") (codes "cctk_itlast") (pos 0) (pos 1000000) (codes "10")
    ∷ text_parameter n (codes "Cactus") (codes "cctk_run_title") []
    ∷ terminate_parameter n
    ∷ []

abbrev pub grid_parameters : ℕ → List Param
grid_parameters n =
    int_parameter n (codes "driver") (codes "global_nx") (pos 1) (pos 16777216) (codes "10")
    ∷ int_parameter n (codes "driver") (codes "global_ny") (pos 1) (pos 16777216) (codes "10")
    ∷ int_parameter n (codes "driver") (codes "global_nz") (pos 1) (pos 16777216) (codes "10")
    ∷ unset_parameter n (codes "driver") (codes "global_nsize") (pos 1) (pos 16777216) (codes "-1")
    ∷ []

abbrev pub ghost_parameters : ℕ → List Param
ghost_parameters n =
    unset_parameter n (codes "driver") (codes "ghost_size") (pos 0) (pos 8) (codes "-1")
    ∷ int_parameter n (codes "driver") (codes "ghost_size_x") (pos 0) (pos 8) (codes "1")
    ∷ int_parameter n (codes "driver") (codes "ghost_size_y") (pos 0) (pos 8) (codes "1")
    ∷ int_parameter n (codes "driver") (codes "ghost_size_z") (pos 0) (pos 8) (codes "1")
    ∷ []

abbrev pub periodic_parameters : ℕ → List Param
periodic_parameters n =
    flag_parameter n (codes "driver") (codes "periodic") (codes "no")
    ∷ flag_parameter n (codes "driver") (codes "periodic_x") (codes "yes")
    ∷ flag_parameter n (codes "driver") (codes "periodic_y") (codes "yes")
    ∷ flag_parameter n (codes "driver") (codes "periodic_z") (codes "yes")
    ∷ []

abbrev pub part_parameters : ℕ → List Param
part_parameters n =
    int_parameter n (codes "driver") (codes "parts_x") (pos 1) (pos 512) (codes "1")
    ∷ int_parameter n (codes "driver") (codes "parts_y") (pos 1) (pos 512) (codes "1")
    ∷ int_parameter n (codes "driver") (codes "parts_z") (pos 1) (pos 512) (codes "1")
    ∷ []

abbrev pub width_parameters : ℕ → List Param
width_parameters n =
    text_parameter n (codes "driver") (codes "widths_x") []
    ∷ text_parameter n (codes "driver") (codes "widths_y") []
    ∷ text_parameter n (codes "driver") (codes "widths_z") []
    ∷ []

abbrev pub turn_parameters : ℕ → List Param
turn_parameters n =
    int_parameter n (codes "driver") (codes "lead") (pos 0) (pos 64) (codes "0")
    ∷ int_parameter n (codes "driver") (codes "while_limit") (pos 1) (pos 1000000) (codes "1000")
    ∷ []

abbrev pub output_parameters : ℕ → List Param
output_parameters n =
    text_parameter n (codes "IO") (codes "out_dir") (codes ".")
    ∷ text_parameter n (codes "IO") (codes "out_vars") []
    ∷ int_parameter n (codes "IO") (codes "out_every") (negsuc 0) (pos 1000000) (codes "1")
    ∷ []

abbrev pub checkpoint_parameters : ℕ → List Param
checkpoint_parameters n =
    int_parameter n (codes "IO") (codes "checkpoint_every") (negsuc 0) (pos 1000000) (codes "-1")
    ∷ int_parameter n (codes "IO") (codes "checkpoint_keep") (pos 1) (pos 7) (codes "1")
    ∷ flag_parameter n (codes "IO") (codes "checkpoint_on_terminate") (codes "no")
    ∷ text_parameter n (codes "IO") (codes "checkpoint_dir") (codes ".")
    ∷ []

abbrev pub recover_parameter : ℕ → Param
recover_parameter n =
    parameter n (codes "IO") Keyword (codes "recover")
    (Word (codes "no") ∷ Word (codes "auto") ∷ Word (codes "autoprobe") ∷ []) (codes "no")

abbrev pub recover_parameters : ℕ → List Param
recover_parameters n =
    text_parameter n (codes "IO") (codes "recover_dir") (codes ".")
    ∷ recover_parameter n
    ∷ flag_parameter n (codes "IO") (codes "checkpoint_ID") (codes "no")
    ∷ []

abbrev pub steer_parameters : ℕ → List Param
steer_parameters n = text_parameter n (codes "IO") (codes "steer_file") [] ∷ []

abbrev pub balance_parameters : ℕ → List Param
balance_parameters n =
    flag_parameter n (codes "driver") (codes "balance") (codes "no")
    ∷ text_parameter n (codes "driver") (codes "weight") []
    ∷ int_parameter n (codes "driver") (codes "weight_factor") (pos 0) (pos 1048576) (codes "1")
    ∷ []

abbrev pub driver_parameters : ℕ → List Param
driver_parameters n =
    grid_parameters n
    ++ (ghost_parameters n ++ (periodic_parameters n
    ++ (part_parameters n ++ (width_parameters n ++ turn_parameters n))))

abbrev pub io_parameters : ℕ → List Param
io_parameters n =
    output_parameters n
    ++ (checkpoint_parameters n ++ (recover_parameters n ++ steer_parameters n))

-- all built-in parameters, for so many thorns
abbrev pub table : ℕ → List Param
table n =
    cactus_parameters n ++ (driver_parameters n ++ (io_parameters n ++ balance_parameters n))
