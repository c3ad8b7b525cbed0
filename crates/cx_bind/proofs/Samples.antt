-- Thorns for worked rows.
use Rattle.std.specs.Prelude.{ℕ, true, pos, negsuc, List, [], ◌∷◌, codes, Some, None}
use Rattle.cx_text.specs.declared.ctype.CType.TheVariants.{Byte, Int}
use Rattle.cx_iface.specs.declared.tree.Access.{Access}
use Rattle.cx_iface.specs.declared.tree.Access.TheVariants.{Public}
use Rattle.cx_iface.specs.declared.tree.GType.TheVariants.{Gf, Scalar}
use Rattle.cx_iface.specs.declared.tree.Group.{Group}
use Rattle.cx_param.specs.declared.ranges.Range.{Range}
use Rattle.cx_param.specs.declared.ranges.Range.TheVariants.{Ints}
use Rattle.cx_param.specs.declared.declarations.PType.{PType}
use Rattle.cx_param.specs.declared.declarations.PType.TheVariants as ptypes
use Rattle.cx_param.specs.declared.declarations.Scope.{Scope}
use Rattle.cx_param.specs.declared.declarations.Scope.TheVariants.{Restricted}
use Rattle.cx_param.specs.declared.declarations.Steer.TheVariants.{Never}
use Rattle.cx_param.specs.declared.declarations.ParamDecl.{ParamDecl}
use Rattle.cx_conf.specs.declared.configuration.Configuration.{Configuration}
use Rattle.cx_bind.specs.declared.thorns.Thorn.{Thorn}

abbrev pub nothing_configured : Configuration
nothing_configured = record { provides = []; requires_ = []; thorns = []; optional = [] }

abbrev pub decl : Scope → PType → List ℕ → List Range → ParamDecl
decl scope ptype name ranges =
    record {
      scope = scope;
      ptype = ptype;
      name = name;
      length = None;
      alias = None;
      steer = Never;
      ranges = ranges;
      default = None;
    }

abbrev pub scalar_group : Access → List ℕ → List (List ℕ) → Group
scalar_group access name variables =
    record {
      access = access;
      ctype = Int;
      name = name;
      copies = None;
      gtype = Scalar;
      dim = 3;
      levels = 1;
      rest = [];
      variables = variables;
      text = [];
    }

abbrev pub grid_group : Access → List ℕ → ℕ → List (List ℕ) → Group
grid_group access name dim variables =
    record {
      access = access;
      ctype = Byte;
      name = name;
      copies = None;
      gtype = Gf;
      dim = dim;
      levels = 1;
      rest = [];
      variables = variables;
      text = [];
    }

abbrev pub thorn : List ℕ → List ℕ → List (List ℕ) → List Group → List ParamDecl → Thorn
thorn name implements inherits groups params =
    record {
      arrangement = codes "Integer";
      name = name;
      interface = record {
        implements = implements;
        inherits = inherits;
        friends = [];
        groups = groups;
        others = [];
      };
      params = params;
      conf = nothing_configured;
    }

abbrev pub elem_ca : Thorn
elem_ca =
    thorn (codes "ElemCA") (codes "ca") []
    (grid_group Public (codes "cells") 1 (codes "cell" ∷ [])
    ∷ scalar_group Public (codes "counts") (codes "live" ∷ []) ∷ [])
    (decl Restricted ptypes.Int (codes "rule")
    (Ints (Some (pos 0)) true (Some (pos 255)) true 1 ∷ [])
    ∷ decl Restricted ptypes.Int (codes "start") (Ints (Some (pos 0)) true None true 1 ∷ [])
    ∷ decl Restricted ptypes.Int (codes "seed")
    (Ints (Some (negsuc 0)) true (Some (negsuc 0)) true 1 ∷ Ints (Some (pos 0)) true None true 1
    ∷ [])
    ∷ [])
