-- How a `List` holds its values, so that a type may reach itself through one: its shape is the list
-- of their shapes.
use mathlib.Core.Path.{◌≡◌, refl, sym}
use mathlib.Core.List.{List as ListOf, []}
use mathlib.Core.Former.{Former, this, list, via, children}
use base.Stored.{code_map}
use denote.RattleType.{RattleType}
use denote.HoleLaws.{Alike}
use denote.HolePlaces.{Recodes, struct_places, laid}
use denote.Hole.Carrier.{listed, list-listed}
use denote.Hole.Fix.{over}
use denote.Param.Weighed.{Weighed, w_list}
use denote.Model.Placed.{view_places}
use Rattle.std.specs.formers.vec.Vec as vec
use Rattle.std.specs.declared.alloc.Global.{Global}
use Rattle.std.specs.contracts.alloc.Global as heap
use Rattle.std.specs.contracts.impls.GlobalAllocator.TheImpl.{ghosts}
use Rattle.cx_text.specs.declared.list.List.TheInside.{Inside}
use Rattle.cx_text.specs.declared.list.List.TheView.{view, invariant}
use Rattle.cx_text.specs.contracts.list.List as L
use Rattle.cx_text.specs.contracts.list.List.TheInside as V

-- its values are those of a list
abbrev pub the_former : Former {0} → Former {0}
the_former g = list g

abbrev pub the_weighed : {g : Former {0}} → Weighed g → Weighed (the_former g)
the_weighed w = w_list w

-- it may hold none
pub the_empty : ListOf ⊥
the_empty = []

abbrev pub the_items : (X : Type 0) → ListOf X → ListOf X
the_items X values = values

pub the_items_listed : (X : Type 0) (values : ListOf X)
    → listed _ (children (the_former this) X values) ≡ the_items X values
the_items_listed X values = list-listed X values

-- the one field holds them as a `Vec` does
abbrev in_field : Former {0}
in_field = via (vec.the_former this Global) Inside (λ X whole. whole.items)
    (λ X field. record { items = field }) (λ X whole. refl) (λ X field. refl)

module _ (R S : RattleType) (h : R.Denot → S.Denot) where
  pub the_places : Alike R S h
      → Alike (L.the_row R) (L.the_row S) ((the_former this).map R.Denot S.Denot h)
  the_places alike =
      view_places in_field (list this) view (λ X Y k u. refl) (λ X u. refl) R.Denot S.Denot h
      (L.the_row R).coded (L.the_row S).coded
      (invariant R.Denot) (invariant S.Denot) (λ u p q. refl) (λ u p q. refl) (λ u e. tt)
      (λ u e. tt)
      (over (V.the_row R)) (over (V.the_row S))
      (struct_places (V.the_type R) (V.the_type S) (vec.mapped h, tt) _ (λ d. refl) refl
      (laid _ _ _ (vec.the_places heap.the_row ghosts R S h alike), tt))

  pub the_codes_placed : Recodes R S h
      → Recodes (L.the_row R) (L.the_row S) ((the_former this).map R.Denot S.Denot h)
  the_codes_placed recodes values =
      sym (code_map R.coded.code S.coded.code h (λ x. sym (recodes x)) values)
