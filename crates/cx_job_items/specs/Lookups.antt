-- What the names of routines are looked up in.
use Rattle.std.specs.Prelude.{◌≡◌, ◌<◌, ℕ, List, map, length, Option, IfSome, Result}
use Rattle.cx_scope.specs.Closures.{thorns_in, sight_in}
use Rattle.cx_order.specs.Meanings.{World}
use Rattle.cx_plan.specs.declared.variable.VarId.{VarId}
use Rattle.cx_plan.specs.declared.item.Touch.{Touch}
use Rattle.cx_plan.specs.declared.item.Item.{Item}
use Rattle.cx_rule.specs.declared.spec.Spec.{Spec}
use Rattle.cx_rule.specs.declared.spec.Want.{Want}
use Rattle.cx_values.specs.declared.values.Values.{Values}
use Rattle.cx_order.specs.Texts as texts
use Rattle.cx_job_items.specs.declared.fault.MatchFault.{MatchFault}
use Rattle.cx_job_items.specs.declared.matching.Offer.{Offer}
use Rattle.cx_job_items.specs.Matching as matching
use Rattle.cx_job_items.specs.declared.lookup.Lookup.{Lookup}
use Rattle.cx_job_items.specs.declared.matching.Routines.{Routines}

abbrev pub world_of : Lookup → World
world_of l = record { thorns = l.bound.now; sight = sight_in l.scope.now; storage = l.storage.now }

-- the scope is that of the bound thorns
abbrev pub IsOfBound : Lookup → Type 0
IsOfBound l = thorns_in l.scope.now ≡ l.bound.now

-- the thorn is one of the bound ones, if it is there
abbrev pub HasThorn : Lookup → Type 0
HasThorn l = IfSome l.thorn (λ t. t < length l.bound.now)

-- ---- what names and wants mean in a look-up

abbrev pub level_in : Lookup → List ℕ → Option (VarId × ℕ)
level_in l name = matching.level_of (world_of l) l.thorn name

abbrev pub touch_in : Lookup → Want → Option Touch
touch_in l want = matching.touch_of (world_of l) l.thorn want

abbrev pub touches_in : Lookup → List Want → Option (List Touch)
touches_in l wants = matching.touches_of (world_of l) l.thorn wants

abbrev pub offer_in : Lookup → Values → Spec → Option Offer
offer_in l values spec = matching.offer (world_of l) values l.thorn spec

abbrev pub matched_with_in : Lookup → Values → Item → ℕ → Spec → Result Item MatchFault
matched_with_in l values x k spec = matching.matched_with (world_of l) values l.thorn x k spec

-- ---- and how they are printed

abbrev pub touch_text_in : Lookup → Touch → List ℕ
touch_text_in l touch = texts.touch_text (world_of l) touch

abbrev pub touches_text_in : Lookup → List ℕ → List Touch → List ℕ
touches_text_in l word touches = texts.touches_text word (world_of l) touches

abbrev pub want_text_in : Lookup → Want → List ℕ
want_text_in l want = matching.want_text (world_of l) want (touch_in l want)

abbrev pub wants_text_in : Lookup → List ℕ → List Want → List ℕ
wants_text_in l word wants = matching.wants_text word (world_of l) l.thorn wants

abbrev pub offered_text_in : Lookup → Values → Spec → List ℕ
offered_text_in l values spec = matching.offered_text (world_of l) values l.thorn spec

abbrev pub mismatch_in : Lookup → Values → Item → Spec → MatchFault
mismatch_in l values x spec = matching.mismatch (world_of l) values l.thorn x spec

-- ---- routines

abbrev pub world_in : Routines → World
world_in r = record { thorns = r.bound.now; sight = sight_in r.scope.now; storage = r.storage.now }

-- the scope is that of the bound thorns
abbrev pub IsBound : Routines → Type 0
IsBound r = thorns_in r.scope.now ≡ r.bound.now

-- what the routines say of themselves
abbrev pub specs_in : Routines → List Spec
specs_in r = map (λ s. s.now) r.specs.now

abbrev pub matched_in : Routines → Item → Result Item MatchFault
matched_in r x = matching.matched (world_in r) r.values.now (specs_in r) x

abbrev pub matched_if_run_in : Routines → ℕ → ℕ × Item → Result Item MatchFault
matched_if_run_in r run x = matching.matched_if_run (world_in r) r.values.now (specs_in r) run x

-- the items of bins that are run stand first, and are matched
abbrev pub matched_items_in : Routines → ℕ → List Item → Result (List Item) MatchFault
matched_items_in r run items = matching.all_matched (world_in r) r.values.now (specs_in r) run items
