-- Items matched with the routines that are handed in.
use Rattle.std.specs.Prelude.{ℕ, ◌+◌, ◌-◌, ◌==◌, nat_lt, Bool, ◌&&◌, ℤ, List, [], ◌∷◌, ◌++◌, map, length, take, drop, position, codes, slice_get, slice_index_or, Option, Some, None, option_map, is_none, Result, Ok, Err, if◌then◌else◌}
use Rattle.std.specs.List.{list_all, list_any, flat_map, enumerate_from}
use Rattle.cx_text.specs.Lexemes.{same_name, among}
use Rattle.cx_plan.specs.Lists.{all_ok}
use Rattle.cx_plan.specs.Regions.{same_region}
use Rattle.cx_plan.specs.declared.variable.VarId.{VarId}
use Rattle.cx_plan.specs.declared.item.Region.{Region}
use Rattle.cx_plan.specs.declared.item.Touch.{Touch}
use Rattle.cx_plan.specs.declared.item.Item.{Item}
use Rattle.cx_plan.specs.declared.item.ItemKind.{ItemKind}
use Rattle.cx_sched.specs.declared.tree.Ref.{Ref}
use Rattle.cx_bind.specs.BuiltIn.{starred}
use Rattle.cx_bind.specs.declared.thorns.Thorn.{Thorn}
use Rattle.cx_scope.specs.declared.fault.ScopeFault.{ScopeFault}
use Rattle.cx_values.specs.declared.values.Values.{Values}
use Rattle.cx_values.specs.Assigned.{number}
use Rattle.cx_text.specs.Digits.{natural_in}
use Rattle.cx_order.specs.Meanings.{World, Levels, meant}
use Rattle.cx_plan.specs.Names.{region_text}
use Rattle.cx_order.specs.Texts.{touch_text, touches_text}
use Rattle.cx_rule.specs.declared.spec.Spec.{Spec}
use Rattle.cx_rule.specs.declared.spec.Want.{Want}
use Rattle.cx_job_items.specs.declared.matching.Offer.{Offer}
use Rattle.cx_job_items.specs.declared.fault.MatchFault.{MatchFault}
use Rattle.cx_job_items.specs.declared.fault.MatchFault.TheVariants.{UnknownRoutine, RoutineMismatch}

-- ---- a name with its owner and its copy, from a text

abbrev pub byte_at : List ℕ → ℕ → ℕ
byte_at t k = slice_index_or t k 0

abbrev pub ref_of : Option (List ℕ) → List ℕ → Option ℕ → Ref
ref_of owner name copy = record { owner = owner; name = name; copy = copy }

-- what stands between a bracket at a place and one at the end
abbrev pub in_brackets : List ℕ → ℕ → List ℕ
in_brackets t k = take (length t - k - 2) (drop (k + 1) t)

-- the greatest number of a copy
abbrev pub most_copies : ℕ
most_copies = 4294967295

-- The number of a copy; none where the text doesn't end with its bracket.
abbrev pub copy_at : List ℕ → ℕ → Option ℕ
copy_at t k = if byte_at t (length t - 1) == 93 then natural_in most_copies (in_brackets t k)
    else None

abbrev pub ref_by : Option (List ℕ) → List ℕ → ℕ → Option ℕ → Ref
ref_by owner t k None = ref_of owner t None
ref_by owner t k (Some copy) = ref_of owner (take k t) (Some copy)

-- a name whose bracket isn't that of a copy stands whole, and is that of no variable
abbrev pub with_copy : Option (List ℕ) → List ℕ → Option ℕ → Ref
with_copy owner t None = ref_of owner t None
with_copy owner t (Some k) = ref_by owner t k (copy_at t k)

abbrev pub bracket : List ℕ → Option ℕ
bracket t = position (λ b. b == 91) t

abbrev pub owned : Option (List ℕ) → List ℕ → Ref
owned owner t = with_copy owner t (bracket t)

abbrev pub with_owner : List ℕ → Option ℕ → Ref
with_owner t None = owned None t
with_owner t (Some k) = if byte_at t (k + 1) == 58 then owned (Some (take k t)) (drop (k + 2) t)
    else owned None t

abbrev pub ref_in : List ℕ → Ref
ref_in t = with_owner t (position (λ b. b == 58) t)

-- ---- what a Spec's names mean to the thorn of an item

-- the place of a thorn's name among the bound thorns
abbrev pub thorn_number : List Thorn → List ℕ → Option ℕ
thorn_number thorns name = position (λ t. same_name t.name name) thorns

abbrev pub only_level : Result Levels ScopeFault → Option (VarId × ℕ)
only_level (Err e) = None
only_level (Ok []) = None
only_level (Ok (l ∷ [])) = Some l
only_level (Ok (l ∷ m ∷ rest)) = None

-- the one level that a name means
abbrev pub level_of : World → Option ℕ → List ℕ → Option (VarId × ℕ)
level_of w None name = None
level_of w (Some t) name = only_level (meant w t (ref_in name))

abbrev pub touch_by : Want → Option (VarId × ℕ) → Option Touch
touch_by want None = None
touch_by want (Some l) =
    Some (record { var = l.0; level = l.1; region = want.region; reach = want.reach })

abbrev pub touch_of : World → Option ℕ → Want → Option Touch
touch_of w t want = touch_by want (level_of w t want.name)

-- the number of a parameter; a starred one counts as one without a number
abbrev pub param_number : Values → List ℕ → Option ℤ
param_number v name = if among starred name then None else number v name None

-- ---- comparing

-- one variable, level and region, whatever the reach
abbrev pub same_touch : Touch → Touch → Bool
same_touch a b = a.var.0 == b.var.0 && (a.level == b.level && same_region a.region b.region)

abbrev pub all_among : List Touch → List Touch → Bool
all_among xs ys = list_all (λ x. list_any (same_touch x) ys) xs

-- as sets
abbrev pub same_touches : List Touch → List Touch → Bool
same_touches xs ys = all_among xs ys && all_among ys xs

-- ---- what a mismatch prints

abbrev pub named_text : List ℕ → Region → List ℕ
named_text name region = codes " " ++ name ++ codes "(" ++ region_text region ++ codes ")"

-- a name that means no one level stands as it is
abbrev pub want_text : World → Want → Option Touch → List ℕ
want_text w want None = named_text want.name want.region
want_text w want (Some x) = touch_text w x

abbrev pub wants_text : List ℕ → World → Option ℕ → List Want → List ℕ
wants_text word w t [] = []
wants_text word w t (x ∷ xs) =
    word ++ flat_map (λ want. want_text w want (touch_of w t want)) (x ∷ xs)

abbrev pub lacks_number : Values → List ℕ → Bool
lacks_number v name = is_none (param_number v name)

abbrev pub param_text : Values → List ℕ → List ℕ
param_text v name = if lacks_number v name then codes " " ++ name else []

-- the parameters without a number
abbrev pub params_text : Values → List (List ℕ) → List ℕ
params_text v names = if list_any (lacks_number v) names
    then codes " params" ++ flat_map (param_text v) names else []

-- without the blank at the beginning
abbrev pub enclosed : List ℕ → List ℕ
enclosed parts = codes "(" ++ drop 1 parts ++ codes ")"

abbrev pub declared_text : World → Item → List ℕ
declared_text w x = enclosed
    (touches_text (codes " reads") w x.reads ++ touches_text (codes " writes") w x.writes)

abbrev pub offered_text : World → Values → Option ℕ → Spec → List ℕ
offered_text w v t s =
    enclosed (wants_text (codes " reads") w t s.reads ++ wants_text (codes " writes") w t s.writes
    ++ params_text v s.params)

-- ---- matching

abbrev pub with_first : {X : Type 0} → Option X → Option (List X) → Option (List X)
with_first None others = None
with_first (Some x) None = None
with_first (Some x) (Some xs) = Some (x ∷ xs)

-- all of them, if each is there
abbrev pub all_some : {X : Type 0} → List (Option X) → Option (List X)
all_some [] = Some []
all_some (o ∷ os) = with_first o (all_some os)

abbrev pub touches_of : World → Option ℕ → List Want → Option (List Touch)
touches_of w t wants = all_some (map (touch_of w t) wants)

abbrev pub numbers_of : Values → List (List ℕ) → Option (List ℤ)
numbers_of v names = all_some (map (param_number v) names)

abbrev pub offer_by : Option (List Touch) → Option (List Touch) → Option (List ℤ) → Option Offer
offer_by (Some reads) (Some writes) (Some params) =
    Some (record { reads = reads; writes = writes; params = params })
offer_by None writes params = None
offer_by (Some reads) None params = None
offer_by (Some reads) (Some writes) None = None

-- what a routine reads and writes and the numbers of its parameters, if each of its names has a
-- meaning
abbrev pub offer : World → Values → Option ℕ → Spec → Option Offer
offer w v t s = offer_by (touches_of w t s.reads) (touches_of w t s.writes) (numbers_of v s.params)

abbrev pub fits : Item → Offer → Bool
fits x o = same_touches o.reads x.reads && same_touches o.writes x.writes

-- the item with its routine's number, kind, reads, writes and parameters, in the routine's order
abbrev pub completed : Item → ℕ → ItemKind → Offer → Item
completed x k kind o =
    record {
      thorn = x.thorn;
      name = x.name;
      path = x.path;
      kind = kind;
      routine = k;
      reads = o.reads;
      writes = o.writes;
      params = o.params;
    }

abbrev pub mismatch : World → Values → Option ℕ → Item → Spec → MatchFault
mismatch w v t x s = RoutineMismatch x.path (declared_text w x) (offered_text w v t s)

abbrev pub matched_by : World → Values → Option ℕ → Item → ℕ → Spec → Option Offer
    → Result Item MatchFault
matched_by w v t x k s None = Err (mismatch w v t x s)
matched_by w v t x k s (Some o) = if fits x o then Ok (completed x k s.kind o)
    else Err (mismatch w v t x s)

-- an item with a routine by its number
abbrev pub matched_with : World → Values → Option ℕ → Item → ℕ → Spec → Result Item MatchFault
matched_with w v t x k s = matched_by w v t x k s (offer w v t s)

-- whether a routine is that of an item
abbrev pub is_for : Item → Spec → Bool
is_for x s = same_name s.thorn x.thorn && same_name s.name x.name

-- the first of the routines that is that of an item
abbrev pub routine_number : List Spec → Item → Option ℕ
routine_number specs x = position (is_for x) specs

abbrev pub spec_at : List Spec → Option ℕ → Option (ℕ × Spec)
spec_at specs None = None
spec_at specs (Some k) = option_map (λ s. (k, s)) (slice_get specs k)

abbrev pub with_routine : World → Values → Item → Option (ℕ × Spec) → Result Item MatchFault
with_routine w v x None = Err (UnknownRoutine x.path)
with_routine w v x (Some s) = matched_with w v (thorn_number w.thorns x.thorn) x s.0 s.1

abbrev pub matched : World → Values → List Spec → Item → Result Item MatchFault
matched w v specs x = with_routine w v x (spec_at specs (routine_number specs x))

-- Items of the bins that are run come first, and are matched; the others stay as they are.
abbrev pub matched_if_run : World → Values → List Spec → ℕ → ℕ × Item → Result Item MatchFault
matched_if_run w v specs run x = if nat_lt x.0 run then matched w v specs x.1 else Ok x.1

-- all of them, or the first fault
abbrev pub all_matched : World → Values → List Spec → ℕ → List Item → Result (List Item) MatchFault
all_matched w v specs run items =
    all_ok (map (matched_if_run w v specs run) (enumerate_from 0 items))
