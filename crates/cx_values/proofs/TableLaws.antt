-- Tables beside lists, one element more at a time.
use Rattle.std.proofs.Common.{◌≡◌, refl, sym, ◌∙◌, ap, ℕ, ◌+◌, ◌<◌, ◌==◌, Bool, true, false, cond, ◌&&◌, List, [], ◌∷◌, ◌++◌, length, take, get_or, find, Option, Some, None, is_some, arith}
use Rattle.std.proofs.lemmas.Bool.{eqb-true, and_parts}
use Rattle.std.proofs.lemmas.List.{length-take-le}
use Rattle.std.specs.Option.{option_map}
use Rattle.cx_text.specs.Lexemes.{same_name}
use Rattle.cx_plan.specs.Lists.{or_else}
use Rattle.cx_bind.specs.NamePlaces.{place_of}
use Rattle.cx_values.specs.declared.values.Slot.{Slot}
use Rattle.cx_values.specs.declared.values.Given.{Given}
use Rattle.cx_values.specs.declared.values.Use.{Use}
use Rattle.cx_values.specs.Naming.{Naming, Adds, named_in}
use Rattle.cx_values.specs.Assigned.{is_given, used_as}
use Rattle.cx_values.specs.Tables.{slot_named, given_place, ElementPlaces, element_place, Notes, FindsSlots, FindsUses, FindsGiven}
use Rattle.cx_values.proofs.NameLaws.{Table}
use Rattle.cx_values.proofs.Along.{taken}
use Rattle.cx_values.proofs.Firsts.{place_push, joined, kept}

-- ---- tables of names

abbrev place : Naming → ℕ
place n = n.1

one_named : (b : Bool) (n : Naming)
    → option_map place (cond b (Some n) None) ≡ cond b (Some n.1) None
one_named true n = refl
one_named false n = refl

pub slot_more : (slots : List Slot) (k : ℕ) (s : Slot) (full : List ℕ) (old new : Table)
    → k < length slots → s ≡ get_or slots k s → full ≡ s.full → FindsSlots (take k slots) old
    → Adds ((full, k) ∷ []) old new → FindsSlots (take (k + 1) slots) new
slot_more slots k s full old new within at same before after = λ name.
    let had : length (take k slots) ≡ k = length-take-le k slots (omega (arith, within)) in
    after name
    ∙ ap (λ f. or_else (place_of old name) (named_in ((f, k) ∷ []) name)) same
    ∙ ap (λ o. or_else o (named_in ((s.full, k) ∷ []) name)) (before name)
    ∙ ap (λ o. or_else (slot_named (take k slots) name) o)
    (one_named (same_name s.full name) (s.full, k))
    ∙ ap (λ n. or_else (slot_named (take k slots) name)
    (cond (same_name s.full name) (Some n) None)) (sym had)
    ∙ sym (place_push (λ s. same_name s.full name) (take k slots) s)
    ∙ ap (λ part. slot_named part name) (sym (taken slots k s within at))

last_used : (b : Bool) (u : Use)
    → option_map (λ u. u.parameter) (cond b (Some u) None)
    ≡ option_map place (cond b (Some (u.name, u.parameter)) None)
last_used true u = refl
last_used false u = refl

one_used : (b : Bool) (v : Use) (o p : Option Use) (q : Option ℕ)
    → option_map (λ u. u.parameter) o ≡ or_else (option_map (λ u. u.parameter) p) q
    → option_map (λ u. u.parameter) (cond b (Some v) o)
    ≡ or_else (option_map (λ u. u.parameter) (cond b (Some v) p)) q
one_used true v o p q h = refl
one_used false v o p q h = h

used_push : (name : List ℕ) (us : List Use) (u : Use)
    → used_as name (us ++ u ∷ [])
    ≡ or_else (used_as name us) (named_in ((u.name, u.parameter) ∷ []) name)
used_push name [] u = last_used (same_name u.name name) u
used_push name (v ∷ us) u =
    one_used (same_name v.name name) v (find (λ u. same_name u.name name) (us ++ u ∷ []))
    (find (λ u. same_name u.name name) us) (named_in ((u.name, u.parameter) ∷ []) name)
    (used_push name us u)

pub use_more : (uses : List Use) (k : ℕ) (u : Use) (used : List ℕ) (old new : Table)
    → k < length uses → u ≡ get_or uses k u → used ≡ u.name → FindsUses (take k uses) old
    → Adds ((used, u.parameter) ∷ []) old new → FindsUses (take (k + 1) uses) new
use_more uses k u used old new within at same before after = λ name.
    after name
    ∙ ap (λ n. or_else (place_of old name) (named_in ((n, u.parameter) ∷ []) name)) same
    ∙ ap (λ o. or_else o (named_in ((u.name, u.parameter) ∷ []) name)) (before name)
    ∙ sym (used_push name (take k uses) u)
    ∙ ap (λ part. used_as name part) (sym (taken uses k u within at))

-- ---- tables of elements

module _ (old : ElementPlaces) (key : ℕ × ℕ) where
  its_own : (n k : ℕ) → (key.0 == n && key.1 == k) ≡ true
      → element_place old n k ≡ element_place old key.0 key.1
  its_own n k h =
      let both = and_parts (key.0 == n) (key.1 == k) h in
      ap (λ m. element_place old m k) (sym (eqb-true key.0 n both.0))
      ∙ ap (λ m. element_place old key.0 m) (sym (eqb-true key.1 k both.1))

  pub notes_known : (place : ℕ) → is_some (element_place old key.0 key.1) ≡ true
      → Notes key place old old
  notes_known place there =
      λ n k. kept (element_place old n k) (key.0 == n && key.1 == k) place
      (λ h. ap (λ o. is_some o) (its_own n k h) ∙ there)

  pub notes_new : (place : ℕ) (new : ElementPlaces) → element_place old key.0 key.1 ≡ None
      → ((n k : ℕ) → element_place new n k
      ≡ cond (key.0 == n && key.1 == k) (Some place) (element_place old n k))
      → Notes key place old new
  notes_new place new none is =
      λ n k. is n k ∙ joined (element_place old n k) (key.0 == n && key.1 == k) place
      (λ h. its_own n k h ∙ none)

pub given_more : (given more : List Given) (one : Given) (place : ℕ) (old new : ElementPlaces)
    → FindsGiven given old → place ≡ length given → Notes (one.parameter, one.element) place old new
    → more ≡ given ++ one ∷ [] → FindsGiven more new
given_more given more one place old new before at after is = λ n k.
    after n k
    ∙ ap (λ p. or_else (element_place old n k) (cond (is_given n k one) (Some p) None)) at
    ∙ ap (λ o. or_else o (cond (is_given n k one) (Some (length given)) None)) (before n k)
    ∙ sym (place_push (is_given n k) given one)
    ∙ ap (λ all. given_place all n k) (sym is)
