-- Where settings have no fault, the number of a built-in parameter lies in its ranges.
use Rattle.std.proofs.Common.{◌≡◌, refl, sym, ◌∙◌, ap, subst, ℕ, Bool, true, false, ◌&&◌, ◌==◌, ℤ, List, [], ◌∷◌, ◌++◌, map, find, position, length, nat_lt, codes, slice_get, Option, Some, None, if◌then◌else◌}
use Rattle.std.specs.Option.{option_map, option_and_then, option_or, unwrap_or}
use Rattle.std.specs.List.{flat_map, position_or_len}
use Rattle.std.proofs.lemmas.List.Folds.{find-append}
use Rattle.std.proofs.lemmas.Bool.{eqb-true, lt-ltb}
use Rattle.std.proofs.lemmas.Option.{slice_get-map, slice_get_within}
use Rattle.cx_text.specs.Lexemes.{same_name}
use Rattle.cx_plan.specs.Lists.{first_of_each}
use Rattle.cx_param.specs.declared.declarations.PType.{PType}
use Rattle.cx_param.specs.declared.declarations.PType.TheVariants.{Int}
use Rattle.cx_param.specs.declared.ranges.Range.{Range}
use Rattle.cx_param.specs.declared.ranges.Value.{Value}
use Rattle.cx_param.specs.declared.ranges.Value.TheVariants.{Number, Text}
use Rattle.cx_param.specs.Ranges.{any_holds, allows}
use Rattle.cx_parfile.specs.declared.settings.Setting.{Setting}
use Rattle.cx_bind.specs.declared.thorns.Thorn.{Thorn}
use Rattle.cx_bind.specs.declared.thorns.Param.{Param}
use Rattle.cx_bind.specs.Parameters.{parameters}
use Rattle.cx_values.specs.declared.values.Held.{Held}
use Rattle.cx_values.specs.declared.values.Slot.{Slot}
use Rattle.cx_values.specs.declared.values.Given.{Given}
use Rattle.cx_values.specs.declared.values.Values.{Values}
use Rattle.cx_values.specs.Spelling.{number_in, spelled, held, held_by}
use Rattle.cx_values.specs.Naming.{Names, element, target_in, target_at, names}
use Rattle.cx_values.specs.Special.{is_misspelled, is_stated, checkpoint_dir}
use Rattle.cx_values.specs.Faults.{Seen, default_text, is_allowed, default_fault, spelled_fault, value_fault, element_fault, parameter_fault, named_fault, setting_fault, set_before, settings_fault, assign_fault}
use Rattle.cx_values.specs.Assigned.{slot, given_of, given_at, given_by, is_given, held_in, held_at, holds, number, assigned}
use Rattle.cx_job_values.proofs.NoneLaws.{no_some, some_none, some_same, first_none, second_none, passed, both_first, none_at}
use Rattle.cx_plan.specs.Names.{with_owner}

-- ---- what holds a number of some ranges

abbrev pub HoldsNumber : List Range → Held → Type 0
HoldsNumber ranges h = (n : ℤ) × (h.number ≡ Some n) × (any_holds ranges (Number n) ≡ true)

spelled_number : (ranges : List Range) (o : Option ℤ)
    → is_allowed ranges (option_map (λ n. Number n) o) ≡ true
    → HoldsNumber ranges (held Int ranges (unwrap_or (option_map (λ n. Number n) o) (Text [])))
spelled_number ranges None e = absurd cc
spelled_number ranges (Some n) e = (n, refl, e)

by_text : (ranges : List Range) (ptype : PType) (text : List ℕ) → ptype ≡ Int
    → is_allowed ranges (spelled ptype text) ≡ true → HoldsNumber ranges (held_by ptype ranges text)
by_text ranges ptype text int allowed =
    subst (λ t. HoldsNumber ranges (held_by t ranges text)) (sym int)
    (spelled_number ranges (number_in text)
    (subst (λ t. is_allowed ranges (spelled t text) ≡ true) int allowed))

by_value : (dir : List ℕ) (p : Param) (line : ℕ) (o : Option Value)
    → spelled_fault dir p line o ≡ None → is_allowed p.ranges o ≡ true
by_value dir p line None none = some_none none
by_value dir p line (Some v) none =
    both_first (allows p.ranges v) (is_stated dir p.full v)
    (passed (allows p.ranges v && is_stated dir p.full v) _ none)

spelled_right : {X : Type 0} (b : Bool) (x : X) (o : Option X) → (if b then Some x else o) ≡ None
    → o ≡ None
spelled_right true x o e = some_none e
spelled_right false x o e = e

by_setting : (dir : List ℕ) (p : Param) (line : ℕ) (text : List ℕ) → p.decl.ptype ≡ Int
    → value_fault dir p line text ≡ None → HoldsNumber p.ranges (held_by p.decl.ptype p.ranges text)
by_setting dir p line text int none =
    by_text p.ranges p.decl.ptype text int
    (by_value dir p line (spelled p.decl.ptype text)
    (spelled_right (is_misspelled p.full text) _
    (spelled_fault dir p line (spelled p.decl.ptype text)) none))

-- ---- what settings give one parameter

module _ (ps : List Param) (k : ℕ) (p : Param) (at : slice_get ps k ≡ Some p)
    (int : p.decl.ptype ≡ Int) (dir : List ℕ) where
  module _ (is_set : Seen) (s : Setting) (g : Given) where
    chosen : (n j : ℕ) (r : Param) → slice_get ps n ≡ Some r → (b : Bool) → (n == k && j == 0) ≡ b
        → value_fault dir r s.line s.value ≡ None
        → (if b
        then Some (record {
          parameter = n;
          element = j;
          held = held_by r.decl.ptype r.ranges s.value;
        }) else None) ≡ Some g → HoldsNumber p.ranges g.held
    chosen n j r there false here none found = no_some found
    chosen n j r there true here none found =
        let number : n ≡ k = eqb-true n k (both_first (n == k) (j == 0) here) in
        let same : r ≡ p = some_same r p (sym there ∙ ap (λ i. slice_get ps i) number ∙ at) in
        let held : held_by r.decl.ptype r.ranges s.value ≡ g.held =
        ap (λ (o : Option Given). unwrap_or (option_map (λ g. g.held) o) g.held) found in
        subst (λ h. HoldsNumber p.ranges h) held
        (subst (λ q. HoldsNumber p.ranges (held_by q.decl.ptype q.ranges s.value)) (sym same)
        (by_setting dir p s.line s.value int
        (subst (λ q. value_fault dir q s.line s.value ≡ None) same none)))

    at_element : (n : ℕ) (r : Param) → slice_get ps n ≡ Some r → (i : Option ℕ)
        → element_fault dir is_set s n r i ≡ None
        → find (is_given k 0) (given_at ps s.value (option_map (λ j. (n, j)) i)) ≡ Some g
        → HoldsNumber p.ranges g.held
    at_element n r there None none found = no_some found
    at_element n r there (Some j) none found =
        chosen n j r there (n == k && j == 0) refl
        (first_none (value_fault dir r s.line s.value) _ none)
        (sym (ap (λ q. find (is_given k 0) (given_of s.value (Some (n, j)) q)) there) ∙ found)

    at_parameter : (n : ℕ) (q : Option Param) → slice_get ps n ≡ q
        → parameter_fault dir is_set s n q ≡ None
        → find (is_given k 0) (given_at ps s.value (target_in s.index n q)) ≡ Some g
        → HoldsNumber p.ranges g.held
    at_parameter n None there none found = no_some found
    at_parameter n (Some r) there none found =
        at_element n r there (element r.decl.length s.index) none found

    at_name : (o : Option ℕ) → named_fault ps dir is_set s o ≡ None
        → find (is_given k 0) (given_at ps s.value (option_and_then (target_at ps s.index) o))
        ≡ Some g → HoldsNumber p.ranges g.held
    at_name None none found = no_some found
    at_name (Some n) none found = at_parameter n (slice_get ps n) refl none found

  module _ (nm : Names) where
    first_found : (before : List Setting) (s : Setting) (given : List Given) (g : Given)
        → setting_fault ps nm dir (set_before ps nm before) s ≡ None
        → (find (is_given k 0) given ≡ Some g → HoldsNumber p.ranges g.held) → (o : Option Given)
        → find (is_given k 0) (given_by ps nm s) ≡ o
        → option_or o (find (is_given k 0) given) ≡ Some g → HoldsNumber p.ranges g.held
    first_found before s given g none later None here found = later found
    first_found before s given g none later (Some h) here found =
        at_name (set_before ps nm before) s g (nm (with_owner s.owner s.name)) none (here ∙ found)

    in_settings : (before settings : List Setting) (g : Given)
        → settings_fault ps nm dir before settings ≡ None
        → find (is_given k 0) (flat_map (given_by ps nm) settings) ≡ Some g
        → HoldsNumber p.ranges g.held
    in_settings before [] g none found = no_some found
    in_settings before (s ∷ rest) g none found =
        first_found before s (flat_map (given_by ps nm) rest) g
        (first_none (setting_fault ps nm dir (set_before ps nm before) s) _ none)
        (in_settings (before ++ s ∷ []) rest g
        (second_none (setting_fault ps nm dir (set_before ps nm before) s) _ none))
        (find (is_given k 0) (given_by ps nm s)) refl
        (sym (find-append (is_given k 0) (given_by ps nm s) (flat_map (given_by ps nm) rest))
        ∙ found)

  -- ---- a default, and what is held

  module _ (own : p.decl.ranges ≡ p.ranges)
      (no_folder : same_name p.full (codes "IO::recover_dir") ≡ false)
      (sound : first_of_each default_fault ps ≡ None) where
    by_default : HoldsNumber p.ranges (slot dir p).default
    by_default =
        rw no_folder
        (by_text p.ranges p.decl.ptype (default_text p.decl) int
        (subst (λ ranges. is_allowed ranges (spelled p.decl.ptype (default_text p.decl)) ≡ true) own
        (passed (is_allowed p.decl.ranges (spelled p.decl.ptype (default_text p.decl))) _
        (none_at default_fault ps k p sound at))))

    held_from : (o : Option Given) → ((g : Given) → o ≡ Some g → HoldsNumber p.ranges g.held)
        → HoldsNumber p.ranges (unwrap_or (option_map (λ g. g.held) o) (slot dir p).default)
    held_from None given = by_default
    held_from (Some g) given = given g refl

-- ---- a built-in parameter that is a number

-- the parameter of a full name, which is one number, at its place in the table
pub record IsNumberAt (thorns : List Thorn) (full : List ℕ) (k : ℕ) (p : Param) : Type 0 where
  pub at : slice_get (parameters thorns) k ≡ Some p
  pub int : p.decl.ptype ≡ Int
  pub single : p.decl.length ≡ None
  pub own : p.decl.ranges ≡ p.ranges
  pub no_folder : same_name p.full (codes "IO::recover_dir") ≡ false
  pub named : (dir : List ℕ)
      → position_or_len (λ s. same_name s.full full) (map (slot dir) (parameters thorns)) ≡ k

abbrev pub IsNumberOf : List Range → Option ℤ → Type 0
IsNumberOf ranges o = (n : ℤ) × (o ≡ Some n) × (any_holds ranges (Number n) ≡ true)

placed : {X : Type 0} (p : X → Bool) (xs : List X) (k : ℕ) (x : X) → position_or_len p xs ≡ k
    → slice_get xs k ≡ Some x → position p xs ≡ Some k
placed p xs k x first there =
    ap (λ i. if nat_lt i (length xs) then Some i else None) first
    ∙ ap (λ b. if b then Some k else None) (lt-ltb k (length xs) (slice_get_within xs k x there))

number_from : (v : Values) (full : List ℕ) (k : ℕ) (s : Slot)
    → position (λ s. same_name s.full full) v.slots ≡ Some k → slice_get v.slots k ≡ Some s
    → s.length ≡ None → number v full None ≡ (held_in v.given k s 0).number
number_from v full k s named there single =
    ap (λ o. option_and_then (λ (h : Held). h.number) (option_and_then (holds v None) o)) named
    ∙ ap (λ o. option_and_then (λ (h : Held). h.number) (held_at v.given None k o)) there
    ∙ ap (λ l. option_and_then (λ (h : Held). h.number)
    (option_map (held_in v.given k s) (element l None))) single

pub in_ranges : (thorns : List Thorn) (settings : List Setting) (full : List ℕ) (k : ℕ) (p : Param)
    → IsNumberAt thorns full k p → assign_fault thorns settings ≡ None
    → IsNumberOf p.ranges (number (assigned thorns settings) full None)
unfolding assigned assign_fault
in_ranges thorns settings full k p is none =
    let ps : List Param = parameters thorns in
    let nm : Names = names thorns in
    let dir : List ℕ = checkpoint_dir ps nm settings in
    let given : List Given = flat_map (given_by ps nm) settings in
    let sound : first_of_each default_fault ps ≡ None =
    first_none (first_of_each default_fault ps) (settings_fault ps nm dir [] settings) none in
    let later : settings_fault ps nm dir [] settings ≡ None =
    second_none (first_of_each default_fault ps) (settings_fault ps nm dir [] settings) none in
    let good : HoldsNumber p.ranges (held_in given k (slot dir p) 0) =
    held_from ps k p is.at is.int dir is.own is.no_folder sound (find (is_given k 0) given)
    (λ g found. in_settings ps k p is.at is.int dir nm [] settings g later found) in
    let there : slice_get (map (slot dir) ps) k ≡ Some (slot dir p) =
    slice_get-map (slot dir) ps k ∙ ap (option_map (slot dir)) is.at in (
      good.0,
      number_from (assigned thorns settings) full k (slot dir p)
          (placed (λ s. same_name s.full full) (map (slot dir) ps) k (slot dir p) (is.named dir)
          there) there is.single ∙ good.1,
      good.2,
    )
