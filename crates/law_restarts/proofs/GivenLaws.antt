-- Settings that differ only in starred parameters give all others the same.
use Rattle.std.proofs.Common.{◌≡◌, refl, sym, ◌∙◌, ap, ℕ, Bool, true, false, true≢false, not, ◌&&◌, eqb, List, [], ◌∷◌, ◌++◌, map, filter, find, position, codes, slice_get, Option, Some, None, arith, if◌then◌else◌}
use Rattle.std.specs.List.{flat_map}
use Rattle.std.specs.Option.{option_map, option_and_then, option_or, unwrap_or}
use Rattle.std.proofs.lemmas.List.Folds.{find-append}
use Rattle.std.proofs.lemmas.Option.{slice_get-map}
use Rattle.cx_text.specs.Lexemes.{same_name, among}
use Rattle.cx_parfile.specs.declared.settings.Setting.{Setting}
use Rattle.cx_bind.specs.declared.thorns.Thorn.{Thorn}
use Rattle.cx_bind.specs.declared.thorns.Param.{Param}
use Rattle.cx_bind.specs.BuiltIn.{starred}
use Rattle.cx_values.specs.declared.values.Given.{Given}
use Rattle.cx_values.specs.declared.values.Slot.{Slot}
use Rattle.cx_values.specs.declared.values.Values.{Values}
use Rattle.cx_values.specs.Spelling.{held_by}
use Rattle.cx_values.specs.Faults.{default_text}
use Rattle.cx_values.specs.Naming.{Names, element, target_in, target_at}
use Rattle.cx_values.specs.Special.{checkpoint_dir}
use Rattle.cx_values.specs.Assigned.{slot, given_of, given_at, given_by, is_given, held_in, held_at, holds, held_named, assigned_by}
use Rattle.cx_order_entries.proofs.OnceLaws.{name_same, any-agree, position-map}
use Rattle.law_restarts.specs.Settings.{is_starred, is_starred_at, sets_starred_by, others_by}
use Rattle.law_restarts.proofs.ListLaws.{not_same, none_of, positioned}
use Rattle.cx_parfile.specs.Printed.{without_line}
use Rattle.cx_plan.specs.Names.{with_owner}

-- names that are the same are starred alike
pub starred_alike : (a b : List ℕ) → same_name a b ≡ true → among starred a ≡ among starred b
starred_alike a b e = any-agree (same_name a) (same_name b) (λ z. name_same.agree a b z e) starred

-- ---- what settings give a parameter that isn't starred

module _ (ps : List Param) (nm : Names) (n : ℕ) (plain : is_starred (slice_get ps n) ≡ false) where
  module _ (k : ℕ) where
    abbrev test : Given → Bool
    test = is_given n k

    apart : (m : ℕ) → is_starred (slice_get ps m) ≡ true → eqb m n ≡ false
    apart m star = not_same m n
        (λ e. true≢false (sym star ∙ ap (λ i. is_starred (slice_get ps i)) e ∙ plain))

    module _ (s : Setting) where
      at_slot : (m j : ℕ) → is_starred (slice_get ps m) ≡ true → (q : Option Param)
          → find test (given_of s.value (Some (m, j)) q) ≡ None
      at_slot m j star None = refl
      at_slot m j star (Some p) =
          let g : Given = record {
            parameter = m;
            element = j;
            held = held_by p.decl.ptype p.ranges s.value;
          } in
          ap (λ b. if b && eqb j k then Some g else None) (apart m star)

      at_element : (m : ℕ) → is_starred (slice_get ps m) ≡ true → (i : Option ℕ)
          → find test (given_at ps s.value (option_map (λ j. (m, j)) i)) ≡ None
      at_element m star None = refl
      at_element m star (Some j) = at_slot m j star (slice_get ps m)

      at_parameter : (m : ℕ) → is_starred (slice_get ps m) ≡ true → (q : Option Param)
          → find test (given_at ps s.value (target_in s.index m q)) ≡ None
      at_parameter m star None = refl
      at_parameter m star (Some p) = at_element m star (element p.decl.length s.index)

      at_name : (o : Option ℕ) → is_starred_at ps o ≡ true
          → find test (given_at ps s.value (option_and_then (target_at ps s.index) o)) ≡ None
      at_name None star = refl
      at_name (Some m) star = at_parameter m star (slice_get ps m)

      none_given : sets_starred_by ps nm s ≡ true → find test (given_by ps nm s) ≡ None
      none_given star = at_name (nm (with_owner s.owner s.name)) star

    one_more : (s : Setting) (rest others : List Setting) (b : Bool) → sets_starred_by ps nm s ≡ b
        → find test (flat_map (given_by ps nm) rest)
        ≡ find test (flat_map (given_by ps nm) (map without_line others))
        → find test (given_by ps nm s ++ flat_map (given_by ps nm) rest)
        ≡ find test (flat_map (given_by ps nm)
        (map without_line (if not b then s ∷ others else others)))
    one_more s rest others true star later =
        find-append test (given_by ps nm s) (flat_map (given_by ps nm) rest)
        ∙ ap (λ o. option_or o (find test (flat_map (given_by ps nm) rest))) (none_given s star)
        ∙ later
    one_more s rest others false star later =
        find-append test (given_by ps nm s) (flat_map (given_by ps nm) rest)
        ∙ ap (λ o. option_or (find test (given_by ps nm s)) o) later
        ∙ sym (find-append test (given_by ps nm s)
        (flat_map (given_by ps nm) (map without_line others)))

    given_others : (settings : List Setting)
        → find test (flat_map (given_by ps nm) settings)
        ≡ find test (flat_map (given_by ps nm) (others_by ps nm settings))
    given_others [] = refl
    given_others (s ∷ rest) =
        one_more s rest (filter (λ s. not (sets_starred_by ps nm s)) rest) (sets_starred_by ps nm s)
        refl (given_others rest)

-- ---- what it holds

not_folder : (full : List ℕ) → among starred full ≡ false
    → same_name full (codes "IO::recover_dir") ≡ false
not_folder full none = none_of (same_name full) starred 12 [] none (omega arith)

default_same : (a b text : List ℕ) (t : Bool) → t ≡ false
    → (if t then a else text) ≡ (if t then b else text)
default_same a b text true e = absurd (true≢false e)
default_same a b text false e = refl

slot_same : (a b : List ℕ) (p : Param) → among starred p.full ≡ false → slot a p ≡ slot b p
slot_same a b p none =
    ap (λ text. to_slot text)
    (default_same a b (default_text p.decl) (same_name p.full (codes "IO::recover_dir"))
    (not_folder p.full none))
  where
    to_slot : List ℕ → Slot
    to_slot text = record {
      full = p.full;
      length = p.decl.length;
      default = held_by p.decl.ptype p.ranges text;
    }

module _ (ps : List Param) (nm : Names) (thorns : List Thorn) (one other : List Setting)
    (same : others_by ps nm one ≡ others_by ps nm other) where
  abbrev a : Values
  a = assigned_by ps nm thorns one

  abbrev b : Values
  b = assigned_by ps nm thorns other

  given_same : (n k : ℕ) → is_starred (slice_get ps n) ≡ false
      → find (is_given n k) a.given ≡ find (is_given n k) b.given
  given_same n k plain =
      given_others ps nm n plain k one
      ∙ ap (λ ss. find (is_given n k) (flat_map (given_by ps nm) ss)) same
      ∙ sym (given_others ps nm n plain k other)

  module _ (n : ℕ) (index : Option ℕ) (plain : is_starred (slice_get ps n) ≡ false) where
    element_same : (s : Slot) (o : Option ℕ)
        → option_map (held_in a.given n s) o ≡ option_map (held_in b.given n s) o
    element_same s None = refl
    element_same s (Some k) =
        ap (λ g. Some (unwrap_or (option_map (λ g. g.held) g) s.default)) (given_same n k plain)

    slots_same : (o : Option Param) → is_starred o ≡ false
        → held_at a.given index n (option_map (slot (checkpoint_dir ps nm one)) o)
        ≡ held_at b.given index n (option_map (slot (checkpoint_dir ps nm other)) o)
    slots_same None none = refl
    slots_same (Some p) none =
        element_same (slot (checkpoint_dir ps nm one) p) (element p.decl.length index)
        ∙ ap (λ s. held_at b.given index n (Some s))
        (slot_same (checkpoint_dir ps nm one) (checkpoint_dir ps nm other) p none)

    -- a parameter that isn't starred, by its number
    pub holds_same : holds a index n ≡ holds b index n
    holds_same =
        ap (λ s. held_at a.given index n s) (slice_get-map (slot (checkpoint_dir ps nm one)) ps n)
        ∙ slots_same (slice_get ps n) plain
        ∙ sym (ap (λ s. held_at b.given index n s)
        (slice_get-map (slot (checkpoint_dir ps nm other)) ps n))

  module _ (full : List ℕ) (index : Option ℕ) (none : among starred full ≡ false) where
    by_place : (o : Option ℕ) → position (λ (p : Param). same_name p.full full) ps ≡ o
        → option_and_then (holds a index) o ≡ option_and_then (holds b index) o
    by_place None e = refl
    by_place (Some n) e =
        let at = positioned (λ (p : Param). same_name p.full full) ps n e in
        holds_same n index (ap is_starred at.1 ∙ starred_alike at.0.full full at.2 ∙ none)

    -- and by its full name
    pub named_same : held_named a full index ≡ held_named b full index
    named_same =
        ap (option_and_then (holds a index))
        (position-map (λ (s : Slot). same_name s.full full) (slot (checkpoint_dir ps nm one))
        ps)
        ∙ by_place (position (λ (p : Param). same_name p.full full) ps) refl
        ∙ sym (ap (option_and_then (holds b index))
        (position-map (λ (s : Slot). same_name s.full full) (slot (checkpoint_dir ps nm other))
        ps))
