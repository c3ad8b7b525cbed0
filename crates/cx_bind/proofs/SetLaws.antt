-- Names that are there again, by sets of names in small letters.
use Rattle.std.proofs.Common.{◌≡◌, refl, sym, ◌∙◌, ap, ℕ, ◌+◌, ◌<◌, Bool, true, false, ◌⊎◌, inl, inr, ◌||◌, ◌&&◌, List, [], ◌∷◌, ◌++◌, map, length, take, drop, get_or, Option, Some, None, if◌then◌else◌}
use Rattle.std.proofs.lemmas.List.{append-nil, append_assoc, map_push, take_more, drop_more}
use Rattle.std.specs.List.{list_any}
use Rattle.std.specs.Option.{option_map}
use Rattle.std.specs.Str.{bytes_eq}
use Rattle.cx_text.specs.Lexemes.{same_name}
use Rattle.cx_plan.specs.declared.variable.VarInfo.{VarInfo}
use Rattle.cx_plan.specs.Lists.{first_again_behind}
use Rattle.cx_bind.specs.declared.known.Known.{Known}
use Rattle.cx_bind.specs.Faults.{is_same_variable, clash}
use Rattle.cx_text.specs.Bytes.{folded}

pub any_mapped : {X Y : Type 0} (test : Y → Bool) (f : X → Y) (xs : List X)
    → list_any test (map f xs) ≡ list_any (λ x. test (f x)) xs
any_mapped test f [] = refl
any_mapped test f (x ∷ xs) = ap (λ b. test (f x) || b) (any_mapped test f xs)

-- whether a set whose keys are seen as names has a name
pub has_name : {V : Type 0} (v : V) (keys : List V) (items : V → List ℕ) (name : List ℕ)
    (names : List (List ℕ)) → items v ≡ folded name → names ≡ map items keys
    → list_any (λ k. bytes_eq (items v) (items k)) keys ≡ list_any (bytes_eq (folded name)) names
has_name v keys items name names key seen =
    sym (any_mapped (bytes_eq (items v)) items keys)
    ∙ ap (λ n. list_any (bytes_eq n) (map items keys)) key
    ∙ ap (λ ns. list_any (bytes_eq (folded name)) ns) (sym seen)

-- ---- the first that is there again, one step on

module _ {X F : Type 0} (same : X → X → Bool) (told : X → F) where
  pub passed : (before : List X) (x : X) (xs : List X) (b : Bool) → list_any (same x) before ≡ b
      → (if b then Some (told x) else None) ≡ None
      → first_again_behind same before (x ∷ xs) ≡ first_again_behind same (before ++ x ∷ []) xs
  passed before x xs true e h = absurd (cc)
  passed before x xs false e h = rw e refl

  pub met : (before : List X) (x : X) (xs : List X) (fault : F) (b : Bool)
      → list_any (same x) before ≡ b → (if b then Some (told x) else None) ≡ Some fault
      → option_map told (first_again_behind same before (x ∷ xs)) ≡ Some fault
  met before x xs fault true e h = rw e h
  met before x xs fault false e h = absurd (cc)

taken : {X : Type 0} (xs : List X) (k : ℕ) (x : X) → k < length xs → x ≡ get_or xs k x
    → take (k + 1) xs ≡ take k xs ++ x ∷ []
taken xs k x within at = take_more xs k x within ∙ ap (λ u. take k xs ++ u ∷ []) (sym at)

left_over : {X : Type 0} (xs : List X) (k : ℕ) (x : X) → k < length xs → x ≡ get_or xs k x
    → drop k xs ≡ x ∷ drop (k + 1) xs
left_over xs k x within at = drop_more xs k x within ∙ ap (λ u. u ∷ drop (k + 1) xs) (sym at)

-- ---- variables

abbrev pub variable_name : VarInfo → List ℕ
variable_name v = folded v.full

pub variable_again : (v : VarInfo) (before : List VarInfo)
    → list_any (is_same_variable v) before
    ≡ list_any (bytes_eq (folded v.full)) (map variable_name before)
variable_again v before = sym (any_mapped (bytes_eq (folded v.full)) variable_name before)

pub variable_found : (v : VarInfo) (before : List VarInfo) (names : List (List ℕ))
    → names ≡ map variable_name before
    → list_any (is_same_variable v) before ≡ list_any (bytes_eq (folded v.full)) names
variable_found v before names seen =
    variable_again v before ∙ ap (λ ns. list_any (bytes_eq (folded v.full)) ns) (sym seen)

-- ---- parameters

abbrev pub parameter_name : Known → List ℕ
parameter_name k = folded k.full

abbrev pub global_name : Known → List (List ℕ)
global_name k = if k.global then folded k.name ∷ [] else []

abbrev pub global_names : List Known → List (List ℕ)
global_names [] = []
global_names (k ∷ ks) = global_name k ++ global_names ks

one_of : (p g q r P R : Bool)
    → ((p || (g && (q && r))) || (P || (g && R))) ≡ ((p || P) || (g && ((q && r) || R)))
one_of true g q r P R = refl
one_of false true true true true R = refl
one_of false true true true false R = refl
one_of false true true false P R = refl
one_of false true false r P R = refl
one_of false false q r P R = refl

any_global : (test : List ℕ → Bool) (k : Known) (names : List (List ℕ)) (b : Bool)
    → list_any test ((if b then folded k.name ∷ [] else []) ++ names)
    ≡ ((b && test (folded k.name)) || list_any test names)
any_global test k names true = refl
any_global test k names false = refl

pub parameter_again : (k : Known) (before : List Known)
    → list_any (clash k) before
    ≡ (list_any (bytes_eq (folded k.full)) (map parameter_name before)
    || (k.global && list_any (bytes_eq (folded k.name)) (global_names before)))
parameter_again k [] = elim k.global as (λ g. false ≡ (false || (g && false)))
    [ true ↦ refl | false ↦ refl ]
parameter_again k (b ∷ bs) =
    ap (λ t. clash k b || t) (parameter_again k bs)
    ∙ one_of (same_name k.full b.full) k.global b.global (same_name k.name b.name)
    (list_any (bytes_eq (folded k.full)) (map parameter_name bs))
    (list_any (bytes_eq (folded k.name)) (global_names bs))
    ∙ ap (λ t. (same_name k.full b.full
    || list_any (bytes_eq (folded k.full)) (map parameter_name bs)) || (k.global && t))
    (sym (any_global (bytes_eq (folded k.name)) b (global_names bs) b.global))

pub parameter_found : (k : Known) (before : List Known) (names globals : List (List ℕ))
    → names ≡ map parameter_name before → globals ≡ global_names before
    → list_any (clash k) before
    ≡ (list_any (bytes_eq (folded k.full)) names
    || (k.global && list_any (bytes_eq (folded k.name)) globals))
parameter_found k before names globals seen global =
    parameter_again k before
    ∙ ap (λ ns. list_any (bytes_eq (folded k.full)) ns
    || (k.global && list_any (bytes_eq (folded k.name)) (global_names before))) (sym seen)
    ∙ ap (λ gs. list_any (bytes_eq (folded k.full)) names
    || (k.global && list_any (bytes_eq (folded k.name)) gs)) (sym global)

pub global_names_push : (ks : List Known) (k : Known)
    → global_names (ks ++ k ∷ []) ≡ global_names ks ++ global_name k
global_names_push [] k = append-nil (global_name k)
global_names_push (b ∷ bs) k =
    ap (λ names. global_name b ++ names) (global_names_push bs k)
    ∙ sym (append_assoc (global_name b) (global_names bs) (global_name k))

-- ---- along a list

pub one_name_more : {X Y : Type 0} (f : X → Y) (xs : List X) (k : ℕ) (x : X) {ys ys2 : List Y}
    → k < length xs → x ≡ get_or xs k x → ys ≡ map f (take k xs) → ys2 ≡ ys ++ f x ∷ []
    → ys2 ≡ map f (take (k + 1) xs)
one_name_more f xs k x within at before after =
    after ∙ ap (λ ys. ys ++ f x ∷ []) before ∙ sym (map_push f (take k xs) x)
    ∙ ap (λ part. map f part) (sym (taken xs k x within at))

module _ {X F : Type 0} (same : X → X → Bool) (told : X → F) (xs : List X) (k : ℕ) (x : X)
    (within : k < length xs) (at : x ≡ get_or xs k x) (b : Bool)
    (found : list_any (same x) (take k xs) ≡ b) {w : Option F}
    (left : option_map told (first_again_behind same (take k xs) (drop k xs)) ≡ w) where
  pub again_on : (if b then Some (told x) else None) ≡ None
      → option_map told (first_again_behind same (take (k + 1) xs) (drop (k + 1) xs)) ≡ w
  again_on none =
      ap (λ part. option_map told (first_again_behind same part (drop (k + 1) xs)))
      (taken xs k x within at)
      ∙ ap (λ o. option_map told o)
      (sym (passed same told (take k xs) x (drop (k + 1) xs) b found none))
      ∙ ap (λ rest. option_map told (first_again_behind same (take k xs) rest))
      (sym (left_over xs k x within at))
      ∙ left

  pub again_at : (fault : F) → (if b then Some (told x) else None) ≡ Some fault → w ≡ Some fault
  again_at fault some =
      sym left
      ∙ ap (λ rest. option_map told (first_again_behind same (take k xs) rest))
      (left_over xs k x within at)
      ∙ met same told (take k xs) x (drop (k + 1) xs) fault b found some

  pub again_told : (none fault : F)
      → (fault ≡ none) ⊎ ((if b then Some (told x) else None) ≡ Some fault)
      → (fault ≡ none) ⊎ (w ≡ Some fault)
  again_told none fault (inl is) = inl is
  again_told none fault (inr some) = inr (again_at fault some)

pub one_global_more : (ks : List Known) (k : ℕ) (x : Known) {names names2 : List (List ℕ)}
    → k < length ks → x ≡ get_or ks k x → names ≡ global_names (take k ks)
    → names2 ≡ names ++ global_name x → names2 ≡ global_names (take (k + 1) ks)
one_global_more ks k x within at before after =
    after ∙ ap (λ names. names ++ global_name x) before ∙ sym (global_names_push (take k ks) x)
    ∙ ap (λ part. global_names part) (sym (taken ks k x within at))
