-- All variables, thorn by thorn.
use Rattle.std.proofs.Common.{◌≡◌, refl, sym, ◌∙◌, ap, ℕ, ◌+◌, List, [], ◌∷◌, ◌++◌, map, Option, Some, zero-add}
use Rattle.std.proofs.lemmas.List.{append_assoc, map-append}
use Rattle.std.proofs.lemmas.List.FromFn.{map-range_with_len_more}
use Rattle.std.specs.List.{flat_map, enumerate_from, range_with_len}
use Rattle.cx_plan.specs.declared.variable.VarInfo.{VarInfo}
use Rattle.cx_iface.specs.declared.tree.Group.{Group}
use Rattle.cx_bind.specs.declared.thorns.Thorn.{Thorn}
use Rattle.cx_bind.specs.Variables.{Variable, OwnedGroup, groups_of, copies, variables_in, info_of, variable_info, variable_infos}

pub map-map : {X Y Z : Type 0} (f : Y → Z) (g : X → Y) (xs : List X)
    → map f (map g xs) ≡ map (λ x. f (g x)) xs
map-map f g [] = refl
map-map f g (x ∷ xs) = ap (λ ys. f (g x) ∷ ys) (map-map f g xs)

pub flat_map-append : {X Y : Type 0} (f : X → List Y) (xs ys : List X)
    → flat_map f (xs ++ ys) ≡ flat_map f xs ++ flat_map f ys
flat_map-append f [] ys = refl
flat_map-append f (x ∷ xs) ys =
    ap (λ zs. f x ++ zs) (flat_map-append f xs ys)
    ∙ sym (append_assoc (f x) (flat_map f xs) (flat_map f ys))

pub map-flat_map : {X Y Z : Type 0} (f : Y → Z) (g : X → List Y) (xs : List X)
    → map f (flat_map g xs) ≡ flat_map (λ x. map f (g x)) xs
map-flat_map f g [] = refl
map-flat_map f g (x ∷ xs) =
    map-append f (g x) (flat_map g xs) ∙ ap (λ ys. map f (g x) ++ ys) (map-flat_map f g xs)

-- the variables of a thorn's groups
abbrev pub infos_of : Thorn → List VarInfo
infos_of t = flat_map (λ g. flat_map (λ name. map (info_of t g name) (copies g.copies)) g.variables)
    t.interface.groups

abbrev pub infos : List Thorn → List VarInfo
infos thorns = flat_map infos_of thorns

in_names : (g : OwnedGroup) (names : List (List ℕ))
    → map variable_info (flat_map
    (λ name. map (λ copy. record { owned = g; name = name; copy = copy }) (copies g.group.copies))
    names) ≡ flat_map (λ name. map (info_of g.thorn g.group name) (copies g.group.copies)) names
in_names g [] = refl
in_names g (name ∷ names) =
    let made : List Variable =
    map (λ copy. record { owned = g; name = name; copy = copy }) (copies g.group.copies) in
    let others : List Variable =
    flat_map (λ name. map (λ copy. record { owned = g; name = name; copy = copy })
    (copies g.group.copies)) names in
    map-append variable_info made others
    ∙ ap (λ xs. xs ++ map variable_info others)
    (map-map variable_info (λ copy. record { owned = g; name = name; copy = copy })
    (copies g.group.copies))
    ∙ ap (λ xs. map (info_of g.thorn g.group name) (copies g.group.copies) ++ xs) (in_names g names)

in_groups : (number : ℕ) (t : Thorn) (groups : List Group)
    → map variable_info (flat_map variables_in
    (map (λ g. record { number = number; thorn = t; group = g }) groups))
    ≡ flat_map (λ g. flat_map (λ name. map (info_of t g name) (copies g.copies)) g.variables) groups
in_groups number t [] = refl
in_groups number t (g ∷ groups) =
    let owned : OwnedGroup = record { number = number; thorn = t; group = g } in
    let others : List Variable =
    flat_map variables_in (map (λ h. record { number = number; thorn = t; group = h }) groups)
    in
    map-append variable_info (variables_in owned) others
    ∙ ap (λ xs. xs ++ map variable_info others) (in_names owned g.variables)
    ∙ ap (λ xs. flat_map (λ name. map (info_of t g name) (copies g.copies)) g.variables ++ xs)
    (in_groups number t groups)

in_thorns : (k : ℕ) (thorns : List Thorn)
    → map variable_info (flat_map variables_in (flat_map groups_of (enumerate_from k thorns)))
    ≡ infos thorns
in_thorns k [] = refl
in_thorns k (t ∷ thorns) =
    let later : List OwnedGroup = flat_map groups_of (enumerate_from (k + 1) thorns) in
    ap (λ vs. map variable_info vs) (flat_map-append variables_in (groups_of (k, t)) later)
    ∙ map-append variable_info (flat_map variables_in (groups_of (k, t)))
    (flat_map variables_in later)
    ∙ ap (λ xs. xs ++ map variable_info (flat_map variables_in later))
    (in_groups k t t.interface.groups)
    ∙ ap (λ xs. infos_of t ++ xs) (in_thorns (k + 1) thorns)

pub infos_are : (thorns : List Thorn) → infos thorns ≡ variable_infos thorns
infos_are thorns = sym (in_thorns 0 thorns)

-- one copy more
pub more_numbered : {Y : Type 0} (f : ℕ → Y) (ys : List Y) (n : ℕ)
    → (ys ++ map f (range_with_len 0 n)) ++ f n ∷ [] ≡ ys ++ map f (range_with_len 0 (n + 1))
more_numbered f ys n = append_assoc ys (map f (range_with_len 0 n)) (f n ∷ [])
    ∙ sym (ap (λ zs. ys ++ zs) (map-range_with_len_more f 0 n n (zero-add n)))

pub one_numbered : {Y : Type 0} (f : ℕ → Y) (ys : List Y) (n : ℕ) {ys1 ys2 : List Y} {y : Y}
    → ys1 ≡ ys ++ map f (range_with_len 0 n) → y ≡ f n → ys2 ≡ ys1 ++ y ∷ []
    → ys2 ≡ ys ++ map f (range_with_len 0 (n + 1))
one_numbered f ys n {ys1 = ys1} before one after =
    after ∙ ap (λ y. ys1 ++ y ∷ []) one ∙ ap (λ zs. zs ++ f n ∷ []) before ∙ more_numbered f ys n

pub numbered_are : {Y : Type 0} (f : Option ℕ → Y) (n : ℕ)
    → map f (copies (Some n)) ≡ map (λ k. f (Some k)) (range_with_len 0 n)
numbered_are f n = map-map f (λ k. Some k) (range_with_len 0 n)
