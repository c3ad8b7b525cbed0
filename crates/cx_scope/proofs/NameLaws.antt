-- Named groups and variables, one more at a time, and how many variables there are.
use Rattle.std.proofs.Common.{◌≡◌, refl, sym, ◌∙◌, ap, ℕ, suc, ◌+◌, ◌<◌, ◌≤◌, ◌^◌, Bool, true, false, List, [], ◌∷◌, ◌++◌, map, length, take, get_or, Option, Some, None, if◌then◌else◌, arith, zero-add}
use Rattle.std.specs.Prelude.{nat_lt, codes}
use Rattle.std.specs.List.{flat_map, enumerate_from, range_with_len}
use Rattle.std.proofs.lemmas.Bool.Decides.{Decides-ltb, not_from_Decides}
use Rattle.std.proofs.lemmas.List.{append_assoc, append-nil, map_push, length-take-le, take_more, take_all, length-append}
use Rattle.std.proofs.lemmas.List.FromFn.{map-range_with_len_more}
use Rattle.std.proofs.lemmas.Grind.{flat_map-append}
use Rattle.cx_iface.specs.declared.tree.Group.{Group}
use Rattle.cx_plan.specs.Lists.{or_else, first_some}
use Rattle.cx_plan.specs.declared.variable.VarInfo.{VarInfo}
use Rattle.cx_bind.specs.declared.thorns.Thorn.{Thorn}
use Rattle.cx_bind.specs.declared.thorns.BindFault.{BindFault}
use Rattle.cx_bind.specs.declared.thorns.BindFault.TheVariants.{Limit}
use Rattle.cx_bind.specs.Variables as all
use Rattle.cx_bind.specs.Variables.{Variable, OwnedGroup, copies, variable_info, variable_infos}
use Rattle.cx_bind.specs.Parameters.{known}
use Rattle.cx_bind.specs.Faults.{over, unsupported, two_dims}
use Rattle.cx_bind.specs.Binding.{needs_fault, names_fault, kinds_fault, bind_fault}
use Rattle.cx_scope.specs.declared.names.NamedGroup.{NamedGroup}
use Rattle.cx_scope.specs.Names.{named_group, named_copy, copies_of, variables_in, variables_of, named_variables}

-- ---- lists

enumerate_push : {X : Type 0} (n : ℕ) (xs : List X) (x : X)
    → enumerate_from n (xs ++ x ∷ []) ≡ enumerate_from n xs ++ (n + length xs, x) ∷ []
enumerate_push n [] x = ap (λ k. (k, x) ∷ []) (omega arith)
enumerate_push n (y ∷ ys) x =
    let e : (n + 1) + length ys ≡ n + length (y ∷ ys) = omega arith in
    ap (λ zs. (n, y) ∷ zs) (enumerate_push (n + 1) ys x
    ∙ ap (λ k. enumerate_from (n + 1) ys ++ (k, x) ∷ []) e)

enumerated_more : {X : Type 0} (xs : List X) (k : ℕ) (x : X) → k < length xs → x ≡ get_or xs k x
    → enumerate_from 0 (take (k + 1) xs) ≡ enumerate_from 0 (take k xs) ++ (k, x) ∷ []
enumerated_more xs k x within at =
    let long : length (take k xs) ≡ k = length-take-le k xs (omega (arith, within)) in
    let same : 0 + length (take k xs) ≡ k = omega (arith, long) in
    ap (λ ys. enumerate_from 0 ys)
    (take_more xs k x within ∙ ap (λ u. take k xs ++ u ∷ []) (sym at))
    ∙ enumerate_push 0 (take k xs) x
    ∙ ap (λ n. enumerate_from 0 (take k xs) ++ (n, x) ∷ []) same

pub one_mapped : {X Y : Type 0} (f : ℕ × X → Y) (ys : List Y) (xs : List X) (k : ℕ) (x : X)
    {ys1 ys2 : List Y} {y : Y} → k < length xs → x ≡ get_or xs k x
    → ys1 ≡ ys ++ map f (enumerate_from 0 (take k xs)) → y ≡ f (k, x) → ys2 ≡ ys1 ++ y ∷ []
    → ys2 ≡ ys ++ map f (enumerate_from 0 (take (k + 1) xs))
one_mapped f ys xs k x {ys1 = ys1} within at before one after =
    after
    ∙ ap (λ y. ys1 ++ y ∷ []) one
    ∙ ap (λ zs. zs ++ f (k, x) ∷ []) before
    ∙ append_assoc ys (map f (enumerate_from 0 (take k xs))) (f (k, x) ∷ [])
    ∙ ap (λ zs. ys ++ zs) (sym (map_push f (enumerate_from 0 (take k xs)) (k, x)))
    ∙ ap (λ es. ys ++ map f es) (sym (enumerated_more xs k x within at))

flat_push : {X Y : Type 0} (f : X → List Y) (xs : List X) (x : X)
    → flat_map f (xs ++ x ∷ []) ≡ flat_map f xs ++ f x
flat_push f xs x = flat_map-append f xs (x ∷ []) ∙ ap (λ zs. flat_map f xs ++ zs) (append-nil (f x))

pub one_flat : {X Y : Type 0} (f : ℕ × X → List Y) (ys : List Y) (xs : List X) (k : ℕ) (x : X)
    {ys1 ys2 zs : List Y} → k < length xs → x ≡ get_or xs k x
    → ys1 ≡ ys ++ flat_map f (enumerate_from 0 (take k xs)) → zs ≡ f (k, x) → ys2 ≡ ys1 ++ zs
    → ys2 ≡ ys ++ flat_map f (enumerate_from 0 (take (k + 1) xs))
one_flat f ys xs k x {ys1 = ys1} within at before one after =
    after
    ∙ ap (λ z. ys1 ++ z) one
    ∙ ap (λ zs. zs ++ f (k, x)) before
    ∙ append_assoc ys (flat_map f (enumerate_from 0 (take k xs))) (f (k, x))
    ∙ ap (λ zs. ys ++ zs) (sym (flat_push f (enumerate_from 0 (take k xs)) (k, x)))
    ∙ ap (λ es. ys ++ flat_map f es) (sym (enumerated_more xs k x within at))

pub all_mapped : {X Y : Type 0} (f : ℕ × X → Y) (ys : List Y) (xs : List X) (k : ℕ) {ys1 : List Y}
    → length xs ≤ k → ys1 ≡ ys ++ map f (enumerate_from 0 (take k xs))
    → ys1 ≡ ys ++ map f (enumerate_from 0 xs)
all_mapped f ys xs k past at =
    at ∙ ap (λ zs. ys ++ map f (enumerate_from 0 zs)) (take_all k xs past)

pub all_flat : {X Y : Type 0} (f : ℕ × X → List Y) (ys : List Y) (xs : List X) (k : ℕ)
    {ys1 : List Y} → length xs ≤ k → ys1 ≡ ys ++ flat_map f (enumerate_from 0 (take k xs))
    → ys1 ≡ ys ++ flat_map f (enumerate_from 0 xs)
all_flat f ys xs k past at =
    at ∙ ap (λ zs. ys ++ flat_map f (enumerate_from 0 zs)) (take_all k xs past)

-- ---- copies

map-map : {X Y Z : Type 0} (f : Y → Z) (g : X → Y) (xs : List X)
    → map f (map g xs) ≡ map (λ x. f (g x)) xs
map-map f g [] = refl
map-map f g (x ∷ xs) = ap (λ ys. f (g x) ∷ ys) (map-map f g xs)

pub one_numbered : {Y : Type 0} (f : ℕ → Y) (ys : List Y) (n : ℕ) {ys1 ys2 : List Y} {y : Y}
    → ys1 ≡ ys ++ map f (range_with_len 0 n) → y ≡ f n → ys2 ≡ ys1 ++ y ∷ []
    → ys2 ≡ ys ++ map f (range_with_len 0 (n + 1))
one_numbered f ys n {ys1 = ys1} before one after =
    after
    ∙ ap (λ y. ys1 ++ y ∷ []) one
    ∙ ap (λ zs. zs ++ f n ∷ []) before
    ∙ append_assoc ys (map f (range_with_len 0 n)) (f n ∷ [])
    ∙ sym (ap (λ zs. ys ++ zs) (map-range_with_len_more f 0 n n (zero-add n)))

pub numbered_are : {Y : Type 0} (f : Option ℕ → Y) (n : ℕ)
    → map f (copies (Some n)) ≡ map (λ k. f (Some k)) (range_with_len 0 n)
numbered_are f n = map-map f (λ k. Some k) (range_with_len 0 n)

-- ---- how many variables there are

as_long : {X Y : Type 0} (f : X → Y) (xs : List X) → length (map f xs) ≡ length xs
as_long f [] = refl
as_long f (x ∷ xs) = ap (λ n. suc n) (as_long f xs)

both_long : {X Y : Type 0} (xs xs2 : List X) (ys ys2 : List Y) → length xs ≡ length ys
    → length xs2 ≡ length ys2 → length (xs ++ xs2) ≡ length (ys ++ ys2)
both_long xs xs2 ys ys2 one other =
    length-append xs xs2 ∙ ap (λ n. n + length xs2) one ∙ ap (λ n. length ys + n) other
    ∙ sym (length-append ys ys2)

abbrev made : OwnedGroup → List ℕ → Option ℕ → Variable
made owned name copy = record { owned = owned; name = name; copy = copy }

in_names : (g : NamedGroup) (owned : OwnedGroup) (count : Option ℕ) (names : List (List ℕ))
    → length (flat_map (copies_of g count) names)
    ≡ length
    (flat_map (λ name. map {B = Variable}
    (λ copy. record { owned = owned; name = name; copy = copy }) (copies count)) names)
in_names g owned count [] = refl
in_names g owned count (name ∷ names) =
    let others : List Variable =
    flat_map (λ name. map {B = Variable}
    (λ copy. record { owned = owned; name = name; copy = copy }) (copies count)) names in
    both_long (map (named_copy g name) (copies count)) (flat_map (copies_of g count) names)
    (map {B = Variable} (λ copy. record { owned = owned; name = name; copy = copy })
    (copies count)) others
    (as_long (named_copy g name) (copies count)
    ∙ sym (as_long (λ copy. made owned name copy) (copies count)))
    (in_names g owned count names)

in_groups : (k : ℕ) (t : Thorn) (j : ℕ) (groups : List Group)
    → length (flat_map (variables_in (k, t)) (enumerate_from j groups))
    ≡ length (flat_map all.variables_in
    (map (λ g. record { number = k; thorn = t; group = g }) groups))
in_groups k t j [] = refl
in_groups k t j (g ∷ groups) =
    let owned : OwnedGroup = record { number = k; thorn = t; group = g } in
    both_long (variables_in (k, t) (j, g))
    (flat_map (variables_in (k, t)) (enumerate_from (j + 1) groups)) (all.variables_in owned)
    (flat_map all.variables_in (map (λ h. record { number = k; thorn = t; group = h }) groups))
    (in_names (named_group (k, t) (j, g)) owned g.copies g.variables) (in_groups k t (j + 1) groups)

in_thorns : (k : ℕ) (thorns : List Thorn)
    → length (flat_map variables_of (enumerate_from k thorns))
    ≡ length (flat_map all.variables_in (flat_map all.groups_of (enumerate_from k thorns)))
in_thorns k [] = refl
in_thorns k (t ∷ thorns) =
    let later : List OwnedGroup = flat_map all.groups_of (enumerate_from (k + 1) thorns) in
    both_long (variables_of (k, t)) (flat_map variables_of (enumerate_from (k + 1) thorns))
    (flat_map all.variables_in (all.groups_of (k, t))) (flat_map all.variables_in later)
    (in_groups k t 0 t.interface.groups) (in_thorns (k + 1) thorns)
    ∙ ap length (sym (flat_map-append all.variables_in (all.groups_of (k, t)) later))

as_many : (thorns : List Thorn) → length (named_variables thorns) ≡ length (variable_infos thorns)
as_many thorns = in_thorns 0 thorns ∙ sym (as_long variable_info (all.variables thorns))

later_none : {X : Type 0} (a b : Option X) → or_else a b ≡ None → b ≡ None
later_none None b h = h
later_none (Some x) b h = cc h

first_none : {X : Type 0} (a b : Option X) → or_else a b ≡ None → a ≡ None
first_none None b h = refl
first_none (Some x) b h = cc h

not_over : (what : List ℕ) (n most : ℕ) → over what n most ≡ None → n ≤ most
not_over what n most h = at (nat_lt most n) refl h
  where
    at : (b : Bool) → nat_lt most n ≡ b → over what n most ≡ None → n ≤ most
    at true e h = (let no : Some (Limit what n) ≡ None =
        ap (λ b. if b then Some (Limit what n) else None) (sym e) ∙ h in cc no)
    at false e h = (let not_below = not_from_Decides (nat_lt most n) (Decides-ltb most n) e in
        omega (arith, not_below))

pub few : (thorns : List Thorn) → bind_fault thorns ≡ None
    → length (named_variables thorns) < 2 ^ 32
unfolding bind_fault
few thorns fit =
    let infos : List VarInfo = variable_infos thorns in
    let last : Option BindFault = over (codes "variables") (length infos) 256 in
    let kinds : first_some (kinds_fault infos thorns ∷ []) ≡ None =
    later_none (names_fault (known thorns) infos thorns)
    (first_some (kinds_fault infos thorns ∷ []))
    (later_none (needs_fault thorns)
    (first_some (names_fault (known thorns) infos thorns ∷ kinds_fault infos thorns ∷ [])) fit)
    in
    let each : kinds_fault infos thorns ≡ None = first_none (kinds_fault infos thorns) None kinds in
    let limits : first_some (over (codes "thorns") (length thorns) 64 ∷ last ∷ []) ≡ None =
    later_none (two_dims thorns)
    (first_some (over (codes "thorns") (length thorns) 64 ∷ last ∷ []))
    (later_none (unsupported thorns)
    (first_some (two_dims thorns ∷ over (codes "thorns") (length thorns) 64 ∷ last ∷ [])) each)
    in
    let none : last ≡ None =
    first_none last None (later_none (over (codes "thorns") (length thorns) 64)
    (first_some (last ∷ [])) limits) in
    let most : length infos ≤ 256 = not_over (codes "variables") (length infos) 256 none in
    let same = as_many thorns in omega (arith, most, same)
