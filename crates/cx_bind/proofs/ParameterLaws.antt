-- All parameters, thorn by thorn.
use Rattle.std.proofs.Common.{◌≡◌, refl, sym, ◌∙◌, ap, ℕ, ◌+◌, ◌<◌, Bool, true, false, List, [], ◌∷◌, ◌++◌, map, length, take, get_or, arith, if◌then◌else◌}
use Rattle.std.proofs.lemmas.List.{append_assoc, append-nil, map-append, length-take-le, take_more}
use Rattle.std.specs.List.{flat_map, enumerate_from}
use Rattle.cx_param.specs.declared.declarations.ParamDecl.{ParamDecl}
use Rattle.cx_bind.specs.declared.thorns.Thorn.{Thorn}
use Rattle.cx_bind.specs.declared.thorns.Param.{Param}
use Rattle.cx_bind.specs.declared.known.Known.{Known}
use Rattle.cx_bind.specs.declared.parameters.Extension.{Extension}
use Rattle.cx_bind.specs.BuiltIn.{table}
use Rattle.cx_bind.specs.Parameters.{is_declaration, parameter_of, declared_as, declared_by, known_by, known, extended, thorn_parameters}
use Rattle.cx_bind.proofs.VariableLaws.{flat_map-append, map-flat_map}

-- ---- what is known doesn't depend on the number of the thorn

same_if : (k : ℕ) (t : Thorn) (d : ParamDecl) (b : Bool)
    → map known_by (if b then parameter_of k t d ∷ [] else [])
    ≡ map known_by (if b then parameter_of 0 t d ∷ [] else [])
same_if k t d true = refl
same_if k t d false = refl

in_lines : (k : ℕ) (t : Thorn) (ds : List ParamDecl)
    → map known_by (flat_map (declared_as k t) ds)
    ≡ flat_map (λ d. map known_by (declared_as 0 t d)) ds
in_lines k t [] = refl
in_lines k t (d ∷ ds) =
    map-append known_by (declared_as k t d) (flat_map (declared_as k t) ds)
    ∙ ap (λ xs. xs ++ map known_by (flat_map (declared_as k t) ds))
    (same_if k t d (is_declaration d.scope))
    ∙ ap (λ xs. map known_by (declared_as 0 t d) ++ xs) (in_lines k t ds)

abbrev pub known_in : Thorn → List Known
known_in t = flat_map (λ d. map known_by (declared_as 0 t d)) t.params

in_thorns : (k : ℕ) (thorns : List Thorn)
    → map known_by (flat_map declared_by (enumerate_from k thorns)) ≡ flat_map known_in thorns
in_thorns k [] = refl
in_thorns k (t ∷ thorns) =
    let later : List Param = flat_map declared_by (enumerate_from (k + 1) thorns) in
    map-append known_by (declared_by (k, t)) later
    ∙ ap (λ xs. xs ++ map known_by later) (in_lines k t t.params)
    ∙ ap (λ xs. known_in t ++ xs) (in_thorns (k + 1) thorns)

pub known_are : (thorns : List Thorn)
    → map known_by (table 0) ++ flat_map known_in thorns ≡ known thorns
known_are thorns =
    sym (map-append known_by (table (length thorns))
    (flat_map declared_by (enumerate_from 0 thorns))
    ∙ ap (λ xs. map known_by (table 0) ++ xs) (in_thorns 0 thorns))

pub known_made : (thorns : List Thorn) {ps : List Param} {ks1 ks2 : List Known} → ps ≡ table 0
    → ks1 ≡ map known_by ps → ks2 ≡ ks1 ++ flat_map known_in thorns → ks2 ≡ known thorns
known_made thorns made first more =
    more ∙ ap (λ ks. ks ++ flat_map known_in thorns) (first ∙ ap (λ ps. map known_by ps) made)
    ∙ known_are thorns

-- ---- one thorn more

enumerate_push : {X : Type 0} (n : ℕ) (xs : List X) (x : X)
    → enumerate_from n (xs ++ x ∷ []) ≡ enumerate_from n xs ++ (n + length xs, x) ∷ []
enumerate_push n [] x = ap (λ k. (k, x) ∷ []) (omega arith)
enumerate_push n (y ∷ ys) x =
    let e : (n + 1) + length ys ≡ n + length (y ∷ ys) = omega arith in
    ap (λ zs. (n, y) ∷ zs) (enumerate_push (n + 1) ys x
    ∙ ap (λ k. enumerate_from (n + 1) ys ++ (k, x) ∷ []) e)

abbrev pub extended_by : List Extension → ℕ → Thorn → List ParamDecl → List Param
extended_by es k t ds = flat_map (λ d. map (extended es) (declared_as k t d)) ds

abbrev pub extended_in : List Extension → ℕ → Thorn → List Param
extended_in es k t = extended_by es k t t.params

pub thorn_parameters_more : (es : List Extension) (part : List Thorn) (k : ℕ) (t : Thorn)
    → length part ≡ k → thorn_parameters es (part ++ t ∷ [])
    ≡ thorn_parameters es part ++ extended_in es k t
thorn_parameters_more es part k t e =
    let at : ((0 + length part), t) ≡ (k, t) = ap (λ n. (n, t)) (omega (arith, e)) in
    ap (λ xs. map (extended es) (flat_map declared_by xs))
    (enumerate_push 0 part t ∙ ap (λ p. enumerate_from 0 part ++ p ∷ []) at)
    ∙ ap (λ xs. map (extended es) xs)
    (flat_map-append declared_by (enumerate_from 0 part) ((k, t) ∷ [])
    ∙ ap (λ xs. flat_map declared_by (enumerate_from 0 part) ++ xs)
    (append-nil (declared_by (k, t))))
    ∙ map-append (extended es) (flat_map declared_by (enumerate_from 0 part)) (declared_by (k, t))
    ∙ ap (λ xs. thorn_parameters es part ++ xs)
    (map-flat_map (extended es) (declared_as k t) t.params)

pub one_thorn_more : (es : List Extension) (thorns : List Thorn) (k : ℕ) (t : Thorn)
    (ps : List Param) (ds : List ParamDecl) {ps1 ps2 : List Param} → k < length thorns
    → t ≡ get_or thorns k t → ds ≡ t.params → ps1 ≡ ps ++ thorn_parameters es (take k thorns)
    → ps2 ≡ ps1 ++ extended_by es k t ds → ps2 ≡ ps ++ thorn_parameters es (take (k + 1) thorns)
one_thorn_more es thorns k t ps ds {ps1 = ps1} within at lines before after =
    let part : length (take k thorns) ≡ k = length-take-le k thorns (omega arith) in
    let more : take (k + 1) thorns ≡ take k thorns ++ t ∷ [] =
    take_more thorns k t within ∙ ap (λ u. take k thorns ++ u ∷ []) (sym at) in
    after
    ∙ ap (λ ds. ps1 ++ extended_by es k t ds) lines
    ∙ ap (λ qs. qs ++ extended_in es k t) before
    ∙ append_assoc ps (thorn_parameters es (take k thorns)) (extended_in es k t)
    ∙ ap (λ qs. ps ++ qs) (sym (thorn_parameters_more es (take k thorns) k t part))
    ∙ ap (λ part. ps ++ thorn_parameters es part) (sym more)
