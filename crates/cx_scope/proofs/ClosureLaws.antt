-- What is reached along ties between active implementations are the least sets of ancestors and of
-- friends.
use Rattle.std.proofs.Common.{◌≡◌, refl, sym, ◌∙◌, ap, subst, inl, inr, ℕ, zero, suc, ◌<◌, Bool, true, ◌&&◌, List, [], ◌∷◌, ◌++◌, map, length, Option, Some, None, Result, Ok, Err, ◌^◌, ltb-true}
use Rattle.std.specs.Prelude.{nat_lt}
use Rattle.std.specs.Char.{to_ascii_lowercase}
use Rattle.std.specs.List.{list_any, slice_get}
use Rattle.std.specs.Option.{option_map}
use Rattle.std.specs.Str.{bytes_eq}
use Rattle.std.proofs.lemmas.Bool.{and_parts, and_from}
use Rattle.std.proofs.lemmas.Bool.Decides.{Decides-ltb}
use Rattle.std.proofs.lemmas.Option.{slice_get_within, slice_get-get_or, slice_get-map, get_or_from_slice_get}
use Rattle.std.proofs.lemmas.Slice.Eq.{bytes_eq-Decides}
use Rattle.cx_text.specs.Lexemes.{same_name, among}
use Rattle.cx_bind.specs.declared.thorns.Thorn.{Thorn}
use Rattle.cx_bind.specs.BuiltIn.{built_in}
use Rattle.cx_scope.specs.declared.edges.Tie.{Tie}
use Rattle.cx_scope.specs.declared.edges.Tie.TheVariants.{Inherits, Friends}
use Rattle.cx_scope.specs.declared.tables.Tables.{Tables}
use Rattle.cx_scope.specs.Reach.{Edge, has_edge, Reach, edge, onward}
use Rattle.cx_scope.specs.Relations as relations
use Rattle.cx_scope.specs.Relations.{active_implementations, is_friend_line, Ancestor, inherited, through, Friend, line, back}
use Rattle.cx_scope.specs.Closures.{inherits_by, name_at, is_tied, AreTies, Links, sight_of, AreOf}
use Rattle.cx_scope.specs.Sight.{Sight, IsSightOf, seen}
use Rattle.cx_bind.specs.Binding.{bind_fault}
use Rattle.cx_sched.specs.declared.tree.Ref.{Ref}
use Rattle.cx_plan.specs.declared.variable.VarId.{VarId}
use Rattle.cx_scope.specs.declared.fault.ScopeFault.{ScopeFault}
use Rattle.cx_scope.specs.Names.{named_groups, named_variables}
use Rattle.cx_scope.specs.Naming.{variable_named, group_named}
use Rattle.cx_text.specs.Telling.{Answers}
use Rattle.cx_scope.specs.declared.fault.ScopeFault.TheVariants.{Memory}
use Rattle.cx_scope.specs.Resolving.{levels, group_members, resolve, group_of, BySight}
use Rattle.cx_scope.proofs.NameLaws.{few}
use Rattle.cx_scope.proofs.ReachLaws.{some-injective, or-left, or-right, or-cases}

-- ---- names in any case

abbrev low : List ℕ → List ℕ
low name = map to_ascii_lowercase name

same_low : (a b : List ℕ) → same_name a b ≡ true → low a ≡ low b
same_low a b h = (bytes_eq-Decides (low a) (low b)).0 h

low_same : (a b : List ℕ) → low a ≡ low b → same_name a b ≡ true
low_same a b e = (bytes_eq-Decides (low a) (low b)).1 e

among_alike : (names : List (List ℕ)) (a b : List ℕ) → low a ≡ low b → among names a ≡ among names b
among_alike names a b e = ap (λ l. list_any (λ (m : List ℕ). bytes_eq l (low m)) names) e

line_alike : (thorns : List Thorn) (a b i j : List ℕ) → low a ≡ low i → low b ≡ low j
    → is_friend_line thorns a b ≡ is_friend_line thorns i j
line_alike thorns a b i j e f =
    ap (λ l. list_any (λ (t : Thorn). bytes_eq (low t.interface.implements) l
    && among t.interface.friends b) thorns) e
    ∙ ap (λ l. list_any (λ (t : Thorn). bytes_eq (low t.interface.implements) (low i)
    && list_any (λ (m : List ℕ). bytes_eq l (low m)) t.interface.friends) thorns) f

-- ---- one element that passes

found_any : {X : Type 0} (p : X → Bool) (xs : List X) → list_any p xs ≡ true
    → (k : ℕ) × ((x : X) × ((slice_get xs k ≡ Some x) × (p x ≡ true)))
found_any p [] h = cc h
found_any p (x ∷ xs) h = elim (or-cases (p x) (list_any p xs) h) [
  | inl here ↦ (0, (x, (refl, here)))
  | inr later ↦ (let r = found_any p xs later in (suc r.0, (r.1.0, (r.1.1.0, r.1.1.1))))
]

any_at : {X : Type 0} (p : X → Bool) (xs : List X) (k : ℕ) (x : X) → slice_get xs k ≡ Some x
    → p x ≡ true → list_any p xs ≡ true
any_at p [] k x at h = cc at
any_at {X} p (y ∷ ys) zero x at h =
    (let P : X → Type 0 = λ z. p z ≡ true in
    or-left (p y) (list_any p ys) (subst P (sym (some-injective at)) h))
any_at p (y ∷ ys) (suc k) x at h = or-right (p y) (list_any p ys) (any_at p ys k x at h)

get_append : {X : Type 0} (xs ys : List X) (k : ℕ) (x : X) → slice_get xs k ≡ Some x
    → slice_get (xs ++ ys) k ≡ Some x
get_append [] ys k x at = cc at
get_append (y ∷ xs) ys zero x at = at
get_append (y ∷ xs) ys (suc k) x at = get_append xs ys k x at

-- ---- chains of edges

reach-on : (edges : List Edge) (a b c : ℕ) → Reach edges a b → Reach edges b c → Reach edges a c
reach-on edges a b c r (edge _ _ h) = onward a b c r h
reach-on edges a b c r (onward _ d _ s h) = onward a d c (reach-on edges a b d r s) h

reach-back : (edges : List Edge)
    → ((a b : ℕ) → has_edge edges a b ≡ true → has_edge edges b a ≡ true) → (a b : ℕ)
    → Reach edges a b → Reach edges b a
reach-back edges both a b (edge _ _ h) = edge b a (both a b h)
reach-back edges both a c (onward _ b _ r h) =
    reach-on edges c b a (edge c b (both b c h)) (reach-back edges both a b r)

module _ (thorns : List Thorn) where
  abbrev names : List (List ℕ)
  names = active_implementations thorns

  thorn_at : (k : ℕ) (x : Thorn) → slice_get thorns k ≡ Some x
      → slice_get names k ≡ Some x.interface.implements
  thorn_at k x at =
      get_append (map (λ (t : Thorn). t.interface.implements) thorns)
      (map (λ p. p.implementation) built_in) k x.interface.implements
      (slice_get-map (λ (t : Thorn). t.interface.implements) thorns k
      ∙ ap (λ o. option_map (λ (t : Thorn). t.interface.implements) o) at)

  thorn_name : (k : ℕ) (x : Thorn) → slice_get thorns k ≡ Some x
      → name_at names k ≡ x.interface.implements
  thorn_name k x at = get_or_from_slice_get names k x.interface.implements [] (thorn_at k x at)

  thorn_below : (k : ℕ) (x : Thorn) → slice_get thorns k ≡ Some x → k < length names
  thorn_below k x at = slice_get_within names k x.interface.implements (thorn_at k x at)

  module _ (tie : Tie) (edges : List Edge) (are : AreTies thorns names tie edges) where
    tie_parts : (a b : ℕ) → has_edge edges a b ≡ true
        → (a < length names) × ((b < length names) × (is_tied thorns names tie a b ≡ true))
    tie_parts a b h =
        let parts = and_parts (nat_lt a (length names))
        (nat_lt b (length names) && is_tied thorns names tie a b) (sym (are a b) ∙ h) in
        let rest = and_parts (nat_lt b (length names)) (is_tied thorns names tie a b) parts.1 in
        (ltb-true a (length names) parts.0, (ltb-true b (length names) rest.0, rest.1))

    tie_edge : (a b : ℕ) → a < length names → b < length names → is_tied thorns names tie a b ≡ true
        → has_edge edges a b ≡ true
    tie_edge a b first second tied =
        are a b
        ∙ and_from (nat_lt a (length names))
        (nat_lt b (length names) && is_tied thorns names tie a b)
        ((Decides-ltb a (length names)).1 first)
        (and_from (nat_lt b (length names)) (is_tied thorns names tie a b)
        ((Decides-ltb b (length names)).1 second) tied)

  -- ---- ancestors

  inherits_is : (o : Option Thorn) (name : List ℕ) → inherits_by o name ≡ true
      → (x : Thorn) × ((o ≡ Some x) × (among x.interface.inherits name ≡ true))
  inherits_is None name h = cc h
  inherits_is (Some x) name h = (x, (refl, h))

  module _ (edges : List Edge) (are : AreTies thorns names Inherits edges) where
    to_ancestor : (a b : ℕ) → Reach edges a b → (x : Thorn) → slice_get thorns a ≡ Some x
        → Ancestor thorns x (name_at names b)
    to_ancestor a b (edge _ _ h) x at =
        let got = inherits_is (slice_get thorns a) (name_at names b)
        (tie_parts Inherits edges are a b h).1.1 in
        let P : Thorn → Type 0 = λ z. among z.interface.inherits (name_at names b) ≡ true in
        inherited (name_at names b) (subst P (some-injective (sym got.1.0 ∙ at)) got.1.1)
    to_ancestor a c (onward _ b _ r h) x at =
        let got = inherits_is (slice_get thorns b) (name_at names c)
        (tie_parts Inherits edges are b c h).1.1 in
        through (name_at names b) (name_at names c) (to_ancestor a b r x at)
        (any_at (λ (t : Thorn). same_name t.interface.implements (name_at names b)
        && among t.interface.inherits (name_at names c)) thorns b got.0 got.1.0
        (and_from (same_name got.0.interface.implements (name_at names b))
        (among got.0.interface.inherits (name_at names c))
        (low_same got.0.interface.implements (name_at names b)
        (ap low (sym (thorn_name b got.0 got.1.0)))) got.1.1))

    from_ancestor : (t : ℕ) (x : Thorn) → slice_get thorns t ≡ Some x → (i : List ℕ)
        → Ancestor thorns x i → (u : ℕ) → u < length names → low (name_at names u) ≡ low i
        → Reach edges t u
    from_ancestor t x at i (inherited _ h) u within alike =
        edge t u (tie_edge Inherits edges are t u (thorn_below t x at) within
        (ap (λ o. inherits_by o (name_at names u)) at
        ∙ among_alike x.interface.inherits (name_at names u) i alike ∙ h))
    from_ancestor t x at j (through i _ before h) u within alike =
        let p = found_any (λ (z : Thorn). same_name z.interface.implements i
        && among z.interface.inherits j) thorns h in
        let parts = and_parts (same_name p.1.0.interface.implements i)
        (among p.1.0.interface.inherits j) p.1.1.1 in
        onward t p.0 u
        (from_ancestor t x at i before p.0 (thorn_below p.0 p.1.0 p.1.1.0)
        (ap low (thorn_name p.0 p.1.0 p.1.1.0) ∙ same_low p.1.0.interface.implements i parts.0))
        (tie_edge Inherits edges are p.0 u (thorn_below p.0 p.1.0 p.1.1.0) within
        (ap (λ o. inherits_by o (name_at names u)) p.1.1.0
        ∙ among_alike p.1.0.interface.inherits (name_at names u) j alike ∙ parts.1))

  -- ---- friends

  active_at : (k : ℕ) → k < length names → among names (name_at names k) ≡ true
  active_at k within = any_at (same_name (name_at names k)) names k (name_at names k)
      (slice_get-get_or names k [] within) (low_same (name_at names k) (name_at names k) refl)

  thorn_active : (k : ℕ) (x : Thorn) (i : List ℕ) → slice_get thorns k ≡ Some x
      → same_name x.interface.implements i ≡ true → among names i ≡ true
  thorn_active k x i at h =
      any_at (same_name i) names k x.interface.implements (thorn_at k x at)
      (low_same i x.interface.implements (sym (same_low x.interface.implements i h)))

  -- friends are active
  both_active : (i j : List ℕ) → Friend thorns i j → (among names i ≡ true) × (among names j ≡ true)
  both_active i j (line _ _ h active) =
      let p = found_any (λ (z : Thorn). same_name z.interface.implements i
      && among z.interface.friends j) thorns h in
      let parts = and_parts (same_name p.1.0.interface.implements i)
      (among p.1.0.interface.friends j) p.1.1.1 in
      (thorn_active p.0 p.1.0 i p.1.1.0 parts.0, active)
  both_active j i (back _ _ f) = let r = both_active i j f in (r.1, r.0)
  both_active i k (relations.onward _ j _ f g) = ((both_active i j f).0, (both_active j k g).1)

  module _ (edges : List Edge) (are : AreTies thorns names Friends edges) where
    tied_back : (a b : ℕ) → is_tied thorns names Friends a b ≡ true
        → is_tied thorns names Friends b a ≡ true
    tied_back a b h =
        elim (or-cases (is_friend_line thorns (name_at names a) (name_at names b))
        (is_friend_line thorns (name_at names b) (name_at names a)) h) [
          | inl there ↦ or-right (is_friend_line thorns (name_at names b) (name_at names a))
              (is_friend_line thorns (name_at names a) (name_at names b)) there
          | inr here ↦ or-left (is_friend_line thorns (name_at names b) (name_at names a))
              (is_friend_line thorns (name_at names a) (name_at names b)) here
        ]

    edge_back : (a b : ℕ) → has_edge edges a b ≡ true → has_edge edges b a ≡ true
    edge_back a b h = let parts = tie_parts Friends edges are a b h in
        tie_edge Friends edges are b a parts.1.0 parts.0 (tied_back a b parts.1.1)

    edge_friend : (a b : ℕ) → has_edge edges a b ≡ true
        → Friend thorns (name_at names a) (name_at names b)
    edge_friend a b h =
        let parts = tie_parts Friends edges are a b h in
        elim (or-cases (is_friend_line thorns (name_at names a) (name_at names b))
        (is_friend_line thorns (name_at names b) (name_at names a)) parts.1.1) [
          | inl there ↦ line (name_at names a) (name_at names b) there (active_at b parts.1.0)
          | inr here ↦ back (name_at names b) (name_at names a)
              (line (name_at names b) (name_at names a) here (active_at a parts.0))
        ]

    to_friend : (a b : ℕ) → Reach edges a b → Friend thorns (name_at names a) (name_at names b)
    to_friend a b (edge _ _ h) = edge_friend a b h
    to_friend a c (onward _ b _ r h) =
        relations.onward (name_at names a) (name_at names b) (name_at names c) (to_friend a b r)
        (edge_friend b c h)

    from_friend : (i j : List ℕ) → Friend thorns i j → (a b : ℕ) → a < length names
        → b < length names → low (name_at names a) ≡ low i → low (name_at names b) ≡ low j
        → Reach edges a b
    from_friend i j (line _ _ h active) a b first second alike alike2 =
        edge a b (tie_edge Friends edges are a b first second
        (or-left (is_friend_line thorns (name_at names a) (name_at names b))
        (is_friend_line thorns (name_at names b) (name_at names a))
        (line_alike thorns (name_at names a) (name_at names b) i j alike alike2 ∙ h)))
    from_friend j i (back _ _ f) a b first second alike alike2 =
        reach-back edges edge_back b a (from_friend i j f b a second first alike2 alike)
    from_friend i k (relations.onward _ j _ f g) a b first second alike alike2 =
        let p = found_any (same_name j) names (both_active i j f).1 in
        let below = slice_get_within names p.0 p.1.0 p.1.1.0 in
        let same = ap low (get_or_from_slice_get names p.0 p.1.0 [] p.1.1.0)
        ∙ sym (same_low j p.1.0 p.1.1.1) in
        reach-on edges a p.0 b (from_friend i j f a p.0 first below alike same)
        (from_friend j k g p.0 b below second same alike2)

-- ---- what the tables tell

pub tells : (thorns : List Thorn) (tables : Tables) → Links thorns Inherits tables.ancestors
    → Links thorns Friends tables.friends → IsSightOf thorns (sight_of tables)
tells thorns tables inherits friends =
    record {
      ancestors = λ t u x y at at2. (let closes = inherits.1.1 t (thorn_below thorns t x at) u in (
        (λ marked. (let A : List ℕ → Type 0 = λ n. Ancestor thorns x n in
            subst A (thorn_name thorns u y at2)
            (to_ancestor thorns inherits.0 inherits.1.0 t u (closes.0 marked) x at))),
        (λ ancestor.
            closes.1 (from_ancestor thorns inherits.0 inherits.1.0 t x at y.interface.implements
            ancestor u (thorn_below thorns u y at2) (ap low (thorn_name thorns u y at2)))),
      ));
      friends = λ t u x y at at2. (let closes = friends.1.1 t (thorn_below thorns t x at) u in (
        (λ marked. (let A : List ℕ
            → Type 0 = λ n. Friend thorns n (name_at (active_implementations thorns) u) in
            let B : List ℕ → Type 0 = λ n. Friend thorns x.interface.implements n in
            subst B (thorn_name thorns u y at2)
            (subst A (thorn_name thorns t x at)
            (to_friend thorns friends.0 friends.1.0 t u (closes.0 marked))))),
        (λ friend.
            closes.1 (from_friend thorns friends.0 friends.1.0 x.interface.implements
            y.interface.implements friend t u (thorn_below thorns t x at)
            (thorn_below thorns u y at2) (ap low (thorn_name thorns t x at))
            (ap low (thorn_name thorns u y at2)))),
      ));
    }

pub are_of : (thorns : List Thorn) (tables : Tables) → bind_fault thorns ≡ None
    → tables.groups ≡ named_groups thorns → tables.variables ≡ named_variables thorns
    → Links thorns Inherits tables.ancestors → Links thorns Friends tables.friends
    → AreOf thorns tables
are_of thorns tables fit groups variables inherits friends =
    record {
      groups = groups;
      variables = variables;
      tells = tells thorns tables inherits friends;
      few = (let N : ℕ → Type 0 = λ n. n < 2 ^ 32 in
          subst N (ap length (sym variables)) (few thorns fit));
    }

-- ---- answers by what the tables tell

pub by_sight : {X : Type 0} (thorns : List Thorn) (told : Sight → Result X ScopeFault)
    (sight : Sight) (result : Result X ScopeFault) → IsSightOf thorns sight
    → Answers Memory (told sight) result → BySight thorns told result
by_sight thorns told sight (Ok x) tells is = inr (sight, (tells, is))
by_sight thorns told sight (Err e) tells (inl memory) = inl (ap (λ e. Err e) memory)
by_sight thorns told sight (Err e) tells (inr is) = inr (sight, (tells, is))

module _ (thorns : List Thorn) (tables : Tables) (are : AreOf thorns tables) where
  pub resolved : (storage : List ℕ) (t : ℕ) (r : Ref)
      (result : Result (List (VarId × ℕ)) ScopeFault)
      → Answers Memory (levels tables.variables tables.groups (sight_of tables) t r storage
      (variable_named (sight_of tables) t seen tables.variables r)) result
      → Answers Memory (resolve thorns (sight_of tables) storage t r) result
  resolved storage t r result told =
      let by : levels tables.variables tables.groups (sight_of tables) t r storage
      (variable_named (sight_of tables) t seen tables.variables r)
      ≡ resolve thorns (sight_of tables) storage t r =
      ap (λ vs. levels vs tables.groups (sight_of tables) t r storage
      (variable_named (sight_of tables) t seen vs r)) are.variables
      ∙ ap (λ gs. levels (named_variables thorns) gs (sight_of tables) t r storage
      (variable_named (sight_of tables) t seen (named_variables thorns) r)) are.groups in
      let A : Result (List (VarId × ℕ)) ScopeFault
      → Type 0 = λ answer. Answers Memory answer result in
      subst A by told

  pub grouped : (t : ℕ) (r : Ref) (result : Result (List VarId) ScopeFault)
      → Answers Memory (group_members tables.variables tables.groups (sight_of tables) t r
      (group_named (sight_of tables) t seen tables.groups r)) result
      → Answers Memory (group_of thorns (sight_of tables) t r) result
  grouped t r result told =
      let by : group_members tables.variables tables.groups (sight_of tables) t r
      (group_named (sight_of tables) t seen tables.groups r)
      ≡ group_of thorns (sight_of tables) t r =
      ap (λ vs. group_members vs tables.groups (sight_of tables) t r
      (group_named (sight_of tables) t seen tables.groups r)) are.variables
      ∙ ap (λ gs. group_members (named_variables thorns) gs (sight_of tables) t r
      (group_named (sight_of tables) t seen gs r)) are.groups in
      let A : Result (List VarId) ScopeFault → Type 0 = λ answer. Answers Memory answer result in
      subst A by told
