-- What a part's chunk holds of each variable's records.
use Rattle.std.proofs.Common.{◌≡◌, ◌≢◌, ℕ, zero, suc, ◌≤◌, ◌⊎◌, inl, inr, Bool, true, false, ◌&&◌, ◌||◌, not, eqb, arith, refl, sym, ap, ◌∙◌, subst, List, [], ◌∷◌, ◌++◌, map, Option, Some, None}
use Rattle.std.specs.Prelude.{find, if◌then◌else◌}
use Rattle.std.specs.List.{flat_map, list_any, AllByRecursion}
use Rattle.std.specs.Str.{bytes_eq}
use Rattle.std.proofs.lemmas.Bool.{cases_Bool, true≢false, eq-eqb, and_from}
use Rattle.std.proofs.lemmas.List.Concat.{flat_map-cons}
use Rattle.cx_plan.specs.declared.variable.VarId.{VarId}
use Rattle.cx_plan.specs.declared.variable.VarInfo.{VarInfo}
use Rattle.cx_plan.specs.Lists.{first_of_each}
use Rattle.cx_plan.specs.Lookups.{variable}
use Rattle.cx_plan.specs.Setups.{Setup}
use Rattle.cx_cut.specs.Cuts.{Parts, part_count}
use Rattle.cx_ascii_read.specs.declared.record.Record.{Record}
use Rattle.cx_ascii_read.specs.Printed.{sizes_of}
use Rattle.cx_chunks.specs.declared.piece.Piece.{Piece}
use Rattle.cx_chunks.specs.declared.piece.Piece.TheVariants.{Line}
use Rattle.cx_chunks.specs.Cutting.{IsRecordOf, IsOutputOf, AreOutputs, own_of, line_in, section_in, pieces_by, pieces_in, pieces_of}
use Rattle.cx_chunks.specs.Combining.{full_of, iteration_of, is_at, is_twin, is_output, is_own, is_stranger}
use Rattle.cx_chunks.proofs.RisingLaws.{Pairs, has}
use Rattle.cx_chunks.proofs.PieceLists.{name_is, find_after, find_before, any_after, any_before, pairs_append, other_name, all_named, any_at, found, no_twins}
use Rattle.cx_ascii_read.proofs.RowLaws.{all-append}

-- ---- a variable and its records among all of them

abbrev pub Stands : VarId → List Record → List VarId → List (List Record) → Type 0
Stands v rs [] rss = ⊥
Stands v rs (w ∷ ws) [] = ⊥
Stands v rs (w ∷ ws) (ss ∷ sss) = ((w ≡ v) × (ss ≡ rs)) ⊎ Stands v rs ws sss

pub stands_all : (P : VarId → Type 0) (v : VarId) (rs : List Record) (ws : List VarId)
    (sss : List (List Record))
    → AllByRecursion P ws → Stands v rs ws sss → P v
stands_all P v rs [] sss all at = absurd at
stands_all P v rs (w ∷ ws) [] all at = absurd at
stands_all P v rs (w ∷ ws) (ss ∷ sss) all (inl is) = subst P is.0 all.0
stands_all P v rs (w ∷ ws) (ss ∷ sss) all (inr at) = stands_all P v rs ws sss all.1 at

pub any_stands : (p : VarId → Bool) (v : VarId) (rs : List Record) (ws : List VarId)
    (sss : List (List Record))
    → Stands v rs ws sss → p v ≡ true → list_any p ws ≡ true
any_stands p v rs [] sss at this = absurd at
any_stands p v rs (w ∷ ws) [] at this = absurd at
any_stands p v rs (w ∷ ws) (ss ∷ sss) (inl is) this = rw (ap p is.0 ∙ this) refl
any_stands p v rs (w ∷ ws) (ss ∷ sss) (inr at) this =
    ap (λ b. p w || b) (any_stands p v rs ws sss at this) ∙ or_true (p w)
  where
    or_true : (b : Bool) → (b || true) ≡ true
    or_true true = refl
    or_true false = refl

abbrev pub times : List Record → List ℕ
times rs = map (λ (r : Record). r.iteration) rs

module _ (setup : Setup) where
  abbrev pub name : VarId → List ℕ
  name v = (variable setup v).full

  abbrev pub Apart : List VarId → Type 0
  Apart vs = Pairs (λ v w. name v ≢ name w) vs

  pub stands_output : (v : VarId) (rs : List Record) (ws : List VarId) (sss : List (List Record))
      → AreOutputs setup ws sss → Stands v rs ws sss → IsOutputOf setup (variable setup v) rs
  stands_output v rs [] sss are at = absurd at
  stands_output v rs (w ∷ ws) [] are at = absurd at
  stands_output v rs (w ∷ ws) (ss ∷ sss) are (inl is) =
      subst (λ u. IsOutputOf setup (variable setup u) rs) is.0
      (subst (IsOutputOf setup (variable setup w)) is.1 are.0)
  stands_output v rs (w ∷ ws) (ss ∷ sss) are (inr at) = stands_output v rs ws sss are.1 at

  -- what holds of each variable and its records, joined
  pub map_stands : {A : Type 0} (f : VarId → A) (g : List Record → A) (ws : List VarId)
      (sss : List (List Record))
      → AreOutputs setup ws sss → ((v : VarId) (rs : List Record) → Stands v rs ws sss → f v ≡ g rs)
      → map f ws ≡ map g sss
  map_stands f g [] [] are same = refl
  map_stands f g [] (ss ∷ sss) are same = absurd are
  map_stands f g (w ∷ ws) [] are same = absurd are
  map_stands f g (w ∷ ws) (ss ∷ sss) are same =
      ap (λ a. a ∷ map f ws) (same w ss (inl (refl, refl)))
      ∙ ap (λ others. g ss ∷ others) (map_stands f g ws sss are.1 (λ v rs at. same v rs (inr at)))

  pub first_stands : {A : Type 0} (f : VarId → Option A) (ws : List VarId)
      (sss : List (List Record))
      → AreOutputs setup ws sss → ((v : VarId) (rs : List Record) → Stands v rs ws sss → f v ≡ None)
      → first_of_each f ws ≡ None
  first_stands f [] sss are none = refl
  first_stands f (w ∷ ws) [] are none = absurd are
  first_stands f (w ∷ ws) (ss ∷ sss) are none =
      rw (none w ss (inl (refl, refl)))
      (first_stands f ws sss are.1 (λ v rs at. none v rs (inr at)))

  pub named_records : (v : VarInfo) (rs : List Record) → AllByRecursion (IsRecordOf setup v) rs
      → AllByRecursion (λ (r : Record). r.full ≡ v.full) rs
  named_records v [] are = tt
  named_records v (r ∷ rs) are = (are.0.full, named_records v rs are.1)

  module _ (c : Parts) (grid : 1 ≤ setup.shape.dims) (k : ℕ) where
    -- what a part has of a variable's records
    abbrev pub group : List Record → List Piece
    group rs = flat_map (pieces_in c k) rs

    pub grid_group : (v : VarInfo) (rs : List Record) → v.scalar ≡ false
        → AllByRecursion (IsRecordOf setup v) rs
        → group rs ≡ map (section_in c k) rs
    grid_group v [] is are = refl
    grid_group v (r ∷ rs) is are =
        flat_map-cons (pieces_in c k) r rs
        ∙ ap (λ ps. ps ++ group rs) (go r.size refl)
        ∙ ap (λ ps. section_in c k r ∷ ps) (grid_group v rs is are.1)
      where
        some : (n : ℕ) → 1 ≤ n → [] ≡ sizes_of n setup.shape.n → ⊥
        some zero l e = absurd (omega (arith, l))
        some (suc n) l e = cc

        go : (size : List ℕ) → r.size ≡ size → pieces_by c k size r ≡ section_in c k r ∷ []
        go (n ∷ ns) e = refl
        go [] e =
            absurd (some setup.shape.dims grid
            (sym e ∙ are.0.size ∙ ap
            (λ b. if b then [] else sizes_of setup.shape.dims setup.shape.n) is))

    pub line_group : (v : VarInfo) (rs : List Record) → v.scalar ≡ true
        → AllByRecursion (IsRecordOf setup v) rs
        → group rs ≡ (if eqb k 0 then map Line rs else [])
    line_group v [] is are = go (eqb k 0)
      where
        go : (b : Bool) → [] ≡ (if b then map Line [] else [])
        go true = refl
        go false = refl
    line_group v (r ∷ rs) is are =
        flat_map-cons (pieces_in c k) r rs
        ∙ ap (λ (size : List ℕ). pieces_by c k size r ++ group rs)
        (are.0.size ∙ ap (λ b. if b then [] else sizes_of setup.shape.dims setup.shape.n) is)
        ∙ ap (λ ps. line_in k r ++ ps) (line_group v rs is are.1)
        ∙ go (eqb k 0)
      where
        go : (b : Bool) → (if b then Line r ∷ [] else []) ++ (if b then map Line rs else [])
            ≡ (if b then map Line (r ∷ rs) else [])
        go true = refl
        go false = refl

    -- ---- what holds of the pieces of a variable

    pub record IsGroup (v : VarInfo) (ps : List Piece) : Type 0 where
      pub names : AllByRecursion (λ p. full_of p ≡ v.full) ps
      pub twins : Pairs (λ p q. is_twin q p ≡ false) ps

    pub if_any : (b : Bool) (v : VarInfo) (ps : List Piece) → IsGroup v ps
        → IsGroup v (if b then ps else [])
    if_any true v ps is = is
    if_any false v ps is = record { names = tt; twins = tt }

    pub is_group : (v : VarInfo) (rs : List Record) → IsOutputOf setup v rs → IsGroup v (group rs)
    is_group v rs of = go (cases_Bool v.scalar)
      where
        named : AllByRecursion (λ (r : Record). r.full ≡ v.full) rs
        named = named_records v rs of.records

        go : (v.scalar ≡ true) ⊎ (v.scalar ≡ false) → IsGroup v (group rs)
        go (inl is) = subst (IsGroup v) (sym (line_group v rs is of.records))
            (if_any (eqb k 0) v (map Line rs) (record {
              names = all_named Line (λ r. refl) (λ r. refl) v.full rs named;
              twins = no_twins Line (λ r. refl) (λ r. refl) v.full rs of.rising;
            }))
        go (inr is) = subst (IsGroup v) (sym (grid_group v rs is of.records)) (record {
          names = all_named (section_in c k) (λ r. refl) (λ r. refl) v.full rs named;
          twins = no_twins (section_in c k) (λ r. refl) (λ r. refl) v.full rs of.rising;
        })

    -- no piece of other variables has this name
    pub not_named : (full : List ℕ) (ps : List Piece) (other : List ℕ) → full ≢ other
        → AllByRecursion (λ p. full_of p ≡ other) ps → AllByRecursion (λ p. full_of p ≢ full) ps
    not_named full [] other differs are = tt
    not_named full (p ∷ ps) other differs are =
        ((λ e. differs (sym e ∙ are.0)), not_named full ps other differs are.1)

    pub others_named : (full : List ℕ) (ws : List VarId) (sss : List (List Record))
        → AreOutputs setup ws sss
        → AllByRecursion (λ w. full ≢ name w) ws
        → AllByRecursion (λ p. full_of p ≢ full) (pieces_of c sss k)
    others_named full [] [] are differ = tt
    others_named full [] (ss ∷ sss) are differ = absurd are
    others_named full (w ∷ ws) [] are differ = absurd are
    others_named full (w ∷ ws) (ss ∷ sss) are differ =
        subst (AllByRecursion (λ p. full_of p ≢ full)) (sym (flat_map-cons group ss sss))
        (all-append (λ p. full_of p ≢ full) (group ss) (pieces_of c sss k)
        (not_named full (group ss) (name w) differ.0 (is_group (variable setup w) ss are.0).names)
        (others_named full ws sss are.1 differ.1))

    pub not_at : (full : List ℕ) (n : ℕ) (ps : List Piece)
        → AllByRecursion (λ p. full_of p ≢ full) ps
        → AllByRecursion (λ p. is_at full n p ≡ false) ps
    not_at full n [] are = tt
    not_at full n (p ∷ ps) are = (other_name full n p are.0, not_at full n ps are.1)

    -- what is looked for of a variable is looked for among its own pieces
    pub stands_find : (v : VarId) (rs : List Record) (n : ℕ) (ws : List VarId)
        (sss : List (List Record))
        → AreOutputs setup ws sss → Apart ws → Stands v rs ws sss
        → find (is_at (name v) n) (pieces_of c sss k) ≡ find (is_at (name v) n) (group rs)
    stands_find v rs n [] sss are apart at = absurd at
    stands_find v rs n (w ∷ ws) [] are apart at = absurd at
    stands_find v rs n (w ∷ ws) (ss ∷ sss) are apart (inl is) =
        ap (find (is_at (name v) n)) (flat_map-cons group ss sss)
        ∙ find_before (is_at (name v) n) (group ss) (pieces_of c sss k)
        (not_at (name v) n (pieces_of c sss k) (others_named (name v) ws sss are.1
        (subst (λ u. AllByRecursion (λ x. name u ≢ name x) ws) is.0 apart.0)))
        ∙ ap (λ (us : List Record). find (is_at (name v) n) (group us)) is.1
    stands_find v rs n (w ∷ ws) (ss ∷ sss) are apart (inr at) =
        ap (find (is_at (name v) n)) (flat_map-cons group ss sss)
        ∙ find_after (is_at (name v) n) (group ss) (pieces_of c sss k)
        (not_at (name v) n (group ss) (not_named (name v) (group ss) (name w)
        (λ e. stands_all (λ u. name w ≢ name u) v rs ws sss apart.0 at (sym e))
        (is_group (variable setup w) ss are.0).names))
        ∙ stands_find v rs n ws sss are.1 apart.1 at

    pub stands_any : (v : VarId) (rs : List Record) (n : ℕ) (ws : List VarId)
        (sss : List (List Record))
        → AreOutputs setup ws sss → Apart ws → Stands v rs ws sss
        → list_any (is_at (name v) n) (pieces_of c sss k) ≡ list_any (is_at (name v) n) (group rs)
    stands_any v rs n [] sss are apart at = absurd at
    stands_any v rs n (w ∷ ws) [] are apart at = absurd at
    stands_any v rs n (w ∷ ws) (ss ∷ sss) are apart (inl is) =
        ap (list_any (is_at (name v) n)) (flat_map-cons group ss sss)
        ∙ any_before (is_at (name v) n) (group ss) (pieces_of c sss k)
        (not_at (name v) n (pieces_of c sss k) (others_named (name v) ws sss are.1
        (subst (λ u. AllByRecursion (λ x. name u ≢ name x) ws) is.0 apart.0)))
        ∙ ap (λ (us : List Record). list_any (is_at (name v) n) (group us)) is.1
    stands_any v rs n (w ∷ ws) (ss ∷ sss) are apart (inr at) =
        ap (list_any (is_at (name v) n)) (flat_map-cons group ss sss)
        ∙ any_after (is_at (name v) n) (group ss) (pieces_of c sss k)
        (not_at (name v) n (group ss) (not_named (name v) (group ss) (name w)
        (λ e. stands_all (λ u. name w ≢ name u) v rs ws sss apart.0 at (sym e))
        (is_group (variable setup w) ss are.0).names))
        ∙ stands_any v rs n ws sss are.1 apart.1 at

    -- no two pieces of a chunk are twins
    pub chunk_twins : (ws : List VarId) (sss : List (List Record)) → AreOutputs setup ws sss
        → Apart ws
        → Pairs (λ p q. is_twin q p ≡ false) (pieces_of c sss k)
    chunk_twins [] [] are apart = tt
    chunk_twins [] (ss ∷ sss) are apart = absurd are
    chunk_twins (w ∷ ws) [] are apart = absurd are
    chunk_twins (w ∷ ws) (ss ∷ sss) are apart =
        subst (Pairs (λ p q. is_twin q p ≡ false)) (sym (flat_map-cons group ss sss))
        (pairs_append (λ p q. is_twin q p ≡ false) (group ss) (pieces_of c sss k)
        (is_group (variable setup w) ss are.0).twins (chunk_twins ws sss are.1 apart.1)
        (both (group ss) (is_group (variable setup w) ss are.0).names))
      where
        rest : AllByRecursion (λ p. full_of p ≢ name w) (pieces_of c sss k)
        rest = others_named (name w) ws sss are.1 apart.0

        both : (ps : List Piece) → AllByRecursion (λ p. full_of p ≡ name w) ps
            → AllByRecursion (λ p. AllByRecursion (λ q. is_twin q p ≡ false) (pieces_of c sss k)) ps
        both [] are_named = tt
        both (p ∷ ps) are_named = (
          not_at (full_of p) (iteration_of p) (pieces_of c sss k)
              (subst (λ full. AllByRecursion (λ q. full_of q ≢ full) (pieces_of c sss k))
              (sym are_named.0) rest),
          both ps are_named.1,
        )

    -- ---- which iterations a variable has, and what is found at them

    pub any_group : (v : VarInfo) (rs : List Record) (n : ℕ) → IsOutputOf setup v rs
        → list_any (is_at v.full n) (group rs)
        ≡ (if v.scalar then (if eqb k 0 then has n (times rs) else false) else has n (times rs))
    any_group v rs n of = go (cases_Bool v.scalar)
      where
        named : AllByRecursion (λ (r : Record). r.full ≡ v.full) rs
        named = named_records v rs of.records

        line : (b : Bool) → list_any (is_at v.full n) (if b then map Line rs else [])
            ≡ (if b then has n (times rs) else false)
        line true = any_at Line (λ r. refl) (λ r. refl) v.full n rs named
        line false = refl

        go : (v.scalar ≡ true) ⊎ (v.scalar ≡ false)
            → list_any (is_at v.full n) (group rs)
            ≡ (if v.scalar then (if eqb k 0 then has n (times rs) else false) else has n (times rs))
        go (inl is) =
            ap (list_any (is_at v.full n)) (line_group v rs is of.records) ∙ line (eqb k 0)
            ∙ ap (λ b. if b then (if eqb k 0 then has n (times rs) else false)
            else has n (times rs)) (sym is)
        go (inr is) =
            ap (list_any (is_at v.full n)) (grid_group v rs is of.records)
            ∙ any_at (section_in c k) (λ r. refl) (λ r. refl) v.full n rs named
            ∙ ap (λ b. if b then (if eqb k 0 then has n (times rs) else false)
            else has n (times rs)) (sym is)

    pub grid_found : (v : VarInfo) (rs : List Record) → v.scalar ≡ false → IsOutputOf setup v rs
        → AllByRecursion (λ (r : Record). find (is_at v.full r.iteration) (group rs)
        ≡ Some (section_in c k r)) rs
    grid_found v rs is of =
        subst (λ ps. AllByRecursion
        (λ (r : Record). find (is_at v.full r.iteration) ps ≡ Some (section_in c k r)) rs)
        (sym (grid_group v rs is of.records))
        (found (section_in c k) (λ r. refl) (λ r. refl) v.full rs (named_records v rs of.records)
        of.rising)

    pub line_found : (v : VarInfo) (rs : List Record) → v.scalar ≡ true → k ≡ 0
        → IsOutputOf setup v rs
        → AllByRecursion (λ (r : Record). find (is_at v.full r.iteration) (group rs)
        ≡ Some (Line r)) rs
    line_found v rs is first of =
        subst (λ ps. AllByRecursion
        (λ (r : Record). find (is_at v.full r.iteration) ps ≡ Some (Line r)) rs)
        (sym (line_group v rs is of.records
        ∙ ap (λ b. if b then map Line rs else []) (eq-eqb k 0 first)))
        (found Line (λ r. refl) (λ r. refl) v.full rs (named_records v rs of.records) of.rising)

    -- ---- no piece is a stranger

    pub own_both : (a b : Bool) → a ≡ true → b ≡ true → not (a && b) ≡ false
    own_both true true e f = refl
    own_both true false e f = absurd (true≢false (sym f))
    own_both false b e f = absurd (true≢false (sym e))

    pub own_section : (r : Record) → is_output setup false r.full ≡ true
        → is_stranger setup (own_of c k) (section_in c k r) ≡ false
    own_section r output =
        let own = own_of c k in
        let mine : is_own own k (part_count c) own.place.from own.size ≡ true =
        and_from (eqb k k) _ (eq-eqb k k refl)
        (and_from (eqb (part_count c) (part_count c)) _ (eq-eqb (part_count c) (part_count c) refl)
        (and_from (bytes_eq own.place.from own.place.from) (bytes_eq own.size own.size)
        (name_is own.place.from own.place.from refl) (name_is own.size own.size refl))) in
        own_both (is_output setup false r.full)
        (is_own own k (part_count c) own.place.from own.size) output mine

    pub own_line : (r : Record) → is_output setup true r.full ≡ true → eqb k 0 ≡ true
        → is_stranger setup (own_of c k) (Line r) ≡ false
    own_line r output first = own_both (is_output setup true r.full) (eqb k 0) output first

    pub own_all : (f : Record → Piece) (full : List ℕ) (rs : List Record)
        → ((r : Record) → r.full ≡ full → is_stranger setup (own_of c k) (f r) ≡ false)
        → AllByRecursion (λ (r : Record). r.full ≡ full) rs
        → AllByRecursion (λ p. is_stranger setup (own_of c k) p ≡ false) (map f rs)
    own_all f full [] each are = tt
    own_all f full (r ∷ rs) each are = (each r are.0, own_all f full rs each are.1)

    pub own_group : (v : VarInfo) (rs : List Record) → IsOutputOf setup v rs
        → ((scalar : Bool) → v.scalar ≡ scalar → is_output setup scalar v.full ≡ true)
        → AllByRecursion (λ p. is_stranger setup (own_of c k) p ≡ false) (group rs)
    own_group v rs of output = go (cases_Bool v.scalar)
      where
        named : AllByRecursion (λ (r : Record). r.full ≡ v.full) rs
        named = named_records v rs of.records

        lines : (b : Bool) → v.scalar ≡ true → eqb k 0 ≡ b
            → AllByRecursion (λ p. is_stranger setup (own_of c k) p ≡ false)
            (if b then map Line rs else [])
        lines true is first =
            own_all Line v.full rs
            (λ r e. own_line r (ap (is_output setup true) e ∙ output true is) first) named
        lines false is first = tt

        go : (v.scalar ≡ true) ⊎ (v.scalar ≡ false)
            → AllByRecursion (λ p. is_stranger setup (own_of c k) p ≡ false) (group rs)
        go (inl is) =
            subst (AllByRecursion (λ p. is_stranger setup (own_of c k) p ≡ false))
            (sym (line_group v rs is of.records)) (lines (eqb k 0) is refl)
        go (inr is) =
            subst (AllByRecursion (λ p. is_stranger setup (own_of c k) p ≡ false))
            (sym (grid_group v rs is of.records))
            (own_all (section_in c k) v.full rs
            (λ r e. own_section r (ap (is_output setup false) e ∙ output false is)) named)

    pub chunk_own : (vs : List VarId) (rss : List (List Record)) → AreOutputs setup vs rss
        → ((v : VarId) (rs : List Record) → Stands v rs vs rss → (scalar : Bool)
        → (variable setup v).scalar ≡ scalar → is_output setup scalar (name v) ≡ true)
        → AllByRecursion (λ p. is_stranger setup (own_of c k) p ≡ false) (pieces_of c rss k)
    chunk_own [] [] are output = tt
    chunk_own [] (ss ∷ sss) are output = absurd are
    chunk_own (w ∷ ws) [] are output = absurd are
    chunk_own (w ∷ ws) (ss ∷ sss) are output =
        subst (AllByRecursion (λ p. is_stranger setup (own_of c k) p ≡ false))
        (sym (flat_map-cons group ss sss))
        (all-append (λ p. is_stranger setup (own_of c k) p ≡ false) (group ss) (pieces_of c sss k)
        (own_group (variable setup w) ss are.0 (output w ss (inl (refl, refl))))
        (chunk_own ws sss are.1 (λ v rs at. output v rs (inr at))))
