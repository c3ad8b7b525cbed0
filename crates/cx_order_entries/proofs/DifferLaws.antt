-- The names at a place differ where no two entries have one name.
use Rattle.std.proofs.Common.{◌≡◌, refl, sym, ◌∙◌, ap, ℕ, Bool, true, false, ◌||◌, ◌&&◌, eqb-true, eq-eqb, List, [], ◌∷◌, ◌++◌, map, Option, Some, None, append-nil}
use Rattle.std.specs.List.{list_any}
use Rattle.std.specs.Option.{option_map}
use Rattle.std.specs.Str.{bytes_eq}
use Rattle.std.proofs.lemmas.Bool.{false≢true}
use Rattle.std.proofs.lemmas.List.{map-append}
use Rattle.std.proofs.lemmas.List.Elements.{filter-append}
use Rattle.cx_text.specs.Lexemes.{same_name}
use Rattle.cx_plan.specs.Lists.{once, once_behind, first_again, first_again_behind}
use Rattle.cx_sched.specs.declared.tree.Spot.{Spot}
use Rattle.cx_sched.specs.declared.tree.Spot.TheVariants.{At, Inside}
use Rattle.cx_order_entries.specs.Bins.{bin_of}
use Rattle.cx_order_entries.specs.Counted.{Entry}
use Rattle.cx_order_entries.specs.Entries.{Place, Bin, Group, is_bin, stands_at, entries_at, entry_name, same_bin, same_spot, clash, names_fault}
use Rattle.cx_order_entries.specs.Members.{key_name}
use Rattle.cx_order_entries.proofs.OnceLaws.{name_same}

one_bin : (b : ℕ) (o q : Option ℕ) → is_bin b o ≡ true → is_bin b q ≡ true → same_bin o q ≡ true
one_bin b None q h k = absurd (false≢true h)
one_bin b (Some c) None h k = absurd (false≢true k)
one_bin b (Some c) (Some d) h k = eq-eqb c d (sym (eqb-true b c h) ∙ eqb-true b d k)

same-place : (p : Place) (s t : Spot) → stands_at p s ≡ true → stands_at p t ≡ true
    → same_spot s t ≡ true
same-place (Bin b) (At m) (At n) h k = one_bin b (bin_of m) (bin_of n) h k
same-place (Bin b) (At m) (Inside n) h k = absurd (false≢true k)
same-place (Bin b) (Inside m) t h k = absurd (false≢true h)
same-place (Group g) (Inside m) (Inside n) h k = sym (name_same.agree g m n h) ∙ k
same-place (Group g) (Inside m) (At n) h k = absurd (false≢true k)
same-place (Group g) (At m) t h k = absurd (false≢true h)

or_parts : (a b : Bool) → (a || b) ≡ false → (a ≡ false) × (b ≡ false)
or_parts false b e = (refl, e)
or_parts true b e = absurd (false≢true (sym e))

no-clash : (p : Place) (x : Entry) → stands_at p x.block.spot ≡ true → (before : List Entry)
    → list_any (clash x) before ≡ false
    → list_any (bytes_eq (key_name x)) (map key_name (entries_at before p)) ≡ false
no-clash p x here [] h = refl
no-clash p x here (b ∷ bs) h =
    by (stands_at p b.block.spot) refl
    (no-clash p x here bs (or_parts (clash x b) (list_any (clash x) bs) h).1)
  where
    apart : stands_at p b.block.spot ≡ true → bytes_eq (key_name x) (key_name b) ≡ false
    apart f = ap (λ t. t && same_name (entry_name x) (entry_name b))
        (sym (same-place p x.block.spot b.block.spot here f))
        ∙ (or_parts (clash x b) (list_any (clash x) bs) h).0

    by : (t : Bool) → stands_at p b.block.spot ≡ t
        → list_any (bytes_eq (key_name x)) (map key_name (entries_at bs p)) ≡ false
        → list_any (bytes_eq (key_name x)) (map key_name (entries_at (b ∷ bs) p)) ≡ false
    by true f rest = let a = apart f in rw (f, a) rest
    by false f rest = rw f rest

differ : (p : Place) (before es : List Entry) → first_again_behind clash before es ≡ None
    → once_behind bytes_eq (map key_name (entries_at before p)) (map key_name (entries_at es p))
    ≡ map key_name (entries_at es p)
differ p before [] h = refl
differ p before (x ∷ es) h =
    by_clash (list_any (clash x) before) refl (differ p (before ++ x ∷ []) es)
  where
    more : (t : Bool) → stands_at p x.block.spot ≡ t
        → map key_name (entries_at (before ++ x ∷ []) p)
        ≡ map key_name (entries_at before p) ++ map key_name (entries_at (x ∷ []) p)
    more t f = ap (map key_name) (filter-append (λ e. stands_at p e.block.spot) before (x ∷ []))
        ∙ map-append key_name (entries_at before p) (entries_at (x ∷ []) p)

    by : list_any (clash x) before ≡ false → (t : Bool) → stands_at p x.block.spot ≡ t
        → once_behind bytes_eq (map key_name (entries_at (before ++ x ∷ []) p))
        (map key_name (entries_at es p)) ≡ map key_name (entries_at es p)
        → once_behind bytes_eq (map key_name (entries_at before p))
        (map key_name (entries_at (x ∷ es) p)) ≡ map key_name (entries_at (x ∷ es) p)
    by e true f rest =
        let n = no-clash p x f before e in
        let m : map key_name (entries_at (before ++ x ∷ []) p)
        ≡ map key_name (entries_at before p) ++ key_name x ∷ [] = more true f ∙ rw f refl in
        rw (f, n) (ap (λ r. key_name x ∷ r)
        (ap (λ b. once_behind bytes_eq b (map key_name (entries_at es p))) (sym m) ∙ rest))
    by e false f rest =
        let m : map key_name (entries_at (before ++ x ∷ []) p)
        ≡ map key_name (entries_at before p) =
        more false f ∙ rw f (append-nil (map key_name (entries_at before p))) in
        rw f (ap (λ b. once_behind bytes_eq b (map key_name (entries_at es p))) (sym m) ∙ rest)

    by_clash : (t : Bool) → list_any (clash x) before ≡ t
        → (first_again_behind clash (before ++ x ∷ []) es ≡ None
        → once_behind bytes_eq (map key_name (entries_at (before ++ x ∷ []) p))
        (map key_name (entries_at es p)) ≡ map key_name (entries_at es p))
        → once_behind bytes_eq (map key_name (entries_at before p))
        (map key_name (entries_at (x ∷ es) p)) ≡ map key_name (entries_at (x ∷ es) p)
    by_clash true e rest = absurd (let g : Some x ≡ None = (rw e at h) in cc g)
    by_clash false e rest = by e (stands_at p x.block.spot) refl (rest (rw e at h))

none-of : {X Y : Type 0} (f : X → Y) (o : Option X) → option_map f o ≡ None → o ≡ None
none-of f None e = refl
none-of f (Some x) e = absurd (cc e)

-- the names at a place, each once
pub names-differ : (es : List Entry) (p : Place) → names_fault es ≡ None
    → once bytes_eq (map key_name (entries_at es p)) ≡ map key_name (entries_at es p)
names-differ es p none = differ p [] es (none-of _ (first_again clash es) none)
