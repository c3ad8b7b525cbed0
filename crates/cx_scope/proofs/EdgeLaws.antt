-- Edges and rows, one more at a time.
use Rattle.std.proofs.Common.{◌≡◌, refl, sym, ◌∙◌, ap, subst, inl, inr, ℕ, ◌+◌, ◌<◌, Bool, true, false, ◌&&◌, ◌||◌, List, [], ◌∷◌, ◌++◌, length, eqb-true, eq-eqb, arith}
use Rattle.std.specs.Prelude.{◌↔◌, ◌==◌, nat_lt}
use Rattle.std.proofs.lemmas.Bool.{and_parts, and_from}
use Rattle.std.proofs.lemmas.Bool.Decides.{Decides-ltb, same_from_decides, not_from_Decides}
use Rattle.std.proofs.lemmas.List.{get_or_append_left}
use Rattle.std.proofs.Math.Seq.{get_or-append_seam}
use Rattle.cx_bind.specs.declared.thorns.Thorn.{Thorn}
use Rattle.cx_scope.specs.declared.edges.Tie.{Tie}
use Rattle.cx_scope.specs.Reach.{Edge, has_edge, Reach, ends_below}
use Rattle.cx_scope.specs.Relations.{active_implementations}
use Rattle.cx_scope.specs.Closures.{is_tied, AreTies, row_of, Closes, Links}
use Rattle.cx_scope.proofs.ReachLaws.{true_or_false, or-left, or-right, or-cases}
use Rattle.cx_plan.specs.Lists.{is_marked}

pub three_more : (names : List (List ℕ)) (a b c : List ℕ)
    → ((names ++ a ∷ []) ++ b ∷ []) ++ c ∷ [] ≡ names ++ a ∷ b ∷ c ∷ []
three_more [] a b c = refl
three_more (n ∷ names) a b c = ap (λ rest. n ∷ rest) (three_more names a b c)

-- ---- numbers below one more

below_or_at : (b k : ℕ) → b < k + 1 → (nat_lt b k || b == k) ≡ true
below_or_at b k h = elim (true_or_false (nat_lt b k)) [
  | inl t ↦ or-left (nat_lt b k) (b == k) t
  | inr f ↦ (let not_below = not_from_Decides (nat_lt b k) (Decides-ltb b k) f in
      let same : b ≡ k = omega (arith, h, not_below) in
      or-right (nat_lt b k) (b == k) (eq-eqb b k same))
]

below_one_more : (b k : ℕ) → (nat_lt b k || b == k) ≡ true → b < k + 1
below_one_more b k h = elim (or-cases (nat_lt b k) (b == k) h) [
  | inl t ↦ (let below : b < k = (Decides-ltb b k).0 t in omega (arith, below))
  | inr e ↦ (let same : b ≡ k = eqb-true b k e in omega (arith, same))
]

lt_more : (b k : ℕ) → nat_lt b (k + 1) ≡ (nat_lt b k || b == k)
lt_more b k = same_from_decides (nat_lt b (k + 1)) (nat_lt b k || b == k) (Decides-ltb b (k + 1))
    (below_one_more b k, below_or_at b k)

pub none_below : (b : ℕ) → nat_lt b 0 ≡ false
none_below b = elim (true_or_false (nat_lt b 0)) [
  | inl t ↦ (let below : b < 0 = (Decides-ltb b 0).0 t in
      absurd (let no : ⊥ = omega (arith, below) in no))
  | inr f ↦ f
]

joined : (X A L E F G : Bool) → (E ≡ true → F ≡ G)
    → ((X || (A && (L && F))) || (A && (E && G))) ≡ (X || (A && ((L || E) && F)))
joined true A L E F G h = refl
joined false false L E F G h = refl
joined false true true true true G h = refl
joined false true true true false G h = sym (h refl)
joined false true true false true G h = refl
joined false true true false false G h = refl
joined false true false true F G h = sym (h refl)
joined false true false false F G h = refl

pub one_more : (X A : Bool) (f : ℕ → Bool) (b k : ℕ)
    → ((X || (A && (nat_lt b k && f b))) || (A && (b == k && f k)))
    ≡ (X || (A && (nat_lt b (k + 1) && f b)))
one_more X A f b k =
    joined X A (nat_lt b k) (b == k) (f b) (f k) (λ e. ap f (eqb-true b k e))
    ∙ ap (λ l. X || (A && (l && f b))) (sym (lt_more b k))

pub nothing_yet : (X A : Bool) (f : ℕ → Bool) (b : ℕ) → X ≡ (X || (A && (nat_lt b 0 && f b)))
nothing_yet true A f b = refl
nothing_yet false false f b = refl
nothing_yet false true f b = sym (ap (λ l. l && f b) (none_below b))

-- one edge more from a number
pub to_more : (X A : Bool) (f : ℕ → Bool) (b k : ℕ) {e e2 t : Bool}
    → e ≡ (X || (A && (nat_lt b k && f b))) → t ≡ f k → e2 ≡ (e || (A && (b == k && t)))
    → e2 ≡ (X || (A && (nat_lt b (k + 1) && f b)))
to_more X A f b k {e = e} before tied after =
    after ∙ ap (λ t. e || (A && (b == k && t))) tied ∙ ap (λ e. e || (A && (b == k && f k))) before
    ∙ one_more X A f b k

-- the edges from one number more
pub from_more : (f : ℕ → Bool) (a k : ℕ) {e e2 : Bool} → e ≡ (nat_lt a k && f a)
    → e2 ≡ (e || (a == k && f k)) → e2 ≡ (nat_lt a (k + 1) && f a)
from_more f a k before after =
    after ∙ ap (λ e. e || (a == k && f k)) before ∙ one_more false true f a k

-- ---- where edges end

inner_edge : (x : Edge) (edges : List Edge) (a b : ℕ) → has_edge edges a b ≡ true
    → has_edge (x ∷ edges) a b ≡ true
inner_edge x edges a b h = or-right (x.0 == a && x.1 == b) (has_edge edges a b) h

ends : (count : ℕ) (edges : List Edge) → ((a b : ℕ) → has_edge edges a b ≡ true → b < count)
    → ends_below count edges ≡ true
ends count [] all = refl
ends count (x ∷ xs) all =
    and_from (nat_lt x.1 count) (ends_below count xs)
    ((Decides-ltb x.1 count).1
    (all x.0 x.1 (or-left (x.0 == x.0 && x.1 == x.1) (has_edge xs x.0 x.1)
    (and_from (x.0 == x.0) (x.1 == x.1) (eq-eqb x.0 x.0 refl) (eq-eqb x.1 x.1 refl)))))
    (ends count xs (λ a b h. all a b (inner_edge x xs a b h)))

ties_below : (thorns : List Thorn) (names : List (List ℕ)) (tie : Tie) (edges : List Edge)
    → AreTies thorns names tie edges → ends_below (length names) edges ≡ true
ties_below thorns names tie edges are =
    ends (length names) edges
    (λ a b h. (Decides-ltb b (length names)).0
    (and_parts (nat_lt b (length names)) (is_tied thorns names tie a b)
    (and_parts (nat_lt a (length names))
    (nat_lt b (length names) && is_tied thorns names tie a b) (sym (are a b) ∙ h)).1).0)

-- ---- one row more

abbrev pub Marks : List Edge → List (List Bool) → ℕ → Type 0
Marks edges rows a = (b : ℕ) → (is_marked (row_of rows a) b ≡ true) ↔ Reach edges a b

pub row_more : (edges : List Edge) (k : ℕ) (rows rows2 : List (List Bool)) (row : List Bool)
    → length rows ≡ k → ((a : ℕ) → a < k → Marks edges rows a)
    → ((b : ℕ) → (is_marked row b ≡ true) ↔ Reach edges k b) → rows2 ≡ rows ++ row ∷ [] → (a : ℕ)
    → a < k + 1 → Marks edges rows2 a
row_more edges k rows rows2 row long before one after a within =
    (let M : List (List Bool) → Type 0 = λ r. Marks edges r a in subst M (sym after) here)
  where
    at_end : a ≡ k → Marks edges (rows ++ row ∷ []) a
    at_end same = (let R : List Bool → Type 0 = λ r. (b : ℕ)
        → (is_marked r b ≡ true) ↔ Reach edges a b in
        let K : ℕ → Type 0 = λ n. (b : ℕ) → (is_marked row b ≡ true) ↔ Reach edges n b in
        let at : row_of (rows ++ row ∷ []) a ≡ row =
        ap (λ n. row_of (rows ++ row ∷ []) n) (same ∙ sym long)
        ∙ get_or-append_seam rows row [] [] in
        subst R (sym at) (subst K (sym same) one))

    earlier : a < k → Marks edges (rows ++ row ∷ []) a
    earlier less = (let R : List Bool → Type 0 = λ r. (b : ℕ)
        → (is_marked r b ≡ true) ↔ Reach edges a b in
        subst R (sym (get_or_append_left rows (row ∷ []) [] a (omega (arith, less, long))))
        (before a less))

    here : Marks edges (rows ++ row ∷ []) a
    here = elim (true_or_false (nat_lt a k)) [
      | inl t ↦ earlier ((Decides-ltb a k).0 t)
      | inr f ↦ (let not_below = not_from_Decides (nat_lt a k) (Decides-ltb a k) f in
          at_end (omega (arith, within, not_below)))
    ]

module _ (thorns : List Thorn) (tie : Tie) (seen names : List (List ℕ))
    (edges seen_edges : List Edge) (count : ℕ) (same : seen ≡ names)
    (are : AreTies thorns seen tie edges) (same_edges : seen_edges ≡ edges)
    (all : count ≡ length names) where
  pub ties_end : ends_below count seen_edges ≡ true
  ties_end =
      ap (λ n. ends_below n seen_edges) (all ∙ ap length (sym same))
      ∙ ap (λ es. ends_below (length seen) es) same_edges ∙ ties_below thorns seen tie edges are

  pub linked : (rows : List (List Bool)) → names ≡ active_implementations thorns
      → Closes seen_edges count rows → Links thorns tie rows
  linked rows named closes =
      let A : List (List ℕ) → Type 0 = λ n. AreTies thorns n tie edges in
      let E : List Edge → Type 0 = λ es. Closes es count rows in
      let C : ℕ → Type 0 = λ n. Closes edges n rows in (
        edges,
        (
          subst A (same ∙ named) are,
          subst C (all ∙ ap length named) (subst E same_edges closes),
        ),
      )
