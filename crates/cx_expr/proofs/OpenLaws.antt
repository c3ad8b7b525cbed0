-- Behind a derived list each token may follow, or the list goes on with it.
use Rattle.std.proofs.Common.{◌≡◌, ℕ, Bool, true, false, List, [], ◌∷◌, ◌++◌, Option, Some, None, refl, sym, ap, subst, ◌∙◌, inl, inr, append_assoc}
use Rattle.std.specs.Prelude.{◌⊎◌, MatchBool}
use Rattle.std.proofs.lemmas.List.{append-nil}
use Rattle.cx_text.specs.declared.stop.Mark.{Mark}
use Rattle.cx_text.specs.declared.token.Token.{Token}
use Rattle.cx_text.specs.Tokens.{is_line_end}
use Rattle.cx_text.specs.Grammar.{Item, next_of, passes}
use Rattle.cx_text.specs.Rules.{Rule, token, nothing, ◌>>=◌, choice, turns, loop, if_is, one_line_end, line_ends, lexeme}
use Rattle.cx_text.proofs.Laws.{Means}
use Rattle.cx_text.proofs.Choice.{at_test, at_other}
use Rattle.cx_expr.specs.AtMost.{left_behind, is_over, limit_mark, limited, at_most}
use Rattle.cx_text.proofs.RuleLaws.{Good, Full, Ends, Part, Any, Not, a_line_end, turns_good, token_is_full, nothing_ends, line_ends_good, line_ends_empty, empty_also_ends, token_good, lexeme_good}

-- the list goes on with a token
abbrev pub GoesOn : {A : Type 0} → Rule A → List Item → Token → Type 0
GoesOn {A} r ms t = (y : A) × (m : Option Mark) × (more : List Item)
    × r.derives y (ms ++ (t, m) ∷ more) None

pub record Open {A : Type 0} (r : Rule A) : Type 0 where
  pub law : (x : A) (ms : List Item) (t : Token) → r.derives x ms None
      → r.derives x ms (Some t) ⊎ GoesOn r ms t

-- each token that passes begins a derived list
pub record Starts {A : Type 0} (test : Token → Bool) (r : Rule A) : Type 0 where
  pub law : (t : Token) → test t ≡ true
      → (y : A) × (m : Option Mark) × (more : List Item) × r.derives y ((t, m) ∷ more) None

pub nothing_open : {A : Type 0} {x : A} → Open (nothing x)
nothing_open = record { law = λ y ms t s. inl s }

pub token_open : {A : Type 0} {value : Token → Option A} {mark : Token → Option Mark}
    → Open (token value mark)
token_open = record { law = λ y ms t s. inl s }

-- ---- one rule, and then another

-- of what the second has: with a token, or without one
also_open_law : {A B : Type 0} (r : Rule A) (f : A → Rule B) (G : Option Token → Type 0) → Open r
    → ((x : A) → Open (f x)) → Good r G → ((x : A) → Ends (f x) None G)
    → (y : B) (ms : List Item) (t : Token) → (r >>= f).derives y ms None
    → (r >>= f).derives y ms (Some t) ⊎ GoesOn (r >>= f) ms t
also_open_law r f G first second good ends y ms t (x, front, b ∷ back, e, s, q) =
    elim ((second x).law y (b ∷ back) t q) [
      | inl p ↦ inl (x, front, b ∷ back, e, s, p)
      | inr g ↦ inr (
        g.0,
        g.1,
        g.2,
        (
          x,
          front,
          b ∷ (back ++ (t, g.1) ∷ g.2),
          ap (λ (is : List Item). is ++ (t, g.1) ∷ g.2) e
              ∙ append_assoc front (b ∷ back) ((t, g.1) ∷ g.2),
          s,
          g.3,
        ),
      )
    ]
also_open_law r f G first second good ends y ms t (x, front, [], e, s, q) =
    let whole : ms ≡ front = e ∙ append-nil front in
    elim (first.law x front t s) [
      | inl a ↦ elim ((second x).law y [] t q) [
        | inl p ↦ inl (x, front, [], e, a, p)
        | inr g ↦ inr (
          g.0,
          g.1,
          g.2,
          (x, front, (t, g.1) ∷ g.2, ap (λ (is : List Item). is ++ (t, g.1) ∷ g.2) whole, a, g.3),
        )
      ]
      | inr g ↦
          let d = (ends g.0).law in
          inr (
            d.0,
            g.1,
            g.2 ++ d.1,
            (
              g.0,
              front ++ (t, g.1) ∷ g.2,
              d.1,
              ap (λ (is : List Item). is ++ (t, g.1) ∷ (g.2 ++ d.1)) whole
                  ∙ sym (append_assoc front ((t, g.1) ∷ g.2) d.1),
              good.law.moves g.0 (front ++ (t, g.1) ∷ g.2) None (next_of d.1 None) g.3 d.3,
              d.2,
            ),
          )
    ]

pub also_open : {A B : Type 0} {r : Rule A} {f : A → Rule B} {G : Option Token → Type 0} → Open r
    → ((x : A) → Open (f x)) → Good r G → ((x : A) → Ends (f x) None G) → Open (r >>= f)
also_open {A} {B} {r} {f} {G} first second good ends =
    record { law = also_open_law r f G first second good ends }

-- ---- a choice

choice_open_law : {A : Type 0} (test : Token → Bool) (r s : Rule A) → Open r → Open s
    → Starts test r → (x : A) (ms : List Item) (t : Token) → (choice test r s).derives x ms None
    → (choice test r s).derives x ms (Some t) ⊎ GoesOn (choice test r s) ms t
choice_open_law {A} test r s first second starts x [] t d =
    let P : Bool → Type 0 = λ b. test t ≡ b
    → (choice test r s).derives x [] (Some t) ⊎ GoesOn (choice test r s) [] t in
    let at : (b : Bool) → P b = λ b. elim b as P [
      | true ↦ λ e. let g = starts.law t e in
          inr (
            g.0,
            g.1,
            g.2,
            at_test (test t) (r.derives g.0 ((t, g.1) ∷ g.2) None)
                (s.derives g.0 ((t, g.1) ∷ g.2) None) e g.3,
          )
      | false ↦ λ e. elim (second.law x [] t d) [
        | inl p ↦ inl (at_other (test t) (r.derives x [] (Some t)) (s.derives x [] (Some t)) e p)
        | inr g ↦ inr (
          g.0,
          g.1,
          g.2,
          at_other (test t) (r.derives g.0 ((t, g.1) ∷ g.2) None)
              (s.derives g.0 ((t, g.1) ∷ g.2) None) e g.3,
        )
      ]
    ] in
    at (test t) refl
choice_open_law {A} test r s first second starts x (i ∷ ms) t d =
    let D : Bool → Type 0 = λ b. MatchBool b (r.derives x (i ∷ ms) None) (s.derives x (i ∷ ms) None)
    → MatchBool b (r.derives x (i ∷ ms) (Some t)) (s.derives x (i ∷ ms) (Some t))
    ⊎ ((y : A) × (m : Option Mark) × (more : List Item)
    × MatchBool b (r.derives y (i ∷ (ms ++ (t, m) ∷ more)) None)
    (s.derives y (i ∷ (ms ++ (t, m) ∷ more)) None)) in
    let at : (b : Bool) → D b =
    λ b. elim b as D [
      | true ↦ λ p. first.law x (i ∷ ms) t p
      | false
          ↦ λ p. second.law x (i ∷ ms) t p
    ] in
    at (test i.0) d

pub choice_open : {A : Type 0} {test : Token → Bool} {r s : Rule A} → Open r → Open s
    → Starts test r → Open (choice test r s)
choice_open {A} {test} {r} {s} first second starts =
    record { law = choice_open_law test r s first second starts }

-- ---- again and again

turns_open_law : {C : Type 0} (test : Token → Bool) (r : C → Rule C) → ((c : C) → Open (r c))
    → ((c : C) → Starts test (r c)) → (xs : List C) (c : C) (ms : List Item) (t : Token)
    → (turns test r c).derives xs ms None
    → (turns test r c).derives xs ms (Some t) ⊎ GoesOn (turns test r c) ms t
turns_open_law test r each starts [] c ms t (stop, none) =
    let P : Bool → Type 0 = λ b. test t ≡ b
    → (turns test r c).derives [] ms (Some t) ⊎ GoesOn (turns test r c) ms t in
    let at : (b : Bool) → P b = λ b. elim b as P [
      | true ↦ λ e.
          let s = (starts c).law t e in
          inr (
            s.0 ∷ [],
            s.1,
            s.2,
            subst (λ (is : List Item).
                (turns test r c).derives (s.0 ∷ []) (is ++ (t, s.1) ∷ s.2) None) (sym none)
                (e, (t, s.1) ∷ s.2, [], sym (append-nil ((t, s.1) ∷ s.2)), s.3, (refl, refl)),
          )
      | false
          ↦ λ e. inl (
            subst (λ (is : List Item). passes test (next_of is (Some t)) ≡ false)
                (sym none) e,
            none,
          )
    ] in
    at (test t) refl
turns_open_law test r each starts (x ∷ xs) c [] t (go, front, back, e, s, q) = absurd cc
turns_open_law test r each starts (x ∷ xs) c (i ∷ ms) t (go, front, b ∷ back, e, s, q) =
    elim (turns_open_law test r each starts xs x (b ∷ back) t q) [
      | inl p ↦ inl (go, front, b ∷ back, e, s, p)
      | inr g ↦ inr (
        x ∷ g.0,
        g.1,
        g.2,
        (
          go,
          front,
          b ∷ (back ++ (t, g.1) ∷ g.2),
          ap (λ (is : List Item). is ++ (t, g.1) ∷ g.2) e
              ∙ append_assoc front (b ∷ back) ((t, g.1) ∷ g.2),
          s,
          g.3,
        ),
      )
    ]
turns_open_law test r each starts (x ∷ xs) c (i ∷ ms) t (go, front, [], e, s, q) =
    let whole : i ∷ ms ≡ front = e ∙ append-nil front in
    elim ((each c).law x front t s) [
      | inl a ↦ elim (turns_open_law test r each starts xs x [] t q) [
        | inl p ↦ inl (go, front, [], e, a, p)
        | inr g ↦ inr (
          x ∷ g.0,
          g.1,
          g.2,
          (
            go,
            front,
            (t, g.1) ∷ g.2,
            ap (λ (is : List Item). is ++ (t, g.1) ∷ g.2) whole,
            a,
            g.3,
          ),
        )
      ]
      | inr g ↦ inr (
        g.0 ∷ [],
        g.1,
        g.2,
        (
          go,
          front ++ (t, g.1) ∷ g.2,
          [],
          ap (λ (is : List Item). is ++ (t, g.1) ∷ g.2) whole
              ∙ sym (append-nil (front ++ (t, g.1) ∷ g.2)),
          g.3,
          (refl, refl),
        ),
      )
    ]

pub turns_open : {C : Type 0} {test : Token → Bool} {r : C → Rule C} {c : C}
    → ((d : C) → Open (r d)) → ((d : C) → Starts test (r d)) → Open (turns test r c)
turns_open {C} {test} {r} {c} each starts =
    record { law = λ xs ms t s. turns_open_law test r each starts xs c ms t s }

pub loop_open : {C : Type 0} {test : Token → Bool} {r : C → Rule C} {c : C}
    {G H : Option Token → Type 0} → ((d : C) → Good (r d) G) → ((d : C) → Full (r d))
    → ((n : Option Token) → H n → Not test n) → ((n : Option Token) → H n → G n) → H None
    → ((d : C) → Open (r d)) → ((d : C) → Starts test (r d)) → Open (loop test r c)
loop_open {C} {test} {r} {c} {G} {H} good full stays allows h each starts =
    also_open {G = H} (turns_open each starts) (λ cs. nothing_open)
    (turns_good good full stays allows) (λ cs. nothing_ends h)

-- ---- tokens

line_end_starts : (u : Unit {0}) → Starts is_line_end (one_line_end u)
line_end_starts u = record { law = λ t e. (tt, None, [], (t, rw e refl, refl)) }

line_ends_open : Open line_ends
line_ends_open = loop_open {G = Any} {H = Not is_line_end} (λ u. token_good a_line_end)
    (λ u. token_is_full) (λ n h. h) (λ n h. tt) refl (λ u. token_open) line_end_starts

pub lexeme_open : {A : Type 0} {value : Token → Option A} {mark : Token → Option Mark} → Means value
    → Open (lexeme value mark)
lexeme_open one = also_open {G = Any} token_open
    (λ x. also_open line_ends_open (λ u. nothing_open) line_ends_good (λ u. nothing_ends refl))
    (token_good one) (λ x. empty_also_ends line_ends_empty (λ n g. tt) (λ u. nothing_ends refl))

-- a token, and then a part
pub lexeme_then_open : {A B : Type 0} {value : Token → Option A} {mark : Token → Option Mark}
    {f : A → Rule B} {H : Option Token → Type 0} → Means value
    → ((x : A) → Part (f x) (Not is_line_end) H) → H None → ((x : A) → Open (f x))
    → Open (lexeme value mark >>= f)
lexeme_then_open one part h each =
    also_open (lexeme_open one) each (lexeme_good one) (λ x. (part x).ends None h)

pub lexeme_last_open : {A B : Type 0} {value : Token → Option A} {mark : Token → Option Mark}
    {g : A → B} → Means value → Open (lexeme value mark >>= λ x. nothing (g x))
lexeme_last_open one = also_open (lexeme_open one) (λ x. nothing_open) (lexeme_good one)
    (λ x. nothing_ends refl)

starts_derives : {A : Type 0} (value : Token → Option A) (mark : Token → Option Mark) (t : Token)
    (x : A) (n : Option Token) → value t ≡ Some x → Not is_line_end n
    → (lexeme value mark).derives x ((t, mark t) ∷ []) n
starts_derives value mark t x n is h = (
  x,
  (t, mark t) ∷ [],
  [],
  refl,
  (t, is, refl),
  (tt, [], [], refl, line_ends_empty.law n h, (refl, refl)),
)

pub lexeme_then_starts : {A B : Type 0} {test : Token → Bool} {value : Token → Option A}
    {mark : Token → Option Mark} {f : A → Rule B} {H : Option Token → Type 0}
    → ((t : Token) → test t ≡ true → (x : A) × (value t ≡ Some x))
    → ((x : A) → Part (f x) (Not is_line_end) H) → H None → Starts test (lexeme value mark >>= f)
lexeme_then_starts {A} {B} {test} {value} {mark} {f} means part h = record {
  law = λ t e.
      let x = means t e in
      let d = ((part x.0).ends None h).law in (
        d.0,
        mark t,
        d.1,
        (
          x.0,
          (t, mark t) ∷ [],
          d.1,
          refl,
          starts_derives value mark t x.0 (next_of d.1 None) x.1 d.3,
          d.2,
        ),
      );
}

pub lexeme_last_starts : {A B : Type 0} {test : Token → Bool} {value : Token → Option A}
    {mark : Token → Option Mark} {g : A → B}
    → ((t : Token) → test t ≡ true → (x : A) × (value t ≡ Some x))
    → Starts test (lexeme value mark >>= λ x. nothing (g x))
lexeme_last_starts {A} {B} {test} {value} {mark} {g} means = record {
  law = λ t e.
      let x = means t e in (
        g x.0,
        mark t,
        [],
        (
          x.0,
          (t, mark t) ∷ [],
          [],
          refl,
          starts_derives value mark t x.0 None x.1 refl,
          (refl, refl),
        ),
      );
}

-- the token of a test
pub if_means : (test : Token → Bool) (t : Token) → test t ≡ true
    → (x : Unit {0}) × (if_is test t ≡ Some x)
if_means test t e = (tt, rw e refl)

-- ---- at most so many tokens

limited_behind : (n : ℕ) (ms : List Item) (t : Token) (m : Option Mark) (more : List Item)
    → (k : Option Mark) × (rest : List Item)
    × (limited n (ms ++ (t, m) ∷ more) ≡ limited n ms ++ (t, k) ∷ rest)
limited_behind n [] t m more = (limit_mark (is_over n t) m, limited (left_behind n t) more, refl)
limited_behind n ((u, v) ∷ ms) t m more = let b = limited_behind (left_behind n u) ms t m more in
    (b.0, b.1, ap (λ (is : List Item). (u, limit_mark (is_over n u) v) ∷ is) b.2)

at_most_open_law : {A : Type 0} (n : ℕ) (r : Rule A) → Open r → (x : A) (ms : List Item) (t : Token)
    → (at_most n r).derives x ms None
    → (at_most n r).derives x ms (Some t) ⊎ GoesOn (at_most n r) ms t
at_most_open_law n r each x ms t (free, e, s) =
    elim (each.law x free t s) [
      | inl p ↦ inl (free, e, p)
      | inr g ↦
          let b = limited_behind n free t g.1 g.2 in
          inr (
            g.0,
            b.0,
            b.1,
            (
              free ++ (t, g.1) ∷ g.2,
              ap (λ (is : List Item). is ++ (t, b.0) ∷ b.1) e ∙ sym b.2,
              g.3,
            ),
          )
    ]

pub at_most_open : {A : Type 0} (n : ℕ) {r : Rule A} → Open r → Open (at_most n r)
at_most_open n {r} each = record { law = at_most_open_law n r each }
