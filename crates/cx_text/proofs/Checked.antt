-- A whole list whose value must pass a test, as an interface file that must have a header. A value
-- that fails is unexpected at the end.
use Rattle.std.proofs.Common.{◌≡◌, Bool, true, false, cond, List, [], ◌∷◌, ◌++◌, Option, Some, None, Ok, Err, refl, inl, inr, sym, ap, subst, ◌∙◌, append_assoc}
use Rattle.std.proofs.lemmas.List.{append-nil}
use Rattle.cx_text.specs.declared.stop.Mark.{Mark}
use Rattle.cx_text.specs.declared.stop.Why.{Why}
use Rattle.cx_text.specs.declared.stop.Why.TheVariants.{Unexpected, Marked}
use Rattle.cx_text.specs.declared.token.Token.{Token}
use Rattle.cx_text.specs.Grammar.{Item, clean, next_of, Grammar, many, Spells, Begins, NoneBegins, BeginsMarked, IsWrong, IsFirstFault}
use Rattle.cx_text.specs.Reading.{Answer, Read, go_on, read_whole}
use Rattle.cx_text.proofs.Laws.{told, Beyond, Reads, ok_is, err_is, ok_goes, err_goes}
use Rattle.cx_text.proofs.FirstFault.{Judges, first_from}
use Rattle.cx_text.proofs.Many.{IsFull}
use Rattle.cx_text.proofs.Whole.{whole_found, whole_only, whole_wrong, judges_whole, told_is, whole_told, whole_rest}

-- the derived lists whose value passes
abbrev pub checked : {A : Type 0} → Grammar A → (A → Bool) → Grammar A
checked S has x ms next = S x ms next × (has x ≡ true)

abbrev pub or_unexpected : {A : Type 0} → (A → Bool) → A → Read A
or_unexpected has x rest = cond (has x) (Ok (x, rest)) (Err (Unexpected, rest))

abbrev pub read_checked : {A : Type 0} → Read A → (A → Bool) → Read A
read_checked p has ts = go_on (read_whole p ts) (or_unexpected has)

-- each list goes on to one whose value passes
abbrev pub Extends : {A : Type 0} → Grammar A → (A → Bool) → Type 0
Extends {A} S has = (x : A) (ms : List Item) → S x ms None
    → (y : A) × (more : List Item) × S y (ms ++ more) None × (has y ≡ true)

begins_checked : {A : Type 0} (S : Grammar A) (has : A → Bool) (extends : Extends S has)
    (before : List Token) → Begins S before → Begins (checked S has) before
begins_checked S has extends before (x, more, s) =
    let e = extends x (clean before ++ more) s in (
      e.0,
      more ++ e.1,
      (subst (λ (ms : List Item). S e.0 ms None) (append_assoc (clean before) more e.1) e.2, e.3),
    )

marked_checked : {A : Type 0} (S : Grammar A) (has : A → Bool) (extends : Extends S has)
    (before : List Token) (t : Token) (m : Mark) → BeginsMarked S before t m
    → BeginsMarked (checked S has) before t m
marked_checked S has extends before t m (x, more, s) =
    let k = extends x (clean before ++ (t, Some m) ∷ more) s in (
      k.0,
      more ++ k.1,
      (
        subst (λ (ms : List Item). S k.0 ms None)
            (append_assoc (clean before) ((t, Some m) ∷ more) k.1) k.2,
        k.3,
      ),
    )

wrong_checked : {A : Type 0} (S : Grammar A) (has : A → Bool) (extends : Extends S has) (w : Why)
    (before rest : List Token) → IsWrong S before w rest → IsWrong (checked S has) before w rest
wrong_checked S has extends Unexpected before rest f =
    (begins_checked S has extends before f.0, λ x ms more s q h. f.1 x ms more s.0 q h)
wrong_checked S has extends (Marked m) before [] f = absurd f
wrong_checked S has extends (Marked m) before (t ∷ rest) f =
    (marked_checked S has extends before t m f.0, λ x more s n. f.1 x more s.0 n)

passed : {A : Type 0} (b : Bool) (x : A) (mid : List Token) (y : A) (rest : List Token)
    → cond {A = Answer A} b (Ok (x, mid)) (Err (Unexpected, mid)) ≡ Ok (y, rest)
    → (b ≡ true) × (x ≡ y)
passed true x mid y rest e = (refl, (ok_is x y mid rest e).0)
passed false x mid y rest e = absurd cc

failed : {A : Type 0} (b : Bool) (x : A) (mid : List Token) (w : Why) (rest : List Token)
    → cond {A = Answer A} b (Ok (x, mid)) (Err (Unexpected, mid)) ≡ Err (w, rest)
    → (b ≡ false) × (Unexpected ≡ w) × (mid ≡ rest)
failed true x mid w rest e = absurd cc
failed {A} false x mid w rest e = let h = err_is {A = A} Unexpected w mid rest e in (refl, h.0, h.1)

pub checked_found : {A : Type 0} (p : Read A) (S : Grammar A) (G : Option Token → Type 0)
    (r : Reads p S G) (g : G None) (has : A → Bool) (ts : List Token) (x : A) (rest : List Token)
    → read_checked p has ts ≡ Ok (x, rest) → Spells (checked S has) ts x
checked_found {A} p S G r g has ts x rest e =
    let a = ok_goes (read_whole p ts) (or_unexpected has) x rest e in
    let k = passed (has a.0) a.0 a.1 x rest a.3 in
    subst (λ (y : A). Spells (checked S has) ts y) k.1 (whole_found p S G r g ts a.0 a.1 a.2, k.0)

pub checked_only : {A : Type 0} (p : Read A) (S : Grammar A) (G : Option Token → Type 0)
    (r : Reads p S G) (g : G None) (has : A → Bool) (ts : List Token) (x : A)
    → Spells (checked S has) ts x → read_checked p has ts ≡ Ok (x, [])
checked_only p S G r g has ts x s =
    ap (λ a. go_on a (or_unexpected has)) (whole_only p S G r g ts x s.0) ∙ rw s.1 refl

ended_checked : {A : Type 0} (p : Read A) (S : Grammar A) (G : Option Token → Type 0)
    (r : Reads p S G) (g : G None) (has : A → Bool) (ts : List Token) (x : A) (rest : List Token)
    → read_whole p ts ≡ Ok (x, rest) → has x ≡ false → NoneBegins (checked S has) ts None
ended_checked p S G r g has ts x rest e no-header y ms [] s q h =
    let same : told y ms [] ≡ Ok (x, rest) =
    sym (whole_told p S G r g y ms s.0) ∙ ap (read_whole p) (q ∙ append-nil ts) ∙ e in
    absurd (let one : has y ≡ has x = ap has (told_is y ms [] x rest same) in let t = s.1 in cc)
ended_checked p S G r g has ts x rest e no-header y ms (t ∷ more) s q h = absurd cc

checked_wrong : {A : Type 0} (p : Read A) (S : Grammar A) (G : Option Token → Type 0)
    (r : Reads p S G) (g : G None) (has : A → Bool) (extends : Extends S has) (w : Why)
    (ts rest : List Token) → read_checked p has ts ≡ Err (w, rest)
    → (before : List Token) × (ts ≡ before ++ rest) × IsWrong (checked S has) before w rest
checked_wrong {A} p S G r g has extends w ts rest e =
    elim (err_goes (read_whole p ts) (or_unexpected has) w rest e) [
      | inl a ↦ let f = whole_wrong p S G r g w ts rest a in
          (f.0, f.1, wrong_checked S has extends w f.0 rest f.2)
      | inr a ↦
          let f = failed (has a.0) a.0 a.1 w rest a.3 in
          let ends : rest ≡ [] = sym f.2 ∙ whole_rest p S G r g ts a.0 a.1 a.2 in
          let found = whole_found p S G r g ts a.0 a.1 a.2 in
          let begins = begins_checked S has extends ts (
            a.0,
            [],
            subst (λ (ms : List Item). S a.0 ms None) (sym (append-nil (clean ts)))
                found,
          ) in
          let none = ended_checked p S G r g has ts a.0 a.1 a.2 f.0 in (
            ts,
            rw (ends, append-nil ts) refl,
            rw ends (subst (λ (v : Why). IsWrong (checked S has) ts v []) f.1 (begins, none)),
          )
    ]

beyond_checked : {A : Type 0} (has : A → Bool) (a : Answer A) (us : List Token) → Beyond a us
    → Beyond (go_on a (or_unexpected has)) us
beyond_checked {A} has (Ok x) us less = by (has x.0)
  where
    by : (b : Bool) → Beyond (cond {A = Answer A} b (Ok (x.0, x.1)) (Err (Unexpected, x.1))) us
    by true = less
    by false = less
beyond_checked has (Err e) us less = less

told_checked : {A : Type 0} (has : A → Bool) (x : A) (ms : List Item) → has x ≡ true
    → go_on (told x ms []) (or_unexpected has) ≡ told x ms []
told_checked has x [] e = rw e refl
told_checked has x ((t, None) ∷ ms) e = told_checked has x ms e
told_checked has x ((t, Some m) ∷ ms) e = refl

-- what is marked in a checked list is marked in the list
mark_kept : {A : Type 0} (has : A → Bool) (a : Answer A) (m : Mark) (us : List Token)
    → go_on a (or_unexpected has) ≡ Err (Marked m, us) → a ≡ Err (Marked m, us)
mark_kept {A} has (Ok x) m us e =
    absurd (let h = failed (has x.0) x.0 x.1 (Marked m) us e in let w = h.1 in cc)
mark_kept has (Err d) m us e = e

-- reading a list whole, with a test at the end, judges it
pub judges_checked : {A : Type 0} (p : Read A) (S : Grammar A) (G : Option Token → Type 0)
    (r : Reads p S G) (g : G None) (has : A → Bool) → Judges (read_checked p has) (checked S has)
judges_checked p S G r g has = record {
  tells = λ x ms s. ap (λ a. go_on a (or_unexpected has)) (j.tells x ms s.0)
      ∙ told_checked has x ms s.1;
  firm = λ m before t rest other e n.
      ap (λ a. go_on a (or_unexpected has))
      (j.firm m before t rest other
      (mark_kept has (read_whole p (before ++ t ∷ rest)) m (t ∷ rest) e) n);
  past = λ m before t rest other e.
      elim (j.past m before t rest other
      (mark_kept has (read_whole p (before ++ t ∷ rest)) m (t ∷ rest) e)) [
        | inl f ↦ inl (ap (λ a. go_on a (or_unexpected has)) f)
        | inr b ↦ inr (beyond_checked has (read_whole p (before ++ t ∷ other)) other b)
      ];
}
  where
    j : Judges (read_whole p) S
    j = judges_whole p S G r g

pub checked_fault : {A : Type 0} (p : Read A) (S : Grammar A) (G : Option Token → Type 0)
    (r : Reads p S G) (g : G None) (has : A → Bool) (extends : Extends S has) (w : Why)
    (ts rest : List Token) → read_checked p has ts ≡ Err (w, rest)
    → (before : List Token) × (ts ≡ before ++ rest) × IsFirstFault (checked S has) before w rest
checked_fault p S G r g has extends w ts rest e =
    first_from (read_checked p has) (checked S has) (judges_checked p S G r g has) w ts rest e
    (checked_wrong p S G r g has extends w ts rest e)

-- ---- lists of items, one behind another

-- the context behind these items
abbrev pub after : {A C : Type 0} → (C → A → C) → C → List A → C
after step c [] = c
after step c (x ∷ xs) = after step (step c x) xs

pub many_append : {A C : Type 0} (test : Token → Bool) (S : C → Grammar A) (step : C → A → C)
    (G : Option Token → Type 0) (full : (c : C) → IsFull (S c))
    (moves : (c : C) (x : A) (ms : List Item) (next other : Option Token) → S c x ms next → G other
    → S c x ms other)
    (xs ys : List A) (c : C) (ms more : List Item) (next other : Option Token)
    → many test S step c xs ms next → many test S step (after step c xs) ys more other
    → G (next_of more other) → many test S step c (xs ++ ys) (ms ++ more) other
many_append test S step G full moves [] ys c ms more next other s t g = rw s.1 t
many_append test S step G full moves (x ∷ xs) ys c ms more next other (go, [], back, e, s, rest)
    t g = absurd (full c x (next_of back next) s)
many_append test S step G full moves (x ∷ xs) ys c ms more next other
    (go, f ∷ front, [], e, s, rest) t g =
    let whole : ms ++ more ≡ (f ∷ front) ++ more =
    rw e (ap (λ (a : List Item). a ++ more) (append-nil (f ∷ front))) in
    let ends = many_append test S step G full moves xs ys (step c x) [] more next other rest t g in (
      rw whole (rw e at go),
      f ∷ front,
      more,
      whole,
      moves c x (f ∷ front) next (next_of more other) s g,
      ends,
    )
many_append test S step G full moves (x ∷ xs) ys c ms more next other
    (go, f ∷ front, b ∷ back, e, s, rest) t g =
    let whole : ms ++ more ≡ (f ∷ front) ++ ((b ∷ back) ++ more) =
    rw e (append_assoc (f ∷ front) (b ∷ back) more) in
    let ends = many_append test S step G full moves xs ys (step c x) (b ∷ back)
    more next other rest t g in
    (rw whole (rw e at go), f ∷ front, (b ∷ back) ++ more, whole, s, ends)
