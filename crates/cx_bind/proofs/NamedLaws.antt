-- One step on in what is looked up by names: the first of each name, what repeats it, and what is
-- there several times.
use Rattle.std.proofs.Common.{◌≡◌, refl, sym, ◌∙◌, ap, ℕ, zero, suc, ◌+◌, ◌<◌, Bool, true, false, cond, ◌||◌, ◌&&◌, List, [], ◌∷◌, find, length, drop, get_or, Option, Some, arith}
use Rattle.std.specs.Prelude.{count_by, nat_lt}
use Rattle.std.specs.Option.{is_some}
use Rattle.std.specs.Str.{bytes_eq}
use Rattle.std.proofs.lemmas.List.{drop_more}
use Rattle.std.proofs.lemmas.List.Sums.{sum_by-cons}
use Rattle.std.proofs.lemmas.Slice.Eq.{bytes_eq-Decides}
use Rattle.indexmap.specs.IndexMap.{insert_entry}
use Rattle.cx_text.specs.Lexemes.{same_name}
use Rattle.cx_plan.specs.Lists.{or_else}
use Rattle.cx_bind.specs.declared.providers.Provider.{Provider}
use Rattle.cx_bind.specs.declared.thorns.BindFault.{BindFault}
use Rattle.cx_bind.specs.NameSets.{HasThose, Adds}
use Rattle.cx_bind.specs.NamePlaces.{at_name, LeadToFirst, AreNamed}
use Rattle.cx_bind.specs.Selecting.{Place, is_place_of}
use Rattle.cx_bind.specs.Faults.{implements, repeated, two_providers}
use Rattle.cx_bind.proofs.PlaceLaws.{place_noted}
use Rattle.cx_text.specs.Bytes.{folded}

left_over : {X : Type 0} (xs : List X) (i : ℕ) (x : X) → i < length xs → x ≡ get_or xs i x
    → x ∷ drop (i + 1) xs ≡ drop i xs
left_over xs i x within at = sym (drop_more xs i x within ∙ ap (λ u. u ∷ drop (i + 1) xs) (sym at))

-- ---- providers

pub one_told : (active : List Provider) (places : List (List ℕ × ℕ)) (x : Provider) (i j : ℕ)
    (found : Option Provider) (before after : Option BindFault) → i < length active → j ≡ i + 1
    → x ≡ get_or active i x → LeadToFirst implements active places (drop j active)
    → found ≡ at_name active places x.implementation → before ≡ two_providers (drop j active)
    → after ≡ or_else (repeated x found) before → after ≡ two_providers (drop i active)
one_told active places x i j found before after within next at lead is told now =
    now
    ∙ ap (λ o. or_else (repeated x o) before) (is ∙ lead x.implementation)
    ∙ ap (λ o. or_else (repeated x (find (implements x.implementation) (drop j active))) o) told
    ∙ ap (λ k. two_providers (x ∷ drop k active)) next
    ∙ ap (λ ps. two_providers ps) (left_over active i x within at)

-- ---- what is there several times

lt_true : (a b : ℕ) → a < b → nat_lt a b ≡ true
lt_true a b h = grind (arith, h)

either : (a b d : Bool) → b ≡ true → d ≡ true → (a || (b && true)) ≡ d
either true b d h k = sym k
either false b d h k = ap (λ b. b && true) h ∙ sym k

two_of : (c : ℕ) → (nat_lt 1 c || (nat_lt 0 c && true)) ≡ nat_lt 1 (1 + c)
two_of zero = refl
two_of (suc c) = either (nat_lt 1 (suc c)) (nat_lt 0 (suc c)) (nat_lt 1 (1 + suc c))
    (lt_true 0 (suc c) (omega arith)) (lt_true 1 (1 + suc c) (omega arith))

neither : (a b : Bool) → (a || (b && false)) ≡ a
neither true b = refl
neither false true = refl
neither false false = refl

module _ {X : Type 0} (test : X → Bool) where
  one_counted : (b : Bool) (x : X) (o : Option X) (c : ℕ) → is_some o ≡ nat_lt 0 c
      → is_some (cond b (Some x) o) ≡ nat_lt 0 (cond b 1 0 + c)
  one_counted true x o c h = sym (lt_true 0 (1 + c) (omega arith))
  one_counted false x o c h = let none : c ≡ 0 + c = omega arith in h ∙ ap (λ n. nat_lt 0 n) none

  counted : (xs : List X) → is_some (find test xs) ≡ nat_lt 0 (count_by test xs)
  counted [] = refl
  counted (x ∷ xs) =
      one_counted (test x) x (find test xs) (count_by test xs) (counted xs)
      ∙ ap (λ n. nat_lt 0 n) (sym (sum_by-cons (λ x. cond (test x) 1 0) x xs))

one_of : (x : Place) (part : List Place) (o : List ℕ) (again b : Bool)
    → again ≡ is_some (find (is_place_of x.1) part) → same_name x.1 o ≡ b
    → (nat_lt 1 (count_by (is_place_of o) part) || (again && b))
    ≡ nat_lt 1 (cond b 1 0 + count_by (is_place_of o) part)
one_of x part o again true found same =
    ap (λ a. nat_lt 1 (count_by (is_place_of o) part) || (a && true))
    (found ∙ ap (λ n. is_some (find (λ p. bytes_eq (folded p.1) n) part))
    ((bytes_eq-Decides (folded x.1) (folded o)).0 same) ∙ counted (is_place_of o) part)
    ∙ two_of (count_by (is_place_of o) part)
one_of x part o again false found same =
    let none : count_by (is_place_of o) part ≡ 0 + count_by (is_place_of o) part = omega arith in
    neither (nat_lt 1 (count_by (is_place_of o) part)) again ∙ ap (λ n. nat_lt 1 n) none

several_told : (several several2 : List (List ℕ)) (x : Place) (part : List Place) (again : Bool)
    → again ≡ is_some (find (is_place_of x.1) part)
    → HasThose (λ n. nat_lt 1 (count_by (is_place_of n) part)) several
    → Adds several (λ o. again && same_name x.1 o) several2
    → HasThose (λ n. nat_lt 1 (count_by (is_place_of n) (x ∷ part))) several2
several_told several several2 x part again found before after o =
    after o
    ∙ ap (λ h. h || (again && same_name x.1 o)) (before o)
    ∙ one_of x part o again (same_name x.1 o) found refl
    ∙ ap (λ n. nat_lt 1 n) (sym (sum_by-cons (λ p. cond (is_place_of o p) 1 0) x part))

pub noted : (all : List Place) (firsts firsts2 : List (List ℕ × ℕ))
    (several several2 : List (List ℕ)) (x : Place) (i : ℕ) (again : Bool) → i < length all
    → x ≡ get_or all i x → AreNamed all firsts several (drop (i + 1) all)
    → again ≡ is_some (at_name all firsts x.1)
    → Adds several (λ o. again && same_name x.1 o) several2
    → firsts2 ≡ insert_entry bytes_eq firsts (folded x.1) i
    → AreNamed all firsts2 several2 (drop i all)
noted all firsts firsts2 several several2 x i again within at before found added put = (
  place_noted is_place_of all firsts firsts2 x i (i + 1) x.1 true (λ o. refl)
      within refl at before.0 put,
  (λ o. several_told several several2 x (drop (i + 1) all) again
      (found ∙ ap (λ p. is_some p) (before.0 x.1)) before.1 added o
      ∙ ap (λ part. nat_lt 1 (count_by (is_place_of o) part)) (left_over all i x within at)),
)
