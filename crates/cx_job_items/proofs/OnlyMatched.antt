-- Items are matched alike by two sights that tell what the same thorns see.
use Rattle.std.proofs.Common.{◌≡◌, ◌∙◌, sym, ap, subst, refl, ℕ, ◌+◌, ◌<◌, Bool, true, false, cond, List, [], ◌∷◌, ◌++◌, map, length, Option, Some, None, Result, Ok, Err, arith}
use Rattle.std.specs.Prelude.{position, codes, nat_lt, if◌then◌else◌}
use Rattle.std.specs.List.{flat_map, enumerate_from, position_from}
use Rattle.std.proofs.Math.Path.{fun_ext}
use Rattle.std.proofs.lemmas.Iterator.Adapters.{position_from-zero}
use Rattle.cx_text.specs.Lexemes.{same_name}
use Rattle.cx_plan.specs.Lists.{all_ok}
use Rattle.cx_plan.specs.declared.item.Item.{Item}
use Rattle.cx_plan.specs.declared.item.Touch.{Touch}
use Rattle.cx_bind.specs.declared.thorns.Thorn.{Thorn}
use Rattle.cx_values.specs.declared.values.Values.{Values}
use Rattle.cx_scope.specs.Sight.{Sight, IsSightOf}
use Rattle.cx_order.specs.Meanings.{World}
use Rattle.cx_order.specs.Texts.{touches_text}
use Rattle.cx_order.proofs.OnlySights.{same-levels}
use Rattle.cx_rule.specs.declared.spec.Spec.{Spec}
use Rattle.cx_rule.specs.declared.spec.Want.{Want}
use Rattle.cx_job_items.specs.declared.matching.Offer.{Offer}
use Rattle.cx_job_items.specs.Matching.{thorn_number, only_level, level_of, ref_in, touch_by, touch_of, want_text, wants_text, params_text, enclosed, declared_text, offered_text, all_some, touches_of, numbers_of, offer_by, offer, fits, completed, mismatch, matched_by, spec_at, routine_number, with_routine, matched_if_run, all_matched}
use Rattle.cx_job_items.specs.declared.fault.MatchFault.{MatchFault}
use Rattle.cx_job_items.specs.declared.fault.MatchFault.TheVariants.{RoutineMismatch}

abbrev Below : ℕ → Option ℕ → Type 0
Below n None = Unit {0}
Below n (Some k) = k < n

position-below : {X : Type 0} (test : X → Bool) (k : ℕ) (xs : List X)
    → Below (k + length xs) (position_from test k xs)
position-below test k [] = tt
position-below test k (x ∷ xs) =
    let longer : (k + 1) + length xs ≡ k + length (x ∷ xs) = omega arith in
    either (test x) (subst (λ n. Below n (position_from test (k + 1) xs)) longer
    (position-below test (k + 1) xs))
  where
    either : (b : Bool) → Below (k + length (x ∷ xs)) (position_from test (k + 1) xs)
        → Below (k + length (x ∷ xs)) (cond b (Some k) (position_from test (k + 1) xs))
    either true rest = omega arith
    either false rest = rest

found-below : {X : Type 0} (test : X → Bool) (xs : List X) → Below (length xs) (position test xs)
found-below test xs =
    let whole : 0 + length xs ≡ length xs = omega arith in
    subst (λ o. Below (length xs) o) (sym (position_from-zero test xs))
    (subst (λ n. Below n (position_from test 0 xs)) whole (position-below test 0 xs))

module _ (thorns : List Thorn) (a b : Sight) (storage : List ℕ) (values : Values)
    (told : IsSightOf thorns a) (again : IsSightOf thorns b) where
  abbrev w : World
  w = record { thorns = thorns; sight = a; storage = storage }

  abbrev u : World
  u = record { thorns = thorns; sight = b; storage = storage }

  touches-same : (word : List ℕ) (ts : List Touch) → touches_text word w ts ≡ touches_text word u ts
  touches-same word [] = refl
  touches-same word (t ∷ ts) = refl

  declared-same : (x : Item) → declared_text w x ≡ declared_text u x
  declared-same x =
      ap (λ t. enclosed (t ++ touches_text (codes " writes") w x.writes))
      (touches-same (codes " reads") x.reads)
      ∙ ap (λ t. enclosed (touches_text (codes " reads") u x.reads ++ t))
      (touches-same (codes " writes") x.writes)

  want-same : (want : Want) (o : Option Touch) → want_text w want o ≡ want_text u want o
  want-same want None = refl
  want-same want (Some x) = refl

  level-same : (t : Option ℕ) → Below (length thorns) t → (name : List ℕ)
      → level_of w t name ≡ level_of u t name
  level-same None there name = refl
  level-same (Some t) there name =
      ap only_level (same-levels thorns a b told again t there storage (ref_in name))

  module _ (t : Option ℕ) (there : Below (length thorns) t) where
    touch-same : (want : Want) → touch_of w t want ≡ touch_of u t want
    touch-same want = ap (touch_by want) (level-same t there want.name)

    all-touches-same : (wants : List Want) → touches_of w t wants ≡ touches_of u t wants
    all-touches-same wants =
        ap (λ (f : Want → Option Touch). all_some (map f wants)) (fun_ext touch-same)

    offer-same : (s : Spec) → offer w values t s ≡ offer u values t s
    offer-same s =
        ap (λ o. offer_by o (touches_of w t s.writes) (numbers_of values s.params))
        (all-touches-same s.reads)
        ∙ ap (λ o. offer_by (touches_of u t s.reads) o (numbers_of values s.params))
        (all-touches-same s.writes)

    text-same : (want : Want)
        → want_text w want (touch_of w t want) ≡ want_text u want (touch_of u t want)
    text-same want = want-same want (touch_of w t want) ∙ ap (want_text u want) (touch-same want)

    wants-same : (word : List ℕ) (wants : List Want)
        → wants_text word w t wants ≡ wants_text word u t wants
    wants-same word [] = refl
    wants-same word (x ∷ xs) =
        ap (λ (f : Want → List ℕ). word ++ flat_map f (x ∷ xs)) (fun_ext text-same)

    offered-same : (s : Spec) → offered_text w values t s ≡ offered_text u values t s
    offered-same s =
        ap (λ text. enclosed (text ++ wants_text (codes " writes") w t s.writes
        ++ params_text values s.params)) (wants-same (codes " reads") s.reads)
        ∙ ap (λ text. enclosed
        (wants_text (codes " reads") u t s.reads ++ text ++ params_text values s.params))
        (wants-same (codes " writes") s.writes)

    mismatch-same : (x : Item) (s : Spec) → mismatch w values t x s ≡ mismatch u values t x s
    mismatch-same x s =
        ap (λ text. RoutineMismatch x.path text (offered_text w values t s)) (declared-same x)
        ∙ ap (λ text. RoutineMismatch x.path (declared_text u x) text) (offered-same s)

    by-same : (x : Item) (k : ℕ) (s : Spec) (o : Option Offer)
        → matched_by w values t x k s o ≡ matched_by u values t x k s o
    by-same x k s None = ap (λ (e : MatchFault). Err e) (mismatch-same x s)
    by-same x k s (Some o) =
        ap (λ (e : MatchFault). if fits x o then Ok (completed x k s.kind o) else Err e)
        (mismatch-same x s)

    matched-same : (x : Item) (k : ℕ) (s : Spec)
        → matched_by w values t x k s (offer w values t s)
        ≡ matched_by u values t x k s (offer u values t s)
    matched-same x k s = by-same x k s (offer w values t s)
        ∙ ap (matched_by u values t x k s) (offer-same s)

  with-same : (x : Item) (s : Option (ℕ × Spec))
      → with_routine w values x s ≡ with_routine u values x s
  with-same x None = refl
  with-same x (Some s) = matched-same (thorn_number thorns x.thorn)
      (found-below (λ t. same_name t.name x.thorn) thorns) x s.0 s.1

  if-run-same : (specs : List Spec) (run : ℕ) (x : ℕ × Item)
      → matched_if_run w values specs run x ≡ matched_if_run u values specs run x
  if-run-same specs run x =
      ap (λ (r : Result Item MatchFault). if nat_lt x.0 run then r else Ok x.1)
      (with-same x.1 (spec_at specs (routine_number specs x.1)))

  pub all-same : (specs : List Spec) (run : ℕ) (items : List Item)
      → all_matched w values specs run items ≡ all_matched u values specs run items
  all-same specs run items =
      ap (λ (f : ℕ × Item → Result Item MatchFault). all_ok (map f (enumerate_from 0 items)))
      (fun_ext (if-run-same specs run))
