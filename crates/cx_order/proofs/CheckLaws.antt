-- What the bins tell of all trees.
use Rattle.std.proofs.Common.{◌≡◌, ◌⊎◌, inl, inr, refl, sym, ◌∙◌, ap, subst, ℕ, ◌+◌, ◌-◌, ◌<◌, ◌≤◌, List, [], ◌∷◌, drop, length, get_or, Option, Some, None, option_map, Result, arith}
use Rattle.std.proofs.lemmas.List.{drop_more, drop_all}
use Rattle.cx_plan.specs.Lists.{or_else}
use Rattle.cx_plan.specs.declared.tree.Tree.{Tree, Seq}
use Rattle.cx_order.specs.declared.fault.OrderFault.{OrderFault}
use Rattle.cx_order.specs.declared.sizes.Sizes.{Sizes}
use Rattle.cx_order.specs.declared.summary.Summary.{Summary}
use Rattle.cx_plan.specs.Lookups.{bin_name}
use Rattle.cx_text.specs.Telling.{Tells}
use Rattle.cx_order.specs.declared.fault.OrderFault.TheVariants.{Memory}
use Rattle.cx_order.specs.Meanings.{World}
use Rattle.cx_order.specs.Plans.{Forest, entry_fault, trees, bin_trees, calls}
use Rattle.cx_order.specs.Summaries.{told, AreBinSummaries}
use Rattle.cx_order.specs.TreeSizes.{AreSizes}

-- the first fault of bins from one on
abbrev pub first_told : ℕ → List Summary → Option OrderFault
first_told b [] = None
first_told b (s ∷ ss) = or_else (option_map (told (bin_name b)) s.fault) (first_told (b + 1) ss)

pub first-is : (w : World) (b : ℕ) (fs : List Forest) (ss : List Summary)
    → AreBinSummaries w b fs ss → entry_fault w fs ≡ first_told b ss
first-is w b [] [] are = refl
first-is w b [] (s ∷ ss) are = absurd are
first-is w b (f ∷ fs) [] are = absurd are
first-is w b (f ∷ fs) (s ∷ ss) are =
    ap (λ (o : Option OrderFault). or_else o (entry_fault w fs)) are.0.fault
    ∙ ap (or_else (option_map (told (bin_name b)) s.fault)) (first-is w (b + 1) fs ss are.1)

-- a bin without a fault is passed
pub first-passed : (b : ℕ) (s : Summary) (ss : List Summary)
    → option_map (told (bin_name b)) s.fault ≡ None → first_told b (s ∷ ss) ≡ first_told (b + 1) ss
first-passed b s ss none = ap (λ (o : Option OrderFault). or_else o (first_told (b + 1) ss)) none

pub first-told : (b : ℕ) (s : Summary) (ss : List Summary) (none e : OrderFault)
    → (e ≡ none) ⊎ (option_map (told (bin_name b)) s.fault ≡ Some e)
    → (e ≡ none) ⊎ (first_told b (s ∷ ss) ≡ Some e)
first-told b s ss none e (inl same) = inl same
first-told b s ss none e (inr some) =
    inr (ap (λ (o : Option OrderFault). or_else o (first_told (b + 1) ss)) some)

-- ---- sizes

-- of the bins from one on
abbrev pub AreBinSizes : List Summary → Sizes → Type 0
AreBinSizes ss sizes = (w : World) (b k : ℕ) (fs : List Forest) → AreBinSummaries w b fs ss
    → AreSizes (bin_trees w k fs) sizes

pub no-sizes : (sizes : Sizes) → AreSizes [] sizes → AreBinSizes [] sizes
no-sizes sizes none = λ w b k fs are. by_forests w b k fs are
  where
    by_forests : (w : World) (b k : ℕ) (fs : List Forest) → AreBinSummaries w b fs []
        → AreSizes (bin_trees w k fs) sizes
    by_forests w b k [] are = none
    by_forests w b k (f ∷ fs) are = absurd are

pub more-sizes : (s : Summary) (ss : List Summary) (bin rest all : Sizes)
    → ((ts : List Tree) → AreSizes ts s.sizes → AreSizes (Seq ts ∷ []) bin)
    → ((tree : Tree) (ts : List Tree) → AreSizes (tree ∷ []) bin → AreSizes ts rest
    → AreSizes (tree ∷ ts) all)
    → AreBinSizes ss rest → AreBinSizes (s ∷ ss) all
more-sizes s ss bin rest all around before are = λ w b k fs whole. by_forests w b k fs whole
  where
    by_forests : (w : World) (b k : ℕ) (fs : List Forest) → AreBinSummaries w b fs (s ∷ ss)
        → AreSizes (bin_trees w k fs) all
    by_forests w b k [] whole = absurd whole
    by_forests w b k (f ∷ fs) whole =
        before (Seq (trees w k f)) (bin_trees w (k + calls f) fs)
        (around (trees w k f) (whole.0.sizes k)) (are w (b + 1) (k + calls f) fs whole.1)

-- ---- steps of the loops

here : (bins : List Summary) (b : ℕ) (s : Summary) → b < length bins → s ≡ get_or bins b s
    → drop b bins ≡ s ∷ drop (b + 1) bins
here bins b s h is = drop_more bins b s h ∙ ap (λ (t : Summary). t ∷ drop (b + 1) bins) (sym is)

pub next-told : (bins : List Summary) (b : ℕ) (s : Summary)
    → first_told b (drop b bins) ≡ first_told 0 bins → b < length bins → s ≡ get_or bins b s
    → option_map (told (bin_name b)) s.fault ≡ None
    → first_told (b + 1) (drop (b + 1) bins) ≡ first_told 0 bins
next-told bins b s so h is none =
    sym (first-passed b s (drop (b + 1) bins) none) ∙ ap (first_told b) (sym (here bins b s h is))
    ∙ so

pub error-told : (bins : List Summary) (b : ℕ) (s : Summary) (o : Option OrderFault)
    (none e : OrderFault) → o ≡ first_told 0 bins → first_told b (drop b bins) ≡ first_told 0 bins
    → b < length bins → s ≡ get_or bins b s
    → (e ≡ none) ⊎ (option_map (told (bin_name b)) s.fault ≡ Some e) → (e ≡ none) ⊎ (o ≡ Some e)
error-told bins b s o none e all so h is here-told =
    elim (first-told b s (drop (b + 1) bins) none e here-told) [
      | inl same ↦ inl same
      | inr some ↦ inr (all ∙ sym so ∙ ap (first_told b) (here bins b s h is) ∙ some)
    ]

pub none-told : (bins : List Summary) (b : ℕ) → first_told b (drop b bins) ≡ first_told 0 bins
    → length bins ≤ b → first_told 0 bins ≡ None
none-told bins b so past = sym so ∙ ap (first_told b) (drop_all b bins past)

pub begin-sizes : (bins : List Summary) (sizes : Sizes) → AreSizes [] sizes
    → AreBinSizes (drop (length bins) bins) sizes
begin-sizes bins sizes none = let P : List Summary → Type 0 = λ ss. AreBinSizes ss sizes in
    subst P (sym (drop_all (length bins) bins (omega arith))) (no-sizes sizes none)

pub next-sizes : (bins : List Summary) (at : ℕ) (s : Summary) (bin rest all : Sizes) → 0 < at
    → at ≤ length bins → s ≡ get_or bins (at - 1) s
    → ((ts : List Tree) → AreSizes ts s.sizes → AreSizes (Seq ts ∷ []) bin)
    → ((tree : Tree) (ts : List Tree) → AreSizes (tree ∷ []) bin → AreSizes ts rest
    → AreSizes (tree ∷ ts) all)
    → AreBinSizes (drop at bins) rest → AreBinSizes (drop (at - 1) bins) all
next-sizes bins at s bin rest all low high is around before are =
    let same : (at - 1) + 1 ≡ at = omega (arith, low) in
    let parts : drop (at - 1) bins ≡ s ∷ drop at bins =
    here bins (at - 1) s (omega (arith, low, high)) is ∙ ap (λ (k : ℕ). s ∷ drop k bins) same in
    let P : List Summary → Type 0 = λ ss. AreBinSizes ss all in
    subst P (sym parts) (more-sizes s (drop at bins) bin rest all around before are)

pub end-sizes : (bins : List Summary) (at : ℕ) (sizes : Sizes) → at ≤ 0
    → AreBinSizes (drop at bins) sizes → AreBinSizes bins sizes
end-sizes bins at sizes none are = let P : ℕ → Type 0 = λ k. AreBinSizes (drop k bins) sizes in
    let zero_at : at ≡ 0 = omega (arith, none) in subst P zero_at are

-- ---- one of two faults

pub first-of-two : (a b : Option OrderFault) (none e : OrderFault) → (e ≡ none) ⊎ (a ≡ Some e)
    → (e ≡ none) ⊎ (or_else a b ≡ Some e)
first-of-two a b none e (inl same) = inl same
first-of-two a b none e (inr some) = inr (ap (λ (o : Option OrderFault). or_else o b) some)

pub second-of-two : {X : Type 0} (a b : Option OrderFault) (r : Result X OrderFault) → a ≡ None
    → Tells Memory b r → Tells Memory (or_else a b) r
second-of-two {X} a b r none tells = let P : Option OrderFault
    → Type 0 = λ o. Tells Memory (or_else o b) r in subst P (sym none) tells
