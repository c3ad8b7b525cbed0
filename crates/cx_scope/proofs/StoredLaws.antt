-- Levels that are stored, and the variables of a group, one more at a time.
use Rattle.std.proofs.Common.{◌≡◌, refl, sym, ◌∙◌, ap, ◌⊎◌, inl, inr, ℕ, ◌+◌, ◌<◌, ◌≤◌, zero, suc, Bool, true, false, List, [], ◌∷◌, ◌++◌, map, length, take, drop, get_or, Some, None, Ok, Err, if◌then◌else◌, arith}
use Rattle.std.proofs.lemmas.List.{append_assoc, append-nil, map-append, take_more, drop_more, take_all}
use Rattle.cx_plan.specs.Lists.{or_else, first_of_each}
use Rattle.cx_plan.specs.declared.variable.VarId.{VarId}
use Rattle.cx_sched.specs.declared.tree.Ref.{Ref}
use Rattle.cx_scope.specs.declared.fault.ScopeFault.{ScopeFault}
use Rattle.cx_scope.specs.declared.fault.ScopeFault.TheVariants.{Memory}
use Rattle.cx_scope.specs.declared.names.NamedGroup.{NamedGroup}
use Rattle.cx_scope.specs.declared.names.NamedVariable.{NamedVariable}
use Rattle.cx_scope.specs.Naming.{Level, is_same_group, members_from}
use Rattle.cx_scope.specs.Resolving.{var_id, level_fault, stored, unless_fault}

left_over : {X : Type 0} (xs : List X) (k : ℕ) (x : X) → k < length xs → x ≡ get_or xs k x
    → drop k xs ≡ x ∷ drop (k + 1) xs
left_over xs k x within at = drop_more xs k x within ∙ ap (λ u. u ∷ drop (k + 1) xs) (sym at)

taken : {X : Type 0} (xs : List X) (k : ℕ) (x : X) → k < length xs → x ≡ get_or xs k x
    → take (k + 1) xs ≡ take k xs ++ x ∷ []
taken xs k x within at = take_more xs k x within ∙ ap (λ u. take k xs ++ u ∷ []) (sym at)

nothing_left : {X : Type 0} (xs : List X) (k : ℕ) → length xs ≤ k → drop k xs ≡ []
nothing_left [] zero h = refl
nothing_left [] (suc k) h = refl
nothing_left (x ∷ xs) zero h = absurd (let no : ⊥ = omega (arith, h) in no)
nothing_left (x ∷ xs) (suc k) h = nothing_left xs k (omega (arith, h))

-- ---- members

module _ (g : NamedGroup) (vs : List NamedVariable) where
  -- the members that were found and those behind them are all
  abbrev pub Members : List ℕ → ℕ → Type 0
  Members places k = places ++ members_from g k (drop k vs) ≡ members_from g 0 vs

  member_here : (k : ℕ) (v : NamedVariable) (rest : List NamedVariable) (b : Bool)
      → is_same_group v.group g ≡ b
      → members_from g k (v ∷ rest)
      ≡ (if b then k ∷ members_from g (k + 1) rest else members_from g (k + 1) rest)
  member_here k v rest b is =
      ap (λ b. if b then k ∷ members_from g (k + 1) rest else members_from g (k + 1) rest) is

  pub one_member : (places places2 : List ℕ) (k : ℕ) (v : NamedVariable) → k < length vs
      → v ≡ get_or vs k v → is_same_group v.group g ≡ true → Members places k
      → places2 ≡ places ++ k ∷ [] → Members places2 (k + 1)
  one_member places places2 k v within at is before after =
      ap (λ ps. ps ++ members_from g (k + 1) (drop (k + 1) vs)) after
      ∙ append_assoc places (k ∷ []) (members_from g (k + 1) (drop (k + 1) vs))
      ∙ ap (λ ms. places ++ ms)
      (sym (ap (λ rest. members_from g k rest) (left_over vs k v within at)
      ∙ member_here k v (drop (k + 1) vs) true is))
      ∙ before

  pub no_member : (places : List ℕ) (k : ℕ) (v : NamedVariable) → k < length vs → v ≡ get_or vs k v
      → is_same_group v.group g ≡ false → Members places k → Members places (k + 1)
  no_member places k v within at is before =
      ap (λ ms. places ++ ms)
      (sym (ap (λ rest. members_from g k rest) (left_over vs k v within at)
      ∙ member_here k v (drop (k + 1) vs) false is))
      ∙ before

  pub all_members : (places : List ℕ) (k : ℕ) → length vs ≤ k → Members places k
      → places ≡ members_from g 0 vs
  all_members places k past before =
      sym (append-nil places)
      ∙ ap (λ rest. places ++ members_from g k rest) (sym (nothing_left vs k past)) ∙ before

-- ---- levels

abbrev pub current : List ℕ → List Level
current places = map (λ v. (v, 0)) places

abbrev pub told : List Level → List (VarId × ℕ)
told ls = map (λ l. (var_id l.0, l.1)) ls

module _ (storage : List ℕ) (r : Ref) where
  pub all_stored : (ls : List Level) (levels : List (VarId × ℕ))
      → first_of_each (level_fault storage r) ls ≡ None → levels ≡ told ls
      → stored storage r ls ≡ Ok levels
  all_stored ls levels none are = ap (λ o. unless_fault o (told ls)) none ∙ ap (λ l. Ok l) (sym are)

  pub fault_stored : (ls : List Level) (e : ScopeFault)
      → first_of_each (level_fault storage r) ls ≡ Some e → stored storage r ls ≡ Err e
  fault_stored ls e some = ap (λ o. unless_fault o (told ls)) some

  module _ (places : List ℕ) where
    -- no fault among the first places, whose levels these are
    pub record SoFar (k : ℕ) (levels : List (VarId × ℕ)) : Type 0 where
      pub faults : first_of_each (level_fault storage r) (current (drop k places))
          ≡ first_of_each (level_fault storage r) (current places)
      pub levels_are : levels ≡ told (current (take k places))

    behind : (k v : ℕ) → k < length places → v ≡ get_or places k v
        → first_of_each (level_fault storage r) (current (drop k places))
        ≡ or_else (level_fault storage r (v, 0))
        (first_of_each (level_fault storage r) (current (drop (k + 1) places)))
    behind k v within at = ap (λ ps. first_of_each (level_fault storage r) (current ps))
        (left_over places k v within at)

    pub one_stored : (k v l : ℕ) (levels levels2 : List (VarId × ℕ)) → k < length places
        → v ≡ get_or places k v → level_fault storage r (v, 0) ≡ None → l ≡ 0 → SoFar k levels
        → levels2 ≡ levels ++ (var_id v, l) ∷ [] → SoFar (k + 1) levels2
    one_stored k v l levels levels2 within at none zero_level before after =
        record {
          faults = sym (behind k v within at
              ∙ ap (λ o. or_else o (first_of_each (level_fault storage r)
              (current (drop (k + 1) places)))) none) ∙ before.faults;
          levels_are =
              after
              ∙ ap (λ l. levels ++ (var_id v, l) ∷ []) zero_level
              ∙ ap (λ ls. ls ++ (var_id v, 0) ∷ []) before.levels_are
              ∙ sym (map-append (λ (l : Level). (var_id l.0, l.1)) (current (take k places))
              ((v, 0) ∷ []))
              ∙ ap told (sym (map-append (λ v. (v, 0)) (take k places) (v ∷ [])))
              ∙ ap (λ ps. told (current ps)) (sym (taken places k v within at));
        }

    pub one_fault : (k v : ℕ) (levels : List (VarId × ℕ)) (e : ScopeFault) → k < length places
        → v ≡ get_or places k v → SoFar k levels
        → (e ≡ Memory) ⊎ (level_fault storage r (v, 0) ≡ Some e)
        → (e ≡ Memory) ⊎ (stored storage r (current places) ≡ Err e)
    one_fault k v levels e within at before (inl memory) = inl memory
    one_fault k v levels e within at before (inr some) =
        inr (fault_stored (current places) e
        (sym before.faults ∙ behind k v within at
        ∙ ap (λ o. or_else o (first_of_each (level_fault storage r)
        (current (drop (k + 1) places)))) some))

    pub all_passed : (k : ℕ) (levels : List (VarId × ℕ)) → length places ≤ k → SoFar k levels
        → stored storage r (current places) ≡ Ok levels
    all_passed k levels past before =
        all_stored (current places) levels
        (sym before.faults ∙ ap (λ ps. first_of_each (level_fault storage r) (current ps))
        (nothing_left places k past))
        (before.levels_are ∙ ap (λ ps. told (current ps)) (take_all k places past))
