-- The first fault of all, from the first fault of some kinds.
use Rattle.std.proofs.Common.{◌≡◌, refl, ◌∙◌, sym, ap, ◌⊎◌, inl, inr, List, [], ◌∷◌, Option, Some, None}
use Rattle.cx_plan.specs.Lists.{first_some}
use Rattle.cx_plan.specs.declared.variable.VarInfo.{VarInfo}
use Rattle.cx_bind.specs.declared.thorns.Thorn.{Thorn}
use Rattle.cx_bind.specs.declared.thorns.BindFault.{BindFault}
use Rattle.cx_bind.specs.declared.thorns.BindFault.TheVariants.{Memory}
use Rattle.cx_bind.specs.declared.known.Known.{Known}
use Rattle.cx_bind.specs.Variables.{variable_infos}
use Rattle.cx_bind.specs.Parameters.{known}
use Rattle.cx_bind.specs.Binding.{needs_fault, names_fault, kinds_fault, bind_fault}

first_is : {X : Type 0} (a b c : Option X) (x : X) → a ≡ Some x
    → first_some (a ∷ b ∷ c ∷ []) ≡ Some x
first_is a b c x first = rw first refl

second_is : {X : Type 0} (a b c : Option X) (x : X) → a ≡ None → b ≡ Some x
    → first_some (a ∷ b ∷ c ∷ []) ≡ Some x
second_is a b c x first second = rw (first, second) refl

third_is : {X : Type 0} (a b c : Option X) (x : X) → a ≡ None → b ≡ None → c ≡ Some x
    → first_some (a ∷ b ∷ c ∷ []) ≡ Some x
third_is a b c x first second third = rw (first, second, third) refl

none_is : {X : Type 0} (a b c : Option X) → a ≡ None → b ≡ None → c ≡ None
    → first_some (a ∷ b ∷ c ∷ []) ≡ None
none_is a b c first second third = rw (first, second, third) refl

abbrev pub Told : Option BindFault → BindFault → Type 0
Told fault e = (e ≡ Memory) ⊎ (fault ≡ Some e)

module _ (thorns : List Thorn) where
  same_names : (ks : List Known) (vs : List VarInfo) → ks ≡ known thorns
      → vs ≡ variable_infos thorns
      → names_fault ks vs thorns ≡ names_fault (known thorns) (variable_infos thorns) thorns
  same_names ks vs k v = ap (λ ks. names_fault ks vs thorns) k
      ∙ ap (λ vs. names_fault (known thorns) vs thorns) v

  same_kinds : (vs : List VarInfo) → vs ≡ variable_infos thorns
      → kinds_fault vs thorns ≡ kinds_fault (variable_infos thorns) thorns
  same_kinds vs v = ap (λ vs. kinds_fault vs thorns) v

  pub needs_told : (e : BindFault) → Told (needs_fault thorns) e → Told (bind_fault thorns) e
  unfolding bind_fault
  needs_told e (inl memory) = inl memory
  needs_told e (inr is) = inr
      (first_is (needs_fault thorns) (names_fault (known thorns) (variable_infos thorns) thorns)
      (kinds_fault (variable_infos thorns) thorns) e is)

  pub names_told : (ks : List Known) (vs : List VarInfo) (e : BindFault) → ks ≡ known thorns
      → vs ≡ variable_infos thorns → needs_fault thorns ≡ None → Told (names_fault ks vs thorns) e
      → Told (bind_fault thorns) e
  unfolding bind_fault
  names_told ks vs e k v needs (inl memory) = inl memory
  names_told ks vs e k v needs (inr is) =
      inr (second_is (needs_fault thorns)
      (names_fault (known thorns) (variable_infos thorns) thorns)
      (kinds_fault (variable_infos thorns) thorns) e needs (sym (same_names ks vs k v) ∙ is))

  pub kinds_told : (ks : List Known) (vs : List VarInfo) (e : BindFault) → ks ≡ known thorns
      → vs ≡ variable_infos thorns → needs_fault thorns ≡ None → names_fault ks vs thorns ≡ None
      → Told (kinds_fault vs thorns) e → Told (bind_fault thorns) e
  unfolding bind_fault
  kinds_told ks vs e k v needs names (inl memory) = inl memory
  kinds_told ks vs e k v needs names (inr is) =
      inr (third_is (needs_fault thorns) (names_fault (known thorns) (variable_infos thorns) thorns)
      (kinds_fault (variable_infos thorns) thorns) e needs (sym (same_names ks vs k v) ∙ names)
      (sym (same_kinds vs v) ∙ is))

  pub none_told : (ks : List Known) (vs : List VarInfo) → ks ≡ known thorns
      → vs ≡ variable_infos thorns → needs_fault thorns ≡ None → names_fault ks vs thorns ≡ None
      → kinds_fault vs thorns ≡ None → bind_fault thorns ≡ None
  unfolding bind_fault
  none_told ks vs k v needs names kinds =
      none_is (needs_fault thorns) (names_fault (known thorns) (variable_infos thorns) thorns)
      (kinds_fault (variable_infos thorns) thorns) needs (sym (same_names ks vs k v) ∙ names)
      (sym (same_kinds vs v) ∙ kinds)
