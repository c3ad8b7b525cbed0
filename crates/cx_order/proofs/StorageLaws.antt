-- The levels that STORAGE lines give variables, one line after another.
use Rattle.std.proofs.Common.{◌≡◌, ◌⊎◌, inl, inr, refl, sym, ◌∙◌, ap, ℕ, suc, zero, ◌==◌, Bool, true, false, ◌||◌, List, [], ◌∷◌, ◌++◌, map, length, take, get_or, replicate, max, Option, Some, None, option_map, Result, Ok, Err, arith, if◌then◌else◌}
use Rattle.std.specs.Prelude.{slice_get}
use Rattle.std.specs.List.{list_any}
use Rattle.std.proofs.lemmas.List.{take-append-le, take_all, length-replicate}
use Rattle.std.proofs.lemmas.List.FromFn.{fill_by_all}
use Rattle.cx_plan.specs.Lists.{or_else, greatest}
use Rattle.cx_plan.specs.declared.variable.VarId.{VarId}
use Rattle.cx_plan.specs.declared.variable.VarInfo.{VarInfo}
use Rattle.cx_bind.specs.declared.thorns.Thorn.{Thorn}
use Rattle.cx_bind.specs.Variables.{variable_infos}
use Rattle.cx_scope.specs.declared.fault.ScopeFault.{ScopeFault}
use Rattle.cx_scope.specs.declared.fault.ScopeFault.TheVariants as scope_faults
use Rattle.cx_scope.specs.Sight.{Sight}
use Rattle.cx_scope.specs.Resolving.{group_of}
use Rattle.cx_order.specs.declared.fault.OrderFault.{OrderFault}
use Rattle.cx_order.specs.declared.fault.OrderFault.TheVariants.{Scope, Memory}
use Rattle.cx_order_entries.specs.declared.counted.Line.{Line as LentLine}
use Rattle.cx_order_entries.specs.Counted.{Line}
use Rattle.cx_order.specs.Files.{thorn_name}
use Rattle.cx_order_entries.specs.Seen.{seen_line}
use Rattle.cx_order.specs.Storage.{error_of, line_fault, storage_fault, granted, declared_levels, given, given_by, storage}

-- ---- the greater of two

max-none : (n : ℕ) → max n 0 ≡ n
max-none n = omega arith

max-first : (n : ℕ) → max 0 n ≡ n
max-first n = omega arith

max-regroup : (a b c : ℕ) → max (max a b) c ≡ max a (max b c)
max-regroup a b c = omega arith

-- ---- the variables of a group

either : (a b : Bool) (n : ℕ)
    → (if (a || b) then n else 0) ≡ max (if (a || false) then n else 0) (if b then n else 0)
either true true n = omega arith
either true false n = omega arith
either false true n = omega arith
either false false n = omega arith

given-more : (infos : List VarInfo) (levels : Option ℕ) (x : VarId) (xs : List VarId) (v : ℕ)
    → given infos levels (Ok (x ∷ xs)) v
    ≡ max (given infos levels (Ok (x ∷ [])) v) (given infos levels (Ok xs) v)
given-more infos levels x xs v =
    either (x.0 == v) (list_any (λ (w : VarId). w.0 == v) xs)
    (granted (declared_levels (slice_get infos v)) levels)

-- what the variables have, with what the rest of a group is given, is what they had with what all
-- are given
pub record Raised (infos : List VarInfo) (levels : Option ℕ) (first now : List ℕ)
    (group rest : List VarId) : Type 0 where
  pub same : (v : ℕ) → max (get_or now v 0) (given infos levels (Ok rest) v)
      ≡ max (get_or first v 0) (given infos levels (Ok group) v)

module _ (infos : List VarInfo) (levels : Option ℕ) (first now : List ℕ) (group rest : List VarId)
    (r : Raised infos levels first now group rest) where
  pub raised-next : (new : List ℕ) (x : VarId) (more : List VarId) → rest ≡ x ∷ more
      → ((v : ℕ) → get_or new v 0 ≡ max (get_or now v 0) (given infos levels (Ok (x ∷ [])) v))
      → Raised infos levels first new group more
  raised-next new x more parts raised =
      record {
        same =
            λ v. ap (λ n. max n (given infos levels (Ok more) v)) (raised v)
            ∙ max-regroup (get_or now v 0) (given infos levels (Ok (x ∷ [])) v)
            (given infos levels (Ok more) v)
            ∙ ap (λ n. max (get_or now v 0) n) (sym (given-more infos levels x more v))
            ∙ ap (λ g. max (get_or now v 0) (given infos levels (Ok g) v)) (sym parts)
            ∙ r.same v;
      }

  pub raised-all : rest ≡ [] → (v : ℕ)
      → get_or now v 0 ≡ max (get_or first v 0) (given infos levels (Ok group) v)
  raised-all none v = sym (max-none (get_or now v 0))
      ∙ ap (λ g. max (get_or now v 0) (given infos levels (Ok g) v)) (sym none) ∙ r.same v

-- ---- a line

module _ (thorns : List Thorn) (sight : Sight) (l : Line) where
  pub line-ok : (group : List VarId) → group_of thorns sight l.thorn l.group ≡ Ok group
      → line_fault thorns sight l ≡ None
  line-ok group told =
      ap (λ (r : Result (List VarId) ScopeFault).
      option_map (λ e. Scope (thorn_name thorns l.thorn) e) (error_of r)) told

  pub line-levels : (infos : List VarInfo) (members group : List VarId)
      → infos ≡ variable_infos thorns → members ≡ group
      → group_of thorns sight l.thorn l.group ≡ Ok group → (v : ℕ)
      → given infos l.levels (Ok members) v ≡ given_by thorns sight v l
  line-levels infos members group all same told v =
      ap (λ is. given is l.levels (Ok members) v) all
      ∙ ap (λ r. given (variable_infos thorns) l.levels r v)
      (ap (λ (vs : List VarId). Ok vs) same ∙ sym told)

  pub line-err : (e : ScopeFault) (fault : OrderFault)
      → (e ≡ scope_faults.Memory) ⊎ (group_of thorns sight l.thorn l.group ≡ Err e)
      → (e ≡ scope_faults.Memory → fault ≡ Memory)
      → (fault ≡ Memory) ⊎ (fault ≡ Scope (thorn_name thorns l.thorn) e)
      → (fault ≡ Memory) ⊎ (line_fault thorns sight l ≡ Some fault)
  line-err e fault (inl none) memory told = inl (memory none)
  line-err e fault (inr is) memory (inl none) = inl none
  line-err e fault (inr is) memory (inr same) =
      inr (ap (λ (r : Result (List VarId) ScopeFault).
      option_map (λ e. Scope (thorn_name thorns l.thorn) e) (error_of r)) is
      ∙ ap (λ f. Some f) (sym same))

-- ---- lines, one after another

-- the fault of the rest is that of all, and what the variables have, with what the rest gives, is
-- what they had with what all give
pub record Sofar (thorns : List Thorn) (sight : Sight) (first now : List ℕ)
    (lines rest : List LentLine) : Type 0 where
  pub fault : storage_fault thorns sight (map seen_line rest)
      ≡ storage_fault thorns sight (map seen_line lines)
  pub same : (v : ℕ) → max (get_or now v 0)
      (greatest (map (given_by thorns sight v) (map seen_line rest)))
      ≡ max (get_or first v 0) (greatest (map (given_by thorns sight v) (map seen_line lines)))

module _ (thorns : List Thorn) (sight : Sight) (first now : List ℕ) (lines rest : List LentLine)
    (s : Sofar thorns sight first now lines rest) where
  pub sofar-none : rest ≡ [] → storage_fault thorns sight (map seen_line lines) ≡ None
  sofar-none none = sym s.fault ∙ ap (λ ls. storage_fault thorns sight (map seen_line ls)) none

  pub sofar-all : rest ≡ [] → (v : ℕ)
      → get_or now v 0 ≡ max (get_or first v 0)
      (greatest (map (given_by thorns sight v) (map seen_line lines)))
  sofar-all none v =
      sym (max-none (get_or now v 0))
      ∙ ap (λ ls. max (get_or now v 0)
      (greatest (map (given_by thorns sight v) (map seen_line ls)))) (sym none) ∙ s.same v

  module _ (line : LentLine) (more : List LentLine) (parts : rest ≡ line ∷ more) where
    pub sofar-next : (new : List ℕ) → line_fault thorns sight (seen_line line) ≡ None
        → ((v : ℕ) → get_or new v 0
        ≡ max (get_or now v 0) (given_by thorns sight v (seen_line line)))
        → Sofar thorns sight first new lines more
    sofar-next new passes raised =
        record {
          fault =
              ap (λ o. or_else o (storage_fault thorns sight (map seen_line more))) (sym passes)
              ∙ ap (λ ls. storage_fault thorns sight (map seen_line ls)) (sym parts)
              ∙ s.fault;
          same =
              λ v. ap (λ n. max n (greatest (map (given_by thorns sight v) (map seen_line more))))
              (raised v)
              ∙ max-regroup (get_or now v 0) (given_by thorns sight v (seen_line line))
              (greatest (map (given_by thorns sight v) (map seen_line more)))
              ∙ ap (λ ls. max (get_or now v 0)
              (greatest (map (given_by thorns sight v) (map seen_line ls)))) (sym parts)
              ∙ s.same v;
        }

    pub sofar-told : (none fault : OrderFault)
        → (fault ≡ none) ⊎ (line_fault thorns sight (seen_line line) ≡ Some fault)
        → (fault ≡ none) ⊎ (storage_fault thorns sight (map seen_line lines) ≡ Some fault)
    sofar-told none fault (inl h) = inl h
    sofar-told none fault (inr h) =
        inr
        (sym s.fault
        ∙ ap (λ ls. storage_fault thorns sight (map seen_line ls)) parts
        ∙ ap (λ o. or_else o (storage_fault thorns sight (map seen_line more))) h)

-- ---- from none on

zeros : (n v : ℕ) → get_or {A = ℕ} (replicate n 0) v 0 ≡ 0
zeros zero v = refl
zeros (suc n) zero = refl
zeros (suc n) (suc v) = zeros n v

pub all-written : (n : ℕ) (xs rest : List ℕ) → length xs ≡ n → take n (xs ++ rest) ≡ xs
all-written n xs rest long =
    take-append-le n xs rest (omega (arith, long)) ∙ take_all n xs (omega (arith, long))

module _ (thorns : List Thorn) (sight : Sight) (lines : List Line) where
  abbrev most : ℕ → ℕ
  most v = greatest (map (given_by thorns sight v) lines)

  pub from-none : (levels first : List ℕ) → first ≡ replicate (length (variable_infos thorns)) 0
      → length levels ≡ length first
      → ((v : ℕ) → get_or levels v 0
      ≡ max (get_or first v 0) (greatest (map (given_by thorns sight v) lines)))
      → levels ≡ storage thorns sight lines
  from-none levels first none long raised =
      let count : ℕ = length (variable_infos thorns) in
      fill_by_all most levels count 0 (long ∙ ap length none ∙ length-replicate count 0)
      (λ v within. raised v ∙ ap (λ xs. max (get_or xs v 0) (most v)) none
      ∙ ap (λ n. max n (most v)) (zeros count v) ∙ max-first (most v))
