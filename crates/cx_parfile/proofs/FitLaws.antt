-- What holds of all settings that some tokens spell.
use Rattle.std.proofs.Common.{◌≡◌, ◌≤◌, ◌<◌, ◌+◌, ◌-◌, ℕ, zero, suc, nat_eq, ltb, Bool, true, false, cond, ◌||◌, List, [], ◌∷◌, length, Option, Some, None, refl, sym, ap, subst, ◌∙◌, arith}
use Rattle.std.specs.List.{AllByRecursion}
use Rattle.std.proofs.lemmas.Bool.{eqb-false, ltb-false}
use Rattle.std.proofs.lemmas.List.{length-append}
use Rattle.cx_text.specs.declared.token.Token.{Token}
use Rattle.cx_text.specs.declared.stop.Mark.{Mark}
use Rattle.cx_text.specs.declared.stop.Mark.TheVariants.{Limit, BadNumber}
use Rattle.cx_text.specs.Tokens.{is_word}
use Rattle.cx_text.specs.Grammar.{passes, Spells}
use Rattle.cx_text.specs.Rules.{is_sign, sign_here, one_line_end}
use Rattle.cx_text.specs.Lexemes.{first_mark, is_quoted, decimal_from}
use Rattle.cx_text.proofs.Holds.{Holds, unmarked_clean, holds_any, holds_token, holds_also, holds_nothing, holds_choice, holds_loop, weaker_holds, each-append, spelled_holds}
use Rattle.cx_parfile.specs.declared.settings.Setting.{Setting}
use Rattle.cx_parfile.specs.declared.settings.Settings.{Settings}
use Rattle.cx_parfile.specs.declared.reader.Name.{Name}
use Rattle.cx_parfile.specs.declared.reader.Read.{Read}
use Rattle.cx_parfile.specs.Values.{Named, named_in, is_name, value_in, thorns_in, activate_all}
use Rattle.cx_parfile.specs.ParFile.{is_long, is_long_owner, is_long_name, name_with, name_of, is_index, value_of, bracketed, index, active, setting, is_active, behind_word, line, parameter_file}
use Rattle.cx_parfile.proofs.NameLaws.{or_false, OwnerIs, named_is, value_again, IsThorn, thorns_are, active_are, Once, once_still}

-- a name that is spelled
pub record NameFits (n : Name) : Type 0 where
  pub owner : OwnerIs n.owner
  pub name : is_name n.name ≡ true
  pub short : is_long_owner n.owner || is_long n.name ≡ false

abbrev pub IndexFits : Option ℕ → Type 0
IndexFits None = Unit {0}
IndexFits (Some i) = i ≤ 1023

abbrev pub Indexed : Option ℕ → Type 0
Indexed None = ⊥
Indexed (Some i) = Unit {0}

abbrev pub name_in : Setting → Name
name_in s = record { owner = s.owner; name = s.name; line = s.line }

pub record SettingFits (base : List ℕ) (s : Setting) : Type 0 where
  pub name : NameFits (name_in s)
  pub index : IndexFits s.index
  pub open_ : is_active (name_in s) ≡ true → Indexed s.index
  pub value : value_in base s.value ≡ s.value

-- how many lines there are of active thorns
abbrev pub lines_of : List (List ℕ) → ℕ
lines_of [] = 0
lines_of (n ∷ ns) = 1

-- of a tree, and of how many settings may still stand
pub record Kept (base : List ℕ) (left : ℕ) (v : Settings) : Type 0 where
  pub thorns : AllByRecursion IsThorn v.active
  pub once : Once v.active
  pub settings : AllByRecursion (SettingFits base) v.list
  pub lines : left + (lines_of v.active + length v.list) ≤ 4096

open_left : (left : ℕ) → nat_eq left 0 ≡ false → 0 < left
open_left zero h = absurd (eqb-false zero zero h refl)
open_left (suc n) h = omega arith

lines_le : (ns : List (List ℕ)) → lines_of ns ≤ 1
lines_le [] = omega arith
lines_le (n ∷ ns) = omega arith

no_mark : (b : Bool) (m : Mark) → first_mark b m None ≡ None → b ≡ false
no_mark true m e = absurd cc
no_mark false m e = refl

-- ---- tokens

with_fits : (line : ℕ) (text : List ℕ) (o : Option Named) (n : Name) → named_in text ≡ o
    → name_with line o ≡ Some n → OwnerIs n.owner × (is_name n.name ≡ true)
with_fits line text None n e h = absurd cc
with_fits line text (Some p) n e h =
    let same : record { owner = p.0; name = p.1; line = line } ≡ n = cc in
    subst (λ (m : Name). OwnerIs m.owner × (is_name m.name ≡ true)) same (named_is text p e)

word_fits : (b : Bool) (t : Token) (n : Name)
    → cond b (name_with t.line (named_in t.text)) None ≡ Some n
    → OwnerIs n.owner × (is_name n.name ≡ true)
word_fits true t n h = with_fits t.line t.text (named_in t.text) n refl h
word_fits false t n h = absurd cc

name_fits : (left : ℕ) (t : Token) (n : Name) → name_of t ≡ Some n
    → first_mark (nat_eq left 0 || is_long_name (name_of t)) Limit None ≡ None
    → NameFits n × (0 < left)
name_fits left t n v m =
    let is = word_fits (is_word t) t n v in
    let k = or_false (nat_eq left 0) (is_long_name (name_of t)) (no_mark _ Limit m) in
    let short : is_long_owner n.owner || is_long n.name ≡ false = ap is_long_name (sym v) ∙ k.1 in
    (record { owner = is.0; name = is.1; short = short }, open_left left k.0)

index_if : (b : Bool) (n i : ℕ) → cond b (Some n) None ≡ Some i → ltb 1023 n ≡ false → i ≤ 1023
index_if true n i v m = let same : n ≡ i = cc in
    subst (λ (k : ℕ). k ≤ 1023) same (ltb-false 1023 n m)
index_if false n i v m = absurd cc

value_if : (b : Bool) (base text v : List ℕ) → cond b (Some (value_in base text)) None ≡ Some v
    → value_in base text ≡ v
value_if true base text v e = cc
value_if false base text v e = absurd cc

value_is : (base : List ℕ) (t : Token) (v : List ℕ) → value_of base t ≡ Some v
    → value_in base t.text ≡ v
value_is base t v e = value_if (is_quoted t || is_word t) base t.text v e

-- ---- rules

bracketed_holds : {T : Token → Type 0} → Holds T bracketed (λ n i. IndexFits i × Indexed i)
bracketed_holds =
    holds_also (holds_any (sign_here 91)) (λ n u p.
    holds_also (holds_token {P = λ m i. i ≤ 1023}
    (λ t i h v m. index_if (is_index t) (decimal_from 0 t.text) i v (no_mark _ BadNumber m)))
    (λ m i w.
    holds_also (holds_any (sign_here 93)) (λ k x q.
    holds_nothing (λ j. (w, tt)))))

clash : (b : Bool) → b ≡ false → b ≡ true → ⊥
clash true e f = absurd cc
clash false e f = absurd cc

index_holds : {T : Token → Type 0}
    → Holds T index (λ n i. IndexFits i × (passes (is_sign 91) n ≡ true → Indexed i))
index_holds = holds_choice (weaker_holds bracketed_holds (λ n i q e. (q.0, λ f. q.1)))
    (holds_nothing (λ n e. (tt, λ f. absurd (clash (passes (is_sign 91) n) e f))))

setting_holds : {T : Token → Type 0} (base : List ℕ) (left : ℕ) (n : Name) (v : Settings)
    → Kept base left v → NameFits n → 0 < left
    → Holds T (setting base n v)
    (λ m w. (is_active n ≡ true → passes (is_sign 91) m ≡ true) → Kept base (left - 1) w)
setting_holds base left n v k f o =
    holds_also index_holds (λ m i w.
    holds_also (holds_any (sign_here 61)) (λ j u q.
    holds_also (holds_token {P = λ p x. value_in base x ≡ x}
    (λ t x h e g. subst (λ (y : List ℕ). value_in base y ≡ y) (value_is base t x e)
    (value_again base t.text))) (λ p x same.
    holds_nothing (λ r opens.
    let added : Setting = record {
      owner = n.owner;
      name = n.name;
      index = i;
      value = x;
      line = n.line;
    } in
    record {
      thorns = k.thorns;
      once = k.once;
      settings = each-append (SettingFits base) v.list (added ∷ []) k.settings
          (record { name = f; index = w.0; open_ = λ e. w.1 (opens e); value = same }, tt);
      lines = let l = k.lines in let e = length-append v.list (added ∷ []) in
          omega (arith, l, o, e);
    }))))

active_holds : {T : Token → Type 0} (base : List ℕ) (left : ℕ) (v : Settings) → Kept base left v
    → 0 < left → Holds T (active base v) (λ m w. Kept base (left - 1) w)
active_holds base left v k o =
    holds_also (holds_any (sign_here 61)) (λ n u q.
    holds_also (holds_token {P = λ p x. AllByRecursion IsThorn (thorns_in x)}
    (λ t x h e g. subst (λ (y : List ℕ). AllByRecursion IsThorn (thorns_in y))
    (value_is base t x e) (thorns_are (value_in base t.text) (no_mark _ Limit g)))) (λ p x w.
    holds_nothing (λ r. record {
      thorns = active_are v.active (thorns_in x) k.thorns w;
      once = once_still v.active (thorns_in x) k.once;
      settings = k.settings;
      lines = let l = k.lines in let e = lines_le (activate_all v.active (thorns_in x)) in
          omega (arith, l, o, e);
    })))

behind_holds : {T : Token → Type 0} (base : List ℕ) (b : Bool) (left : ℕ) (n : Name) (v : Settings)
    → is_active n ≡ b → Kept base left v → NameFits n → 0 < left
    → Holds T (behind_word base b n v) (λ m w. Kept base (left - 1) w)
behind_holds base true left n v e k f o =
    holds_choice (weaker_holds (setting_holds base left n v k f o) (λ m w q g. q (λ h. g)))
    (weaker_holds (active_holds base left v k o) (λ m w q g. q))
behind_holds base false left n v e k f o =
    weaker_holds (setting_holds base left n v k f o)
    (λ m w q. q (λ h. absurd (clash (is_active n) e h)))

line_holds : {T : Token → Type 0} (base : List ℕ) (r : Read) → Kept base r.left r.settings
    → Holds T (line base r) (λ n w. Kept base w.left w.settings)
line_holds base r k =
    holds_also (holds_token {P = λ p n. NameFits n × (0 < r.left)}
    (λ t n h v m. name_fits r.left t n v m)) (λ p n w.
    holds_also (behind_holds base (is_active n) r.left n r.settings refl k w.0 w.1) (λ q v g.
    holds_also (holds_any (one_line_end tt)) (λ j u x.
    holds_nothing (λ i. g))))

file_holds : {T : Token → Type 0} (base : List ℕ)
    → Holds T (parameter_file base) (λ n v. (left : ℕ) × Kept base left v)
file_holds base =
    holds_also (holds_loop (λ (r : Read). Kept base r.left r.settings) (line_holds base)
    (record { thorns = tt; once = refl; settings = tt; lines = omega arith })) (λ n r k.
    holds_nothing (λ i. (r.left, k)))

pub record Fits (base : List ℕ) (v : Settings) : Type 0 where
  pub thorns : AllByRecursion IsThorn v.active
  pub once : Once v.active
  pub settings : AllByRecursion (SettingFits base) v.list
  pub lines : lines_of v.active + length v.list ≤ 4096

pub fits : (base : List ℕ) (ts : List Token) (v : Settings)
    → Spells (parameter_file base).derives ts v → Fits base v
fits base ts v s =
    let k = spelled_holds (file_holds {T = λ t. Unit {0}} base) ts v s
    (unmarked_clean (λ t. Unit {0}) ts (λ t. tt)) in
    record {
      thorns = k.1.thorns;
      once = k.1.once;
      settings = k.1.settings;
      lines = let l = k.1.lines in omega (arith, l);
    }
