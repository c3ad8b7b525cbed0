-- What holds of each configuration that some tokens spell.
use Rattle.std.proofs.Common.{◌≡◌, ◌≤◌, ◌<◌, ◌+◌, ◌-◌, ℕ, zero, suc, nat_eq, false, List, [], ◌∷◌, length, map, Option, Some, refl, sym, ap, subst, ◌∙◌, arith}
use Rattle.std.specs.List.{AllByRecursion}
use Rattle.std.specs.Str.{bytes_eq}
use Rattle.std.specs.Char.{to_ascii_lowercase}
use Rattle.std.proofs.lemmas.Bool.{eqb-false}
use Rattle.std.proofs.lemmas.List.{length-append}
use Rattle.cx_text.specs.declared.token.Token.{Token}
use Rattle.cx_text.specs.Grammar.{passes, Spells}
use Rattle.cx_text.specs.Rules.{is_named, name_of, line_ends, keyword, sign_here, line_end}
use Rattle.cx_text.specs.Lexemes.{braces}
use Rattle.cx_text.specs.Written.{word}
use Rattle.cx_text.proofs.Printing.{IsShortName}
use Rattle.cx_text.proofs.Holds.{Holds, NamesAre, Named, unmarked_clean, holds_any, holds_also, holds_nothing, holds_choice, holds_loop, weaker_holds, name_holds, names_hold, named_each, some_names_hold, counted_holds, name_is_word, name_is_short, each-append, spelled_holds}
use Rattle.cx_conf.specs.declared.configuration.Configuration.{Configuration}
use Rattle.cx_conf.specs.declared.configuration.Read.{Read}
use Rattle.cx_conf.specs.Conf.{PROVIDES, OPTIONAL, REQUIRES, THORNS, provides, optional, thorns, capabilities, requires_, entry, more, configuration}
use Rattle.cx_conf.proofs.PrintLaws.{lines_of, OpensAsName, Fits}

-- of a tree, and of how many entries may still stand
pub record Kept (W : List ℕ → Type 0) (left : ℕ) (c : Configuration) : Type 0 where
  pub provides : AllByRecursion W c.provides
  pub optional : AllByRecursion W c.optional
  pub requires_ : AllByRecursion W c.requires_
  pub thorns : AllByRecursion W c.thorns
  pub opens : OpensAsName c.requires_
  pub lines : left + (length c.provides + length c.optional + lines_of c.requires_
      + lines_of c.thorns) ≤ 4096

open_left : (left : ℕ) → nat_eq left 0 ≡ false → 0 < left
open_left zero h = absurd (eqb-false zero zero h refl)
open_left (suc n) h = omega arith

lines_le : (ns : List (List ℕ)) → lines_of ns ≤ 1
lines_le [] = omega arith
lines_le (n ∷ ns) = omega arith

provides_holds : {T : Token → Type 0} (W : List ℕ → Type 0) → NamesAre T W
    → (left : ℕ) (c : Configuration) → Kept W left c
    → Holds T (provides left c) (λ n d. Kept W (left - 1) d)
provides_holds W are left c k =
    holds_also (counted_holds PROVIDES (nat_eq left 0)) (λ n u full.
    holds_also (name_holds W are) (λ m x w.
    holds_also (holds_any braces) (λ i v b.
    holds_nothing (λ j. record {
      provides = each-append W c.provides (x ∷ []) k.provides (w, tt);
      optional = k.optional;
      requires_ = k.requires_;
      thorns = k.thorns;
      opens = k.opens;
      lines = let l = k.lines in let o = open_left left full in
          let e = length-append c.provides (x ∷ []) in omega (arith, l, o, e);
    }))))

optional_holds : {T : Token → Type 0} (W : List ℕ → Type 0) → NamesAre T W
    → (left : ℕ) (c : Configuration) → Kept W left c
    → Holds T (optional left c) (λ n d. Kept W (left - 1) d)
optional_holds W are left c k =
    holds_also (counted_holds OPTIONAL (nat_eq left 0)) (λ n u full.
    holds_also (name_holds W are) (λ m x w.
    holds_also (holds_any braces) (λ i v b.
    holds_nothing (λ j. record {
      provides = k.provides;
      optional = each-append W c.optional (x ∷ []) k.optional (w, tt);
      requires_ = k.requires_;
      thorns = k.thorns;
      opens = k.opens;
      lines = let l = k.lines in let o = open_left left full in
          let e = length-append c.optional (x ∷ []) in omega (arith, l, o, e);
    }))))

thorns_holds : {T : Token → Type 0} (W : List ℕ → Type 0) → NamesAre T W
    → (left : ℕ) (c : Configuration) → Kept W left c → 0 < left
    → Holds T (thorns c) (λ n d. Kept W (left - 1) d)
thorns_holds W are left c k o =
    holds_also (holds_any (keyword THORNS)) (λ n u p.
    holds_also (holds_any (sign_here 58)) (λ m v q.
    holds_also (names_hold W are c.thorns k.thorns) (λ i ns w.
    holds_also (holds_any line_end) (λ j x r.
    holds_nothing (λ h. record {
      provides = k.provides;
      optional = k.optional;
      requires_ = k.requires_;
      thorns = w;
      opens = k.opens;
      lines = let l = k.lines in let e = lines_le ns in omega (arith, l, o, e);
    })))))

-- the first name of all is the first of the line
named_otherwise : (t : Token) (n : List ℕ) → name_of t ≡ Some n → is_named THORNS t ≡ false
    → is_named THORNS (word n) ≡ false
named_otherwise t n e h =
    let w = name_is_word t n e in
    let same : is_named THORNS t
    ≡ bytes_eq (map to_ascii_lowercase t.text) (map to_ascii_lowercase THORNS) = rw w.0 refl in
    sym (ap (λ (text : List ℕ).
    bytes_eq (map to_ascii_lowercase text) (map to_ascii_lowercase THORNS)) w.1) ∙ sym same ∙ h

opens_still : (W : List ℕ → Type 0) (old : List (List ℕ)) (next : Option Token)
    (new : List (List ℕ)) → OpensAsName old → Named W old next new
    → passes (is_named THORNS) next ≡ false → OpensAsName new
opens_still W [] next new o q h =
    let first : is_named THORNS q.tok ≡ false = ap (passes (is_named THORNS)) (sym q.begins) ∙ h in
    subst OpensAsName (sym q.grown.is) (named_otherwise q.tok q.first q.named first)
opens_still W (n ∷ ns) next new o q h = subst OpensAsName (sym q.grown.is) o

capabilities_holds : {T : Token → Type 0} (W : List ℕ → Type 0) → NamesAre T W
    → (left : ℕ) (c : Configuration) → Kept W left c → 0 < left
    → Holds T (capabilities c) (λ n d. passes (is_named THORNS) n ≡ false → Kept W (left - 1) d)
capabilities_holds W are left c k o =
    holds_also (some_names_hold W are c.requires_) (λ n ns q.
    holds_also (holds_any line_end) (λ m u p.
    holds_nothing (λ i h. record {
      provides = k.provides;
      optional = k.optional;
      requires_ = named_each W c.requires_ n ns k.requires_ q;
      thorns = k.thorns;
      opens = opens_still W c.requires_ n ns k.opens q h;
      lines = let l = k.lines in let e = lines_le ns in omega (arith, l, o, e);
    })))

requires_holds : {T : Token → Type 0} (W : List ℕ → Type 0) → NamesAre T W
    → (left : ℕ) (c : Configuration) → Kept W left c
    → Holds T (requires_ left c) (λ n d. Kept W (left - 1) d)
requires_holds W are left c k =
    holds_also (counted_holds REQUIRES (nat_eq left 0)) (λ n u full.
    let o = open_left left full in
    holds_choice (weaker_holds (thorns_holds W are left c k o) (λ m d q e. q))
    (capabilities_holds W are left c k o))

entry_holds : {T : Token → Type 0} (W : List ℕ → Type 0) → NamesAre T W
    → (left : ℕ) (c : Configuration) → Kept W left c
    → Holds T (entry left c) (λ n d. Kept W (left - 1) d)
entry_holds W are left c k =
    holds_choice (weaker_holds (provides_holds W are left c k) (λ n d q e. q))
    (weaker_holds (holds_choice (weaker_holds (optional_holds W are left c k) (λ n d q e. q))
    (weaker_holds (requires_holds W are left c k) (λ n d q e. q))) (λ n d q e. q))

more_holds : {T : Token → Type 0} (W : List ℕ → Type 0) → NamesAre T W → (s : Read)
    → Kept W s.left s.tree → Holds T (more s) (λ n r. Kept W r.left r.tree)
more_holds W are s k = holds_also (entry_holds W are s.left s.tree k)
    (λ n c q. holds_nothing (λ m. q))

pub configuration_holds : {T : Token → Type 0} (W : List ℕ → Type 0) → NamesAre T W
    → Holds T configuration (λ n c. (left : ℕ) × Kept W left c)
configuration_holds W are =
    holds_also (holds_any line_ends) (λ n u p.
    holds_also (holds_loop (λ s. Kept W s.left s.tree) (more_holds W are)
    (record {
      provides = tt;
      optional = tt;
      requires_ = tt;
      thorns = tt;
      opens = tt;
      lines = omega arith;
    })) (λ m s k.
    holds_nothing (λ i. (s.left, k))))

pub fits : (ts : List Token) (c : Configuration) → Spells configuration.derives ts c → Fits c
fits ts c s =
    let k =
    spelled_holds (configuration_holds {T = λ t. Unit {0}} IsShortName
    (λ t n h v m. name_is_short t n v m)) ts c s (unmarked_clean (λ t. Unit {0}) ts (λ t. tt))
    in
    record {
      provides = k.1.provides;
      optional = k.1.optional;
      requires_ = k.1.requires_;
      thorns = k.1.thorns;
      opens = k.1.opens;
      lines = let l = k.1.lines in omega (arith, l);
    }
