-- What stands before a printed block is read again.
use Rattle.std.proofs.Common.{◌≡◌, ◌≤◌, ℕ, ltb, false, List, ◌∷◌, ◌++◌, length, codes, Option, Some, None, Ok, refl, arith}
use Rattle.std.proofs.lemmas.Bool.{le-ltb}
use Rattle.cx_text.specs.declared.token.Token.{Token}
use Rattle.cx_text.specs.Tokens.{is_line_end}
use Rattle.cx_text.specs.Grammar.{head, passes}
use Rattle.cx_text.specs.Rules.{is_sign}
use Rattle.cx_text.specs.Written.{word, sign}
use Rattle.cx_text.proofs.Printing.{no_skip, IsShortName}
use Rattle.cx_param.specs.declared.declarations.PType.{PType}
use Rattle.cx_param.specs.declared.declarations.PType.TheVariants.{Boolean, Int, Keyword, String, Real}
use Rattle.cx_param.specs.declared.declarations.Steer.{Steer}
use Rattle.cx_param.specs.declared.declarations.Steer.TheVariants.{Never, Always, Recover}
use Rattle.cx_param.specs.Headings.{counted_ptype, length_of, comment, alias_of, steering, heading}
use Rattle.cx_param.specs.Printed as printed
use Rattle.cx_param.proofs.NumberAgain.{Skips, none_skipped, number_again}

abbrev pub LengthFits : Option ℕ → Type 0
LengthFits None = Unit {0}
LengthFits (Some n) = (1 ≤ n) × (n ≤ 1024)

abbrev pub AliasFits : Option (List ℕ) → Type 0
AliasFits None = Unit {0}
AliasFits (Some n) = IsShortName n

pub ptype_again : (p : PType) (ts : List Token) → passes is_line_end (head ts) ≡ false
    → (counted_ptype false).reads (word (printed.type_name p) ∷ ts) ≡ Ok (p, ts)
ptype_again Boolean ts e = rw (no_skip ts e) refl
ptype_again Int ts e = rw (no_skip ts e) refl
ptype_again Keyword ts e = rw (no_skip ts e) refl
ptype_again String ts e = rw (no_skip ts e) refl
ptype_again Real ts e = rw (no_skip ts e) refl

steering_again : (s : Steer) (more rest : List Token) → Skips more rest
    → steering.reads (printed.steering s ++ more) ≡ Ok (s, rest)
steering_again Never more rest k = let skip = k.reads in
    rw (
      no_skip (sign 61 ∷ word (codes "NEVER") ∷ more) refl,
      no_skip (word (codes "NEVER") ∷ more) refl,
      skip,
    ) refl
steering_again Always more rest k = let skip = k.reads in
    rw (
      no_skip (sign 61 ∷ word (codes "ALWAYS") ∷ more) refl,
      no_skip (word (codes "ALWAYS") ∷ more) refl,
      skip,
    ) refl
steering_again Recover more rest k = let skip = k.reads in
    rw (
      no_skip (sign 61 ∷ word (codes "RECOVER") ∷ more) refl,
      no_skip (word (codes "RECOVER") ∷ more) refl,
      skip,
    ) refl

-- the steering, and then
abbrev steered : List Token → List Token
steered ts = word (codes "STEERABLE") ∷ ts

alias_again : (a : Option (List ℕ)) (ts : List Token) → AliasFits a
    → alias_of.reads (printed.alias a ++ steered ts) ≡ Ok (a, steered ts)
alias_again None ts f = refl
alias_again (Some n) ts f =
    let short : ltb 64 (length n) ≡ false = le-ltb _ _ f in
    rw (no_skip (word n ∷ steered ts) refl, short, no_skip (steered ts) refl) refl

comment_again : (a : Option (List ℕ)) (ts : List Token)
    → comment.reads (printed.alias a ++ steered ts) ≡ Ok (tt, printed.alias a ++ steered ts)
comment_again None ts = refl
comment_again (Some n) ts = refl

starts_alias : (a : Option (List ℕ)) (ts : List Token)
    → (passes is_line_end (head (printed.alias a ++ steered ts)) ≡ false)
    × (passes (is_sign 91) (head (printed.alias a ++ steered ts)) ≡ false)
starts_alias None ts = (refl, refl)
starts_alias (Some n) ts = (refl, refl)

length_again : (l : Option ℕ) (ts : List Token) → LengthFits l
    → passes is_line_end (head ts) ≡ false → passes (is_sign 91) (head ts) ≡ false
    → length_of.reads (printed.length l ++ ts) ≡ Ok (l, ts)
length_again None ts f e b = rw b refl
length_again (Some n) ts f e b =
    let tail : List Token = sign 93 ∷ ts in
    let one = number_again 1 1024 n tail tail f.0 f.1 (omega (arith, f.1)) (none_skipped tail refl)
    in
    rw (no_skip (printed.number n ∷ tail) refl, one, no_skip ts e) refl

starts_length : (l : Option ℕ) (ts : List Token) → passes is_line_end (head ts) ≡ false
    → passes is_line_end (head (printed.length l ++ ts)) ≡ false
starts_length None ts e = e
starts_length (Some n) ts e = refl

-- what is printed behind a type, and then
abbrev pub named : List ℕ → Option ℕ → Option (List ℕ) → Steer → List Token → List Token
named name l a s ts = word name
    ∷ (printed.length l ++ (printed.alias a ++ (printed.steering s ++ ts)))

pub heading_again : (name : List ℕ) (l : Option ℕ) (a : Option (List ℕ)) (s : Steer)
    (more rest : List Token) → IsShortName name → LengthFits l → AliasFits a → Skips more rest
    → heading.reads (named name l a s more)
    ≡ Ok (record { name = name; length = l; alias = a; steer = s }, rest)
heading_again name l a s more rest h f g k =
    let tail : List Token = sign 61 ∷ word (printed.steer_name s) ∷ more in
    let behind : List Token = printed.alias a ++ steered tail in
    let starts = starts_alias a tail in
    let short : ltb 64 (length name) ≡ false = le-ltb _ _ h in
    let first = no_skip (printed.length l ++ behind) (starts_length l behind starts.0) in
    let second = length_again l behind f starts.0 starts.1 in
    let third = comment_again a tail in
    let fourth = alias_again a tail g in
    let fifth = steering_again s more rest k in
    rw (short, first, second, third, fourth, fifth) refl
