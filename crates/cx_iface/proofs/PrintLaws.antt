-- An interface file that is printed is read again.
use Rattle.std.proofs.Common.{◌≡◌, ◌≤◌, ℕ, ltb, false, List, [], ◌∷◌, ◌++◌, length, map, Option, Some, None, Ok, refl, ap, ◌∙◌, append_assoc, arith}
use Rattle.std.specs.Fmt.{decimal}
use Rattle.std.proofs.lemmas.Bool.{le-ltb}
use Rattle.std.proofs.lemmas.List.{append-nil}
use Rattle.cx_text.specs.declared.token.Token.{Token}
use Rattle.cx_text.specs.Tokens.{is_word, is_line_end}
use Rattle.cx_text.specs.Grammar.{head, passes}
use Rattle.cx_text.specs.Rules.{loop, choice, nothing, is_sign}
use Rattle.cx_text.specs.Lexemes.{among, is_comma_or_word, kept}
use Rattle.cx_text.specs.Written.{word, words, number, sign}
use Rattle.cx_text.proofs.DecimalLaws.{number_again}
use Rattle.cx_text.proofs.Printing.{loop_step, loop_stop, no_skip, IsShortName}
use Rattle.cx_iface.specs.declared.tree.GType.{GType}
use Rattle.cx_iface.specs.declared.tree.GType.TheVariants.{Gf, Array, Scalar}
use Rattle.cx_iface.specs.declared.tree.Group.{Group}
use Rattle.cx_iface.specs.declared.attributes.Attributes.{Attributes}
use Rattle.cx_iface.specs.Words.{TYPE, DIM, TIMELEVELS}
use Rattle.cx_iface.specs.Attributes.{no_attributes, is_attribute, attribute}
use Rattle.cx_iface.specs.Groups.{copies, more_variables, variables}
use Rattle.cx_iface.specs.Printed as printed
use Rattle.cx_iface.proofs.AttributeLaws.{attribute_short}
use Rattle.cx_iface.proofs.GroupLaws.{more_variables_short}

-- ---- copies

abbrev pub CopiesFit : Option ℕ → Type 0
CopiesFit None = Unit {0}
CopiesFit (Some k) = (1 ≤ k) × (k ≤ 64)

pub copies_again : (k : Option ℕ) (t : List ℕ) (rest : List Token) → CopiesFit k
    → (choice (is_sign 91) copies (nothing None)).reads (printed.copies k ++ word t ∷ rest)
    ≡ Ok (k, word t ∷ rest)
copies_again None t rest h = refl
copies_again (Some k) t rest h =
    let n = number_again 1 64 k (sign 93 ∷ word t ∷ rest) h.0 h.1 (omega (arith, h.1)) refl in
    rw (
      no_skip (number (decimal k) ∷ sign 93 ∷ word t ∷ rest) refl,
      n,
      no_skip (word t ∷ rest) refl,
    ) refl

-- ---- attributes

type_again : (g : GType) (a : Attributes) (rest : List Token) → a.gtype ≡ None
    → passes is_line_end (head rest) ≡ false
    → (attribute a).reads (word TYPE ∷ sign 61 ∷ word (printed.gtype_word g) ∷ rest)
    ≡ Ok (record a { gtype = Some g }, rest)
type_again Gf a rest h e =
    rw (
      h,
      no_skip (sign 61 ∷ word (printed.gtype_word Gf) ∷ rest) refl,
      no_skip (word (printed.gtype_word Gf) ∷ rest) refl,
      no_skip rest e,
    ) refl
type_again Array a rest h e =
    rw (
      h,
      no_skip (sign 61 ∷ word (printed.gtype_word Array) ∷ rest) refl,
      no_skip (word (printed.gtype_word Array) ∷ rest) refl,
      no_skip rest e,
    ) refl
type_again Scalar a rest h e =
    rw (
      h,
      no_skip (sign 61 ∷ word (printed.gtype_word Scalar) ∷ rest) refl,
      no_skip (word (printed.gtype_word Scalar) ∷ rest) refl,
      no_skip rest e,
    ) refl

-- the three attributes with effect
abbrev pub given : GType → ℕ → ℕ → Attributes
given g d l = record no_attributes { gtype = Some g; dim = Some d; levels = Some l }

dim_again : (g : GType) (d : ℕ) (rest : List Token) → 1 ≤ d → d ≤ 3
    → passes is_line_end (head rest) ≡ false
    → (attribute (record no_attributes { gtype = Some g })).reads
    (word DIM ∷ sign 61 ∷ number (decimal d) ∷ rest)
    ≡ Ok (record no_attributes { gtype = Some g; dim = Some d }, rest)
dim_again g d rest l h e =
    let n = number_again 1 3 d rest l h (omega (arith, h)) e in
    rw (
      no_skip (sign 61 ∷ number (decimal d) ∷ rest) refl,
      no_skip (number (decimal d) ∷ rest) refl,
      n,
    ) refl

levels_again : (g : GType) (d k : ℕ) (rest : List Token) → 1 ≤ k → k ≤ 8
    → passes is_line_end (head rest) ≡ false
    → (attribute (record no_attributes { gtype = Some g; dim = Some d })).reads
    (word TIMELEVELS ∷ sign 61 ∷ number (decimal k) ∷ rest) ≡ Ok (given g d k, rest)
levels_again g d k rest l h e =
    let n = number_again 1 8 k rest l h (omega (arith, h)) e in
    rw (
      no_skip (sign 61 ∷ number (decimal k) ∷ rest) refl,
      no_skip (number (decimal k) ∷ rest) refl,
      n,
    ) refl

pub record FitsEffects (g : Group) : Type 0 where
  pub dim : (1 ≤ g.dim) × (g.dim ≤ 3)
  pub levels : (1 ≤ g.levels) × (g.levels ≤ 8)

pub effects_again : (g : Group) (rest : List Token) → FitsEffects g
    → passes is_line_end (head rest) ≡ false
    → (loop is_attribute attribute no_attributes).reads (printed.effects g ++ rest)
    ≡ (loop is_attribute attribute (given g.gtype g.dim g.levels)).reads rest
effects_again g rest f e =
    let third : List Token = word TIMELEVELS ∷ sign 61 ∷ number (decimal g.levels) ∷ rest in
    let second : List Token = word DIM ∷ sign 61 ∷ number (decimal g.dim) ∷ third in
    loop_step is_attribute attribute attribute_short no_attributes
    (record no_attributes { gtype = Some g.gtype }) (printed.effects g ++ rest) second refl
    (type_again g.gtype no_attributes second refl refl)
    ∙ loop_step is_attribute attribute attribute_short
    (record no_attributes { gtype = Some g.gtype })
    (record no_attributes { gtype = Some g.gtype; dim = Some g.dim }) second third refl
    (dim_again g.gtype g.dim third f.dim.0 f.dim.1 refl)
    ∙ loop_step is_attribute attribute attribute_short
    (record no_attributes { gtype = Some g.gtype; dim = Some g.dim })
    (given g.gtype g.dim g.levels) third rest refl
    (levels_again g.gtype g.dim g.levels rest f.levels.0 f.levels.1 e)

-- what may follow attributes without effect
abbrev pub Follows : List Token → Type 0
Follows us = (passes is_line_end (head us) ≡ false) × (passes (is_sign 44) (head us) ≡ false)

-- those of a are read again, behind the attributes with effect
abbrev pub idle_of : Attributes → GType → ℕ → ℕ → Attributes
idle_of a g d l = record a { gtype = Some g; dim = Some d; levels = Some l }

abbrev pub RestAgain : Attributes → Type 0
RestAgain a = (g : GType) (d l : ℕ) (us : List Token) → Follows us
    → Follows (map kept a.rest ++ us)
    × ((loop is_attribute attribute (given g d l)).reads (map kept a.rest ++ us)
    ≡ (loop is_attribute attribute (idle_of a g d l)).reads us)

-- ---- variables

-- each is short, and none among those before it
abbrev pub Distinct : List (List ℕ) → List (List ℕ) → Type 0
Distinct old [] = Unit {0}
Distinct old (v ∷ vs) = (among old v ≡ false) × IsShortName v × Distinct (old ++ v ∷ []) vs

pub starts_words : (vs : List (List ℕ)) (b : ℕ) (rest : List Token)
    → passes is_line_end (head (words vs ++ sign b ∷ rest)) ≡ false
starts_words [] b rest = refl
starts_words (v ∷ vs) b rest = refl

variable_again : (old : List (List ℕ)) (v : List ℕ) (rest : List Token) → among old v ≡ false
    → IsShortName v → passes is_line_end (head rest) ≡ false
    → (more_variables old).reads (word v ∷ rest) ≡ Ok (old ++ v ∷ [], rest)
variable_again old v rest fresh h e =
    let short : ltb 64 (length v) ≡ false = le-ltb _ _ h in
    rw (fresh, short, no_skip rest e) refl

more_variables_again : (vs old : List (List ℕ)) (rest : List Token) → Distinct old vs
    → (loop is_comma_or_word more_variables old).reads (words vs ++ sign 125 ∷ rest)
    ≡ Ok (old ++ vs, sign 125 ∷ rest)
more_variables_again [] old rest h =
    loop_stop is_comma_or_word more_variables more_variables_short old (sign 125 ∷ rest) refl
    ∙ rw (append-nil old) refl
more_variables_again (v ∷ vs) old rest h =
    loop_step is_comma_or_word more_variables more_variables_short old (old ++ v ∷ [])
    (word v ∷ (words vs ++ sign 125 ∷ rest)) (words vs ++ sign 125 ∷ rest) refl
    (variable_again old v (words vs ++ sign 125 ∷ rest) h.0 h.1 (starts_words vs 125 rest))
    ∙ more_variables_again vs (old ++ v ∷ []) rest h.2
    ∙ ap (λ xs. Ok (xs, sign 125 ∷ rest)) (append_assoc old (v ∷ []) vs)

pub variables_again : (vs : List (List ℕ)) (rest : List Token) → Distinct [] vs
    → (choice is_word variables (nothing [])).reads (words vs ++ sign 125 ∷ rest)
    ≡ Ok (vs, sign 125 ∷ rest)
variables_again [] rest h = refl
variables_again (v ∷ vs) rest h =
    let short : ltb 64 (length v) ≡ false = le-ltb _ _ h.1 in
    rw (short, no_skip (words vs ++ sign 125 ∷ rest) (starts_words vs 125 rest))
    (more_variables_again vs (v ∷ []) rest h.2)
