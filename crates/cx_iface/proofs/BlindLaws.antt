-- The grammar of interface files doesn't look at lines.
use Rattle.std.proofs.Common.{◌≡◌, nat_eq, Bool, true, false, List, [], ◌∷◌, ℕ, refl}
use Rattle.cx_text.specs.declared.ctype.CType.{CType}
use Rattle.cx_text.specs.declared.token.Token.{Token}
use Rattle.cx_text.specs.Lexemes.{kept, comma}
use Rattle.cx_text.proofs.Blind.{Blind, same_nothing, same_token, same_lexeme, same_also, same_lookahead, same_choice, same_loop, line_ends_same, names_same}
use Rattle.cx_iface.specs.declared.tree.Access.{Access}
use Rattle.cx_iface.specs.declared.interface.Read.{Read}
use Rattle.cx_iface.specs.declared.attributes.Attributes.{Attributes}
use Rattle.cx_iface.specs.declared.words.First.{First}
use Rattle.cx_iface.specs.declared.words.First.TheVariants as firsts
use Rattle.cx_iface.specs.Words.{begins_with}
use Rattle.cx_iface.specs.Attributes.{no_attributes, sizes, type_, dim, levels, distrib, size, ghostsize, tags, attribute}
use Rattle.cx_iface.specs.Groups.{copies, variables, block, group}
use Rattle.cx_iface.specs.File.{nobody, implements, inherits, friends, access, grouped, line, kept_line, function, part, again_mark, item, file}

-- ---- attributes

sizes_same : (ts : List Token) → Blind (λ x. x) (sizes ts) (sizes ts)
sizes_same ts =
    same_also (same_also (same_lexeme (λ t. refl) (λ t. refl)) (λ t. same_nothing)) (λ us.
    same_loop us (λ t. refl)
    (λ vs. same_also (same_also (same_lexeme (λ t. refl) (λ t. refl)) (λ t. same_nothing))
    (λ ws. same_also (same_lexeme (λ t. refl) (λ t. refl)) (λ t. same_nothing))))

type_same : (a : Attributes) → Blind (λ x. x) (type_ a) (type_ a)
type_same a = same_also (same_lexeme (λ t. refl) (λ t. refl))
    (λ u. same_also (same_lexeme (λ t. refl) (λ t. refl))
    (λ v. same_also (same_lexeme (λ t. refl) (λ t. refl)) (λ g. same_nothing)))

dim_same : (a : Attributes) → Blind (λ x. x) (dim a) (dim a)
dim_same a = same_also (same_lexeme (λ t. refl) (λ t. refl))
    (λ u. same_also (same_lexeme (λ t. refl) (λ t. refl))
    (λ v. same_also (same_lexeme (λ t. refl) (λ t. refl)) (λ n. same_nothing)))

levels_same : (a : Attributes) → Blind (λ x. x) (levels a) (levels a)
levels_same a = same_also (same_lexeme (λ t. refl) (λ t. refl))
    (λ u. same_also (same_lexeme (λ t. refl) (λ t. refl))
    (λ v. same_also (same_lexeme (λ t. refl) (λ t. refl)) (λ n. same_nothing)))

distrib_same : (a : Attributes) → Blind (λ x. x) (distrib a) (distrib a)
distrib_same a =
    same_also (same_also (same_lexeme (λ t. refl) (λ t. refl)) (λ t. same_nothing)) (λ us.
    same_also (same_also (same_lexeme (λ t. refl) (λ t. refl)) (λ t. same_nothing)) (λ vs.
    same_also (same_also (same_lexeme (λ t. refl) (λ t. refl)) (λ t. same_nothing))
    (λ ws. same_nothing)))

size_same : (a : Attributes) → Blind (λ x. x) (size a) (size a)
size_same a =
    same_also (same_also (same_lexeme (λ t. refl) (λ t. refl)) (λ t. same_nothing)) (λ us.
    same_also (same_also (same_lexeme (λ t. refl) (λ t. refl)) (λ t. same_nothing)) (λ vs.
    same_also (sizes_same vs) (λ ws. same_nothing)))

ghostsize_same : (a : Attributes) → Blind (λ x. x) (ghostsize a) (ghostsize a)
ghostsize_same a =
    same_also (same_also (same_lexeme (λ t. refl) (λ t. refl)) (λ t. same_nothing)) (λ us.
    same_also (same_also (same_lexeme (λ t. refl) (λ t. refl)) (λ t. same_nothing)) (λ vs.
    same_also (sizes_same vs) (λ ws. same_nothing)))

tags_same : (a : Attributes) → Blind (λ x. x) (tags a) (tags a)
tags_same a =
    same_also (same_also (same_lexeme (λ t. refl) (λ t. refl)) (λ t. same_nothing)) (λ us.
    same_also (same_also (same_lexeme (λ t. refl) (λ t. refl)) (λ t. same_nothing)) (λ vs.
    same_also (same_also (same_lexeme (λ t. refl) (λ t. refl)) (λ t. same_nothing))
    (λ ws. same_nothing)))

attribute_same : (a : Attributes) → Blind (λ x. x) (attribute a) (attribute a)
attribute_same a =
    same_choice (λ t. refl)
    (same_choice (λ t. refl) (type_same a) (same_choice (λ t. refl) (dim_same a) (levels_same a)))
    (same_choice (λ t. refl) (distrib_same a)
    (same_choice (λ t. refl) (size_same a)
    (same_choice (λ t. refl) (ghostsize_same a) (tags_same a))))

-- ---- groups

copies_same : Blind (λ x. x) copies copies
copies_same = same_also (same_lexeme (λ t. refl) (λ t. refl))
    (λ u. same_also (same_lexeme (λ t. refl) (λ t. refl))
    (λ n. same_also (same_lexeme (λ t. refl) (λ t. refl)) (λ v. same_nothing)))

comma_same : Blind (λ u. u) comma comma
comma_same = same_choice (λ t. refl) (same_lexeme (λ t. refl) (λ t. refl)) same_nothing

variables_same : Blind (λ x. x) variables variables
variables_same = same_also (same_lexeme (λ t. refl) (λ t. refl))
    (λ v. same_loop (v ∷ []) (λ t. refl)
    (λ vs. same_also comma_same
    (λ u. same_also (same_lexeme (λ t. refl) (λ t. refl)) (λ w. same_nothing))))

block_same : (text : List ℕ) → Blind (λ x. x) (block text) (block text)
block_same text =
    same_also (same_lexeme (λ t. refl) (λ t. refl)) (λ u.
    same_also (same_choice (λ t. refl) variables_same same_nothing) (λ vs.
    same_also (same_lexeme (λ t. refl) (λ t. refl)) (λ v.
    same_also (same_choice (λ t. refl) (same_lexeme (λ t. refl) (λ t. refl)) same_nothing)
    (λ s. same_nothing))))

group_same : (a : Access) (c : CType) (full : Bool)
    → Blind (λ x. x) (group a c full) (group a c full)
group_same a c full =
    same_also line_ends_same (λ u.
    same_also (same_lexeme (λ t. refl) (λ t. refl)) (λ name.
    same_also (same_choice (λ t. refl) copies_same same_nothing) (λ k.
    same_also (same_loop no_attributes (λ t. refl) attribute_same) (λ b.
    same_also (same_choice (λ t. refl) (same_lexeme (λ t. refl) (λ t. refl)) same_nothing) (λ s.
    same_also (same_choice (λ t. refl) (block_same s) same_nothing) (λ contents. same_nothing))))))

-- ---- the file

implements_same : (s : Read) → Blind (λ x. x) (implements s) (implements s)
implements_same s = same_also line_ends_same
    (λ u. same_also (same_lexeme (λ t. refl) (λ t. refl))
    (λ v. same_also (same_token (λ t. refl) (λ t. refl))
    (λ n. same_also (same_lexeme (λ t. refl) (λ t. refl)) (λ w. same_nothing))))

inherits_same : (s : Read) → Blind (λ x. x) (inherits s) (inherits s)
inherits_same s = same_also line_ends_same
    (λ u. same_also (same_token (λ t. refl) (λ t. refl))
    (λ v. same_also (names_same [])
    (λ ns. same_also (same_lexeme (λ t. refl) (λ t. refl)) (λ w. same_nothing))))

friends_same : (s : Read) → Blind (λ x. x) (friends s) (friends s)
friends_same s = same_also line_ends_same
    (λ u. same_also (same_token (λ t. refl) (λ t. refl))
    (λ v. same_also (names_same [])
    (λ ns. same_also (same_lexeme (λ t. refl) (λ t. refl)) (λ w. same_nothing))))

access_same : (a : Access) (s : Read) → Blind (λ x. x) (access a s) (access a s)
access_same a s = same_also line_ends_same
    (λ u. same_also (same_lexeme (λ t. refl) (λ t. refl)) (λ v. same_nothing))

grouped_same : (c : CType) (s : Read) → Blind (λ x. x) (grouped c s) (grouped c s)
grouped_same c s = same_also (group_same s.access c (nat_eq s.groups 0)) (λ g. same_nothing)

line_same : (ts : List Token) (s : Read) → Blind (λ x. x) (line ts s) (line ts s)
line_same ts s =
    same_also (same_loop ts (λ t. refl)
    (λ us. same_also (same_token (λ t. refl) (λ t. refl)) (λ t. same_nothing))) (λ us.
    same_also (same_lexeme (λ t. refl) (λ t. refl)) (λ w. same_nothing))

kept_line_same : (s : Read) → Blind (λ x. x) (kept_line s) (kept_line s)
kept_line_same s = same_also (same_token (λ t. refl) (λ t. refl)) (λ w. line_same (w ∷ []) s)

function_same : (w : Token) (s : Read) → Blind (λ x. x) (function w s) (function w s)
function_same w s = same_also (same_token (λ t. refl) (λ t. refl)) (λ f. line_same (w ∷ f ∷ []) s)

part_same : (k : First) (w : Token) (s : Read) → Blind (λ x. x) (part k w s) (part k w s)
part_same firsts.Implements w s = same_choice (λ t. refl) (function_same w s) (implements_same s)
part_same firsts.Inherits w s = same_choice (λ t. refl) (function_same w s) (inherits_same s)
part_same firsts.Friend w s = same_choice (λ t. refl) (function_same w s) (friends_same s)
part_same (firsts.Access a) w s = same_choice (λ t. refl) (function_same w s) (access_same a s)
part_same (firsts.Group c) w s = same_choice (λ t. refl) (function_same w s) (grouped_same c s)
part_same firsts.Other w s = function_same w s

mark_same : (s : Read) (b : Bool) (t : Token) → again_mark s b (kept t) ≡ again_mark s b t
mark_same s true t = refl
mark_same s false t = refl

item_same : (s : Read) → Blind (λ x. x) (item s) (item s)
item_same s = same_choice (λ t. refl) (kept_line_same s)
    (same_lookahead (λ t. refl) (λ t. refl) (mark_same s) (λ w. part_same (begins_with w) w s))

pub file_same : Blind (λ x. x) file file
file_same = same_also line_ends_same (λ u. same_loop nobody (λ t. refl) item_same)
