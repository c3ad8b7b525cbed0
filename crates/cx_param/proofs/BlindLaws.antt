-- The grammar of param files doesn't look at lines.
use Rattle.std.proofs.Common.{ℕ, nat_eq, Bool, true, false, List, [], Option, None, ℤ, refl}
use Rattle.cx_text.specs.Rules.{Rule}
use Rattle.cx_text.proofs.Blind.{Blind, same_nothing, same_token, same_lexeme, same_also, same_choice, same_loop, line_ends_same}
use Rattle.cx_param.specs.declared.declarations.PType.{PType}
use Rattle.cx_param.specs.declared.declarations.PType.TheVariants.{Boolean, Int, Keyword, String, Real}
use Rattle.cx_param.specs.declared.declarations.Scope.{Scope}
use Rattle.cx_param.specs.declared.declarations.Scope.TheVariants as scopes
use Rattle.cx_param.specs.declared.ranges.Range.{Range}
use Rattle.cx_param.specs.declared.params.Access.{Access}
use Rattle.cx_param.specs.declared.params.Access.TheVariants.{Private, Restricted, Global, Shares}
use Rattle.cx_param.specs.declared.params.Read.{Read}
use Rattle.cx_param.specs.Numbers.{number, number_text, step}
use Rattle.cx_param.specs.Blocks.{description, Open, opened, begun, bracket, close_bracket, end, bound, closed, further, uppers, behind_low, ints, one_text, texts, number_block, text_block, kept_block, block}
use Rattle.cx_param.specs.Headings.{counted_ptype, length_of, comment, alias_of, steering, heading}
use Rattle.cx_param.specs.Defaults.{plain_default, real_default, default_of, unused_default}
use Rattle.cx_param.specs.Params.{decl, shared, declared, access_line, entry, params}

-- it reads the same where no token has a line
abbrev Same : {A : Type 0} → Rule A → Type 0
Same r = Blind (λ x. x) r r

-- ---- numbers and ranges

number_same : Same number
number_same = same_choice (λ t. refl)
    (same_also (same_lexeme (λ t. refl) (λ t. refl)) (λ u. same_lexeme (λ t. refl) (λ t. refl)))
    (same_lexeme (λ t. refl) (λ t. refl))

number_text_same : Same number_text
number_text_same = same_choice (λ t. refl)
    (same_also (same_lexeme (λ t. refl) (λ t. refl))
    (λ u. same_also (same_lexeme (λ t. refl) (λ t. refl)) (λ n. same_nothing)))
    (same_lexeme (λ t. refl) (λ t. refl))

step_same : (low : Option ℤ) → Same (step low)
step_same low = same_lexeme (λ t. refl) (λ t. refl)

description_same : Same description
description_same = same_choice (λ t. refl)
    (same_also (same_lexeme (λ t. refl) (λ t. refl))
    (λ u. same_also (same_lexeme (λ t. refl) (λ t. refl)) (λ v. same_nothing))) same_nothing

bracket_same : Same bracket
bracket_same = same_choice (λ t. refl)
    (same_also (same_lexeme (λ t. refl) (λ t. refl)) (λ u. same_nothing))
    (same_also (same_lexeme (λ t. refl) (λ t. refl)) (λ u. same_nothing))

close_bracket_same : Same close_bracket
close_bracket_same = same_choice (λ t. refl)
    (same_also (same_lexeme (λ t. refl) (λ t. refl)) (λ u. same_nothing))
    (same_also (same_lexeme (λ t. refl) (λ t. refl)) (λ u. same_nothing))

end_same : Same end
end_same = same_choice (λ t. refl)
    (same_also (same_lexeme (λ t. refl) (λ t. refl)) (λ u. same_nothing))
    (same_also number_same (λ n. same_nothing))

bound_same : Same bound
bound_same = same_choice (λ t. refl) end_same same_nothing

closed_same : (o : Open) → Same (closed o)
closed_same o = same_also (same_choice (λ t. refl) close_bracket_same same_nothing)
    (λ i. same_nothing)

further_same : (o : Open) → Same (further o)
further_same o = same_also (same_lexeme (λ t. refl) (λ t. refl))
    (λ u. same_choice (λ t. refl) (same_also (step_same o.span.low) (λ n. same_nothing))
    (same_also bound_same (λ h. same_nothing)))

uppers_same : (o : Open) → Same (uppers o)
uppers_same o = same_also
    (same_also (same_lexeme (λ t. refl) (λ t. refl))
    (λ u. same_also bound_same (λ h. same_nothing))) (λ p. same_loop p (λ t. refl) further_same)

behind_low_same : (o : Open) → Same (behind_low o)
behind_low_same o = same_also (same_choice (λ t. refl) (uppers_same o) same_nothing) closed_same

ints_same : (rs : List Range) → Same (ints rs)
ints_same rs =
    same_choice (λ t. refl)
    (same_also bracket_same
    (λ i. same_also bound_same (λ l. behind_low_same (opened rs (begun l i)))))
    (same_choice (λ t. refl) (same_also (uppers_same (opened rs (begun None true))) closed_same)
    (same_choice (λ t. refl) (same_also close_bracket_same (λ i. same_nothing))
    (same_also end_same (λ l. behind_low_same (opened rs (begun l true))))))

number_block_same : Same number_block
number_block_same = same_also (same_lexeme (λ t. refl) (λ t. refl))
    (λ u. same_also (same_loop [] (λ t. refl)
    (λ rs. same_also (ints_same rs) (λ ss. same_also description_same (λ v. same_nothing))))
    (λ rs. same_also (same_lexeme (λ t. refl) (λ t. refl)) (λ v. same_nothing)))

one_text_same : (p : PType) (rs : List Range) → Same (one_text p rs)
one_text_same p rs = same_also (same_lexeme (λ t. refl) (λ t. refl)) (λ x. same_nothing)

texts_same : (p : PType) (rs : List Range) → Same (texts p rs)
texts_same p rs = same_also (one_text_same p rs)
    (λ ss. same_also (same_loop ss (λ t. refl)
    (λ qs. same_also (same_lexeme (λ t. refl) (λ t. refl)) (λ u. one_text_same p qs)))
    (λ qs. same_also description_same (λ v. same_nothing)))

text_block_same : (p : PType) → Same (text_block p)
text_block_same p = same_also (same_lexeme (λ t. refl) (λ t. refl))
    (λ u. same_also (same_loop [] (λ t. refl) (texts_same p))
    (λ rs. same_also (same_lexeme (λ t. refl) (λ t. refl)) (λ v. same_nothing)))

kept_block_same : Same kept_block
kept_block_same = same_also (same_token (λ t. refl) (λ t. refl))
    (λ u. same_also (same_loop [] (λ t. refl)
    (λ ts. same_also (same_token (λ t. refl) (λ t. refl)) (λ t. same_nothing)))
    (λ ts. same_also (same_lexeme (λ t. refl) (λ t. refl)) (λ v. same_nothing)))

block_same : (p : PType) → Same (block p)
block_same Int = number_block_same
block_same Real = kept_block_same
block_same Boolean = text_block_same Boolean
block_same Keyword = text_block_same Keyword
block_same String = text_block_same String

-- ---- heads and defaults

ptype_same : (full : Bool) → Same (counted_ptype full)
ptype_same full = same_lexeme (λ t. refl) (λ t. refl)

length_same : Same length_of
length_same = same_choice (λ t. refl)
    (same_also (same_lexeme (λ t. refl) (λ t. refl))
    (λ u. same_also (same_lexeme (λ t. refl) (λ t. refl))
    (λ n. same_also (same_lexeme (λ t. refl) (λ t. refl)) (λ v. same_nothing)))) same_nothing

comment_same : Same comment
comment_same = same_choice (λ t. refl)
    (same_also (same_lexeme (λ t. refl) (λ t. refl)) (λ u. same_nothing)) same_nothing

alias_same : Same alias_of
alias_same = same_choice (λ t. refl)
    (same_also (same_lexeme (λ t. refl) (λ t. refl))
    (λ u. same_also (same_lexeme (λ t. refl) (λ t. refl)) (λ n. same_nothing))) same_nothing

steering_same : Same steering
steering_same = same_choice (λ t. refl)
    (same_also (same_lexeme (λ t. refl) (λ t. refl))
    (λ u. same_also (same_lexeme (λ t. refl) (λ t. refl))
    (λ v. same_lexeme (λ t. refl) (λ t. refl)))) same_nothing

heading_same : Same heading
heading_same = same_also (same_lexeme (λ t. refl) (λ t. refl))
    (λ n. same_also length_same
    (λ l. same_also comment_same
    (λ u. same_also alias_same (λ a. same_also steering_same (λ s. same_nothing)))))

plain_same : Same plain_default
plain_same = same_choice (λ t. refl) (same_lexeme (λ t. refl) (λ t. refl))
    (same_choice (λ t. refl) (same_lexeme (λ t. refl) (λ t. refl)) number_text_same)

real_same : Same real_default
real_same = same_also (same_token (λ t. refl) (λ t. refl))
    (λ t. same_also (same_loop t (λ u. refl)
    (λ text. same_also (same_token (λ u. refl) (λ u. refl)) (λ u. same_nothing)))
    (λ text. same_also (same_lexeme (λ u. refl) (λ u. refl)) (λ u. same_nothing)))

default_same : (p : PType) → Same (default_of p)
default_same Real = real_same
default_same Boolean = plain_same
default_same Int = plain_same
default_same Keyword = plain_same
default_same String = plain_same

unused_same : Same unused_default
unused_same = same_choice (λ t. refl)
    (same_also (same_lexeme (λ t. refl) (λ t. refl)) (λ u. same_nothing))
    (same_choice (λ t. refl) (same_also number_same (λ n. same_nothing)) same_nothing)

-- ---- the file

decl_same : (s : Scope) (full : Bool) → Same (decl s full)
decl_same s full = same_also (ptype_same full)
    (λ p. same_also heading_same
    (λ h. same_also (block_same p) (λ rs. same_also (default_same p) (λ d. same_nothing))))

shared_same : (n : List ℕ) (full : Bool) → Same (shared n full)
shared_same n full =
    same_also (same_choice (λ t. refl)
    (same_also (same_lexeme (λ t. refl) (λ t. refl)) (λ u. same_nothing))
    (same_also (same_lexeme (λ t. refl) (λ t. refl)) (λ u. same_nothing))) (λ s.
    same_also (ptype_same false) (λ p.
    same_also heading_same (λ h.
    same_also (same_choice (λ t. refl)
    (same_also (block_same p) (λ rs. same_also unused_same (λ u. same_nothing))) same_nothing)
    (λ rs.
    same_nothing))))

declared_same : (a : Access) (full : Bool) → Same (declared a full)
declared_same (Shares n) full = shared_same n full
declared_same Private full = decl_same scopes.Private full
declared_same Restricted full = decl_same scopes.Restricted full
declared_same Global full = decl_same scopes.Global full

access_same : Same access_line
access_same =
    same_choice (λ t. refl)
    (same_also (same_lexeme (λ t. refl) (λ t. refl))
    (λ u. same_also (same_lexeme (λ t. refl) (λ t. refl)) (λ v. same_nothing)))
    (same_choice (λ t. refl)
    (same_also (same_lexeme (λ t. refl) (λ t. refl))
    (λ u. same_also (same_lexeme (λ t. refl) (λ t. refl)) (λ v. same_nothing)))
    (same_choice (λ t. refl)
    (same_also (same_lexeme (λ t. refl) (λ t. refl))
    (λ u. same_also (same_lexeme (λ t. refl) (λ t. refl)) (λ v. same_nothing)))
    (same_also (same_lexeme (λ t. refl) (λ t. refl))
    (λ u. same_also (same_lexeme (λ t. refl) (λ t. refl))
    (λ v. same_also (same_lexeme (λ t. refl) (λ t. refl)) (λ n. same_nothing))))))

entry_same : (s : Read) → Same (entry s)
entry_same s = same_choice (λ t. refl) (same_also access_same (λ a. same_nothing))
    (same_also (declared_same s.access (nat_eq s.left 0)) (λ d. same_nothing))

pub params_same : Same params
params_same = same_also line_ends_same
    (λ u. same_also (same_loop (record { left = 4096; access = Private; decls = [] }) (λ t. refl)
    entry_same) (λ s. same_nothing))
