-- The param file is read as its grammar derives it.
use Rattle.std.proofs.Common.{ℕ, Bool, List, codes, Option, Some, None, refl}
use Rattle.cx_text.specs.declared.token.Token.{Token}
use Rattle.cx_text.specs.Rules.{is_sign, is_named}
use Rattle.cx_param.specs.declared.declarations.PType.{PType}
use Rattle.cx_param.specs.declared.declarations.Scope.{Scope}
use Rattle.cx_param.specs.declared.declarations.Scope.TheVariants as scopes
use Rattle.cx_param.specs.declared.params.Access.{Access}
use Rattle.cx_param.specs.declared.params.Access.TheVariants.{Private, Restricted, Global, Shares}
use Rattle.cx_param.specs.declared.params.Read.{Read}
use Rattle.cx_param.specs.Numbers.{begins_number}
use Rattle.cx_param.specs.Params.{decl, shared_scope, shared_block, shared_ranges, shared, declared, is_access, shares, access_line, is_entry, opening, declaring, entry, params}
use Rattle.cx_text.proofs.Loops.{Short}
use Rattle.cx_text.proofs.RuleLaws.{Good, Part, Tail, Any, Not, short_part, before_part, weaker_part, part_choice, part_end, part_then, part_then_tail, tail_then, tail_option, tail_loop, tail_end, lexeme_then, lexeme_last}
use Rattle.cx_text.proofs.LexemeLaws.{a_word, a_sign, a_name, keyword_is, sign_is, Ended, line_ends_tail}
use Rattle.cx_param.proofs.BlockLaws.{block_part}
use Rattle.cx_param.proofs.HeadingLaws.{a_ptype, AfterHeading, nothing_follows, heading_part}
use Rattle.cx_param.proofs.DefaultLaws.{default_part, unused_tail}

-- ---- what follows a declaration, a use or an extension

pub record AfterDecl (n : Option Token) : Type 0 where
  pub heading : AfterHeading n
  pub brace : Not (is_sign 123) n
  pub number : Not begins_number n

at_end : AfterDecl None
at_end = record { heading = nothing_follows; brace = refl; number = refl }

-- what begins one, and is neither an access line nor USES
record FirstDecl (n : Option Token) : Type 0 where
  access : Not is_access n
  uses : Not (is_named (codes "USES")) n
  ended : Ended n

decl_part : (s : Scope) (full : Bool) → Part (decl s full) FirstDecl AfterDecl
decl_part s full =
    before_part
    (lexeme_then a_ptype (record { access = refl; uses = refl; ended = refl }) (λ p.
    part_then {G = AfterHeading} (Some (a_sign 123))
    (record { length = refl; quoted = refl; alias = refl; steer = refl; ended = refl })
    (heading_part refl) (λ h.
    part_then None refl (block_part p
    (record { length = refl; quoted = refl; alias = refl; steer = refl; ended = refl })) (λ rs.
    part_end None refl (default_part p)))))
    (λ n h. h.heading.ended)

shared_scope_part : (name : List ℕ) (full : Bool) → Part (shared_scope name full) FirstDecl Ended
shared_scope_part name full =
    part_choice (lexeme_last {F = Any} (keyword_is (codes "USES") refl) tt)
    (lexeme_last (keyword_is (codes "EXTENDS") refl)
    (record { access = refl; uses = refl; ended = refl })) (λ n h. h.uses)

shared_block_part : (p : PType) → Part (shared_block p) Any AfterDecl
shared_block_part p = part_then_tail (block_part p tt) (λ n h. h.heading.ended) None at_end
    (λ rs. tail_then (unused_tail None at_end (λ n h. h.heading.quoted) (λ n h. h.number)
    (λ n h. h.heading.ended)) (λ u. tail_end None at_end))

shared_ranges_tail : (p : PType) → Tail (shared_ranges p) AfterDecl
shared_ranges_tail p = tail_option None at_end (shared_block_part p) (λ n h. h) (λ n h. h.brace)

shared_part : (name : List ℕ) (full : Bool) → Part (shared name full) FirstDecl AfterDecl
shared_part name full =
    part_then None refl (shared_scope_part name full) (λ s.
    lexeme_then a_ptype refl (λ p.
    part_then_tail (heading_part refl) (λ n h. h.heading) None at_end (λ h.
    tail_then (shared_ranges_tail p) (λ rs. tail_end None at_end))))

declared_part : (a : Access) (full : Bool) → Part (declared a full) FirstDecl AfterDecl
declared_part (Shares name) full = shared_part name full
declared_part Private full = decl_part scopes.Private full
declared_part Restricted full = decl_part scopes.Restricted full
declared_part Global full = decl_part scopes.Global full

-- ---- access lines

shares_part : {F : Option Token → Type 0} → F (Some (a_word (codes "SHARES"))) → Part shares F Ended
shares_part f = lexeme_then (keyword_is (codes "SHARES") refl) f
    (λ u. lexeme_then (sign_is 58 refl) refl (λ v. lexeme_last a_name refl))

-- what begins the last of these lines, and none of the others
record FirstShares (n : Option Token) : Type 0 where
  is_private : Not (is_named (codes "PRIVATE")) n
  is_restricted : Not (is_named (codes "RESTRICTED")) n
  is_global : Not (is_named (codes "GLOBAL")) n

access_part : Part access_line FirstShares Ended
access_part =
    part_choice (lexeme_then {F = Any} (keyword_is (codes "PRIVATE") refl) tt
    (λ u. lexeme_last (sign_is 58 refl) refl))
    (part_choice (lexeme_then {F = Any} (keyword_is (codes "RESTRICTED") refl) tt
    (λ u. lexeme_last (sign_is 58 refl) refl))
    (part_choice (lexeme_then {F = Any} (keyword_is (codes "GLOBAL") refl) tt
    (λ u. lexeme_last (sign_is 58 refl) refl))
    (shares_part (record { is_private = refl; is_restricted = refl; is_global = refl }))
    (λ n h. h.is_global))
    (λ n h. h.is_restricted))
    (λ n h. h.is_private)

-- ---- the file

opening_part : (s : Read) → Part (opening s) FirstShares AfterDecl
opening_part s = before_part (part_end None refl access_part) (λ n h. h.heading.ended)

declaring_part : (s : Read) → Part (declaring s) FirstDecl AfterDecl
declaring_part s = part_end None at_end (declared_part s.access _)

entry_part : (s : Read) → Part (entry s) Ended AfterDecl
entry_part s = weaker_part (part_choice (opening_part s) (declaring_part s) (λ n h. h.access))
    (λ n h. h.ended)

pub entry_short : (s : Read) → Short (entry s)
entry_short s = short_part (entry_part s).good (entry_part s).full

pub record AfterEntries (n : Option Token) : Type 0 where
  pub entry : Not is_entry n
  pub decl : AfterDecl n

pub file_ends : AfterEntries None
file_ends = record { entry = refl; decl = at_end }

file_tail : Tail params AfterEntries
file_tail = tail_then (line_ends_tail None file_ends (λ n h. h.decl.heading.ended))
    (λ u. tail_then (tail_loop None file_ends entry_part (λ n h. h.decl) (λ n h. h.entry))
    (λ s. tail_end None file_ends))

pub params_good : Good params AfterEntries
params_good = file_tail.good
