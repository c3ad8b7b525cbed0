-- The param file.
use Rattle.std.specs.Prelude.{ℕ, ◌-◌, nat_eq, Bool, ◌||◌, List, [], ◌∷◌, ◌++◌, codes, Some, None}
use Rattle.cx_text.specs.declared.token.Token.{Token}
use Rattle.cx_text.specs.Rules.{Rule, nothing, ◌>>=◌, choice, loop, is_sign, is_named, line_ends, keyword, sign, name}
use Rattle.cx_text.specs.Lexemes.{counted_keyword}
use Rattle.cx_param.specs.declared.declarations.PType.{PType}
use Rattle.cx_param.specs.declared.declarations.Scope.{Scope}
use Rattle.cx_param.specs.declared.declarations.Scope.TheVariants as scopes
use Rattle.cx_param.specs.declared.declarations.ParamDecl.{ParamDecl}
use Rattle.cx_param.specs.declared.ranges.Range.{Range}
use Rattle.cx_param.specs.declared.params.Access.{Access}
use Rattle.cx_param.specs.declared.params.Access.TheVariants.{Private, Restricted, Global, Shares}
use Rattle.cx_param.specs.declared.params.Read.{Read}
use Rattle.cx_param.specs.Blocks.{block}
use Rattle.cx_param.specs.Headings.{is_ptype, ptype, counted_ptype, heading}
use Rattle.cx_param.specs.Defaults.{default_of, unused_default}

-- ---- declarations

-- decl = ptype Word [ "[" Number "]" ] [ Quoted ] [ AS Word ] [ STEERABLE "=" Word ] "{" { range }
-- "}" default
abbrev pub decl : Scope → Bool → Rule ParamDecl
decl s full = do
  p ← counted_ptype full
  h ← heading
  rs ← block p
  d ← default_of p
  nothing
      (record {
        scope = s;
        ptype = p;
        name = h.name;
        length = h.length;
        alias = h.alias;
        steer = h.steer;
        ranges = rs;
        default = Some d;
      })

-- USES | EXTENDS
abbrev pub shared_scope : List ℕ → Bool → Rule Scope
shared_scope n full = choice (is_named (codes "USES"))
    (counted_keyword (codes "USES") full >>= λ u. nothing (scopes.Uses n))
    (counted_keyword (codes "EXTENDS") full >>= λ u. nothing (scopes.Extends n))

-- "{" { range } "}" [ Quoted | number ]
abbrev pub shared_block : PType → Rule (List Range)
shared_block p = do
  rs ← block p
  u ← unused_default
  nothing rs

abbrev pub shared_ranges : PType → Rule (List Range)
shared_ranges p = choice (is_sign 123) (shared_block p) (nothing [])

-- shared = (USES | EXTENDS) ptype Word [ "[" Number "]" ] [ Quoted ] [ AS Word ] [ STEERABLE "="
-- Word ]          [ "{" { range } "}" [ Quoted | number ] ]
abbrev pub shared : List ℕ → Bool → Rule ParamDecl
shared n full = do
  s ← shared_scope n full
  p ← ptype
  h ← heading
  rs ← shared_ranges p
  nothing
      (record {
        scope = s;
        ptype = p;
        name = h.name;
        length = h.length;
        alias = h.alias;
        steer = h.steer;
        ranges = rs;
        default = None;
      })

-- behind shares a use or an extension, elsewhere a declaration
abbrev pub declared : Access → Bool → Rule ParamDecl
declared (Shares n) full = shared n full
declared Private full = decl scopes.Private full
declared Restricted full = decl scopes.Restricted full
declared Global full = decl scopes.Global full

-- ---- the file

abbrev pub is_access : Token → Bool
is_access t = is_named (codes "PRIVATE") t || is_named (codes "RESTRICTED") t
    || is_named (codes "GLOBAL") t || is_named (codes "SHARES") t

-- NAME ":"
abbrev pub section : List ℕ → Access → Rule Access
section n a = do
  u ← keyword n
  v ← sign 58
  nothing a

-- shares ":" Word
abbrev pub shares : Rule Access
shares = do
  u ← keyword (codes "SHARES")
  v ← sign 58
  n ← name
  nothing (Shares n)

-- access = (private | restricted | global) ":" | shares ":" Word
abbrev pub access_line : Rule Access
access_line = choice (is_named (codes "PRIVATE")) (section (codes "PRIVATE") Private)
    (choice (is_named (codes "RESTRICTED")) (section (codes "RESTRICTED") Restricted)
    (choice (is_named (codes "GLOBAL")) (section (codes "GLOBAL") Global) shares))

abbrev pub is_entry : Token → Bool
is_entry t = is_access t || is_ptype t || is_named (codes "USES") t || is_named (codes "EXTENDS") t

abbrev pub opening : Read → Rule Read
opening s = do
  a ← access_line
  nothing (record s { access = a })

-- one declaration more: one less may then stand
abbrev pub declaring : Read → Rule Read
declaring s = do
  d ← declared s.access (nat_eq s.left 0)
  nothing (record { left = s.left - 1; access = s.access; decls = s.decls ++ d ∷ [] })

abbrev pub entry : Read → Rule Read
entry s = choice is_access (opening s) (declaring s)

-- file = { access | decl | shared }; at first declarations are private
abbrev pub params : Rule (List ParamDecl)
params = do
  u ← line_ends
  s ← loop is_entry entry (record { left = 4096; access = Private; decls = [] })
  nothing s.decls
