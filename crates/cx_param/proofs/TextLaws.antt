-- Declarations that some text spells are spelled by the text that is printed.
use Rattle.std.proofs.Common.{◌≡◌, ◌≤◌, ◌-◌, ℕ, true, List, [], ◌∷◌, ◌++◌, length, Ok, refl, sym, ap, subst, ◌∙◌, append_assoc, arith}
use Rattle.std.specs.List.{AllByRecursion}
use Rattle.std.proofs.lemmas.List.{append-nil}
use Rattle.cx_text.specs.declared.token.Token.{Token}
use Rattle.cx_text.specs.declared.token.Style.TheVariants.{Ccl}
use Rattle.cx_text.specs.Grammar.{Spells}
use Rattle.cx_text.specs.Reading.{Answer, go_on}
use Rattle.cx_text.specs.Rules.{loop}
use Rattle.cx_text.specs.Printing.{printed_from, printed, TextSpells, HasSpelling}
use Rattle.cx_text.proofs.PrintLaws.{AllPrintable, WellEnded, again_from}
use Rattle.cx_text.proofs.WrittenLaws.{unlined_same}
use Rattle.cx_text.proofs.Blind.{unlined, spelled_blind}
use Rattle.cx_text.proofs.Printing.{loop_stop, no_skip}
use Rattle.cx_param.specs.declared.declarations.ParamDecl.{ParamDecl}
use Rattle.cx_param.specs.declared.params.Access.{Access}
use Rattle.cx_param.specs.declared.params.Access.TheVariants.{Private}
use Rattle.cx_param.specs.Params.{is_entry, entry, params}
use Rattle.cx_param.specs.Printed.{decls}
use Rattle.cx_param.proofs.ParamLaws.{entry_short, params_good}
use Rattle.cx_param.proofs.DeclAgain.{Next, nothing_next, DeclFits, decl_again}
use Rattle.cx_param.proofs.BlindLaws.{params_same}
use Rattle.cx_param.proofs.Fair.{spelled_keeps}
use Rattle.cx_param.proofs.FitLaws.{params_keeps}

-- the tokens as which the printed text is read again
abbrev tokens_of : (ds : List ParamDecl) → AllByRecursion DeclFits ds → List Token
tokens_of [] h = []
tokens_of (d ∷ ds) h = (decl_again d h.0).before (tokens_of ds h.1)

next_of : (ds : List ParamDecl) (h : AllByRecursion DeclFits ds) → Next (tokens_of ds h)
next_of [] h = nothing_next
next_of (d ∷ ds) h = ((decl_again d h.0).starts (tokens_of ds h.1)).1

printed_alike : (ds : List ParamDecl) (h : AllByRecursion DeclFits ds)
    → printed_from true (decls ds) ≡ printed_from true (tokens_of ds h)
printed_alike [] h = refl
printed_alike (d ∷ ds) h =
    (decl_again d h.0).text (decls ds) (tokens_of ds h.1) (printed_alike ds h.1)

all_printable : (ds : List ParamDecl) (h : AllByRecursion DeclFits ds)
    → AllPrintable Ccl (tokens_of ds h)
all_printable [] h = tt
all_printable (d ∷ ds) h = (decl_again d h.0).printable (tokens_of ds h.1) (all_printable ds h.1)

all_ended : (ds : List ParamDecl) (h : AllByRecursion DeclFits ds) → WellEnded true (tokens_of ds h)
all_ended [] h = refl
all_ended (d ∷ ds) h = (decl_again d h.0).ended (tokens_of ds h.1) (all_ended ds h.1)

all_same : (ds : List ParamDecl) (h : AllByRecursion DeclFits ds)
    → unlined (tokens_of ds h) ≡ tokens_of ds h
all_same [] h = refl
all_same (d ∷ ds) h = (decl_again d h.0).same (tokens_of ds h.1) (all_same ds h.1)

-- the declarations that are read behind these
abbrev decls_from : ℕ → Access → List ParamDecl → List Token → Answer (List ParamDecl)
decls_from left a ds ts =
    go_on ((loop is_entry entry (record { left = left; access = a; decls = ds })).reads ts)
    (λ s us. Ok (s.decls, us))

all_again : (ds : List ParamDecl) (h : AllByRecursion DeclFits ds) (left : ℕ) (a : Access)
    (old : List ParamDecl) → length ds ≤ left
    → decls_from left a old (tokens_of ds h) ≡ Ok (old ++ ds, [])
all_again [] h left a old l =
    ap (λ r. go_on r (λ s us. Ok (s.decls, us)))
    (loop_stop is_entry entry entry_short (record { left = left; access = a; decls = old }) [] refl)
    ∙ ap (λ (ds : List ParamDecl). Ok (ds, [])) (sym (append-nil old))
all_again (d ∷ ds) h left a old l =
    let one = (decl_again d h.0).reads left a old (tokens_of ds h.1) (omega (arith, l))
    (next_of ds h.1) in
    ap (λ r. go_on r (λ s us. Ok (s.decls, us))) one.1
    ∙ all_again ds h.1 (left - 1) one.0 (old ++ d ∷ []) (omega (arith, l))
    ∙ ap (λ (xs : List ParamDecl). Ok (xs, [])) (append_assoc old (d ∷ []) ds)

params_again : (ds : List ParamDecl) (h : AllByRecursion DeclFits ds) → length ds ≤ 4096
    → params.reads (tokens_of ds h) ≡ Ok (ds, [])
params_again ds h l = rw (no_skip (tokens_of ds h) (next_of ds h).ended)
    (all_again ds h 4096 Private [] l)

pub printed_text : (ds : List ParamDecl) → HasSpelling Ccl params.derives ds
    → TextSpells Ccl params.derives (printed (decls ds)) ds
printed_text ds (bytes, (ts, spelling, s)) =
    let f = spelled_keeps params_keeps bytes ts ds spelling s in
    let h : AllByRecursion DeclFits ds = f.0 in
    let us : List Token = tokens_of ds h in
    let again = again_from Ccl us (all_printable ds h) (all_ended ds h) in
    let same : unlined again.0 ≡ us = unlined_same again.0 us again.2 ∙ all_same ds h in
    let read = spelled_blind params_good params_same again.0 ds
    (ap params.reads same ∙ params_again ds h f.1) in
    let found : TextSpells Ccl params.derives (printed us) ds = (
      again.0,
      again.1,
      subst (λ (x : List ParamDecl). Spells params.derives again.0 x)
          read.2 read.1,
    ) in
    subst (λ (text : List ℕ). TextSpells Ccl params.derives text ds) (sym (printed_alike ds h))
    found
