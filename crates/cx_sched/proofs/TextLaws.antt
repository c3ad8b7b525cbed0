-- A schedule file that some text spells is spelled by the text that is printed.
use Rattle.std.proofs.Common.{◌≡◌, true, List, [], ◌∷◌, ◌++◌, None, Ok, refl, sym, ap, subst, ◌∙◌}
use Rattle.std.specs.List.{AllByRecursion}
use Rattle.std.proofs.lemmas.List.{append-nil}
use Rattle.cx_text.specs.declared.token.Token.{Token}
use Rattle.cx_text.specs.declared.token.Style.TheVariants.{Ccl}
use Rattle.cx_text.specs.Grammar.{clean, Spells}
use Rattle.cx_text.specs.Lexemes.{kept}
use Rattle.cx_text.specs.Printing.{printed, TextSpells, HasSpelling}
use Rattle.cx_text.proofs.PrintLaws.{AllPrintable, WellEnded, again_from}
use Rattle.cx_text.proofs.PrintLaws as print
use Rattle.cx_text.proofs.WrittenLaws.{unmarked_printable, unlined_same}
use Rattle.cx_text.proofs.Blind.{unlined, spelled_blind}
use Rattle.cx_text.proofs.Printing.{no_skip}
use Rattle.cx_sched.specs.declared.tree.ScheduleFile.{ScheduleFile}
use Rattle.cx_sched.specs.Nodes.{nobody, schedule}
use Rattle.cx_sched.specs.Printed.{nodes, file_tokens}
use Rattle.cx_sched.proofs.NodeLaws.{file_good}
use Rattle.cx_sched.proofs.BlindLaws.{schedule_same}
use Rattle.cx_sched.proofs.NodesAgain.{stop_end, after_nodes, nodes_again, nodes_lined}
use Rattle.cx_sched.proofs.FitLaws.{FileFits, schedule_sees}

all_same : (ts : List Token) → AllByRecursion (λ t. kept t ≡ t) ts → unlined ts ≡ ts
all_same [] h = refl
all_same (t ∷ ts) h = ap (λ (us : List Token). kept t ∷ us) (all_same ts h.1)
    ∙ ap (λ (u : Token). u ∷ ts) h.0

file_again : (file : ScheduleFile) → FileFits file
    → schedule.reads (file_tokens file) ≡ Ok (file, [])
file_again file f =
    let ts : List Token = nodes file.items ++ [] in
    let same : file_tokens file ≡ ts = sym (append-nil (nodes file.items)) in
    let starts = (after_nodes file.items [] stop_end.after).ended in
    let all = nodes_again f.items (nobody 4096 4096) [] f.nodes f.lines stop_end in
    let whole : schedule.reads ts ≡ Ok (file, []) = rw (no_skip ts starts, all) refl in
    ap schedule.reads same ∙ whole

spelled_as : (ts : List Token) (file : ScheduleFile)
    → (x : ScheduleFile) × Spells schedule.derives ts x × (x ≡ file)
    → Spells schedule.derives ts file
spelled_as ts file (x, s, e) = subst (λ (y : ScheduleFile). Spells schedule.derives ts y) e s

pub printed_text : (file : ScheduleFile) → HasSpelling Ccl schedule.derives file
    → TextSpells Ccl schedule.derives (printed (file_tokens file)) file
printed_text file (bytes, (ts, spelling, s)) =
    let f = schedule_sees.law file (clean ts) None s
    (unmarked_printable Ccl ts (print.all_printable bytes ts spelling)) tt in
    let us : List Token = file_tokens file in
    let lined = nodes_lined f.items in
    let end : us ++ [] ≡ us = append-nil us in
    let printable = subst (AllPrintable Ccl) end (lined.printable [] tt) in
    let ended = subst (WellEnded true) end (lined.ended [] refl) in
    let lines = subst (AllByRecursion (λ (t : Token). kept t ≡ t)) end (lined.same [] tt) in
    let again = again_from Ccl us printable ended in
    let same : unlined again.0 ≡ us = unlined_same again.0 us again.2 ∙ all_same us lines in
    let read = spelled_blind file_good schedule_same again.0 file
    (ap schedule.reads same ∙ file_again file f) in
    (again.0, again.1, spelled_as again.0 file read)
