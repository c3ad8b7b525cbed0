-- A configuration that some text spells is spelled by the text that is printed.
use Rattle.std.proofs.Common.{◌≡◌, ℕ, Bool, true, false, List, [], ◌∷◌, ◌++◌, codes, refl, sym, ap, subst, ◌∙◌, append_assoc, arith}
use Rattle.std.specs.List.{AllByRecursion, flat_map, list_all}
use Rattle.cx_text.specs.declared.token.Token.{Token}
use Rattle.cx_text.specs.declared.token.Style.TheVariants.{Ccl}
use Rattle.cx_text.specs.declared.byte.Role.TheVariants as roles
use Rattle.cx_text.specs.declared.byte.Class.TheVariants as classes
use Rattle.cx_text.specs.Bytes.{role_of, has}
use Rattle.cx_text.specs.Grammar.{Spells}
use Rattle.cx_text.specs.Printing.{printed, TextSpells, HasSpelling}
use Rattle.cx_text.specs.Written.{word, words, sign, line_end}
use Rattle.cx_text.proofs.PrintLaws.{Printable, AllPrintable, WellEnded, printable_end, printable_word, printable_sign, all_printable, again_from}
use Rattle.cx_text.proofs.WrittenLaws.{printable-append, words_printable, words_end, unmarked_printable, printable_name, unlined-append, unlined_words, unlined_same}
use Rattle.cx_text.proofs.Blind.{Blind, unlined, same_nothing, same_token, same_lexeme, same_also, same_choice, same_loop, line_ends_same, some_names_same, names_same, braces_same, spelled_blind}
use Rattle.cx_text.proofs.Holds.{NamesAre, name_is_short, spelled_holds}
use Rattle.cx_text.proofs.Printing.{IsShortName}
use Rattle.cx_conf.specs.declared.configuration.Configuration.{Configuration}
use Rattle.cx_conf.specs.Conf.{PROVIDES, OPTIONAL, REQUIRES, THORNS, provides, optional, thorns, capabilities, requires_, entry, configuration, no_configuration}
use Rattle.cx_conf.specs.Printed.{braced_line, capabilities_line, thorns_line, configuration_tokens}
use Rattle.cx_conf.proofs.ConfLaws.{configuration_good}
use Rattle.cx_conf.proofs.PrintLaws.{Fits, printed_again}
use Rattle.cx_conf.proofs.FitLaws.{configuration_holds}

-- a name that can be printed
abbrev IsPrintable : List ℕ → Type 0
IsPrintable n = Printable Ccl (word n)

-- ---- the printed tokens

braced_printable : (keyword : List ℕ) → Printable Ccl (word keyword) → (ns : List (List ℕ))
    → AllByRecursion IsPrintable ns → AllPrintable Ccl (flat_map (braced_line keyword) ns)
braced_printable keyword k [] h = tt
braced_printable keyword k (n ∷ ns) h = (
  k,
  (
    h.0,
    (
      printable_sign Ccl 123 0 (λ f. refl),
      (
        printable_sign Ccl 125 0 (λ f. refl),
        (printable_end Ccl 0, braced_printable keyword k ns h.1),
      ),
    ),
  ),
)

a_keyword : (b : ℕ) (w : List ℕ) → ((f : Bool) → role_of Ccl f b ≡ roles.Word)
    → list_all (has (classes.Word Ccl)) w ≡ true → Printable Ccl (word (b ∷ w))
a_keyword b w role all = printable_word Ccl b w 0 role all

line_printable : (ns : List (List ℕ)) → AllByRecursion IsPrintable ns
    → AllPrintable Ccl (words ns ++ line_end ∷ [])
line_printable ns h = printable-append Ccl (words ns) (line_end ∷ []) (words_printable Ccl ns h)
    (printable_end Ccl 0, tt)

capabilities_printable : (ns : List (List ℕ)) → AllByRecursion IsPrintable ns
    → AllPrintable Ccl (capabilities_line ns)
capabilities_printable [] h = tt
capabilities_printable (n ∷ ns) h =
    (a_keyword 82 (codes "EQUIRES") (λ f. refl) refl, line_printable (n ∷ ns) h)

thorns_printable : (ns : List (List ℕ)) → AllByRecursion IsPrintable ns
    → AllPrintable Ccl (thorns_line ns)
thorns_printable [] h = tt
thorns_printable (n ∷ ns) h = (
  a_keyword 82 (codes "EQUIRES") (λ f. refl) refl,
  (
    a_keyword 84 (codes "HORNS") (λ f. refl) refl,
    (printable_sign Ccl 58 0 (λ f. refl), line_printable (n ∷ ns) h),
  ),
)

braced_ended : (keyword : List ℕ) (ns : List (List ℕ)) (rest : List Token) → WellEnded true rest
    → WellEnded true (flat_map (braced_line keyword) ns ++ rest)
braced_ended keyword [] rest h = h
braced_ended keyword (n ∷ ns) rest h =
    (refl, (refl, (refl, (refl, (refl, braced_ended keyword ns rest h)))))

words_ended : (n : List ℕ) (ns : List (List ℕ)) (rest : List Token) → WellEnded true rest
    → WellEnded false ((words (n ∷ ns) ++ line_end ∷ []) ++ rest)
words_ended n ns rest h =
    subst (λ (ts : List Token). WellEnded false ts)
    (sym (append_assoc (words (n ∷ ns)) (line_end ∷ []) rest)) (words_end (n ∷ ns) rest h)

capabilities_ended : (ns : List (List ℕ)) (rest : List Token) → WellEnded true rest
    → WellEnded true (capabilities_line ns ++ rest)
capabilities_ended [] rest h = h
capabilities_ended (n ∷ ns) rest h = (refl, words_ended n ns rest h)

thorns_ended : (ns : List (List ℕ)) → WellEnded true (thorns_line ns)
thorns_ended [] = refl
thorns_ended (n ∷ ns) = (refl, (refl, (refl, words_end (n ∷ ns) [] refl)))

-- ---- they are on no line

braced_unlined : (keyword : List ℕ) (ns : List (List ℕ))
    → unlined (flat_map (braced_line keyword) ns) ≡ flat_map (braced_line keyword) ns
braced_unlined keyword [] = refl
braced_unlined keyword (n ∷ ns) =
    ap (λ (ts : List Token). braced_line keyword n ++ ts) (braced_unlined keyword ns)

line_unlined : (ns : List (List ℕ))
    → unlined (words ns ++ line_end ∷ []) ≡ words ns ++ line_end ∷ []
line_unlined ns = unlined-append (words ns) (line_end ∷ [])
    ∙ ap (λ (ts : List Token). ts ++ line_end ∷ []) (unlined_words ns)

capabilities_unlined : (ns : List (List ℕ)) → unlined (capabilities_line ns) ≡ capabilities_line ns
capabilities_unlined [] = refl
capabilities_unlined (n ∷ ns) = ap (λ (ts : List Token). word REQUIRES ∷ ts) (line_unlined (n ∷ ns))

thorns_unlined : (ns : List (List ℕ)) → unlined (thorns_line ns) ≡ thorns_line ns
thorns_unlined [] = refl
thorns_unlined (n ∷ ns) =
    ap (λ (ts : List Token). word REQUIRES ∷ word THORNS ∷ sign 58 ∷ ts) (line_unlined (n ∷ ns))

joined_unlined : (ts us : List Token) → unlined ts ≡ ts → unlined us ≡ us
    → unlined (ts ++ us) ≡ ts ++ us
joined_unlined ts us h k = unlined-append ts us ∙ rw (h, k) refl

tokens_unlined : (c : Configuration) → unlined (configuration_tokens c) ≡ configuration_tokens c
tokens_unlined c =
    joined_unlined (flat_map (braced_line PROVIDES) c.provides) _
    (braced_unlined PROVIDES c.provides)
    (joined_unlined (flat_map (braced_line OPTIONAL) c.optional) _
    (braced_unlined OPTIONAL c.optional)
    (joined_unlined (capabilities_line c.requires_) (thorns_line c.thorns)
    (capabilities_unlined c.requires_) (thorns_unlined c.thorns)))

-- ---- the grammar doesn't look at lines

provides_same : (left : ℕ) (c : Configuration) → Blind (λ x. x) (provides left c) (provides left c)
provides_same left c = same_also (same_lexeme (λ t. refl) (λ t. refl))
    (λ u. same_also (same_lexeme (λ t. refl) (λ t. refl))
    (λ n. same_also braces_same (λ v. same_nothing)))

optional_same : (left : ℕ) (c : Configuration) → Blind (λ x. x) (optional left c) (optional left c)
optional_same left c = same_also (same_lexeme (λ t. refl) (λ t. refl))
    (λ u. same_also (same_lexeme (λ t. refl) (λ t. refl))
    (λ n. same_also braces_same (λ v. same_nothing)))

thorns_same : (c : Configuration) → Blind (λ x. x) (thorns c) (thorns c)
thorns_same c = same_also (same_lexeme (λ t. refl) (λ t. refl))
    (λ u. same_also (same_token (λ t. refl) (λ t. refl))
    (λ v. same_also (names_same c.thorns)
    (λ ns. same_also (same_lexeme (λ t. refl) (λ t. refl)) (λ w. same_nothing))))

capabilities_same : (c : Configuration) → Blind (λ x. x) (capabilities c) (capabilities c)
capabilities_same c = same_also (some_names_same c.requires_)
    (λ ns. same_also (same_lexeme (λ t. refl) (λ t. refl)) (λ w. same_nothing))

requires_same : (left : ℕ) (c : Configuration)
    → Blind (λ x. x) (requires_ left c) (requires_ left c)
requires_same left c = same_also (same_lexeme (λ t. refl) (λ t. refl))
    (λ u. same_choice (λ t. refl) (thorns_same c) (capabilities_same c))

entry_same : (left : ℕ) (c : Configuration) → Blind (λ x. x) (entry left c) (entry left c)
entry_same left c = same_choice (λ t. refl) (provides_same left c)
    (same_choice (λ t. refl) (optional_same left c) (requires_same left c))

configuration_same : Blind (λ x. x) configuration configuration
configuration_same = same_also line_ends_same
    (λ u. same_also (same_loop (record { left = 4096; tree = no_configuration }) (λ t. refl)
    (λ s. same_also (entry_same s.left s.tree) (λ c. same_nothing))) (λ s. same_nothing))

-- ---- the text

-- a name within its limit that can be printed
abbrev IsName : List ℕ → Type 0
IsName n = IsShortName n × IsPrintable n

short_each : (ns : List (List ℕ)) → AllByRecursion IsName ns → AllByRecursion IsShortName ns
short_each [] h = tt
short_each (n ∷ ns) h = (h.0.0, short_each ns h.1)

printable_each : (ns : List (List ℕ)) → AllByRecursion IsName ns → AllByRecursion IsPrintable ns
printable_each [] h = tt
printable_each (n ∷ ns) h = (h.0.1, printable_each ns h.1)

pub printed_text : (c : Configuration) → HasSpelling Ccl configuration.derives c
    → TextSpells Ccl configuration.derives (printed (configuration_tokens c)) c
printed_text c (bytes, (ts, spelling, s)) =
    let names : NamesAre (Printable Ccl) IsName =
    λ t n p v m. (name_is_short t n v m, printable_name Ccl t n p v) in
    let k =
    (spelled_holds (configuration_holds IsName names) ts c s
    (unmarked_printable Ccl ts (all_printable bytes ts spelling))).1 in
    let lines = k.lines in
    let fits : Fits c = record {
      provides = short_each c.provides k.provides;
      optional = short_each c.optional k.optional;
      requires_ = short_each c.requires_ k.requires_;
      thorns = short_each c.thorns k.thorns;
      opens = k.opens;
      lines = omega (arith, lines);
    } in
    let all : AllPrintable Ccl (configuration_tokens c) =
    printable-append Ccl (flat_map (braced_line PROVIDES) c.provides) _
    (braced_printable PROVIDES (a_keyword 80 (codes "ROVIDES") (λ f. refl) refl) c.provides
    (printable_each c.provides k.provides))
    (printable-append Ccl (flat_map (braced_line OPTIONAL) c.optional) _
    (braced_printable OPTIONAL (a_keyword 79 (codes "PTIONAL") (λ f. refl) refl) c.optional
    (printable_each c.optional k.optional))
    (printable-append Ccl (capabilities_line c.requires_) (thorns_line c.thorns)
    (capabilities_printable c.requires_ (printable_each c.requires_ k.requires_))
    (thorns_printable c.thorns (printable_each c.thorns k.thorns))))
    in
    let ended : WellEnded true (configuration_tokens c) =
    braced_ended PROVIDES c.provides _
    (braced_ended OPTIONAL c.optional _
    (capabilities_ended c.requires_ (thorns_line c.thorns) (thorns_ended c.thorns))) in
    let again = again_from Ccl (configuration_tokens c) all ended in
    let same : unlined again.0 ≡ configuration_tokens c =
    unlined_same again.0 (configuration_tokens c) again.2 ∙ tokens_unlined c in
    let read = spelled_blind configuration_good configuration_same again.0 c
    (ap configuration.reads same ∙ printed_again c fits) in (
      again.0,
      again.1,
      subst (λ (x : Configuration). Spells configuration.derives again.0 x)
          read.2 read.1,
    )
