-- Settings that some text spells are spelled by the text that is printed, but for their lines.
use Rattle.std.proofs.Common.{◌≡◌, ◌<◌, ◌^◌, ℕ, nat_eq, Bool, true, false, cond, ◌||◌, List, [], ◌∷◌, ◌++◌, length, map, Option, Some, None, refl, ap, ◌∙◌, arith}
use Rattle.std.specs.List.{AllByRecursion, flat_map}
use Rattle.std.specs.Fmt.{decimal}
use Rattle.std.proofs.lemmas.Bool.{ne_eqb}
use Rattle.std.proofs.lemmas.List.{length-append}
use Rattle.cx_text.specs.declared.token.Token.{Token}
use Rattle.cx_text.specs.declared.token.Style.TheVariants.{Par}
use Rattle.cx_text.specs.Tokens.{is_word}
use Rattle.cx_text.specs.Printing.{printed}
use Rattle.cx_text.specs.Rules.{token}
use Rattle.cx_text.specs.declared.stop.Mark.TheVariants.{Limit}
use Rattle.cx_text.specs.Lexemes.{kept, first_mark}
use Rattle.cx_text.specs.Written.{word, quoted, sign, line_end}
use Rattle.cx_text.proofs.PrintLaws.{Printable, AllPrintable, WellEnded, printable_end, printable_quoted, printable_sign, again_from}
use Rattle.cx_text.proofs.WrittenLaws.{printable-append, unlined-append, unlined_same}
use Rattle.cx_text.proofs.Blind.{Blind, option_seen, option_same, blind_nothing, blind_token, blind_also, blind_choice, blind_loop, same_nothing, same_token, same_also, same_choice, spelled_blind}
use Rattle.cx_text.proofs.Blind as blind
use Rattle.cx_text.proofs.Holds.{each-append}
use Rattle.cx_parfile.specs.declared.settings.Setting.{Setting}
use Rattle.cx_parfile.specs.declared.settings.Settings.{Settings}
use Rattle.cx_parfile.specs.declared.reader.Name.{Name}
use Rattle.cx_parfile.specs.declared.reader.Read.{Read}
use Rattle.cx_parfile.specs.Values.{Named, is_name, is_empty, named_in}
use Rattle.cx_parfile.specs.ParFile.{ACTIVETHORNS, is_long_name, name_with, name_of, name_mark, bracketed, index, active, setting, is_active, behind_word, line, parameter_file}
use Rattle.cx_parfile.specs.Printed.{joined, active_line, full_name, index_tokens, setting_line, settings_tokens, unlined, SpellsAgain, without_line}
use Rattle.cx_parfile.proofs.ByteLaws.{Plain, colon_plain, plain_printable, names_plain, digits_plain}
use Rattle.cx_parfile.proofs.NumberLaws.{decimal_digits, decimal_full}
use Rattle.cx_parfile.proofs.NameLaws.{OwnerIs, name_full, name_bytes}
use Rattle.cx_parfile.proofs.ParLaws.{parameter_file_good}
use Rattle.cx_parfile.proofs.FitLaws.{IndexFits, SettingFits, fits}
use Rattle.cx_parfile.proofs.PrintLaws.{printed_again}

-- ---- the printed tokens

quoted_printable : (text : List ℕ) → Printable Par (quoted text)
quoted_printable text = printable_quoted Par (λ f. refl) text 0

end_printable : (value : List ℕ) → AllPrintable Par (sign 61 ∷ quoted value ∷ line_end ∷ [])
end_printable value = (
  printable_sign Par 61 0 (λ f. refl),
  (quoted_printable value, (printable_end Par 0, tt)),
)

active_printable : (ns : List (List ℕ)) → AllPrintable Par (active_line ns)
active_printable [] = tt
active_printable (n ∷ ns) = (
  plain_printable ACTIVETHORNS refl (names_plain ACTIVETHORNS refl),
  end_printable (joined (n ∷ ns)),
)

owned_full : (owner rest : List ℕ) → is_empty (owner ++ 58 ∷ rest) ≡ false
owned_full owner rest = let l = length-append owner (58 ∷ rest) in
    ne_eqb (length (owner ++ 58 ∷ rest)) 0 (λ e. absurd (omega (arith, l, e)))

full_printable : (owner : Option (List ℕ)) (name : List ℕ) → OwnerIs owner → is_name name ≡ true
    → Printable Par (word (full_name owner name))
full_printable None name o h =
    plain_printable name (name_full name h) (names_plain name (name_bytes name h))
full_printable (Some owner) name o h =
    plain_printable (owner ++ 58 ∷ 58 ∷ name) (owned_full owner (58 ∷ name))
    (each-append Plain owner (58 ∷ 58 ∷ name) (names_plain owner (name_bytes owner o))
    (colon_plain, (colon_plain, names_plain name (name_bytes name h))))

index_printable : (i : Option ℕ) → IndexFits i → AllPrintable Par (index_tokens i)
index_printable None f = tt
index_printable (Some i) f =
    let small : i < 2 ^ 64 = omega (arith, f) in (
      printable_sign Par 91 0 (λ g. refl),
      (
        plain_printable (decimal i) (decimal_full i small)
            (digits_plain (decimal i) (decimal_digits i small)),
        (printable_sign Par 93 0 (λ g. refl), tt),
      ),
    )

setting_printable : (base : List ℕ) (s : Setting) → SettingFits base s
    → AllPrintable Par (setting_line s)
setting_printable base s f = (
  full_printable s.owner s.name f.name.owner f.name.name,
  printable-append Par (index_tokens s.index) (sign 61 ∷ quoted s.value ∷ line_end ∷ [])
      (index_printable s.index f.index) (end_printable s.value),
)

settings_printable : (base : List ℕ) (ss : List Setting) → AllByRecursion (SettingFits base) ss
    → AllPrintable Par (flat_map setting_line ss)
settings_printable base [] h = tt
settings_printable base (s ∷ ss) h =
    printable-append Par (setting_line s) (flat_map setting_line ss) (setting_printable base s h.0)
    (settings_printable base ss h.1)

index_ended : (i : Option ℕ) (value : List ℕ) (rest : List Token) → WellEnded true rest
    → WellEnded false ((index_tokens i ++ (sign 61 ∷ quoted value ∷ line_end ∷ [])) ++ rest)
index_ended None value rest h = (refl, (refl, (refl, h)))
index_ended (Some i) value rest h = (refl, (refl, (refl, (refl, (refl, (refl, h))))))

settings_ended : (ss : List Setting) → WellEnded true (flat_map setting_line ss)
settings_ended [] = refl
settings_ended (s ∷ ss) =
    (refl, index_ended s.index s.value (flat_map setting_line ss) (settings_ended ss))

active_ended : (ns : List (List ℕ)) (rest : List Token) → WellEnded true rest
    → WellEnded true (active_line ns ++ rest)
active_ended [] rest h = h
active_ended (n ∷ ns) rest h = (refl, (refl, (refl, (refl, h))))

-- ---- they are on no line

index_unlined : (i : Option ℕ) → blind.unlined (index_tokens i) ≡ index_tokens i
index_unlined None = refl
index_unlined (Some i) = refl

joined_unlined : (ts us : List Token) → blind.unlined ts ≡ ts → blind.unlined us ≡ us
    → blind.unlined (ts ++ us) ≡ ts ++ us
joined_unlined ts us h k = unlined-append ts us ∙ rw (h, k) refl

setting_unlined : (s : Setting) → blind.unlined (setting_line s) ≡ setting_line s
setting_unlined s = ap (λ (ts : List Token). word (full_name s.owner s.name) ∷ ts)
    (joined_unlined (index_tokens s.index) (sign 61 ∷ quoted s.value ∷ line_end ∷ [])
    (index_unlined s.index) refl)

settings_unlined : (ss : List Setting)
    → blind.unlined (flat_map setting_line ss) ≡ flat_map setting_line ss
settings_unlined [] = refl
settings_unlined (s ∷ ss) =
    joined_unlined (setting_line s) (flat_map setting_line ss) (setting_unlined s)
    (settings_unlined ss)

active_unlined : (ns : List (List ℕ)) → blind.unlined (active_line ns) ≡ active_line ns
active_unlined [] = refl
active_unlined (n ∷ ns) = refl

tokens_unlined : (v : Settings) → blind.unlined (settings_tokens v) ≡ settings_tokens v
tokens_unlined v = joined_unlined (active_line v.active) (flat_map setting_line v.list)
    (active_unlined v.active) (settings_unlined v.list)

-- ---- the grammar looks at lines only where it keeps them

abbrev unlined_name : Name → Name
unlined_name n = record n { line = 0 }

abbrev unlined_read : Read → Read
unlined_read r = record r { settings = unlined r.settings }

with_seen : (line : ℕ) (o : Option Named)
    → name_with 0 o ≡ option_seen unlined_name (name_with line o)
with_seen line None = refl
with_seen line (Some n) = refl

name_if : (b : Bool) (t : Token)
    → cond b (name_with 0 (named_in t.text)) None
    ≡ option_seen unlined_name (cond b (name_with t.line (named_in t.text)) None)
name_if true t = with_seen t.line (named_in t.text)
name_if false t = refl

long_seen : (line : ℕ) (o : Option Named)
    → is_long_name (name_with 0 o) ≡ is_long_name (name_with line o)
long_seen line None = refl
long_seen line (Some n) = refl

long_if : (b : Bool) (t : Token)
    → is_long_name (cond b (name_with 0 (named_in t.text)) None)
    ≡ is_long_name (cond b (name_with t.line (named_in t.text)) None)
long_if true t = long_seen t.line (named_in t.text)
long_if false t = refl

mark_seen : (left : ℕ) (t : Token) → name_mark left (kept t) ≡ name_mark left t
mark_seen left t = ap (λ (long : Bool). first_mark (nat_eq left 0 || long) Limit None)
    (long_if (is_word t) t)

name_blind : (left : ℕ) → Blind unlined_name (token name_of (name_mark left))
    (token name_of (name_mark left))
name_blind left = blind_token (λ t. name_if (is_word t) t) (mark_seen left)

bracketed_same : Blind (λ x. x) bracketed bracketed
bracketed_same = same_also (same_token (λ t. refl) (λ t. refl))
    (λ u. same_also (same_token (λ t. refl) (λ t. refl))
    (λ i. same_also (same_token (λ t. refl) (λ t. refl)) (λ v. same_nothing)))

index_same : Blind (λ x. x) index index
index_same = same_choice (λ t. refl) bracketed_same same_nothing

active_blind : (base : List ℕ) (v : Settings)
    → Blind unlined (active base v) (active base (unlined v))
active_blind base v = blind_also (same_token (λ t. refl) (λ t. refl))
    (λ u w e. blind_also (same_token (λ t. refl) (λ t. refl)) (λ x y h. rw h (blind_nothing refl)))

pushed_unlined : (ss : List Setting) (s : Setting)
    → map without_line ss ++ without_line s ∷ [] ≡ map without_line (ss ++ s ∷ [])
pushed_unlined [] s = refl
pushed_unlined (r ∷ rs) s = ap (λ (ss : List Setting). without_line r ∷ ss) (pushed_unlined rs s)

setting_blind : (base : List ℕ) (n : Name) (v : Settings)
    → Blind unlined (setting base n v) (setting base (unlined_name n) (unlined v))
setting_blind base n v =
    blind_also index_same (λ i j e. rw e
    (blind_also (same_token (λ t. refl) (λ t. refl)) (λ u w f.
    blind_also (same_token (λ t. refl) (λ t. refl)) (λ x y h. rw h
    (blind_nothing (ap (λ (ss : List Setting). record v { list = ss })
    (pushed_unlined v.list
    (record { owner = n.owner; name = n.name; index = i; value = x; line = n.line }))))))))

behind_blind : (base : List ℕ) (b : Bool) (n : Name) (v : Settings)
    → Blind unlined (behind_word base b n v) (behind_word base b (unlined_name n) (unlined v))
behind_blind base true n v = blind_choice (λ t. refl) (setting_blind base n v) (active_blind base v)
behind_blind base false n v = setting_blind base n v

line_blind : (base : List ℕ) (r : Read)
    → Blind unlined_read (line base r) (line base (unlined_read r))
line_blind base r =
    blind_also (name_blind r.left) (λ n m e. rw e
    (blind_also (behind_blind base (is_active n) n r.settings) (λ v w f. rw f
    (blind_also {e = λ u. u} (same_token (λ t. refl) (λ t. refl)) (λ u x g. blind_nothing refl)))))

file_blind : (base : List ℕ) → Blind unlined (parameter_file base) (parameter_file base)
file_blind base =
    blind_also {e = unlined_read}
    (blind_loop {r = line base} {q = line base}
    (record { left = 4096; settings = record { active = []; list = [] } })
    (record { left = 4096; settings = record { active = []; list = [] } }) refl (λ t. refl)
    (λ r q e. rw e (line_blind base r))) (λ r q e. rw e (blind_nothing refl))

-- ---- the text

pub printed_text : (v : Settings) → SpellsAgain (printed (settings_tokens v)) v
printed_text v base (bytes, (ts, spelling, s)) =
    let f = fits base ts v s in
    let all : AllPrintable Par (settings_tokens v) =
    printable-append Par (active_line v.active) (flat_map setting_line v.list)
    (active_printable v.active) (settings_printable base v.list f.settings) in
    let ended : WellEnded true (settings_tokens v) =
    active_ended v.active (flat_map setting_line v.list) (settings_ended v.list) in
    let again = again_from Par (settings_tokens v) all ended in
    let same : blind.unlined again.0 ≡ settings_tokens v =
    unlined_same again.0 (settings_tokens v) again.2 ∙ tokens_unlined v in
    let read = spelled_blind (parameter_file_good base) (file_blind base) again.0 (unlined v)
    (ap (parameter_file base).reads same ∙ printed_again base v f) in
    (read.0, (again.0, again.1, read.1), read.2)
