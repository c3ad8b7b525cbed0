-- A parameter file that is printed is read again.
use Rattle.std.proofs.Common.{◌≡◌, ◌≤◌, ◌<◌, ◌+◌, ◌-◌, ◌^◌, ℕ, nat_eq, ltb, Bool, true, false, ◌||◌, List, [], ◌∷◌, ◌++◌, length, map, Option, Some, None, Ok, refl, sym, ap, ◌∙◌, append_assoc, arith}
use Rattle.std.specs.List.{AllByRecursion, flat_map, list_all, list_any}
use Rattle.std.specs.Char.{is_ascii_digit}
use Rattle.std.specs.Fmt.{decimal}
use Rattle.std.proofs.lemmas.Bool.{le-ltb, ne_eqb}
use Rattle.std.proofs.lemmas.List.{append-nil}
use Rattle.cx_text.specs.declared.token.Token.{Token}
use Rattle.cx_text.specs.Tokens.{is_word}
use Rattle.cx_text.specs.Grammar.{head, passes}
use Rattle.cx_text.specs.Reading.{Answer, go_on}
use Rattle.cx_text.specs.Rules.{token, loop, one_line_end}
use Rattle.cx_text.specs.Lexemes.{decimal_from}
use Rattle.cx_text.specs.Written.{word, quoted, sign, line_end}
use Rattle.cx_text.proofs.Printing.{loop_step, loop_stop}
use Rattle.cx_parfile.specs.declared.settings.Setting.{Setting}
use Rattle.cx_parfile.specs.declared.settings.Settings.{Settings}
use Rattle.cx_parfile.specs.declared.reader.Name.{Name}
use Rattle.cx_parfile.specs.declared.reader.Read.{Read}
use Rattle.cx_parfile.specs.Values.{named_in, is_empty, value_in, thorns_in, activate_all}
use Rattle.cx_parfile.specs.ParFile.{ACTIVETHORNS, is_long, is_long_owner, name_of, name_mark, is_active, behind_word, behind, line, parameter_file}
use Rattle.cx_parfile.specs.Printed.{joined, active_line, full_name, index_tokens, setting_line, settings_tokens, unlined, without_line}
use Rattle.cx_text.proofs.DecimalLaws.{decimal_again}
use Rattle.cx_parfile.proofs.NumberLaws.{decimal_digits, decimal_full}
use Rattle.cx_parfile.proofs.NameLaws.{named_again, IsThorn, thorns_again, none_long, joined_separated, separated_value}
use Rattle.cx_parfile.proofs.ParLaws.{line_short}
use Rattle.cx_parfile.proofs.FitLaws.{IndexFits, Indexed, SettingFits, lines_of, Fits}

not_full : (left : ℕ) → 0 < left → nat_eq left 0 ≡ false
not_full left h = ne_eqb left 0 (λ e. absurd (omega (arith, h, e)))

-- ---- the line of the active thorns

value_reads : (base text : List ℕ) (r : Read) (rest : List Token) → value_in base text ≡ text
    → list_any is_long (thorns_in text) ≡ false → 0 < r.left
    → (line base r).reads (word ACTIVETHORNS ∷ sign 61 ∷ quoted text ∷ line_end ∷ rest)
    ≡ Ok (
      record {
        left = r.left - 1;
        settings = record r.settings { active = activate_all r.settings.active (thorns_in text) };
      },
      rest,
    )
value_reads base text r rest v l o =
    let full = not_full r.left o in
    rw (full, v, l) refl

active_again : (base : List ℕ) (n : List ℕ) (ns : List (List ℕ)) (r : Read) (rest : List Token)
    → AllByRecursion IsThorn (n ∷ ns) → 0 < r.left
    → (line base r).reads (active_line (n ∷ ns) ++ rest)
    ≡ Ok (
      record {
        left = r.left - 1;
        settings = record r.settings { active = activate_all r.settings.active (n ∷ ns) };
      },
      rest,
    )
active_again base n ns r rest h o =
    let text : List ℕ = joined (n ∷ ns) in
    let same : thorns_in text ≡ n ∷ ns = thorns_again (n ∷ ns) h in
    value_reads base text r rest (separated_value base text (joined_separated n ns))
    (ap (list_any is_long) same ∙ none_long (n ∷ ns) h) o
    ∙ ap (λ (ms : List (List ℕ)).
    Ok (
      record {
        left = r.left - 1;
        settings = record r.settings { active = activate_all r.settings.active ms };
      },
      rest,
    )) same

-- ---- the line of a setting

abbrev added : Settings → Setting → Settings
added v s = record v { list = v.list ++ s ∷ [] }

abbrev value_end : List ℕ → List Token → List Token
value_end value rest = sign 61 ∷ quoted value ∷ line_end ∷ rest

indexed_again : (base : List ℕ) (b : Bool) (n : Name) (i : ℕ) (digits value : List ℕ) (v : Settings)
    (rest : List Token) → is_empty digits ≡ false → list_all is_ascii_digit digits ≡ true
    → decimal_from 0 digits ≡ i → ltb 1023 i ≡ false → value_in base value ≡ value
    → (behind_word base b n v).reads (sign 91 ∷ word digits ∷ sign 93 ∷ value_end value rest)
    ≡ Ok (
      added v
          (record { owner = n.owner; name = n.name; index = Some i; value = value; line = n.line }),
      line_end ∷ rest,
    )
indexed_again base true n i digits value v rest e d m l same = rw (e, d, m, l, same) refl
indexed_again base false n i digits value v rest e d m l same = rw (e, d, m, l, same) refl

behind_again : (base : List ℕ) (b : Bool) (n : Name) (i : Option ℕ) (value : List ℕ) (v : Settings)
    (rest : List Token) → IndexFits i → (b ≡ true → Indexed i) → value_in base value ≡ value
    → (behind_word base b n v).reads (index_tokens i ++ value_end value rest)
    ≡ Ok (
      added v
          (record { owner = n.owner; name = n.name; index = i; value = value; line = n.line }),
      line_end ∷ rest,
    )
behind_again base b n (Some i) value v rest f o same =
    let small : i < 2 ^ 64 = omega (arith, f) in
    let below : ltb 1023 i ≡ false = le-ltb _ _ f in
    indexed_again base b n i (decimal i) value v rest (decimal_full i small)
    (decimal_digits i small) (decimal_again i small) below same
behind_again base true n None value v rest f o same = absurd (o refl)
behind_again base false n None value v rest f o same = rw same refl

name_again : (left : ℕ) (text : List ℕ) (owner : Option (List ℕ)) (name : List ℕ)
    (rest : List Token) → 0 < left → named_in text ≡ Some (owner, name)
    → is_long_owner owner || is_long name ≡ false
    → (token name_of (name_mark left)).reads (word text ∷ rest)
    ≡ Ok (record { owner = owner; name = name; line = 0 }, rest)
name_again left text owner name rest o e s = let full = not_full left o in rw (full, e, s) refl

setting_again : (base : List ℕ) (s : Setting) (r : Read) (rest : List Token) → SettingFits base s
    → 0 < r.left
    → (line base r).reads (setting_line s ++ rest)
    ≡ Ok (record { left = r.left - 1; settings = added r.settings (without_line s) }, rest)
setting_again base s r rest f o =
    let n : Name = record { owner = s.owner; name = s.name; line = 0 } in
    let more : List Token = index_tokens s.index ++ value_end s.value rest in
    let parts : (index_tokens s.index ++ value_end s.value []) ++ rest ≡ more =
    append_assoc (index_tokens s.index) (value_end s.value []) rest in
    let first = name_again r.left (full_name s.owner s.name) s.owner s.name more o
    (named_again s.owner s.name f.name.owner f.name.name) f.name.short in
    let second = behind_again base (is_active n)
    n s.index s.value r.settings rest f.index f.open_ f.value in
    ap (λ (ts : List Token). (line base r).reads (word (full_name s.owner s.name) ∷ ts)) parts
    ∙ ap (λ a. go_on a (λ m us.
    go_on ((behind base m r.settings).reads us)
    (λ v vs. go_on ((one_line_end tt).reads vs)
    (λ u ws. Ok (record { left = r.left - 1; settings = v }, ws))))) first
    ∙ ap (λ a. go_on a (λ v vs.
    go_on ((one_line_end tt).reads vs)
    (λ u ws. Ok (record { left = r.left - 1; settings = v }, ws)))) second

-- ---- the whole list

abbrev tree_from : List ℕ → ℕ → Settings → List Token → Answer Settings
tree_from base left v ts =
    go_on ((loop is_word (line base) (record { left = left; settings = v })).reads ts)
    (λ r us. Ok (r.settings, us))

step : (base : List ℕ) (left : ℕ) (v w : Settings) (ts us : List Token)
    → passes is_word (head ts) ≡ true
    → (line base (record { left = left; settings = v })).reads ts
    ≡ Ok (record { left = left - 1; settings = w }, us)
    → tree_from base left v ts ≡ tree_from base (left - 1) w us
step base left v w ts us go one =
    ap (λ a. go_on a (λ r vs. Ok (r.settings, vs)))
    (loop_step is_word (line base) (line_short base) (record { left = left; settings = v })
    (record { left = left - 1; settings = w }) ts us go one)

stop : (base : List ℕ) (left : ℕ) (v : Settings) → tree_from base left v [] ≡ Ok (v, [])
stop base left v = ap (λ a. go_on a (λ r vs. Ok (r.settings, vs)))
    (loop_stop is_word (line base) (line_short base) (record { left = left; settings = v }) [] refl)

all_settings : (base : List ℕ) (ss : List Setting) (left : ℕ) (v : Settings) → length ss ≤ left
    → AllByRecursion (SettingFits base) ss
    → tree_from base left v (flat_map setting_line ss)
    ≡ Ok (record v { list = v.list ++ map without_line ss }, [])
all_settings base [] left v l h =
    stop base left v ∙ ap (λ (ss : List Setting). Ok (record v { list = ss }, []))
    (sym (append-nil v.list))
all_settings base (s ∷ ss) left v l h =
    step base left v (added v (without_line s)) (setting_line s ++ flat_map setting_line ss)
    (flat_map setting_line ss) refl
    (setting_again base s (record { left = left; settings = v }) (flat_map setting_line ss) h.0
    (omega (arith, l)))
    ∙ all_settings base ss (left - 1) (added v (without_line s)) (omega (arith, l)) h.1
    ∙ ap (λ (xs : List Setting). Ok (record v { list = xs }, []))
    (append_assoc v.list (without_line s ∷ []) (map without_line ss))

abbrev nothing_yet : Settings
nothing_yet = record { active = []; list = [] }

all_lines : (base : List ℕ) (active : List (List ℕ)) (ss : List Setting)
    → lines_of active + length ss ≤ 4096 → AllByRecursion IsThorn active
    → AllByRecursion (SettingFits base) ss
    → tree_from base 4096 nothing_yet (active_line active ++ flat_map setting_line ss)
    ≡ Ok (record { active = activate_all [] active; list = map without_line ss }, [])
all_lines base [] ss l a h = all_settings base ss 4096 nothing_yet (omega (arith, l)) h
all_lines base (n ∷ ns) ss l a h =
    let first : Settings = record { active = activate_all [] (n ∷ ns); list = [] } in
    step base 4096 nothing_yet first (active_line (n ∷ ns) ++ flat_map setting_line ss)
    (flat_map setting_line ss) refl
    (active_again base n ns (record { left = 4096; settings = nothing_yet })
    (flat_map setting_line ss) a (omega arith))
    ∙ all_settings base ss 4095 first (omega (arith, l)) h

-- the tree without its lines
pub printed_again : (base : List ℕ) (v : Settings) → Fits base v
    → (parameter_file base).reads (settings_tokens v) ≡ Ok (unlined v, [])
printed_again base v f =
    all_lines base v.active v.list f.lines f.thorns f.settings
    ∙ ap (λ (ns : List (List ℕ)).
    Ok (record { active = ns; list = map without_line v.list }, [])) f.once
