-- A configuration that is printed is read again.
use Rattle.std.proofs.Common.{◌≡◌, ◌≤◌, ◌<◌, ◌+◌, ◌-◌, ℕ, nat_eq, ltb, true, false, List, [], ◌∷◌, ◌++◌, length, Ok, refl, sym, ap, ◌∙◌, append_assoc, arith}
use Rattle.std.specs.List.{AllByRecursion, flat_map}
use Rattle.std.proofs.lemmas.Bool.{le-ltb, ne_eqb}
use Rattle.std.proofs.lemmas.List.{append-nil}
use Rattle.cx_text.specs.declared.token.Token.{Token}
use Rattle.cx_text.specs.Tokens.{is_line_end}
use Rattle.cx_text.specs.Grammar.{head, passes, Spells}
use Rattle.cx_text.specs.Reading.{Answer, go_on}
use Rattle.cx_text.specs.Rules.{loop, is_named}
use Rattle.cx_text.specs.Written.{word, words, sign, line_end}
use Rattle.cx_text.proofs.Printing.{spelled, loop_step, loop_stop, no_skip, one_skip, no_inside, IsShortName, some_names_again}
use Rattle.cx_conf.specs.declared.configuration.Configuration.{Configuration}
use Rattle.cx_conf.specs.Conf.{PROVIDES, OPTIONAL, THORNS, is_entry, more, configuration, no_configuration}
use Rattle.cx_conf.specs.Printed.{braced_line, capabilities_line, thorns_line, configuration_tokens}
use Rattle.cx_conf.proofs.ConfLaws.{more_short, configuration_good}

-- another entry may stand
not_full : (left : ℕ) → 0 < left → nat_eq left 0 ≡ false
not_full left h = ne_eqb left 0 (λ e. absurd (omega (arith, h, e)))

provides_again : (left : ℕ) (c : Configuration) (n : List ℕ) (rest : List Token) → 0 < left
    → IsShortName n → passes is_line_end (head rest) ≡ false
    → (more (record { left = left; tree = c })).reads (braced_line PROVIDES n ++ rest)
    ≡ Ok (record { left = left - 1; tree = record c { provides = c.provides ++ n ∷ [] } }, rest)
provides_again left c n rest l h e =
    let full = not_full left l in
    let short : ltb 64 (length n) ≡ false = le-ltb _ _ h in
    rw (
      full,
      no_skip (word n ∷ sign 123 ∷ sign 125 ∷ line_end ∷ rest) refl,
      short,
      no_skip (sign 123 ∷ sign 125 ∷ line_end ∷ rest) refl,
      no_skip (sign 125 ∷ line_end ∷ rest) refl,
      no_inside (sign 125 ∷ line_end ∷ rest) refl,
      one_skip rest e,
    ) refl

optional_again : (left : ℕ) (c : Configuration) (n : List ℕ) (rest : List Token) → 0 < left
    → IsShortName n → passes is_line_end (head rest) ≡ false
    → (more (record { left = left; tree = c })).reads (braced_line OPTIONAL n ++ rest)
    ≡ Ok (record { left = left - 1; tree = record c { optional = c.optional ++ n ∷ [] } }, rest)
optional_again left c n rest l h e =
    let full = not_full left l in
    let short : ltb 64 (length n) ≡ false = le-ltb _ _ h in
    rw (
      full,
      no_skip (word n ∷ sign 123 ∷ sign 125 ∷ line_end ∷ rest) refl,
      short,
      no_skip (sign 123 ∷ sign 125 ∷ line_end ∷ rest) refl,
      no_skip (sign 125 ∷ line_end ∷ rest) refl,
      no_inside (sign 125 ∷ line_end ∷ rest) refl,
      one_skip rest e,
    ) refl

capabilities_again : (left : ℕ) (c : Configuration) (n : List ℕ) (ns : List (List ℕ))
    (rest : List Token) → 0 < left → is_named THORNS (word n) ≡ false → IsShortName n
    → AllByRecursion IsShortName ns → passes is_line_end (head rest) ≡ false
    → (more (record { left = left; tree = c })).reads (capabilities_line (n ∷ ns) ++ rest)
    ≡ Ok (record { left = left - 1; tree = record c { requires_ = c.requires_ ++ n ∷ ns } }, rest)
capabilities_again left c n ns rest l other h hs e =
    let full = not_full left l in
    let parts : (words (n ∷ ns) ++ line_end ∷ []) ++ rest ≡ words (n ∷ ns) ++ (line_end ∷ rest) =
    append_assoc (words (n ∷ ns)) (line_end ∷ []) rest in
    let all = some_names_again c.requires_ n ns (line_end ∷ rest) h hs refl in
    rw (full, parts, no_skip (words (n ∷ ns) ++ line_end ∷ rest) refl, other, all, no_skip rest e)
    refl

thorns_again : (left : ℕ) (c : Configuration) (n : List ℕ) (ns : List (List ℕ)) (rest : List Token)
    → 0 < left → IsShortName n → AllByRecursion IsShortName ns
    → passes is_line_end (head rest) ≡ false
    → (more (record { left = left; tree = c })).reads (thorns_line (n ∷ ns) ++ rest)
    ≡ Ok (record { left = left - 1; tree = record c { thorns = c.thorns ++ n ∷ ns } }, rest)
thorns_again left c n ns rest l h hs e =
    let full = not_full left l in
    let parts : (words (n ∷ ns) ++ line_end ∷ []) ++ rest ≡ words (n ∷ ns) ++ (line_end ∷ rest) =
    append_assoc (words (n ∷ ns)) (line_end ∷ []) rest in
    let all = some_names_again c.thorns n ns (line_end ∷ rest) h hs refl in
    rw (
      full,
      parts,
      no_skip (word THORNS ∷ sign 58 ∷ (words (n ∷ ns) ++ line_end ∷ rest)) refl,
      no_skip (sign 58 ∷ (words (n ∷ ns) ++ line_end ∷ rest)) refl,
      all,
      no_skip rest e,
    ) refl

-- ---- the whole list

-- how many lines there are of these
abbrev pub lines_of : List (List ℕ) → ℕ
lines_of [] = 0
lines_of (n ∷ ns) = 1

-- the first of these isn't taken for the keyword THORNS
abbrev pub OpensAsName : List (List ℕ) → Type 0
OpensAsName [] = Unit {0}
OpensAsName (n ∷ ns) = is_named THORNS (word n) ≡ false

-- the tree that is read from entries, and what is left
abbrev tree_from : ℕ → Configuration → List Token → Answer Configuration
tree_from left c ts = go_on ((loop is_entry more (record { left = left; tree = c })).reads ts)
    (λ s us. Ok (s.tree, us))

starts_thorns : (ts : List (List ℕ)) → passes is_line_end (head (thorns_line ts)) ≡ false
starts_thorns [] = refl
starts_thorns (n ∷ ns) = refl

starts_rest : (rs ts : List (List ℕ))
    → passes is_line_end (head (capabilities_line rs ++ thorns_line ts)) ≡ false
starts_rest [] ts = starts_thorns ts
starts_rest (n ∷ ns) ts = refl

starts_braced : (keyword : List ℕ) (ns : List (List ℕ)) (rest : List Token)
    → passes is_line_end (head rest) ≡ false
    → passes is_line_end (head (flat_map (braced_line keyword) ns ++ rest)) ≡ false
starts_braced keyword [] rest h = h
starts_braced keyword (n ∷ ns) rest h = refl

step : (left : ℕ) (c d : Configuration) (ts us : List Token) → passes is_entry (head ts) ≡ true
    → (more (record { left = left; tree = c })).reads ts
    ≡ Ok (record { left = left - 1; tree = d }, us)
    → tree_from left c ts ≡ tree_from (left - 1) d us
step left c d ts us go one =
    ap (λ a. go_on a (λ s vs. Ok (s.tree, vs)))
    (loop_step is_entry more more_short (record { left = left; tree = c })
    (record { left = left - 1; tree = d }) ts us go one)

stop : (left : ℕ) (c : Configuration) → tree_from left c [] ≡ Ok (c, [])
stop left c = ap (λ a. go_on a (λ s vs. Ok (s.tree, vs)))
    (loop_stop is_entry more more_short (record { left = left; tree = c }) [] refl)

all_thorns : (ts : List (List ℕ)) (left : ℕ) (c : Configuration) → lines_of ts ≤ left
    → AllByRecursion IsShortName ts
    → tree_from left c (thorns_line ts) ≡ Ok (record c { thorns = c.thorns ++ ts }, [])
all_thorns [] left c l h =
    stop left c ∙ ap (λ (ns : List (List ℕ)). Ok (record c { thorns = ns }, []))
    (sym (append-nil c.thorns))
all_thorns (n ∷ ns) left c l h =
    let d : Configuration = record c { thorns = c.thorns ++ n ∷ ns } in
    ap (tree_from left c) (sym (append-nil (thorns_line (n ∷ ns))))
    ∙ step left c d (thorns_line (n ∷ ns) ++ []) [] refl
    (thorns_again left c n ns [] (omega (arith, l)) h.0 h.1 refl)
    ∙ stop (left - 1) d

all_capabilities : (rs ts : List (List ℕ)) (left : ℕ) (c : Configuration)
    → lines_of rs + lines_of ts ≤ left → OpensAsName rs → AllByRecursion IsShortName rs
    → AllByRecursion IsShortName ts
    → tree_from left c (capabilities_line rs ++ thorns_line ts)
    ≡ Ok (record c { requires_ = c.requires_ ++ rs; thorns = c.thorns ++ ts }, [])
all_capabilities [] ts left c l o h k =
    all_thorns ts left c (omega (arith, l)) k
    ∙ ap (λ (ns : List (List ℕ)). Ok (record c { requires_ = ns; thorns = c.thorns ++ ts }, []))
    (sym (append-nil c.requires_))
all_capabilities (n ∷ ns) ts left c l o h k =
    let d : Configuration = record c { requires_ = c.requires_ ++ n ∷ ns } in
    step left c d (capabilities_line (n ∷ ns) ++ thorns_line ts) (thorns_line ts) refl
    (capabilities_again left c n ns (thorns_line ts) (omega (arith, l)) o h.0 h.1
    (starts_thorns ts))
    ∙ all_thorns ts (left - 1) d (omega (arith, l)) k

all_optional : (os rs ts : List (List ℕ)) (left : ℕ) (c : Configuration)
    → length os + lines_of rs + lines_of ts ≤ left → OpensAsName rs → AllByRecursion IsShortName os
    → AllByRecursion IsShortName rs → AllByRecursion IsShortName ts
    → tree_from left c (flat_map (braced_line OPTIONAL) os
    ++ (capabilities_line rs ++ thorns_line ts))
    ≡ Ok (
      record c {
        optional = c.optional ++ os;
        requires_ = c.requires_ ++ rs;
        thorns = c.thorns ++ ts;
      },
      [],
    )
all_optional [] rs ts left c l o g h k =
    all_capabilities rs ts left c (omega (arith, l)) o h k
    ∙ ap (λ (ns : List (List ℕ)).
    Ok (record c { optional = ns; requires_ = c.requires_ ++ rs; thorns = c.thorns ++ ts }, []))
    (sym (append-nil c.optional))
all_optional (n ∷ ns) rs ts left c l o g h k =
    let rest : List Token =
    flat_map (braced_line OPTIONAL) ns ++ (capabilities_line rs ++ thorns_line ts) in
    let d : Configuration = record c { optional = c.optional ++ n ∷ [] } in
    step left c d (braced_line OPTIONAL n ++ rest) rest refl
    (optional_again left c n rest (omega (arith, l)) g.0
    (starts_braced OPTIONAL ns (capabilities_line rs ++ thorns_line ts) (starts_rest rs ts)))
    ∙ all_optional ns rs ts (left - 1) d (omega (arith, l)) o g.1 h k
    ∙ ap (λ (xs : List (List ℕ)).
    Ok (record c { optional = xs; requires_ = c.requires_ ++ rs; thorns = c.thorns ++ ts }, []))
    (append_assoc c.optional (n ∷ []) ns)

all_provides : (ps os rs ts : List (List ℕ)) (left : ℕ) (c : Configuration)
    → length ps + length os + lines_of rs + lines_of ts ≤ left → OpensAsName rs
    → AllByRecursion IsShortName ps → AllByRecursion IsShortName os → AllByRecursion IsShortName rs
    → AllByRecursion IsShortName ts
    → tree_from left c (flat_map (braced_line PROVIDES) ps
    ++ (flat_map (braced_line OPTIONAL) os ++ (capabilities_line rs ++ thorns_line ts)))
    ≡ Ok (
      record c {
        provides = c.provides ++ ps;
        optional = c.optional ++ os;
        requires_ = c.requires_ ++ rs;
        thorns = c.thorns ++ ts;
      },
      [],
    )
all_provides [] os rs ts left c l o f g h k =
    all_optional os rs ts left c (omega (arith, l)) o g h k
    ∙ ap (λ (ns : List (List ℕ)).
    Ok (
      record c {
        provides = ns;
        optional = c.optional ++ os;
        requires_ = c.requires_ ++ rs;
        thorns = c.thorns ++ ts;
      },
      [],
    )) (sym (append-nil c.provides))
all_provides (n ∷ ns) os rs ts left c l o f g h k =
    let rest : List Token =
    flat_map (braced_line PROVIDES) ns
    ++ (flat_map (braced_line OPTIONAL) os ++ (capabilities_line rs ++ thorns_line ts)) in
    let d : Configuration = record c { provides = c.provides ++ n ∷ [] } in
    step left c d (braced_line PROVIDES n ++ rest) rest refl
    (provides_again left c n rest (omega (arith, l)) f.0
    (starts_braced PROVIDES ns
    (flat_map (braced_line OPTIONAL) os ++ (capabilities_line rs ++ thorns_line ts))
    (starts_braced OPTIONAL os (capabilities_line rs ++ thorns_line ts) (starts_rest rs ts))))
    ∙ all_provides ns os rs ts (left - 1) d (omega (arith, l)) o f.1 g h k
    ∙ ap (λ (xs : List (List ℕ)).
    Ok (
      record c {
        provides = xs;
        optional = c.optional ++ os;
        requires_ = c.requires_ ++ rs;
        thorns = c.thorns ++ ts;
      },
      [],
    )) (append_assoc c.provides (n ∷ []) ns)

-- what a spelled tree is, so that it can be printed
pub record Fits (c : Configuration) : Type 0 where
  pub provides : AllByRecursion IsShortName c.provides
  pub optional : AllByRecursion IsShortName c.optional
  pub requires_ : AllByRecursion IsShortName c.requires_
  pub thorns : AllByRecursion IsShortName c.thorns
  pub opens : OpensAsName c.requires_
  pub lines : length c.provides + length c.optional + lines_of c.requires_ + lines_of c.thorns
      ≤ 4096

starts : (c : Configuration) → passes is_line_end (head (configuration_tokens c)) ≡ false
starts c = starts_braced PROVIDES c.provides
    (flat_map (braced_line OPTIONAL) c.optional
    ++ (capabilities_line c.requires_ ++ thorns_line c.thorns))
    (starts_braced OPTIONAL c.optional (capabilities_line c.requires_ ++ thorns_line c.thorns)
    (starts_rest c.requires_ c.thorns))

pub printed_again : (c : Configuration) → Fits c
    → configuration.reads (configuration_tokens c) ≡ Ok (c, [])
printed_again c f = rw (no_skip (configuration_tokens c) (starts c))
    (all_provides c.provides c.optional c.requires_ c.thorns 4096 no_configuration f.lines f.opens f.provides
    f.optional f.requires_ f.thorns)

pub printed_spelled : (c : Configuration) → Fits c
    → Spells configuration.derives (configuration_tokens c) c
printed_spelled c f = spelled configuration_good (configuration_tokens c) c (printed_again c f)
