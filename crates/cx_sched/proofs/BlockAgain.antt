-- A block is read again from the tokens that are printed.
use Rattle.std.proofs.Common.{◌≡◌, ◌≤◌, ◌-◌, ℕ, true, false, List, [], ◌∷◌, ◌++◌, codes, Ok, refl, sym, ap, subst, ◌∙◌, append_assoc}
use Rattle.cx_text.specs.declared.token.Token.{Token}
use Rattle.cx_text.specs.Tokens.{is_word, is_line_end}
use Rattle.cx_text.specs.Grammar.{head as next_of, passes}
use Rattle.cx_text.specs.Rules.{choice, nothing}
use Rattle.cx_text.specs.Lexemes.{same_name, is_quoted, quoted as quoted_rule}
use Rattle.cx_text.specs.Written.{word, quoted, sign, line_end}
use Rattle.cx_text.proofs.Holds.{each-append}
use Rattle.cx_text.proofs.Printing.{no_skip, one_skip}
use Rattle.cx_expr.proofs.TextLaws.{IsWritten}
use Rattle.cx_sched.specs.declared.tree.Block.{Block as BlockOf}
use Rattle.cx_sched.specs.declared.block.Clauses.{Clauses}
use Rattle.cx_sched.specs.declared.lines.Line.{Line}
use Rattle.cx_sched.specs.Words.{GROUP, IF, WHILE, BEFORE, AFTER}
use Rattle.cx_sched.specs.Blocks.{is_way_name, no_clauses, block}
use Rattle.cx_sched.specs.Printed as printed
use Rattle.cx_sched.proofs.RefAgain.{next_close, next_open, IsName}
use Rattle.cx_sched.proofs.LinesAgain.{Skips, none_skipped, one_skipped, Kept, ListsFit, total, listed, next_listed, lines_again}
use Rattle.cx_sched.proofs.HeadAgain.{place_of, starts_head, head_again, ClausesFit, clauses_of, with_clauses, next_clauses, clauses_again}
use Rattle.cx_sched.proofs.TokenLaws.{Written, a_name, a_sign, written_starts, storage_written, sync_written, line_written, a_reads, a_writes, group_written, spot_written, alias_written, scalar_written, others_written, description_written, an_if, a_while, a_before, an_after, a_schedule}

-- ---- the text behind a block

abbrev described : List ℕ → List Token → List Token
described [] rest = rest
described (c ∷ cs) rest = quoted (c ∷ cs) ∷ line_end ∷ rest

described_skips : (text : List ℕ) (rest : List Token) → passes is_line_end (next_of rest) ≡ false
    → Skips (printed.description text ++ line_end ∷ rest) (described text rest)
described_skips [] rest e = one_skipped rest e
described_skips (c ∷ cs) rest e = none_skipped (quoted (c ∷ cs) ∷ line_end ∷ rest) refl

described_again : (text : List ℕ) (rest : List Token) → passes is_line_end (next_of rest) ≡ false
    → passes is_quoted (next_of rest) ≡ false
    → (choice is_quoted quoted_rule (nothing [])).reads (described text rest) ≡ Ok (text, rest)
described_again [] rest e q = rw q refl
described_again (c ∷ cs) rest e q = rw (one_skip rest e) refl

-- ---- a block

-- what a block is like that is read again, as one with so many lines
pub record BlockFits (b : BlockOf) (used : ℕ) : Type 0 where
  pub name : IsName b.name
  pub place : IsName (place_of b.spot)
  -- behind GROUP as a name and AT or IN as another no clause stands
  pub odd : b.group ≡ false → same_name b.name GROUP ≡ true → is_way_name (place_of b.spot) ≡ true
      → clauses_of b.alias b.test b.turn b.before b.after ≡ no_clauses
  pub clauses : ClausesFit b.alias b.test b.turn b.before b.after
  pub idle : ℕ
  pub at : Line
  pub kept : Kept b.rest idle at
  pub rest : Written b.rest
  pub lists : ListsFit b.storage b.sync b.reads b.writes
  pub size : used ≡ total idle b.storage b.sync b.reads b.writes

-- what stands behind the first brace
abbrev inner : BlockOf → List Token → List Token
inner b rest = b.rest ++ listed b.storage b.sync b.reads b.writes
    (sign 125 ∷ (printed.description b.text ++ line_end ∷ rest))

abbrev behind_spot : BlockOf → List Token → List Token
behind_spot b rest = with_clauses b.alias b.test b.turn b.before b.after (sign 123 ∷ inner b rest)

abbrev behind_word : BlockOf → List Token → List Token
behind_word b rest = printed.group_word b.group ++ word b.name
    ∷ (printed.spot b.spot ++ behind_spot b rest)

abbrev pub flat : BlockOf → List Token → List Token
flat b rest = word (codes "schedule") ∷ behind_word b rest

five : (a b c d e ts : List Token)
    → (a ++ b ++ c ++ d ++ e) ++ ts ≡ a ++ (b ++ (c ++ (d ++ (e ++ ts))))
five a b c d e ts = simp append_assoc

four : (h k o c z ts : List Token)
    → ((((h ++ k) ++ o) ++ c) ++ z) ++ ts ≡ h ++ (k ++ (o ++ (c ++ (z ++ ts))))
four h k o c z ts = simp append_assoc

pub block_tokens : (b : BlockOf) (rest : List Token)
    → (printed.block b ++ line_end ∷ []) ++ rest ≡ flat b rest
block_tokens b rest =
    let close : List Token = sign 125 ∷ (printed.description b.text ++ line_end ∷ rest) in
    let w = word (codes "schedule") in
    four (printed.heading b) (printed.clauses b) (sign 123 ∷ printed.lines b)
    (sign 125 ∷ printed.description b.text) (line_end ∷ []) rest
    ∙ ap (λ (ts : List Token). printed.heading b ++ (printed.clauses b ++ sign 123 ∷ ts))
    (five b.rest (printed.storage_line b.storage) (printed.sync_line b.sync)
    (printed.access_line (codes "READS") b.reads)
    (printed.access_line (codes "WRITES") b.writes) close)
    ∙ ap (λ (ts : List Token). printed.heading b ++ ts)
    (five (printed.alias b.alias) (printed.scalar IF b.test) (printed.scalar WHILE b.turn)
    (printed.others BEFORE b.before) (printed.others AFTER b.after) (sign 123 ∷ inner b rest))
    ∙ ap (λ (ts : List Token). w ∷ ts)
    (append_assoc (printed.group_word b.group) (word b.name ∷ printed.spot b.spot)
    (behind_spot b rest))

pub block_again : (b : BlockOf) (used left : ℕ) (rest : List Token) → BlockFits b used → used ≤ left
    → passes is_line_end (next_of rest) ≡ false → passes is_quoted (next_of rest) ≡ false
    → (block false left).reads (flat b rest) ≡ Ok (record { lines = left - used; block = b }, rest)
block_again b used left rest f h e q =
    let size = f.size in
    let close : List Token = sign 125 ∷ (printed.description b.text ++ line_end ∷ rest) in
    let next_c = next_clauses b.alias b.test b.turn b.before b.after (sign 123 ∷ inner b rest)
    (next_open (inner b rest)) in
    let stops : b.group ≡ false → same_name b.name GROUP ≡ true
    → is_way_name (place_of b.spot) ≡ true
    → passes is_word (next_of (behind_spot b rest)) ≡ false =
    λ i j k. ap (λ (c : Clauses).
    passes is_word (next_of
    (with_clauses c.alias c.test c.turn c.before c.after (sign 123 ∷ inner b rest))))
    (f.odd i j k) in
    let one = head_again b.group b.name b.spot (behind_spot b rest)
    f.name.0 f.place.0 next_c.ended stops in
    let two = clauses_again b.alias b.test b.turn b.before b.after (inner b rest) f.clauses in
    let starts = written_starts b.rest (listed b.storage b.sync b.reads b.writes close) f.rest
    (next_listed b.storage b.sync b.reads b.writes close (next_close _)).ended in
    let three = lines_again f.idle f.at b.rest b.storage b.sync b.reads b.writes left
    (printed.description b.text ++ line_end ∷ rest) (described b.text rest) f.kept f.lists
    (subst (λ (n : ℕ). n ≤ left) size h) starts (described_skips b.text rest e) in
    let read = three.1 in
    let last = described_again b.text rest e q in
    let whole : (block false left).reads (flat b rest)
    ≡ Ok (
      record { lines = left - total f.idle b.storage b.sync b.reads b.writes; block = b },
      rest,
    ) =
    rw (
      no_skip (behind_word b rest)
          (starts_head b.group b.name (printed.spot b.spot ++ behind_spot b rest)),
      one,
      two,
      read,
      last,
    ) refl in
    whole ∙ ap (λ (n : ℕ). Ok (record { lines = left - n; block = b }, rest)) (sym size)

-- ---- its tokens

pub block_written : (b : BlockOf) (used : ℕ) → BlockFits b used → Written (printed.block b)
block_written b used f =
    let heading : Written (printed.heading b) = (
      a_schedule,
      each-append IsWritten (printed.group_word b.group)
          (word b.name ∷ printed.spot b.spot) (group_written b.group)
          (a_name b.name f.name, spot_written b.spot f.place),
    ) in
    let c1 = each-append IsWritten (printed.alias b.alias) (printed.scalar IF b.test)
    (alias_written b.alias f.clauses.alias) (scalar_written IF b.test an_if f.clauses.test) in
    let c2 = each-append IsWritten (printed.alias b.alias ++ printed.scalar IF b.test)
    (printed.scalar WHILE b.turn) c1 (scalar_written WHILE b.turn a_while f.clauses.turn) in
    let c3 = each-append IsWritten
    (printed.alias b.alias ++ printed.scalar IF b.test ++ printed.scalar WHILE b.turn)
    (printed.others BEFORE b.before) c2
    (others_written BEFORE b.before a_before f.clauses.before) in
    let c4 = each-append IsWritten
    (printed.alias b.alias ++ printed.scalar IF b.test ++ printed.scalar WHILE b.turn
    ++ printed.others BEFORE b.before) (printed.others AFTER b.after) c3
    (others_written AFTER b.after an_after f.clauses.after) in
    let l1 = each-append IsWritten b.rest (printed.storage_line b.storage) f.rest
    (storage_written b.storage f.lists.storage) in
    let l2 = each-append IsWritten (b.rest ++ printed.storage_line b.storage)
    (printed.sync_line b.sync) l1 (sync_written b.sync f.lists.sync) in
    let l3 = each-append IsWritten
    (b.rest ++ printed.storage_line b.storage ++ printed.sync_line b.sync)
    (printed.access_line (codes "READS") b.reads) l2
    (line_written (codes "READS") b.reads a_reads f.lists.reads) in
    let l4 = each-append IsWritten
    (b.rest ++ printed.storage_line b.storage ++ printed.sync_line b.sync
    ++ printed.access_line (codes "READS") b.reads)
    (printed.access_line (codes "WRITES") b.writes) l3
    (line_written (codes "WRITES") b.writes a_writes f.lists.writes) in
    let h1 = each-append IsWritten (printed.heading b) (printed.clauses b) heading c4 in
    let h2 = each-append IsWritten (printed.heading b ++ printed.clauses b)
    (sign 123 ∷ printed.lines b) h1 (a_sign 123 (λ g. refl), l4) in
    each-append IsWritten (printed.heading b ++ printed.clauses b ++ sign 123 ∷ printed.lines b)
    (sign 125 ∷ printed.description b.text) h2
    (a_sign 125 (λ g. refl), description_written b.text)
