-- Names with what may stand behind them are read as they derive.
use Rattle.std.proofs.Common.{ℕ, List, [], ◌∷◌, Option, Some, None, refl}
use Rattle.cx_plan.specs.declared.item.Region.TheVariants.{Interior}
use Rattle.cx_text.specs.declared.stop.Mark.{Mark}
use Rattle.cx_text.specs.declared.token.Token.{Token}
use Rattle.cx_text.specs.Tokens.{is_word}
use Rattle.cx_text.specs.Rules.{token, is_sign}
use Rattle.cx_text.specs.Lexemes.{is_sign_pair, comma}
use Rattle.cx_sched.specs.declared.tree.Ref.{Ref}
use Rattle.cx_sched.specs.Words.{region_of}
use Rattle.cx_sched.specs.Refs.{owned, behind_word, reference, bracket, bracketed, parens, region, store, sync_name, access, owned_here, behind_word_here, bracket_here, bracketed_here, comma_here, more_stores, stores}
use Rattle.cx_text.proofs.Laws.{Means}
use Rattle.cx_text.proofs.Loops.{Short}
use Rattle.cx_text.proofs.RuleLaws.{Part, Tail, Any, Not, short_part, token_last, lexeme_then, lexeme_last, lexeme_alone, part_then_tail, tail_option, tail_then, tail_end, tail_loop, token_good, token_is_full, token_ends}
use Rattle.cx_text.proofs.LexemeLaws.{a_word, a_name, a_number, sign_is, sign_pair_is, Ended}

-- ---- where LineEnd is skipped

-- what follows a name
pub record AfterName (n : Option Token) : Type 0 where
  pub pair : Not (is_sign_pair 58 58) n
  pub ended : Ended n

-- what follows what may stand behind a name
pub record AfterRef (n : Option Token) : Type 0 where
  pub bracket : Not (is_sign 91) n
  pub paren : Not (is_sign 40) n
  pub comma : Not (is_sign 44) n
  pub name : AfterName n

pub name_end : AfterName None
name_end = record { pair = refl; ended = refl }

pub ref_end : AfterRef None
ref_end = record { bracket = refl; paren = refl; comma = refl; name = name_end }

abbrev a_region : Means region_of
a_region = record {
  tok = a_word (73 ∷ 78 ∷ 84 ∷ 69 ∷ 82 ∷ 73 ∷ 79 ∷ 82 ∷ []);
  x = Interior;
  is = refl;
}

owned_part : (w : List ℕ) → Part (owned w) Any Ended
owned_part w = lexeme_then (sign_pair_is 58 58 refl) tt (λ u. lexeme_last a_name refl)

pub behind_word_tail : (w : List ℕ) → Tail (behind_word w) AfterName
behind_word_tail w = tail_option None name_end (owned_part w) (λ n h. h.ended) (λ n h. h.pair)

pub reference_part : {F : Option Token → Type 0} → F (Some a_name.tok) → Part reference F AfterName
reference_part f = part_then_tail (lexeme_alone a_name f) (λ n h. h.ended)
    None name_end behind_word_tail

bracket_part : Part bracket Any Ended
bracket_part = lexeme_then (sign_is 91 refl) tt
    (λ u. lexeme_then a_number refl (λ n. lexeme_last (sign_is 93 refl) refl))

parens_part : Part parens Any Ended
parens_part = lexeme_then (sign_is 40 refl) tt
    (λ u. lexeme_then a_region refl (λ g. lexeme_last (sign_is 41 refl) refl))

ref_tail : (w : List ℕ) → Tail (behind_word w) AfterRef
ref_tail w = tail_option None ref_end (owned_part w) (λ n h. h.name.ended) (λ n h. h.name.pair)

bracketed_tail : Tail bracketed AfterRef
bracketed_tail = tail_option None ref_end bracket_part (λ n h. h.name.ended) (λ n h. h.bracket)

region_tail : Tail region AfterRef
region_tail = tail_option None ref_end parens_part (λ n h. h.name.ended) (λ n h. h.paren)

comma_tail : Tail comma AfterRef
comma_tail = tail_option None ref_end (lexeme_alone {F = Any} (sign_is 44 refl) tt)
    (λ n h. h.name.ended) (λ n h. h.comma)

pub store_tail : (w : List ℕ) → Tail (store w) AfterRef
store_tail w = tail_then (ref_tail w)
    (λ r. tail_then bracketed_tail (λ k. tail_then comma_tail (λ u. tail_end None ref_end)))

pub sync_name_tail : (w : List ℕ) → Tail (sync_name w) AfterRef
sync_name_tail w = tail_then (ref_tail w) (λ r. tail_then comma_tail (λ u. tail_end None ref_end))

pub access_tail : (w : List ℕ) → Tail (access w) AfterRef
access_tail w = tail_then (ref_tail w)
    (λ r. tail_then bracketed_tail
    (λ k. tail_then region_tail (λ g. tail_then comma_tail (λ u. tail_end None ref_end))))

-- ---- where LineEnd may come next

-- what follows a group in a line
pub record AfterStore (n : Option Token) : Type 0 where
  pub pair : Not (is_sign_pair 58 58) n
  pub bracket : Not (is_sign 91) n
  pub comma : Not (is_sign 44) n

store_end : AfterStore None
store_end = record { pair = refl; bracket = refl; comma = refl }

owned_here_part : (w : List ℕ) → Part (owned_here w) Any AfterStore
owned_here_part w = lexeme_then (sign_pair_is 58 58 refl) tt (λ u. token_last a_name refl)

behind_word_here_tail : (w : List ℕ) → Tail (behind_word_here w) AfterStore
behind_word_here_tail w = tail_option None store_end (owned_here_part w) (λ n h. h) (λ n h. h.pair)

bracket_here_part : Part bracket_here Any AfterStore
bracket_here_part = lexeme_then (sign_is 91 refl) tt
    (λ u. lexeme_then a_number refl (λ n. token_last (sign_is 93 refl) refl))

bracketed_here_tail : Tail bracketed_here AfterStore
bracketed_here_tail = tail_option None store_end bracket_here_part (λ n h. h) (λ n h. h.bracket)

-- a token behind which LineEnd isn't skipped, alone
token_alone : {A : Type 0} {value : Token → Option A} {mark : Token → Option Mark}
    (one : Means value) → Part (token value mark) Any AfterStore
token_alone {A} {value} {mark} one = record {
  good = token_good one;
  full = token_is_full;
  ends = λ next h. token_ends one tt;
  one = Some one.tok;
  allowed = tt;
}

comma_here_tail : Tail comma_here AfterStore
comma_here_tail = tail_option None store_end (token_alone (sign_is 44 refl)) (λ n h. h)
    (λ n h. h.comma)

pub more_stores_part : (rs : List (Ref × Option ℕ)) → Part (more_stores rs) Any AfterStore
more_stores_part rs = part_then_tail (token_alone a_name) (λ n h. h) None store_end
    (λ w. tail_then (behind_word_here_tail w)
    (λ r. tail_then bracketed_here_tail
    (λ k. tail_then comma_here_tail (λ u. tail_end None store_end))))

pub more_stores_short : (rs : List (Ref × Option ℕ)) → Short (more_stores rs)
more_stores_short rs = short_part (more_stores_part rs).good (more_stores_part rs).full

-- what follows the groups of a line
pub record AfterStores (n : Option Token) : Type 0 where
  pub word : Not is_word n
  pub store : AfterStore n

pub stores_tail : Tail stores AfterStores
stores_tail = tail_loop None (record { word = refl; store = store_end }) more_stores_part
    (λ n h. h.store) (λ n h. h.word)
