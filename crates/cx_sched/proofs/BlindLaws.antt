-- The grammar of schedule files doesn't look at lines.
use Rattle.std.proofs.Common.{ℕ, zero, suc, ◌-◌, nat_eq, Bool, true, false, List, [], ◌∷◌, ◌++◌, Option, Some, None, refl}
use Rattle.cx_text.specs.Rules.{Rule}
use Rattle.cx_text.specs.Lexemes.{comma, listed, same_name}
use Rattle.cx_text.proofs.Blind.{Blind, same_nothing, same_token, same_lexeme, same_also, same_choice, same_loop, line_ends_same}
use Rattle.cx_expr.proofs.TextLaws.{expression_same}
use Rattle.cx_sched.specs.declared.lines.Kind.{Kind}
use Rattle.cx_sched.specs.declared.lines.Kind.TheVariants.{Storage, Sync, Reads, Writes}
use Rattle.cx_sched.specs.declared.lines.Line.{Line}
use Rattle.cx_sched.specs.declared.lines.Line.TheVariants.{Start, Tokens, Word, Names}
use Rattle.cx_sched.specs.declared.lines.Lines.{Lines}
use Rattle.cx_sched.specs.declared.block.Clauses.{Clauses}
use Rattle.cx_sched.specs.declared.node.Read.{Read}
use Rattle.cx_sched.specs.declared.tree.Ref.{Ref}
use Rattle.cx_sched.specs.Words.{GROUP, line_of}
use Rattle.cx_sched.specs.Refs.{behind_word, reference, bracketed, region, store, sync_name, access, behind_word_here, bracketed_here, comma_here, more_stores, stores}
use Rattle.cx_sched.specs.Lines.{no_lines, begin, begin_or, first, begun_by, kept as kept_entry, item, named, entry_in, lines}
use Rattle.cx_sched.specs.Blocks.{is_way_name, placed, either, behind_group, behind_name, head, no_clauses, name_list, clause, block}
use Rattle.cx_sched.specs.Nodes.{nobody, storage, otherwise, condition, node, braced, body, schedule}

-- it reads the same where no token has a line
abbrev Same : {A : Type 0} → Rule A → Type 0
Same r = Blind (λ x. x) r r

-- ---- names of variables and groups

behind_word_same : (w : List ℕ) → Same (behind_word w)
behind_word_same w = same_choice (λ t. refl)
    (same_also (same_lexeme (λ t. refl) (λ t. refl))
    (λ u. same_also (same_lexeme (λ t. refl) (λ t. refl)) (λ n. same_nothing))) same_nothing

reference_same : Same reference
reference_same = same_also (same_lexeme (λ t. refl) (λ t. refl)) behind_word_same

bracketed_same : Same bracketed
bracketed_same = same_choice (λ t. refl)
    (same_also (same_lexeme (λ t. refl) (λ t. refl))
    (λ u. same_also (same_lexeme (λ t. refl) (λ t. refl))
    (λ n. same_also (same_lexeme (λ t. refl) (λ t. refl)) (λ v. same_nothing)))) same_nothing

region_same : Same region
region_same = same_choice (λ t. refl)
    (same_also (same_lexeme (λ t. refl) (λ t. refl))
    (λ u. same_also (same_lexeme (λ t. refl) (λ t. refl))
    (λ g. same_also (same_lexeme (λ t. refl) (λ t. refl)) (λ v. same_nothing)))) same_nothing

comma_same : Same comma
comma_same = same_choice (λ t. refl) (same_lexeme (λ t. refl) (λ t. refl)) same_nothing

store_same : (w : List ℕ) → Same (store w)
store_same w = same_also (behind_word_same w)
    (λ r. same_also bracketed_same (λ k. same_also comma_same (λ u. same_nothing)))

sync_name_same : (w : List ℕ) → Same (sync_name w)
sync_name_same w = same_also (behind_word_same w) (λ r. same_also comma_same (λ u. same_nothing))

access_same : (w : List ℕ) → Same (access w)
access_same w = same_also (behind_word_same w)
    (λ r. same_also bracketed_same
    (λ k. same_also region_same (λ g. same_also comma_same (λ u. same_nothing))))

behind_word_here_same : (w : List ℕ) → Same (behind_word_here w)
behind_word_here_same w =
    same_choice (λ t. refl)
    (same_also (same_lexeme (λ t. refl) (λ t. refl))
    (λ u. same_also (same_token (λ t. refl) (λ t. refl)) (λ n. same_nothing))) same_nothing

bracketed_here_same : Same bracketed_here
bracketed_here_same = same_choice (λ t. refl)
    (same_also (same_lexeme (λ t. refl) (λ t. refl))
    (λ u. same_also (same_lexeme (λ t. refl) (λ t. refl))
    (λ n. same_also (same_token (λ t. refl) (λ t. refl)) (λ v. same_nothing)))) same_nothing

comma_here_same : Same comma_here
comma_here_same = same_choice (λ t. refl) (same_token (λ t. refl) (λ t. refl)) same_nothing

more_stores_same : (rs : List (Ref × Option ℕ)) → Same (more_stores rs)
more_stores_same rs = same_also (same_token (λ t. refl) (λ t. refl))
    (λ w. same_also (behind_word_here_same w)
    (λ r. same_also bracketed_here_same (λ k. same_also comma_here_same (λ u. same_nothing))))

stores_same : Same stores
stores_same = same_loop [] (λ t. refl) more_stores_same

-- ---- the lines of a block

begin_same : (l : Line) (w : List ℕ) (s : Lines) → Same (begin l w s)
begin_same l w s = same_also (same_lexeme (λ t. refl) (λ t. refl)) (λ u. same_nothing)

begin_or_same : (l : Option Line) (w : List ℕ) (s : Lines) {r : Rule Lines} → Same r
    → Same (begin_or l w s r)
begin_or_same None w s h = h
begin_or_same (Some l) w s h = same_choice (λ t. refl) (begin_same l w s) h

first_same : (s : Lines) → Same (first s)
first_same s = same_also (same_lexeme (λ t. refl) (λ t. refl)) (λ l. begin_same l.0 l.1 s)

kept_same : (behind : Bool) (s : Lines) → Same (kept_entry behind s)
kept_same true s = same_also (same_lexeme (λ t. refl) (λ t. refl))
    (λ t. begin_or_same (begun_by t) t.text s same_nothing)
kept_same false s = same_also (same_lexeme (λ t. refl) (λ t. refl))
    (λ t. begin_or_same (begun_by t) t.text s same_nothing)

item_same : (k : Kind) (w : List ℕ) (s : Lines) → Same (item k w s)
item_same Storage w s = same_also (store_same w) (λ r. same_nothing)
item_same Sync w s = same_also (sync_name_same w) (λ r. same_nothing)
item_same Reads w s = same_also (access_same w) (λ r. same_nothing)
item_same Writes w s = same_also (access_same w) (λ r. same_nothing)

named_same : (k : Kind) (s : Lines) → Same (named k s)
named_same k s = same_also (same_lexeme (λ t. refl) (λ t. refl))
    (λ w. begin_or_same (line_of w) w s (item_same k w s))

entry_in_same : (l : Line) (s : Lines) → Same (entry_in l s)
entry_in_same Start s = first_same s
entry_in_same Tokens s = kept_same false s
entry_in_same Word s = kept_same true s
entry_in_same (Names k) s = named_same k s

lines_same : (left : ℕ) → Same (lines left)
lines_same left = same_also (same_lexeme (λ t. refl) (λ t. refl))
    (λ u. same_also (same_loop (no_lines left) (λ t. refl) (λ s. entry_in_same s.line s))
    (λ s. same_also (same_lexeme (λ t. refl) (λ t. refl)) (λ v. same_nothing)))

-- ---- blocks

placed_same : (group : Bool) (n : List ℕ) → Same (placed group n)
placed_same group n = same_also (same_lexeme (λ t. refl) (λ t. refl))
    (λ w. same_also (same_lexeme (λ t. refl) (λ t. refl)) (λ p. same_nothing))

either_same : (g n : List ℕ) → Same (either g n)
either_same g n = same_also (same_lexeme (λ t. refl) (λ t. refl))
    (λ w. same_choice (λ t. refl)
    (same_also (same_lexeme (λ t. refl) (λ t. refl)) (λ p. same_nothing)) same_nothing)

behind_group_same : (is_way_ : Bool) (g n : List ℕ) → Same (behind_group is_way_ g n)
behind_group_same true g n =
    same_choice (λ t. refl) (either_same g n)
    (same_also (same_lexeme (λ t. refl) (λ t. refl)) (λ p. same_nothing))
behind_group_same false g n = placed_same true n

behind_name_same : (is_group : Bool) (n : List ℕ) → Same (behind_name is_group n)
behind_name_same true g =
    same_also (same_lexeme (λ t. refl) (λ t. refl)) (λ n. behind_group_same (is_way_name n) g n)
behind_name_same false n = placed_same false n

head_same : Same head
head_same = same_also (same_lexeme (λ t. refl) (λ t. refl))
    (λ n. behind_name_same (same_name n GROUP) n)

more_listed_same : (ns : List (List ℕ)) → Same (listed ns)
more_listed_same ns = same_also (same_lexeme (λ t. refl) (λ t. refl))
    (λ n. same_loop (ns ++ n ∷ []) (λ t. refl)
    (λ ms. same_also comma_same
    (λ u. same_also (same_lexeme (λ t. refl) (λ t. refl)) (λ m. same_nothing))))

name_list_same : (ns : List (List ℕ)) → Same (name_list ns)
name_list_same ns = same_choice (λ t. refl)
    (same_also (same_lexeme (λ t. refl) (λ t. refl))
    (λ u. same_also (more_listed_same ns)
    (λ ms. same_also (same_lexeme (λ t. refl) (λ t. refl)) (λ v. same_nothing))))
    (same_also (same_lexeme (λ t. refl) (λ t. refl)) (λ n. same_nothing))

clause_same : (c : Clauses) → Same (clause c)
clause_same c =
    same_choice (λ t. refl)
    (same_also (same_lexeme (λ t. refl) (λ t. refl))
    (λ u. same_also (same_lexeme (λ t. refl) (λ t. refl)) (λ n. same_nothing)))
    (same_choice (λ t. refl)
    (same_also (same_lexeme (λ t. refl) (λ t. refl))
    (λ u. same_also reference_same (λ r. same_nothing)))
    (same_choice (λ t. refl)
    (same_also (same_lexeme (λ t. refl) (λ t. refl))
    (λ u. same_also reference_same (λ r. same_nothing)))
    (same_choice (λ t. refl)
    (same_also (same_lexeme (λ t. refl) (λ t. refl))
    (λ u. same_also (name_list_same c.before) (λ ns. same_nothing)))
    (same_also (same_lexeme (λ t. refl) (λ t. refl))
    (λ u. same_also (name_list_same c.after) (λ ns. same_nothing))))))

block_same : (full : Bool) (left : ℕ) → Same (block full left)
block_same full left =
    same_also (same_lexeme (λ t. refl) (λ t. refl)) (λ u.
    same_also head_same (λ h.
    same_also (same_loop no_clauses (λ t. refl) clause_same) (λ c.
    same_also (lines_same left) (λ l.
    same_also (same_choice (λ t. refl) (same_lexeme (λ t. refl) (λ t. refl)) same_nothing)
    (λ text. same_nothing)))))

-- ---- nodes

storage_same : (s : Read) → Same (storage s)
storage_same s = same_also (same_lexeme (λ t. refl) (λ t. refl))
    (λ u. same_also (same_token (λ t. refl) (λ t. refl))
    (λ v. same_also stores_same
    (λ rs. same_also (same_lexeme (λ t. refl) (λ t. refl)) (λ w. same_nothing))))

condition_same : (full : Bool) → Same (condition full)
condition_same full = same_also (same_lexeme (λ t. refl) (λ t. refl))
    (λ u. same_also (same_lexeme (λ t. refl) (λ t. refl))
    (λ v. same_also expression_same
    (λ e. same_also (same_lexeme (λ t. refl) (λ t. refl)) (λ w. same_nothing))))

otherwise_same : (b : ℕ → ℕ → Rule Read) → ((k l : ℕ) → Same (b k l)) → (nodes lines : ℕ)
    → Same (otherwise b nodes lines)
otherwise_same b h nodes lines =
    same_choice (λ t. refl) (same_also (same_lexeme (λ t. refl) (λ t. refl)) (λ u. h nodes lines))
    same_nothing

node_same : (b : ℕ → ℕ → Rule Read) → ((k l : ℕ) → Same (b k l)) → (s : Read) → Same (node b s)
node_same b h s =
    same_choice (λ t. refl) (storage_same s)
    (same_choice (λ t. refl)
    (same_also (condition_same (nat_eq s.nodes 0))
    (λ e. same_also (h (s.nodes - 1) s.lines)
    (λ y. same_also (otherwise_same b h y.nodes y.lines) (λ n. same_nothing))))
    (same_also (block_same (nat_eq s.nodes 0) s.lines) (λ m. same_nothing)))

braced_same : (b : ℕ → ℕ → Rule Read) → ((k l : ℕ) → Same (b k l)) → (nodes lines : ℕ)
    → Same (braced b nodes lines)
braced_same b h nodes lines =
    same_also (same_lexeme (λ t. refl) (λ t. refl))
    (λ u. same_also (same_loop (nobody nodes lines) (λ t. refl) (node_same b h))
    (λ s. same_also (same_lexeme (λ t. refl) (λ t. refl)) (λ v. same_nothing)))

body_same : (depth nodes lines : ℕ) → Same (body depth nodes lines)
unfolding body
body_same zero nodes lines = same_also (same_lexeme (λ t. refl) (λ t. refl)) (λ u. same_nothing)
body_same (suc depth) nodes lines =
    same_choice (λ t. refl) (braced_same (body depth) (body_same depth) nodes lines)
    (node_same (body depth) (body_same depth) (nobody nodes lines))

pub schedule_same : Same schedule
schedule_same = same_also line_ends_same
    (λ u. same_also (same_loop (nobody 4096 4096) (λ t. refl) (node_same (body 32) (body_same 32)))
    (λ s. same_nothing))
