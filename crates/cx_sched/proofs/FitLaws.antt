-- What a schedule file is like that some tokens spell.
use Rattle.std.proofs.Common.{◌≡◌, ◌≤◌, ◌+◌, ◌-◌, ℕ, zero, suc, nat_eq, Bool, true, false, cond, ◌&&◌, ◌||◌, List, [], ◌∷◌, length, map, Option, Some, None, refl, sym, ap, subst, ◌∙◌, arith}
use Rattle.std.specs.List.{AllByRecursion}
use Rattle.std.specs.Char.{to_ascii_lowercase}
use Rattle.std.proofs.lemmas.List.{length-map}
use Rattle.std.proofs.lemmas.Slice.Eq.{bytes_eq-Decides}
use Rattle.cx_text.specs.declared.token.Token.{Token}
use Rattle.cx_text.specs.declared.token.Style.TheVariants.{Ccl}
use Rattle.cx_text.specs.declared.stop.Mark.TheVariants.{Limit}
use Rattle.cx_text.specs.Tokens.{is_word}
use Rattle.cx_text.specs.Grammar.{passes}
use Rattle.cx_text.specs.Rules.{nothing, choice, loop, is_named, sign_here, line_end, line_ends}
use Rattle.cx_text.specs.Lexemes.{same_name, comma, is_comma_or_word, listed, is_quoted, quoted}
use Rattle.cx_text.proofs.WrittenLaws.{printable_name}
use Rattle.cx_text.proofs.Holds.{NamesAre, each-append, name_is_short}
use Rattle.cx_text.proofs.LexemeLaws.{Ended}
use Rattle.cx_text.proofs.RuleLaws.{Not}
use Rattle.cx_expr.proofs.ExprFits.{expression_holds}
use Rattle.cx_sched.specs.declared.tree.Spot.TheVariants.{At, Inside}
use Rattle.cx_sched.specs.declared.tree.Node.{Storage, Cond, Block}
use Rattle.cx_sched.specs.declared.tree.ScheduleFile.{ScheduleFile}
use Rattle.cx_sched.specs.declared.block.Head.{Head}
use Rattle.cx_sched.specs.declared.block.Clauses.{Clauses}
use Rattle.cx_sched.specs.declared.block.Made.{Made}
use Rattle.cx_sched.specs.declared.lines.Lines.{Lines}
use Rattle.cx_sched.specs.declared.node.Read.{Read}
use Rattle.cx_sched.specs.Words.{GROUP, AT, IN}
use Rattle.cx_sched.specs.Blocks.{is_way, way, is_way_name, spot, placed, place, either, behind_group, behind_name, head, no_clauses, name_list, is_clause, clause, block_of, block}
use Rattle.cx_sched.specs.Nodes.{nobody, is_node, storage, blocked, otherwise, condition, conditional, node, body, schedule}
use Rattle.cx_sched.proofs.RefAgain.{IsName}
use Rattle.cx_sched.proofs.LinesAgain.{total}
use Rattle.cx_sched.proofs.HeadAgain.{place_of, ClausesFit}
use Rattle.cx_sched.proofs.BlockAgain.{BlockFits}
use Rattle.cx_sched.proofs.NodesAgain.{ExprFits, NodesFit, no_nodes, storage_node, block_node, cond_node, nodes_joined}
use Rattle.cx_sched.proofs.Sees.{Fine, Sees, sees_nothing, sees_also, sees_choice, sees_loop, sees_from, weaker_sees, sees_given, of_holds, sees_any, sees_lexeme, sees_skipped}
use Rattle.cx_sched.proofs.LineFits.{no_mark, open_left, name_sees, reference_sees, stores_see, LinesFit, lines_see}

-- ---- AT and IN

either_true : (a b : Bool) (P : Type 0) → (a ≡ true → P) → (b ≡ true → P) → a || b ≡ true → P
either_true true b P p q e = p refl
either_true false b P p q e = q e

both_true : (a b : Bool) → a && b ≡ true → (a ≡ true) × (b ≡ true)
both_true true b e = (refl, e)
both_true false b e = absurd cc

same_length : (w v : List ℕ) → same_name w v ≡ true → length w ≡ length v
same_length w v e = sym (length-map w to_ascii_lowercase)
    ∙ ap length ((bytes_eq-Decides (map to_ascii_lowercase w) (map to_ascii_lowercase v)).0 e)
    ∙ length-map v to_ascii_lowercase

way_short : (w : List ℕ) → is_way_name w ≡ true → length w ≤ 64
way_short w e = either_true (same_name w AT) (same_name w IN) (length w ≤ 64)
    (λ h. let l = same_length w AT h in omega (arith, l))
    (λ h. let l = same_length w IN h in omega (arith, l)) e

-- AT or IN is a word
way_word : (t : Token) → is_way t ≡ true → is_word t ≡ true
way_word t e = either_true (is_named AT t) (is_named IN t) (is_word t ≡ true)
    (λ h. (both_true (is_word t) _ h).0) (λ h. (both_true (is_word t) _ h).0) e

-- a word is AT or IN where its text is
way_text : (t : Token) → is_word t ≡ true → is_way t ≡ is_way_name t.text
way_text t e = rw e refl

some_at : {A : Type 0} (b : Bool) (v x : A) → cond b (Some v) None ≡ Some x → (b ≡ true) × (v ≡ x)
some_at true v x e = (refl, cc)
some_at false v x e = absurd cc

way_sees : {F : Option Token → Type 0}
    → Sees F way (λ w n. (IsName w × (is_way_name w ≡ true)) × Ended n)
way_sees = sees_lexeme (λ w. IsName w × (is_way_name w ≡ true)) (λ t x h v m f.
    let k = some_at (is_way t) t.text x v in
    let a_word = way_word t k.0 in
    let is : is_way_name x ≡ true =
    subst (λ (w : List ℕ). is_way_name w ≡ true) k.1 (sym (way_text t a_word) ∙ k.0) in
    ((way_short x is, printable_name Ccl t x h (rw a_word (ap (λ (w : List ℕ). Some w) k.1))), is))

-- ---- the head

abbrev HeadGood : Head → Type 0
HeadGood h = IsName h.name × IsName (place_of h.spot)

-- GROUP as a name, and AT or IN as another
abbrev Odd : Head → Type 0
Odd h = (h.group ≡ false) × (same_name h.name GROUP ≡ true) × (is_way_name (place_of h.spot) ≡ true)

abbrev HeadFits : Head → Option Token → Type 0
HeadFits h n = HeadGood h × (Ended n × (Odd h → Not is_word n))

place_is : (b : Bool) (p : List ℕ) → place_of (cond b (At p) (Inside p)) ≡ p
place_is true p = refl
place_is false p = refl

good : (g : Bool) (n w p : List ℕ) → IsName n → IsName p
    → HeadGood (record { group = g; name = n; spot = spot w p })
good g n w p h k = (h, subst IsName (sym (place_is (same_name w AT) p)) k)

placed_sees : {F : Option Token → Type 0} (g : Bool) (n : List ℕ) → IsName n
    → (g ≡ false → same_name n GROUP ≡ true → ⊥) → Sees F (placed g n) HeadFits
placed_sees g n h never =
    sees_also way_sees (λ w q.
    sees_also name_sees (λ p k.
    sees_nothing (λ m e. (good g n w p h k, (e, λ o. absurd (never o.0 o.1))))))

place_sees : {F : Option Token → Type 0} (g w : List ℕ) → IsName g
    → Sees (λ n. F n × (passes is_way n ≡ false)) (place g w) HeadFits
place_sees g w h =
    sees_also (sees_lexeme (λ p. IsName p × (is_way_name p ≡ false)) (λ t x k v m f.
    let j = some_at (is_word t) t.text x v in
    let is : is_way_name x ≡ false =
    subst (λ (y : List ℕ). is_way_name y ≡ false) j.1 (sym (way_text t j.0) ∙ f.1) in
    ((name_is_short t x v m, printable_name Ccl t x k v), is))) (λ p k.
    sees_nothing (λ m e. (
      good false g w p h k.0,
      (
        e,
        λ o. absurd (
            let bad : true ≡ false = sym o.2 ∙ ap is_way_name (place_is (same_name w AT) p) ∙ k.1 in
            cc),
      ),
    )))

either_sees : {F : Option Token → Type 0} (g n : List ℕ) → IsName g → IsName n
    → Sees F (either g n) HeadFits
either_sees g n h k =
    sees_also way_sees (λ w q.
    sees_choice (sees_also name_sees
    (λ p j. sees_nothing (λ m e.
    (good true n w p k j, (e, λ o. absurd (let bad : true ≡ false = o.0 in cc))))))
    (sees_nothing (λ m e. (good false g n w h q.0, (e.0, λ o. e.1)))))

behind_group_sees : {F : Option Token → Type 0} (b : Bool) (g n : List ℕ) → IsName g → IsName n
    → Sees F (behind_group b g n) HeadFits
behind_group_sees true g n h k = sees_choice (either_sees g n h k) (place_sees g n h)
behind_group_sees false g n h k =
    placed_sees true n k (λ e f. let bad : true ≡ false = e in absurd cc)

behind_name_sees : {F : Option Token → Type 0} (b : Bool) (n : List ℕ) → same_name n GROUP ≡ b
    → IsName n → Sees F (behind_name b n) HeadFits
behind_name_sees true g is h =
    sees_also name_sees (λ n k. behind_group_sees (is_way_name n) g n h k)
behind_name_sees false n is h =
    placed_sees false n h (λ e f. let bad : true ≡ false = sym f ∙ is in absurd cc)

head_sees : {F : Option Token → Type 0} → Sees F head HeadFits
head_sees = sees_also name_sees (λ n h. behind_name_sees (same_name n GROUP) n refl h)

-- ---- clauses

abbrev ClausesGood : Clauses → Type 0
ClausesGood c = ClausesFit c.alias c.test c.turn c.before c.after

listed_sees : {F : Option Token → Type 0} (ns : List (List ℕ)) → AllByRecursion IsName ns
    → Sees F (listed ns) (λ ms n. AllByRecursion IsName ms × Unit {0})
listed_sees ns h =
    sees_also name_sees (λ n k.
    sees_from
    (weaker_sees (sees_loop {test = is_comma_or_word} (λ ms n. AllByRecursion IsName ms)
    (λ ms. sees_given (AllByRecursion IsName ms) (λ o f. f.0) (λ g.
    sees_also (sees_any comma)
    (λ u p. sees_also name_sees
    (λ m j. sees_nothing (λ o e. each-append IsName ms (m ∷ []) g (j, tt)))))))
    (λ ms o g. (g.0, tt)))
    (λ o e. each-append IsName ns (n ∷ []) h (k, tt)))

name_list_sees : {F : Option Token → Type 0} (ns : List (List ℕ)) → AllByRecursion IsName ns
    → Sees F (name_list ns) (λ ms n. AllByRecursion IsName ms × Ended n)
name_list_sees ns h =
    sees_choice (sees_also sees_skipped
    (λ u p. sees_also (listed_sees ns h)
    (λ ms g. sees_also sees_skipped (λ v q. sees_nothing (λ m e. (g, e))))))
    (sees_also name_sees (λ n k.
    sees_nothing (λ m e. (each-append IsName ns (n ∷ []) h (k, tt), e))))

abbrev ClauseFits : Clauses → Option Token → Type 0
ClauseFits c n = ClausesGood c × Ended n

clause_sees : {F : Option Token → Type 0} (c : Clauses) → ClausesGood c
    → Sees F (clause c) ClauseFits
clause_sees c g =
    sees_choice (sees_also sees_skipped
    (λ u p. sees_also name_sees
    (λ n h. sees_nothing (λ m e. (
      record { alias = h; test = g.test; turn = g.turn; before = g.before; after = g.after },
      e,
    )))))
    (sees_choice (sees_also sees_skipped
    (λ u p. sees_also reference_sees
    (λ r h. sees_nothing (λ m e. (
      record { alias = g.alias; test = h; turn = g.turn; before = g.before; after = g.after },
      e,
    )))))
    (sees_choice (sees_also sees_skipped
    (λ u p. sees_also reference_sees
    (λ r h. sees_nothing (λ m e. (
      record { alias = g.alias; test = g.test; turn = h; before = g.before; after = g.after },
      e,
    )))))
    (sees_choice (sees_also sees_skipped
    (λ u p. sees_also (name_list_sees c.before g.before)
    (λ ns h. sees_nothing (λ m e. (
      record { alias = g.alias; test = g.test; turn = g.turn; before = h; after = g.after },
      e,
    )))))
    (sees_also sees_skipped
    (λ u p. sees_also (name_list_sees c.after g.after)
    (λ ns h. sees_nothing (λ m e. (
      record { alias = g.alias; test = g.test; turn = g.turn; before = g.before; after = h },
      e,
    ))))))))

clause_word : (n : Option Token) → passes is_clause n ≡ true → passes is_word n ≡ false → ⊥
clause_word None e w = absurd cc
clause_word (Some t) e w =
    let none : is_clause t ≡ false = rw w refl in
    let bad : false ≡ true = sym none ∙ e in
    absurd cc

-- where Z holds, no word comes first
all_clauses_see : (Z : Type 0)
    → Sees (λ n. Ended n × (Z → Not is_word n)) (loop is_clause clause no_clauses)
    (λ c n. (ClausesGood c × (Z → c ≡ no_clauses)) × Ended n)
all_clauses_see Z =
    sees_from
    (weaker_sees (sees_loop {test = is_clause}
    (λ c n. ClausesGood c × (Ended n × (Z → (c ≡ no_clauses) × Not is_word n))) (λ c.
    sees_given (ClausesGood c × (Z → ⊥)) (λ n f. (f.0.0, λ z. clause_word n f.1 ((f.0.1.1 z).1)))
    (λ q.
    weaker_sees (clause_sees c q.0) (λ d n h. (h.0, (h.1, λ z. absurd (q.1 z)))))))
    (λ c n h. ((h.0.0, λ z. (h.0.1.1 z).0), h.0.1.0)))
    (λ n f. (
      record { alias = tt; test = tt; turn = tt; before = tt; after = tt },
      (f.0, λ z. (refl, f.1 z)),
    ))

-- ---- blocks

record MadeFits (left : ℕ) (m : Made) : Type 0 where
  used : ℕ
  fits : BlockFits m.block used
  size : m.lines + used ≤ left

made_fits : (left : ℕ) (h : Head) (c : Clauses) (l : Lines) (text : List ℕ) → HeadGood h
    → ClausesGood c → (Odd h → c ≡ no_clauses) → LinesFit left l
    → MadeFits left (record { lines = l.left; block = block_of h c l text })
made_fits left h c l text good_ fits odd f = record {
  used = total f.idle l.storage l.sync l.reads l.writes;
  fits = record {
    name = good_.0;
    place = good_.1;
    odd = λ a b d. odd (a, b, d);
    clauses = fits;
    idle = f.idle;
    at = f.at;
    kept = f.kept;
    rest = f.rest;
    lists = f.lists;
    size = refl;
  };
  size = let z = f.size in let i = f.storage in let j = f.sync in let k = f.reads in
      let m = f.writes in omega (arith, z, i, j, k, m);
}

block_sees : {F : Option Token → Type 0} (full : Bool) (left : ℕ)
    → Sees F (block full left) (λ m n. ((full ≡ false) × MadeFits left m) × Unit {0})
block_sees full left =
    sees_also (sees_lexeme (λ u. full ≡ false) (λ t x h v m f. (no_mark full Limit None m).0))
    (λ u o.
    sees_also {Q = HeadGood} {G = λ h n. Ended n × (Odd h → Not is_word n)} head_sees (λ h a.
    sees_also (all_clauses_see (Odd h)) (λ c b.
    sees_also (lines_see left) (λ l f.
    sees_also (sees_any (choice is_quoted quoted (nothing []))) (λ text p.
    sees_nothing (λ n e. ((o, made_fits left h c l text a b.0 b.1 f), tt)))))))

-- ---- nodes

-- of the nodes so far, and of how many nodes and lines may still stand
record ReadFits (depth most_nodes most_lines : ℕ) (s : Read) : Type 0 where
  n : ℕ
  l : ℕ
  tree : NodesFit depth n l s.tree
  nodes : s.nodes + n ≤ most_nodes
  lines : s.lines + l ≤ most_lines

nobody_fits : (depth k l : ℕ) → ReadFits depth k l (nobody k l)
nobody_fits depth k l = record {
  n = 0;
  l = 0;
  tree = no_nodes refl refl refl;
  nodes = omega arith;
  lines = omega arith;
}

storage_sees : {F : Option Token → Type 0} (depth k l : ℕ) (s : Read) → ReadFits depth k l s
    → Sees F (storage s) (λ r n. ReadFits depth k l r)
storage_sees depth k l s f =
    sees_also (sees_lexeme (λ u. nat_eq s.nodes 0 ≡ false)
    (λ t x h v m g. (no_mark (nat_eq s.nodes 0) Limit None m).0)) (λ u o.
    sees_also (sees_any (sign_here 58)) (λ v p.
    sees_also stores_see (λ rs g.
    sees_also (sees_any line_end) (λ w q.
    sees_nothing (λ n e.
    let some = open_left s.nodes o in
    let a = f.nodes in
    let b = f.lines in
    record {
      n = f.n + 1;
      l = f.l + 0;
      tree = nodes_joined f.tree 1 0 (Storage rs ∷ [])
          (storage_node rs [] 0 refl g refl (no_nodes refl refl refl));
      nodes = omega (arith, some, a);
      lines = omega (arith, b);
    })))))

blocked_sees : {F : Option Token → Type 0} (depth k l : ℕ) (s : Read) → ReadFits depth k l s
    → Sees F (blocked s) (λ r n. ReadFits depth k l r)
blocked_sees depth k l s f =
    sees_also (block_sees (nat_eq s.nodes 0) s.lines) (λ m g.
    sees_nothing (λ n e.
    let some = open_left s.nodes g.0 in
    let made = g.1 in
    let a = f.nodes in
    let b = f.lines in
    let c = made.size in
    record {
      n = f.n + 1;
      l = f.l + (made.used + 0);
      tree = nodes_joined f.tree 1 (made.used + 0) (Block m.block ∷ [])
          (block_node m.block [] 0 made.used 0 refl made.fits refl refl (no_nodes refl refl refl));
      nodes = omega (arith, some, a);
      lines = omega (arith, b, c);
    }))

names : NamesAre Fine IsName
names t n p v m = (name_is_short t n v m, printable_name Ccl t n p v)

condition_sees : {F : Option Token → Type 0} (full : Bool)
    → Sees F (condition full) (λ e n. ((full ≡ false) × ExprFits e) × Unit {0})
condition_sees full =
    sees_also (sees_lexeme (λ u. full ≡ false) (λ t x h v m f. (no_mark full Limit None m).0))
    (λ u o.
    sees_also sees_skipped (λ v p.
    sees_also (of_holds ExprFits (expression_holds Fine IsName names)) (λ e g.
    sees_also sees_skipped (λ w q. sees_nothing (λ n k. ((o, g), tt))))))

-- a body stands where one may
abbrev BodyFits : ℕ → ℕ → ℕ → Read → Type 0
BodyFits zero k l r = ⊥
BodyFits (suc depth) k l r = ReadFits depth k l r

-- what bodies are like
abbrev Bodies : ℕ → Type 0
Bodies depth = (k l : ℕ)
    → Sees (λ n. Unit {0}) (body depth k l) (λ r n. BodyFits depth k l r × Unit {0})

otherwise_sees : {F : Option Token → Type 0} (depth k l : ℕ) → Bodies (suc depth)
    → Sees F (otherwise (body (suc depth)) k l) (λ r n. ReadFits depth k l r × Unit {0})
otherwise_sees depth k l h =
    sees_choice (sees_also sees_skipped (λ u p. sees_from (h k l) (λ n f. tt)))
    (sees_nothing (λ n f. (nobody_fits depth k l, tt)))

conditional_sees : {F : Option Token → Type 0} (depth k l : ℕ) → Bodies depth → (s : Read)
    → ReadFits depth k l s → Sees F (conditional (body depth) s) (λ r n. ReadFits depth k l r)
conditional_sees zero k l h s f =
    sees_also (condition_sees (nat_eq s.nodes 0))
    (λ e q. sees_also (sees_from (h (s.nodes - 1) s.lines) (λ n g. tt)) (λ y b. absurd b))
conditional_sees (suc depth) k l h s f =
    sees_also (condition_sees (nat_eq s.nodes 0)) (λ e q.
    sees_also (sees_from (h (s.nodes - 1) s.lines) (λ n g. tt)) (λ y f1.
    sees_also (otherwise_sees depth y.nodes y.lines h) (λ z f2.
    sees_nothing (λ n g.
    let some = open_left s.nodes q.0 in
    let a = f.nodes in
    let b = f.lines in
    let a1 = f1.nodes in
    let b1 = f1.lines in
    let a2 = f2.nodes in
    let b2 = f2.lines in
    record {
      n = f.n + suc (f1.n + (f2.n + 0));
      l = f.l + (f1.l + (f2.l + 0));
      tree = nodes_joined f.tree (suc (f1.n + (f2.n + 0))) (f1.l + (f2.l + 0))
          (Cond e y.tree z.tree ∷ [])
          (cond_node e y.tree z.tree [] f1.n f2.n 0 f1.l f2.l 0 refl q.1 refl refl f1.tree f2.tree
          (no_nodes refl refl refl));
      nodes = omega (arith, some, a, a1, a2);
      lines = omega (arith, b, b1, b2);
    }))))

node_sees : {F : Option Token → Type 0} (depth k l : ℕ) → Bodies depth → (s : Read)
    → ReadFits depth k l s → Sees F (node (body depth) s) (λ r n. ReadFits depth k l r)
node_sees depth k l h s f =
    sees_choice (storage_sees depth k l s f)
    (sees_choice (conditional_sees depth k l h s f) (blocked_sees depth k l s f))

-- nodes, until none comes
nodes_see : {F : Option Token → Type 0} (depth k l : ℕ) → Bodies depth
    → Sees F (loop is_node (node (body depth)) (nobody k l))
    (λ r n. ReadFits depth k l r × Unit {0})
nodes_see depth k l h =
    sees_from
    (weaker_sees (sees_loop {test = is_node} (λ s n. ReadFits depth k l s)
    (λ s. sees_given (ReadFits depth k l s) (λ n f. f.0) (node_sees depth k l h s)))
    (λ s n g. (g.0, tt))) (λ n f. nobody_fits depth k l)

bodies : (depth : ℕ) → Bodies depth
unfolding body
bodies zero k l = sees_also (sees_lexeme (λ u. ⊥) (λ t x h v m f. absurd cc)) (λ u b. absurd b)
bodies (suc depth) k l =
    sees_choice (sees_also sees_skipped
    (λ u p. sees_also (nodes_see depth k l (bodies depth))
    (λ s f. sees_also sees_skipped (λ v q. sees_nothing (λ n e. (f, tt))))))
    (weaker_sees (node_sees depth k l (bodies depth) (nobody k l) (nobody_fits depth k l))
    (λ r n f. (f, tt)))

-- ---- the file

pub record FileFits (file : ScheduleFile) : Type 0 where
  pub n : ℕ
  pub l : ℕ
  pub items : NodesFit 32 n l file.items
  pub nodes : n ≤ 4096
  pub lines : l ≤ 4096

pub schedule_sees : Sees (λ n. Unit {0}) schedule (λ file n. FileFits file)
schedule_sees =
    sees_also (sees_any line_ends) (λ u p.
    sees_also (nodes_see 32 4096 4096 (bodies 32)) (λ s f.
    sees_nothing (λ n e. let a = f.nodes in let b = f.lines in
    record {
      n = f.n;
      l = f.l;
      items = f.tree;
      nodes = omega (arith, a);
      lines = omega (arith, b);
    })))
