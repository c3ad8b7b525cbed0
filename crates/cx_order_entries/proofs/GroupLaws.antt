-- The names of groups, entry by entry.
use Rattle.std.proofs.Common.{◌≡◌, refl, sym, ◌∙◌, ap, ℕ, ◌+◌, ◌<◌, true, false, List, [], ◌∷◌, map, filter, filter_map, length, drop, get_or}
use Rattle.std.proofs.lemmas.List.{drop_more}
use Rattle.cx_text.specs.Lexemes.{same_name}
use Rattle.cx_sched.specs.declared.tree.Spot.TheVariants.{At, Inside}
use Rattle.cx_order_entries.specs.declared.counted.Entry.{Entry as LentEntry}
use Rattle.cx_order_entries.specs.PlaceNumbers.{inside_name, group_names}
use Rattle.cx_order_entries.specs.Seen.{seen_entry}
use Rattle.cx_order_entries.proofs.OnceLaws.{come, come-one, come-both}

abbrev pub block_names : List LentEntry → List (List ℕ)
block_names es = map (λ e. e.block.name) (filter (λ e. e.block.group) (map seen_entry es))

abbrev pub spot_names : List LentEntry → List (List ℕ)
spot_names es = filter_map (λ e. inside_name e.block.spot) (map seen_entry es)

module _ (xs : List LentEntry) (i : ℕ) (x : LentEntry) (within : i < length xs)
    (at : x ≡ get_or xs i x) where
  left_over : drop i xs ≡ x ∷ drop (i + 1) xs
  left_over = drop_more xs i x within ∙ ap (λ u. u ∷ drop (i + 1) xs) (sym at)

  pub block-yes : x.block.now.group ≡ true
      → block_names (drop i xs) ≡ x.block.now.name ∷ block_names (drop (i + 1) xs)
  block-yes e = ap block_names left_over ∙ rw e refl

  pub block-no : x.block.now.group ≡ false → block_names (drop i xs) ≡ block_names (drop (i + 1) xs)
  block-no e = ap block_names left_over ∙ rw e refl

  pub spot-inside : (name : List ℕ) → x.block.now.spot ≡ Inside name
      → spot_names (drop i xs) ≡ name ∷ spot_names (drop (i + 1) xs)
  spot-inside name e = ap spot_names left_over ∙ rw e refl

  pub spot-at : (name : List ℕ) → x.block.now.spot ≡ At name
      → spot_names (drop i xs) ≡ spot_names (drop (i + 1) xs)
  spot-at name e = ap spot_names left_over ∙ rw e refl

pub come-next : (there new : List (List ℕ)) (x : List ℕ) (all rest w : List (List ℕ))
    → all ≡ x ∷ rest → new ≡ come same_name there (x ∷ []) → come same_name there all ≡ w
    → come same_name new rest ≡ w
come-next there new x all rest w parts is before =
    come-one same_name there x rest new is ∙ ap (come same_name there) (sym parts) ∙ before

pub come-same : (there all rest w : List (List ℕ)) → all ≡ rest → come same_name there all ≡ w
    → come same_name there rest ≡ w
come-same there all rest w parts before = ap (come same_name there) (sym parts) ∙ before

pub of-both : (xs : List LentEntry) (none one two : List (List ℕ)) → none ≡ []
    → one ≡ come same_name none (block_names xs) → two ≡ come same_name one (spot_names xs)
    → two ≡ group_names (map seen_entry xs)
of-both xs none one two empty first second =
    second
    ∙ ap (λ n. come same_name n (spot_names xs))
    (first ∙ ap (λ n. come same_name n (block_names xs)) empty)
    ∙ come-both same_name [] (block_names xs) (spot_names xs)
