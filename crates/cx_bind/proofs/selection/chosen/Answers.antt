use Rattle.std.proofs.Common.{◌≡◌, ◌∙◌, ap, sym, ◌+◌, ◌++◌, ◌∷◌, [], List, ℕ, map, drop, not, ◌&&◌}
use Rattle.std.proofs.lemmas.List.{map_push}
use Rattle.std.specs.List.{list_any}
use Rattle.std.specs.Str.{bytes_eq}
use Rattle.cx_text.specs.Lexemes.{same_name, among}
use Rattle.cx_bind.specs.BuiltIn.{built_in_thorns}
use Rattle.cx_bind.specs.NameSets.{has}
use Rattle.cx_bind.specs.Selecting.{chosen}
use Rattle.cx_bind.proofs.SetLaws.{any_mapped}
use Rattle.cx_bind.proofs.SelectionLaws.{come, passed_by, taken_in}
use Rattle.cx_bind.proofs.selection.chosen.Goals as goal
use Rattle.cx_bind.proofs.selection.chosen.Goals.{then-branch+in_ok-from_slice+in_ok-push, else-branch}
use Rattle.cx_text.specs.Bytes.{folded}

seen : (name : List ℕ) (names : List (List ℕ))
    → list_any (same_name name) names ≡ has (map folded names) name
seen name names = sym (any_mapped (bytes_eq (folded name)) folded names)

pub active-preserved : goal.active-preserved
active-preserved c =
    let name = c.name-item.result in
    let is = c.in_ok-is_new.ensures.new
    ∙ ap (λ m. not (among built_in_thorns m) && not (has c.active.there m))
    c.as_slice.ensures in
    elim c.if-branch.branch [
      | then-branch+in_ok-from_slice+in_ok-push w ↦
          let names : c.if-branch.names ≡ c.active.names ++ name ∷ [] =
          w.names-is ∙ w.in_ok-push.ensures.ok
          ∙ ap (λ x. c.active.names ++ x ∷ [])
          (w.in_ok-from_slice.ensures ∙ w.as_slice-then-branch.ensures) in
          record {
            come =
                ap (λ part. come same_name (λ name. not (among built_in_thorns name)) part
                (drop (c.active.name-index + 1) c.args.active.now)) names
                ∙ taken_in same_name (λ name. not (among built_in_thorns name)) folded
                (λ x set. has set x) seen c.args.active.now (chosen c.args.active.now)
                c.active.name-index name c.active.names c.active.there c.in_ok-is_new.field-0
                c.active-test.true c.name-item.is c.active.invariant.come
                c.active.invariant.there is w.if-branch.true;
            there =
                c.in_ok-is_new.ensures.added w.if-branch.true
                ∙ ap (λ m. c.active.there ++ folded m ∷ []) c.as_slice.ensures
                ∙ ap (λ set. set ++ folded name ∷ []) c.active.invariant.there
                ∙ sym (map_push folded c.active.names name)
                ∙ ap (λ part. map folded part) (sym names);
          }
      | else-branch w ↦
          record {
            come =
                ap (λ part. come same_name (λ name. not (among built_in_thorns name)) part
                (drop (c.active.name-index + 1) c.args.active.now)) w.names-is
                ∙ passed_by same_name (λ name. not (among built_in_thorns name)) folded
                (λ x set. has set x) seen c.args.active.now (chosen c.args.active.now)
                c.active.name-index name c.active.names c.active.there c.in_ok-is_new.field-0
                c.active-test.true c.name-item.is c.active.invariant.come
                c.active.invariant.there is w.if-branch.false;
            there = c.in_ok-is_new.ensures.kept w.if-branch.false ∙ c.active.invariant.there
                ∙ ap (λ part. map folded part) (sym w.names-is);
          }
    ]
