-- Ranges by names, and what extensions add.
use Rattle.std.proofs.Common.{◌≡◌, refl, sym, ◌∙◌, ap, ℕ, ◌+◌, ◌<◌, Bool, true, false, cond, List, [], ◌∷◌, ◌++◌, length, take, get_or, Some, if◌then◌else◌}
use Rattle.std.proofs.lemmas.List.{append-nil, take_more}
use Rattle.std.proofs.lemmas.Slice.Eq.{bytes_eq-Decides}
use Rattle.std.specs.Map.{lookup}
use Rattle.std.specs.Option.{unwrap_or}
use Rattle.std.specs.Str.{bytes_eq}
use Rattle.indexmap.specs.IndexMap.{insert_entry}
use Rattle.cx_param.specs.declared.ranges.Range.{Range}
use Rattle.cx_bind.specs.declared.parameters.Extension.{Extension}
use Rattle.cx_bind.specs.NameRanges.{ranges_of, AreAdded}
use Rattle.cx_bind.specs.Parameters.{added_by, added}
use Rattle.cx_bind.proofs.PlaceLaws.{bytes_eq_sym, lookup_inserted}
use Rattle.cx_bind.proofs.VariableLaws.{flat_map-append}
use Rattle.cx_text.specs.Bytes.{folded}

joined : (n k : List ℕ) (old : List (List ℕ × List Range)) (more : List Range) (b : Bool)
    → bytes_eq n k ≡ b
    → unwrap_or (cond b (Some (ranges_of k old ++ more))
    (cond b (Some []) (lookup (bytes_eq n) old))) []
    ≡ ranges_of n old ++ (if b then more else [])
joined n k old more true h = ap (λ m. ranges_of m old ++ more) (sym ((bytes_eq-Decides n k).0 h))
joined n k old more false h = sym (append-nil (ranges_of n old))

pub put_back : (old mid new : List (List ℕ × List Range)) (k : List ℕ)
    (had ranges more : List Range) → had ≡ ranges_of k old → mid ≡ insert_entry bytes_eq old k []
    → ranges ≡ had ++ more → new ≡ insert_entry bytes_eq mid k ranges
    → (n : List ℕ) → ranges_of n new ≡ ranges_of n old ++ (if bytes_eq n k then more else [])
put_back old mid new k had ranges more taken empty all after n =
    ap (λ ns. ranges_of n ns)
    (after ∙ ap (λ ns. insert_entry bytes_eq ns k ranges) empty
    ∙ ap (λ rs. insert_entry bytes_eq (insert_entry bytes_eq old k []) k rs)
    (all ∙ ap (λ rs. rs ++ more) taken))
    ∙ ap (λ o. unwrap_or o [])
    (lookup_inserted n k (ranges_of k old ++ more) (insert_entry bytes_eq old k [])
    ∙ ap (λ o. cond (bytes_eq n k) (Some (ranges_of k old ++ more)) o)
    (lookup_inserted n k [] old))
    ∙ joined n k old more (bytes_eq n k) refl

added_push : (es : List Extension) (e : Extension) (full : List ℕ)
    → added (es ++ e ∷ []) full ≡ added es full ++ added_by full e
added_push es e full = flat_map-append (added_by full) es (e ∷ [])
    ∙ ap (λ rs. added es full ++ rs) (append-nil (added_by full e))

pub one_added : (es : List Extension) (i : ℕ) (e : Extension)
    (named named2 : List (List ℕ × List Range)) → i < length es → e ≡ get_or es i e
    → AreAdded (take i es) named
    → ((n : List ℕ) → ranges_of n named2
    ≡ ranges_of n named ++ (if bytes_eq n (folded e.full) then e.ranges else []))
    → AreAdded (take (i + 1) es) named2
one_added es i e named named2 within at before after full =
    after (folded full)
    ∙ ap (λ rs. rs ++ (if bytes_eq (folded full) (folded e.full) then e.ranges else []))
    (before full)
    ∙ ap (λ b. added (take i es) full ++ (if b then e.ranges else []))
    (bytes_eq_sym (folded full) (folded e.full))
    ∙ sym (added_push (take i es) e full)
    ∙ ap (λ part. added part full)
    (sym (take_more es i e within ∙ ap (λ u. take i es ++ u ∷ []) (sym at)))
