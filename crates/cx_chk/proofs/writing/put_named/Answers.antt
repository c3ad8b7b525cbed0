use Rattle.std.proofs.Common.{◌≡◌, ◌++◌, ◌^◌, ℕ, ◌<◌, List, [], length, get_or, sym, ap, subst, ◌∙◌, arith, rules}
use Rattle.std.specs.List.{zip, flat_map}
use Rattle.std.specs.Int.{w32, to_be_bytes}
use Rattle.std.proofs.lemmas.List.{take_all, get_or_read}
use Rattle.std.proofs.lemmas.Slice.Zip.{get_or-zip}
use Rattle.cx_chk.specs.Encoding.{named_length}
use Rattle.cx_chk.proofs.Growing.{grown}
use Rattle.cx_chk.proofs.Outputs.{short_at, zip_long}
use Rattle.cx_chk.proofs.writing.put_named.Goals as goal

pub put_file-requires : goal.put_file-requires
put_file-requires c =
    let name_is : c.as_slice.result.now ≡ get_or c.args.names.now c.each.k [] =
    c.as_slice.ensures ∙ get_or_read c.args.names.now c.each.k c.index-names-k.result
    c.each-test.true c.index-names-k.is [] in
    record {
      short = subst (λ (b : List ℕ). length b < 2 ^ 32) (sym name_is)
          (short_at c.args.names.now c.each.k [] c.requires.short c.each-test.true);
    }

pub each-preserved : goal.each-preserved
each-preserved c =
    let names = c.args.names.now in
    let lengths = c.args.lengths.now in
    let long = zip_long names lengths c.requires.many in
    let lt = c.each-test.true in
    let many = c.requires.many in
    let name_is : c.as_slice.result.now ≡ get_or names c.each.k [] =
    c.as_slice.ensures ∙ get_or_read names c.each.k c.index-names-k.result lt c.index-names-k.is
    [] in
    let first : c.put_file.new.out.items
    ≡ c.each.out.items ++ named_length (c.as_slice.result.now, get_or lengths c.each.k 0) =
    search rules in
    let both : named_length (c.as_slice.result.now, get_or lengths c.each.k 0)
    ≡ named_length (get_or (zip names lengths) c.each.k ([], 0)) =
    ap (λ (b : List ℕ). named_length (b, get_or lengths c.each.k 0)) name_is
    ∙ ap named_length (sym (get_or-zip names lengths c.each.k ([], 0) lt (omega arith))) in
    grown named_length (zip names lengths) c.each.k ([], 0) c.args.out.now.items
    (to_be_bytes w32 (length names)) c.each.out.items c.put_file.new.out.items (omega arith)
    c.each.invariant
    (first ∙ ap (λ (b : List ℕ). c.each.out.items ++ b) both)

pub returns : goal.returns
returns c =
    let names = c.args.names.now in
    let lengths = c.args.lengths.now in
    let long = zip_long names lengths c.requires.many in
    let many = c.requires.many in
    let ge = c.each-test.false in
    let files = zip names lengths in
    c.each.invariant ∙ ap (λ (fs : List (List ℕ × ℕ)). c.args.out.now.items
    ++ (to_be_bytes w32 (length names) ++ flat_map named_length fs))
    (take_all c.each.k files (omega arith))
    ∙ ap (λ (n : ℕ). c.args.out.now.items ++ (to_be_bytes w32 n ++ flat_map named_length files))
    (many ∙ sym long)
