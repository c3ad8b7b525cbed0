use Rattle.std.proofs.Common.{◌≡◌, ◌<◌, ◌-◌, not, false, length, get_or, drop, refl, ap, ◌∙◌, arith}
use Rattle.std.specs.List.{suffix_len}
use Rattle.std.proofs.lemmas.List.Sums.{suffix_len_is}
use Rattle.cx_parfile.proofs.base_name.behind_slash.Goals as goal
use Rattle.cx_parfile.proofs.base_name.behind_slash.Goals.{then-bytes-test+else-file-start-ne47, else-bytes-test}
use Rattle.cx_text.specs.Bytes.{is_slash}

pub returns : goal.returns
returns c =
    let file = c.args.file.now in
    let n = c.bytes.start in
    let kept = c.bytes.invariant in
    let stops : 0 < n → not (is_slash (get_or file (n - 1) 0)) ≡ false =
    λ lt. elim c.bytes-test.branch [
      | then-bytes-test+else-file-start-ne47 w
          ↦ rw w.if-file-start-ne47.false refl
      | else-bytes-test w ↦ let e = w.bytes-test.false in
          absurd (omega (arith, lt, e))
    ] in
    let at : suffix_len (λ x. not (is_slash x)) file ≡ length file - n =
    suffix_len_is (λ x. not (is_slash x)) file n 0 kept.0 kept.1 stops in
    let le = kept.0 in
    let same : n ≡ length file - suffix_len (λ x. not (is_slash x)) file = omega (arith, at, le) in
    c.split_at.ensures.back ∙ ap (λ k. drop k file) same
