use Rattle.std.proofs.Common.{◌≡◌, ◌++◌, map, drop}
use Rattle.std.specs.List.{filter_map}
use Rattle.cx_text.specs.Digits.{natural_in}
use Rattle.cx_job_values.proofs.cuts.widths_in.Given as goal

abbrev pub invariant-loop-word : goal.invariant-loop-word
invariant-loop-word l = l.widths
    ++ filter_map (natural_in 16777216) (map (λ x. x.now) (drop l.word-index l.words))
    ≡ filter_map (natural_in 16777216) (map (λ x. x.now) l.words)
