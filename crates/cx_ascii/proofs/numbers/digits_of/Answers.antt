use Rattle.std.proofs.Common.{◌≡◌, ℕ, ℤ, pos, length, get_or, w64, SFits, rules}
use Rattle.cx_ascii.proofs.EightLaws.{eight_digits, plain}
use Rattle.cx_ascii.proofs.numbers.digits_of.Goals as goal

pub returns : goal.returns
returns c =
    let eight : length c.args.eight.now ≡ 8 = search rules in
    let at : ℕ → ℤ = λ k. get_or c.args.eight.now k (pos 0) in
    let fits_a : SFits w64 (at 0) = search rules in
    let fits_b : SFits w64 (at 1) = search rules in
    let fits_c : SFits w64 (at 2) = search rules in
    let fits_d : SFits w64 (at 3) = search rules in
    let fits_e : SFits w64 (at 4) = search rules in
    let fits_f : SFits w64 (at 5) = search rules in
    let fits_g : SFits w64 (at 6) = search rules in
    let fits_h : SFits w64 (at 7) = search rules in
    eight_digits c.args.eight.now c.in_ok-a.a c.in_ok-b.b c.in_ok-c.c c.in_ok-d.d c.in_ok-e.e
    c.in_ok-f.f c.in_ok-g.g c.in_ok-h.h eight (plain (at 0) c.in_ok-a.a fits_a c.in_ok-a.ensures)
    (plain (at 1) c.in_ok-b.b fits_b c.in_ok-b.ensures)
    (plain (at 2) c.in_ok-c.c fits_c c.in_ok-c.ensures)
    (plain (at 3) c.in_ok-d.d fits_d c.in_ok-d.ensures)
    (plain (at 4) c.in_ok-e.e fits_e c.in_ok-e.ensures)
    (plain (at 5) c.in_ok-f.f fits_f c.in_ok-f.ensures)
    (plain (at 6) c.in_ok-g.g fits_g c.in_ok-g.ensures)
    (plain (at 7) c.in_ok-h.h fits_h c.in_ok-h.ensures)
