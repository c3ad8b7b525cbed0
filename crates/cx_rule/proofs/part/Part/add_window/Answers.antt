use Rattle.std.proofs.Common.{rules, ◌≡◌, ◌∙◌, ◌<◌, ap, sym, arith, ℕ, SFits, w64}
use Rattle.std.proofs.lemmas.Int.{to_z-of_z}
use Rattle.cx_grid.specs.Boxes.{point_in, point_count, shifted}
use Rattle.cx_grid.specs.Windows.{reach_box}
use Rattle.cx_rule.specs.Seen.{volume_of}
use Rattle.cx_rule.specs.Patches.{PatchValue, values_in}
use Rattle.cx_rule.specs.Staging.{with_window}
use Rattle.cx_rule.proofs.WindowLaws.{shown_next, shown_all}
use Rattle.cx_rule.proofs.part.Part.add_window.Goals as goal

pub offsets-preserved : goal.offsets-preserved
offsets-preserved c =
    let dims = c.args.self.now.shape.dims in
    let b = reach_box dims c.args.read.now.reach in
    let f = λ (i : ℕ). values_in c.args.self.now c.args.read.now.var c.args.read.now.level
    (shifted c.args.p (point_in b i)) in
    let r : SFits w64 c.seen.result = search rules in
    let same : c.self.inside.shape.dims ≡ dims =
    ap (λ (p : PatchValue). p.shape.dims) c.self.view_is in
    let v : c.reach_box-offsets.result ≡ b =
    c.reach_box-offsets.ensures.value ∙ ap (λ n. reach_box n c.args.read.now.reach) same in
    let m : c.count-i-end.result ≡ volume_of dims c.args.read.now.reach =
    c.count-i-end.ensures ∙ ap point_count v in
    let o : c.point_at-offset.result ≡ point_in b c.offsets.i =
    c.point_at-offset.ensures.value ∙ ap (λ k. point_in k c.offsets.i) v in
    let below : c.offsets.i < volume_of dims c.args.read.now.reach =
    omega (arith, m, c.offsets-test.true) in
    rw (c.put.ensures, to_z-of_z w64 _ r)
    (shown_next c.args.w.now c.offsets.w c.args.read.now.reach c.args.k c.offsets.i
    (volume_of dims c.args.read.now.reach) f c.point_at-offset.result c.seen.result
    c.requires.k c.requires.values
    (ap (λ d. volume_of d c.args.read.now.reach) (sym c.requires.dims)) below
    (o ∙ ap (λ d. point_in (reach_box d c.args.read.now.reach) c.offsets.i) (sym c.requires.dims))
    (c.seen.ensures
    ∙ ap (λ q. values_in c.args.self.now c.args.read.now.var c.args.read.now.level
    (shifted c.args.p q)) o)
    c.offsets.invariant)

pub returns : goal.returns
returns c =
    let dims = c.args.self.now.shape.dims in
    let b = reach_box dims c.args.read.now.reach in
    let f = λ (i : ℕ). values_in c.args.self.now c.args.read.now.var c.args.read.now.level
    (shifted c.args.p (point_in b i)) in
    let same : c.self.inside.shape.dims ≡ dims =
    ap (λ (p : PatchValue). p.shape.dims) c.self.view_is in
    let v : c.reach_box-offsets.result ≡ b =
    c.reach_box-offsets.ensures.value ∙ ap (λ n. reach_box n c.args.read.now.reach) same in
    let m : c.count-i-end.result ≡ volume_of dims c.args.read.now.reach =
    c.count-i-end.ensures ∙ ap point_count v in
    let e : c.offsets.i ≡ volume_of dims c.args.read.now.reach =
    omega (arith, m, c.offsets-test.false, c.offsets.auto.i-end) in
    c.offsets.invariant ∙ ap (with_window c.args.w.now c.args.read.now.reach)
    (shown_all f (volume_of dims c.args.read.now.reach) c.offsets.i e)
