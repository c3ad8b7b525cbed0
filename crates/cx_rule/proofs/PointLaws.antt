-- A point staged.
use Rattle.std.proofs.Common.{◌≡◌, ℕ, ◌<◌, arith, sym, ap, ◌∙◌, ℤ, List, [], length, map}
use Rattle.std.specs.Prelude.{slice_index_or}
use Rattle.std.proofs.lemmas.List.{length-map, get_or-map}
use Rattle.std.proofs.lemmas.List.Elements.{All-get_or, All-from_get_or}
use Rattle.cx_grid.specs.declared.boxes.Point.{Point}
use Rattle.cx_plan.specs.declared.item.Touch.{Touch}
use Rattle.cx_plan.specs.declared.item.Region.TheVariants.{Everywhere}
use Rattle.cx_plan.specs.declared.item.Item.{Item}
use Rattle.cx_rule.specs.Patches.{PatchValue, HasBuffers, with_buffers}
use Rattle.cx_rule.specs.Staging.{CanRead, CanSee}
use Rattle.cx_rule.proofs.BufferLaws.{buffers_kept}

no_touch : Touch
no_touch = record { var = record { 0 = 0 }; level = 0; region = Everywhere; reach = 0 }

bare_read : (p : PatchValue) (staged : List (List ℤ)) (room : ℕ) (from : Point) (r : Touch)
    → CanRead (with_buffers p staged room) from r → CanRead p from r
bare_read p staged room from r c =
    record { stored = record { var = c.stored.var; stored = c.stored.stored }; near = c.near }

pub bare_sees : (p : PatchValue) (staged : List (List ℤ)) (room : ℕ) (x : Item) (from : Point)
    → CanSee (with_buffers p staged room) x from → CanSee p x from
bare_sees p staged room x from a =
    All-from_get_or (CanRead p from) x.reads no_touch
    (λ i l. bare_read p staged room from _
    (All-get_or (CanRead (with_buffers p staged room) from) x.reads i no_touch l a))

pub count_kept : (new old : List (List ℤ)) → map length new ≡ map length old
    → length new ≡ length old
count_kept new old e = sym (length-map new length) ∙ ap length e ∙ length-map old length

pub size_kept : (new old : List (List ℤ)) (k : ℕ) → map length new ≡ map length old → k < length old
    → length (slice_index_or new k []) ≡ length (slice_index_or old k [])
size_kept new old k e l =
    let n = count_kept new old e in
    let m : k < length new = omega (arith, n, l) in
    sym (get_or-map length new k [] 0 m) ∙ ap (λ ns. slice_index_or ns k 0) e
    ∙ get_or-map length old k [] 0 l

pub both_kept : (p : PatchValue) (staged cells staged' cells' : List (List ℤ))
    → HasBuffers p staged cells → map length staged' ≡ map length staged
    → map length cells' ≡ map length cells → HasBuffers p staged' cells'
both_kept p staged cells staged' cells' h e f =
    let g = buffers_kept p staged cells h staged' e in
    record { buffers = g.buffers; counts = f ∙ g.counts }
