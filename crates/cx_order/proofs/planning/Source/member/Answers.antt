-- each list has one element per entry
use Rattle.std.proofs.Common.{◌≡◌, ◌∙◌, sym, ap, subst, ℕ, ◌<◌, List, map, length, get_or, None}
use Rattle.std.specs.Option.{option_map}
use Rattle.std.proofs.lemmas.List.{get_or-map, length-map}
use Rattle.std.proofs.lemmas.Option.{slice_get-get_or, slice_get-map}
use Rattle.cx_order.specs.Meanings.{names_of}
use Rattle.cx_order_entries.specs.Placement.{contained}
use Rattle.cx_order_entries.specs.Seen.{seen_entry}
use Rattle.cx_order.specs.PlanSteps.{world_in, entries_in, IsSource}
use Rattle.cx_order.proofs.MemberLaws.{contained_within}
use Rattle.cx_order.proofs.planning.Source.member.Goals as goal

mapped : {X Y Z : Type 0} (f : X → Y) (g : Y → Z) (xs : List X) (zs : List Z) (k : ℕ) (x : X)
    (z : Z) → zs ≡ map g (map f xs) → k < length xs → get_or zs k z ≡ g (f (get_or xs k x))
mapped f g xs zs k x z is h =
    ap (λ (all : List _). get_or all k z) is
    ∙ (get_or-map g (map f xs) k (f x) z (subst (λ n. k < n) (sym (length-map xs f)) h)
    ∙ ap g (get_or-map f xs k x (f x) h))

pub returns-clause-is : goal.returns-clause-is
returns-clause-is c =
    let s = c.args.self.now in
    let i = c.args.index in
    let x = c.index-self-index.result in
    let e = seen_entry (get_or s.entries.now i x) in
    let source : IsSource s = c.requires.source in
    let h : i < length s.entries.now = c.requires.within in
    let inside : get_or c.as_slice.result.now i None ≡ contained (entries_in s) e =
    mapped seen_entry (contained (entries_in s)) s.entries.now c.as_slice.result.now i x None
    (c.as_slice.ensures ∙ source.placed.inside) h in
    record {
      meaning = mapped seen_entry (names_of (world_in s))
          s.entries.now s.meanings.now i x c.index-self-index-2.result source.meanings h;
      inside = inside;
      within = contained_within (entries_in s) e _ inside;
    }

pub returns-clause-there : goal.returns-clause-there
returns-clause-there c =
    let xs = c.args.self.now.entries.now in
    slice_get-map seen_entry xs c.args.index
    ∙ ap (option_map seen_entry)
    (slice_get-get_or xs c.args.index c.index-self-index.result c.requires.within)
