use Rattle.std.proofs.Common.{◌≡◌, ◌<◌, length, ap, sym, ◌∙◌, arith}
use Rattle.std.proofs.lemmas.List.{length-map}
use Rattle.cx_flat.specs.Flats.{Control, last_turns}
use Rattle.cx_core_place.specs.Seen.{opened_of}
use Rattle.cx_core_place.proofs.OpenLaws.{turned_back, not_turned, last_turned}
use Rattle.cx_core_place.proofs.place.Place.turn_back.Goals as goal

pub turned-requires : goal.turned-requires
turned-requires c =
    let e : last_turns c.args.self.now.opened ≡ c.in-Some.open.turns =
    last_turned c.self.inside.pc c.self.inside.iteration c.self.inside.opened.items
    c.pop.new.self.items c.in-Some.open c.args.self.now c.self.view_is
    c.in-Some.ensures.items in
    omega (arith, e, c.requires.turns)

pub push_reserved-requires : goal.push_reserved-requires
push_reserved-requires c =
    let n : length c.args.self.now.opened ≡ length c.self.inside.opened.items =
    ap (λ (d : Control). length d.opened) (sym c.self.view_is)
    ∙ length-map c.self.inside.opened.items opened_of in
    let l : length c.pop.new.self.items < 32 =
    omega (arith, n, c.in-Some.ensures.len, c.requires.depth) in
    omega (arith, l, c.in-Some.ensures.capacity, c.self.invariant)

pub returns-in-Some : goal.returns-in-Some
returns-in-Some c =
    turned_back c.self.inside.pc c.self.inside.iteration c.args.count
    c.saturating_sub-self-inside.result c.self.inside.opened.items c.pop.new.self.items
    c.push_reserved.new.self.items c.in-Some.open c.turned.result c.args.self.now
    c.self.view_is c.saturating_sub-self-inside.ensures c.in-Some.ensures.items
    c.push_reserved.ensures.items c.turned.ensures

pub returns-in-None : goal.returns-in-None
returns-in-None c =
    not_turned c.self.inside.pc c.self.inside.iteration c.args.count
    c.saturating_sub-self-inside.result c.self.inside.opened.items c.pop.new.self.items
    c.args.self.now c.self.view_is c.saturating_sub-self-inside.ensures c.in-None.ensures.value
    c.in-None.ensures.rest
