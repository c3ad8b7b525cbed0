use Rattle.std.proofs.Common.{◌≡◌, ◌∙◌, sym, ap, subst, refl, ℕ, suc, ◌+◌, ◌++◌, ◌∷◌, [], List, drop, add-one, true, rules}
use Rattle.cx_plan.specs.declared.tree.Tree.{Tree, Seq}
use Rattle.cx_order.specs.declared.planning.Made.{Made}
use Rattle.cx_order_entries.specs.Members.{entries_of}
use Rattle.cx_order.specs.Plans.{Done, Then, path_of, sync_tree, wrapped}
use Rattle.cx_order_entries.specs.Seen.{seen_entry}
use Rattle.cx_order.specs.PlanSteps.{world_in, entries_in, orders_in, inside_of, row_with, contents_at, Makes, Works}
use Rattle.cx_order.proofs.PlanLaws.{Passed, passed-next, room-next, room-inside, makes-member, works-group, if_ok, row-next}
use Rattle.cx_order.proofs.MemberLaws.{group_contents}
use Rattle.cx_order.proofs.planning.+plan.Goals as goal

pub plan_member-returns : goal.plan_member-returns
plan_member-returns t c =
    let s = c.args.source.now in
    let w = world_in s in
    let m = c.args.member.now in
    let e = seen_entry m.entry.now in
    let n = c.args.nesting in
    let es = entries_in s in
    let depth = c.args.around + 1 in
    let inner = c.in_ok-inner.inner in
    let mid : Made = record { items = c.args.made.now.items; text = c.push_line.new.text } in
    let work = c.in_ok-work.work in
    let P : Tree → List ℕ → Type 0 =
    λ tree path. Makes w (suc c.args.around)
    (Then e path (inside_of n es (orders_in s) e path) Done)
    c.args.made.now c.plan_work.new.made (tree ∷ []) in
    if_ok c.wrapped_tree.result (λ tree. tree ≡ wrapped m.meaning.now inner work)
    (λ tree. P tree (path_of c.args.path.now e))
    (λ tree is. subst (P tree) c.in_ok-inner.ensures
    (makes-member w depth (suc c.args.around) (suc depth) e m.meaning.now inner
    (inside_of n es (orders_in s) e inner) c.args.made.now mid c.plan_work.new.made work tree
    c.requires.member.meaning (add-one c.args.around) (ap suc (add-one c.args.around))
    refl c.in_ok-push_line.ensures c.in_ok-work.ensures is))
    c.wrapped_tree.ensures

pub plan_members-members-preserved : goal.plan_members-members-preserved
plan_members-members-preserved t c =
    let s = c.args.source.now in
    let w = world_in s in
    let n = c.args.nesting in
    let es = entries_in s in
    let path = c.args.path.now in
    let e = seen_entry c.member-member.result.entry.now in
    let depth = suc c.args.around in
    let i = c.members.index-index in
    let row = λ (ks : List ℕ). row_with n es (orders_in s) path (entries_of es ks) in
    let rest = row (drop (i + 1) c.args.members.now) in
    let P : List Tree → Type 0 =
    λ made. Passed w depth c.args.made.now c.plan_member.new.made made (row c.args.members.now)
    rest in
    subst P (sym {A = List Tree} c.in_ok-push.ensures.items)
    (passed-next w depth e (path_of path e) (inside_of n es (orders_in s) e (path_of path e))
    rest c.args.made.now c.members.made c.plan_member.new.made c.members.trees.items
    c.in_ok-tree.tree (row c.args.members.now) (row (drop i c.args.members.now))
    (row-next n es (orders_in s)
    path c.args.members.now i 0 e c.members-test.true c.member-member.ensures.there)
    c.in_ok-tree.ensures c.members.invariant)

pub plan_work-returns : goal.plan_work-returns
plan_work-returns t c =
    let s = c.args.source.now in
    let w = world_in s in
    let m = c.args.member.now in
    let e = seen_entry m.entry.now in
    let path = c.args.path.now in
    let n = c.args.nesting in
    let rows = s.placed.now.orders in
    let es = entries_in s in
    let inside = inside_of n es (orders_in s) e path in
    let group : e.block.group ≡ true = c.if-not-member.false in
    if_ok c.group_tree.result
    (λ work. work ≡ Seq (c.in_ok-contents.contents.items ++ sync_tree path m.meaning.now.sync))
    (λ work. Works w (suc c.args.around)
    e path inside c.args.made.now c.plan_place.new.made work)
    (λ work is. works-group w (suc c.args.around) e path inside
    (contents_at n es rows path m.inside)
    c.args.made.now c.plan_place.new.made c.in_ok-contents.contents.items m.meaning.now work
    group c.requires.member.meaning
    (ap (contents_at n es rows path) c.requires.member.inside
    ∙ group_contents es rows n path e group)
    c.in_ok-contents.ensures is)
    c.group_tree.ensures

pub plan_members-plan_member-requires : goal.plan_members-plan_member-requires
plan_members-plan_member-requires t c =
    let s = c.args.source.now in
    let n = c.args.nesting in
    let es = entries_in s in
    let path = c.args.path.now in
    let e = seen_entry c.member-member.result.entry.now in
    let i = c.members.index-index in
    let row = λ (ks : List ℕ). row_with n es (orders_in s) path (entries_of es ks) in
    let rest = row (drop (i + 1) c.args.members.now) in
    let few = room-next (world_in s) (suc c.args.around) e (path_of path e)
    (inside_of n es (orders_in s) e (path_of path e))
    rest c.args.made.now c.members.made c.members.trees.items (row c.args.members.now)
    (row (drop i c.args.members.now))
    (row-next n es (orders_in s)
    path c.args.members.now i 0 e c.members-test.true c.member-member.ensures.there)
    c.members.invariant c.requires.few in
    (search rules, (c.requires.source, (c.member-member.ensures.is, (c.requires.deep, few))))

pub plan_work-plan_place-requires : goal.plan_work-plan_place-requires
plan_work-plan_place-requires t c =
    let s = c.args.source.now in
    let m = c.args.member.now in
    let e = seen_entry m.entry.now in
    let path = c.args.path.now in
    let n = c.args.nesting in
    let rows = s.placed.now.orders in
    let es = entries_in s in
    let group : e.block.group ≡ true = c.if-not-member.false in
    let few = room-inside c.args.made.now e (inside_of n es (orders_in s) e path)
    (contents_at n es rows path m.inside) group
    (ap (contents_at n es rows path) c.requires.member.inside
    ∙ group_contents es rows n path e group)
    c.requires.few in
    (search rules, (c.requires.source, (c.requires.member.within, (c.requires.deep, few))))
