-- Each round marks the end of a new edge; where there is none, what is reached is marked.
use Rattle.std.proofs.Common.{◌∙◌, arith}
use Rattle.cx_scope.proofs.ReachLaws.{end-sound, end-below, end-falls, all-reached, marks-length}
use Rattle.cx_scope.proofs.reach.reach_from.Goals as goal

pub returns-in-None : goal.returns-in-None
returns-in-None c =
    all-reached c.args.edges.now c.args.from c.as_slice.result.now c.rounds.marks.items
    c.next_end.result c.as_slice.ensures.value c.next_end.ensures c.in-None.is
    c.rounds.invariant.sound

pub index_mut-requires : goal.index_mut-requires
index_mut-requires c =
    let below = end-below c.args.edges.now c.args.from c.args.count c.as_slice.result.now
    c.next_end.result c.in-Some.end c.requires c.next_end.ensures c.in-Some.is in
    let long = c.rounds.invariant.long in
    let ok = c.rounds.marks.ok in omega (arith, below, long, ok)

pub rounds-smaller : goal.rounds-smaller
rounds-smaller c =
    let below = end-below c.args.edges.now c.args.from c.args.count c.as_slice.result.now
    c.next_end.result c.in-Some.end c.requires c.next_end.ensures c.in-Some.is in
    let long = c.rounds.invariant.long in
    end-falls c.args.edges.now c.args.from c.as_slice.result.now c.rounds.marks.items
    c.next_end.result c.in-Some.end c.as_slice.ensures.value (omega (arith, below, long))
    c.next_end.ensures c.in-Some.is

pub rounds-preserved : goal.rounds-preserved
rounds-preserved c =
    record {
      long = marks-length c.rounds.marks.items c.in-Some.end ∙ c.rounds.invariant.long;
      sound = end-sound c.args.edges.now c.args.from c.as_slice.result.now c.rounds.marks.items
          c.next_end.result c.in-Some.end c.as_slice.ensures.value c.next_end.ensures c.in-Some.is
          c.rounds.invariant.sound;
    }
