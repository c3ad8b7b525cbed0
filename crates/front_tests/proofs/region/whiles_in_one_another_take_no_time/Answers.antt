use Rattle.front_tests.proofs.RegionSampleLaws.{turns-whole}
use Rattle.front_tests.proofs.region.whiles_in_one_another_take_no_time.Goals as goal

pub is_sound-requires : goal.is_sound-requires
is_sound-requires g c =
    turns-whole c.in_ok-first.first c.in_ok-turns.turns c.in_ok-evol.evol c.in_ok-first.ensures
    c.in_ok-turns.ensures c.in_ok-evol.ensures
