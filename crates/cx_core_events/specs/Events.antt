-- Which events can happen, by where the parts stand.
use Rattle.std.specs.Prelude.{ℕ, zero, suc, ◌+◌, Bool, true, false, not, ◌&&◌, ◌==◌, nat_lt, nat_le, List, [], ◌∷◌, ◌++◌, map, length, take, Option, Some, None, if◌then◌else◌}
use Rattle.std.specs.List.{list_all, list_any, range_with_len}
use Rattle.std.specs.Option.{option_to_list}
use Rattle.cx_grid.specs.declared.shapes.Side.{Side}
use Rattle.cx_grid.specs.declared.shapes.Side.TheVariants.{Low, High}
use Rattle.cx_cut.specs.Cuts.{Parts}
use Rattle.cx_cut.specs.Neighbours.{partner}
use Rattle.cx_plan.specs.declared.variable.VarId.{VarId}
use Rattle.cx_flat.specs.declared.op.Op.{Op}
use Rattle.cx_flat.specs.declared.op.Op.TheVariants.{Join, Take, Piece, Save}
use Rattle.cx_flat.specs.Flats.{is_halt}
use Rattle.cx_core_events.specs.declared.standing.Standing.{Standing}
use Rattle.cx_core_events.specs.declared.standing.Work.{Work}
use Rattle.cx_core_events.specs.declared.standing.Next.{Next}
use Rattle.cx_core_events.specs.declared.standing.Next.TheVariants.{Part, Write, End}
use Rattle.cx_core_events.specs.Paces.{Paces, part_of, op_of, iteration_of, is_before}

-- ---- one part

-- an operation is left, and the part stands before the end that a part has met
abbrev pub is_ahead : List Standing → Option ℕ → ℕ → Bool
is_ahead parts None k = true
is_ahead parts (Some j) k = is_before parts k j

abbrev pub goes_on : Paces → ℕ → Bool
goes_on p k = not (is_halt (op_of p k)) && is_ahead p.parts p.stopped k

-- its iteration is at most the lead above the hindmost one
abbrev pub is_near : Paces → ℕ → Bool
is_near p k = nat_le (iteration_of p k) (p.lead + iteration_of p p.hind)

-- the part with which layers are exchanged at a side, of three directions
abbrev pub partner_at : Parts → ℕ → ℕ → Side → Option ℕ
partner_at cut k d side = if nat_lt d 3 then partner cut k d side else None

-- the one who sends to it stands before it
abbrev pub waits_for : List Standing → Option ℕ → ℕ → Bool
waits_for parts None k = false
waits_for parts (Some j) k = is_before parts j k

-- what it takes was sent: a face by its partners, the numbers of a reduction by all parts
abbrev pub is_ready : Paces → ℕ → Op → Bool
is_ready p k (Take d vars path) =
    not (waits_for p.parts (partner_at p.cut k d Low) k)
    && not (waits_for p.parts (partner_at p.cut k d High) k)
is_ready p k (Join i) = not (is_before p.parts p.hind k)
is_ready p k _ = true

-- the work for which an operation hands in a piece
abbrev pub work_of : Op → ℕ → Option Work
work_of (Piece v) iteration = Some (record { var = Some v; iteration = iteration })
work_of Save iteration = Some (record { var = None; iteration = iteration })
work_of _ iteration = None

-- works of one variable have one buffer, and so have checkpoints
abbrev pub same_buffer : Option VarId → Option VarId → Bool
same_buffer None None = true
same_buffer None (Some v) = false
same_buffer (Some v) None = false
same_buffer (Some v) (Some w) = v.0 == w.0

-- no work that was handed in and isn't done has its buffer
abbrev pub is_room : Option Work → List Work → Bool
is_room None works = true
is_room (Some work) works = not (list_any (λ (w : Work). same_buffer w.var work.var) works)

abbrev pub has_room : Paces → ℕ → Bool
has_room p k = is_room (work_of (op_of p k) (iteration_of p k)) (take (part_of p k).handed p.works)

-- the part can do its next operation
abbrev pub can_go : Paces → ℕ → Bool
can_go p k = not p.over && goes_on p k && is_near p k && is_ready p k (op_of p k) && has_room p k

-- from this place on, those that are set
abbrev pub places_of : ℕ → List Bool → List ℕ
places_of place [] = []
places_of place (true ∷ flags) = place ∷ places_of (suc place) flags
places_of place (false ∷ flags) = places_of (suc place) flags

abbrev pub parts_going : Paces → List ℕ
parts_going p = places_of 0 (map (can_go p) (range_with_len 0 (length p.parts)))

-- ---- the writer

abbrev pub is_some_work : List Work → Bool
is_some_work [] = false
is_some_work (w ∷ ws) = true

-- all parts have handed in the first work
abbrev pub all_in : Paces → Bool
all_in p = is_some_work p.works && list_all (λ (s : Standing). nat_lt 0 s.handed) p.parts

-- f 0 and .. and f (n - 1)
abbrev pub all_below : (ℕ → Bool) → ℕ → Bool
all_below f zero = true
all_below f (suc n) = all_below f n && f n

-- none of them goes on
abbrev pub all_stand : Paces → Bool
all_stand p = all_below (λ k. not (goes_on p k)) (length p.parts)

abbrev pub writer_by : (over in_front at_end : Bool) → Option Next
writer_by true in_front at_end = None
writer_by false true at_end = Some Write
writer_by false false true = Some End
writer_by false false false = None

abbrev pub writer_going : Paces → Option Next
writer_going p = writer_by p.over (all_in p) (all_stand p)

-- ---- all events, by part, the writer last

abbrev pub events : Paces → List Next
events p = map Part (parts_going p) ++ option_to_list (writer_going p)

-- ---- behind the writer's next checkpoint

-- a part has handed in its piece of a checkpoint that isn't done
abbrev pub has_saved : Paces → ℕ → Bool
has_saved p k = list_any (λ (w : Work). same_buffer w.var None) (take (part_of p k).handed p.works)

-- a checkpoint was handed in that isn't done
abbrev pub is_saving : Paces → Bool
is_saving p = list_any (λ (w : Work). same_buffer w.var None) p.works

-- an event is the operation of such a part
abbrev pub lies_ahead : Paces → Option Next → Bool
lies_ahead p (Some (Part k)) = has_saved p k
lies_ahead p (Some Write) = false
lies_ahead p (Some End) = false
lies_ahead p None = false
