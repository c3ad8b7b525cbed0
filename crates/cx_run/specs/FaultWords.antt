-- The words of every fault: the texts that outer faults keep (a file's name, a thorn or a path),
-- the name of the innermost variant, and what it keeps, with one blank between each two.
use Rattle.std.specs.Prelude.{ℕ, List, [], ◌∷◌, ◌++◌, codes}
use Rattle.std.specs.List.{join_with_byte, join_by}
use Rattle.std.specs.Fmt.{decimal}
use Rattle.cx_text.specs.declared.fault.TextFault.{TextFault}
use Rattle.cx_text.specs.declared.fault.TextFault.TheVariants as texts
use Rattle.cx_text.specs.declared.fault.CclFault.{CclFault}
use Rattle.cx_text.specs.declared.fault.CclFault.TheVariants as trees
use Rattle.cx_expr.specs.declared.tree.ExprFault.{ExprFault}
use Rattle.cx_expr.specs.declared.tree.ExprFault.TheVariants as exprs
use Rattle.cx_plan.specs.declared.flag.Flag.{Flag}
use Rattle.cx_plan.specs.declared.flag.Flag.TheVariants.{I, B, G, S}
use Rattle.cx_bind.specs.declared.thorns.BindFault.{BindFault}
use Rattle.cx_bind.specs.declared.thorns.BindFault.TheVariants as binds
use Rattle.cx_values.specs.declared.fault.ValueFault.{ValueFault}
use Rattle.cx_values.specs.declared.fault.ValueFault.TheVariants as values
use Rattle.cx_scope.specs.declared.fault.ScopeFault.{ScopeFault}
use Rattle.cx_scope.specs.declared.fault.ScopeFault.TheVariants as scopes
use Rattle.cx_order.specs.declared.fault.OrderFault.{OrderFault}
use Rattle.cx_order.specs.declared.fault.OrderFault.TheVariants as orders
use Rattle.cx_region.specs.declared.fault.RegionFault.{RegionFault}
use Rattle.cx_region.specs.declared.fault.RegionFault.TheVariants as regions
use Rattle.cx_cut.specs.declared.faults.CutFault.{CutFault}
use Rattle.cx_cut.specs.declared.faults.CutFault.TheVariants as cuts
use Rattle.cx_job.specs.declared.fault.JobFault.{JobFault}
use Rattle.cx_job.specs.declared.fault.JobFault.TheVariants as jobs

-- ---- what words are made of

-- one blank between each two
abbrev pub spaced : List (List ℕ) → List ℕ
spaced = join_with_byte 32

-- a text that a fault keeps, as a path or a name; an empty one is a dash
abbrev pub or_dash : List ℕ → List ℕ
or_dash [] = codes "-"
or_dash (byte ∷ more) = byte ∷ more

-- names, with a comma between each two
abbrev pub listed : List (List ℕ) → List ℕ
listed names = join_by or_dash (codes ",") names

abbrev pub flag_letter : Flag → List ℕ
flag_letter I = codes "I"
flag_letter B = codes "B"
flag_letter G = codes "G"
flag_letter S = codes "S"

-- ---- files

abbrev pub text_fault_words : TextFault → List ℕ
text_fault_words (texts.BadByte line) = spaced (codes "BadByte" ∷ decimal line ∷ [])
text_fault_words (texts.OpenQuote line) = spaced (codes "OpenQuote" ∷ decimal line ∷ [])
text_fault_words texts.TooLong = codes "TooLong"
text_fault_words texts.Memory = codes "Memory"

abbrev pub tree_fault_words : CclFault → List ℕ
tree_fault_words (trees.Unexpected line) = spaced (codes "Unexpected" ∷ decimal line ∷ [])
tree_fault_words (trees.Repeated line) = spaced (codes "Repeated" ∷ decimal line ∷ [])
tree_fault_words (trees.BadNumber line) = spaced (codes "BadNumber" ∷ decimal line ∷ [])
tree_fault_words (trees.Limit line) = spaced (codes "Limit" ∷ decimal line ∷ [])
tree_fault_words trees.Memory = codes "Memory"

-- ---- thorns and parameters

abbrev pub bind_fault_words : BindFault → List ℕ
bind_fault_words (binds.UnknownThorn thorn) = spaced (codes "UnknownThorn" ∷ or_dash thorn ∷ [])
bind_fault_words (binds.TwoThorns thorn) = spaced (codes "TwoThorns" ∷ or_dash thorn ∷ [])
bind_fault_words (binds.TwoProviders implementation a b) =
    spaced (codes "TwoProviders" ∷ or_dash implementation ∷ or_dash a ∷ or_dash b ∷ [])
bind_fault_words (binds.MissingImplementation thorn implementation) =
    spaced (codes "MissingImplementation" ∷ or_dash thorn ∷ or_dash implementation ∷ [])
bind_fault_words (binds.MissingCapability thorn capability) =
    spaced (codes "MissingCapability" ∷ or_dash thorn ∷ or_dash capability ∷ [])
bind_fault_words (binds.MissingThorn thorn other) =
    spaced (codes "MissingThorn" ∷ or_dash thorn ∷ or_dash other ∷ [])
bind_fault_words (binds.NoParameter thorn implementation name) =
    spaced (codes "NoParameter" ∷ or_dash thorn ∷ or_dash implementation ∷ or_dash name ∷ [])
bind_fault_words (binds.WrongType thorn name) =
    spaced (codes "WrongType" ∷ or_dash thorn ∷ or_dash name ∷ [])
bind_fault_words (binds.TwoVariables full) = spaced (codes "TwoVariables" ∷ or_dash full ∷ [])
bind_fault_words (binds.TwoParameters full) = spaced (codes "TwoParameters" ∷ or_dash full ∷ [])
bind_fault_words (binds.Unsupported thorn name) =
    spaced (codes "Unsupported" ∷ or_dash thorn ∷ or_dash name ∷ [])
bind_fault_words (binds.TwoDims a b) = spaced (codes "TwoDims" ∷ or_dash a ∷ or_dash b ∷ [])
bind_fault_words (binds.Limit of_ n) = spaced (codes "Limit" ∷ or_dash of_ ∷ decimal n ∷ [])
bind_fault_words binds.Memory = codes "Memory"

abbrev pub value_fault_words : ValueFault → List ℕ
value_fault_words (values.BadDefault full) = spaced (codes "BadDefault" ∷ or_dash full ∷ [])
value_fault_words (values.UnknownParam line) = spaced (codes "UnknownParam" ∷ decimal line ∷ [])
value_fault_words (values.Index line) = spaced (codes "Index" ∷ decimal line ∷ [])
value_fault_words (values.BadSpelling line) = spaced (codes "BadSpelling" ∷ decimal line ∷ [])
value_fault_words (values.OutOfRange line) = spaced (codes "OutOfRange" ∷ decimal line ∷ [])
value_fault_words (values.Twice line) = spaced (codes "Twice" ∷ decimal line ∷ [])
value_fault_words (values.NotSteerable line) = spaced (codes "NotSteerable" ∷ decimal line ∷ [])
value_fault_words (values.SteerOrder line) = spaced (codes "SteerOrder" ∷ decimal line ∷ [])
value_fault_words values.Memory = codes "Memory"

-- ---- schedules

abbrev pub expr_fault_words : ExprFault → List ℕ
expr_fault_words (exprs.UnknownName name) = spaced (codes "UnknownName" ∷ or_dash name ∷ [])
expr_fault_words (exprs.NotNumber name) = spaced (codes "NotNumber" ∷ or_dash name ∷ [])
expr_fault_words (exprs.NotText name) = spaced (codes "NotText" ∷ or_dash name ∷ [])
expr_fault_words (exprs.Range sign) = spaced (codes "Range" ∷ or_dash sign ∷ [])

abbrev pub scope_fault_words : ScopeFault → List ℕ
scope_fault_words (scopes.NotFound name) = spaced (codes "NotFound" ∷ or_dash name ∷ [])
scope_fault_words (scopes.Hidden name) = spaced (codes "Hidden" ∷ or_dash name ∷ [])
scope_fault_words (scopes.NoStorage name) = spaced (codes "NoStorage" ∷ or_dash name ∷ [])
scope_fault_words (scopes.NoLevel name) = spaced (codes "NoLevel" ∷ or_dash name ∷ [])
scope_fault_words (scopes.NotScalar name) = spaced (codes "NotScalar" ∷ or_dash name ∷ [])
scope_fault_words (scopes.NotGrid name) = spaced (codes "NotGrid" ∷ or_dash name ∷ [])
scope_fault_words scopes.Memory = codes "Memory"

abbrev pub order_fault_words : OrderFault → List ℕ
order_fault_words (orders.Expr thorn fault) = spaced (or_dash thorn ∷ expr_fault_words fault ∷ [])
order_fault_words (orders.UnknownBin name) = spaced (codes "UnknownBin" ∷ or_dash name ∷ [])
order_fault_words (orders.TwoNames path) = spaced (codes "TwoNames" ∷ or_dash path ∷ [])
order_fault_words (orders.GroupCycle names) = spaced (codes "GroupCycle" ∷ listed names ∷ [])
order_fault_words (orders.Cycle names) = spaced (codes "Cycle" ∷ listed names ∷ [])
order_fault_words (orders.Scope path fault) = spaced (or_dash path ∷ scope_fault_words fault ∷ [])
order_fault_words (orders.Limit of_ n) = spaced (codes "Limit" ∷ or_dash of_ ∷ decimal n ∷ [])
order_fault_words orders.Memory = codes "Memory"

abbrev pub region_fault_words : RegionFault → List ℕ
region_fault_words (regions.Shape path var) =
    spaced (codes "Shape" ∷ or_dash path ∷ or_dash var ∷ [])
region_fault_words (regions.Unset path item var level flag) =
    spaced (codes "Unset" ∷ or_dash path ∷ or_dash item ∷ or_dash var ∷ decimal level
    ∷ flag_letter flag ∷ [])
region_fault_words regions.Memory = codes "Memory"

-- ---- cuts

abbrev pub cut_fault_words : CutFault → List ℕ
cut_fault_words (cuts.WidthsDiffer sum points) =
    spaced (codes "WidthsDiffer" ∷ decimal sum ∷ decimal points ∷ [])
cut_fault_words (cuts.GridTooSmall points least) =
    spaced (codes "GridTooSmall" ∷ decimal points ∷ decimal least ∷ [])
cut_fault_words (cuts.TooMany parts most) =
    spaced (codes "TooMany" ∷ decimal parts ∷ decimal most ∷ [])
cut_fault_words (cuts.PartTooThin width least) =
    spaced (codes "PartTooThin" ∷ decimal width ∷ decimal least ∷ [])
cut_fault_words cuts.Memory = codes "Memory"

-- ---- jobs

abbrev pub fault_words : JobFault → List ℕ
fault_words jobs.Shelf = codes "Shelf"
fault_words (jobs.NoFile name) = spaced (codes "NoFile" ∷ or_dash name ∷ [])
fault_words (jobs.Text name fault) = spaced (or_dash name ∷ text_fault_words fault ∷ [])
fault_words (jobs.Ccl name fault) = spaced (or_dash name ∷ tree_fault_words fault ∷ [])
fault_words (jobs.Bind fault) = bind_fault_words fault
fault_words (jobs.Value fault) = value_fault_words fault
fault_words (jobs.Steer name fault) = spaced (or_dash name ∷ value_fault_words fault ∷ [])
fault_words (jobs.Order fault) = order_fault_words fault
fault_words (jobs.UnknownRoutine path) = spaced (codes "UnknownRoutine" ∷ or_dash path ∷ [])
fault_words (jobs.RoutineMismatch path declared offered) =
    spaced (codes "RoutineMismatch" ∷ or_dash path ∷ or_dash declared ∷ or_dash offered ∷ [])
fault_words (jobs.Limit of_ n) = spaced (codes "Limit" ∷ or_dash of_ ∷ decimal n ∷ [])
fault_words (jobs.Cut fault) = cut_fault_words fault
fault_words (jobs.TooLarge path points cap) =
    spaced (codes "TooLarge" ∷ or_dash path ∷ decimal points ∷ decimal cap ∷ [])
fault_words (jobs.Region fault) = region_fault_words fault
fault_words jobs.Memory = codes "Memory"

-- what is printed of a job that is refused
abbrev pub refused_text : JobFault → List ℕ
refused_text fault = codes "refused: " ++ fault_words fault ++ 10 ∷ []
