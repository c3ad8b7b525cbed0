-- A bin's number: its place in a plan.
use Rattle.std.specs.Prelude.{ℕ}
use Rattle.cx_plan.specs.Lookups as bins
use Rattle.cx_plan.specs.declared.bin.Bin.{Bin}
use Rattle.cx_plan.specs.declared.bin.Bin.TheVariants.{Startup, Wragh, Paramcheck, Basegrid, Initial, Postinitial, Prestep, Evol, Poststep, Checkpoint, Analysis, Terminate, Shutdown, Cpinitial, RecoverParameters, RecoverVariables, PostRecoverVariables}

abbrev pub bin_number : Bin → ℕ
bin_number Startup = bins.STARTUP
bin_number Wragh = bins.WRAGH
bin_number Paramcheck = bins.PARAMCHECK
bin_number Basegrid = bins.BASEGRID
bin_number Initial = bins.INITIAL
bin_number Postinitial = bins.POSTINITIAL
bin_number Prestep = bins.PRESTEP
bin_number Evol = bins.EVOL
bin_number Poststep = bins.POSTSTEP
bin_number Checkpoint = bins.CHECKPOINT
bin_number Analysis = bins.ANALYSIS
bin_number Terminate = bins.TERMINATE
bin_number Shutdown = bins.SHUTDOWN
bin_number Cpinitial = bins.CPINITIAL
bin_number RecoverParameters = bins.RECOVER_PARAMETERS
bin_number RecoverVariables = bins.RECOVER_VARIABLES
bin_number PostRecoverVariables = bins.POST_RECOVER_VARIABLES
