-- The files of a run that is made from a seed and a size.
use Rattle.std.specs.Prelude.{ℕ, List, [], ◌∷◌, ◌++◌, codes}
use Rattle.std.specs.Fmt.{decimal}

-- several lines as a text
abbrev pub lines : List (List ℕ) → List ℕ
lines [] = []
lines (line ∷ more) = line ++ 10 ∷ lines more

-- the list of thorns
abbrev pub thorn_list : List ℕ
thorn_list = lines (codes "Integer/Life2D" ∷ [])

-- the thorn's interface, parameters and schedule
abbrev pub interface : List ℕ
interface =
    lines
    (codes "implements: life"
    ∷ codes "public:"
    ∷ codes "CCTK_BYTE cells TYPE=GF DIM=2 { cell } \"cells\""
    ∷ codes "CCTK_INT counts TYPE=SCALAR { live } \"live cells\""
    ∷ [])

abbrev pub params : List ℕ
params =
    lines
    (codes "restricted:"
    ∷ codes "INT born { 0:511 } 8"
    ∷ codes "INT survive { 0:511 } 12"
    ∷ codes "KEYWORD pattern { \"glider\" \"random\" } \"glider\""
    ∷ codes "INT seed { 0:* } 0"
    ∷ [])

abbrev pub schedule : List ℕ
schedule =
    lines
    (codes "STORAGE: cells[1] counts[1]"
    ∷ codes "schedule life_init AT INITIAL { LANG: C WRITES: life::cell(everywhere) } \"start\""
    ∷ codes "schedule life_step AT EVOL"
    ∷ codes "{"
    ∷ codes "  LANG: C"
    ∷ codes "  SYNC: cells"
    ∷ codes "  READS: life::cell(everywhere)"
    ∷ codes "  WRITES: life::cell(interior)"
    ∷ codes "} \"one step\""
    ∷ (codes "schedule life_zero AT EVOL AFTER life_step"
    ++ codes " { LANG: C WRITES: life::cell(boundary) } \"edge\"")
    ∷ (codes "schedule life_count AT POSTSTEP"
    ++ codes " { LANG: C READS: life::cell(everywhere) WRITES: life::live } \"count\"")
    ∷ [])

-- the parameter file, in which the size and the seed stand
abbrev pub parameters : ℕ → ℕ → List ℕ
parameters seed size =
    lines
    (codes "ActiveThorns = \"Life2D\""
    ∷ codes "Cactus::cctk_itlast = 20"
    ∷ (codes "driver::global_nx = " ++ decimal size)
    ∷ (codes "driver::global_ny = " ++ decimal size)
    ∷ codes "driver::periodic = yes"
    ∷ codes "driver::parts_x = 4"
    ∷ codes "driver::parts_y = 4"
    ∷ codes "life::pattern = \"random\""
    ∷ (codes "life::seed = " ++ decimal seed)
    ∷ codes "IO::out_dir = \"made\""
    ∷ codes "IO::checkpoint_dir = \"made\""
    ∷ codes "IO::out_every = 20"
    ∷ codes "IO::out_vars = \"life::cell\""
    ∷ codes "IO::checkpoint_every = 10"
    ∷ [])

-- the name of the parameter file
abbrev pub file_name : List ℕ
file_name = codes "made.par"

-- all files, each a name and its bytes
abbrev pub made_files : ℕ → ℕ → List (List ℕ × List ℕ)
made_files seed size =
    (codes "ThornList", thorn_list)
    ∷ (codes "arrangements/Integer/Life2D/interface.ccl", interface)
    ∷ (codes "arrangements/Integer/Life2D/param.ccl", params)
    ∷ (codes "arrangements/Integer/Life2D/schedule.ccl", schedule)
    ∷ (file_name, parameters seed size)
    ∷ []
