-- The files of the thorns that conserve, as they are shipped, byte for byte.
use Rattle.std.specs.Prelude.{ℕ, List, [], ◌∷◌, ◌++◌, codes}
use Rattle.std.specs.List.{flat_map}

-- the lines of a text, each with its line feed
abbrev pub lines : List (List ℕ) → List ℕ
lines ls = flat_map (λ l. l ++ 10 ∷ []) ls

-- ---- HeatFlux

abbrev pub heat_interface : List ℕ
heat_interface =
    lines
    (codes "implements: heatflux"
    ∷ codes "public:"
    ∷ codes "CCTK_INT evolved TYPE=GF DIM=3 { u } \"heat\""
    ∷ codes "CCTK_BYTE walls TYPE=GF DIM=3 { mask } \"1 where heat flows, 0 where none does\""
    ∷ codes "CCTK_INT sums TYPE=SCALAR { total } \"sum\""
    ∷ [])

abbrev pub heat_params : List ℕ
heat_params =
    lines
    (codes "restricted:"
    ∷ codes "INT factor \"in 256ths\" { 0:* } 32"
    ∷ codes "KEYWORD pattern \"start\" { \"point\" \"random\" } \"point\""
    ∷ codes "INT amount \"height\" { *:* } 1000000"
    ∷ codes "INT start \"place\" { 0:* } 0"
    ∷ codes "INT seed \"mixing\" { 0:* } 0"
    ∷ [])

abbrev pub heat_schedule : List ℕ
heat_schedule =
    lines
    (codes "STORAGE: evolved[1] walls[1] sums[1]"
    ∷ codes "schedule heatflux_init AT INITIAL"
    ∷ codes "{ LANG: C WRITES: heatflux::u(everywhere) heatflux::mask(everywhere) } \"start\""
    ∷ codes "schedule heatflux_step AT EVOL"
    ∷ codes "{"
    ∷ codes "  LANG: C"
    ∷ codes "  SYNC: evolved"
    ∷ codes "  READS: heatflux::u(everywhere) heatflux::mask(everywhere)"
    ∷ codes "  WRITES: heatflux::u(interior)"
    ∷ codes "} \"one step\""
    ∷ codes "schedule heatflux_zero AT EVOL AFTER heatflux_step"
    ∷ codes "{ LANG: C WRITES: heatflux::u(boundary) } \"edge\""
    ∷ codes "schedule heatflux_sum AT ANALYSIS"
    ∷ codes "{ LANG: C READS: heatflux::u(everywhere) WRITES: heatflux::total } \"sum\""
    ∷ [])

-- ---- LatticeGas

abbrev pub gas_interface : List ℕ
gas_interface =
    lines
    (codes "implements: gas"
    ∷ codes "public:"
    ∷ (codes "CCTK_BYTE cells TYPE=GF DIM=2 { cell } "
    ++ codes "\"particles: bit 0 goes east, 1 north, 2 west, 3 south\"")
    ∷ codes "CCTK_INT measured TYPE=GF DIM=2 { number momentum_x momentum_y } \"of each cell\""
    ∷ codes "CCTK_INT sums TYPE=SCALAR { particles total_x total_y } \"over all cells\""
    ∷ [])

abbrev pub gas_params : List ℕ
gas_params =
    lines
    (codes "restricted:"
    ∷ codes "INT size \"width of the block that is filled at the start\" { 0:* } 16"
    ∷ codes "INT seed \"mixing\" { 0:* } 0"
    ∷ [])

abbrev pub gas_schedule : List ℕ
gas_schedule =
    lines
    (codes "STORAGE: cells[1] measured[1] sums[1]"
    ∷ codes "schedule gas_init AT INITIAL { LANG: C WRITES: gas::cell(everywhere) } \"start\""
    ∷ codes "schedule gas_step AT EVOL"
    ∷ codes "{"
    ∷ codes "  LANG: C"
    ∷ codes "  SYNC: cells"
    ∷ codes "  READS: gas::cell(everywhere)"
    ∷ codes "  WRITES: gas::cell(interior)"
    ∷ codes "} \"one step\""
    ∷ (codes "schedule gas_zero AT EVOL AFTER gas_step { LANG: C WRITES: gas::cell(boundary) } "
    ++ codes "\"edge\"")
    ∷ codes "schedule gas_measure AT ANALYSIS"
    ∷ codes "{"
    ∷ codes "  LANG: C"
    ∷ codes "  READS: gas::cell(everywhere)"
    ∷ (codes "  WRITES: gas::number(everywhere) gas::momentum_x(everywhere) "
    ++ codes "gas::momentum_y(everywhere)")
    ∷ codes "} \"particles and momenta of each cell\""
    ∷ codes "schedule gas_particles AT ANALYSIS AFTER gas_measure"
    ∷ codes "{ LANG: C READS: gas::number(everywhere) WRITES: gas::particles } \"sum\""
    ∷ codes "schedule gas_total_x AT ANALYSIS AFTER gas_measure"
    ∷ codes "{ LANG: C READS: gas::momentum_x(everywhere) WRITES: gas::total_x } \"sum\""
    ∷ codes "schedule gas_total_y AT ANALYSIS AFTER gas_measure"
    ∷ codes "{ LANG: C READS: gas::momentum_y(everywhere) WRITES: gas::total_y } \"sum\""
    ∷ [])
