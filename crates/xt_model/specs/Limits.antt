-- The limits on the numbers of a design, each stated once.
use Rattle.std.specs.Prelude.{ℕ, ◌^◌, ℤ, pos}

-- a time in fs, in size
abbrev pub most_time : ℤ
most_time = pos (2 ^ 46)

-- a slew in fs
abbrev pub most_slew : ℤ
most_slew = pos (2 ^ 40)

-- a capacitance in aF, and the load of a net with every coupling counted twice
abbrev pub most_cap : ℤ
most_cap = pos (2 ^ 46)

-- a product of resistance and capacitance in milliohms times aF
abbrev pub most_product : ℤ
most_product = pos (2 ^ 102)

-- an external delay in fs, in size
abbrev pub most_delay : ℤ
most_delay = pos (2 ^ 40)

-- a clock period in fs
abbrev pub most_period : ℤ
most_period = pos (2 ^ 40)

-- a number of a table, in size
abbrev pub most_in_table : ℤ
most_in_table = pos (2 ^ 40)

-- rows, and columns, of a table
abbrev pub most_lines : ℕ
most_lines = 64

-- a factor of a coupling, in quarters
abbrev pub most_factor : ℕ
most_factor = 12

-- bytes of a name
abbrev pub most_name : ℕ
most_name = 2049

-- bytes of a name in a Liberty, Verilog or SDC text
abbrev pub most_text_name : ℕ
most_text_name = 1024

-- instances of a netlist
abbrev pub most_instances : ℕ
most_instances = 262144

-- nodes of the wire of a net
abbrev pub most_nodes : ℕ
most_nodes = 65536

abbrev pub most_nets : ℕ
most_nets = 262144

abbrev pub most_tables : ℕ
most_tables = 262144

abbrev pub most_checks : ℕ
most_checks = 1048576

-- couplings of all nets, and so pairs of coupled nets
abbrev pub most_couplings : ℕ
most_couplings = 1048576

-- wire coefficients of all nets
abbrev pub most_coefficients : ℕ
most_coefficients = 16777216

-- arcs of all nets
abbrev pub most_arcs : ℕ
most_arcs = 4194304

-- nets and couplings that one evaluation of every net looks at
abbrev pub most_reads : ℕ
most_reads = 134217728

-- nets of a generated design
abbrev pub most_generated : ℕ
most_generated = 100000

-- workers of a run
abbrev pub most_workers : ℕ
most_workers = 64
