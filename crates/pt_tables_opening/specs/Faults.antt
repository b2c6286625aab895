-- Why a database is not opened.
use Rattle.std.specs.Prelude.{◌≡◌, ◌⊎◌, ◌≤◌, ℕ}
use Rattle.pt_base_values.specs.Fault.{code_of}
use Rattle.pt_base_values.specs.declared.fault.Cause.{Cause}
use Rattle.pt_base_values.specs.declared.fault.Cause.TheVariants as cause
use Rattle.pt_desk_rules.specs.TableNames.{table_count}
use Rattle.pt_tables_opening.specs.declared.open_fault.OpenFault.{OpenFault}

-- the fault of this cause, in no table
abbrev pub fault : Cause → OpenFault
fault why = record { code = code_of why; table = 0 }

-- no sound state has the rows of this table
abbrev pub unsound : ℕ → OpenFault
unsound table = record { code = code_of cause.UnsoundRows; table = table }

-- out of memory, the store failed, its tables are not the desk's, or the rows of one of them are at fault
abbrev pub IsRefusal : OpenFault → Type 0
IsRefusal refused =
    (refused ≡ fault cause.Memory)
    ⊎ ((refused ≡ fault cause.StoreFailed)
    ⊎ ((refused ≡ fault cause.OtherTables)
    ⊎ ((table : ℕ) × (1 ≤ table) × (table ≤ table_count) × (refused ≡ unsound table))))
