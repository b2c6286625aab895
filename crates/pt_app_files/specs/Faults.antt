-- The fault of a call that fails.
use Rattle.std.specs.Prelude.{◌≡◌, ◌≢◌, ◌⊎◌}
use Rattle.std.specs.declared.io.ErrorKind.{ErrorKind}
use Rattle.std.specs.declared.io.ErrorKind.TheVariants.{AlreadyExists, OutOfMemory}
use Rattle.pt_base_values.specs.Fault.{fault}
use Rattle.pt_base_values.specs.declared.fault.Cause.TheVariants as cause
use Rattle.pt_base_values.specs.declared.fault.Fault.{Fault}
use Rattle.pt_tables_opening.specs.declared.open_fault.OpenFault.{OpenFault}
use Rattle.sqlite.specs.declared.error.Error.{Error}
use Rattle.sqlite.specs.declared.error.Error.TheVariants.{SqliteFailure}
use Rattle.sqlite.specs.declared.error.ErrorCode.TheVariants as code

-- out of memory, or the store refused or failed
abbrev pub IsStoreFault : Fault → Type 0
IsStoreFault error = (error ≡ fault cause.Memory) ⊎ (error ≡ fault cause.StoreFailed)

-- why a file cannot be made: it exists already, memory is refused, or else the store fails
pub record IsFaultOfMaking (kind : ErrorKind) (error : Fault) : Type 0 where
  pub exists : kind ≡ AlreadyExists → error ≡ fault cause.FileExists
  pub memory : kind ≡ OutOfMemory → error ≡ fault cause.Memory
  pub other : kind ≢ AlreadyExists → kind ≢ OutOfMemory → error ≡ fault cause.StoreFailed

-- why a file that must exist cannot be read: memory is refused, or else it is not there
pub record IsFaultOfReading (kind : ErrorKind) (error : Fault) : Type 0 where
  pub memory : kind ≡ OutOfMemory → error ≡ fault cause.Memory
  pub other : kind ≢ OutOfMemory → error ≡ fault cause.NoSuchFile

-- why a database cannot be opened: memory is refused, or else the store fails
pub record IsFaultOfConnecting (why : Error) (error : Fault) : Type 0 where
  pub memory : why ≡ SqliteFailure code.OutOfMemory → error ≡ fault cause.Memory
  pub other : why ≢ SqliteFailure code.OutOfMemory → error ≡ fault cause.StoreFailed

-- the fault for a database that is refused
abbrev pub told_as : OpenFault → Fault
told_as refused = record { code = refused.code; row = refused.table }
