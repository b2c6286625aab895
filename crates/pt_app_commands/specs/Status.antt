-- The ending and the exit status of the program.
use Rattle.std.specs.Prelude.{ℕ, ◌==◌, Bool, ◌||◌, true, false, if◌then◌else◌}
use Rattle.clap.specs.declared.error.kind.ErrorKind.{ErrorKind}
use Rattle.clap.specs.declared.error.kind.ErrorKind.TheVariants.{DisplayHelp, DisplayVersion, OutOfMemory}
use Rattle.pt_base_values.specs.Fault.{code_of, fault}
use Rattle.pt_base_values.specs.declared.fault.Cause.TheVariants as cause
use Rattle.pt_app_commands.specs.declared.ending.Ending.{Ending}
use Rattle.pt_app_commands.specs.declared.ending.Ending.TheVariants.{Done, Denied, WrongWords, Failed}

-- Out of memory, or a fault of the store: its tables are not the desk's, its rows are not a sound state, or it refused
-- or failed.
abbrev pub is_of_store : ℕ → Bool
is_of_store code =
    (code == code_of cause.Memory) || (code == code_of cause.OtherTables) || (code == code_of cause.UnsoundRows)
    || (code == code_of cause.StoreFailed)

-- the exit status: 0 done, 1 denied, 2 wrong words, 3 out of memory or the store failed, 4 any other fault
abbrev pub status_of : Ending → ℕ
status_of Done = 0
status_of Denied = 1
status_of WrongWords = 2
status_of (Failed error) = if is_of_store error.code then 3 else 4

-- Refused words are wrong words, with two exceptions. Out of memory is a failure. Help and the version are done if they
-- were shown, and a failed write if not.
abbrev pub refusal_ending : ErrorKind → Bool → Ending
refusal_ending OutOfMemory is_shown = Failed (fault cause.Memory)
refusal_ending DisplayHelp true = Done
refusal_ending DisplayHelp false = Failed (fault cause.WriteFailed)
refusal_ending DisplayVersion true = Done
refusal_ending DisplayVersion false = Failed (fault cause.WriteFailed)
refusal_ending _ is_shown = WrongWords
