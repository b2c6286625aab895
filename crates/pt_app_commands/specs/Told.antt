-- The desk's reply to a command, the text that the command prints, and its ending.
use Rattle.std.specs.Prelude.{◌≡◌, ◌⊎◌, ℕ, List, [], ◌++◌, Result, Ok, Err, codes}
use Rattle.pt_base_values.specs.declared.fault.Cause.TheVariants as cause
use Rattle.pt_base_values.specs.Fault.{fault}
use Rattle.pt_base_values.specs.Rule.{name_of}
use Rattle.pt_base_values.specs.declared.fault.Fault.{Fault}
use Rattle.pt_desk_store.specs.declared.keeper.StoreFault.{StoreFault}
use Rattle.pt_desk_store.specs.declared.keeper.StoreFault.TheVariants.{Memory, Store}
use Rattle.pt_manifest.specs.Export.{trips_text}
use Rattle.pt_manifest.specs.Manifests.{manifest_text}
use Rattle.pt_desk_requests.specs.declared.request.Answer.{Answer}
use Rattle.pt_desk_requests.specs.declared.request.Answer.TheVariants as answer
use Rattle.pt_app_commands.specs.declared.ending.Ending.{Ending}
use Rattle.pt_app_commands.specs.declared.ending.Ending.TheVariants.{Done, Denied}

-- The printed text. It is a word on its own line if the request is done, the rule's name if it is denied, and otherwise
-- the text that was asked for.
abbrev pub told_text : Answer → List ℕ
told_text answer.Done = codes "done\n"
told_text (answer.Denied rule) = name_of rule ++ codes "\n"
told_text (answer.Manifest day sheet) = manifest_text day sheet
told_text (answer.Export trips) = trips_text trips
told_text _ = []

-- the ending of a command with this answer
abbrev pub ending_of : Answer → Ending
ending_of (answer.Denied rule) = Denied
ending_of _ = Done

-- the program's fault for a fault of the desk's store
abbrev pub fault_of : StoreFault → Fault
fault_of Memory = fault cause.Memory
fault_of Store = fault cause.StoreFailed

-- the ending of a command with this reply
abbrev pub EndsBy : Result Answer StoreFault → Result Ending Fault → Type 0
EndsBy (Ok told) (Ok ending) = ending ≡ ending_of told
EndsBy (Ok told) (Err error) = (error ≡ fault cause.Memory) ⊎ (error ≡ fault cause.WriteFailed)
EndsBy (Err failed) result = result ≡ Err (fault_of failed)
