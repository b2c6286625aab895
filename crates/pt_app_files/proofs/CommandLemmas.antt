use Rattle.std.proofs.Common.{◌≡◌, ℕ, List, subst, sym}
use Rattle.pt_app_command_line.specs.declared.asked.Line.{Line}
use Rattle.pt_app_command_line.specs.declared.asked.Task.{Task}
use Rattle.pt_app_files.specs.Commands.{DoesLine, Obeys}

-- what is done for the line that was found is done for the line that was asked
pub obeys : {Rehearses : List ℕ → Type 0} {Inits : List ℕ → List ℕ → Type 0} {Migrates : List ℕ → Type 0}
    {Serves : List ℕ → List ℕ → ℕ → ℕ → Type 0} {Asks : List ℕ → List ℕ → List ℕ → Task → Type 0} {asked found : Line}
    → asked ≡ found → DoesLine Rehearses Inits Migrates Serves Asks found
    → Obeys Rehearses Inits Migrates Serves Asks asked
obeys {Rehearses} {Inits} {Migrates} {Serves} {Asks} is does =
    record { does = subst (DoesLine Rehearses Inits Migrates Serves Asks) (sym is) does }
