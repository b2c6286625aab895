-- What `desk serve` does with a file and a port.
use Rattle.std.specs.Prelude.{◌≡◌, ◌<◌, ◌⊎◌, ◌++◌, ℕ, ℤ, Bool, List, [], ◌∷◌, length, Option, Result, Ok, Err}
use Rattle.std.specs.Prelude.{IfErr, IfOk, OnErr, OnOk}
use Rattle.std.specs.declared.io.Error.{Error as IoError}
use Rattle.std.specs.declared.net.socket_addr.SocketAddr.{SocketAddr}
use Rattle.std.specs.declared.net.tcp.TcpListener.{TcpListener}
use Rattle.sqlite.specs.Held.{Held}
use Rattle.sqlite.specs.Store.{Ghosts}
use Rattle.sqlite.specs.declared.error.Error.{Error as StoreError}
use Rattle.pt_app_commands.specs.declared.ending.Ending.{Ending}
use Rattle.pt_app_commands.specs.declared.ending.Ending.TheVariants.{Done}
use Rattle.pt_app_serve.specs.Port.{IsOwnAddress, left_of}
use Rattle.pt_app_serve.specs.Serving.{EndsServing, ServesInTurn, Turn, failures_in, progress_of}
use Rattle.pt_app_serve.specs.declared.listening.Port.{Port}
use Rattle.pt_base_values.specs.Fault.{fault}
use Rattle.pt_base_values.specs.declared.fault.Cause.TheVariants as cause
use Rattle.pt_base_values.specs.declared.fault.Fault.{Fault}
use Rattle.pt_desk_store.specs.Store.{Store}
use Rattle.pt_http_exchange.specs.Answering.{GoesOn}
use Rattle.pt_tables_keeper.specs.Keeper.{KeptTables}
use Rattle.pt_app_files.specs.Clock.{AtMoment}
use Rattle.pt_app_files.specs.Desk.{OverDesk}

-- a port of this machine's own address that listens, for so many connections
pub record ListensFor (listens : TcpListener → SocketAddr → Type 0) (number connections : ℕ) (port : Port) : Type 0 where
  pub address : SocketAddr
  pub own : IsOwnAddress number address
  pub listening : listens port.listener address
  pub left : left_of port ≡ connections

-- how a command ends that served: done, or with the fault that ended the serving
abbrev pub ended_by : Result ℕ Fault → Result Ending Fault
ended_by (Ok failed) = Ok Done
ended_by (Err error) = Err error

-- A desk serves the connections that come to a port, in turn, up to the last or to an error that ends it.
pub record ServesPort {A : Type 0} (Shows : Option (List ℕ) → ℤ → Type 0) (Fails : Option (List ℕ) → Type 0)
    (comes : A → List (Option (List ℕ))) (replied : A → Option (List (List ℕ))) (ending : A → Option Bool)
    (zone : List ℕ) (port : A) (result : Result Ending Fault) (before after : Store) : Type 0 where
  pub last : A
  pub failed : Result ℕ Fault
  pub served : after.doubt ≡ 0 → IfOk failed (λ count. (turns : List Turn) × (failures_in turns ≡ count)
      × ServesInTurn Shows Fails zone (comes port) turns
      (progress_of before (replied port) (ending port)) (progress_of after (replied last) (ending last)))
  pub broken_off : after.doubt ≡ 0 → OnErr failed ((sents : List (Option (List ℕ))) × (sent : Option (List ℕ))
      × (turns : List Turn) × (comes port ≡ sents ++ sent ∷ comes last)
      × ServesInTurn Shows Fails zone sents turns
      (progress_of before (replied port) (ending port)) (progress_of after (replied last) (ending last)))
  pub all : OnOk failed (comes last ≡ [])
  pub ended : OnErr failed (length (comes last) < length (comes port))
  pub fault : IfErr failed EndsServing
  pub goes : GoesOn before after
  pub told : result ≡ ended_by failed

-- A port is opened once, with this number and for so many connections, and the desk serves what comes to it. `opens` says
-- which calls open a port.
abbrev pub ServesOn : {P A K : Type 0} → (K → Store) → (Option (List ℕ) → ℤ → Type 0) → (Option (List ℕ) → Type 0)
    → (A → List (Option (List ℕ))) → (A → Option (List (List ℕ))) → (A → Option Bool)
    → (P → ℕ → ℕ → Result A Fault → P → Type 0) → List ℕ → ℕ → ℕ → Result Ending Fault → P → P → K → K
    → Type 0
ServesOn {P} {A} store Shows Fails comes replied ending opens zone number connections result old new before after =
    ((result ≡ Err (fault cause.Memory)) × (new ≡ old) × (after ≡ before))
    ⊎ (((error : Fault) × opens old number connections (Err error) new × (result ≡ Err error) × (after ≡ before))
    ⊎ ((port : A) × opens old number connections (Ok port) new
    × ServesPort Shows Fails comes replied ending zone port result (store before) (store after)))

-- a fault ends the command, and no port is opened
abbrev pub EndsUnopened : {P : Type 0} → P → P → Result Ending Fault → Fault → Type 0
EndsUnopened old new result error = (result ≡ Err error) × (new ≡ old)

-- The clock is read first. Then the desk in a file, which must exist, serves. The first call that fails ends it.
abbrev pub ServesFile : {F S P : Type 0} → Ghosts S → Type 0 → (ℤ → Type 0)
    → (F → List ℕ → Result (Unit {0}) IoError → F → Type 0)
    → (F → List ℕ → Result (Held S) StoreError → F → Type 0) → (F → Held S → F → Type 0) → List ℕ → List ℕ
    → (KeptTables S → KeptTables S → Type 0) → P → P → Result Ending Fault → F → F
    → Type 0
ServesFile g Unread Shows finds connects leaves file zone Serves ports_old ports_new result old new =
    AtMoment Unread Shows zone
    (λ _. OverDesk g finds connects leaves file Serves (EndsUnopened ports_old ports_new result))
    (EndsUnopened ports_old ports_new result) old new
