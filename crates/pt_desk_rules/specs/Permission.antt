-- Who may make which request.
use Rattle.std.specs.Prelude.{ℕ, Bool, true, false, ◌==◌, ◌&&◌, Option, Some, None, is_some}
use Rattle.pt_base_values.specs.declared.rider.Rider.{Rider}
use Rattle.pt_base_values.specs.declared.trip.Trip.{Trip}
use Rattle.pt_rights_files.specs.declared.entry.Entry.{Entry}
use Rattle.pt_rights_files.specs.declared.entry.Entry.TheVariants as entry
use Rattle.pt_desk_requests.specs.declared.caller.Role.{Role}
use Rattle.pt_desk_requests.specs.declared.caller.Role.TheVariants as role

-- the caller is an admin
abbrev pub is_admin : Role → Bool
is_admin role.Admin = true
is_admin _ = false

-- the caller is a clerk
abbrev pub is_clerk : Role → Bool
is_clerk role.Clerk = true
is_clerk _ = false

-- the caller is a dispatcher
abbrev pub is_dispatcher : Role → Bool
is_dispatcher role.Dispatcher = true
is_dispatcher _ = false

-- the caller is an examiner
abbrev pub is_examiner : Role → Bool
is_examiner role.Examiner = true
is_examiner _ = false

-- the caller is an officer
abbrev pub is_officer : Role → Bool
is_officer role.Officer = true
is_officer _ = false

-- the rider is the caller's own, and has a record
abbrev pub is_own : ℕ → ℕ → Option Rider → Bool
is_own own rider found = (own == rider) && is_some found

-- a clerk, an examiner or an officer, or the rider whose record it is
abbrev pub may_see_standing : ℕ → Option Rider → Role → Bool
may_see_standing rider found (role.Rider own) = is_own own rider found
may_see_standing rider found role.Clerk = true
may_see_standing rider found role.Examiner = true
may_see_standing rider found role.Officer = true
may_see_standing rider found _ = false

-- a clerk, or the rider whose record it is
abbrev pub may_appeal : ℕ → Option Rider → Role → Bool
may_appeal rider found (role.Rider own) = is_own own rider found
may_appeal rider found role.Clerk = true
may_appeal rider found _ = false

-- clerks take applications and give notice, examiners decide applications, riders appeal, and officers hear and
-- decide appeals and suspensions
abbrev pub may_enter : Entry → ℕ → Option Rider → Role → Bool
may_enter entry.Complete rider found = is_clerk
may_enter (entry.Grant grant) rider found = is_examiner
may_enter (entry.Refuse reasons) rider found = is_examiner
may_enter (entry.Appeal against) rider found = may_appeal rider found
may_enter entry.Heard rider found = is_officer
may_enter (entry.AppealGranted grant) rider found = is_officer
may_enter (entry.AppealDenied reasons) rider found = is_officer
may_enter entry.Overturn rider found = is_officer
may_enter (entry.Notice basis) rider found = is_clerk
may_enter entry.NoticeHeard rider found = is_officer
may_enter (entry.Suspend starts ends reasons) rider found = is_officer

-- a clerk, a dispatcher, or the rider whose trips they are
abbrev pub may_book : ℕ → Option Rider → Role → Bool
may_book rider found (role.Rider own) = is_own own rider found
may_book rider found role.Clerk = true
may_book rider found role.Dispatcher = true
may_book rider found _ = false

-- a clerk or a dispatcher
abbrev pub is_counter : Role → Bool
is_counter role.Clerk = true
is_counter role.Dispatcher = true
is_counter _ = false

-- a dispatcher, or the driver of this vehicle
abbrev pub may_run : ℕ → Role → Bool
may_run vehicle (role.Driver own) = own == vehicle
may_run vehicle role.Dispatcher = true
may_run vehicle _ = false

-- a driver may end only a trip that exists
abbrev pub may_end : Option Trip → Role → Bool
may_end None role = is_dispatcher role
may_end (Some trip) role = may_run trip.vehicle role

-- a rider may change or cancel only a trip that exists
abbrev pub may_alter : Option Trip → Option Rider → Role → Bool
may_alter None found role = is_counter role
may_alter (Some trip) found role = may_book trip.rider found role
