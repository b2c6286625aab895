-- How the logic stores a content.
use Rattle.std.specs.Prelude.{refl}
use Rattle.std.specs.Coded.{Coded, code_by}
use Rattle.pt_desk_store.specs.Listed.{Listed, no_room}
use Rattle.pt_desk_store.specs.contracts.list_keeper.ListKeeper as list_keeper
use Rattle.pt_desk_rules.specs.State.{State}

abbrev pub state_code : Coded State
state_code =
    code_by Listed list_keeper.the_row.coded (λ content. record { content = content; room = no_room })
    (λ lists. lists.content) (λ _. refl)
