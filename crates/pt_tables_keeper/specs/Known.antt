-- What a keeper over tables has in memory of their content, with the room for more.
use Rattle.pt_desk_store.specs.Listed.{Room}
use Rattle.pt_desk_rules.specs.State.{State}

-- the content of the tables, and how many more records the lists in memory have room for
pub record KnownContent : Type 0 where
  pub content : State
  pub room : Room
