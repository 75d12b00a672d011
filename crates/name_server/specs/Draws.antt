-- What calls leave of the names, as filters of the past. A past has its newest event first.
use Rattle.std.specs.Prelude.{ℕ, ◌+◌, ◌==◌, ◌&&◌, List, [], ◌∷◌, Option, None, Some, if◌then◌else◌}
use Rattle.xm_num.specs.declared.Enclave.{Enclave}
use Rattle.name_server.specs.Names.{NamesState, with_name, without_pair, is_owned_by}

-- the calls that change the names
pub data NameEvent : Type 0 where
  Drawn : (owner : Enclave) → NameEvent
  Undrawn : (segid : ℕ) (owner : Enclave) → NameEvent

abbrev pub after_name_event : NamesState → NameEvent → NamesState
after_name_event s (Drawn owner) = with_name owner s
after_name_event s (Undrawn segid owner) = without_pair segid owner s

-- the names once these events came, the oldest first
abbrev pub after_name_events : NamesState → List NameEvent → NamesState
after_name_events s [] = s
after_name_events s (event ∷ events) = after_name_events (after_name_event s event) events

-- the segids that are drawn as these events come, in order
abbrev pub segids_drawn : NamesState → List NameEvent → List ℕ
segids_drawn s [] = []
segids_drawn s (Drawn owner ∷ events) = (s.drawn + 1) ∷ segids_drawn (after_name_event s (Drawn owner)) events
segids_drawn s (Undrawn segid owner ∷ events) = segids_drawn (after_name_event s (Undrawn segid owner)) events

-- how many were drawn
abbrev pub count_drawn : List NameEvent → ℕ
count_drawn [] = 0
count_drawn (Drawn owner ∷ past) = count_drawn past + 1
count_drawn (Undrawn segid owner ∷ past) = count_drawn past

-- the owner of a segid: for whom it was drawn, where that pair wasn't unnamed since
abbrev pub owner_by : ℕ → List NameEvent → Option Enclave
owner_by k [] = None
owner_by k (Drawn owner ∷ past) = if count_drawn past + 1 == k then Some owner else owner_by k past
owner_by k (Undrawn segid owner ∷ past) = if (segid == k) && is_owned_by owner (owner_by k past) then None else owner_by k past
