-- What the top call takes from its source, appends to its sink and leaves of its world, by its status. A source or a sink
-- that doesn't tell its bytes meets each of these.
use Rattle.std.specs.Prelude.{◌≡◌, ◌≤◌, ◌<◌, ◌⊎◌, ◌∷◌, [], ℕ, List, map, codes, String, string_bytes, length, Option, None, Some}
use Rattle.std.specs.Global.{Global}
use Rattle.std.specs.Io.KnownBytes.{Appends, Consumes, IsAtEnd, Keeps}
use Rattle.xm_edge.specs.Whole.{GivesAll}
use Rattle.node_world.specs.declared.world.Which.{Which}
use Rattle.scenario_text.specs.Scenario.{Ending}
use Rattle.scenario_run.specs.Scenario.{scenario_of}
use Rattle.node_world.specs.World.{WorldView}
use Rattle.scenario_run.specs.Run.{IsRun, IsRunSoFar, IsRunCut, IsRunFull, HasRun, HasFilled}

-- the most bytes of a scenario
abbrev pub most : ℕ
most = 4194304

-- the words ask for a run
abbrev pub AsksRun : List (String Global) → Type 0
AsksRun words = map string_bytes words ≡ codes "run" ∷ []

-- The headline. The source was read to its end, no line stops the scenario, and what was appended to the sink is
-- the text of a lawful history that is whole, whose commands are exactly those of the scenario, and is read back, line by line,
-- as this history. That is the world's journal, and each step on the world was carried through.
pub record WritesHistory (left left_new put put_new : Option (List ℕ)) (world : WorldView) : Type 0 where
  pub bytes : List ℕ
  pub read : GivesAll left left_new bytes most
  pub whole : (scenario_of bytes).ending ≡ None
  pub written : List ℕ
  pub wrote : Appends put put_new written
  pub run : IsRun bytes written
  pub ran : HasRun world run.journal

-- The source was read to its end, the scenario ends so at a line, and what was appended is the text of the history of the
-- commands before it. That history is the world's journal, and each step on the world was carried through.
pub record StopsAtLine (ending : Ending) (left left_new put put_new : Option (List ℕ)) (world : WorldView) : Type 0 where
  pub bytes : List ℕ
  pub read : GivesAll left left_new bytes most
  pub stops : (scenario_of bytes).ending ≡ Some ending
  pub written : List ℕ
  pub wrote : Appends put put_new written
  pub run : IsRun bytes written
  pub ran : HasRun world run.journal

-- The source was read to its end, and what was appended is the text of a lawful history of first commands of the
-- scenario, up to the line that would pass the limit. That history is the world's journal.
pub record StopsFull (which : Which) (left left_new put put_new : Option (List ℕ)) (world : WorldView) : Type 0 where
  pub bytes : List ℕ
  pub read : GivesAll left left_new bytes most
  pub written : List ℕ
  pub wrote : Appends put put_new written
  pub run : IsRunFull which bytes written
  pub filled : HasFilled which world run.journal

-- The source was read to its end, and what was appended is a front of the text of a history of first commands of the
-- scenario.
pub record StopsWriting (left left_new put put_new : Option (List ℕ)) : Type 0 where
  pub bytes : List ℕ
  pub read : GivesAll left left_new bytes most
  pub written : List ℕ
  pub wrote : Appends put put_new written
  pub run : IsRunCut bytes written

-- At most `most` bytes were taken, and what was appended is the text of the whole history of first commands of the
-- scenario that they are. Where the source wasn't read to its end it is empty, and the world stays as it was.
pub record StopsForMemory (left left_new put put_new : Option (List ℕ)) (world world_new : WorldView) : Type 0 where
  pub bytes : List ℕ
  pub read : Consumes left left_new bytes
  pub short : length bytes ≤ most
  pub written : List ℕ
  pub wrote : Appends put put_new written
  pub run : IsRunSoFar bytes written
  pub idle : IsAtEnd left_new ⊎ ((written ≡ []) × (world_new ≡ world))

-- So many bytes were taken that no scenario has, and nothing was appended.
pub record StopsAtLimit (left left_new put put_new : Option (List ℕ)) : Type 0 where
  pub bytes : List ℕ
  pub read : Consumes left left_new bytes
  pub long : most < length bytes
  pub kept : Keeps put put_new

-- At most `most` bytes were taken before the fault, and nothing was appended.
pub record StopsReading (left left_new put put_new : Option (List ℕ)) : Type 0 where
  pub bytes : List ℕ
  pub read : Consumes left left_new bytes
  pub short : length bytes ≤ most
  pub kept : Keeps put put_new
