-- The laws on which the machine rests, as the functions of the crates below ensure them.
use Rattle.std.specs.Prelude.{◌≡◌, ◌≤◌, ℕ, List, ◌++◌, length, drop, None}
use Rattle.byte_link.specs.Channel.{Channel, waiting_bytes, sent, taken}
use Rattle.xemem_language.specs.declared.record.Record.{Record}
use Rattle.xemem_wire.specs.Spelling.{spelling_of, spellings_of, AreValid}
use Rattle.xemem_wire.specs.Stream.{first_bad}

pub record MachineLaws : Type 0 where
  -- a front of what valid records spell has no bad field
  pub fine : (rs : List Record) (bytes more : List ℕ) → AreValid rs → bytes ++ more ≡ spellings_of rs → first_bad bytes ≡ None
  pub least : (r : Record) → 16 ≤ length (spelling_of r)
  -- what waits in a link once bytes are sent or taken
  pub send : (c : Channel) (bytes : List ℕ) → waiting_bytes (sent c bytes) ≡ waiting_bytes c ++ bytes
  pub take : (c : Channel) (n : ℕ) → waiting_bytes (taken c n) ≡ drop n (waiting_bytes c)
