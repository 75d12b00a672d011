-- What an enclave has at hand as it writes: the call of a process, or a record that came.
use Rattle.std.specs.Option.{option_map_or}
use Rattle.xemem_language.specs.declared.command.Command.{Command}
use Rattle.xemem_language.specs.declared.record.Record.{Record}
use Rattle.xemem_language.specs.declared.call.ProcessCall.{ProcessCall}
use Rattle.xemem_language.specs.Calls.{call_of}

pub data Hand : Type 0 where
  Nothing : Hand
  Calls : (call : ProcessCall) → Hand
  Reads : (rec : Record) → Hand

-- what a command gives into the hand
abbrev pub hand_of : Command → Hand
hand_of command = option_map_or (λ call. Calls call) (call_of command) Nothing
