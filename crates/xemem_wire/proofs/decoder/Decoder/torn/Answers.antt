use Rattle.xemem_wire.proofs.KeptLemmas.{kept_stops, kept_fine}
use Rattle.xemem_wire.proofs.decoder.Decoder.torn.Goals as goal

pub short_length-requires : goal.short_length-requires
short_length-requires c = record {
  partial = rw c.deref.ensures.value (kept_stops c.self.inside.bytes.items c.self.inside.given c.self.inside.whole c.self.inside.bad c.self.invariant);
  fine = rw c.deref.ensures.value (kept_fine c.self.inside.bytes.items c.self.inside.given c.self.inside.whole c.self.inside.bad c.self.invariant);
}
