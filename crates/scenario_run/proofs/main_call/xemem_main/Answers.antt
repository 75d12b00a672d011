use Rattle.std.proofs.Common.{inr, [], refl}
use Rattle.scenario_run.proofs.RunLemmas.{no_run, appends_none}
use Rattle.scenario_run.proofs.MainLemmas.{main_headline, main_syntax, main_unbuilt, main_lines, main_line_bytes, main_limit, main_full, main_complete}
use Rattle.scenario_run.proofs.main_call.xemem_main.Goals as goal

pub returns-in-Ok-clause-headline : goal.returns-in-Ok-clause-headline
returns-in-Ok-clause-headline g c = main_headline _ _ _ _ c.in-Ok.bytes.items _ _ c.in-Ok.ensures.ok (rw c.deref.ensures.value at c.run.ensures.leaves)

pub returns-in-Ok-clause-syntax : goal.returns-in-Ok-clause-syntax
returns-in-Ok-clause-syntax g c = main_syntax _ _ _ _ c.in-Ok.bytes.items _ _ c.in-Ok.ensures.ok (rw c.deref.ensures.value at c.run.ensures.leaves)

pub returns-in-Ok-clause-unbuilt : goal.returns-in-Ok-clause-unbuilt
returns-in-Ok-clause-unbuilt g c = main_unbuilt _ _ _ _ c.in-Ok.bytes.items _ _ c.in-Ok.ensures.ok (rw c.deref.ensures.value at c.run.ensures.leaves)

pub returns-in-Ok-clause-lines : goal.returns-in-Ok-clause-lines
returns-in-Ok-clause-lines g c = main_lines _ _ _ _ c.in-Ok.bytes.items _ _ c.in-Ok.ensures.ok (rw c.deref.ensures.value at c.run.ensures.leaves)

pub returns-in-Ok-clause-line_bytes : goal.returns-in-Ok-clause-line_bytes
returns-in-Ok-clause-line_bytes g c = main_line_bytes _ _ _ _ c.in-Ok.bytes.items _ _ c.in-Ok.ensures.ok (rw c.deref.ensures.value at c.run.ensures.leaves)

pub returns-in-Ok-clause-full : goal.returns-in-Ok-clause-full
returns-in-Ok-clause-full g c = main_full _ _ _ _ c.in-Ok.bytes.items _ _ c.in-Ok.ensures.ok (rw c.deref.ensures.value at c.run.ensures.leaves)

pub returns-in-Ok-clause-limit : goal.returns-in-Ok-clause-limit
returns-in-Ok-clause-limit g c = λ number is. absurd (main_limit _ _ c.in-Ok.bytes.items _ _ (rw c.deref.ensures.value at c.run.ensures.leaves) number is)

pub returns-in-Ok-clause-complete : goal.returns-in-Ok-clause-complete
returns-in-Ok-clause-complete g c =
    λ bytes asks left short words takes puts.
    main_complete _ _ _ _ c.in-Ok.bytes.items bytes _ c.run.result c.in-Ok.ensures.ok (rw c.deref.ensures.value at c.run.ensures.leaves) left words (λ failed. puts (c.run.ensures.write failed))

pub returns-in-Err-Memory-clause-memory : goal.returns-in-Err-Memory-clause-memory
returns-in-Err-Memory-clause-memory g c =
    let some = rw c.in-Err-Memory.field-0-is at c.in-Err-Memory.ensures.err in
    λ same. record { bytes = some.0; read = some.1; short = some.2; written = []; wrote = appends_none _; run = no_run some.0; idle = inr (refl, refl) }
