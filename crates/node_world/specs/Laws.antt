-- The laws on which the world rests, as the functions of the crates below ensure them.
use Rattle.std.specs.Prelude.{◌≡◌, ◌≢◌, ◌+◌, ◌<◌, ◌≤◌, ◌==◌, ◌++◌, ◌∷◌, [], ℕ, List, Bool, length, take, drop, None, Some, true, false, nat_lt, if◌then◌else◌}
use Rattle.std.specs.List.{concat}
use Rattle.std.specs.Option.{option_map}
use Rattle.xm_num.specs.declared.Enclave.{Enclave}
use Rattle.xm_num.specs.declared.Pid.{Pid}
use Rattle.xemem_language.specs.declared.call.Call.{Call}
use Rattle.xemem_language.specs.declared.call.Show.{Show}
use Rattle.xm_num.specs.declared.Cause.TheVariants as causes
use Rattle.xm_num.specs.Rows.{at, put}
use Rattle.byte_link.specs.Channel.{Channel, waiting_bytes, sent, taken}
use Rattle.byte_link.specs.Passage.{left_of}
use Rattle.xemem_language.specs.declared.record.Record.{Record}
use Rattle.xemem_wire.specs.Spelling.{spelling_of, spellings_of, is_valid, AreValid}
use Rattle.xemem_wire.specs.Decoding.{Decoding}
use Rattle.xemem_wire.specs.Stream.{reading_of, record_onto, records_onto, nothing_read, first_bad, moved}
use Rattle.xemem_language.specs.declared.command.Command.{Command}
use Rattle.xemem_language.specs.declared.command.Command.TheVariants as commands
use Rattle.xemem_language.specs.declared.line.Line.{Line}
use Rattle.xemem_language.specs.declared.line.Line.TheVariants as lines
use Rattle.global_model.specs.Facts.{Facts, facts_after, facts_at, after_line, after_lines, is_living_enclave}
use Rattle.enclave_rules.specs.Core.{is_guest}
use Rattle.enclave_rules.specs.View.{View, own_lines, unborn_view, AreOf, AreAbout}
use Rattle.global_model.specs.Apt.{IsTaking}
use Rattle.global_model.specs.Handled.{AreHandled}
use Rattle.global_model.specs.Views.{view_of, seen_lines}
use Rattle.enclave_rules.specs.Calls.{call_lines, show_lines, AreCallLines, AreShowLines}
use Rattle.enclave_rules.specs.Steps.{refusal, host_lines, first_blocks, lines_of_records}
use Rattle.global_model.specs.Known.{IsAnswered}
use Rattle.global_model.specs.Due.{deliver_lines, next_rest, first_waiting, command_lines, journal_of, step_lines}
use Rattle.global_model.specs.Flow.{IsFlowing}
use Rattle.global_model.specs.Journals.{do_commands, onto}
use Rattle.global_model.specs.Carriage.{IsCarried}
use Rattle.global_model.specs.Place.{IsPlaced}
use Rattle.global_model.specs.Rest.{EndsSettle}
use Rattle.node_machine.specs.declared.pair.Pair.{Pair}
use Rattle.node_machine.specs.declared.pair.Hop.TheVariants as hops
use Rattle.node_machine.specs.Machine.{AreAbove, IsPairAt, hop_of}

-- what a decoder makes of spellings
pub record WireLaws : Type 0 where
  pub first : (r : Record) (more : List ℕ) → is_valid r ≡ true → reading_of (spelling_of r ++ more) ≡ record_onto r (reading_of more)
  pub bad : (rs : List Record) (more : List ℕ) → AreValid rs → first_bad (spellings_of rs ++ more) ≡ option_map (moved (length (spellings_of rs))) (first_bad more)
  pub reading : (rs : List Record) (r : Record) (n : ℕ) → AreValid rs → is_valid r ≡ true → n < length (spelling_of r) → reading_of (spellings_of rs ++ take n (spelling_of r)) ≡ records_onto rs (nothing_read (take n (spelling_of r)))
  pub least : (r : Record) → 16 ≤ length (spelling_of r)
  pub fine : (rs : List Record) (r : Record) (n : ℕ) → AreValid rs → is_valid r ≡ true → n < length (spelling_of r) → first_bad (spellings_of rs ++ take n (spelling_of r)) ≡ None

-- what an enclave writes and keeps follows from its view
pub record ViewLaws : Type 0 where
  pub calls : (holder : Enclave) (v : View) (p : Pid) (call : Call) → (v.core.holder ≡ true → holder ≡ v.me) → AreCallLines holder v.me (call_lines v p call)
  pub shows : (v : View) (show : Show) → AreShowLines (show_lines v show)
  pub of : (holder : Enclave) (v : View) (x : Enclave) (rs : List Record) → (v.core.holder ≡ true → holder ≡ v.me) → AreOf holder v.me (lines_of_records v x rs)
  pub own : (G : Facts) (v : View) (lines : List Line) → is_guest v.core.kind ≡ false → AreAbout G.holder v.me lines → seen_lines G v lines ≡ own_lines G.hand v lines
  pub others : (G : Facts) (y : Enclave) (w : View) (lines : List Line) → AreAbout G.holder y lines → w.me.0 ≢ y.0 → seen_lines G w lines ≡ w
  pub answered : (commands : List Command) → IsPlaced commands → IsAnswered (facts_after (journal_of commands))
  pub host : (pool blocks : ℕ) (ns : Bool) → command_lines (facts_after (journal_of (commands.Pool pool ∷ []))) (commands.Host blocks ns) ≡ (if nat_lt pool blocks then refusal causes.NoBlocks else host_lines (first_blocks blocks) ns)
  pub unborn : (commands : List Command) → IsPlaced commands → (e : Enclave) → (facts_after (journal_of commands)).born ≤ e.0 → view_of (facts_after (journal_of commands)) e ≡ unborn_view (facts_after (journal_of commands)).pool e
  pub plain : (commands : List Command) → IsPlaced commands → (e : Enclave) → is_guest (view_of (facts_after (journal_of commands)) e).core.kind ≡ false
  pub seen : (commands : List Command) (one : Command) → IsPlaced (commands ++ one ∷ []) → (e : Enclave) → is_living_enclave ((facts_after (journal_of (commands ++ one ∷ []))).enclave e.0) ≡ true
      → view_of (facts_after (journal_of (commands ++ one ∷ []))) e
      ≡ seen_lines (after_line (facts_after (journal_of commands)) (lines.Do one)) (view_of (facts_after (journal_of commands)) e) (command_lines (facts_after (journal_of commands)) one)
  pub handled : (commands : List Command) → IsPlaced commands → (x y : Enclave) (n : ℕ) → IsTaking (facts_after (journal_of commands)) x y n
      → AreHandled (after_line (facts_after (journal_of commands)) (lines.Took x y n)) x y

-- a settle is made of deliveries
pub record SettleLaws : Type 0 where
  pub placed : (before : List Command) (x y : Enclave) → IsPlaced before → first_waiting (facts_after (journal_of before)) ≡ Some (x, y)
      → IsPlaced (before ++ commands.Deliver x y (next_rest (facts_after (journal_of before)) x y) ∷ [])
  pub lines : (before : List Command) (x y : Enclave) → IsPlaced before → first_waiting (facts_after (journal_of before)) ≡ Some (x, y)
      → command_lines (facts_after (journal_of before)) (commands.Deliver x y (next_rest (facts_after (journal_of before)) x y))
      ≡ deliver_lines (facts_after (journal_of before)) x y (next_rest (facts_after (journal_of before)) x y)
  pub ends : (before : List Command) (most : ℕ) → IsPlaced before
      → EndsSettle most (command_lines (facts_after (journal_of before)) (commands.Settle most)) (facts_after (journal_of (before ++ commands.Settle most ∷ [])))

-- what a link has once bytes are sent or taken
pub record LinkLaws : Type 0 where
  pub send : (c : Channel) (bytes : List ℕ) → waiting_bytes (sent c bytes) ≡ waiting_bytes c ++ bytes
  pub take : (c : Channel) (n : ℕ) → waiting_bytes (taken c n) ≡ drop n (waiting_bytes c)
  pub sent : (c : Channel) (records : List (List ℕ)) (gone : ℕ) (bytes : List ℕ) → gone ≤ length (concat records) → 0 < length bytes → c.pieces ≡ left_of records gone → (sent c bytes).pieces ≡ left_of (records ++ bytes ∷ []) gone
  pub taken : (c : Channel) (records : List (List ℕ)) (gone n : ℕ) → c.pieces ≡ left_of records gone → (taken c n).pieces ≡ left_of records (gone + n)

-- which channel goes from one enclave to another
pub record HopLaws : Type 0 where
  pub up : (pairs : List Pair) (known : Bool) (x y : Enclave) (i : ℕ) → hop_of pairs known x y ≡ hops.Up i → IsPairAt pairs i x.0 y.0
  pub down : (pairs : List Pair) (known : Bool) (x y : Enclave) (i : ℕ) → hop_of pairs known x y ≡ hops.Down i → IsPairAt pairs i y.0 x.0
  pub to_up : (pairs : List Pair) (x y : Enclave) (i : ℕ) → IsPairAt pairs i x.0 y.0 → hop_of pairs true x y ≡ hops.Up i
  pub to_down : (pairs : List Pair) (x y : Enclave) (i : ℕ) → AreAbove pairs → IsPairAt pairs i y.0 x.0 → hop_of pairs true x y ≡ hops.Down i

-- all of them, and what holds of the journal of commands and of a table after a change
pub record WorldLaws : Type 0 where
  pub commands : (commands : List Command) → do_commands (journal_of commands) ≡ commands
  pub carried : (commands : List Command) → IsPlaced commands → IsCarried (journal_of commands)
  pub flowing : (commands : List Command) → IsPlaced commands → IsFlowing (facts_after (journal_of commands))
  pub journal : (commands : List Command) (command : Command) → journal_of (commands ++ command ∷ []) ≡ journal_of commands ++ step_lines (facts_after (journal_of commands)) command
  pub facts : (journal lines : List Line) → facts_after (journal ++ lines) ≡ after_lines (facts_after journal) lines
  pub past : (journal past : List Line) → facts_at (onto journal past) ≡ after_lines (facts_at past) journal
  pub put : (table : List (ℕ × Decoding)) (k q : ℕ) (v : Decoding) → at (put table k v) q ≡ (if k == q then Some v else at table q)
  pub wire : WireLaws
  pub links : LinkLaws
  pub hops : HopLaws
  pub views : ViewLaws
  pub settles : SettleLaws
