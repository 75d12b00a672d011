-- The lines of a command but its `do` line: they begin no command, and have a spelling, but for the records that they send.
use Rattle.std.proofs.Common.{◌≡◌, List, [], ◌∷◌, ◌++◌, drop, Option, None, Some, refl, ap, ◌∙◌}
use Rattle.std.specs.Option.{option_map_or}
use Rattle.xm_num.specs.declared.Enclave.{Enclave}
use Rattle.xm_num.specs.declared.Pid.{Pid}
use Rattle.xm_num.specs.declared.Vpn.{Vpn}
use Rattle.xm_num.specs.declared.Cause.{Cause}
use Rattle.xemem_language.specs.declared.command.Command.{Command}
use Rattle.xemem_language.specs.declared.command.Command.TheVariants as commands
use Rattle.xemem_language.specs.declared.line.Line.{Line}
use Rattle.xemem_language.specs.declared.line.Line.TheVariants as lines
use Rattle.global_model.specs.Facts.{Facts, after_line, after_lines}
use Rattle.global_model.specs.Space.{Mapping}
use Rattle.global_model.specs.Views.{view_of}
use Rattle.enclave_rules.specs.Segments.{make_acts, name_rows, remove_acts}
use Rattle.enclave_rules.specs.Steps.{route_lines}
use Rattle.global_model.specs.Refusals.{refusal_of}
use Rattle.global_model.specs.Due.{next_enclave, touched_lines, acts_of, command_lines, step_lines, journal_from}
use Rattle.global_model.specs.Plain.{IsPlain, ArePlain, IsAct, AreActs, IsQuiet, BearsOne}
use Rattle.global_model.specs.Journals.{do_commands}
use Rattle.global_model.proofs.Pasts.{do_commands-append}
use Rattle.global_model.proofs.Plain.{each-weaker, plain_host, plain_deliver, plain_settle, plain_routes, plain_show, plain_birth, plain_pool, plain_names, plain_make, plain_remove}

act_plain : (line : Line) → IsPlain line → IsAct line
act_plain (lines.Refused cause) plain = tt
act_plain (lines.Born e kind parent ns blocks) plain = tt
act_plain (lines.Alloc e p at frames) plain = tt
act_plain (lines.Touched e p page frame) plain = tt
act_plain _ plain = plain

acts_plain : (ls : List Line) → ArePlain ls → AreActs ls
acts_plain = each-weaker IsPlain IsAct act_plain

acts_touched : (e : Enclave) (p : Pid) (page : Vpn) (mapping : Option Mapping) → AreActs (touched_lines e p page mapping)
acts_touched e p page None = tt
acts_touched e p page (Some found) = (tt, tt)

acts_of-acts : (G : Facts) (command : Command) → AreActs (acts_of G command)
acts_of-acts G (commands.Host blocks ns) = (tt, acts_plain _ (plain_host ns))
acts_of-acts G (commands.Proc e uid gid) = (tt, tt)
acts_of-acts G (commands.Alloc e p at pages) = (tt, tt)
acts_of-acts G (commands.Touch e p addr want) = acts_touched e p _ _
acts_of-acts G (commands.Boot kind parent blocks ns) =
    (tt, acts_plain _ (plain_birth (next_enclave G) parent ns (G.heard parent.0) (view_of G parent)))
acts_of-acts G (commands.Deliver x y count) = acts_plain _ (plain_deliver G x y count)
acts_of-acts G (commands.Settle most) = acts_plain _ (plain_settle most 0 G)
acts_of-acts G (commands.ShowRoutes e) = acts_plain (route_lines (view_of G e)) (plain_routes (view_of G e))
acts_of-acts G (commands.ShowLink x y) = acts_plain _ (plain_show G x y)
acts_of-acts G (commands.Make e p addr size mode) = acts_plain (make_acts G.hand (view_of G e) p) (plain_make G.hand (view_of G e) p)
acts_of-acts G (commands.Remove e p segid) = acts_plain (remove_acts (view_of G e) segid) (plain_remove (view_of G e) segid)
acts_of-acts G commands.ShowNames = acts_plain (name_rows (G.names G.holder.0).pairs) (plain_names (G.names G.holder.0).pairs)
acts_of-acts G commands.ShowPool = acts_plain _ (plain_pool G)
acts_of-acts G _ = tt

refused_or_acts : (cause : Option Cause) (acts : List Line) → AreActs acts
    → AreActs (option_map_or (λ c. lines.Refused c ∷ []) cause acts)
refused_or_acts None acts h = h
refused_or_acts (Some c) acts h = (tt, tt)

pub command_lines-acts : (G : Facts) (command : Command) → AreActs (command_lines G command)
command_lines-acts G command =
    let H = after_line G (lines.Do command) in
    refused_or_acts (refusal_of G command) (acts_of H command) (acts_of-acts H command)

-- ---- the commands of a journal

do_commands-act : (line : Line) (ls : List Line) → IsAct line → do_commands (line ∷ ls) ≡ do_commands ls
do_commands-act (lines.Do command) ls act = absurd act
do_commands-act _ ls act = refl

do_commands-acts : (ls : List Line) → AreActs ls → do_commands ls ≡ []
do_commands-acts [] acts = refl
do_commands-acts (line ∷ ls) acts = do_commands-act line ls acts.0 ∙ do_commands-acts ls acts.1

pub do_commands-journal : (G : Facts) (cs : List Command) → do_commands (journal_from G cs) ≡ cs
do_commands-journal G [] = refl
do_commands-journal G (c ∷ cs) =
    let H = after_lines G (step_lines G c) in
    ap (λ ds. c ∷ ds) (do_commands-append (command_lines G c) (journal_from H cs) ∙ ap (λ ds. ds ++ do_commands (journal_from H cs)) (do_commands-acts (command_lines G c) (command_lines-acts G c)) ∙ do_commands-journal H cs)

-- ---- plain lines

pub quiet_plain : (G : Facts) (command : Command) → IsQuiet command → ArePlain (acts_of G command)
quiet_plain G (commands.Host blocks ns) quiet = absurd quiet
quiet_plain G (commands.Boot kind parent blocks ns) quiet = absurd quiet
quiet_plain G (commands.Alloc e p at pages) quiet = absurd quiet
quiet_plain G (commands.Touch e p addr want) quiet = absurd quiet
quiet_plain G (commands.Proc e uid gid) quiet = (tt, tt)
quiet_plain G (commands.Deliver x y count) quiet = plain_deliver G x y count
quiet_plain G (commands.Settle most) quiet = plain_settle most 0 G
quiet_plain G (commands.ShowRoutes e) quiet = plain_routes (view_of G e)
quiet_plain G (commands.ShowLink x y) quiet = plain_show G x y
quiet_plain G (commands.Make e p addr size mode) quiet = plain_make G.hand (view_of G e) p
quiet_plain G (commands.Remove e p segid) quiet = plain_remove (view_of G e) segid
quiet_plain G commands.ShowNames quiet = plain_names (G.names G.holder.0).pairs
quiet_plain G commands.ShowPool quiet = plain_pool G
quiet_plain G _ quiet = tt

pub behind_plain : (G : Facts) (command : Command) → BearsOne command → ArePlain (drop 1 (acts_of G command))
behind_plain G (commands.Host blocks ns) birth = plain_host ns
behind_plain G (commands.Boot kind parent blocks ns) birth = plain_birth (next_enclave G) parent ns (G.heard parent.0) (view_of G parent)
behind_plain G _ birth = absurd birth
