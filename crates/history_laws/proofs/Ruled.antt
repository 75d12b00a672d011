-- Which lines are refusals, and what touches find, by the rules alone.
use Rattle.std.proofs.Common.{◌≡◌, ◌/◌, ℕ, List, [], ◌∷◌, Bool, true, false, not, Option, None, Some, refl, sym, ap, ◌∙◌, subst}
use Rattle.std.specs.Prelude.{is_none}
use Rattle.std.specs.Option.{option_map_or}
use Rattle.xm_num.specs.declared.Enclave.{Enclave}
use Rattle.xm_num.specs.declared.Pid.{Pid}
use Rattle.xm_num.specs.declared.Want.{Want}
use Rattle.xm_num.specs.declared.Cause.{Cause}
use Rattle.xm_num.specs.declared.Cause.TheVariants as causes
use Rattle.xemem_language.specs.declared.command.Command.{Command}
use Rattle.xemem_language.specs.declared.command.Command.TheVariants as commands
use Rattle.xemem_language.specs.declared.line.Line.{Line}
use Rattle.xemem_language.specs.declared.line.Line.TheVariants as lines
use Rattle.enclave_rules.specs.Pages.{allows}
use Rattle.global_model.specs.Facts.{Facts, is_living_enclave, runs, after_lines, facts_at}
use Rattle.global_model.specs.Space.{Mapping, space_of}
use Rattle.global_model.specs.Refusals.{when, denies, refusal_of}
use Rattle.global_model.specs.Due.{touched_lines, acts_of, step_lines, journal_from}
use Rattle.global_model.specs.Journals.{Follows, onto}
use Rattle.global_model.specs.Plain.{IsPlain, ArePlain}
use Rattle.history_laws.specs.Lawful.{LawfulAct, LawfulRefusal, cause_of}
use Rattle.history_laws.specs.Laws.{HistoryLaws}
use Rattle.history_laws.proofs.Follow.{Follows-append}

-- ---- one command

-- the line touches and refuses as it may
pub record IsRuledAt (past : List Line) (line : Line) : Type 0 where
  pub act : LawfulAct past line
  pub refusal : LawfulRefusal past line

-- a line that is no refusal may come
abbrev pub IsClosed : List Line → Type 0
IsClosed past = (line : Line) → cause_of line ≡ None → LawfulRefusal past line

pub record IsRuledUpTo (past journal : List Line) : Type 0 where
  pub ruled : Follows IsRuledAt past journal
  pub closed : IsClosed (onto journal past)

plain_ruled : (line : Line) (past : List Line) → IsClosed past → IsPlain line → IsRuledAt past line
plain_ruled (lines.Do c) past closed plain = absurd plain
plain_ruled (lines.Refused cause) past closed plain = absurd plain
plain_ruled (lines.Born e kind parent ns blocks) past closed plain = absurd plain
plain_ruled (lines.Alloc e p at frames) past closed plain = absurd plain
plain_ruled (lines.Touched e p page frame) past closed plain = absurd plain
plain_ruled line past closed plain = record { act = tt; refusal = closed line refl }

plain_closed : (line : Line) (past : List Line) → IsPlain line → IsClosed (line ∷ past)
plain_closed (lines.Do c) past plain = absurd plain
plain_closed line past plain = λ next h. h

ruled_plain : (ls past : List Line) → IsClosed past → ArePlain ls → IsRuledUpTo past ls
ruled_plain [] past closed plain = record { ruled = tt; closed = closed }
ruled_plain (l ∷ ls) past closed plain =
    let more = ruled_plain ls (l ∷ past) (plain_closed l past plain.0) plain.1 in
    record { ruled = (plain_ruled l past closed plain.0, more.ruled); closed = more.closed }

-- a command whose acts are ruled where it isn't refused
with_refusal : (c : Command) (past : List Line) → IsClosed past
    → (refusal_of (facts_at past) c ≡ None → IsRuledUpTo (lines.Do c ∷ past) (acts_of (facts_at (lines.Do c ∷ past)) c))
    → IsRuledUpTo past (step_lines (facts_at past) c)
with_refusal c past closed acts = by (refusal_of (facts_at past) c) refl
  where
    by : (o : Option Cause) → refusal_of (facts_at past) c ≡ o
        → IsRuledUpTo past (lines.Do c ∷ option_map_or (λ cause. lines.Refused cause ∷ []) o (acts_of (facts_at (lines.Do c ∷ past)) c))
    by None is = let more = acts is in record { ruled = (record { act = tt; refusal = closed (lines.Do c) refl }, more.ruled); closed = more.closed }
    by (Some cause) is = record {
      ruled = (record { act = tt; refusal = closed (lines.Do c) refl }, (record { act = tt; refusal = sym is }, tt));
      closed = λ line h. h;
    }

-- a line that is no refusal, and plain ones behind it
ruled_first : (c : Command) (past : List Line) (line : Line) (more : List Line) → refusal_of (facts_at past) c ≡ None → cause_of line ≡ None
    → LawfulAct (lines.Do c ∷ past) line → IsClosed (line ∷ lines.Do c ∷ past) → ArePlain more → IsRuledUpTo (lines.Do c ∷ past) (line ∷ more)
ruled_first c past line more none fine act closed plain =
    let rest = ruled_plain more (line ∷ lines.Do c ∷ past) closed plain in
    record { ruled = (record { act = act; refusal = fine ∙ sym none }, rest.ruled); closed = rest.closed }

-- a command whose acts are plain
ruled_quiet : (c : Command) (past : List Line) → IsClosed past → ArePlain (acts_of (facts_at (lines.Do c ∷ past)) c) → IsRuledUpTo past (step_lines (facts_at past) c)
ruled_quiet c past closed plain = with_refusal c past closed (λ none. ruled_plain _ (lines.Do c ∷ past) (λ line h. h ∙ sym none) plain)

not_false : (b : Bool) → not b ≡ false → b ≡ true
not_false true is = refl
not_false false is = cc

-- the mapping of a touched page allows what was wanted
touch_allowed : HistoryLaws → (G : Facts) (e : Enclave) (p : Pid) (addr : ℕ) (want : Want) (m : Mapping)
    → refusal_of G (commands.Touch e p addr want) ≡ None → space_of G e.0 p.0 (addr / 4096) ≡ Some m → allows m.access want ≡ true
touch_allowed laws G e p addr want m none is =
    let found = space_of G e.0 p.0 (addr / 4096) in
    let fourth = when causes.Denied (denies want found) ∷ [] in
    let third = when causes.NotMapped (is_none found) ∷ fourth in
    let second = when causes.NoProcess (not (runs G e.0 p.0)) ∷ third in
    let one = laws.act.unmet causes.NoEnclave (not (is_living_enclave (G.enclave e.0))) second none in
    let two = laws.act.unmet causes.NoProcess (not (runs G e.0 p.0)) third one.1 in
    let three = laws.act.unmet causes.NotMapped (is_none found) fourth two.1 in
    let four = laws.act.unmet causes.Denied (denies want found) [] three.1 in
    not_false (allows m.access want) (ap (denies want) (sym is) ∙ four.0)

ruled_touch : HistoryLaws → (e : Enclave) (p : Pid) (addr : ℕ) (want : Want) (past : List Line) → IsClosed past
    → IsRuledUpTo past (step_lines (facts_at past) (commands.Touch e p addr want))
ruled_touch laws e p addr want past closed =
    with_refusal (commands.Touch e p addr want) past closed (λ none. by none (space_of (facts_at past) e.0 p.0 (addr / 4096)) refl)
  where
    by : refusal_of (facts_at past) (commands.Touch e p addr want) ≡ None → (o : Option Mapping)
        → space_of (facts_at past) e.0 p.0 (addr / 4096) ≡ o
        → IsRuledUpTo (lines.Do (commands.Touch e p addr want) ∷ past) (touched_lines e p (record { 0 = addr / 4096 }) o)
    by none None is = record { ruled = tt; closed = λ line h. h ∙ sym none }
    by none (Some m) is = record {
      ruled = (record { act = (m.access, is, touch_allowed laws (facts_at past) e p addr want m none is); refusal = sym none }, tt);
      closed = λ line h. h;
    }

ruled_step : HistoryLaws → (c : Command) (past : List Line) → IsClosed past → IsRuledUpTo past (step_lines (facts_at past) c)
ruled_step laws (commands.Host blocks ns) past closed =
    let c = commands.Host blocks ns in
    with_refusal c past closed (λ none. ruled_first c past _ _ none refl tt (λ line h. h) (laws.act.behind (facts_at (lines.Do c ∷ past)) c tt))
ruled_step laws (commands.Boot kind parent blocks ns) past closed =
    let c = commands.Boot kind parent blocks ns in
    with_refusal c past closed (λ none. ruled_first c past _ _ none refl tt (λ line h. h) (laws.act.behind (facts_at (lines.Do c ∷ past)) c tt))
ruled_step laws (commands.Alloc e p at pages) past closed =
    let c = commands.Alloc e p at pages in with_refusal c past closed (λ none. ruled_first c past _ _ none refl tt (λ line h. h) tt)
ruled_step laws (commands.Touch e p addr want) past closed = ruled_touch laws e p addr want past closed
ruled_step laws c past closed = ruled_quiet c past closed (laws.act.quiet (facts_at (lines.Do c ∷ past)) c tt)

pub ruled_journal : HistoryLaws → (cs : List Command) (past : List Line) → IsClosed past → Follows IsRuledAt past (journal_from (facts_at past) cs)
ruled_journal laws [] past closed = tt
ruled_journal laws (c ∷ cs) past closed =
    let G = facts_at past in
    let ls = step_lines G c in
    let one : IsRuledUpTo past ls = ruled_step laws c past closed in
    let facts : facts_at (onto ls past) ≡ after_lines G ls = laws.past.facts ls past in
    Follows-append IsRuledAt ls (journal_from (after_lines G ls) cs) past one.ruled
    (subst (λ H. Follows IsRuledAt (onto ls past) (journal_from H cs)) facts (ruled_journal laws cs (onto ls past) one.closed))
