-- Which node the lines of a command are by, and how many words they add to those of each node.
use Rattle.std.proofs.Common.{◌≡◌, ◌+◌, ◌≤◌, ℕ, List, [], ◌∷◌, ◌++◌, length, Bool, true, false, cond, eqb, Some, refl, ap, ◌∙◌, arith}
use Rattle.xm_num.specs.declared.Enclave.{Enclave}
use Rattle.xm_num.specs.declared.Kind.{Kind}
use Rattle.xm_num.specs.declared.Block.{Block}
use Rattle.xm_num.specs.declared.Cause.{Cause}
use Rattle.xm_num.specs.declared.Cause.TheVariants as causes
use Rattle.xemem_language.specs.declared.record.Record.{Record}
use Rattle.xemem_language.specs.declared.command.Command.{Command}
use Rattle.xemem_language.specs.declared.call.ProcessCall.{ProcessCall}
use Rattle.xemem_language.specs.Calls.{call_of}
use Rattle.enclave_rules.specs.Calls.{IsOwnCause, AreCallLines}
use Rattle.xemem_language.specs.declared.line.Line.{Line}
use Rattle.xemem_language.specs.declared.line.Line.TheVariants as lines
use Rattle.xemem_language.specs.Spelling.{line_words, words_in}
use Rattle.global_model.specs.Facts.{facts_at}
use Rattle.global_model.specs.Journals.{command_at, onto}
use Rattle.enclave_rules.specs.Core.{host}
use Rattle.enclave_rules.specs.Sending.{knows_way}
use Rattle.enclave_rules.specs.View.{View, AreOf}
use Rattle.enclave_rules.specs.Steps.{host_lines, told_lines, child_lines, birth_lines, query_of, adopt_lines, lines_of_records}
use Rattle.node_world.specs.Appended.{is_unborn, refuses, is_appended, is_by, words_by}
use Rattle.node_world.proofs.Lists.{cond_case}
use Rattle.node_world.proofs.Stills.{IsStill, AreStill}
use Rattle.node_world.proofs.Words.{onto-append}
use Rattle.node_world.specs.Laws.{ViewLaws}

-- ---- whose a line is

-- who holds the name server behind a line, and behind lines
abbrev pub holder_behind : Enclave → Line → Enclave
holder_behind holder (lines.Born child kind parent ns blocks) = cond ns child holder
holder_behind holder line = holder

abbrev pub holder_past : Enclave → List Line → Enclave
holder_past holder [] = holder
holder_past holder (line ∷ ls) = holder_past (holder_behind holder line) ls

holder_line : (past : List Line) (line : Line) → (facts_at (line ∷ past)).holder ≡ holder_behind (facts_at past).holder line
holder_line past (lines.Born child kind parent ns blocks) = refl
holder_line past _ = refl

holder_lines : (ls past : List Line) → (facts_at (onto ls past)).holder ≡ holder_past (facts_at past).holder ls
holder_lines [] past = refl
holder_lines (line ∷ ls) past = holder_lines ls (line ∷ past) ∙ ap (λ e. holder_past e ls) (holder_line past line)

-- the line, which isn't a `do` line, is by those enclaves where c is the command at hand, and the name server lies there
abbrev pub IsBy : Command → Enclave → (ℕ → Bool) → Line → Type 0
IsBy c holder whose (lines.Do command) = ⊥
IsBy c holder whose line = (e : ℕ) → is_appended holder (Some c) e line ≡ whose e

abbrev pub AreBy : Command → Enclave → (ℕ → Bool) → List Line → Type 0
AreBy c holder whose [] = Unit {0}
AreBy c holder whose (line ∷ journal) = IsBy c holder whose line × AreBy c (holder_behind holder line) whose journal

-- no enclave
abbrev pub nobody : ℕ → Bool
nobody e = false

-- that enclave alone
abbrev pub only : Enclave → ℕ → Bool
only of e = eqb of.0 e

by_append : (c : Command) (holder : Enclave) (whose : ℕ → Bool) (ls ms : List Line) → AreBy c holder whose ls → ((later : Enclave) → AreBy c later whose ms) → AreBy c holder whose (ls ++ ms)
by_append c holder whose [] ms first more = more holder
by_append c holder whose (line ∷ ls) ms first more = (first.0, by_append c (holder_behind holder line) whose ls ms first.1 more)

-- the same behind any past at which the command is at hand, and the name server lies there
by_past : (c : Command) (holder : Enclave) (whose : ℕ → Bool) (line : Line) (past : List Line) → IsBy c holder whose line → command_at past ≡ Some c → (facts_at past).holder ≡ holder → (e : ℕ) → is_by e past line ≡ whose e
by_past c holder whose (lines.Do command) past by at held e = absurd by
by_past c holder whose line past by at held e = ap (λ h. is_appended h (command_at past) e line) held ∙ ap (λ o. is_appended holder o e line) at ∙ by e

still_at : (c : Command) (holder : Enclave) (whose : ℕ → Bool) (line : Line) (past : List Line) → IsBy c holder whose line → command_at (line ∷ past) ≡ command_at past
still_at c holder whose (lines.Do command) past by = absurd by
still_at c holder whose _ past by = refl

-- ---- what lines add

-- lines of the command leave it at hand, and add so many words to those of each enclave
pub record Adds (c : Command) (holder : Enclave) (ls : List Line) (gain : ℕ → ℕ) : Type 0 where
  pub hand : (past : List Line) → command_at past ≡ Some c → command_at (onto ls past) ≡ Some c
  pub words : (past : List Line) → command_at past ≡ Some c → (facts_at past).holder ≡ holder → (e : ℕ) → words_by e (onto ls past) ≡ words_by e past + gain e

-- the words of all the lines go to those enclaves
abbrev pub share : (ℕ → Bool) → List Line → ℕ → ℕ
share whose ls e = cond (whose e) (words_in ls) 0

pub adds_append : (c : Command) (holder : Enclave) (ls ms : List Line) (g h : ℕ → ℕ) → Adds c holder ls g → Adds c (holder_past holder ls) ms h → Adds c holder (ls ++ ms) (λ e. g e + h e)
adds_append c holder ls ms g h one two = record {
  hand = λ past at. ap command_at (onto-append ls ms past) ∙ two.hand (onto ls past) (one.hand past at);
  words = λ past at held e.
      let split = ap (words_by e) (onto-append ls ms past) in
      let first = one.words past at held e in
      let more = two.words (onto ls past) (one.hand past at) (holder_lines ls past ∙ ap (λ k. holder_past k ls) held) e in
      omega (arith, split, first, more);
}

pub adds_by : (c : Command) (holder : Enclave) (whose : ℕ → Bool) (ls : List Line) → AreBy c holder whose ls → Adds c holder ls (share whose ls)
adds_by c holder whose ls by = record { hand = λ past at. hand holder ls by past at; words = λ past at held e. words holder ls by past at held e }
  where
    hand : (holder : Enclave) (ls : List Line) → AreBy c holder whose ls → (past : List Line) → command_at past ≡ Some c → command_at (onto ls past) ≡ Some c
    hand holder [] by past at = at
    hand holder (line ∷ ls) by past at = hand (holder_behind holder line) ls by.1 (line ∷ past) (still_at c holder whose line past by.0 ∙ at)

    words : (holder : Enclave) (ls : List Line) → AreBy c holder whose ls → (past : List Line) → command_at past ≡ Some c → (facts_at past).holder ≡ holder → (e : ℕ) → words_by e (onto ls past) ≡ words_by e past + share whose ls e
    words holder [] by past at held e = cond_case (whose e) 0 0 (λ n. words_by e past ≡ words_by e past + n) (omega arith) (omega arith)
    words holder (line ∷ ls) by past at held e =
        let more = words (holder_behind holder line) ls by.1 (line ∷ past) (still_at c holder whose line past by.0 ∙ at) (holder_line past line ∙ ap (λ k. holder_behind k line) held) e in
        more ∙ ap (λ b. cond b (length (line_words line)) 0 + words_by e past + share whose ls e) (by_past c holder whose line past by.0 at held e) ∙ sum (whose e)
      where
        sum : (b : Bool) → cond b (length (line_words line)) 0 + words_by e past + cond b (words_in ls) 0 ≡ words_by e past + cond b (words_in (line ∷ ls)) 0
        sum true = omega arith
        sum false = omega arith

-- an enclave's lines have no more words than all lines
pub few_by : (e : ℕ) (ls past : List Line) → words_by e (onto ls past) ≤ words_by e past + words_in ls
few_by e [] past = omega arith
few_by e (line ∷ ls) past =
    let more = few_by e ls (line ∷ past) in
    let one : cond (is_by e past line) (length (line_words line)) 0 ≤ length (line_words line) = cond_case (is_by e past line) (length (line_words line)) 0 (λ n. n ≤ length (line_words line)) (omega arith) (omega arith) in
    omega (arith, more, one)

-- ---- the lines of the commands

-- lines that change nothing are by no node, where no node refuses the command
pub by_still : (c : Command) → ((e : ℕ) (cause : Cause) → refuses e (Some c) cause ≡ false) → (ls : List Line) → AreStill ls → (holder : Enclave) → AreBy c holder nobody ls
by_still c quiet [] still holder = tt
by_still c quiet (line ∷ ls) still holder = (one line still.0, by_still c quiet ls still.1 (holder_behind holder line))
  where
    one : (line : Line) → IsStill line → IsBy c holder nobody line
    one (lines.Refused cause) still = λ e. quiet e cause
    one (lines.Touched e p page frame) still = λ e. refl
    one (lines.Idle x y) still = λ e. refl
    one (lines.Bytes x y at bytes) still = λ e. refl
    one (lines.AtWayOwn of) still = λ e. refl
    one (lines.AtWayNone of) still = λ e. refl
    one (lines.AtWay of over) still = λ e. refl
    one (lines.AtRoute of d over) still = λ e. refl
    one (lines.BlockFree b) still = λ e. refl
    one (lines.BlockLent b of) still = λ e. refl
    one (lines.BlockHeld b of) still = λ e. refl
    one (lines.Name segid owner) still = λ e. refl
    one _ still = absurd still

by_told : (c : Command) (holder child : Enclave) (heard : List Enclave) → AreBy c holder (only child) (told_lines child heard)
by_told c holder child [] = tt
by_told c holder child (dead ∷ heard) = (λ e. refl, by_told c holder child heard)

pub by_birth : (c : Command) (holder child : Enclave) (kind : Kind) (parent : Enclave) (blocks : List Block) (ns : Bool) (heard : List Enclave) → AreBy c holder (only child) (birth_lines child kind parent blocks ns heard)
by_birth c holder child kind parent blocks ns heard =
    (λ e. refl, by_append c (cond ns child holder) (only child) (told_lines child heard) (child_lines child parent ns) (by_told c (cond ns child holder) child heard) (λ later. by_child later ns))
  where
    by_child : (later : Enclave) (ns : Bool) → AreBy c later (only child) (child_lines child parent ns)
    by_child later true = (λ e. refl, tt)
    by_child later false = (λ e. refl, tt)

pub by_host : (c : Command) (holder : Enclave) (blocks : List Block) (ns : Bool) → AreBy c holder (only host) (host_lines blocks ns)
by_host c holder blocks true = (λ e. refl, (λ e. refl, tt))
by_host c holder blocks false = (λ e. refl, tt)

pub by_adopt : (c : Command) (holder : Enclave) (v : View) (child : Enclave) → AreBy c holder (only v.me) (adopt_lines v child)
by_adopt c holder v child = cond_case (knows_way v) [] (lines.Sent v.me child (query_of v.me) ∷ []) (AreBy c holder (only v.me)) tt (λ e. refl, tt)

-- the lines of records are by the enclave that answers them
by_of : (c : Command) (holder y : Enclave) (ls : List Line) → AreOf holder y ls → AreBy c holder (only y) ls
by_of c holder y [] of = tt
by_of c holder y (lines.Admitted e ∷ ls) of = (λ k. ap (λ a. only a k) of.0, by_of c holder y ls of.1)
by_of c holder y (lines.Asked e by ∷ ls) of = (λ k. ap (λ a. only a k) of.0, by_of c holder y ls of.1)
by_of c holder y (lines.Way e over ∷ ls) of = (λ k. ap (λ a. only a k) of.0, by_of c holder y ls of.1)
by_of c holder y (lines.Drew e call segid ∷ ls) of = (λ k. ap (λ a. only a k) of.0, by_of c holder y ls of.1)
by_of c holder y (lines.Named e call segid ∷ ls) of = (λ k. ap (λ a. only a k) of.0, by_of c holder y ls of.1)
by_of c holder y (lines.Unnamed segid ∷ ls) of = (λ k. ap (λ a. only a k) of.0, by_of c holder y ls of.1)
by_of c holder y (lines.AnswerSegid e p call segid ∷ ls) of = (λ k. ap (λ a. only a k) of.0, by_of c holder y ls of.1)
by_of c holder y (lines.Sent a b r ∷ ls) of = (λ k. ap (λ a. only a k) of.0, by_of c holder y ls of.1)
by_of c holder y (lines.Got a b ∷ ls) of = (λ k. ap (λ a. only a k) of.0, by_of c holder y ls of.1)
by_of c holder y (lines.Dropped e ∷ ls) of = (λ k. ap (λ a. only a k) of.0, by_of c holder y ls of.1)
by_of c holder y (lines.Back e d over ∷ ls) of = (λ k. ap (λ a. only a k) of.0, by_of c holder y ls of.1)
by_of c holder y (lines.Route e d over ∷ ls) of = (λ k. ap (λ a. only a k) of.0, by_of c holder y ls of.1)
by_of c holder y (_ ∷ ls) of = absurd of.0

pub by_records : ViewLaws → (c : Command) (holder : Enclave) (v : View) (x : Enclave) (rs : List Record) → (v.core.holder ≡ true → holder ≡ v.me) → AreBy c holder (only v.me) (lines_of_records v x rs)
by_records views c holder v x rs holds = by_of c holder v.me (lines_of_records v x rs) (views.of holder v x rs holds)

own_cause : (cause : Cause) → IsOwnCause cause → is_unborn cause ≡ false
own_cause causes.NoEnclave own = absurd own
own_cause _ own = refl

-- an enclave answers the calls of its own processes
pub by_call : (c : Command) (k : ProcessCall) → call_of c ≡ Some k → (holder : Enclave) (ls : List Line) → AreCallLines holder k.enclave ls → AreBy c holder (only k.enclave) ls
by_call c k is holder [] own = tt
by_call c k is holder (lines.Refused cause ∷ ls) own = (λ e. rw (is, own_cause cause own.0) refl, by_call c k is holder ls own.1)
by_call c k is holder (lines.Alloc of p page frames ∷ ls) own = (λ e. ap (λ a. only a e) own.0, by_call c k is holder ls own.1)
by_call c k is holder (lines.Issue of p call ∷ ls) own = (λ e. ap (λ a. only a e) own.0, by_call c k is holder ls own.1)
by_call c k is holder (lines.Drew of call segid ∷ ls) own = (λ e. ap (λ a. only a e) own.0, by_call c k is holder ls own.1)
by_call c k is holder (lines.Named of call segid ∷ ls) own = (λ e. ap (λ a. only a e) own.0, by_call c k is holder ls own.1)
by_call c k is holder (lines.Unnamed segid ∷ ls) own = (λ e. ap (λ a. only a e) own.0, by_call c k is holder ls own.1)
by_call c k is holder (lines.Remove of segid ∷ ls) own = (λ e. ap (λ a. only a e) own.0, by_call c k is holder ls own.1)
by_call c k is holder (lines.AnswerSegid of p call segid ∷ ls) own = (λ e. ap (λ a. only a e) own.0, by_call c k is holder ls own.1)
by_call c k is holder (lines.Sent a b r ∷ ls) own = (λ e. ap (λ a. only a e) own.0, by_call c k is holder ls own.1)
by_call c k is holder (lines.Dropped of ∷ ls) own = (λ e. ap (λ a. only a e) own.0, by_call c k is holder ls own.1)
by_call c k is holder (_ ∷ ls) own = absurd own.0
