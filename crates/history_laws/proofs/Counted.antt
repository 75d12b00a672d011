-- What the facts count is what stands in the past.
use Rattle.std.proofs.Common.{◌≡◌, ◌+◌, ◌<◌, ◌≤◌, ℕ, List, [], ◌∷◌, length, map, filter, Bool, true, false, not, ◌&&◌, ◌||◌, cond, eqb, leb, ltb, Option, None, Some, refl, sym, ap, ◌∙◌, subst, arith}
use Rattle.std.proofs.lemmas.Bool.{and_parts, eqb-true, leb-false, leb-true}
use Rattle.xm_num.specs.declared.Cause.{Cause}
use Rattle.xm_num.specs.declared.Cause.TheVariants as causes
use Rattle.xm_num.specs.declared.Enclave.{Enclave}
use Rattle.xm_num.specs.declared.Kind.{Kind}
use Rattle.xemem_language.specs.declared.command.Command.TheVariants as commands
use Rattle.xemem_language.specs.declared.line.Line.{Line}
use Rattle.xemem_language.specs.declared.line.Line.TheVariants as lines
use Rattle.std.specs.Option.{option_map_or}
use Rattle.xm_num.specs.declared.Frame.{Frame}
use Rattle.xm_num.specs.Rows.{at, put}
use Rattle.attach_map.specs.Attaching.{ProcessState, AttacherState}
use Rattle.enclave_rules.specs.Memory.{new_process, with_answered, with_granted, with_released, with_issued, with_pages, with_process}
use Rattle.global_model.specs.Facts.{facts_at, at_number, fact_of, is_living_enclave}
use Rattle.enclave_rules.specs.Core.{local_frame}
use Rattle.global_model.specs.Refusals.{first_cause, when}
use Rattle.global_model.specs.Space.{blocks_left}
use Rattle.history_laws.specs.Counts.{LimitedAt, LimitedBoot, LimitedStart, IsLimited, births_in, starts_in, starts_by, starts_at, has_server}
use Rattle.history_laws.specs.History.{IsLegal}
use Rattle.history_laws.specs.Lawful.{IsLegalAt}
use Rattle.history_laws.proofs.Follow.{Follows-weaker}

pub births_counted : (past : List Line) → (facts_at past).born ≡ births_in past
births_counted [] = refl
births_counted (lines.Born e kind parent ns blocks ∷ past) = let more = births_counted past in omega (arith, more)
births_counted (_ ∷ past) = births_counted past

pub starts_counted : (past : List Line) → (facts_at past).starts ≡ starts_in past
starts_counted [] = refl
starts_counted (lines.Proc e p uid gid ∷ past) = let more = starts_counted past in omega (arith, more)
starts_counted (_ ∷ past) = starts_counted past

or_turned : (a b : Bool) → (a || b) ≡ (b || a)
or_turned true true = refl
or_turned true false = refl
or_turned false true = refl
or_turned false false = refl

pub server_counted : (past : List Line) → (facts_at past).server ≡ has_server past
server_counted [] = refl
server_counted (lines.Born e kind parent ns blocks ∷ past) = or_turned (facts_at past).server ns ∙ ap (λ held. ns || held) (server_counted past)
server_counted (_ ∷ past) = server_counted past

-- the number that was started, in one part of an enclave
started_stays : (memory : ℕ → AttacherState) (of : ℕ) (m : AttacherState) (e : ℕ) → m.started ≡ (memory of).started → (at_number of m memory e).started ≡ (memory e).started
started_stays memory of m e same = by (eqb e of) refl
  where
    by : (b : Bool) → eqb e of ≡ b → (cond b m (memory e)).started ≡ (memory e).started
    by true here = same ∙ ap (λ n. (memory n).started) (sym (eqb-true e of here))
    by false other = refl

pages_start : (p page : ℕ) (frames : List Frame) (m : AttacherState) → (with_process p (with_pages page frames) m).started ≡ m.started
pages_start p page frames m = by (at m.processes p)
  where
    by : (found : Option ProcessState) → (option_map_or (λ process. record m { processes = put m.processes p (with_pages page frames process) }) found m).started ≡ m.started
    by None = refl
    by (Some process) = refl

pub started_counted : (e : ℕ) (past : List Line) → ((facts_at past).memory e).started ≡ starts_by e past
started_counted e [] = refl
started_counted e (lines.Proc of p uid gid ∷ past) = by (eqb e of.0) refl (started_counted e past)
  where
    memory : ℕ → AttacherState
    memory = (facts_at past).memory

    by : (b : Bool) → eqb e of.0 ≡ b → (memory e).started ≡ starts_by e past
        → (cond b (record (memory of.0) { started = (memory of.0).started + 1; processes = put (memory of.0).processes p.0 (new_process uid gid) }) (memory e)).started
        ≡ length (cond b (lines.Proc of p uid gid ∷ filter (starts_at e) past) (filter (starts_at e) past))
    by true is more = let same : (memory of.0).started ≡ (memory e).started = ap (λ n. (memory n).started) (sym (eqb-true e of.0 is)) in
        omega (arith, more, same)
    by false is more = more
started_counted e (lines.Alloc of p page frames ∷ past) =
    let fact = fact_of ((facts_at past).enclave of.0) in
    let local = map (local_frame fact.kind fact.blocks) frames in
    let m = (facts_at past).memory of.0 in
    started_stays (facts_at past).memory of.0 (with_process p.0 (with_pages page.0 local) m) e (pages_start p.0 page.0 local m) ∙ started_counted e past
started_counted e (lines.Issue of p call ∷ past) =
    let m = (facts_at past).memory of.0 in started_stays (facts_at past).memory of.0 (with_issued p call m) e refl ∙ started_counted e past
started_counted e (lines.AnswerSegid of p call segid ∷ past) =
    let m = (facts_at past).memory of.0 in started_stays (facts_at past).memory of.0 (with_answered call m) e refl ∙ started_counted e past
started_counted e (lines.AnswerApid of p call apid pages ∷ past) =
    let m = (facts_at past).memory of.0 in started_stays (facts_at past).memory of.0 (with_granted call pages m) e refl ∙ started_counted e past
started_counted e (lines.AnswerRefused of p call cause ∷ past) =
    let m = (facts_at past).memory of.0 in started_stays (facts_at past).memory of.0 (with_answered call m) e refl ∙ started_counted e past
started_counted e (lines.Release of call ∷ past) =
    let m = (facts_at past).memory of.0 in started_stays (facts_at past).memory of.0 (with_released call m) e refl ∙ started_counted e past
started_counted e (_ ∷ past) = started_counted e past

-- ---- boots and starts

-- the conditions of a boot, in their order
abbrev boot_cause : Bool → Bool → Bool → Bool → Option Cause
boot_cause gone many taken few =
    first_cause (when causes.NoEnclave gone ∷ when causes.TooMany many ∷ when causes.NameServerTaken taken ∷ when causes.NoBlocks few ∷ [])

boot_many : (gone many taken few : Bool) → Some causes.TooMany ≡ boot_cause gone many taken few → many ≡ true
boot_many true many taken few is = cc
boot_many false true taken few is = refl
boot_many false false true few is = cc
boot_many false false false true is = cc
boot_many false false false false is = cc

boot_taken : (gone many taken few : Bool) → Some causes.NameServerTaken ≡ boot_cause gone many taken few → taken ≡ true
boot_taken true many taken few is = cc
boot_taken false true taken few is = cc
boot_taken false false true few is = refl
boot_taken false false false true is = cc
boot_taken false false false false is = cc

boot_free : (gone many taken few : Bool) → None ≡ boot_cause gone many taken few → (many ≡ false) × (taken ≡ false)
boot_free true many taken few is = cc
boot_free false true taken few is = cc
boot_free false false true few is = cc
boot_free false false false few is = (refl, refl)

-- and those of a start
abbrev start_cause : Bool → Bool → Option Cause
start_cause gone many = first_cause (when causes.NoEnclave gone ∷ when causes.TooMany many ∷ [])

start_many : (gone many : Bool) → Some causes.TooMany ≡ start_cause gone many → many ≡ true
start_many true many is = cc
start_many false true is = refl
start_many false false is = cc

start_free : (gone many : Bool) → None ≡ start_cause gone many → many ≡ false
start_free true many is = cc
start_free false true is = cc
start_free false false is = refl

limited_boot : (past : List Line) (kind : Kind) (parent : Enclave) (blocks : ℕ) (ns : Bool) (line : Line)
    → IsLegalAt (lines.Do (commands.Boot kind parent blocks ns) ∷ past) line → LimitedBoot past ns line
limited_boot past kind parent blocks ns (lines.Refused causes.TooMany) legal =
    let G = facts_at past in
    let many = boot_many (not (is_living_enclave (G.enclave parent.0))) (leb 256 G.born) (ns && G.server) (ltb (length (blocks_left G)) blocks) legal.refusal in
    subst (λ n. 256 ≤ n) (births_counted past) (leb-true 256 G.born many)
limited_boot past kind parent blocks ns (lines.Refused causes.NameServerTaken) legal =
    let G = facts_at past in
    let taken = boot_taken (not (is_living_enclave (G.enclave parent.0))) (leb 256 G.born) (ns && G.server) (ltb (length (blocks_left G)) blocks) legal.refusal in
    let both = and_parts ns G.server taken in
    (both.0, sym (server_counted past) ∙ both.1)
limited_boot past kind parent blocks ns (lines.Born e of under mark lent) legal =
    let G = facts_at past in
    let free = boot_free (not (is_living_enclave (G.enclave parent.0))) (leb 256 G.born) (ns && G.server) (ltb (length (blocks_left G)) blocks) legal.refusal in
    (subst (λ n. n < 256) (births_counted past) (leb-false 256 G.born free.0), ap (λ held. ns && held) (sym (server_counted past)) ∙ free.1)
limited_boot past kind parent blocks ns _ legal = tt

limited_start : (past : List Line) (e : Enclave) (uid gid : ℕ) (line : Line)
    → IsLegalAt (lines.Do (commands.Proc e uid gid) ∷ past) line → LimitedStart past line
limited_start past e uid gid (lines.Refused causes.TooMany) legal =
    let G = facts_at past in
    let many = start_many (not (is_living_enclave (G.enclave e.0))) (leb 1024 G.starts) legal.refusal in
    subst (λ n. 1024 ≤ n) (starts_counted past) (leb-true 1024 G.starts many)
limited_start past e uid gid (lines.Proc of p u g) legal =
    let G = facts_at past in
    let free = start_free (not (is_living_enclave (G.enclave e.0))) (leb 1024 G.starts) legal.refusal in
    subst (λ n. n < 1024) (starts_counted past) (leb-false 1024 G.starts free)
limited_start past e uid gid _ legal = tt

limited_line : (past : List Line) (line : Line) → IsLegalAt past line → LimitedAt past line
limited_line (lines.Do (commands.Boot kind parent blocks ns) ∷ past) line legal = limited_boot past kind parent blocks ns line legal
limited_line (lines.Do (commands.Proc e uid gid) ∷ past) line legal = limited_start past e uid gid line legal
limited_line _ line legal = tt

pub legal_limited : (journal : List Line) → IsLegal journal → IsLimited journal
legal_limited journal legal = Follows-weaker IsLegalAt LimitedAt limited_line journal [] legal
