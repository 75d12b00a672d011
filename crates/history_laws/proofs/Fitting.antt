-- The numbers of the lines of a journal fit their types, command by command.
use Rattle.std.proofs.Common.{◌≡◌, ◌+◌, ◌<◌, ◌≤◌, ◌^◌, ℕ, List, [], ◌∷◌, ◌++◌, length, map, true, not, None, All, refl, sym, ap, ◌∙◌, subst, arith, append-nil}
use Rattle.std.specs.List.{range_with_len}
use Rattle.std.proofs.lemmas.Bool.{leb-true, eqb-true, and_parts}
use Rattle.std.proofs.lemmas.List.FromFn.{length-map-range_with_len}
use Rattle.std.proofs.lemmas.List.Elements.{All-nil, All-append, All-map}
use Rattle.xm_num.specs.declared.Cause.TheVariants as causes
use Rattle.xm_num.specs.Rows.{at}
use Rattle.xemem_language.specs.declared.command.Command.{Command}
use Rattle.xemem_language.specs.declared.command.Command.TheVariants as commands
use Rattle.xemem_language.specs.declared.line.Line.{Line}
use Rattle.xemem_language.specs.declared.line.Line.TheVariants as lines
use Rattle.xemem_language.specs.Spelling.{words_in}
use Rattle.xemem_language.specs.Ranges.{IsInRange}
use Rattle.line_reader.specs.Typed.{IsTyped}
use Rattle.global_model.specs.Apt.{AreOwned, OwnedAt}
use Rattle.global_model.specs.Facts.{Facts, after_lines, facts_at, no_facts, is_living_enclave}
use Rattle.global_model.specs.Refusals.{refusal_of}
use Rattle.global_model.specs.Place.{may_stand, IsPlacedAfter, IsPlaced}
use Rattle.global_model.specs.Due.{acts_of, step_lines, journal_from, journal_of}
use Rattle.global_model.specs.Journals.{Follows, onto}
use Rattle.history_laws.specs.Fitting.{IsCountable}
use Rattle.history_laws.specs.Laws.{HistoryLaws}
use Rattle.history_laws.proofs.Follow.{Follows-behind}
use Rattle.history_laws.proofs.Fit.{IsNumber, IsLow, IsFitState, IsFitProcess, IsFitWaiting, IsFit, AreSteady, fit_do}
use Rattle.history_laws.proofs.Steady.{steady_deliver, steady_settle}
use Rattle.history_laws.proofs.Fitted.{IsFittedUpTo, with_refusal, fitted_steady, fitted_one, living_number, channel_numbers, fitted_host, fitted_boot, fitted_proc, fitted_alloc, fitted_make, fitted_remove, fitted_touch, fitted_link, steady_name_rows, steady_routes, steady_states}

-- ---- each command

-- a command whose acts are steady
fitted_acts : (c : Command) (past : List Line) → IsFit (facts_at past) → IsInRange c
    → (refusal_of (facts_at past) c ≡ None → IsFit (facts_at (lines.Do c ∷ past)) → AreSteady (acts_of (facts_at (lines.Do c ∷ past)) c)) → IsFittedUpTo (IsCountable past) past (step_lines (facts_at past) c)
fitted_acts c past fit range steady =
    with_refusal c past fit range (λ none after. fitted_steady (IsCountable past) (acts_of (facts_at (lines.Do c ∷ past)) c) (lines.Do c ∷ past) after (steady none after))

-- what is kept along commands, of which there were so many: none is born after the first
record IsFitAfter (before : ℕ) (past : List Line) : Type 0 where
  fit : IsFit (facts_at past)
  fresh : before ≤ 1 → (facts_at past).born ≡ 0

fitted_step : HistoryLaws → (before : ℕ) (c : Command) (past : List Line) → IsFitAfter before past → AreOwned (facts_at past) → may_stand before c ≡ true → IsInRange c
    → IsFittedUpTo (IsCountable past) past (step_lines (facts_at past) c)
fitted_step laws before (commands.Host blocks ns) past ready owned may range =
    let second : before ≡ 1 = eqb-true before 1 (and_parts _ _ may).0 in
    fitted_host blocks ns past ready.fit range (ready.fresh (omega (arith, second)))
fitted_step laws before (commands.Boot kind parent blocks ns) past ready owned may range = fitted_boot laws kind parent blocks ns past ready.fit range
fitted_step laws before (commands.Proc e uid gid) past ready owned may range = fitted_proc laws e uid gid past ready.fit range
fitted_step laws before (commands.Alloc e p at pages) past ready owned may range = fitted_alloc laws e p at pages past ready.fit range
fitted_step laws before (commands.Make e p addr size mode) past ready owned may range = fitted_make e p addr size mode past ready.fit range
fitted_step laws before (commands.Remove e p segid) past ready owned may range = fitted_remove e p segid past ready.fit range
fitted_step laws before (commands.Touch e p addr want) past ready owned may range = fitted_touch e p addr want past ready.fit owned range
fitted_step laws before (commands.Deliver x y count) past ready owned may range =
    let c = commands.Deliver x y count in
    fitted_acts c past ready.fit range (λ none after. let ends = channel_numbers laws (facts_at past) x y ready.fit none in steady_deliver (facts_at (lines.Do c ∷ past)) x y count after ends.0 ends.1 range.2.1)
fitted_step laws before (commands.Settle most) past ready owned may range =
    let c = commands.Settle most in
    fitted_acts c past ready.fit range (λ none after. let few = range.1 in steady_settle laws most 0 (facts_at (lines.Do c ∷ past)) after (omega (arith, few)))
fitted_step laws before (commands.ShowRoutes e) past ready owned may range =
    let c = commands.ShowRoutes e in
    fitted_acts c past ready.fit range (λ none after. steady_routes (facts_at (lines.Do c ∷ past)) e after (living_number (facts_at past) e ready.fit (laws.act.unmet causes.NoEnclave (not (is_living_enclave ((facts_at past).enclave e.0))) [] none).0))
fitted_step laws before (commands.ShowLink x y) past ready owned may range = fitted_link laws x y past ready.fit range
fitted_step laws before commands.ShowPool past ready owned may range =
    let G = facts_at past in
    let pool = ready.fit.pool in
    let most = pool.most in
    let count = length-map-range_with_len G.block 0 G.pool in
    fitted_acts commands.ShowPool past ready.fit range (λ none after. steady_states 0 (map G.block (range_with_len 0 G.pool)) (omega (arith, count, most)) (All-map IsFitState G.block (range_with_len 0 G.pool) (λ k d lt. pool.state _)))
fitted_step laws before commands.ShowNames past ready owned may range =
    let G = facts_at past in
    fitted_acts commands.ShowNames past ready.fit range (λ none after. steady_name_rows (G.names G.holder.0).pairs (ready.fit.names G.holder.0))
fitted_step laws before c past ready owned may range = fitted_one (IsCountable past) (lines.Do c) past tt (fit_do (facts_at past) ready.fit c range)

fresh_step : (before : ℕ) (c : Command) (past : List Line) → IsFitAfter before past → may_stand before c ≡ true → before + 1 ≤ 1
    → (facts_at (onto (step_lines (facts_at past) c) past)).born ≡ 0
fresh_step before (commands.Pool blocks) past ready may few = ready.fresh (omega (arith, few))
fresh_step before (commands.Host blocks ns) past ready may few = let second = eqb-true before 1 (and_parts _ _ may).0 in absurd (omega (arith, few, second))
fresh_step before _ past ready may few = let late = leb-true 2 before (and_parts _ _ may).0 in absurd (omega (arith, few, late))

no_facts-fit : IsFit no_facts
no_facts-fit = record {
  pool = record { most = omega arith; state = λ b. tt; inside = λ b taken. cc };
  tree = record { most = omega arith; number = λ e some. cc; parent = λ e. omega arith };
  heard = λ e. All-nil IsNumber;
  ways = λ e. record { over = λ x is. cc; asked = All-nil IsNumber; back = All-nil IsNumber; route = All-nil IsNumber; lies = All-nil IsLow };
  channels = λ x y. tt;
  starts = omega arith;
  names = λ e. All-nil IsNumber;
  memory = λ e. record { started = omega arith; pages = All-nil IsFitProcess; waiting = All-nil IsFitWaiting };
}

-- ---- journals

words_in-append : (ls ms : List Line) → words_in (ls ++ ms) ≡ words_in ls + words_in ms
words_in-append [] ms = omega arith
words_in-append (l ∷ ls) ms = let more = words_in-append ls ms in omega (arith, more)

words_in-onto : (ls past : List Line) → words_in (onto ls past) ≡ words_in ls + words_in past
words_in-onto [] past = omega arith
words_in-onto (l ∷ ls) past = let more = words_in-onto ls (l ∷ past) in omega (arith, more)

next_ready : HistoryLaws → (before : ℕ) (c : Command) (G : Facts) (past : List Line) → G ≡ facts_at past → IsFitAfter before past → AreOwned (facts_at past)
    → may_stand before c ≡ true → IsInRange c → IsCountable past → IsFitAfter (before + 1) (onto (step_lines G c) past)
next_ready laws before c G past is ready owned may range few =
    record { fit = rw is ((fitted_step laws before c past ready owned may range).fit few); fresh = rw is (fresh_step before c past ready may) }

next_facts : HistoryLaws → (ls : List Line) (G : Facts) (past : List Line) → G ≡ facts_at past → after_lines G ls ≡ facts_at (onto ls past)
next_facts laws ls G past is = ap (λ H. after_lines H ls) is ∙ sym (laws.past.facts ls past)

typed_step : HistoryLaws → (before : ℕ) (c : Command) (G : Facts) (past : List Line) → G ≡ facts_at past → IsFitAfter before past → AreOwned (facts_at past)
    → may_stand before c ≡ true → IsInRange c → IsCountable past → All IsTyped (step_lines G c)
typed_step laws before c G past is ready owned may range few =
    subst (λ H. All IsTyped (step_lines H c)) (sym is) ((fitted_step laws before c past ready owned may range).typed few)

-- the lines of commands, and of one more where there is one, where few words stand before that one
typed_from : HistoryLaws → (cs last : List Command) (before : ℕ) (G : Facts) (past : List Line) → G ≡ facts_at past → IsFitAfter before past
    → Follows OwnedAt past (journal_from G (cs ++ last)) → IsPlacedAfter before (cs ++ last) → length last ≤ 1
    → words_in past + words_in (journal_from G cs) < 2 ^ 30 → All IsTyped (journal_from G (cs ++ last))
typed_from laws [] [] before G past is ready owned placed one few = All-nil IsTyped
typed_from laws [] (c ∷ []) before G past is ready owned placed one few =
    All-append IsTyped (step_lines G c) [] (typed_step laws before c G past is ready owned.0 placed.0 placed.1 (omega (arith, few))) (All-nil IsTyped)
typed_from laws [] (c ∷ d ∷ last) before G past is ready owned placed one few = absurd (omega (arith, one))
typed_from laws (c ∷ cs) last before G past is ready owned placed one few =
    let ls = step_lines G c in
    let H = after_lines G ls in
    let sum = words_in-append ls (journal_from H cs) in
    let turned = words_in-onto ls past in
    let later = Follows-behind OwnedAt ls (journal_from H (cs ++ last)) past owned in
    All-append IsTyped ls (journal_from H (cs ++ last)) (typed_step laws before c G past is ready owned.0 placed.0 placed.1 (omega (arith, few)))
    (typed_from laws cs last (before + 1) H (onto ls past) (next_facts laws ls G past is) (next_ready laws before c G past is ready owned.0 placed.0 placed.1 (omega (arith, few))) later placed.2 one (omega (arith, few, sum, turned)))

start_ready : IsFitAfter 0 []
start_ready = record { fit = no_facts-fit; fresh = λ few. refl }

pub journal_of-typed : HistoryLaws → (cs : List Command) → IsPlaced cs → IsCountable (journal_of cs) → All IsTyped (journal_of cs)
journal_of-typed laws cs placed few =
    let same = append-nil cs in
    subst (λ ds. All IsTyped (journal_of ds)) same
    (typed_from laws cs [] 0 no_facts [] refl start_ready (subst (λ ds. Follows OwnedAt [] (journal_of ds)) (sym same) (laws.journal.owned cs placed)) (subst IsPlaced (sym same) placed) (omega arith) (omega (arith, few)))

pub journal_of-typed_more : HistoryLaws → (cs : List Command) (c : Command) → IsPlaced (cs ++ c ∷ []) → IsCountable (journal_of cs) → All IsTyped (journal_of (cs ++ c ∷ []))
journal_of-typed_more laws cs c placed few =
    typed_from laws cs (c ∷ []) 0 no_facts [] refl start_ready (laws.journal.owned (cs ++ c ∷ []) placed) placed (omega arith) (omega (arith, few))
