-- Along every journal the lines of calls are lawful.
use Rattle.std.proofs.Common.{◌≡◌, ℕ, List, [], ◌∷◌, ◌++◌, Bool, true, false, cond, Option, Some, None, is_some, inl, refl, sym, ap, ◌∙◌, subst, arith}
use Rattle.xm_num.specs.declared.Enclave.{Enclave}
use Rattle.attach_map.specs.declared.Pending.TheVariants as pendings
use Rattle.attach_map.specs.declared.Waiting.{Waiting}
use Rattle.xemem_language.specs.declared.command.Command.{Command}
use Rattle.xemem_language.specs.declared.line.Line.{Line}
use Rattle.global_model.specs.Due.{journal_of}
use Rattle.global_model.specs.Facts.{after_lines, facts_after, facts_at, no_facts}
use Rattle.global_model.specs.Journals.{Follows, onto}
use Rattle.global_model.specs.Pauses.{AreSteps, Step, written_by, written_in}
use Rattle.global_model.specs.Place.{IsPlaced}
use Rattle.enclave_rules.specs.Segments.{is_make}
use Rattle.call_laws.specs.Cells.{CallCell, cells}
use Rattle.call_laws.specs.Flights.{AreSingle}
use Rattle.call_laws.specs.One.{AreCellsTrue, AreSegidsOne, IsLiveAt, waits_as_make}
use Rattle.call_laws.specs.Legal.{AreCalls, CallAt}
use Rattle.call_laws.specs.Laws.{CallLaws}
use Rattle.call_laws.proofs.Rows.{at_has, no_rows}
use Rattle.call_laws.proofs.MemoryLines.{make_row, waiting_row}
use Rattle.call_laws.proofs.ExportLines.{IsLive, IsLiveRow}
use Rattle.exporter_pins.specs.Holdings.{Export}
use Rattle.xm_num.specs.Rows.{at}
use Rattle.call_laws.proofs.Exports.{segid_at}
use Rattle.call_laws.proofs.Tied.{AreNearAnswered, IsTied, legal_lines, tied_lines}
use Rattle.call_laws.proofs.Steps.{goes_step}

-- ---- lines one after the other

follows_both : (Law : List Line → Line → Type 0) (ls ms past : List Line) → Follows Law past ls → Follows Law (onto ls past) ms → Follows Law past (ls ++ ms)
follows_both Law [] ms past first more = more
follows_both Law (l ∷ ls) ms past first more = (first.0, follows_both Law ls ms (l ∷ past) first.1 more)

-- ---- at every pause

pub record IsTiedAtPause (past : List Line) : Type 0 where
  pub tied : IsTied past
  pub answered : AreNearAnswered past

pub record GoesAll (past ls : List Line) : Type 0 where
  pub legal : Follows CallAt past ls
  pub end : IsTiedAtPause (onto ls past)

pub all_steps : (laws : CallLaws) (steps : List Step) (past : List Line) → AreSteps (facts_at past) steps → IsTiedAtPause past
    → GoesAll past (written_in (facts_at past) steps)
all_steps laws [] past are old = record { legal = tt; end = old }
all_steps laws (step ∷ steps) past are old =
    let G = facts_at past in
    let ls = written_by G step in
    let later = written_in (after_lines G ls) steps in
    let on = goes_step laws.rows past step are.0 are.1 old.tied old.answered in
    let here = sym (laws.facts ls past) in
    let after : IsTiedAtPause (onto ls past) = record { tied = tied_lines laws.rows past ls on.keeps old.tied; answered = on.answered old.tied old.answered } in
    let more : GoesAll (onto ls past) (written_in (after_lines G ls) steps)
    = subst (λ H. GoesAll (onto ls past) (written_in H steps)) (laws.facts ls past)
    (all_steps laws steps (onto ls past) (subst (λ H. AreSteps H steps) here are.2) after) in
    record {
      legal = follows_both CallAt ls later past (legal_lines past ls on.keeps) more.legal;
      end = subst IsTiedAtPause (sym (laws.pasts ls later past)) more.end;
    }

pub at_pause_first : (laws : CallLaws) → IsTiedAtPause []
at_pause_first laws = record {
  tied = record {
    blank = λ e k none. refl;
    ones = record { some = λ e k s is. absurd (cc); one = λ e k e' k' s is is'. absurd (cc) };
    memory = λ e. record { ascends = no_rows Waiting; waiting = λ k. ap make_row (laws.rows.waiting.none k); runs = λ k is. absurd (cc) };
    fresh = λ e k less. refl;
    server = record {
      ascends = λ e. no_rows Enclave;
      pairs = λ e s of is. absurd (let none = laws.rows.names.none s in cc);
      count = λ e is. absurd (cc);
      holder = λ e is. absurd (cc);
      none = λ e is. refl;
      before = λ is. refl;
    };
    live = λ e. record { ascends = tt; live = tt };
    names = λ e k s drew far. cc;
    exact = λ e k. record { asked = λ waits near. cc; live = λ s near drew. cc };
    told = λ a b. tt;
    only = record { bounded = λ x y. omega arith; only = λ e k. inl (λ a b. refl); stands = λ e k is. cc };
  };
  answered = λ e k is. absurd (cc);
}

pub journal_of-tied : (laws : CallLaws) (commands : List Command) → IsPlaced commands → GoesAll [] (journal_of commands)
journal_of-tied laws commands placed =
    let in_steps = laws.steps commands placed in
    subst (GoesAll []) (sym in_steps.written) (all_steps laws in_steps.steps [] in_steps.are (at_pause_first laws))

pub journal_of-calls : (laws : CallLaws) (commands : List Command) → IsPlaced commands → AreCalls (journal_of commands)
journal_of-calls laws commands placed = (journal_of-tied laws commands placed).legal

-- ---- cells and facts

live_is : (past : List Line) → IsTied past → (e k s : ℕ) → IsLiveAt (facts_at past) e k s → IsLive (cells past e k) s
live_is past tied e k s live = at_has (IsLiveRow (cells past e)) ((facts_at past).exports e) k live.export (tied.live e).live live.stands s live.segid

waits_is : (found : Option Waiting) (k : ℕ) (c : CallCell) → make_row found ≡ waiting_row k c → waits_as_make found ≡ c.waits
waits_is found k c is = here found ∙ ap is_some is ∙ by c.waits
  where
    here : (found : Option Waiting) → waits_as_make found ≡ is_some (make_row found)
    here None = refl
    here (Some w) = either (is_make w.what)
      where
        either : (t : Bool) → t ≡ is_some (cond t (Some w) None)
        either true = refl
        either false = refl

    row : Waiting
    row = record { call = record { 0 = k }; pid = record { 0 = c.process }; living = true; what = pendings.Make }

    by : (t : Bool) → is_some (cond t (Some row) None) ≡ t
    by true = refl
    by false = refl

pub tied_true : (past : List Line) → IsTied past → AreCellsTrue past
tied_true past tied = record {
  waits = λ e k. waits_is (at ((facts_at past).memory e).waiting k) k (cells past e k) ((tied.memory e).waiting k);
  near = λ e k s live. (live_is past tied e k s live).near;
  name = λ e k s live. (live_is past tied e k s live).drawn;
  far = tied.server.pairs;
  stands = tied.names;
  live = λ e k s drew near. live_by e k s (at ((facts_at past).exports e) k) refl ((tied.exact e k).live s near drew);
  drawn = tied.ones.some;
  one = tied.ones.one;
}
  where
    live_by : (e k s : ℕ) (row : Option Export) → at ((facts_at past).exports e) k ≡ row → segid_at row ≡ Some s → IsLiveAt (facts_at past) e k s
    live_by e k s None is segid = cc
    live_by e k s (Some export) is segid = record { export = export; stands = is; segid = segid }

pub journal_of-true : (laws : CallLaws) (commands : List Command) → IsPlaced commands → AreCellsTrue (onto (journal_of commands) [])
journal_of-true laws commands placed = let all = journal_of-tied laws commands placed in tied_true (onto (journal_of commands) []) all.end.tied

pub journal_of-one : (laws : CallLaws) (commands : List Command) → IsPlaced commands → AreSegidsOne (facts_after (journal_of commands))
journal_of-one laws commands placed =
    let past = onto (journal_of commands) [] in
    let true_of = journal_of-true laws commands placed in
    let one : AreSegidsOne (facts_at past)
    = λ e k e' k' s live live'. true_of.one e k e' k' s (true_of.name e k s live) (true_of.name e' k' s live') in
    subst AreSegidsOne (laws.facts (journal_of commands) []) one

-- ---- records under way

pub journal_of-single : (laws : CallLaws) (commands : List Command) → IsPlaced commands → AreSingle (onto (journal_of commands) [])
journal_of-single laws commands placed =
    let only = (journal_of-tied laws commands placed).end.tied.only in
    record { single = only.only; stands = only.stands }

pub steps_single : (laws : CallLaws) (steps : List Step) → AreSteps no_facts steps → AreSingle (onto (written_in no_facts steps) [])
steps_single laws steps are =
    let only = (all_steps laws steps [] are (at_pause_first laws)).end.tied.only in
    record { single = only.only; stands = only.stands }
