-- At rest nothing is under way, so no call waits, and the names are those of the live segments.
use Rattle.std.proofs.Common.{◌≡◌, ◌+◌, ◌-◌, ◌<◌, ◌≤◌, ℕ, List, [], ◌∷◌, drop, take, filter, length, Bool, true, false, cond, not, ◌&&◌, eqb, leb, Option, None, Some, is_some, inl, inr, refl, sym, ap, ◌∙◌, subst, arith, length-append, length-drop}
use Rattle.std.proofs.lemmas.List.{length-take}
use Rattle.std.proofs.lemmas.Bool.{and_parts, eqb-false, le-leb, ltb-true, not-true, or_cases}
use Rattle.xm_num.specs.Rows.{at}
use Rattle.xm_num.specs.RowLaws.{RowLaws}
use Rattle.attach_map.specs.declared.Waiting.{Waiting}
use Rattle.enclave_rules.specs.Segments.{is_make}
use Rattle.xemem_language.specs.declared.command.Command.{Command}
use Rattle.xemem_language.specs.declared.line.Line.{Line}
use Rattle.xemem_language.specs.declared.line.Line.TheVariants as lines
use Rattle.xemem_language.specs.declared.record.Record.{Record}
use Rattle.xemem_wire.specs.Spelling.{spelling_of, spellings_of}
use Rattle.global_model.specs.Channels.{is_child_of, is_neighbour, size_of, waiting_of, whole_records}
use Rattle.global_model.specs.Due.{journal_of}
use Rattle.global_model.specs.Facts.{ChannelFact, EnclaveFact, Facts, facts_after, facts_at, has_parent, lives_at, with_got, with_sent, with_taken}
use Rattle.global_model.specs.Flow.{IsFlowing, IsTree}
use Rattle.global_model.specs.Journals.{onto}
use Rattle.global_model.specs.Place.{IsPlaced}
use Rattle.global_model.specs.Rest.{IsAtRest}
use Rattle.discovery_laws.specs.Known.{in_flight}
use Rattle.call_laws.specs.Cells.{cells}
use Rattle.call_laws.specs.Flights.{is_of}
use Rattle.call_laws.specs.Laws.{CallLaws}
use Rattle.call_laws.specs.One.{AreCellsTrue, waits_as_make}
use Rattle.call_laws.specs.Places.{HasRoom, HaveSegids, IsEven}
use Rattle.call_laws.proofs.Idle.{IsIdleCell}
use Rattle.call_laws.proofs.Idles.{IsSound, journal_of-sound}
use Rattle.call_laws.proofs.Journals.{tied_true}
use Rattle.call_laws.proofs.Makes.{all_makes}
use Rattle.call_laws.proofs.Placed.{journal_of-named}

-- ---- nothing is under way

-- no bytes were ever cut off
same_cut : (t : Bool) (change : ChannelFact → ChannelFact) (c : ChannelFact) → ((c : ChannelFact) → (change c).cut ≡ c.cut) → c.cut ≡ 0 → (cond t (change c) c).cut ≡ 0
same_cut true change c same none = same c ∙ none
same_cut false change c same none = none

uncut : (past : List Line) (x y : ℕ) → ((facts_at past).channel x y).cut ≡ 0
uncut [] x y = refl
uncut (line ∷ past) x y = by line (uncut past x y)
  where
    by : (line : Line) → ((facts_at past).channel x y).cut ≡ 0 → ((facts_at (line ∷ past)).channel x y).cut ≡ 0
    by (lines.Sent a b r) none = same_cut (eqb x a.0 && eqb y b.0) (with_sent r) ((facts_at past).channel x y) (λ c. refl) none
    by (lines.Took a b count) none = same_cut (eqb x a.0 && eqb y b.0) (with_taken count) ((facts_at past).channel x y) (λ c. refl) none
    by (lines.Got a b) none = same_cut (eqb x a.0 && eqb y b.0) with_got ((facts_at past).channel x y) (λ c. refl) none
    by _ none = none

-- once all bytes are taken all records are whole
all_whole : (n : ℕ) (rs : List Record) → length (spellings_of rs) ≤ n → whole_records n rs ≡ rs
all_whole n [] le = refl
all_whole n (r ∷ rs) le =
    let both : length (spellings_of (r ∷ rs)) ≡ size_of r + length (spellings_of rs) = length-append (spelling_of r) (spellings_of rs) in
    let here : leb (size_of r) n ≡ true = le-leb (size_of r) n (omega (arith, both, le)) in
    rw here (ap (λ more. r ∷ more) (all_whole (n - size_of r) rs (omega (arith, both, le))))

-- who has a parent was born, and the parent before it
child_born : (G : Facts) (c p : ℕ) → IsTree G → is_child_of G c p ≡ true → (c < G.born) × (p < c)
child_born G c p tree is =
    let both = and_parts (not (eqb c 0)) (has_parent p (G.enclave c)) is in
    let below = ltb-true c G.born (sym (tree.enclaves c).known ∙ by (G.enclave c) both.1) in
    let some = eqb-false c 0 (not-true (eqb c 0) both.0) in
    (below, (tree.enclaves c).above p both.1 (omega (arith, some)))
  where
    by : (fact : Option EnclaveFact) → has_parent p fact ≡ true → is_some fact ≡ true
    by None is = cc
    by (Some fact) is = refl

neighbour_born : (G : Facts) (x y : ℕ) → IsTree G → is_neighbour G x y ≡ true → y < G.born
neighbour_born G x y tree near = elim (or_cases (is_child_of G x y) (is_child_of G y x) near) [
  | inl child ↦ (let born = child_born G x y tree child in let low = born.0 in let lower = born.1 in omega (arith, low, lower))
  | inr parent ↦ (child_born G y x tree parent).0
]

rest_flight : (G : Facts) → IsFlowing G → ((x y : ℕ) → (G.channel x y).cut ≡ 0) → IsAtRest G → (x y : ℕ) → in_flight G x y ≡ []
rest_flight G flowing none_cut rest x y = by (is_neighbour G x y) refl
  where
    waits : lives_at G y ≡ true → waiting_of (G.channel x y) ≡ []
    waits living = ap (λ t. cond t (waiting_of (G.channel x y)) []) (sym living) ∙ (rest x y).0

    by : (t : Bool) → is_neighbour G x y ≡ t → in_flight G x y ≡ []
    by false far = ap (λ c. drop c.got c.sent) (flowing.apart x y far)
    by true near =
        let bytes = spellings_of (G.channel x y).sent in
        let living = flowing.tree.all_live y (neighbour_born G x y flowing.tree near) in
        let none : length (waiting_of (G.channel x y)) ≡ 0 = ap length (waits living) in
        let taken : length bytes ≤ (G.channel x y).taken
        = omega (
          arith,
          none,
          none_cut x y,
          length-drop (G.channel x y).taken (take (length bytes - (G.channel x y).cut) bytes),
          length-take (length bytes - (G.channel x y).cut) bytes,
        ) in
        ap (drop (G.channel x y).got) (sym (all_whole (G.channel x y).taken (G.channel x y).sent taken)) ∙ flowing.arrived x y

-- ---- names and segments

sound_even : RowLaws Waiting → (past : List Line) → IsSound past → HasRoom past → HaveSegids past → ((x y : ℕ) → in_flight (facts_at past) x y ≡ []) → IsEven past
sound_even rows past sound room named none = record {
  waits = λ e k. no_row (at ((facts_at past).memory e).waiting k) ((all_makes rows past e).makes k) (true_of.waits e k ∙ (idle e k).waits);
  named = λ e k s live. true_of.stands e k s (true_of.name e k s live) (sound.at_pause.tied.only.stands e k (true_of.near e k s live));
  lives = λ s of is.
      let pair = true_of.far (facts_at past).holder.0 s of is in
      (pair.call, true_of.live of.0 pair.call s pair.drawn (sym (idle of.0 pair.call).even ∙ pair.stands));
}
  where
    true_of : AreCellsTrue past
    true_of = tied_true past sound.at_pause.tied

    idle : (e k : ℕ) → IsIdleCell (cells past e k)
    idle e k = sound.idle room named e k (λ a b. ap (filter (is_of e k)) (none a b))

    no_row : (row : Option Waiting) → ((w : Waiting) → row ≡ Some w → is_make w.what ≡ true) → waits_as_make row ≡ false → row ≡ None
    no_row None makes is = refl
    no_row (Some w) makes is = let clash : true ≡ false = sym (makes w refl) ∙ is in absurd (cc)

pub journal_of-even : (laws : CallLaws) (commands : List Command) → IsPlaced commands → HasRoom (onto (journal_of commands) []) → IsAtRest (facts_after (journal_of commands))
    → IsEven (onto (journal_of commands) [])
journal_of-even laws commands placed room rest =
    let past = onto (journal_of commands) [] in
    let same = sym (laws.facts (journal_of commands) []) in
    sound_even laws.rows.waiting past (journal_of-sound laws commands placed) room (journal_of-named laws commands placed)
    (rest_flight (facts_at past) (subst IsFlowing same (laws.flowing commands placed)) (uncut past) (subst IsAtRest same rest))
