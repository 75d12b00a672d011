-- What is written and seen of frames that a process is given, and of a make.
use Rattle.std.proofs.Common.{◌≡◌, ◌<◌, ◌++◌, ◌+◌, ◌/◌, ℕ, Bool, true, false, List, [], ◌∷◌, length, take, Option, Some, append_assoc, Result, Ok, Err, OnOk, if◌then◌else◌, refl, sym, ap, ◌∙◌, subst}
use Rattle.std.specs.Prelude.{nat_lt, ◌↔◌, is_some, IfSome, IsErrOf}
use Rattle.std.proofs.lemmas.Bool.{lt-ltb, ltb-true}
use Rattle.xm_num.specs.declared.Cause.TheVariants as causes
use Rattle.xm_num.specs.declared.CallNo.{CallNo}
use Rattle.xm_num.specs.declared.Frame.{Frame}
use Rattle.xm_num.specs.declared.Pid.{Pid}
use Rattle.xm_num.specs.declared.Vpn.{Vpn}
use Rattle.xemem_language.specs.declared.call.Call.TheVariants as calls
use Rattle.xemem_language.specs.declared.line.Line.{Line}
use Rattle.xemem_language.specs.declared.line.Line.TheVariants as lines
use Rattle.exporter_pins.specs.declared.ExportFault.{ExportFault}
use Rattle.exporter_pins.specs.declared.ExportFault.TheVariants as faults
use Rattle.enclave_rules.specs.Hand.{Hand}
use Rattle.enclave_rules.specs.Calls.{at_hand}
use Rattle.enclave_rules.specs.Segments.{asking_lines, issue_line, make_acts}
use Rattle.enclave_rules.specs.Steps.{refusal, unused_in}
use Rattle.enclave_rules.specs.View.{View, own_lines}
use Rattle.enclave_node.specs.Estates.{Estate, owns_pages, with_lowest, with_make}
use Rattle.enclave_node.specs.Making.{given_lines, made_of}

-- what an answer keeps if it is another one that keeps more
pub moved_ok : {T E : Type 0} (r q : Result T E) (P Q : Type 0) → r ≡ q → (P → Q) → OnOk q P → OnOk r Q
moved_ok (Ok value) (Ok same) P Q is more has = more has
moved_ok (Ok value) (Err fault) P Q is more has = cc
moved_ok (Err fault) q P Q is more has = tt

-- frames reach where they were given, and not where they were refused
pub they_reach : {T : Type 0} (r : Result T ExportFault) (given : T) (a n : ℕ) → r ≡ Ok given → (IsErrOf r faults.NoFrames ↔ (a < n)) → nat_lt a n ≡ false
they_reach r given a n is short = by (nat_lt a n) refl
  where
    by : (b : Bool) → nat_lt a n ≡ b → b ≡ false
    by false reach = refl
    by true few =
        let clash : Ok given ≡ Err faults.NoFrames = (subst (λ x. IsErrOf x faults.NoFrames ↔ (a < n)) is short).1 (ltb-true a n few) in
        absurd (cc)

pub they_are_few : {T : Type 0} (r : Result T ExportFault) (fault : ExportFault) (a n : ℕ) → r ≡ Err fault → fault ≡ faults.NoFrames → (IsErrOf r faults.NoFrames ↔ (a < n)) → nat_lt a n ≡ true
they_are_few r fault a n is none short = lt-ltb a n (short.0 (is ∙ ap Err none))

-- ---- what is written

pub reached_lines : (seen now : View) (p : Pid) (page : Vpn) (n : ℕ) (frames : List Frame) → seen ≡ now → frames ≡ take n (unused_in seen)
    → nat_lt (length (unused_in seen)) n ≡ false → lines.Alloc seen.me p page frames ∷ [] ≡ given_lines now p page n
reached_lines seen now p page n frames is taken reach = rw taken (sym (ap (λ b. if b then refusal causes.NoFrames else lines.Alloc seen.me p page (take n (unused_in seen)) ∷ []) reach)) ∙ ap (λ v. given_lines v p page n) is

pub short_lines : (seen now : View) (p : Pid) (page : Vpn) (n : ℕ) → seen ≡ now → nat_lt (length (unused_in seen)) n ≡ true → refusal causes.NoFrames ≡ given_lines now p page n
short_lines seen now p page n is few = sym (ap (λ b. if b then refusal causes.NoFrames else lines.Alloc seen.me p page (take n (unused_in seen)) ∷ []) few) ∙ ap (λ v. given_lines v p page n) is

-- ---- what is seen

-- an enclave whose memory is another
abbrev pub with_estate : Estate → View → View
with_estate e v = record v { core = record v.core { blocks = e.blocks }; memory = e.memory; exports = e.exports; grants = e.grants }

abbrev pub estate_in : View → Estate
estate_in v = record { blocks = v.core.blocks; memory = v.memory; exports = v.exports; grants = v.grants }

pub reached_view : (seen now : View) (p : Pid) (page : Vpn) (n : ℕ) (e : Estate) (hand : Hand) → seen ≡ now → e ≡ with_lowest p.0 page.0 n (estate_in seen)
    → nat_lt (length (unused_in seen)) n ≡ false → with_estate e seen ≡ own_lines hand now (given_lines now p page n)
reached_view seen now p page n e hand is after reach =
    ap (λ x. with_estate x seen) after
    ∙ ap (λ journal. own_lines hand seen journal) (reached_lines seen seen p page n (take n (unused_in seen)) refl refl reach)
    ∙ ap (λ v. own_lines hand v (given_lines v p page n)) is

pub short_view : (seen now : View) (p : Pid) (page : Vpn) (n : ℕ) (e : Estate) (hand : Hand) → seen ≡ now → e ≡ estate_in seen
    → nat_lt (length (unused_in seen)) n ≡ true → with_estate e seen ≡ own_lines hand now (given_lines now p page n)
short_view seen now p page n e hand is after few =
    ap (λ x. with_estate x seen) after
    ∙ ap (λ journal. own_lines hand seen journal) (short_lines seen seen p page n refl few)
    ∙ ap (λ v. own_lines hand v (given_lines v p page n)) is

-- ---- a make of own pages

module _ (seen now : View) (p : Pid) (page n mode : ℕ) (call : CallNo) (e : Estate) (is : seen ≡ now) (call_is : call.0 ≡ seen.memory.issued + 1)
    (after : e ≡ with_make p page n mode (estate_in seen)) (own : owns_pages seen.memory p.0 page n ≡ true) (addr size : ℕ) (page_is : addr / 4096 ≡ page) (n_is : size / 4096 ≡ n) where
  abbrev asked : Hand
  asked = at_hand seen p (calls.Make addr size mode)

  made : e ≡ with_make p (addr / 4096) (size / 4096) mode (estate_in seen)
  made = after ∙ ap (λ x. with_make p x n mode (estate_in seen)) (sym page_is) ∙ ap (λ x. with_make p (addr / 4096) x mode (estate_in seen)) (sym n_is)

  owned_there : owns_pages seen.memory p.0 (addr / 4096) (size / 4096) ≡ true
  owned_there = ap (λ x. owns_pages seen.memory p.0 x (size / 4096)) page_is ∙ ap (λ x. owns_pages seen.memory p.0 page x) n_is ∙ own

  pub made_lines_are : lines.Issue seen.me p call ∷ asking_lines asked (with_estate e seen) call.0 ≡ made_of now p addr size mode
  made_lines_are =
      ap (λ k. lines.Issue seen.me p (record { 0 = k }) ∷ asking_lines asked (with_estate e seen) k) call_is
      ∙ ap (λ x. issue_line seen p ∷ asking_lines asked (with_estate x seen) (seen.memory.issued + 1)) made
      ∙ sym (ap (λ b. if b then make_acts asked seen p else refusal causes.NotMapped) owned_there)
      ∙ ap (λ v. made_of v p addr size mode) is

  pub made_view_is : own_lines asked (with_estate e seen) (asking_lines asked (with_estate e seen) call.0) ≡ own_lines (at_hand now p (calls.Make addr size mode)) now (made_of now p addr size mode)
  made_view_is =
      ap (λ k. own_lines asked (with_estate e seen) (asking_lines asked (with_estate e seen) k)) call_is
      ∙ ap (λ x. own_lines asked (with_estate x seen) (asking_lines asked (with_estate x seen) (seen.memory.issued + 1))) made
      ∙ sym (ap (λ b. own_lines asked seen (if b then make_acts asked seen p else refusal causes.NotMapped)) owned_there)
      ∙ ap (λ v. own_lines (at_hand v p (calls.Make addr size mode)) v (made_of v p addr size mode)) is

-- the same, by what was written before, and by what is written then of each hand
pub make_written : (seen now : View) (p : Pid) (page n mode : ℕ) (call : CallNo) (e : Estate) (found : Option CallNo) (addr size : ℕ) (out pushed new : List Line) → seen ≡ now → found ≡ Some call
    → IfSome found (λ k. k.0 ≡ seen.memory.issued + 1) → e ≡ (if is_some found then with_make p page n mode (estate_in seen) else estate_in seen) → is_some found ≡ owns_pages seen.memory p.0 page n
    → addr / 4096 ≡ page → size / 4096 ≡ n → pushed ≡ out ++ lines.Issue seen.me p call ∷ [] → ((hand : Hand) → new ≡ pushed ++ asking_lines hand (with_estate e seen) call.0)
    → new ≡ out ++ made_of now p addr size mode
make_written seen now p page n mode call e found addr size out pushed new is found_is call_is after own page_is n_is push each =
    let asked = at_hand seen p (calls.Make addr size mode) in
    let rest = asking_lines asked (with_estate e seen) call.0 in
    let numbered = subst (λ (x : Option CallNo). IfSome x (λ k. k.0 ≡ seen.memory.issued + 1)) found_is call_is in
    let made = after ∙ ap (λ (x : Option CallNo). if is_some x then with_make p page n mode (estate_in seen) else estate_in seen) found_is in
    let owns = sym own ∙ ap (λ (x : Option CallNo). is_some x) found_is in
    each asked ∙ ap (λ ls. ls ++ rest) push ∙ append_assoc out (lines.Issue seen.me p call ∷ []) rest
    ∙ ap (λ ls. out ++ ls) (made_lines_are seen now p page n mode call e is numbered made owns addr size page_is n_is)

pub make_viewed : (seen now : View) (p : Pid) (page n mode : ℕ) (call : CallNo) (e : Estate) (found : Option CallNo) (addr size : ℕ) (new : View) → seen ≡ now → found ≡ Some call
    → IfSome found (λ k. k.0 ≡ seen.memory.issued + 1) → e ≡ (if is_some found then with_make p page n mode (estate_in seen) else estate_in seen) → is_some found ≡ owns_pages seen.memory p.0 page n
    → addr / 4096 ≡ page → size / 4096 ≡ n → ((hand : Hand) → new ≡ own_lines hand (with_estate e seen) (asking_lines hand (with_estate e seen) call.0))
    → new ≡ own_lines (at_hand now p (calls.Make addr size mode)) now (made_of now p addr size mode)
make_viewed seen now p page n mode call e found addr size new is found_is call_is after own page_is n_is each =
    let numbered = subst (λ (x : Option CallNo). IfSome x (λ k. k.0 ≡ seen.memory.issued + 1)) found_is call_is in
    let made = after ∙ ap (λ (x : Option CallNo). if is_some x then with_make p page n mode (estate_in seen) else estate_in seen) found_is in
    let owns = sym own ∙ ap (λ (x : Option CallNo). is_some x) found_is in
    each (at_hand seen p (calls.Make addr size mode)) ∙ made_view_is seen now p page n mode call e is numbered made owns addr size page_is n_is
