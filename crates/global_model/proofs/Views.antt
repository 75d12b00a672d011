-- Lines that are about one enclave change its view by themselves, and no other's; so do those that it writes for records.
use Rattle.std.proofs.Common.{◌≡◌, ◌≢◌, List, [], ◌∷◌, Bool, true, false, cond, eqb, refl, sym, ap, ◌∙◌, subst}
use Rattle.std.proofs.lemmas.Bool.{eq-eqb, ne_eqb}
use Rattle.xm_num.specs.declared.Enclave.{Enclave}
use Rattle.xm_num.specs.declared.Frame.{Frame}
use Rattle.xemem_language.specs.declared.record.Record.{Record}
use Rattle.xemem_language.specs.declared.line.Line.{Line}
use Rattle.xemem_language.specs.declared.line.Line.TheVariants as lines
use Rattle.enclave_rules.specs.Core.{is_guest}
use Rattle.enclave_rules.specs.Hand.{Hand, Reads}
use Rattle.enclave_rules.specs.View.{View, own_line, own_lines, is_at, IsOf, AreOf, IsAbout, AreAbout}
use Rattle.enclave_rules.specs.Steps.{record_lines, handled_lines, after_record, lines_of_records}
use Rattle.global_model.specs.Facts.{Facts, after_line, after_lines}
use Rattle.global_model.specs.Views.{seen_line, seen_lines}
use Rattle.global_model.proofs.Sound.{local_same}
use Rattle.global_model.proofs.Writes.{each-append, MayWrite, KnowsNear, MaySend, writes_record}

-- ---- lines about one enclave

-- what they leave alone
pub record Keeps (v w : View) : Type 0 where
  pub me : w.me ≡ v.me
  pub kind : w.core.kind ≡ v.core.kind
  pub holder : w.core.holder ≡ v.core.holder

about_keeps : (hand : Hand) (holder y : Enclave) (line : Line) (v : View) → IsAbout holder y line → Keeps v (own_line hand v line)
about_keeps hand holder y (lines.Born e kind parent ns blocks) v about = absurd about
about_keeps hand holder y _ v about = record { me = refl; kind = refl; holder = refl }

about_hand : (G : Facts) (holder y : Enclave) (line : Line) → IsAbout holder y line → (after_line G line).hand ≡ G.hand
about_hand G holder y (lines.Do command) about = absurd about
about_hand G holder y (lines.Took a b count) about = absurd about
about_hand G holder y (lines.Got a b) about = absurd about
about_hand G holder y _ about = refl

pub about_holder : (G : Facts) (holder y : Enclave) (line : Line) → IsAbout holder y line → (after_line G line).holder ≡ G.holder
about_holder G holder y (lines.Born e kind parent ns blocks) about = absurd about
about_holder G holder y _ about = refl

-- the enclave, which is no virtual machine, sees its own line
either_same : (b : Bool) (v : View) → cond b v v ≡ v
either_same true v = refl
either_same false v = refl

mine : (e y : Enclave) (v w : View) → e ≡ y → cond (eqb e.0 y.0) v w ≡ v
mine e y v w same = rw (eq-eqb e.0 y.0 (ap (λ a. a.0) same)) refl

about_own : (G : Facts) (v : View) (line : Line) → is_guest v.core.kind ≡ false → IsAbout G.holder v.me line → seen_line G v line ≡ own_line G.hand v line
about_own G v (lines.Do command) plain about = absurd about
about_own G v (lines.Born e kind parent ns blocks) plain about = absurd about
about_own G v (lines.Took a b count) plain about = absurd about
about_own G v (lines.Got a b) plain about = absurd about
about_own G v (lines.End a b torn) plain about = absurd about
about_own G v (lines.Told e dead) plain about = mine e v.me _ _ about
about_own G v (lines.Heard e dead) plain about = mine e v.me _ _ about
about_own G v (lines.Admitted e) plain about = mine e v.me _ _ about
about_own G v (lines.Proc e p uid gid) plain about = mine e v.me _ _ about
about_own G v (lines.Alloc e p page frames) plain about =
    mine e v.me _ _ about ∙ ap (λ (fs : List Frame). own_line G.hand v (lines.Alloc e p page fs)) (local_same v.core.kind v.core.blocks frames plain)
about_own G v (lines.Issue e p call) plain about = mine e v.me _ _ about
about_own G v (lines.Drew e call segid) plain about = mine G.holder v.me _ _ about
about_own G v (lines.Named e call segid) plain about = mine e v.me _ _ about
about_own G v (lines.Unnamed segid) plain about = mine G.holder v.me _ _ about
about_own G v (lines.Grant owner e call segid access) plain about = mine owner v.me _ _ about
about_own G v (lines.Ungrant owner e call) plain about = mine owner v.me _ _ about
about_own G v (lines.Remove e segid) plain about = mine e v.me _ _ about
about_own G v (lines.AnswerSegid e p call segid) plain about = mine e v.me _ _ about
about_own G v (lines.AnswerApid e p call apid pages) plain about = mine e v.me _ _ about
about_own G v (lines.AnswerRefused e p call cause) plain about = mine e v.me _ _ about
about_own G v (lines.Release e call) plain about = mine e v.me _ _ about
about_own G v (lines.Asked e by) plain about = mine e v.me _ _ about
about_own G v (lines.Way e over) plain about = mine e v.me _ _ about
about_own G v (lines.Back e of over) plain about = mine e v.me _ _ about
about_own G v (lines.Route e of over) plain about = mine e v.me _ _ about
about_own G v line plain about = either_same (is_at G.holder v.me line) v

theirs : (e y : Enclave) (me : Enclave) (v w : View) → e ≡ y → me.0 ≢ y.0 → cond (eqb e.0 me.0) v w ≡ w
theirs e y me v w same apart = let other : eqb e.0 me.0 ≡ false = ne_eqb e.0 me.0 (λ is. apart (sym is ∙ ap (λ a. a.0) same)) in rw other refl

about_other : (G : Facts) (y : Enclave) (w : View) (line : Line) → IsAbout G.holder y line → w.me.0 ≢ y.0 → seen_line G w line ≡ w
about_other G y w (lines.Do command) about apart = absurd about
about_other G y w (lines.Born e kind parent ns blocks) about apart = absurd about
about_other G y w (lines.Took a b count) about apart = absurd about
about_other G y w (lines.Got a b) about apart = absurd about
about_other G y w (lines.End a b torn) about apart = absurd about
about_other G y w (lines.Told e dead) about apart = theirs e y w.me _ w about apart
about_other G y w (lines.Heard e dead) about apart = theirs e y w.me _ w about apart
about_other G y w (lines.Admitted e) about apart = theirs e y w.me _ w about apart
about_other G y w (lines.Proc e p uid gid) about apart = theirs e y w.me _ w about apart
about_other G y w (lines.Alloc e p page frames) about apart = theirs e y w.me _ w about apart
about_other G y w (lines.Issue e p call) about apart = theirs e y w.me _ w about apart
about_other G y w (lines.Drew e call segid) about apart = theirs G.holder y w.me _ w about apart
about_other G y w (lines.Named e call segid) about apart = theirs e y w.me _ w about apart
about_other G y w (lines.Unnamed segid) about apart = theirs G.holder y w.me _ w about apart
about_other G y w (lines.Grant owner e call segid access) about apart = theirs owner y w.me _ w about apart
about_other G y w (lines.Ungrant owner e call) about apart = theirs owner y w.me _ w about apart
about_other G y w (lines.Remove e segid) about apart = theirs e y w.me _ w about apart
about_other G y w (lines.AnswerSegid e p call segid) about apart = theirs e y w.me _ w about apart
about_other G y w (lines.AnswerApid e p call apid pages) about apart = theirs e y w.me _ w about apart
about_other G y w (lines.AnswerRefused e p call cause) about apart = theirs e y w.me _ w about apart
about_other G y w (lines.Release e call) about apart = theirs e y w.me _ w about apart
about_other G y w (lines.Asked e by) about apart = theirs e y w.me _ w about apart
about_other G y w (lines.Way e over) about apart = theirs e y w.me _ w about apart
about_other G y w (lines.Back e of over) about apart = theirs e y w.me _ w about apart
about_other G y w (lines.Route e of over) about apart = theirs e y w.me _ w about apart
about_other G y w line about apart = either_same (is_at G.holder w.me line) w

pub seen_own : (ls : List Line) (G : Facts) (v : View) → is_guest v.core.kind ≡ false → AreAbout G.holder v.me ls → seen_lines G v ls ≡ own_lines G.hand v ls
seen_own [] G v plain about = refl
seen_own (l ∷ ls) G v plain about =
    let w = own_line G.hand v l in
    let keeps : Keeps v w = about_keeps G.hand G.holder v.me l v about.0 in
    ap (λ u. seen_lines (after_line G l) u ls) (about_own G v l plain about.0)
    ∙ seen_own ls (after_line G l) w (ap is_guest keeps.kind ∙ plain)
    (subst (λ h. AreAbout h w.me ls) (sym (about_holder G G.holder v.me l about.0)) (subst (λ e. AreAbout G.holder e ls) (sym keeps.me) about.1))
    ∙ ap (λ hand. own_lines hand w ls) (about_hand G G.holder v.me l about.0)

pub seen_other : (ls : List Line) (G : Facts) (y : Enclave) (w : View) → AreAbout G.holder y ls → w.me.0 ≢ y.0 → seen_lines G w ls ≡ w
seen_other [] G y w about apart = refl
seen_other (l ∷ ls) G y w about apart =
    ap (λ u. seen_lines (after_line G l) u ls) (about_other G y w l about.0 apart) ∙ seen_other ls (after_line G l) y w (subst (λ h. AreAbout h y ls) (sym (about_holder G G.holder y l about.0)) about.1) apart

pub keeps_lines : (hand : Hand) (holder y : Enclave) (ls : List Line) (v : View) → AreAbout holder y ls → Keeps v (own_lines hand v ls)
keeps_lines hand holder y [] v about = record { me = refl; kind = refl; holder = refl }
keeps_lines hand holder y (l ∷ ls) v about =
    let one : Keeps v (own_line hand v l) = about_keeps hand holder y l v about.0 in
    let more = keeps_lines hand holder y ls (own_line hand v l) about.1 in
    record { me = more.me ∙ one.me; kind = more.kind ∙ one.kind; holder = more.holder ∙ one.holder }

pub hand_lines : (G : Facts) (holder y : Enclave) (ls : List Line) → AreAbout holder y ls → (after_lines G ls).hand ≡ G.hand
hand_lines G holder y [] about = refl
hand_lines G holder y (l ∷ ls) about = hand_lines (after_line G l) holder y ls about.1 ∙ about_hand G holder y l about.0

-- ---- the lines that an enclave writes for a record

knows_all : (v : View) → KnowsNear (λ x. Unit {0}) v
knows_all v = record { way = λ x is. tt; askers = λ k d lt. tt; backs = λ k d lt. tt; routes = λ k d lt. tt }

sends_all : (v : View) (r : Record) → MaySend (λ sent. Unit {0}) v r
sends_all v r = record { here = tt; register = tt; admit = tt; made = λ m valid. tt; passed = tt }

-- the enclave that holds the name server is the one that is told of
abbrev pub IsHeldBy : Enclave → View → Type 0
IsHeldBy holder v = v.core.holder ≡ true → holder ≡ v.me

pub about_record : (holder : Enclave) (v : View) (from : Enclave) (r : Record) → IsHeldBy holder v → AreAbout holder v.me (record_lines v from r)
about_record holder v from r held =
    writes_record (IsAbout holder v.me) (λ x. Unit {0}) (λ sent. Unit {0}) v own from r (knows_all v) tt (sends_all v r)
  where
    own : MayWrite (IsAbout holder v.me) (λ x. Unit {0}) (λ sent. Unit {0}) v
    own = record {
      dropped = tt;
      admitted = refl;
      asked = λ x near. refl;
      way = λ x near. refl;
      back = λ d x near. refl;
      route = λ d x near. refl;
      drew = λ holds e call segid range. held holds;
      named = λ call segid range. refl;
      unnamed = λ holds segid range. held holds;
      answered = λ p call segid range. refl;
      sent = λ x sent near good. tt;
    }

of_record : (holder : Enclave) (v : View) (from : Enclave) (r : Record) → IsHeldBy holder v → AreOf holder v.me (record_lines v from r)
of_record holder v from r held =
    writes_record (IsOf holder v.me) (λ x. Unit {0}) (λ sent. Unit {0}) v own from r (knows_all v) tt (sends_all v r)
  where
    own : MayWrite (IsOf holder v.me) (λ x. Unit {0}) (λ sent. Unit {0}) v
    own = record {
      dropped = refl;
      admitted = refl;
      asked = λ x near. refl;
      way = λ x near. refl;
      back = λ d x near. refl;
      route = λ d x near. refl;
      drew = λ holds e call segid range. held holds;
      named = λ call segid range. refl;
      unnamed = λ holds segid range. held holds;
      answered = λ p call segid range. refl;
      sent = λ x sent near good. refl;
    }

pub of_records : (holder : Enclave) (v : View) (x : Enclave) (rs : List Record) → IsHeldBy holder v → AreOf holder v.me (lines_of_records v x rs)
of_records holder v x [] held = tt
of_records holder v x (r ∷ rs) held =
    let next = after_record v x r in
    let keeps : Keeps v next = keeps_lines (Reads r) holder v.me (record_lines v x r) v (about_record holder v x r held) in
    let later : AreOf holder next.me (lines_of_records next x rs) = of_records holder next x rs (λ holds. held (sym keeps.holder ∙ holds) ∙ sym keeps.me) in
    each-append (IsOf holder v.me) (handled_lines v x r) (lines_of_records next x rs) (refl, of_record holder v x r held)
    (subst (λ e. AreOf holder e (lines_of_records next x rs)) keeps.me later)
