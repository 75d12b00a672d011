-- Records on their turn: the lines of an enclave that answers a record are apt, and so are those of the records that arrive at the
-- end of a channel.
use Rattle.std.proofs.Common.{◌≡◌, ◌<◌, ◌≤◌, ℕ, List, [], ◌∷◌, ◌++◌, Bool, true, false, cond, ◌&&◌, eqb, refl, sym, ◌∙◌, subst, arith}
use Rattle.std.proofs.lemmas.Bool.{eqb-true, eq-eqb, and_parts, le-leb}
use Rattle.xm_num.specs.declared.Enclave.{Enclave}
use Rattle.xemem_language.specs.declared.record.Record.{Record}
use Rattle.xemem_language.specs.Ranges.{IsName}
use Rattle.xemem_wire.specs.Table.{is_enclave}
use Rattle.xemem_wire.specs.Spelling.{is_valid, AreValid}
use Rattle.xemem_language.specs.declared.line.Line.{Line}
use Rattle.xemem_language.specs.declared.line.Line.TheVariants as lines
use Rattle.enclave_rules.specs.View.{View}
use Rattle.enclave_rules.specs.Steps.{record_lines, handled_lines}
use Rattle.global_model.specs.Facts.{Facts, at_pair, with_sent, with_got, is_living_enclave, after_line, after_lines}
use Rattle.global_model.specs.Channels.{is_neighbour, arriving}
use Rattle.global_model.specs.Views.{view_of}
use Rattle.global_model.specs.Due.{got_lines}
use Rattle.global_model.specs.Parts.{Opening, Birth, Warning, Death, Kill, Start, Owning, Delivery, Receipt, Lacks}
use Rattle.global_model.specs.Apt.{IsNear, IsGetting, NothingArrives, IsApt, AreApt}
use Rattle.global_model.proofs.Pasts.{after_lines-append}
use Rattle.global_model.proofs.Flow.{valid_arriving, arriving_sent, IsNextToGet, next_arrives}
use Rattle.global_model.proofs.Tree.{living_born, near_admitted}
use Rattle.global_model.proofs.Ways.{NamesNear, near_more}
use Rattle.global_model.proofs.Sound.{IsSound, sound_line, apt_append, at_pair_has, at_channel}
use Rattle.global_model.proofs.Shown.{admitted-living}
use Rattle.global_model.proofs.Writes.{EachIs, KnowsNear, MaySend, MayWrite, writes_record}

pub at_pair_same : {A : Type 0} (x y : ℕ) (h : A → A) (f : ℕ → ℕ → A) → at_pair x y h f x y ≡ h (f x y)
at_pair_same x y h f = rw (eq-eqb x x refl, eq-eqb y y refl) refl

-- the records rs at one pair, and none elsewhere
abbrev pub only_at : ℕ → ℕ → List Record → ℕ → ℕ → List Record
only_at x y rs a b = at_pair x y (λ none. rs) (λ x y. []) a b

-- who are neighbours and who live is given; the records rs are still to be got of the channel from x to y, and all others were got
pub record IsTurn (near : ℕ → ℕ → Bool) (lives : ℕ → Bool) (x y : ℕ) (rs : List Record) (G : Facts) : Type 0 where
  pub sound : IsSound G
  pub same : (a b : ℕ) → is_neighbour G a b ≡ near a b
  pub alive : (e : ℕ) → is_living_enclave (G.enclave e) ≡ lives e
  pub arrives : (a b : ℕ) → arriving (G.channel a b) ≡ only_at x y rs a b

-- who lives, by the facts
abbrev pub lives_in : Facts → ℕ → Bool
lives_in G e = is_living_enclave (G.enclave e)

pub begin_turn : (x y : ℕ) (G : Facts) → IsSound G → NothingArrives G → IsTurn (is_neighbour G) (lives_in G) x y [] G
begin_turn x y G sound none = record {
  sound = sound;
  same = λ a b. refl;
  alive = λ e. refl;
  arrives = λ a b. none a b ∙ sym (at_pair_has (λ rs. rs ≡ []) x y (λ none. []) (λ x y. []) a b (λ is_x is_y. refl) refl);
}

pub end_turn : (near : ℕ → ℕ → Bool) (lives : ℕ → Bool) (x y : ℕ) (G : Facts) → IsTurn near lives x y [] G → NothingArrives G
end_turn near lives x y G turn a b = turn.arrives a b ∙ at_pair_has (λ rs. rs ≡ []) x y (λ none. []) (λ x y. []) a b (λ is_x is_y. refl) refl

-- where nothing is to be got, it makes no difference of which channel
pub other_turn : (near : ℕ → ℕ → Bool) (lives : ℕ → Bool) (x y z w : ℕ) (G : Facts) → IsTurn near lives x y [] G → IsTurn near lives z w [] G
other_turn near lives x y z w G turn = record {
  sound = turn.sound;
  same = turn.same;
  alive = turn.alive;
  arrives = (begin_turn z w G turn.sound (end_turn near lives x y G turn)).arrives;
}

-- ---- lines that bear nobody, take nothing, and name neighbours alone

-- the enclave lives, and that one is its neighbour
pub record IsClose (near : ℕ → ℕ → Bool) (lives : ℕ → Bool) (e x : Enclave) : Type 0 where
  pub living : lives e.0 ≡ true
  pub beside : near e.0 x.0 ≡ true

abbrev pub IsProper : (ℕ → ℕ → Bool) → (ℕ → Bool) → Line → Type 0
IsProper near lives (lines.Admitted e) = lives e.0 ≡ true
IsProper near lives (lines.Sent x y r) = IsClose near lives x y × (is_valid r ≡ true)
IsProper near lives (lines.Issue e p call) = lives e.0 ≡ true
IsProper near lives (lines.Drew e call segid) = (lives 0 ≡ true) × IsName segid.0
IsProper near lives (lines.Named e call segid) = (lives e.0 ≡ true) × IsName segid.0
IsProper near lives (lines.Unnamed segid) = (lives 0 ≡ true) × IsName segid.0
IsProper near lives (lines.Grant owner e call segid access) = (lives owner.0 ≡ true) × IsName segid.0
IsProper near lives (lines.Ungrant owner e call) = lives owner.0 ≡ true
IsProper near lives (lines.Remove e segid) = (lives e.0 ≡ true) × IsName segid.0
IsProper near lives (lines.AnswerSegid e p call segid) = (lives e.0 ≡ true) × IsName segid.0
IsProper near lives (lines.AnswerApid e p call apid pages) = lives e.0 ≡ true
IsProper near lives (lines.AnswerRefused e p call cause) = lives e.0 ≡ true
IsProper near lives (lines.Release e call) = lives e.0 ≡ true
IsProper near lives (lines.Name segid owner) = IsName segid.0
IsProper near lives (lines.Asked e by) = IsClose near lives e by
IsProper near lives (lines.Way e over) = IsClose near lives e over
IsProper near lives (lines.Back e of over) = IsClose near lives e over
IsProper near lives (lines.Route e of over) = IsClose near lives e over
IsProper near lives line = Lacks (Opening ∷ Birth ∷ Warning ∷ Death ∷ Kill ∷ Start ∷ Owning ∷ Delivery ∷ Receipt ∷ []) line

abbrev pub AreProper : (ℕ → ℕ → Bool) → (ℕ → Bool) → List Line → Type 0
AreProper near lives journal = EachIs (IsProper near lives) journal

-- lines that are apt, and what they leave
pub record IsUpTo (near : ℕ → ℕ → Bool) (lives : ℕ → Bool) (x y : ℕ) (rs : List Record) (G : Facts) (journal : List Line) : Type 0 where
  pub apt : AreApt G journal
  pub turn : IsTurn near lives x y rs (after_lines G journal)

pub up_to-append : (near : ℕ → ℕ → Bool) (lives : ℕ → Bool) (x y : ℕ) (ss rs : List Record) (G : Facts) (ls ms : List Line) → IsUpTo near lives x y ss G ls
    → IsUpTo near lives x y rs (after_lines G ls) ms → IsUpTo near lives x y rs G (ls ++ ms)
up_to-append near lives x y ss rs G ls ms first more = record {
  apt = apt_append G ls ms first.apt more.apt;
  turn = subst (IsTurn near lives x y rs) (sym (after_lines-append G ls ms)) more.turn;
}

module _ (near : ℕ → ℕ → Bool) (lives : ℕ → Bool) (x y : ℕ) (rs : List Record) where
  -- a line that is apt, and what it leaves
  record IsOn (G : Facts) (line : Line) : Type 0 where
    apt : IsApt G line
    turn : IsTurn near lives x y rs (after_line G line)

  -- a line that keeps who lives and what arrives
  goes_on : (G : Facts) (line : Line) → IsTurn near lives x y rs G → IsApt G line
      → ((e : ℕ) → (after_line G line).enclave e ≡ G.enclave e) → ((a b : ℕ) → arriving ((after_line G line).channel a b) ≡ arriving (G.channel a b)) → IsOn G line
  goes_on G line turn apt enclaves arrive = record {
    apt = apt;
    turn = record {
      sound = sound_line G line turn.sound apt;
      same = λ a b. rw (enclaves a, enclaves b) (turn.same a b);
      alive = λ e. rw (enclaves e) (turn.alive e);
      arrives = λ a b. arrive a b ∙ turn.arrives a b;
    };
  }

  close_near : (G : Facts) (e z : Enclave) → IsTurn near lives x y rs G → IsClose near lives e z → IsNear G e z
  close_near G e z turn close = record { living = turn.alive e.0 ∙ close.living; near = turn.same e.0 z.0 ∙ close.beside }

  -- where the host lives, so does the enclave with the name server
  holder_lives : (G : Facts) → IsTurn near lives x y rs G → lives 0 ≡ true → is_living_enclave (G.enclave G.holder.0) ≡ true
  holder_lives G turn host =
      let born = living_born G 0 turn.sound.tree (turn.alive 0 ∙ host) in
      turn.sound.tree.all_live G.holder.0 (turn.sound.seat born)

  proper_line : (line : Line) (G : Facts) → IsProper near lives line → IsTurn near lives x y rs G → IsOn G line
  proper_line (lines.Do command) G proper turn = absurd proper
  proper_line (lines.Born e kind parent ns blocks) G proper turn = absurd proper
  proper_line (lines.Told e dead) G proper turn = absurd proper
  proper_line (lines.Heard e dead) G proper turn = absurd proper
  proper_line (lines.Proc e p uid gid) G proper turn = absurd proper
  proper_line (lines.Alloc e p page frames) G proper turn = absurd proper
  proper_line (lines.Took a b count) G proper turn = absurd proper
  proper_line (lines.Got a b) G proper turn = absurd proper
  proper_line (lines.Killed a cut) G proper turn = absurd proper
  proper_line (lines.End a b torn) G proper turn = absurd proper
  proper_line (lines.Admitted e) G proper turn =
      let living = turn.alive e.0 ∙ proper in
      record {
        apt = living;
        turn = record {
          sound = sound_line G (lines.Admitted e) turn.sound living;
          same = λ a b. near_admitted G e a b ∙ turn.same a b;
          alive = λ k. admitted-living G e k ∙ turn.alive k;
          arrives = turn.arrives;
        };
      }
  proper_line (lines.Sent a b r) G proper turn =
      goes_on G (lines.Sent a b r) turn (record { between = close_near G a b turn proper.0; valid = proper.1 }) (λ e. refl)
      (λ c d. at_pair_has (λ channel. arriving channel ≡ arriving (G.channel c d)) a.0 b.0 (with_sent r) G.channel c d
      (λ is_a is_b. arriving_sent r (G.channel c d) (turn.sound.flows c d)) refl)
  proper_line (lines.Asked e by) G proper turn = goes_on G (lines.Asked e by) turn (close_near G e by turn proper) (λ e. refl) (λ a b. refl)
  proper_line (lines.Way e over) G proper turn = goes_on G (lines.Way e over) turn (close_near G e over turn proper) (λ e. refl) (λ a b. refl)
  proper_line (lines.Back e of over) G proper turn = goes_on G (lines.Back e of over) turn (close_near G e over turn proper) (λ e. refl) (λ a b. refl)
  proper_line (lines.Route e of over) G proper turn = goes_on G (lines.Route e of over) turn (close_near G e over turn proper) (λ e. refl) (λ a b. refl)
  proper_line (lines.Issue e p call) G proper turn = goes_on G (lines.Issue e p call) turn (turn.alive e.0 ∙ proper) (λ e. refl) (λ a b. refl)
  proper_line (lines.Drew e call segid) G proper turn =
      goes_on G (lines.Drew e call segid) turn (record { living = holder_lives G turn proper.0; range = proper.1 }) (λ e. refl) (λ a b. refl)
  proper_line (lines.Named e call segid) G proper turn =
      goes_on G (lines.Named e call segid) turn (record { living = turn.alive e.0 ∙ proper.0; range = proper.1 }) (λ e. refl) (λ a b. refl)
  proper_line (lines.Unnamed segid) G proper turn =
      goes_on G (lines.Unnamed segid) turn (record { living = holder_lives G turn proper.0; range = proper.1 }) (λ e. refl) (λ a b. refl)
  proper_line (lines.Grant owner e call segid access) G proper turn =
      goes_on G (lines.Grant owner e call segid access) turn (record { living = turn.alive owner.0 ∙ proper.0; range = proper.1 }) (λ e. refl) (λ a b. refl)
  proper_line (lines.Ungrant owner e call) G proper turn = goes_on G (lines.Ungrant owner e call) turn (turn.alive owner.0 ∙ proper) (λ e. refl) (λ a b. refl)
  proper_line (lines.Remove e segid) G proper turn =
      goes_on G (lines.Remove e segid) turn (record { living = turn.alive e.0 ∙ proper.0; range = proper.1 }) (λ e. refl) (λ a b. refl)
  proper_line (lines.AnswerApid e p call apid pages) G proper turn = goes_on G (lines.AnswerApid e p call apid pages) turn (turn.alive e.0 ∙ proper) (λ e. refl) (λ a b. refl)
  proper_line (lines.AnswerRefused e p call cause) G proper turn = goes_on G (lines.AnswerRefused e p call cause) turn (turn.alive e.0 ∙ proper) (λ e. refl) (λ a b. refl)
  proper_line (lines.Release e call) G proper turn = goes_on G (lines.Release e call) turn (turn.alive e.0 ∙ proper) (λ e. refl) (λ a b. refl)
  proper_line (lines.AnswerSegid e p call segid) G proper turn =
      goes_on G (lines.AnswerSegid e p call segid) turn (record { living = turn.alive e.0 ∙ proper.0; range = proper.1 }) (λ e. refl) (λ a b. refl)
  proper_line (lines.Name segid owner) G proper turn = goes_on G (lines.Name segid owner) turn proper (λ e. refl) (λ a b. refl)
  proper_line line G proper turn = goes_on G line turn tt (λ e. refl) (λ a b. refl)

  pub proper_lines : (ls : List Line) (G : Facts) → AreProper near lives ls → IsTurn near lives x y rs G → IsUpTo near lives x y rs G ls
  proper_lines [] G proper turn = record { apt = tt; turn = turn }
  proper_lines (l ∷ ls) G proper turn =
      let one = proper_line l G proper.0 turn in
      let more = proper_lines ls (after_line G l) proper.1 one.turn in
      record { apt = (one.apt, more.apt); turn = more.turn }

-- ---- what is written for a record

pub number_fits : (born e : ℕ) → born ≤ 256 → e < born → is_enclave e ≡ true
number_fits born e most lt = le-leb e 255 (omega (arith, most, lt))

valid_origin : (r : Record) → is_valid r ≡ true → is_enclave r.origin.0 ≡ true
unfolding is_valid
valid_origin r valid = let three = and_parts _ _ valid in let two = and_parts _ _ three.0 in (and_parts _ _ two.0).1

may_send : (v : View) (r : Record) → is_enclave v.me.0 ≡ true → is_valid r ≡ true → is_enclave r.origin.0 ≡ true
    → MaySend (λ r. is_valid r ≡ true) v r
unfolding is_valid
may_send v r me valid other = record { here = rw me refl; register = rw me refl; admit = rw (me, other) refl; made = λ m is. is; passed = valid }

-- what an enclave that lives may write, where the host lives
pub proper_writes : (near : ℕ → ℕ → Bool) (lives : ℕ → Bool) (v : View) → lives v.me.0 ≡ true → lives 0 ≡ true
    → MayWrite (IsProper near lives) (λ x. near v.me.0 x.0 ≡ true) (λ r. is_valid r ≡ true) v
proper_writes near lives v living host = record {
  dropped = tt;
  admitted = living;
  asked = λ x is. here x is;
  way = λ x is. here x is;
  back = λ d x is. here x is;
  route = λ d x is. here x is;
  drew = λ held e call segid range. (host, range);
  named = λ call segid range. (living, range);
  unnamed = λ held segid range. (host, range);
  answered = λ p call segid range. (living, range);
  sent = λ x r is valid. (here x is, valid);
}
  where
    here : (x : Enclave) → near v.me.0 x.0 ≡ true → IsClose near lives v.me x
    here x is = record { living = living; beside = is }

pub knows_proper : (near : ℕ → ℕ → Bool) (v : View) → NamesNear (λ x. near v.me.0 x.0 ≡ true) v.ways → KnowsNear (λ x. near v.me.0 x.0 ≡ true) v
knows_proper near v known = record { way = known.way; askers = known.askers; backs = known.backs; routes = known.routes }

proper_record : (near : ℕ → ℕ → Bool) (lives : ℕ → Bool) (v : View) (from : Enclave) (r : Record) → NamesNear (λ x. near v.me.0 x.0 ≡ true) v.ways
    → IsClose near lives v.me from → lives 0 ≡ true → is_enclave v.me.0 ≡ true → is_valid r ≡ true → AreProper near lives (record_lines v from r)
proper_record near lives v from r known close host me valid =
    writes_record (IsProper near lives) (λ x. near v.me.0 x.0 ≡ true) (λ r. is_valid r ≡ true) v (proper_writes near lives v close.living host)
    from r (knows_proper near v known) close.beside (may_send v r me valid (valid_origin r valid))

-- ---- records are got

module _ (near : ℕ → ℕ → Bool) (lives : ℕ → Bool) (x y : Enclave) (close : IsClose near lives y x) where
  -- the next record is got
  one_got : (r : Record) (rs : List Record) (G : Facts) → IsTurn near lives x.0 y.0 (r ∷ rs) G → IsUpTo near lives x.0 y.0 rs G (lines.Got x y ∷ [])
  one_got r rs G turn =
      let next : IsNextToGet (G.channel x.0 y.0) rs
      = next_arrives (G.channel x.0 y.0) r rs (turn.sound.flows x.0 y.0) (turn.arrives x.0 y.0 ∙ at_pair_same x.0 y.0 (λ none. r ∷ rs) (λ x y. [])) in
      let apt : IsGetting G x y = record {
        between = record { living = turn.alive y.0 ∙ close.living; near = turn.same y.0 x.0 ∙ close.beside };
        rec = r;
        later = rs;
        arrives = turn.arrives x.0 y.0 ∙ at_pair_same x.0 y.0 (λ none. r ∷ rs) (λ x y. []);
      } in
      record {
        apt = (apt, tt);
        turn = record {
          sound = sound_line G (lines.Got x y) turn.sound apt;
          same = turn.same;
          alive = turn.alive;
          arrives = λ a b. by G a b (eqb a x.0 && eqb b y.0) refl (at_channel G x.0 y.0 (λ c. arriving (with_got c) ≡ rs) a b next.rest) (turn.arrives a b);
        };
      }
    where
      by : (G : Facts) (a b : ℕ) (t : Bool) → (eqb a x.0 && eqb b y.0) ≡ t → (a ≡ x.0 → b ≡ y.0 → arriving (with_got (G.channel a b)) ≡ rs)
          → arriving (G.channel a b) ≡ cond t (r ∷ rs) [] → arriving (cond t (with_got (G.channel a b)) (G.channel a b)) ≡ cond t rs []
      by G a b true is here there = let both = and_parts (eqb a x.0) (eqb b y.0) is in here (eqb-true a x.0 both.0) (eqb-true b y.0 both.1)
      by G a b false is here there = there

  -- the next record is got and answered
  pub got_step : (r : Record) (rs : List Record) (G : Facts) → IsTurn near lives x.0 y.0 (r ∷ rs) G
      → IsUpTo near lives x.0 y.0 rs G (handled_lines (view_of G y) x r)
  got_step r rs G turn =
      let valid : AreValid (r ∷ rs)
      = subst AreValid (turn.arrives x.0 y.0 ∙ at_pair_same x.0 y.0 (λ none. r ∷ rs) (λ x y. [])) (valid_arriving (G.channel x.0 y.0) (turn.sound.flows x.0 y.0)) in
      let first : IsUpTo near lives x.0 y.0 rs G (lines.Got x y ∷ []) = one_got r rs G turn in
      let me : is_enclave y.0 ≡ true = number_fits G.born y.0 turn.sound.tree.most (living_born G y.0 turn.sound.tree (turn.alive y.0 ∙ close.living)) in
      let host : lives 0 ≡ true = sym (turn.alive 0) ∙ turn.sound.tree.root (omega (arith, living_born G y.0 turn.sound.tree (turn.alive y.0 ∙ close.living))) in
      let known = near_more (is_neighbour G) near G.ways (λ a b is. sym (turn.same a b) ∙ is) turn.sound.near y.0 in
      let answer : IsUpTo near lives x.0 y.0 rs (after_line G (lines.Got x y)) (record_lines (view_of G y) x r)
      = proper_lines near lives x.0 y.0 rs (record_lines (view_of G y) x r) (after_line G (lines.Got x y)) (proper_record near lives (view_of G y) x r known close host me valid.0) first.turn in
      record { apt = (first.apt.0, answer.apt); turn = answer.turn }

  pub got_steps : (rs : List Record) (G : Facts) → IsTurn near lives x.0 y.0 rs G → IsUpTo near lives x.0 y.0 [] G (got_lines G x y rs)
  got_steps [] G turn = record { apt = tt; turn = turn }
  got_steps (r ∷ rs) G turn =
      let own = handled_lines (view_of G y) x r in
      let one : IsUpTo near lives x.0 y.0 rs G own = got_step r rs G turn in
      up_to-append near lives x.0 y.0 rs [] G own (got_lines (after_lines G own) x y rs) one (got_steps rs (after_lines G own) one.turn)
