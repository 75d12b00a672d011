-- The records that arrive at the end of a channel are answered by the view of the enclave there.
use Rattle.std.proofs.Common.{◌≡◌, ◌≢◌, ◌-◌, ℕ, zero, suc, List, [], ◌∷◌, ◌++◌, drop, Bool, true, false, cond, eqb, leb, Some, refl, sym, ap, ◌∙◌}
use Rattle.std.specs.Prelude.{slice_get}
use Rattle.std.specs.Option.{option_map_or}
use Rattle.xm_num.specs.declared.Enclave.{Enclave}
use Rattle.xemem_language.specs.declared.record.Record.{Record}
use Rattle.xemem_language.specs.declared.line.Line.{Line}
use Rattle.xemem_language.specs.declared.line.Line.TheVariants as lines
use Rattle.enclave_rules.specs.Hand.{Nothing, Reads}
use Rattle.enclave_rules.specs.View.{View, own_lines, IsAbout, AreAbout}
use Rattle.enclave_rules.specs.Steps.{record_lines, handled_lines, after_record, lines_of_records, after_records}
use Rattle.global_model.specs.Facts.{Facts, ChannelFact, hand_after, after_line, after_lines}
use Rattle.global_model.specs.Channels.{arriving, is_neighbour, whole_records, size_of}
use Rattle.global_model.specs.Views.{view_of, seen_line, seen_lines}
use Rattle.global_model.specs.Due.{got_lines}
use Rattle.global_model.specs.Handled.{AreHandled}
use Rattle.global_model.specs.Apt.{IsTaking}
use Rattle.global_model.proofs.Sound.{IsSound}
use Rattle.global_model.proofs.Turns.{at_pair_same, IsTurn, begin_turn, lives_in, IsClose, IsUpTo, got_step}
use Rattle.global_model.proofs.Deliveries.{took}
use Rattle.global_model.proofs.Views.{about_record, IsHeldBy, seen_own, seen_other}
use Rattle.global_model.proofs.Plain.{each-weaker}
use Rattle.global_model.specs.Parts.{Opening, Lacks}
use Rattle.global_model.proofs.Seen.{seen_by, about_later}

-- ---- the record that is got next

next_whole : (n k : ℕ) (rs later : List Record) (r : Record) → drop k (whole_records n rs) ≡ r ∷ later → slice_get rs k ≡ Some r
next_whole n zero [] later r is = cc
next_whole n zero (s ∷ ss) later r is = by (leb (size_of s) n) is
  where
    by : (b : Bool) → cond b (s ∷ whole_records (n - size_of s) ss) [] ≡ r ∷ later → Some s ≡ Some r
    by true same = let first : s ≡ r = cc in ap Some first
    by false same = cc
next_whole n (suc k) [] later r is = cc
next_whole n (suc k) (s ∷ ss) later r is = by (leb (size_of s) n) is (next_whole (n - size_of s) k ss later r)
  where
    by : (b : Bool) → drop (suc k) (cond b (s ∷ whole_records (n - size_of s) ss) []) ≡ r ∷ later
        → (drop k (whole_records (n - size_of s) ss) ≡ r ∷ later → slice_get ss k ≡ Some r) → slice_get ss k ≡ Some r
    by true same more = more same
    by false same more = cc

-- so it is at hand then
hand_is : (channel : ChannelFact) (later : List Record) (r : Record) → arriving channel ≡ r ∷ later → hand_after channel ≡ Reads r
hand_is channel later r is = ap (λ o. option_map_or (λ r. Reads r) o Nothing) (next_whole channel.taken channel.got channel.sent later r is)

-- ---- lines one after the other

seen-append : (ls ms : List Line) (G : Facts) (v : View) → seen_lines G v (ls ++ ms) ≡ seen_lines (after_lines G ls) (seen_lines G v ls) ms
seen-append [] ms G v = refl
seen-append (l ∷ ls) ms G v = seen-append ls ms (after_line G l) (seen_line G v l)

-- a line that is got changes no view
got_seen : (G : Facts) (x y : Enclave) (v : View) → seen_line G v (lines.Got x y) ≡ v
got_seen G x y v = by (eqb y.0 v.me.0)
  where
    by : (b : Bool) → cond b v v ≡ v
    by true = refl
    by false = refl

module _ (near : ℕ → ℕ → Bool) (lives : ℕ → Bool) (x y : Enclave) (close : IsClose near lives y x) where
  -- one record
  record IsOneHandled (G : Facts) (r : Record) (rs : List Record) : Type 0 where
    turn : IsTurn near lives x.0 y.0 rs (after_lines G (handled_lines (view_of G y) x r))
    view : view_of (after_lines G (handled_lines (view_of G y) x r)) y ≡ after_record (view_of G y) x r
    own : seen_lines G (view_of G y) (handled_lines (view_of G y) x r) ≡ after_record (view_of G y) x r
    others : (w : View) → w.me.0 ≢ y.0 → seen_lines G w (handled_lines (view_of G y) x r) ≡ w

  one_handled : (G : Facts) (r : Record) (rs : List Record) → IsTurn near lives x.0 y.0 (r ∷ rs) G → IsOneHandled G r rs
  one_handled G r rs turn =
      let v = view_of G y in
      let answer = record_lines v x r in
      let K = after_line G (lines.Got x y) in
      let up : IsUpTo near lives x.0 y.0 rs G (handled_lines v x r) = got_step near lives x y close r rs G turn in
      let held : IsHeldBy G.holder v = λ has. λ i. record { 0 = (turn.sound.server.held y.0 has).1 i } in
      let about : AreAbout G.holder y answer = about_record G.holder v x r held in
      let hand : K.hand ≡ Reads r = hand_is (G.channel x.0 y.0) rs r (turn.arrives x.0 y.0 ∙ at_pair_same x.0 y.0 (λ none. r ∷ rs) (λ x y. [])) in
      let own : seen_lines G v (handled_lines v x r) ≡ after_record v x r
      = ap (λ w. seen_lines K w answer) (got_seen G x y v) ∙ seen_own answer K v (turn.sound.plain y.0) about ∙ ap (λ h. own_lines h v answer) hand in
      record {
        turn = up.turn;
        view = seen_by (handled_lines v x r) G y (tt, each-weaker (IsAbout G.holder y) (Lacks (Opening ∷ [])) (about_later G.holder y) answer about) turn.sound up.apt ∙ own;
        own = own;
        others = λ w apart. ap (λ u. seen_lines K u answer) (got_seen G x y w) ∙ seen_other answer K y w about apart;
      }

  -- all of them
  record AreAll (G : Facts) (rs : List Record) : Type 0 where
    lines : got_lines G x y rs ≡ lines_of_records (view_of G y) x rs
    own : seen_lines G (view_of G y) (got_lines G x y rs) ≡ after_records (view_of G y) x rs
    others : (w : View) → w.me.0 ≢ y.0 → seen_lines G w (got_lines G x y rs) ≡ w

  all_handled : (rs : List Record) (G : Facts) → IsTurn near lives x.0 y.0 rs G → AreAll G rs
  all_handled [] G turn = record { lines = refl; own = refl; others = λ w apart. refl }
  all_handled (r ∷ rs) G turn =
      let v = view_of G y in
      let first = handled_lines v x r in
      let H = after_lines G first in
      let one : IsOneHandled G r rs = one_handled G r rs turn in
      let more : AreAll H rs = all_handled rs H one.turn in
      record {
        lines = ap (λ ls. first ++ ls) (more.lines ∙ ap (λ w. lines_of_records w x rs) one.view);
        own = seen-append first (got_lines H x y rs) G v ∙ ap (λ w. seen_lines H w (got_lines H x y rs)) (one.own ∙ sym one.view) ∙ more.own ∙ ap (λ w. after_records w x rs) one.view;
        others = λ w apart. seen-append first (got_lines H x y rs) G w ∙ ap (λ u. seen_lines H u (got_lines H x y rs)) (one.others w apart) ∙ more.others w apart;
      }

-- ---- a delivery

pub taken_handled : (G : Facts) (x y : Enclave) (n : ℕ) → IsSound G → IsTaking G x y n → AreHandled (after_line G (lines.Took x y n)) x y
taken_handled G x y n sound taking =
    let near = is_neighbour G in
    let lives = lives_in G in
    let close : IsClose near lives y x = record { living = taking.between.living; beside = taking.between.near } in
    let start = took near lives x y n G close taking.some taking.wait (begin_turn x.0 y.0 G sound taking.turn) in
    let all = all_handled near lives x y close _ (after_line G (lines.Took x y n)) start.turn in
    record { lines = all.lines; own = all.own; others = all.others }
