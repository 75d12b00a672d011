-- Deliveries are apt: bytes are taken of those that wait, and the records that are whole then arrive; and so is a settle.
use Rattle.std.proofs.Common.{◌≡◌, ◌+◌, ◌≤◌, ℕ, zero, suc, min, List, [], ◌∷◌, ◌++◌, length, Bool, true, false, cond, ◌&&◌, eqb, Option, None, Some, refl, sym, ap, ◌∙◌, arith}
use Rattle.std.specs.Option.{option_map_or}
use Rattle.std.proofs.lemmas.Bool.{eqb-true, eqb-false, and_parts}
use Rattle.xm_num.specs.declared.Enclave.{Enclave}
use Rattle.xemem_language.specs.declared.record.Record.{Record}
use Rattle.xemem_language.specs.declared.line.Line.{Line}
use Rattle.xemem_language.specs.declared.line.Line.TheVariants as lines
use Rattle.global_model.specs.Facts.{Facts, with_taken, after_line, after_lines}
use Rattle.global_model.specs.Channels.{waiting_in, arriving}
use Rattle.global_model.specs.Due.{took_lines, deliver_lines, next_rest, first_waiting, settle_end, settle_from}
use Rattle.global_model.specs.Apt.{IsNear, IsTaking}
use Rattle.global_model.proofs.Sound.{at_channel, sound_line}
use Rattle.global_model.proofs.Tells.{MayTell, tells_end}
use Rattle.global_model.proofs.Tree.{near-turned}
use Rattle.global_model.proofs.Turns.{at_pair_same, IsTurn, end_turn, other_turn, IsClose, IsProper, AreProper, IsUpTo, up_to-append, proper_lines, got_steps}
use Rattle.global_model.proofs.Waiting.{IsWaiting, first_waits, rest_waits}

-- what is told beside records is proper
pub proper_tells : (near : ℕ → ℕ → Bool) (lives : ℕ → Bool) → MayTell (IsProper near lives)
proper_tells near lives = record {
  bytes = λ x y at bytes some most. tt;
  own = λ e. tt;
  none = λ e. tt;
  way = λ e over. tt;
  route = λ e d over. tt;
  free = λ b. tt;
  lent = λ b e. tt;
  held = λ b e. tt;
}

module _ (near : ℕ → ℕ → Bool) (lives : ℕ → Bool) where
  -- bytes are taken, and the records that are whole now arrive
  pub record IsTook (x y : Enclave) (n : ℕ) (G : Facts) : Type 0 where
    pub apt : IsTaking G x y n
    pub turn : IsTurn near lives x.0 y.0 (arriving ((after_line G (lines.Took x y n)).channel x.0 y.0)) (after_line G (lines.Took x y n))

  pub took : (x y : Enclave) (n : ℕ) (G : Facts) → IsClose near lives y x → 1 ≤ n → n ≤ length (waiting_in G x.0 y.0)
      → IsTurn near lives x.0 y.0 [] G → IsTook x y n G
  took x y n G close one within turn =
      let H = after_line G (lines.Took x y n) in
      let apt : IsTaking G x y n = record {
        between = record { living = turn.alive y.0 ∙ close.living; near = turn.same y.0 x.0 ∙ close.beside };
        some = one;
        wait = within;
        turn = end_turn near lives x.0 y.0 G turn;
      } in
      let whole : arriving (with_taken n (G.channel x.0 y.0)) ≡ arriving (H.channel x.0 y.0)
      = ap arriving (sym (at_pair_same x.0 y.0 (with_taken n) G.channel)) in
      record {
        apt = apt;
        turn = record {
          sound = sound_line G (lines.Took x y n) turn.sound apt;
          same = turn.same;
          alive = turn.alive;
          arrives = λ a b. by (arriving (H.channel x.0 y.0)) a b (eqb a x.0 && eqb b y.0) refl
              (at_channel G x.0 y.0 (λ c. arriving (with_taken n c) ≡ arriving (H.channel x.0 y.0)) a b whole) (turn.arrives a b);
        };
      }
    where
      by : (rs : List Record) (a b : ℕ) (t : Bool) → (eqb a x.0 && eqb b y.0) ≡ t
          → (a ≡ x.0 → b ≡ y.0 → arriving (with_taken n (G.channel a b)) ≡ rs) → arriving (G.channel a b) ≡ cond t [] []
          → arriving (cond t (with_taken n (G.channel a b)) (G.channel a b)) ≡ cond t rs []
      by rs a b true is here there = let both = and_parts (eqb a x.0) (eqb b y.0) is in here (eqb-true a x.0 both.0) (eqb-true b y.0 both.1)
      by rs a b false is here there = there

  took_up_to : (x y : Enclave) (n : ℕ) (G : Facts) → IsClose near lives y x → 1 ≤ n → n ≤ length (waiting_in G x.0 y.0)
      → IsTurn near lives x.0 y.0 [] G → IsUpTo near lives x.0 y.0 [] G (took_lines G x y n)
  took_up_to x y n G close one within turn =
      let H = after_line G (lines.Took x y n) in
      let start : IsTook x y n G = took x y n G close one within turn in
      let more = got_steps near lives x y close (arriving (H.channel x.0 y.0)) H start.turn in
      record { apt = (start.apt, more.apt); turn = more.turn }

  pub deliver_up_to : (x y : Enclave) (count : ℕ) (G : Facts) → 1 ≤ count → IsNear G y x → IsTurn near lives 0 0 [] G
      → IsUpTo near lives 0 0 [] G (deliver_lines G x y count)
  deliver_up_to x y count G some between turn = by (eqb (length (waiting_in G x.0 y.0)) 0) refl
    where
      by : (t : Bool) → eqb (length (waiting_in G x.0 y.0)) 0 ≡ t
          → IsUpTo near lives 0 0 [] G (cond t (lines.Idle x y ∷ []) (took_lines G x y (min count (length (waiting_in G x.0 y.0)))))
      by true is = proper_lines near lives 0 0 [] (lines.Idle x y ∷ []) G (tt, tt) turn
      by false is =
          let waiting = length (waiting_in G x.0 y.0) in
          let not_none : waiting ≡ 0 → ⊥ = eqb-false waiting 0 is in
          let close : IsClose near lives y x = record { living = sym (turn.alive y.0) ∙ between.living; beside = sym (turn.same y.0 x.0) ∙ between.near } in
          let up = took_up_to x y (min count waiting) G close (omega (arith, some, not_none)) (omega arith) (other_turn near lives 0 0 x.0 y.0 G turn) in
          record { apt = up.apt; turn = other_turn near lives x.0 y.0 0 0 _ up.turn }

-- ---- a settle

proper_end : (near : ℕ → ℕ → Bool) (lives : ℕ → Bool) (G : Facts) (made : ℕ) → AreProper near lives (settle_end G made ∷ [])
proper_end near lives G made = (tells_end (IsProper near lives) (λ made. tt) (λ made. tt) G made, tt)

-- the rest of a settle, where that channel is the first in which something waits
abbrev pub settle_at : ℕ → ℕ → Facts → Option (Enclave × Enclave) → List Line
settle_at left made G first =
    option_map_or (λ channel. let own = deliver_lines G channel.0 channel.1 (next_rest G channel.0 channel.1) in own ++ settle_from left
    (made + 1) (after_lines G own)) first (settle_end G made ∷ [])

pub settle_up_to : (near : ℕ → ℕ → Bool) (lives : ℕ → Bool) (left made : ℕ) (G : Facts) → IsTurn near lives 0 0 [] G
    → IsUpTo near lives 0 0 [] G (settle_from left made G)
settle_up_to near lives zero made G turn = proper_lines near lives 0 0 [] (settle_end G made ∷ []) G (proper_end near lives G made) turn
settle_up_to near lives (suc left) made G turn = by (first_waiting G) refl (settle_up_to near lives left (made + 1))
  where
    by : (o : Option (Enclave × Enclave)) → first_waiting G ≡ o
        → ((H : Facts) → IsTurn near lives 0 0 [] H → IsUpTo near lives 0 0 [] H (settle_from left (made + 1) H))
        → IsUpTo near lives 0 0 [] G (settle_at left made G o)
    by None is more = proper_lines near lives 0 0 [] (settle_end G made ∷ []) G (proper_end near lives G made) turn
    by (Some channel) is more =
        let x = channel.0 in
        let y = channel.1 in
        let found : IsWaiting G x y = first_waits G x y turn.sound.tree is in
        let rest = rest_waits G x y found.some in
        let own = deliver_lines G x y (next_rest G x y) in
        let between : IsNear G y x = record { living = found.living; near = near-turned G y.0 x.0 ∙ found.near } in
        let one : IsUpTo near lives 0 0 [] G own = deliver_up_to near lives x y (next_rest G x y) G rest.some between turn in
        up_to-append near lives 0 0 [] [] G own (settle_from left (made + 1) (after_lines G own)) one (more (after_lines G own) one.turn)
