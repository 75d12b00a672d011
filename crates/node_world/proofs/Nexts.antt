-- The next delivery of a settle, by the machine and by the facts.
use Rattle.std.proofs.Common.{◌≡◌, ◌+◌, ◌-◌, ◌<◌, ◌≤◌, ℕ, zero, suc, List, [], ◌∷◌, ◌++◌, length, map, Bool, true, false, cond, eqb, ltb, leb, not, ◌&&◌, ◌||◌, Option, None, Some, refl, sym, ap, ◌∙◌, arith, length-append, length-drop}
use Rattle.std.specs.Prelude.{filter, drop, slice_get}
use Rattle.std.specs.List.{concat, flat_map, range_with_len}
use Rattle.std.proofs.Math.Bool.{or-false}
use Rattle.std.specs.Option.{option_map}
use Rattle.std.proofs.lemmas.Bool.{lt-ltb, ne_eqb, leb-true, leb-false}
use Rattle.std.proofs.lemmas.List.{drop_all, map-append}
use Rattle.std.proofs.lemmas.List.Elements.{filter-append}
use Rattle.xm_num.specs.declared.Enclave.{Enclave}
use Rattle.byte_link.specs.Channel.{Channel, waiting_bytes, boundary_of, first_length, filled_pieces, later_bytes}
use Rattle.byte_link.specs.Passage.{left_of}
use Rattle.xemem_language.specs.declared.record.Record.{Record}
use Rattle.xemem_wire.specs.Spelling.{spelling_of}
use Rattle.xemem_language.specs.declared.command.Command.{Command}
use Rattle.xemem_language.specs.declared.command.Command.TheVariants as commands
use Rattle.global_model.specs.Facts.{Facts, ChannelFact, lives_at}
use Rattle.global_model.specs.Channels.{is_child_of, size_of, waiting_in, waiting_of}
use Rattle.global_model.specs.Flow.{IsFlowing}
use Rattle.global_model.specs.Due.{rest_of_record, next_rest, channels_of, waits, waiting_channels, first_waiting}
use Rattle.node_machine.specs.declared.pair.Pair.{Pair}
use Rattle.node_machine.specs.declared.pair.Hop.TheVariants as hops
use Rattle.node_machine.specs.Machine.{MachineView, pair_at, is_idle, waiting_hops_of, waiting_hops, delivery_over, next_delivery}
use Rattle.node_machine.specs.Machine.{enclave_numbered}
use Rattle.node_world.specs.Shown.{IsShown}
use Rattle.node_world.specs.Links.{IsLinkOf}
use Rattle.node_world.proofs.Flows.{uncut_rows}
use Rattle.node_world.proofs.Acted.{linked_of}

-- the command is the delivery that is due next in a settle
pub record IsDue (G : Facts) (c : Command) : Type 0 where
  pub from : Enclave
  pub to : Enclave
  pub waits : first_waiting G ≡ Some (from, to)
  pub is : c ≡ commands.Deliver from to (next_rest G from to)

-- ---- the rest of a record

filled_first : (p : List ℕ) (ps : List (List ℕ)) → 0 < length p → first_length (filled_pieces (p ∷ ps)) ≡ length p
filled_first [] ps some = absurd (omega (arith, some))
filled_first (b ∷ bs) ps some = refl

-- the first piece that waits is the rest of the first record that isn't wholly taken
first_is : (taken : ℕ) (rs : List Record) → first_length (left_of (map spelling_of rs) taken) ≡ rest_of_record taken rs
first_is taken [] = refl
first_is taken (r ∷ rs) = by (leb (size_of r) taken) refl (first_is (taken - size_of r) rs)
  where
    pieces : List (List ℕ)
    pieces = later_bytes (taken - size_of r) (map spelling_of rs)

    by : (b : Bool) → leb (size_of r) taken ≡ b → first_length (left_of (map spelling_of rs) (taken - size_of r)) ≡ rest_of_record (taken - size_of r) rs
        → first_length (left_of (map spelling_of (r ∷ rs)) taken) ≡ cond b (rest_of_record (taken - size_of r) rs) (size_of r - taken)
    by true whole more = ap (λ piece. first_length (filled_pieces (piece ∷ pieces))) (drop_all taken (spelling_of r) (leb-true (size_of r) taken whole)) ∙ more
    by false part more =
        let size = length-drop taken (spelling_of r) in
        let left = leb-false (size_of r) taken part in
        filled_first (drop taken (spelling_of r)) pieces (omega (arith, size, left)) ∙ size

boundary_is : (dead : Bool) (f : ChannelFact) (link : Channel) → IsLinkOf dead f link → rest_of_record f.taken f.sent ≡ boundary_of link
boundary_is dead f link h = sym (ap first_length (h.pieces ∙ ap (λ rows. left_of rows f.taken) (uncut_rows f h.uncut)) ∙ first_is f.taken f.sent)

-- the first piece is among the bytes that wait
boundary_fits : (pieces : List (List ℕ)) → first_length pieces ≤ length (concat pieces)
boundary_fits [] = omega arith
boundary_fits (piece ∷ pieces) = let size = length-append piece (concat pieces) in omega (arith, size)

some_is : (n : ℕ) → ltb 0 n ≡ not (eqb n 0)
some_is zero = refl
some_is (suc n) = lt-ltb 0 (suc n) (omega arith) ∙ ap not (sym (ne_eqb (suc n) 0 (λ none. omega (arith, none))))

-- ---- the channels in which something waits

module _ (G : Facts) (m : MachineView) (flowing : IsFlowing G) (h : IsShown G m) where
  -- the delivery over a channel, by the facts
  abbrev due : Enclave × Enclave → Command
  due channel = commands.Deliver channel.0 channel.1 (next_rest G channel.0 channel.1)

  abbrev pairs : List Pair
  pairs = m.pairs

  -- by the facts as many bytes wait, and no end mark, as both ends live
  waits_bytes : (x y : Enclave) (dead : Bool) (link : Channel) → IsLinkOf dead (G.channel x.0 y.0) link → lives_at G y.0 ≡ true → waiting_in G x.0 y.0 ≡ waiting_bytes link
  waits_bytes x y dead link k lives = ap (λ b. cond b (waiting_of (G.channel x.0 y.0)) []) lives ∙ sym k.waiting

  no_mark : (a b c d : Bool) → c ≡ true → (a && (b && (not c && d))) ≡ false
  no_mark false b c d is = refl
  no_mark true false c d is = refl
  no_mark true true true d is = refl
  no_mark true true false d is = cc

  waits_is : (x y : Enclave) (dead : Bool) (link : Channel) → IsLinkOf dead (G.channel x.0 y.0) link → lives_at G x.0 ≡ true → lives_at G y.0 ≡ true → waits G (x, y) ≡ not (is_idle link)
  waits_is x y dead link k mine lives =
      ap (λ b. ltb 0 (length (waiting_in G x.0 y.0)) || b) (no_mark (lives_at G y.0) (is_child_of G x.0 y.0) (lives_at G x.0) (not (G.channel x.0 y.0).end_taken) mine) ∙ or-false (ltb 0 (length (waiting_in G x.0 y.0)))
      ∙ ap (λ bytes. ltb 0 (length bytes)) (waits_bytes x y dead link k lives) ∙ some_is (length (waiting_bytes link))

  rest_is : (x y : Enclave) (dead : Bool) (link : Channel) → IsLinkOf dead (G.channel x.0 y.0) link → lives_at G y.0 ≡ true → next_rest G x y ≡ boundary_of link
  rest_is x y dead link k lives =
      let size = ap length (waits_bytes x y dead link k lives) in
      omega (arith, size, boundary_is dead (G.channel x.0 y.0) link k, boundary_fits link.pieces)

  one_pair : (i : ℕ) → i < length pairs → map due (filter (waits G) (channels_of G (i + 1))) ≡ map (delivery_over pairs) (waiting_hops_of i (pair_at pairs i))
  one_pair i within =
      let count = h.pairs in
      let k = linked_of G m flowing h i within in
      let above = k.above in
      -- both live so far
      let lives_above = flowing.tree.all_live pair.parent.0 (omega (arith, count, within, above)) in
      let lives_below = flowing.tree.all_live (i + 1) (omega (arith, count, within)) in
      let up : waits G x ≡ not (is_idle pair.up) = waits_is c pair.parent _ pair.up (k.up lives_above) lives_below lives_above in
      let down : waits G y ≡ not (is_idle pair.down) = waits_is pair.parent c _ pair.down (k.down lives_below) lives_above lives_below in
      let one : due x ≡ delivery_over pairs (hops.Up i) = ap (commands.Deliver c pair.parent) (rest_is c pair.parent _ pair.up (k.up lives_above) lives_above) in
      let two : due y ≡ delivery_over pairs (hops.Down i) = ap (commands.Deliver pair.parent c) (rest_is pair.parent c _ pair.down (k.down lives_below) lives_below) in
      ap (λ (p : Enclave). map due (filter (waits G) ((c, p) ∷ (p, c) ∷ []))) (sym k.parent)
      ∙ ap (λ a. map due (cond a (x ∷ cond (waits G y) (y ∷ []) []) (cond (waits G y) (y ∷ []) []))) up
      ∙ ap (λ b. map due (cond (not (is_idle pair.up)) (x ∷ cond b (y ∷ []) []) (cond b (y ∷ []) []))) down
      ∙ by (is_idle pair.up) (is_idle pair.down) one two
    where
      pair : Pair
      pair = pair_at pairs i

      c : Enclave
      c = enclave_numbered (i + 1)

      x : Enclave × Enclave
      x = (c, pair.parent)

      y : Enclave × Enclave
      y = (pair.parent, c)

      by : (a b : Bool) → due x ≡ delivery_over pairs (hops.Up i) → due y ≡ delivery_over pairs (hops.Down i)
          → map due (cond (not a) (x ∷ cond (not b) (y ∷ []) []) (cond (not b) (y ∷ []) [])) ≡ map (delivery_over pairs) (cond a [] (hops.Up i ∷ []) ++ cond b [] (hops.Down i ∷ []))
      by true true one two = refl
      by true false one two = ap (λ d. d ∷ []) two
      by false true one two = ap (λ d. d ∷ []) one
      by false false one two = ap (λ d. d ∷ due y ∷ []) one ∙ ap (λ e. delivery_over pairs (hops.Up i) ∷ e ∷ []) two

  all_pairs : (o : ℕ) (ps : List Pair) → ((j : ℕ) → j < length ps → pair_at ps j ≡ pair_at pairs (o + j)) → o + length ps ≤ length pairs
      → map due (filter (waits G) (flat_map (channels_of G) (range_with_len (o + 1) (length ps)))) ≡ map (delivery_over pairs) (waiting_hops o ps)
  all_pairs o [] same fits = refl
  all_pairs o (p ∷ ps) same fits =
      let here : o + 0 ≡ o = omega arith in
      let first : pair_at pairs o ≡ p = sym (same 0 (omega arith) ∙ ap (pair_at pairs) here) in
      let own = channels_of G (o + 1) in
      let rest = flat_map (channels_of G) (range_with_len (o + 1 + 1) (length ps)) in
      let more = all_pairs (o + 1) ps (λ j within. same (suc j) (omega arith) ∙ ap (pair_at pairs) (next j)) (omega (arith, fits)) in
      ap (map due) (filter-append (waits G) own rest) ∙ map-append due (filter (waits G) own) (filter (waits G) rest)
      ∙ ap (λ ds. ds ++ map due (filter (waits G) rest)) (one_pair o (omega (arith, fits)) ∙ ap (λ pair. map (delivery_over pairs) (waiting_hops_of o pair)) first)
      ∙ ap (λ ds. map (delivery_over pairs) (waiting_hops_of o p) ++ ds) more ∙ sym (map-append (delivery_over pairs) (waiting_hops_of o p) (waiting_hops (o + 1) ps))
    where
      next : (j : ℕ) → o + suc j ≡ o + 1 + j
      next j = omega arith

  -- the next delivery is the one that is due
  pub next_is : next_delivery m ≡ option_map due (first_waiting G)
  next_is =
      let count : length pairs ≡ G.born - 1 = h.pairs in
      let all = all_pairs 0 pairs (λ j within. ap (pair_at pairs) (none j)) (omega arith) in
      sym (first_map due (waiting_channels G) ∙ ap (λ n. slice_get (map due (filter (waits G) (flat_map (channels_of G) (range_with_len 1 n)))) 0) (sym count)
      ∙ ap (λ ds. slice_get ds 0) all ∙ sym (first_map (delivery_over pairs) (waiting_hops 0 pairs)))
    where
      none : (j : ℕ) → j ≡ 0 + j
      none j = omega arith

      first_map : {A B : Type 0} (f : A → B) (xs : List A) → option_map f (slice_get xs 0) ≡ slice_get (map f xs) 0
      first_map f [] = refl
      first_map f (x ∷ xs) = refl

  -- nothing waits where there is no next delivery
  pub none_next : next_delivery m ≡ None → first_waiting G ≡ None
  none_next none = by (first_waiting G) refl (sym next_is ∙ none)
    where
      by : (o : Option (Enclave × Enclave)) → first_waiting G ≡ o → option_map due o ≡ None → first_waiting G ≡ None
      by None is made = is
      by (Some channel) is made = cc

  pub some_next : (c : Command) → next_delivery m ≡ Some c → IsDue G c
  some_next c some = by (first_waiting G) refl (sym next_is ∙ some)
    where
      by : (o : Option (Enclave × Enclave)) → first_waiting G ≡ o → option_map due o ≡ Some c → IsDue G c
      by None is made = cc
      by (Some channel) is made = record { from = channel.0; to = channel.1; waits = is; is = let same : due channel ≡ c = cc in sym same }
