-- What the decoders have, line by line.
use Rattle.std.proofs.Common.{◌≡◌, ◌+◌, ◌-◌, ◌≤◌, ℕ, zero, suc, List, [], ◌∷◌, ◌++◌, length, take, drop, get_or, Bool, true, false, cond, ◌&&◌, eqb, Option, None, Some, refl, sym, ap, ◌∙◌, subst, arith, append-nil, append_assoc, length-append}
use Rattle.std.specs.Option.{option_map_or}
use Rattle.std.proofs.lemmas.Bool.{eqb-true, and_parts}
use Rattle.std.proofs.lemmas.Grind.{flat_map-append}
use Rattle.std.proofs.lemmas.List.{drop-drop, drop_at, drop_more, drop-append-le, length-take-le, take_more, take-append-drop, take-append-le, take-take}
use Rattle.std.proofs.Math.Seq.{take-add, take-append-add}
use Rattle.xemem_language.specs.declared.command.Command.{Command}
use Rattle.xemem_language.specs.declared.line.Line.{Line}
use Rattle.xemem_language.specs.declared.line.Line.TheVariants as lines
use Rattle.xemem_language.specs.declared.record.Record.{Record}
use Rattle.xemem_wire.specs.Spelling.{spelling_of, spellings_of, is_valid, AreValid}
use Rattle.xemem_wire.specs.Stream.{Reading, reading_of, reading_within, front_record, record_onto, nothing_read}
use Rattle.xemem_wire.specs.Decoding.{Decoding}
use Rattle.global_model.specs.Facts.{ChannelFact, at_pair, facts_at, lives_at, with_got, with_sent, with_taken}
use Rattle.global_model.specs.Channels.{arriving, size_of, waiting_in, waiting_of}
use Rattle.global_model.specs.Feeds.{got_bytes, feed_of, front_size, with_piece, without_front, FeedsFollowAt}
use Rattle.global_model.specs.Flow.{IsFlow}
use Rattle.global_model.specs.Apt.{IsApt, AreApt}
use Rattle.global_model.specs.Journals.{Follows}
use Rattle.global_model.specs.Place.{IsPlaced}
use Rattle.global_model.specs.Due.{journal_of}
use Rattle.global_model.proofs.Flow.{bytes_of, whole-length, front_bytes, valid-drop, waiting_size, next_arrives}
use Rattle.global_model.proofs.Sound.{IsSound, sound_line, sound_start, at_pair_has}
use Rattle.global_model.proofs.Commands.{runs_after}

-- ---- the front record

-- valid records are read from the front of their spellings
abbrev AreReadFirst : Type 0
AreReadFirst = (r : Record) (more : List ℕ) → is_valid r ≡ true → reading_of (spelling_of r ++ more) ≡ record_onto r (reading_of more)

-- what is read first is the record at the front
front_read : (most : ℕ) (bytes : List ℕ) (r : Record) (more : Reading) → reading_within most bytes ≡ record_onto r more → front_record bytes ≡ Some r
unfolding reading_within
front_read zero bytes r more is = let none : [] ≡ r ∷ more.records = ap (λ d. d.records) is in absurd (cc)
front_read (suc most) bytes r more is = by (front_record bytes) is
  where
    by : (o : Option Record)
        → option_map_or (λ s. record_onto s (reading_within most (drop (length (spelling_of s)) bytes))) o (nothing_read bytes) ≡ record_onto r more
        → o ≡ Some r
    by None is = let none : [] ≡ r ∷ more.records = ap (λ d. d.records) is in absurd (cc)
    by (Some s) is =
        let one : s ∷ (reading_within most (drop (length (spelling_of s)) bytes)).records ≡ r ∷ more.records = ap (λ d. d.records) is in cc

front_is : AreReadFirst → (r : Record) (more : List ℕ) → is_valid r ≡ true → front_size (spelling_of r ++ more) ≡ size_of r
unfolding reading_of
front_is first r more valid =
    ap (λ o. option_map_or size_of o 0) (front_read (length (spelling_of r ++ more)) (spelling_of r ++ more) r (reading_of more) (first r more valid))

-- ---- what a line does to a decoder

-- the records that were got are among the bytes that were taken
got_within : (c : ChannelFact) → IsFlow c → got_bytes c ≤ length (take c.taken (spellings_of c.sent))
got_within c flow =
    let size = length-take-le c.taken (spellings_of c.sent) (omega (arith, flow.taken)) in
    omega (arith, size, front_bytes c.got c.taken c.sent flow.got)

-- a record that is sent stands behind what was taken
feed_sent : (r : Record) (c : ChannelFact) → IsFlow c → feed_of (with_sent r c) ≡ feed_of c
feed_sent r c flow =
    let got : take c.got (c.sent ++ r ∷ []) ≡ take c.got c.sent
    = take-append-le c.got c.sent (r ∷ []) (omega (arith, flow.got, whole-length c.taken c.sent)) in
    let taken : take c.taken (spellings_of (c.sent ++ r ∷ [])) ≡ take c.taken (spellings_of c.sent)
    = ap (take c.taken) (flat_map-append spelling_of c.sent (r ∷ []))
    ∙ take-append-le c.taken (spellings_of c.sent) (spellings_of (r ∷ [])) (omega (arith, flow.taken)) in
    λ i. record { records = []; rest = drop (length (spellings_of (got i))) (taken i); before = length (spellings_of (got i)); bad = None }

-- what is taken stands behind what was
feed_taken : (n : ℕ) (c : ChannelFact) → n ≤ length (waiting_of c) → IsFlow c → feed_of (with_taken n c) ≡ with_piece (take n (waiting_of c)) (feed_of c)
feed_taken n c fits flow =
    let S = spellings_of c.sent in
    let m = length S - c.cut in
    let within : c.taken + n ≤ m = omega (arith, waiting_size c, fits, flow.taken) in
    let more : take (c.taken + n) S ≡ take c.taken S ++ take n (waiting_of c)
    = sym (take-take (c.taken + n) m S within) ∙ take-add c.taken n (take m S)
    ∙ ap (λ xs. xs ++ take n (waiting_of c)) (take-take c.taken m S (omega (arith, within))) in
    let rest : drop (got_bytes c) (take (c.taken + n) S) ≡ drop (got_bytes c) (take c.taken S) ++ take n (waiting_of c)
    = ap (drop (got_bytes c)) more ∙ drop-append-le (got_bytes c) (take c.taken S) (take n (waiting_of c)) (got_within c flow) in
    λ i. record { records = []; rest = rest i; before = got_bytes c; bad = None }

-- what is got was at the front
feed_got : AreReadFirst → (c : ChannelFact) (r : Record) (rs : List Record) → IsFlow c → arriving c ≡ r ∷ rs → feed_of (with_got c) ≡ without_front (feed_of c)
feed_got first c r rs flow is =
    let next = next_arrives c r rs flow is in
    let S = spellings_of c.sent in
    let s = get_or c.sent c.got r in
    let D = spellings_of (take c.got c.sent) in
    let F = D ++ spelling_of s in
    let M = spellings_of (drop (c.got + 1) c.sent) in
    let valid = subst AreValid (drop_more c.sent c.got r next.sent) (valid-drop c.got c.sent flow.valid) in
    let front : spellings_of (take (c.got + 1) c.sent) ≡ F
    = ap spellings_of (take_more c.sent c.got r next.sent) ∙ flat_map-append spelling_of (take c.got c.sent) (s ∷ [])
    ∙ ap (λ xs. D ++ xs) (append-nil (spelling_of s)) in
    let size : bytes_of (take (c.got + 1) c.sent) ≡ got_bytes c + size_of s = ap length front ∙ length-append D (spelling_of s) in
    let all : S ≡ F ++ M
    = ap spellings_of (sym (take-append-drop (c.got + 1) c.sent)) ∙ flat_map-append spelling_of (take (c.got + 1) c.sent) (drop (c.got + 1) c.sent)
    ∙ ap (λ xs. xs ++ M) front in
    let k = c.taken - length F in
    let count : c.taken ≡ length F + k = omega (arith, next.whole, ap length front) in
    let taken : take c.taken S ≡ D ++ (spelling_of s ++ take k M)
    = ap (take c.taken) all ∙ ap (λ n. take n (F ++ M)) count ∙ take-append-add F M k ∙ append_assoc D (spelling_of s) (take k M) in
    let rest : (feed_of c).rest ≡ spelling_of s ++ take k M
    = ap (drop (got_bytes c)) taken ∙ drop_at D (spelling_of s ++ take k M) (got_bytes c) refl in
    let gone : front_size (feed_of c).rest ≡ size_of s = ap front_size rest ∙ front_is first s (take k M) valid.0 in
    let before : bytes_of (take (c.got + 1) c.sent) ≡ got_bytes c + front_size (feed_of c).rest = size ∙ ap (λ n. got_bytes c + n) (sym gone) in
    let left : drop (bytes_of (take (c.got + 1) c.sent)) (take c.taken S) ≡ drop (front_size (feed_of c).rest) (feed_of c).rest
    = ap (λ n. drop n (take c.taken S)) before ∙ sym (drop-drop (front_size (feed_of c).rest) (got_bytes c) (take c.taken S)) in
    λ i. record { records = []; rest = left i; before = before i; bad = None }

-- ---- lines

-- a line of the channel from a to b changes the decoder of that channel alone
one_feed : (a b : ℕ) (h : ChannelFact → ChannelFact) (k : ℕ → ℕ → Decoding → Decoding) (channel : ℕ → ℕ → ChannelFact)
    → feed_of (h (channel a b)) ≡ k a b (feed_of (channel a b))
    → (x y : ℕ) → feed_of (at_pair a b h channel x y) ≡ cond (eqb x a && eqb y b) (k x y (feed_of (channel x y))) (feed_of (channel x y))
one_feed a b h k channel here x y = by (eqb x a && eqb y b) refl
  where
    Same : ℕ → ℕ → Type 0
    Same x y = feed_of (h (channel x y)) ≡ k x y (feed_of (channel x y))

    by : (t : Bool) → (eqb x a && eqb y b) ≡ t
        → feed_of (cond t (h (channel x y)) (channel x y)) ≡ cond t (k x y (feed_of (channel x y))) (feed_of (channel x y))
    by true is =
        let both = and_parts (eqb x a) (eqb y b) is in
        subst (λ n. Same n y) (sym (eqb-true x a both.0)) (subst (Same a) (sym (eqb-true y b both.1)) here)
    by false is = refl

feeds_line : AreReadFirst → (past : List Line) (line : Line) → IsSound (facts_at past) → IsApt (facts_at past) line → FeedsFollowAt past line
feeds_line first past (lines.Sent a b r) sound apt x y =
    let channel = (facts_at past).channel in
    at_pair_has (λ c. feed_of c ≡ feed_of (channel x y)) a.0 b.0 (with_sent r) channel x y (λ is_x is_y. feed_sent r (channel x y) (sound.flows x y)) refl
feeds_line first past (lines.Took a b n) sound apt x y =
    let G = facts_at past in
    let living : lives_at G b.0 ≡ true = apt.between.living in
    let waits : waiting_in G a.0 b.0 ≡ waiting_of (G.channel a.0 b.0) = rw living refl in
    let fits : n ≤ length (waiting_of (G.channel a.0 b.0)) = subst (λ (ws : List ℕ). n ≤ length ws) waits apt.wait in
    one_feed a.0 b.0 (with_taken n) (λ x y. with_piece (take n (waiting_in G x y))) G.channel
    (feed_taken n (G.channel a.0 b.0) fits (sound.flows a.0 b.0) ∙ ap (λ (ws : List ℕ). with_piece (take n ws) (feed_of (G.channel a.0 b.0))) (sym waits)) x y
feeds_line first past (lines.Got a b) sound apt x y =
    let channel = (facts_at past).channel in
    one_feed a.0 b.0 with_got (λ x y. without_front) channel
    (feed_got first (channel a.0 b.0) apt.rec apt.later (sound.flows a.0 b.0) apt.arrives) x y
feeds_line first past _ sound apt x y = refl

feeds_lines : AreReadFirst → (ls past : List Line) → IsSound (facts_at past) → AreApt (facts_at past) ls → Follows FeedsFollowAt past ls
feeds_lines first [] past sound apt = tt
feeds_lines first (l ∷ ls) past sound apt =
    (feeds_line first past l sound apt.0, feeds_lines first ls (l ∷ past) (sound_line (facts_at past) l sound apt.0) apt.1)

pub journal_of-fed : AreReadFirst → (cs : List Command) → IsPlaced cs → Follows FeedsFollowAt [] (journal_of cs)
journal_of-fed first cs placed = feeds_lines first (journal_of cs) [] sound_start (runs_after cs placed).apt
