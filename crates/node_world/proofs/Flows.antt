-- A link and the decoder at its end, by what was sent over the channel and how much of it was taken.
use Rattle.std.proofs.Common.{◌≡◌, ◌+◌, ◌-◌, ◌≤◌, ℕ, zero, suc, List, [], ◌∷◌, ◌++◌, length, map, take, drop, Bool, false, None, refl, sym, ap, ◌∙◌, subst, arith, append-nil, length-append, length-drop}
use Rattle.std.specs.List.{concat}
use Rattle.std.proofs.Math.Seq.{take-append-add, drop-append-add}
use Rattle.std.proofs.lemmas.List.{drop_at, drop-append-le, take-append-le, take-append-drop, take_all, length-take-le, map-append}
use Rattle.byte_link.specs.Channel.{Channel, first_bytes, fresh, waiting_bytes, taken, sent}
use Rattle.byte_link.specs.Passage.{left_of}
use Rattle.xemem_language.specs.declared.record.Record.{Record}
use Rattle.xemem_wire.specs.Spelling.{spelling_of, spellings_of, AreValid}
use Rattle.xemem_wire.specs.Stream.{Reading, reading_of, first_bad}
use Rattle.xemem_wire.specs.Decoding.{Decoding, after_piece}
use Rattle.global_model.specs.Facts.{ChannelFact, no_channel, with_sent, with_taken}
use Rattle.global_model.specs.Channels.{whole_records, arriving, waiting_of}
use Rattle.global_model.specs.Feeds.{got_bytes, feed_of}
use Rattle.global_model.specs.Flow.{IsFlow}
use Rattle.node_machine.specs.Links.{IsLinkFlowing}
use Rattle.node_world.specs.Links.{IsLinkOf, rows_sent}
use Rattle.node_world.specs.Laws.{LinkLaws, WireLaws}
use Rattle.node_world.proofs.Fronts.{IsReadFront, front_of, spellings-append, spellings-length, whole-after, whole-take, whole-bytes, whole-more}

-- ---- what waits in a link

-- the spellings of records one after the other
pub spellings-concat : (rs : List Record) → spellings_of rs ≡ concat (map spelling_of rs)
spellings-concat [] = refl
spellings-concat (r ∷ rs) = ap (λ rest. spelling_of r ++ rest) (spellings-concat rs)

-- where nothing is cut off, all rows are there
all_rows : (rows : List (List ℕ)) (n : ℕ) → length (concat rows) ≤ n → first_bytes n rows ≡ rows
all_rows [] n fits = refl
all_rows (row ∷ rows) n fits =
    let size = length-append row (concat rows) in
    ap (λ first. first ∷ first_bytes (n - length row) rows) (take_all n row (omega (arith, size, fits))) ∙ ap (λ more. row ∷ more) (all_rows rows (n - length row) (omega (arith, size, fits)))

pub uncut_rows : (f : ChannelFact) → f.cut ≡ 0 → rows_sent f ≡ map spelling_of f.sent
uncut_rows f uncut =
    let all = ap length (spellings-concat f.sent) in
    all_rows (map spelling_of f.sent) (length (spellings_of f.sent) - f.cut) (omega (arith, all, uncut))

-- and what waits are the bytes that were sent and not taken
pub uncut_waiting : (f : ChannelFact) → f.cut ≡ 0 → waiting_of f ≡ drop f.taken (spellings_of f.sent)
uncut_waiting f uncut = ap (drop f.taken) (take_all (length (spellings_of f.sent) - f.cut) (spellings_of f.sent) (omega (arith, uncut)))

pub fresh_link : IsLinkOf false no_channel fresh
fresh_link = record { within = omega arith; waiting = refl; pieces = refl; ended = refl; end_taken = refl; uncut = refl }

pub waiting-length : (dead : Bool) (f : ChannelFact) (link : Channel) → IsLinkOf dead f link → f.taken + length (waiting_bytes link) ≡ length (spellings_of f.sent)
waiting-length dead f link h = let size = ap length (h.waiting ∙ uncut_waiting f h.uncut) ∙ length-drop f.taken (spellings_of f.sent) in omega (arith, size, h.within)

pub link_sent : WireLaws → LinkLaws → (dead : Bool) (f : ChannelFact) (link : Channel) (r : Record) → IsLinkOf dead f link → IsLinkOf dead (with_sent r f) (sent link (spelling_of r))
link_sent wire laws dead f link r h =
    let one : spellings_of (r ∷ []) ≡ spelling_of r = append-nil (spelling_of r) in
    let all : spellings_of (f.sent ++ r ∷ []) ≡ spellings_of f.sent ++ spelling_of r = spellings-append f.sent (r ∷ []) ∙ ap (λ xs. spellings_of f.sent ++ xs) one in
    let few : f.taken ≤ length (spellings_of f.sent) = omega (arith, h.within) in
    let rest : drop f.taken (spellings_of (f.sent ++ r ∷ [])) ≡ drop f.taken (spellings_of f.sent) ++ spelling_of r = ap (drop f.taken) all ∙ drop-append-le f.taken (spellings_of f.sent) (spelling_of r) few in
    record {
      within = let size = ap length all ∙ length-append (spellings_of f.sent) (spelling_of r) in omega (arith, size, h.within);
      waiting = laws.send link (spelling_of r) ∙ ap (λ xs. xs ++ spelling_of r) (h.waiting ∙ uncut_waiting f h.uncut) ∙ sym (uncut_waiting (with_sent r f) h.uncut ∙ rest);
      pieces = laws.sent link (map spelling_of f.sent) f.taken (spelling_of r) (let same = ap length (spellings-concat f.sent) in omega (arith, same, few)) (let size = wire.least r in omega (arith, size))
          (h.pieces ∙ ap (λ rows. left_of rows f.taken) (uncut_rows f h.uncut))
          ∙ ap (λ rows. left_of rows f.taken) (sym (uncut_rows (with_sent r f) h.uncut ∙ map-append spelling_of f.sent (r ∷ [])));
      ended = h.ended;
      end_taken = h.end_taken;
      uncut = h.uncut;
    }

-- what is behind n more bytes
drop-more : (t n : ℕ) (xs : List ℕ) → drop n (drop t xs) ≡ drop (t + n) xs
drop-more zero n xs = let all : 0 + n ≡ n = omega arith in ap (λ k. drop k xs) (sym all)
drop-more (suc t) zero [] = let one : suc t + 0 ≡ suc t = omega arith in sym (ap (λ k. drop k []) one)
drop-more (suc t) (suc n) [] = let one : suc t + suc n ≡ suc (t + suc n) = omega arith in sym (ap (λ k. drop k []) one)
drop-more (suc t) n (x ∷ xs) = let one : suc t + n ≡ suc (t + n) = omega arith in drop-more t n xs ∙ sym (ap (λ k. drop k (x ∷ xs)) one)

pub link_taken : LinkLaws → (dead : Bool) (f : ChannelFact) (link : Channel) (n : ℕ) → n ≤ length (waiting_bytes link) → IsLinkOf dead f link → IsLinkOf dead (with_taken n f) (taken link n)
link_taken laws dead f link n fits h = record {
  within = let size = waiting-length dead f link h in omega (arith, size, fits, h.uncut);
  waiting = laws.take link n ∙ ap (drop n) h.waiting ∙ drop-more f.taken n (take (length (spellings_of f.sent) - f.cut) (spellings_of f.sent));
  pieces = laws.taken link (rows_sent f) f.taken n h.pieces;
  ended = h.ended;
  end_taken = h.end_taken;
  uncut = h.uncut;
}

-- ---- what flows

later-valid : (n : ℕ) (rs : List Record) → AreValid rs → AreValid (drop n rs)
later-valid zero rs valid = valid
later-valid (suc n) [] valid = tt
later-valid (suc n) (r ∷ rs) valid = later-valid n rs valid.1

-- what isn't decoded yet are the records that weren't got
pub flowing_of : (dead : Bool) (f : ChannelFact) (link : Channel) → IsFlow f → IsLinkOf dead f link → IsLinkFlowing link (feed_of f)
flowing_of dead f link flow h =
    let S = spellings_of f.sent in
    let D = spellings_of (take f.got f.sent) in
    let C = spellings_of (drop f.got f.sent) in
    let whole : take f.got f.sent ++ drop f.got f.sent ≡ f.sent = take-append-drop f.got f.sent in
    let all : S ≡ D ++ C = ap spellings_of (sym whole) ∙ spellings-append (take f.got f.sent) (drop f.got f.sent) in
    let few : got_bytes f ≤ f.taken = whole-bytes f.got f.taken f.sent flow.got in
    let short : length (take f.taken S) ≡ f.taken = length-take-le f.taken S (omega (arith, flow.taken)) in
    let joined : drop (got_bytes f) (take f.taken S) ++ drop f.taken S ≡ C =
    sym (drop-append-le (got_bytes f) (take f.taken S) (drop f.taken S) (omega (arith, short, few))) ∙ ap (drop (got_bytes f)) (take-append-drop f.taken S ∙ all) ∙ drop_at D C (got_bytes f) refl in
    record {
      coming = drop f.got f.sent;
      off = [];
      valid = later-valid f.got f.sent flow.valid;
      bytes = append-nil ((feed_of f).rest ++ waiting_bytes link) ∙ ap (λ xs. (feed_of f).rest ++ xs) (h.waiting ∙ uncut_waiting f h.uncut) ∙ joined;
      fine = refl;
      given = refl;
    }

-- ---- the decoder

-- what the decoder has, once all whole records of so many bytes were given
abbrev pub feed_from : List Record → ℕ → Decoding
feed_from rs n = record { records = []; rest = drop (length (spellings_of (whole_records n rs))) (take n (spellings_of rs)); before = length (spellings_of (whole_records n rs)); bad = None }

-- where no record is left to be got, all whole ones were
pub got_is : (f : ChannelFact) → IsFlow f → arriving f ≡ [] → f.got ≡ length (whole_records f.taken f.sent)
got_is f flow none = let left = sym (length-drop f.got (whole_records f.taken f.sent)) ∙ ap length none in omega (arith, left, flow.got)

pub feed_is : (f : ChannelFact) → IsFlow f → arriving f ≡ [] → feed_of f ≡ feed_from f.sent f.taken
feed_is f flow none =
    let same : take f.got f.sent ≡ whole_records f.taken f.sent = ap (λ n. take n f.sent) (got_is f flow none) ∙ whole-take f.taken f.sent in
    ap (λ (rs : List Record). record { records = []; rest = drop (length (spellings_of rs)) (take f.taken (spellings_of f.sent)); before = length (spellings_of rs); bad = None }) same

-- a record that is sent later doesn't reach it
pub feed_sent : WireLaws → (rs : List Record) (n : ℕ) (r : Record) → n ≤ length (spellings_of rs) → feed_from (rs ++ r ∷ []) n ≡ feed_from rs n
feed_sent wire rs n r fits =
    let same : take n (spellings_of (rs ++ r ∷ [])) ≡ take n (spellings_of rs) = ap (take n) (spellings-append rs (r ∷ [])) ∙ take-append-le n (spellings_of rs) (spellings_of (r ∷ [])) fits in
    ap (λ (ws : List Record). record { records = []; rest = drop (length (spellings_of ws)) (take n (spellings_of (rs ++ r ∷ []))); before = length (spellings_of ws); bad = None }) (whole-more wire n rs r fits)
    ∙ ap (λ (bytes : List ℕ). record { records = []; rest = drop (length (spellings_of (whole_records n rs))) bytes; before = length (spellings_of (whole_records n rs)); bad = None }) same

-- what a decoder has after a piece, by the reading of its bytes
abbrev HasRead : Decoding → List Record → List ℕ → ℕ → Type 0
HasRead d ws tail before = d ≡ record { records = ws; rest = tail; before = before; bad = None }

fed_as : (rest : List ℕ) (before : ℕ) (piece : List ℕ) (ws : List Record) (tail : List ℕ) → first_bad (rest ++ piece) ≡ None → reading_of (rest ++ piece) ≡ record { records = ws; rest = tail }
    → HasRead (after_piece (record { records = []; rest = rest; before = before; bad = None }) piece) ws tail (before + (length (rest ++ piece) - length tail))
unfolding after_piece
fed_as rest before piece ws tail fine reading = rw fine (ap (λ (r : Reading). record { records = r.records; rest = r.rest; before = before + (length (rest ++ piece) - length r.rest); bad = None }) reading)

read_feed : (d : Decoding) (ws : List Record) (tail : List ℕ) (before : ℕ) (rs : List Record) (n : ℕ) → HasRead d ws tail before → before ≡ length (spellings_of (whole_records n rs))
    → drop (length (spellings_of (whole_records n rs))) (take n (spellings_of rs)) ≡ tail → record d { records = [] } ≡ feed_from rs n
read_feed d ws tail before rs n made all rest =
    ap (λ (d : Decoding). record d { records = [] }) made ∙ ap (λ (k : ℕ). record { records = []; rest = tail; before = k; bad = None }) all
    ∙ ap (λ (xs : List ℕ). record { records = []; rest = xs; before = length (spellings_of (whole_records n rs)); bad = None }) (sym rest)

-- the next n bytes are fed to it
pub record IsFedOn (rs : List Record) (n m : ℕ) (d : Decoding) : Type 0 where
  pub came : d.records ≡ drop (length (whole_records n rs)) (whole_records (n + m) rs)
  pub feed : record d { records = [] } ≡ feed_from rs (n + m)

fed_front : WireLaws → (rs : List Record) (n m : ℕ) → n + m ≤ length (spellings_of rs) → (f : IsReadFront rs n (whole_records n rs)) → IsReadFront f.more (length f.tail + m) (whole_records (length f.tail + m) f.more)
    → IsFedOn rs n m (after_piece (feed_from rs n) (take m (drop n (spellings_of rs))))
fed_front laws rs n m fits f g =
    let S = spellings_of rs in
    let ws = whole_records n rs in
    let vs = whole_records (length f.tail + m) f.more in
    let rest : drop (length (spellings_of ws)) (take n S) ≡ f.tail = ap (drop (length (spellings_of ws))) f.front ∙ drop_at (spellings_of ws) f.tail (length (spellings_of ws)) refl in
    let bytes : f.tail ++ take m (drop n S) ≡ take (length f.tail + m) (spellings_of f.more) = sym (take-append-add f.tail (drop n S) m) ∙ ap (take (length f.tail + m)) f.bytes in
    let made = fed_as f.tail (length (spellings_of ws)) (take m (drop n S)) vs g.tail (ap first_bad bytes ∙ g.fine) (ap reading_of bytes ∙ g.reading) in
    let now : n + m ≡ length (spellings_of ws) + (length f.tail + m) = omega (arith, f.taken) in
    let all : whole_records (n + m) rs ≡ ws ++ vs = ap (λ k. whole_records k rs) now ∙ ap (whole_records (length (spellings_of ws) + (length f.tail + m))) f.whole ∙ whole-after ws f.more (length f.tail + m) in
    let size : length (spellings_of (whole_records (n + m) rs)) ≡ length (spellings_of ws) + length (spellings_of vs) = ap (λ xs. length (spellings_of xs)) all ∙ spellings-length ws vs in
    let split : S ≡ spellings_of ws ++ spellings_of f.more = ap spellings_of f.whole ∙ spellings-append ws f.more in
    let front : take (n + m) S ≡ spellings_of ws ++ (spellings_of vs ++ g.tail) =
    ap (λ k. take k S) now ∙ ap (take (length (spellings_of ws) + (length f.tail + m))) split ∙ take-append-add (spellings_of ws) (spellings_of f.more) (length f.tail + m) ∙ ap (λ xs. spellings_of ws ++ xs) g.front in
    let tail : drop (length (spellings_of (whole_records (n + m) rs))) (take (n + m) S) ≡ g.tail =
    ap (λ k. drop k (take (n + m) S)) size ∙ ap (drop (length (spellings_of ws) + length (spellings_of vs))) front ∙ drop-append-add (spellings_of ws) (spellings_of vs ++ g.tail) (length (spellings_of vs)) ∙ drop_at (spellings_of vs) g.tail (length (spellings_of vs)) refl in
    let length_is : length (f.tail ++ take m (drop n S)) ≡ length (spellings_of vs) + length g.tail = ap length (bytes ∙ g.front) ∙ length-append (spellings_of vs) g.tail in
    let before : length (spellings_of ws) + (length (f.tail ++ take m (drop n S)) - length g.tail) ≡ length (spellings_of (whole_records (n + m) rs)) = omega (arith, length_is, size) in
    let came : drop (length ws) (whole_records (n + m) rs) ≡ vs = ap (drop (length ws)) all ∙ drop_at ws vs (length ws) refl in
    rw rest (record {
      came = ap (λ d. d.records) made ∙ sym came;
      feed = read_feed _ vs g.tail _ rs (n + m) made before tail;
    })

pub more-valid : (ws more : List Record) → AreValid (ws ++ more) → AreValid more
more-valid [] more valid = valid
more-valid (w ∷ ws) more valid = more-valid ws more valid.1

pub feed_fed : WireLaws → (rs : List Record) (n m : ℕ) → AreValid rs → n + m ≤ length (spellings_of rs) → IsFedOn rs n m (after_piece (feed_from rs n) (take m (drop n (spellings_of rs))))
feed_fed laws rs n m valid fits =
    let f = front_of laws rs n valid (omega (arith, fits)) in
    let size : length f.tail + length (drop n (spellings_of rs)) ≡ length (spellings_of f.more) = sym (length-append f.tail (drop n (spellings_of rs))) ∙ ap length f.bytes in
    let left = length-drop n (spellings_of rs) in
    let more = more-valid (whole_records n rs) f.more (subst AreValid f.whole valid) in
    fed_front laws rs n m fits f (front_of laws f.more (length f.tail + m) more (omega (arith, size, left, fits)))
