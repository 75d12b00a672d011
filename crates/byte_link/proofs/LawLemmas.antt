use Rattle.std.proofs.Common.{min, ◌≡◌, ℕ, ◌+◌, ◌-◌, ◌<◌, ◌≤◌, List, [], ◌∷◌, ◌++◌, length, take, drop, refl, sym, ap, ◌∙◌, append-nil, append_assoc, length-append, length-drop, arith}
use Rattle.std.specs.List.{concat}
use Rattle.std.proofs.lemmas.List.{take-append-drop, length-take, drop_all}
use Rattle.byte_link.specs.Channel.{Channel, waiting_bytes, first_length, filled_pieces, first_bytes, later_bytes, sent, taken, ended_less}
use Rattle.byte_link.specs.Passage.{Carries, left_of}
use Rattle.byte_link.proofs.PieceLemmas.{concat-filled, concat-append, concat-later, concat-first, later-filled, first-filled, later-later, first-later, later-append, filled_push}

pub waiting-sent : (c : Channel) (bytes : List ℕ) → waiting_bytes (sent c bytes) ≡ waiting_bytes c ++ bytes
waiting-sent c bytes = concat-append c.pieces (bytes ∷ []) ∙ ap (λ new. concat c.pieces ++ new) (append-nil bytes)

pub waiting-taken : (c : Channel) (n : ℕ) → waiting_bytes (taken c n) ≡ drop n (waiting_bytes c)
waiting-taken c n = concat-filled (later_bytes n c.pieces) ∙ concat-later n c.pieces

pub waiting-ended : (c : Channel) (n : ℕ) → waiting_bytes (ended_less c n) ≡ take (length (waiting_bytes c) - n) (waiting_bytes c)
waiting-ended c n =
    let kept = length (waiting_bytes c) - n in
    concat-filled (first_bytes kept c.pieces) ∙ concat-first kept c.pieces

pub carries_sent : (c : Channel) (all left bytes : List ℕ) → Carries c all left [] → Carries (sent c bytes) (all ++ bytes) left []
carries_sent c all left bytes h =
    let old : left ++ waiting_bytes c ≡ all = sym (append-nil (left ++ waiting_bytes c)) ∙ h.whole in
    record { whole = append-nil (left ++ waiting_bytes (sent c bytes)) ∙ ap (λ new. left ++ new) (waiting-sent c bytes) ∙ sym (append_assoc left (waiting_bytes c) bytes) ∙ ap (λ bs. bs ++ bytes) old }

pub carries_taken : (c : Channel) (all left cut : List ℕ) (n : ℕ) → Carries c all left cut → Carries (taken c n) all (left ++ take n (waiting_bytes c)) cut
carries_taken c all left cut n h =
    let old = waiting_bytes c in
    let split : left ++ take n old ++ drop n old ≡ left ++ old = append_assoc left (take n old) (drop n old) ∙ ap (λ bs. left ++ bs) (take-append-drop n old) in
    record { whole = ap (λ bs. left ++ take n old ++ bs ++ cut) (waiting-taken c n) ∙ ap (λ bs. bs ++ cut) split ∙ h.whole }

pub carries_ended : (c : Channel) (all left : List ℕ) (n : ℕ) → Carries c all left [] → Carries (ended_less c n) all left (drop (length (waiting_bytes c) - n) (waiting_bytes c))
carries_ended c all left n h =
    let old = waiting_bytes c in
    let kept = length old - n in
    let split : left ++ take kept old ++ drop kept old ≡ left ++ old = append_assoc left (take kept old) (drop kept old) ∙ ap (λ bs. left ++ bs) (take-append-drop kept old) in
    record { whole = ap (λ bs. left ++ bs ++ drop kept old) (waiting-ended c n) ∙ split ∙ sym (append-nil (left ++ old)) ∙ h.whole }

pub pieces-sent : (c : Channel) (records : List (List ℕ)) (gone : ℕ) (bytes : List ℕ) → gone ≤ length (concat records) → 0 < length bytes → c.pieces ≡ left_of records gone → (sent c bytes).pieces ≡ left_of (records ++ bytes ∷ []) gone
pieces-sent c records gone bytes h k e =
    ap (λ pieces. pieces ++ bytes ∷ []) e ∙ sym (filled_push (later_bytes gone records) bytes k) ∙ ap filled_pieces (sym (later-append gone records (bytes ∷ []) h))

pub pieces-taken : (c : Channel) (records : List (List ℕ)) (gone n : ℕ) → c.pieces ≡ left_of records gone → (taken c n).pieces ≡ left_of records (gone + n)
pieces-taken c records gone n e =
    ap (λ pieces. filled_pieces (later_bytes n pieces)) e ∙ later-filled n (later_bytes gone records) ∙ ap filled_pieces (later-later n gone records)

pub bytes-left_of : (records : List (List ℕ)) (gone : ℕ) → concat (left_of records gone) ≡ drop gone (concat records)
bytes-left_of records gone = concat-filled (later_bytes gone records) ∙ concat-later gone records

pub pieces-ended : (c : Channel) (records : List (List ℕ)) (gone n : ℕ) → gone + n ≤ length (concat records) → c.pieces ≡ left_of records gone → (ended_less c n).pieces ≡ left_of (first_bytes (length (concat records) - n) records) gone
pieces-ended c records gone n h e =
    let kept = length (waiting_bytes c) - n in
    let waits : length (waiting_bytes c) ≡ length (concat records) - gone = ap length (ap concat e ∙ bytes-left_of records gone) ∙ length-drop gone (concat records) in
    let parts : gone + kept ≡ length (concat records) - n = omega arith in
    ap (λ pieces. filled_pieces (first_bytes kept pieces)) e ∙ first-filled kept (later_bytes gone records) ∙ ap filled_pieces (first-later kept gone records) ∙ ap (λ m. left_of (first_bytes m records) gone) parts

-- the first piece that is filled
first-cons : (piece : List ℕ) (pieces : List (List ℕ)) → 0 < length piece → first_length (filled_pieces (piece ∷ pieces)) ≡ length piece
first-cons [] pieces h = absurd (omega arith)
first-cons (b ∷ bs) pieces h = refl

pub first-left_of : (before after : List (List ℕ)) (first : List ℕ) (gone : ℕ) → length (concat before) ≤ gone → gone < length (concat before) + length first → first_length (left_of (before ++ first ∷ after) gone) ≡ length (concat before) + length first - gone
first-left_of [] after first gone h k =
    let long = length-drop gone first in
    first-cons (drop gone first) (later_bytes (gone - length first) after) (omega arith) ∙ omega arith
first-left_of (b ∷ before) after first gone h k =
    let long = length-append b (concat before) in
    let none : drop gone b ≡ [] = drop_all gone b (omega arith) in
    let rest = first-left_of before after first (gone - length b) (omega arith) (omega arith) in
    rw none (rest ∙ omega arith)

pub first-left_of_cut : (before after : List (List ℕ)) (first : List ℕ) (kept gone : ℕ) → length (concat before) ≤ gone → gone < min kept (length (concat before) + length first) → first_length (left_of (first_bytes kept (before ++ first ∷ after)) gone) ≡ min kept (length (concat before) + length first) - gone
first-left_of_cut [] after first kept gone h k =
    let long = length-drop gone (take kept first) in
    let short = length-take kept first in
    first-cons (drop gone (take kept first)) (later_bytes (gone - length (take kept first)) (first_bytes (kept - length first) after)) (omega arith) ∙ omega arith
first-left_of_cut (b ∷ before) after first kept gone h k =
    let long = length-append b (concat before) in
    let short = length-take kept b in
    let size : length (take kept b) ≡ length b = omega arith in
    let none : drop gone (take kept b) ≡ [] = drop_all gone (take kept b) (omega arith) in
    let rest = first-left_of_cut before after first (kept - length b) (gone - length b) (omega arith) (omega arith) in
    rw (none, size) (rest ∙ omega arith)
