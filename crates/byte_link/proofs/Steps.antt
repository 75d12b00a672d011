use Rattle.std.proofs.Common.{◌≡◌, ℕ, min, ◌-◌, ◌<◌, ◌≤◌, ◌↔◌, Bool, true, false, List, [], ◌∷◌, ◌++◌, length, take, drop, get_or, sym, ap, ◌∙◌, arith}
use Rattle.std.proofs.lemmas.List.{nil_from_length}
use Rattle.byte_link.specs.Channel.{Channel, waiting_bytes, boundary_of, filled_pieces, first_bytes, sent, taken, ended_less}
use Rattle.byte_link.specs.Layout.{pieces_of, shown, lengths_after, IsLaid}
use Rattle.byte_link.proofs.Rows.{concat-pieces, pieces_push, pieces_after, pieces_before, first_row}

-- each step of a link's fields, as it is seen

pub waits : (c : Channel) (ns bs : List ℕ) (e t : Bool) → shown ns bs e t ≡ c → IsLaid ns bs e → waiting_bytes c ≡ bs
waits c ns bs e t view laid = ap waiting_bytes (sym view) ∙ concat-pieces ns bs laid.covered

pub sent_shown : (c : Channel) (ns bs new : List ℕ) (e t : Bool) → shown ns bs e t ≡ c → IsLaid ns bs e → e ≡ false → 0 < length new → shown (ns ++ length new ∷ []) (bs ++ new) e t ≡ sent c new
sent_shown c ns bs new e t view laid on h =
    ap (λ pieces. (let c : Channel = record { pieces = pieces; ended = e; end_taken = t } in c)) (pieces_push ns bs new (laid.exact on) h) ∙ ap (λ c. sent c new) view

pub taken_shown : (c : Channel) (ns bs : List ℕ) (e t : Bool) (k : ℕ) → shown ns bs e t ≡ c → k ≤ length bs → shown (lengths_after k ns) (drop k bs) e t ≡ taken c k
taken_shown c ns bs e t k view h =
    ap (λ pieces. (let c : Channel = record { pieces = pieces; ended = e; end_taken = t } in c)) (pieces_after k ns bs h) ∙ ap (λ c. taken c k) view

pub ended_shown : (c : Channel) (ns bs : List ℕ) (e t : Bool) (n : ℕ) → shown ns bs e t ≡ c → IsLaid ns bs e → shown ns (take (length bs - n) bs) true t ≡ ended_less c n
ended_shown c ns bs e t n view laid =
    let all : length (waiting_bytes (shown ns bs e t)) ≡ length bs = ap length (concat-pieces ns bs laid.covered) in
    let pieces : pieces_of ns (take (length bs - n) bs) ≡ filled_pieces (first_bytes (length (waiting_bytes (shown ns bs e t)) - n) (pieces_of ns bs)) = rw all (pieces_before (length bs - n) ns bs) in
    ap (λ pieces. (let c : Channel = record { pieces = pieces; ended = true; end_taken = t } in c)) pieces ∙ ap (λ c. ended_less c n) view

pub boundary_shown : (c : Channel) (ns bs : List ℕ) (e t : Bool) (n : ℕ) → shown ns bs e t ≡ c → IsLaid ns bs e → 0 < length ns → n ≡ get_or ns 0 n → boundary_of c ≡ min n (length bs)
boundary_shown c [] bs e t n view laid h k = absurd (omega arith)
boundary_shown c (m ∷ ns) bs e t n view laid h k =
    ap boundary_of (sym view) ∙ rw k (first_row m ns bs (laid.positive 0 0 (omega arith)))

pub first_positive : (ns bs : List ℕ) (e : Bool) (n : ℕ) → IsLaid ns bs e → 0 < length ns → n ≡ get_or ns 0 n → 0 < n
first_positive ns bs e n laid h k = rw k (laid.positive 0 n h)

-- a count of bytes is 0 exactly where there are none
pub none_within : (bs ws : List ℕ) (n r : ℕ) → ws ≡ bs → 0 < n → r ≡ min n (length bs) → (r ≡ 0) ↔ (ws ≡ [])
none_within bs ws n r w h e =
    (λ z. w ∙ nil_from_length bs (omega arith), λ z. (let none : length bs ≡ 0 = ap length (sym w ∙ z) in omega arith))
