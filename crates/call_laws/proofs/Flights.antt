-- The record that is got next is the next that is under way.
use Rattle.std.proofs.Common.{◌≡◌, ◌-◌, ℕ, zero, suc, List, [], ◌∷◌, drop, Bool, true, false, cond, leb, ap}
use Rattle.xemem_language.specs.declared.record.Record.{Record}
use Rattle.global_model.specs.Channels.{arriving, size_of, whole_records}
use Rattle.global_model.specs.Facts.{Facts}
use Rattle.discovery_laws.specs.Known.{in_flight}

-- a record is the next of those under way, and these come behind it
pub record IsNextOf (r : Record) (rs : List Record) : Type 0 where
  pub others : List Record
  pub is : rs ≡ r ∷ others

next_sent : (n bytes : ℕ) (r : Record) (rs others : List Record) → drop n (whole_records bytes rs) ≡ r ∷ others → IsNextOf r (drop n rs)
next_sent zero bytes r [] others is = cc
next_sent (suc n) bytes r [] others is = cc
next_sent zero bytes r (s ∷ ss) others is = by (leb (size_of s) bytes) is
  where
    by : (b : Bool) → cond b (s ∷ whole_records (bytes - size_of s) ss) [] ≡ r ∷ others → IsNextOf r (s ∷ ss)
    by true found = record { others = ss; is = let same : s ≡ r = cc in ap (λ t. t ∷ ss) same }
    by false found = cc
next_sent (suc n) bytes r (s ∷ ss) others is = by (λ found. next_sent n (bytes - size_of s) r ss others found) (leb (size_of s) bytes) is
  where
    by : (drop n (whole_records (bytes - size_of s) ss) ≡ r ∷ others → IsNextOf r (drop n ss)) → (b : Bool)
        → drop (suc n) (cond b (s ∷ whole_records (bytes - size_of s) ss) []) ≡ r ∷ others → IsNextOf r (drop n ss)
    by later true found = later found
    by later false found = cc

pub next_flight : (G : Facts) (x y : ℕ) (r : Record) (others : List Record) → arriving (G.channel x y) ≡ r ∷ others → IsNextOf r (in_flight G x y)
next_flight G x y r others is = next_sent (G.channel x y).got (G.channel x y).taken r (G.channel x y).sent others is
