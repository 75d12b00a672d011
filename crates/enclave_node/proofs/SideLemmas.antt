-- Neighbours by their side and by their numbers.
use Rattle.std.proofs.Common.{◌≡◌, ◌<◌, ◌+◌, ℕ, Bool, true, false, cond, List, [], ◌∷◌, ◌++◌, length, drop, append_assoc, Option, None, Some, refl, sym, ap, arith}
use Rattle.std.specs.Prelude.{is_some, option_map, slice_get, ◌==◌}
use Rattle.std.proofs.lemmas.Bool.{eqb-true}
use Rattle.xm_num.specs.declared.Enclave.{Enclave}
use Rattle.xm_num.specs.declared.Neighbour.{Neighbour}
use Rattle.xm_num.specs.declared.Neighbour.TheVariants as neighbours
use Rattle.route_learn.specs.Routes.{place_of}
use Rattle.xemem_language.specs.declared.line.Line.{Line}
use Rattle.enclave_rules.specs.Ways.{place_among}
use Rattle.enclave_rules.specs.Hand.{Hand}
use Rattle.enclave_rules.specs.View.{View, own_lines}
use Rattle.xemem_language.specs.declared.line.Line.TheVariants as lines
use Rattle.enclave_rules.specs.Steps.{here_of, told_askers}
use Rattle.enclave_node.specs.Sides.{enclave_of, side_of}

-- a neighbour's place is the same by its side as by its number
pub place_same : (p x : Enclave) → place_of (side_of p x) ≡ place_among p x
place_same p x = by (x.0 == p.0)
  where
    by : (b : Bool) → place_of (cond b neighbours.Up (neighbours.Down x)) ≡ cond b 0 (x.0 + 1)
    by true = refl
    by false = refl

-- the neighbour on the side of a number has that number
pub number_same : (p x : Enclave) → enclave_of p (side_of p x) ≡ x
number_same p x = by (x.0 == p.0) refl
  where
    by : (b : Bool) → (x.0 == p.0) ≡ b → enclave_of p (cond b neighbours.Up (neighbours.Down x)) ≡ x
    by true is = let same : x.0 ≡ p.0 = eqb-true x.0 p.0 is in ap (λ n. record { 0 = n }) (sym same)
    by false is = refl

pub known_same : (p : Enclave) (way : Option Neighbour) → is_some (option_map (enclave_of p) way) ≡ is_some way
known_same p None = refl
known_same p (Some over) = refl

-- telling those that asked changes nothing that is known
pub told_kept : (hand : Hand) (w v : View) (askers : List (ℕ × Enclave)) (rest : List Line) → own_lines hand w (told_askers v askers ++ rest) ≡ own_lines hand w rest
told_kept hand w v [] rest = refl
told_kept hand w v (row ∷ askers) rest = told_kept hand w v askers rest

-- the view once those that asked are told
abbrev pub unasked : View → View
unasked v = record v { ways = record v.ways { askers = [] } }

-- one of those that asked was told
pub told_step : (v w : View) (out new : List Line) (x : Enclave) → Some x ≡ option_map (λ row. row.1) (slice_get v.ways.askers 0) → w ≡ record v { ways = record v.ways { askers = drop 1 v.ways.askers } }
    → new ≡ out ++ lines.Sent v.me x (here_of v.me) ∷ [] → new ++ told_askers w w.ways.askers ≡ out ++ told_askers v v.ways.askers
told_step v w out new x first left more = by v.ways.askers first (ap (λ v. v.ways.askers) left)
  where
    by : (askers : List (ℕ × Enclave)) → Some x ≡ option_map (λ row. row.1) (slice_get askers 0) → w.ways.askers ≡ drop 1 askers → new ++ told_askers w w.ways.askers ≡ out ++ told_askers v askers
    by [] is rest = cc
    by (row ∷ askers) is rest =
        let same : row.1 ≡ x = cc in
        let same_me : w.me ≡ v.me = ap (λ v. v.me) left in
        rw (more, rest, same_me, same) (append_assoc out (lines.Sent v.me x (here_of v.me) ∷ []) (told_askers v askers))

pub asker_left : (v w : View) (x : Enclave) → Some x ≡ option_map (λ row. row.1) (slice_get v.ways.askers 0) → w ≡ record v { ways = record v.ways { askers = drop 1 v.ways.askers } } → length w.ways.askers < length v.ways.askers
asker_left v w x first left = by v.ways.askers first (ap (λ v. v.ways.askers) left)
  where
    by : (askers : List (ℕ × Enclave)) → Some x ≡ option_map (λ row. row.1) (slice_get askers 0) → w.ways.askers ≡ drop 1 askers → length w.ways.askers < length askers
    by [] is rest = cc
    by (row ∷ askers) is rest = rw rest (omega arith)

pub none_left : (v : View) → None ≡ option_map (λ row. row.1) (slice_get v.ways.askers 0) → v.ways.askers ≡ []
none_left v first = by v.ways.askers first
  where
    by : (askers : List (ℕ × Enclave)) → None ≡ option_map (λ row. row.1) (slice_get askers 0) → askers ≡ []
    by [] is = refl
    by (row ∷ askers) is = cc
