-- No record of discovery is got twice by an enclave.
use Rattle.std.specs.Prelude.{◌≡◌, ℕ, List, [], ◌∷◌, Bool, true, false, ◌&&◌, ◌==◌, nat_le, if◌then◌else◌}
use Rattle.std.specs.List.{AllByRecursion}
use Rattle.xemem_language.specs.Destinations.{destination_number}
use Rattle.xemem_language.specs.declared.record.Record.{Record}
use Rattle.xemem_language.specs.declared.line.Line.{Line}
use Rattle.xemem_language.specs.declared.line.Line.TheVariants as lines
use Rattle.xemem_wire.specs.Table.{kind_of}
use Rattle.global_model.specs.Facts.{facts_at}
use Rattle.global_model.specs.Journals.{Follows}
use Rattle.discovery_laws.specs.Known.{in_flight}

-- two records of one kind, with the same origin, destination and call
abbrev pub is_alike : Record → Record → Bool
is_alike r q =
    (kind_of r.body == kind_of q.body) && (r.origin.0 == q.origin.0)
    && (destination_number r.dest == destination_number q.dest) && (r.call == q.call)

-- the first of the records, where there is one, before others
abbrev pub first_onto : List Record → List Record → List Record
first_onto [] others = others
first_onto (r ∷ rs) others = r ∷ others

-- the records that an enclave got, the newest first: with each `got` line the next of those that were under way
abbrev pub records_got : ℕ → List Line → List Record
records_got y [] = []
records_got y (lines.Got x z ∷ past) =
    if z.0 == y then first_onto (in_flight (facts_at past) x.0 z.0) (records_got y past) else records_got y past
records_got y (line ∷ past) = records_got y past

-- a query, a here, a register or an admit
abbrev pub is_of_discovery : Record → Bool
is_of_discovery r = nat_le (kind_of r.body) 4

-- the next record of those under way, where it is one of discovery, is like none of these
abbrev pub IsFirstNew : List Record → List Record → Type 0
IsFirstNew [] got = Unit {0}
IsFirstNew (r ∷ rs) got = is_of_discovery r ≡ true → AllByRecursion (λ q. is_alike r q ≡ false) got

-- a record of discovery that is got is like none that the enclave got before
abbrev pub OnceAt : List Line → Line → Type 0
OnceAt past (lines.Got x y) = IsFirstNew (in_flight (facts_at past) x.0 y.0) (records_got y.0 past)
OnceAt past line = Unit {0}

abbrev pub IsOnce : List Line → Type 0
IsOnce journal = Follows OnceAt [] journal
