-- How names are found by their owners.
use Rattle.std.specs.Prelude.{◌≡◌, ◌<◌, ◌≤◌, ◌^◌, ℕ, Bool, true, false, List}
use Rattle.std.specs.List.{list_any}
use Rattle.std.specs.declared.cmp.Ordering.{Ordering}
use Rattle.std.specs.Ordering.{ordering_then, nat_cmp}
use Rattle.std.specs.BTreeMap.{is_at}
use Rattle.xm_num.specs.declared.Enclave.{Enclave}
use Rattle.xm_num.specs.Rows.{at}
use Rattle.name_server.specs.Names.{NamesState, AreNames, is_owned_by}

-- owners come in order, and the segids of each one too
abbrev pub key_order : ℕ × ℕ → ℕ × ℕ → Ordering
key_order a b = ordering_then (nat_cmp a.0 b.0) (nat_cmp a.1 b.1)

-- the owner has the segid
abbrev pub is_indexed : List (ℕ × ℕ) → ℕ → ℕ → Bool
is_indexed keys owner segid = list_any (is_at (key_order (owner, segid))) keys

-- the index has each owner's segids
abbrev pub AreIndexed : List (ℕ × Enclave) → List (ℕ × ℕ) → Type 0
AreIndexed pairs keys = (owner : Enclave) (segid : ℕ) → is_indexed keys owner.0 segid ≡ is_owned_by owner (at pairs segid)

-- the segid is the owner's least
pub record IsLeastOf (keys : List (ℕ × ℕ)) (owner segid : ℕ) : Type 0 where
  pub here : is_indexed keys owner segid ≡ true
  pub none : (q : ℕ) → q < segid → is_indexed keys owner q ≡ false

-- what is kept of the names: which were drawn, not more than there are, and an index that agrees
pub record AreKept (s : NamesState) (keys : List (ℕ × ℕ)) : Type 0 where
  pub names : AreNames s
  pub most : s.drawn ≤ 2 ^ 32
  pub indexed : AreIndexed s.pairs keys
