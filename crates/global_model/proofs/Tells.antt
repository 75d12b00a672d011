-- What a command tells beside records: a property of each kind of line that is told is one of all of them.
use Rattle.std.proofs.Common.{◌+◌, ◌≤◌, ℕ, All, zero, suc, List, [], ◌∷◌, length, map, drop, Bool, true, false, is_some, Option, None, Some, if◌then◌else◌, arith}
use Rattle.std.specs.Option.{option_map_or}
use Rattle.std.specs.Map.{keys_of}
use Rattle.std.proofs.lemmas.Int.{ints}
use Rattle.std.proofs.lemmas.List.{length-take}
use Rattle.std.proofs.lemmas.List.Elements.{All-head, All-tail}
use Rattle.xm_num.specs.declared.Segid.{Segid}
use Rattle.xemem_language.specs.Ranges.{IsName}
use Rattle.enclave_rules.specs.Names.{segid_of}
use Rattle.enclave_rules.specs.Segments.{name_rows}
use Rattle.xm_num.specs.declared.Block.{Block}
use Rattle.xm_num.specs.declared.Enclave.{Enclave}
use Rattle.xemem_language.specs.declared.line.Line.{Line}
use Rattle.xemem_language.specs.declared.line.Line.TheVariants as lines
use Rattle.global_model.specs.Facts.{Facts}
use Rattle.frame_pool.specs.declared.BlockState.{BlockState}
use Rattle.frame_pool.specs.declared.BlockState.TheVariants as states
use Rattle.enclave_rules.specs.View.{View}
use Rattle.enclave_rules.specs.Steps.{told_lines, route_lines, state_line, state_lines, bytes_lines}
use Rattle.global_model.specs.Due.{first_waiting, settle_end}
use Rattle.global_model.proofs.Writes.{EachIs}

-- the lines that show waiting bytes, ways and blocks have the property
pub record MayTell (P : Line → Type 0) : Type 0 where
  pub bytes : (x y : Enclave) (at : ℕ) (bytes : List ℕ) → 1 ≤ length bytes → length bytes ≤ 32 → P (lines.Bytes x y at bytes)
  pub own : (e : Enclave) → P (lines.AtWayOwn e)
  pub none : (e : Enclave) → P (lines.AtWayNone e)
  pub way : (e over : Enclave) → P (lines.AtWay e over)
  pub route : (e d over : Enclave) → P (lines.AtRoute e d over)
  pub free : (b : Block) → P (lines.BlockFree b)
  pub lent : (b : Block) (e : Enclave) → P (lines.BlockLent b e)
  pub held : (b : Block) (e : Enclave) → P (lines.BlockHeld b e)

pub tells_told : (P : Line → Type 0) → ((e d : Enclave) → P (lines.Told e d)) → (child : Enclave) (heard : List Enclave) → EachIs P (told_lines child heard)
tells_told P told child [] = tt
tells_told P told child (d ∷ heard) = (told child d, tells_told P told child heard)

pub tells_end : (P : Line → Type 0) → ((made : ℕ) → P (lines.Settled made)) → ((made : ℕ) → P (lines.Waiting made)) → (G : Facts) (made : ℕ) → P (settle_end G made)
tells_end P settled waiting G made = by (is_some (first_waiting G))
  where
    by : (b : Bool) → P (if b then lines.Waiting made else lines.Settled made)
    by true = waiting made
    by false = settled made

-- names whose segids are in their range
pub tells_names : (P : Line → Type 0) → ((segid : Segid) (owner : Enclave) → IsName segid.0 → P (lines.Name segid owner)) → (pairs : List (ℕ × Enclave))
    → All (λ n. n ≤ 9223372036854775807) (keys_of pairs) → EachIs P (name_rows pairs)
tells_names P name [] ranges = tt
tells_names P name (row ∷ pairs) ranges =
    let range = All-head (λ n. n ≤ 9223372036854775807) row.0 (keys_of pairs) ranges in (
      name (segid_of row.0) row.1 (omega (arith, ints), omega (arith, ints, range)),
      tells_names P name pairs (All-tail (λ n. n ≤ 9223372036854775807) row.0 (keys_of pairs) ranges),
    )

module _ (P : Line → Type 0) (may : MayTell P) where
  pub tells_bytes : (x y : Enclave) (most at : ℕ) (bytes : List ℕ) → EachIs P (bytes_lines x y most at bytes)
  tells_bytes x y zero at bytes = tt
  tells_bytes x y (suc most) at [] = tt
  tells_bytes x y (suc most) at (byte ∷ bytes) =
      let some = length-take 32 (byte ∷ bytes) in
      (may.bytes x y at _ (omega (arith, some)) (omega (arith, some)), tells_bytes x y most (at + 32) (drop 32 (byte ∷ bytes)))

  tells_way : (e : Enclave) (holder : Bool) (way : Option Enclave)
      → P (if holder then lines.AtWayOwn e else option_map_or (λ over. lines.AtWay e over) way (lines.AtWayNone e))
  tells_way e true way = may.own e
  tells_way e false None = may.none e
  tells_way e false (Some over) = may.way e over

  tells_rows : (e : Enclave) (rows : List (ℕ × Enclave)) → EachIs P (map (λ row. lines.AtRoute e (record { 0 = row.0 }) row.1) rows)
  tells_rows e [] = tt
  tells_rows e (row ∷ rows) = (may.route e (record { 0 = row.0 }) row.1, tells_rows e rows)

  pub tells_routes : (v : View) → EachIs P (route_lines v)
  tells_routes v = (tells_way v.me v.core.holder v.ways.way, tells_rows v.me v.ways.routes)

  tells_state : (b : ℕ) (s : BlockState) → P (state_line b s)
  tells_state b states.Free = may.free (record { 0 = b })
  tells_state b (states.Lent e) = may.lent (record { 0 = b }) e
  tells_state b (states.Held e) = may.held (record { 0 = b }) e

  pub tells_states : (b : ℕ) (ss : List BlockState) → EachIs P (state_lines b ss)
  tells_states b [] = tt
  tells_states b (s ∷ ss) = (tells_state b s, tells_states (b + 1) ss)
