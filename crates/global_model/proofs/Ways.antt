-- What is known of ways names neighbours alone, in each row.
use Rattle.std.proofs.Common.{◌≡◌, ℕ, [], Bool, true, eqb, Some, sym, subst}
use Rattle.std.proofs.lemmas.List.Elements.{All-nil}
use Rattle.std.proofs.lemmas.Bool.{cond_both, eqb-true}
use Rattle.xm_num.specs.declared.Enclave.{Enclave}
use Rattle.xm_num.specs.Rows.{put}
use Rattle.global_model.proofs.Rows.{AllRows, all_put, all_at}
use Rattle.enclave_rules.specs.Ways.{WaysView, no_ways, place_among}
use Rattle.global_model.specs.Facts.{Facts, at_number}
use Rattle.global_model.specs.Channels.{is_neighbour}
use Rattle.global_model.specs.Flow.{AreWays}

-- ---- ways

-- what an enclave knows of ways names those alone that are near it
pub record NamesNear (Near : Enclave → Type 0) (w : WaysView) : Type 0 where
  pub way : (x : Enclave) → w.way ≡ Some x → Near x
  pub askers : AllRows Near w.askers
  pub backs : AllRows Near w.backs
  pub routes : AllRows Near w.routes

abbrev pub AllNameNear : (ℕ → ℕ → Bool) → (ℕ → WaysView) → Type 0
AllNameNear near ways = (e : ℕ) → NamesNear (λ x. near e x.0 ≡ true) (ways e)

pub none_near : (Near : Enclave → Type 0) → NamesNear Near no_ways
none_near Near = record { way = λ x is. cc; askers = All-nil _; backs = All-nil _; routes = All-nil _ }

pub near_asked : (Near : Enclave → Type 0) (parent by : Enclave) (w : WaysView) → Near by → NamesNear Near w
    → NamesNear Near (record w { askers = put w.askers (place_among parent by) by })
near_asked Near parent by w is old = record { way = old.way; askers = all_put Near w.askers (place_among parent by) by old.askers is; backs = old.backs; routes = old.routes }

pub near_way : (Near : Enclave → Type 0) (over : Enclave) (w : WaysView) → Near over → NamesNear Near w
    → NamesNear Near (record w { way = Some over; askers = [] })
near_way Near over w is old = record { way = λ x same. let over_is : over ≡ x = cc in subst Near over_is is; askers = All-nil _; backs = old.backs; routes = old.routes }

pub near_back : (Near : Enclave → Type 0) (d : ℕ) (over : Enclave) (w : WaysView) → Near over → NamesNear Near w
    → NamesNear Near (record w { backs = put w.backs d over })
near_back Near d over w is old = record { way = old.way; askers = old.askers; backs = all_put Near w.backs d over old.backs is; routes = old.routes }

pub near_route : (Near : Enclave → Type 0) (d : ℕ) (over : Enclave) (w : WaysView) → Near over → NamesNear Near w
    → NamesNear Near (record w { routes = put w.routes d over })
near_route Near d over w is old = record { way = old.way; askers = old.askers; backs = old.backs; routes = all_put Near w.routes d over old.routes is }

pub ways_near : (G : Facts) → AllNameNear (is_neighbour G) G.ways → AreWays G
ways_near G known = record {
  way = λ e. (known e).way;
  askers = λ e k x is. all_at (λ x. is_neighbour G e x.0 ≡ true) (G.ways e).askers k x (known e).askers is;
  backs = λ e k x is. all_at (λ x. is_neighbour G e x.0 ≡ true) (G.ways e).backs k x (known e).backs is;
  routes = λ e k x is. all_at (λ x. is_neighbour G e x.0 ≡ true) (G.ways e).routes k x (known e).routes is;
}

-- who are near stay near
pub near_more : (near more : ℕ → ℕ → Bool) (ways : ℕ → WaysView) → ((x y : ℕ) → near x y ≡ true → more x y ≡ true) → AllNameNear near ways
    → AllNameNear more ways
near_more near more ways grows known e = record {
  way = λ x is. grows e x.0 ((known e).way x is);
  askers = λ k d lt. grows e _ ((known e).askers k d lt);
  backs = λ k d lt. grows e _ ((known e).backs k d lt);
  routes = λ k d lt. grows e _ ((known e).routes k d lt);
}

-- ---- one number

-- what holds of the old value at each number, and of the new one at that number, holds after the change
pub at_number_has : {A : Type 0} (P : ℕ → A → Type 0) (k : ℕ) (v : A) (f : ℕ → A) → P k v → ((j : ℕ) → P j (f j)) → (j : ℕ)
    → P j (at_number k v f j)
at_number_has P k v f new old j = cond_both (eqb j k) v (f j) (P j) (λ is. subst (λ i. P i v) (sym (eqb-true j k is)) new) (λ other. old j)
