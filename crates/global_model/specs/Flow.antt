-- What holds of the enclaves and of their channels wherever a command has ended.
use Rattle.std.specs.Prelude.{◌≡◌, ◌+◌, ◌<◌, ◌≤◌, ℕ, [], length, nat_lt, Option, Some, is_some, true, false}
use Rattle.xm_num.specs.declared.Enclave.{Enclave}
use Rattle.xm_num.specs.Rows.{at}
use Rattle.xemem_wire.specs.Spelling.{AreValid, spellings_of}
use Rattle.global_model.specs.Channels.{arriving, is_child_of, is_neighbour, whole_records}
use Rattle.global_model.specs.Facts.{ChannelFact, EnclaveFact, Facts, fact_of, has_parent, lives_at, no_channel}

-- the enclaves below that number were born, and no others; each of them but the first has a parent with a lower number
pub record IsBornBelow (born e : ℕ) (fact : Option EnclaveFact) : Type 0 where
  pub known : is_some fact ≡ nat_lt e born
  pub above : (p : ℕ) → has_parent p fact ≡ true → 0 < e → p < e

-- The enclaves are a tree below the host, which is 0, and no more than a record can name. Those that live are one too: the host
-- lives from its birth on, and the parent of a child that lives does.
pub record IsTree (G : Facts) : Type 0 where
  pub most : G.born ≤ 256
  pub enclaves : (e : ℕ) → IsBornBelow G.born e (G.enclave e)
  pub root : 0 < G.born → lives_at G 0 ≡ true
  pub upward : (c p : ℕ) → is_child_of G c p ≡ true → lives_at G c ≡ true → lives_at G p ≡ true
  -- Whoever was born lives so far. It holds until enclaves die, and then goes with all that is drawn from it.
  pub all_live : (e : ℕ) → e < G.born → lives_at G e ≡ true

-- the enclave that holds the name server is the one that was born with it, where one was
pub record IsServer (G : Facts) : Type 0 where
  pub held : (e : ℕ) → (fact_of (G.enclave e)).ns ≡ true → (G.server ≡ true) × (G.holder.0 ≡ e)
  pub seated : G.server ≡ true → (fact_of (G.enclave G.holder.0)).ns ≡ true

-- every record that was sent is valid, no more bytes are taken and cut off than were sent, and the records that were got are whole
pub record IsFlow (channel : ChannelFact) : Type 0 where
  pub valid : AreValid channel.sent
  pub taken : channel.taken + channel.cut ≤ length (spellings_of channel.sent)
  pub got : channel.got ≤ length (whole_records channel.taken channel.sent)

-- what an enclave knows of ways names its neighbours alone
pub record AreWays (G : Facts) : Type 0 where
  pub way : (e : ℕ) (x : Enclave) → (G.ways e).way ≡ Some x → is_neighbour G e x.0 ≡ true
  pub askers : (e k : ℕ) (x : Enclave) → at (G.ways e).askers k ≡ Some x → is_neighbour G e x.0 ≡ true
  pub backs : (e d : ℕ) (x : Enclave) → at (G.ways e).backs d ≡ Some x → is_neighbour G e x.0 ≡ true
  pub routes : (e d : ℕ) (x : Enclave) → at (G.ways e).routes d ≡ Some x → is_neighbour G e x.0 ≡ true

-- one enclave at most holds the name server, each channel flows, all its whole records were got, and nothing was ever sent but between neighbours
pub record IsFlowing (G : Facts) : Type 0 where
  pub tree : IsTree G
  pub server : IsServer G
  pub ways : AreWays G
  pub flows : (x y : ℕ) → IsFlow (G.channel x y)
  pub arrived : (x y : ℕ) → arriving (G.channel x y) ≡ []
  pub apart : (x y : ℕ) → is_neighbour G x y ≡ false → G.channel x y ≡ no_channel
