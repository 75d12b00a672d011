-- The blocks and deaths with which the tests bear enclaves ascend.
use Rattle.std.proofs.Common.{◌≤◌, [], ◌∷◌, refl, arith}
use Rattle.std.specs.List.Sorted.{IsStrictlySortedBy}
use Rattle.std.proofs.lemmas.List.Elements.{All-nil, All-cons}
use Rattle.xm_num.specs.declared.Block.{Block}
use Rattle.enclave_rules.specs.Core.{AreDeaths}
use Rattle.enclave_rules.specs.Pages.{AreBlocks}

pub no_blocks : AreBlocks []
unfolding IsStrictlySortedBy
no_blocks = record { ascend = tt; most = All-nil _ }

pub no_deaths : AreDeaths []
unfolding IsStrictlySortedBy
no_deaths = tt

pub two_blocks : AreBlocks (record { 0 = 5 } ∷ record { 0 = 7 } ∷ [])
unfolding IsStrictlySortedBy
two_blocks =
    let few = λ (b : Block). b.0 ≤ 4095 in
    let five : 5 ≤ 4095 = omega arith in
    let seven : 7 ≤ 4095 = omega arith in
    record {
      ascend = ((refl, tt), (tt, tt));
      most = All-cons few (record { 0 = 5 }) (record { 0 = 7 } ∷ []) five (All-cons few (record { 0 = 7 }) [] seven (All-nil few));
    }

pub two_deaths : AreDeaths (record { 0 = 2 } ∷ record { 0 = 7 } ∷ [])
unfolding IsStrictlySortedBy
two_deaths = ((refl, tt), (tt, tt))
