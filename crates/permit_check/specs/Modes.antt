-- The modes by their digits, for the law of the permit rule.
use Rattle.std.specs.Prelude.{ℕ, ◌+◌, ◌*◌}
use Rattle.xm_num.specs.declared.Access.{Access}
use Rattle.xm_num.specs.declared.Access.TheVariants.{ReadOnly, ReadWrite}

-- the mode with these octal digits: for the maker's user, for the maker's group and for all others
abbrev pub mode_with : ℕ → ℕ → ℕ → ℕ
mode_with maker group others = maker * 64 + group * 8 + others

-- the least octal digit that lets have the access: 4 and 5 let read, 6 and 7 read and write
abbrev pub least_digit : Access → ℕ
least_digit ReadOnly = 4
least_digit ReadWrite = 6
