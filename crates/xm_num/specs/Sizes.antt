-- Sizes and addresses in bytes, and the pages that they name.
use Rattle.std.specs.Prelude.{ℕ, ◌+◌, ◌-◌, ◌/◌, ◌%◌, ◌==◌, ◌||◌, not, nat_lt, Result, Ok, Err, if◌then◌else◌}
use Rattle.xm_num.specs.declared.Vpn.{Vpn}
use Rattle.xm_num.specs.declared.Cause.{Cause}
use Rattle.xm_num.specs.declared.Cause.TheVariants.{BadAlign, BadRange, TooLarge}

-- the bytes of a page
abbrev pub page_bytes : ℕ
page_bytes = 4096

-- the most pages of a segment or an attachment
abbrev pub most_pages : ℕ
most_pages = 4096

-- the highest page of a space
abbrev pub last_page : ℕ
last_page = 16777215

-- the pages of that many bytes, or the first of the causes that fits
abbrev pub pages_of : ℕ → Result ℕ Cause
pages_of bytes =
    if not (bytes % page_bytes == 0) then Err BadAlign
    else if bytes == 0 then Err BadRange
    else if nat_lt most_pages (bytes / page_bytes) then Err TooLarge
    else Ok (bytes / page_bytes)

-- the first of n pages from the address on, or the first of the causes that fits
abbrev pub region_of : ℕ → ℕ → Result Vpn Cause
region_of addr n =
    if not (addr % page_bytes == 0) then Err BadAlign
    else if (addr / page_bytes == 0) || nat_lt last_page (addr / page_bytes + (n - 1)) then Err BadRange
    else Ok (record { 0 = addr / page_bytes })
