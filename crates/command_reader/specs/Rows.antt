-- The rows of the reader's table: which form each names, and how that form is read.
use Rattle.std.specs.Prelude.{ℕ, List, map, Bool, ◌==◌, Result, if◌then◌else◌}
use Rattle.std.specs.Borrow.{Bor}
use Rattle.std.specs.List.{list_any, list_all}
use Rattle.xemem_language.specs.declared.command.Command.{Command}
use Rattle.command_reader.specs.declared.fault.SyntaxFault.{SyntaxFault}
use Rattle.command_reader.specs.declared.read.Form.{Form as Row}
use Rattle.command_reader.specs.declared.read.Form.TheVariants as rows
use Rattle.command_reader.specs.declared.fault.SyntaxFault.TheVariants as faults
use Rattle.command_reader.specs.Forms.{Form, form, begins}
use Rattle.command_reader.specs.Forms.{pool_form, host_form, host_ns_form, boot_form, boot_ns_form, proc_form, alloc_form, free_form, make_form, remove_form, get_form, release_form, attach_form, detach_form, exit_form}
use Rattle.command_reader.specs.Forms.{touch_form, deliver_form, settle_form, kill_form, stop_form, show_four, show_three, show_two}

-- what borrowed words are
abbrev pub texts : List (Bor (List ℕ)) → List (List ℕ)
texts words = map (λ word. word.now) words

-- how many words a form has
abbrev pub count_of : Row → ℕ
count_of rows.Pool = 2
count_of rows.Host = 2
count_of rows.HostNs = 3
count_of rows.Boot = 6
count_of rows.BootNs = 7
count_of rows.Proc = 4
count_of rows.Alloc = 5
count_of rows.Free = 5
count_of rows.Make = 6
count_of rows.Remove = 4
count_of rows.Get = 5
count_of rows.Release = 4
count_of rows.Attach = 7
count_of rows.Detach = 4
count_of rows.Exit = 3
count_of rows.Touch = 5
count_of rows.Deliver = 4
count_of rows.Settle = 2
count_of rows.Kill = 4
count_of rows.Stop = 2
count_of rows.ShowFour = 4
count_of rows.ShowThree = 3
count_of rows.ShowTwo = 2

-- how its words are read
abbrev pub read_of : Row → List (List ℕ) → Result Command SyntaxFault
read_of rows.Pool = pool_form
read_of rows.Host = host_form
read_of rows.HostNs = host_ns_form
read_of rows.Boot = boot_form
read_of rows.BootNs = boot_ns_form
read_of rows.Proc = proc_form
read_of rows.Alloc = alloc_form
read_of rows.Free = free_form
read_of rows.Make = make_form
read_of rows.Remove = remove_form
read_of rows.Get = get_form
read_of rows.Release = release_form
read_of rows.Attach = attach_form
read_of rows.Detach = detach_form
read_of rows.Exit = exit_form
read_of rows.Touch = touch_form
read_of rows.Deliver = deliver_form
read_of rows.Settle = settle_form
read_of rows.Kill = kill_form
read_of rows.Stop = stop_form
read_of rows.ShowFour = show_four
read_of rows.ShowThree = show_three
read_of rows.ShowTwo = show_two

-- a row's first word, its number of words, and which form it is
abbrev pub Entry : Type 0
Entry = Bor (List ℕ) × ℕ × Row

-- the forms of a table
abbrev pub forms_of : List Entry → List Form
forms_of table = map (λ entry. form entry.0.now entry.1 (read_of entry.2)) table

-- each row has the number of words of its form
abbrev pub is_counted : List Entry → Bool
is_counted table = list_all (λ entry. entry.1 == count_of entry.2) table

-- what is wrong with words that no form of the table fits, where a fault is known before
abbrev pub misfit_after : SyntaxFault → List (List ℕ) → List Form → SyntaxFault
misfit_after fault words forms = if list_any (begins words) forms then faults.Count else fault
