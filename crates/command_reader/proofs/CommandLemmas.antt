-- A command whose numbers are in their ranges is read from its words.
use Rattle.std.proofs.Common.{◌≡◌, ℕ, ℤ, true, false, Some, Ok, decimal, refl, arith}
use Rattle.std.proofs.Math.IntN.{nat_abs}
use Rattle.xm_num.specs.declared.Access.TheVariants as accesses
use Rattle.xm_num.specs.declared.Kind.TheVariants as kinds
use Rattle.xm_num.specs.declared.Want.TheVariants as wants
use Rattle.xemem_language.specs.declared.command.Command.{Command}
use Rattle.xemem_language.specs.declared.command.Command.TheVariants as commands
use Rattle.xemem_language.specs.Ranges.{IsInRange, IsWithin, IsName, most16, most32, most64}
use Rattle.xemem_language.specs.Spelling.{command_words, signed_word}
use Rattle.text_words.specs.Laws.{NumberLaws}
use Rattle.text_words.specs.Words.{number_in}
use Rattle.command_reader.specs.Forms.{command_of, number, keyword, either, mode, pool_form, host_form, host_ns_form, boot_form, boot_ns_form, proc_form, alloc_form, free_form, make_form, remove_form, get_form, release_form, attach_form, detach_form, exit_form, touch_form, deliver_form, settle_form, kill_form, stop_form, maps_form, link_form, show_four, routes_form, pins_form, show_three, show_two}
use Rattle.command_reader.proofs.SlotLemmas.{read_number, name_within, name_is, mode_is_one, mode_value}

enclave_in : (laws : NumberLaws) (n : ℕ) → IsWithin 0 most16 n → number_in 0 most16 (decimal n) ≡ Some n
enclave_in laws n h = read_number laws 0 most16 n h (omega arith)

id_in : (laws : NumberLaws) (n : ℕ) → IsWithin 0 most32 n → number_in 0 most32 (decimal n) ≡ Some n
id_in laws n h = read_number laws 0 most32 n h (omega arith)

wide_in : (laws : NumberLaws) (n : ℕ) → IsWithin 0 most64 n → number_in 0 most64 (decimal n) ≡ Some n
wide_in laws n h = read_number laws 0 most64 n h (omega arith)

blocks_in : (laws : NumberLaws) (n : ℕ) → IsWithin 1 4096 n → number_in 1 4096 (decimal n) ≡ Some n
blocks_in laws n h = read_number laws 1 4096 n h (omega arith)

page_in : (laws : NumberLaws) (n : ℕ) → IsWithin 1 16777215 n → number_in 1 16777215 (decimal n) ≡ Some n
page_in laws n h = read_number laws 1 16777215 n h (omega arith)

name_in : (laws : NumberLaws) (z : ℤ) → IsName z → number_in 0 9223372036854775807 (signed_word z) ≡ Some (nat_abs z)
name_in laws z h = read_number laws 0 9223372036854775807 (nat_abs z) (name_within z h) (omega arith)

pub command_of-words : (laws : NumberLaws) (command : Command) → IsInRange command → command_of (command_words command) ≡ Ok command
unfolding command_of number keyword either mode pool_form host_form host_ns_form boot_form boot_ns_form proc_form alloc_form free_form make_form remove_form get_form release_form attach_form detach_form exit_form touch_form deliver_form settle_form kill_form stop_form maps_form link_form show_four routes_form pins_form show_three show_two
command_of-words laws (commands.Pool blocks) h = rw (blocks_in laws blocks h) refl
command_of-words laws (commands.Host blocks true) h = rw (blocks_in laws blocks h) refl
command_of-words laws (commands.Host blocks false) h = rw (blocks_in laws blocks h) refl
command_of-words laws (commands.Boot kinds.Host parent blocks ns) h = absurd h.0
command_of-words laws (commands.Boot kinds.Cokernel parent blocks true) h = rw (enclave_in laws parent.0 h.1, blocks_in laws blocks h.2) refl
command_of-words laws (commands.Boot kinds.Vm parent blocks true) h = rw (enclave_in laws parent.0 h.1, blocks_in laws blocks h.2) refl
command_of-words laws (commands.Boot kinds.Cokernel parent blocks false) h = rw (enclave_in laws parent.0 h.1, blocks_in laws blocks h.2) refl
command_of-words laws (commands.Boot kinds.Vm parent blocks false) h = rw (enclave_in laws parent.0 h.1, blocks_in laws blocks h.2) refl
command_of-words laws (commands.Proc e uid gid) h = rw (enclave_in laws e.0 h.0, id_in laws uid h.1, id_in laws gid h.2) refl
command_of-words laws (commands.Alloc e p at pages) h = rw (enclave_in laws e.0 h.0, id_in laws p.0 h.1, page_in laws at.0 h.2, blocks_in laws pages h.3) refl
command_of-words laws (commands.Free e p at pages) h = rw (enclave_in laws e.0 h.0, id_in laws p.0 h.1, page_in laws at.0 h.2, blocks_in laws pages h.3) refl
command_of-words laws (commands.Make e p addr size mode) h = rw (enclave_in laws e.0 h.0, id_in laws p.0 h.1, wide_in laws addr h.2, wide_in laws size h.3, mode_is_one mode h.4.1, mode_value mode h.4.1) refl
command_of-words laws (commands.Remove e p segid) h = rw (enclave_in laws e.0 h.0, id_in laws p.0 h.1, name_in laws segid.0 h.2, name_is segid.0 h.2) refl
command_of-words laws (commands.Get e p segid accesses.ReadOnly) h = rw (enclave_in laws e.0 h.0, id_in laws p.0 h.1, name_in laws segid.0 h.2, name_is segid.0 h.2) refl
command_of-words laws (commands.Get e p segid accesses.ReadWrite) h = rw (enclave_in laws e.0 h.0, id_in laws p.0 h.1, name_in laws segid.0 h.2, name_is segid.0 h.2) refl
command_of-words laws (commands.Release e p apid) h = rw (enclave_in laws e.0 h.0, id_in laws p.0 h.1, name_in laws apid.0 h.2, name_is apid.0 h.2) refl
command_of-words laws (commands.Attach e p apid offset size addr) h = rw (enclave_in laws e.0 h.0, id_in laws p.0 h.1, name_in laws apid.0 h.2, name_is apid.0 h.2, wide_in laws offset h.3, wide_in laws size h.4, wide_in laws addr h.5) refl
command_of-words laws (commands.Detach e p addr) h = rw (enclave_in laws e.0 h.0, id_in laws p.0 h.1, wide_in laws addr h.2) refl
command_of-words laws (commands.Exit e p) h = rw (enclave_in laws e.0 h.0, id_in laws p.0 h.1) refl
command_of-words laws (commands.Touch e p addr wants.Read) h = rw (enclave_in laws e.0 h.0, id_in laws p.0 h.1, wide_in laws addr h.2) refl
command_of-words laws (commands.Touch e p addr wants.Write) h = rw (enclave_in laws e.0 h.0, id_in laws p.0 h.1, wide_in laws addr h.2) refl
command_of-words laws (commands.Deliver x y count) h = rw (enclave_in laws x.0 h.0, enclave_in laws y.0 h.1, read_number laws 1 most32 count h.2 (omega arith)) refl
command_of-words laws (commands.Settle most) h = rw (id_in laws most h) refl
command_of-words laws (commands.Kill e cut) h = rw (enclave_in laws e.0 h.0, id_in laws cut h.1) refl
command_of-words laws (commands.Stop e) h = rw (enclave_in laws e.0 h) refl
command_of-words laws (commands.ShowMaps e p) h = rw (enclave_in laws e.0 h.0, id_in laws p.0 h.1) refl
command_of-words laws (commands.ShowRoutes e) h = rw (enclave_in laws e.0 h) refl
command_of-words laws (commands.ShowPins e) h = rw (enclave_in laws e.0 h) refl
command_of-words laws (commands.ShowLink x y) h = rw (enclave_in laws x.0 h.0, enclave_in laws y.0 h.1) refl
command_of-words laws commands.ShowPool h = refl
command_of-words laws commands.ShowNames h = refl
