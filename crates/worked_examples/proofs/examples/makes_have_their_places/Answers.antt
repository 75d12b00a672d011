use Rattle.std.proofs.Common.{refl}
use Rattle.std.specs.Fmt.{digits}
use Rattle.hex.specs.Hex.{encode_with}
use Rattle.xm_num.specs.Rows.{at, put, less}
use Rattle.xemem_wire.specs.Spelling.{spelling_of, header_of, is_valid}
use Rattle.scenario_text.specs.Words.{number_in}
use Rattle.scenario_text.specs.Forms.{number, keyword, either, mode, command_of, pool_form, host_form, host_ns_form, boot_form, boot_ns_form, proc_form, alloc_form, touch_form, make_form, remove_form, get_form, deliver_form, settle_form, link_form, show_four, routes_form, show_three, show_two}
use Rattle.worked_examples.proofs.examples.makes_have_their_places.Goals as goal

pub returns : goal.returns
unfolding digits encode_with at put less spelling_of header_of is_valid number_in number keyword either mode command_of pool_form host_form host_ns_form boot_form boot_ns_form proc_form alloc_form touch_form make_form remove_form get_form deliver_form settle_form link_form show_four routes_form show_three show_two
returns c = record { unborn = refl; asking = refl; answering = refl; held = refl; undoing = refl; done = refl }
