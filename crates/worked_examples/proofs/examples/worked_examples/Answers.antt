use Rattle.std.proofs.Common.{refl}
use Rattle.std.specs.Fmt.{digits}
use Rattle.hex.specs.Hex.{encode_with}
use Rattle.xm_num.specs.Rows.{at, put, less}
use Rattle.xemem_wire.specs.Spelling.{spelling_of, header_of, is_valid}
use Rattle.scenario_text.specs.Words.{number_in}
use Rattle.scenario_text.specs.Forms.{number, keyword, either, mode, command_of, pool_form, host_form, host_ns_form, boot_form, boot_ns_form, proc_form, alloc_form, touch_form, make_form, remove_form, get_form, deliver_form, settle_form, link_form, show_four, routes_form, show_three, show_two}
use Rattle.worked_examples.proofs.examples.worked_examples.Goals as goal

pub returns : goal.returns
unfolding digits encode_with at put less spelling_of header_of is_valid number_in number keyword either mode command_of pool_form host_form host_ns_form boot_form boot_ns_form proc_form alloc_form touch_form make_form remove_form get_form deliver_form settle_form link_form show_four routes_form show_three show_two
returns c = record {
  smallest = record { ending_is = refl; journal_is = refl };
  refused = record { ending_is = refl; journal_is = refl };
  one_byte_short = record { ending_is = refl; journal_is = refl };
  discovered = record { ending_is = refl; journal_is = refl };
  child_memory = record { ending_is = refl; journal_is = refl };
  no_host_born = record { ending_is = refl; journal_is = refl };
  settled = record { ending_is = refl; journal_is = refl };
  late_name_server = record { ending_is = refl; journal_is = refl };
  server_first = record { ending_is = refl; journal_is = refl };
  blocks_first = record { ending_is = refl; journal_is = refl };
  refused_calls = record { ending_is = refl; journal_is = refl };
  segments_end = record { ending_is = refl; journal_is = refl };
  script_front = record { ending_is = refl; journal_is = refl };
  refused_segments = record { ending_is = refl; journal_is = refl };
  comment = record { ending_is = refl; journal_is = refl };
  no_number = record { ending_is = refl; journal_is = refl };
  no_keyword = record { ending_is = refl; journal_is = refl };
  no_mode = record { ending_is = refl; journal_is = refl };
  no_form = record { ending_is = refl; journal_is = refl };
  no_word = record { ending_is = refl; journal_is = refl };
  no_count = record { ending_is = refl; journal_is = refl };
  no_place = record { ending_is = refl; journal_is = refl };
  out_of_range = record { ending_is = refl; journal_is = refl };
  unbuilt = record { ending_is = refl; journal_is = refl };
}
