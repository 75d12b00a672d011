-- The lines of a journal: what line some words spell, and which line a text spells.
use Rattle.std.specs.Prelude.{ℕ, List, [], ◌∷◌, length, ◌==◌, if◌then◌else◌, Option, None, Some, option_map, codes}
use Rattle.std.specs.Result.{result_ok}
use Rattle.std.specs.Str.{bytes_eq}
use Rattle.xm_num.specs.declared.Block.{Block}
use Rattle.xm_num.specs.declared.CallNo.{CallNo}
use Rattle.xm_num.specs.declared.Enclave.{Enclave}
use Rattle.xm_num.specs.declared.Pid.{Pid}
use Rattle.xemem_language.specs.declared.record.Body.{Body}
use Rattle.xemem_language.specs.declared.record.Body.TheVariants as bodies
use Rattle.xemem_language.specs.declared.line.Line.{Line}
use Rattle.xemem_language.specs.declared.line.Line.TheVariants as lines
use Rattle.text_words.specs.Words.{number_in}
use Rattle.command_reader.specs.Forms.{command_of}
use Rattle.line_reader.specs.Slots.{pieces, Row, row, row_read, Read, made, filled, listed, chosen, whole, next, next_word, all_read, enclave, destination, pid, call, segid, apid, page, frame, block, word32, word64, access, cause, kind, mark, hex, text, keyword}

-- a row that is read in a way of its own
abbrev pub special : {R : Type 0} → List ℕ → (List (List ℕ) → Read R) → Row R
special first read = record { first = first; read = read }

-- ---- records

-- as many frames as the count before them says
abbrev pub frames_counted : Read ℕ → Read Body
frames_counted None = None
frames_counted (Some (count, words)) = made (λ frames. if length frames == count then Some (bodies.Attached frames) else None) (all_read frame words)

unfoldable pub attached_form : List (List ℕ) → Read Body
attached_form words = frames_counted (next word32 words)

-- what a record says, by its name, in parts that end with the next part

-- the kinds that end something
unfoldable pub ended_body_rows : List (Row Body)
ended_body_rows =
    row (codes "attachrefused") (word32 ∷ []) bodies.AttachRefused
    ∷ row (codes "detach") [] bodies.Detach
    ∷ row (codes "died") (enclave ∷ []) bodies.Died
    ∷ row (codes "dead") (enclave ∷ []) bodies.Dead
    ∷ row (codes "confirm") (enclave ∷ []) bodies.Confirm
    ∷ []

-- the kinds of gets and attaches
unfoldable pub call_body_rows : List (Row Body)
call_body_rows =
    row (codes "found") (segid ∷ destination ∷ []) bodies.Found
    ∷ row (codes "get") (segid ∷ word32 ∷ word32 ∷ word32 ∷ []) bodies.Get
    ∷ row (codes "granted") (word32 ∷ []) bodies.Granted
    ∷ row (codes "getrefused") (word32 ∷ []) bodies.GetRefused
    ∷ row (codes "release") (apid ∷ []) bodies.Release
    ∷ row (codes "attach") (apid ∷ word32 ∷ word32 ∷ []) bodies.Attach
    ∷ ended_body_rows

-- the kinds of ways and names
unfoldable pub fixed_body_rows : List (Row Body)
fixed_body_rows =
    row (codes "query") [] bodies.Query
    ∷ row (codes "here") [] bodies.Here
    ∷ row (codes "register") [] bodies.Register
    ∷ row (codes "admit") [] bodies.Admit
    ∷ row (codes "namereq") [] bodies.NameReq
    ∷ row (codes "named") (segid ∷ []) bodies.Named
    ∷ row (codes "unname") (segid ∷ []) bodies.Unname
    ∷ row (codes "lookup") (segid ∷ []) bodies.Lookup
    ∷ call_body_rows

unfoldable pub body_rows : List (Row Body)
body_rows = special (codes "attached") attached_form ∷ fixed_body_rows

-- the record's name, and the line with what it says
abbrev pub sent_row : Enclave → Enclave → List ℕ → Enclave → Option Enclave → ℕ → List ℕ × (Body → Line)
sent_row from to name origin dest k =
    (name, λ body. lines.Sent from to (record { origin = origin; dest = dest; call = k; body = body }))

abbrev pub with_body : Read (List ℕ × (Body → Line)) → Read Line
with_body None = None
with_body (Some ((name, make), words)) = made (λ body. Some (make body)) (row_read body_rows name words)

-- a record: its ends, its name, its header and its fields
unfoldable pub sent_form : List (List ℕ) → Read Line
sent_form words = with_body (filled (enclave ∷ enclave ∷ text ∷ enclave ∷ destination ∷ word32 ∷ []) sent_row words)

-- ---- lines with a choice

abbrev pub answer_rows : Enclave → Pid → CallNo → List (Row Line)
answer_rows e p k =
    row (codes "segid") (segid ∷ []) (lines.AnswerSegid e p k)
    ∷ row (codes "apid") (apid ∷ keyword (codes "pages") ∷ word32 ∷ []) (λ a with. lines.AnswerApid e p k a)
    ∷ row (codes "addr") (word64 ∷ []) (lines.AnswerAddr e p k)
    ∷ row (codes "refused") (cause ∷ []) (lines.AnswerRefused e p k)
    ∷ []

-- the answer to a call: a segid, a permit, an address or a refusal
unfoldable pub answer_form : List (List ℕ) → Read Line
answer_form words = chosen (filled (enclave ∷ pid ∷ call ∷ []) answer_rows words)

-- a way is over a neighbour, the enclave's own, or not known
abbrev pub shown_way : Enclave → List ℕ → Option Line
shown_way e word =
    if bytes_eq word (codes "own") then Some (lines.AtWayOwn e)
    else if bytes_eq word (codes "none") then Some (lines.AtWayNone e)
    else option_map (λ n. lines.AtWay e (record { 0 = n })) (number_in 0 65535 word)

abbrev pub at_rows : Enclave → List (Row Line)
at_rows e =
    special (codes "way") (λ words. made (shown_way e) (next_word words))
    ∷ row (codes "route") (enclave ∷ enclave ∷ []) (lines.AtRoute e)
    ∷ row (codes "pin") (enclave ∷ call ∷ segid ∷ word32 ∷ word32 ∷ []) (lines.AtPin e)
    ∷ []

-- what is known at an enclave: its way, a route or a pin
unfoldable pub at_form : List (List ℕ) → Read Line
at_form words = chosen (filled (enclave ∷ []) at_rows words)

abbrev pub block_rows : Block → List (Row Line)
block_rows b =
    row (codes "free") [] (lines.BlockFree b)
    ∷ row (codes "lent") (enclave ∷ []) (lines.BlockLent b)
    ∷ row (codes "held") (enclave ∷ []) (lines.BlockHeld b)
    ∷ []

-- a block's state
unfoldable pub block_form : List (List ℕ) → Read Line
block_form words = chosen (filled (block ∷ []) block_rows words)

-- ---- the table of lines, in parts that end with the next part

-- the lines of what is shown
unfoldable pub shown_rows : List (Row Line)
shown_rows =
    row (codes "page") (enclave ∷ pid ∷ page ∷ frame ∷ access ∷ []) lines.Page
    ∷ special (codes "at") at_form
    ∷ special (codes "block") block_form
    ∷ row (codes "name") (segid ∷ enclave ∷ []) lines.Name
    ∷ []

-- the lines of deaths, and of the ends of settles
unfoldable pub death_rows : List (Row Line)
death_rows =
    row (codes "heard") (enclave ∷ enclave ∷ []) lines.Heard
    ∷ row (codes "confirmed") (enclave ∷ enclave ∷ []) lines.Confirmed
    ∷ row (codes "unheld") (enclave ∷ []) lines.Unheld
    ∷ row (codes "settled") (word32 ∷ []) lines.Settled
    ∷ row (codes "waiting") (word32 ∷ []) lines.Waiting
    ∷ shown_rows

-- the lines of frames that a monitor gives, and of enclaves that end
unfoldable pub kill_rows : List (Row Line)
kill_rows =
    row (codes "gmap") (enclave ∷ enclave ∷ enclave ∷ call ∷ frame ∷ []) lines.Gmap
    ∷ row (codes "gdrop") (enclave ∷ enclave ∷ call ∷ []) lines.Gdrop
    ∷ row (codes "killed") (enclave ∷ word32 ∷ []) lines.Killed
    ∷ row (codes "stopped") (enclave ∷ []) lines.Stopped
    ∷ row (codes "held") (enclave ∷ []) lines.Held
    ∷ death_rows

-- the lines of ways
unfoldable pub way_rows : List (Row Line)
way_rows =
    row (codes "asked") (enclave ∷ enclave ∷ []) lines.Asked
    ∷ row (codes "way") (enclave ∷ enclave ∷ []) lines.Way
    ∷ row (codes "back") (enclave ∷ enclave ∷ enclave ∷ []) lines.Back
    ∷ row (codes "route") (enclave ∷ enclave ∷ enclave ∷ []) lines.Route
    ∷ kill_rows

-- the lines of channels
unfoldable pub channel_rows : List (Row Line)
channel_rows =
    row (codes "took") (enclave ∷ enclave ∷ word32 ∷ []) lines.Took
    ∷ row (codes "idle") (enclave ∷ enclave ∷ []) lines.Idle
    ∷ row (codes "got") (enclave ∷ enclave ∷ []) lines.Got
    ∷ row (codes "end") (enclave ∷ enclave ∷ word32 ∷ []) lines.End
    ∷ row (codes "drop") (enclave ∷ []) lines.Dropped
    ∷ way_rows

-- the lines of exited processes, and of answers
unfoldable pub exit_rows : List (Row Line)
exit_rows =
    row (codes "closed") (enclave ∷ call ∷ []) lines.Closed
    ∷ row (codes "exit") (enclave ∷ pid ∷ []) lines.Exit
    ∷ special (codes "answer") answer_form
    ∷ channel_rows

-- the lines of what ends
unfoldable pub end_rows : List (Row Line)
end_rows =
    row (codes "unmap") (enclave ∷ call ∷ []) lines.Unmap
    ∷ row (codes "unpin") (enclave ∷ enclave ∷ call ∷ []) lines.Unpin
    ∷ row (codes "release") (enclave ∷ call ∷ []) lines.Release
    ∷ row (codes "ungrant") (enclave ∷ enclave ∷ call ∷ []) lines.Ungrant
    ∷ row (codes "remove") (enclave ∷ segid ∷ []) lines.Remove
    ∷ row (codes "undo") (enclave ∷ call ∷ []) lines.Undo
    ∷ exit_rows

-- the lines of grants and pins
unfoldable pub grant_rows : List (Row Line)
grant_rows =
    row (codes "unnamed") (segid ∷ []) lines.Unnamed
    ∷ row (codes "grant") (enclave ∷ enclave ∷ call ∷ segid ∷ access ∷ []) lines.Grant
    ∷ row (codes "deny") (enclave ∷ enclave ∷ call ∷ cause ∷ []) lines.Deny
    ∷ row (codes "pin") (enclave ∷ enclave ∷ call ∷ []) lines.Pin
    ∷ row (codes "map") (enclave ∷ call ∷ page ∷ []) lines.Map
    ∷ end_rows

-- the lines of pages and of calls
unfoldable pub call_rows : List (Row Line)
call_rows =
    row (codes "free") (enclave ∷ pid ∷ page ∷ word32 ∷ []) lines.Free
    ∷ row (codes "touched") (enclave ∷ pid ∷ page ∷ frame ∷ []) lines.Touched
    ∷ row (codes "issue") (enclave ∷ pid ∷ call ∷ []) lines.Issue
    ∷ row (codes "drew") (enclave ∷ call ∷ segid ∷ []) lines.Drew
    ∷ row (codes "named") (enclave ∷ call ∷ segid ∷ []) lines.Named
    ∷ grant_rows

-- the words of a command
unfoldable pub do_form : List (List ℕ) → Read Line
do_form words = option_map (λ command. (lines.Do command, [])) (result_ok (command_of words))

-- the lines that begin a command, and those of births
unfoldable pub fixed_rows : List (Row Line)
fixed_rows =
    special (codes "do") do_form
    ∷ row (codes "refused") (cause ∷ []) lines.Refused
    ∷ row (codes "told") (enclave ∷ enclave ∷ []) lines.Told
    ∷ row (codes "admitted") (enclave ∷ []) lines.Admitted
    ∷ row (codes "proc") (enclave ∷ pid ∷ word32 ∷ word32 ∷ []) lines.Proc
    ∷ call_rows

-- the blocks of an enclave stand to the end
unfoldable pub born_form : List (List ℕ) → Read Line
born_form words = listed block (filled (enclave ∷ kind ∷ enclave ∷ mark ∷ []) (λ e of parent ns blocks. lines.Born e of parent ns blocks) words)

-- the frames of own pages stand to the end
unfoldable pub frames_form : List (List ℕ) → Read Line
frames_form words = listed frame (filled (enclave ∷ pid ∷ page ∷ []) (λ e p at frames. lines.Alloc e p at frames) words)

unfoldable pub bytes_form : List (List ℕ) → Read Line
bytes_form words = filled (enclave ∷ enclave ∷ word32 ∷ hex ∷ []) lines.Bytes words

-- all lines, those with lists first
unfoldable pub line_rows : List (Row Line)
line_rows =
    special (codes "born") born_form
    ∷ special (codes "alloc") frames_form
    ∷ special (codes "sent") sent_form
    ∷ special (codes "bytes") bytes_form
    ∷ fixed_rows

-- ---- lines and texts

-- the line that the words spell
unfoldable pub line_of : List (List ℕ) → Option Line
line_of [] = None
line_of (first ∷ words) = whole (row_read line_rows first words)

-- the line that a text without its line feed spells, with exactly one space between the words
abbrev pub text_line : List ℕ → Option Line
text_line bytes = line_of (pieces bytes)
