-- I.2.2: a JP2 file is a sequence of boxes. They are read in the file's order, up to the codestream.
use Rattle.std.specs.Prelude.{ℕ, ◌≡◌, List, length}
use Rattle.std.specs.Prelude as std
use Rattle.box_number.specs.Table.{Test, ◌=?◌, ◌<?◌, ◌or◌, ◌and◌, otherwise, ◌⇒◌∣◌, table}
use Rattle.box_kind.specs.Kind.{◌is◌, is_file_header, is_image_header}
use Rattle.box_kind.specs.declared.Jp2BoxType.{Jp2BoxType}
use Rattle.box_kind.specs.declared.Jp2BoxType.TheVariants.{JP, FTYP, JP2H, JP2C}
use Rattle.box_header.specs.Box.{largest}
use Rattle.box_refusal.specs.declared.Refusal.{Refusal}
use Rattle.box_refusal.specs.Told.{number}
use Rattle.read_record.specs.declared.Jp2.{Jp2}
use Rattle.read_record.specs.Record.{blank, with_state}
use Rattle.read_record.specs.State.{signature_bit, file_type_bit, header_bit, with_bit, with_unknown}
use Rattle.read_record.specs.Answer.{Result, accepted, refused}
use Rattle.read_signature.specs.Signature.{signature}
use Rattle.read_signature.specs.FileType.{file_type}
use Rattle.read_jp2h.specs.Split.{Box, Boxes, no_bytes, cut, high_word, to_end, short, past, ◌▸◌, boxes}
use Rattle.read_jp2h.specs.Child.{child}
use Rattle.read_jp2h.specs.Jp2h.{jp2h}
use Rattle.read_rules.specs.declared.FileEnd.{FileEnd}
use Rattle.read_rules.specs.declared.FileEnd.TheVariants.{Codestream, Ended}
use Rattle.read_rules.specs.declared.Reading.{Reading}

-- the result of reading a file: the codestream's offset and the record, "ended" and the record, or a number and the place
pub data Walked : Type 0 where
  codestream : ℕ → Jp2 → Walked
  ended : Jp2 → Walked
  file_refused : ℕ → ℕ → Walked

abbrev pub then_walk : Result → (Jp2 → Walked) → Walked
then_walk (accepted k) next = next k
then_walk (refused number place) next = file_refused number place

abbrev pub is_stream : Box → Test
is_stream b = b.kind is JP2C

-- I.5.4: the codestream is reached once the header bit is set
abbrev pub stream : Box → Jp2 → Walked
stream b k = table (header_bit k =? 0 ⇒ file_refused 2 b.place ∣ otherwise (codestream b.start (with_state (with_bit 8 k.status.state) k)))

-- any other box may not come before signature and file type; it sets the unknown bits of the state, and the header bit is one of them (difference 15)
abbrev pub other : Box → Jp2 → Result
other b k =
    table
    (signature_bit k =? 0 ⇒ refused 5 b.place
    ∣ file_type_bit k =? 0 ⇒ refused 6 b.place
    ∣ otherwise (accepted (with_unknown k)))

-- a box of the file, by its kind. A box of jp2h outside jp2h is read too once the header bit is set, and skipped before (difference 13).
unfoldable pub outer : Box → Jp2 → Result
outer b k =
    table
    (b.kind is JP ⇒ signature b.place b.start b.content k
    ∣ b.kind is FTYP ⇒ file_type b.place b.start b.content k
    ∣ b.kind is JP2H ⇒ jp2h b.place b.start b.content k
    ∣ is_image_header b.kind and header_bit k =? 0 ⇒ accepted (with_unknown k)
    ∣ is_image_header b.kind ⇒ child b k
    ∣ otherwise (other b k))

-- a kind of box that is read, in the file or in jp2h
abbrev pub is_read : Jp2BoxType → Test
is_read kind = is_file_header kind or is_image_header kind

-- a box whose content reaches past the end: the file has ended there, unless the box is one that is read
abbrev pub past_end : Box → Jp2 → Walked
past_end b k = table (is_read b.kind ⇒ file_refused 4 b.place ∣ otherwise (then_walk (other b k) ended))

-- a box that lies in the file, and what comes after it
abbrev pub whole : Box → Jp2 → (Jp2 → Walked) → Walked
whole b k next = table (is_stream b ⇒ stream b k ∣ otherwise (then_walk (outer b k) next))

-- the boxes in order; the codestream's length is not tested (difference 14), and a file that does not reach one has ended (difference 16)
unfoldable pub run : Boxes → Jp2 → Walked
run no_bytes k = ended k
run (cut place) k = ended k
run (high_word place) k = ended k
run (to_end b) k = whole b k ended
run (short b) k = table (is_stream b ⇒ stream b k ∣ otherwise (file_refused 3 b.place))
run (past b) k = table (is_stream b ⇒ stream b k ∣ otherwise (past_end b k))
run (b ▸ bs) k = whole b k (λ m. run bs m)

-- a file read from a record on
unfoldable pub walk : List ℕ → Jp2 → Walked
walk f j = table (largest <? length f ⇒ file_refused 1 0 ∣ otherwise (run (boxes 0 f) j))

-- a file read from the record before any box
abbrev pub read : List ℕ → Walked
read f = walk f blank

-- what the code answers, in the numbers of the table
abbrev pub came_to : FileEnd → Jp2 → Walked
came_to (Codestream offset) k = codestream offset k
came_to Ended k = ended k

abbrev pub walked : std.Result Reading (Refusal ℕ) → Walked
walked (std.Ok r) = came_to r.end r.jp2
walked (std.Err r) = file_refused (number r.cause) r.place

-- two answers of which the same is told are the same
abbrev pub WalkedOnce : Type 0
WalkedOnce = (a b : std.Result Reading (Refusal ℕ)) → walked a ≡ walked b → a ≡ b

-- the record of a caller who takes the one that reading gives. A refusal gives none, and leaves the caller's own
unfoldable pub after : Jp2 → Walked → Jp2
after old (codestream offset k) = k
after old (ended k) = k
after old (file_refused number place) = old
