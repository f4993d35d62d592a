-- The bits of jp2_state: signature 1, file type 2, header 4, codestream 8.
use Rattle.std.specs.Prelude.{ℕ, ◌+◌, ◌*◌, ◌/◌, ◌%◌}
use Rattle.box_number.specs.Table.{◌=?◌, otherwise, ◌⇒◌∣◌, table}
use Rattle.read_record.specs.declared.Bit.{Bit}
use Rattle.read_record.specs.declared.Bit.TheVariants.{Signature, FileType, Header, Codestream}
use Rattle.read_record.specs.declared.Jp2.{Jp2}
use Rattle.read_record.specs.Record.{with_state, with_imgstate}

-- the weights of the bits
abbrev pub weight : Bit → ℕ
weight Signature = 1
weight FileType = 2
weight Header = 4
weight Codestream = 8

-- the bit of weight w
abbrev pub bit : ℕ → ℕ → ℕ
bit w state = state / w % 2

abbrev pub signature_bit : Jp2 → ℕ
signature_bit j = j.status.state % 2

abbrev pub file_type_bit : Jp2 → ℕ
file_type_bit j = bit 2 j.status.state

abbrev pub header_bit : Jp2 → ℕ
header_bit j = bit 4 j.status.state

-- the state once the signature is read, and once the file type is read too
abbrev pub signature_read : ℕ
signature_read = 1

abbrev pub file_type_read : ℕ
file_type_read = 3

-- a state with the bit of weight w
unfoldable pub with_bit : ℕ → ℕ → ℕ
with_bit w state = table (bit w state =? 0 ⇒ state + w ∣ otherwise state)

-- JP2_STATE_UNKNOWN and JP2_IMG_STATE_UNKNOWN: all 31 low bits are set, and bit 31 stays
abbrev pub unknown : ℕ → ℕ
unknown state = state / 2147483648 * 2147483648 + 2147483647

abbrev pub with_unknown : Jp2 → Jp2
with_unknown j = with_state (unknown j.status.state) j

abbrev pub with_img_unknown : Jp2 → Jp2
with_img_unknown j = with_imgstate (unknown j.status.imgstate) j
