-- For private functions only: the lengths of the boxes.
use Rattle.std.specs.Prelude.{ℕ, ◌+◌, ◌*◌}
use Rattle.box_number.specs.Table.{◌=?◌, ◌≠?◌, otherwise, ◌⇒◌∣◌, table}
use Rattle.read_colour.specs.Colr.{enumerated}
use Rattle.write_rules.specs.declared.Fields.{Fields}
use Rattle.write_rules.specs.Setup.{varies}

unfoldable pub bpcc_length : Fields → ℕ
bpcc_length s = table (s.bpc ≠? varies ⇒ 0 ∣ otherwise (8 + s.numcomps))

-- with the length of the profile
unfoldable pub colr_length : Fields → ℕ → ℕ
colr_length s profile = table (s.meth =? enumerated ⇒ 15 ∣ otherwise (11 + profile))

unfoldable pub cdef_length : Fields → ℕ
cdef_length s = table (s.definitions =? 0 ⇒ 0 ∣ otherwise (10 + 6 * s.definitions))

-- the content of jp2h
abbrev pub jp2h_length : Fields → ℕ → ℕ
jp2h_length s profile = 22 + bpcc_length s + colr_length s profile + cdef_length s

-- all bytes before the codestream
abbrev pub length_of_front : Fields → ℕ → ℕ
length_of_front s profile = 48 + jp2h_length s profile
