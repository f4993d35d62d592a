-- Writing all boxes before a codestream, and its header: a request is set up (31, 29 and 32), and its fields are written (33, 34 and 30).
use Rattle.std.specs.Prelude.{ℕ, List, ◌++◌, length}
use Rattle.box_number.specs.Number.{placed}
use Rattle.box_refusal.specs.Told.{Told, accepted, refused}
use Rattle.box_number.specs.Table.{◌=?◌, ◌<?◌, ◌or◌, otherwise, ◌⇒◌∣◌, table}
use Rattle.write_rules.specs.declared.Fields.{Fields}
use Rattle.write_rules.specs.Request.{Request}
use Rattle.write_rules.specs.Setup.{set_up}
use Rattle.write_rules.specs.Signature.{signature}
use Rattle.write_rules.specs.FileType.{file_type}
use Rattle.write_rules.specs.Jp2h.{jp2h}
use Rattle.write_rules.specs.Stream.{stream_header}

-- the bytes, or a number and what goes with it
pub data Writing : Type 0 where
  written : List ℕ → Writing
  declined : ℕ → ℕ → Writing

-- all bytes before the codestream
unfoldable pub front : List ℕ → Fields → List ℕ → ℕ → List ℕ
front comps s profile codestream = signature ++ file_type ++ jp2h comps s profile ++ stream_header codestream

-- 2^24 - 1, and 2^32 - 1 less 2^25: so the file has at most 2^32 - 1 bytes
abbrev pub most_profile : ℕ
most_profile = 16777215

abbrev pub most_codestream : ℕ
most_codestream = 4261412863

-- fields to bytes: numbers 33, 34 and 30, in that order, or the bytes
unfoldable pub write_fields : List ℕ → Fields → List ℕ → ℕ → ℕ → Writing
write_fields comps s profile codestream room =
    let bytes = front comps s profile codestream in
    table
    (s.h =? 0 or s.w =? 0 ⇒ declined 33 0
    ∣ most_profile <? length profile or most_codestream <? codestream ⇒ declined 34 0
    ∣ room <? length bytes ⇒ declined 30 (length bytes)
    ∣ otherwise (written bytes))

-- what is written after setting up
abbrev pub after_set_up : Request → Told Fields → Writing
after_set_up r (accepted s) = write_fields r.components s r.profile r.codestream r.room
after_set_up r (refused number index) = declined number index

unfoldable pub write : Request → Writing
write r = after_set_up r (set_up r)

-- the destination afterwards: the bytes from its start on, and the rest as it was; a refusal leaves it
unfoldable pub destination : List ℕ → Writing → List ℕ
destination d (written bs) = placed d 0 bs
destination d (declined number place) = d
