-- I.5.3.6, Channel Definition box: N (2 bytes), then N times Cni, Typi and Asoci (2 each). It is there where there are definitions.
use Rattle.std.specs.Prelude.{ℕ, List, [], ◌++◌}
use Rattle.box_number.specs.Number.{bytes}
use Rattle.box_number.specs.Table.{◌=?◌, otherwise, ◌⇒◌∣◌, table}
use Rattle.box_kind.specs.declared.Jp2BoxType.TheVariants.{CDEF}
use Rattle.read_channels.specs.Definitions.{Def}
use Rattle.write_rules.specs.declared.Fields.{Fields}
use Rattle.write_rules.specs.Box.{box, series}
use Rattle.write_rules.specs.Setup.{written_definition}

-- Cn, Typ and Asoc
abbrev pub cdef_entry : Def → List ℕ
cdef_entry d = bytes 2 d.channel ++ bytes 2 d.typ ++ bytes 2 d.asoc

-- the first n definitions
abbrev pub cdef_entries : List ℕ → ℕ → ℕ → List ℕ
cdef_entries comps many n = series (λ c. cdef_entry (written_definition comps many c)) n

abbrev pub cdef_content : List ℕ → Fields → List ℕ
cdef_content comps s = bytes 2 s.definitions ++ cdef_entries comps s.colours s.definitions

unfoldable pub cdef : List ℕ → Fields → List ℕ
cdef comps s = table (s.definitions =? 0 ⇒ [] ∣ otherwise (box CDEF (cdef_content comps s)))
