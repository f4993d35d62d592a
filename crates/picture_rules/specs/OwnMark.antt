-- Document 02, request R-2: the mark that edition 2 gives a plane.
use Rattle.std.specs.Prelude.{ℕ, ◌<◌, ◌≡◌}
use Rattle.read_record.specs.declared.Jp2.{Jp2}
use Rattle.read_channels.specs.Definitions.{Def, definition}
use Rattle.picture_rules.specs.Image.{Image, mark}
use Rattle.picture_rules.specs.Words.{Handed, source}

-- definition j of the file's list
abbrev pub defined : Handed → Jp2 → ℕ → Def
defined h m j = definition h.file m.lists.cdef j

-- of the definitions of channel c, definition j is the last
pub record LastOf (h : Handed) (m : Jp2) (c j : ℕ) : Type 0 where
  pub below : j < m.lists.cdef.count
  pub names : (defined h m j).channel ≡ c
  pub last : (i : ℕ) → j < i → i < m.lists.cdef.count → (defined h m i).channel ≡ c → ⊥

-- plane p has the mark from channel c's own definition: where there are definitions, one of them is the channel's last, and the mark is its typ, whatever its asoc. Where there are none, the plane has the mark of the channel's component
pub record OwnMark (h : Handed) (m : Jp2) (planes : Image) (c p : ℕ) : Type 0 where
  pub from-definition : 0 < m.lists.cdef.count → (j : ℕ) × LastOf h m c j × (mark planes p ≡ (defined h m j).typ)
  pub from-component : m.lists.cdef.count ≡ 0 → mark planes p ≡ mark h.image (source h m c)
