-- Document 01, "Colour, palette, order": what a channel makes of its component's samples, and how channels are packed.
use Rattle.std.specs.Prelude.{ℕ, zero, suc, ◌+◌, ◌-◌, List, [], map, ◌++◌, ℤ, pos, negsuc, ◌-ℤ◌, take, drop}
use Rattle.box_number.specs.Table.{◌=?◌, ◌<?◌, otherwise, ◌⇒◌∣◌, table}
use Rattle.box_number.specs.Number.{least}
use Rattle.read_record.specs.declared.Palette.{Palette}
use Rattle.read_record.specs.declared.Jp2.{Jp2}
use Rattle.read_palette.specs.Pclr.{Cji}
use Rattle.picture_rules.specs.Image.{Image, first, size}
use Rattle.picture_rules.specs.Channels.{component_of, type_of}

-- an index below 0 reads entry 0
abbrev pub floored : ℤ → ℕ
floored (pos n) = n
floored (negsuc n) = 0

-- and above the last the last (difference 37)
abbrev pub clamped : ℤ → ℕ → ℕ
clamped s last = least (floored s) last

-- an entry of 2^31 or more becomes itself minus 2^32; one of fewer bits is not extended by its sign (difference 30)
unfoldable pub displayed : ℕ → ℤ
displayed e = table (e <? 2147483648 ⇒ pos e ∣ otherwise (pos e -ℤ pos 4294967296))

-- what column i of a palette in the file f gives for a sample
unfoldable pub lookup : List ℕ → Palette → ℕ → ℤ → ℤ
lookup f p i s = displayed (Cji f p (clamped s (p.entries - 1)) i)

-- what a channel c of a type makes of a sample of its component: with type 1 what column c of the palette gives for it, else the sample itself
unfoldable pub value_for : List ℕ → Palette → ℕ → ℕ → ℤ → ℤ
value_for f p c typ s = table (typ =? 1 ⇒ lookup f p c s ∣ otherwise s)

-- what channel c makes of it in a picture of n components
unfoldable pub value_of : List ℕ → Jp2 → ℕ → ℕ → ℤ → ℤ
value_of f m n c s = value_for f m.lists.pclr c (type_of f m n c) s

-- the samples of channel c
unfoldable pub channel_samples : List ℕ → Jp2 → Image → ℕ → List ℤ
channel_samples f m i c = let k = component_of f m c in map (value_of f m i.count c) (take (size i k) (drop (first i k) i.samples))

-- the samples of the first n channels, one after the other
unfoldable pub packed : List ℕ → Jp2 → Image → ℕ → List ℤ
packed f m i zero = []
packed f m i (suc n) = packed f m i n ++ channel_samples f m i n

-- where channel c's samples start: after those of the channels before it
unfoldable pub start_of : List ℕ → Jp2 → Image → ℕ → ℕ
start_of f m i zero = 0
start_of f m i (suc c) = start_of f m i c + size i (component_of f m c)
