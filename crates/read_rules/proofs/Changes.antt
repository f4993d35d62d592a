-- What a box may do to the record, and what makes a property of the record hold all through a walk.
-- Assumes nothing.
use Prim.Native.Nat.{ℕ, ◌+◌, ◌-◌, ◌*◌, ◌/◌, ◌≤◌}
use mathlib.Core.Path.{◌≡◌}
use mathlib.Core.List.{List, []}
use native.Mathlib.Omega.{arith}
use lib.ListN.{length}
use Rattle.read_record.specs.declared.Image.{Image}
use Rattle.read_record.specs.declared.Colour.{Colour}
use Rattle.read_record.specs.declared.FileType.{FileType}
use Rattle.read_record.specs.declared.Status.{Status}
use Rattle.read_record.specs.declared.Jp2.{Jp2}
use Rattle.read_record.specs.Record.{span, palette, with_image, with_colour, with_file_type, with_status, with_cl, with_bpcc, with_icc, with_pclr, with_cmap, with_cdef, with_state, with_has_ihdr}
use Rattle.read_palette.specs.Pclr.{NE, NPC, row_bytes}
use Rattle.read_channels.specs.Cdef.{N}
use Rattle.read_rules.proofs.Parts.{Lies}

-- the flags of a status, and of a colour with the count of its Lab numbers
abbrev pub Marked : Status → Type 0
Marked s = (s.hasjp2h ≤ 1) × (s.hasihdr ≤ 1)

abbrev pub Tinted : Colour → Type 0
Tinted k = (k.held ≤ 1) × ((k.lab.count ≡ 0 → ⊥) → (k.lab.count ≡ 8 → ⊥) → k.lab.count ≡ 9)

-- a box with content c, which begins at start, and the record j: what j may become
pub data Change (start : ℕ) (c : List ℕ) (j : Jp2) : Jp2 → Type 0 where
  marked : (s : Status) → (Marked j.status → Marked s) → Change start c j (with_status s j)
  typed : (t : FileType) → 8 ≤ length c → Change start c j (with_state 3 (with_cl (span (start + 8) ((length c - 8) / 4)) (with_file_type t j)))
  sized : (i : Image) → i.numcomps ≤ 16384 → Change start c j (with_has_ihdr (with_image i j))
  deep : Change start c j (with_bpcc (span start (length c)) j)
  tinted : (k : Colour) → (Tinted j.colour → Tinted k) → Change start c j (with_colour k j)
  cielab : (k : Colour) → (Tinted j.colour → Tinted k) → Change start c j (with_icc (span 0 0) (with_colour k j))
  profiled : (k : Colour) → (Tinted j.colour → Tinted k) → 3 ≤ length c → Change start c j (with_icc (span (start + 3) (length c - 3)) (with_colour k j))
  indexed : j.lists.pclr.columns ≡ 0 → 1 ≤ NE c → NE c ≤ 1024 → 1 ≤ NPC c → 3 + NPC c + NE c * row_bytes c 3 (NPC c) ≤ length c → Change start c j (with_pclr (palette (start + 3) (NE c) (NPC c)) j)
  mapped : (j.lists.pclr.columns ≡ 0 → ⊥) → 4 * j.lists.pclr.columns ≤ length c → Change start c j (with_cmap (span start j.lists.pclr.columns) j)
  defined : j.lists.cdef.count ≡ 0 → 1 ≤ N c → 2 + 6 * N c ≤ length c → Change start c j (with_cdef (span (start + 2) (N c)) j)

-- a property of the record, once its bytes up to a place are read, that every box of f keeps
pub record Law (f : List ℕ) (P : ℕ → Jp2 → Type 0) : Type 0 where
  pub later : {m : Jp2} (a b : ℕ) → a ≤ b → P a m → P b m
  pub change : (start : ℕ) (c : List ℕ) (j m : Jp2) → Lies f start c → Change start c j m → P start j → P (start + length c) m

-- a change of the status alone takes no bytes
pub mark : {f : List ℕ} {P : ℕ → Jp2 → Type 0} → Law f P → (at : ℕ) (j : Jp2) (s : Status) → at ≤ length f → (Marked j.status → Marked s) → P at j → P at (with_status s j)
mark law at j s h g p =
    law.later (at + 0) at (omega arith) (law.change at [] j _ (record { within = omega arith; same = record { byte = λ i l. absurd (omega arith) } }) (marked s g) p)
