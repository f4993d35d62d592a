-- A box is read by the reader of its kind.
-- Assumes nothing.
use Prim.Native.Nat.{ℕ}
use mathlib.Core.Path.{◌≡◌, refl}
use mathlib.Core.List.{List}
use Rattle.box_kind.specs.declared.Jp2BoxType.{Jp2BoxType}
use Rattle.box_kind.specs.declared.Jp2BoxType.TheVariants.{None, JPIP, JP, FTYP, JP2H, IHDR, COLR, JP2C, URL, PCLR, CMAP, CDEF, DTBL, BPCC, JP2, RES, JP2I, XML, UUID, UINF, Unknown}
use Rattle.read_record.specs.declared.Jp2.{Jp2}
use Rattle.read_record.specs.Answer.{Result}
use Rattle.read_jp2h.specs.Child.{skipped, reader}

-- a kind that has no reader
abbrev pub Unread : Jp2BoxType → Type 0
Unread k = (k ≡ IHDR → ⊥) × (k ≡ COLR → ⊥) × (k ≡ PCLR → ⊥) × (k ≡ CMAP → ⊥) × (k ≡ CDEF → ⊥) × (k ≡ BPCC → ⊥)

pub unread : (k : Jp2BoxType) → Unread k → reader k ≡ skipped
unread None h = refl
unread JPIP h = refl
unread JP h = refl
unread FTYP h = refl
unread JP2H h = refl
unread IHDR h = absurd (h.0 refl)
unread COLR h = absurd (h.1 refl)
unread JP2C h = refl
unread URL h = refl
unread PCLR h = absurd (h.2 refl)
unread CMAP h = absurd (h.3 refl)
unread CDEF h = absurd (h.4 refl)
unread DTBL h = refl
unread BPCC h = absurd (h.5 refl)
unread JP2 h = refl
unread RES h = refl
unread JP2I h = refl
unread XML h = refl
unread UUID h = refl
unread UINF h = refl
unread (Unknown n) h = refl

-- what the reader of a kind answered
module _ (place start : ℕ) (c : List ℕ) (j : Jp2) {r : Result} where
  pub read_as : {k l : Jp2BoxType} → k ≡ l → r ≡ reader l place start c j → r ≡ reader k place start c j
  read_as e h = rw e h

  pub read_none : (k : Jp2BoxType) → Unread k → r ≡ skipped place start c j → r ≡ reader k place start c j
  read_none k m h = rw (unread k m) h
