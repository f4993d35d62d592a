-- The first box of a list, in another list with the same header.
-- Assumes nothing.
use Prim.Native.Nat.{ℕ, suc, ◌+◌, ◌≤◌}
use mathlib.Core.Path.{◌≡◌, refl, sym}
use mathlib.Core.List.{List}
use lib.ListN.{length}
use Rattle.box_number.proofs.Rows.{row}
use Rattle.box_kind.specs.Kind.{kind_of}
use Rattle.box_header.specs.Box.{LBox, TBox, length_of_header, box_length}
use Rattle.read_jp2h.specs.Split.{Box, to_end, ◌▸◌, split}
use Rattle.read_rules.proofs.Sames.{Headed}
use Rattle.read_rules.proofs.Parts.{Whole, content, rest}

-- the first box of c, with another content
abbrev pub box_of : ℕ → List ℕ → List ℕ → Box
box_of at c x = record { kind = kind_of (TBox c); place = at; start = at + length_of_header c; content = x }

-- the first box of c is there
pub record Found (c : List ℕ) : Type 0 where
  pub some : length c ≡ 0 → ⊥
  pub low : box_length c ≤ 4294967295
  pub whole : Whole c

-- another list with the header of c has this box too
module _ (n at : ℕ) (c e : List ℕ) (h : Headed c e) (f : Found c) where
  pub split-next : (LBox c ≡ 0 → ⊥) → split (suc n) at e ≡ box_of at c (content c e) ▸ split n (at + box_length c) (rest c e)
  unfolding split
  split-next z = rw (h.long, h.first, h.header, h.box, h.type) (sym (row 6 _ (f.some, (f.whole.header, (f.low, (z, (f.whole.least, (f.whole.within, tt)))))) refl))

  pub split-last : LBox c ≡ 0 → split (suc n) at e ≡ to_end (box_of at c (content c e))
  unfolding split
  split-last z = rw (h.long, h.first, h.header, h.box, h.type) (sym (row 3 _ (f.some, (f.whole.header, (f.low, z))) refl))
