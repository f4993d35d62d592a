-- The column of a palette in its file: where its entries are, and the entry that a sample picks.
-- Assumes nothing.
use Prim.Native.Nat.{ℕ, ◌+◌, ◌-◌, ◌*◌, ◌≤◌}
use native.Mathlib.Omega.{arith}
use mathlib.Core.Path.{◌≡◌, refl, ap, ◌∙◌}
use mathlib.Core.Bool.{false}
use mathlib.Core.List.{List}
use lib.IntN.{ℤ}
use lib.ListN.{length}
use Rattle.box_number.specs.Table.{◌=?◌, holds, table}
use Rattle.box_number.specs.Number.{number, part}
use Rattle.box_number.proofs.Rows.{Says}
use Rattle.box_number.proofs.Indices.{decide}
use Rattle.read_record.specs.declared.Palette.{Palette}
use Rattle.read_palette.specs.Pclr.{entry_bytes, row_bytes, B, row_size, Cji}
use Rattle.read_palette.proofs.Entries.{entry-most}
use Rattle.picture_rules.specs.Samples.{clamped, displayed, lookup, value_for}
use Rattle.picture_rules.specs.Finish.{palette_outside}
use Rattle.picture_rules.proofs.Rests.{rest-number, rest-row}
use Rattle.picture_planes.specs.declared.Column.{Column}
use Rattle.picture_planes.specs.Column.{no_column, picked}
use Rattle.picture_planes.proofs.Columns.{column_of}
use Rattle.picture_finish.specs.Private.Parts.{value_by}

-- there are at most 255 columns
pub columns-few : (f : List ℕ) (p : Palette) → Says false (palette_outside f p) → p.columns ≤ 255
columns-few f p h = decide (p.columns =? 0) (λ z. omega arith) (λ some. (h some).1.1.0)

module _ (f : List ℕ) (p : Palette) (c : ℕ) where
  -- the file from the palette on
  abbrev pub rest : List ℕ
  rest = part f p.place (length f)

  -- column c of the palette, in the file from the palette on
  abbrev pub column_for : Column
  column_for = column_of (p.columns + row_bytes f p.place c) (row_size f p) (entry_bytes (B f p c)) p.entries

  module _ {s : List ℕ} (e : s ≡ rest) where
    pub depth_is : number s c 1 ≡ B f p c
    depth_is = ap (λ x. number x c 1) e ∙ rest-number f p.place c 1

    -- as the loop over the channels has it
    pub column-is : {off row wide b : ℕ} → off ≡ p.columns + row_bytes s 0 c → row ≡ row_bytes s 0 p.columns → b ≡ number s c 1 → wide ≡ entry_bytes b → column_of off row wide p.entries ≡ column_for
    column-is {off} {row} {wide} {b} o r d w =
        let o' : off ≡ p.columns + row_bytes f p.place c = o ∙ ap (λ x. p.columns + x) (ap (λ x. row_bytes x 0 c) e ∙ rest-row f p.place c) in
        let r' : row ≡ row_size f p = r ∙ ap (λ x. row_bytes x 0 p.columns) e ∙ rest-row f p.place p.columns in
        let w' : wide ≡ entry_bytes (B f p c) = w ∙ ap entry_bytes (d ∙ depth_is) in
        rw (o', r', w') refl

  -- what it gives for a sample is what the palette has for it
  picked-is : (v : ℤ) → picked rest column_for v ≡ lookup f p c v
  unfolding picked lookup Cji
  picked-is v =
      let j = clamped v (p.entries - 1) in
      let off = p.columns + row_bytes f p.place c + j * row_size f p in
      let at : p.place + off ≡ p.place + p.columns + j * row_size f p + row_bytes f p.place c = omega arith in
      ap displayed (rest-number f p.place off (entry_bytes (B f p c)) ∙ ap (λ x. number f x (entry_bytes (B f p c))) at)

  pub value-is : (typ : ℕ) {s : List ℕ} {k : Column} → s ≡ rest → k ≡ column_for → (v : ℤ) → value_by s k (holds (typ =? 1)) v ≡ value_for f p c typ v
  unfolding value_for table
  value-is typ e d v = rw (e, d, picked-is v) refl

  -- a palette that lies in the file has the column
  pub column-there : {k : Column} → k ≡ column_for → Says false (palette_outside f p) → (p.columns ≡ 0 → ⊥) → Says false (no_column k)
  column-there e h some = let y = h some in rw e (y.0, (y.1.0, entry-most (B f p c)))
