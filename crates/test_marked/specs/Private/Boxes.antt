-- The boxes of the marked cases, in a list d at a place. What has no room in d is left out.
use Rattle.std.specs.Prelude.{ℕ, ◌+◌, List, [], ◌∷◌}
use Rattle.box_number.specs.Number.{written}
use Rattle.text.specs.Text.{put}

-- LBox and TBox
abbrev pub with_head : List ℕ → ℕ → ℕ → ℕ → List ℕ
with_head d at length ty = written (written d at 4 length) (at + 4) 4 ty

-- LBox 1, TBox and XLBox
abbrev pub with_extended : List ℕ → ℕ → ℕ → ℕ → List ℕ
with_extended d at ty length = written (with_head d at 1 ty) (at + 12) 4 length

-- the signature, and ftyp with one entry in its list
abbrev pub with_start : List ℕ → List ℕ
with_start d =
    put d 0 (
    0 ∷ 0 ∷ 0 ∷ 12 ∷ 0x6a ∷ 0x50 ∷ 0x20 ∷ 0x20 ∷ 0x0d ∷ 0x0a ∷ 0x87 ∷ 0x0a ∷
    0 ∷ 0 ∷ 0 ∷ 20 ∷ 0x66 ∷ 0x74 ∷ 0x79 ∷ 0x70 ∷ 0x6a ∷ 0x70 ∷ 0x32 ∷ 0x20 ∷ 0 ∷ 0 ∷ 0 ∷ 0 ∷ 0x6a ∷ 0x70 ∷ 0x32 ∷ 0x20 ∷ []
    )

-- all but the content of a jp2h of this length: signature, ftyp, the header of jp2h, and the codestream's behind it
abbrev pub with_picture : List ℕ → ℕ → List ℕ
with_picture d length = put (with_head (with_start d) 32 length 0x6a703268) (length + 32) (0 ∷ 0 ∷ 0 ∷ 8 ∷ 0x6a ∷ 0x70 ∷ 0x32 ∷ 0x63 ∷ [])

-- ihdr: height 3, width 2, the count, 8 bits
abbrev pub with_ihdr : List ℕ → ℕ → ℕ → ℕ → List ℕ
with_ihdr d at length count = written (put (with_head d at length 0x69686472) (at + 8) (0 ∷ 0 ∷ 0 ∷ 3 ∷ 0 ∷ 0 ∷ 0 ∷ 2 ∷ 0 ∷ 0 ∷ 7 ∷ 7 ∷ [])) (at + 16) 2 count

-- colr: method 1, and the colour space grey
abbrev pub with_colr : List ℕ → ℕ → List ℕ
with_colr d at = put d at (0 ∷ 0 ∷ 0 ∷ 15 ∷ 0x63 ∷ 0x6f ∷ 0x6c ∷ 0x72 ∷ 1 ∷ 0 ∷ 0 ∷ 0 ∷ 0 ∷ 0 ∷ 17 ∷ [])

-- pclr at 62, behind an ihdr: so many entries, and one column of a width byte
abbrev pub with_pclr : List ℕ → ℕ → ℕ → ℕ → List ℕ
with_pclr d length entries width = written (written (written (with_head d 62 length 0x70636c72) 70 2 entries) 72 1 1) 73 1 width
