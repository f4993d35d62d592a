-- A written box at the front of some bytes is the first box of their split.
-- Assumes nothing.
use Prim.Native.Nat.{ℕ, suc, ◌+◌, ◌-◌, ◌≤◌, ◌<◌}
use mathlib.Core.Path.{◌≡◌, refl, sym, ◌∙◌}
use mathlib.Core.List.{List, ◌++◌, append_assoc}
use native.Mathlib.Omega.{arith}
use lib.ListN.{length, drop, length-append}
use lib.Seq.{drop_at, take-append_seam}
use Rattle.box_number.specs.Number.{part, bytes}
use Rattle.box_number.proofs.Rows.{row}
use Rattle.box_kind.specs.Kind.{kind_of, number_of}
use Rattle.box_kind.specs.declared.Jp2BoxType.{Jp2BoxType}
use Rattle.box_header.specs.Box.{LBox, TBox, length_of_header, box_length}
use Rattle.box_header.proofs.Headers.{header_8, box-plain}
use Rattle.read_jp2h.specs.Split.{Box, ◌▸◌, split}
use Rattle.write_rules.specs.Box.{box_header, box}
use Rattle.write_rules.proofs.Lengths.{length-header, length-box}
use Rattle.write_rules.proofs.Numbers.{number-here, number-next}

-- a box by its kind, its place and its content
abbrev pub box_at : Jp2BoxType → ℕ → List ℕ → Box
box_at type at content = record { kind = kind_of (number_of type); place = at; start = at + 8; content = content }

-- what a written header says
module _ (type : Jp2BoxType) (n : ℕ) (rest : List ℕ) (small : 8 + n ≤ 4294967295) (known : number_of type < 4294967296) where
  abbrev c : List ℕ
  c = box_header type n ++ rest

  pub lbox : LBox (box_header type n ++ rest) ≡ 8 + n
  unfolding box_header
  lbox = rw append_assoc (number-here 4 (8 + n) (bytes 4 (number_of type) ++ rest) (omega arith) (omega arith))

  pub tbox : TBox (box_header type n ++ rest) ≡ number_of type
  unfolding box_header
  tbox = rw append_assoc (number-next 4 (8 + n) (bytes 4 (number_of type) ++ rest) 0 4 ∙ number-here 4 (number_of type) rest (omega arith) (omega arith))

  pub header_is : length_of_header (box_header type n ++ rest) ≡ 8
  header_is = header_8 c (λ e. omega (arith, lbox))

  pub long : box_length (box_header type n ++ rest) ≡ 8 + n
  long = box-plain c (λ e. omega (arith, lbox)) (λ e. omega (arith, lbox)) ∙ lbox

  pub after : drop 8 (box_header type n ++ rest) ≡ rest
  after = drop_at (box_header type n) rest 8 (length-header type n)

-- a whole box
module _ (type : Jp2BoxType) (content rest : List ℕ) (small : 8 + length content ≤ 4294967295) (known : number_of type < 4294967296) where
  front-is : box type content ++ rest ≡ box_header type (length content) ++ (content ++ rest)
  unfolding box
  front-is = simp append_assoc

  content-is : part (box type content ++ rest) 8 (8 + length content) ≡ content
  unfolding part
  content-is =
      let e : 8 + length content - 8 ≡ length content = omega arith in
      rw (front-is, after type (length content) (content ++ rest) small known, e) (take-append_seam content rest)

  rest-is : drop (8 + length content) (box type content ++ rest) ≡ rest
  rest-is = drop_at (box type content) rest (8 + length content) (length-box type content)

  pub split-box : (n at : ℕ) → split (suc n) at (box type content ++ rest) ≡ box_at type at content ▸ split n (at + (8 + length content)) rest
  unfolding split
  split-box n at =
      let m = length content in
      let x = content ++ rest in
      let l : LBox (box type content ++ rest) ≡ 8 + m = rw front-is (lbox type m x small known) in
      let t : TBox (box type content ++ rest) ≡ number_of type = rw front-is (tbox type m x small known) in
      let h : length_of_header (box type content ++ rest) ≡ 8 = rw front-is (header_is type m x small known) in
      let b : box_length (box type content ++ rest) ≡ 8 + m = rw front-is (long type m x small known) in
      let s : length (box type content ++ rest) ≡ 8 + m + length rest = simp (length-append, length-box) in
      rw (l, t, h, b, s, content-is, rest-is) (sym (row 6 _ (omega arith) refl))
