-- The loop over the boxes of a file: what is left to split and run has the result of the whole.
-- Assumes nothing.
use Prim.Native.Nat.{ℕ, ◌+◌, ◌-◌, ◌≤◌, ◌<◌}
use native.Mathlib.Omega.{arith}
use mathlib.Core.Path.{◌≡◌, refl, sym, ap, ◌∙◌}
use mathlib.Core.List.{List}
use Rattle.std.specs.Prelude.{Option, Some, None}
use lib.ListN.{length, take, drop, length-drop}
use Rattle.box_number.proofs.Rows.{row}
use Rattle.box_number.proofs.Numbers.{rest-is}
use Rattle.box_header.proofs.Headers.{header-least}
use Rattle.box_header.specs.Box.{largest}
use Rattle.box_header.specs.declared.Jp2BoxHeader.{Jp2BoxHeader}
use Rattle.box_kind.specs.declared.Jp2BoxType.TheVariants.{JP2C}
use Rattle.read_record.specs.declared.Jp2.{Jp2}
use Rattle.read_record.specs.Answer.{accepted, refused}
use Rattle.read_jp2h.specs.Split.{first_box, boxes}
use Rattle.read_file.specs.declared.Found.{Found}
use Rattle.read_file.specs.declared.Found.TheVariants.{Codestream, Short, Past, Whole}
use Rattle.read_rules.specs.File.{Walked, ended, file_refused, stream, past_end, outer, run, walk}
use Rattle.read_file.specs.Private.Turn.{found, Heads, box_at}
use Rattle.read_file.proofs.Turns.{heads_long, Tells, found-tells}

-- c, at a place of the file, is what is left: run from the record k its result is w
pub record Going (w : Walked) (at : ℕ) (c : List ℕ) (k : Jp2) : Type 0 where
  pub room : at + length c ≤ largest
  pub same : run (boxes at c) k ≡ w

pub going_start : (f : List ℕ) (j : Jp2) → length f ≤ largest → Going (run (boxes 0 f) j) 0 f j
going_start f j h = record { room = omega arith; same = refl }

module _ {w : Walked} {at : ℕ} {c : List ℕ} {k : Jp2} (going : Going w at c k) where
  -- the result of the walk is that of the boxes of c
  runs_to : {v : Walked} → run (boxes at c) k ≡ v → v ≡ w
  runs_to h = sym h ∙ going.same

  module _ {r : Option Found} (e : r ≡ found c) where
    pub going_none : r ≡ None → ended k ≡ w
    going_none f = runs_to (found-tells at c k e f)

    tells : {g f : Found} → r ≡ Some g → g ≡ f → Tells at c k (Some f)
    tells s f = found-tells at c k e (s ∙ ap Some f)

    pub going_header : {g : Found} {m : ℕ} → r ≡ Some g → g ≡ Codestream m → m ≤ length c
    going_header s f = (tells s f).0

    pub going_stream : {g : Found} {m : ℕ} → r ≡ Some g → g ≡ Codestream m → stream (box_at JP2C at (at + m)) k ≡ w
    going_stream s f = runs_to (tells s f).1

    pub going_short : {g : Found} → r ≡ Some g → g ≡ Short → file_refused 3 at ≡ w
    going_short s f = runs_to (tells s f)

    pub going_past : {g : Found} {h : Jp2BoxHeader} → r ≡ Some g → g ≡ Past h → past_end (box_at h.ty at 0) k ≡ w
    going_past s f = runs_to (tells s f)

    module _ {g : Found} {h : Jp2BoxHeader} (s : r ≡ Some g) (f : g ≡ Whole h) where
      pub going_heads : Heads at c h
      going_heads = let t = tells s f in record { same = t.0; least = t.1; most = t.2; room = going.room }

      pub going_fits : (8 ≤ h.length) × (h.length ≤ length c)
      going_fits = let p = going_heads in omega (arith, header-least c, heads_long p, p.least, p.most)

      -- n is how far the next box is from this one
      pub going_less : {n : ℕ} → n ≡ 0 + h.length → length (take (length c - n) (drop n c)) < length c
      going_less {n} z = let q = going_fits in rw (rest-is c n, length-drop) (omega arith)

      pub going_down : {number place : ℕ} → refused number place ≡ outer (first_box at c) k → file_refused number place ≡ w
      going_down d = runs_to ((tells s f).3 ∙ rw (sym d))

      pub going_on : {m : Jp2} {n i : ℕ} → accepted m ≡ outer (first_box at c) k → n ≡ 0 + h.length → i ≡ at + h.length → Going w i (take (length c - n) (drop n c)) m
      going_on {m} {n} {i} d q p =
          let z : n ≡ h.length = omega arith in
          let y = going_fits in
          rw (rest-is c n, z, p)
          (record {
            room = rw length-drop (omega (arith, going.room));
            same = rw (heads_long going_heads) (rw (sym d) at (sym (tells s f).3 ∙ going.same));
          })

-- the way through the walk
pub walks : (f : List ℕ) (j : Jp2) {w : Walked} → length f ≤ largest → w ≡ run (boxes 0 f) j → w ≡ walk f j
unfolding walk
walks f j h e = row 1 _ (h, tt) e
