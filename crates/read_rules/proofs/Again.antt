-- A list that was read from a box is read again from the file at that place, up to the file's end.
-- Assumes nothing.
use Prim.Native.Nat.{ℕ, zero, suc, ◌+◌, ◌*◌, ◌^◌, ◌≤◌, ◌<◌}
use mathlib.Core.Path.{◌≡◌, refl, sym}
use mathlib.Core.List.{List}
use native.Mathlib.Nat.{zero-add, pow-suc}
use native.Mathlib.Omega.{arith}
use lib.ListN.{length, get_or, drop, length-drop}
use lib.Seq.{get_or-drop}
use Rattle.box_number.specs.Number.{number}
use Rattle.box_number.proofs.Rows.{row}
use Rattle.read_record.specs.declared.Jp2.{Jp2}
use Rattle.read_record.specs.Record.{span, palette, with_pclr, with_cmap, with_cdef}
use Rattle.read_record.specs.Answer.{accepted}
use Rattle.read_palette.specs.Pclr.{NE, NPC, row_bytes, pclr}
use Rattle.read_channels.specs.Cmap.{cmap}
use Rattle.read_channels.specs.Cdef.{N, cdef}
use Rattle.read_rules.proofs.Sames.{Same, within, shorter, number_same, row_same}
use Rattle.read_rules.proofs.Parts.{Lies}

pub number_bound : (f : List ℕ) (at n : ℕ) → ((i : ℕ) → get_or f i 0 < 256) → number f at n < 256 ^ n
unfolding number
number_bound f at zero b = omega arith
number_bound f at (suc n) b = rw pow-suc (omega (arith, number_bound f at n b, b (at + n)))

module _ {f : List ℕ} {start : ℕ} {c : List ℕ} (lies : Lies f start c) where
  -- a number of the content is no more than its bytes can hold
  pub number-most : (i n : ℕ) → ((i : ℕ) → get_or f i 0 < 256) → i + n ≤ length c → number c i n < 256 ^ n
  number-most i n b h = let e : number c i n ≡ number f (start + i) n = rw zero-add at (number_same n (within lies.same i n h)) in rw e (number_bound f (start + i) n b)

  longer : length c ≤ length (drop start f)
  longer = omega (arith, length-drop start f, lies.within)

  -- the content, and all bytes from its place on
  begins : Same c 0 (drop start f) 0 (length c)
  begins = record { byte = λ i l. rw (zero-add, get_or-drop start f i 0) (sym (rw zero-add at (lies.same.byte i l))) }

  pub cdef-again : (s : ℕ) → s ≡ start → 1 ≤ N c → 2 + 6 * N c ≤ length c → (place : ℕ) (k : Jp2) → k.lists.cdef.count ≡ 0 → cdef place s (drop s f) k ≡ accepted (with_cdef (span (start + 2) (N c)) k)
  unfolding cdef
  cdef-again s e some room place k z =
      let n : N (drop start f) ≡ N c = number_same 2 (shorter begins 2 (omega arith)) in
      let l = longer in
      rw (e, n) (sym (row 4 _ (omega arith) refl))

  pub pclr-again : (s : ℕ) → s ≡ start → 1 ≤ NE c → NE c ≤ 1024 → 1 ≤ NPC c → 3 + NPC c + NE c * row_bytes c 3 (NPC c) ≤ length c → (place : ℕ) (k : Jp2) → k.lists.pclr.columns ≡ 0 → pclr place s (drop s f) k ≡ accepted (with_pclr (palette (start + 3) (NE c) (NPC c)) k)
  unfolding pclr
  pclr-again s at some most columns room place k z =
      let d = drop start f in
      let e : NE d ≡ NE c = number_same 2 (shorter begins 2 (omega arith)) in
      let n : NPC d ≡ NPC c = number_same 1 (within begins 2 1 (omega arith)) in
      let w : row_bytes d 3 (NPC c) ≡ row_bytes c 3 (NPC c) = row_same (NPC c) (within begins 3 (NPC c) (omega arith)) in
      let l = longer in
      rw (at, e, n, w) (sym (row 4 _ (omega arith) refl))

  pub cmap-again : (n : ℕ) → (n ≡ 0 → ⊥) → 4 * n ≤ length c → (place : ℕ) (k : Jp2) → k.lists.pclr.columns ≡ n → k.lists.cmap.count ≡ 0 → cmap place start (drop start f) k ≡ accepted (with_cmap (span start n) k)
  unfolding cmap
  cmap-again n some room place k e z =
      let l = longer in
      sym (row 3 _ (omega arith) (rw e refl))
